-- `add_element` meets its contract, by the check of the element and the outcome so far.
use mathlib.Core.Path.{refl, ap}
use Rattle.std.proofs.lemmas.Result.{err_from_is_err_and}
use Rattle.refusal.specs.Number.{number_of}
use Rattle.node_maps.specs.Map.{in_map}
use Rattle.importer.proofs.Gathering.{adds-faulty, adds-cell, adds_none, adds-after}
use Rattle.importer.proofs.gather.add_element.Goals as goal

pub returns-in_err-dimension : goal.returns-in_err-dimension
returns-in_err-dimension c =
    let e = err_from_is_err_and c.from_residual.result c.from_residual.ensures.1 in
    let a = c.args in
    record {
      limit = refl;
      adds =
          rw (e.1, e.2)
          (adds-faulty a.cells.now.limit (in_map a.map.now.bytes) a.element a.cells.now a.cells.now c.in_err-dimension.field-0.0 a.before
          c.in_err-dimension.ensures);
    }

pub returns-in_err-before : goal.returns-in_err-before
returns-in_err-before c =
    let e = err_from_is_err_and c.from_residual-in_err-before.result c.from_residual-in_err-before.ensures.1 in
    let a = c.args in
    record {
      limit = refl;
      adds =
          rw (e.1, e.2, c.in_err-before.was)
          (adds-after a.cells.now.limit (in_map a.map.now.bytes) a.element a.cells.now a.cells.now (c.in_ok-dimension.dimension, c.in_ok-dimension.word)
          c.in_ok-dimension.ensures c.in_err-before.field-0.0);
    }

pub add-requires : goal.add-requires
add-requires c = c.in_ok-dimension.ensures.dimension-is

pub returns-in_err-add : goal.returns-in_err-add
returns-in_err-add c =
    let e = err_from_is_err_and c.from_residual-in_err-add.result c.from_residual-in_err-add.ensures.1 in
    let a = c.args in
    record {
      limit = c.add.ensures.limit;
      adds =
          rw (e.1, c.in_ok-before.was)
          (adds_none a.cells.now.limit (in_map a.map.now.bytes) a.element a.cells.now c.add.new.self (c.in_ok-dimension.dimension, c.in_ok-dimension.word)
          c.in_ok-dimension.ensures c.in_err-add.ensures.adds refl e.0 (ap number_of e.2));
    }

pub returns : goal.returns
returns c =
    let a = c.args in
    record {
      limit = c.add.ensures.limit;
      adds =
          rw c.in_ok-before.was
          (adds-cell a.cells.now.limit (in_map a.map.now.bytes) a.element a.cells.now c.add.new.self (c.in_ok-dimension.dimension, c.in_ok-dimension.word)
          c.in_ok-dimension.ensures c.in_ok-add.ensures.adds);
    }
