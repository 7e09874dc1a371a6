-- `add` meets its contract: a cell inserted into a section is its word inserted into the section's words.
use borrow.Author.Rules.{rules}
use mathlib.Core.Path.{◌≡◌}
use Prim.Native.Nat.{suc, ◌+◌, ◌-◌, ◌*◌, ◌≤◌}
use native.Mathlib.Omega.{arith}
use lib.ListN.{length}
use Rattle.std.proofs.lemmas.Result.{err_from_is_err_and}
use Rattle.closures.specs.Closure.{element_top}
use Rattle.cell_sets.specs.declared.set.CellSet.{CellSet}
use Rattle.cell_sets.proofs.Sets.{put-rise, kept-rise, adds, adds_none}
use Rattle.cell_sets.proofs.set.CellSet.add.Goals as goal
use Rattle.cell_sets.proofs.set.CellSet.add.Goals.{Start, After-insert_word}

module _ (c : Start) where
  abbrev set : CellSet
  set = c.args.self.now

  room : suc element_top * set.limit ≤ length set.words
  room = search rules

  sized : length set.counts ≡ suc element_top
  sized = search rules

  part : c.args.p * set.limit + set.limit - c.args.p * set.limit ≡ set.limit
  part = omega arith

pub invariant_of-self : goal.invariant_of-self
invariant_of-self c =
    let start = (goal.at.invariant_of-self c).Start in
    record { small = c.args.self.now.small; rise = kept-rise c.args.self.now (room start) (sized start) c.args.p c.requires _ (part start) c.in_err-self.ensures }

pub returns-in_err-self-clause-adds : goal.returns-in_err-self-clause-adds
returns-in_err-self-clause-adds c K d h k =
    let start = (goal.at.returns-in_err-self-clause-adds c).Start in
    let p = err_from_is_err_and c.from_residual.result c.from_residual.ensures.1 in
    rw p.1 (adds_none c.args.self.now (room start) (sized start) c.args.p c.requires _ (part start) h k c.in_err-self.ensures _ _)

pub invariant_of-self-2 : goal.invariant_of-self-2
invariant_of-self-2 c =
    let start = (goal.at.invariant_of-self-2 c).Start in
    record { small = c.args.self.now.small; rise = put-rise c.args.self.now (room start) (sized start) c.args.p c.requires _ (part start) c.in_ok-self.ensures }

pub returns-clause-adds : goal.returns-clause-adds
returns-clause-adds c K d h k =
    let start = (goal.at.returns-clause-adds c).Start in
    adds c.args.self.now (room start) (sized start) c.args.p c.requires _ (part start) h k c.in_ok-self.ensures _ _
