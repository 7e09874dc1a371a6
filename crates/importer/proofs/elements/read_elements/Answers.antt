-- `read_elements` meets its contract: the titles, the count and the lines are read one after another.
use mathlib.Core.Path.{refl}
use Rattle.mesh_format.specs.Words.{elements_name, opening, ending}
use Rattle.mesh_format.specs.Parse.{title_line, count_line, element_lines, elements_of}
use Rattle.mesh_words.proofs.Steps.{fails, goes, from, failed-from}
use Rattle.mesh_words.proofs.Told.{Moved, read-none, read-moved, skipped-none, skipped-moved}
use Rattle.importer.proofs.elements.read_elements.Goals as goal
use Rattle.importer.proofs.elements.read_elements.Goals.{In_ok-titled, In_ok-n, In_ok-outcome}

pub returns-in_err-titled : goal.returns-in_err-titled
unfolding elements_of
returns-in_err-titled c = rw c.from_residual.ensures (record { limit = refl; tells = fails _ (skipped-none _ c.in_err-titled.ensures) })

-- the title, the count and the lines, where they are read
title : (c : In_ok-titled) → Moved (title_line (opening elements_name) c.args.r.text.now c.args.r.at) tt c.args.r c.in_ok-titled.titled
title c = skipped-moved _ c.in_ok-titled.ensures

pub returns-in_err-n : goal.returns-in_err-n
unfolding elements_of
returns-in_err-n c =
    let t = title (goal.at.returns-in_err-n c).In_ok-titled in
    rw c.from_residual-in_err-n.ensures (record {
      limit = refl;
      tells = goes _ t.is (fails _ (failed-from count_line c.args.r t.same (read-none _ c.in_err-n.ensures)));
    })

number : (c : In_ok-n) → Moved (count_line c.args.r.text.now c.in_ok-titled.titled.at) c.in_ok-n.n c.args.r c.in_ok-n.lines
number c = from count_line c.args.r (title (goal.at.In_ok-n c).In_ok-titled).same (read-moved _ c.in_ok-n.ensures)

pub returns-in_err-outcome : goal.returns-in_err-outcome
unfolding elements_of
returns-in_err-outcome c =
    let k = (goal.at.returns-in_err-outcome c).In_ok-n in
    let t = title (goal.at.In_ok-n k).In_ok-titled in
    let n = number k in
    rw c.from_residual-in_err-outcome.ensures (record {
      limit = c.in_err-outcome.ensures.limit;
      tells = goes _ t.is (goes _ n.is (fails _ (failed-from (element_lines c.in_ok-n.n) c.args.r n.same c.in_err-outcome.ensures.tells)));
    })

pub returns-in_err-end : goal.returns-in_err-end
unfolding elements_of
returns-in_err-end c =
    let o = (goal.at.returns-in_err-end c).In_ok-outcome in
    let k = (goal.at.In_ok-outcome o).In_ok-n in
    let t = title (goal.at.In_ok-n k).In_ok-titled in
    let n = number k in
    let lines = c.in_ok-outcome.ensures.tells in
    let m = from (element_lines c.in_ok-n.n) c.args.r n.same (record { is = lines.is; same = lines.same }) in
    rw c.from_residual-in_err-end.ensures (record {
      limit = c.in_ok-outcome.ensures.limit;
      tells = goes _ t.is (goes _ n.is (goes _ m.is (fails _ (failed-from (title_line (ending elements_name)) c.args.r m.same (skipped-none _ c.in_err-end.ensures)))));
    })

pub returns : goal.returns
unfolding elements_of
returns c =
    let o = (goal.at.returns c).In_ok-outcome in
    let k = (goal.at.In_ok-outcome o).In_ok-n in
    let t = title (goal.at.In_ok-n k).In_ok-titled in
    let n = number k in
    let lines = c.in_ok-outcome.ensures.tells in
    let m = from (element_lines c.in_ok-n.n) c.args.r n.same (record { is = lines.is; same = lines.same }) in
    let end = from (title_line (ending elements_name)) c.args.r m.same (skipped-moved _ c.in_ok-end.ensures) in
    record {
      limit = c.in_ok-outcome.ensures.limit;
      tells = record { read = lines.read; is = goes _ t.is (goes _ n.is (goes _ m.is (goes _ end.is refl))); same = end.same; gathers = lines.gathers };
    }
