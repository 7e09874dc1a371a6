-- `read_head` meets its contract, step by step.
use mathlib.Core.Path.{refl, sym, ap, ◌∙◌}
use Rattle.mesh_format.specs.Words.{mesh_format_name, opening, ending}
use Rattle.mesh_format.specs.Parse.{title_line, format_line, sections, head_of}
use Rattle.mesh_words.specs.Tells.{tell_skipped}
use Rattle.mesh_words.specs.declared.reader.Reader.{Reader}
use Rattle.mesh_words.proofs.Steps.{fails, goes, from, failed-from}
use Rattle.mesh_words.proofs.Told.{Moved, skipped-none, skipped-moved, skipped-fails, skipped-from}
use Rattle.mesh_reader.proofs.head.read_head.Goals as goal
use Rattle.mesh_reader.proofs.head.read_head.Goals.{Start, In_ok-format}

-- the reader at the start
abbrev start : (c : In_ok-format) → Reader
start c = record { text = c.args.text; at = 0 }

pub returns-in_err-format : goal.returns-in_err-format
unfolding head_of
returns-in_err-format c =
    let o = c.open.ensures in let e = rw (o.0, o.1) at (skipped-none _ c.in_err-format.ensures) in
    c.from_residual.ensures ∙ skipped-fails _ (fails _ e)

-- the line `$MeshFormat` is read
first : (c : In_ok-format) → Moved (title_line (opening mesh_format_name) c.args.text.now 0) tt (start c) c.in_ok-format.format
first c =
    let o = c.open.ensures in let m = skipped-moved _ c.in_ok-format.ensures in
    record { is = rw (o.0, o.1) at m.is; same = m.same ∙ o.0 }

pub returns-in_err-format_end : goal.returns-in_err-format_end
unfolding head_of
returns-in_err-format_end c =
    let k = (goal.at.returns-in_err-format_end c).In_ok-format in let a = first k in
    c.from_residual-in_err-format_end.ensures
    ∙ skipped-fails _ (goes _ a.is (fails _ (failed-from format_line (start k) a.same (skipped-none _ c.in_err-format_end.ensures))))

pub returns-in_err-the_title : goal.returns-in_err-the_title
unfolding head_of
returns-in_err-the_title c =
    let k = (goal.at.returns-in_err-the_title c).In_ok-format in let a = first k in
    let b = from format_line (start k) a.same (skipped-moved _ c.in_ok-format_end.ensures) in
    c.from_residual-in_err-the_title.ensures
    ∙ skipped-fails _ (goes _ a.is (goes _ b.is
    (fails _ (failed-from (title_line (ending mesh_format_name)) (start k) b.same (skipped-none _ c.in_err-the_title.ensures)))))

pub returns : goal.returns
unfolding head_of
returns c =
    let k = (goal.at.returns c).In_ok-format in let a = first k in
    let b = from format_line (start k) a.same (skipped-moved _ c.in_ok-format_end.ensures) in
    let d = from (title_line (ending mesh_format_name)) (start k) b.same (skipped-moved _ c.in_ok-the_title.ensures) in
    c.pass_sections.ensures ∙ skipped-from sections (start k) _ d.same
    ∙ sym (ap (tell_skipped (start k)) (goes _ a.is (goes _ b.is (goes _ d.is refl))))
