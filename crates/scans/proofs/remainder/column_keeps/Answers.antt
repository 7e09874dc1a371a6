-- `scans::remainder::column_keeps` meets its contract: the entries below row k are tested one after another.
use Rattle.std.proofs.Common.{◌∙◌, sym, refl, rules, ℕ, Bool}
use borrow.Author.Tests.{tests}
use Prim.Native.Nat.{suc, ◌-◌}
use native.Mathlib.Numerals.{add-one}
use mir.Syntax.{w64}
use Rattle.std.proofs.lemmas.Iterator.{YieldsList-from_range}
use Rattle.std.proofs.lemmas.Iterator.Search.{any_from_yields_List}
use Rattle.matrix_lines.specs.Matrices.{contents}
use Rattle.machine_words.specs.Read.{of-bits}
use Rattle.scans.proofs.Tests.{nonzero, any-range, column_keeps-any, column_keeps-one}
use Rattle.scans.proofs.remainder.column_keeps.Goals as goal
use Rattle.scans.proofs.remainder.column_keeps.Goals.{Start}

pub returns-then-entry-eq1 : goal.returns-then-entry-eq1
returns-then-entry-eq1 c =
    let s = (goal.at.returns-then-entry-eq1 c).Start in let e = c.entry in
    sym (column_keeps-one (contents s.args.m s.args.w.now) s.requires.k_lt_lines.0 s.requires.k_lt_lines.2 (sym e.ensures ∙ of-bits {w = w64} (record { sfits = e.type_inv }) c.if-entry-eq1.true))

pub returns : goal.returns
returns c =
    let a = c.args in
    let A = contents a.m a.w.now in
    let f : ℕ → Bool = λ b. nonzero (A b a.k) in
    any_from_yields_List f _ _ c.any.result c.any.ensures.ran (YieldsList-from_range (suc a.k) a.m.lines (a.m.lines - suc a.k) (rw add-one refl) refl)
    (λ x b q k. search (rules, tests))
    ∙ any-range f (a.m.lines - suc a.k) (suc a.k)
    ∙ sym (column_keeps-any A a.k (a.m.lines - suc a.k) (suc a.k))
