-- `scans::remainder::first_indivisible` meets its contract: `find` answers the first row below row k whose entries the pivot does not all divide.
use mathlib.Core.Path.{◌≡◌, sym, ap, ◌∙◌}
use Prim.Native.Nat.{suc, ◌-◌}
use lib.IntN.{ℤ, pos}
use mir.Syntax.{w64}
use mathlib.Core.Bool.{true, false}
use Rattle.std.proofs.Common.{rules}
use Rattle.std.proofs.lemmas.Iterator.{first_from_Range}
use Rattle.reduction_steps.specs.Step.{row_indivisible, first_indivisible}
use Rattle.matrix_lines.specs.Matrices.{contents}
use Rattle.machine_words.specs.Read.{of-bits}
use Rattle.scans.proofs.Tests.{row-answer, first_row, first_indivisible-one}
use Rattle.scans.proofs.remainder.first_indivisible.Goals as goal
use Rattle.scans.proofs.remainder.first_indivisible.Goals.{Start}

pub returns-then-d-eq1 : goal.returns-then-d-eq1
returns-then-d-eq1 c =
    let s = (goal.at.returns-then-d-eq1 c).Start in
    let A = contents s.args.m s.args.w.now in
    let k = s.args.k in
    let e = c.entry-d in
    let one : A k k ≡ pos 1 = sym e.ensures ∙ of-bits {w = w64} (record { sfits = e.type_inv }) c.if-d-eq1.true in
    sym (ap (λ (z : ℤ). first_indivisible A z (suc k) (s.args.m.width - suc k) (s.args.m.lines - suc k) (suc k)) one
    ∙ first_indivisible-one A (suc k) (s.args.m.width - suc k) (s.args.m.lines - suc k) (suc k))

pub returns : goal.returns
returns c =
    let s = (goal.at.returns c).Start in
    let A = contents s.args.m s.args.w.now in
    let k = s.args.k in
    let e = c.entry-d in
    first_row A (A k k) k (s.args.m.width - suc k) s.args.m.lines s.requires.k_lt_lines.0 c.find.result
    (first_from_Range _ _ _ c.find.result (λ i. row_indivisible A (A k k) i (s.args.m.width - suc k) (suc k) ≡ true) (λ i. row_indivisible A (A k k) i (s.args.m.width - suc k) (suc k) ≡ false) c.find.ensures.ran
    (λ x q h. row-answer A x k s.args.m.width (A k k) e.result true (record { sfits = e.type_inv }) e.ensures (search rules))
    (λ x q h. (search rules fits 4000, row-answer A x k s.args.m.width (A k k) e.result false (record { sfits = e.type_inv }) e.ensures (search rules))))
