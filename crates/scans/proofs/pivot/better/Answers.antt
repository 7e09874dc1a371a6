-- `scans::pivot::better` meets its contract: the choice as `better` makes it.
use mathlib.Core.Path.{◌≡◌, ap, subst, ◌∙◌}
use lib.IntN.{ℤ, nat_abs}
use mir.Syntax.{w64}
use mir.Facts.{to_z-of_z}
use Rattle.matrix_lines.specs.Matrices.{contents}
use Rattle.machine_words.specs.Read.{read}
use Rattle.scans.specs.Scan.{choice_of, Sized, IsBest}
use Rattle.scans.proofs.Choosing.{passed, stayed, took-first, took-less}
use Rattle.scans.proofs.pivot.better.Goals as goal
use Rattle.scans.proofs.pivot.better.Goals.{Start, After-entry, After-unsigned_abs-size, In-Some}

-- the entry at the place, as it is read, and its absolute value
abbrev entry : Start → ℤ
entry s = contents s.args.m s.args.w.now s.args.i s.args.j

read_is : (c : After-entry) → read w64 c.entry.result ≡ entry (goal.at.After-entry c).Start
read_is c = to_z-of_z {w = w64} (record { sfits = c.entry.type_inv }) ∙ c.entry.ensures

size_is : (c : After-unsigned_abs-size) → c.unsigned_abs-size.result ≡ nat_abs (entry (goal.at.After-unsigned_abs-size c).Start)
size_is c = c.unsigned_abs-size.ensures.value ∙ ap nat_abs (read_is (goal.at.After-unsigned_abs-size c).After-entry)

pub returns-then-size-eq0 : goal.returns-then-size-eq0
returns-then-size-eq0 c =
    let a = (goal.at.returns-then-size-eq0 c).After-unsigned_abs-size in
    let s = (goal.at.After-unsigned_abs-size a).Start in
    (tt, passed (contents s.args.m s.args.w.now) s.args.i s.args.j (size_is a) (choice_of s.args.best) c.if-size-eq0.true)

-- the entry chosen so far
chosen : (c : In-Some) → Sized (contents c.args.m c.args.w.now) c.in-Some.chosen
chosen c = subst (IsBest (contents c.args.m c.args.w.now)) c.in-Some.is c.requires.i_lt_lines.2

pub returns-in-Some : goal.returns-in-Some
returns-in-Some c =
    let some = (goal.at.returns-in-Some c).In-Some in
    let a = (goal.at.In-Some some).After-unsigned_abs-size in
    (tt, rw c.in-Some.is (stayed (contents c.args.m c.args.w.now) c.args.i c.args.j (size_is a) (chosen some) c.if-chosen-size.true))

pub returns-in_default : goal.returns-in_default
returns-in_default c =
    let some = (goal.at.returns-in_default c).In-Some in
    let a = (goal.at.In-Some some).After-unsigned_abs-size in
    rw c.in-Some.is (took-less (contents c.args.m c.args.w.now) c.args.i c.args.j (size_is a) (chosen some) c.if-size-eq0.false c.if-chosen-size.false)

pub returns-in_default-2 : goal.returns-in_default-2
returns-in_default-2 c =
    let a = (goal.at.returns-in_default-2 c).After-unsigned_abs-size in
    rw c.in_default.is (took-first (contents c.args.m c.args.w.now) c.args.i c.args.j (size_is a) c.if-size-eq0.false)
