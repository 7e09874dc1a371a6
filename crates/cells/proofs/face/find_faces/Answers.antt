use mathlib.Core.Path.{◌≡◌, sym, ap, subst, ◌∙◌}
use mathlib.Core.Bool.{Bool, true, false, not, true≢false}
use mathlib.Core.List.{List}
use Prim.Native.Nat.{ℕ, suc, ◌+◌, ◌-◌, ◌≤◌, ◌<◌}
use native.Mathlib.Omega.{arith}
use native.Mathlib.Decide.{ℕ_discrete}
use native.Mathlib.Numerals.{add-one}
use lib.ListN.{length, get_or, set, length-set}
use lib.Seq.{get_or-set_same, get_or-set_other}
use Rattle.complexes.specs.Cell.{Cell, without, listed}
use Rattle.sheet_format.specs.Layout.{top}
use Rattle.sheet_format.specs.Check.{cell_of, cells_of}
use Rattle.sheet_format.specs.CheckLaws.{some_at, some-false}
use Rattle.cells.specs.Word.{Packs, LeavesOut}
use Rattle.cells.specs.Find.{Finds, FindsFaces}
use Rattle.std.specs.Prelude.{Option, Some, None}
use Rattle.cells.proofs.Bracket.{finds-listed}
use Rattle.cells.proofs.face.find_faces.Invariants.{Invariant}
use Rattle.cells.proofs.face.find_faces.Goals as goal
use Rattle.cells.proofs.face.find_faces.Goals.{Start, At-loop-j, After-find}

more : {c : Cell} {l : List Cell} {j : ℕ} {places : List ℕ} → Invariant c l j places → j < suc top → (i : ℕ) → Finds (without j c) l (Some i)
    → Invariant c l (j + 1) (set places j i)
more {c} {l} {j} {places} inv inside i h = record { sized = length-set places j i ∙ inv.sized; placed = λ k m. pick k m (ℕ_discrete k j) }
  where
    pick : (k : ℕ) → k < j + 1 → Dec (k ≡ j) → Finds (without k c) l (Some (get_or (set places j i) k 0))
    pick k m (yes e) = rw (e, get_or-set_same places j i 0 (omega (arith, inv.sized))) h
    pick k m (no d) = rw (get_or-set_other places j k i 0 d) (inv.placed k (omega arith))

-- the word of face j of a cell of n + 1 vertices
face-packs : (n j : ℕ) (c : Cell) (w r : ℕ) → j ≤ n → Packs (suc n) c w → LeavesOut (n - j) w r → Packs n (without j c) r
face-packs n j c w r l h k =
    let e : j + (n - j) ≡ n = omega arith in
    subst (λ (m : ℕ). Packs m (without j c) r) e (k j c (subst (λ (m : ℕ). Packs (suc m) c w) (sym e) h))

-- whether face j is missing
abbrev Missing : Cell → List Cell → ℕ → Bool
Missing c l j = not (listed (without j c) l)

all_found : {n : ℕ} {c : Cell} {l : List Cell} {j : ℕ} {places : List ℕ} → Invariant c l j places → suc n ≤ j
    → FindsFaces n c l true places
all_found {n} {c} {l} {j} {places} inv done = record {
  tells =
      sym ((some-false (suc n) (Missing c l)).1
      (λ k m. ap not (sym (finds-listed (without k c) l (Some (get_or places k 0)) (inv.placed k (omega arith))))));
  finds = λ e k m. inv.placed k (omega arith);
  sized = inv.sized;
}

one-missing : (n : ℕ) (c : Cell) (l : List Cell) (j : ℕ) (places : List ℕ) → j < suc n → Finds (without j c) l None
    → length places ≡ suc top → FindsFaces n c l false places
one-missing n c l j places m h sized = record {
  tells = sym (some_at (suc n) (Missing c l) j m (ap not (sym (finds-listed (without j c) l None h))));
  finds = λ e. absurd (true≢false (sym e));
  sized = sized;
}

pub loop-j-init : goal.loop-j-init
loop-j-init c = record { sized = omega arith; placed = λ k m. absurd (omega arith) }

-- what `find` tells of face j
module _ (c : After-find) where
  abbrev head : At-loop-j
  head = (goal.at.After-find c).At-loop-j

  abbrev start : Start
  start = (goal.at.At-loop-j head).Start

  abbrev n : ℕ
  n = start.args.section.vertices

  abbrev Whole : Cell
  Whole = cell_of start.args.s.now (suc n) start.args.a

  abbrev Among : List Cell
  Among = cells_of start.args.s.now n start.args.section.many start.args.section.at

  abbrev face : Cell
  face = without head.loop-j.j Whole

  packs : Packs n face c.leave_out-face.result
  packs = face-packs n head.loop-j.j Whole head.pack-cell.result c.leave_out-face.result (omega arith)
      (rw (add-one n) at head.pack-cell.ensures) c.leave_out-face.ensures

  told : (r : Option ℕ) → c.find.result ≡ r → Finds face Among r
  told r e = subst (Finds face Among) e (c.find.ensures face packs)

pub returns-in_default : goal.returns-in_default
returns-in_default c =
    let r = (goal.at.returns-in_default c).After-find in
    one-missing (start r).args.section.vertices (Whole r) (Among r) (head r).loop-j.j (head r).loop-j.places (omega arith) (told r None c.in_default.is)
    (head r).loop-j.invariant.sized

pub loop-j-preserved : goal.loop-j-preserved
loop-j-preserved c =
    let r = (goal.at.loop-j-preserved c).After-find in
    more (head r).loop-j.invariant (omega arith) c.in-Some.i (told r (Some c.in-Some.i) c.in-Some.is)

pub returns-in-Some : goal.returns-in-Some
returns-in-Some c =
    let r = (goal.at.returns-in-Some c).After-find in
    all_found (more (head r).loop-j.invariant (omega arith) c.in-Some.i (told r (Some c.in-Some.i) c.in-Some.is)) (omega arith)
