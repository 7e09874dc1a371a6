use mathlib.Core.Path.{◌≡◌, sym}
use mathlib.Core.Logic.{⊎_elim}
use mathlib.Core.List.{List, []}
use Prim.Native.Nat.{ℕ, ◌+◌, ◌-◌, ◌≤◌, ◌<◌}
use native.Mathlib.Nat.{eq-or-lt_of_le}
use native.Mathlib.Omega.{arith}
use lib.ListN.{length, get_or}
use Rattle.sheet_format.specs.Check.{cells_of}
use Rattle.sheet_format.specs.SheetLaws.{length-cells_of}
use Rattle.cells.specs.Word.{Packs}
use Rattle.cells.specs.Find.{Steps, Rising, FindsWord}
use Rattle.std.specs.Prelude.{Some}
use Rattle.cells.proofs.Words.{packs-at, words-before, words_same}
use Rattle.cells.proofs.Bracket.{bracket-start, bracket-down, bracket-up, bracket-end}
use Rattle.cells.proofs.face.find.Invariants.{Invariant}
use Rattle.cells.proofs.face.find.Goals as goal
use Rattle.cells.proofs.face.find.Goals.{Start, In-loop-lo, After-word-other, else-from-section, then-from-section}

-- after a look at cell mid, whose word is w
module _ {s : List ℕ} {word at n many lo hi mid step : ℕ} (inv : Invariant s word at n many lo hi mid step) (rising : Rising (cells_of s n many at))
    (left : lo < hi) {w : ℕ} (packs : Packs n (get_or (cells_of s n many at) mid []) w) where
  inside : (lo ≤ mid) × (mid < hi)
  inside = inv.between left

  sized : length (cells_of s n many at) ≡ many
  sized = length-cells_of s n many at

  here : word ≡ w → FindsWord n word (cells_of s n many at) (Some mid)
  here e d h = (omega (arith, sized, inside.1, inv.within), words_same packs h (sym e))

  down : word < w → {r : ℕ} → Steps (mid - lo) r → Invariant s word at n many lo mid (mid - r) r
  down l {r} steps = record {
    ordered = inside.0;
    within = omega (arith, inside.1, inv.within);
    between = λ m. (omega (arith, steps.within, inside.0), omega (arith, steps.some_left (omega arith)));
    small = omega (arith, steps.within, inside.1, inv.within);
    brackets = λ d h. bracket-down sized (inv.brackets d h) rising mid inside.0 inside.1 (words-before h packs l);
  }

  up : w < word → {r : ℕ} → Steps (hi - (mid + 1)) r → Invariant s word at n many (mid + 1) hi (mid + 1 + r - 1) r
  up l {r} steps = record {
    ordered = omega (arith, inside.1);
    within = inv.within;
    between = λ m. (omega (arith, steps.some_left (omega arith)), omega (arith, steps.within, steps.some_left (omega arith)));
    small = omega (arith, steps.within, inv.within);
    brackets = λ d h. bracket-up sized (inv.brackets d h) rising mid inside.0 inside.1 (words-before packs h l);
  }

pub loop-lo-init : goal.loop-lo-init
loop-lo-init c =
    let a = c.args in record {
      ordered = omega arith;
      within = omega arith;
      between = λ l. (omega arith, elim c.if-from-section.branch [ then-from-section w ↦ omega (arith, w.if-from-section.true, w.mid-is) | else-from-section w ↦ omega (arith, w.mid-is) ]);
      small = omega arith;
      brackets = λ d h. bracket-start d (cells_of a.s.now a.section.vertices a.section.many a.section.at) a.section.many;
    }

-- mid is a place of the section
placed : (c : In-loop-lo) → (c.loop-lo.lo ≤ c.loop-lo.mid) × (c.loop-lo.mid < c.loop-lo.hi)
placed c = c.loop-lo.invariant.between c.loop-lo-test.true

pub word-other-requires : goal.word-other-requires
word-other-requires c = omega (arith, placed c)

module _ (c : After-word-other) where
  abbrev turn : In-loop-lo
  turn = (goal.at.After-word-other c).In-loop-lo

  abbrev start : Start
  start = (goal.at.In-loop-lo turn).Start

  packs-mid : let a = start.args in Packs a.section.vertices (get_or (cells_of a.s.now a.section.vertices a.section.many a.section.at) turn.loop-lo.mid []) c.word-other.result
  packs-mid =
      let a = start.args in
      packs-at a.s.now a.section.at a.section.vertices a.section.many turn.loop-lo.mid c.word-other.result (omega (arith, placed turn)) c.word-other.ensures

pub returns-then-word-other : goal.returns-then-word-other
returns-then-word-other c = let r = (goal.at.returns-then-word-other c).After-word-other in here (turn r).loop-lo.invariant (start r).requires (turn r).loop-lo-test.true (packs-mid r) c.if-word-other.true

pub overflow_sub-hi : goal.overflow_sub-hi
overflow_sub-hi c = (placed (turn (goal.at.overflow_sub-hi c).After-word-other)).0

pub farther-step-requires : goal.farther-step-requires
farther-step-requires c = omega (arith, placed (turn (goal.at.farther-step-requires c).After-word-other))

pub overflow_sub-mid : goal.overflow_sub-mid
overflow_sub-mid c = omega (arith, c.farther-step.ensures.within)

pub loop-lo-smaller-then-word-other-2 : goal.loop-lo-smaller-then-word-other-2
loop-lo-smaller-then-word-other-2 c = omega (arith, placed (turn (goal.at.loop-lo-smaller-then-word-other-2 c).After-word-other))

pub loop-lo-preserved-then-word-other-2 : goal.loop-lo-preserved-then-word-other-2
loop-lo-preserved-then-word-other-2 c =
    let r = (goal.at.loop-lo-preserved-then-word-other-2 c).After-word-other in
    down (turn r).loop-lo.invariant (start r).requires (turn r).loop-lo-test.true (packs-mid r) (omega arith) c.farther-step.ensures

pub overflow_add-lo : goal.overflow_add-lo
overflow_add-lo c = omega (arith, placed (turn (goal.at.overflow_add-lo c).After-word-other))

pub overflow_sub-hi-else-word-other-2 : goal.overflow_sub-hi-else-word-other-2
overflow_sub-hi-else-word-other-2 c = omega (arith, placed (turn (goal.at.overflow_sub-hi-else-word-other-2 c).After-word-other))

pub farther-step-requires-else-word-other-2 : goal.farther-step-requires-else-word-other-2
farther-step-requires-else-word-other-2 c = omega (arith, placed (turn (goal.at.farther-step-requires-else-word-other-2 c).After-word-other))

pub overflow_add-mid : goal.overflow_add-mid
overflow_add-mid c = omega (arith, placed (turn (goal.at.overflow_add-mid c).After-word-other), c.farther-step-else-word-other-2.ensures.within)

pub loop-lo-smaller : goal.loop-lo-smaller
loop-lo-smaller c = omega (arith, placed (turn (goal.at.loop-lo-smaller c).After-word-other))

pub loop-lo-preserved : goal.loop-lo-preserved
loop-lo-preserved c =
    let r = (goal.at.loop-lo-preserved c).After-word-other in
    up (turn r).loop-lo.invariant (start r).requires (turn r).loop-lo-test.true (packs-mid r)
    (⊎_elim (λ e. absurd (c.if-word-other.false (sym e))) (λ l. l) (eq-or-lt_of_le c.if-word-other-2.false)) c.farther-step-else-word-other-2.ensures

pub returns : goal.returns
returns c d h =
    let a = c.args in
    bracket-end (length-cells_of a.s.now a.section.vertices a.section.many a.section.at) (c.loop-lo.invariant.brackets d h) c.loop-lo-test.false
