use mathlib.Core.Path.{◌≡◌, refl, sym, ap, subst, ◌∙◌}
use mathlib.Core.List.{List}
use Prim.Native.Nat.{ℕ, suc, ◌+◌, ◌^◌, ◌<◌, ◌≤◌}
use native.Mathlib.Numerals.{add-one}
use native.Mathlib.Omega.{arith}
use native.Mathlib.Nat as NatL
use lib.ListN.{get_or}
use lib.IntN.{ℤ, pos, nat_abs, ◌+ℤ◌, ◌*ℤ◌}
use mir.Syntax.{w32, w64}
use mir.Val.{SFits}
use Rattle.sheet_format.specs.Layout.{top}
use Rattle.matrices.specs.Sum.{sum}
use Rattle.complexes.specs.Boundary.{sign}
use Rattle.integers.specs.Slot.{slot}
use Rattle.matrix_lines.specs.Slice.{entry_limit, Small}
use Rattle.machine_words.specs.Read.{read, read-entry, entry-fits, cast_fits}
use Rattle.machine_words.proofs.Sum.{term_fits, sum_fits, sum_is}
use Rattle.faces.proofs.Signs.{sign-unit}
use Rattle.boundaries.proofs.Products.{signed, signed-sum-small}
use Rattle.boundaries.proofs.product.line_product.Invariants.{Invariant}
use Rattle.boundaries.proofs.product.line_product.Goals as goal
use Rattle.boundaries.proofs.product.line_product.Goals.{Start, At-loop-t, Then-t-faces, then-t-faces, else-t-faces}

module _ {w : List ℤ} {line : ℕ} {places : List ℕ} {faces t : ℕ} {total : ℤ} (inv : Invariant w line places faces t total) (small : Small w)
    (more : t < faces) (few : faces ≤ suc top) (r : ℤ) (r-is : r ≡ sign t) where
  abbrev x : ℤ
  x = slot w (line + get_or places t 0)

  x-small : nat_abs x ≤ entry_limit
  x-small = small.bound (line + get_or places t 0)

  read_small : nat_abs (read w32 x) ≤ entry_limit
  read_small = rw (read-entry x x-small) x-small

  total-small : nat_abs total ≤ 2 ^ 33
  total-small = rw (inv.so_far (NatL.le_of_lt more)) (signed-sum-small w line places t small (NatL.le_trans (NatL.le_of_lt more) few))

  cast-word : SFits w64 (read w32 x)
  cast-word = cast_fits x (entry-fits x x-small)

  term-word : SFits w64 (read w64 (read w32 x) *ℤ read w64 r)
  term-word = term_fits total (read w32 x) r r-is (sign-unit t) total-small read_small

  sum-word : SFits w64 (total +ℤ read w64 (read w64 (read w32 x) *ℤ read w64 r))
  sum-word = sum_fits total (read w32 x) r r-is (sign-unit t) total-small read_small

  added_is : read w64 (total +ℤ read w64 (read w64 (read w32 x) *ℤ read w64 r)) ≡ sum (t + 1) (signed w line places)
  unfolding sum
  added_is = sum_is total (read w32 x) r r-is (sign-unit t) total-small read_small ∙ rw (read-entry x x-small, inv.so_far (NatL.le_of_lt more), add-one t)

none_yet : (w : List ℤ) (line : ℕ) (places : List ℕ) (faces : ℕ) → Invariant w line places faces 0 (pos 0)
unfolding sum
none_yet w line places faces = record { so_far = λ l. refl; all = λ l. ap (λ (n : ℕ). sum n (signed w line places)) (sym (none_left l)) }
  where
    none_left : faces ≤ 0 → faces ≡ 0
    none_left l = omega arith

-- after a turn that adds a term, and after one that adds none
with-term : {w : List ℤ} {line : ℕ} {places : List ℕ} {faces t : ℕ} {total : ℤ} → t < faces → total ≡ sum (t + 1) (signed w line places)
    → Invariant w line places faces (t + 1) total
with-term {w} {line} {places} {faces} {t} more e = record { so_far = λ l. e; all = λ l. e ∙ ap (λ (n : ℕ). sum n (signed w line places)) (omega arith) }

with_none : {w : List ℤ} {line : ℕ} {places : List ℕ} {faces t : ℕ} {total : ℤ} → faces ≤ t → Invariant w line places faces t total
    → Invariant w line places faces (t + 1) total
with_none l inv = record { so_far = λ k. absurd (omega arith); all = λ k. inv.all l }

pub loop-t-init : goal.loop-t-init
loop-t-init c = none_yet c.args.w.now c.args.line c.args.places c.args.faces

-- a turn that adds a term
module _ (c : Then-t-faces) where
  abbrev head : At-loop-t
  head = (goal.at.Then-t-faces c).At-loop-t

  abbrev start : Start
  start = (goal.at.At-loop-t head).Start

  -- the place of a face is one of the line
  inside : get_or start.args.places head.loop-t.t 0 < start.args.width
  inside = start.requires.by_index head.loop-t.t c.if-t-faces.true

pub overflow_mul-total : goal.overflow_mul-total
overflow_mul-total c =
    let turn = (goal.at.overflow_mul-total c).Then-t-faces in
    rw c.from.ensures
    (term-word (head turn).loop-t.invariant (start turn).requires.width_in_bounds.1 turn.if-t-faces.true (start turn).requires.width_in_bounds.2 c.sign.result c.sign.ensures)

pub overflow_add-total : goal.overflow_add-total
overflow_add-total c =
    let turn = (goal.at.overflow_add-total c).Then-t-faces in
    rw c.from.ensures
    (sum-word (head turn).loop-t.invariant (start turn).requires.width_in_bounds.1 turn.if-t-faces.true (start turn).requires.width_in_bounds.2 c.sign.result c.sign.ensures)

pub loop-t-preserved : goal.loop-t-preserved
loop-t-preserved c =
    let loop = c.loop-t in let start = (goal.at.loop-t-preserved c).Start in
    elim c.if-t-faces.branch [
      | then-t-faces w ↦ with-term w.if-t-faces.true
          (w.total-is
          ∙ rw w.from.ensures
          (added_is loop.invariant start.requires.width_in_bounds.1 w.if-t-faces.true start.requires.width_in_bounds.2 w.sign.result w.sign.ensures))
      | else-t-faces w ↦ with_none w.if-t-faces.false
          (subst (λ (x : ℤ). Invariant start.args.w.now start.args.line start.args.places start.args.faces loop.t x) (sym w.total-is) loop.invariant)
    ]

pub returns : goal.returns
returns c =
    let start = (goal.at.returns c).Start in
    c.loop-t.invariant.all (omega (arith, c.loop-t-test.false, start.requires.width_in_bounds.2))
