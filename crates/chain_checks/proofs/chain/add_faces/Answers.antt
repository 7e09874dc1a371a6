use mathlib.Core.Path.{◌≡◌, refl, sym, ap, subst, ◌∙◌}
use mathlib.Core.List.{List}
use Prim.Native.Nat.{ℕ, suc, ◌+◌, ◌^◌, ◌<◌, ◌≤◌}
use native.Mathlib.Nat as NatL
use native.Mathlib.Omega.{arith}
use native.Mathlib.Decide.{ℕ_discrete}
use lib.ListN.{length, get_or, take, set, length-set, length-take}
use lib.Seq.{get_or-set_same, get_or-set_other}
use Rattle.std.proofs.lemmas.List.{get_or-take, length-take-le}
use lib.IntN.{ℤ, pos, nat_abs, ◌+ℤ◌, ◌*ℤ◌}
use mir.Syntax.{w64}
use mir.Val.{SFits}
use mir.Facts.{to_z-of_z}
use Rattle.integers.proofs.Ring.{add_assoc, add-zero, mul-add, mul-zero}
use Rattle.integers.proofs.Order.{nat_abs-add, nat_abs_mul}
use Rattle.complexes.specs.Complex.{count, cell, Complex}
use Rattle.complexes.specs.Boundary.{sign}
use Rattle.sheet_format.specs.Layout.{top}
use Rattle.sheet_format.specs.Check.{sections_of}
use Rattle.limits.specs.Limits.{library_limit, coefficient_limit}
use Rattle.matrix_lines.specs.Slice.{entry_limit}
use Rattle.machine_words.specs.Read.{read, sfits-below, read_wide}
use Rattle.machine_words.proofs.Sum.{term_fits, sum_fits, sum_is}
use Rattle.faces.specs.Face.{IsFace}
use Rattle.chain_checks.specs.Sums.{Sums, AddsFaces}
use Rattle.faces.proofs.Sheet.{complex}
use Rattle.faces.proofs.Column.{entry, part_none, part-face, part-other, part-all}
use Rattle.faces.proofs.Sums.{nat_abs-part}
use Rattle.faces.proofs.Signs.{sign-unit}
use Rattle.chain_checks.proofs.chain.add_faces.Invariants.{Invariant}
use Rattle.chain_checks.proofs.chain.add_faces.Goals as goal
use Rattle.chain_checks.proofs.chain.add_faces.Goals.{After-face_places, At-loop-t, In-loop-t}

with-factor : {b : List ℕ} {p j : ℕ} {x y : ℤ} {sums₀ : List ℤ} {t : ℕ} {sums : List ℤ} → x ≡ y → Invariant b p j x sums₀ t sums
    → Invariant b p j y sums₀ t sums
with-factor {b} {p} {j} {x} {y} {sums₀} {t} {sums} e = subst (λ (z : ℤ). Invariant b p j z sums₀ t sums) e

begun : (b : List ℕ) (p j : ℕ) (x : ℤ) (sums₀ : List ℤ) → Invariant b p j x sums₀ 0 sums₀
begun b p j x sums₀ = record {
  within = omega arith;
  same_length = refl;
  so_far = λ i l.
      rw (part_none (cell (sections_of b) (suc p) j) (cell (sections_of b) p i), mul-zero x) (sym (add-zero (get_or sums₀ i (pos 0))));
}

-- what the function is given
record Given (b : List ℕ) (p j : ℕ) (x : ℤ) (sums₀ : List ℤ) : Type 0 where
  sheet : Complex top library_limit (sections_of b)
  inside : p < top
  below : j < count (sections_of b) (suc p)
  factor : nat_abs x ≤ coefficient_limit
  sums : Sums (sections_of b) p sums₀

module _ {b : List ℕ} {p j : ℕ} {x : ℤ} {sums₀ : List ℤ} {t : ℕ} {sums : List ℤ} (given : Given b p j x sums₀) (inv : Invariant b p j x sums₀ t sums)
    (more : t < p + 2) (i : ℕ) (face : IsFace b p j t i) (r : ℤ) (r-is : r ≡ sign t) where
  abbrev old : ℤ
  old = get_or sums i (pos 0)

  small-entry : nat_abs (entry b p j t i) ≤ suc top
  small-entry = omega (arith, nat_abs-part (cell (sections_of b) (suc p) j) t (cell (sections_of b) p i), given.inside)

  old-small : nat_abs old ≤ 2 ^ 33
  old-small =
      rw (inv.so_far i face.below)
      (omega (
        arith,
        nat_abs-add (get_or sums₀ i (pos 0)) (x *ℤ entry b p j t i),
        nat_abs_mul x (entry b p j t i),
        NatL.mul-le-mul given.factor small-entry,
        given.sums.bounded i face.below,
      ))

  read-old : read w64 old ≡ old
  read-old = to_z-of_z (sfits-below w64 old (omega (arith, old-small)))

  read_small : nat_abs (read w64 old) ≤ 2 ^ 33
  read_small = rw read-old old-small

  factor-small : nat_abs x ≤ entry_limit
  factor-small = omega (arith, given.factor)

  term-word : SFits w64 (read w64 x *ℤ read w64 r)
  term-word = term_fits (read w64 old) x r r-is (sign-unit t) read_small factor-small

  sum-word : SFits w64 (read w64 old +ℤ read w64 (read w64 x *ℤ read w64 r))
  sum-word = sum_fits (read w64 old) x r r-is (sign-unit t) read_small factor-small

  -- the new sum as the machine computes it
  abbrev new : ℤ
  new = read w64 (read w64 old +ℤ read w64 (read w64 x *ℤ read w64 r))

  new_is : new ≡ get_or sums₀ i (pos 0) +ℤ x *ℤ entry b p j (t + 1) i
  new_is =
      sum_is (read w64 old) x r r-is (sign-unit t) read_small factor-small
      ∙ rw (read-old, inv.so_far i face.below, part-face b given.sheet p j given.below t i face, mul-add x (entry b p j t i) (sign t))
      (add_assoc (get_or sums₀ i (pos 0)) (x *ℤ entry b p j t i) (x *ℤ sign t))

  again : Invariant b p j x sums₀ (t + 1) (set sums i new)
  again = record {
    within = omega arith;
    same_length = length-set sums i new ∙ inv.same_length;
    so_far = λ k l. pick k l (ℕ_discrete k i);
  }
    where
      inside : i < length sums
      inside = omega (arith, inv.same_length, given.sums.sized, face.below, given.sheet.within p)

      pick : (k : ℕ) → k < count (sections_of b) p → Dec (k ≡ i) → get_or (set sums i new) k (pos 0) ≡ get_or sums₀ k (pos 0) +ℤ x *ℤ entry b p j (t + 1) k
      pick k l (yes e) = rw (e, get_or-set_same sums i new (pos 0) inside) new_is
      pick k l (no d) =
          get_or-set_other sums i k new (pos 0) d
          ∙ inv.so_far k l
          ∙ ap (λ (z : ℤ). get_or sums₀ k (pos 0) +ℤ x *ℤ z) (sym (part-other b given.sheet p j given.below t i face k l d))

ended : {b : List ℕ} {p j : ℕ} {x : ℤ} {sums₀ : List ℤ} {t : ℕ} {sums : List ℤ} → Given b p j x sums₀ → Invariant b p j x sums₀ t sums → p + 2 ≤ t
    → AddsFaces (sections_of b) p j x sums₀ sums
ended {b} {p} {j} {x} {sums₀} {t} {sums} given inv done = record {
  same_length = inv.same_length;
  adds = λ i l.
      inv.so_far i l
      ∙ ap (λ (n : ℕ). get_or sums₀ i (pos 0) +ℤ x *ℤ entry b p j n i) all
      ∙ ap (λ (z : ℤ). get_or sums₀ i (pos 0) +ℤ x *ℤ z) (sym (part-all b given.sheet p j given.below i));
}
  where
    all : t ≡ suc (suc p)
    all = omega (arith, inv.within)

-- the factor as the machine reads it
read-x : (c : After-face_places) → read w64 c.args.x ≡ c.args.x
read-x c = read_wide c.args.x (omega (arith, c.requires.x_bound))

given : (c : After-face_places) →
    let args = c.args in Given args.s.now args.p args.j args.x args.sums.now
given c =
    let pre = c.requires in
    record {
      sheet = complex (record { small = λ i. (c.type_inv.s i).fits }) pre.accepted;
      inside = pre.p_lt_top.0;
      below = pre.p_lt_top.1;
      factor = pre.x_bound;
      sums = pre.sums;
    }

pub loop-t-init : goal.loop-t-init
loop-t-init c = let args = c.args in begun args.s.now args.p args.j (read w64 args.x) args.sums.now

-- a turn
module _ (c : In-loop-t) where
  abbrev head : At-loop-t
  head = (goal.at.In-loop-t c).At-loop-t

  abbrev known : After-face_places
  known = (goal.at.At-loop-t head).After-face_places

  abbrev places : List ℕ
  places = head.face_places.new.places

  more : head.loop-t.t < known.args.p + 2
  more = omega (arith, c.loop-t-test.true, length-take (known.args.p + 2) places)

  -- the place of face t
  abbrev row : ℕ
  row = get_or (take (known.args.p + 2) places) head.loop-t.t 0

  face : let args = known.args in IsFace args.s.now args.p args.j head.loop-t.t row
  face = rw (get_or-take (known.args.p + 2) places head.loop-t.t 0 more) (head.face_places.ensures.face head.loop-t.t (omega (arith, more)))

  -- .. is one of the sums
  inside : row < library_limit
  inside = omega (arith, face.below, (given known).sheet.within known.args.p)

  before : let args = known.args in Invariant args.s.now args.p args.j args.x args.sums.now head.loop-t.t head.loop-t.sums
  before = with-factor (read-x known) head.loop-t.invariant

pub overflow_mul-sums : goal.overflow_mul-sums
overflow_mul-sums c =
    let turn = (goal.at.overflow_mul-sums c).In-loop-t in
    term-word (given (known turn)) (before turn) (more turn) (row turn) (face turn) c.sign.result c.sign.ensures

pub offset_bounds-sums-i : goal.offset_bounds-sums-i
offset_bounds-sums-i c = omega (arith, inside (goal.at.offset_bounds-sums-i c).In-loop-t)

pub bounds-sums-i : goal.bounds-sums-i
bounds-sums-i c = inside (goal.at.bounds-sums-i c).In-loop-t

pub overflow_add-sums : goal.overflow_add-sums
overflow_add-sums c =
    let turn = (goal.at.overflow_add-sums c).In-loop-t in
    sum-word (given (known turn)) (before turn) (more turn) (row turn) (face turn) c.sign.result c.sign.ensures

pub bounds-sums-i-in-loop-t : goal.bounds-sums-i-in-loop-t
bounds-sums-i-in-loop-t c = inside (goal.at.bounds-sums-i-in-loop-t c).In-loop-t

pub loop-t-preserved : goal.loop-t-preserved
loop-t-preserved c =
    let turn = (goal.at.loop-t-preserved c).In-loop-t in
    with-factor (sym (read-x (known turn)))
    (again (given (known turn)) (before turn) (more turn) (row turn) (face turn) c.sign.result c.sign.ensures)

pub returns : goal.returns
returns c =
    let known = (goal.at.returns c).After-face_places in
    ended (given known) (with-factor (read-x known) c.loop-t.invariant)
    (omega (arith, c.loop-t-test.false, length-take-le (known.args.p + 2) known.face_places.new.places (omega (arith, known.requires.p_lt_top.0, known.face_places.ensures.sized))))
