use mathlib.Core.Path.{◌≡◌, refl, sym, ap, subst, ◌∙◌}
use mathlib.Core.Logic.{◌⊎◌, inl, inr, ⊎_elim}
use mathlib.Core.List.{List}
use Prim.Native.Nat.{ℕ, suc, ◌+◌, ◌^◌, ◌<◌, ◌≤◌}
use native.Mathlib.Nat as NatL
use native.Mathlib.Omega.{arith}
use native.Mathlib.Decide.{dec_lt}
use lib.ListN.{length, get_or, set}
use lib.IntN.{ℤ, nat_abs, ◌*ℤ◌}
use mir.Syntax.{w64}
use mir.Facts.{to_z-of_z}
use Rattle.matrices.specs.Sum.{sum}
use Rattle.matrices.proofs.SumLaws.{sum-ext}
use Rattle.matrices.specs.Matrix as theory
use Rattle.complexes.specs.Boundary.{sign}
use Rattle.sheet_format.specs.Layout.{top}
use Rattle.machine_words.specs.Read.{read, read-entry}
use Rattle.matrix_lines.specs.Slice.{entry_limit, line_at, Bounded}
use Rattle.matrix_lines.specs.Matrices.{Held, contents, end}
use Rattle.matrix_lines.specs.declared.matrix.Matrix.{Matrix}
use Rattle.matrix_lines.proofs.Peaks.{bounded-small, bounded-larger, covered_same, covered-trans, Raised, raised_by, raised-small}
use Rattle.matrix_lines.proofs.Store.{bounded-set, covered-set}
use Rattle.matrix_lines.proofs.UpTo.{up_to, up_to-below, up_to-from}
use Rattle.boundaries.specs.Column.{at_places, ColumnHolds, ColumnExceeds}
use Rattle.boundaries.proofs.Store.{Place, place_inside, entry_set, column-set}
use Rattle.boundaries.proofs.Products.{signed, signed-sum-small, contents-kept}
use Rattle.boundaries.proofs.product.multiply_column.Invariants.{Invariant, Reached}
use Rattle.boundaries.proofs.product.multiply_column.Goals as goal
use Rattle.boundaries.proofs.product.multiply_column.Goals.{Start, At-loop-i, In-loop-i, After-line_product-v, Joined-largest-size, After-line-in-loop-i, else-largest-size, then-largest-size+else-size}

-- what the function is given
record Given (q M : Matrix) (w₀ : List ℤ) (j : ℕ) (places : List ℕ) (faces largest₀ : ℕ) : Type 0 where
  lines : M.lines ≡ q.lines
  below : j < M.width
  few : faces ≤ suc top
  inside : (t : ℕ) → t < faces → get_or places t 0 < q.width
  held : Held (length w₀) q
  before : end M ≤ q.at
  bounded : Bounded largest₀ w₀

module _ {q M : Matrix} {w₀ : List ℤ} {j : ℕ} {places : List ℕ} {faces largest₀ : ℕ} (given : Given q M w₀ j places faces largest₀) where
  begun : Invariant q M w₀ j places faces largest₀ w₀ largest₀ 0
  begun = record {
    below = omega arith;
    so_far = record {
      same_length = refl;
      on = λ i l. sym (up_to-from 0 (at_places q w₀ places faces) (contents M w₀) i j (omega arith));
      beside = λ i k l m d. refl;
      off = λ i o. refl;
    };
    bounded = given.bounded;
    above = NatL.le_refl largest₀;
    covered = covered_same w₀;
    wrote = inl refl;
  }

  held-before : Held (length w₀) M
  held-before = record { ends = omega (arith, given.before, given.held.ends) }

  module _ {w : List ℤ} {largest i : ℕ} (inv : Invariant q M w₀ j places faces largest₀ w largest i) where
    -- line i times the column
    entry-is : (line : ℕ) → line ≡ line_at q.at q.width i → (v : ℤ) → v ≡ sum faces (signed w line places) → v ≡ at_places q w₀ places faces i j
    entry-is line e v v-is =
        v-is
        ∙ ap (λ (l : ℕ). sum faces (signed w l places)) e
        ∙ sum-ext faces (λ t. contents q w i (get_or places t 0) *ℤ sign t) (λ t. contents q w₀ i (get_or places t 0) *ℤ sign t)
        (λ t l. ap (λ (x : ℤ). x *ℤ sign t) (contents-kept q M w₀ w given.before inv.so_far.off i (get_or places t 0)))

    -- a word holds it
    entry-small : (line : ℕ) (v : ℤ) → v ≡ sum faces (signed w line places) → nat_abs v < 2 ^ 63
    entry-small line v v-is =
        subst (λ (z : ℤ). nat_abs z < 2 ^ 63) (sym v-is) (omega (arith, signed-sum-small w line places faces (bounded-small inv.bounded) given.few))

    too_wide : i < M.lines → entry_limit < nat_abs (at_places q w₀ places faces i j) → ColumnExceeds M w₀ (at_places q w₀ places faces) j w
    too_wide l h = record { same_length = inv.so_far.same_length; line = i; line-below = l; beyond = h }

    more : {place : ℕ} (v : ℤ) → Place M (length w₀) i j place → v ≡ at_places q w₀ places faces i j → {n : ℕ} → Raised largest v n
        → Invariant q M w₀ j places faces largest₀ (set w place v) n (i + 1)
    more {place} v e v-is {n} raised = record {
      below = omega (arith, e.line);
      so_far = column-set (entry_set e w v inv.so_far.same_length) (up_to (i + 1) new old)
          (up_to-below (i + 1) new old i j (omega arith) ∙ sym v-is)
          inv.so_far
          (λ a k d. pick a d (dec_lt a i))
          given.below;
      bounded = bounded-set w place v inside (bounded-larger inv.bounded raised.limit) (raised-small raised);
      above = NatL.le_trans inv.above raised.above;
      covered = covered-trans inv.covered (covered-set w place v inside raised.covers) raised.above;
      wrote = pick-wrote raised.wrote inv.wrote;
    }
      where
        inside : place < length w
        inside = omega (arith, place_inside e, inv.so_far.same_length)

        pick-wrote : (n ≡ largest) ⊎ (n ≡ nat_abs v) → (largest ≡ largest₀) ⊎ Reached q w₀ j places faces i largest
            → (n ≡ largest₀) ⊎ Reached q w₀ j places faces (i + 1) n
        pick-wrote (inr o) p = inr (record { line = i; below = omega arith; is = o ∙ ap nat_abs v-is })
        pick-wrote (inl o) (inl p) = inl (o ∙ p)
        pick-wrote (inl o) (inr p) = inr (record { line = p.line; below = omega (arith, p.below); is = o ∙ p.is })

        new : theory.Matrix
        new = at_places q w₀ places faces

        old : theory.Matrix
        old = contents M w₀

        pick : (a : ℕ) → (a ≡ i → ⊥) → Dec (a < i) → up_to (i + 1) new old a j ≡ up_to i new old a j
        pick a d (yes m) = up_to-below (i + 1) new old a j (omega arith) ∙ sym (up_to-below i new old a j m)
        pick a d (no m) = up_to-from (i + 1) new old a j (omega arith) ∙ sym (up_to-from i new old a j (omega arith))

    ended : M.lines ≤ i → ColumnHolds M w₀ (at_places q w₀ places faces) j largest₀ largest w
    ended done = record {
      filled = record {
        same_length = inv.so_far.same_length;
        on = λ a l. inv.so_far.on a l ∙ up_to-below i (at_places q w₀ places faces) (contents M w₀) a j (omega arith);
        beside = inv.so_far.beside;
        off = inv.so_far.off;
      };
      bounded = inv.bounded;
      above = inv.above;
      covered = inv.covered;
      wrote = ⊎_elim (λ e. inl e) (λ o. inr (record { line = o.line; line-below = omega (arith, o.below, inv.below); is = o.is })) inv.wrote;
    }

given : (c : Start) →
    let args = c.args in Given args.q args.m args.w.now args.j args.places args.faces args.before
given c =
    let pre = c.requires in
    record {
      lines = pre.lines_value.0;
      below = pre.lines_value.1;
      few = pre.lines_value.2;
      inside = pre.by_index;
      held = pre.held.0;
      before = pre.held.1;
      bounded = pre.held.2;
    }

-- the entry of line i
module _ (c : After-line_product-v) where
  abbrev turn : In-loop-i
  turn = (goal.at.After-line_product-v c).In-loop-i

  abbrev head : At-loop-i
  head = (goal.at.In-loop-i turn).At-loop-i

  abbrev start : Start
  start = (goal.at.At-loop-i head).Start

  -- as the machine has it
  abbrev v : ℤ
  v = read w64 c.line_product-v.result

  read-v : v ≡ c.line_product-v.result
  read-v = to_z-of_z {w = w64} {z = c.line_product-v.result} (record { sfits = c.line_product-v.type_inv })

  v-is : v ≡ at_places start.args.q start.args.w.now start.args.places start.args.faces head.loop-i.i start.args.j
  v-is = entry-is (given start) head.loop-i.invariant c.line.result c.line.ensures v (read-v ∙ c.line_product-v.ensures)

  line-below : head.loop-i.i < start.args.m.lines
  line-below = omega (arith, turn.loop-i-test.true, (given start).lines)

pub returns-then-size : goal.returns-then-size
returns-then-size c =
    let at = (goal.at.returns-then-size c).After-line_product-v in
    too_wide (given (start at)) (head at).loop-i.invariant (line-below at)
    (subst (λ (z : ℤ). entry_limit < nat_abs z) (v-is at) (omega (arith, c.if-size.true, c.unsigned_abs-size.ensures)))

-- ---- after the test of the size

module _ (c : Joined-largest-size) where
  abbrev made : After-line_product-v
  made = (goal.at.Joined-largest-size c).After-line_product-v

  raised : Raised (head made).loop-i.largest (v made) c.if-largest-size.largest
  raised =
      raised_by (v made) c.unsigned_abs-size.ensures.value (head made).loop-i.invariant.bounded.limit
      (elim c.if-largest-size.branch [ then-largest-size+else-size h ↦ inl (h.if-largest-size.true, h.if-size.false, h.largest-is) | else-largest-size h ↦ inr (h.if-largest-size.false, h.largest-is) ])

pub loop-i-preserved : goal.loop-i-preserved
loop-i-preserved c =
    let joined = (goal.at.loop-i-preserved c).Joined-largest-size in
    let at = made joined in
    let args = (start at).args in
    let loop = (head at).loop-i in
    let place : Place args.m (length args.w.now) loop.i args.j (c.line-in-loop-i.result + args.j) = record {
      held = held-before (given (start at));
      line = line-below at;
      column = (given (start at)).below;
      is = omega (arith, c.line-in-loop-i.ensures);
    } in
    subst
    (λ (z : ℤ). Invariant args.q args.m args.w.now args.j args.places args.faces args.before (set loop.w (c.line-in-loop-i.result + args.j) z) joined.if-largest-size.largest (loop.i + 1))
    (sym (read-entry (v at) (raised-small (raised joined))))
    (more (given (start at)) loop.invariant (v at) place (v-is at) (raised joined))

pub returns : goal.returns
returns c = ended (given (goal.at.returns c).Start) c.loop-i.invariant (omega (arith, c.loop-i-test.false, (given (goal.at.returns c).Start).lines))
