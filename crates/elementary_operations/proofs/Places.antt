-- An operation on the places of a line. They are the lines of the matrix `places_of`, so that it is an operation on lines there. Main results:
-- `subtract-became`, where line k alone has a nonzero entry at place k, and `none_passed`, `one-passed`, `all-passed` for one line after another.
use mathlib.Core.Path.{◌≡◌, refl, sym, ap, subst, ◌∙◌}
use mathlib.Core.Logic.{inl, inr, ⊎_elim, ◌≢◌}
use mathlib.Core.List.{List}
use Prim.Native.Nat.{ℕ, ◌+◌, ◌<◌, ◌≤◌}
use native.Mathlib.Nat as NatL
use native.Mathlib.Omega.{arith}
use native.Mathlib.Decide.{ℕ_discrete, dec_lt}
use lib.ListN.{length}
use lib.IntN.{ℤ, nat_abs}
use Rattle.std.specs.Prelude.{Result, Ok, Err}
use Rattle.integers.proofs.Ring.{mul-zero, add-zero}
use Rattle.matrices.specs.Matrix.{transpose}
use Rattle.matrices.specs.Matrix as theory
use Rattle.matrices.specs.Operation.{Operation, subtract, swap, negate, on_rows, on_columns}
use Rattle.matrices.proofs.OperationLaws.{on_rows-ext-at, on_rows-subtract-at, on_rows-subtract-other}
use Rattle.matrices.specs.Within.{Within}
use Rattle.integers.specs.Slot.{slot}
use Rattle.matrix_lines.specs.Slice.{entry_limit, line_at, Bounded, LinesSwapped, Negated}
use Rattle.matrix_lines.specs.Slice as slice
use Rattle.matrix_lines.specs.Matrices.{Held, contents, Off, Entries, EntryOf, Holds, Exceeds, places_of}
use Rattle.elementary_operations.specs.Operations.{operation_of, Fits, Writes, OnLines, OnPlaces, AloneAt, Alone}
use Rattle.matrix_lines.specs.declared.matrix.Matrix.{Matrix}
use Rattle.matrix_lines.specs.declared.line.TooWide.{TooWide}
use Rattle.elementary_operations.specs.declared.operation.Operation as code
use Rattle.elementary_operations.specs.declared.operation.Operation.TheVariants.{Subtract}
use Rattle.matrix_lines.proofs.Spans.{Span, line-span, span-inside, span-off, span-outside}
use Rattle.elementary_operations.proofs.Holding.{holds-trans}
use Rattle.matrix_lines.proofs.UpTo.{up_to, up_to-below, up_to-from}
use Rattle.elementary_operations.proofs.Operations.{swap-lines, negate-line, fits-case}
use Rattle.matrix_lines.proofs.Peaks.{covered_same}

-- ---- the places of a line

module _ (M : Matrix) (i : ℕ) where
  -- their entries are the line's
  place_at : (w : List ℤ) (j : ℕ) → contents (places_of M i) w j 0 ≡ contents M w i j
  place_at w j = ap (slot w) (omega arith)

  module _ (below : i < M.lines) where
    line : Span M (line_at M.at M.width i) i 0 M.width
    line = line-span M (line_at M.at M.width i) i refl below

    pub places-held : {n : ℕ} → Held n M → Held n (places_of M i)
    places-held h = record { ends = omega (arith, span-inside line h) }

    off-places : (p : ℕ) → slice.Off (line_at M.at M.width i) M.width p → Off (places_of M i) p
    off-places p = ⊎_elim (λ l. inl l) (λ l. inr (omega arith))

-- a column of A decides the same column of the result
on_rows-column : (op : Operation) (A : theory.Matrix) (a b : ℕ) → on_rows op A a b ≡ on_rows op (λ x _. A x b) a 0
unfolding on_rows
on_rows-column (subtract i k q) A a b = refl
on_rows-column (swap i k) A a b = refl
on_rows-column (negate k) A a b = refl

-- ---- one line is changed: w has line i as w₀ has

module _ (M : Matrix) (op : Operation) (f : Within M.width op) (w₀ w : List ℤ) (i : ℕ) (below : i < M.lines)
    (kept : (b : ℕ) → b < M.width → contents M w i b ≡ contents M w₀ i b) where
  -- what an operation on the places makes
  abbrev pub changed : theory.Matrix
  changed = on_rows op (contents (places_of M i) w)

  changed-at : (b : ℕ) → b < M.width → changed b 0 ≡ on_columns op (contents M w₀) i b
  unfolding on_columns
  changed-at b l =
      on_rows-ext-at op f (contents (places_of M i) w) (λ x _. contents M w₀ i x) 0 (λ x h. place_at M i w x ∙ kept x h) b l
      ∙ sym (on_rows-column op (transpose (contents M w₀)) b i)

  module _ (A : theory.Matrix) (on : (b : ℕ) → b < M.width → A i b ≡ on_columns op (contents M w₀) i b) where
    -- the entry that the operation makes at place `b` is the new one
    changed-new : (b c : ℕ) → b < M.width → c < 1 → changed b c ≡ A i b
    changed-new b c l h = ap (λ (j : ℕ). changed b j) (omega arith) ∙ changed-at b l ∙ sym (on b l)

    line-holds : {w' : List ℤ} {before x : ℕ} → Holds (places_of M i) w (λ b c. Writes op b) changed before x w'
        → ((a b : ℕ) → a < M.lines → b < M.width → a ≢ i → A a b ≡ contents M w a b)
        → (among : Entries) → ((b : ℕ) → Writes op b → among i b) → Holds M w among A before x w'
    line-holds {w'} h same among all = record {
      same_length = h.same_length;
      on = record { at = λ a b x y. pick a b x y (ℕ_discrete a i) };
      off = λ p o. h.off p (off-places M i below p (span-outside (line M i below) p o));
      bounded = h.bounded;
      above = h.above;
      covered = h.covered;
      wrote =
          ⊎_elim (λ e. inl e)
          (λ o. inr (record {
            line = i;
            place = o.line;
            line-below = below;
            place-below = o.line-below;
            chosen = all o.line o.chosen;
            is = o.is ∙ ap nat_abs (changed-new o.line o.place o.line-below o.place-below);
          }))
          h.wrote;
    }
      where
        pick : (a b : ℕ) → a < M.lines → b < M.width → Dec (a ≡ i) → contents M w' a b ≡ A a b
        pick a b x y (yes e) = rw e (sym (place_at M i w' b) ∙ h.on.at b 0 y (omega arith) ∙ changed-new b 0 y (omega arith))
        pick a b x y (no d) =
            h.off (line_at M.at M.width a + b) (off-places M i below (line_at M.at M.width a + b) (span-off (line M i below) a b y (inl d)))
            ∙ sym (same a b x y d)

    line-exceeds : {w' : List ℤ} → Exceeds (places_of M i) w changed w' → Exceeds M w A w'
    line-exceeds h = record {
      same_length = h.same_length;
      line = i;
      place = h.line;
      line-below = below;
      place-below = h.line-below;
      beyond = subst (λ (z : ℤ). entry_limit < nat_abs z) (changed-new h.line h.place h.line-below h.place-below) h.beyond;
    }

-- ---- a subtraction of place k

module _ (M : Matrix) (w : List ℤ) (j k : ℕ) (q : ℤ) (f : Within M.width (subtract j k q)) (alone : AloneAt M w k) where
  abbrev old : theory.Matrix
  old = contents M w

  -- the other lines stay
  others : (a b : ℕ) → a < M.lines → b < M.width → a ≢ k → on_columns (subtract j k q) old a b ≡ old a b
  unfolding on_columns
  others a b x y d = pick (ℕ_discrete b j)
    where
      pick : Dec (b ≡ j) → on_rows (subtract j k q) (transpose old) b a ≡ old a b
      pick (no n) = on_rows-subtract-other j k q (transpose old) b a n
      pick (yes e) = rw e (on_rows-subtract-at j k q (transpose old) a ∙ rw (alone.zero a x d, mul-zero q, add-zero (old a j)))

  subtract-places : (before : ℕ) (r : Result ℕ TooWide) (w' : List ℤ) → OnLines (places_of M k) w (subtract j k q) before r w'
      → OnPlaces M w (subtract j k q) before r w'
  subtract-places before (Ok x) w' h =
      line-holds M (subtract j k q) f w w k alone.line (λ b l. refl) (on_columns (subtract j k q) old) (λ b l. refl) h others
      (λ a b. Writes (subtract j k q) b) (λ b e. e)
  subtract-places before (Err e) w' h = line-exceeds M (subtract j k q) f w w k alone.line (λ b l. refl) (on_columns (subtract j k q) old) (λ b l. refl) h

-- ---- the places of line i as the code finds them, from `start` on

module _ (M : Matrix) (i start : ℕ) (is : start ≡ line_at M.at M.width i) where
  pub place_is : (j : ℕ) → start + j ≡ line_at (places_of M i).at 1 j
  place_is j = omega (arith, is)

  place-span : (j : ℕ) → j < M.width → Span (places_of M i) (start + j) j 0 1
  place-span j l = line-span (places_of M i) (start + j) j (place_is j) l

  pub place_inside : {n : ℕ} → Held n M → i < M.lines → (j : ℕ) → j < M.width → start + j < n
  place_inside h below j l = omega (arith, span-inside (place-span j l) (places-held M i below h))

  pub swapped-places : (w w' : List ℤ) (j k before x : ℕ) → (j < M.width) × (k < M.width) → LinesSwapped w (start + j) (start + k) 1 before x w'
      → OnLines (places_of M i) w (swap j k) before (Ok x) w'
  swapped-places w w' j k before x l = swap-lines (place-span j l.0) (place-span k l.1) w w' before x

  pub negated-place : (w w' : List ℤ) (k before x : ℕ) → k < M.width → Negated w (start + k) 1 before x w'
      → OnLines (places_of M i) w (negate k) before (Ok x) w'
  negated-place w w' k before x l = negate-line (place-span k l) w w' before x

-- the operation turned out to be a subtraction
module _ {op : code.Operation} {j k : ℕ} {q : ℤ} (e : op ≡ Subtract j k q) (M : Matrix) (w : List ℤ) (alone : Alone M w (operation_of op)) where
  pub alone-line : AloneAt M w k
  alone-line = subst (λ (o : code.Operation). Alone M w (operation_of o)) e alone

  pub subtract-became : Fits M.width (operation_of op) → (w' : List ℤ) (before : ℕ) (r : Result ℕ TooWide)
      → OnLines (places_of M k) w (operation_of op) before r w' → OnPlaces M w (operation_of op) before r w'
  subtract-became f w' before r h =
      subst (λ (o : code.Operation). OnPlaces M w (operation_of o) before r w') (sym e)
      (subtract-places M w j k q (fits-case e f).within alone-line before r w'
      (subst (λ (o : code.Operation). OnLines (places_of M k) w (operation_of o) before r w') e h))

-- ---- one line after another

-- the entries that it writes on the lines below i
abbrev pub WritesBelow : Operation → ℕ → Entries
WritesBelow op i a b = (a < i) × Writes op b

module _ (M : Matrix) (op : Operation) (f : Within M.width op) (w₀ w : List ℤ) (i : ℕ) (below : i < M.lines) {before x : ℕ}
    (done : Holds M w₀ (WritesBelow op i) (up_to i (on_columns op (contents M w₀)) (contents M w₀)) before x w) where
  abbrev new : theory.Matrix
  new = on_columns op (contents M w₀)

  -- line i is as it was
  kept : (b : ℕ) → b < M.width → contents M w i b ≡ contents M w₀ i b
  kept b l = done.on.at i b below l ∙ up_to-from i new (contents M w₀) i b (omega arith)

  -- what was written on a line below i stays
  stays : {n : ℕ} → EntryOf M (WritesBelow op i) (up_to i new (contents M w₀)) n → EntryOf M (WritesBelow op (i + 1)) (up_to (i + 1) new (contents M w₀)) n
  stays o = record {
    line = o.line;
    place = o.place;
    line-below = o.line-below;
    place-below = o.place-below;
    chosen = (omega (arith, o.chosen.0), o.chosen.1);
    is = o.is
        ∙ ap nat_abs
        (up_to-below i new (contents M w₀) o.line o.place o.chosen.0
        ∙ sym (up_to-below (i + 1) new (contents M w₀) o.line o.place (omega (arith, o.chosen.0))));
  }

  places-next : {y : ℕ} {w' : List ℤ} → OnLines (places_of M i) w op x (Ok y) w'
      → Holds M w₀ (WritesBelow op (i + 1)) (up_to (i + 1) new (contents M w₀)) before y w'
  places-next h =
      holds-trans done
      (line-holds M op f w₀ w i below kept (up_to (i + 1) new (contents M w₀))
      (λ b l. up_to-below (i + 1) new (contents M w₀) i b (omega arith)) h (λ a b x y d. other-line a b x y d (dec_lt a i))
      (WritesBelow op (i + 1)) (λ b e. (omega arith, e)))
      stays
    where
      other-line : (a b : ℕ) → a < M.lines → b < M.width → a ≢ i → Dec (a < i) → up_to (i + 1) new (contents M w₀) a b ≡ contents M w a b
      other-line a b x y d (yes l) =
          up_to-below (i + 1) new (contents M w₀) a b (omega arith) ∙ sym (done.on.at a b x y ∙ up_to-below i new (contents M w₀) a b l)
      other-line a b x y d (no l) =
          up_to-from (i + 1) new (contents M w₀) a b (omega arith) ∙ sym (done.on.at a b x y ∙ up_to-from i new (contents M w₀) a b (omega arith))

-- the lines below i have been changed
pub record Passed (M : Matrix) (w₀ : List ℤ) (op : Operation) (before : ℕ) (w : List ℤ) (largest i : ℕ) : Type 0 where
  pub below : i ≤ M.lines
  pub so_far : Holds M w₀ (WritesBelow op i) (up_to i (on_columns op (contents M w₀)) (contents M w₀)) before largest w

pub none_passed : (M : Matrix) (w₀ : List ℤ) (op : Operation) (before : ℕ) → Bounded before w₀ → Passed M w₀ op before w₀ before 0
none_passed M w₀ op before u = record {
  below = omega arith;
  so_far = record {
    same_length = refl;
    on = record { at = λ a b x y. sym (up_to-from 0 (on_columns op (contents M w₀)) (contents M w₀) a b (omega arith)) };
    off = λ p o. refl;
    bounded = u;
    above = NatL.le_refl before;
    covered = covered_same w₀;
    wrote = inl refl;
  };
}

module _ {M : Matrix} {w₀ : List ℤ} {op : Operation} {before : ℕ} {w : List ℤ} {largest i : ℕ} (passed : Passed M w₀ op before w largest i) where
  pub passed-held : Held (length w₀) M → Held (length w) M
  passed-held h = record { ends = omega (arith, h.ends, passed.so_far.same_length) }

  pub one-passed : Within M.width op → i < M.lines → {y : ℕ} {w' : List ℤ} → OnLines (places_of M i) w op largest (Ok y) w'
      → Passed M w₀ op before w' y (i + 1)
  one-passed f below h = record { below = omega arith; so_far = places-next M op f w₀ w i below passed.so_far h }

  pub all-passed : M.lines ≤ i → OnPlaces M w₀ op before (Ok largest) w
  all-passed done = record {
    same_length = passed.so_far.same_length;
    on = record { at = λ a b x y. passed.so_far.on.at a b x y ∙ all a b x };
    off = passed.so_far.off;
    bounded = passed.so_far.bounded;
    above = passed.so_far.above;
    covered = passed.so_far.covered;
    wrote =
        ⊎_elim (λ e. inl e)
        (λ o. inr (record {
          line = o.line;
          place = o.place;
          line-below = o.line-below;
          place-below = o.place-below;
          chosen = o.chosen.1;
          is = o.is ∙ ap nat_abs (all o.line o.place o.line-below);
        }))
        passed.so_far.wrote;
  }
    where
      -- every line is below i
      all : (a b : ℕ) → a < M.lines → up_to i (on_columns op (contents M w₀)) (contents M w₀) a b ≡ on_columns op (contents M w₀) a b
      all a b x = up_to-below i (on_columns op (contents M w₀)) (contents M w₀) a b (omega arith)
