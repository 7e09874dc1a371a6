use mathlib.Core.Path.{◌≡◌, refl, ap, subst, ◌∙◌}
use mathlib.Core.Logic.{◌⊎◌, inl, inr, ⊎_elim}
use mathlib.Core.List.{List}
use Prim.Native.Nat.{ℕ, suc, ◌+◌, ◌<◌, ◌≤◌}
use native.Mathlib.Omega.{arith}
use Rattle.std.proofs.lemmas.Result.{err_from_is_err_and}
use lib.IntN.{ℤ, nat_abs}
use Rattle.matrices.proofs.Product.{mul-ext-at}
use Rattle.complexes.specs.Complex.{Sections, count, Complex}
use Rattle.complexes.specs.Boundary.{boundary}
use Rattle.sheet_format.specs.Layout.{top}
use Rattle.sheet_format.specs.Check.{sections_of}
use Rattle.sheet_format.specs.SheetLaws.{count-sections_of, count_field-below}
use Rattle.matrix_lines.specs.Slice.{entry_limit, Small}
use Rattle.matrix_lines.specs.Matrices.{contents, end, everywhere, Holds, Exceeds}
use Rattle.matrix_lines.specs.declared.matrix.Matrix.{Matrix}
use Rattle.matrix_lines.proofs.Peaks.{small-bounded, covered_same, covered-trans}
use Rattle.limits.specs.Limits.{library_limit}
use Rattle.faces.specs.Face.{AreFaces}
use Rattle.faces.proofs.Sheet.{complex}
use Rattle.boundaries.specs.Column.{at_places, ColumnEntry, ColumnHolds, ColumnExceeds}
use Rattle.boundaries.proofs.Columns.{columns-none, columns-more, columns-all}
use Rattle.boundaries.proofs.Products.{product, contents-kept, product-entry}
use Rattle.boundaries.proofs.product.multiply.Invariants.{Invariant, Reached}
use Rattle.boundaries.proofs.product.multiply.Goals as goal
use Rattle.boundaries.proofs.product.multiply.Goals.{Start, In-loop-j, After-face_places, After-multiply_column}

begun : (K : Sections) (p : ℕ) (q M : Matrix) (w₀ : List ℤ) → Small w₀ → Invariant K p q M w₀ w₀ 0 0
begun K p q M w₀ small = record {
  below = omega arith;
  so_far = columns-none M w₀ (product K p q w₀);
  bounded = small-bounded small;
  covered = covered_same w₀;
  wrote = inl refl;
}

ended : {K : Sections} {p : ℕ} {q M : Matrix} {w₀ : List ℤ} {w : List ℤ} {largest j : ℕ} → Invariant K p q M w₀ w largest j
    → M.width ≤ j → Holds M w₀ everywhere (product K p q w₀) 0 largest w
ended {K} {p} {q} {M} {w₀} {w} {largest} {j} inv done =
    let filled = columns-all (product K p q w₀) (contents M w₀) j inv.so_far done in
    record {
      same_length = filled.same_length;
      on = filled.on;
      off = filled.off;
      bounded = inv.bounded;
      above = omega arith;
      covered = inv.covered;
      wrote =
          ⊎_elim (λ e. inl e)
          (λ o. inr (record {
            line = o.line;
            place = o.column;
            line-below = o.line-below;
            place-below = omega (arith, o.column-below, inv.below);
            chosen = tt;
            is = o.is;
          }))
          inv.wrote;
    }

-- the places of the faces of cell j, whose column has sign t at place t
record Faced (b : List ℕ) (p : ℕ) (q : Matrix) (j : ℕ) (places : List ℕ) : Type 0 where
  sheet : Complex top library_limit (sections_of b)
  rows : q.width ≡ count (sections_of b) p
  below : j < count (sections_of b) (suc p)
  faces : AreFaces b p j places

module _ {b : List ℕ} {p : ℕ} {q M : Matrix} {w₀ w : List ℤ} {largest j : ℕ} (inv : Invariant (sections_of b) p q M w₀ w largest j)
    (before : end M ≤ q.at) {places : List ℕ} (faced : Faced b p q j places) where
  -- line i times the column of cell j is the entry of the product, since q is kept
  entry-is : (i : ℕ) → at_places q w places (p + 2) i j ≡ product (sections_of b) p q w₀ i j
  entry-is i =
      product-entry b faced.sheet p j faced.below places faced.faces q.width faced.rows (contents q w) i
      ∙ mul-ext-at q.width (contents q w) (contents q w₀) (boundary (sections_of b) (suc p)) (boundary (sections_of b) (suc p)) i j
      (λ k l. contents-kept q M w₀ w before inv.so_far.off i k) (λ k l. refl)

  module _ (l : j < M.width) {w' : List ℤ} where
    more : {x : ℕ} → ColumnHolds M w (at_places q w places (p + 2)) j largest x w' → Invariant (sections_of b) p q M w₀ w' x (j + 1)
    more {x} f = record {
      below = omega arith;
      so_far = columns-more (product (sections_of b) p q w₀) (contents M w₀) j inv.so_far f.filled (λ i k. entry-is i);
      bounded = f.bounded;
      covered = covered-trans inv.covered f.covered f.above;
      wrote = pick f.wrote inv.wrote;
    }
      where
        Left : ℕ → ℕ → Type 0
        Left k n = (n ≡ 0) ⊎ Reached (sections_of b) p q M w₀ k n

        pick : (x ≡ largest) ⊎ ColumnEntry M (at_places q w places (p + 2)) j x → Left j largest → Left (j + 1) x
        pick (inr o) h =
            inr (record {
              line = o.line;
              column = j;
              line-below = o.line-below;
              column-below = omega arith;
              is = o.is ∙ ap nat_abs (entry-is o.line);
            })
        pick (inl e) (inl h) = inl (e ∙ h)
        pick (inl e) (inr h) =
            inr (record {
              line = h.line;
              column = h.column;
              line-below = h.line-below;
              column-below = omega (arith, h.column-below);
              is = e ∙ h.is;
            })

    too_wide : ColumnExceeds M w (at_places q w places (p + 2)) j w' → Exceeds M w₀ (product (sections_of b) p q w₀) w'
    too_wide e = record {
      same_length = e.same_length ∙ inv.so_far.same_length;
      line = e.line;
      place = j;
      line-below = e.line-below;
      place-below = l;
      beyond = subst (λ (z : ℤ). entry_limit < nat_abs z) (entry-is e.line) e.beyond;
    }

-- a section with cells is one of the sheet's
dimension : (b : List ℕ) (p j : ℕ) → j < count (sections_of b) (suc p) → p < top
dimension b p j l = omega (arith, count_field-below b (suc p) j (rw (count-sections_of b (suc p)) at l))

-- cell j is one of the section's
module _ (c : In-loop-j) where
  abbrev start : Start
  start = (goal.at.In-loop-j c).Start

  cell_below : c.loop-j.j < count (sections_of start.args.s.now) (suc start.args.p)
  cell_below = omega (arith, c.loop-j-test.true, start.requires.width_value.1)

  inside : start.args.p < top
  inside = dimension start.args.s.now start.args.p c.loop-j.j (omega (arith, c.loop-j-test.true, start.requires.width_value.1))

pub face_places-requires : goal.face_places-requires
face_places-requires c =
    let turn = (goal.at.face_places-requires c).In-loop-j in record { accepted = (start turn).requires.accepted; p_lt_top = (inside turn, cell_below turn) }

-- its faces have their places
faced : (c : After-face_places) →
    let args = (start (goal.at.After-face_places c).In-loop-j).args in Faced args.s.now args.p args.q c.loop-j.j c.face_places.new.places
faced c =
    let turn = (goal.at.After-face_places c).In-loop-j in let known = (goal.at.In-loop-j turn).Start in
    record {
      sheet = complex (record { small = λ i. (c.type_inv.s i).fits }) known.requires.accepted;
      rows = known.requires.width_value.0;
      below = cell_below turn;
      faces = c.face_places.ensures;
    }

pub overflow_add-p : goal.overflow_add-p
overflow_add-p c = omega (arith, inside (goal.at.overflow_add-p c).In-loop-j)

pub multiply_column-requires : goal.multiply_column-requires
multiply_column-requires c =
    let f = faced (goal.at.multiply_column-requires c).After-face_places in let turn = (goal.at.multiply_column-requires c).In-loop-j in
    let head = turn.loop-j in let pre = (start turn).requires in
    record {
      lines_value = (pre.width_value.2, turn.loop-j-test.true, omega (arith, inside turn));
      by_index = λ t l. omega (arith, (f.faces.face t (omega arith)).below, f.rows);
      held = (record { ends = omega (arith, pre.held.0.ends, head.invariant.so_far.same_length) }, pre.held.1, head.invariant.bounded);
    }

module _ (c : After-multiply_column) where
  abbrev facing : After-face_places
  facing = (goal.at.After-multiply_column c).After-face_places

  abbrev turn : In-loop-j
  turn = (goal.at.After-face_places facing).In-loop-j

pub returns-in_err-largest : goal.returns-in_err-largest
returns-in_err-largest c =
    let called = (goal.at.returns-in_err-largest c).After-multiply_column in
    let p = err_from_is_err_and c.from_residual.result c.from_residual.ensures.1 in
    rw p.1
    (too_wide (turn called).loop-j.invariant (start (turn called)).requires.held.1 (faced (facing called)) (turn called).loop-j-test.true c.in_err-largest.ensures)

pub loop-j-preserved : goal.loop-j-preserved
loop-j-preserved c =
    let called = (goal.at.loop-j-preserved c).After-multiply_column in
    more (turn called).loop-j.invariant (start (turn called)).requires.held.1 (faced (facing called)) (turn called).loop-j-test.true c.in_ok-largest.ensures

pub returns : goal.returns
returns c = ended c.loop-j.invariant c.loop-j-test.false
