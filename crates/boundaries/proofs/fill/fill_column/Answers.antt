use mathlib.Core.Path.{◌≡◌, refl, sym, ap, subst, ◌∙◌}
use mathlib.Core.List.{List}
use Prim.Native.Nat.{ℕ, suc, ◌+◌, ◌<◌, ◌≤◌}
use native.Mathlib.Omega.{arith}
use lib.ListN.{length, get_or, take, set, length-take}
use Rattle.std.proofs.lemmas.List.{get_or-take, length-take-le}
use mir.Syntax.{w8}
use mir.Val.{Fits}
use lib.IntN.{ℤ}
use Rattle.integers.proofs.Ring.{zero-add}
use Rattle.matrices.specs.Matrix.{null}
use Rattle.complexes.specs.Complex.{count, cell, Complex}
use Rattle.complexes.specs.Boundary.{sign, boundary}
use Rattle.sheet_format.specs.Layout.{top}
use Rattle.sheet_format.specs.Check.{sections_of}
use Rattle.limits.specs.Limits.{library_limit}
use Rattle.matrix_lines.specs.Slice.{line_at}
use Rattle.matrix_lines.specs.Matrices.{Held, contents}
use Rattle.matrix_lines.specs.declared.matrix.Matrix.{Matrix}
use Rattle.faces.specs.Face.{IsFace}
use Rattle.boundaries.specs.Filled.{ColumnFilled}
use Rattle.faces.proofs.Sheet.{complex}
use Rattle.faces.proofs.Column.{entry, part_none, part-face, part-other, part-fresh, part-all}
use Rattle.boundaries.proofs.Store.{Place, entry_set, column-set}
use Rattle.faces.proofs.Signs.{sign-cast, sign-entry}
use Rattle.boundaries.proofs.fill.fill_column.Invariants.{Invariant}
use Rattle.boundaries.proofs.fill.fill_column.Goals as goal
use Rattle.boundaries.proofs.fill.fill_column.Goals.{Start, After-face_places, At-loop-t, In-loop-t}

-- what the function is given
record Given (b : List ℕ) (p : ℕ) (M : Matrix) (w₀ : List ℤ) (j : ℕ) : Type 0 where
  sheet : Complex top library_limit (sections_of b)
  inside : p < top
  lines : M.lines ≡ count (sections_of b) p
  columns : M.width ≡ count (sections_of b) (suc p)
  below : j < M.width
  held : Held (length w₀) M
  zero : (i : ℕ) → i < M.lines → contents M w₀ i j ≡ null i j

module _ {b : List ℕ} {p : ℕ} {M : Matrix} {w₀ : List ℤ} {j : ℕ} (given : Given b p M w₀ j) where
  cell_below : j < count (sections_of b) (suc p)
  cell_below = omega (arith, given.below, given.columns)

  begun : Invariant b p M w₀ j w₀ 0
  unfolding null
  begun = record {
    within = omega arith;
    so_far = record {
      same_length = refl;
      on = λ i l. given.zero i l ∙ sym (part_none (cell (sections_of b) (suc p) j) (cell (sections_of b) p i));
      beside = λ i k l m d. refl;
      off = λ i o. refl;
    };
  }

  -- the place of the entry for a face
  entry_place : {t r place : ℕ} → IsFace b p j t r → place ≡ line_at M.at M.width r + j → Place M (length w₀) r j place
  entry_place face e = record { held = given.held; line = omega (arith, face.below, given.lines); column = given.below; is = e }

  module _ {w : List ℤ} {t : ℕ} (inv : Invariant b p M w₀ j w t) where
    more : t < p + 2 → {r place : ℕ} → IsFace b p j t r → Place M (length w₀) r j place → Invariant b p M w₀ j (set w place (sign t)) (t + 1)
    more l {r} {place} face e = record {
      within = omega arith;
      so_far = column-set (entry_set e w (sign t) inv.so_far.same_length)
          (λ i k. entry b p k (t + 1) i) on inv.so_far (λ a k d. part-other b given.sheet p j cell_below t r face a (omega (arith, given.lines)) d)
          given.below;
    }
      where
        on : entry b p j (t + 1) r ≡ sign t
        on =
            part-face b given.sheet p j cell_below t r face
            ∙ rw (part-fresh b given.sheet p j cell_below t r face (omega arith)) (zero-add (sign t))

    ended : p + 2 ≤ t → ColumnFilled M w₀ (boundary (sections_of b) (suc p)) j w
    ended done = record {
      same_length = inv.so_far.same_length;
      on = λ i l. inv.so_far.on i l ∙ ap (λ (n : ℕ). entry b p j n i) all ∙ sym (part-all b given.sheet p j cell_below i);
      beside = inv.so_far.beside;
      off = inv.so_far.off;
    }
      where
        all : t ≡ suc (suc p)
        all = omega (arith, inv.within)

given : (c : Start) → ((i : ℕ) → Fits w8 (get_or c.args.s.now i 0)) →
    let args = c.args in Given args.s.now args.p args.m args.w.now args.j
given c words =
    let pre = c.requires in
    record {
      sheet = complex (record { small = λ i. (words i).fits }) pre.accepted.0;
      inside = pre.accepted.1;
      lines = pre.lines_value.0;
      columns = pre.lines_value.1;
      below = pre.lines_value.2;
      held = pre.held;
      zero = pre.by_index;
    }

pub loop-t-init : goal.loop-t-init
loop-t-init c = begun (given (goal.at.loop-t-init c).Start c.type_inv.s)

-- a turn
module _ (c : In-loop-t) where
  abbrev head : At-loop-t
  head = (goal.at.In-loop-t c).At-loop-t

  abbrev known : Start
  known = (goal.at.At-loop-t head).Start

  abbrev places : List ℕ
  places = head.face_places.new.places

  known_given : let args = known.args in Given args.s.now args.p args.m args.w.now args.j
  known_given = given known c.type_inv.s

  more-faces : head.loop-t.t < known.args.p + 2
  more-faces = omega (arith, c.loop-t-test.true, length-take (known.args.p + 2) places)

  -- the place of face t
  abbrev row : ℕ
  row = get_or (take (known.args.p + 2) places) head.loop-t.t 0

  face : let args = known.args in IsFace args.s.now args.p args.j head.loop-t.t row
  face = rw (get_or-take (known.args.p + 2) places head.loop-t.t 0 more-faces) (head.face_places.ensures.face head.loop-t.t (omega (arith, more-faces)))

pub overflow_cast-w : goal.overflow_cast-w
overflow_cast-w c = sign-cast c.sign.result c.loop-t.t c.sign.ensures

pub loop-t-preserved : goal.loop-t-preserved
loop-t-preserved c =
    let turn = (goal.at.loop-t-preserved c).In-loop-t in let loop = (head turn).loop-t in let args = (known turn).args in
    subst (λ (v : ℤ). Invariant args.s.now args.p args.m args.w.now args.j (set loop.w (c.line.result + args.j) v) (loop.t + 1))
    (sym (sign-entry c.sign.result loop.t c.sign.ensures))
    (more (known_given turn) loop.invariant (more-faces turn) (face turn) (entry_place (known_given turn) (face turn) (omega (arith, c.line.ensures))))

pub returns : goal.returns
returns c =
    let called = (goal.at.returns c).After-face_places in
    let p = called.args.p in
    ended (given (goal.at.After-face_places called).Start called.type_inv.s) c.loop-t.invariant
    (omega (arith, c.loop-t-test.false, length-take-le (p + 2) called.face_places.new.places (omega (arith, called.requires.accepted.1, called.face_places.ensures.sized))))
