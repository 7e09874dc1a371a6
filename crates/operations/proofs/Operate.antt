-- An operation on a side of the matrix: first the matrix, then the side's follower and its inverse companion. `wide-matrix` and `comes`
-- tell what the answers make together: the operation, then the check of the limit. `companions-ready`: what the companions' call asks.
use mathlib.Core.Path.{◌≡◌, refl, sym, ap, subst, ◌∙◌}
use mathlib.Core.Logic.{◌⊎◌, inl, inr}
use mathlib.Core.Bool.{true, false≢true}
use mathlib.Core.List.{List}
use Prim.Native.Nat.{ℕ, ◌+◌, ◌≤◌, ◌<◌, max}
use native.Mathlib.Nat as NatL
use native.Mathlib.Omega.{arith}
use borrow.Author.Tests.{le-leb, lt-leb}
use lib.IntN.{ℤ, nat_abs}
use lib.ListN.{length}
use Rattle.std.specs.Prelude.{Result, Ok, Err, IsErr}
use Rattle.matrices.specs.Matrix.{Eq}
use Rattle.matrices.specs.Matrix as theory
use Rattle.matrices.specs.Operation.{Operation, on_rows, inverse}
use Rattle.matrices.proofs.OperationLaws.{on_rows-ext, on_columns-ext}
use Rattle.matrices.specs.Within.{Within, Within-inverse}
use Rattle.reduction_steps.specs.Table.{Table, entry, table, table_largest}
use Rattle.reduction_steps.specs.State.{State, made, too_wide, largest, noted, within, checked}
use Rattle.reduction_laws.specs.Tables.{entry-table, table-ext, Eq-table, table_largest-table}
use Rattle.matrix_lines.specs.Slice.{entry_limit, line_at, Under, Bounded, Covered}
use Rattle.matrix_lines.specs.Matrices.{Held, contents, Entries, EntryOf, Exceeds, Became}
use Rattle.elementary_operations.specs.Operations.{Fits, Writes, OnLines}
use Rattle.matrix_lines.proofs.Peaks.{covered-trans, under-covered}
use Rattle.reduction_laws.specs.Shape.{lines_anew}
use Rattle.matrix_lines.specs.declared.matrix.Matrix.{Matrix}
use Rattle.matrix_lines.specs.declared.line.TooWide.{TooWide}
use Rattle.operations.specs.Laid.{Laid, lines_of, state_of, Operated, Followed}
use Rattle.operations.specs.declared.workspace.Workspace.{Workspace}
use Rattle.operations.proofs.Regions.{disjoint-sym, Kept, kept_refl, kept_trans, contents-off, lines-off, lines-on, shaped}
use Rattle.operations.proofs.Side.{Side, rows, columns, across, written, SideEntry, count, follower, undone, on_side, outcome_on, put, state-put, noted-put, outcome-put, Largest, largest-put, largest-peak, Separate, separate, follower-lines, undone-lines, follower-inside, undone-inside, follower-fits, undone-fits}

-- ---- the check of the limit

checked-made : (s : State) → largest s ≤ entry_limit → checked entry_limit s ≡ made s
unfolding checked within
checked-made s l = rw (le-leb (largest s) entry_limit l)

checked-wide : (s : State) → entry_limit < largest s → checked entry_limit s ≡ too_wide
unfolding checked within
checked-wide s l = rw (lt-leb (largest s) entry_limit l)

lines-largest : (M : Matrix) {peak : ℕ} {w : List ℤ} → Under peak w → table_largest (lines_of M w) ≤ peak
unfolding lines_of
lines-largest M {peak} {w} h = (table_largest-table peak M.lines M.width (contents M w)).1 (λ i j a b. h.bound (line_at M.at M.width i + j))

-- what the slice holds lies within the peak
pub largest-under : (W : Workspace) {peak : ℕ} {w : List ℤ} (p : ℕ) → Under peak w → largest (state_of W p w) ≤ peak
unfolding largest
largest-under W p h =
    NatL.max-le (lines-largest W.matrix h)
    (NatL.max-le (lines-largest W.row_follower h)
    (NatL.max-le (lines-largest W.row_inverse h)
    (NatL.max-le (lines-largest W.column_follower h) (lines-largest W.column_inverse h))))

pub within-under : (W : Workspace) {peak : ℕ} {w : List ℤ} → Under peak w → within entry_limit (state_of W peak w) ≡ true
unfolding within
within-under W {peak} {w} h = le-leb (largest (state_of W peak w)) entry_limit (NatL.le_trans (largest-under W peak h) h.limit)

-- an entry of a table is no larger than the largest
entry-under : (M : Matrix) (A : theory.Matrix) (i j : ℕ) → i < M.lines → j < M.width → nat_abs (A i j) ≤ table_largest (shaped M A)
entry-under M A = (table_largest-table (table_largest (shaped M A)) M.lines M.width A).0 (NatL.le_refl (table_largest (shaped M A)))

exceeds-largest : {M : Matrix} {w w' : List ℤ} {A : theory.Matrix} → Exceeds M w A w' → entry_limit < table_largest (shaped M A)
exceeds-largest {M} {A = A} h = NatL.lt_of_lt_of_le h.beyond (entry-under M A h.line h.place h.line-below h.place-below)

-- ---- the tables of the new state

matrix-table :
    (x : Side) (W : Workspace) (op : Operation) → Within (count x W) op → (w : List ℤ)
    → table W.matrix.lines W.matrix.width (on_side x op (entry (lines_of W.matrix w))) ≡ shaped W.matrix (on_side x op (contents W.matrix w))
unfolding lines_of
matrix-table rows W op f w = table-ext (on_rows-ext op f (Eq-table W.matrix.lines W.matrix.width (contents W.matrix w)))
matrix-table columns W op f w = table-ext (on_columns-ext op f (Eq-table W.matrix.lines W.matrix.width (contents W.matrix w)))

-- a companion's lines, where the slice w' still has them as w has
companion-table :
    (M : Matrix) (m : ℕ) (op : Operation) → M.lines ≡ m → Within m op
    → {w w' : List ℤ} → Kept M w w'
    → lines_anew m M.width op (lines_of M w) ≡ shaped M (on_rows op (contents M w'))
unfolding lines_of
companion-table M m op e f {w} {w'} h = subst Same e here
  where
    Same : ℕ → Type 0
    Same k = table k M.width (on_rows op (entry (table M.lines M.width (contents M w)))) ≡ shaped M (on_rows op (contents M w'))

    f' : Within M.lines op
    f' = subst (λ (k : ℕ). Within k op) (sym e) f

    same : Eq M.lines M.width (entry (table M.lines M.width (contents M w))) (contents M w')
    same = record { at = λ i j a b. entry-table M.lines M.width (contents M w) i j a b ∙ sym (h.same.at i j a b) }

    here : Same M.lines
    here = table-ext (on_rows-ext op f' same)

-- ---- the three calls

module _ (x : Side) (op : Operation) (W : Workspace) where
  -- the call on the matrix, which leaves w₁, the one on the follower, which leaves w₂, and the one on the inverse companion
  abbrev pub OnMatrix : List ℤ → Result ℕ TooWide → List ℤ → Type 0
  OnMatrix w r w₁ = Became W.matrix w (written x op) (on_side x op (contents W.matrix w)) 0 r w₁

  abbrev pub OnFollower : List ℤ → ℕ → Result ℕ TooWide → List ℤ → Type 0
  OnFollower w₁ before r w₂ = OnLines (follower x W) w₁ op before r w₂

  abbrev pub OnUndone : List ℤ → ℕ → Result ℕ TooWide → List ℤ → Type 0
  OnUndone w₂ before r w₃ = OnLines (undone x W) w₂ (inverse op) before r w₃

  -- the tables that they make
  abbrev new_matrix : List ℤ → Table
  new_matrix w = shaped W.matrix (on_side x op (contents W.matrix w))

  abbrev new_follower : List ℤ → Table
  new_follower w₁ = shaped (follower x W) (on_rows op (contents (follower x W) w₁))

  abbrev new_undone : List ℤ → Table
  new_undone w₂ = shaped (undone x W) (on_rows (inverse op) (contents (undone x W) w₂))

  -- before the peak takes them in
  abbrev new_state : ℕ → List ℤ → List ℤ → List ℤ → State
  new_state peak w w₁ w₂ =
      put x (new_matrix w) (new_follower w₁) (new_undone w₂) (lines_of (follower (across x) W) w) (lines_of (undone (across x) W) w) peak

-- what the companions' call asks
pub record Companions (F U : Matrix) (op : Operation) (before : ℕ) (w : List ℤ) : Type 0 where
  pub follower-held : Held (length w) F
  pub inverse-held : Held (length w) U
  pub bounded : Bounded before w
  pub follower-fits : Fits F.lines op
  pub inverse-fits : Fits U.lines (inverse op)

-- an entry of A stands in the slice
entry-stands :
    {M : Matrix} {among : Entries} (w : List ℤ) {A : theory.Matrix} {n m : ℕ} → Eq M.lines M.width (contents M w) A → m ≡ n → EntryOf M among A n
    → EntryOf M among (contents M w) m
entry-stands w on e o = record {
  line = o.line;
  place = o.place;
  line-below = o.line-below;
  place-below = o.place-below;
  chosen = o.chosen;
  is = e ∙ o.is ∙ ap nat_abs (sym (on.at o.line o.place o.line-below o.place-below));
}

-- and the slice after another change
stands_on : {M : Matrix} {w w' : List ℤ} {A : theory.Matrix} → Kept M w w' → Eq M.lines M.width (contents M w) A → Eq M.lines M.width (contents M w') A
stands_on kept on = record { at = λ i j a b. kept.same.at i j a b ∙ on.at i j a b }

-- an answer is no larger than a bound of what was written
no-larger : {M : Matrix} {among : Entries} {A : theory.Matrix} {before n L : ℕ} → (n ≡ before) ⊎ EntryOf M among A n → before ≤ L
    → ((i j : ℕ) → i < M.lines → j < M.width → nat_abs (A i j) ≤ L) → n ≤ L
no-larger (inl e) l all = NatL.le_trans (NatL.le_of_eq e) l
no-larger (inr o) l all = NatL.le_trans (NatL.le_of_eq o.is) (all o.line o.place o.line-below o.place-below)

module _ (x : Side) (op : Operation) (W : Workspace) (w : List ℤ) (l : Laid (length w) W) (f : Within (count x W) op) where
  apart : Separate W.matrix (follower x W) (undone x W) (follower (across x) W) (undone (across x) W)
  apart = separate l x

  -- where the slices w₁ and w₂ still have the side's companions as w has
  outcome-is :
      (peak : ℕ) {w₁ w₂ : List ℤ} → Kept (follower x W) w w₁ → Kept (undone x W) w w₂
      → outcome_on x W op (state_of W peak w) ≡ checked entry_limit (noted (new_state x op W peak w w₁ w₂))
  outcome-is peak h k =
      outcome-put x l op peak w
      ∙ cc (
        matrix-table x W op f w,
        companion-table (follower x W) (count x W) op (follower-lines l x) f h,
        companion-table (undone x W) (count x W) (inverse op) (undone-lines l x) (Within-inverse (count x W) op f) k,
      )

  module _ (peak : ℕ) (w₁ w₂ : List ℤ) where
    -- the largest entry of the new state
    abbrev reached : ℕ
    reached = largest (new_state x op W peak w w₁ w₂)

    parts : Largest (table_largest (new_matrix x op W w)) (table_largest (new_follower x op W w₁)) (table_largest (new_undone x op W w₂)) reached
    parts =
        largest-put x (new_matrix x op W w) (new_follower x op W w₁) (new_undone x op W w₂) (lines_of (follower (across x) W) w) (lines_of (undone (across x) W) w)
        peak

  goes-wide :
      (peak : ℕ) {w₁ w₂ : List ℤ} → Kept (follower x W) w w₁ → Kept (undone x W) w w₂ → entry_limit < reached peak w₁ w₂
      → too_wide ≡ outcome_on x W op (state_of W peak w)
  goes-wide peak {w₁} {w₂} h k e = sym (outcome-is peak h k ∙ checked-wide (noted (new_state x op W peak w w₁ w₂)) (subst (λ (n : ℕ). entry_limit < n) same e))
    where
      same : reached peak w₁ w₂ ≡ largest (noted (new_state x op W peak w w₁ w₂))
      same =
          largest-peak x (new_matrix x op W w) (new_follower x op W w₁) (new_undone x op W w₂) (lines_of (follower (across x) W) w) (lines_of (undone (across x) W) w)
          peak (max peak (reached peak w₁ w₂))
          ∙ ap largest (sym (noted-put x (new_matrix x op W w) (new_follower x op W w₁) (new_undone x op W w₂) (lines_of (follower (across x) W) w) (lines_of (undone (across x) W) w) peak))

  -- what the operation answers and leaves
  abbrev Comes' : Result ℕ TooWide → List ℤ → Type 0
  Comes' r w' = Operated W (λ peak. outcome_on x W op (state_of W peak w)) (SideEntry x W op) w r w'

  wide-first : {e : TooWide} {w₁ : List ℤ} → OnMatrix x op W w (Err e) w₁ → Comes' (Err e) w₁
  wide-first h = record {
    outcome = λ peak u.
        goes-wide peak (kept_refl (follower x W) w) (kept_refl (undone x W) w) (NatL.lt_of_lt_of_le (exceeds-largest h) (parts peak w w).matrix);
    answer = tt;
  }

  wide-second : {e : TooWide} {w₁ w₂ : List ℤ} {a : ℕ} → OnMatrix x op W w (Ok a) w₁ → OnFollower x op W w₁ a (Err e) w₂ → Comes' (Err e) w₂
  wide-second {w₁} h k = record {
    outcome = λ peak u.
        goes-wide peak (contents-off apart.ab h) (kept_refl (undone x W) w) (NatL.lt_of_lt_of_le (exceeds-largest k) (parts peak w₁ w).follower);
    answer = tt;
  }

  pub ends :
      {w₁ w₂ w₃ : List ℤ} {a b : ℕ} → OnMatrix x op W w (Ok a) w₁ → OnFollower x op W w₁ a (Ok b) w₂ → (r : Result ℕ TooWide)
      → OnUndone x op W w₂ b r w₃ → Comes' r w₃
  ends {w₁} {w₂} {w₃} h k (Err e) g = record {
    outcome = λ peak u.
        goes-wide peak (contents-off apart.ab h) (kept_trans (contents-off apart.ac h) (contents-off apart.bc k))
        (NatL.lt_of_lt_of_le (exceeds-largest g) (parts peak w₁ w₂).undone);
    answer = tt;
  }
  ends {w₁} {w₂} {w₃} {a} {b} h k (Ok d) g = record {
    outcome = λ peak u.
        sym
        (outcome-is peak (contents-off apart.ab h) (kept_trans (contents-off apart.ac h) (contents-off apart.bc k))
        ∙ ap (checked entry_limit) (sym (state-is peak u))
        ∙ checked-made (state_of W (max peak d) w₃) (NatL.le_trans (largest-under W (max peak d) (now-under peak u)) (now-under peak u).limit));
    answer = record { bounded = g.bounded; covered = all-covered; attained = pick g.wrote k.wrote h.wrote };
  }
    where
      A : Table
      A = new_matrix x op W w

      B : Table
      B = new_follower x op W w₁

      C : Table
      C = new_undone x op W w₂

      D : Table
      D = lines_of (follower (across x) W) w

      E : Table
      E = lines_of (undone (across x) W) w

      all-covered : Covered w w₃ d
      all-covered = covered-trans (covered-trans h.covered k.covered k.above) g.covered g.above

      -- the answer is 0 or that of an entry that one of the calls wrote
      pick : (d ≡ b) ⊎ EntryOf (undone x W) (λ i j. Writes (inverse op) i) (on_rows (inverse op) (contents (undone x W) w₂)) d
          → (b ≡ a) ⊎ EntryOf (follower x W) (λ i j. Writes op i) (on_rows op (contents (follower x W) w₁)) b
          → (a ≡ 0) ⊎ EntryOf W.matrix (written x op) (on_side x op (contents W.matrix w)) a → (d ≡ 0) ⊎ SideEntry x W op w₃ d
      pick (inr o) p q = inr (inr (inr (entry-stands w₃ g.on refl o)))
      pick (inl e) (inr o) q = inr (inr (inl (entry-stands w₃ (stands_on (contents-off (disjoint-sym apart.bc) g) k.on) e o)))
      pick (inl e) (inl p) (inr o) =
          inr (inl
          (entry-stands w₃ (stands_on (contents-off (disjoint-sym apart.ac) g) (stands_on (contents-off (disjoint-sym apart.ab) k) h.on)) (e ∙ p) o))
      pick (inl e) (inl p) (inl q) = inl (e ∙ p ∙ q)

      now-under : (peak : ℕ) → Under peak w → Under (max peak d) w₃
      now-under peak u = under-covered u all-covered g.bounded

      -- the tables are those that the calls made, or kept
      tables : (p : ℕ) → state_of W p w₃ ≡ put x A B C D E p
      tables p =
          state-put x W p w₃
          ∙ cc (
            lines-off (disjoint-sym apart.ac) g ∙ lines-off (disjoint-sym apart.ab) k ∙ lines-on h,
            lines-off (disjoint-sym apart.bc) g ∙ lines-on k,
            lines-on g,
            lines-off apart.cd g ∙ lines-off apart.bd k ∙ lines-off apart.ad h,
            lines-off apart.ce g ∙ lines-off apart.be k ∙ lines-off apart.ae h,
          )

      matrix-least : (peak : ℕ) → a ≤ reached peak w₁ w₂
      matrix-least peak =
          no-larger h.wrote (omega arith)
          (λ i j p q. NatL.le_trans (entry-under W.matrix (on_side x op (contents W.matrix w)) i j p q) (parts peak w₁ w₂).matrix)

      follower-least : (peak : ℕ) → b ≤ reached peak w₁ w₂
      follower-least peak =
          no-larger k.wrote (matrix-least peak)
          (λ i j p q. NatL.le_trans (entry-under (follower x W) (on_rows op (contents (follower x W) w₁)) i j p q) (parts peak w₁ w₂).follower)

      undone-least : (peak : ℕ) → d ≤ reached peak w₁ w₂
      undone-least peak =
          no-larger g.wrote (follower-least peak)
          (λ i j p q. NatL.le_trans (entry-under (undone x W) (on_rows (inverse op) (contents (undone x W) w₂)) i j p q) (parts peak w₁ w₂).undone)

      reached-under : (peak : ℕ) → Under peak w → reached peak w₁ w₂ ≤ max peak d
      reached-under peak u = subst (λ (s : State). largest s ≤ max peak d) (tables peak) (largest-under W peak (now-under peak u))

      -- the larger one of the peak and the answer is the larger one of the peak and the largest entry now
      peak-is : (peak : ℕ) → Under peak w → max peak d ≡ max peak (reached peak w₁ w₂)
      peak-is peak u =
          NatL.le_antisymm
          (NatL.max-le (NatL.le-max_left peak (reached peak w₁ w₂)) (NatL.le_trans (undone-least peak) (NatL.le-max_right peak (reached peak w₁ w₂))))
          (NatL.max-le (NatL.le-max_left peak d) (reached-under peak u))

      state-is : (peak : ℕ) → Under peak w → state_of W (max peak d) w₃ ≡ noted (new_state x op W peak w w₁ w₂)
      state-is peak u = tables (max peak d) ∙ ap (λ (p : ℕ). put x A B C D E p) (peak-is peak u) ∙ sym (noted-put x A B C D E peak)

-- ---- the same, as the code finds the answers: each call's result r with what it turned out to be

-- an operation that is called on a slice
pub record Task : Type 0 where
  pub side : Side
  pub operation : Operation
  pub workspace : Workspace
  pub slice : List ℤ
  pub laid : Laid (length slice) workspace
  pub fits : Fits (count side workspace) operation

-- what the operation answers and leaves
abbrev pub Comes : Task → Result ℕ TooWide → List ℤ → Type 0
Comes t r w' =
    Operated t.workspace (λ peak. outcome_on t.side t.workspace t.operation (state_of t.workspace peak t.slice))
    (SideEntry t.side t.workspace t.operation) t.slice r w'

-- the call on the matrix, as the code finds its answer
pub record MatrixCalled : Type 0 where
  pub task : Task
  pub left : List ℤ
  pub result : Result ℕ TooWide
  pub became : OnMatrix task.side task.operation task.workspace task.slice result left

module _ (c : MatrixCalled) where
  abbrev t : Task
  t = c.task

  turned : (r : Result ℕ TooWide) → c.result ≡ r → OnMatrix t.side t.operation t.workspace t.slice r c.left
  turned r e = subst (λ (x : Result ℕ TooWide). OnMatrix t.side t.operation t.workspace t.slice x c.left) e c.became

  -- the matrix goes too wide
  pub wide-matrix : {e : TooWide} → c.result ≡ Err e → (r : Result ℕ TooWide) → IsErr r → Comes t r c.left
  wide-matrix {e} is (Ok x) wide = absurd (false≢true wide)
  wide-matrix {e} is (Err d) wide = wide-first t.side t.operation t.workspace t.slice t.laid t.fits.within (turned (Err e) is)

  module _ {a : ℕ} (e : c.result ≡ Ok a) where
    -- what the companions' call asks
    pub companions-ready : Companions (follower t.side t.workspace) (undone t.side t.workspace) t.operation a c.left
    companions-ready = record {
      follower-held = record { ends = rw (turned (Ok a) e).same_length (follower-inside t.laid t.side) };
      inverse-held = record { ends = rw (turned (Ok a) e).same_length (undone-inside t.laid t.side) };
      bounded = (turned (Ok a) e).bounded;
      follower-fits = follower-fits t.laid t.side t.fits;
      inverse-fits = undone-fits t.laid t.side t.fits;
    }

    -- a companion goes too wide, or all is done
    pub comes :
        {r : Result ℕ TooWide} {w₃ : List ℤ} → Followed (follower t.side t.workspace) (undone t.side t.workspace) t.operation a c.left r w₃
        → Comes t r w₃
    comes (Followed.stopped h) = wide-second t.side t.operation t.workspace t.slice t.laid t.fits.within (turned (Ok a) e) h
    comes (Followed.followed h r g) = ends t.side t.operation t.workspace t.slice t.laid t.fits.within (turned (Ok a) e) h r g
