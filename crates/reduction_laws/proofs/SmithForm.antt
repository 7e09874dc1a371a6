-- A reduction that is done leaves the Smith diagonal of the matrix that it was given, its rank, and companions carried by the transforms:
-- reduce-smith.
use mathlib.Core.Path.{◌≡◌, sym, ◌∙◌, ap, subst}
use mathlib.Core.Logic.{◌≢◌}
use mathlib.Core.Bool.{true}
use Prim.Native.Nat.{ℕ, suc, ◌≤◌, ◌<◌, min}
use native.Mathlib.Omega.{arith}
use native.Mathlib.Decide.{dec_lt, ℕ_discrete}
use lib.IntN.{ℤ, pos}
use lib.Signed.{◌≤ℤ◌, ◌<ℤ◌, <ℤ_irrefl}
use Rattle.integers.proofs.Order.{le_of_lt, le_refl}
use Rattle.integers.proofs.Divides.{dvd-zero}
use Rattle.integers.specs.Division.{◌∣ℤ◌}
use Rattle.matrices.specs.Matrix.{Matrix, Eq, mul, transpose}
use Rattle.matrices.proofs.Product.{Eq-sym, Eq-trans}
use Rattle.smith.proofs.Certificate.{Smith, diagonal}
use Rattle.smith.proofs.Diagonal.{diagonal-at, diagonal-other}
use Rattle.smith.proofs.Rank.{IsRank}
use Rattle.reduction_steps.specs.Table.{entry}
use Rattle.reduction_steps.specs.State.{Sizes, State, within}
use Rattle.reduction_steps.specs.Pivot.{Rule, IsRule}
use Rattle.reduction_steps.specs.Step.{done, enough, reduce}
use Rattle.reduction_laws.specs.Bounded.{Bounded}
use Rattle.reduction_laws.specs.Shape.{Shaped, shaped-bounded}
use Rattle.reduction_laws.specs.Moves.{Moves}
use Rattle.reduction_laws.proofs.Leading.{Leading}
use Rattle.reduction_laws.proofs.Stage.{Finished}
use Rattle.reduction_laws.proofs.Tracked.{Tracked}
use Rattle.reduction_laws.proofs.Reached.{reached-holds}

-- the diagonal of the state's matrix, 0 past the smaller side
abbrev pub diagonal_of : State → ℕ → ℤ
diagonal_of s i = entry s.matrix i i

-- s is reduced to t with rank r. U and C are the row and the column transform, Ui and Ci their inverses. The lines of `row_inverse` and
-- `column_follower` are columns, so these two stand transposed.
pub record Reduced (limit : ℕ) (z : Sizes) (s : State) (r : ℕ) (t : State) : Type 0 where
  pub U : Matrix
  pub Ui : Matrix
  pub C : Matrix
  pub Ci : Matrix
  pub smith : Smith z.rows z.columns (entry s.matrix) (diagonal_of t) U Ui C Ci
  pub form : Eq z.rows z.columns (entry t.matrix) (diagonal (diagonal_of t))
  pub rank : IsRank (diagonal_of t) r
  pub bound : r ≤ min z.rows z.columns
  pub shaped : Shaped z t
  pub within : within limit t ≡ true
  pub moves : Moves limit z 0 s t
  pub row_follower : Eq z.rows z.row_follower (entry t.row_follower) (mul z.rows U (entry s.row_follower))
  pub row_inverse : Eq z.row_inverse z.rows (transpose (entry t.row_inverse)) (mul z.rows (transpose (entry s.row_inverse)) Ui)
  pub column_follower : Eq z.column_follower z.columns (transpose (entry t.column_follower)) (mul z.columns (transpose (entry s.column_follower)) C)
  pub column_inverse : Eq z.columns z.column_inverse (entry t.column_inverse) (mul z.columns Ci (entry s.column_inverse))

-- ---- the form

module _ {m n r : ℕ} {A : Matrix} (lead : Leading m n r A) (zeros : (i j : ℕ) → r ≤ i → i < m → r ≤ j → j < n → A i j ≡ pos 0) where
  off-diagonal : (i j : ℕ) → i < m → j < n → i ≢ j → Dec (i < r) → Dec (j < r) → A i j ≡ pos 0
  off-diagonal i j a b d (yes p) (yes q) = lead.diagonal i j p q d
  off-diagonal i j a b d (yes p) (no q) = lead.rows_done.zero i j p (omega arith) b
  off-diagonal i j a b d (no p) (yes q) = lead.columns_done.zero i j q (omega arith) a
  off-diagonal i j a b d (no p) (no q) = zeros i j (omega arith) a (omega arith) b

  leading-form : Eq m n A (diagonal (λ i. A i i))
  leading-form = record { at = λ i j a b. go i j a b (ℕ_discrete i j) }
    where
      go : (i j : ℕ) → i < m → j < n → Dec (i ≡ j) → A i j ≡ diagonal (λ x. A x x) i j
      go i j a b (yes e) = ap (λ (x : ℕ). A i x) (sym e) ∙ sym (diagonal-at (λ x. A x x) i) ∙ ap (λ (x : ℕ). diagonal (λ y. A y y) i x) e
      go i j a b (no e) = off-diagonal i j a b e (dec_lt i r) (dec_lt j r) ∙ sym (diagonal-other (λ x. A x x) i j e)

  module _ (bounded : Bounded m n A) where
    leading-beyond : (i : ℕ) → min m n ≤ i → A i i ≡ pos 0
    leading-beyond i l = go (dec_lt i m)
      where
        go : Dec (i < m) → A i i ≡ pos 0
        go (yes a) = bounded.right i i (omega arith)
        go (no a) = bounded.below i i (omega arith)

    leading_zeros : (i : ℕ) → r ≤ i → A i i ≡ pos 0
    leading_zeros i l = go (dec_lt i m) (dec_lt i n)
      where
        go : Dec (i < m) → Dec (i < n) → A i i ≡ pos 0
        go (yes a) (yes b) = zeros i i l a l b
        go (yes a) (no b) = bounded.right i i (omega arith)
        go (no a) b = bounded.below i i (omega arith)

    leading-rank : IsRank (λ i. A i i) r
    leading-rank = record { nonzero = λ i l e. <ℤ_irrefl (subst (λ (x : ℤ). pos 0 <ℤ x) e (lead.positive i l)); zeros = leading_zeros }

    leading-nonneg : (i : ℕ) → pos 0 ≤ℤ A i i
    leading-nonneg i = go (dec_lt i r)
      where
        go : Dec (i < r) → pos 0 ≤ℤ A i i
        go (yes l) = le_of_lt (lead.positive i l)
        go (no l) = subst (λ (x : ℤ). pos 0 ≤ℤ x) (sym (leading_zeros i (omega arith))) (le_refl (pos 0))

    leading-divides : (i : ℕ) → A i i ∣ℤ A (suc i) (suc i)
    leading-divides i = go (dec_lt (suc i) r)
      where
        go : Dec (suc i < r) → A i i ∣ℤ A (suc i) (suc i)
        go (yes l) = lead.chain i l
        go (no l) = subst (λ (x : ℤ). A i i ∣ℤ x) (sym (leading_zeros (suc i) (omega arith))) (dvd-zero (A i i))

-- ---- the certificate

pub finished-reduced : {limit : ℕ} {z : Sizes} {s t : State} {r : ℕ} → Finished limit z s r t → Reduced limit z s r t
finished-reduced {limit} {z} {s} {t} {r} h = record {
  U = x.U;
  Ui = x.Ui;
  C = x.C;
  Ci = x.Ci;
  smith = record {
    row_pair = x.row_pair;
    column_pair = x.column_pair;
    carries = Eq-trans (Eq-sym x.matrix) form;
    nonneg = leading-nonneg lead h.zeros bounded;
    divides = leading-divides lead h.zeros bounded;
    beyond = leading-beyond lead h.zeros bounded;
  };
  form = form;
  rank = leading-rank lead h.zeros bounded;
  bound = omega (arith, h.stage.rows_bound, h.stage.columns-bound);
  shaped = h.stage.shaped;
  within = h.stage.within;
  moves = h.stage.moves;
  row_follower = x.row_follower;
  row_inverse = x.row_inverse;
  column_follower = x.column_follower;
  column_inverse = x.column_inverse;
}
  where
    x : Tracked z s t
    x = h.stage.tracked

    lead : Leading z.rows z.columns r (entry t.matrix)
    lead = h.stage.leading

    bounded : Bounded z.rows z.columns (entry t.matrix)
    bounded = shaped-bounded h.stage.shaped

    form : Eq z.rows z.columns (entry t.matrix) (diagonal (diagonal_of t))
    form = leading-form lead h.zeros

pub reduce-smith :
    (limit : ℕ) (z : Sizes) (rule : Rule) → IsRule rule → (s : State) → Shaped z s → within limit s ≡ true
    → (r : ℕ) (t : State) → reduce limit z rule s ≡ done r t → Reduced limit z s r t
unfolding reduce
reduce-smith limit z rule is s shaped narrow r t e =
    finished-reduced (reached-holds limit z rule is s shaped narrow (done r t) (record { steps = enough limit z; leads = e }))
