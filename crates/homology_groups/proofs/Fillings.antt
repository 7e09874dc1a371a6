-- A chain whose boundary is a given cycle, from the second reduction of `Reduced`. `filling-bounds`: where Q z has the entries of e times those of y, the
-- boundary of the column transform times y is z. `pivots-bound`: so it is with the sum over the pivots of each column times Q z over the pivot, where e
-- divides Q z, entry by entry.
use Prim.Native.Nat.{ℕ, ◌+◌, ◌-◌, ◌<◌}
use native.Mathlib.Nat.{le_trans, min-le_right}
use native.Mathlib.Decide.{dec_lt}
use native.Mathlib.Omega.{arith}
use borrow.Author.Tests.{lt-ltb, le-ltb}
use mathlib.Core.Bool.{cond}
use mathlib.Core.Path.{◌≡◌, refl, sym, ◌∙◌, ap, subst}
use lib.Dec.{ltb}
use lib.IntN.{ℤ, pos, ◌+ℤ◌, ◌*ℤ◌}
use Rattle.integers.specs.Division.{floor, ◌∣ℤ◌}
use Rattle.integers.proofs.Ring.{add-zero, zero-mul, mul-zero, mul_comm}
use Rattle.integers.proofs.Divides.{zero-dvd}
use Rattle.integers.proofs.Floor.{dvd-floor}
use Rattle.matrices.specs.Sum.{sum}
use Rattle.matrices.proofs.SumLaws.{sum-ext, sum-zero, sum-split}
use Rattle.smith.proofs.Rank.{IsRank, rank-bound}
use Rattle.matrices.specs.Matrix.{Matrix}
use Rattle.matrices.specs.Vector.{apply}
use Rattle.matrices.proofs.VectorLaws.{apply-mul}
use Rattle.homology_groups.specs.Chain.{Chain, Same, Cycle}
use Rattle.homology_groups.proofs.ChainLaws.{same-sym, same-trans, apply-same, same-apply, boundary-cycle}
use Rattle.homology_groups.proofs.SmithChain.{column-row}
use Rattle.homology_groups.proofs.Reduced.{Reduced}
use Rattle.homology_groups.proofs.Coordinates.{Q₀, coordinates-apply, cycle-iff}

module _ {m n l : ℕ} {A B : Matrix} {s : ℕ} {e : ℕ → ℤ} {G Q : Matrix} (R : Reduced m n l A B s e G Q) where
  -- Q times the boundary of the column transform times y
  made-coordinates : (y : Chain) (i : ℕ) → i < s → apply n Q (apply l B (apply l R.W y)) i ≡ e i *ℤ y i
  unfolding Q₀
  made-coordinates y i h =
      (coordinates-apply R (apply l B (apply l R.W y))).at i h
      ∙ apply-same R.P (record { at = λ j k. sym (apply-mul n l (Q₀ R) B (apply l R.W y) j) }) i
      ∙ column-row R.second y i h

  pub filling-bounds : (z y : Chain) → Cycle m n A z → ((i : ℕ) → i < s → apply n Q z i ≡ e i *ℤ y i) → Same n (apply l B (apply l R.W y)) z
  filling-bounds z y c h =
      same-trans (same-sym ((cycle-iff R made).0 cycle))
      (same-trans (same-apply n G (record { at = λ i k. made-coordinates y i k ∙ sym (h i k) })) ((cycle-iff R z).0 c))
    where
      made : Chain
      made = apply l B (apply l R.W y)

      cycle : Cycle m n A made
      cycle = boundary-cycle R.complex (record { filling = apply l R.W y; fills = record { at = λ i k. refl } })

  -- ---- over the pivots

  module _ {r : ℕ} (rank : IsRank e r) (z : Chain) (divisible : (i : ℕ) → i < s → e i ∣ℤ apply n Q z i) where
    -- Q z over the pivots, 0 past them
    quotients : Chain
    quotients i = cond (ltb i r) (floor (apply n Q z i) (e i)) (pos 0)

    quotient_is : (i : ℕ) → i < s → apply n Q z i ≡ e i *ℤ quotients i
    unfolding quotients
    quotient_is i h = go (dec_lt i r)
      where
        go : Dec (i < r) → apply n Q z i ≡ e i *ℤ quotients i
        go (yes l) = rw (lt-ltb i r l) (dvd-floor (apply n Q z i) (e i) (R.second.nonneg i) (divisible i h))
        go (no l) =
            let none = rank.zeros i (omega arith) in
            zero-dvd (subst (λ (d : ℤ). d ∣ℤ apply n Q z i) none (divisible i h)) ∙ sym (ap (λ (d : ℤ). d *ℤ quotients i) none ∙ zero-mul (quotients i))

    -- the sum over the pivots
    abbrev pub over_pivots : Chain
    over_pivots j = sum r (λ i. floor (apply n Q z i) (e i) *ℤ R.W j i)

    over-pivots : (j : ℕ) → apply l R.W quotients j ≡ over_pivots j
    unfolding apply quotients
    over-pivots j =
        ap (λ (k : ℕ). sum k term) parts
        ∙ sum-split r (l - r) term
        ∙ ap (λ (t : ℤ). sum r term +ℤ t) (sum-zero (l - r) (λ i. term (r + i)) past)
        ∙ add-zero (sum r term)
        ∙ sum-ext r term (λ i. floor (apply n Q z i) (e i) *ℤ R.W j i) before
      where
        term : ℕ → ℤ
        term i = R.W j i *ℤ quotients i

        parts : l ≡ r + (l - r)
        parts = omega (arith, le_trans (rank-bound R.second rank) (min-le_right s l))

        past : (i : ℕ) → i < l - r → term (r + i) ≡ pos 0
        past i h = ap (λ (t : ℤ). R.W j (r + i) *ℤ t) (rw (le-ltb (r + i) r (omega arith)) refl) ∙ mul-zero (R.W j (r + i))

        before : (i : ℕ) → i < r → term i ≡ floor (apply n Q z i) (e i) *ℤ R.W j i
        before i h = rw (lt-ltb i r h) (mul_comm (R.W j i) (floor (apply n Q z i) (e i)))

    pub pivots-bound : Cycle m n A z → Same n (apply l B over_pivots) z
    pivots-bound c =
        same-trans (same-apply n B (record { at = λ j h. sym (over-pivots j) })) (filling-bounds z quotients c quotient_is)
