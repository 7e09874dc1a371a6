-- What the laws of the two reductions ask of boundary matrices: each times the next is zero. complex-chains: a simplicial complex has such. no-next: where it
-- has no cells of a dimension, it has none of the next.
use mathlib.Core.Path.{◌≡◌, refl}
use Prim.Native.Nat.{ℕ, zero, suc, ◌≤◌}
use native.Mathlib.Omega.{arith}
use lib.IntN.{nat_abs}
use Rattle.matrices.specs.Matrix.{Eq, mul, null}
use Rattle.complexes.specs.Complex.{Sections, count, Complex}
use Rattle.complexes.specs.Boundary.{count_below, boundary}
use Rattle.complexes.proofs.BoundaryLaws.{boundary-small, boundary-boundary}

-- the boundary matrices of the cells K make a chain complex, with at most `limit` cells in each dimension and entries within 1
pub record ChainComplex (limit : ℕ) (K : Sections) : Type 0 where
  pub within : (p : ℕ) → count K p ≤ limit
  pub small : (p i j : ℕ) → nat_abs (boundary K p i j) ≤ 1
  pub zero : (p : ℕ) → Eq (count_below K p) (count K (suc p)) (mul (count K p) (boundary K p) (boundary K (suc p))) null

pub complex-chains : {top limit : ℕ} {K : Sections} → Complex top limit K → ChainComplex limit K
complex-chains complex = record { within = complex.within; small = boundary-small complex; zero = boundary-boundary complex }

-- a cell has faces
pub no-next : {top limit : ℕ} {K : Sections} → Complex top limit K → (p : ℕ) → count K p ≡ 0 → count K (suc p) ≡ 0
no-next {K} complex p none = go (count K (suc p)) refl
  where
    go : (n : ℕ) → count K (suc p) ≡ n → n ≡ 0
    go zero e = refl
    go (suc n) e = absurd (omega (arith, (complex.closed p 0 0 (omega (arith, e)) (omega arith)).below, none))
