-- The boundary of a chain, summed cell by cell.
use Rattle.std.specs.Prelude.{◌≡◌, List, ℕ, suc, ◌^◌, ◌<◌, length, get_or, ℤ, pos, nat_abs, ◌+ℤ◌, ◌*ℤ◌}
use Rattle.complexes.specs.Complex.{Sections, count}
use Rattle.complexes.specs.Boundary.{boundary}
use Rattle.limits.specs.Limits.{library_limit}

-- a sum for each cell that section p may have, with room for a coefficient more
pub record Sums (K : Sections) (p : ℕ) (sums : List ℤ) : Type 0 where
  pub sized : length sums ≡ library_limit
  pub bounded : (i : ℕ) → i < count K p → nat_abs (get_or sums i (pos 0)) < 2 ^ 32

-- x times the boundary of cell j of section p + 1 is added to the sums
pub record AddsFaces (K : Sections) (p j : ℕ) (x : ℤ) (sums sums' : List ℤ) : Type 0 where
  pub same_length : length sums' ≡ length sums
  pub adds : (i : ℕ) → i < count K p → get_or sums' i (pos 0) ≡ get_or sums i (pos 0) +ℤ x *ℤ boundary K (suc p) i j
