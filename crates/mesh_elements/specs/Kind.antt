-- What the kind of an element tells.
use Rattle.std.specs.Prelude.{◌≡◌, ℕ, suc, ◌≤◌, Result, Ok, Err}
use Rattle.closures.specs.Closure.{element_top}
use Rattle.imports.specs.Import.{nodes_of_kind}
use Rattle.refusal.specs.Number.{number_of}
use Rattle.refusal.specs.declared.Refusal.{Refusal}
use Rattle.mesh_elements.specs.declared.kind.Simplex.{Simplex}

-- a simplex has as many vertices as an element of this kind has nodes
pub record IsSimplex (k : ℕ) (s : Simplex) : Type 0 where
  pub many : nodes_of_kind k ≡ s.vertices
  pub vertices-are : s.vertices ≡ suc s.dimension
  pub dimension-is : s.dimension ≤ element_top

-- the simplex of the kind k, or refusal 15 for every other number
abbrev pub IsKind : ℕ → Result Simplex Refusal → Type 0
IsKind k (Ok s) = IsSimplex k s
IsKind k (Err x) = (nodes_of_kind k ≡ 0) × (number_of x ≡ 15)
