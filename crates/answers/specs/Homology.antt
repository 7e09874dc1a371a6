-- Simplicial homology of a complex over the whole numbers: document 01, "Boundary matrices". K lists its cells; p is a dimension.
use Rattle.std.specs.Prelude.{ℕ, suc, ℤ}
use Rattle.complexes.specs.Complex.{Sections, count}
use Rattle.complexes.specs.Boundary.{count_below, boundary}
use Rattle.homology_groups.specs.Chain.{Chain, Cycle, Boundary}
use Rattle.homology_groups.specs.Presentation.{Presentation}

-- z has no nonzero boundary
abbrev pub IsCycle : Sections → ℕ → Chain → Type 0
IsCycle K p z = Cycle (count_below K p) (count K p) (boundary K p) z

-- z is the boundary of some chain of dimension p + 1 with whole coefficients, however large
abbrev pub IsBoundary : Sections → ℕ → Chain → Type 0
IsBoundary K p z = Boundary (count K p) (count K (suc p)) (boundary K (suc p)) z

-- k generators g with orders o (0: free) present the homology group
abbrev pub Presents : Sections → ℕ → ℕ → (ℕ → Chain) → (ℕ → ℤ) → Type 0
Presents K p k g o = Presentation (count_below K p) (count K p) (count K (suc p)) (boundary K p) (boundary K (suc p)) k g o
