-- The surface that a loop bounds: document 02, Note 6, for every question and whatever the slices held before, of the library's numbers and of the host's
-- bytes. Which number is told, 13 and 17 among them, and what is left is said by `Calls`, and by `Host` of the host calls.
use Rattle.std.specs.Prelude.{◌≡◌, ◌↔◌, ◌≢◌, ◌⊎◌, List, ℕ, suc, ◌+◌, ◌<◌, ℤ, pos}
use Rattle.integers.specs.Slot.{slot}
use Rattle.matrices.specs.Vector.{apply}
use Rattle.trials.specs.Trial.{done, number_told}
use Rattle.complexes.specs.Boundary.{boundary}
use Rattle.sheet_format.specs.Sheet.{Bytes}
use Rattle.homology_groups.specs.Chain.{Chain}
use Rattle.reports.specs.Report.{Counts}
use Rattle.requests.specs.Question.{Question, cells, cell_count, next_count}
use Rattle.requests.specs.Call.{surface, call}
use Rattle.host_calls.specs.Bytes.{coefficient_in, number_at}
use Rattle.host_calls.specs.Host.{host_call, surface_in}
use Rattle.demands.specs.Answers.{CoordinatesOf, Counted}

-- a chain that was given to a surface call that is done, and the surface as a caller reads it
pub data SurfaceOf (q : Question) : Chain → Chain → Type 0 where
  by-library :
      (limit : ℕ) (z output work : List ℤ) (counts : Counts) → (call limit q (surface z) output work).answer ≡ done counts →
      SurfaceOf q (slot z) (slot (call limit q (surface z) output work).output)
  by-host :
      (chain output : List ℕ) → (host_call q (surface_in q chain) output).number ≡ 0 →
      SurfaceOf q (coefficient_in chain) (number_at (host_call q (surface_in q chain) output).output)

-- "its boundary is the given chain exactly": the matrix of p + 1 times the surface
abbrev pub SurfacesBound : Type 0
SurfacesBound =
    (q : Question) → Bytes q.sheet → (z c : Chain) → SurfaceOf q z c → (i : ℕ) → i < cell_count q →
    apply (next_count q) (boundary (cells q) (suc q.dimension)) c i ≡ z i

-- there is one surface of a chain: any two that are read, from the library at any count limit or from the host, agree at all their places
abbrev pub OneSurface : Type 0
OneSurface =
    (q : Question) → Bytes q.sheet → (y z c d : Chain) → SurfaceOf q y c → SurfaceOf q z d → ((i : ℕ) → i < cell_count q → y i ≡ z i) →
    (j : ℕ) → j < next_count q → c j ≡ d j

-- the number that a surface call tells of a chain, 0 for done
pub data SurfaceTold (q : Question) : Chain → ℕ → Type 0 where
  by-library : (limit : ℕ) (z output work : List ℤ) → SurfaceTold q (slot z) (number_told (call limit q (surface z) output work).answer)
  by-host : (chain output : List ℕ) → SurfaceTold q (coefficient_in chain) (host_call q (surface_in q chain) output).number

-- one of the first k coordinates is not 0
pub record SomeNonzero (k : ℕ) (c : ℕ → ℤ) : Type 0 where
  pub place : ℕ
  pub within : place < k
  pub nonzero : c place ≢ pos 0

-- "Where a loop's class is zero": beside the coordinates of the same chain, a surface call that is done or refused 17 is refused 17 exactly when some
-- coordinate is not 0
abbrev pub SurfacesBeside : Type 0
SurfacesBeside =
    (q : Question) → Bytes q.sheet → (y z : Chain) → ((i : ℕ) → i < cell_count q → y i ≡ z i) → (c : ℕ → ℤ) → CoordinatesOf q y c → (k : ℕ) → SurfaceTold q z k →
    (k ≡ 0) ⊎ (k ≡ 17) → (f t : ℕ) → Counted q f t → (k ≡ 17) ↔ SomeNonzero (t + f) c
