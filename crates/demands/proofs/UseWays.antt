-- The hollow triangle's loop run backwards through the four ways in which coordinates are read: each gives -1, by the claim that coordinates decide.
use mathlib.Core.Path.{◌≡◌, refl, sym, ◌∙◌, ap}
use mathlib.Core.List.{List, [], ◌∷◌}
use Prim.Native.Nat.{ℕ, zero, suc, ◌+◌, ◌*◌, ◌<◌}
use native.Mathlib.Omega.{arith}
use lib.IntN.{ℤ, pos, ◌-ℤ◌}
use Rattle.lists.specs.Tabulate.{tabulate}
use Rattle.matrices.specs.Sum.{sum}
use Rattle.matrices.specs.Vector.{apply}
use Rattle.trials.specs.Trial.{Called}
use Rattle.complexes.specs.Cell.{without, same, rises, precedes, listed}
use Rattle.complexes.specs.Boundary.{sign, coefficient, count_below, boundary}
use Rattle.sheet_format.specs.Layout.{start}
use Rattle.sheet_format.specs.Check.{count_field, offset_field, cell_of, cells_of, sections_of, some, vertices_do_not_rise, cells_do_not_rise, face_missing}
use Rattle.homology_groups.specs.Chain.{Chain}
use Rattle.reports.specs.Report.{Counts}
use Rattle.requests.specs.Question.{cells, cell_count}
use Rattle.requests.specs.Chains.{coefficient_exceeds, boundary_not_zero, chain_checks, cycles_checks, chains_checks}
use Rattle.requests.specs.Call.{coordinates, lists, call_checks, early_checks, call}
use Rattle.host_calls.specs.Bytes.{coefficient_at, coefficient_in, chain_from, number_at}
use Rattle.host_calls.specs.Host.{host_call, coordinates_in, lists_in}
use Rattle.answers.specs.Homology.{IsBoundary}
use Rattle.integers.specs.Slot.{slot}
use Rattle.demands.specs.Calls.{Calls}
use Rattle.demands.specs.Answers.{CoordinatesOf, Counted, CoordinatesDecide}
use Rattle.demands.specs.Answers as claims
use Rattle.demands.proofs.Hollow.{hollow, hollow-bytes, hollow-reduced, nines, minus}
use Rattle.demands.proofs.Plane.{number-at}
use Rattle.demands.proofs.UseCalls.{loops, lists-written, backwards-written}
use Rattle.demands.proofs.UseHost.{lent}

-- the loop and the loop run backwards, as numbers and as bytes
abbrev backwards : List ℤ
backwards = minus 1 ∷ pos 1 ∷ minus 1 ∷ []

abbrev both : List ℤ
both = pos 1 ∷ minus 1 ∷ pos 1 ∷ backwards

abbrev backwards_bytes : List ℕ
backwards_bytes = 255 ∷ 255 ∷ 255 ∷ 255 ∷ 1 ∷ 0 ∷ 0 ∷ 0 ∷ 255 ∷ 255 ∷ 255 ∷ 255 ∷ []

abbrev both_bytes : List ℕ
both_bytes = 1 ∷ 0 ∷ 0 ∷ 0 ∷ 255 ∷ 255 ∷ 255 ∷ 255 ∷ 1 ∷ 0 ∷ 0 ∷ 0 ∷ backwards_bytes

-- ---- the four ways

-- what the reads are: of the single call, of list 1, of the host's bytes, of list 1 in them
abbrev single : ℕ → ℤ
single = slot (call 48 hollow (coordinates backwards) (nines 4) (nines 27)).output

abbrev listed-1 : ℕ → ℤ
listed-1 j = slot (call 48 hollow (lists 2 both) (nines 7) (nines 27)).output (1 * cell_count hollow + j)

abbrev host-single : ℕ → ℤ
host-single = number_at (host_call hollow (coordinates_in hollow backwards_bytes) (lent 30)).output

abbrev host-listed-1 : ℕ → ℤ
host-listed-1 j = number_at (host_call hollow (lists_in hollow 2 both_bytes) (lent 60)).output (1 * cell_count hollow + j)

host-single-done : (host_call hollow (coordinates_in hollow backwards_bytes) (lent 30)).number ≡ 0
unfolding host_call early_checks call_checks chain_checks coefficient_exceeds boundary_not_zero cells count_field offset_field cell_of cells_of sections_of some vertices_do_not_rise cells_do_not_rise face_missing without same rises precedes listed start
    count_below boundary coefficient sign apply sum tabulate coefficient_at chain_from
host-single-done = rw hollow-reduced

host-listed-done : (host_call hollow (lists_in hollow 2 both_bytes) (lent 60)).number ≡ 0
unfolding host_call early_checks call_checks chains_checks cycles_checks coefficient_exceeds boundary_not_zero cells count_field offset_field cell_of cells_of sections_of some vertices_do_not_rise cells_do_not_rise face_missing without same rises precedes listed start
    count_below boundary coefficient sign apply sum tabulate coefficient_at chain_from
host-listed-done = rw hollow-reduced

by-host : CoordinatesOf hollow (coefficient_in backwards_bytes) host-single
by-host = claims.CoordinatesOf.by-host backwards_bytes (lent 30) host-single-done

by-host-list : CoordinatesOf hollow (λ j. coefficient_in both_bytes (1 * cell_count hollow + j)) host-listed-1
by-host-list = claims.CoordinatesOf.by-host-list 2 both_bytes (lent 60) host-listed-done 1 (omega arith)

-- ---- no triangle, so only the chain of zeros bounds

zero-bounds : (y : Chain) → y 0 ≡ pos 0 → y 1 ≡ pos 0 → y 2 ≡ pos 0 → IsBoundary (cells hollow) 1 y
unfolding cells count_field cell_of cells_of sections_of start tabulate apply sum
zero-bounds y a b c = record { filling = λ i. pos 0; fills = record { at = fills } }
  where
    fills : (i : ℕ) → i < 3 → pos 0 ≡ y i
    fills zero l = sym a
    fills (suc zero) l = sym b
    fills (suc (suc zero)) l = sym c
    fills (suc (suc (suc i))) l = absurd (omega (arith, l))

module _ (calls : Calls) (decide : CoordinatesDecide) (counted : Counted hollow 1 0) where
  by-library : CoordinatesOf hollow (slot backwards) single
  by-library = claims.CoordinatesOf.by-library 48 backwards (nines 4) (nines 27) loops (ap (λ (c : Called Counts ℤ). c.answer) (backwards-written calls))

  by-library-list : CoordinatesOf hollow (λ j. slot both (1 * cell_count hollow + j)) listed-1
  by-library-list =
      claims.CoordinatesOf.by-library-list 48 2 both (nines 7) (nines 27) loops (ap (λ (c : Called Counts ℤ). c.answer) (lists-written calls)) 1 (omega arith)

  -- coordinates of the same chain, read in another way, are the single call's
  same_read : (y : Chain) (c : ℕ → ℤ) → CoordinatesOf hollow y c → IsBoundary (cells hollow) 1 (λ i. y i -ℤ slot backwards i) → c 0 ≡ minus 1
  same_read y c of bounds =
      (decide hollow hollow-bytes y (slot backwards) c single of by-library 1 0 counted).1 bounds 0 (omega arith) ∙ ap (number-at 0) (backwards-written calls)

  listed-reads : listed-1 0 ≡ minus 1
  unfolding cells count_field cell_of cells_of sections_of start tabulate
  listed-reads = same_read (λ j. slot both (1 * cell_count hollow + j)) listed-1 by-library-list (zero-bounds (λ j. slot both (1 * cell_count hollow + j) -ℤ slot backwards j) refl refl refl)

  host-reads : host-single 0 ≡ minus 1
  unfolding coefficient_at
  host-reads = same_read (coefficient_in backwards_bytes) host-single by-host (zero-bounds (λ j. coefficient_in backwards_bytes j -ℤ slot backwards j) refl refl refl)

  host-listed-reads : host-listed-1 0 ≡ minus 1
  unfolding coefficient_at cells count_field cell_of cells_of sections_of start tabulate
  host-listed-reads =
      same_read (λ j. coefficient_in both_bytes (1 * cell_count hollow + j)) host-listed-1 by-host-list
      (zero-bounds (λ j. coefficient_in both_bytes (1 * cell_count hollow + j) -ℤ slot backwards j) refl refl refl)

  -- where the lists agree, the chains differ by a boundary: the host's loop and the library's
  host-class : IsBoundary (cells hollow) 1 (λ i. coefficient_in backwards_bytes i -ℤ slot backwards i)
  host-class = (decide hollow hollow-bytes (coefficient_in backwards_bytes) (slot backwards) host-single single by-host by-library 1 0 counted).0 agree
    where
      agree : (j : ℕ) → j < 0 + 1 → host-single j ≡ single j
      agree zero l = host-reads ∙ sym (ap (number-at 0) (backwards-written calls))
      agree (suc j) l = absurd (omega (arith, l))
