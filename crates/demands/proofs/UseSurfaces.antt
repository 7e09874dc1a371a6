-- Uses of the claims on surfaces: the filled triangle's loop, whose surface is the triangle, by the library and by the host; the hollow triangle's, which
-- bounds nothing; and either beside its coordinates.
use mathlib.Core.Path.{◌≡◌, refl, sym, ◌∙◌, ap}
use mathlib.Core.Bool.{true}
use mathlib.Core.Logic.{◌⊎◌, inl, inr}
use mathlib.Core.List.{List, [], ◌∷◌}
use Prim.Native.Nat.{ℕ, zero, suc, ◌<◌}
use native.Mathlib.Omega.{arith}
use lib.ListN.{replicate}
use lib.IntN.{ℤ, pos, nat_abs, ◌*ℤ◌}
use Rattle.integers.specs.Slot.{slot}
use Rattle.integers.specs.Division.{floor}
use Rattle.integers.proofs.Ring.{zero-add, one-mul}
use Rattle.lists.specs.Tabulate.{tabulate}
use Rattle.lists.specs.Splice.{splice, splices}
use Rattle.matrices.specs.Sum.{sum}
use Rattle.matrices.specs.Vector.{apply}
use Rattle.trials.specs.Trial.{done, refused, number_told, Called, cleared}
use Rattle.complexes.specs.Cell.{without, same, rises, precedes, listed}
use Rattle.complexes.specs.Boundary.{sign, coefficient, count_below, boundary}
use Rattle.sheet_format.specs.Layout.{start}
use Rattle.sheet_format.specs.Check.{count_field, offset_field, cell_of, cells_of, sections_of, some, vertices_do_not_rise, cells_do_not_rise, face_missing}
use Rattle.homology_groups.specs.Chain.{Chain}
use Rattle.reports.specs.Reductions.{Reductions, second_columns_only, reduced}
use Rattle.reports.specs.Report.{Counts, counts_of, torsion_count, halvings, bits_of, reported}
use Rattle.reports.specs.Surface.{surface_at, surface_list}
use Rattle.requests.specs.Question.{cells, cell_count}
use Rattle.requests.specs.Chains.{coefficient_exceeds, boundary_not_zero, chain_checks}
use Rattle.requests.specs.Call.{surface, numbers_of, call_checks, early_checks, of_reduced, call}
use Rattle.host_calls.specs.Bytes.{coefficient_at, coefficient_in, chain_from, number_at}
use Rattle.host_calls.specs.Host.{host_call, surface_in}
use Rattle.answers.specs.Homology.{IsBoundary}
use Rattle.answers.specs.Outcome as outcome
use Rattle.answers.specs.Outcome.{Outcome, Carries}
use Rattle.answers.proofs.Behind.{ends-two}
use Rattle.demands.specs.Calls.{Calls}
use Rattle.demands.specs.Answers.{CoordinatesOf, Counted}
use Rattle.demands.specs.Host.{HostCalls}
use Rattle.demands.specs.Surfaces as claims
use Rattle.demands.specs.Surfaces.{SurfaceOf, SurfacesBound, OneSurface, SurfaceTold, SurfacesBeside}
use Rattle.demands.proofs.Hollow.{hollow, hollow-bytes, nines}
use Rattle.demands.proofs.Filled.{filled, filled-bytes, filled-chains, filled-left, filled-reduced, filled-narrow, loop, hollow-kept-narrow}
use Rattle.demands.proofs.UseCalls.{when-nothing}
use Rattle.demands.proofs.UseHost.{lent}

-- the loop in bytes
abbrev loop_bytes : List ℕ
loop_bytes = 1 ∷ 0 ∷ 0 ∷ 0 ∷ 255 ∷ 255 ∷ 255 ∷ 255 ∷ 1 ∷ 0 ∷ 0 ∷ 0 ∷ []

-- no loop is left, and no entry beyond 1
abbrev none_left : Counts
none_left = record { free = 0; torsion = 0; peak = 1; bits = 1 }

-- ---- the loop is the boundary of the triangle, and of nothing where there is none

filled-bounds : IsBoundary (cells filled) 1 (slot loop)
unfolding cells count_field cell_of cells_of sections_of start tabulate apply sum boundary coefficient sign without same
filled-bounds = record { filling = λ i. pos 1; fills = record { at = fills } }
  where
    fills : (i : ℕ) → i < 3 → apply 1 (boundary (cells filled) 2) (λ i. pos 1) i ≡ slot loop i
    fills zero l = refl
    fills (suc zero) l = refl
    fills (suc (suc zero)) l = refl
    fills (suc (suc (suc i))) l = absurd (omega (arith, l))

hollow-bounds-nothing : IsBoundary (cells hollow) 1 (slot loop) → ⊥
unfolding cells count_field cell_of cells_of sections_of start tabulate apply sum
hollow-bounds-nothing b = let zero_one : pos 0 ≡ pos 1 = b.fills.at 0 (omega arith) in absurd (omega (arith, ap nat_abs zero_one))

-- what a call on the filled triangle leaves where it is done
abbrev left : List ℤ → List ℤ → Reductions → Called Counts ℤ
left output work R = record {
  answer = of_reduced (refused 0) (λ s r x. done (counts_of s r x)) R;
  output = of_reduced [] (λ s r x. splices 1 (numbers_of filled (surface loop) s r x) 1 output) R;
  work = cleared work;
}

module _ (calls : Calls) where
  -- ---- done: the triangle once, in slices longer than needed

  pub surface-written : call 48 filled (surface loop) (nines 3) (nines 30) ≡ record { answer = done none_left; output = pos 1 ∷ nines 2; work = replicate 30 (pos 0) }
  unfolding early_checks call_checks chain_checks coefficient_exceeds boundary_not_zero cells splices splice count_field offset_field cell_of cells_of sections_of some vertices_do_not_rise cells_do_not_rise face_missing without same rises precedes listed start
      count_below boundary coefficient sign apply sum floor tabulate surface_list surface_at torsion_count bits_of halvings reported
  surface-written = of (calls 48 filled (surface loop) (nines 3) (nines 30) filled-bytes)
    where
      of : Outcome 48 filled (surface loop) (nines 3) (nines 30) (call 48 filled (surface loop) (nines 3) (nines 30)) →
          call 48 filled (surface loop) (nines 3) (nines 30) ≡ left (nines 3) (nines 30) (reduced 1 1 filled-left)
      of (outcome.Outcome.refused-early k nonzero narrow bounded told is) = absurd (nonzero (sym told))
      of (outcome.Outcome.is-too_wide none wide is) = absurd (filled-narrow wide)
      of (outcome.Outcome.bounds-nothing none narrow nothing is) = absurd (nothing filled-bounds)
      of (outcome.Outcome.is-done none narrow bounds s r x ends is) =
          is ∙ ap (left (nines 3) (nines 30)) (sym (ends-two filled (second_columns_only true) filled-chains s r x ends) ∙ filled-reduced)

  -- ---- 17: the output kept and the work slice cleared

  surface-refused : call 48 hollow (surface loop) (nines 2) (nines 30) ≡ record { answer = refused 17; output = nines 2; work = replicate 30 (pos 0) }
  unfolding early_checks call_checks chain_checks coefficient_exceeds boundary_not_zero cells count_field offset_field cell_of cells_of sections_of some vertices_do_not_rise cells_do_not_rise face_missing without same rises precedes listed start
      count_below boundary coefficient sign apply sum tabulate
  surface-refused = when-nothing calls 48 hollow (surface loop) (nines 2) (nines 30) hollow-bytes refl hollow-kept-narrow hollow-bounds-nothing

  module _ (host_calls : HostCalls) where
    -- ---- the host's call in 27 bytes, which are 3 slots and 3 bytes

    surface-carried : Carries filled (surface loop) (lent 27) (call 48 filled (surface loop) (nines 3) (nines 30)) (host_call filled (surface loop) (lent 27))
    unfolding cells count_field cell_of cells_of sections_of start count_below tabulate
    surface-carried = host_calls filled (surface loop) (lent 27) filled-bytes (nines 3) (nines 30) refl (omega arith)

    chain-is : chain_from (cell_count filled) loop_bytes ≡ loop
    unfolding cells count_field cell_of cells_of sections_of start tabulate chain_from coefficient_at
    chain-is = refl

    pub host-surface-done : (host_call filled (surface_in filled loop_bytes) (lent 27)).number ≡ 0
    host-surface-done =
        ap (λ (z : List ℤ). (host_call filled (surface z) (lent 27)).number) chain-is
        ∙ surface-carried.number_is
        ∙ ap (λ (c : Called Counts ℤ). number_told c.answer) surface-written

    -- ---- "its boundary is the given chain exactly", at the last edge: so the triangle is taken once

    module _ (surfaces_bound : SurfacesBound) where
      once : (z c : Chain) → z 2 ≡ pos 1 → SurfaceOf filled z c → c 0 ≡ pos 1
      unfolding cells count_field cell_of cells_of sections_of start tabulate apply sum boundary coefficient sign without same
      once z c e of = sym (zero-add (pos 1 *ℤ c 0) ∙ one-mul (c 0)) ∙ surfaces_bound filled filled-bytes z c of 2 (omega arith) ∙ e

      library-once : slot (call 48 filled (surface loop) (nines 3) (nines 30)).output 0 ≡ pos 1
      library-once =
          once (slot loop) (slot (call 48 filled (surface loop) (nines 3) (nines 30)).output) refl
          (claims.SurfaceOf.by-library 48 loop (nines 3) (nines 30) none_left (ap (λ (c : Called Counts ℤ). c.answer) surface-written))

      host-once : number_at (host_call filled (surface_in filled loop_bytes) (lent 27)).output 0 ≡ pos 1
      unfolding coefficient_at
      host-once =
          once (coefficient_in loop_bytes) (number_at (host_call filled (surface_in filled loop_bytes) (lent 27)).output) refl
          (claims.SurfaceOf.by-host loop_bytes (lent 27) host-surface-done)

    -- ---- one surface: the host's bytes hold the number that the library's call leaves

    module _ (one_surface : OneSurface) where
      same-by-host : number_at (host_call filled (surface_in filled loop_bytes) (lent 27)).output 0 ≡ pos 1
      unfolding cells count_field cell_of cells_of sections_of start tabulate coefficient_at
      same-by-host =
          one_surface filled filled-bytes (coefficient_in loop_bytes) (slot loop) (number_at (host_call filled (surface_in filled loop_bytes) (lent 27)).output)
          (slot (call 48 filled (surface loop) (nines 3) (nines 30)).output)
          (claims.SurfaceOf.by-host loop_bytes (lent 27) host-surface-done)
          (claims.SurfaceOf.by-library 48 loop (nines 3) (nines 30) none_left (ap (λ (c : Called Counts ℤ). c.answer) surface-written)) agree 0 (omega arith)
          ∙ ap (λ (c : Called Counts ℤ). slot c.output 0) surface-written
        where
          agree : (i : ℕ) → i < 3 → coefficient_in loop_bytes i ≡ slot loop i
          agree zero l = refl
          agree (suc zero) l = refl
          agree (suc (suc zero)) l = refl
          agree (suc (suc (suc i))) l = absurd (omega (arith, l))

-- ---- beside the coordinates

module _ (surfaces_beside : SurfacesBeside) where
  -- a loop with a free coordinate 1 is refused 17 where it is not refused otherwise, by the library and by the host
  refused-beside : (c : ℕ → ℤ) → CoordinatesOf hollow (slot loop) c → c 0 ≡ pos 1 → Counted hollow 1 0 → (z : Chain) → ((i : ℕ) → i < 3 → slot loop i ≡ z i) → (k : ℕ) →
      SurfaceTold hollow z k → (k ≡ 0) ⊎ (k ≡ 17) → k ≡ 17
  unfolding cells count_field cell_of cells_of sections_of start tabulate
  refused-beside c of one counted z same k told either =
      (surfaces_beside hollow hollow-bytes (slot loop) z same c of k told either 1 0 counted).1
      (record { place = 0; within = omega arith; nonzero = λ e. let zero_one : pos 0 ≡ pos 1 = sym e ∙ one in absurd (omega (arith, ap nat_abs zero_one)) })

  library-refused : (c : ℕ → ℤ) → CoordinatesOf hollow (slot loop) c → c 0 ≡ pos 1 → Counted hollow 1 0 → (output work : List ℤ) →
      (number_told (call 48 hollow (surface loop) output work).answer ≡ 0) ⊎ (number_told (call 48 hollow (surface loop) output work).answer ≡ 17) →
      number_told (call 48 hollow (surface loop) output work).answer ≡ 17
  library-refused c of one counted output work = refused-beside c of one counted (slot loop) (λ i l. refl) _ (claims.SurfaceTold.by-library 48 loop output work)

  host-refused : (c : ℕ → ℤ) → CoordinatesOf hollow (slot loop) c → c 0 ≡ pos 1 → Counted hollow 1 0 → (output : List ℕ) →
      ((host_call hollow (surface_in hollow loop_bytes) output).number ≡ 0) ⊎ ((host_call hollow (surface_in hollow loop_bytes) output).number ≡ 17) →
      (host_call hollow (surface_in hollow loop_bytes) output).number ≡ 17
  unfolding coefficient_at
  host-refused c of one counted output = refused-beside c of one counted (coefficient_in loop_bytes) agree _ (claims.SurfaceTold.by-host loop_bytes output)
    where
      agree : (i : ℕ) → i < 3 → slot loop i ≡ coefficient_in loop_bytes i
      agree zero l = refl
      agree (suc zero) l = refl
      agree (suc (suc zero)) l = refl
      agree (suc (suc (suc i))) l = absurd (omega (arith, l))

  -- where there is no coordinate, 17 is not told
  never-refused : (c : ℕ → ℤ) → CoordinatesOf filled (slot loop) c → Counted filled 0 0 → (k : ℕ) → SurfaceTold filled (slot loop) k → (k ≡ 0) ⊎ (k ≡ 17) → k ≡ 0
  never-refused c of counted k told (inl e) = e
  never-refused c of counted k told (inr e) =
      let found = (surfaces_beside filled filled-bytes (slot loop) (slot loop) (λ i l. refl) c of k told (inr e) 0 0 counted).0 e in
      absurd (omega (arith, found.within))

  -- what is found is a place within the coordinates
  found-nonzero : (c : ℕ → ℤ) → CoordinatesOf hollow (slot loop) c → Counted hollow 1 0 → (k : ℕ) → SurfaceTold hollow (slot loop) k → k ≡ 17 → c 0 ≡ pos 0 → ⊥
  found-nonzero c of counted k told e none =
      let found = (surfaces_beside hollow hollow-bytes (slot loop) (slot loop) (λ i l. refl) c of k told (inr e) 1 0 counted).0 e in
      let first : found.place ≡ 0 = omega (arith, found.within) in
      found.nonzero (ap c first ∙ none)
