-- Uses of the claims on chains and lists, on the hollow triangle: a chain that is no cycle, the first faulty of three chains, and the list of a single call.
use mathlib.Core.Path.{◌≡◌, refl, sym, ◌∙◌, ap}
use mathlib.Core.List.{List, [], ◌∷◌, ◌++◌}
use Prim.Native.Nat.{ℕ, zero, suc, ◌<◌, ◌≤◌}
use native.Mathlib.Omega.{arith}
use lib.ListN.{length}
use lib.IntN.{ℤ, pos, nat_abs}
use Rattle.lists.specs.Tabulate.{tabulate}
use Rattle.matrices.specs.Sum.{sum}
use Rattle.matrices.specs.Vector.{apply}
use Rattle.limits.specs.Limits.{coefficient_limit}
use Rattle.trials.specs.Trial.{first_refusal, done, number_told, Called}
use Rattle.complexes.specs.Cell.{without, same, rises, precedes, listed}
use Rattle.complexes.specs.Boundary.{sign, coefficient, count_below, boundary}
use Rattle.complexes.specs.Complex.{count}
use Rattle.sheet_format.specs.Layout.{start}
use Rattle.sheet_format.specs.Check.{count_field, offset_field, cell_of, cells_of, sections_of, some, vertices_do_not_rise, cells_do_not_rise, face_missing}
use Rattle.reports.specs.Report.{Counts}
use Rattle.requests.specs.Question.{cells}
use Rattle.requests.specs.Chains.{chain_at, coefficient_exceeds, boundary_not_zero, chain_checks, FirstFault}
use Rattle.requests.specs.Call.{coordinates, lists, call_checks, call}
use Rattle.answers.specs.Homology.{IsCycle}
use Rattle.integers.specs.Slot.{slot}
use Rattle.answers.specs.Outcome.{NoCycle}
use Rattle.demands.specs.Calls.{Calls, NotACycle, FirstFaultyChain, ListSingle, ListsSingle}
use Rattle.demands.proofs.Hollow.{hollow, hollow-bytes, nines, minus}
use Rattle.demands.proofs.UseCalls.{loops, lists-written}

-- ---- no cycle

abbrev edge : List ℤ
edge = pos 1 ∷ pos 0 ∷ pos 0 ∷ []

abbrev loop : List ℤ
loop = pos 1 ∷ minus 1 ∷ pos 1 ∷ []

module _ (not_a_cycle : NotACycle) where
  -- an edge, at the coefficient limit 1
  no-cycle : NoCycle 1 (cells hollow) 1 edge
  unfolding chain_checks cells count_field cell_of cells_of sections_of some without same start count_below tabulate coefficient_exceeds boundary_not_zero boundary coefficient sign apply sum
  no-cycle = (not_a_cycle 1 (cells hollow) 1 edge).0 refl

  size : length edge ≡ count (cells hollow) 1
  size = no-cycle.size

  small : nat_abs (slot edge 0) ≤ 1
  small = no-cycle.small 0

  has-boundary : IsCycle (cells hollow) 1 (slot edge) → ⊥
  has-boundary = no-cycle.no-cycle

  -- the loop is told 0, so it is not one that is no cycle
  is-cycle : NoCycle coefficient_limit (cells hollow) 1 loop → ⊥
  unfolding chain_checks cells count_field cell_of cells_of sections_of some without same start count_below tabulate coefficient_exceeds boundary_not_zero boundary coefficient sign apply sum
  is-cycle n = let told : ◌≡◌ {A = ℕ} 0 12 = (not_a_cycle coefficient_limit (cells hollow) 1 loop).1 n in omega (arith, told)

-- ---- the first faulty chain: a loop, then an edge, then a coefficient beyond the limit

abbrev faulty : List ℤ
faulty = loop ++ (edge ++ (pos 32768 ∷ pos 0 ∷ pos 0 ∷ []))

abbrev fault : ℕ → ℕ
fault i = first_refusal (chain_checks coefficient_limit (cells hollow) 1 (chain_at 3 faulty i))

module _ (first_faulty_chain : FirstFaultyChain) where
  -- 12 is answered, as chain 1 has it
  told-12 : number_told (call 256 hollow (lists 3 faulty) (nines 9) (nines 27)).answer ≡ 12
  unfolding call_checks chain_checks cells count_field offset_field cell_of cells_of sections_of some vertices_do_not_rise cells_do_not_rise face_missing without same rises precedes listed start count_below tabulate
      coefficient_exceeds boundary_not_zero boundary coefficient sign apply sum
  told-12 =
      (first_faulty_chain 256 hollow 3 faulty (nines 9) (nines 27) hollow-bytes refl refl 12 (λ e. absurd (omega (arith, e))) (λ e. absurd (omega (arith, e)))).1
      (record { place = 1; within = omega arith; told = refl; earlier = earlier })
    where
      earlier : (i : ℕ) → i < 1 → fault i ≡ 0
      earlier zero l = refl
      earlier (suc i) l = absurd (omega (arith, l))

  -- where 12 is answered, a chain has it and those before it have no fault
  first-fault : number_told (call 256 hollow (lists 3 faulty) (nines 9) (nines 27)).answer ≡ 12 → FirstFault fault 3 12
  unfolding call_checks cells count_field offset_field cell_of cells_of sections_of some vertices_do_not_rise cells_do_not_rise face_missing without same rises precedes listed start count_below tabulate
  first-fault =
      (first_faulty_chain 256 hollow 3 faulty (nines 9) (nines 27) hollow-bytes refl refl 12 (λ e. absurd (omega (arith, e))) (λ e. absurd (omega (arith, e)))).0

  fault-place : number_told (call 256 hollow (lists 3 faulty) (nines 9) (nines 27)).answer ≡ 12 → FirstFault fault 3 12
  fault-place e = record {
    place = (first-fault e).place;
    within = (first-fault e).within;
    told = (first-fault e).told;
    earlier = (first-fault e).earlier;
  }

-- ---- the list of a single call: the loop run backwards, as chain 1 and alone

abbrev backwards : List ℤ
backwards = minus 1 ∷ pos 1 ∷ minus 1 ∷ []

module _ (calls : Calls) (lists_single : ListsSingle) where
  single : ListSingle 48 hollow 1 backwards (call 48 hollow (lists 2 (loop ++ backwards)) (nines 7) (nines 27)).output loops (nines 3) (nines 27)
  unfolding cells count_field cell_of cells_of sections_of start count_below tabulate
  single =
      lists_single 48 hollow 2 (loop ++ backwards) (nines 7) (nines 27) hollow-bytes loops (ap (λ (c : Called Counts ℤ). c.answer) (lists-written calls)) 1 (omega arith)
      (nines 3) (nines 27) (omega arith) (omega arith)

  single-done : (call 48 hollow (coordinates backwards) (nines 3) (nines 27)).answer ≡ done loops
  single-done = single.answer

  single-same : slot (call 48 hollow (coordinates backwards) (nines 3) (nines 27)).output 0 ≡ minus 1
  unfolding cells count_field cell_of cells_of sections_of start count_below tabulate
  single-same = sym (single.same 0 (omega arith)) ∙ ap (λ (c : Called Counts ℤ). slot c.output 3) (lists-written calls)
