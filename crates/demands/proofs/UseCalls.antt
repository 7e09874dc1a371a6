-- Uses of the claim on the calls: each of its four outcomes, on the hollow triangle. No sheet whose reductions compute here goes too wide, so that the
-- outcome of refusal 13 is taken of any question that does.
use mathlib.Core.Path.{◌≡◌, refl, sym, ◌∙◌, ap, subst}
use mathlib.Core.Logic.{◌↔◌}
use mathlib.Core.List.{List, [], ◌∷◌}
use Prim.Native.Nat.{ℕ}
use native.Mathlib.Omega.{arith}
use lib.ListN.{length, replicate}
use lib.IntN.{ℤ, pos}
use Rattle.integers.specs.Division.{floor, modulo, residue}
use Rattle.lists.specs.Tabulate.{tabulate}
use Rattle.lists.specs.Splice.{splice, splices}
use Rattle.matrices.specs.Sum.{sum}
use Rattle.matrices.specs.Vector.{apply}
use Rattle.trials.specs.Trial.{first_refusal, Answer, done, refused, number_told, Called, cleared}
use Rattle.trials.proofs.TrialLaws.{refused≢done}
use Rattle.complexes.specs.Cell.{without, same, rises, precedes, listed}
use Rattle.complexes.specs.Boundary.{sign, coefficient, count_below, boundary}
use Rattle.sheet_format.specs.Layout.{start}
use Rattle.sheet_format.specs.Check.{count_field, offset_field, cell_of, cells_of, sections_of, some, vertices_do_not_rise, cells_do_not_rise, face_missing, refusal}
use Rattle.sheet_format.specs.Sheet.{Bytes}
use Rattle.sheet_format.specs.OrderCases.{edge_and_node}
use Rattle.sheet_format.specs.Starred.{hollow_triangle}
use Rattle.reduction_steps.specs.State.{State}
use Rattle.integers.specs.Slot.{slot}
use Rattle.reports.specs.Reductions.{Reductions, Transforms, no_transforms, reduced}
use Rattle.reports.specs.Report.{Counts, counts_of, reported, columns_of, torsion_count, halvings, bits_of, report_list, coordinate_at, coordinate_list}
use Rattle.requests.specs.Question.{Question, asked, cells}
use Rattle.requests.specs.Chains.{coefficient_exceeds, boundary_not_zero, chain_checks, cycles_checks, chains_checks}
use Rattle.requests.specs.Call.{Request, report, coordinates, lists, surface, transforms_of, list_count, list_slots, numbers_of, call_checks, early_checks, of_reduced, call}
use Rattle.answers.specs.Outcome as outcome
use Rattle.answers.specs.Homology.{IsBoundary}
use Rattle.answers.specs.Outcome.{Outcome, TooWide, Bounds, Ends}
use Rattle.answers.proofs.Behind.{ends-two}
use Rattle.demands.specs.Calls.{Calls, SheetsTold}
use Rattle.demands.proofs.Hollow.{hollow, hollow-bytes, hollow-chains, hollow-left, hollow-reduced, hollow-narrow, nines, minus}

-- what a call on the hollow triangle leaves where it is done, by what its reductions come to
abbrev pub left : Request → List ℤ → List ℤ → Reductions → Called Counts ℤ
left request output work R = record {
  answer = of_reduced (refused 0) (λ s r x. done (counts_of s r x)) R;
  output = of_reduced [] (λ s r x. splices (list_slots hollow request) (numbers_of hollow request s r x) (list_count request) output) R;
  work = cleared work;
}

-- one free loop, and no entry beyond 1
abbrev pub loops : Counts
loops = record { free = 1; torsion = 0; peak = 1; bits = 1 }

-- a request that keeps no transform and wants nothing of its chain beyond the checks
pub record Plain (request : Request) : Type 0 where
  pub keeps : transforms_of request ≡ no_transforms
  pub bounds : Bounds hollow request

abbrev pub plain : {request : Request} → transforms_of request ≡ no_transforms → Bounds hollow request → Plain request
plain keeps bounds = record { keeps = keeps; bounds = bounds }

plain-narrow : {request : Request} → Plain request → TooWide hollow (transforms_of request) → ⊥
plain-narrow {request} h wide = hollow-narrow (subst (TooWide hollow) h.keeps wide)

plain_end : {request : Request} → Plain request → {s r : ℕ} {x : State} → Ends hollow (transforms_of request) s r x → reduced s r x ≡ reduced 1 0 hollow-left
plain_end {request} h {s} {r} {x} ends =
    sym (ends-two hollow no_transforms hollow-chains s r x (subst (λ (t : Transforms). Ends hollow t s r x) h.keeps ends)) ∙ hollow-reduced

module _ (calls : Calls) where
  -- ---- done

  when-done : (limit : ℕ) (request : Request) → Plain request → (output work : List ℤ) → first_refusal (early_checks limit hollow request (length output) (length work)) ≡ 0 →
      call limit hollow request output work ≡ left request output work (reduced 1 0 hollow-left)
  when-done limit request h output work passed = of (calls limit hollow request output work hollow-bytes)
    where
      of : Outcome limit hollow request output work (call limit hollow request output work) →
          call limit hollow request output work ≡ left request output work (reduced 1 0 hollow-left)
      of (outcome.Outcome.refused-early k nonzero narrow bounded told is) = absurd (nonzero (sym told ∙ passed))
      of (outcome.Outcome.is-too_wide none wide is) = absurd (plain-narrow h wide)
      of (outcome.Outcome.bounds-nothing none narrow nothing is) = absurd (nothing h.bounds)
      of (outcome.Outcome.is-done none narrow bounds s r x ends is) = is ∙ ap (left request output work) (plain_end h ends)

  -- where done is answered, whatever the slices
  pub when-answered : (limit : ℕ) (request : Request) → Plain request → (output work : List ℤ) (counts : Counts) → (call limit hollow request output work).answer ≡ done counts →
      call limit hollow request output work ≡ left request output work (reduced 1 0 hollow-left)
  when-answered limit request h output work counts answered = of (calls limit hollow request output work hollow-bytes)
    where
      answer-of : Called Counts ℤ → Answer Counts
      answer-of called = called.answer

      of : Outcome limit hollow request output work (call limit hollow request output work) →
          call limit hollow request output work ≡ left request output work (reduced 1 0 hollow-left)
      of (outcome.Outcome.refused-early k nonzero narrow bounded told is) = absurd (refused≢done (sym (ap answer-of is) ∙ answered))
      of (outcome.Outcome.is-too_wide none wide is) = absurd (refused≢done (sym (ap answer-of is) ∙ answered))
      of (outcome.Outcome.bounds-nothing none narrow nothing is) = absurd (refused≢done (sym (ap answer-of is) ∙ answered))
      of (outcome.Outcome.is-done none narrow bounds s r x ends is) = is ∙ ap (left request output work) (plain_end h ends)

  -- longer slices than needed: the report, and the slots past it as they were
  pub report-written : call 48 hollow report (nines 16) (nines 30)
      ≡ record { answer = done loops; output = pos 1 ∷ pos 0 ∷ pos 1 ∷ minus 1 ∷ pos 1 ∷ nines 11; work = replicate 30 (pos 0) }
  unfolding early_checks call_checks cells splices splice count_field offset_field cell_of cells_of sections_of some vertices_do_not_rise cells_do_not_rise face_missing without same rises precedes listed start count_below tabulate
      report_list torsion_count bits_of halvings columns_of reported
  report-written = when-done 48 report (plain refl tt) (nines 16) (nines 30) refl

  -- twice the loop
  pub coordinates-written : call 3 hollow (coordinates (pos 2 ∷ minus 2 ∷ pos 2 ∷ [])) (nines 4) (nines 27)
      ≡ record { answer = done loops; output = pos 2 ∷ nines 3; work = replicate 27 (pos 0) }
  unfolding early_checks call_checks chain_checks coefficient_exceeds boundary_not_zero cells splices splice count_field offset_field cell_of cells_of sections_of some vertices_do_not_rise cells_do_not_rise face_missing without same rises precedes listed start
      count_below boundary coefficient sign apply sum floor modulo residue tabulate coordinate_list coordinate_at torsion_count bits_of halvings reported
  coordinates-written = when-done 3 (coordinates (pos 2 ∷ minus 2 ∷ pos 2 ∷ [])) (plain refl tt) (nines 4) (nines 27) refl

  -- the loop run backwards
  pub backwards-written : call 48 hollow (coordinates (minus 1 ∷ pos 1 ∷ minus 1 ∷ [])) (nines 4) (nines 27)
      ≡ record { answer = done loops; output = minus 1 ∷ nines 3; work = replicate 27 (pos 0) }
  unfolding early_checks call_checks chain_checks coefficient_exceeds boundary_not_zero cells splices splice count_field offset_field cell_of cells_of sections_of some vertices_do_not_rise cells_do_not_rise face_missing without same rises precedes listed start
      count_below boundary coefficient sign apply sum floor modulo residue tabulate coordinate_list coordinate_at torsion_count bits_of halvings reported
  backwards-written = when-done 48 (coordinates (minus 1 ∷ pos 1 ∷ minus 1 ∷ [])) (plain refl tt) (nines 4) (nines 27) refl

  -- the loop and the loop run backwards, a list each, three slots apart
  pub lists-written : call 48 hollow (lists 2 (pos 1 ∷ minus 1 ∷ pos 1 ∷ minus 1 ∷ pos 1 ∷ minus 1 ∷ [])) (nines 7) (nines 27)
      ≡ record { answer = done loops; output = pos 1 ∷ pos 9 ∷ pos 9 ∷ minus 1 ∷ nines 3; work = replicate 27 (pos 0) }
  unfolding early_checks call_checks chains_checks cycles_checks coefficient_exceeds boundary_not_zero cells splices splice count_field offset_field cell_of cells_of sections_of some vertices_do_not_rise cells_do_not_rise face_missing without same rises precedes listed start
      count_below boundary coefficient sign apply sum floor modulo residue tabulate coordinate_list coordinate_at torsion_count bits_of halvings reported
  lists-written = when-done 48 (lists 2 (pos 1 ∷ minus 1 ∷ pos 1 ∷ minus 1 ∷ pos 1 ∷ minus 1 ∷ [])) (plain refl tt) (nines 7) (nines 27) refl

  -- ---- refused before the reductions, every slice left alone

  when-refused : (limit : ℕ) (q : Question) (request : Request) (output work : List ℤ) (n : ℕ) → Bytes q.sheet →
      first_refusal (early_checks limit q request (length output) (length work)) ≡ n → (n ≡ 0 → ⊥) →
      call limit q request output work ≡ record { answer = refused n; output = output; work = work }
  when-refused limit q request output work n bytes told nonzero = of (calls limit q request output work bytes)
    where
      of : Outcome limit q request output work (call limit q request output work) →
          call limit q request output work ≡ record { answer = refused n; output = output; work = work }
      of (outcome.Outcome.refused-early k d narrow bounded told' is) = is ∙ ap (λ (k : ℕ). record { answer = refused k; output = output; work = work }) (sym told' ∙ told)
      of (outcome.Outcome.is-too_wide none wide is) = absurd (nonzero (sym told ∙ none))
      of (outcome.Outcome.bounds-nothing none narrow nothing is) = absurd (nonzero (sym told ∙ none))
      of (outcome.Outcome.is-done none narrow bounds s r x ends is) = absurd (nonzero (sym told ∙ none))

  -- dimension 4
  pub refused-8 : call 48 (asked hollow_triangle 4) report (nines 16) (nines 30) ≡ record { answer = refused 8; output = nines 16; work = nines 30 }
  unfolding early_checks call_checks cells count_field offset_field cell_of cells_of sections_of some vertices_do_not_rise cells_do_not_rise face_missing without same rises precedes listed start count_below tabulate
  refused-8 = when-refused 48 (asked hollow_triangle 4) report (nines 16) (nines 30) 8 hollow-bytes refl (λ e. absurd (omega (arith, e)))

  -- one slot short
  refused-9 : call 256 hollow report (nines 13) (nines 30) ≡ record { answer = refused 9; output = nines 13; work = nines 30 }
  unfolding early_checks call_checks cells count_field offset_field cell_of cells_of sections_of some vertices_do_not_rise cells_do_not_rise face_missing without same rises precedes listed start count_below tabulate
  refused-9 = when-refused 256 hollow report (nines 13) (nines 30) 9 hollow-bytes refl (λ e. absurd (omega (arith, e)))

  -- no cycle
  pub refused-12 : call 256 hollow (coordinates (pos 1 ∷ pos 0 ∷ pos 0 ∷ [])) (nines 4) (nines 30) ≡ record { answer = refused 12; output = nines 4; work = nines 30 }
  unfolding early_checks call_checks chain_checks coefficient_exceeds boundary_not_zero cells count_field offset_field cell_of cells_of sections_of some vertices_do_not_rise cells_do_not_rise face_missing without same rises precedes listed start
      count_below boundary coefficient sign apply sum tabulate
  refused-12 = when-refused 256 hollow (coordinates (pos 1 ∷ pos 0 ∷ pos 0 ∷ [])) (nines 4) (nines 30) 12 hollow-bytes refl (λ e. absurd (omega (arith, e)))

  -- ---- too wide: refused 13, the output kept and the work slice cleared

  when-wide : (limit : ℕ) (q : Question) (request : Request) (output work : List ℤ) → Bytes q.sheet →
      first_refusal (early_checks limit q request (length output) (length work)) ≡ 0 → TooWide q (transforms_of request) →
      call limit q request output work ≡ record { answer = refused 13; output = output; work = cleared work }
  when-wide limit q request output work bytes passed goes = of (calls limit q request output work bytes)
    where
      of : Outcome limit q request output work (call limit q request output work) →
          call limit q request output work ≡ record { answer = refused 13; output = output; work = cleared work }
      of (outcome.Outcome.refused-early k nonzero narrow bounded told is) = absurd (nonzero (sym told ∙ passed))
      of (outcome.Outcome.is-too_wide none wide is) = is
      of (outcome.Outcome.bounds-nothing none narrow nothing is) = absurd (narrow goes)
      of (outcome.Outcome.is-done none narrow bounds s r x ends is) = absurd (narrow goes)

  -- demand 2: 13 is told exactly where no early refusal applies and the reductions go too wide
  told-13 : (limit : ℕ) (q : Question) (request : Request) (output work : List ℤ) → Bytes q.sheet →
      (number_told (call limit q request output work).answer ≡ 13) ↔ ((first_refusal (early_checks limit q request (length output) (length work)) ≡ 0) × TooWide q (transforms_of request))
  told-13 limit q request output work bytes = (
    λ e. from (calls limit q request output work bytes) e,
    λ h. ap (λ (c : Called Counts ℤ). number_told c.answer) (when-wide limit q request output work bytes h.0 h.1),
  )
    where
      number_of : Called Counts ℤ → ℕ
      number_of called = number_told called.answer

      from : Outcome limit q request output work (call limit q request output work) → number_told (call limit q request output work).answer ≡ 13 →
          (first_refusal (early_checks limit q request (length output) (length work)) ≡ 0) × TooWide q (transforms_of request)
      from (outcome.Outcome.refused-early k nonzero narrow bounded told is) e = absurd (narrow (sym (ap number_of is) ∙ e))
      from (outcome.Outcome.is-too_wide none wide is) e = (none, wide)
      from (outcome.Outcome.bounds-nothing none narrow nothing is) e = absurd (omega (arith, sym (ap number_of is) ∙ e))
      from (outcome.Outcome.is-done none narrow bounds s r x ends is) e = absurd (omega (arith, sym (ap number_of is) ∙ e))

  -- ---- 02, Note 6: 17 is told exactly where no early refusal applies, the reductions do not go too wide and the chain bounds nothing; the output is kept
  -- and the work slice cleared

  pub when-nothing : (limit : ℕ) (q : Question) (request : Request) (output work : List ℤ) → Bytes q.sheet →
      first_refusal (early_checks limit q request (length output) (length work)) ≡ 0 → (TooWide q (transforms_of request) → ⊥) → (Bounds q request → ⊥) →
      call limit q request output work ≡ record { answer = refused 17; output = output; work = cleared work }
  when-nothing limit q request output work bytes passed narrow nothing = of (calls limit q request output work bytes)
    where
      of : Outcome limit q request output work (call limit q request output work) →
          call limit q request output work ≡ record { answer = refused 17; output = output; work = cleared work }
      of (outcome.Outcome.refused-early k nonzero narrow bounded told is) = absurd (nonzero (sym told ∙ passed))
      of (outcome.Outcome.is-too_wide none wide is) = absurd (narrow wide)
      of (outcome.Outcome.bounds-nothing none narrow nothing is) = is
      of (outcome.Outcome.is-done none narrow bounds s r x ends is) = absurd (nothing bounds)

  told-17 : (limit : ℕ) (q : Question) (request : Request) (output work : List ℤ) → Bytes q.sheet →
      (number_told (call limit q request output work).answer ≡ 17)
      ↔ ((first_refusal (early_checks limit q request (length output) (length work)) ≡ 0) × (TooWide q (transforms_of request) → ⊥) × (Bounds q request → ⊥))
  told-17 limit q request output work bytes = (
    λ e. from (calls limit q request output work bytes) e,
    λ h. ap (λ (c : Called Counts ℤ). number_told c.answer) (when-nothing limit q request output work bytes h.0 h.1 h.2),
  )
    where
      number_of : Called Counts ℤ → ℕ
      number_of called = number_told called.answer

      from : Outcome limit q request output work (call limit q request output work) → number_told (call limit q request output work).answer ≡ 17 →
          (first_refusal (early_checks limit q request (length output) (length work)) ≡ 0) × (TooWide q (transforms_of request) → ⊥) × (Bounds q request → ⊥)
      from (outcome.Outcome.refused-early k nonzero narrow bounded told is) e = absurd (bounded (sym (ap number_of is) ∙ e))
      from (outcome.Outcome.is-too_wide none wide is) e = absurd (omega (arith, sym (ap number_of is) ∙ e))
      from (outcome.Outcome.bounds-nothing none narrow nothing is) e = (none, narrow, nothing)
      from (outcome.Outcome.is-done none narrow bounds s r x ends is) e = absurd (omega (arith, sym (ap number_of is) ∙ e))

  -- where a surface is done, the chain bounds
  done-bounds : (limit : ℕ) (q : Question) (z output work : List ℤ) (counts : Counts) → Bytes q.sheet → (call limit q (surface z) output work).answer ≡ done counts →
      IsBoundary (cells q) q.dimension (slot z)
  done-bounds limit q z output work counts bytes answered = of (calls limit q (surface z) output work bytes)
    where
      answer-of : Called Counts ℤ → Answer Counts
      answer-of called = called.answer

      of : Outcome limit q (surface z) output work (call limit q (surface z) output work) → IsBoundary (cells q) q.dimension (slot z)
      of (outcome.Outcome.refused-early k nonzero narrow bounded told is) = absurd (refused≢done (sym (ap answer-of is) ∙ answered))
      of (outcome.Outcome.is-too_wide none wide is) = absurd (refused≢done (sym (ap answer-of is) ∙ answered))
      of (outcome.Outcome.bounds-nothing none narrow nothing is) = absurd (refused≢done (sym (ap answer-of is) ∙ answered))
      of (outcome.Outcome.is-done none narrow bounds s r x ends is) = bounds

-- ---- refused for its sheet: 18 before the dimension and the slices

refused-18 : SheetsTold → (request : Request) (output work : List ℤ) →
    call 48 (asked edge_and_node 4) request output work ≡ record { answer = refused 18; output = output; work = work }
unfolding refusal count_field offset_field cell_of cells_of sections_of some vertices_do_not_rise cells_do_not_rise face_missing without same rises precedes listed start tabulate
refused-18 sheets_told request output work = sheets_told 48 (asked edge_and_node 4) request output work (λ e. omega (arith, e))
