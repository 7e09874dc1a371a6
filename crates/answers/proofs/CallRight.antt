-- A call of the library: what it answers and leaves (call-outcome); where it is done, what stands behind it (answered) and the numbers of its lists
-- (list-reads).
use mathlib.Core.Path.{◌≡◌, refl, sym, ◌∙◌, ap}
use mathlib.Core.Logic.{◌↔◌, ◌≢◌}
use mathlib.Core.List.{List}
use Prim.Native.Nat.{ℕ, zero, suc, ◌+◌, ◌*◌, ◌<◌}
use native.Mathlib.Omega.{arith}
use lib.ListN.{length}
use lib.IntN.{ℤ, pos}
use Rattle.lists.specs.Splice.{splices}
use Rattle.lists.proofs.SplicesLaws.{Fit, splices-in}
use Rattle.trials.proofs.TrialLaws as trial
use Rattle.trials.proofs.TrialLaws.{Conclusion, conclusion}
use Rattle.trials.specs.Trial.{first_refusal, done, refused, number_told, Answer, Called, cleared, concluded}
use Rattle.complexes.proofs.ChainComplex.{ChainComplex}
use Rattle.sheet_format.specs.Sheet.{Bytes}
use Rattle.reduction_steps.specs.State.{State}
use Rattle.reports.specs.Reductions.{Reductions, Transforms, too_wide, reduced}
use Rattle.reports.proofs.ReductionsLaws.{too_wide≢reduced}
use Rattle.reports.specs.Report.{Counts, free_rank, torsion_count, counts_of}
use Rattle.requests.specs.Question.{Question, cells, two}
use Rattle.requests.specs.Call.{Request, transforms_of, list_count, list_slots, numbers_of, request_checks, end_checks, work_slots_for, early_checks, late_checks, of_reduced, no_counts, call_with, call}
use Rattle.requests.proofs.CheckLaws.{Passed}
use Rattle.requests.proofs.CallLaws.{DoneWith, with-done, with_number, early-iff, early-late}
use Rattle.requests.proofs.ChainsLaws as late
use Rattle.integers.specs.Slot.{slot}
use Rattle.answers.specs.Outcome.{TooWide, Bounds, Outcome, refused-early, is-too_wide, bounds-nothing, is-done, list_width}
use Rattle.answers.proofs.Behind.{Behind, early-chains, early-bare, two-wide, two-right, behind, ends, reduced-same}
use Rattle.answers.proofs.EndLaws.{ending-iff, ending-number}
use Rattle.answers.proofs.ListLaws.{numbers-width, width_fits}

-- a call that is done, with what stands behind it
pub record Answered (limit : ℕ) (q : Question) (request : Request) (output work : ℕ) : Type 0 where
  pub passed : Passed limit q (list_count request * list_slots q request) (work_slots_for (transforms_of request) (cells q) q.dimension) output work
  pub request-passed : first_refusal (request_checks q request) ≡ 0
  pub complex : ChainComplex limit (cells q)
  pub reductions-behind : Behind q (transforms_of request)
  pub ends : first_refusal (end_checks q request reductions-behind.rows reductions-behind.rank reductions-behind.state) ≡ 0

module _ (limit : ℕ) (q : Question) (request : Request) (output work : ℕ) (bytes : Bytes q.sheet) where
  pub answered-by : DoneWith (first_refusal (early_checks limit q request output work)) (end_checks q request) (two q (transforms_of request)) → Answered limit q request output work
  answered-by d =
      let both = (early-iff limit q request output work).0 d.passes in
      let complex = early-chains limit q request output work bytes d.passes in
      let B = behind q (transforms_of request) complex d.rows d.rank d.state (early-bare limit q request output work bytes d.passes) d.reductions in
      record {
        passed = both.0;
        request-passed = both.1;
        complex = complex;
        reductions-behind = B;
        ends = reduced-same (λ s r x. first_refusal (end_checks q request s r x) ≡ 0) d.reductions B.reductions-are d.ends;
      }

pub done-number : {A : Type 0} {x : Answer A} {carried : A} → x ≡ done carried → number_told x ≡ 0
done-number e = ap number_told e

module _ (limit : ℕ) (q : Question) (request : Request) (output work : List ℤ) (bytes : Bytes q.sheet) where
  abbrev early : ℕ
  early = first_refusal (early_checks limit q request (length output) (length work))

  abbrev left : ℕ → ℕ → State → List ℤ
  left s r x = splices (list_slots q request) (numbers_of q request s r x) (list_count request) output

  abbrev called : Called Counts ℤ
  called = call limit q request output work

  -- what its reductions come to
  abbrev R : Reductions
  R = two q (transforms_of request)

  pub call-outcome : Outcome limit q request output work called
  unfolding call
  call-outcome = go R refl (conclusion (of_reduced no_counts counts_of R) (of_reduced output left R) output work early (first_refusal (late_checks (end_checks q request) R)))
    where
      t : Transforms
      t = transforms_of request

      complex : early ≡ 0 → ChainComplex limit (cells q)
      complex = early-chains limit q request (length output) (length work) bytes

      -- they do not go too wide
      narrow : early ≡ 0 → (s r : ℕ) (x : State) → R ≡ reduced s r x → TooWide q t → ⊥
      narrow e s r x f w = too_wide≢reduced (sym ((two-wide q t (complex e)).1 w) ∙ f)

      -- the chain bounds, exactly where no check at the end applies
      bounds : early ≡ 0 → (s r : ℕ) (x : State) → R ≡ reduced s r x → (first_refusal (end_checks q request s r x) ≡ 0) ↔ Bounds q request
      bounds e s r x f = ending-iff q (two-right q t (complex e) s r x f) request ((early-iff limit q request (length output) (length work)).0 e).1

      go : (S : Reductions) → R ≡ S
          → Conclusion early (first_refusal (late_checks (end_checks q request) S)) (of_reduced no_counts counts_of S) (of_reduced output left S) output work called
          → Outcome limit q request output work called
      go S f (trial.refused-early d is) =
          refused-early early d (early-late q late.wide limit request (length output) (length work)) (early-late q late.bounds limit request (length output) (length work)) refl is
      go too_wide f (trial.refused-late e d is) = is-too_wide e ((two-wide q t (complex e)).0 f) is
      go too_wide f (trial.is-done e d is) = absurd (omega arith)
      go (reduced s r x) f (trial.refused-late e d is) =
          bounds-nothing e (narrow e s r x f) (λ b. d ((bounds e s r x f).1 b))
          (is ∙ ap (λ (k : ℕ). record { answer = refused k; output = output; work = cleared work }) (ending-number q request s r x d))
      go (reduced s r x) f (trial.is-done e d is) =
          is-done e (narrow e s r x f) ((bounds e s r x f).0 d) s r x (ends q t (complex e) s r x f) is

  module _ (e : number_told called.answer ≡ 0) where
    pub answered : Answered limit q request (length output) (length work)
    unfolding call
    answered =
        answered-by limit q request (length output) (length work) bytes (with_number early (end_checks q request) R left output work e)

    abbrev B : Behind q (transforms_of request)
    B = answered.reductions-behind

    pub called_is : called ≡ record { answer = done (counts_of B.rows B.rank B.state); output = left B.rows B.rank B.state; work = cleared work }
    unfolding call
    called_is =
        with-done early (end_checks q request) R left output work ((early-iff limit q request (length output) (length work)).1 (answered.passed, answered.request-passed))
        B.rows B.rank B.state B.reductions-are answered.ends

    -- how many numbers each list has
    abbrev width : ℕ
    width = list_width q request (free_rank B.rows B.rank) (torsion_count B.rank B.state)

    abbrev numbers : ℕ → List ℤ
    numbers = numbers_of q request B.rows B.rank B.state

    pub list-fit : Fit (list_slots q request) numbers output (list_count request)
    list-fit = record {
      short = λ i l. omega (arith, numbers-width q B.right request i, width_fits q B.right request);
      room = answered.passed.output-slots;
    }

    pub list-reads : (i : ℕ) → i < list_count request → (j : ℕ) → j < width → slot called.output (i * list_slots q request + j) ≡ slot (numbers i) j
    list-reads i l j h =
        ap (λ (c : Called Counts ℤ). slot c.output (i * list_slots q request + j)) called_is
        ∙ splices-in (list_slots q request) numbers output (list_count request) list-fit i j (pos 0) l (omega (arith, numbers-width q B.right request i))

-- the counts that a call answers are those of what stands behind it
pub counts_behind : (limit : ℕ) (q : Question) (request : Request) (output work : List ℤ) (bytes : Bytes q.sheet) {counts : Counts}
    (e : (call limit q request output work).answer ≡ done counts)
    → counts
    ≡ counts_of (answered limit q request output work bytes (done-number e)).reductions-behind.rows
    (answered limit q request output work bytes (done-number e)).reductions-behind.rank
    (answered limit q request output work bytes (done-number e)).reductions-behind.state
counts_behind limit q request output work bytes {counts} e =
    let B = (answered limit q request output work bytes (done-number e)).reductions-behind in
    let same : done counts ≡ done (counts_of B.rows B.rank B.state) =
    sym e ∙ ap (λ (c : Called Counts ℤ). c.answer) (called_is limit q request output work bytes (done-number e)) in
    cc

-- a call that passes the early checks, where the reductions are done and no check at their end applies
pub passed-done : (limit : ℕ) (q : Question) (request : Request) (output work : List ℤ) → first_refusal (early_checks limit q request (length output) (length work)) ≡ 0
    → (B : Behind q (transforms_of request)) → first_refusal (end_checks q request B.rows B.rank B.state) ≡ 0
    → (call limit q request output work).answer ≡ done (counts_of B.rows B.rank B.state)
unfolding call
passed-done limit q request output work e B ended =
    ap (λ (c : Called Counts ℤ). c.answer)
    (with-done (first_refusal (early_checks limit q request (length output) (length work))) (end_checks q request) (two q (transforms_of request))
    (λ s r x. splices (list_slots q request) (numbers_of q request s r x) (list_count request) output) output work e B.rows B.rank B.state B.reductions-are ended)

-- a number but 13 and those of the checks at the end is told exactly when the early checks give it
pub call-earlier : (limit : ℕ) (q : Question) (request : Request) (output work : List ℤ) (k : ℕ) → k ≢ 0 → k ≢ 13
    → ((s r : ℕ) (x : State) → first_refusal (end_checks q request s r x) ≢ k)
    → (number_told (call limit q request output work).answer ≡ k) ↔ (first_refusal (early_checks limit q request (length output) (length work)) ≡ k)
unfolding call
call-earlier limit q request output work k nonzero narrow ended =
    go (first_refusal (early_checks limit q request (length output) (length work))) (two q (transforms_of request))
  where
    left : ℕ → ℕ → State → List ℤ
    left s r x = splices (list_slots q request) (numbers_of q request s r x) (list_count request) output

    -- at the end of the reductions another number is told, or none
    at-end : (s r : ℕ) (x : State) (n : ℕ) → first_refusal (end_checks q request s r x) ≡ n
        → (number_told (concluded 0 n (counts_of s r x) (left s r x) output work).answer ≡ k) ↔ (0 ≡ k)
    at-end s r x zero f = (λ e. e, λ e. e)
    at-end s r x (suc n) f = (λ e. absurd (ended s r x (f ∙ e)), λ e. absurd (nonzero (sym e)))

    go : (n : ℕ) (R : Reductions) → (number_told (call_with n (end_checks q request) R left output work).answer ≡ k) ↔ (n ≡ k)
    go (suc n) R = (λ e. e, λ e. e)
    go zero too_wide = (λ e. absurd (narrow (sym e)), λ e. absurd (nonzero (sym e)))
    go zero (reduced s r x) = at-end s r x (first_refusal (end_checks q request s r x)) refl
