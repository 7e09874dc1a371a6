-- The claims on the calls: the number, what is left and what is written.
use mathlib.Core.Path.{◌≡◌, refl, sym, ◌∙◌, ap}
use mathlib.Core.Logic.{◌↔◌}
use mathlib.Core.List.{List}
use Prim.Native.Nat.{ℕ, ◌+◌, ◌*◌, ◌≤◌, ◌<◌}
use native.Mathlib.Omega.{arith}
use lib.ListN.{length}
use lib.IntN.{ℤ}
use Rattle.limits.specs.Limits.{coefficient_limit}
use Rattle.trials.specs.Trial.{first_refusal, done, refused, number_told, Called}
use Rattle.lists.specs.Splice.{splices}
use Rattle.sheet_format.specs.Check.{refusal}
use Rattle.sheet_format.specs.Sheet.{Bytes}
use Rattle.reports.specs.Reductions.{no_transforms}
use Rattle.reports.specs.Report.{Counts, coordinate_list}
use Rattle.requests.specs.Question.{Question, cells, cell_count, two}
use Rattle.requests.specs.Chains.{chain_at, chain_checks, cycles_checks, chains_checks, FirstFault}
use Rattle.requests.proofs.ChainsLaws.{length-chain_at, fault, cycles-told, chains-sized, chains-zero}
use Rattle.requests.specs.Call.{coordinates, lists, list_count, list_slots, transforms_of, numbers_of, request_checks, end_checks, work_slots, work_slots_for, call_checks, early_checks, call}
use Rattle.requests.proofs.CheckLaws.{sheet-told, call-told, call-passed}
use Rattle.requests.proofs.CallLaws.{with-early, early-iff}
use Rattle.integers.specs.Slot.{slot}
use Rattle.answers.proofs.ChainChecks.{chain-told, not-a-cycle-iff}
use Rattle.answers.proofs.Behind.{Behind, same-behind}
use Rattle.answers.proofs.CallRight.{Answered, done-number, call-outcome, call-earlier, counts_behind, answered, passed-done, list-reads}
use Rattle.answers.proofs.ListLaws.{coordinates-width}
use Rattle.demands.specs.Calls.{Calls, SheetsTold, NotACycle, FirstFaultyChain, ListsSingle}

pub calls : Calls
calls = call-outcome

pub sheets_told : SheetsTold
unfolding call early_checks
sheets_told limit q request output work d =
    with-early (first_refusal (early_checks limit q request (length output) (length work))) (end_checks q request) (two q (transforms_of request))
    (λ s r x. splices (list_slots q request) (numbers_of q request s r x) (list_count request) output) output work (λ z. d (sym told ∙ z))
    ∙ ap (λ (k : ℕ). record { answer = refused k; output = output; work = work }) told
  where
    slots : ℕ
    slots = list_count request * list_slots q request

    space : ℕ
    space = work_slots_for (transforms_of request) (cells q) q.dimension

    sheet : first_refusal (call_checks limit q (list_count request * list_slots q request) (work_slots_for (transforms_of request) (cells q) q.dimension) (length output) (length work))
        ≡ refusal limit q.sheet
    sheet = sheet-told limit q slots space (length output) (length work) d

    told : first_refusal (early_checks limit q request (length output) (length work)) ≡ refusal limit q.sheet
    told = call-told limit q slots space (length output) (length work) (request_checks q request) (λ z. d (sym sheet ∙ z)) ∙ sheet

pub not_a_cycle : NotACycle
not_a_cycle = not-a-cycle-iff

-- the first faulty chain is the same by other numbers that are equal
fault-same : {f g : ℕ → ℕ} (many k : ℕ) → ((i : ℕ) → i < many → f i ≡ g i) → FirstFault f many k → FirstFault g many k
fault-same many k same x = record {
  place = x.place;
  within = x.within;
  told = sym (same x.place x.within) ∙ x.told;
  earlier = λ i l. sym (same i (omega (arith, x.within))) ∙ x.earlier i l;
}

pub first_faulty_chain : FirstFaultyChain
unfolding early_checks
first_faulty_chain limit q many chains output work bytes passed size k nonzero narrow = (
  λ e. fault-same many k (λ i l. sym (same i l)) (iff.0 (sym before ∙ answers.0 e)),
  λ f. answers.1 (before ∙ iff.1 (fault-same many k same f)),
)
  where
    p : ℕ
    p = q.dimension

    answers : (number_told (call limit q (lists many chains) output work).answer ≡ k) ↔ (first_refusal (early_checks limit q (lists many chains) (length output) (length work)) ≡ k)
    answers = call-earlier limit q (lists many chains) output work k nonzero narrow (λ s r x e. nonzero (sym e))

    before : first_refusal (early_checks limit q (lists many chains) (length output) (length work)) ≡ first_refusal (cycles_checks coefficient_limit (cells q) q.dimension many chains)
    before =
        call-passed limit q (many * cell_count q) (work_slots (cells q) q.dimension) (length output) (length work)
        (chains_checks coefficient_limit (cells q) q.dimension many chains) passed
        ∙ chains-sized coefficient_limit (cells q) q.dimension chains many size

    iff : (first_refusal (cycles_checks coefficient_limit (cells q) q.dimension many chains) ≡ k) ↔ FirstFault (fault coefficient_limit (cells q) q.dimension chains) many k
    iff = cycles-told coefficient_limit (cells q) q.dimension chains many k nonzero

    same : (i : ℕ) → i < many
        → first_refusal (chain_checks coefficient_limit (cells q) q.dimension (chain_at (cell_count q) chains i)) ≡ fault coefficient_limit (cells q) q.dimension chains i
    same i l = chain-told coefficient_limit (cells q) q.dimension chains i (length-chain_at (cell_count q) many chains size i l)

module _ (limit : ℕ) (q : Question) (many : ℕ) (chains output work : List ℤ) (bytes : Bytes q.sheet) (counts : Counts)
    (e : (call limit q (lists many chains) output work).answer ≡ done counts) (i : ℕ) (next : i < many)
    (output' work' : List ℤ) (room : cell_count q ≤ length output') (space : work_slots (cells q) q.dimension ≤ length work') where
  abbrev A : Answered limit q (lists many chains) (length output) (length work)
  A = answered limit q (lists many chains) output work bytes (done-number e)

  abbrev L : Behind q no_transforms
  L = A.reductions-behind

  abbrev z : List ℤ
  z = chain_at (cell_count q) chains i

  -- what the single call passes
  single-passed : first_refusal (early_checks limit q (coordinates z) (length output') (length work')) ≡ 0
  single-passed =
      let chains-passed = (chains-zero coefficient_limit (cells q) q.dimension chains many).0 A.request-passed in
      (early-iff limit q (coordinates z) (length output') (length work')).1 (
        record {
          accepted = A.passed.accepted;
          dimension = A.passed.dimension;
          output-slots = omega (arith, room);
          work-slots = space;
        },
        chain-told coefficient_limit (cells q) q.dimension chains i (length-chain_at (cell_count q) many chains chains-passed.0 i next) ∙ chains-passed.1 i next,
      )

  abbrev single : Called Counts ℤ
  single = call limit q (coordinates z) output' work'

  answer : single.answer ≡ done counts
  answer = passed-done limit q (coordinates z) output' work' single-passed L refl ∙ ap done (sym (counts_behind limit q (lists many chains) output work bytes e))

  abbrev S : Behind q no_transforms
  S = (answered limit q (coordinates z) output' work' bytes (done-number answer)).reductions-behind

  width-lists : counts.torsion + counts.free ≡ coordinates-width L
  width-lists = ap (λ (c : Counts). c.torsion + c.free) (counts_behind limit q (lists many chains) output work bytes e)

  width-single : counts.torsion + counts.free ≡ coordinates-width S
  width-single = ap (λ (c : Counts). c.torsion + c.free) (counts_behind limit q (coordinates z) output' work' bytes answer)

  same : (j : ℕ) → j < counts.torsion + counts.free
      → slot (call limit q (lists many chains) output work).output (i * cell_count q + j) ≡ slot single.output j
  same j l =
      list-reads limit q (lists many chains) output work bytes (done-number e) i next j (omega (arith, width-lists))
      ∙ same-behind (λ s r x. slot (coordinate_list (cell_count q) s x z) j ≡ slot single.output j) S L
      (sym (list-reads limit q (coordinates z) output' work' bytes (done-number answer) 0 (omega arith) j (omega (arith, width-single)))
      ∙ ap (slot single.output) place)
    where
      place : 0 * cell_count q + j ≡ j
      place = omega arith

pub lists_single : ListsSingle
lists_single limit q many chains output work bytes counts e i l output' work' room space = record {
  answer = answer limit q many chains output work bytes counts e i l output' work' room space;
  same = same limit q many chains output work bytes counts e i l output' work' room space;
}
