-- The host's report call and the program have room for every report: how many numbers it has (report-sized), that nothing is refused early on an accepted
-- sheet (accepted-passes), so that a refusal is 13 (accepted-refused).
use mathlib.Core.Path.{◌≡◌, refl, sym, ap}
use mathlib.Core.List.{List, []}
use Prim.Native.Nat.{ℕ, zero, suc, ◌+◌, ◌≤◌}
use native.Mathlib.Nat.{suc-ne-zero, mul-le-mul_right}
use native.Mathlib.Omega.{arith}
use lib.ListN.{length}
use lib.IntN.{ℤ}
use Rattle.limits.specs.Limits.{host_limit}
use Rattle.trials.specs.Trial.{first_refusal, done, refused}
use Rattle.trials.proofs.TrialLaws.{refused≢done}
use Rattle.sheet_format.specs.Layout.{top}
use Rattle.sheet_format.specs.Check.{refusal}
use Rattle.sheet_format.specs.Sheet.{Bytes}
use Rattle.reduction_steps.specs.State.{State}
use Rattle.reports.specs.Reductions.{Reductions, no_transforms, too_wide, reduced}
use Rattle.reports.specs.Report.{Counts, counts_of, free_rank, torsion_count, report_list, coordinate_list}
use Rattle.requests.specs.Question.{Question, cells, cell_count, two}
use Rattle.requests.specs.Call.{report, coordinates, list_slots, numbers_of, early_checks, call_with, call}
use Rattle.lists.specs.Splice.{splices}
use Rattle.requests.proofs.CallLaws.{no_ending, early-iff}
use Rattle.host_calls.specs.Host.{report_room, work_room}
use Rattle.host_calls.proofs.HostCallLaws.{counts-within, report-room, work-room}
use Rattle.answers.specs.Right.{report_length}
use Rattle.answers.proofs.Numbers.{report-length, coordinates-length}
use Rattle.answers.proofs.Behind.{Behind}
use Rattle.answers.proofs.ListLaws.{width_fits}
use Rattle.answers.proofs.CallRight.{Answered, done-number, answered, counts_behind}

-- the question, whose sheet is accepted, has these counts
pub record Sized (q : Question) (counts : Counts) : Type 0 where
  pub reductions-behind : Behind q no_transforms
  pub counts-are : counts ≡ counts_of reductions-behind.rows reductions-behind.rank reductions-behind.state
  pub cells-within : cell_count q ≤ host_limit
  pub total-within : counts.torsion + counts.free ≤ cell_count q
  pub report-size : length (report_list (cell_count q) reductions-behind.rows reductions-behind.rank reductions-behind.state)
      ≡ report_length (cells q) q.dimension counts.free counts.torsion
  pub coordinates-size : (z : List ℤ) → length (coordinate_list (cell_count q) reductions-behind.rows reductions-behind.state z) ≡ counts.torsion + counts.free

-- a report call that is done, with an output of so many slots
pub record ReportSized (q : Question) (slots : ℕ) (counts : Counts) : Type 0 where
  pub is-sized : Sized q counts
  pub fits : report_length (cells q) q.dimension counts.free counts.torsion ≤ slots

module _ (q : Question) (bytes : Bytes q.sheet) (output work : List ℤ) (counts : Counts) (e : (call host_limit q report output work).answer ≡ done counts) where
  abbrev A : Answered host_limit q report (length output) (length work)
  A = answered host_limit q report output work bytes (done-number e)

  abbrev B : Behind q no_transforms
  B = A.reductions-behind

  counts-are : counts ≡ counts_of B.rows B.rank B.state
  counts-are = counts_behind host_limit q report output work bytes e

  free-is : counts.free ≡ free_rank B.rows B.rank
  free-is = ap (λ (c : Counts). c.free) counts-are

  torsion-is : counts.torsion ≡ torsion_count B.rank B.state
  torsion-is = ap (λ (c : Counts). c.torsion) counts-are

  total-within : counts.torsion + counts.free ≤ cell_count q
  total-within = omega (arith, free-is, torsion-is, width_fits q B.right (coordinates []))

  report-size : length (report_list (cell_count q) B.rows B.rank B.state) ≡ report_length (cells q) q.dimension counts.free counts.torsion
  report-size = cc (report-length B.right, free-is, torsion-is)

  pub report-sized : ReportSized q (length output) counts
  report-sized = record {
    is-sized = record {
      reductions-behind = B;
      counts-are = counts-are;
      cells-within = counts-within q A.passed.accepted q.dimension;
      total-within = total-within;
      report-size = report-size;
      coordinates-size = λ z. cc (coordinates-length B.right z, free-is, torsion-is);
    };
    fits = omega (arith, total-within, mul-le-mul_right (cell_count q) total-within, A.passed.output-slots);
  }

-- ---- an accepted sheet, where a host call has its room

-- the question goes too wide, and k is the number for that
pub record WentWide (q : Question) (k : ℕ) : Type 0 where
  pub is_wide : two q no_transforms ≡ too_wide
  pub number_is : k ≡ 13

module _ (q : Question) (accepted : refusal host_limit q.sheet ≡ 0) (dimension : q.dimension ≤ top) (output work : List ℤ) (size : length output ≡ report_room)
    (space : length work ≡ work_room) where
  pub accepted-passes : first_refusal (early_checks host_limit q report (length output) (length work)) ≡ 0
  accepted-passes =
      (early-iff host_limit q report (length output) (length work)).1 (
        record {
          accepted = accepted;
          dimension = dimension;
          output-slots = omega (arith, size, report-room q accepted);
          work-slots = omega (arith, space, work-room q accepted);
        },
        refl,
      )

  pub accepted-refused : (k : ℕ) → (call host_limit q report output work).answer ≡ refused k → WentWide q k
  unfolding call
  accepted-refused k e = go (first_refusal (early_checks host_limit q report (length output) (length work))) (two q no_transforms) accepted-passes refl e
    where
      left : ℕ → ℕ → State → List ℤ
      left s r x = splices (list_slots q report) (numbers_of q report s r x) 1 output

      go : (n : ℕ) (R : Reductions) → n ≡ 0 → two q no_transforms ≡ R → (call_with n no_ending R left output work).answer ≡ refused k → WentWide q k
      go (suc n) R z f e = absurd (suc-ne-zero n z)
      go zero too_wide z f e = record { is_wide = f; number_is = cc }
      go zero (reduced s r x) z f e = absurd (refused≢done (sym e))
