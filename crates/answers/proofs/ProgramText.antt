-- The program's text: for an accepted sheet a text for each dimension, each that of the report or `R 13` (dimensions-printed); for any
-- other sheet, and for it alone, `R` and the number of its refusal (refused-iff).
use mathlib.Core.Path.{◌≡◌, refl, sym, ◌∙◌, ap}
use mathlib.Core.Logic.{◌↔◌, ◌≢◌}
use mathlib.Core.List.{List, [], ◌∷◌, ◌++◌, map, append_assoc, append-nil}
use Prim.Native.Nat.{ℕ, zero, suc, ◌+◌, ◌≤◌}
use native.Mathlib.Nat.{add-zero, zero-add}
use native.Mathlib.Omega.{arith}
use lib.ListN.{length, drop, replicate, length-replicate}
use lib.IntN.{ℤ, pos}
use Rattle.limits.specs.Limits.{host_limit}
use Rattle.lists.specs.Splice.{written, splices}
use Rattle.lists.proofs.SplicesLaws.{splices-single}
use Rattle.trials.specs.Trial.{first_refusal, done, Called, cleared}
use Rattle.complexes.proofs.ChainComplex.{ChainComplex}
use Rattle.sheet_format.specs.Layout.{top}
use Rattle.sheet_format.specs.Check.{refusal}
use Rattle.sheet_format.specs.Sheet.{Bytes}
use Rattle.sheet_format.proofs.Accept.{accepted-chains}
use Rattle.reduction_steps.specs.State.{State}
use Rattle.reports.specs.Reductions.{Reductions, no_transforms, too_wide, reduced}
use Rattle.reports.specs.Report.{Counts, kind, reported, free_rank, torsion_count, counts_of, report_list}
use Rattle.reports.proofs.ReportLaws.{length-coordinate_list}
use Rattle.requests.specs.Question.{Question, asked, cells, cell_count, two}
use Rattle.requests.specs.Call.{report, list_slots, numbers_of, work_slots, early_checks, call}
use Rattle.requests.proofs.CallLaws.{no_ending, with-done, early-iff}
use Rattle.program_text.specs.Text.{line, refusal_line, generator_lines, report_text, dimension_text, dimensions_text, text_for, program_text}
use Rattle.program_text.proofs.TextLaws.{report_text-report_list}
use Rattle.program_text.proofs.LineLaws.{refusal_line-injective, feeds, feeds-append, feeds-line}
use Rattle.answers.specs.Printed.{DimensionPrinted, is-too_wide, reports, in_turn, DimensionsPrinted}
use Rattle.answers.proofs.Numbers.{coordinates-length}
use Rattle.answers.proofs.Behind.{two-right, two-wide}

-- the text of dimension p
abbrev text_of : List ℕ → ℕ → List ℕ
text_of b p = dimension_text p (cell_count (asked b p)) (two (asked b p) no_transforms)

turns : (b : List ℕ) (more p : ℕ) → in_turn (p + more) (text_of b) ≡ in_turn p (text_of b) ++ dimensions_text b more p
unfolding in_turn dimensions_text
turns b zero p = ap (λ (k : ℕ). in_turn k (text_of b)) (add-zero p) ∙ sym (append-nil (in_turn p (text_of b)))
turns b (suc more) p =
    ap (λ (k : ℕ). in_turn k (text_of b)) next
    ∙ turns b more (suc p)
    ∙ append_assoc (in_turn p (text_of b)) (text_of b p) (dimensions_text b more (suc p))
  where
    next : p + suc more ≡ suc p + more
    next = omega arith

turns-all : (b : List ℕ) → in_turn (suc top) (text_of b) ≡ dimensions_text b (suc top) 0
unfolding in_turn
turns-all b = ap (λ (k : ℕ). in_turn k (text_of b)) (sym (zero-add (suc top))) ∙ turns b (suc top) 0

-- ---- one dimension

module _ (b : List ℕ) (bytes : Bytes b) (accepted : refusal host_limit b ≡ 0) where
  module _ (p : ℕ) where
    abbrev q : Question
    q = asked b p

    complex : ChainComplex host_limit (cells q)
    unfolding cells
    complex = accepted-chains host_limit b bytes accepted

    -- slices as long as check 9 wants
    abbrev output : List ℤ
    output = replicate (list_slots q report) (pos 0)

    abbrev work : List ℤ
    work = replicate (work_slots (cells q) p) (pos 0)

    passes : p ≤ top → first_refusal (early_checks host_limit q report (length output) (length work)) ≡ 0
    passes h =
        (early-iff host_limit q report (length output) (length work)).1 (
          record {
            accepted = accepted;
            dimension = h;
            output-slots = omega (arith, length-replicate (list_slots q report) (pos 0));
            work-slots = omega (arith, length-replicate (work_slots (cells q) p) (pos 0));
          },
          refl,
        )

    module _ (h : p ≤ top) (s r : ℕ) (x : State) (e : two q no_transforms ≡ reduced s r x) where
      abbrev left : ℕ → ℕ → State → List ℤ
      left s r x = splices (list_slots q report) (numbers_of q report s r x) 1 output

      called : call host_limit q report output work ≡ record { answer = done (counts_of s r x); output = left s r x; work = cleared work }
      unfolding call
      called = with-done (first_refusal (early_checks host_limit q report (length output) (length work))) no_ending (two q no_transforms) left output work (passes h) s r x e refl

      report-left : (call host_limit q report output work).output ≡ written (report_list (cell_count q) s r x) output
      report-left = ap (λ (c : Called Counts ℤ). c.output) called ∙ splices-single (list_slots q report) (numbers_of q report s r x) output

      -- the numbers of the report give the text
      report-text : dimension_text p (cell_count q) (reduced s r x)
          ≡ report_text p (cell_count q) (torsion_count r x) (torsion_count r x + free_rank s r) (call host_limit q report output work).output
      report-text =
          sym (report_text-report_list p (cell_count q) s r x (drop (length (report_list (cell_count q) s r x)) output))
          ∙ ap (λ (l : List ℤ). report_text p (cell_count q) (torsion_count r x) (length (reported (kind x) s)) l) (sym report-left)
          ∙ ap (λ (k : ℕ). report_text p (cell_count q) (torsion_count r x) k (call host_limit q report output work).output)
          (sym (length-coordinate_list (cell_count q) s x []) ∙ coordinates-length (two-right q no_transforms complex s r x e) [])

    printed : p ≤ top → (R : Reductions) → two q no_transforms ≡ R → DimensionPrinted b p (dimension_text p (cell_count q) R)
    unfolding dimension_text
    printed h too_wide e = is-too_wide ((two-wide q no_transforms complex).0 e) refl
    printed h (reduced s r x) e = reports output work (counts_of s r x) (ap (λ (c : Called Counts ℤ). c.answer) (called h s r x e)) (report-text h s r x e)

  -- ---- all dimensions

  pub dimensions-printed : DimensionsPrinted b
  unfolding program_text text_for
  dimensions-printed = record {
    texts = text_of b;
    in-turn = ap (λ (k : ℕ). text_for k b) accepted ∙ sym (turns-all b);
    each = λ p l. printed p l (two (asked b p) no_transforms) refl;
  }

-- ---- a refused sheet

-- a dimension's text has a line
text-feeds : (p n : ℕ) (R : Reductions) → 1 ≤ feeds (dimension_text p n R)
unfolding dimension_text
text-feeds p n too_wide = omega (arith, feeds-line 82 (pos 13 ∷ []) (λ e. absurd (omega arith)))
text-feeds p n (reduced s r x) =
    omega (
      arith,
      feeds-append (line 72 heading) (generator_lines n x (reported (kind x) s)),
      feeds-line 72 heading (λ e. absurd (omega arith)),
    )
  where
    heading : List ℤ
    heading = pos p ∷ pos (free_rank s r) ∷ pos (torsion_count r x) ∷ map (kind x) (reported (kind x) r)

turns-feeds : (b : List ℕ) (n : ℕ) → n ≤ feeds (in_turn n (text_of b))
unfolding in_turn
turns-feeds b zero = omega arith
turns-feeds b (suc n) =
    omega (arith, turns-feeds b n, text-feeds n (cell_count (asked b n)) (two (asked b n) no_transforms), feeds-append (in_turn n (text_of b)) (text_of b n))

module _ (b : List ℕ) where
  accepted-other : refusal host_limit b ≡ 0 → (k : ℕ) → program_text b ≢ refusal_line k
  unfolding program_text text_for
  accepted-other e k q =
      absurd (omega (
        arith,
        turns-feeds b (suc top),
        ap feeds (turns-all b ∙ sym (ap (λ (i : ℕ). text_for i b) e) ∙ q),
        feeds-line 82 (pos k ∷ []) (λ e. absurd (omega arith)),
      ))

  refused-text : (k : ℕ) → k ≢ 0 → refusal host_limit b ≡ k → program_text b ≡ refusal_line k
  unfolding program_text text_for
  refused-text zero d e = absurd (d refl)
  refused-text (suc k) d e = rw e

  pub refused-iff : (k : ℕ) → k ≢ 0 → (program_text b ≡ refusal_line k) ↔ (refusal host_limit b ≡ k)
  refused-iff k d = (λ q. from (refusal host_limit b) refl q, refused-text k d)
    where
      from : (j : ℕ) → refusal host_limit b ≡ j → program_text b ≡ refusal_line k → refusal host_limit b ≡ k
      from zero e q = absurd (accepted-other e k q)
      from (suc j) e q = e ∙ refusal_line-injective (suc j) k (sym (refused-text (suc j) (λ z. absurd (omega arith)) e) ∙ q)
