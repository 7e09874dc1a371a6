-- Uses of the claims on the program: the text of the hollow triangle, of a sheet cut short, and of an input longer than any sheet.
use mathlib.Core.Path.{◌≡◌, refl, sym, ◌∙◌, ap}
use mathlib.Core.List.{List, [], ◌∷◌}
use Prim.Native.Nat.{ℕ, ◌+◌, ◌≤◌}
use native.Mathlib.Omega.{arith}
use lib.ListN.{take}
use lib.IntN.{ℤ}
use Rattle.limits.specs.Limits.{host_limit}
use Rattle.lists.specs.Tabulate.{tabulate}
use Rattle.lists.specs.Splice.{splice, splices}
use Rattle.trials.specs.Trial.{Answer, done, refused, Called}
use Rattle.trials.proofs.TrialLaws.{refused≢done}
use Rattle.sheet_format.specs.Layout.{start, top}
use Rattle.sheet_format.specs.Check.{count_field, cell_of, cells_of, sections_of, refusal}
use Rattle.sheet_format.specs.Sheet.{Bytes}
use Rattle.sheet_format.specs.Starred.{hollow_triangle}
use Rattle.reports.specs.Reductions.{no_transforms}
use Rattle.reports.specs.Report.{Counts, counts_of, reported, columns_of, torsion_count, report_list}
use Rattle.requests.specs.Question.{asked, cells}
use Rattle.requests.specs.Call.{report, call}
use Rattle.program_text.specs.Text.{digits, decimal, spaced, refusal_line, generators_text, report_text, program_text}
use Rattle.answers.specs.Printed.{DimensionPrinted, DimensionsPrinted, in_turn}
use Rattle.answers.specs.Printed as printed
use Rattle.answers.specs.Outcome.{Outcome, TooWide}
use Rattle.answers.specs.Outcome as outcome
use Rattle.demands.specs.Calls.{Calls}
use Rattle.demands.specs.Program.{ProgramRefuses, ProgramPrints, ProgramInput}
use Rattle.demands.proofs.Hollow.{hollow, hollow-bytes, hollow-accepted, hollow-left, hollow-narrow}
use Rattle.demands.proofs.UseCalls.{plain, when-answered}

-- `R 1`
abbrev too_short : List ℕ
too_short = 82 ∷ 32 ∷ 49 ∷ 10 ∷ []

module _ (program_refuses : ProgramRefuses) where
  -- 15 bytes of a header
  refused-1 : program_text (take 15 hollow_triangle) ≡ too_short
  unfolding refusal spaced decimal digits
  refused-1 = (program_refuses (take 15 hollow_triangle) 1 (λ e. absurd (omega (arith, e)))).1 refl

  -- an accepted sheet prints no such line
  not-refused : (k : ℕ) → (k ≡ 0 → ⊥) → program_text hollow_triangle ≡ refusal_line k → ⊥
  not-refused k nonzero is = nonzero (sym ((program_refuses hollow_triangle k nonzero).0 is) ∙ hollow-accepted)

-- one byte more than any sheet has
longer : ProgramInput → (b : List ℕ) → program_text (take 977 b) ≡ program_text b
longer program_input b = program_input b 977 (omega arith)

-- H 1 1 0, then G 1 -1 1
abbrev loop_text : List ℕ
loop_text = 72 ∷ 32 ∷ 49 ∷ 32 ∷ 49 ∷ 32 ∷ 48 ∷ 10 ∷ 71 ∷ 32 ∷ 49 ∷ 32 ∷ 45 ∷ 49 ∷ 32 ∷ 49 ∷ 10 ∷ []

-- the text of dimension 1 by what the report call leaves
abbrev printed_by : ℕ → ℕ → List ℤ → List ℕ
printed_by free torsion output = report_text 1 3 torsion (torsion + free) output

abbrev counts_in : Answer Counts → Counts
counts_in (done counts) = counts
counts_in (refused k) = record { free = 0; torsion = 0; peak = 0; bits = 0 }

module _ (calls : Calls) (program_prints : ProgramPrints) where
  hollow-printed : DimensionsPrinted hollow_triangle
  hollow-printed = program_prints hollow_triangle hollow-bytes hollow-accepted

  -- four texts, one after another
  whole : program_text hollow_triangle ≡ in_turn 4 hollow-printed.texts
  whole = hollow-printed.in-turn

  loop-printed : hollow-printed.texts 1 ≡ loop_text
  unfolding report_text generators_text spaced decimal digits splices splice report_list torsion_count columns_of reported cells count_field cell_of cells_of sections_of start tabulate
  loop-printed = of (hollow-printed.each 1 (omega arith))
    where
      of : {text : List ℕ} → DimensionPrinted hollow_triangle 1 text → text ≡ loop_text
      of (printed.DimensionPrinted.is-too_wide wide is) = absurd (hollow-narrow wide)
      of (printed.DimensionPrinted.reports output work counts e is) =
          let called = when-answered calls 48 report (plain refl tt) output work counts e in
          let counted : counts ≡ counts_of 1 0 hollow-left = ap counts_in (sym e ∙ ap (λ (c : Called Counts ℤ). c.answer) called) in
          is ∙ ap (λ (c : Counts). printed_by c.free c.torsion (call 48 hollow report output work).output) counted
          ∙ ap (λ (c : Called Counts ℤ). printed_by 1 0 c.output) called

  -- and dimension 3
  last : DimensionPrinted hollow_triangle 3 (hollow-printed.texts 3)
  last = hollow-printed.each 3 (omega arith)

-- of any sheet: `R 13` for a dimension that goes too wide
wide-printed : (calls : Calls) (program_prints : ProgramPrints) (b : List ℕ) (bytes : Bytes b) (accepted : refusal host_limit b ≡ 0) (p : ℕ) → p ≤ top → TooWide (asked b p) no_transforms →
    (program_prints b bytes accepted).texts p ≡ 82 ∷ 32 ∷ 49 ∷ 51 ∷ 10 ∷ []
unfolding spaced decimal digits
wide-printed calls program_prints b bytes accepted p small goes = of ((program_prints b bytes accepted).each p small)
  where
    not_done : (output work : List ℤ) (counts : Counts) → (call host_limit (asked b p) report output work).answer ≡ done counts →
        Outcome host_limit (asked b p) report output work (call host_limit (asked b p) report output work) → ⊥
    not_done output work counts e (outcome.Outcome.refused-early k nonzero narrow bounded told is) = refused≢done (sym (ap (λ (c : Called Counts ℤ). c.answer) is) ∙ e)
    not_done output work counts e (outcome.Outcome.is-too_wide none wide is) = refused≢done (sym (ap (λ (c : Called Counts ℤ). c.answer) is) ∙ e)
    not_done output work counts e (outcome.Outcome.bounds-nothing none narrow nothing is) = refused≢done (sym (ap (λ (c : Called Counts ℤ). c.answer) is) ∙ e)
    not_done output work counts e (outcome.Outcome.is-done none narrow bounds s r x ends is) = narrow goes

    of : {text : List ℕ} → DimensionPrinted b p text → text ≡ refusal_line 13
    of (printed.DimensionPrinted.is-too_wide wide is) = is
    of (printed.DimensionPrinted.reports output work counts e is) = absurd (not_done output work counts e (calls host_limit (asked b p) report output work bytes))
