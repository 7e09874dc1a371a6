-- Uses of the claim on the host calls, on the hollow triangle: the number, the bytes and what is left, with the library's call known by the claim on calls.
use mathlib.Core.Path.{◌≡◌, refl, sym, ◌∙◌, ap}
use mathlib.Core.List.{List, [], ◌∷◌}
use Prim.Native.Nat.{ℕ, ◌<◌}
use native.Mathlib.Omega.{arith}
use lib.ListN.{length, get_or, replicate}
use lib.IntN.{ℤ, pos}
use Rattle.lists.specs.Same.{every}
use Rattle.lists.specs.Tabulate.{tabulate}
use Rattle.trials.specs.Trial.{done, number_told, Called}
use Rattle.complexes.specs.Boundary.{count_below}
use Rattle.sheet_format.specs.Layout.{start}
use Rattle.sheet_format.specs.Check.{count_field, cell_of, cells_of, sections_of}
use Rattle.sheet_format.specs.Starred.{hollow_triangle}
use Rattle.reports.specs.Report.{Counts}
use Rattle.requests.specs.Question.{asked, cells}
use Rattle.requests.specs.Call.{report, lists, call}
use Rattle.host_calls.specs.Bytes.{number_at}
use Rattle.host_calls.specs.Host.{host_call}
use Rattle.integers.specs.Slot.{slot}
use Rattle.answers.specs.Outcome.{Carries}
use Rattle.demands.specs.Calls.{Calls}
use Rattle.demands.specs.Host.{HostCalls}
use Rattle.demands.proofs.Hollow.{numbers-below, hollow, hollow-bytes, nines, minus}
use Rattle.demands.proofs.UseCalls.{loops, report-written, lists-written, refused-8}

-- n bytes as they are lent
abbrev pub lent : ℕ → List ℕ
lent n = replicate n 9

-- the loop and the loop run backwards
abbrev both : List ℤ
both = pos 1 ∷ minus 1 ∷ pos 1 ∷ minus 1 ∷ pos 1 ∷ minus 1 ∷ []

-- what the library's call answers and leaves
abbrev answers : Called Counts ℤ → ℕ
answers called = number_told called.answer

module _ (calls : Calls) (host_calls : HostCalls) where
  -- ---- done: the report in 134 bytes, which are 16 slots and 6 bytes

  report-carried : Carries hollow report (lent 134) (call 48 hollow report (nines 16) (nines 30)) (host_call hollow report (lent 134))
  unfolding cells count_field cell_of cells_of sections_of start count_below tabulate
  report-carried = host_calls hollow report (lent 134) hollow-bytes (nines 16) (nines 30) refl (omega arith)

  report-is-done : (call 48 hollow report (nines 16) (nines 30)).answer ≡ done loops
  report-is-done = ap (λ (c : Called Counts ℤ). c.answer) (report-written calls)

  pub host-done : (host_call hollow report (lent 134)).number ≡ 0
  host-done = report-carried.number_is ∙ ap answers (report-written calls)

  as_long : length (host_call hollow report (lent 134)).output ≡ 134
  as_long = report-carried.size

  -- the generator's second coefficient is -1
  number_read : number_at (host_call hollow report (lent 134)).output 3 ≡ minus 1
  unfolding cells count_field cell_of cells_of sections_of start tabulate
  number_read = report-carried.reads loops report-is-done 0 3 (omega arith) (omega arith) ∙ ap (λ (c : Called Counts ℤ). slot c.output 3) (report-written calls)

  -- five numbers are written, in 40 bytes; the report has room for 112
  byte-between : get_or (host_call hollow report (lent 134)).output 40 0 ≡ 9
  unfolding cells count_field cell_of cells_of sections_of start tabulate
  byte-between = report-carried.between loops report-is-done 0 40 (omega arith) (omega arith) (omega arith)

  byte_past : get_or (host_call hollow report (lent 134)).output 112 0 ≡ 9
  unfolding cells count_field cell_of cells_of sections_of start tabulate
  byte_past = report-carried.past 112 (omega arith)

  -- bytes were lent, and bytes are left
  bytes_left : (k : ℕ) → get_or (host_call hollow report (lent 134)).output k 0 < 256
  unfolding every
  bytes_left = report-carried.bytes (numbers-below 256 (omega arith) (lent 134) tt)

  -- ---- done: two lists, 24 bytes apart

  lists-carried : Carries hollow (lists 2 both) (lent 60) (call 48 hollow (lists 2 both) (nines 7) (nines 27)) (host_call hollow (lists 2 both) (lent 60))
  unfolding cells count_field cell_of cells_of sections_of start count_below tabulate
  lists-carried = host_calls hollow (lists 2 both) (lent 60) hollow-bytes (nines 7) (nines 27) refl (omega arith)

  lists-are-done : (call 48 hollow (lists 2 both) (nines 7) (nines 27)).answer ≡ done loops
  lists-are-done = ap (λ (c : Called Counts ℤ). c.answer) (lists-written calls)

  second-read : number_at (host_call hollow (lists 2 both) (lent 60)).output 3 ≡ minus 1
  unfolding cells count_field cell_of cells_of sections_of start tabulate
  second-read = lists-carried.reads loops lists-are-done 1 0 (omega arith) (omega arith) ∙ ap (λ (c : Called Counts ℤ). slot c.output 3) (lists-written calls)

  -- the last byte of the room for the second list
  second-between : get_or (host_call hollow (lists 2 both) (lent 60)).output 47 0 ≡ 9
  unfolding cells count_field cell_of cells_of sections_of start tabulate
  second-between = lists-carried.between loops lists-are-done 1 23 (omega arith) (omega arith) (omega arith)

  lists-past : get_or (host_call hollow (lists 2 both) (lent 60)).output 48 0 ≡ 9
  unfolding cells count_field cell_of cells_of sections_of start tabulate
  lists-past = lists-carried.past 48 (omega arith)

  -- ---- refused: dimension 4

  refused-carried : Carries (asked hollow_triangle 4) report (lent 134) (call 48 (asked hollow_triangle 4) report (nines 16) (nines 30)) (host_call (asked hollow_triangle 4) report (lent 134))
  unfolding cells count_field cell_of cells_of sections_of start count_below tabulate
  refused-carried = host_calls (asked hollow_triangle 4) report (lent 134) hollow-bytes (nines 16) (nines 30) refl (omega arith)

  host-refused : (host_call (asked hollow_triangle 4) report (lent 134)).number ≡ 8
  host-refused = refused-carried.number_is ∙ ap answers (refused-8 calls)

  output-kept : (host_call (asked hollow_triangle 4) report (lent 134)).output ≡ lent 134
  output-kept = refused-carried.after-refusal (λ none. let eight : ◌≡◌ {A = ℕ} 8 0 = sym host-refused ∙ none in absurd (omega (arith, eight)))
