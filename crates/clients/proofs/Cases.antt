-- The hollow and the filled triangle written out, from what the contract of a call says: the call of the definition and what was answered and left are the
-- same.
use mathlib.Core.Path.{◌≡◌, sym, ◌∙◌, ap, subst}
use mathlib.Core.List.{List, ◌++◌}
use Prim.Native.Nat.{ℕ, ◌+◌}
use native.Mathlib.Omega.{arith}
use lib.ListN.{length, take, drop}
use lib.Seq.{take-length, take-append_seam}
use lib.IntN.{ℤ}
use Rattle.limits.specs.Limits.{library_limit}
use Rattle.lists.specs.Same.{every, both as both_true}
use Rattle.lists.specs.Splice.{splice}
use Rattle.trials.specs.Trial.{Answer, Called}
use Rattle.sheet_format.specs.Starred.{hollow_triangle}
use Rattle.reports.specs.Report.{Counts}
use Rattle.requests.specs.Question.{asked}
use Rattle.requests.specs.Call.{report, coordinates, lists, surface, call}
use Rattle.host_calls.specs.Host.{HostCalled, host_call, coordinates_in, lists_in, surface_in}
use Rattle.program_text.specs.Text.{program_text}
use Rattle.program_text.specs.Examples.{text_good, text_good-eq, text-examples}
use Rattle.text.specs.Put.{PutsWithin}
use Rattle.text.specs.Room.{text_room}
use Rattle.library_host.specs.LibraryAnswers.{told, HeadroomLeft}
use Rattle.clients.specs.Hollow.{report_done, report_refused, hollow_text}
use Rattle.clients.specs.Used.{Gives, Numbers, HeadroomUsed, PrintUsed, ReportUsed, CoordinatesUsed, ListsUsed, SurfaceUsed, HostGives, HostReportUsed, HostCoordinatesUsed, HostListsUsed, HostSurfaceUsed}
use Rattle.clients.proofs.Hollow.{report-done, report-refused, coordinates-done, coordinates-refused, lists-done, lists-refused, host-report-done, host-report-refused, host-coordinates-done, host-coordinates-refused, host-lists-done, host-lists-refused}
use Rattle.clients.proofs.Surfaces.{surfaces}

-- ---- the library's calls: `says` turns the definition's call into what the client has in hand

module _ {Says : Called Counts ℤ → Type 0} {s : List ℕ} {p : ℕ} {o w : List ℤ} where
  pub report-used : ((called : Called Counts ℤ) → call library_limit (asked s p) report o w ≡ called → Says called) → ReportUsed Says s p o w
  report-used says = record {
    written = λ es ep eo ew. says _ ((λ i. call library_limit (asked (es i) (ep i)) report (eo i) (ew i)) ∙ report-done);
    refused = λ es ep eo ew. says _ ((λ i. call library_limit (asked (es i) (ep i)) report (eo i) (ew i)) ∙ report-refused);
  }

  pub coordinates-used : {z : List ℤ} → ((called : Called Counts ℤ) → call library_limit (asked s p) (coordinates z) o w ≡ called → Says called) → CoordinatesUsed Says s p o w z
  coordinates-used says = record {
    written = λ es ep ez eo ew. says _ ((λ i. call library_limit (asked (es i) (ep i)) (coordinates (ez i)) (eo i) (ew i)) ∙ coordinates-done);
    refused = λ es ep ez eo ew. says _ ((λ i. call library_limit (asked (es i) (ep i)) (coordinates (ez i)) (eo i) (ew i)) ∙ coordinates-refused);
  }

  pub lists-used : {many : ℕ} {chains : List ℤ} → ((called : Called Counts ℤ) → call library_limit (asked s p) (lists many chains) o w ≡ called → Says called) →
      ListsUsed Says s p o w many chains
  lists-used says = record {
    written = λ es ep en ec eo ew. says _ ((λ i. call library_limit (asked (es i) (ep i)) (lists (en i) (ec i)) (eo i) (ew i)) ∙ lists-done);
    refused = λ es ep en ec eo ew. says _ ((λ i. call library_limit (asked (es i) (ep i)) (lists (en i) (ec i)) (eo i) (ew i)) ∙ lists-refused);
  }

  pub surface-used : {z : List ℤ} → ((called : Called Counts ℤ) → call library_limit (asked s p) (surface z) o w ≡ called → Says called) → SurfaceUsed Says s p o w z
  surface-used says = record {
    written = λ es ep ez eo ew. says _ ((λ i. call library_limit (asked (es i) (ep i)) (surface (ez i)) (eo i) (ew i)) ∙ surfaces.done);
    refused = λ es ep ez eo ew. says _ ((λ i. call library_limit (asked (es i) (ep i)) (surface (ez i)) (eo i) (ew i)) ∙ surfaces.refused);
    nothing = λ es ep ez eo ew. says _ ((λ i. call library_limit (asked (es i) (ep i)) (surface (ez i)) (eo i) (ew i)) ∙ surfaces.nothing);
  }

-- what the library's calls say, and their exports with a number
pub gives : {called expected : Called Counts ℤ} {answer : Answer Counts} {o w : List ℤ} → called ≡ record { answer = answer; output = o; work = w } → called ≡ expected →
    Gives answer o w expected
gives is e =
    let same = sym is ∙ e in
    (ap (λ (c : Called Counts ℤ). c.answer) same, ap (λ (c : Called Counts ℤ). c.output) same, ap (λ (c : Called Counts ℤ). c.work) same)

pub numbers : {called expected : Called Counts ℤ} {r : ℕ} {o w : List ℤ} → told called ≡ (r, o, w) → called ≡ expected → Numbers r o w expected
numbers is e =
    let same = sym is ∙ ap told e in
    (ap (λ (t : ℕ × List ℤ × List ℤ). t.0) same, ap (λ (t : ℕ × List ℤ × List ℤ). t.1) same, ap (λ (t : ℕ × List ℤ × List ℤ). t.2) same)

-- the peak and the bits of one free loop, or those that were there
pub headroom-used : {s : List ℕ} {p : ℕ} {o w : List ℤ} {peak peak' bits bits' : ℕ} → HeadroomLeft (call library_limit (asked s p) report o w).answer peak peak' bits bits' →
    HeadroomUsed s p o w peak peak' bits bits'
headroom-used {s} {p} {o} {w} {peak} {peak'} {bits} {bits'} left = record {
  written = λ es ep eo ew. of report_done ((λ i. call library_limit (asked (es i) (ep i)) report (eo i) (ew i)) ∙ report-done);
  refused = λ es ep eo ew. of report_refused ((λ i. call library_limit (asked (es i) (ep i)) report (eo i) (ew i)) ∙ report-refused);
}
  where
    of : (called : Called Counts ℤ) → call library_limit (asked s p) report o w ≡ called → HeadroomLeft called.answer peak peak' bits bits'
    of called e = subst (λ (c : Called Counts ℤ). HeadroomLeft c.answer peak peak' bits bits') e left

-- ---- the host calls

host-gives : {r : ℕ} {o' : List ℕ} {called expected : HostCalled} → called ≡ record { number = r; output = o' } → called ≡ expected → HostGives r o' expected
host-gives is e = let same = sym is ∙ e in (ap (λ (c : HostCalled). c.number) same, ap (λ (c : HostCalled). c.output) same)

module _ {s : List ℕ} {p : ℕ} {o : List ℕ} {r : ℕ} {o' : List ℕ} where
  pub host-report-used : host_call (asked s p) report o ≡ record { number = r; output = o' } → HostReportUsed s p o r o'
  host-report-used is = record {
    written = λ es ep eo. host-gives is ((λ i. host_call (asked (es i) (ep i)) report (eo i)) ∙ host-report-done);
    refused = λ es ep eo. host-gives is ((λ i. host_call (asked (es i) (ep i)) report (eo i)) ∙ host-report-refused);
  }

  pub host-coordinates-used : {z : List ℕ} → host_call (asked s p) (coordinates_in (asked s p) z) o ≡ record { number = r; output = o' } → HostCoordinatesUsed s p o r o' z
  host-coordinates-used is = record {
    written = λ es ep ez eo. host-gives is ((λ i. host_call (asked (es i) (ep i)) (coordinates_in (asked (es i) (ep i)) (ez i)) (eo i)) ∙ host-coordinates-done);
    refused = λ es ep ez eo. host-gives is ((λ i. host_call (asked (es i) (ep i)) (coordinates_in (asked (es i) (ep i)) (ez i)) (eo i)) ∙ host-coordinates-refused);
  }

  pub host-lists-used : {many : ℕ} {chains : List ℕ} → host_call (asked s p) (lists_in (asked s p) many chains) o ≡ record { number = r; output = o' } →
      HostListsUsed s p o r o' many chains
  host-lists-used is = record {
    written = λ es ep en ec eo. host-gives is ((λ i. host_call (asked (es i) (ep i)) (lists_in (asked (es i) (ep i)) (en i) (ec i)) (eo i)) ∙ host-lists-done);
    refused = λ es ep en ec eo. host-gives is ((λ i. host_call (asked (es i) (ep i)) (lists_in (asked (es i) (ep i)) (en i) (ec i)) (eo i)) ∙ host-lists-refused);
  }

  pub host-surface-used : {z : List ℕ} → host_call (asked s p) (surface_in (asked s p) z) o ≡ record { number = r; output = o' } → HostSurfaceUsed s p o r o' z
  host-surface-used is = record {
    written = λ es ep ez eo. host-gives is ((λ i. host_call (asked (es i) (ep i)) (surface_in (asked (es i) (ep i)) (ez i)) (eo i)) ∙ surfaces.host_done);
    refused = λ es ep ez eo. host-gives is ((λ i. host_call (asked (es i) (ep i)) (surface_in (asked (es i) (ep i)) (ez i)) (eo i)) ∙ surfaces.host_refused);
    nothing = λ es ep ez eo. host-gives is ((λ i. host_call (asked (es i) (ep i)) (surface_in (asked (es i) (ep i)) (ez i)) (eo i)) ∙ surfaces.host_nothing);
  }

-- ---- the program

hollow-printed : program_text hollow_triangle ≡ hollow_text
unfolding every
hollow-printed =
    text_good-eq (record { sheet = hollow_triangle; text = hollow_text }) (both_true (text_good (record { sheet = hollow_triangle; text = hollow_text })) _ text-examples.texts).0

-- the text stands from the start on
put_first : {text out out' : List ℕ} {r room : ℕ} → PutsWithin room text 0 out r out' → (r ≡ length text) × (out' ≡ text ++ drop (length text) out)
unfolding splice
put_first {text} {out} p = (p.puts.next ∙ none, p.puts.is ∙ ap (λ (k : ℕ). text ++ drop k out) none)
  where
    none : 0 + length text ≡ length text
    none = omega arith

pub print-used : {held out out' : List ℕ} {n r : ℕ} → ((b : List ℕ) → take (length held) b ≡ take n held → PutsWithin text_room (program_text b) 0 out r out') →
    PrintUsed held n out r out'
print-used {held} {out} {out'} {n} {r} put = record {
  hollow = λ e. put_first (subst (λ (text : List ℕ). PutsWithin text_room text 0 out r out') hollow-printed (put hollow_triangle e));
  longer = λ e rest. put_first (put (held ++ rest) (take-append_seam held rest ∙ sym (take-length held) ∙ ap (λ (k : ℕ). take k held) (sym e)));
}
