-- What a client of a public call is promised: where it was called on the hollow or the filled triangle with these slices, it answered and left what
-- `Hollow` and `Filled` have; a call of the library with its answer, one of the library's exports with a number, and one of the host with its bytes.
use Rattle.std.specs.Prelude.{◌≡◌, List, ◌++◌, ℕ, length, take, drop, ℤ}
use Rattle.trials.specs.Trial.{Answer, number_told, Called}
use Rattle.sheet_format.specs.Starred.{hollow_triangle, filled_triangle}
use Rattle.reports.specs.Report.{Counts}
use Rattle.host_calls.specs.Host.{HostCalled}
use Rattle.program_text.specs.Text.{program_text}
use Rattle.clients.specs.Hollow.{nines, lent, loop, backwards, both, edge, loop_bytes, backwards_bytes, both_bytes, edge_bytes, report_done, report_refused, coordinates_done, coordinates_refused, lists_done, lists_refused, nothing_bounded, host_report_done, host_report_refused, host_coordinates_done, host_coordinates_refused, host_lists_done, host_lists_refused, host_nothing_bounded, hollow_text}
use Rattle.clients.specs.Filled.{surface_done, surface_refused, host_surface_done, host_surface_refused}

-- ---- the library's calls, by what they say of an answer and two slices

-- the answer and both slices are these, or the number that tells the answer
abbrev pub Gives : Answer Counts → List ℤ → List ℤ → Called Counts ℤ → Type 0
Gives answer output work called = (answer ≡ called.answer) × (output ≡ called.output) × (work ≡ called.work)

abbrev pub Numbers : ℕ → List ℤ → List ℤ → Called Counts ℤ → Type 0
Numbers number output work called = (number ≡ number_told called.answer) × (output ≡ called.output) × (work ≡ called.work)

-- `Gives` or `Numbers` of what the client has in hand
module _ (Says : Called Counts ℤ → Type 0) (sheet : List ℕ) (p : ℕ) (output work : List ℤ) where
  pub record ReportUsed : Type 0 where
    pub written : sheet ≡ hollow_triangle → p ≡ 1 → output ≡ nines 16 → work ≡ nines 30 → Says report_done
    pub refused : sheet ≡ hollow_triangle → p ≡ 4 → output ≡ nines 16 → work ≡ nines 30 → Says report_refused

  pub record CoordinatesUsed (chain : List ℤ) : Type 0 where
    pub written : sheet ≡ hollow_triangle → p ≡ 1 → chain ≡ backwards → output ≡ nines 4 → work ≡ nines 30 → Says coordinates_done
    pub refused : sheet ≡ hollow_triangle → p ≡ 1 → chain ≡ edge → output ≡ nines 4 → work ≡ nines 30 → Says coordinates_refused

  pub record ListsUsed (many : ℕ) (chains : List ℤ) : Type 0 where
    pub written : sheet ≡ hollow_triangle → p ≡ 1 → many ≡ 2 → chains ≡ both → output ≡ nines 7 → work ≡ nines 30 → Says lists_done
    pub refused : sheet ≡ hollow_triangle → p ≡ 1 → many ≡ 2 → chains ≡ edge → output ≡ nines 7 → work ≡ nines 30 → Says lists_refused

  pub record SurfaceUsed (chain : List ℤ) : Type 0 where
    pub written : sheet ≡ filled_triangle → p ≡ 1 → chain ≡ loop → output ≡ nines 2 → work ≡ nines 30 → Says surface_done
    pub refused : sheet ≡ filled_triangle → p ≡ 1 → chain ≡ edge → output ≡ nines 2 → work ≡ nines 30 → Says surface_refused
    pub nothing : sheet ≡ hollow_triangle → p ≡ 1 → chain ≡ loop → output ≡ nines 2 → work ≡ nines 30 → Says nothing_bounded

-- ---- the host calls

abbrev pub HostGives : ℕ → List ℕ → HostCalled → Type 0
HostGives number output called = (number ≡ called.number) × (output ≡ called.output)

module _ (sheet : List ℕ) (p : ℕ) (output : List ℕ) (r : ℕ) (output' : List ℕ) where
  pub record HostReportUsed : Type 0 where
    pub written : sheet ≡ hollow_triangle → p ≡ 1 → output ≡ lent 118 → HostGives r output' host_report_done
    pub refused : sheet ≡ hollow_triangle → p ≡ 4 → output ≡ lent 118 → HostGives r output' host_report_refused

  pub record HostCoordinatesUsed (chain : List ℕ) : Type 0 where
    pub written : sheet ≡ hollow_triangle → p ≡ 1 → chain ≡ backwards_bytes → output ≡ lent 29 → HostGives r output' host_coordinates_done
    pub refused : sheet ≡ hollow_triangle → p ≡ 1 → chain ≡ edge_bytes → output ≡ lent 29 → HostGives r output' host_coordinates_refused

  pub record HostListsUsed (many : ℕ) (chains : List ℕ) : Type 0 where
    pub written : sheet ≡ hollow_triangle → p ≡ 1 → many ≡ 2 → chains ≡ both_bytes → output ≡ lent 51 → HostGives r output' host_lists_done
    pub refused : sheet ≡ hollow_triangle → p ≡ 1 → many ≡ 2 → chains ≡ edge_bytes → output ≡ lent 51 → HostGives r output' host_lists_refused

  pub record HostSurfaceUsed (chain : List ℕ) : Type 0 where
    pub written : sheet ≡ filled_triangle → p ≡ 1 → chain ≡ loop_bytes → output ≡ lent 13 → HostGives r output' host_surface_done
    pub refused : sheet ≡ filled_triangle → p ≡ 1 → chain ≡ edge_bytes → output ≡ lent 13 → HostGives r output' host_surface_refused
    pub nothing : sheet ≡ hollow_triangle → p ≡ 1 → chain ≡ loop_bytes → output ≡ lent 13 → HostGives r output' host_nothing_bounded

-- ---- headroom: the peak and the bits are written where the call is done, and left where it is refused

pub record HeadroomUsed (sheet : List ℕ) (p : ℕ) (output work : List ℤ) (peak peak' bits bits' : ℕ) : Type 0 where
  pub written : sheet ≡ hollow_triangle → p ≡ 1 → output ≡ nines 16 → work ≡ nines 30 → (peak' ≡ 1) × (bits' ≡ 1)
  pub refused : sheet ≡ hollow_triangle → p ≡ 4 → output ≡ nines 16 → work ≡ nines 30 → (peak' ≡ peak) × (bits' ≡ bits)

-- ---- the program: n bytes of the input are held

pub record PrintUsed (held : List ℕ) (n : ℕ) (out : List ℕ) (r : ℕ) (out' : List ℕ) : Type 0 where
  pub hollow : take (length held) hollow_triangle ≡ take n held → (r ≡ length hollow_text) × (out' ≡ hollow_text ++ drop (length hollow_text) out)
  -- where the input goes on past what is held, the text of the whole
  pub longer : n ≡ length held → (rest : List ℕ) → (r ≡ length (program_text (held ++ rest))) × (out' ≡ program_text (held ++ rest) ++ drop (length (program_text (held ++ rest))) out)
