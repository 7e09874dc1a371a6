-- What stands behind the reports and the coordinate lists that a caller reads: report-behind, coordinates-behind.
use mathlib.Core.Path.{◌≡◌, refl, sym, ◌∙◌, ap}
use mathlib.Core.List.{List}
use Prim.Native.Nat.{ℕ, ◌+◌, ◌*◌, ◌<◌}
use native.Mathlib.Omega.{arith}
use lib.ListN.{drop}
use lib.Seq.{get_or-take, get_or-drop}
use lib.IntN.{ℤ, pos}
use Rattle.limits.specs.Limits.{coefficient_limit}
use Rattle.trials.specs.Trial.{first_refusal}
use Rattle.sheet_format.specs.Sheet.{Bytes}
use Rattle.homology_groups.specs.Chain.{Chain}
use Rattle.reports.specs.Reductions.{no_transforms}
use Rattle.requests.specs.Question.{Question, cells, cell_count}
use Rattle.requests.specs.Chains.{chain_at}
use Rattle.requests.proofs.ChainsLaws.{length-chain_at, chains-zero}
use Rattle.requests.specs.Call.{report, coordinates, lists, request_checks, call}
use Rattle.host_calls.specs.Bytes.{chain_from, number_at}
use Rattle.host_calls.proofs.HostChainsLaws.{given-coefficient, chain_from-size, chain_at-coefficient}
use Rattle.host_calls.specs.Host.{host_call}
use Rattle.answers.specs.Homology.{IsCycle}
use Rattle.integers.specs.Slot.{slot}
use Rattle.answers.proofs.ReportRight.{Reads}
use Rattle.answers.proofs.CoordinatesRight.{ReadsCoordinates}
use Rattle.answers.proofs.ChainChecks.{ChainPasses, chain-passes, chain-told}
use Rattle.answers.proofs.Behind.{Behind}
use Rattle.answers.proofs.CallRight.{done-number, answered, list-reads}
use Rattle.answers.proofs.HostRight.{host-answered, host-reads}
use Rattle.demands.specs.Answers as claims
use Rattle.demands.specs.Answers.{ReportOf, CoordinatesOf}

-- ---- reports

pub record ReportBehind (q : Question) (numbers : ℕ → ℤ) : Type 0 where
  pub two : Behind q no_transforms
  pub reads : Reads (cells q) q.dimension two.rows two.rank two.state numbers

-- the first place of the first list is the first place
pub start : (n j : ℕ) → 0 * n + j ≡ j
start n j = omega arith

pub report-behind : (q : Question) → Bytes q.sheet → {numbers : ℕ → ℤ} → ReportOf q numbers → ReportBehind q numbers
report-behind q bytes (claims.ReportOf.by-library limit output work counts e) =
    record {
      two = (answered limit q report output work bytes (done-number e)).reductions-behind;
      reads = record {
        slots = λ j l.
            ap (slot (call limit q report output work).output) (sym (start (2 + cell_count q + cell_count q * cell_count q) j))
            ∙ list-reads limit q report output work bytes (done-number e) 0 (omega arith) j l;
      };
    }
report-behind q bytes (claims.ReportOf.by-host output e) =
    record {
      two = (host-answered q report output bytes e).reductions-behind;
      reads = record {
        slots = λ j l.
            ap (number_at (host_call q report output).output) (sym (start (2 + cell_count q + cell_count q * cell_count q) j))
            ∙ host-reads q report output bytes e 0 (omega arith) j l;
      };
    }

-- ---- coordinates

-- the two reductions, and the cycle that the list belongs to
pub record CoordinatesBehind (q : Question) (z : Chain) (c : ℕ → ℤ) : Type 0 where
  pub two : Behind q no_transforms
  pub chain : List ℤ
  pub agrees : (i : ℕ) → i < cell_count q → slot chain i ≡ z i
  pub cycle : IsCycle (cells q) q.dimension (slot chain)
  pub reads : ReadsCoordinates (cells q) q.dimension two.rows two.rank two.state chain c

-- chain i of many passes the checks of a single chain
list-passes : (q : Question) (many : ℕ) (chains : List ℤ) → first_refusal (request_checks q (lists many chains)) ≡ 0 → (i : ℕ) → i < many
    → ChainPasses coefficient_limit (cells q) q.dimension (chain_at (cell_count q) chains i)
list-passes q many chains passed i l =
    let (size, faults) = (chains-zero coefficient_limit (cells q) q.dimension chains many).0 passed in
    chain-passes coefficient_limit (cells q) q.dimension (chain_at (cell_count q) chains i)
    (chain-told coefficient_limit (cells q) q.dimension chains i (length-chain_at (cell_count q) many chains size i l) ∙ faults i l)

pub coordinates-behind : (q : Question) → Bytes q.sheet → {z : Chain} {c : ℕ → ℤ} → CoordinatesOf q z c → CoordinatesBehind q z c
coordinates-behind q bytes (claims.CoordinatesOf.by-library limit z output work counts e) =
    let A = answered limit q (coordinates z) output work bytes (done-number e) in
    record {
      two = A.reductions-behind;
      chain = z;
      agrees = λ i l. refl;
      cycle = (chain-passes coefficient_limit (cells q) q.dimension z A.request-passed).cycle;
      reads = record {
        places = λ j l.
            ap (slot (call limit q (coordinates z) output work).output) (sym (start (cell_count q) j))
            ∙ list-reads limit q (coordinates z) output work bytes (done-number e) 0 (omega arith) j l;
      };
    }
coordinates-behind q bytes (claims.CoordinatesOf.by-library-list limit many chains output work counts e i l) =
    let A = answered limit q (lists many chains) output work bytes (done-number e) in
    record {
      two = A.reductions-behind;
      chain = chain_at (cell_count q) chains i;
      agrees = λ j m. get_or-take (cell_count q) (drop (i * cell_count q) chains) j (pos 0) m ∙ get_or-drop (i * cell_count q) chains j (pos 0);
      cycle = (list-passes q many chains A.request-passed i l).cycle;
      reads = record { places = λ j m. list-reads limit q (lists many chains) output work bytes (done-number e) i l j m };
    }
coordinates-behind q bytes (claims.CoordinatesOf.by-host chain output e) =
    let z = chain_from (cell_count q) chain in
    let A = host-answered q (coordinates z) output bytes e in
    let passed = chain-passes coefficient_limit (cells q) q.dimension z A.request-passed in
    record {
      two = A.reductions-behind;
      chain = z;
      agrees = given-coefficient (cell_count q) chain passed.size;
      cycle = passed.cycle;
      reads = record {
        places = λ j l.
            ap (number_at (host_call q (coordinates z) output).output) (sym (start (cell_count q) j)) ∙ host-reads q (coordinates z) output bytes e 0 (omega arith) j l;
      };
    }
coordinates-behind q bytes (claims.CoordinatesOf.by-host-list many chains output e i l) =
    let whole = chain_from (many * cell_count q) chains in
    let A = host-answered q (lists many whole) output bytes e in
    let size = ((chains-zero coefficient_limit (cells q) q.dimension whole many).0 A.request-passed).0 in
    record {
      two = A.reductions-behind;
      chain = chain_at (cell_count q) whole i;
      agrees = chain_at-coefficient (cell_count q) many chains (chain_from-size (many * cell_count q) chains size) i l;
      cycle = (list-passes q many whole A.request-passed i l).cycle;
      reads = record { places = λ j m. host-reads q (lists many whole) output bytes e i l j m };
    }
