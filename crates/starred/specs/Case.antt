-- A case: a call at the library's limit, and what it is to answer and to leave in the slices lent to it.
use Rattle.std.specs.Prelude.{Bool, List, ◌≡◌, ℕ, T, ℤ, pos, neg_ℤ, replicate}
use Rattle.reports.specs.Report.{Counts}
use Rattle.trials.specs.Trial.{Called, refused}
use Rattle.requests.specs.Question.{asked}
use Rattle.requests.specs.Call.{Request, call}
use Rattle.limits.specs.Limits.{library_limit}
use Rattle.starred.specs.Same.{same_called, same_called-eq}

-- `output` is the slice lent for the report, the coordinates or the surface; it and `work` stand as they are lent
pub record Call : Type 0 where
  pub sheet : List ℕ
  pub dimension : ℕ
  pub request : Request
  pub output : List ℤ
  pub work : List ℤ

pub record Case : Type 0 where
  pub call : Call
  pub expected : Called Counts ℤ

-- what a call gives
abbrev pub outcome : Call → Called Counts ℤ
outcome c = call library_limit (asked c.sheet c.dimension) c.request c.output c.work

unfoldable pub good : Case → Bool
good c = same_called (outcome c.call) c.expected

-- a good case has the outcome expected
pub good-eq : (c : Case) → T (good c) → outcome c.call ≡ c.expected
unfolding good
good-eq c t = same_called-eq (outcome c.call) c.expected t

-- ---- short forms for the table

abbrev pub minus : ℕ → ℤ
minus n = neg_ℤ (pos n)

-- b, t, the peak and its bits
abbrev pub counts : ℕ → ℕ → ℕ → ℕ → Counts
counts b t peak bits = record { free = b; torsion = t; peak = peak; bits = bits }

-- n slots as they are lent: a slot that is left untouched shows
abbrev pub nines : ℕ → List ℤ
nines n = replicate n (pos 9)

-- n slots that read 0
abbrev pub zeros : ℕ → List ℤ
zeros n = replicate n (pos 0)

-- the call is refused with the number, and its slices are left as they were
abbrev pub refuses : ℕ → Call → Case
refuses number c = record { call = c; expected = record { answer = refused number; output = c.output; work = c.work } }
