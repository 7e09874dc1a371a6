-- What stands behind a call: on an accepted sheet the two reductions go too wide exactly as document 01 has it (two-wide), or they end and are right
-- (behind, ends). There is one end only: ends-two.
use mathlib.Core.Path.{◌≡◌, sym, ◌∙◌, ap, subst}
use mathlib.Core.Logic.{◌↔◌}
use mathlib.Core.Bool.{Bool, true, false}
use Prim.Native.Nat.{ℕ, ◌≤◌}
use native.Mathlib.Omega.{arith}
use Rattle.limits.specs.Limits.{entry_limit}
use Rattle.trials.specs.Trial.{first_refusal}
use Rattle.complexes.proofs.ChainComplex.{ChainComplex, no-next}
use Rattle.sheet_format.specs.Sheet.{Bytes}
use Rattle.sheet_format.proofs.Accept.{accepted-complex, accepted-chains}
use Rattle.reduction_steps.specs.State.{State, within}
use Rattle.reduction_steps.specs.Step as machine
use Rattle.reduction_steps.specs.Pivot.{IsRule}
use Rattle.reduction_steps.proofs.PivotLaws.{pivot_rule-is-rule}
use Rattle.reports.specs.Reductions.{Reductions, Transforms, second_columns_only, too_wide, reduced, first_sizes, first_start, second_sizes, second_start, after_second, reductions}
use Rattle.reports.proofs.ReductionsLaws.{reductions-done, after-second}
use Rattle.requests.specs.Question.{Question, cells, rule, two}
use Rattle.requests.specs.Call.{Request, report, coordinates, lists, surface, transforms_of, early_checks}
use Rattle.requests.proofs.CallLaws.{early-iff}
use Rattle.answers.proofs.TwoReductions.{Right, reductions-right, reductions-within}
use Rattle.answers.proofs.Headroom.{Headroom, Bare, second-columns-bare, reductions-headroom}
use Rattle.answers.proofs.WideLaws.{reaches-outcome, first-is, second_is, wide-iff}
use Rattle.answers.proofs.LeastLimit.{AtLimit, reductions-limit}
use Rattle.answers.specs.Outcome.{TooWide, EndsAt, Ends}

-- what passes the early checks has a chain complex
pub early-chains : (limit : ℕ) (q : Question) (request : Request) (output work : ℕ) → Bytes q.sheet → first_refusal (early_checks limit q request output work) ≡ 0
    → ChainComplex limit (cells q)
unfolding cells
early-chains limit q request output work bytes e = accepted-chains limit q.sheet bytes ((early-iff limit q request output work).0 e).0.accepted

-- .. in which a cell has faces, so that a transform that is kept has no entry where there are no cells
pub early-bare : (limit : ℕ) (q : Question) (request : Request) (output work : ℕ) → Bytes q.sheet → first_refusal (early_checks limit q request output work) ≡ 0
    → Bare (transforms_of request) (cells q) q.dimension
unfolding cells
early-bare limit q request output work bytes e =
    request-bare request (second-columns-bare (λ empty. no-next (accepted-complex limit q.sheet bytes ((early-iff limit q request output work).0 e).0.accepted) q.dimension empty))
  where
    request-bare : (request : Request) → ((kept : Bool) → Bare (second_columns_only kept) (cells q) q.dimension) → Bare (transforms_of request) (cells q) q.dimension
    request-bare report h = h false
    request-bare (coordinates z) h = h false
    request-bare (lists many chains) h = h false
    request-bare (surface z) h = h true

pub rule-is : (q : Question) → IsRule (rule q)
unfolding rule
rule-is q = pivot_rule-is-rule

-- two reductions that are right, with entries within their limit; their peak, and what they come to at other entry limits
pub record Behind (q : Question) (t : Transforms) : Type 0 where
  pub limit : ℕ
  pub complex : ChainComplex limit (cells q)
  pub rows : ℕ
  pub rank : ℕ
  pub state : State
  pub reductions-are : two q t ≡ reduced rows rank state
  pub right : Right (cells q) q.dimension rows rank state
  pub small : within entry_limit state ≡ true
  pub headroom : Headroom entry_limit (cells q) q.dimension state
  pub limits : (L : ℕ) → 1 ≤ L → AtLimit t (rule q) L (cells q) q.dimension rows rank state

-- the machine comes to the end that the reductions give, at any entry limit
pub ends_at : (q : Question) (t : Transforms) (s r : ℕ) (x : State) (L : ℕ) → reductions t (rule q) L (cells q) q.dimension ≡ reduced s r x → EndsAt L q t s r x
ends_at q t s r x L e =
    let d = reductions-done t (rule q) L (cells q) q.dimension s r x e in
    record {
      first_rank = d.first_rank;
      first_state = d.first_state;
      first = reaches-outcome L (rule q) (first_sizes t (cells q) q.dimension) (first_start t (cells q) q.dimension) (machine.done d.first_rank d.first_state) d.first;
      narrow = d.narrow;
      rows = d.rows;
      second = reaches-outcome L (rule q) (second_sizes t (cells q) q.dimension d.first_rank) (second_start t (cells q) q.dimension d.first_rank d.first_state) (machine.done r x) d.second;
    }

module _ {limit : ℕ} (q : Question) (t : Transforms) (complex : ChainComplex limit (cells q)) where
  pub two-wide : (two q t ≡ too_wide) ↔ TooWide q t
  unfolding two
  two-wide = wide-iff complex t (rule q) (rule-is q) entry_limit q.dimension (omega arith)

  module _ (s r : ℕ) (x : State) where
    pub two-right : two q t ≡ reduced s r x → Right (cells q) q.dimension s r x
    unfolding two
    two-right e = reductions-right complex t (rule q) (rule-is q) entry_limit q.dimension (omega arith) s r x e

    pub behind : Bare t (cells q) q.dimension → two q t ≡ reduced s r x → Behind q t
    unfolding two
    behind bare e = record {
      limit = limit;
      complex = complex;
      rows = s;
      rank = r;
      state = x;
      reductions-are = e;
      right = two-right e;
      small = reductions-within complex t (rule q) (rule-is q) entry_limit q.dimension (omega arith) s r x e;
      headroom = reductions-headroom complex t (rule q) (rule-is q) entry_limit q.dimension (omega arith) s r x e bare;
      limits = reductions-limit complex t (rule q) (rule-is q) entry_limit q.dimension s r x e;
    }

    pub ends : two q t ≡ reduced s r x → Ends q t s r x
    unfolding two
    ends e = ends_at q t s r x entry_limit e

    pub ends-two : Ends q t s r x → two q t ≡ reduced s r x
    unfolding two after_second
    ends-two d =
        let one : 1 ≤ entry_limit = omega arith in
        let first = first-is complex t (rule q) (rule-is q) entry_limit q.dimension one (machine.done d.first_rank d.first_state) d.first tt in
        let second = second_is complex t (rule q) (rule-is q) entry_limit q.dimension one d.first_rank d.first_state first d.narrow (machine.done r x) d.second tt in
        after-second t (rule q) entry_limit (cells q) q.dimension d.first_rank d.first_state first d.narrow (machine.done r x) second
        ∙ ap (λ (n : ℕ). reduced n r x) (sym d.rows)

-- what holds of two reductions that are done holds of them however they are found
pub reduced-same : {R : Reductions} {s r s' r' : ℕ} {x x' : State} (P : ℕ → ℕ → State → Type 0) → R ≡ reduced s r x → R ≡ reduced s' r' x' → P s r x → P s' r' x'
reduced-same P e f = subst of (sym e ∙ f)
  where
    of : Reductions → Type 0
    of too_wide = Unit {0}
    of (reduced s r x) = P s r x

pub same-behind : {q : Question} {t : Transforms} (P : ℕ → ℕ → State → Type 0) (B D : Behind q t) → P B.rows B.rank B.state → P D.rows D.rank D.state
same-behind P B D = reduced-same P B.reductions-are D.reductions-are

-- the end that the machine comes to is what stands behind
pub ends-reduced : {q : Question} {t : Transforms} (B : Behind q t) {s r : ℕ} {x : State} → Ends q t s r x → two q t ≡ reduced s r x
ends-reduced {q} {t} B {s} {r} {x} e = ends-two q t B.complex s r x e
