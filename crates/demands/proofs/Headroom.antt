-- The claims on headroom.
use mathlib.Core.Path.{◌≡◌, sym, ◌∙◌, ap, subst}
use mathlib.Core.Logic.{◌↔◌, ◌⊎◌}
use Prim.Native.Nat.{ℕ, ◌-◌, ◌^◌, ◌≤◌, ◌<◌}
use native.Mathlib.Omega.{arith}
use Rattle.limits.specs.Limits.{entry_limit}
use Rattle.sheet_format.specs.Sheet.{Bytes}
use Rattle.reduction_steps.specs.State.{State}
use Rattle.reports.specs.Reductions.{Transforms}
use Rattle.reports.specs.Report.{Counts, bits_of}
use Rattle.reports.proofs.BitsLaws.{bits_below, bits-zero, bits-le, bits-least}
use Rattle.requests.specs.Question.{Question, cell_count}
use Rattle.answers.specs.Outcome.{EndsAt}
use Rattle.answers.proofs.Behind.{ends_at, ends-reduced}
use Rattle.demands.specs.Answers.{CountsAnswered}
use Rattle.demands.specs.Headroom.{Headroom, HeadroomNone, AtEntryLimit, LeastLimit}
use Rattle.demands.proofs.Answers.{CountsBehind, counts_of_lem}

module _ (q : Question) (bytes : Bytes q.sheet) (keeps : Transforms) (counts : Counts) (of-counts : CountsAnswered q keeps counts) where
  abbrev B : CountsBehind q keeps counts
  B = counts_of_lem q bytes of-counts

  peak-is : counts.peak ≡ B.two.state.peak
  peak-is = ap (λ (c : Counts). c.peak) B.are

  bits_are : counts.bits ≡ bits_of counts.peak
  bits_are = ap (λ (c : Counts). c.bits) B.are ∙ ap bits_of (sym peak-is)

  bits_fit : counts.peak < 2 ^ counts.bits
  bits_fit = subst (λ (n : ℕ). counts.peak < 2 ^ n) (sym bits_are) (bits_below counts.peak)

  peak-none : (counts.peak ≡ 0) ↔ (cell_count q ≡ 0)
  peak-none = (λ e. B.two.headroom.none.0 (sym peak-is ∙ e), λ e. peak-is ∙ B.two.headroom.none.1 e)

  bits_none : (counts.bits ≡ 0) ↔ (cell_count q ≡ 0)
  bits_none = (
    λ e. peak-none.0 (omega (arith, subst (λ (n : ℕ). counts.peak < 2 ^ n) e bits_fit)),
    λ e. bits_are ∙ ap bits_of (peak-none.1 e) ∙ bits-zero,
  )

  within : counts.peak ≤ entry_limit
  within = omega (arith, peak-is, B.two.headroom.within)

  -- what the reductions end with stands behind the counts
  same_end : (L : ℕ) → 1 ≤ L → counts.peak ≤ L → (s r : ℕ) (x : State) → EndsAt entry_limit q keeps s r x → EndsAt L q keeps s r x
  same_end L one h s r x e =
      ends_at q keeps s r x L ((B.two.limits L one).same (omega (arith, peak-is)) ∙ sym B.two.reductions-are ∙ ends-reduced B.two e)

  at-limit : (L : ℕ) → 1 ≤ L → AtEntryLimit q keeps L counts
  at-limit L one =
      let d = B.two.limits L one in
      record {
        too_wide = (λ g. omega (arith, peak-is, d.wide.0 g), λ l. d.wide.1 (omega (arith, peak-is)));
        same = same_end L one;
      }

pub headroom : Headroom
headroom q bytes keeps counts of-counts = record {
  within = within q bytes keeps counts of-counts;
  few = subst (λ (n : ℕ). n ≤ 20) (sym bits) (bits-le counts.peak 20 (omega (arith, within q bytes keeps counts of-counts)));
  fits = bits_fit q bytes keeps counts of-counts;
  least = subst (λ (n : ℕ). (counts.peak ≡ 0) ⊎ (2 ^ (n - 1) ≤ counts.peak)) (sym bits) (bits-least counts.peak);
}
  where
    bits : counts.bits ≡ bits_of counts.peak
    bits = bits_are q bytes keeps counts of-counts

pub headroom_none : HeadroomNone
headroom_none q bytes keeps counts of-counts = record { peak = peak-none q bytes keeps counts of-counts; bits = bits_none q bytes keeps counts of-counts }

pub least_limit : LeastLimit
least_limit = at-limit
