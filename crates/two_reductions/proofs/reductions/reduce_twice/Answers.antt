-- `reductions::reduce_twice` meets its contract: the first reduction is lent a part of a slice of zeros, which comes back with zeros behind it (`Part`); the
-- second is lent the slice.
use mathlib.Core.Path.{◌≡◌, refl, sym, subst, ◌∙◌, ap}
use mathlib.Core.Bool.{Bool}
use mathlib.Core.List.{List, ◌++◌}
use Prim.Native.Nat.{ℕ, ◌+◌, ◌-◌, ◌≤◌}
use native.Mathlib.Nat.{le_of_eq}
use native.Mathlib.Omega.{arith}
use Rattle.std.proofs.Common.{Err}
use Rattle.std.proofs.lemmas.Result.{err_from_is_err_and}
use lib.IntN.{ℤ, pos}
use lib.ListN.{length, take, drop, length-replicate}
use lib.Seq.{length-take-le, length_front}
use Rattle.complexes.specs.Complex.{Sections}
use Rattle.complexes.proofs.ChainComplex.{ChainComplex}
use Rattle.sheet_format.specs.Check.{sections_of}
use Rattle.limits.specs.Limits.{library_limit}
use Rattle.reduction_steps.specs.Pivot.{pivot_rule}
use Rattle.reduction_steps.proofs.PivotLaws.{pivot_rule-is-rule}
use Rattle.reports.specs.Reductions.{second_columns_only, reductions_of}
use Rattle.requests.specs.Call.{work_slots}
use Rattle.two_reductions.specs.Slices.{TwiceReduced}
use Rattle.two_reductions.proofs.Sheet.{sheet-chains, slots-of}
use Rattle.two_reductions.proofs.Places.{room-kept}
use Rattle.two_reductions.proofs.Outcomes.{first-refused}
use Rattle.two_reductions.proofs.Part.{zeros, part-zeros, rest-zeros, zero-behind, done-whole, cleared-whole}
use Rattle.two_reductions.proofs.reductions.reduce_twice.Goals as goal
use Rattle.two_reductions.proofs.reductions.reduce_twice.Goals.{Start, After-work_slots-slots, After-reduce_first, After-reduce_second}

module _ (c : After-work_slots-slots) where
  abbrev start : Start
  start = (goal.at.After-work_slots-slots c).Start

  abbrev K : Sections
  K = sections_of start.args.s.now

  abbrev p : ℕ
  p = start.args.p

  abbrev tracked : Bool
  tracked = start.args.tracked

  complex : ChainComplex library_limit K
  complex = sheet-chains (record { small = λ i. (c.type_inv.s i).fits }) start.requires.accepted.0

  -- the length of the work slice
  abbrev n : ℕ
  n = length start.args.w.now

  -- the slots that are lent
  abbrev m : ℕ
  m = c.work_slots-slots.result

  -- the work slice, cleared
  abbrev slice : List ℤ
  slice = c.clear.new.w

  slice_is : slice ≡ zeros n
  slice_is = c.clear.ensures

  slots-are : m ≡ work_slots K p
  slots-are = c.work_slots-slots.ensures ∙ slots-of start.requires.cell_counts_read

  slice-length : length slice ≡ n
  slice-length = ap length slice_is ∙ length-replicate n (pos 0)

  within : m ≤ length slice
  within = omega (arith, slots-are, room-kept K p tracked, start.requires.p_in_bounds, slice-length)

  part_length : length (take m slice) ≡ m
  part_length = length-take-le m slice within

  part-is : take m slice ≡ zeros (length (take m slice))
  part-is = subst (λ (w : List ℤ). take m w ≡ zeros (length (take m w))) (sym slice_is) (part-zeros m n)

pub reduce_first-requires-clause-w_value : goal.reduce_first-requires-clause-w_value
reduce_first-requires-clause-w_value c = part-is (goal.at.reduce_first-requires-clause-w_value c).After-work_slots-slots

module _ (c : After-reduce_first) where
  abbrev lent : After-work_slots-slots
  lent = (goal.at.After-reduce_first c).After-work_slots-slots

  -- what the part holds after the first reduction
  abbrev left : List ℤ
  left = c.reduce_first.new.w

  whole : left ++ drop (m lent) (slice lent) ≡ left ++ zeros (n lent - m lent)
  whole = ap (λ (w : List ℤ). left ++ w) (ap (drop (m lent)) (slice_is lent) ∙ rest-zeros (m lent) (n lent))

  sizes : length (take (m lent) (slice lent)) + (n lent - m lent) ≡ n lent
  sizes = omega (arith, part_length lent, within lent, slice-length lent)

  whole_length : length (left ++ drop (m lent) (slice lent)) ≡ n lent
  whole_length = length_front (slice lent) left (m lent) c.reduce_first.auto.w ∙ slice-length lent

pub returns-in_err-first : goal.returns-in_err-first
returns-in_err-first c =
    let called = (goal.at.returns-in_err-first c).After-reduce_first in
    let k = lent called in
    let refused = c.in_err-first.ensures in
    let e = err_from_is_err_and c.from_residual.result c.from_residual.ensures.1 in
    rw (e.1, e.2)
    (subst (TwiceReduced (K k) (p k) (tracked k) (reductions_of (second_columns_only (tracked k)) pivot_rule (K k) (p k)) (n k) (Err _)) (sym (whole called))
    (first-refused pivot_rule-is-rule (K k) (p k) (n k) (complex k) (tracked k) (start k).requires.p_in_bounds refl refused.outcome
    (cleared-whole (left called) (n k - m k) (sizes called) refused.cleared)))

pub reduce_second-requires : goal.reduce_second-requires
reduce_second-requires c =
    let called = (goal.at.reduce_second-requires c).After-reduce_first in
    let k = lent called in
    let s = start k in
    let behind = n k - m k in
    let ended = c.in_ok-first.ensures in
    record {
      accepted = s.requires.accepted;
      p_in_bounds = rw (whole_length called) s.requires.p_in_bounds;
      cell_counts_read = s.requires.cell_counts_read;
      reduction_done = rw (whole_length called) (rw (whole called) (done-whole (left called) behind (sizes called) ended));
      zero_from = rw (whole called) (zero-behind (left called) behind (le_of_eq (called.reduce_first.auto.w ∙ part_length k ∙ slots-are k)));
    }

pub returns : goal.returns
returns c =
    let second = (goal.at.returns c).After-reduce_second in
    let called = (goal.at.After-reduce_second second).After-reduce_first in
    let k = lent called in
    subst
    (λ (size : ℕ).
    TwiceReduced (K k) (p k) (tracked k) (reductions_of (second_columns_only (tracked k)) pivot_rule (K k) (p k)) size second.reduce_second.result second.reduce_second.new.w)
    (whole_length called) second.reduce_second.ensures
