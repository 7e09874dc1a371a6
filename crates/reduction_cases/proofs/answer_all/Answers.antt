-- `answer_all` is safe: the slots start at 0, which lies within the limit.
use Rattle.std.proofs.Common.{◌≤◌, ◌≡◌, ℕ, zero, suc, ℤ, pos, nat_abs, replicate, subst, sym, refl}
use native.Mathlib.Omega.{arith}
use Rattle.integers.specs.Slot.{slot}
use Rattle.matrix_lines.specs.Slice.{entry_limit, Small}
use Rattle.reduction_cases.specs.Workspace.{slots}
use Rattle.reduction_cases.proofs.answer_all.Goals as goal

at-zeros : (n i : ℕ) → slot (replicate n (pos 0)) i ≡ pos 0
at-zeros zero i = refl
at-zeros (suc n) zero = refl
at-zeros (suc n) (suc i) = at-zeros n i

small-zeros : (n : ℕ) → Small (replicate n (pos 0))
small-zeros n = record { bound = λ i. subst (λ (z : ℤ). nat_abs z ≤ entry_limit) (sym (at-zeros n i)) (omega arith) }

pub read_entries-requires-clause-small : goal.read_entries-requires-clause-small
read_entries-requires-clause-small g c = small-zeros slots
