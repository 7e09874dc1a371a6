use mathlib.Core.Path.{◌≡◌, sym, ap, subst, ◌∙◌}
use mathlib.Core.List.{List}
use Prim.Native.Nat.{ℕ, ◌+◌, ◌<◌, ◌≤◌, max}
use native.Mathlib.Omega.{arith}
use lib.ListN.{set}
use mir.Syntax.{w32}
use Rattle.integers.proofs.Ring.{zero-add}
use Rattle.integers.proofs.Order.{nat_abs-neg}
use lib.IntN.{ℤ, pos, nat_abs, ◌-ℤ◌}
use Rattle.integers.specs.Slot.{slot}
use Rattle.matrix_lines.specs.Slice.{entry_limit}
use Rattle.matrix_lines.proofs.Peaks.{Raised, raised-max}
use Rattle.matrix_lines.proofs.Store.{line_set-more, line_set-next}
use Rattle.matrix_lines.proofs.Entries.{entry-size}
use Rattle.machine_words.specs.Read.{read, read-entry}
use Rattle.matrix_lines.proofs.line.negate_places.Invariants.{Invariant, negated}
use Rattle.matrix_lines.proofs.line.negate_places.Goals as goal
use Rattle.matrix_lines.proofs.line.negate_places.Goals.{At-loop-t, In-loop-t}

module _ {w₀ : List ℤ} {start width before largest t : ℕ} {w : List ℤ} (inv : Invariant w₀ start width before largest t w) (more : t < width) where
  -- what the machine computes
  abbrev computed : ℤ
  computed = pos 0 -ℤ read w32 (slot w (start + t))

  computed-is : computed ≡ negated w₀ start t
  computed-is =
      rw (read-entry (slot w (start + t)) (inv.so_far.bounded.bound (start + t)), line_set-next w₀ w start t (negated w₀ start) (omega arith) inv.so_far)
      (zero-add (negated w₀ start t))

  opposite-small : nat_abs (negated w₀ start t) ≤ entry_limit
  opposite-small =
      rw (nat_abs-neg (slot w₀ (start + t)), ← line_set-next w₀ w start t (negated w₀ start) (omega arith) inv.so_far)
      (inv.so_far.bounded.bound (start + t))

  computed-small : nat_abs computed ≤ entry_limit
  computed-small = subst (λ (z : ℤ). nat_abs z ≤ entry_limit) (sym computed-is) opposite-small

  raised : {n : ℕ} → n ≡ max largest (nat_abs computed) → Raised largest (negated w₀ start t) n
  raised e = raised-max (negated w₀ start t) (e ∙ ap (λ (z : ℤ). max largest (nat_abs z)) computed-is) inv.so_far.bounded.limit opposite-small

  -- a turn of the loop
  again : {n : ℕ} → Raised largest (negated w₀ start t) n → Invariant w₀ start width before n (t + 1) (set w (start + t) (read w32 computed))
  again r = record {
    below = omega arith;
    inside = inv.inside;
    so_far = rw (computed-is, read-entry (negated w₀ start t) opposite-small)
        (line_set-more w₀ w start t (negated w₀ start) (omega arith) inv.so_far r);
  }

pub loop-t-preserved : goal.loop-t-preserved
loop-t-preserved c = again c.loop-t.invariant c.loop-t-test.true (raised c.loop-t.invariant c.loop-t-test.true
    (c.max-largest.ensures ∙ ap (λ (m : ℕ). max c.loop-t.largest m) (c.from.ensures ∙ entry-size (computed c.loop-t.invariant c.loop-t-test.true) (computed-small c.loop-t.invariant c.loop-t-test.true) c.unsigned_abs.ensures.value)))
