use mathlib.Core.Path.{ap, ◌∙◌}
use mathlib.Core.List.{List}
use Prim.Native.Nat.{ℕ, ◌+◌, ◌<◌, max}
use native.Mathlib.Omega.{arith}
use lib.ListN.{set}
use mir.Syntax.{w32}
use lib.IntN.{ℤ}
use Rattle.integers.specs.Slot.{slot}
use Rattle.matrix_lines.proofs.Store.{RaisedTwice, raised-twice, swapped-more}
use Rattle.matrix_lines.proofs.Entries.{larger-size}
use Rattle.machine_words.specs.Read.{read, read-entry}
use Rattle.matrix_lines.proofs.line.swap_places.Invariants.{Invariant}
use Rattle.matrix_lines.proofs.line.swap_places.Goals as goal

module _ {w₀ : List ℤ} {first second width before largest t : ℕ} {w : List ℤ} (inv : Invariant w₀ first second width before largest t w) where
  -- a turn of the loop
  again :
      t < width → {n : ℕ} → RaisedTwice largest (slot w (first + t)) (slot w (second + t)) n
      → Invariant w₀ first second width before n (t + 1) (set (set w (first + t) (read w32 (slot w (second + t)))) (second + t) (read w32 (slot w (first + t))))
  again more raised = record {
    below = omega arith;
    first-inside = inv.first-inside;
    second-inside = inv.second-inside;
    apart = inv.apart;
    swapped = rw (read-entry (slot w (first + t)) (inv.swapped.bounded.bound (first + t)), read-entry (slot w (second + t)) (inv.swapped.bounded.bound (second + t)))
        (swapped-more w₀ w first second width t more inv.first-inside inv.second-inside inv.apart inv.swapped raised);
  }

pub loop-t-preserved : goal.loop-t-preserved
loop-t-preserved c = again c.loop-t.invariant c.loop-t-test.true (
    let bound = c.loop-t.invariant.swapped.bounded in let y = c.args.first + c.loop-t.t in let z = c.args.second + c.loop-t.t in
    raised-twice _ _
    (c.max-largest.ensures
    ∙ ap (λ (m : ℕ). max c.loop-t.largest m)
    (larger-size (slot c.loop-t.w y) (slot c.loop-t.w z) (bound.bound y) (bound.bound z) c.unsigned_abs.ensures.value c.unsigned_abs-in-loop-t.ensures.value c.max.ensures c.from.ensures))
    bound.limit (bound.bound y) (bound.bound z))
