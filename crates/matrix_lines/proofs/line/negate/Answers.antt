use mathlib.Core.Path.{◌≡◌, ap, subst, ◌∙◌}
use mathlib.Core.Logic.{inr}
use mathlib.Core.List.{List}
use Prim.Native.Nat.{ℕ, ◌+◌, ◌-◌, ◌*◌, ◌/◌, ◌<◌, ◌≤◌}
use native.Mathlib.Omega.{arith}
use native.Mathlib.Nat as NatL
use lib.IntN.{ℤ, neg_ℤ}
use Rattle.integers.specs.Slot.{slot}
use Rattle.matrix_lines.specs.Slice.{block, LineSet}
use Rattle.matrix_lines.proofs.Parts.{line_set-part}
use Rattle.matrix_lines.proofs.line.negate.Invariants.{Invariant, negated}
use Rattle.matrix_lines.proofs.line.negate.Goals as goal

-- the next n places
module _ {w₀ : List ℤ} {start width before largest t : ℕ} {w : List ℤ} (inv : Invariant w₀ start width before largest t w) (n : ℕ) where
  next-same : (s : ℕ) → s < n → negated w (start + t) s ≡ negated w₀ start (t + s)
  next-same s l = ap neg_ℤ (inv.so_far.off (start + t + s) (inr (omega arith)) ∙ ap (slot w₀) (omega arith))

  part-done : {y : ℕ} {w' : List ℤ} → LineSet w (start + t) n (negated w (start + t)) largest y w' → LineSet w₀ start (t + n) (negated w₀ start) before y w'
  part-done h = line_set-part inv.so_far h next-same

pub loop-b-preserved : goal.loop-b-preserved
loop-b-preserved c =
    let inv = c.loop-b.invariant in let w₀ = c.args.w.now in
    let done = part-done inv block c.negate_block-largest.ensures in
    record {
      below = omega arith;
      inside = inv.inside;
      so_far = subst (λ (n : ℕ). LineSet w₀ c.args.at n (negated w₀ c.args.at) c.args.before c.negate_block-largest.result c.negate_block-largest.new.w)
          (omega arith) done;
    }

-- after the last block
whole :
    {w₀ : List ℤ} {start width before largest b : ℕ} {w : List ℤ} → Invariant w₀ start width before largest (b * block) w → b ≤ width / block
    → width / block ≤ b → Invariant w₀ start width before largest (width / block * block) w
whole {w₀} {start} {width} {before} {largest} {b} {w} inv l h =
    subst (λ (n : ℕ). Invariant w₀ start width before largest (n * block) w) (NatL.le_antisymm l h) inv

pub returns : goal.returns
returns c =
    let inv = whole c.loop-b.invariant c.loop-b.auto.b-end c.loop-b-test.false in
    let called = c.negate_places in let args = c.args in
    subst (λ (n : ℕ). LineSet args.w.now args.at n (negated args.w.now args.at) args.before called.result called.new.w) (omega arith)
    (part-done inv (args.width - args.width / block * block) called.ensures)
