use mathlib.Core.Path.{subst}
use mathlib.Core.List.{List}
use Prim.Native.Nat.{ℕ, ◌+◌, ◌-◌, ◌*◌, ◌/◌, ◌≤◌}
use native.Mathlib.Omega.{arith}
use native.Mathlib.Nat as NatL
use lib.IntN.{ℤ}
use Rattle.matrix_lines.specs.Slice.{block, LinesSwapped}
use Rattle.matrix_lines.proofs.Parts.{swapped-part}
use Rattle.matrix_lines.proofs.line.swap.Invariants.{Invariant}
use Rattle.matrix_lines.proofs.line.swap.Goals as goal

-- the next n places: what a call on them asks, and what it came to
module _ {w₀ : List ℤ} {first second width before largest t : ℕ} {w : List ℤ} (inv : Invariant w₀ first second width before largest t w) (n : ℕ)
    (inside : t + n ≤ width) where
  part-done : {y : ℕ} {w' : List ℤ} → LinesSwapped w (first + t) (second + t) n largest y w' → LinesSwapped w₀ first second (t + n) before y w'
  part-done = swapped-part w₀ w first second width t n inside inv.apart inv.swapped

pub loop-b-preserved : goal.loop-b-preserved
loop-b-preserved c =
    let inv = c.loop-b.invariant in let args = c.args in let called = c.swap_block-largest in
    record {
      below = omega arith;
      first-inside = inv.first-inside;
      second-inside = inv.second-inside;
      apart = inv.apart;
      swapped = subst (λ (n : ℕ). LinesSwapped args.w.now args.first args.second n args.before called.result called.new.w) (omega arith)
          (part-done inv block (omega arith) called.ensures);
    }

-- after the last block
whole :
    {w₀ : List ℤ} {first second width before largest b : ℕ} {w : List ℤ} → Invariant w₀ first second width before largest (b * block) w
    → b ≤ width / block → width / block ≤ b → Invariant w₀ first second width before largest (width / block * block) w
whole {w₀} {first} {second} {width} {before} {largest} {b} {w} inv l h =
    subst (λ (n : ℕ). Invariant w₀ first second width before largest (n * block) w) (NatL.le_antisymm l h) inv

pub returns : goal.returns
returns c =
    let inv = whole c.loop-b.invariant c.loop-b.auto.b-end c.loop-b-test.false in let called = c.swap_places in let args = c.args in
    subst (λ (n : ℕ). LinesSwapped args.w.now args.first args.second n args.before called.result called.new.w) (omega arith)
    (part-done inv (args.width - args.width / block * block) (omega arith) called.ensures)
