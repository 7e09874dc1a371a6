use mathlib.Core.Path.{refl, ap, ap₂, ◌∙◌}
use Prim.Native.Nat.{ℕ, ◌+◌, ◌*◌, ◌≤◌}
use native.Mathlib.Nat.{le_antisymm}
use native.Mathlib.Numerals.{add-one}
use native.Mathlib.Omega.{arith}
use lib.ListN.{length}
use Rattle.lists.specs.Splice.{splice, splices}
use Rattle.requests.specs.Chains.{chain_at}
use Rattle.requests.proofs.ChainsLaws.{chain-inside, chain-part}
use Rattle.writers.specs.Written.{coordinates_of}
use Rattle.writers.proofs.coordinates.write_lists.Goals as goal
use Rattle.writers.proofs.coordinates.write_lists.Goals.{Start, In-loop-i}

pub loop-i-init : goal.loop-i-init
unfolding splices
loop-i-init c = (omega arith, refl, refl)

-- the next chain stands in the slice
inside : (c : In-loop-i) → let a = c.args in c.loop-i.i * a.cells + a.cells ≤ length a.chains.now
inside c =
    let a = c.args in
    chain-inside a.cells a.many a.chains.now c.requires.size c.loop-i.i c.loop-i-test.true

pub overflow_mul-at : goal.overflow_mul-at
overflow_mul-at c = omega (arith, inside c, c.well_formed)

pub overflow_add-at : goal.overflow_add-at
overflow_add-at c = omega (arith, inside c, c.well_formed)

pub offset_bounds-chains-at : goal.offset_bounds-chains-at
offset_bounds-chains-at c = omega (arith, inside c, c.well_formed)

pub write_coordinates-requires : goal.write_coordinates-requires
write_coordinates-requires c =
    let start = (goal.at.write_coordinates-requires c).Start in
    let loop = c.loop-i in
    let a = start.args in
    rw (chain-part a.cells loop.i a.chains.now, loop.invariant.2) (start.requires.each loop.i c.loop-i-test.true)

pub loop-i-preserved : goal.loop-i-preserved
unfolding splices
loop-i-preserved c =
    let wrote = c.write_coordinates in
    let loop = c.loop-i in
    let a = c.args in (
      omega (arith, c.loop-i-test.true),
      wrote.ensures.is ∙ rw (add-one loop.i) (ap₂ (splice (loop.i * a.cells)) (ap (coordinates_of a.reduced a.w.now) (chain-part a.cells loop.i a.chains.now)) loop.invariant.1),
      wrote.auto.coordinates ∙ loop.invariant.2,
    )

pub returns : goal.returns
returns c =
    let a = c.args in
    c.loop-i.invariant.1
    ∙ ap (λ (n : ℕ). splices a.cells (λ k. coordinates_of a.reduced a.w.now (chain_at a.cells a.chains.now k)) n a.coordinates.now)
    (le_antisymm c.loop-i.invariant.0 c.loop-i-test.false)
