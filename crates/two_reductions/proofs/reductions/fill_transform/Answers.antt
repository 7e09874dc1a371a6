-- `reductions::fill_transform` meets its contract: a transform without entries holds anything.
use mathlib.Core.Path.{refl}
use native.Mathlib.Omega.{arith}
use Rattle.two_reductions.proofs.reductions.fill_transform.Goals as goal
use Rattle.two_reductions.proofs.reductions.fill_transform.Goals.{Start}

pub returns-else-m-gt0 : goal.returns-else-m-gt0
returns-else-m-gt0 c = record { same_length = refl; on = record { at = λ i j a b. absurd (omega (arith, c.if-m-gt0.false)) }; off = λ i o. refl }
