-- `count_exceeds` meets its contract: the test of each dimension is that of the definition.
use mathlib.Core.Path.{refl}
use Prim.Native.Nat.{suc}
use lib.Dec.{ltb}
use Rattle.std.proofs.Common.{rules, tests}
use Rattle.std.proofs.lemmas.Iterator.{YieldsList-from_range}
use Rattle.sheet_format.specs.Layout.{top}
use Rattle.sheet_format.specs.Check.{count_field}
use Rattle.checks.proofs.Scan.{any-some}
use Rattle.checks.proofs.check.count_exceeds.Goals as goal

pub returns : goal.returns
returns c =
    any-some _ _ _ (suc top) (λ p. ltb c.args.limit (count_field c.args.s.now p)) c.any.ensures.ran (YieldsList-from_range 0 (suc top) (suc top) refl refl)
    (λ x q k. search (rules, tests)) (λ x q k. search (rules, tests))
