-- `offset_differs` meets its contract: the test of each dimension is that of the definition.
use mathlib.Core.Path.{refl}
use mathlib.Core.Bool.{not}
use Prim.Native.Nat.{suc}
use lib.Dec.{eqb}
use Rattle.std.proofs.Common.{rules, tests}
use Rattle.std.proofs.lemmas.Iterator.{YieldsList-from_range}
use Rattle.sheet_format.specs.Layout.{top}
use Rattle.sheet_format.specs.Check.{offset_field, start_at}
use Rattle.checks.proofs.Scan.{any-some}
use Rattle.checks.proofs.check.offset_differs.Goals as goal

pub returns : goal.returns
unfolding offset_field
returns c =
    any-some _ _ _ (suc top) (λ p. not (eqb (offset_field c.args.s.now p) (start_at c.args.s.now p))) c.any.ensures.ran
    (YieldsList-from_range 0 (suc top) (suc top) refl refl)
    (λ x q k. search (rules, tests)) (λ x q k. search (rules, tests))
