-- `face_missing` meets its contract: the test of each section is that of the definition.
use mathlib.Core.Bool.{not}
use Prim.Native.Nat.{suc}
use Rattle.std.proofs.Common.{rules, tests, refl}
use Rattle.std.proofs.lemmas.Iterator.{YieldsList-from_range}
use Rattle.complexes.specs.Cell.{without, listed}
use Rattle.complexes.specs.Complex.{section, count, cell}
use Rattle.sheet_format.specs.Layout.{top}
use Rattle.sheet_format.specs.Check.{sections_of, some, face_missing}
use Rattle.checks.proofs.Scan.{any-some}
use Rattle.checks.proofs.check.face_missing.Goals as goal

pub returns : goal.returns
unfolding face_missing
returns c =
    let K = sections_of c.args.s.now in
    any-some _ _ _ top (λ p. some (count K (suc p)) (λ i. some (suc (suc p)) (λ j. not (listed (without j (cell K (suc p) i)) (section K p))))) c.any.ensures.ran
    (YieldsList-from_range 0 top top refl refl)
    (λ x q k. search (rules, tests)) (λ x q k. search (rules, tests))
