-- No refusal has the number 0, which stands for done: number-positive.
use Rattle.std.specs.Prelude.{◌<◌}
use Rattle.std.proofs.Common.{arith}
use Rattle.refusal.specs.Number.{number_of}
use Rattle.refusal.specs.declared.Refusal.{Refusal}
use Rattle.refusal.specs.declared.Refusal.TheVariants.{SheetTooShort, CountExceedsLimit, OffsetDiffers, LengthDiffers, VerticesDoNotRise, CellsDoNotRise, FaceMissing, DimensionExceedsTop, SliceTooShort, ChainLengthDiffers, CoefficientExceedsLimit, BoundaryNotZero, TooWide, MeshMalformed, ElementFaulty, SheetTooLong, BoundsNothing, LooseNode}

pub number-positive : (x : Refusal) → 0 < number_of x
number-positive SheetTooShort = omega arith
number-positive CountExceedsLimit = omega arith
number-positive OffsetDiffers = omega arith
number-positive LengthDiffers = omega arith
number-positive VerticesDoNotRise = omega arith
number-positive CellsDoNotRise = omega arith
number-positive FaceMissing = omega arith
number-positive DimensionExceedsTop = omega arith
number-positive SliceTooShort = omega arith
number-positive ChainLengthDiffers = omega arith
number-positive CoefficientExceedsLimit = omega arith
number-positive BoundaryNotZero = omega arith
number-positive TooWide = omega arith
number-positive MeshMalformed = omega arith
number-positive ElementFaulty = omega arith
number-positive SheetTooLong = omega arith
number-positive BoundsNothing = omega arith
number-positive LooseNode = omega arith
