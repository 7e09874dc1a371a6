-- The number that documents 01 and 02 give to each refusal.
use Rattle.std.specs.Prelude.{ℕ}
use Rattle.refusal.specs.declared.Refusal.{Refusal}
use Rattle.refusal.specs.declared.Refusal.TheVariants.{SheetTooShort, CountExceedsLimit, OffsetDiffers, LengthDiffers, VerticesDoNotRise, CellsDoNotRise, FaceMissing, DimensionExceedsTop, SliceTooShort, ChainLengthDiffers, CoefficientExceedsLimit, BoundaryNotZero, TooWide, MeshMalformed, ElementFaulty, SheetTooLong, BoundsNothing, LooseNode}

abbrev pub number_of : Refusal → ℕ
number_of SheetTooShort = 1
number_of CountExceedsLimit = 2
number_of OffsetDiffers = 3
number_of LengthDiffers = 4
number_of VerticesDoNotRise = 5
number_of CellsDoNotRise = 6
number_of FaceMissing = 7
number_of DimensionExceedsTop = 8
number_of SliceTooShort = 9
number_of ChainLengthDiffers = 10
number_of CoefficientExceedsLimit = 11
number_of BoundaryNotZero = 12
number_of TooWide = 13
number_of MeshMalformed = 14
number_of ElementFaulty = 15
number_of SheetTooLong = 16
number_of BoundsNothing = 17
number_of LooseNode = 18
