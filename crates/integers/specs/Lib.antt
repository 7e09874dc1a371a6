-- Laws of the whole numbers that the kit lacks. `Ring`: the commutative ring laws. `Solve`: ring identities by normal forms.
-- `Order`: absolute value and order. `Division` has the definitions of division and divisibility, `Divides`, `Floor`, `Residue` and
-- `ResidueRemainder` their laws.
-- `Truncate`: the machine's division, and how it gives that of `Floor`. `Power`: powers of natural numbers. `Slot`: the number in a slot of a slice.
pub mod Division
pub mod Slot
