-- The number in a slot of a slice.
use Rattle.std.specs.Prelude.{List, ℕ, ℤ, pos, get_or}

-- number i of a slice, 0 past its end; a slice of n_p numbers is a chain
abbrev pub slot : List ℤ → ℕ → ℤ
slot slice i = get_or slice i (pos 0)
