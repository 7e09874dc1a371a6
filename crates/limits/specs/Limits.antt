-- The limits: document 01, "The sheet". Every other definition cites these.
use Rattle.std.specs.Prelude.{ℕ}

-- for a count, in the library and in the program and the host calls
abbrev pub library_limit : ℕ
library_limit = 256

abbrev pub host_limit : ℕ
host_limit = 48

-- for the absolute value of an entry, W, and of a given coefficient
abbrev pub entry_limit : ℕ
entry_limit = 1048575

abbrev pub coefficient_limit : ℕ
coefficient_limit = 32767

-- and of one given to the surface call: document 02, Note 6
abbrev pub surface_coefficient_limit : ℕ
surface_coefficient_limit = 15
