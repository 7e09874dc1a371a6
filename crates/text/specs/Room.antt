-- The bytes that a text takes at most, for a sheet of the program.
use Rattle.std.specs.Prelude.{ℕ, suc, ◌+◌, ◌*◌}
use Rattle.sheet_format.specs.Layout.{top}
use Rattle.limits.specs.Limits.{host_limit}

-- a number: a sign and 19 digits
abbrev pub number_room : ℕ
number_room = 20

-- a field of a line: a space and a number
abbrev pub field_room : ℕ
field_room = 1 + number_room

-- a line: a letter, its fields and a line feed
abbrev pub line_room : ℕ → ℕ
line_room fields = 2 + field_room * fields

-- the first line of a dimension: its number, b, t and the orders
abbrev pub heading_room : ℕ
heading_room = line_room (3 + host_limit)

-- the line of a generator
abbrev pub generator_room : ℕ
generator_room = line_room host_limit

abbrev pub dimension_room : ℕ
dimension_room = heading_room + generator_room * host_limit

-- the text of all dimensions
abbrev pub text_room : ℕ
text_room = dimension_room * suc top
