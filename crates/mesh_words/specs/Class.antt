-- Classes of bytes of a mesh text.
use Rattle.std.specs.Prelude.{Bool, not, ◌&&◌, List, ℕ, eqb, ltb, length, get_or, drop}
use Rattle.mesh_format.specs.Words.{carriage_return, is_space, is_line_feed, in_word, is_digit}
use Rattle.mesh_format.specs.Parse.{Parsed, run, some_bytes}
use Rattle.mesh_words.specs.declared.class.Class.{Class}
use Rattle.mesh_words.specs.declared.class.Class.TheVariants.{Space, CarriageReturn, LineFeed, Digit, Word, Line}

-- whether the byte b is of the class
abbrev pub in_class : Class → ℕ → Bool
in_class Space b = is_space b
in_class CarriageReturn b = eqb b carriage_return
in_class LineFeed b = is_line_feed b
in_class Digit b = is_digit b
in_class Word b = in_word b
in_class Line b = not (is_line_feed b)

-- whether a byte of the class stands at position `at` of the text s
unfoldable pub stands_at : Class → List ℕ → ℕ → Bool
stands_at class s at = ltb at (length s) && in_class class (get_or s at 0)

-- one or more bytes of the class from position `at` on
unfoldable pub some_of : Class → List ℕ → ℕ → Parsed (List ℕ)
some_of class s at = some_bytes s at (run (in_class class) (drop at s))
