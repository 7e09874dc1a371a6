-- The bytes, words and numbers of a mesh text: document 02, Note 3. A text is a list of bytes.
use Rattle.std.specs.Prelude.{Bool, not, ◌&&◌, ◌||◌, List, [], ◌∷◌, ℕ, ◌+◌, ◌-◌, ◌*◌, eqb, leb}

-- ---- bytes

abbrev pub line_feed : ℕ
line_feed = 10

abbrev pub carriage_return : ℕ
carriage_return = 13

abbrev pub is_space : ℕ → Bool
is_space b = eqb b 32

abbrev pub is_line_feed : ℕ → Bool
is_line_feed b = eqb b line_feed

-- a word has no space, carriage return or line feed
abbrev pub in_word : ℕ → Bool
in_word b = not (is_space b || eqb b carriage_return || is_line_feed b)

-- ---- numbers

abbrev pub is_digit : ℕ → Bool
is_digit b = leb 48 b && leb b 57

-- the number with the digits of v and, behind them, these
unfoldable pub value_from : ℕ → List ℕ → ℕ
value_from v [] = v
value_from v (d ∷ digits) = value_from (10 * v + (d - 48)) digits

-- a number has at most this many digits
abbrev pub most_digits : ℕ
most_digits = 9

-- ---- the words that the form names

-- 2.2
abbrev pub version_word : List ℕ
version_word = 50 ∷ 46 ∷ 50 ∷ []

-- 0
abbrev pub zero_word : List ℕ
zero_word = 48 ∷ []

-- MeshFormat
abbrev pub mesh_format_name : List ℕ
mesh_format_name = 77 ∷ 101 ∷ 115 ∷ 104 ∷ 70 ∷ 111 ∷ 114 ∷ 109 ∷ 97 ∷ 116 ∷ []

-- Nodes
abbrev pub nodes_name : List ℕ
nodes_name = 78 ∷ 111 ∷ 100 ∷ 101 ∷ 115 ∷ []

-- Elements
abbrev pub elements_name : List ℕ
elements_name = 69 ∷ 108 ∷ 101 ∷ 109 ∷ 101 ∷ 110 ∷ 116 ∷ 115 ∷ []

-- $ and the name
abbrev pub opening : List ℕ → List ℕ
opening name = 36 ∷ name

-- $End and the name
abbrev pub ending : List ℕ → List ℕ
ending name = 36 ∷ 69 ∷ 110 ∷ 100 ∷ name
