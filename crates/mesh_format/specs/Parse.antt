-- Reading a mesh text from position to position: document 02, Note 3. Everything computes. `Form` says the same without a reader, and `Accept` that
-- they agree.
use Rattle.std.specs.Prelude.{Bool, not, cond, ◌&&◌, ◌||◌, List, [], ◌∷◌, ◌++◌, ℕ, zero, suc, ◌+◌, eqb, ltb, leb, length, get_or, take, drop}
use Rattle.lists.specs.Same.{same_list}
use Rattle.complexes.specs.Complex.{vertex_bound}
use Rattle.mesh_format.specs.Mesh.{Element, Mesh}
use Rattle.mesh_format.specs.Words.{carriage_return, is_space, is_line_feed, in_word, is_digit, value_from, most_digits, version_word, zero_word, mesh_format_name, nodes_name, elements_name, opening, ending}

-- ---- what reading tells

-- what was read, and the position behind it; or that the text is not of the form
pub data Parsed (A : Type 0) : Type 0 where
  malformed : Parsed A
  parsed : A → ℕ → Parsed A

-- reads on from where the first ended
unfoldable pub then : {A B : Type 0} → Parsed A → (A → ℕ → Parsed B) → Parsed B
then malformed next = malformed
then (parsed x at) next = next x at

-- ---- parts of a text s

-- how many bytes at the front of the list pass the test
unfoldable pub run : (ℕ → Bool) → List ℕ → ℕ
run test [] = 0
run test (b ∷ s) = cond (test b) (suc (run test s)) 0

-- so many bytes from position `at` on
abbrev pub part : List ℕ → ℕ → ℕ → List ℕ
part s at many = take many (drop at s)

abbrev pub same_word : List ℕ → List ℕ → Bool
same_word = same_list eqb

-- ---- words and numbers from position `at` on

-- so many bytes there, unless they are none
unfoldable pub some_bytes : List ℕ → ℕ → ℕ → Parsed (List ℕ)
some_bytes s at zero = malformed
some_bytes s at (suc n) = parsed (part s at (suc n)) (at + suc n)

unfoldable pub word : List ℕ → ℕ → Parsed (List ℕ)
word s at = some_bytes s at (run in_word (drop at s))

-- one or more spaces
unfoldable pub gap : List ℕ → ℕ → Parsed (List ℕ)
gap s at = some_bytes s at (run is_space (drop at s))

-- a line feed, with or without a carriage return
unfoldable pub line_end : List ℕ → ℕ → Parsed Unit
line_end s at =
    cond (is_line_feed (get_or s at 0)) (parsed tt (suc at))
    (cond (eqb (get_or s at 0) carriage_return && is_line_feed (get_or s (suc at) 0)) (parsed tt (suc (suc at))) malformed)

-- n digits and then the end of the word: past its end a text counts as spaces
unfoldable pub digits_at : List ℕ → ℕ → ℕ → Parsed ℕ
digits_at s at n =
    cond (ltb 0 n && leb n most_digits && not (in_word (get_or s (at + n) 32))) (parsed (value_from 0 (part s at n)) (at + n)) malformed

unfoldable pub number : List ℕ → ℕ → Parsed ℕ
number s at = digits_at s at (run is_digit (drop at s))

-- a node number
unfoldable pub node : List ℕ → ℕ → Parsed ℕ
node s at = then (number s at) (λ v next. cond (ltb v vertex_bound) (parsed v next) malformed)

-- the word w
unfoldable pub the_word : List ℕ → List ℕ → ℕ → Parsed Unit
the_word w s at = then (word s at) (λ v next. cond (same_word v w) (parsed tt next) malformed)

-- n words, each after spaces
unfoldable pub words : ℕ → List ℕ → ℕ → Parsed Unit
words zero s at = parsed tt at
words (suc n) s at = then (gap s at) (λ _ a. then (word s a) (λ _ b. words n s b))

-- ---- lines from position `at` on

-- a line of one word
unfoldable pub word_line : List ℕ → ℕ → Parsed (List ℕ)
word_line s at = then (word s at) (λ w a. then (line_end s a) (λ _ b. parsed w b))

-- the line of the one word w
unfoldable pub title_line : List ℕ → List ℕ → ℕ → Parsed Unit
title_line w s at = then (word_line s at) (λ v next. cond (same_word v w) (parsed tt next) malformed)

-- `2.2 0` and a number
unfoldable pub format_line : List ℕ → ℕ → Parsed Unit
format_line s at =
    then (the_word version_word s at) (λ _ a. then (gap s a) (λ _ b. then (the_word zero_word s b) (λ _ c. then (gap s c) (λ _ d.
    then (number s d) (λ _ e. line_end s e)))))

-- a count
unfoldable pub count_line : List ℕ → ℕ → Parsed ℕ
count_line s at = then (number s at) (λ n a. then (line_end s a) (λ _ b. parsed n b))

-- a node number and three words
unfoldable pub node_line : List ℕ → ℕ → Parsed ℕ
node_line s at = then (node s at) (λ v a. then (words 3 s a) (λ _ b. then (line_end s b) (λ _ c. parsed v c)))

-- node numbers, each after spaces, to the end of the line; `rounds` bounds their number
unfoldable pub nodes_within : ℕ → List ℕ → ℕ → Parsed (List ℕ)
nodes_within zero s at = malformed
nodes_within (suc rounds) s at =
    cond (is_space (get_or s at 0))
    (then (gap s at) (λ _ a. then (node s a) (λ v b. then (nodes_within rounds s b) (λ vs c. parsed (v ∷ vs) c))))
    (then (line_end s at) (λ _ a. parsed [] a))

-- .. as many as there are
unfoldable pub node_numbers : List ℕ → ℕ → Parsed (List ℕ)
node_numbers s at = nodes_within (length s) s at

-- an element's number, kind, tag count, tags and node numbers
unfoldable pub element_line : List ℕ → ℕ → Parsed Element
element_line s at =
    then (number s at) (λ _ a. then (gap s a) (λ _ b. then (number s b) (λ kind c. then (gap s c) (λ _ d. then (number s d) (λ tags e.
    then (words tags s e) (λ _ f. then (node_numbers s f) (λ nodes g. parsed (record { kind = kind; nodes = nodes }) g)))))))

-- n lines of nodes, and of elements
unfoldable pub node_lines : ℕ → List ℕ → ℕ → Parsed (List ℕ)
node_lines zero s at = parsed [] at
node_lines (suc n) s at = then (node_line s at) (λ v a. then (node_lines n s a) (λ vs b. parsed (v ∷ vs) b))

unfoldable pub element_lines : ℕ → List ℕ → ℕ → Parsed (List Element)
element_lines zero s at = parsed [] at
element_lines (suc n) s at = then (element_line s at) (λ e a. then (element_lines n s a) (λ es b. parsed (e ∷ es) b))

-- ---- sections passed over

-- l, without its line feed, is the line of the one word w
abbrev pub is_line_of : List ℕ → List ℕ → Bool
is_line_of w l = same_word l w || same_word l (w ++ (carriage_return ∷ []))

-- to the end of the next line of the one word w; `rounds` bounds the number of lines
unfoldable pub closing_within : ℕ → List ℕ → List ℕ → ℕ → Parsed Unit
closing_within zero w s at = malformed
closing_within (suc rounds) w s at =
    let n : ℕ = run (λ b. not (is_line_feed b)) (drop at s) in
    cond (ltb (at + n) (length s))
    (cond (is_line_of w (part s at n)) (parsed tt (suc (at + n))) (closing_within rounds w s (suc (at + n))))
    malformed

-- .. however many there are
unfoldable pub closing_line : List ℕ → List ℕ → ℕ → Parsed Unit
closing_line w s at = closing_within (length s) w s at

-- the word opens a section to be passed over: `$` and a word other than MeshFormat, Nodes and Elements
abbrev pub opens_section : List ℕ → Bool
opens_section w =
    eqb (get_or w 0 0) 36
    && ltb 1 (length w)
    && not (same_word w (opening mesh_format_name) || same_word w (opening nodes_name) || same_word w (opening elements_name))

-- the sections and behind them the line `$Nodes`; `rounds` bounds the number of sections
unfoldable pub sections_within : ℕ → List ℕ → ℕ → Parsed Unit
sections_within zero s at = malformed
sections_within (suc rounds) s at =
    then (word_line s at) (λ w a.
    cond (same_word w (opening nodes_name)) (parsed tt a)
    (cond (opens_section w) (then (closing_line (ending (drop 1 w)) s a) (λ _ b. sections_within rounds s b)) malformed))

-- .. however many there are
unfoldable pub sections : List ℕ → ℕ → Parsed Unit
sections s at = sections_within (length s) s at

-- ---- the text

-- what stands before the nodes
unfoldable pub head_of : List ℕ → Parsed Unit
head_of s =
    then (title_line (opening mesh_format_name) s 0) (λ _ a. then (format_line s a) (λ _ b.
    then (title_line (ending mesh_format_name) s b) (λ _ c. sections s c)))

-- a count, that many nodes and the line `$EndNodes`
unfoldable pub nodes_of : List ℕ → ℕ → Parsed (List ℕ)
nodes_of s at =
    then (count_line s at) (λ n a. then (node_lines n s a) (λ nodes b. then (title_line (ending nodes_name) s b) (λ _ c. parsed nodes c)))

-- the line `$Elements`, a count, that many elements and the line `$EndElements`
unfoldable pub elements_of : List ℕ → ℕ → Parsed (List Element)
elements_of s at =
    then (title_line (opening elements_name) s at) (λ _ a. then (count_line s a) (λ n b. then (element_lines n s b) (λ elements c.
    then (title_line (ending elements_name) s c) (λ _ d. parsed elements d))))

-- the mesh that the text s tells: it ends with the last line
unfoldable pub mesh_of : List ℕ → Parsed Mesh
mesh_of s =
    then (head_of s) (λ _ a. then (nodes_of s a) (λ nodes b. then (elements_of s b) (λ elements c.
    cond (eqb c (length s)) (parsed (record { nodes = nodes; elements = elements }) c) malformed)))
