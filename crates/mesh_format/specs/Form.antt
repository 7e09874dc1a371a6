-- The form of a mesh text: document 02, Note 3, sentence by sentence. A text is of the form when it is the text of such a sequence of lines for some mesh.
--     MeshText m t    t is of the form, and tells the mesh m
use Rattle.std.specs.Prelude.{◌≡◌, true, not, ◌≢◌, List, [], ◌∷◌, ◌++◌, ℕ, ◌≤◌, ◌<◌, length}
use Rattle.lists.specs.Same.{every}
use Rattle.complexes.specs.Complex.{vertex_bound}
use Rattle.mesh_format.specs.Mesh.{Element, Mesh}
use Rattle.mesh_format.specs.Words.{line_feed, carriage_return, is_space, is_line_feed, in_word, is_digit, value_from, most_digits, version_word, zero_word, mesh_format_name, nodes_name, elements_name, opening, ending}

-- ---- lists

-- every element of the list has the property
pub data All {A : Type 0} (P : A → Type 0) : List A → Type 0 where
  all_none : All P []
  all_more : {x : A} {l : List A} → P x → All P l → All P (x ∷ l)

-- the lists have as many elements, and those at one place are related
pub data Each {A B : Type 0} (R : A → B → Type 0) : List A → List B → Type 0 where
  each_none : Each R [] []
  each_more : {x : A} {y : B} {l : List A} {k : List B} → R x y → Each R l k → Each R (x ∷ l) (y ∷ k)

-- the lists, one after another
unfoldable pub joined : List (List ℕ) → List ℕ
joined [] = []
joined (t ∷ l) = t ++ joined l

-- ---- words, lines and numbers

-- "A word is not empty and has no space, carriage return or line feed"
pub record IsWord (w : List ℕ) : Type 0 where
  pub some : 0 < length w
  pub plain : every in_word w ≡ true

-- "One or more spaces part words"
pub record IsGap (g : List ℕ) : Type 0 where
  pub some : 0 < length g
  pub spaces : every is_space g ≡ true

-- "a line feed, with or without a carriage return, ends every line"
pub data IsLineEnd : List ℕ → Type 0 where
  feed : IsLineEnd (line_feed ∷ [])
  return-feed : IsLineEnd (carriage_return ∷ line_feed ∷ [])

-- t is the text of a line of these words: "One or more spaces part words and stand nowhere else"
pub data LineText : List (List ℕ) → List ℕ → Type 0 where
  last_word : {w e : List ℕ} → IsWord w → IsLineEnd e → LineText (w ∷ []) (w ++ e)
  more-words : {w g t : List ℕ} {ws : List (List ℕ)} → IsWord w → IsGap g → LineText ws t → LineText (w ∷ ws) (w ++ (g ++ t))

-- t is the text of these lines, one after another
pub data LinesText : List (List (List ℕ)) → List ℕ → Type 0 where
  no_lines : LinesText [] []
  more-lines : {ws : List (List ℕ)} {t u : List ℕ} {l : List (List (List ℕ))} → LineText ws t → LinesText l u → LinesText (ws ∷ l) (t ++ u)

-- the word w is the number v: "Numbers have one to nine decimal digits"
pub record IsNumber (v : ℕ) (w : List ℕ) : Type 0 where
  pub some : 0 < length w
  pub short : length w ≤ most_digits
  pub digits : every is_digit w ≡ true
  pub value : value_from 0 w ≡ v

-- .. and a node number: "14, .. or a node number exceeds 65535"
pub record IsNode (v : ℕ) (w : List ℕ) : Type 0 where
  pub number : IsNumber v w
  pub below : v < vertex_bound

-- ---- the lines of nodes and elements

-- "lines of a node number and three words"
pub data NodeLine : ℕ → List (List ℕ) → Type 0 where
  node-line : {v : ℕ} {n x y z : List ℕ} → IsNode v n → NodeLine v (n ∷ x ∷ y ∷ z ∷ [])

-- "An element line has its number, kind, tag count, that many tags as plain words, and any number of node numbers"
pub data ElementLine : Element → List (List ℕ) → Type 0 where
  element-line : {i : ℕ} {e : Element} {n k t : List ℕ} (tags : List (List ℕ)) {nodes : List (List ℕ)}
      → IsNumber i n → IsNumber e.kind k → IsNumber (length tags) t → Each IsNode e.nodes nodes
      → ElementLine e (n ∷ k ∷ t ∷ (tags ++ nodes))

-- ---- sections passed over

-- l, a line without its line feed, is not the one that closes the section
pub record IsBetween (name l : List ℕ) : Type 0 where
  pub no-feed : every (λ b. not (is_line_feed b)) l ≡ true
  pub not-closing : LineText (ending name ∷ []) (l ++ (line_feed ∷ [])) → ⊥

-- the lines, each with its line feed
unfoldable pub fed : List (List ℕ) → List ℕ
fed [] = []
fed (l ∷ ls) = (l ++ (line_feed ∷ [])) ++ fed ls

-- "sections opened by `$` and one word otherwise than these three, each closed by the next line of `$End` and that word, are passed over, whatever
-- stands between"
pub record SectionText (t : List ℕ) : Type 0 where
  pub name : List ℕ
  pub is_word : IsWord name
  pub no-format : name ≢ mesh_format_name
  pub no-nodes : name ≢ nodes_name
  pub no-elements : name ≢ elements_name
  pub first : List ℕ
  pub opens : LineText (opening name ∷ []) first
  pub between : List (List ℕ)
  pub passed : All (IsBetween name) between
  pub last : List ℕ
  pub closes : LineText (ending name ∷ []) last
  pub text : t ≡ first ++ (fed between ++ last)

-- ---- the text

-- the lines up to the sections passed over; v is the number in the second
abbrev pub head_lines : List ℕ → List (List (List ℕ))
head_lines v = (opening mesh_format_name ∷ []) ∷ (version_word ∷ zero_word ∷ v ∷ []) ∷ (ending mesh_format_name ∷ []) ∷ []

-- the lines after them, with the counts n and e and the lines of the nodes and of the elements
abbrev pub body_lines : List ℕ → List (List (List ℕ)) → List ℕ → List (List (List ℕ)) → List (List (List ℕ))
body_lines n nodes e elements =
    (opening nodes_name ∷ []) ∷ (n ∷ []) ∷ (nodes ++
    ((ending nodes_name ∷ []) ∷ (opening elements_name ∷ []) ∷ (e ∷ []) ∷ (elements ++ ((ending elements_name ∷ []) ∷ []))))

-- "The lines are .."; "the text ends with the last line"
pub record MeshText (m : Mesh) (t : List ℕ) : Type 0 where
  pub version : ℕ
  pub version-word : List ℕ
  pub is-version : IsNumber version version-word
  pub head : List ℕ
  pub head-lines : LinesText (head_lines version-word) head
  pub sections : List (List ℕ)
  pub passed_over : All SectionText sections
  pub node-count : List ℕ
  pub counts-nodes : IsNumber (length m.nodes) node-count
  pub node_lines : List (List (List ℕ))
  pub are-nodes : Each NodeLine m.nodes node_lines
  pub element-count : List ℕ
  pub counts-elements : IsNumber (length m.elements) element-count
  pub element-lines : List (List (List ℕ))
  pub are-elements : Each ElementLine m.elements element-lines
  pub body : List ℕ
  pub body-lines : LinesText (body_lines node-count node_lines element-count element-lines) body
  pub text : t ≡ head ++ (joined sections ++ body)
