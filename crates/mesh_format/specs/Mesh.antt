-- What a mesh text tells: document 02, Note 3.
use Rattle.std.specs.Prelude.{List, ℕ}

-- an element: its kind and its node numbers, in the order of its line
pub record Element : Type 0 where
  pub kind : ℕ
  pub nodes : List ℕ

-- the numbers of the nodes listed, and the elements, each in the order of the text
pub record Mesh : Type 0 where
  pub nodes : List ℕ
  pub elements : List Element
