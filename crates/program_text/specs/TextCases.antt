-- Sheets and what the program prints for them, byte for byte: document 01, "What the program prints".
use Rattle.std.specs.Prelude.{List, [], ◌∷◌, ℕ}
use Rattle.sheet_format.specs.Starred.{hollow_triangle, fifteen_bytes, edge_reversed, edge_without_vertex}
use Rattle.sheet_format.specs.OrderCases.{edge_and_node}

-- ---- the texts

abbrev hollow_triangle_text : List ℕ
hollow_triangle_text =
    -- H 0 1 0
    72 ∷ 32 ∷ 48 ∷ 32 ∷ 49 ∷ 32 ∷ 48 ∷ 10
    -- G 0 0 1
    ∷ 71 ∷ 32 ∷ 48 ∷ 32 ∷ 48 ∷ 32 ∷ 49 ∷ 10
    -- H 1 1 0
    ∷ 72 ∷ 32 ∷ 49 ∷ 32 ∷ 49 ∷ 32 ∷ 48 ∷ 10
    -- G 1 -1 1
    ∷ 71 ∷ 32 ∷ 49 ∷ 32 ∷ 45 ∷ 49 ∷ 32 ∷ 49 ∷ 10
    -- H 2 0 0
    ∷ 72 ∷ 32 ∷ 50 ∷ 32 ∷ 48 ∷ 32 ∷ 48 ∷ 10
    -- H 3 0 0
    ∷ 72 ∷ 32 ∷ 51 ∷ 32 ∷ 48 ∷ 32 ∷ 48 ∷ 10
    ∷ []

-- ---- the table

pub record TextCase : Type 0 where
  pub sheet : List ℕ
  pub text : List ℕ

abbrev pub text_cases : List TextCase
text_cases =
    record { sheet = hollow_triangle; text = hollow_triangle_text }
    -- R 1
    ∷ record { sheet = fifteen_bytes; text = 82 ∷ 32 ∷ 49 ∷ 10 ∷ [] }
    -- R 5
    ∷ record { sheet = edge_reversed; text = 82 ∷ 32 ∷ 53 ∷ 10 ∷ [] }
    -- R 7
    ∷ record { sheet = edge_without_vertex; text = 82 ∷ 32 ∷ 55 ∷ 10 ∷ [] }
    -- R 18
    ∷ record { sheet = edge_and_node; text = 82 ∷ 32 ∷ 49 ∷ 56 ∷ 10 ∷ [] }
    ∷ []
