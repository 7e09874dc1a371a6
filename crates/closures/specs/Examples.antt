-- Closures that were worked out by hand.
--     closure-examples    the closure of the cells with each example's lists of vertices has the example's sections
--     repeats-examples    of the lists of the table those are told to repeat a vertex that do
use Rattle.std.specs.Prelude.{Bool, not, ◌&&◌, List, [], ◌∷◌, map, ℕ, T}
use Rattle.lists.specs.Tabulate.{tabulate}
use Rattle.lists.specs.Same.{every, same_list}
use Rattle.complexes.specs.Cell.{without, same, precedes}
use Rattle.complexes.specs.Complex.{Sections}
use Rattle.closures.specs.Insert.{insert, insert_all}
use Rattle.closures.specs.Closure.{cell_with, member, repeats, of_dimension, faces_of, closed_section, closure}

-- lists of vertices, and the sections of their cells and all the cells' nonempty subsets
pub record Example : Type 0 where
  pub top : ℕ
  pub lists : List (List ℕ)
  pub sections : Sections

abbrev pub examples : List Example
examples =
    -- a tetrahedron, its vertices out of order
    record {
      top = 3;
      lists = (3 ∷ 1 ∷ 2 ∷ 0 ∷ []) ∷ [];
      sections =
          ((0 ∷ []) ∷ (1 ∷ []) ∷ (2 ∷ []) ∷ (3 ∷ []) ∷ [])
          ∷ ((0 ∷ 1 ∷ []) ∷ (0 ∷ 2 ∷ []) ∷ (0 ∷ 3 ∷ []) ∷ (1 ∷ 2 ∷ []) ∷ (1 ∷ 3 ∷ []) ∷ (2 ∷ 3 ∷ []) ∷ [])
          ∷ ((0 ∷ 1 ∷ 2 ∷ []) ∷ (0 ∷ 1 ∷ 3 ∷ []) ∷ (0 ∷ 2 ∷ 3 ∷ []) ∷ (1 ∷ 2 ∷ 3 ∷ []) ∷ [])
          ∷ ((0 ∷ 1 ∷ 2 ∷ 3 ∷ []) ∷ [])
          ∷ [];
    }
    -- a triangle twice, an edge at one of its vertices, and a vertex by itself
    ∷ record {
      top = 3;
      lists = (7 ∷ 5 ∷ 2 ∷ []) ∷ (5 ∷ 9 ∷ []) ∷ (2 ∷ 7 ∷ 5 ∷ []) ∷ (1 ∷ []) ∷ [];
      sections =
          ((1 ∷ []) ∷ (2 ∷ []) ∷ (5 ∷ []) ∷ (7 ∷ []) ∷ (9 ∷ []) ∷ [])
          ∷ ((2 ∷ 5 ∷ []) ∷ (2 ∷ 7 ∷ []) ∷ (5 ∷ 7 ∷ []) ∷ (5 ∷ 9 ∷ []) ∷ [])
          ∷ ((2 ∷ 5 ∷ 7 ∷ []) ∷ [])
          ∷ []
          ∷ [];
    }
    -- two triangles with an edge in common, which is listed too
    ∷ record {
      top = 2;
      lists = (30 ∷ 20 ∷ []) ∷ (10 ∷ 20 ∷ 30 ∷ []) ∷ (40 ∷ 30 ∷ 20 ∷ []) ∷ [];
      sections =
          ((10 ∷ []) ∷ (20 ∷ []) ∷ (30 ∷ []) ∷ (40 ∷ []) ∷ [])
          ∷ ((10 ∷ 20 ∷ []) ∷ (10 ∷ 30 ∷ []) ∷ (20 ∷ 30 ∷ []) ∷ (20 ∷ 40 ∷ []) ∷ (30 ∷ 40 ∷ []) ∷ [])
          ∷ ((10 ∷ 20 ∷ 30 ∷ []) ∷ (20 ∷ 30 ∷ 40 ∷ []) ∷ [])
          ∷ [];
    }
    -- a vertex that stands twice counts once
    ∷ record { top = 1; lists = (8 ∷ 8 ∷ []) ∷ (6 ∷ 8 ∷ 6 ∷ []) ∷ []; sections = ((6 ∷ []) ∷ (8 ∷ []) ∷ []) ∷ ((6 ∷ 8 ∷ []) ∷ []) ∷ [] }
    -- nothing
    ∷ record { top = 3; lists = []; sections = [] ∷ [] ∷ [] ∷ [] ∷ [] }
    ∷ []

unfoldable pub good : Example → Bool
good e = same_list (same_list same) (closure e.top (map cell_with e.lists)) e.sections

pub closure-examples : T (every good examples)
unfolding every good same_list same closure closed_section faces_of of_dimension insert_all insert tabulate without precedes
closure-examples = tt

-- ---- repeated vertices

pub repeats-examples : T (repeats (4 ∷ 1 ∷ 4 ∷ []) && repeats (4 ∷ 1 ∷ 1 ∷ []) && not (repeats (4 ∷ 1 ∷ 3 ∷ [])) && not (repeats []))
unfolding repeats member
repeats-examples = tt
