-- Calls for the surface that a chain bounds: document 02, Note 6.
use Rattle.std.specs.Prelude.{List, [], ◌∷◌, ℕ, ℤ, pos}
use Rattle.sheet_format.specs.Starred.{no_cells, one_vertex, edge_sheet, hollow_triangle, filled_triangle, fifteen_bytes, edge_without_vertex, edge_reversed}
use Rattle.trials.specs.Trial.{done, refused}
use Rattle.requests.specs.Call.{coordinates, surface}
use Rattle.starred.specs.Case.{Case, Call, counts, minus, nines, zeros, refuses}

-- chains of a triangle's edges: its rim, multiples of it at the limit and beyond, and chains with a nonzero boundary
abbrev rim : List ℤ
rim = pos 1 ∷ minus 1 ∷ pos 1 ∷ []

abbrev fifteen : List ℤ
fifteen = pos 15 ∷ minus 15 ∷ pos 15 ∷ []

abbrev minus-fifteen : List ℤ
minus-fifteen = minus 15 ∷ pos 15 ∷ minus 15 ∷ []

abbrev sixteen : List ℤ
sixteen = pos 16 ∷ minus 16 ∷ pos 16 ∷ []

abbrev minus-sixteen : List ℤ
minus-sixteen = minus 16 ∷ pos 16 ∷ minus 16 ∷ []

abbrev open-chain : List ℤ
open-chain = pos 1 ∷ pos 0 ∷ pos 0 ∷ []

abbrev wide-chain : List ℤ
wide-chain = pos 0 ∷ pos 0 ∷ minus 16 ∷ []

-- one tetrahedron with all its faces
abbrev tetrahedron : List ℕ
tetrahedron =
    4 ∷ 0 ∷ 16 ∷ 0 ∷ 6 ∷ 0 ∷ 24 ∷ 0 ∷ 4 ∷ 0 ∷ 48 ∷ 0 ∷ 1 ∷ 0 ∷ 72 ∷ 0 ∷
    0 ∷ 0 ∷ 1 ∷ 0 ∷ 2 ∷ 0 ∷ 3 ∷ 0 ∷
    0 ∷ 0 ∷ 1 ∷ 0 ∷ 0 ∷ 0 ∷ 2 ∷ 0 ∷ 0 ∷ 0 ∷ 3 ∷ 0 ∷ 1 ∷ 0 ∷ 2 ∷ 0 ∷ 1 ∷ 0 ∷ 3 ∷ 0 ∷ 2 ∷ 0 ∷ 3 ∷ 0 ∷
    0 ∷ 0 ∷ 1 ∷ 0 ∷ 2 ∷ 0 ∷ 0 ∷ 0 ∷ 1 ∷ 0 ∷ 3 ∷ 0 ∷ 0 ∷ 0 ∷ 2 ∷ 0 ∷ 3 ∷ 0 ∷ 1 ∷ 0 ∷ 2 ∷ 0 ∷ 3 ∷ 0 ∷
    0 ∷ 0 ∷ 1 ∷ 0 ∷ 2 ∷ 0 ∷ 3 ∷ 0 ∷ []

-- ---- done: the boundary of the triangle 012 is (1, -1, 1), that of the edge 01 is (-1, 1)

-- no cells: the empty chain bounds
abbrev empty : ℕ → Case
empty p = record {
  call = record { sheet = no_cells; dimension = p; request = surface []; output = nines 2; work = nines 3 };
  expected = record { answer = done (counts 0 0 0 0); output = nines 2; work = zeros 3 };
}

abbrev pub surface_done_cases : List Case
surface_done_cases =
    -- the filled triangle, dimension 1, with longer slices
    record {
      call = record { sheet = filled_triangle; dimension = 1; request = surface rim; output = nines 3; work = nines 30 };
      expected = record { answer = done (counts 0 0 1 1); output = pos 1 ∷ nines 2; work = zeros 30 };
    }
    -- coefficients at their limit, either way, with the slots that check 9 asks for
    ∷ record {
      call = record { sheet = filled_triangle; dimension = 1; request = surface fifteen; output = nines 1; work = nines 28 };
      expected = record { answer = done (counts 0 0 1 1); output = pos 15 ∷ []; work = zeros 28 };
    }
    ∷ record {
      call = record { sheet = filled_triangle; dimension = 1; request = surface minus-fifteen; output = nines 1; work = nines 28 };
      expected = record { answer = done (counts 0 0 1 1); output = minus 15 ∷ []; work = zeros 28 };
    }
    -- the coordinate call takes these, and more: the empty list
    ∷ record {
      call = record { sheet = filled_triangle; dimension = 1; request = coordinates fifteen; output = nines 3; work = nines 27 };
      expected = record { answer = done (counts 0 0 1 1); output = nines 3; work = zeros 27 };
    }
    ∷ record {
      call = record { sheet = filled_triangle; dimension = 1; request = coordinates sixteen; output = nines 3; work = nines 27 };
      expected = record { answer = done (counts 0 0 1 1); output = nines 3; work = zeros 27 };
    }
    -- the edge 01, dimension 0, either way
    ∷ record {
      call = record { sheet = edge_sheet; dimension = 0; request = surface (minus 1 ∷ pos 1 ∷ []); output = nines 2; work = nines 11 };
      expected = record { answer = done (counts 1 0 1 1); output = pos 1 ∷ nines 1; work = zeros 11 };
    }
    ∷ record {
      call = record { sheet = edge_sheet; dimension = 0; request = surface (pos 7 ∷ minus 7 ∷ []); output = nines 1; work = nines 12 };
      expected = record { answer = done (counts 1 0 1 1); output = minus 7 ∷ []; work = zeros 12 };
    }
    -- the chain of zeros, where there is no triangle: the empty list
    ∷ record {
      call = record { sheet = hollow_triangle; dimension = 1; request = surface (zeros 3); output = nines 2; work = nines 27 };
      expected = record { answer = done (counts 1 0 1 1); output = nines 2; work = zeros 27 };
    }
    ∷ record {
      call = record { sheet = hollow_triangle; dimension = 1; request = surface (zeros 3); output = []; work = nines 27 };
      expected = record { answer = done (counts 1 0 1 1); output = []; work = zeros 27 };
    }
    -- where there is no cell of the dimension: no tetrahedra
    ∷ record {
      call = record { sheet = filled_triangle; dimension = 3; request = surface []; output = nines 2; work = nines 3 };
      expected = record { answer = done (counts 0 0 0 0); output = nines 2; work = zeros 3 };
    }
    -- the rim of a tetrahedron, and in dimension 3 the chain of zeros
    ∷ record {
      call = record { sheet = tetrahedron; dimension = 2; request = surface (minus 1 ∷ pos 1 ∷ minus 1 ∷ pos 1 ∷ []); output = nines 2; work = nines 57 };
      expected = record { answer = done (counts 0 0 1 1); output = pos 1 ∷ nines 1; work = zeros 57 };
    }
    ∷ record {
      call = record { sheet = tetrahedron; dimension = 3; request = surface (zeros 1); output = nines 2; work = nines 6 };
      expected = record { answer = done (counts 0 0 1 1); output = nines 2; work = zeros 6 };
    }
    ∷ empty 0 ∷ empty 1 ∷ empty 2 ∷ empty 3
    ∷ []

-- ---- 17: the cycle bounds no chain. The output stays, and the work slice reads 0

abbrev bounds-nothing : Call → ℕ → Case
bounds-nothing c slots = record { call = c; expected = record { answer = refused 17; output = c.output; work = zeros slots } }

abbrev pub bounds_nothing_cases : List Case
bounds_nothing_cases =
    -- the hollow triangle's loop, at the limit too
    bounds-nothing (record { sheet = hollow_triangle; dimension = 1; request = surface rim; output = nines 2; work = nines 28 }) 28
    ∷ bounds-nothing (record { sheet = hollow_triangle; dimension = 1; request = surface minus-fifteen; output = []; work = nines 27 }) 27
    -- one end of the edge 01, and both with the same sign
    ∷ bounds-nothing (record { sheet = edge_sheet; dimension = 0; request = surface (pos 1 ∷ pos 0 ∷ []); output = nines 2; work = nines 11 }) 11
    ∷ bounds-nothing (record { sheet = edge_sheet; dimension = 0; request = surface (pos 1 ∷ pos 1 ∷ []); output = nines 2; work = nines 11 }) 11
    -- one vertex
    ∷ bounds-nothing (record { sheet = one_vertex; dimension = 0; request = surface (minus 1 ∷ []); output = nines 1; work = nines 2 }) 2
    ∷ []

-- ---- refused before the reductions: the slices stay. Where two refusals apply, the earlier is told

abbrev pub surface_refused_cases : List Case
surface_refused_cases =
    -- the sheet
    refuses 1 (record { sheet = fifteen_bytes; dimension = 0; request = surface (minus 1 ∷ pos 1 ∷ []); output = nines 1; work = nines 11 })
    ∷ refuses 5 (record { sheet = edge_reversed; dimension = 0; request = surface (minus 1 ∷ pos 1 ∷ []); output = nines 1; work = nines 11 })
    ∷ refuses 7 (record { sheet = edge_without_vertex; dimension = 0; request = surface (pos 1 ∷ []); output = nines 1; work = nines 11 })
    -- the dimension; also with slices that are too short
    ∷ refuses 8 (record { sheet = filled_triangle; dimension = 4; request = surface rim; output = nines 1; work = nines 28 })
    ∷ refuses 8 (record { sheet = filled_triangle; dimension = 4; request = surface rim; output = []; work = nines 27 })
    -- a slot too few for the answer, and for the work; also with a chain that is too short
    ∷ refuses 9 (record { sheet = filled_triangle; dimension = 1; request = surface rim; output = []; work = nines 28 })
    ∷ refuses 9 (record { sheet = filled_triangle; dimension = 1; request = surface rim; output = nines 1; work = nines 27 })
    ∷ refuses 9 (record { sheet = edge_sheet; dimension = 0; request = surface (pos 1 ∷ []); output = nines 2; work = nines 10 })
    -- a coefficient too few, and one too many; also with a coefficient beyond the limit
    ∷ refuses 10 (record { sheet = filled_triangle; dimension = 1; request = surface (pos 1 ∷ minus 1 ∷ []); output = nines 1; work = nines 28 })
    ∷ refuses 10 (record { sheet = filled_triangle; dimension = 1; request = surface (pos 1 ∷ minus 1 ∷ pos 1 ∷ pos 0 ∷ []); output = nines 1; work = nines 28 })
    ∷ refuses 10 (record { sheet = filled_triangle; dimension = 1; request = surface (pos 16 ∷ []); output = nines 1; work = nines 28 })
    -- a coefficient beyond the limit either way; also with a nonzero boundary
    ∷ refuses 11 (record { sheet = filled_triangle; dimension = 1; request = surface sixteen; output = nines 1; work = nines 28 })
    ∷ refuses 11 (record { sheet = filled_triangle; dimension = 1; request = surface minus-sixteen; output = nines 1; work = nines 28 })
    ∷ refuses 11 (record { sheet = filled_triangle; dimension = 1; request = surface wide-chain; output = nines 1; work = nines 28 })
    -- a nonzero boundary
    ∷ refuses 12 (record { sheet = filled_triangle; dimension = 1; request = surface open-chain; output = nines 1; work = nines 28 })
    ∷ refuses 12 (record { sheet = hollow_triangle; dimension = 1; request = surface open-chain; output = nines 2; work = nines 27 })
    ∷ refuses 12 (record { sheet = tetrahedron; dimension = 3; request = surface (pos 1 ∷ []); output = nines 2; work = nines 6 })
    ∷ []
