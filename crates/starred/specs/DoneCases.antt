-- Calls that are done: the starred sheets of document 01, and the hollow triangle's dimensions as the program prints them.
use Rattle.std.specs.Prelude.{List, [], ◌∷◌, ℕ, pos}
use Rattle.sheet_format.specs.Starred.{no_cells, one_vertex, edge_sheet, hollow_triangle, filled_triangle}
use Rattle.sheet_format.specs.OrderCases.{two_vertices}
use Rattle.trials.specs.Trial.{done}
use Rattle.requests.specs.Call.{report, coordinates}
use Rattle.starred.specs.Case.{Case, counts, minus, nines, zeros}

-- ---- no cells: b = 0, t = 0 and no entries in every dimension

-- with the slots that check 9 asks for
abbrev exact : ℕ → Case
exact p = record {
  call = record { sheet = no_cells; dimension = p; request = report; output = nines 2; work = [] };
  expected = record { answer = done (counts 0 0 0 0); output = pos 0 ∷ pos 0 ∷ []; work = [] };
}

-- with three more
abbrev longer : ℕ → Case
longer p = record {
  call = record { sheet = no_cells; dimension = p; request = report; output = nines 5; work = nines 3 };
  expected = record { answer = done (counts 0 0 0 0); output = pos 0 ∷ pos 0 ∷ nines 3; work = zeros 3 };
}

-- the empty chain
abbrev empty_chain : ℕ → Case
empty_chain p = record {
  call = record { sheet = no_cells; dimension = p; request = coordinates []; output = nines 3; work = nines 3 };
  expected = record { answer = done (counts 0 0 0 0); output = nines 3; work = zeros 3 };
}

abbrev pub no_cells_cases : List Case
no_cells_cases =
    exact 0 ∷ exact 1 ∷ exact 2 ∷ exact 3
    ∷ longer 0 ∷ longer 1 ∷ longer 2 ∷ longer 3
    ∷ empty_chain 0 ∷ empty_chain 1 ∷ empty_chain 2 ∷ empty_chain 3
    ∷ []

-- ---- the other starred sheets: where there are cells, every entry is 0, 1 or -1 throughout

abbrev pub report_cases : List Case
report_cases =
    -- one vertex, dimension 0
    record {
      call = record { sheet = one_vertex; dimension = 0; request = report; output = nines 4; work = nines 2 };
      expected = record { answer = done (counts 1 0 1 1); output = pos 1 ∷ pos 0 ∷ pos 1 ∷ nines 1; work = zeros 2 };
    }
    -- two vertices and no edge, dimension 0
    ∷ record {
      call = record { sheet = two_vertices; dimension = 0; request = report; output = nines 8; work = nines 8 };
      expected = record { answer = done (counts 2 0 1 1); output = pos 2 ∷ pos 0 ∷ pos 1 ∷ pos 0 ∷ pos 0 ∷ pos 1 ∷ nines 2; work = zeros 8 };
    }
    -- the edge 01, dimension 0
    ∷ record {
      call = record { sheet = edge_sheet; dimension = 0; request = report; output = nines 8; work = nines 10 };
      expected = record { answer = done (counts 1 0 1 1); output = pos 1 ∷ pos 0 ∷ pos 0 ∷ pos 1 ∷ nines 4; work = zeros 10 };
    }
    -- the filled triangle, dimension 1
    ∷ record {
      call = record { sheet = filled_triangle; dimension = 1; request = report; output = nines 14; work = nines 27 };
      expected = record { answer = done (counts 0 0 1 1); output = pos 0 ∷ pos 0 ∷ nines 12; work = zeros 27 };
    }
    -- the hollow triangle: H 0 1 0 and G 0 0 1
    ∷ record {
      call = record { sheet = hollow_triangle; dimension = 0; request = report; output = nines 14; work = nines 27 };
      expected = record { answer = done (counts 1 0 1 1); output = pos 1 ∷ pos 0 ∷ pos 0 ∷ pos 0 ∷ pos 1 ∷ nines 9; work = zeros 27 };
    }
    -- H 1 1 0 and G 1 -1 1
    ∷ record {
      call = record { sheet = hollow_triangle; dimension = 1; request = report; output = nines 14; work = nines 27 };
      expected = record { answer = done (counts 1 0 1 1); output = pos 1 ∷ pos 0 ∷ pos 1 ∷ minus 1 ∷ pos 1 ∷ nines 9; work = zeros 27 };
    }
    -- H 2 0 0
    ∷ record {
      call = record { sheet = hollow_triangle; dimension = 2; request = report; output = nines 2; work = [] };
      expected = record { answer = done (counts 0 0 0 0); output = pos 0 ∷ pos 0 ∷ []; work = [] };
    }
    -- H 3 0 0
    ∷ record {
      call = record { sheet = hollow_triangle; dimension = 3; request = report; output = nines 2; work = [] };
      expected = record { answer = done (counts 0 0 0 0); output = pos 0 ∷ pos 0 ∷ []; work = [] };
    }
    ∷ []

abbrev pub coordinate_cases : List Case
coordinate_cases =
    -- the edge 01, dimension 0
    record {
      call = record { sheet = edge_sheet; dimension = 0; request = coordinates (pos 4 ∷ pos 3 ∷ []); output = nines 2; work = nines 10 };
      expected = record { answer = done (counts 1 0 1 1); output = pos 7 ∷ nines 1; work = zeros 10 };
    }
    -- coefficients at their limit
    ∷ record {
      call = record { sheet = edge_sheet; dimension = 0; request = coordinates (pos 32767 ∷ minus 32767 ∷ []); output = nines 2; work = nines 10 };
      expected = record { answer = done (counts 1 0 1 1); output = pos 0 ∷ nines 1; work = zeros 10 };
    }
    -- the hollow triangle, dimension 1
    ∷ record {
      call = record { sheet = hollow_triangle; dimension = 1; request = coordinates (minus 1 ∷ pos 1 ∷ minus 1 ∷ []); output = nines 3; work = nines 27 };
      expected = record { answer = done (counts 1 0 1 1); output = minus 1 ∷ nines 2; work = zeros 27 };
    }
    -- the filled triangle, dimension 1: the empty list
    ∷ record {
      call = record { sheet = filled_triangle; dimension = 1; request = coordinates (pos 1 ∷ minus 1 ∷ pos 1 ∷ []); output = nines 3; work = nines 27 };
      expected = record { answer = done (counts 0 0 1 1); output = nines 3; work = zeros 27 };
    }
    ∷ []
