-- Calls on a number of chains: document 02, Note 1.
use Rattle.std.specs.Prelude.{List, [], ◌∷◌, ◌++◌, ℤ, pos}
use Rattle.sheet_format.specs.Starred.{edge_sheet, hollow_triangle, filled_triangle, edge_without_vertex}
use Rattle.trials.specs.Trial.{done}
use Rattle.requests.specs.Call.{lists}
use Rattle.starred.specs.Case.{Case, counts, minus, nines, zeros, refuses}

-- chains of the hollow triangle's edges: two cycles, one with a nonzero boundary, one with a coefficient beyond the limit
abbrev backwards : List ℤ
backwards = minus 1 ∷ pos 1 ∷ minus 1 ∷ []

abbrev twice : List ℤ
twice = pos 2 ∷ minus 2 ∷ pos 2 ∷ []

abbrev open-chain : List ℤ
open-chain = pos 1 ∷ pos 0 ∷ pos 0 ∷ []

abbrev wide-chain : List ℤ
wide-chain = pos 32768 ∷ pos 0 ∷ pos 0 ∷ []

abbrev pub list_cases : List Case
list_cases =
    -- two chains: their lists stand three slots apart, and the slots between and past them are untouched
    record {
      call = record { sheet = hollow_triangle; dimension = 1; request = lists 2 (backwards ++ twice); output = nines 8; work = nines 27 };
      expected = record { answer = done (counts 1 0 1 1); output = minus 1 ∷ pos 9 ∷ pos 9 ∷ pos 2 ∷ nines 4; work = zeros 27 };
    }
    -- two vertices to a chain
    ∷ record {
      call = record { sheet = edge_sheet; dimension = 0; request = lists 3 (pos 4 ∷ pos 3 ∷ pos 0 ∷ pos 0 ∷ minus 1 ∷ pos 0 ∷ []); output = nines 6; work = nines 10 };
      expected = record { answer = done (counts 1 0 1 1); output = pos 7 ∷ pos 9 ∷ pos 0 ∷ pos 9 ∷ minus 1 ∷ pos 9 ∷ []; work = zeros 10 };
    }
    -- the filled triangle: two empty lists
    ∷ record {
      call = record { sheet = filled_triangle; dimension = 1; request = lists 2 (backwards ++ twice); output = nines 6; work = nines 27 };
      expected = record { answer = done (counts 0 0 1 1); output = nines 6; work = zeros 27 };
    }
    -- no chains: done, with the counts
    ∷ record {
      call = record { sheet = hollow_triangle; dimension = 1; request = lists 0 []; output = nines 2; work = nines 27 };
      expected = record { answer = done (counts 1 0 1 1); output = nines 2; work = zeros 27 };
    }
    -- no cells: any number of chains, with no coefficients
    ∷ record {
      call = record { sheet = hollow_triangle; dimension = 2; request = lists 9 []; output = nines 2; work = nines 3 };
      expected = record { answer = done (counts 0 0 0 0); output = nines 2; work = zeros 3 };
    }
    ∷ refuses 10 (record { sheet = hollow_triangle; dimension = 2; request = lists 9 (pos 1 ∷ []); output = nines 2; work = nines 3 })
    -- no chains, and still 7 to 10
    ∷ refuses 7 (record { sheet = edge_without_vertex; dimension = 0; request = lists 0 []; output = []; work = nines 10 })
    ∷ refuses 8 (record { sheet = hollow_triangle; dimension = 4; request = lists 0 []; output = []; work = nines 27 })
    ∷ refuses 9 (record { sheet = hollow_triangle; dimension = 1; request = lists 0 []; output = []; work = nines 26 })
    ∷ refuses 10 (record { sheet = hollow_triangle; dimension = 1; request = lists 0 (pos 0 ∷ []); output = []; work = nines 27 })
    -- a slot too few for the last list
    ∷ refuses 9 (record { sheet = hollow_triangle; dimension = 1; request = lists 2 (backwards ++ twice); output = nines 5; work = nines 27 })
    -- as many chains as 64 bits can count, and a number whose product with 3 is 2 in 64 bits
    ∷ refuses 9 (record { sheet = hollow_triangle; dimension = 1; request = lists 18446744073709551615 []; output = nines 6; work = nines 27 })
    ∷ refuses 9 (record { sheet = hollow_triangle; dimension = 1; request = lists 6148914691236517206 (pos 0 ∷ pos 0 ∷ []); output = nines 2; work = nines 27 })
    -- a chain too few, and one too many
    ∷ refuses 10 (record { sheet = hollow_triangle; dimension = 1; request = lists 2 backwards; output = nines 6; work = nines 27 })
    ∷ refuses 10 (record { sheet = hollow_triangle; dimension = 1; request = lists 1 (backwards ++ twice); output = nines 6; work = nines 27 })
    -- the first faulty chain decides
    ∷ refuses 12 (record { sheet = hollow_triangle; dimension = 1; request = lists 2 (open-chain ++ wide-chain); output = nines 6; work = nines 27 })
    ∷ refuses 11 (record { sheet = hollow_triangle; dimension = 1; request = lists 2 (wide-chain ++ open-chain); output = nines 6; work = nines 27 })
    ∷ refuses 12 (record { sheet = hollow_triangle; dimension = 1; request = lists 2 (twice ++ open-chain); output = nines 6; work = nines 27 })
    ∷ []
