-- Calls that are refused: the starred ones of document 01, 18, and 9 to 11. Where two refusals apply to a call, the earlier is told.
use Rattle.std.specs.Prelude.{List, [], ◌∷◌, pos}
use Rattle.sheet_format.specs.Starred.{edge_sheet, hollow_triangle, fifteen_bytes, edge_without_vertex, edge_reversed}
use Rattle.sheet_format.specs.OrderCases.{face_and_loose_node, edge_and_node}
use Rattle.requests.specs.Call.{report, coordinates, lists, surface}
use Rattle.starred.specs.Case.{Case, minus, nines, refuses}

abbrev pub sheet_cases : List Case
sheet_cases =
    -- 15 bytes
    refuses 1 (record { sheet = fifteen_bytes; dimension = 0; request = report; output = nines 8; work = nines 10 })
    ∷ refuses 1 (record { sheet = fifteen_bytes; dimension = 0; request = coordinates (pos 4 ∷ pos 3 ∷ []); output = nines 2; work = nines 10 })
    -- the edge written 1, 0
    ∷ refuses 5 (record { sheet = edge_reversed; dimension = 0; request = report; output = nines 8; work = nines 10 })
    ∷ refuses 5 (record { sheet = edge_reversed; dimension = 0; request = coordinates (pos 4 ∷ pos 3 ∷ []); output = nines 2; work = nines 10 })
    -- the edge without vertex 1; also with dimension 4, and with slices and a chain that are too short
    ∷ refuses 7 (record { sheet = edge_without_vertex; dimension = 0; request = report; output = nines 8; work = nines 10 })
    ∷ refuses 7 (record { sheet = edge_without_vertex; dimension = 0; request = coordinates (pos 4 ∷ []); output = nines 2; work = nines 10 })
    ∷ refuses 7 (record { sheet = edge_without_vertex; dimension = 4; request = report; output = nines 8; work = nines 10 })
    ∷ refuses 7 (record { sheet = edge_without_vertex; dimension = 0; request = coordinates []; output = []; work = nines 1 })
    ∷ []

abbrev pub loose_cases : List Case
loose_cases =
    -- an edge and a loose node, also with dimension 4
    refuses 18 (record { sheet = edge_and_node; dimension = 0; request = report; output = nines 14; work = nines 21 })
    ∷ refuses 18 (record { sheet = edge_and_node; dimension = 4; request = report; output = nines 14; work = nines 21 })
    ∷ refuses 18 (record { sheet = edge_and_node; dimension = 0; request = coordinates (pos 4 ∷ pos 3 ∷ pos 2 ∷ []); output = nines 3; work = nines 21 })
    ∷ refuses 18 (record { sheet = edge_and_node; dimension = 0; request = lists 0 []; output = []; work = nines 21 })
    ∷ refuses 18 (record { sheet = edge_and_node; dimension = 0; request = surface (minus 1 ∷ pos 0 ∷ pos 1 ∷ []); output = nines 1; work = nines 22 })
    -- a missing face and a loose node, with dimension 4
    ∷ refuses 7 (record { sheet = face_and_loose_node; dimension = 4; request = report; output = nines 8; work = nines 10 })
    ∷ []

abbrev pub dimension_cases : List Case
dimension_cases =
    -- dimension 4; also with a report slice that is too short, and with a chain that is too long and has a coefficient beyond the limit
    refuses 8 (record { sheet = hollow_triangle; dimension = 4; request = report; output = nines 14; work = nines 27 })
    ∷ refuses 8 (record { sheet = hollow_triangle; dimension = 4; request = coordinates (minus 1 ∷ pos 1 ∷ minus 1 ∷ []); output = nines 3; work = nines 27 })
    ∷ refuses 8 (record { sheet = hollow_triangle; dimension = 4; request = report; output = nines 1; work = nines 27 })
    ∷ refuses 8 (record { sheet = hollow_triangle; dimension = 4; request = coordinates (pos 32768 ∷ []); output = nines 3; work = nines 27 })
    ∷ []

abbrev pub slice_cases : List Case
slice_cases =
    -- a slot too few in the report slice, in the coordinate slice, in the work slice
    refuses 9 (record { sheet = edge_sheet; dimension = 0; request = report; output = nines 7; work = nines 10 })
    ∷ refuses 9 (record { sheet = edge_sheet; dimension = 0; request = coordinates (pos 4 ∷ pos 3 ∷ []); output = nines 1; work = nines 10 })
    ∷ refuses 9 (record { sheet = edge_sheet; dimension = 0; request = report; output = nines 8; work = nines 9 })
    ∷ refuses 9 (record { sheet = edge_sheet; dimension = 0; request = coordinates (pos 4 ∷ pos 3 ∷ []); output = nines 2; work = nines 9 })
    -- in the work slice where there are more cells of the dimension below than of the one above
    ∷ refuses 9 (record { sheet = hollow_triangle; dimension = 1; request = report; output = nines 14; work = nines 26 })
    -- also with a chain that is too short
    ∷ refuses 9 (record { sheet = edge_sheet; dimension = 0; request = coordinates (pos 4 ∷ []); output = nines 1; work = nines 10 })
    ∷ []

abbrev pub chain_cases : List Case
chain_cases =
    -- a coefficient too few, and one too many; also with a coefficient beyond the limit
    refuses 10 (record { sheet = edge_sheet; dimension = 0; request = coordinates (pos 4 ∷ []); output = nines 2; work = nines 10 })
    ∷ refuses 10 (record { sheet = edge_sheet; dimension = 0; request = coordinates (pos 4 ∷ pos 3 ∷ pos 0 ∷ []); output = nines 2; work = nines 10 })
    ∷ refuses 10 (record { sheet = edge_sheet; dimension = 0; request = coordinates (pos 32768 ∷ []); output = nines 2; work = nines 10 })
    -- a coefficient beyond the limit either way; also with a nonzero boundary
    ∷ refuses 11 (record { sheet = edge_sheet; dimension = 0; request = coordinates (pos 4 ∷ pos 32768 ∷ []); output = nines 2; work = nines 10 })
    ∷ refuses 11 (record { sheet = edge_sheet; dimension = 0; request = coordinates (minus 32768 ∷ pos 3 ∷ []); output = nines 2; work = nines 10 })
    ∷ refuses 11 (record { sheet = hollow_triangle; dimension = 1; request = coordinates (pos 32768 ∷ pos 0 ∷ pos 0 ∷ []); output = nines 3; work = nines 27 })
    -- a nonzero boundary
    ∷ refuses 12 (record { sheet = hollow_triangle; dimension = 1; request = coordinates (pos 1 ∷ pos 0 ∷ pos 0 ∷ []); output = nines 3; work = nines 27 })
    ∷ []
