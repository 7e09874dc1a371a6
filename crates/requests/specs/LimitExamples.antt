-- The limits as numbers, each at its two sides: document 01, "The sheet" and "The report and the coordinates"; document 02, Note 6.
--     limit-examples    48 and 49, 256 and 257 cells; entries to 1048575 and 1048576; coefficients to 32767 and 32768, and for a surface to 15 and 16,
--                       either way from zero
use Rattle.std.specs.Prelude.{Bool, not, List, [], ◌∷◌, ℕ, T, eqb, ℤ, pos, neg_ℤ}
use Rattle.lists.specs.Tabulate.{tabulate}
use Rattle.lists.specs.Same.{every}
use Rattle.trials.specs.Trial.{first_refusal}
use Rattle.complexes.specs.Cell.{without, same, rises, precedes, listed}
use Rattle.complexes.specs.Boundary.{count_below}
use Rattle.sheet_format.specs.Layout.{cell_bytes, section_bytes, sections_bytes, start, header_bytes, layout}
use Rattle.sheet_format.specs.Check.{count_field, offset_field, cell_of, cells_of, sections_of, some, count_exceeds, vertices_do_not_rise, cells_do_not_rise, face_missing, refusal}
use Rattle.sheet_format.specs.Starred.{edge_sheet}
use Rattle.reduction_steps.specs.Table.{row_largest, table_largest, table_within}
use Rattle.requests.specs.Question.{asked, cells}
use Rattle.requests.specs.Chains.{coefficient_exceeds, boundary_not_zero, chain_checks, cycles_checks, chains_checks}
use Rattle.requests.specs.Call.{Request, coordinates, lists, surface, request_checks}
use Rattle.limits.specs.Limits.{library_limit, host_limit, entry_limit, coefficient_limit, surface_coefficient_limit}

-- the sheet of n vertices
unfoldable pub vertices : ℕ → List ℕ
vertices n = layout (tabulate n (λ i. i ∷ []) ∷ [] ∷ [] ∷ [] ∷ [])

-- a header whose count of dimension 3 is given by its two bytes
abbrev header : ℕ → ℕ → List ℕ
header low high = 0 ∷ 0 ∷ 16 ∷ 0 ∷ 0 ∷ 0 ∷ 16 ∷ 0 ∷ 0 ∷ 0 ∷ 16 ∷ 0 ∷ low ∷ high ∷ 16 ∷ 0 ∷ []

-- a matrix of one entry is within the entry limit
abbrev entry_within : ℤ → Bool
entry_within x = table_within entry_limit ((x ∷ []) ∷ [])

-- the first of the checks 10 to 12 that a request on the vertices of an edge does not pass, 0 for none
abbrev told : Request → ℕ
told request = first_refusal (request_checks (asked edge_sheet 0) request)

-- a coefficient on one vertex and its opposite on the other
abbrev ends : ℕ → List ℤ
ends n = pos n ∷ neg_ℤ (pos n) ∷ []

-- what passes a check and what does not
abbrev pub tests : List Bool
tests =
    -- cells in the program and the host calls
    eqb (refusal host_limit (vertices 48)) 0
    ∷ eqb (refusal host_limit (vertices 49)) 2
    -- cells in the library: 0 + 256 × 1 and 1 + 256 × 1
    ∷ not (count_exceeds library_limit (header 0 1))
    ∷ count_exceeds library_limit (header 1 1)
    -- entries
    ∷ entry_within (pos 1048575)
    ∷ entry_within (neg_ℤ (pos 1048575))
    ∷ not (entry_within (pos 1048576))
    ∷ not (entry_within (neg_ℤ (pos 1048576)))
    -- coefficients
    ∷ not (coefficient_exceeds coefficient_limit (pos 32767 ∷ neg_ℤ (pos 32767) ∷ []))
    ∷ coefficient_exceeds coefficient_limit (pos 32768 ∷ [])
    ∷ coefficient_exceeds coefficient_limit (pos 0 ∷ neg_ℤ (pos 32768) ∷ [])
    -- coefficients of a chain whose surface is asked for
    ∷ not (coefficient_exceeds surface_coefficient_limit (pos 15 ∷ neg_ℤ (pos 15) ∷ []))
    ∷ coefficient_exceeds surface_coefficient_limit (pos 16 ∷ [])
    ∷ coefficient_exceeds surface_coefficient_limit (pos 0 ∷ neg_ℤ (pos 16) ∷ [])
    -- the surface has its own limit, and the coordinates have the other
    ∷ eqb (told (surface (ends 15))) 0
    ∷ eqb (told (surface (pos 16 ∷ pos 0 ∷ []))) 11
    ∷ eqb (told (surface (pos 0 ∷ neg_ℤ (pos 16) ∷ []))) 11
    ∷ eqb (told (coordinates (ends 16))) 0
    ∷ eqb (told (coordinates (ends 32768))) 11
    ∷ eqb (told (lists 1 (ends 16))) 0
    ∷ eqb (told (lists 1 (ends 32768))) 11
    ∷ []

pub limit-examples : T (every (λ x. x) tests)
unfolding every vertices tabulate layout header_bytes start sections_bytes section_bytes cell_bytes
    refusal count_field offset_field cell_of cells_of sections_of some vertices_do_not_rise cells_do_not_rise face_missing without same rises precedes listed
    table_within table_largest row_largest coefficient_exceeds boundary_not_zero chain_checks cycles_checks chains_checks cells count_below
limit-examples = tt
