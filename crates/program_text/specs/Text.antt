-- What the program prints: document 01, "What the program prints". A text is a list of bytes.
use Rattle.std.specs.Prelude.{true, false, List, [], ◌∷◌, ◌++◌, map, ℕ, zero, suc, ◌+◌, ◌/◌, ◌%◌, ltb, take, drop, ℤ, pos, negsuc}
use Rattle.lists.specs.Tabulate.{tabulate}
use Rattle.sheet_format.specs.Layout.{top}
use Rattle.sheet_format.specs.Check.{refusal}
use Rattle.reduction_steps.specs.Table.{entry}
use Rattle.reduction_steps.specs.State.{State}
use Rattle.reports.specs.Reductions.{Reductions, no_transforms, too_wide, reduced}
use Rattle.reports.specs.Report.{kind, reported, free_rank, torsion_count}
use Rattle.requests.specs.Question.{asked, cell_count, two}
use Rattle.limits.specs.Limits.{host_limit}

-- the decimal digits of n, of which it has at most `most`
unfoldable pub digits : ℕ → ℕ → List ℕ
digits zero n = []
digits (suc most) n = elim (ltb n 10) [ true ↦ (48 + n) ∷ [] | false ↦ digits most (n / 10) ++ ((48 + n % 10) ∷ []) ]

-- a number in decimal, a negative one with `-` before it
unfoldable pub decimal : ℤ → List ℕ
decimal (pos n) = digits (suc n) n
decimal (negsuc n) = 45 ∷ digits (suc (suc n)) (suc n)

-- the fields of a line, each after one space
unfoldable pub spaced : List ℤ → List ℕ
spaced [] = []
spaced (x ∷ l) = (32 ∷ decimal x) ++ spaced l

-- a letter and numbers: one space parts the fields of a line and a line feed ends it
abbrev pub line : ℕ → List ℤ → List ℕ
line letter numbers = letter ∷ (spaced numbers ++ (10 ∷ []))

-- `R` and the number of a refusal
abbrev pub refusal_line : ℕ → List ℕ
refusal_line number = line 82 (pos number ∷ [])

-- `G` and the n coefficients of each of these columns of G, a line for each
unfoldable pub generator_lines : ℕ → State → List ℕ → List ℕ
generator_lines n x [] = []
generator_lines n x (i ∷ l) = line 71 (tabulate n (λ j. entry x.row_inverse i j)) ++ generator_lines n x l

-- dimension p with n cells: `H`, its number, b, t and the orders, then a line for each generator in the report's order; or `R 13`
unfoldable pub dimension_text : ℕ → ℕ → Reductions → List ℕ
dimension_text p n too_wide = refusal_line 13
dimension_text p n (reduced s r x) =
    line 72 (pos p ∷ pos (free_rank s r) ∷ pos (torsion_count r x) ∷ map (kind x) (reported (kind x) r)) ++ generator_lines n x (reported (kind x) s)

-- `more` dimensions from p on
unfoldable pub dimensions_text : List ℕ → ℕ → ℕ → List ℕ
dimensions_text b zero p = []
dimensions_text b (suc more) p = dimension_text p (cell_count (asked b p)) (two (asked b p) no_transforms) ++ dimensions_text b more (suc p)

-- a sheet refused by 1 to 7 or 18 gives the single line `R` and the number, any other a text for each dimension
unfoldable pub text_for : ℕ → List ℕ → List ℕ
text_for zero b = dimensions_text b (suc top) 0
text_for (suc n) b = refusal_line (suc n)

-- what the program prints for the sheet b
unfoldable pub program_text : List ℕ → List ℕ
program_text b = text_for (refusal host_limit b) b

-- ---- the same text from the numbers of a report

-- the lines of k generators of n coefficients each, which stand one after another
unfoldable pub generators_text : ℕ → ℕ → List ℤ → List ℕ
generators_text n zero l = []
generators_text n (suc k) l = line 71 (take n l) ++ generators_text n k (drop n l)

-- the text of a report of dimension p with t orders and k generators of n coefficients each
unfoldable pub report_text : ℕ → ℕ → ℕ → ℕ → List ℤ → List ℕ
report_text p n t k report = line 72 (pos p ∷ take (2 + t) report) ++ generators_text n k (drop (2 + t) report)
