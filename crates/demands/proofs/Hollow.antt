-- The hollow triangle in dimension 1, on which most uses of the claims are taken: its bytes, its cells, and what its reductions come to.
use mathlib.Core.Path.{◌≡◌, refl, sym, ◌∙◌, ap}
use mathlib.Core.Bool.{false≢true}
use mathlib.Core.List.{List, [], ◌∷◌}
use Prim.Native.Nat.{ℕ, zero, suc, ◌<◌}
use native.Mathlib.Omega.{arith}
use lib.Dec.{T, ltb, ltb→lt}
use lib.ListN.{get_or, replicate}
use lib.IntN.{ℤ, pos, neg_ℤ}
use Rattle.integers.specs.Division.{floor, divides}
use Rattle.lists.specs.Tabulate.{tabulate}
use Rattle.lists.specs.Same.{every, both}
use Rattle.matrices.specs.Sum.{sum}
use Rattle.matrices.specs.Matrix.{mul, identity, null}
use Rattle.matrices.specs.Operation.{inverse}
use Rattle.complexes.specs.Cell.{without, same, rises, precedes, listed}
use Rattle.complexes.specs.Boundary.{sign, coefficient, count_below, boundary}
use Rattle.complexes.specs.Complex.{Sections}
use Rattle.complexes.proofs.ChainComplex.{ChainComplex}
use Rattle.sheet_format.specs.Layout.{start}
use Rattle.sheet_format.specs.Check.{count_field, offset_field, cell_of, cells_of, sections_of, some, vertices_do_not_rise, cells_do_not_rise, face_missing, refusal}
use Rattle.sheet_format.specs.Sheet.{Bytes}
use Rattle.sheet_format.specs.Starred.{hollow_triangle}
use Rattle.sheet_format.proofs.Accept.{accepted-chains}
use Rattle.reduction_steps.specs.Table.{table, row_largest, table_largest, table_within}
use Rattle.reduction_steps.specs.Lines.{on_list, line_less, on_lines, on_entries}
use Rattle.reduction_steps.specs.State.{State, largest, row_operation, column_operation, within, checked, and_then, on_row, on_column}
use Rattle.reduction_steps.specs.Pivot.{better, along_row, down_rows, release1}
use Rattle.reduction_steps.specs.Step.{column_keeps, row_keeps, row_indivisible, first_indivisible, positive, bring, quotient, row_pass, column_pass, next, step, run, reduce}
use Rattle.reports.specs.Reductions.{reduced, no_transforms, first_start, product, second_start, after_second, second, after_first, reductions}
use Rattle.requests.specs.Question.{Question, asked, cells, rule, two}
use Rattle.requests.specs.Call.{went_wide}
use Rattle.answers.specs.Outcome.{TooWide}
use Rattle.answers.proofs.Behind.{two-wide}

pub numbers-below : (bound : ℕ) → 0 < bound → (l : List ℕ) → T (every (λ x. ltb x bound) l) → (i : ℕ) → get_or l i 0 < bound
unfolding every
numbers-below bound h [] t i = h
numbers-below bound h (x ∷ l) t zero = ltb→lt x bound (both (ltb x bound) (every (λ y. ltb y bound) l) t).0
numbers-below bound h (x ∷ l) t (suc i) = numbers-below bound h l (both (ltb x bound) (every (λ y. ltb y bound) l) t).1 i

abbrev pub hollow : Question
hollow = asked hollow_triangle 1

pub hollow-bytes : Bytes hollow_triangle
unfolding every
hollow-bytes = record { small = numbers-below 256 (omega arith) hollow_triangle tt }

-- n slots as they are lent: a slot that is left untouched shows
abbrev pub nines : ℕ → List ℤ
nines n = replicate n (pos 9)

abbrev pub minus : ℕ → ℤ
minus n = neg_ℤ (pos n)

-- three vertices and three edges
abbrev pub hollow_cells : Sections
hollow_cells = ((0 ∷ []) ∷ (1 ∷ []) ∷ (2 ∷ []) ∷ []) ∷ ((0 ∷ 1 ∷ []) ∷ (0 ∷ 2 ∷ []) ∷ (1 ∷ 2 ∷ []) ∷ []) ∷ [] ∷ [] ∷ []

pub hollow-cells : cells hollow ≡ hollow_cells
unfolding cells sections_of cells_of cell_of count_field start tabulate
hollow-cells = refl

pub hollow-accepted : refusal 48 hollow_triangle ≡ 0
unfolding refusal count_field offset_field cell_of cells_of sections_of some vertices_do_not_rise cells_do_not_rise face_missing without same rises precedes listed start tabulate
hollow-accepted = refl

pub hollow-chains : ChainComplex 48 (cells hollow)
unfolding cells
hollow-chains = accepted-chains 48 hollow_triangle hollow-bytes hollow-accepted

-- ---- the reductions

-- what the second reduction leaves: no higher cells, so that Q and G are those of the first
abbrev pub hollow-left : State
hollow-left = record {
  matrix = [] ∷ [];
  row_follower = (pos 0 ∷ pos 0 ∷ pos 1 ∷ []) ∷ [];
  row_inverse = (pos 1 ∷ minus 1 ∷ pos 1 ∷ []) ∷ [];
  column_follower = [];
  column_inverse = [];
  peak = 1;
}

-- one row of Q, no pivot
pub hollow-reduced : two hollow no_transforms ≡ reduced 1 0 hollow-left
unfolding cells rule two reductions first_start after_first second product second_start after_second count_below boundary coefficient sign
    count_field cell_of cells_of sections_of without same start
    reduce run step next bring positive quotient row_pass column_pass column_keeps row_keeps row_indivisible first_indivisible
    release1 down_rows along_row better on_row on_column checked and_then within largest row_operation column_operation on_lines on_entries on_list line_less table_within table_largest row_largest table
    inverse identity null mul sum floor divides tabulate
hollow-reduced = refl

pub hollow-narrow : TooWide hollow no_transforms → ⊥
hollow-narrow wide = false≢true (ap went_wide (sym hollow-reduced ∙ (two-wide hollow no_transforms hollow-chains).1 wide))
