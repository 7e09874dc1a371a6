-- What the operations on lines make of a matrix, in the words of the theory: `subtract-lines`, `negate-line`, `swap-lines`. `fits-case`,
-- `became-case`: an operation that turned out to be o. `Fits-inverse`: an operation's inverse fits where it does.
use mathlib.Core.Path.{◌≡◌, refl, sym, subst}
use mathlib.Core.Logic.{inl, inr}
use mathlib.Core.List.{List}
use Prim.Native.Nat.{ℕ, ◌+◌}
use lib.IntN.{ℤ}
use Rattle.std.specs.Prelude.{Result, Ok}
use Rattle.integers.proofs.Order.{nat_abs-neg}
use Rattle.matrices.specs.Operation as definitions
use Rattle.matrices.specs.Operation.{subtract, swap, negate, on_rows, inverse}
use Rattle.matrices.proofs.OperationLaws.{on_rows-subtract-at, on_rows-subtract-other, on_rows-swap-first, on_rows-swap-second, on_rows-swap-other, on_rows-negate-at, on_rows-negate-other}
use Rattle.matrices.specs.Within.{Within-inverse}
use Rattle.matrix_lines.specs.Slice.{Subtracted, Negated, LinesSwapped}
use Rattle.matrix_lines.specs.Matrices.{contents}
use Rattle.elementary_operations.specs.Operations.{operation_of, FactorWithin, Fits, Writes, OnLines}
use Rattle.matrix_lines.specs.declared.matrix.Matrix.{Matrix}
use Rattle.matrix_lines.specs.declared.line.TooWide.{TooWide}
use Rattle.elementary_operations.specs.declared.operation.Operation.{Operation}
use Rattle.matrix_lines.proofs.Spans.{Span, off-line}
use Rattle.elementary_operations.proofs.Holding.{subtracted-became, negated-holds, swapped-holds}

-- ---- whole lines

pub subtract-lines : {M : Matrix} {target source i k : ℕ} → Span M target i 0 M.width → Span M source k 0 M.width → (w w' : List ℤ) (q : ℤ)
    (before : ℕ) (r : Result ℕ TooWide) → Subtracted w target source M.width q before r w' → OnLines M w (subtract i k q) before r w'
subtract-lines {M} {target} {source} {i} {k} s u w w' q =
    subtracted-became s u w w' q (on_rows (subtract i k q) (contents M w)) (λ t l. on_rows-subtract-at i k q (contents M w) (0 + t))
    (λ a b x y o. on_rows-subtract-other i k q (contents M w) a b (off-line M.width i a b y o)) (λ a b. Writes (subtract i k q) a) (λ t. refl)

pub negate-line : {M : Matrix} {start k : ℕ} → Span M start k 0 M.width → (w w' : List ℤ) (before x : ℕ)
    → Negated w start M.width before x w' → OnLines M w (negate k) before (Ok x) w'
negate-line {M} {start} {k} s w w' before x =
    negated-holds s w w' (on_rows (negate k) (contents M w)) (λ t l. on_rows-negate-at k (contents M w) (0 + t))
    (λ a b x y o. on_rows-negate-other k (contents M w) a b (off-line M.width k a b y o)) (λ a b. Writes (negate k) a) (λ t. refl)

pub swap-lines : {M : Matrix} {first second i k : ℕ} → Span M first i 0 M.width → Span M second k 0 M.width → (w w' : List ℤ) (before x : ℕ)
    → LinesSwapped w first second M.width before x w' → OnLines M w (swap i k) before (Ok x) w'
swap-lines {M} {first} {second} {i} {k} s u w w' before x h =
    swapped-holds s u (on_rows (swap i k) (contents M w)) (λ t l. on_rows-swap-first i k (contents M w) (0 + t))
    (λ t l. on_rows-swap-second i k (contents M w) (0 + t))
    (λ a b x y o p. on_rows-swap-other i k (contents M w) a b (off-line M.width i a b y o) (off-line M.width k a b y p))
    (λ a b. Writes (swap i k) a) (λ t. inl refl) (λ t. inr refl) h

-- ---- by cases on the operation

module _ {op o : Operation} (e : op ≡ o) where
  pub fits-case : {n : ℕ} → Fits n (operation_of op) → Fits n (operation_of o)
  fits-case {n} = subst (λ (x : Operation). Fits n (operation_of x)) e

  pub became-case : (M : Matrix) (w w' : List ℤ) (before : ℕ) (r : Result ℕ TooWide) → OnLines M w (operation_of o) before r w' → OnLines M w (operation_of op) before r w'
  became-case M w w' before r = subst (λ (x : Operation). OnLines M w (operation_of x) before r w') (sym e)

-- ---- inverses

factor-inverse : (op : definitions.Operation) → FactorWithin op → FactorWithin (inverse op)
unfolding inverse
factor-inverse (subtract i k q) l = rw (nat_abs-neg q) l
factor-inverse (swap i k) l = tt
factor-inverse (negate k) l = tt

pub Fits-inverse : {n : ℕ} (op : definitions.Operation) → Fits n op → Fits n (inverse op)
Fits-inverse {n} op f = record { within = Within-inverse n op f.within; factor = factor-inverse op f.factor }
