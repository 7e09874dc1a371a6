-- A subtraction that the code does to two lines of a matrix: what it asks of them, and what it came to.
use mathlib.Core.Path.{◌≡◌, sym, subst}
use mathlib.Core.Logic.{inl}
use mathlib.Core.List.{List}
use Prim.Native.Nat.{ℕ, ◌+◌, ◌<◌, ◌≤◌}
use lib.ListN.{length}
use lib.IntN.{ℤ, nat_abs}
use mir.Syntax.{w64}
use Rattle.std.specs.Prelude.{Result}
use Rattle.matrices.specs.Operation.{subtract}
use Rattle.matrix_lines.specs.Slice.{entry_limit, line_at, Bounded, Apart, Subtracted}
use Rattle.matrix_lines.specs.Matrices.{Held}
use Rattle.elementary_operations.specs.Operations.{operation_of, Fits, OnLines}
use Rattle.matrix_lines.specs.declared.matrix.Matrix.{Matrix}
use Rattle.matrix_lines.specs.declared.line.TooWide.{TooWide}
use Rattle.elementary_operations.specs.declared.operation.Operation.{Operation}
use Rattle.elementary_operations.specs.declared.operation.Operation.TheVariants.{Subtract}
use Rattle.machine_words.specs.Read.{read, read_wide}
use Rattle.matrix_lines.proofs.Spans.{Span, line-span, span-inside, spans_apart}
use Rattle.elementary_operations.proofs.Operations.{subtract-lines, fits-case, became-case}

module _ {op : Operation} {i k : ℕ} {q : ℤ} (e : op ≡ Subtract i k q) (M : Matrix) (fits : Fits M.lines (operation_of op)) where
  subtract-fits : Fits M.lines (subtract i k q)
  subtract-fits = fits-case e fits

  pub changed-below : i < M.lines
  changed-below = subtract-fits.within.changed

  pub taken-below : k < M.lines
  taken-below = subtract-fits.within.taken

  factor-is : read w64 q ≡ q
  factor-is = read_wide q subtract-fits.factor

  -- the lines were found at a and b
  module _ {a b : ℕ} (a-is : a ≡ line_at M.at M.width i) (b-is : b ≡ line_at M.at M.width k) where
    target : Span M a i 0 M.width
    target = line-span M a i a-is changed-below

    source : Span M b k 0 M.width
    source = line-span M b k b-is taken-below

    pub subtraction-asks :
        {w : List ℤ} {before : ℕ} → Held (length w) M → Bounded before w
        → ((a + M.width ≤ length w) × (b + M.width ≤ length w)) × (Apart a b M.width × (Bounded before w × (nat_abs (read w64 q) ≤ entry_limit)))
    subtraction-asks held bounded = (
      (span-inside target held, span-inside source held),
      (
        spans_apart target source (inl subtract-fits.within.distinct),
        (bounded, subst (λ (x : ℤ). nat_abs x ≤ entry_limit) (sym factor-is) subtract-fits.factor),
      ),
    )

    pub subtraction-came :
        (w w' : List ℤ) (before : ℕ) (r : Result ℕ TooWide) → Subtracted w a b M.width (read w64 q) before r w'
        → OnLines M w (operation_of op) before r w'
    subtraction-came w w' before r h =
        became-case e M w w' before r
        (subst (λ (x : ℤ). OnLines M w (subtract i k x) before r w') factor-is
        (subtract-lines target source w w' (read w64 q) before r h))
