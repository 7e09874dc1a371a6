-- What the machine reads of the entries and of their quotient: quotient-asks and quotient-read, for `quotient` called on two entries.
use mathlib.Core.Path.{◌≡◌, ap, ◌∙◌, subst}
use mathlib.Core.List.{List}
use Prim.Native.Nat.{ℕ, ◌+◌, ◌≤◌}
use native.Mathlib.Nat as NatL
use lib.IntN.{ℤ, pos, nat_abs}
use lib.Signed.{◌<ℤ◌}
use mir.Syntax.{w64}
use Rattle.integers.specs.Division.{floor}
use Rattle.reduction_laws.specs.Letters.{ReadyC}
use Rattle.matrix_lines.specs.Slice.{entry_limit, line_at, Under}
use Rattle.matrix_lines.specs.Matrices.{contents}
use Rattle.matrix_lines.specs.declared.matrix.Matrix.{Matrix}
use Rattle.machine_words.specs.Read.{read, read_wide}
use Rattle.operations.specs.Laid.{sizes_of, state_of}
use Rattle.operations.specs.declared.workspace.Workspace.{Workspace}
use Rattle.passes.proofs.States.{entry-state}

pub small-entry : (M : Matrix) {peak : ℕ} {w : List ℤ} → Under peak w → (i j : ℕ) → nat_abs (contents M w i j) ≤ entry_limit
small-entry M h i j = NatL.le_trans (h.bound (line_at M.at M.width i + j)) h.limit

-- a word that holds an entry
pub read-entry : (M : Matrix) {peak : ℕ} {w : List ℤ} → Under peak w → (i j : ℕ) (x : ℤ) → x ≡ contents M w i j → read w64 x ≡ contents M w i j
read-entry M {w = w} h i j x e = ap (read w64) e ∙ read_wide (contents M w i j) (small-entry M h i j)

pub pivot-positive : (W : Workspace) (k : ℕ) {peak : ℕ} (w : List ℤ) → ReadyC (sizes_of W) k (state_of W peak w) → pos 0 <ℤ contents W.matrix w k k
pivot-positive W k w h = subst (λ (x : ℤ). pos 0 <ℤ x) (entry-state W w k k h.row h.column) h.positive

-- x holds the entry at (i, j), and d the pivot
module _ (W : Workspace) (k : ℕ) {peak : ℕ} (w : List ℤ) (under : Under peak w) (ready : ReadyC (sizes_of W) k (state_of W peak w)) (i j : ℕ) {x d : ℤ} (x-is : x ≡ contents W.matrix w i j) (d-is : d ≡ contents W.matrix w k k) where
  pub quotient-asks : (pos 0 <ℤ read w64 d) × (nat_abs (read w64 x) ≤ entry_limit) × (nat_abs (read w64 d) ≤ entry_limit)
  quotient-asks =
      rw (read-entry W.matrix under i j x x-is, read-entry W.matrix under k k d d-is)
      (pivot-positive W k w ready, small-entry W.matrix under i j, small-entry W.matrix under k k)

  pub quotient-read : {q : ℤ} → (q ≡ floor (read w64 x) (read w64 d)) × (nat_abs q ≤ entry_limit) → read w64 q ≡ floor (contents W.matrix w i j) (contents W.matrix w k k)
  quotient-read {q} h = read_wide q h.1 ∙ h.0 ∙ cc (read-entry W.matrix under i j x x-is, read-entry W.matrix under k k d d-is)
