-- A certificate of a matrix is one of every matrix that agrees with it on its range: `smith-ext`.
use Prim.Native.Nat.{ℕ}
use lib.IntN.{ℤ}
use Rattle.matrices.specs.Matrix.{Matrix, Eq}
use Rattle.matrices.proofs.Product.{Eq-refl, Eq-sym, Eq-trans, mul-ext}
use Rattle.smith.proofs.Certificate.{Smith}

pub smith-ext : {m n : ℕ} {A B : Matrix} {d : ℕ → ℤ} {U Ui W Wi : Matrix} → Eq m n A B → Smith m n A d U Ui W Wi → Smith m n B d U Ui W Wi
smith-ext {m} {n} {A} {B} {d} {U} {Ui} {W} {Wi} e smith =
    record {
      row_pair = smith.row_pair;
      column_pair = smith.column_pair;
      carries = Eq-trans (Eq-sym (mul-ext (mul-ext (Eq-refl m m U) e) (Eq-refl n n W))) smith.carries;
      nonneg = smith.nonneg;
      divides = smith.divides;
      beyond = smith.beyond;
    }
