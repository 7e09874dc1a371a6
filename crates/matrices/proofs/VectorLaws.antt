-- Laws of a matrix times a vector: apply-ext, apply-mul, apply-identity, apply-null, apply-add, apply-sub, apply-scale,
-- apply-zero, apply-cancel (inverse matrices). A vector counts as a matrix with equal columns,
-- so all of them are laws of the product.
use mathlib.Core.Path.{◌≡◌, refl}
use Prim.Native.Nat.{ℕ, ◌<◌}
use lib.IntN.{ℤ, pos, ◌+ℤ◌, ◌-ℤ◌, ◌*ℤ◌}
use Rattle.matrices.specs.Matrix.{Matrix, Eq, mul, identity, null}
use Rattle.matrices.proofs.Product as Product
use Rattle.matrices.proofs.Inverse.{mul-cancel-left}
use Rattle.matrices.specs.Vector.{Vector, apply}

-- x as a matrix whose columns are all x
abbrev pub column : Vector → Matrix
column x i j = x i

pub apply-ext : (n : ℕ) (A B : Matrix) (x y : Vector) (i : ℕ) → ((k : ℕ) → k < n → A i k ≡ B i k) → ((k : ℕ) → k < n → x k ≡ y k) → apply n A x i ≡ apply n B y i
unfolding apply mul
apply-ext n A B x y i f g = Product.mul-ext-at n A B (column x) (column y) i 0 f g

-- column j of A times B is A times column j of B
pub mul_apply : (n : ℕ) (A B : Matrix) (i j : ℕ) → mul n A B i j ≡ apply n A (λ k. B k j) i
unfolding apply mul
mul_apply n A B i j = refl

pub apply-mul : (m n : ℕ) (A B : Matrix) (x : Vector) (i : ℕ) → apply n (mul m A B) x i ≡ apply m A (apply n B x) i
unfolding apply mul
apply-mul m n A B x i = Product.mul_assoc m n A B (column x) i 0

pub apply-identity : (n : ℕ) (x : Vector) (i : ℕ) → i < n → apply n identity x i ≡ x i
unfolding apply mul
apply-identity n x i l = Product.mul-identity-left n (column x) i 0 l

pub apply-null : (n : ℕ) (x : Vector) (i : ℕ) → apply n null x i ≡ pos 0
unfolding apply mul
apply-null n x i = Product.mul-null-left n (column x) i 0

-- ---- linear in the vector

pub apply-zero : (n : ℕ) (A : Matrix) (i : ℕ) → apply n A (λ _. pos 0) i ≡ pos 0
unfolding apply mul null
apply-zero n A i = Product.mul-null-right n A i 0

pub apply-add : (n : ℕ) (A : Matrix) (x y : Vector) (i : ℕ) → apply n A (λ k. x k +ℤ y k) i ≡ apply n A x i +ℤ apply n A y i
unfolding apply mul
apply-add n A x y i = Product.mul-add n A (column x) (column y) i 0

pub apply-sub : (n : ℕ) (A : Matrix) (x y : Vector) (i : ℕ) → apply n A (λ k. x k -ℤ y k) i ≡ apply n A x i -ℤ apply n A y i
unfolding apply mul
apply-sub n A x y i = Product.mul-sub n A (column x) (column y) i 0

pub apply-scale : (n : ℕ) (c : ℤ) (A : Matrix) (x : Vector) (i : ℕ) → apply n A (λ k. c *ℤ x k) i ≡ c *ℤ apply n A x i
unfolding apply mul
apply-scale n c A x i = Product.mul-scale-right n c A (column x) i 0

-- ---- inverse matrices and operations

pub apply-cancel : (n : ℕ) (X Y : Matrix) → Eq n n (mul n X Y) identity → (x : Vector) (i : ℕ) → i < n → apply n X (apply n Y x) i ≡ x i
unfolding apply mul
apply-cancel n X Y e x i l = mul-cancel-left n X Y e (column x) i 0 l
