-- `Simplex::try_from` meets its contract, by the definition at each number.
use mathlib.Core.Path.{◌≡◌, refl, ap, ◌∙◌}
use Prim.Native.Nat.{ℕ}
use native.Mathlib.Omega.{arith}
use borrow.Author.Tests.{ne_eqb}
use Rattle.imports.specs.Import.{nodes_of_kind}
use Rattle.mesh_elements.proofs.kind.SimplexTryFromUsize.try_from.Goals as goal

-- the number is a kind's
known : (k n d : ℕ) → k ≡ n → nodes_of_kind n ≡ d → nodes_of_kind k ≡ d
known k n d e h = ap nodes_of_kind e ∙ h

-- the number is no kind's
other : (k : ℕ) → (k ≡ 15 → ⊥) → (k ≡ 1 → ⊥) → (k ≡ 2 → ⊥) → (k ≡ 4 → ⊥) → nodes_of_kind k ≡ 0
unfolding nodes_of_kind
other k a b c d = rw (ne_eqb k 15 a, ne_eqb k 1 b, ne_eqb k 2 c, ne_eqb k 4 d) refl

pub returns-in-15 : goal.returns-in-15
unfolding nodes_of_kind
returns-in-15 c = record { many = known c.args.kind 15 1 (omega arith) refl; vertices-are = refl; dimension-is = omega arith }

pub returns-in-1 : goal.returns-in-1
unfolding nodes_of_kind
returns-in-1 c = record { many = known c.args.kind 1 2 (omega arith) refl; vertices-are = refl; dimension-is = omega arith }

pub returns-in-2 : goal.returns-in-2
unfolding nodes_of_kind
returns-in-2 c = record { many = known c.args.kind 2 3 (omega arith) refl; vertices-are = refl; dimension-is = omega arith }

pub returns-in-4 : goal.returns-in-4
unfolding nodes_of_kind
returns-in-4 c = record { many = known c.args.kind 4 4 (omega arith) refl; vertices-are = refl; dimension-is = omega arith }

pub returns-in_default : goal.returns-in_default
returns-in_default c = (other c.args.kind (λ e. omega arith) (λ e. omega arith) (λ e. omega arith) (λ e. omega arith), refl)
