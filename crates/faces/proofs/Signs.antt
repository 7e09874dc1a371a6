-- Signs (`signs`, `sign-unit`), and a sign as the machine reads it (`sign-cast`, `sign-entry`).
use mathlib.Core.Path.{◌≡◌, refl, ap}
use Prim.Native.Nat.{ℕ, zero, suc, ◌%◌, ◌≤◌}
use native.Mathlib.Omega.{arith}
use lib.IntN.{ℤ, pos, negsuc, neg_ℤ, nat_abs}
use mir.Syntax.{w32, w64}
use mir.Val.{SFits}
use Rattle.complexes.specs.Boundary.{sign}
use Rattle.complexes.proofs.CoefficientLaws.{nat_abs-sign}
use Rattle.matrix_lines.specs.Slice.{entry_limit}
use Rattle.machine_words.specs.Read.{read, read-entry, read_wide, entry-fits}

-- the sign of an even and of an odd number
pub record Signs (t : ℕ) : Type 0 where
  pub even : t % 2 ≡ 0 → sign t ≡ pos 1
  pub odd : t % 2 ≡ 1 → sign t ≡ negsuc 0

pub signs : (t : ℕ) → Signs t
unfolding sign
signs zero = record { even = λ e. refl; odd = λ e. absurd (omega arith) }
signs (suc t) = record { even = λ e. ap neg_ℤ ((signs t).odd (omega arith)); odd = λ e. ap neg_ℤ ((signs t).even (omega arith)) }

pub sign-unit : (t : ℕ) → nat_abs (sign t) ≤ 1
sign-unit t = omega (arith, nat_abs-sign t)

-- a sign is a small number
sign_small : (r : ℤ) (t : ℕ) → r ≡ sign t → nat_abs r ≤ entry_limit
sign_small r t e = rw e (omega (arith, sign-unit t))

-- a sign as the machine reads it
pub sign-cast : (r : ℤ) (t : ℕ) → r ≡ sign t → SFits w32 (read w64 r)
sign-cast r t e = rw (read_wide r (sign_small r t e)) (entry-fits r (sign_small r t e))

pub sign-entry : (r : ℤ) (t : ℕ) → r ≡ sign t → read w32 (read w64 r) ≡ sign t
sign-entry r t e = rw (read_wide r (sign_small r t e), read-entry r (sign_small r t e)) e
