-- Division of whole numbers rounded towards minus infinity, the residue nearest zero, and divisibility.
use Rattle.std.specs.Prelude.{◌≡◌, Bool, cond, zero, suc, ◌/◌, ◌%◌, eqb, ℤ, pos, negsuc, neg_ℤ, nat_abs, ◌-ℤ◌, ◌*ℤ◌, ◌≤ℤ◌, ◌<ℤ◌}
use Rattle.std.specs.Int.Signed.{lt_z}

-- the largest whole number that is at most a / d
unfoldable pub floor : ℤ → ℤ → ℤ
floor (pos a) (pos d) = pos (a / d)
floor (negsuc a) (pos d) = negsuc (a / d)
floor (pos zero) (negsuc d) = pos 0
floor (pos (suc a)) (negsuc d) = negsuc (a / suc d)
floor (negsuc a) (negsuc d) = pos (suc a / suc d)

-- the remainder of a; where d is 0, a itself
unfoldable pub modulo : ℤ → ℤ → ℤ
modulo a d = a -ℤ floor a d *ℤ d

-- the residue of a: its remainder, less d where twice the remainder exceeds d; where d is 0, a itself
unfoldable pub residue : ℤ → ℤ → ℤ
residue a d = cond (lt_z d (pos 2 *ℤ modulo a d)) (modulo a d -ℤ d) (modulo a d)

-- r lies above -d/2 and up to d/2
abbrev pub NearestZero : ℤ → ℤ → Type 0
NearestZero d r = (neg_ℤ d <ℤ (pos 2 *ℤ r)) × ((pos 2 *ℤ r) ≤ℤ d)

-- a divides b; 0 divides only 0
infix 50 ◌∣ℤ◌
pub record ◌∣ℤ◌ (a b : ℤ) : Type 0 where
  pub quotient : ℤ
  pub is : b ≡ quotient *ℤ a

-- the test
unfoldable pub divides : ℤ → ℤ → Bool
divides a b = eqb (nat_abs b % nat_abs a) 0
