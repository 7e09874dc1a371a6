-- Laws of `raised` and `mirrored` at a negative number that the word holds: raised-fits, mirrored-fits, mirrored-read.
use Rattle.std.specs.Prelude.{◌≡◌, refl, ℕ, zero, suc, ◌^◌, ◌<◌, pos, negsuc, neg_ℤ, nat_abs, ◌+ℤ◌}
use Rattle.std.proofs.Common.{ap, ◌∙◌, to_z-of_z}
use Rattle.std.proofs.Math.IntN.{+ℤ_one, neg_ℤ-neg_ℤ}
use Rattle.std.specs.Int.{w64}
use mir.Val.{SFits}
use Rattle.integers.proofs.Order.{nat_abs-neg}
use Rattle.machine_words.specs.Read.{read, sfits-below}
use Rattle.machine_words.specs.Negate.{opposite-fits, opposite-read, raised, mirrored}

negsuc-raised : (n : ℕ) → negsuc n +ℤ pos 1 ≡ neg_ℤ (pos n)
negsuc-raised zero = refl
negsuc-raised (suc n) = +ℤ_one (negsuc (suc n))

module _ (n : ℕ) (f : SFits w64 (negsuc n)) where
  raised_is : raised (negsuc n) ≡ neg_ℤ (pos n)
  raised_is = rw (to_z-of_z f) (negsuc-raised n)

  raised-small : nat_abs (raised (negsuc n)) < 2 ^ 63
  raised-small = rw (raised_is, nat_abs-neg (pos n)) f.sfits

  pub raised-fits : SFits w64 (raised (negsuc n))
  raised-fits = sfits-below w64 (raised (negsuc n)) raised-small

  pub mirrored-fits : SFits w64 (mirrored (negsuc n))
  mirrored-fits = opposite-fits w64 (raised (negsuc n)) raised-small

  pub mirrored-read : read w64 (mirrored (negsuc n)) ≡ pos n
  mirrored-read = opposite-read w64 (raised (negsuc n)) raised-small ∙ ap neg_ℤ raised_is ∙ neg_ℤ-neg_ℤ (pos n)
