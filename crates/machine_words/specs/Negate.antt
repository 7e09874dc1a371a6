-- The opposite of a number that a word holds, as the machine computes it: `opposite-fits`, `opposite-read`; `negated_fits`, `negated-read` where the
-- number lies within the limit of an entry. Of a negative number x, `mirrored`: - (x + 1), which the word holds for every x (`proofs/Mirrored.antt`).
use Rattle.std.specs.Prelude.{◌≡◌, ◌^◌, ◌<◌, ◌≤◌, ℤ, pos, neg_ℤ, nat_abs, ◌+ℤ◌, ◌-ℤ◌}
use Rattle.std.proofs.Common.{◌∙◌, arith, to_z-of_z}
use Rattle.std.specs.Int.{Width, w64}
use mir.Val.{SFits, hbits}
use Rattle.integers.proofs.Ring.{zero-add}
use Rattle.integers.proofs.Order.{nat_abs-neg}
use Rattle.limits.specs.Limits.{entry_limit}
use Rattle.machine_words.specs.Read.{read, sfits-below}

module _ (w : Width) (q : ℤ) (small : nat_abs q < 2 ^ hbits w) where
  pub opposite-is : pos 0 -ℤ read w q ≡ neg_ℤ q
  opposite-is = rw (to_z-of_z (sfits-below w q small)) (zero-add (neg_ℤ q))

  pub opposite-fits : SFits w (pos 0 -ℤ read w q)
  opposite-fits = rw opposite-is (sfits-below w (neg_ℤ q) (rw (nat_abs-neg q) small))

  pub opposite-read : read w (pos 0 -ℤ read w q) ≡ neg_ℤ q
  opposite-read = to_z-of_z opposite-fits ∙ opposite-is

module _ (q : ℤ) (small : nat_abs q ≤ entry_limit) where
  pub negated_fits : SFits w64 (pos 0 -ℤ read w64 q)
  negated_fits = opposite-fits w64 q (omega arith)

  pub negated-read : read w64 (pos 0 -ℤ read w64 q) ≡ neg_ℤ q
  negated-read = opposite-read w64 q (omega arith)

-- ---- - (x + 1)

abbrev pub raised : ℤ → ℤ
raised x = read w64 x +ℤ pos 1

abbrev pub mirrored : ℤ → ℤ
mirrored x = pos 0 -ℤ read w64 (raised x)
