-- Setting a bit of a byte sets it alone, for all bytes and bits.
use mathlib.Core.Path.{◌≡◌, ap}
use mathlib.Core.Logic.{◌≢◌}
use mathlib.Core.Bool.{true}
use Prim.Native.Nat.{ℕ, ◌*◌, ◌%◌, ◌^◌, ◌<◌}
use lib.Dec.{eqb}
use mir.Syntax.{w8}
use Rattle.std.proofs.Common.{bit_or}
use Rattle.std.proofs.lemmas.Nat.Bits.{bit_at_set_same, bit_at_set_other}
use Rattle.node_maps.specs.Map.{bit_of}

-- the byte with bit k set
abbrev pub with_bit : ℕ → ℕ → ℕ
with_bit byte k = bit_or byte (1 * 2 ^ k % 2 ^ 8)

-- the byte y is the byte x with bit k set
pub record SetsBit (k x y : ℕ) : Type 0 where
  pub here : bit_of y k ≡ true
  pub elsewhere : (j : ℕ) → j ≢ k → bit_of y j ≡ bit_of x j

pub sets : (byte k : ℕ) → k < 8 → SetsBit k byte (with_bit byte k)
unfolding bit_of
sets byte k l = record {
  here = ap (λ (x : ℕ). eqb x 1) (bit_at_set_same w8 byte k l);
  elsewhere = λ j d. ap (λ (x : ℕ). eqb x 1) (bit_at_set_other w8 byte k l j d);
}
