-- A map of zeros lists no node: empty-map. An array of zeros reads 0 everywhere: byte-zero.
use mathlib.Core.Path.{◌≡◌, refl, ap, ◌∙◌}
use mathlib.Core.Bool.{false}
use Prim.Native.Nat.{ℕ, ◌/◌, ◌%◌, ◌^◌, ◌<◌}
use native.Mathlib.Decide.{dec_lt}
use native.Mathlib.Omega.{arith}
use native.Mathlib.Nat.{zero-div}
use lib.ListN.{get_or, replicate, length-replicate, get_or-replicate, get_or-eq_default}
use Rattle.node_maps.specs.Map.{map_length, bit_of, Empty}

bit-zero : (k : ℕ) → bit_of 0 k ≡ false
unfolding bit_of
bit-zero k = rw (zero-div (2 ^ k)) refl

pub byte-zero : (n i : ℕ) → ◌≡◌ {A = ℕ} (get_or (replicate n 0) i 0) 0
byte-zero n i = at (dec_lt i n)
  where
    at : Dec (i < n) → ◌≡◌ {A = ℕ} (get_or (replicate n 0) i 0) 0
    at (yes l) = get_or-replicate n i 0 0 l
    at (no l) = get_or-eq_default (replicate n 0) 0 (omega (arith, length-replicate {A = ℕ} n 0))

pub empty-map : Empty (replicate map_length 0)
empty-map = record {
  sized = length-replicate {A = ℕ} map_length 0;
  none = λ v. ap (λ (b : ℕ). bit_of b (v % 8)) (byte-zero map_length (v / 8)) ∙ bit-zero (v % 8);
}
