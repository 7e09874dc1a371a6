-- `list` meets its contract: only the byte of the node changes, and of it only the node's bit.
use mathlib.Core.Path.{◌≡◌, sym, ap, ◌∙◌}
use mathlib.Core.Logic.{◌≢◌}
use mathlib.Core.List.{List}
use Prim.Native.Nat.{ℕ, ◌/◌, ◌%◌, ◌<◌}
use native.Mathlib.Decide.{ℕ_discrete}
use native.Mathlib.Omega.{arith}
use lib.ListN.{length, get_or, set, length-set}
use lib.Seq.{get_or-set_same, get_or-set_other}
use Rattle.node_maps.specs.Map.{bit_of, in_map, Lists}
use Rattle.node_maps.proofs.Bits.{with_bit, sets}
use Rattle.node_maps.proofs.map.list.Goals as goal

lists : (map : List ℕ) (v : ℕ) → v / 8 < length map → Lists v map (set map (v / 8) (with_bit (get_or map (v / 8) 0) (v % 8)))
lists map v l = record {
  sized = length-set map (v / 8) byte;
  here = ap (λ (b : ℕ). bit_of b (v % 8)) (get_or-set_same map (v / 8) byte 0 l) ∙ (sets (get_or map (v / 8) 0) (v % 8) (omega arith)).here;
  elsewhere = λ u d. at u d (ℕ_discrete (u / 8) (v / 8));
}
  where
    byte : ℕ
    byte = with_bit (get_or map (v / 8) 0) (v % 8)

    at : (u : ℕ) → u ≢ v → Dec (u / 8 ≡ v / 8) → in_map (set map (v / 8) byte) u ≡ in_map map u
    at u d (yes e) =
        ap (λ (i : ℕ). bit_of (get_or (set map (v / 8) byte) i 0) (u % 8)) e
        ∙ ap (λ (b : ℕ). bit_of b (u % 8)) (get_or-set_same map (v / 8) byte 0 l)
        ∙ (sets (get_or map (v / 8) 0) (v % 8) (omega arith)).elsewhere (u % 8) (λ r. d (omega (arith, r, e)))
        ∙ ap (λ (i : ℕ). bit_of (get_or map i 0) (u % 8)) (sym e)
    at u d (no n) = ap (λ (b : ℕ). bit_of b (u % 8)) (get_or-set_other map (v / 8) (u / 8) byte 0 n)

pub returns : goal.returns
returns c = let a = c.args in lists a.map.now a.node (omega (arith, c.requires))
