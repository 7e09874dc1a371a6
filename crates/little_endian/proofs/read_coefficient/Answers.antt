-- `little_endian::read_coefficient` meets its contract: the four bytes make a number below 2 ^ 32, which from 2 ^ 31 on stands for that number less 2 ^ 32.
use Rattle.std.proofs.Common.{◌≡◌, ◌∙◌, ap, refl, arith, rules, ℕ, ◌+◌, ◌-◌, ◌*◌, ◌^◌, suc, Bool, true, false, cond, List, get_or, pos, negsuc, w32, to_z, to_z-of_z}
use lib.Dec.{ltb}
use mir.Val.{sel}
use Rattle.host_calls.specs.Bytes.{coefficient_at}
use Rattle.little_endian.proofs.read_coefficient.Goals as goal

-- a number that is the sum of the four bytes' worths stands for the coefficient
signed : (b : List ℕ) (at n : ℕ)
    → n ≡ get_or b at 0 + get_or b (at + 1) 0 * 256 ^ 1 + get_or b (at + 2) 0 * 256 ^ 2 + get_or b (at + 3) 0 * 256 ^ 3 → to_z w32 n ≡ coefficient_at b at
unfolding coefficient_at
signed b at n e = ap (to_z w32) same ∙ chosen (ltb m (2 ^ 31))
  where
    m : ℕ
    m = get_or b at 0 + 256 * (get_or b (at + 1) 0 + 256 * (get_or b (at + 2) 0 + 256 * get_or b (at + 3) 0))

    same : n ≡ m
    same = omega (arith, e)

    chosen : (t : Bool) → sel t (pos m) (negsuc (2 ^ 32 - suc m)) ≡ cond t (pos m) (negsuc (2 ^ 32 - suc m))
    chosen true = refl
    chosen false = refl

pub returns : goal.returns
returns c = to_z-of_z {w = w32} (search rules) ∙ c.from_le_bytes.ensures ∙ signed c.args.b.now c.args.at _ refl
