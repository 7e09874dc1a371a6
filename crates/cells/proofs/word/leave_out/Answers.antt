-- `leave_out` meets its contract: the vertices before the one left out stand above it in the word, and those behind it below.
use mathlib.Core.Path.{sym}
use Prim.Native.Nat.{ℕ, ◌+◌, ◌*◌, ◌/◌, ◌%◌, ◌≤◌, ◌<◌}
use native.Mathlib.Nat.{mul-le-mul_right, div-le_self, div-add-mod', one-le-pow}
use native.Mathlib.Omega.{arith}
use Rattle.complexes.specs.Complex.{vertex_bound}
use Rattle.complexes.proofs.FaceLaws.{length_without}
use Rattle.complexes.proofs.PackedLaws.{packed-without, numbered-without}
use Rattle.cells.proofs.word.leave_out.Goals as goal
use Rattle.cells.proofs.word.leave_out.Goals.{After-power-base}

module _ (c : After-power-base) where
  abbrev word : ℕ
  word = c.args.word

  abbrev base : ℕ
  base = c.power-base.result

  positive : 0 < base
  positive = omega (arith, c.power-base.ensures, one-le-pow c.args.behind vertex_bound (omega arith))

  -- what is left is no more than the word
  less : word / base / vertex_bound * base + word % base ≤ word
  less = omega (arith, mul-le-mul_right base (div-le_self (word / base) vertex_bound), div-add-mod' word base)

pub nonzero_div-result : goal.nonzero_div-result
nonzero_div-result c = positive c

pub overflow_mul-result : goal.overflow_mul-result
overflow_mul-result c = omega (arith, less c)

pub nonzero_rem-result : goal.nonzero_rem-result
nonzero_rem-result c = positive c

pub overflow_add-result : goal.overflow_add-result
overflow_add-result c = omega (arith, less c)

pub returns : goal.returns
returns c j d h =
    let behind = c.args.behind in
    record {
      sized = omega (arith, length_without j d (omega (arith, h.sized)), h.sized);
      numbered = numbered-without j d h.numbered;
      is = rw (c.power-base.ensures, h.is) (sym (packed-without d j behind h.numbered h.sized));
    }
