-- `pack` meets its contract: of the word of four vertices, the first n stand in the highest bits.
use mathlib.Core.Path.{ap, ◌∙◌}
use Prim.Native.Nat.{◌-◌}
use native.Mathlib.Nat.{one-le-pow}
use native.Mathlib.Omega.{arith}
use Rattle.complexes.specs.Complex.{vertex_bound}
use Rattle.complexes.specs.Packed.{word_vertices, packed}
use Rattle.complexes.proofs.PackedLaws.{packed-take}
use Rattle.sheet_format.specs.Check.{cell_of}
use Rattle.sheet_format.specs.Sheet.{Bytes}
use Rattle.sheet_format.specs.SheetLaws.{length-cell_of, take-cell_of}
use Rattle.cells.proofs.Words.{numbered-cell}
use Rattle.cells.proofs.word.pack.Goals as goal
use Rattle.cells.proofs.word.pack.Goals.{After-shared_slice_known-1}

pub nonzero_div-result : goal.nonzero_div-result
nonzero_div-result c = omega (arith, c.power.ensures, one-le-pow (word_vertices - c.args.n) vertex_bound (omega arith))

pub returns : goal.returns
returns c =
    let known = (goal.at.returns c).After-shared_slice_known-1 in let a = known.args in let s = a.s.now in
    let bytes : Bytes s = record { small = λ i. (known.shared_slice_known-1.given i).fits } in
    record {
      sized = length-cell_of s a.n a.at;
      numbered = numbered-cell s bytes a.n a.at;
      is =
          rw (c.pack_four.ensures, c.power.ensures)
          (packed-take (cell_of s word_vertices a.at) a.n (word_vertices - a.n) (numbered-cell s bytes word_vertices a.at)
          (omega (arith, length-cell_of s word_vertices a.at))
          ∙ ap packed (take-cell_of s a.n word_vertices a.at (omega arith)));
    }
