-- `keep_cell` meets its contract: what is copied is the cell, or nothing.
use mathlib.Core.Path.{◌≡◌, sym, ap, ◌∙◌}
use mathlib.Core.Bool.{Bool, not, cond}
use mathlib.Core.List.{List, [], ◌∷◌}
use Prim.Native.Nat.{ℕ, ◌+◌, ◌*◌}
use native.Mathlib.Omega.{arith}
use borrow.Author.Tests.{eq-eqb, ne_eqb}
use lib.ListN.{length}
use Rattle.lists.specs.Splice.{splice}
use Rattle.sheet_format.specs.Layout.{cell_bytes, section_bytes}
use Rattle.sheet_format.specs.Check.{cell_of}
use Rattle.sheet_format.specs.SheetLaws.{length-cell_of}
use Rattle.sheet_format.proofs.LayoutLaws.{length-cell_bytes}
use Rattle.sheet_writer.proofs.Bytes.{section_bytes-one}
use Rattle.cell_keeper.specs.Unmarked.{if_stays, Puts}
use Rattle.cell_keeper.proofs.Putting.{puts_none}
use Rattle.cell_keeper.proofs.copy.keep_cell.Goals as goal
use Rattle.cell_keeper.proofs.copy.keep_cell.Goals.{Start, After-copy_cell}

module _ (mark : ℕ) (s : List ℕ) (n at : ℕ) where
  -- the bytes of a cell that stays
  stays : (mark ≡ 1 → ⊥) → section_bytes (if_stays mark (cell_of s n at)) ≡ cell_bytes (cell_of s n at)
  stays h =
      ap (λ (b : Bool). section_bytes (cond (not b) (cell_of s n at ∷ []) [])) (ne_eqb mark 1 h) ∙ section_bytes-one (cell_of s n at)

  length-stays : (mark ≡ 1 → ⊥) → length (section_bytes (if_stays mark (cell_of s n at))) ≡ 2 * n
  length-stays h = ap length (stays h) ∙ length-cell_bytes (cell_of s n at) ∙ ap (λ (k : ℕ). 2 * k) (length-cell_of s n at)

  cell-put : (mark ≡ 1 → ⊥) → (to : ℕ) (sheet sheet' : List ℕ) → sheet' ≡ splice to (cell_bytes (cell_of s n at)) sheet
      → Puts to (section_bytes (if_stays mark (cell_of s n at))) sheet (to + 2 * n) sheet'
  cell-put h to sheet sheet' e = record { ends = omega (arith, length-stays h); is = e ∙ ap (λ (t : List ℕ). splice to t sheet) (sym (stays h)) }

  nothing_put : mark ≡ 1 → (to : ℕ) (sheet : List ℕ) → Puts to (section_bytes (if_stays mark (cell_of s n at))) sheet to sheet
  unfolding section_bytes
  nothing_put e to sheet = rw (eq-eqb mark 1 e) (puts_none to sheet)

pub copy_cell-requires : goal.copy_cell-requires
copy_cell-requires c =
    let start = (goal.at.copy_cell-requires c).Start in
    let a = start.args in
    (start.requires.0, start.requires.1, omega (arith, start.requires.2, length-stays a.mark a.s.now a.n a.at c.if-mark-ne1.true))

pub returns-then-mark-ne1 : goal.returns-then-mark-ne1
returns-then-mark-ne1 c =
    let copied = (goal.at.returns-then-mark-ne1 c).After-copy_cell in
    let a = copied.args in
    cell-put a.mark a.s.now a.n a.at copied.if-mark-ne1.true a.to _ _ copied.copy_cell.ensures

pub returns-else-mark-ne1 : goal.returns-else-mark-ne1
returns-else-mark-ne1 c = let a = c.args in nothing_put a.mark a.s.now a.n a.at c.if-mark-ne1.false a.to _
