-- `printer::print_input` meets its contract: the array has more bytes than the longest sheet, so that they settle the text (`program_text-take`).
use mathlib.Core.Path.{◌≡◌, sym, ◌∙◌, ap, subst}
use mathlib.Core.List.{List}
use Prim.Native.Nat.{ℕ, min}
use native.Mathlib.Omega.{arith}
use lib.ListN.{length, take}
use Rattle.std.proofs.lemmas.List.{take_min}
use Rattle.program_text.specs.Text.{program_text}
use Rattle.program_text.proofs.TextLaws.{program_text-take}
use Rattle.text.specs.Put.{PutsWithin}
use Rattle.text.specs.Room.{text_room}
use Rattle.printer.proofs.print_input.Goals as goal

pub returns : goal.returns
returns c b e =
    let a = c.args in
    let held = a.input.now in
    let within : c.min.result ≡ min a.n (length held) = omega arith in
    let first : take c.min.result held ≡ take a.n held = ap (λ (k : ℕ). take k held) within ∙ take_min a.n held in
    subst (λ (text : List ℕ). PutsWithin text_room text 0 a.out.now c.print_sheet.result c.print_sheet.new.out)
    (ap program_text (first ∙ sym e) ∙ program_text-take b (length held) (omega arith))
    c.print_sheet.ensures
