-- The text of a sheet: the line of its refusal (refused-text), or the texts of its dimensions (accepted-text).
use mathlib.Core.Path.{◌≡◌, refl, sym, ◌∙◌, ap, subst}
use mathlib.Core.List.{List}
use Prim.Native.Nat.{ℕ, zero, suc, ◌<◌}
use native.Mathlib.Omega.{arith}
use Rattle.sheet_format.specs.Layout.{top}
use Rattle.sheet_format.specs.Check.{refusal}
use Rattle.refusal.specs.declared.Refusal.{Refusal}
use Rattle.refusal.specs.Number.{number_of}
use Rattle.refusal.specs.NumberLaws.{number-positive}
use Rattle.limits.specs.Limits.{host_limit}
use Rattle.program_text.specs.Text.{refusal_line, dimensions_text, text_for, program_text}
use Rattle.text.specs.Put.{PutsWithin}
use Rattle.text.specs.Room.{line_room, text_room}
use Rattle.text.specs.PutLaws.{within_more}

-- the text for a number other than 0 is the line of a refusal
text_for-positive : (b : List ℕ) (n : ℕ) → 0 < n → text_for n b ≡ refusal_line n
unfolding text_for
text_for-positive b zero h = absurd (omega arith)
text_for-positive b (suc n) h = refl

module _ (b : List ℕ) {at r : ℕ} {out out' : List ℕ} where
  pub refused-text : (x : Refusal) → refusal host_limit b ≡ number_of x → PutsWithin (line_room 1) (refusal_line (number_of x)) at out r out'
      → PutsWithin text_room (program_text b) at out r out'
  unfolding program_text
  refused-text x e puts = subst (λ (text : List ℕ). PutsWithin text_room text at out r out') same (within_more (omega arith) puts)
    where
      same : refusal_line (number_of x) ≡ text_for (refusal host_limit b) b
      same = sym (text_for-positive b (number_of x) (number-positive x)) ∙ ap (λ (n : ℕ). text_for n b) (sym e)

  pub accepted-text : refusal host_limit b ≡ 0 → PutsWithin text_room (dimensions_text b (suc top) 0) at out r out' → PutsWithin text_room (program_text b) at out r out'
  unfolding program_text text_for
  accepted-text e puts = subst (λ (text : List ℕ). PutsWithin text_room text at out r out') (ap (λ (n : ℕ). text_for n b) (sym e)) puts
