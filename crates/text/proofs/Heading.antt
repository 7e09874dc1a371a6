-- The text of `put_heading`: heading-text, the letter, the dimension, the other numbers and the line feed one behind the other.
use mathlib.Core.Path.{◌≡◌, sym, ap, ◌∙◌}
use mathlib.Core.List.{List, [], ◌∷◌, ◌++◌, append_assoc}
use Prim.Native.Nat.{ℕ}
use lib.IntN.{ℤ}
use Rattle.program_text.specs.Text.{spaced, line}
use Rattle.program_text.proofs.TextLaws.{spaced-append}

pub heading-text : (p : ℤ) (numbers : List ℤ) → (72 ∷ []) ++ (spaced (p ∷ []) ++ (spaced numbers ++ (10 ∷ []))) ≡ line 72 (p ∷ numbers)
heading-text p numbers =
    ap (λ (rest : List ℕ). 72 ∷ rest)
    (sym (append_assoc (spaced (p ∷ [])) (spaced numbers) (10 ∷ [])) ∙ ap (λ (fields : List ℕ). fields ++ (10 ∷ [])) (sym (spaced-append (p ∷ []) numbers)))
