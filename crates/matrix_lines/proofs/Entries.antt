-- Entries as the code reads them: their absolute values.
use mathlib.Core.Path.{◌≡◌, ap, ap₂, ◌∙◌}
use Prim.Native.Nat.{ℕ, ◌≤◌, max}
use lib.IntN.{ℤ, nat_abs}
use mir.Syntax.{w32}
use Rattle.matrix_lines.specs.Slice.{entry_limit}
use Rattle.machine_words.specs.Read.{read, read-entry}

-- the absolute value of an entry as the code finds it, and the larger one of two
pub entry-size : (z : ℤ) {n : ℕ} → nat_abs z ≤ entry_limit → n ≡ nat_abs (read w32 z) → n ≡ nat_abs z
entry-size z small found = found ∙ ap nat_abs (read-entry z small)

pub larger-size : (y z : ℤ) {a b c d : ℕ} → nat_abs y ≤ entry_limit → nat_abs z ≤ entry_limit → a ≡ nat_abs (read w32 y) → b ≡ nat_abs (read w32 z)
    → c ≡ max a b → d ≡ c → d ≡ max (nat_abs y) (nat_abs z)
larger-size y z f g a-is b-is c-is d-is = d-is ∙ c-is ∙ ap₂ max (entry-size y f a-is) (entry-size z g b-is)
