-- What the imports answer and leave on texts and slices written out: a sheet and the bytes past it, and each refusal.
use Rattle.std.specs.Prelude.{◌≡◌, List, [], ◌∷◌, ℕ, Result}
use Rattle.trials.specs.Trial.{done, number_told}
use Rattle.sweeps.specs.Cases.{lent}
use Rattle.imports.specs.Examples.{hollow, filled_and_point, twice, faulty_then_malformed}
use Rattle.refusal.specs.Written.{answered}
use Rattle.refusal.specs.declared.Refusal.{Refusal}

-- the sheet of the hollow triangle, 34 bytes, and 6 of the 40 bytes lent
abbrev pub hollow_left : List ℕ
hollow_left =
    3 ∷ 0 ∷ 16 ∷ 0 ∷ 3 ∷ 0 ∷ 22 ∷ 0 ∷ 0 ∷ 0 ∷ 34 ∷ 0 ∷ 0 ∷ 0 ∷ 34 ∷ 0 ∷
    0 ∷ 0 ∷ 1 ∷ 0 ∷ 2 ∷ 0 ∷
    0 ∷ 0 ∷ 1 ∷ 0 ∷ 0 ∷ 0 ∷ 2 ∷ 0 ∷ 1 ∷ 0 ∷ 2 ∷ 0 ∷
    9 ∷ 9 ∷ 9 ∷ 9 ∷ 9 ∷ 9 ∷ []

-- the sheet of the filled triangle, 40 bytes, without the node of the point beside it, and 2 of the 42 bytes lent
abbrev pub point_left : List ℕ
point_left =
    3 ∷ 0 ∷ 16 ∷ 0 ∷ 3 ∷ 0 ∷ 22 ∷ 0 ∷ 1 ∷ 0 ∷ 34 ∷ 0 ∷ 0 ∷ 0 ∷ 40 ∷ 0 ∷
    0 ∷ 0 ∷ 1 ∷ 0 ∷ 2 ∷ 0 ∷
    0 ∷ 0 ∷ 1 ∷ 0 ∷ 0 ∷ 0 ∷ 2 ∷ 0 ∷ 1 ∷ 0 ∷ 2 ∷ 0 ∷
    0 ∷ 0 ∷ 1 ∷ 0 ∷ 2 ∷ 0 ∷
    9 ∷ 9 ∷ []

-- the number told, and the slice as it is left
abbrev pub Told : ℕ → ℕ → List ℕ → List ℕ → Type 0
Told number n after left = (number ≡ n) × (after ≡ left)

-- of the number told: the sheet written where there is room for it, without loose nodes, and the slice left alone after 14, 15 and 16
pub record Used (text before : List ℕ) (number : ℕ) (after : List ℕ) : Type 0 where
  pub written : text ≡ hollow → before ≡ lent 40 → Told number 0 after hollow_left
  pub swept : text ≡ filled_and_point → before ≡ lent 42 → Told number 0 after point_left
  pub malformed : text ≡ faulty_then_malformed → Told number 14 after before
  pub faulty : text ≡ twice → Told number 15 after before
  pub short : text ≡ hollow → before ≡ lent 33 → Told number 16 after before

-- the library's import, with the length that it answers
pub record LibraryUsed (text before : List ℕ) (r : Result ℕ Refusal) (after : List ℕ) : Type 0 where
  pub length-told : text ≡ hollow → before ≡ lent 40 → answered r ≡ done 34
  pub swept-length : text ≡ filled_and_point → before ≡ lent 42 → answered r ≡ done 40
  pub used : Used text before (number_told (answered r)) after
