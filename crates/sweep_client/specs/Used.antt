-- What the sweeps answer and leave on sheets and slices written out: a sheet and the bytes past it, and refusals.
use Rattle.std.specs.Prelude.{◌≡◌, List, [], ◌∷◌, ℕ, Result}
use Rattle.trials.specs.Trial.{done, number_told}
use Rattle.sheet_format.specs.OrderCases.{face_and_loose_node, edge_and_node}
use Rattle.sweeps.specs.Cases.{lent}
use Rattle.refusal.specs.Written.{answered}
use Rattle.refusal.specs.declared.Refusal.{Refusal}

-- the sheet of the edge 02, 24 bytes, without the loose node 1, and 6 of the 30 bytes lent
abbrev pub edge_left : List ℕ
edge_left =
    2 ∷ 0 ∷ 16 ∷ 0 ∷ 1 ∷ 0 ∷ 20 ∷ 0 ∷ 0 ∷ 0 ∷ 24 ∷ 0 ∷ 0 ∷ 0 ∷ 24 ∷ 0 ∷
    0 ∷ 0 ∷ 2 ∷ 0 ∷
    0 ∷ 0 ∷ 2 ∷ 0 ∷
    9 ∷ 9 ∷ 9 ∷ 9 ∷ 9 ∷ 9 ∷ []

-- the number told, and the slice as it is left
abbrev pub Told : ℕ → ℕ → List ℕ → List ℕ → Type 0
Told number n after left = (number ≡ n) × (after ≡ left)

-- of the number told: the sheet written where there is room for it, and the slice left alone after 7 and 16
pub record Used (sheet before : List ℕ) (number : ℕ) (after : List ℕ) : Type 0 where
  pub swept : sheet ≡ edge_and_node → before ≡ lent 30 → Told number 0 after edge_left
  pub face : sheet ≡ face_and_loose_node → Told number 7 after before
  pub short : sheet ≡ edge_and_node → before ≡ lent 23 → Told number 16 after before

-- the library's sweep, with the length that it answers
pub record LibraryUsed (sheet before : List ℕ) (r : Result ℕ Refusal) (after : List ℕ) : Type 0 where
  pub length-told : sheet ≡ edge_and_node → before ≡ lent 30 → answered r ≡ done 24
  pub used : Used sheet before (number_told (answered r)) after
