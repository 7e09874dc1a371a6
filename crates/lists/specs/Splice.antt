-- A list with other elements put over its own from a place on, or from places at equal distances on.
use Rattle.std.specs.Prelude.{List, ◌++◌, ℕ, zero, suc, ◌+◌, ◌*◌, length, take, drop}

-- l with xs over its first elements, untouched past them
abbrev pub written : {A : Type 0} → List A → List A → List A
written xs l = xs ++ drop (length xs) l

-- l with xs over its elements from place `at` on
unfoldable pub splice {ℓ} : {A : Type ℓ} → ℕ → List A → List A → List A
splice at xs l = take at l ++ (xs ++ drop (at + length xs) l)

-- l with the first so many of the lists xs over its elements, list i from place i × apart on
unfoldable pub splices {ℓ} : {A : Type ℓ} → ℕ → (ℕ → List A) → ℕ → List A → List A
splices apart xs zero l = l
splices apart xs (suc i) l = splice (i * apart) (xs i) (splices apart xs i l)
