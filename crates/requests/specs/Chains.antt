-- The checks 10 to 12 of a chain, and of many in one slice: document 01, "The report and the coordinates"; document 02, Notes 1 and 6. K lists the cells.
use Rattle.std.specs.Prelude.{◌≡◌, Bool, not, List, [], ◌∷◌, ◌++◌, ℕ, zero, suc, ◌*◌, ◌<◌, eqb, ltb, length, get_or, take, drop, ℤ, pos, nat_abs}
use Rattle.matrices.specs.Vector.{apply}
use Rattle.complexes.specs.Complex.{Sections, count}
use Rattle.complexes.specs.Boundary.{count_below, boundary}
use Rattle.sheet_format.specs.Check.{some}

-- 10: the chain's length is not n_p
abbrev pub chain_length_differs : Sections → ℕ → List ℤ → Bool
chain_length_differs K p z = not (eqb (length z) (count K p))

-- 11: a coefficient lies outside the limit
unfoldable pub coefficient_exceeds : ℕ → List ℤ → Bool
coefficient_exceeds limit z = some (length z) (λ i. ltb limit (nat_abs (get_or z i (pos 0))))

-- 12: the chain has a nonzero boundary
unfoldable pub boundary_not_zero : Sections → ℕ → List ℤ → Bool
boundary_not_zero K p z =
    some (count_below K p) (λ i. not (eqb (nat_abs (apply (count K p) (boundary K p) (λ j. get_or z j (pos 0)) i)) 0))

-- 11 and 12, for a chain z at a coefficient limit
abbrev pub cycle_checks : ℕ → Sections → ℕ → List ℤ → List (ℕ × Bool)
cycle_checks limit K p z = (11, coefficient_exceeds limit z) ∷ (12, boundary_not_zero K p z) ∷ []

-- 10 to 12
unfoldable pub chain_checks : ℕ → Sections → ℕ → List ℤ → List (ℕ × Bool)
chain_checks limit K p z = (10, chain_length_differs K p z) ∷ cycle_checks limit K p z

-- ---- many chains, one after another

-- chain i, of n coefficients
abbrev pub chain_at : ℕ → List ℤ → ℕ → List ℤ
chain_at n chains i = take n (drop (i * n) chains)

-- 10: there are not `many` × n_p coefficients
abbrev pub chains_length_differs : Sections → ℕ → ℕ → List ℤ → Bool
chains_length_differs K p many chains = not (eqb (length chains) (many * count K p))

-- 11 and 12, at a coefficient limit, of a number of chains from the first on, chain by chain: the first faulty chain decides, and in it 11 comes first
unfoldable pub cycles_checks : ℕ → Sections → ℕ → ℕ → List ℤ → List (ℕ × Bool)
cycles_checks limit K p zero chains = []
cycles_checks limit K p (suc i) chains = cycles_checks limit K p i chains ++ cycle_checks limit K p (chain_at (count K p) chains i)

-- 10 to 12
unfoldable pub chains_checks : ℕ → Sections → ℕ → ℕ → List ℤ → List (ℕ × Bool)
chains_checks limit K p many chains = (10, chains_length_differs K p many chains) ∷ cycles_checks limit K p many chains

-- how many of so many chains have coefficients, of n each
abbrev pub nonempty : ℕ → ℕ → ℕ
nonempty many zero = 0
nonempty many (suc n) = many

-- `fault i` is the number told of chain i, 0 for none: k is the first of them that is not 0
pub record FirstFault (fault : ℕ → ℕ) (many k : ℕ) : Type 0 where
  pub place : ℕ
  pub within : place < many
  pub told : fault place ≡ k
  pub earlier : (i : ℕ) → i < place → fault i ≡ 0
