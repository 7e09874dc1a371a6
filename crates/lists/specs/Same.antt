-- Tests that compute over tables of examples: `every`, and `same_number`, `same_list` with what passes them is equal.
use Rattle.std.specs.Prelude.{Bool, true, false, ◌&&◌, List, [], ◌∷◌, ◌≡◌, refl, T, eqb, ℤ, pos, negsuc}
use Rattle.std.proofs.Common.{ap, ap₂, eqb→eq}

-- the test passes for every element
unfoldable pub every : {A : Type 0} → (A → Bool) → List A → Bool
every test [] = true
every test (x ∷ l) = test x && every test l

unfoldable pub same_number : ℤ → ℤ → Bool
same_number (pos a) (pos b) = eqb a b
same_number (pos a) (negsuc b) = false
same_number (negsuc a) (pos b) = false
same_number (negsuc a) (negsuc b) = eqb a b

unfoldable pub same_list : {A : Type 0} → (A → A → Bool) → List A → List A → Bool
same_list same [] [] = true
same_list same [] (y ∷ ys) = false
same_list same (x ∷ xs) [] = false
same_list same (x ∷ xs) (y ∷ ys) = same x y && same_list same xs ys

-- ---- what passes them is equal

pub both : (a b : Bool) → T (a && b) → T a × T b
both true b t = (tt, t)
both false b t = absurd t

pub same_number-eq : (x y : ℤ) → T (same_number x y) → x ≡ y
unfolding same_number
same_number-eq (pos a) (pos b) t = ap pos (eqb→eq a b t)
same_number-eq (pos a) (negsuc b) t = absurd t
same_number-eq (negsuc a) (pos b) t = absurd t
same_number-eq (negsuc a) (negsuc b) t = ap negsuc (eqb→eq a b t)

pub same_list-eq : {A : Type 0} (same : A → A → Bool) → ((x y : A) → T (same x y) → x ≡ y) → (xs ys : List A) → T (same_list same xs ys) → xs ≡ ys
unfolding same_list
same_list-eq same eq [] [] t = refl
same_list-eq same eq [] (y ∷ ys) t = absurd t
same_list-eq same eq (x ∷ xs) [] t = absurd t
same_list-eq same eq (x ∷ xs) (y ∷ ys) t =
    let p : T (same x y) × T (same_list same xs ys) = both (same x y) (same_list same xs ys) t in
    ap₂ (λ z zs. z ∷ zs) (eq x y p.0) (same_list-eq same eq xs ys p.1)
