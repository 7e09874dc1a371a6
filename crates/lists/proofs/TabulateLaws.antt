-- Laws of `tabulate`: length-tabulate, get_or-tabulate, get_or-tabulate-beyond, tabulate-ext, tabulate-get_or, set-tabulate, map-tabulate.
use mathlib.Core.Path.{◌≡◌, refl, ap, ap₂}
use mathlib.Core.Bool.{cond}
use mathlib.Core.List.{List, [], ◌∷◌, map}
use Prim.Native.Nat.{ℕ, zero, suc, ◌≤◌, ◌<◌, zero-le, suc-le-suc}
use native.Mathlib.Nat.{not-suc-le-zero, le_of_suc-le-suc}
use lib.Dec.{eqb, eqb-zero-suc, eqb-suc-zero, eqb-suc-suc}
use lib.ListN.{length, get_or, set}
use Rattle.lists.specs.Tabulate.{tabulate}

module _ {ℓ} {A : Type ℓ} where
  pub length-tabulate : (n : ℕ) (f : ℕ → A) → length (tabulate n f) ≡ n
  unfolding tabulate
  length-tabulate zero f = refl
  length-tabulate (suc n) f = ap suc (length-tabulate n (λ i. f (suc i)))

  -- place i below n holds f i
  pub get_or-tabulate : (n : ℕ) (f : ℕ → A) (i : ℕ) (d : A) → i < n → get_or (tabulate n f) i d ≡ f i
  unfolding tabulate
  get_or-tabulate zero f i d h = absurd (not-suc-le-zero h)
  get_or-tabulate (suc n) f zero d h = refl
  get_or-tabulate (suc n) f (suc i) d h = get_or-tabulate n (λ j. f (suc j)) i d (le_of_suc-le-suc h)

  pub get_or-tabulate-beyond : (n : ℕ) (f : ℕ → A) (i : ℕ) (d : A) → n ≤ i → get_or (tabulate n f) i d ≡ d
  unfolding tabulate
  get_or-tabulate-beyond zero f i d h = refl
  get_or-tabulate-beyond (suc n) f zero d h = absurd (not-suc-le-zero h)
  get_or-tabulate-beyond (suc n) f (suc i) d h = get_or-tabulate-beyond n (λ j. f (suc j)) i d (le_of_suc-le-suc h)

  pub tabulate-ext : (n : ℕ) (f g : ℕ → A) → ((i : ℕ) → i < n → f i ≡ g i) → tabulate n f ≡ tabulate n g
  unfolding tabulate
  tabulate-ext zero f g h = refl
  tabulate-ext (suc n) f g h =
      ap₂ ◌∷◌ (h zero (suc-le-suc zero-le)) (tabulate-ext n (λ i. f (suc i)) (λ i. g (suc i)) (λ i l. h (suc i) (suc-le-suc l)))

  -- a list is the table of its entries
  pub tabulate-get_or : (l : List A) (d : A) → tabulate (length l) (λ i. get_or l i d) ≡ l
  unfolding tabulate
  tabulate-get_or [] d = refl
  tabulate-get_or (x ∷ l) d = ap (λ (r : List A). x ∷ r) (tabulate-get_or l d)

  -- place i set to x
  pub set-tabulate : (n : ℕ) (f : ℕ → A) (i : ℕ) (x : A) → set (tabulate n f) i x ≡ tabulate n (λ a. cond (eqb a i) x (f a))
  unfolding tabulate
  set-tabulate zero f i x = refl
  set-tabulate (suc n) f zero x = simp eqb-suc-zero
  set-tabulate (suc n) f (suc i) x = simp (eqb-zero-suc, eqb-suc-suc, set-tabulate n (λ a. f (suc a)) i x)

pub map-tabulate {ℓ ℓ'} : {A : Type ℓ} {B : Type ℓ'} (g : A → B) (n : ℕ) (f : ℕ → A) → map g (tabulate n f) ≡ tabulate n (λ i. g (f i))
unfolding tabulate
map-tabulate g zero f = refl
map-tabulate g (suc n) f = ap (λ r. g (f 0) ∷ r) (map-tabulate g n (λ i. f (suc i)))
