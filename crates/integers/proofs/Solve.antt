-- Ring identities over the whole numbers, proved by comparing normal forms.
-- `solve ρ (search terms depth 16) tt : a ≡ b`, where ρ lists the variables and `search` finds the two terms that stand for a and b:
--     (a b c : ℤ) → a *ℤ (b -ℤ c) ≡ neg_ℤ (c *ℤ a) +ℤ b *ℤ a
--     λ a b c. solve (a ∷ b ∷ c ∷ []) (search terms depth 16) tt
--     (a : ℤ) → (a +ℤ pos 1) *ℤ (a -ℤ pos 1) ≡ a *ℤ a -ℤ pos 1
--     λ a. solve (a ∷ []) (search terms depth 16) tt
-- It knows +ℤ, -ℤ, *ℤ, neg_ℤ, numerals, and the entries of ρ. State an identity over variables and instantiate it.
-- Where `tt` does not fit, the identity is false. For six variables and more write `search terms depth 16 fits 4000`.
use mathlib.Core.Path.{◌≡◌, refl, sym, ◌∙◌, ap}
use mathlib.Core.List.{List, [], ◌∷◌, tail}
use mathlib.Core.Bool.{Bool, true, false, ◌&&◌}
use Prim.Native.Nat.{ℕ, zero, suc}
use lib.Dec.{T}
use lib.Ieee.Fits.{and_l, and_r}
use lib.IntN.{ℤ, pos, negsuc, neg_ℤ, ◌+ℤ◌, ◌-ℤ◌, ◌*ℤ◌, -ℤ-+ℤ_cancel}
use Rattle.integers.proofs.Ring.{add_assoc, add_comm, add_left_comm, zero-add, add-zero, neg-add, mul_assoc, mul_left_comm, mul-one, mul-zero, mul-add, add-mul, mul-neg}

-- ---- terms, each with its value

-- x stands in ρ
pub data Var : List ℤ → ℤ → Type 0 where
  here : {x : ℤ} {ρ : List ℤ} → Var (x ∷ ρ) x
  there : {x y : ℤ} {ρ : List ℤ} → Var ρ x → Var (y ∷ ρ) x

pub data Term (ρ : List ℤ) : ℤ → Type 0 where
  var : {x : ℤ} → Var ρ x → Term ρ x
  number : (n : ℕ) → Term ρ (pos n)
  negative : (n : ℕ) → Term ρ (negsuc n)
  minus : {a : ℤ} → Term ρ a → Term ρ (neg_ℤ a)
  plus : {a b : ℤ} → Term ρ a → Term ρ b → Term ρ (a +ℤ b)
  times : {a b : ℤ} → Term ρ a → Term ρ b → Term ρ (a *ℤ b)

-- the two sides of an equation
pub data Sides (ρ : List ℤ) : ℤ → ℤ → Type 0 where
  sides : {a b : ℤ} → Term ρ a → Term ρ b → Sides ρ a b

-- what `search` builds the two sides from, the operations first
pub ruleset terms = (sides, plus, times, minus, var, here, there, number, negative)

-- ---- polynomials in Horner's form: `step p q` is p + x·q, where x is the first variable and p has only the others

pub data Poly : Type 0 where
  const : ℤ → Poly
  step : Poly → Poly → Poly

abbrev pub first : List ℤ → ℤ
first [] = pos 0
first (x ∷ ρ) = x

abbrev pub value : List ℤ → Poly → ℤ
value ρ (const c) = c
value ρ (step p q) = value (tail ρ) p +ℤ first ρ *ℤ value ρ q

abbrev pub poly-shift : ℤ → Poly → Poly
poly-shift c (const d) = const (c +ℤ d)
poly-shift c (step p q) = step (poly-shift c p) q

abbrev pub poly-add : Poly → Poly → Poly
poly-add (const c) q = poly-shift c q
poly-add (step p q) (const c) = step (poly-shift c p) q
poly-add (step p q) (step r s) = step (poly-add p r) (poly-add q s)

abbrev pub poly-scale : ℤ → Poly → Poly
poly-scale c (const d) = const (c *ℤ d)
poly-scale c (step p q) = step (poly-scale c p) (poly-scale c q)

abbrev pub poly-neg : Poly → Poly
poly-neg (const c) = const (neg_ℤ c)
poly-neg (step p q) = step (poly-neg p) (poly-neg q)

-- the product by a polynomial without the first variable, from the product f by it among such
abbrev pub poly-lift : (Poly → Poly) → Poly → Poly
poly-lift f (const c) = step (f (const c)) (const (pos 0))
poly-lift f (step p q) = step (f p) (poly-lift f q)

abbrev pub poly-mul : Poly → Poly → Poly
poly-mul (const c) r = poly-scale c r
poly-mul (step p q) r = poly-add (poly-lift (λ s. poly-mul p s) r) (step (const (pos 0)) (poly-mul q r))

abbrev pub poly-var : {ρ : List ℤ} {x : ℤ} → Var ρ x → Poly
poly-var here = step (const (pos 0)) (const (pos 1))
poly-var (there v) = step (poly-var v) (const (pos 0))

abbrev pub poly : {ρ : List ℤ} {a : ℤ} → Term ρ a → Poly
poly (var v) = poly-var v
poly (number n) = const (pos n)
poly (negative n) = const (negsuc n)
poly (minus s) = poly-neg (poly s)
poly (plus s t) = poly-add (poly s) (poly t)
poly (times s t) = poly-mul (poly s) (poly t)

abbrev pub zero_ℤ : ℤ → Bool
zero_ℤ (pos zero) = true
zero_ℤ (pos (suc n)) = false
zero_ℤ (negsuc n) = false

abbrev pub poly-zero : Poly → Bool
poly-zero (const c) = zero_ℤ c
poly-zero (step p q) = poly-zero p && poly-zero q

-- ---- the operations have the values that they should

add-add : (a b c d : ℤ) → a +ℤ b +ℤ (c +ℤ d) ≡ a +ℤ c +ℤ (b +ℤ d)
add-add a b c d = add_assoc a b (c +ℤ d) ∙ ap (λ (x : ℤ). a +ℤ x) (add_left_comm b c d) ∙ sym (add_assoc a c (b +ℤ d))

value-shift : (ρ : List ℤ) (c : ℤ) (p : Poly) → value ρ (poly-shift c p) ≡ c +ℤ value ρ p
value-shift ρ c (const d) = refl
value-shift ρ c (step p q) =
    ap (λ (x : ℤ). x +ℤ first ρ *ℤ value ρ q) (value-shift (tail ρ) c p) ∙ add_assoc c (value (tail ρ) p) (first ρ *ℤ value ρ q)

value-add : (ρ : List ℤ) (p q : Poly) → value ρ (poly-add p q) ≡ value ρ p +ℤ value ρ q
value-add ρ (const c) q = value-shift ρ c q
value-add ρ (step p q) (const c) =
    value-shift ρ c (step p q) ∙ add_comm c (value ρ (step p q))
value-add ρ (step p q) (step r s) =
    ap (λ (x : ℤ). x +ℤ first ρ *ℤ value ρ (poly-add q s)) (value-add (tail ρ) p r)
    ∙ ap (λ (x : ℤ). value (tail ρ) p +ℤ value (tail ρ) r +ℤ first ρ *ℤ x) (value-add ρ q s)
    ∙ ap (λ (x : ℤ). value (tail ρ) p +ℤ value (tail ρ) r +ℤ x) (mul-add (first ρ) (value ρ q) (value ρ s))
    ∙ add-add (value (tail ρ) p) (value (tail ρ) r) (first ρ *ℤ value ρ q) (first ρ *ℤ value ρ s)

value-scale : (ρ : List ℤ) (c : ℤ) (p : Poly) → value ρ (poly-scale c p) ≡ c *ℤ value ρ p
value-scale ρ c (const d) = refl
value-scale ρ c (step p q) =
    ap (λ (x : ℤ). x +ℤ first ρ *ℤ value ρ (poly-scale c q)) (value-scale (tail ρ) c p)
    ∙ ap (λ (x : ℤ). c *ℤ value (tail ρ) p +ℤ first ρ *ℤ x) (value-scale ρ c q)
    ∙ ap (λ (x : ℤ). c *ℤ value (tail ρ) p +ℤ x) (mul_left_comm (first ρ) c (value ρ q))
    ∙ sym (mul-add c (value (tail ρ) p) (first ρ *ℤ value ρ q))

value-neg : (ρ : List ℤ) (p : Poly) → value ρ (poly-neg p) ≡ neg_ℤ (value ρ p)
value-neg ρ (const c) = refl
value-neg ρ (step p q) =
    ap (λ (x : ℤ). x +ℤ first ρ *ℤ value ρ (poly-neg q)) (value-neg (tail ρ) p)
    ∙ ap (λ (x : ℤ). neg_ℤ (value (tail ρ) p) +ℤ first ρ *ℤ x) (value-neg ρ q)
    ∙ ap (λ (x : ℤ). neg_ℤ (value (tail ρ) p) +ℤ x) (mul-neg (first ρ) (value ρ q))
    ∙ sym (neg-add (value (tail ρ) p) (first ρ *ℤ value ρ q))

value-lift : (ρ : List ℤ) (c : ℤ) (f : Poly → Poly) → ((s : Poly) → value (tail ρ) (f s) ≡ c *ℤ value (tail ρ) s) → (r : Poly) → value ρ (poly-lift f r) ≡ c *ℤ value ρ r
value-lift ρ c f h (const d) =
    ap (λ (x : ℤ). value (tail ρ) (f (const d)) +ℤ x) (mul-zero (first ρ)) ∙ add-zero (value (tail ρ) (f (const d))) ∙ h (const d)
value-lift ρ c f h (step p q) =
    ap (λ (x : ℤ). x +ℤ first ρ *ℤ value ρ (poly-lift f q)) (h p)
    ∙ ap (λ (x : ℤ). c *ℤ value (tail ρ) p +ℤ first ρ *ℤ x) (value-lift ρ c f h q)
    ∙ ap (λ (x : ℤ). c *ℤ value (tail ρ) p +ℤ x) (mul_left_comm (first ρ) c (value ρ q))
    ∙ sym (mul-add c (value (tail ρ) p) (first ρ *ℤ value ρ q))

value-mul : (ρ : List ℤ) (p r : Poly) → value ρ (poly-mul p r) ≡ value ρ p *ℤ value ρ r
value-mul ρ (const c) r = value-scale ρ c r
value-mul ρ (step p q) r =
    value-add ρ (poly-lift (λ s. poly-mul p s) r) (step (const (pos 0)) (poly-mul q r))
    ∙ ap (λ (x : ℤ). x +ℤ value ρ (step (const (pos 0)) (poly-mul q r))) (value-lift ρ (value (tail ρ) p) (λ s. poly-mul p s) (λ s. value-mul (tail ρ) p s) r)
    ∙ ap (λ (x : ℤ). value (tail ρ) p *ℤ value ρ r +ℤ x) (zero-add (first ρ *ℤ value ρ (poly-mul q r)))
    ∙ ap (λ (x : ℤ). value (tail ρ) p *ℤ value ρ r +ℤ first ρ *ℤ x) (value-mul ρ q r)
    ∙ ap (λ (x : ℤ). value (tail ρ) p *ℤ value ρ r +ℤ x) (sym (mul_assoc (first ρ) (value ρ q) (value ρ r)))
    ∙ sym (add-mul (value (tail ρ) p) (first ρ *ℤ value ρ q) (value ρ r))

value-var : {ρ : List ℤ} {x : ℤ} (v : Var ρ x) → value ρ (poly-var v) ≡ x
value-var (here {x}) = zero-add (x *ℤ pos 1) ∙ mul-one x
value-var (there {x} {y} {ρ} v) = ap (λ (z : ℤ). value ρ (poly-var v) +ℤ z) (mul-zero y) ∙ add-zero (value ρ (poly-var v)) ∙ value-var v

value-poly : {ρ : List ℤ} {a : ℤ} (t : Term ρ a) → value ρ (poly t) ≡ a
value-poly (var v) = value-var v
value-poly (number n) = refl
value-poly (negative n) = refl
value-poly {ρ} (minus s) = value-neg ρ (poly s) ∙ ap neg_ℤ (value-poly s)
value-poly {ρ} (plus {a} {b} s t) =
    value-add ρ (poly s) (poly t) ∙ ap (λ (x : ℤ). x +ℤ value ρ (poly t)) (value-poly s) ∙ ap (λ (x : ℤ). a +ℤ x) (value-poly t)
value-poly {ρ} (times {a} {b} s t) =
    value-mul ρ (poly s) (poly t) ∙ ap (λ (x : ℤ). x *ℤ value ρ (poly t)) (value-poly s) ∙ ap (λ (x : ℤ). a *ℤ x) (value-poly t)

zero_ℤ-eq : (c : ℤ) → T (zero_ℤ c) → c ≡ pos 0
zero_ℤ-eq (pos zero) t = refl
zero_ℤ-eq (pos (suc n)) t = absurd t
zero_ℤ-eq (negsuc n) t = absurd t

value-zero : (ρ : List ℤ) (p : Poly) → T (poly-zero p) → value ρ p ≡ pos 0
value-zero ρ (const c) t = zero_ℤ-eq c t
value-zero ρ (step p q) t =
    ap (λ (x : ℤ). x +ℤ first ρ *ℤ value ρ q) (value-zero (tail ρ) p (and_l (poly-zero p) (poly-zero q) t))
    ∙ zero-add (first ρ *ℤ value ρ q)
    ∙ ap (λ (x : ℤ). first ρ *ℤ x) (value-zero ρ q (and_r (poly-zero p) (poly-zero q) t))
    ∙ mul-zero (first ρ)

abbrev pub difference : {ρ : List ℤ} {a b : ℤ} → Sides ρ a b → Poly
difference (sides s t) = poly-add (poly s) (poly-neg (poly t))

-- two sides whose difference is the polynomial zero are equal
pub solve : (ρ : List ℤ) {a b : ℤ} (s : Sides ρ a b) → T (poly-zero (difference s)) → a ≡ b
solve ρ (sides {a} {b} s t) h =
    sym (-ℤ-+ℤ_cancel a b)
    ∙ ap (λ (x : ℤ). x +ℤ b) (sym (value-poly (plus s (minus t))) ∙ value-zero ρ (poly (plus s (minus t))) h)
    ∙ zero-add b

-- ---- examples

sub-mul-mul : (a b c q : ℤ) → (a -ℤ q *ℤ b) *ℤ c ≡ a *ℤ c -ℤ q *ℤ (b *ℤ c)
sub-mul-mul a b c q = solve (a ∷ b ∷ c ∷ q ∷ []) (search terms depth 16) tt

square-sub : (a : ℤ) → (a +ℤ pos 1) *ℤ (a -ℤ pos 1) ≡ a *ℤ a -ℤ pos 1
square-sub a = solve (a ∷ []) (search terms depth 16) tt

neg-sub : (a b : ℤ) → neg_ℤ (a -ℤ b) ≡ b -ℤ a
neg-sub a b = solve (a ∷ b ∷ []) (search terms depth 16) tt

cube-add : (a b : ℤ) → (a +ℤ b) *ℤ (a +ℤ b) *ℤ (a +ℤ b) ≡ a *ℤ a *ℤ a +ℤ pos 3 *ℤ (a *ℤ a *ℤ b) +ℤ pos 3 *ℤ (a *ℤ b *ℤ b) +ℤ b *ℤ b *ℤ b
cube-add a b = solve (a ∷ b ∷ []) (search terms depth 16) tt
