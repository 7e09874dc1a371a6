-- Reading step by step: what a success of `then` and of `cond` comes from, and where it ends.
--     then-case, cond-split                  a success is a success of every step
--     EndsWithin, then-within, cond-within   what is read ends within the text, no earlier than said
--     then-ext, cond-ext                     steps that agree where they are reached read alike
--     Repeats                                node_lines and element_lines read so many lines of one sort
use mathlib.Core.Path.{◌≡◌, refl, sym, subst}
use mathlib.Core.Bool.{Bool, true, false, cond}
use mathlib.Core.List.{List, [], ◌∷◌}
use Prim.Native.Nat.{ℕ, suc, ◌≤◌}
use native.Mathlib.Omega.{arith}
use lib.ListN.{length}
use Rattle.mesh_format.specs.Parse.{Parsed, malformed, parsed, then, node_line, node_lines, element_line, element_lines}

-- ---- successes

abbrev Succeeds : {A : Type 0} → Parsed A → Type 0
Succeeds malformed = ⊥
Succeeds (parsed x next) = Unit {0}

pub malformed-fails : {A : Type 0} {x : A} {next : ℕ} → malformed ≡ parsed x next → ⊥
malformed-fails e = subst Succeeds (sym e) tt

pub parsed-inj : {A : Type 0} {x y : A} {a b : ℕ} → parsed x a ≡ parsed y b → (x ≡ y) × (a ≡ b)
parsed-inj {x} {y} {a} {b} e = let value : x ≡ y = cc in let ends : a ≡ b = cc in (value, ends)

-- where reading on succeeds, the first step has read some x up to `mid`, and the next goes on from there
pub then-case : {A B : Type 0} (p : Parsed A) {f : A → ℕ → Parsed B} {y : B} {next : ℕ} {C : Type 0} → then p f ≡ parsed y next
    → ((x : A) (mid : ℕ) → p ≡ parsed x mid → f x mid ≡ parsed y next → C)
    → C
unfolding then
then-case malformed e k = absurd (malformed-fails e)
then-case (parsed x mid) e k = k x mid refl e

pub cond-split : {A : Type 0} (b : Bool) {p : Parsed A} {x : A} {next : ℕ} → cond b p malformed ≡ parsed x next → (b ≡ true) × (p ≡ parsed x next)
cond-split true e = (refl, e)
cond-split false e = absurd (malformed-fails e)

-- ---- agreement

pub cond-ext : {A : Type 0} (b : Bool) {p q p' q' : A} → (b ≡ true → p ≡ p') → (b ≡ false → q ≡ q') → cond b p q ≡ cond b p' q'
cond-ext true h k = h refl
cond-ext false h k = k refl

-- ---- where reading ends

-- the position lies in the text or at its end, and no earlier than `least`
pub record Within (least : ℕ) (s : List ℕ) (next : ℕ) : Type 0 where
  pub past : least ≤ next
  pub inside : next ≤ length s

-- what is read ends so
pub record EndsWithin {A : Type 0} (least : ℕ) (s : List ℕ) (p : Parsed A) : Type 0 where
  pub ends : (x : A) (next : ℕ) → p ≡ parsed x next → Within least s next

module _ {A : Type 0} {s : List ℕ} where
  pub malformed-within : {least : ℕ} → EndsWithin {A = A} least s malformed
  malformed-within = record { ends = λ x next e. absurd (malformed-fails e) }

  pub parsed-within : {least at : ℕ} {x : A} → Within least s at → EndsWithin least s (parsed x at)
  parsed-within h = record { ends = λ y next e. rw (parsed-inj e).1 at h }

  -- past the end of the text nothing is read
  pub past-within : {at : ℕ} (p : Parsed A) → EndsWithin (suc at) s p → length s ≤ at → p ≡ malformed
  past-within malformed h l = refl
  past-within (parsed x next) h l = absurd (let w = h.ends x next refl in omega (arith, w.past, w.inside))

  pub from-within : {least more : ℕ} {p : Parsed A} → least ≤ more → EndsWithin more s p → EndsWithin least s p
  from-within le h = record {
    ends = λ x next e. let w = h.ends x next e in record { past = omega (arith, w.past); inside = w.inside };
  }

  pub later-within : {least : ℕ} {p : Parsed A} → EndsWithin (suc least) s p → EndsWithin least s p
  later-within h = from-within (omega arith) h

  pub cond-within : {least : ℕ} (b : Bool) {p q : Parsed A}
      → (b ≡ true → EndsWithin least s p) → (b ≡ false → EndsWithin least s q) → EndsWithin least s (cond b p q)
  cond-within true h k = h refl
  cond-within false h k = k refl

  module _ {B : Type 0} {least : ℕ} {p : Parsed A} (h : EndsWithin least s p) where
    -- what goes on from a position ends there or later
    pub then-within : {f : A → ℕ → Parsed B} → ((x : A) (mid : ℕ) → mid ≤ length s → EndsWithin mid s (f x mid)) → EndsWithin least s (then p f)
    then-within {f} k = record {
      ends = λ y next e. then-case p e (λ x mid r q.
          let v : Within least s mid = h.ends x mid r in
          let w : Within mid s next = (k x mid v.inside).ends y next q in
          record { past = omega (arith, v.past, w.past); inside = w.inside });
    }

pub then-ext : {A B : Type 0} {least : ℕ} {s : List ℕ} (p : Parsed A) {f g : A → ℕ → Parsed B}
    → EndsWithin least s p → ((x : A) (mid : ℕ) → Within least s mid → f x mid ≡ g x mid) → then p f ≡ then p g
unfolding then
then-ext malformed h k = refl
then-ext (parsed x mid) h k = k x mid (h.ends x mid refl)

-- ---- lines of one sort

-- `lines n` reads n times what `line` reads
pub record Repeats {A : Type 0} (line : List ℕ → ℕ → Parsed A) (lines : ℕ → List ℕ → ℕ → Parsed (List A)) : Type 0 where
  pub none : (s : List ℕ) (at : ℕ) → lines 0 s at ≡ parsed [] at
  pub more : (n : ℕ) (s : List ℕ) (at : ℕ) → lines (suc n) s at ≡ then (line s at) (λ x a. then (lines n s a) (λ xs b. parsed (x ∷ xs) b))

pub node_lines-repeats : Repeats node_line node_lines
unfolding node_lines
node_lines-repeats = record { none = λ s at. refl; more = λ n s at. refl }

pub element_lines-repeats : Repeats element_line element_lines
unfolding element_lines
element_lines-repeats = record { none = λ s at. refl; more = λ n s at. refl }
