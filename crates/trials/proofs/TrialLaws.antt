-- What a call answers and leaves, by its first early and its first late check.
--     conclusion      the three cases: refused early, refused late, done
--     refused≢done    a refusal is not done
use mathlib.Core.Path.{◌≡◌, refl, subst}
use mathlib.Core.Logic.{◌≢◌}
use mathlib.Core.List.{List}
use Prim.Native.Nat.{ℕ, zero, suc}
use native.Mathlib.Nat.{suc-ne-zero}
use lib.IntN.{ℤ}
use Rattle.trials.specs.Trial.{Answer, done, refused, Called, cleared, concluded}

pub refused≢done : {A : Type 0} {k : ℕ} {carried : A} → refused k ≡ done carried → ⊥
refused≢done {A} e = subst Refused e tt
  where
    Refused : Answer A → Type 0
    Refused (done carried) = ⊥
    Refused (refused k) = Unit {0}

-- the three cases
pub data Conclusion {A B : Type 0} (early late : ℕ) (carried : A) (left output : List B) (work : List ℤ) (called : Called A B) : Type 0 where
  refused-early :
      early ≢ 0 → called ≡ record { answer = refused early; output = output; work = work } → Conclusion early late carried left output work called
  refused-late :
      early ≡ 0 → late ≢ 0 → called ≡ record { answer = refused late; output = output; work = cleared work } →
      Conclusion early late carried left output work called
  is-done :
      early ≡ 0 → late ≡ 0 → called ≡ record { answer = done carried; output = left; work = cleared work } →
      Conclusion early late carried left output work called

module _ {A B : Type 0} (carried : A) (left output : List B) (work : List ℤ) where
  pub conclusion : (early late : ℕ) → Conclusion early late carried left output work (concluded early late carried left output work)
  conclusion (suc k) late = refused-early (suc-ne-zero k) refl
  conclusion zero (suc k) = refused-late refl (suc-ne-zero k) refl
  conclusion zero zero = is-done refl refl refl
