-- The checks 1 to 7 in the order of trial.
--     begun, passed          before the first, and after one that tells no fault
--     refuses, accepts       at a check that tells a fault, and after the last
use mathlib.Core.Path.{◌≡◌, refl, sym}
use mathlib.Core.Bool.{Bool, true, false}
use mathlib.Core.List.{List, [], ◌∷◌}
use Prim.Native.Nat.{ℕ}
use Rattle.std.specs.Prelude.{Ok, Err}
use Rattle.trials.specs.Trial.{first_refusal}
use Rattle.sheet_format.specs.Check.{complex_checks, complex_refusal}
use Rattle.sheet_format.specs.Sheet.{Bytes}
use Rattle.refusal.specs.Number.{number_of}
use Rattle.refusal.specs.declared.Refusal.{Refusal}
use Rattle.sheet.specs.Number.{ReadsComplex}

-- b is a slice of bytes, and no check before the list `left` tells a fault
pub record Untold (limit : ℕ) (b : List ℕ) (left : List (ℕ × Bool)) : Type 0 where
  pub bytes : Bytes b
  pub is : complex_refusal limit b ≡ first_refusal left

pub begun : {limit : ℕ} {b : List ℕ} → Bytes b → Untold limit b (complex_checks limit b)
unfolding complex_refusal
begun bytes = record { bytes = bytes; is = refl }

module _ {limit : ℕ} {b : List ℕ} where
  pub passed : {k : ℕ} {fault : Bool} {left : List (ℕ × Bool)} → Untold limit b ((k, fault) ∷ left) → fault ≡ false → Untold limit b left
  passed u e = record { bytes = u.bytes; is = rw e at u.is }

  pub refuses : {fault : Bool} {left : List (ℕ × Bool)} (x : Refusal) → Untold limit b ((number_of x, fault) ∷ left) → fault ≡ true
      → ReadsComplex limit b (Err x)
  refuses x u e = record { number = sym (rw e at u.is); bytes = u.bytes }

  pub accepts : Untold limit b [] → ReadsComplex limit b (Ok tt)
  accepts u = record { number = sym u.is; bytes = u.bytes }
