-- What the sweep answers, from what its parts tell.
--     sweep-refused, sweep-passed     a sheet that is refused, and one to which none of the checks 1 to 7 applies
--     counts-small                     the counts of such a sheet are within the library's limit
use mathlib.Core.Path.{◌≡◌, refl, ap}
use mathlib.Core.List.{List, [], ◌∷◌}
use Prim.Native.Nat.{ℕ, zero, suc, ◌≤◌}
use native.Mathlib.Nat.{le_trans}
use native.Mathlib.Decide.{dec_le}
use native.Mathlib.Omega.{arith}
use lib.Dec.{ltb}
use lib.ListN.{length}
use Rattle.std.specs.Prelude.{Result, Err}
use Rattle.limits.specs.Limits.{library_limit}
use Rattle.trials.specs.Trial.{first_refusal, refused}
use Rattle.trials.specs.Write.{answer_with}
use Rattle.trials.proofs.FirstLaws.{first-append-told, first-append-passed}
use Rattle.sheet_format.specs.Layout.{top}
use Rattle.sheet_format.specs.Check.{count_field, sections_of, complex_checks, complex_refusal}
use Rattle.sheet_format.specs.CheckLaws.{complex-zero, count_exceeds-false}
use Rattle.sheet_format.specs.SheetLaws.{count_field-out}
use Rattle.refusal.specs.Number.{number_of}
use Rattle.refusal.specs.NumberLaws.{number-positive}
use Rattle.refusal.specs.Written.{WriteAnswers}
use Rattle.refusal.specs.declared.Refusal.{Refusal}
use Rattle.cell_keeper.specs.Keeps.{write_over}
use Rattle.sweeps.specs.Sweep.{swept_sheet, sweep_call}

module _ (limit : ℕ) (b slice : List ℕ) where
  -- the number told, where it is not 0
  pub sweep-refused : (x : Refusal) → number_of x ≡ complex_refusal limit b → WriteAnswers (sweep_call limit b slice) (Err x) slice
  unfolding sweep_call complex_refusal answer_with
  sweep-refused x e =
      rw (first-append-told (complex_checks limit b) ((16, ltb (length slice) (length (swept_sheet (sections_of b)))) ∷ []) refl (λ z. omega (arith, number-positive x, e, z)))
      (told (first_refusal (complex_checks limit b)) e)
    where
      told : (k : ℕ) → number_of x ≡ k → WriteAnswers (answer_with k (swept_sheet (sections_of b)) slice) (Err x) slice
      told zero e = absurd (omega (arith, number-positive x, e))
      told (suc k) e = record { answer = ap refused e; output-is = refl }

  pub sweep-passed : complex_refusal limit b ≡ 0 → {r : Result ℕ Refusal} {after : List ℕ} → WriteAnswers (write_over (swept_sheet (sections_of b)) slice) r after
      → WriteAnswers (sweep_call limit b slice) r after
  unfolding sweep_call complex_refusal
  sweep-passed e w = rw (first-append-passed (complex_checks limit b) ((16, ltb (length slice) (length (swept_sheet (sections_of b)))) ∷ []) refl e) w

pub counts-small : (limit : ℕ) (b : List ℕ) → limit ≤ library_limit → complex_refusal limit b ≡ 0 → (p : ℕ) → count_field b p ≤ library_limit
counts-small limit b small e p = pick (dec_le p top)
  where
    pick : Dec (p ≤ top) → count_field b p ≤ library_limit
    pick (yes l) = le_trans ((count_exceeds-false limit b).0 ((complex-zero limit b).0 e).counts p l) small
    pick (no l) = omega (arith, count_field-out b p (omega arith))
