-- A part of a slice of zeros is lent, and comes back with the rest behind it: part-zeros, rest-zeros, zero-behind. What the first reduction leaves in
-- the part, it leaves in the slice: done-whole, cleared-whole.
use mathlib.Core.Path.{◌≡◌, refl, sym, ◌∙◌, ap}
use mathlib.Core.List.{List, [], ◌∷◌, ◌++◌}
use Prim.Native.Nat.{ℕ, zero, suc, ◌+◌, ◌-◌, ◌≤◌}
use native.Mathlib.Omega.{arith}
use lib.IntN.{ℤ, pos}
use lib.ListN.{length, take, drop, replicate, length-append, length-replicate, replicate-append-replicate, get_or-eq_default}
use Rattle.reduction_laws.specs.Tables.{table-ext}
use Rattle.reduction_steps.specs.Step.{Machine, done}
use Rattle.refusal.specs.declared.Refusal.{Refusal}
use Rattle.passes.specs.PassAnswers.{Cleared}
use Rattle.reducer.specs.StageAnswers.{ReductionDone}
use Rattle.integers.specs.Slot.{slot}
use Rattle.matrix_lines.specs.Slice.{line_at, Under}
use Rattle.matrix_lines.specs.declared.matrix.Matrix.{Matrix}
use Rattle.operations.specs.Laid.{lines_of, state_of}
use Rattle.operations.specs.declared.workspace.Workspace.{Workspace}
use Rattle.two_reductions.specs.Slices.{ZeroFrom}
use Rattle.two_reductions.proofs.Filling.{state-is}

abbrev pub zeros : ℕ → List ℤ
zeros n = replicate n (pos 0)

pub part-zeros : (m n : ℕ) → take m (zeros n) ≡ zeros (length (take m (zeros n)))
part-zeros zero n = refl
part-zeros (suc m) zero = refl
part-zeros (suc m) (suc n) = ap (λ (l : List ℤ). pos 0 ∷ l) (part-zeros m n)

pub rest-zeros : (m n : ℕ) → drop m (zeros n) ≡ zeros (n - m)
rest-zeros zero n = let whole : n ≡ n - 0 = omega arith in ap zeros whole
rest-zeros (suc m) zero = let none : 0 ≡ 0 - suc m = omega arith in ap zeros none
rest-zeros (suc m) (suc n) = let fewer : n - m ≡ suc n - suc m = omega arith in rest-zeros m n ∙ ap zeros fewer

-- zeros behind a slice are not seen: past its end it reads 0 too
slot-front : (w : List ℤ) (k i : ℕ) → slot (w ++ zeros k) i ≡ slot w i
slot-front [] zero i = refl
slot-front [] (suc k) zero = refl
slot-front [] (suc k) (suc i) = slot-front [] k i
slot-front (x ∷ w) k zero = refl
slot-front (x ∷ w) k (suc i) = slot-front w k i

module _ (w : List ℤ) (k : ℕ) where
  pub zero-behind : {m : ℕ} → length w ≤ m → ZeroFrom m (w ++ zeros k)
  zero-behind h = record { zero-at = λ i a. slot-front w k i ∙ get_or-eq_default w (pos 0) {n = i} (omega arith) }

  lines-front : (M : Matrix) → lines_of M (w ++ zeros k) ≡ lines_of M w
  unfolding lines_of
  lines-front M = table-ext (record { at = λ i j a b. slot-front w k (line_at M.at M.width i + j) })

  state-front : (W : Workspace) (peak : ℕ) → state_of W peak (w ++ zeros k) ≡ state_of W peak w
  state-front W peak =
      state-is (lines-front W.matrix) (lines-front W.row_follower) (lines-front W.row_inverse) (lines-front W.column_follower)
      (lines-front W.column_inverse) refl

  under-front : {peak : ℕ} → Under peak w → Under peak (w ++ zeros k)
  under-front h = record { bound = λ i. rw (slot-front w k i) (h.bound i); limit = h.limit }

  -- what the first reduction leaves in the part, it leaves in the slice
  pub done-whole : {W : Workspace} {y : Machine} {m n r peak : ℕ} → m + k ≡ n → ReductionDone W y m r peak w → ReductionDone W y n r peak (w ++ zeros k)
  done-whole {W} {m} {r} {peak} e h = record {
    outcome = h.outcome ∙ ap (done r) (sym (state-front W peak));
    kept = record {
      same_length = length-append w (zeros k) ∙ omega (arith, h.kept.same_length, length-replicate k (pos 0), e);
      under = under-front h.kept.under;
    };
  }

  pub cleared-whole : {m n : ℕ} {x : Refusal} → m + k ≡ n → Cleared m x w → Cleared n x (w ++ zeros k)
  cleared-whole {m} e h = record {
    number = h.number;
    zeros = ap (λ (l : List ℤ). l ++ zeros k) h.zeros ∙ replicate-append-replicate m k (pos 0) ∙ ap zeros e;
  }
