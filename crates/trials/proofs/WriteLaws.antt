-- Laws of calls that write a sheet.
--     answer-number     the number told is the refusal's
--     answer-left       a refusal leaves the slice alone
--     answer-done       what is answered and written where none applies
use mathlib.Core.Path.{◌≡◌, refl, ap, ◌∙◌}
use mathlib.Core.Logic.{◌≢◌}
use mathlib.Core.List.{List, ◌++◌}
use Prim.Native.Nat.{ℕ, zero, suc}
use lib.ListN.{length, drop}
use Rattle.trials.specs.Trial.{Answer, done, refused, number_told}
use Rattle.trials.specs.Write.{answer_with}

module _ (n : ℕ) (bytes slice : List ℕ) where
  pub answer-number : number_told (answer_with n bytes slice).answer ≡ n
  unfolding answer_with
  answer-number = go n
    where
      go : (n : ℕ) → number_told (answer_with n bytes slice).answer ≡ n
      go zero = refl
      go (suc n) = refl

  pub answer-left : number_told (answer_with n bytes slice).answer ≢ 0 → (answer_with n bytes slice).output ≡ slice
  unfolding answer_with
  answer-left d = go n (λ e. d (answer-number ∙ e))
    where
      go : (n : ℕ) → n ≢ 0 → (answer_with n bytes slice).output ≡ slice
      go zero d = absurd (d refl)
      go (suc n) d = refl

  pub answer-done : n ≡ 0 → answer_with n bytes slice ≡ record { answer = done (length bytes); output = bytes ++ drop (length bytes) slice }
  unfolding answer_with
  answer-done e = rw e refl

-- the length that is answered, 0 for a refusal
abbrev answer_length : Answer ℕ → ℕ
answer_length (done n) = n
answer_length (refused n) = 0

pub done-length : {m n : ℕ} → done m ≡ done n → m ≡ n
done-length e = ap answer_length e
