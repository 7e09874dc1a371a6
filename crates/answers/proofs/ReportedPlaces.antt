-- The places whose kind is not 1. Where exactly the first u of n diagonal entries are 1, they are u, u + 1, .., n - 1: reported-places.
use mathlib.Core.Path.{◌≡◌, refl, ◌∙◌, ap}
use mathlib.Core.Logic.{◌≢◌}
use mathlib.Core.Bool.{Bool, true, false, cond}
use mathlib.Core.List.{List, [], ◌∷◌, ◌++◌}
use Prim.Native.Nat.{ℕ, zero, suc, ◌+◌, ◌-◌, ◌≤◌, ◌<◌}
use native.Mathlib.Omega.{arith}
use native.Mathlib.Decide.{dec_le, dec_lt}
use borrow.Author.Tests.{eqb-true}
use lib.Dec.{eqb}
use lib.ListN.{length, get_or, length-append, get_or-append}
use lib.Seq.{get_or_at}
use lib.IntN.{ℤ, pos, nat_abs}
use lib.Signed.{◌≤ℤ◌}
use Rattle.integers.proofs.Order.{nonneg-is}
use Rattle.smith.proofs.Rank.{IsOnes}
use Rattle.reports.specs.Report.{reported}

pub record Places (e : ℕ → ℤ) (n u : ℕ) : Type 0 where
  pub size : length (reported e n) ≡ n - u
  pub place : (j : ℕ) → j < n - u → get_or (reported e n) j 0 ≡ u + j

-- an entry of kind 1 is dropped
reported-one : (e : ℕ → ℤ) (n : ℕ) → e n ≡ pos 1 → length (reported e (suc n)) ≡ length (reported e n)
unfolding reported
reported-one e n h = rw (h, length-append (reported e n) []) (omega arith)

-- any other is reported
reported-other : (e : ℕ → ℤ) (n : ℕ) → pos 0 ≤ℤ e n → e n ≢ pos 1 → reported e (suc n) ≡ reported e n ++ n ∷ []
unfolding reported
reported-other e n h d = ap (λ (t : Bool). reported e n ++ cond t [] (n ∷ [])) (differs (eqb (nat_abs (e n)) 1) refl)
  where
    differs : (t : Bool) → eqb (nat_abs (e n)) 1 ≡ t → t ≡ false
    differs true f = absurd (d (nonneg-is h ∙ ap pos (eqb-true (nat_abs (e n)) 1 f)))
    differs false f = refl

pub reported-places : (e : ℕ → ℤ) → ((i : ℕ) → pos 0 ≤ℤ e i) → (n u : ℕ) → IsOnes n e u → Places e n u
unfolding reported
reported-places e nonneg zero u ones = record { size = omega arith; place = λ j h. absurd (omega arith) }
reported-places e nonneg (suc n) u ones = go (dec_le u n) (λ v i. reported-places e nonneg n v i)
  where
    go : Dec (u ≤ n) → ((v : ℕ) → IsOnes n e v → Places e n v) → Places e (suc n) u
    go (yes h) before = record { size = size; place = λ j l. place j l (dec_lt j (n - u)) }
      where
        old : Places e n u
        old = before u (record { bound = h; ones = ones.ones; others = λ i a b. ones.others i a (omega arith) })

        list : reported e (suc n) ≡ reported e n ++ n ∷ []
        list = reported-other e n (nonneg n) (ones.others n h (omega arith))

        size : length (reported e (suc n)) ≡ suc n - u
        size = ap length list ∙ length-append (reported e n) (n ∷ []) ∙ omega (arith, old.size)

        place : (j : ℕ) → j < suc n - u → Dec (j < n - u) → get_or (reported e (suc n)) j 0 ≡ u + j
        place j l (yes k) =
            ap (λ (t : List ℕ). get_or t j 0) list ∙ get_or-append (reported e n) (n ∷ []) 0 j (omega (arith, old.size)) ∙ old.place j k
        place j l (no k) =
            ap (λ (t : List ℕ). get_or t j 0) list ∙ get_or_at (reported e n) n [] 0 j (omega (arith, old.size)) ∙ omega arith
    go (no h) before = record { size = reported-one e n (ones.ones n (omega arith)) ∙ omega (arith, old.size); place = λ j l. absurd (omega arith) }
      where
        old : Places e n n
        old = before n (record { bound = omega arith; ones = λ i a. ones.ones i (omega arith); others = λ i a b. absurd (omega arith) })
