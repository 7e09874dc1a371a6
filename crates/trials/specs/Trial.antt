-- The order of trial, and what a call answers and leaves: document 01, "Each call answers either done, with the report's counts, or refused, with one
-- number. The refusals, tried in this order .."; its work slice "reads 0 throughout after a finished call, after refusal 13 and after any refusal that is
-- tried after 13 ..; the other refusals leave it alone. Every other slice that a call writes is untouched by a refusal".
use Rattle.std.specs.Prelude.{Bool, cond, List, [], ◌∷◌, ℕ, zero, suc, ℤ, pos, length, replicate}

-- the number of the first check that tells a fault, 0 for none; a check is a number and whether it tells one
abbrev pub first_refusal : List (ℕ × Bool) → ℕ
first_refusal [] = 0
first_refusal (check ∷ later) = cond check.1 check.0 (first_refusal later)

-- done with what the call carries, or refused with one number
pub data Answer (A : Type 0) : Type 0 where
  done : A → Answer A
  refused : ℕ → Answer A

-- the number of an answer: 0 for done, as the host calls have it
abbrev pub number_told : {A : Type 0} → Answer A → ℕ
number_told (done carried) = 0
number_told (refused k) = k

-- the answer, and the output slice and the work slice as the call leaves them
pub record Called (A B : Type 0) : Type 0 where
  pub answer : Answer A
  pub output : List B
  pub work : List ℤ

-- the slice reads 0 throughout
abbrev pub cleared : List ℤ → List ℤ
cleared slice = replicate (length slice) (pos 0)

-- A call has two lists of checks: the early ones leave every slice alone, and the late ones are tried when the work slice is in use, which then reads 0.
-- By the number of the first early and of the first late check that applies, 0 for none: refused, or done with what is carried and an output that
-- reads `left`.
abbrev pub concluded : {A B : Type 0} → ℕ → ℕ → A → List B → List B → List ℤ → Called A B
concluded (suc k) late carried left output work = record { answer = refused (suc k); output = output; work = work }
concluded zero (suc k) carried left output work = record { answer = refused (suc k); output = output; work = cleared work }
concluded zero zero carried left output work = record { answer = done carried; output = left; work = cleared work }
