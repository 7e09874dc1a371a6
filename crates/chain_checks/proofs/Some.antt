-- What `any` answers over a list of numbers is what `some` decides over their places: some-of-any.
use Rattle.std.proofs.Common.{◌≡◌, ℕ, ◌<◌, Bool, true, false, List, length, get_or, ℤ, pos, sym, arith, MatchBool}
use Rattle.std.specs.List.{HoldsAt, AllWithin}
use Rattle.sheet_format.specs.Check.{some}
use Rattle.sheet_format.specs.CheckLaws.{some_at, some-false}

pub some-of-any : (test : ℤ → Bool) (Yes No : ℤ → Type 0) → ((x : ℤ) → Yes x → test x ≡ true) → ((x : ℤ) → No x → test x ≡ false) → (xs : List ℤ) (r : Bool)
    → MatchBool r ((k : ℕ) × (k < length xs) × HoldsAt Yes xs k) (AllWithin No xs 0 (length xs)) → r ≡ some (length xs) (λ i. test (get_or xs i (pos 0)))
some-of-any test Yes No hit miss xs true h =
    sym (some_at (length xs) (λ i. test (get_or xs i (pos 0))) h.0 h.1 (hit (get_or xs h.0 (pos 0)) (h.2 (pos 0))))
some-of-any test Yes No hit miss xs false h =
    sym ((some-false (length xs) (λ i. test (get_or xs i (pos 0)))).1 (λ i l. miss (get_or xs i (pos 0)) (h i (pos 0) (omega arith) l)))
