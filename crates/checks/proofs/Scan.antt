-- Loops that look for a number below n for which a test f passes: the invariant is `Passed n f i`, that f failed below i.
--     passed_none, passed-more, passed-all, some-found     where the loop starts, after a turn, where it ends, where it is left early
use mathlib.Core.Path.{◌≡◌, refl, sym, ap, ◌∙◌}
use mathlib.Core.Bool.{Bool, true, false, ◌||◌}
use Prim.Native.Nat.{ℕ, ◌+◌, ◌≤◌, ◌<◌}
use native.Mathlib.Nat.{le_antisymm, zero-add}
use native.Mathlib.Numerals.{add-one, add-one-le}
use native.Mathlib.Omega.{arith}
use denote.Param.Members.{Mut}
use Rattle.std.specs.Prelude.{Option, List, length, MatchOption}
use Rattle.std.specs.Bool.{MatchBool}
use Rattle.std.specs.Fn.{Called}
use Rattle.std.specs.Iterator.{YieldsThen}
use Rattle.std.specs.List.{range_with_len, FoldsTo, AllWithin, HoldsAt}
use Rattle.std.specs.declared.ops.Range.{Range}
use Rattle.std.proofs.lemmas.Iterator.{YieldsList, cases_from_any}
use Rattle.std.proofs.lemmas.List.FromFn.{length-range_with_len, get_or-range_with_len}
use Rattle.sheet_format.specs.Check.{some}
use Rattle.sheet_format.specs.CheckLaws.{some_at, some-false}

pub record Passed (n : ℕ) (f : ℕ → Bool) (i : ℕ) : Type 0 where
  pub within : i ≤ n
  pub none : some i f ≡ false

pub passed_none : (n : ℕ) (f : ℕ → Bool) → Passed n f 0
unfolding some
passed_none n f = record { within = omega arith; none = refl }

pub passed-more : (n : ℕ) (f : ℕ → Bool) (i : ℕ) → Passed n f i → i < n → f i ≡ false → Passed n f (i + 1)
unfolding some
passed-more n f i h l e = record { within = add-one-le l; none = rw (add-one i) (ap (λ (a : Bool). a || f i) h.none ∙ e) }

pub passed-all : (n : ℕ) (f : ℕ → Bool) (i : ℕ) → Passed n f i → n ≤ i → false ≡ some n f
passed-all n f i h l = rw (le_antisymm l h.within) (sym h.none)

pub some-found : (n : ℕ) (f : ℕ → Bool) (i : ℕ) → i < n → f i ≡ true → true ≡ some n f
some-found n f i l e = sym (some_at n f i l e)

-- ---- `any` over 0 .. n

decided : (r : Bool) (n : ℕ) (f : ℕ → Bool) → let l = range_with_len 0 n in
    MatchBool r ((k : ℕ) × (k < length l) × HoldsAt (λ x. f x ≡ true) l k) (AllWithin (λ x. f x ≡ false) l 0 (length l)) → r ≡ some n f
decided true n f (k, l, h) =
    let m : k < n = rw (length-range_with_len 0 n) at l in
    sym (some_at n f k m (rw (get_or-range_with_len 0 n k 0 m, zero-add k) at (h 0)))
decided false n f h =
    sym ((some-false n f).1
    (λ k m. rw (get_or-range_with_len 0 n k 0 m, zero-add k) at (h k 0 (omega arith) (rw (length-range_with_len 0 n) m))))

-- what `any` answers, where its closure tells of a number whether the test passes
pub any-some : {F : Type 0} {steps : Range ℕ → Option ℕ → Range ℕ → Type 0} {g : Mut F (ℕ × Unit {0}) Bool} {s : Range ℕ} (u : Range ℕ) (closure : F) (r : Bool)
    (n : ℕ) (f : ℕ → Bool)
    → (xs : List ℕ) × (o : Option ℕ) × (j : F) × YieldsThen steps s xs o u × FoldsTo (λ p x q. Called g p (x, tt) false q) closure xs j × MatchOption o (r ≡ false) (λ x. (r ≡ true) × ((h : F) × Called g j (x, tt) true h))
    → YieldsList steps (λ x. x) s (range_with_len 0 n)
    → ((x : ℕ) (q : F) → Called g closure (x, tt) true q → f x ≡ true)
    → ((x : ℕ) (q : F) → Called g closure (x, tt) false q → (q ≡ closure) × (f x ≡ false))
    → r ≡ some n f
any-some u closure r n f ran items passes fails =
    decided r n f (cases_from_any u closure r (λ x. f x ≡ true) (λ x. f x ≡ false) ran items passes fails)
