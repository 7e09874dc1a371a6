-- What the next entry makes of the choice of a pivot, by its absolute value: `passed`, `stayed`, `took-first`, `took-less`.
use mathlib.Core.Path.{◌≡◌, refl, sym, ◌∙◌}
use mathlib.Core.Logic.{◌≢◌}
use mathlib.Core.Bool.{Bool, true, false, cond, not, ◌&&◌}
use Prim.Native.Nat.{ℕ, ◌<◌, ◌≤◌}
use borrow.Author.Tests.{ne_eqb, lt-ltb, le-ltb}
use lib.Dec.{eqb, ltb}
use lib.IntN.{nat_abs}
use Rattle.std.specs.Prelude.{Option, Some, None}
use Rattle.matrices.specs.Matrix.{Matrix}
use Rattle.reduction_steps.specs.Pivot.{Choice, none, place, better}
use Rattle.scans.specs.Scan.{choice_of, Sized}
use Rattle.scans.specs.declared.pivot.Best.{Best}

-- ---- one entry

module _ (A : Matrix) (i j : ℕ) where
  -- an entry of 0 is passed over
  pub better-zero : (c : Choice) → nat_abs (A i j) ≡ 0 → better A c i j ≡ c
  unfolding better
  better-zero none e = rw e
  better-zero (place a b) e = rw e

  -- the first nonzero entry is taken
  better-first : nat_abs (A i j) ≢ 0 → better A none i j ≡ place i j
  unfolding better
  better-first f = rw (ne_eqb (nat_abs (A i j)) 0 f)

  better-less : (a b : ℕ) → nat_abs (A i j) ≢ 0 → nat_abs (A i j) < nat_abs (A a b) → better A (place a b) i j ≡ place i j
  unfolding better
  better-less a b f l = rw (ne_eqb (nat_abs (A i j)) 0 f, lt-ltb (nat_abs (A i j)) (nat_abs (A a b)) l)

  better-more : (a b : ℕ) → nat_abs (A a b) ≤ nat_abs (A i j) → better A (place a b) i j ≡ place a b
  unfolding better
  better-more a b l = pick (not (eqb (nat_abs (A i j)) 0))
    where
      pick : (t : Bool) → cond (t && ltb (nat_abs (A i j)) (nat_abs (A a b))) (place i j) (place a b) ≡ place a b
      pick true = rw (le-ltb (nat_abs (A i j)) (nat_abs (A a b)) l)
      pick false = refl

-- ---- after the entry at (i, j), of absolute value r

-- this entry is the one chosen
abbrev Took : Matrix → Option Best → ℕ → ℕ → ℕ → Type 0
Took A b i j r = Sized A (record { size = r; row = i; column = j }) × (place i j ≡ better A (choice_of b) i j)

module _ (A : Matrix) (i j : ℕ) {r : ℕ} (is : r ≡ nat_abs (A i j)) where
  pub passed : (c : Choice) → r ≡ 0 → c ≡ better A c i j
  passed c e = sym (better-zero A i j c (sym is ∙ e))

  pub stayed : {b : Best} → Sized A b → b.size ≤ r → place b.row b.column ≡ better A (place b.row b.column) i j
  stayed {b} h l = sym (better-more A i j b.row b.column (rw (h.size, is) at l))

  some : r ≢ 0 → nat_abs (A i j) ≢ 0
  some f e = f (is ∙ e)

  pub took-first : r ≢ 0 → Took A None i j r
  took-first f = (record { size = is; nonzero = f }, sym (better-first A i j (some f)))

  pub took-less : {b : Best} → Sized A b → r ≢ 0 → r < b.size → Took A (Some b) i j r
  took-less {b} h f l = (record { size = is; nonzero = f }, sym (better-less A i j b.row b.column (some f) (rw (h.size, is) at l)))
