-- Cells read field by field: what comparing each vertex with the one before it tells of a cell (rises-told).
use mathlib.Core.Path.{◌≡◌, refl, sym}
use mathlib.Core.Bool.{Bool, true, false}
use mathlib.Core.List.{List}
use Prim.Native.Nat.{ℕ, zero, suc, ◌+◌, ◌*◌, ◌-◌, ◌≤◌, ◌<◌}
use native.Mathlib.Omega.{arith}
use lib.ListN.{length, get_or}
use Rattle.std.specs.Bool.{MatchBool}
use Rattle.std.specs.List.{range_with_len, AllWithin, HoldsAt}
use Rattle.std.proofs.lemmas.List.FromFn.{length-range_with_len, get_or-range_with_len}
use Rattle.complexes.specs.Cell.{Cell, rises}
use Rattle.complexes.proofs.CellLaws.{rises-at, rises-of}
use Rattle.sheet_format.specs.Check.{field_at, cell_of}
use Rattle.sheet_format.specs.SheetLaws.{length-cell_of, get_or-cell_of}

-- ---- general lemmas

pub is_false : (b : Bool) → (b ≡ true → ⊥) → b ≡ false
is_false true h = absurd (h refl)
is_false false h = refl

rises-fault : (c : Cell) (j : ℕ) → suc j < length c → get_or c (suc j) 0 ≤ get_or c j 0 → rises c ≡ false
rises-fault c j l h = is_false (rises c) (λ e. omega (arith, rises-at c j e l))

-- ---- the cell of n vertices at byte `at`

-- vertex j is above the one before it, or not
abbrev pub Up : List ℕ → ℕ → ℕ → Type 0
Up s at j = field_at s (at + 2 * (j - 1)) < field_at s (at + 2 * j)

abbrev pub Down : List ℕ → ℕ → ℕ → Type 0
Down s at j = field_at s (at + 2 * j) ≤ field_at s (at + 2 * (j - 1))

suc-less-one : (j : ℕ) → suc j - 1 ≡ j
suc-less-one j = omega arith

module _ (s : List ℕ) (n at : ℕ) where
  all-rise : ((j : ℕ) → 0 < j → j < n → Up s at j) → rises (cell_of s n at) ≡ true
  all-rise h = rises-of (cell_of s n at) next
    where
      next : (j : ℕ) → suc j < length (cell_of s n at) → get_or (cell_of s n at) j 0 < get_or (cell_of s n at) (suc j) 0
      next j l =
          let k : suc j < n = omega (arith, length-cell_of s n at) in
          rw (get_or-cell_of s n at j (omega arith), get_or-cell_of s n at (suc j) k) (rw (suc-less-one j) at (h (suc j) (omega arith) k))

  one-falls : (j : ℕ) → 0 < j → j < n → Down s at j → rises (cell_of s n at) ≡ false
  one-falls zero p l h = absurd (omega arith)
  one-falls (suc j) p l h =
      rises-fault (cell_of s n at) j (omega (arith, length-cell_of s n at))
      (rw (get_or-cell_of s n at j (omega arith), get_or-cell_of s n at (suc j) l) (rw (suc-less-one j) at h))

  -- .. told of the numbers from 1 on
  pub rises-told : (r : Bool) → let l = range_with_len 1 (n - 1) in
      MatchBool r (AllWithin (Up s at) l 0 (length l)) ((k : ℕ) × (k < length l) × HoldsAt (Down s at) l k) → r ≡ rises (cell_of s n at)
  rises-told true h = sym (all-rise (λ j p l. one (j - 1) (omega arith) (omega arith)))
    where
      one : {j : ℕ} (k : ℕ) → 1 + k ≡ j → k < n - 1 → Up s at j
      one k e m = rw (get_or-range_with_len 1 (n - 1) k 0 m, e) at (h k 0 (omega arith) (rw (length-range_with_len 1 (n - 1)) m))
  rises-told false (k, l, h) =
      let m : k < n - 1 = rw (length-range_with_len 1 (n - 1)) at l in
      sym (one-falls (1 + k) (omega arith) (omega arith) (rw (get_or-range_with_len 1 (n - 1) k 0 m) at (h 0)))
