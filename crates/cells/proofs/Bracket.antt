-- The search for a cell c in a rising list l of `many` cells: the invariant is `Bracket`, with `bracket-start` where the loop starts,
-- `bracket-down` and `bracket-up` after a turn, and `bracket-end` where the loop ends. A place is found exactly where `listed` says so:
-- finds-listed.
use mathlib.Core.Path.{◌≡◌, refl, sym}
use mathlib.Core.Logic.{◌≢◌, ⊎_elim}
use mathlib.Core.Bool.{Bool, true, false}
use mathlib.Core.List.{List, []}
use Prim.Native.Nat.{ℕ, ◌+◌, ◌≤◌, ◌<◌}
use native.Mathlib.Nat.{eq-or-lt_of_le, le_of_suc-le-suc}
use native.Mathlib.Decide.{dec_lt}
use native.Mathlib.Numerals.{add-one}
use native.Mathlib.Omega.{arith}
use lib.ListN.{length, get_or}
use Rattle.complexes.specs.Cell.{Cell, precedes, listed}
use Rattle.complexes.proofs.CellLaws.{listed-true, Listed-listed}
use Rattle.complexes.proofs.OrderLaws.{precedes-irrefl, precedes-trans, ordered-precedes}
use Rattle.cells.specs.Find.{Rising, Finds}
use Rattle.std.specs.Prelude.{Option, Some, None}

-- the cells before lo stand before c, and those from hi on stand after it
pub record Bracket (c : Cell) (l : List Cell) (many lo hi : ℕ) : Type 0 where
  pub ordered : lo ≤ hi
  pub within : hi ≤ many
  pub below : (i : ℕ) → i < lo → precedes (get_or l i []) c ≡ true
  pub above : (i : ℕ) → hi ≤ i → i < many → precedes c (get_or l i []) ≡ true

pub bracket-start : (c : Cell) (l : List Cell) (many : ℕ) → Bracket c l many 0 many
bracket-start c l many = record {
  ordered = omega arith;
  within = omega arith;
  below = λ i h. absurd (omega arith);
  above = λ i h k. absurd (omega arith);
}

module _ {c : Cell} {l : List Cell} {many lo hi : ℕ} (sized : length l ≡ many) (b : Bracket c l many lo hi) where
  pub bracket-down : Rising l → (m : ℕ) → lo ≤ m → m < hi → precedes c (get_or l m []) ≡ true → Bracket c l many lo m
  bracket-down rise m lm mh p = record {
    ordered = lm;
    within = omega (arith, b.within);
    below = b.below;
    above = λ i h k. ⊎_elim (λ e. rw e at p)
        (λ lt. precedes-trans c (get_or l m []) (get_or l i []) p (ordered-precedes l rise.next m i lt (omega arith)))
        (eq-or-lt_of_le h);
  }

  pub bracket-up : Rising l → (m : ℕ) → lo ≤ m → m < hi → precedes (get_or l m []) c ≡ true → Bracket c l many (m + 1) hi
  bracket-up rise m lm mh p = record {
    ordered = omega arith;
    within = b.within;
    below = λ i h. ⊎_elim (λ e. rw e p)
        (λ lt. precedes-trans (get_or l i []) (get_or l m []) c (ordered-precedes l rise.next i m lt (omega (arith, b.within))) p)
        (eq-or-lt_of_le (le_of_suc-le-suc (rw (add-one m) at h)));
    above = b.above;
  }

  pub bracket-end : hi ≤ lo → (i : ℕ) → i < length l → get_or l i [] ≢ c
  bracket-end h i k e = go (dec_lt i lo)
    where
      go : Dec (i < lo) → ⊥
      go (yes lt) = precedes-irrefl c (rw e at (b.below i lt))
      go (no ge) = precedes-irrefl c (rw e at (b.above i (omega arith) (omega arith)))

-- whether a place was found
abbrev pub is_at : Option ℕ → Bool
is_at (Some i) = true
is_at None = false

pub finds-listed : (c : Cell) (l : List Cell) (r : Option ℕ) → Finds c l r → is_at r ≡ listed c l
finds-listed c l (Some i) h = sym (Listed-listed (record { place = i; below = h.0; is = h.1 }))
finds-listed c l None h = go (listed c l) refl
  where
    go : (b : Bool) → listed c l ≡ b → false ≡ b
    go true e = let w = listed-true c l e in absurd (h w.place w.below w.is)
    go false e = refl
