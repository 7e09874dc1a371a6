-- What one more store leaves of a line that is being written: `LineSet` and `LinesSwapped` at one place more.
use mathlib.Core.Path.{◌≡◌, refl, sym, ap, subst, ◌∙◌}
use mathlib.Core.Logic.{◌⊎◌, inl, inr, ⊎_elim, ◌≢◌}
use mathlib.Core.List.{List}
use Prim.Native.Nat.{ℕ, ◌+◌, ◌<◌, ◌≤◌, max}
use native.Mathlib.Nat as NatL
use native.Mathlib.Omega.{arith}
use native.Mathlib.Decide.{ℕ_discrete, dec_lt}
use lib.ListN.{length, set, length-set}
use lib.Seq.{get_or-set_same, get_or-set_other}
use lib.IntN.{ℤ, pos, nat_abs}
use Rattle.integers.specs.Slot.{slot}
use Rattle.matrix_lines.specs.Slice.{entry_limit, Small, Bounded, Covered, OneOf, Apart, LineSet, LinesSwapped}
use Rattle.matrix_lines.proofs.Peaks.{Raised, raised-small, max-one, covered_same, covered-trans, bounded-larger}

-- ---- one store

module _ (w : List ℤ) (i : ℕ) (x : ℤ) (inside : i < length w) where
  pub slot-set-same : slot (set w i x) i ≡ x
  slot-set-same = get_or-set_same w i x (pos 0) inside

  pub slot-set-other : (j : ℕ) → j ≢ i → slot (set w i x) j ≡ slot w j
  slot-set-other j n = get_or-set_other w i j x (pos 0) n

  -- a bound of the entries is kept
  bound-set : {m : ℕ} → ((j : ℕ) → nat_abs (slot w j) ≤ m) → nat_abs x ≤ m → (j : ℕ) → nat_abs (slot (set w i x) j) ≤ m
  bound-set {m} s l j = pick (ℕ_discrete j i)
    where
      pick : Dec (j ≡ i) → nat_abs (slot (set w i x) j) ≤ m
      pick (yes e) = subst (λ (k : ℕ). nat_abs (slot (set w i x) k) ≤ m) (sym e) (subst (λ (z : ℤ). nat_abs z ≤ m) (sym slot-set-same) l)
      pick (no n) = subst (λ (z : ℤ). nat_abs z ≤ m) (sym (slot-set-other j n)) (s j)

  pub small-set : Small w → nat_abs x ≤ entry_limit → Small (set w i x)
  small-set s l = record { bound = bound-set s.bound l }

  pub bounded-set : {n : ℕ} → Bounded n w → nat_abs x ≤ entry_limit → Bounded n (set w i x)
  bounded-set b l = record { bound = bound-set b.bound l; limit = b.limit }

  pub covered-set : {n : ℕ} → nat_abs x ≤ n → Covered w (set w i x) n
  covered-set {n} l = record { entry = λ j. pick j (ℕ_discrete j i) }
    where
      pick : (j : ℕ) → Dec (j ≡ i) → (slot (set w i x) j ≡ slot w j) ⊎ (nat_abs (slot (set w i x) j) ≤ n)
      pick j (yes e) = inr (subst (λ (k : ℕ). nat_abs (slot (set w i x) k) ≤ n) (sym e) (subst (λ (z : ℤ). nat_abs z ≤ n) (sym slot-set-same) l))
      pick j (no d) = inl (slot-set-other j d)

-- ---- a line that is set place by place

pub line_set-same : (w : List ℤ) (target width : ℕ) (line : ℕ → ℤ) {before : ℕ} → Bounded before w → ((t : ℕ) → t < width → slot w (target + t) ≡ line t)
    → LineSet w target width line before before w
line_set-same w target width line {before} b e = record {
  same_length = refl;
  on = e;
  off = λ i o. refl;
  bounded = b;
  above = NatL.le_refl before;
  covered = covered_same w;
  wrote = inl refl;
}

pub line_set-none : (w : List ℤ) (target : ℕ) (line : ℕ → ℤ) {before : ℕ} → Bounded before w → LineSet w target 0 line before before w
line_set-none w target line b = line_set-same w target 0 line b (λ t l. absurd (omega arith))

module _ (w w' : List ℤ) (target t : ℕ) (line : ℕ → ℤ) {before x : ℕ} (inside : target + t < length w)
    (set-so-far : LineSet w target t line before x w') where
  inside' : target + t < length w'
  inside' = rw set-so-far.same_length inside

  -- what the next place holds before it is set
  pub line_set-next : slot w' (target + t) ≡ slot w (target + t)
  line_set-next = set-so-far.off (target + t) (inr (omega arith))

  pub line_set-more : {n : ℕ} → Raised x (line t) n → LineSet w target (t + 1) line before n (set w' (target + t) (line t))
  line_set-more {n} raised = record {
    same_length = simp length-set set-so-far.same_length;
    on = λ s h. pick-on s h (ℕ_discrete s t);
    off = λ i o. slot-set-other w' (target + t) (line t) inside' i (⊎_elim (λ h. λ e. omega arith) (λ h. λ e. omega arith) o)
        ∙ set-so-far.off i (⊎_elim (λ h. inl h) (λ h. inr (omega arith)) o);
    bounded = bounded-set w' (target + t) (line t) inside' (bounded-larger set-so-far.bounded raised.limit) (raised-small raised);
    above = NatL.le_trans set-so-far.above raised.above;
    covered = covered-trans set-so-far.covered (covered-set w' (target + t) (line t) inside' raised.covers) raised.above;
    wrote = pick-wrote raised.wrote set-so-far.wrote;
  }
    where
      pick-wrote : (n ≡ x) ⊎ (n ≡ nat_abs (line t)) → (x ≡ before) ⊎ OneOf t line x → (n ≡ before) ⊎ OneOf (t + 1) line n
      pick-wrote (inr e) o = inr (record { place = t; below = omega arith; is = e })
      pick-wrote (inl e) (inl o) = inl (e ∙ o)
      pick-wrote (inl e) (inr o) = inr (record { place = o.place; below = omega (arith, o.below); is = e ∙ o.is })

      pick-on : (s : ℕ) → s < t + 1 → Dec (s ≡ t) → slot (set w' (target + t) (line t)) (target + s) ≡ line s
      pick-on s h (yes e) = rw e (slot-set-same w' (target + t) (line t) inside')
      pick-on s h (no n) =
          slot-set-other w' (target + t) (line t) inside' (target + s) (λ e. n (omega arith)) ∙ set-so-far.on s (omega arith)

-- ---- two lines that are exchanged place by place

-- the exchange of the entries at a and b
abbrev pub exchange : List ℤ → ℕ → ℕ → List ℤ
exchange w a b = set (set w a (slot w b)) b (slot w a)

module _ (w : List ℤ) (a b : ℕ) (a-inside : a < length w) (b-inside : b < length w) where
  b-inside' : b < length (set w a (slot w b))
  b-inside' = simp length-set b-inside

  pub slot-exchange-first : slot (exchange w a b) a ≡ slot w b
  slot-exchange-first = pick (ℕ_discrete a b)
    where
      pick : Dec (a ≡ b) → slot (exchange w a b) a ≡ slot w b
      pick (yes e) = ap (slot (exchange w a b)) e ∙ slot-set-same (set w a (slot w b)) b (slot w a) b-inside' ∙ ap (slot w) e
      pick (no n) = slot-set-other (set w a (slot w b)) b (slot w a) b-inside' a n ∙ slot-set-same w a (slot w b) a-inside

  pub slot-exchange-second : slot (exchange w a b) b ≡ slot w a
  slot-exchange-second = slot-set-same (set w a (slot w b)) b (slot w a) b-inside'

  pub slot-exchange-other : (i : ℕ) → i ≢ a → i ≢ b → slot (exchange w a b) i ≡ slot w i
  slot-exchange-other i n m = slot-set-other (set w a (slot w b)) b (slot w a) b-inside' i m ∙ slot-set-other w a (slot w b) a-inside i n

  pub bounded-exchange : {n : ℕ} → Bounded n w → Bounded n (exchange w a b)
  bounded-exchange u = bounded-set (set w a (slot w b)) b (slot w a) b-inside' (bounded-set w a (slot w b) a-inside u (u.bound b)) (u.bound a)

  pub covered-exchange : {n : ℕ} → nat_abs (slot w a) ≤ n → nat_abs (slot w b) ≤ n → Covered w (exchange w a b) n
  covered-exchange {n} l h =
      covered-trans (covered-set w a (slot w b) a-inside h) (covered-set (set w a (slot w b)) b (slot w a) b-inside' l) (NatL.le_refl n)

pub swapped_same : (w : List ℤ) (first second width : ℕ) {before : ℕ} → Bounded before w
    → ((t : ℕ) → t < width → slot w (first + t) ≡ slot w (second + t)) → LinesSwapped w first second width before before w
swapped_same w first second width {before} b e = record {
  same_length = refl;
  on-first = e;
  on-second = λ t l. sym (e t l);
  off = λ i o p. refl;
  bounded = b;
  above = NatL.le_refl before;
  covered = covered_same w;
  wrote = inl refl;
}

pub swapped-none : (w : List ℤ) (first second : ℕ) {before : ℕ} → Bounded before w → LinesSwapped w first second 0 before before w
swapped-none w first second b = swapped_same w first second 0 b (λ t l. absurd (omega arith))

-- n is the larger one of x and the absolute values of y and z
pub record RaisedTwice (x : ℕ) (y z : ℤ) (n : ℕ) : Type 0 where
  pub above : x ≤ n
  pub first : nat_abs y ≤ n
  pub second : nat_abs z ≤ n
  pub limit : n ≤ entry_limit
  pub wrote : (n ≡ x) ⊎ ((n ≡ nat_abs y) ⊎ (n ≡ nat_abs z))

-- the largest of three numbers as the code finds it
pub raised-twice :
    {x n : ℕ} (y z : ℤ) → n ≡ max x (max (nat_abs y) (nat_abs z)) → x ≤ entry_limit → nat_abs y ≤ entry_limit → nat_abs z ≤ entry_limit → RaisedTwice x y z n
raised-twice {x} {n} y z e h k l = subst (λ (m : ℕ). RaisedTwice x y z m) (sym e) here
  where
    rest : ℕ
    rest = max (nat_abs y) (nat_abs z)

    here : RaisedTwice x y z (max x rest)
    here = record {
      above = NatL.le-max_left x rest;
      first = NatL.le_trans (NatL.le-max_left (nat_abs y) (nat_abs z)) (NatL.le-max_right x rest);
      second = NatL.le_trans (NatL.le-max_right (nat_abs y) (nat_abs z)) (NatL.le-max_right x rest);
      limit = NatL.max-le h (NatL.max-le k l);
      wrote = ⊎_elim (λ p. inl p) (λ p. inr (⊎_elim (λ o. inl (p ∙ o)) (λ o. inr (p ∙ o)) (max-one (nat_abs y) (nat_abs z)))) (max-one x rest);
    }

module _ (w w' : List ℤ) (first second width t : ℕ) {before x : ℕ} (below : t < width) (first-inside : first + width ≤ length w)
    (second-inside : second + width ≤ length w) (apart : (first ≡ second) ⊎ Apart first second width)
    (so_far : LinesSwapped w first second t before x w') where
  one-or-apart : {P : Type 0} → (first ≡ second → P) → (first + width ≤ second → P) → (second + width ≤ first → P) → P
  one-or-apart f g h = ⊎_elim f (⊎_elim g h) apart

  a-inside' : first + t < length w'
  a-inside' = omega (arith, so_far.same_length)

  b-inside'' : second + t < length w'
  b-inside'' = omega (arith, so_far.same_length)

  -- what the next places hold before they are exchanged
  pub swapped-first : slot w' (first + t) ≡ slot w (first + t)
  swapped-first = so_far.off (first + t) (inr (omega arith)) (one-or-apart (λ e. inr (omega arith)) (λ l. inl (omega arith)) (λ l. inr (omega arith)))

  pub swapped-second : slot w' (second + t) ≡ slot w (second + t)
  swapped-second = so_far.off (second + t) (one-or-apart (λ e. inr (omega arith)) (λ l. inr (omega arith)) (λ l. inl (omega arith))) (inr (omega arith))

  pub swapped-more :
      {n : ℕ} → RaisedTwice x (slot w' (first + t)) (slot w' (second + t)) n
      → LinesSwapped w first second (t + 1) before n (exchange w' (first + t) (second + t))
  swapped-more {n} raised = record {
    same_length = simp length-set so_far.same_length;
    on-first = λ s h. pick_first s h (ℕ_discrete s t);
    on-second = λ s h. pick_second s h (ℕ_discrete s t);
    off = λ i o p.
        slot-exchange-other w' (first + t) (second + t) a-inside' b-inside'' i
        (⊎_elim (λ h. λ e. omega arith) (λ h. λ e. omega arith) o) (⊎_elim (λ h. λ e. omega arith) (λ h. λ e. omega arith) p)
        ∙ so_far.off i (⊎_elim (λ h. inl h) (λ h. inr (omega arith)) o) (⊎_elim (λ h. inl h) (λ h. inr (omega arith)) p);
    bounded = bounded-exchange w' (first + t) (second + t) a-inside' b-inside'' (bounded-larger so_far.bounded raised.limit);
    above = NatL.le_trans so_far.above raised.above;
    covered = covered-trans so_far.covered
        (covered-exchange w' (first + t) (second + t) a-inside' b-inside'' raised.first raised.second) raised.above;
    wrote = pick-wrote raised.wrote so_far.wrote;
  }
    where
      Wrote : ℕ → ℕ → Type 0
      Wrote width m = (m ≡ before) ⊎ (OneOf width (λ s. slot w (first + s)) m ⊎ OneOf width (λ s. slot w (second + s)) m)

      pick-wrote : (n ≡ x) ⊎ ((n ≡ nat_abs (slot w' (first + t))) ⊎ (n ≡ nat_abs (slot w' (second + t)))) → Wrote t x → Wrote (t + 1) n
      pick-wrote (inr (inl e)) o = inr (inl (record { place = t; below = omega arith; is = e ∙ ap nat_abs swapped-first }))
      pick-wrote (inr (inr e)) o = inr (inr (record { place = t; below = omega arith; is = e ∙ ap nat_abs swapped-second }))
      pick-wrote (inl e) (inl o) = inl (e ∙ o)
      pick-wrote (inl e) (inr (inl o)) = inr (inl (record { place = o.place; below = omega (arith, o.below); is = e ∙ o.is }))
      pick-wrote (inl e) (inr (inr o)) = inr (inr (record { place = o.place; below = omega (arith, o.below); is = e ∙ o.is }))

      pick_first : (s : ℕ) → s < t + 1 → Dec (s ≡ t) → slot (exchange w' (first + t) (second + t)) (first + s) ≡ slot w (second + s)
      pick_first s h (yes e) = rw e (slot-exchange-first w' (first + t) (second + t) a-inside' b-inside'' ∙ swapped-second)
      pick_first s h (no n) =
          slot-exchange-other w' (first + t) (second + t) a-inside' b-inside'' (first + s) (λ e. n (omega arith))
          (λ e. one-or-apart (λ u. n (omega arith)) (λ l. omega arith) (λ l. omega arith))
          ∙ so_far.on-first s (omega arith)

      pick_second : (s : ℕ) → s < t + 1 → Dec (s ≡ t) → slot (exchange w' (first + t) (second + t)) (second + s) ≡ slot w (first + s)
      pick_second s h (yes e) = rw e (slot-exchange-second w' (first + t) (second + t) a-inside' b-inside'' ∙ swapped-first)
      pick_second s h (no n) =
          slot-exchange-other w' (first + t) (second + t) a-inside' b-inside'' (second + s)
          (λ e. one-or-apart (λ u. n (omega arith)) (λ l. omega arith) (λ l. omega arith)) (λ e. n (omega arith))
          ∙ so_far.on-second s (omega arith)

-- two entries
pub exchanged : (w : List ℤ) (a b : ℕ) {before n : ℕ} → a < length w → b < length w → Bounded before w → RaisedTwice before (slot w a) (slot w b) n
    → LinesSwapped w a b 1 before n (exchange w a b)
exchanged w a b {before} {n} l h bounded raised = there
  where
    first-is : a + 0 ≡ a
    first-is = omega arith

    second_is : b + 0 ≡ b
    second_is = omega arith

    either : (j k : ℕ) → (j ≡ k) ⊎ Apart j k 1
    either j k = pick (ℕ_discrete j k) (dec_lt j k)
      where
        pick : Dec (j ≡ k) → Dec (j < k) → (j ≡ k) ⊎ Apart j k 1
        pick (yes e) f = inl e
        pick (no d) (yes f) = inr (inl (omega arith))
        pick (no d) (no f) = inr (inr (omega arith))

    here : LinesSwapped w a b (0 + 1) before n (exchange w (a + 0) (b + 0))
    here =
        swapped-more w w a b 1 0 (omega arith) (omega arith) (omega arith) (either a b) (swapped-none w a b bounded)
        (subst (λ (j : ℕ). RaisedTwice before (slot w j) (slot w (b + 0)) n) (sym first-is)
        (subst (λ (k : ℕ). RaisedTwice before (slot w a) (slot w k) n) (sym second_is) raised))

    there : LinesSwapped w a b 1 before n (exchange w a b)
    there =
        subst (λ (j : ℕ). LinesSwapped w a b 1 before n (exchange w j b)) first-is
        (subst (λ (k : ℕ). LinesSwapped w a b 1 before n (exchange w (a + 0) k)) second_is here)
