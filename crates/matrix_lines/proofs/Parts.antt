-- Lines that are written part by part: after t places the next n. Main results: `line_set-part` for a line that is set, `swapped-part` for two lines that
-- are exchanged.
use mathlib.Core.Path.{◌≡◌, ap, ◌∙◌}
use mathlib.Core.Logic.{◌⊎◌, inl, inr, ⊎_elim}
use mathlib.Core.List.{List}
use Prim.Native.Nat.{ℕ, ◌+◌, ◌-◌, ◌<◌, ◌≤◌}
use native.Mathlib.Omega.{arith}
use native.Mathlib.Decide.{dec_lt}
use native.Mathlib.Nat as NatL
use lib.IntN.{ℤ, nat_abs}
use Rattle.integers.specs.Slot.{slot}
use Rattle.matrix_lines.specs.Slice.{Apart, Off, OneOf, LineSet, LinesSwapped}
use Rattle.matrix_lines.proofs.Peaks.{covered-trans}

-- ---- a line that is set

-- `next` is the rest of the line as the second part finds it
pub line_set-part :
    {w w₁ w₂ : List ℤ} {target t n : ℕ} {line next : ℕ → ℤ} {before x y : ℕ} → LineSet w target t line before x w₁
    → LineSet w₁ (target + t) n next x y w₂ → ((s : ℕ) → s < n → next s ≡ line (t + s)) → LineSet w target (t + n) line before y w₂
line_set-part {w} {w₁} {w₂} {target} {t} {n} {line} {next} {before} {x} {y} so_far h same = record {
  same_length = h.same_length ∙ so_far.same_length;
  on = λ s l. pick s l (dec_lt s t);
  off = λ i o. h.off i (⊎_elim (λ k. inl (omega arith)) (λ k. inr (omega arith)) o) ∙ so_far.off i (⊎_elim (λ k. inl k) (λ k. inr (omega arith)) o);
  bounded = h.bounded;
  above = NatL.le_trans so_far.above h.above;
  covered = covered-trans so_far.covered h.covered h.above;
  wrote = pick-wrote h.wrote so_far.wrote;
}
  where
    pick : (s : ℕ) → s < t + n → Dec (s < t) → slot w₂ (target + s) ≡ line s
    pick s l (yes k) = h.off (target + s) (inl (omega arith)) ∙ so_far.on s k
    pick s l (no k) = ap (slot w₂) (omega arith) ∙ h.on (s - t) (omega arith) ∙ same (s - t) (omega arith) ∙ ap line (omega arith)

    pick-wrote : (y ≡ x) ⊎ OneOf n next y → (x ≡ before) ⊎ OneOf t line x → (y ≡ before) ⊎ OneOf (t + n) line y
    pick-wrote (inr o) p = inr (record { place = t + o.place; below = omega (arith, o.below); is = o.is ∙ ap nat_abs (same o.place o.below) })
    pick-wrote (inl e) (inl p) = inl (e ∙ p)
    pick-wrote (inl e) (inr p) = inr (record { place = p.place; below = omega (arith, p.below); is = e ∙ p.is })

-- ---- two lines that are exchanged

module _ (w w₁ : List ℤ) (first second width t n : ℕ) {before x : ℕ} (inside : t + n ≤ width) (apart : (first ≡ second) ⊎ Apart first second width)
    (so_far : LinesSwapped w first second t before x w₁) where
  one-or-apart : {P : Type 0} → (first ≡ second → P) → (first + width ≤ second → P) → (second + width ≤ first → P) → P
  one-or-apart f g h = ⊎_elim f (⊎_elim g h) apart

  -- the next places are as they were
  first-same : (s : ℕ) → t ≤ s → s < width → slot w₁ (first + s) ≡ slot w (first + s)
  first-same s k l = so_far.off (first + s) (inr (omega arith)) (one-or-apart (λ e. inr (omega arith)) (λ h. inl (omega arith)) (λ h. inr (omega arith)))

  second-same : (s : ℕ) → t ≤ s → s < width → slot w₁ (second + s) ≡ slot w (second + s)
  second-same s k l =
      so_far.off (second + s) (one-or-apart (λ e. inr (omega arith)) (λ h. inr (omega arith)) (λ h. inl (omega arith))) (inr (omega arith))

  -- a place of the part before is off the next one
  first_off : (s : ℕ) → s < t → Off (first + t) n (first + s) × Off (second + t) n (first + s)
  first_off s l = (inl (omega arith), one-or-apart (λ e. inl (omega arith)) (λ h. inl (omega arith)) (λ h. inr (omega arith)))

  second-off : (s : ℕ) → s < t → Off (first + t) n (second + s) × Off (second + t) n (second + s)
  second-off s l = (one-or-apart (λ e. inl (omega arith)) (λ h. inr (omega arith)) (λ h. inl (omega arith)), inl (omega arith))

  pub swapped-part : {y : ℕ} {w₂ : List ℤ} → LinesSwapped w₁ (first + t) (second + t) n x y w₂ → LinesSwapped w first second (t + n) before y w₂
  swapped-part {y} {w₂} h = record {
    same_length = h.same_length ∙ so_far.same_length;
    on-first = λ s l. pick_first s l (dec_lt s t);
    on-second = λ s l. pick_second s l (dec_lt s t);
    off = λ i o p.
        h.off i (⊎_elim (λ k. inl (omega arith)) (λ k. inr (omega arith)) o) (⊎_elim (λ k. inl (omega arith)) (λ k. inr (omega arith)) p)
        ∙ so_far.off i (⊎_elim (λ k. inl k) (λ k. inr (omega arith)) o) (⊎_elim (λ k. inl k) (λ k. inr (omega arith)) p);
    bounded = h.bounded;
    above = NatL.le_trans so_far.above h.above;
    covered = covered-trans so_far.covered h.covered h.above;
    wrote = pick-wrote h.wrote so_far.wrote;
  }
    where
      pick_first : (s : ℕ) → s < t + n → Dec (s < t) → slot w₂ (first + s) ≡ slot w (second + s)
      pick_first s l (yes k) = h.off (first + s) (first_off s k).0 (first_off s k).1 ∙ so_far.on-first s k
      pick_first s l (no k) =
          ap (slot w₂) (omega arith) ∙ h.on-first (s - t) (omega arith) ∙ ap (slot w₁) (omega arith) ∙ second-same s (omega arith) (omega arith)

      pick_second : (s : ℕ) → s < t + n → Dec (s < t) → slot w₂ (second + s) ≡ slot w (first + s)
      pick_second s l (yes k) = h.off (second + s) (second-off s k).0 (second-off s k).1 ∙ so_far.on-second s k
      pick_second s l (no k) =
          ap (slot w₂) (omega arith) ∙ h.on-second (s - t) (omega arith) ∙ ap (slot w₁) (omega arith) ∙ first-same s (omega arith) (omega arith)

      Wrote : ℕ → ℕ → Type 0
      Wrote width m = (m ≡ before) ⊎ (OneOf width (λ s. slot w (first + s)) m ⊎ OneOf width (λ s. slot w (second + s)) m)

      pick-wrote :
          (y ≡ x) ⊎ (OneOf n (λ s. slot w₁ (first + t + s)) y ⊎ OneOf n (λ s. slot w₁ (second + t + s)) y) → Wrote t x → Wrote (t + n) y
      pick-wrote (inr (inl o)) p =
          inr (inl (record {
            place = t + o.place;
            below = omega (arith, o.below);
            is = o.is ∙ ap nat_abs (ap (slot w₁) (omega arith) ∙ first-same (t + o.place) (omega arith) (omega (arith, o.below)));
          }))
      pick-wrote (inr (inr o)) p =
          inr (inr (record {
            place = t + o.place;
            below = omega (arith, o.below);
            is = o.is ∙ ap nat_abs (ap (slot w₁) (omega arith) ∙ second-same (t + o.place) (omega arith) (omega (arith, o.below)));
          }))
      pick-wrote (inl e) (inl p) = inl (e ∙ p)
      pick-wrote (inl e) (inr (inl p)) = inr (inl (record { place = p.place; below = omega (arith, p.below); is = e ∙ p.is }))
      pick-wrote (inl e) (inr (inr p)) = inr (inr (record { place = p.place; below = omega (arith, p.below); is = e ∙ p.is }))
