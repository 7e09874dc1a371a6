-- A line that is written part by part: of a subtraction from the line at `target`, t places are done.
use mathlib.Core.Path.{◌≡◌, sym, ap, subst, ◌∙◌}
use mathlib.Core.Logic.{inl, inr, ⊎_elim}
use mathlib.Core.Bool.{false≢true}
use mathlib.Core.List.{List}
use Prim.Native.Nat.{ℕ, ◌+◌, ◌<◌, ◌≤◌}
use native.Mathlib.Omega.{arith}
use native.Mathlib.Nat as NatL
use mir.Syntax.{w64}
use lib.ListN.{length}
use lib.IntN.{ℤ, nat_abs}
use Rattle.std.specs.Prelude.{Result, Ok, Err, IsErr}
use Rattle.integers.specs.Slot.{slot}
use Rattle.matrix_lines.specs.Slice.{entry_limit, Bounded, Apart, LineSet, Beyond, Subtracted, difference}
use Rattle.matrix_lines.specs.declared.line.TooWide.{TooWide}
use Rattle.matrix_lines.proofs.Parts.{line_set-part}
use Rattle.matrix_lines.proofs.Store.{line_set-none}
use Rattle.machine_words.specs.Read.{read, read_wide}

-- what a call asks, and what the slice holds; x is the largest absolute value that was written so far
pub record Partly (w₀ : List ℤ) (target source width : ℕ) (q : ℤ) (before t x : ℕ) (w : List ℤ) : Type 0 where
  pub below : t ≤ width
  pub target-inside : target + width ≤ length w₀
  pub source-inside : source + width ≤ length w₀
  pub apart : Apart target source width
  pub factor : nat_abs q ≤ entry_limit
  pub so_far : LineSet w₀ target t (difference w₀ target source q) before x w

-- before the first place, for a number q that a word holds
pub begun :
    {w₀ : List ℤ} {target source width before : ℕ} (q : ℤ) → (target + width ≤ length w₀) × (source + width ≤ length w₀) → Apart target source width
    → Bounded before w₀ → nat_abs q ≤ entry_limit → Partly w₀ target source width (read w64 q) before 0 before w₀
begun {w₀} {target} {source} {width} q inside apart under factor = record {
  below = omega arith;
  target-inside = inside.0;
  source-inside = inside.1;
  apart = apart;
  factor = subst (λ (k : ℤ). nat_abs k ≤ entry_limit) (sym (read_wide q factor)) factor;
  so_far = line_set-none w₀ target (difference w₀ target source (read w64 q)) under;
}

-- after the last
pub ended : {w₀ : List ℤ} {target source width : ℕ} {q : ℤ} {before t x : ℕ} {w : List ℤ} → Partly w₀ target source width q before t x w
    → width ≤ t → LineSet w₀ target width (difference w₀ target source q) before x w
ended {w₀} {target} {source} {width} {q} {before} {t} {x} {w} partly done =
    subst (λ (n : ℕ). LineSet w₀ target n (difference w₀ target source q) before x w) (NatL.le_antisymm partly.below done) partly.so_far

-- the same at an equal place
pub partly-at : {w₀ : List ℤ} {target source width : ℕ} {q : ℤ} {before t s x : ℕ} {w : List ℤ} → Partly w₀ target source width q before t x w → t ≡ s
    → Partly w₀ target source width q before s x w
partly-at {w₀} {target} {source} {width} {q} {before} {t} {s} {x} {w} partly e = subst (λ (n : ℕ). Partly w₀ target source width q before n x w) e partly

-- the next n places
module _ {w₀ : List ℤ} {target source width : ℕ} {q : ℤ} {before t x : ℕ} {w : List ℤ}
    (partly : Partly w₀ target source width q before t x w) (n : ℕ) (inside : t + n ≤ width) where
  so_far : LineSet w₀ target t (difference w₀ target source q) before x w
  so_far = partly.so_far

  -- the next places are untouched
  next-same : (s : ℕ) → s < n → difference w (target + t) (source + t) q s ≡ difference w₀ target source q (t + s)
  next-same s l = rw (target-same, source-same)
    where
      target-same : slot w (target + t + s) ≡ slot w₀ (target + (t + s))
      target-same = so_far.off (target + t + s) (inr (omega arith)) ∙ ap (slot w₀) (omega arith)

      source-same : slot w (source + t + s) ≡ slot w₀ (source + (t + s))
      source-same =
          so_far.off (source + t + s) (⊎_elim (λ h. inr (omega arith)) (λ h. inl (omega arith)) partly.apart) ∙ ap (slot w₀) (omega arith)

  part-set :
      {y : ℕ} {w' : List ℤ} → LineSet w (target + t) n (difference w (target + t) (source + t) q) x y w'
      → LineSet w₀ target (t + n) (difference w₀ target source q) before y w'
  part-set h = line_set-part so_far h next-same

  pub part-done :
      {y : ℕ} {w' : List ℤ} → LineSet w (target + t) n (difference w (target + t) (source + t) q) x y w'
      → Partly w₀ target source width q before (t + n) y w'
  part-done h = record {
    below = inside;
    target-inside = partly.target-inside;
    source-inside = partly.source-inside;
    apart = partly.apart;
    factor = partly.factor;
    so_far = part-set h;
  }

  pub part-beyond :
      {w' : List ℤ} → Beyond w n (difference w (target + t) (source + t) q) w' → Beyond w₀ width (difference w₀ target source q) w'
  part-beyond h = record {
    same_length = h.same_length ∙ so_far.same_length;
    place = t + h.place;
    below = omega (arith, h.below);
    beyond = subst (λ (z : ℤ). entry_limit < nat_abs z) (next-same h.place h.below) h.beyond;
  }

  -- a part that is the rest of the line
  pub part-last :
      t + n ≡ width → (r : Result ℕ TooWide) (w' : List ℤ) → Subtracted w (target + t) (source + t) n q x r w'
      → Subtracted w₀ target source width q before r w'
  part-last e (Ok y) w' h = ended (part-done h) (omega arith)
  part-last e (Err a) w' h = part-beyond h

-- a part that was refused
pub part-refused :
    (w w' : List ℤ) (target source width : ℕ) (q : ℤ) (before : ℕ) (r : Result ℕ TooWide) → IsErr r → Beyond w width (difference w target source q) w'
    → Subtracted w target source width q before r w'
part-refused w w' target source width q before (Ok x) refused h = absurd (false≢true refused)
part-refused w w' target source width q before (Err e) refused h = h

-- the factor is the number that the word holds
pub factor-read :
    (w₀ : List ℤ) (target source width : ℕ) (q : ℤ) → nat_abs q ≤ entry_limit → (before : ℕ) (r : Result ℕ TooWide) (w : List ℤ)
    → Subtracted w₀ target source width (read w64 q) before r w → Subtracted w₀ target source width q before r w
factor-read w₀ target source width q small before r w = subst (λ (k : ℤ). Subtracted w₀ target source width k before r w) (read_wide q small)
