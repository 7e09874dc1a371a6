-- Parts of a text by their positions.
--     Spans, Stands      from one position to another the text reads t, or some text of a sort
--     spans-append, spans-split, spans-whole, whole-spans      parts one behind another, and the whole text
--     get_or-front, byte-spans      the byte at a position
use mathlib.Core.Path.{◌≡◌, refl, sym, ap, ◌∙◌}
use mathlib.Core.List.{List, [], ◌∷◌, ◌++◌, append-nil, append_assoc}
use Prim.Native.Nat.{ℕ, suc, ◌+◌, ◌<◌}
use native.Mathlib.Decide.{dec_lt}
use native.Mathlib.Nat.{add-zero, zero-add}
use native.Mathlib.Numerals.{add-one}
use native.Mathlib.Omega.{arith}
use lib.ListN.{length, get_or, drop, length-append, get_or-eq_default}
use lib.Seq.{drop-cons, drop-drop, drop-length, drop-append_seam, get_or-drop}

-- from position `at` to `next` the text s reads t
pub record Spans (s : List ℕ) (at : ℕ) (t : List ℕ) (next : ℕ) : Type 0 where
  pub reads : drop at s ≡ t ++ drop next s
  pub ends : next ≡ at + length t

-- .. reads a text of this sort
pub record Stands (Sort : List ℕ → Type 0) (s : List ℕ) (at next : ℕ) : Type 0 where
  pub text : List ℕ
  pub is : Sort text
  pub spans : Spans s at text next

-- ---- one behind another

module _ {s : List ℕ} where
  pub spans-nil : {at : ℕ} → Spans s at [] at
  spans-nil {at} = record { reads = refl; ends = sym (add-zero at) }

  pub spans-append : {at mid next : ℕ} {t u : List ℕ} → Spans s at t mid → Spans s mid u next → Spans s at (t ++ u) next
  spans-append {at} {mid} {next} {t} {u} h k = record {
    reads = h.reads ∙ ap (λ (r : List ℕ). t ++ r) k.reads ∙ sym (append_assoc t u (drop next s));
    ends = omega (arith, h.ends, k.ends, length-append t u);
  }

  pub spans-split : {at next : ℕ} (t u : List ℕ) → Spans s at (t ++ u) next → Spans s at t (at + length t) × Spans s (at + length t) u next
  spans-split {at} {next} t u h =
      (record { reads = rw behind front; ends = refl }, record { reads = behind; ends = omega (arith, h.ends, length-append t u) })
    where
      front : drop at s ≡ t ++ (u ++ drop next s)
      front = h.reads ∙ append_assoc t u (drop next s)

      behind : drop (at + length t) s ≡ u ++ drop next s
      behind = sym (drop-drop (length t) at s) ∙ ap (drop (length t)) front ∙ drop-append_seam t (u ++ drop next s)

pub spans-whole : (s : List ℕ) → Spans s 0 s (length s)
spans-whole s = record { reads = rw drop-length (sym (append-nil s)); ends = sym (zero-add (length s)) }

pub whole-spans : {s t : List ℕ} → Spans s 0 t (length s) → s ≡ t
whole-spans {s} {t} h = h.reads ∙ ap (λ (r : List ℕ). t ++ r) (drop-length s) ∙ append-nil t

-- ---- one byte

pub get_or-front : (s : List ℕ) (at b d : ℕ) (r : List ℕ) → drop at s ≡ b ∷ r → get_or s at d ≡ b
get_or-front s at b d r e = ap (λ (i : ℕ). get_or s i d) (sym (add-zero at)) ∙ sym (get_or-drop at s 0 d) ∙ ap (λ (u : List ℕ). get_or u 0 d) e

-- a byte that is not 0 stands in the text
get_or-inside : (s : List ℕ) (i : ℕ) → 0 < get_or s i 0 → i < length s
get_or-inside s i h = pick (dec_lt i (length s))
  where
    pick : Dec (i < length s) → i < length s
    pick (yes l) = l
    pick (no l) = omega (arith, get_or-eq_default s 0 {n = i} (omega arith))

pub byte-spans : (s : List ℕ) (at b : ℕ) → 0 < b → get_or s at 0 ≡ b → Spans s at (b ∷ []) (suc at)
byte-spans s at b h e = record { reads = rw (← e) (drop-cons s at 0 (get_or-inside s at (rw e h))); ends = sym (add-one at) }
