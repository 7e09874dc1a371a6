-- What an operation on spans leaves of a matrix, from what it leaves of the slice: `subtracted-became`, `negated-became`,
-- `swapped-holds`, each for any matrix A that has the new entries on the spans and the old ones elsewhere; `holds-trans`; and
-- `holds-nothing`: a matrix whose lines are empty holds anything.
use mathlib.Core.Path.{◌≡◌, refl, sym, ap, subst, ◌∙◌}
use mathlib.Core.Logic.{◌⊎◌, inl, inr, ⊎_elim, ◌≢◌}
use mathlib.Core.List.{List}
use Prim.Native.Nat.{ℕ, ◌+◌, ◌<◌}
use native.Mathlib.Nat as NatL
use native.Mathlib.Omega.{arith}
use lib.IntN.{ℤ, neg_ℤ, nat_abs, ◌-ℤ◌, ◌*ℤ◌}
use Rattle.std.specs.Prelude.{Result, Ok, Err}
use Rattle.matrices.specs.Matrix as theory
use Rattle.integers.specs.Slot.{slot}
use Rattle.matrix_lines.specs.Slice.{entry_limit, line_at, Bounded, OneOf, Off, difference, LineSet, Beyond, Subtracted, Negated, LinesSwapped}
use Rattle.matrix_lines.specs.Matrices.{contents, Entries, EntryOf, Holds, Exceeds, Became}
use Rattle.matrix_lines.specs.declared.matrix.Matrix.{Matrix}
use Rattle.matrix_lines.specs.declared.line.TooWide.{TooWide}
use Rattle.matrix_lines.proofs.Peaks.{covered_same, covered-trans}
use Rattle.matrix_lines.proofs.Spans.{Span, On, on-or-off, span-at, span-off, span-outside}

-- one change after another: an entry that the first wrote stays
pub holds-trans :
    {M : Matrix} {w w' w'' : List ℤ} {among among' : Entries} {B A : theory.Matrix} {before x y : ℕ} → Holds M w among B before x w'
    → Holds M w' among' A x y w'' → (EntryOf M among B x → EntryOf M among' A x) → Holds M w among' A before y w''
holds-trans {M} {w} {w'} {w''} {among} {among'} {B} {A} {before} {x} {y} h k stays = record {
  same_length = k.same_length ∙ h.same_length;
  on = k.on;
  off = λ p o. k.off p o ∙ h.off p o;
  bounded = k.bounded;
  above = NatL.le_trans h.above k.above;
  covered = covered-trans h.covered k.covered k.above;
  wrote = pick k.wrote h.wrote;
}
  where
    pick : (y ≡ x) ⊎ EntryOf M among' A y → (x ≡ before) ⊎ EntryOf M among B x → (y ≡ before) ⊎ EntryOf M among' A y
    pick (inr o) p = inr o
    pick (inl e) (inl p) = inl (e ∙ p)
    pick (inl e) (inr p) = inr (subst (λ (n : ℕ). EntryOf M among' A n) (sym e) (stays p))

pub holds-nothing : (M : Matrix) (w : List ℤ) (among : Entries) (A : theory.Matrix) {before : ℕ} → M.width ≡ 0 → Bounded before w
    → Holds M w among A before before w
holds-nothing M w among A {before} e b = record {
  same_length = refl;
  on = record { at = λ a b x y. absurd (omega arith) };
  off = λ p o. refl;
  bounded = b;
  above = NatL.le_refl before;
  covered = covered_same w;
  wrote = inl refl;
}

-- A has the entries of w off the span
abbrev pub SameOff : Matrix → List ℤ → (i j n : ℕ) → theory.Matrix → Type 0
SameOff M w i j n A = (a b : ℕ) → a < M.lines → b < M.width → (a ≢ i) ⊎ Off j n b → A a b ≡ contents M w a b

-- an entry of the line is one of A
one_of :
    {M : Matrix} {start i j n : ℕ} {line : ℕ → ℤ} → Span M start i j n → (A : theory.Matrix) → ((t : ℕ) → t < n → A i (j + t) ≡ line t)
    → {among : Entries} {x : ℕ} → ((t : ℕ) → among i t) → OneOf n line x → EntryOf M among A x
one_of {i = i} {j = j} s A on all o = record {
  line = i;
  place = j + o.place;
  line-below = s.line;
  place-below = omega (arith, s.within, o.below);
  chosen = all (j + o.place);
  is = o.is ∙ ap nat_abs (sym (on o.place o.below));
}

module _ {M : Matrix} {w w' : List ℤ} {start i j n : ℕ} {line : ℕ → ℤ} (s : Span M start i j n) (A : theory.Matrix)
    (on : (t : ℕ) → t < n → A i (j + t) ≡ line t) where
  pub line_set-holds :
      {among : Entries} {before x : ℕ} → LineSet w start n line before x w' → SameOff M w i j n A → ((t : ℕ) → among i t) → Holds M w among A before x w'
  line_set-holds h same all = record {
    same_length = h.same_length;
    on = record { at = λ a b k l. pick a b k l (on-or-off i j n a b) };
    off = λ p o. h.off p (span-outside s p o);
    bounded = h.bounded;
    above = h.above;
    covered = h.covered;
    wrote = ⊎_elim (λ e. inl e) (λ o. inr (one_of s A on all o)) h.wrote;
  }
    where
      pick : (a b : ℕ) → a < M.lines → b < M.width → On i j n a b ⊎ ((a ≢ i) ⊎ Off j n b) → contents M w' a b ≡ A a b
      pick a b k l (inl o) =
          rw (o.line, o.is) (sym (span-at s w' o.place) ∙ h.on o.place o.below ∙ sym (on o.place o.below))
      pick a b k l (inr o) = h.off (line_at M.at M.width a + b) (span-off s a b l o) ∙ sym (same a b k l o)

  pub beyond-exceeds : Beyond w n line w' → Exceeds M w A w'
  beyond-exceeds h = record {
    same_length = h.same_length;
    line = i;
    place = j + h.place;
    line-below = s.line;
    place-below = omega (arith, s.within, h.below);
    beyond = subst (λ (z : ℤ). entry_limit < nat_abs z) (sym (on h.place h.below)) h.beyond;
  }

pub subtracted-became : {M : Matrix} {target source i j k l n : ℕ} → Span M target i j n → Span M source k l n → (w w' : List ℤ) (q : ℤ)
    (A : theory.Matrix) → ((t : ℕ) → t < n → A i (j + t) ≡ contents M w i (j + t) -ℤ q *ℤ contents M w k (l + t)) → SameOff M w i j n A
    → (among : Entries) → ((t : ℕ) → among i t) → (before : ℕ) (r : Result ℕ TooWide) → Subtracted w target source n q before r w'
    → Became M w among A before r w'
subtracted-became {M} {target} {source} {i} {j} {k} {l} {n} s u w w' q A on same among all before = by_result
  where
    on' : (t : ℕ) → t < n → A i (j + t) ≡ difference w target source q t
    on' t h = rw (span-at s w t, span-at u w t) (on t h)

    by_result : (r : Result ℕ TooWide) → Subtracted w target source n q before r w' → Became M w among A before r w'
    by_result (Ok x) h = line_set-holds s A on' h same all
    by_result (Err e) h = beyond-exceeds s A on' h

pub negated-holds : {M : Matrix} {target i j n : ℕ} → Span M target i j n → (w w' : List ℤ)
    (A : theory.Matrix) → ((t : ℕ) → t < n → A i (j + t) ≡ neg_ℤ (contents M w i (j + t))) → SameOff M w i j n A
    → (among : Entries) → ((t : ℕ) → among i t) → {before x : ℕ} → Negated w target n before x w' → Holds M w among A before x w'
negated-holds {M} {target} {i} {j} {n} s w w' A on same among all h = line_set-holds s A on' h same all
  where
    on' : (t : ℕ) → t < n → A i (j + t) ≡ neg_ℤ (slot w (target + t))
    on' t h = rw (span-at s w t) (on t h)

-- A has the entries of w off both spans
abbrev pub SameOffBoth : Matrix → List ℤ → (i j k l n : ℕ) → theory.Matrix → Type 0
SameOffBoth M w i j k l n A =
    (a b : ℕ) → a < M.lines → b < M.width → (a ≢ i) ⊎ Off j n b → (a ≢ k) ⊎ Off l n b → A a b ≡ contents M w a b

pub swapped-holds : {M : Matrix} {w w' : List ℤ} {first second i j k l n before x : ℕ} → Span M first i j n → Span M second k l n
    → (A : theory.Matrix) → ((t : ℕ) → t < n → A i (j + t) ≡ contents M w k (l + t)) → ((t : ℕ) → t < n → A k (l + t) ≡ contents M w i (j + t))
    → SameOffBoth M w i j k l n A → (among : Entries) → ((t : ℕ) → among i t) → ((t : ℕ) → among k t) → LinesSwapped w first second n before x w'
    → Holds M w among A before x w'
swapped-holds {M} {w} {w'} {first} {second} {i} {j} {k} {l} {n} {before} {x} s u A on-first on-second same among all all' h = record {
  same_length = h.same_length;
  on = record { at = λ a b x y. pick a b x y (on-or-off i j n a b) (on-or-off k l n a b) };
  off = λ p o. h.off p (span-outside s p o) (span-outside u p o);
  bounded = h.bounded;
  above = h.above;
  covered = h.covered;
  wrote =
      ⊎_elim (λ e. inl e)
      (λ o. inr
      (⊎_elim (λ p. one_of u A (λ t l. on-second t l ∙ sym (span-at s w t)) all' p) (λ p. one_of s A (λ t l. on-first t l ∙ sym (span-at u w t)) all p) o))
      h.wrote;
}
  where
    pick : (a b : ℕ) → a < M.lines → b < M.width → On i j n a b ⊎ ((a ≢ i) ⊎ Off j n b) → On k l n a b ⊎ ((a ≢ k) ⊎ Off l n b)
        → contents M w' a b ≡ A a b
    pick a b x y (inl o) p =
        rw (o.line, o.is)
        (sym (span-at s w' o.place) ∙ h.on-first o.place o.below ∙ span-at u w o.place ∙ sym (on-first o.place o.below))
    pick a b x y (inr o) (inl p) =
        rw (p.line, p.is)
        (sym (span-at u w' p.place) ∙ h.on-second p.place p.below ∙ span-at s w p.place ∙ sym (on-second p.place p.below))
    pick a b x y (inr o) (inr p) = h.off (line_at M.at M.width a + b) (span-off s a b y o) (span-off u a b y p) ∙ sym (same a b x y o p)
