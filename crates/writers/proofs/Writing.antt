-- A slice that is written from a slot on: `written_none`, `written-more`, `written_one`, `written-length`, and `written-whole` for one that is
-- written from its start on; `put-splice` for a part that is written. `Progress`: what the loops over the rows have written after some rows.
use mathlib.Core.Path.{◌≡◌, sym, subst, ap, ◌∙◌}
use mathlib.Core.Logic.{◌≢◌}
use mathlib.Core.List.{List, [], ◌∷◌, ◌++◌}
use Prim.Native.Nat.{ℕ, ◌+◌, ◌*◌, ◌≤◌, ◌<◌}
use native.Mathlib.Nat as NatL
use native.Mathlib.Omega.{arith}
use borrow.Rule.Slice.PartMut.{put_mid}
use lib.ListN.{length, set, take, drop, length-append}
use lib.Seq.{drop-drop}
use lib.IntN.{ℤ, pos}
use lib.Signed.{◌≤ℤ◌}
use Rattle.lists.specs.Splice.{splice}
use Rattle.lists.specs.SpliceLaws.{splice-nil, splice-zero, splice-set, splice-splice, length-splice}
use Rattle.reports.specs.Report.{reported}
use Rattle.reports.proofs.ReportLaws.{length-reported-le}
use Rattle.lists.specs.Splice.{written}
use Rattle.writers.specs.Written.{WrittenFrom}
use Rattle.writers.proofs.Rows.{reported-one, reported-other, blocks, blocks-snoc, length-blocks}

pub written_none : (from : ℕ) (slice : List ℤ) → WrittenFrom from [] slice from slice
written_none from slice = record { next = omega arith; is = sym (splice-nil from slice) }

module _ {from next : ℕ} {xs slice₀ slice : List ℤ} (so_far : WrittenFrom from xs slice₀ next slice) where
  pub written-length : from + length xs ≤ length slice₀ → length slice ≡ length slice₀
  written-length h = ap length so_far.is ∙ length-splice from xs slice₀ h

  -- more numbers behind those
  pub written-more : (ys : List ℤ) → from ≤ length slice₀ → WrittenFrom from (xs ++ ys) slice₀ (next + length ys) (splice next ys slice)
  written-more ys h = record {
    next = omega (arith, so_far.next, length-append xs ys);
    is = rw (so_far.next, so_far.is) (splice-splice from xs slice₀ h ys);
  }

  -- one number behind those
  pub written_one : (y : ℤ) → next < length slice₀ → WrittenFrom from (xs ++ (y ∷ [])) slice₀ (next + 1) (set slice next y)
  written_one y h =
      subst (λ (s : List ℤ). WrittenFrom from (xs ++ (y ∷ [])) slice₀ (next + 1) s) (splice-set next y slice inside)
      (written-more (y ∷ []) (omega (arith, so_far.next)))
    where
      inside : next < length slice
      inside = omega (arith, written-length (omega (arith, so_far.next)))

-- written in two parts
pub written_then : {from next next' : ℕ} {xs ys slice₀ slice slice' : List ℤ} → WrittenFrom from xs slice₀ next slice
    → WrittenFrom next ys slice next' slice' → from ≤ length slice₀ → WrittenFrom from (xs ++ ys) slice₀ next' slice'
written_then {from} {next} {next'} {xs} {ys} {slice₀} {slice} {slice'} h k r = rw (k.next, k.is) (written-more h ys r)

-- from the slice's start on
pub written-whole : {next : ℕ} {xs slice₀ slice : List ℤ} → WrittenFrom 0 xs slice₀ next slice → slice ≡ written xs slice₀
written-whole {next} {xs} {slice₀} {slice} h = h.is ∙ splice-zero xs slice₀

-- a part of the slice, from `at` on, that has been given other numbers
pub put-splice : (at k : ℕ) (xs slice : List ℤ) → k ≡ length xs → put_mid at k slice xs ≡ splice at xs slice
unfolding splice
put-splice at k xs slice h = rw (drop-drop, h) (ap (λ (n : ℕ). take at slice ++ (xs ++ drop n slice)) (omega arith))

-- ---- a loop over the rows

-- For each row below i whose kind e is not 1, the numbers b of the row have been written.
pub record Progress (e : ℕ → ℤ) (b : ℕ → List ℤ) (n from : ℕ) (slice₀ : List ℤ) (i next : ℕ) (slice : List ℤ) : Type 0 where
  pub below : i ≤ n
  pub so_far : WrittenFrom from (blocks b (reported e i)) slice₀ next slice

pub progress-none : (e : ℕ → ℤ) (b : ℕ → List ℤ) (n from : ℕ) (slice : List ℤ) → Progress e b n from slice 0 from slice
unfolding reported blocks
progress-none e b n from slice = record { below = omega arith; so_far = written_none from slice }

module _ {e : ℕ → ℤ} {b : ℕ → List ℤ} {n from i next : ℕ} {slice₀ slice : List ℤ} (p : Progress e b n from slice₀ i next slice) where
  -- a row of kind 1
  pub progress-one : i < n → e i ≡ pos 1 → Progress e b n from slice₀ (i + 1) next slice
  progress-one l h = record {
    below = omega arith;
    so_far = rw (reported-one e i h) p.so_far;
  }

  -- a row of another kind, whose numbers have been written
  pub progress-other : i < n → pos 0 ≤ℤ e i → e i ≢ pos 1 → {next' : ℕ} {slice' : List ℤ}
      → WrittenFrom from (blocks b (reported e i) ++ b i) slice₀ next' slice' → Progress e b n from slice₀ (i + 1) next' slice'
  progress-other l h f w = record {
    below = omega arith;
    so_far = rw (reported-other e i h f, blocks-snoc b (reported e i) i) w;
  }

  -- after the last row
  pub progress-end : n ≤ i → WrittenFrom from (blocks b (reported e n)) slice₀ next slice
  progress-end h = subst (λ (k : ℕ). WrittenFrom from (blocks b (reported e k)) slice₀ next slice) (NatL.le_antisymm p.below h) p.so_far

  module _ (k : ℕ) (sizes : (j : ℕ) → length (b j) ≡ k) (room : from + n * k ≤ length slice₀) where
    -- k slots are left for the next row
    pub progress-room : i < n → next + k ≤ length slice₀
    progress-room l =
        omega (
          arith,
          p.so_far.next,
          length-blocks b k sizes (reported e i),
          NatL.mul-le-mul_right k (length-reported-le e i),
          NatL.suc-mul i k,
          NatL.mul-le-mul_right k l,
        )

    pub progress-length : length slice ≡ length slice₀
    progress-length =
        written-length p.so_far
        (omega (
          arith,
          length-blocks b k sizes (reported e i),
          NatL.mul-le-mul_right k (length-reported-le e i),
          NatL.mul-le-mul_right k p.below,
        ))

-- a line of a matrix for each row that is reported
pub progress-line : {e : ℕ → ℤ} {b : ℕ → List ℤ} {n from i next : ℕ} {slice₀ slice slice' : List ℤ} → Progress e b n from slice₀ i next slice
    → i < n → pos 0 ≤ℤ e i → e i ≢ pos 1 → from ≤ length slice₀ → (k : ℕ) → length (b i) ≡ k → slice' ≡ splice next (b i) slice
    → Progress e b n from slice₀ (i + 1) (next + k) slice'
progress-line {e} {b} {n} {from} {i} {next} {slice₀} {slice} {slice'} p l h g r k size is =
    progress-other p l h g (rw (is, sym size) (written-more p.so_far (b i) r))

-- one number for each row that is reported
pub progress-number : {e f : ℕ → ℤ} {n from i next : ℕ} {slice₀ slice : List ℤ} → Progress e (λ k. f k ∷ []) n from slice₀ i next slice
    → i < n → pos 0 ≤ℤ e i → e i ≢ pos 1 → next < length slice₀ → (y : ℤ) → y ≡ f i
    → Progress e (λ k. f k ∷ []) n from slice₀ (i + 1) (next + 1) (set slice next y)
progress-number {e} {f} {n} {from} {i} {next} {slice₀} {slice} p l h g r y is =
    progress-other p l h g (rw (sym is) (written_one p.so_far y r))
