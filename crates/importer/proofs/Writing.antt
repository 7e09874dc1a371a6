-- What is answered where the faces are added: too-many-faces, slice-too-short, sheet-written.
--     unswept-sections, unswept-counts     the sheet before the sweep, in an array of zeros
use mathlib.Core.Path.{◌≡◌, refl, ap, subst}
use mathlib.Core.Bool.{true, false, cond, or-true}
use mathlib.Core.List.{List, ◌++◌}
use Prim.Native.Nat.{ℕ, suc, ◌+◌, ◌≤◌, ◌<◌}
use native.Mathlib.Decide.{dec_le}
use native.Mathlib.Omega.{arith}
use lib.Dec.{ltb}
use lib.ListN.{length, drop, replicate}
use lib.Seq.{get_or-drop}
use borrow.Author.Tests.{lt-ltb, le-ltb}
use Rattle.std.specs.Prelude.{Result, Err}
use Rattle.trials.specs.Write.{answer_with}
use Rattle.complexes.specs.Complex.{Sections, count}
use Rattle.limits.specs.Limits.{library_limit}
use Rattle.sheet_format.specs.Layout.{layout, longest}
use Rattle.sheet_format.specs.Check.{count_field, sections_of}
use Rattle.sheet_format.specs.CheckLaws.{some_at, some-false}
use Rattle.sheet_format.specs.Sheet.{Bytes}
use Rattle.sheet_format.specs.SheetLaws.{count-beyond, count-below, count-sections_of}
use Rattle.sheet_format.proofs.LayoutLaws.{Shaped}
use Rattle.sheet_format.proofs.Accept.{sections-front}
use Rattle.closures.specs.Closure.{element_top}
use Rattle.cell_sets.specs.Set.{Holds}
use Rattle.cell_sets.specs.Close.{Exceeds}
use Rattle.cell_sets.specs.declared.set.CellSet.{CellSet}
use Rattle.sweeps.specs.Sweep.{swept_sheet}
use Rattle.sweeps.proofs.SweptLaws.{swept-fits}
use Rattle.imports.specs.Import.{too_long}
use Rattle.node_maps.proofs.EmptyMap.{byte-zero}
use Rattle.refusal.specs.Written.{WriteAnswers}
use Rattle.refusal.specs.declared.Refusal.{Refusal}
use Rattle.refusal.specs.declared.Refusal.TheVariants.{SheetTooLong}
use Rattle.cell_keeper.specs.Keeps.{write_over}

module _ (limit : ℕ) (K : Sections) (sheet : List ℕ) where
  pub exceeds-too-long : Exceeds limit K → too_long limit (length sheet) K ≡ true
  unfolding too_long
  exceeds-too-long x =
      rw (some_at (suc element_top) (λ p. ltb limit (count K p)) x.dimension (omega (arith, x.listed)) (lt-ltb limit (count K x.dimension) x.over))
      (or-true (ltb (length sheet) (length (layout K))))

  refused-sixteen : too_long limit (length sheet) K ≡ true
      → WriteAnswers (answer_with (cond (too_long limit (length sheet) K) 16 0) (swept_sheet K) sheet) (Err SheetTooLong) sheet
  unfolding answer_with
  refused-sixteen e = rw e (record { answer = refl; output-is = refl })

  pub too-many-faces : Exceeds limit K
      → WriteAnswers (answer_with (cond (too_long limit (length sheet) K) 16 0) (swept_sheet K) sheet) (Err SheetTooLong) sheet
  too-many-faces x = refused-sixteen (exceeds-too-long x)

  pub slice-too-short : length sheet < length (layout K)
      → WriteAnswers (answer_with (cond (too_long limit (length sheet) K) 16 0) (swept_sheet K) sheet) (Err SheetTooLong) sheet
  unfolding too_long
  slice-too-short l = refused-sixteen (rw (lt-ltb (length sheet) (length (layout K)) l) refl)

  module _ {s : CellSet} (h : Holds s K) (e : s.limit ≡ limit) where
    small : limit ≤ library_limit
    small = omega (arith, e, s.small)

    pub shape : Shaped limit K
    shape = record {
      dimensions = h.dimensions;
      within = λ p. within p (dec_le p element_top);
      sized = λ p i l. ((h.sections p (listed p i l)).vertices i l).sized;
      numbered = λ p i j l m. let v = (h.sections p (listed p i l)).vertices i l in v.numbered.at j (omega (arith, v.sized));
    }
      where
        listed : (p i : ℕ) → i < count K p → p ≤ element_top
        listed p i l = omega (arith, count-below K p i l, h.dimensions)

        within : (p : ℕ) → Dec (p ≤ element_top) → count K p ≤ limit
        within p (yes l) = omega (arith, e, (h.sections p l).within)
        within p (no l) = omega (arith, count-beyond K p (omega (arith, h.dimensions)))

    -- the sheet at the front of a slice of zeros
    module _ {unswept : List ℕ} (u : unswept ≡ layout K ++ drop (length (layout K)) (replicate (longest library_limit) 0)) where
      pub unswept-sections : sections_of unswept ≡ K
      unswept-sections = rw u (sections-front shape small (drop (length (layout K)) (replicate (longest library_limit) 0)) zeros)
        where
          zeros : Bytes (drop (length (layout K)) (replicate (longest library_limit) 0))
          zeros = record { small = λ i. rw (get_or-drop {A = ℕ} (length (layout K)) (replicate (longest library_limit) 0) i 0) (omega (arith, byte-zero (longest library_limit) (length (layout K) + i))) }

      pub unswept-counts : (p : ℕ) → count_field unswept p ≤ library_limit
      unswept-counts p = omega (arith, count-sections_of unswept p, ap (λ (L : Sections). count L p) unswept-sections, shape.within p, small)

    module _ (l : length (layout K) ≤ length sheet) where
      fits : too_long limit (length sheet) K ≡ false
      unfolding too_long
      fits =
          rw (
            le-ltb (length sheet) (length (layout K)) l,
            (some-false (suc element_top) (λ p. ltb limit (count K p))).1
                (λ p m. le-ltb limit (count K p) (omega (arith, e, (h.sections p (omega arith)).within))),
          ) refl

      -- what the sweep makes of the sheet is written, since that is no longer
      pub sheet-written : {unswept : List ℕ} → unswept ≡ layout K ++ drop (length (layout K)) (replicate (longest library_limit) 0) → {r : Result ℕ Refusal} {after : List ℕ}
          → WriteAnswers (write_over (swept_sheet (sections_of unswept)) sheet) r after
          → WriteAnswers (answer_with (cond (too_long limit (length sheet) K) 16 0) (swept_sheet K) sheet) r after
      sheet-written u {r} {after} w =
          rw fits
          (rw (le-ltb (length sheet) (length (swept_sheet K)) (omega (arith, swept-fits K h.dimensions shape.sized)))
          at (subst (λ (L : Sections). WriteAnswers (write_over (swept_sheet L) sheet) r after) (unswept-sections u) w))
