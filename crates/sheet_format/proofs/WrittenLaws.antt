-- The sheet of a complex without loose nodes, written from the start of a slice on.
--     front-layout      the first bytes of the slice are it
--     written-layout    it is a sheet that a call may write
use mathlib.Core.Path.{◌≡◌, ap, ap₂, sym, ◌∙◌, subst}
use mathlib.Core.List.{List, ◌++◌}
use Prim.Native.Nat.{ℕ, suc, ◌+◌, ◌*◌, ◌≤◌, ◌<◌}
use native.Mathlib.Omega.{arith}
use lib.ListN.{length, take, drop, length-append, get_or-append}
use lib.Seq.{take-append_seam, drop-append_seam}
use Rattle.limits.specs.Limits.{library_limit}
use Rattle.complexes.specs.Complex.{Sections, count, Complex}
use Rattle.complexes.specs.Loose.{NoLooseNodes}
use Rattle.sheet_format.specs.Layout.{top, header_length, start, layout}
use Rattle.sheet_format.specs.Check.{field_at, offset_field, sections_of, refusal}
use Rattle.sheet_format.specs.Sheet.{Bytes}
use Rattle.sheet_format.specs.Written.{header_gives, WrittenSheet}
use Rattle.sheet_format.specs.SheetLaws.{count_field-in, start-mono}
use Rattle.sheet_format.proofs.LayoutLaws.{Reads, length-layout, bytes-layout}
use Rattle.sheet_format.proofs.Accept.{reads-layout, accepted-layout, sections-layout}

-- ---- the sheet of a complex at the front of a slice
module _ {limit : ℕ} (small : limit ≤ library_limit) {K : Sections} (complex : Complex top limit K) (rest : List ℕ) where
  header-fits : header_length ≤ length (layout K)
  unfolding start
  header-fits = rw (length-layout complex) (start-mono (count K) 0 (suc top) (omega arith))

  -- the header of the slice is the sheet's
  field-front : (i : ℕ) → suc i < header_length → field_at (layout K ++ rest) i ≡ field_at (layout K) i
  field-front i l =
      ap₂ (λ x y. x + 256 * y) (get_or-append (layout K) rest 0 i (omega (arith, header-fits)))
      (get_or-append (layout K) rest 0 (suc i) (omega (arith, header-fits)))

  front_length : header_gives (layout K ++ rest) ≡ length (layout K)
  unfolding offset_field start
  front_length =
      let reads : Reads (layout K) K = reads-layout complex small in
      omega (
        arith,
        field-front (4 * top + 2) (omega arith),
        reads.offsets top (omega arith),
        count_field-in (layout K ++ rest) top (omega arith),
        field-front (4 * top) (omega arith),
        reads.counts top (omega arith),
        length-layout complex,
      )

  pub front-sections : sections_of (take (length (layout K)) (layout K ++ rest)) ≡ K
  front-sections = ap sections_of (take-append_seam (layout K) rest) ∙ sections-layout complex small

  pub written-layout : NoLooseNodes K → (before : List ℕ) → rest ≡ drop (length (layout K)) before
      → WrittenSheet limit before (layout K ++ rest) (length (layout K))
  written-layout used before e = record {
    within = omega (arith, length-append (layout K) rest);
    bytes = subst Bytes (sym (take-append_seam (layout K) rest)) (bytes-layout K);
    accepted = ap (refusal limit) (take-append_seam (layout K) rest) ∙ accepted-layout complex used small;
    in-header = front_length;
    past = drop-append_seam (layout K) rest ∙ e;
  }
