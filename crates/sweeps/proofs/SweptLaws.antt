-- The cells without the loose nodes.
--     swept-is        they are exactly the cells less the vertices in no edge, where there is an edge
--     swept-complex   they are a complex, swept-used: without loose nodes
--     swept_same      where no node is loose they are all the cells
--     swept-unique    a complex with exactly these cells is theirs
--     swept-fits      their sheet is no longer than that of all the cells
use mathlib.Core.Path.{◌≡◌, refl, sym, ap, ◌∙◌, subst}
use mathlib.Core.Logic.{◌↔◌}
use mathlib.Core.Bool.{true, not}
use mathlib.Core.List.{List, []}
use Prim.Native.Nat.{ℕ, zero, suc, ◌≤◌, ◌<◌}
use native.Mathlib.Omega.{arith}
use lib.ListN.{length, get_or}
use lib.Seq.{ext_get_or}
use borrow.Author.Tests.{not-true}
use Rattle.complexes.specs.Cell.{Cell, without, precedes, Listed, Subset}
use Rattle.complexes.specs.Complex.{Sections, section, count, cell, Complex}
use Rattle.complexes.specs.Loose.{InEdge, NoLooseNodes}
use Rattle.complexes.proofs.Faces.{without-Sublist}
use Rattle.complexes.proofs.Subsets.{sublist-subset}
use Rattle.sheet_format.specs.Layout.{top, layout}
use Rattle.sheet_format.specs.Check.{loose}
use Rattle.sheet_format.specs.SheetLaws.{start-fewer}
use Rattle.sheet_format.proofs.LooseLaws.{loose-false}
use Rattle.sheet_format.proofs.LayoutLaws.{length-sized}
use Rattle.closures.proofs.RisingLaws.{rising-unique, cells-order, listed-stands}
use Rattle.closures.proofs.KeepCount.{length-keep, section-keep, count-keep, sized-keep}
use Rattle.closures.proofs.KeepLaws.{KeptAt, kept_whole, keep-listed, keep-whole, keep-complex}
use Rattle.sweeps.specs.Sweep.{stays, swept, swept_sheet}
use Rattle.sweeps.specs.Swept.{StaysIn, IsSwept}

module _ {limit : ℕ} {K : Sections} (complex : Complex top limit K) where
  -- a vertex stays exactly when it stands in an edge or there is none
  stays-iff : (i : ℕ) → i < count K 0 → (stays K 0 i ≡ true) ↔ (0 < count K 1 → InEdge K (cell K 0 i))
  stays-iff i l = (λ e. (loose-false complex i l).0 (not-true (loose K i) e), λ h. ap not ((loose-false complex i l).1 h))

  -- the cells of the dimensions above 0 all stay
  above : (p : ℕ) → section (swept K) (suc p) ≡ section K (suc p)
  above p = section-keep (stays K) K (suc p) ∙ kept_whole (stays K (suc p)) (section K (suc p)) (λ i l. refl)

  -- an edge is one of K's and of the swept cells'
  edge_stays : {c : Cell} → InEdge K c → InEdge (swept K) c
  edge_stays {c} n = record {
    edge = n.edge;
    below = rw (above 0) n.below;
    subset = subst (λ (l : List Cell). Subset c (get_or l n.edge [])) (sym (above 0)) n.subset;
  }

  pub swept-is : IsSwept K (swept K)
  swept-is = record { exactly = λ p c. (λ h. to p c ((keep-listed (stays K) K p c).0 h), λ h. (keep-listed (stays K) K p c).1 (from p c h)) }
    where
      to : (p : ℕ) (c : Cell) → KeptAt (stays K p) (section K p) (count K p) c → StaysIn K p c
      to zero c k = record {
        listed = record { place = k.place; below = k.below; is = k.is };
        used = λ e h. rw k.is at ((stays-iff k.place k.below).0 k.stays h);
      }
      to (suc p) c k = record { listed = record { place = k.place; below = k.below; is = k.is }; used = λ e. absurd (omega (arith, e)) }

      from : (p : ℕ) (c : Cell) → StaysIn K p c → KeptAt (stays K p) (section K p) (count K p) c
      from zero c s = record {
        place = s.listed.place;
        below = s.listed.below;
        stays = (stays-iff s.listed.place s.listed.below).1 (λ h. rw (sym s.listed.is) at (s.used refl h));
        is = s.listed.is;
      }
      from (suc p) c s = record { place = s.listed.place; below = s.listed.below; stays = refl; is = s.listed.is }

  pub swept-complex : Complex top limit (swept K)
  swept-complex = keep-complex (stays K) K complex faces
    where
      faces : (p i j : ℕ) → i < count K (suc p) → stays K (suc p) i ≡ true → j < suc (suc p)
          → KeptAt (stays K p) (section K p) (count K p) (without j (cell K (suc p) i))
      faces zero i j l e m =
          let f : Listed (without j (cell K 1 i)) (section K 0) = complex.closed 0 i j l m in
          record {
            place = f.place;
            below = f.below;
            stays = (stays-iff f.place f.below).1 (λ h. record {
              edge = i;
              below = l;
              subset = rw (sym f.is) at (sublist-subset (without-Sublist j (cell K 1 i)));
            });
            is = f.is;
          }
      faces (suc p) i j l e m =
          let f : Listed (without j (cell K (suc (suc p)) i)) (section K (suc p)) = complex.closed (suc p) i j l m in
          record { place = f.place; below = f.below; stays = refl; is = f.is }

  pub swept-used : NoLooseNodes (swept K)
  swept-used = record {
    used = λ h i l.
        edge_stays (((swept-is.exactly 0 (cell (swept K) 0 i)).0 (record { place = i; below = l; is = refl })).used refl (rw (above 0) at h));
  }

  pub swept_same : NoLooseNodes K → swept K ≡ K
  swept_same none = keep-whole (stays K) K all
    where
      all : (p i : ℕ) → i < count K p → stays K p i ≡ true
      all zero i l = (stays-iff i l).1 (λ h. none.used h i l)
      all (suc p) i l = refl

  pub swept-unique : {limit' : ℕ} {L : Sections} → Complex top limit' L → IsSwept K L → L ≡ swept K
  swept-unique {L = L} other is =
      ext_get_or [] L (swept K) (other.dimensions ∙ sym swept-complex.dimensions)
      (λ p _. rising-unique precedes cells-order [] (section L p) (section (swept K) p) (other.ordered p) (swept-complex.ordered p) (λ c. (
        λ s. listed-stands.0 ((swept-is.exactly p c).1 ((is.exactly p c).0 (listed-stands.1 s))),
        λ s. listed-stands.0 ((is.exactly p c).1 ((swept-is.exactly p c).0 (listed-stands.1 s))),
      )))

-- fewer cells have a shorter sheet
pub swept-fits : (K : Sections) → length K ≡ suc top → ((p i : ℕ) → i < count K p → length (cell K p i) ≡ suc p) → length (swept_sheet K) ≤ length (layout K)
swept-fits K dimensions sized =
    rw (
      length-sized (swept K) (λ p. sized-keep (stays K) K p (suc p) (sized p)) (length-keep (stays K) K ∙ dimensions),
      length-sized K sized dimensions,
    ) (start-fewer (count (swept K)) (count K) (suc top) (count-keep (stays K) K))
