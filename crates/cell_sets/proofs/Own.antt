-- A list of cells collected one after another.
--     holds-none     a set with counts of 0 holds the cells of the empty list
--     adding-own     the cells of a list with one cell more
use mathlib.Core.Path.{◌≡◌, refl, sym, ap, ◌∙◌}
use mathlib.Core.List.{List, [], ◌∷◌, ◌++◌}
use Prim.Native.Nat.{ℕ, suc, ◌*◌, ◌≤◌}
use native.Mathlib.Decide.{ℕ_discrete}
use native.Mathlib.Omega.{arith}
use lib.ListN.{length, get_or, replicate, get_or-replicate}
use lib.Seq.{ext_get_or}
use Rattle.lists.proofs.TabulateLaws.{length-tabulate}
use Rattle.complexes.specs.Cell.{Cell, precedes}
use Rattle.complexes.specs.Complex.{section}
use Rattle.closures.specs.Insert.{insert, insert_all}
use Rattle.closures.specs.Closure.{element_top, of_dimension, own_section, own_sections}
use Rattle.closures.proofs.SectionLaws.{own_section-snoc, own_section-skip}
use Rattle.closures.proofs.ClosureLaws.{own_sections-section}
use Rattle.cell_sets.specs.Set.{HoldsSection, Holds, adding}
use Rattle.cell_sets.specs.declared.set.CellSet.{CellSet}
use Rattle.cell_sets.proofs.Adding.{length-adding, section-adding-same, section-adding-other}

length-own : (cs : List Cell) → length (own_sections element_top cs) ≡ suc element_top
unfolding own_sections
length-own cs = length-tabulate (suc element_top) (own_section cs)

pub holds-none : (s : CellSet) → suc element_top * s.limit ≤ length s.words → s.counts ≡ replicate (suc element_top) 0
    → Holds s (own_sections element_top [])
unfolding of_dimension insert_all
holds-none s room e = record {
  room = room;
  sized = ap length e;
  dimensions = length-own [];
  sections = λ p h. rw (own_sections-section element_top [] p h) (none p h);
}
  where
    none : (p : ℕ) → p ≤ element_top → HoldsSection s p []
    none p h = record {
      counted = ap (λ (l : List ℕ). get_or l p 0) e ∙ get_or-replicate (suc element_top) p 0 0 (omega arith);
      within = omega arith;
      words = refl;
      rising = λ i l. absurd (omega arith);
      vertices = λ i l. absurd (omega arith);
    }

module _ (cs : List Cell) (c : Cell) (p : ℕ) (small : p ≤ element_top) (sized : length c ≡ suc p) where
  pub adding-own : adding (own_sections element_top cs) p (c ∷ []) ≡ own_sections element_top (cs ++ (c ∷ []))
  unfolding insert_all
  adding-own =
      ext_get_or [] (adding (own_sections element_top cs) p (c ∷ [])) (own_sections element_top (cs ++ (c ∷ [])))
      (length-adding (own_sections element_top cs) p (c ∷ []) ∙ length-own cs ∙ sym (length-own (cs ++ (c ∷ []))))
      (λ q l. at q (omega (arith, l, length-adding (own_sections element_top cs) p (c ∷ []), length-own cs)) (ℕ_discrete q p))
    where
      at : (q : ℕ) → q ≤ element_top → Dec (q ≡ p) → section (adding (own_sections element_top cs) p (c ∷ [])) q ≡ section (own_sections element_top (cs ++ (c ∷ []))) q
      at q l (yes e) =
          rw e
          (section-adding-same (own_sections element_top cs) p (c ∷ []) (omega (arith, length-own cs))
          ∙ ap (insert precedes c) (own_sections-section element_top cs p small)
          ∙ sym (own_section-snoc p cs c sized)
          ∙ sym (own_sections-section element_top (cs ++ (c ∷ [])) p small))
      at q l (no d) =
          section-adding-other (own_sections element_top cs) p q (c ∷ []) d
          ∙ own_sections-section element_top cs q l
          ∙ sym (own_section-skip q cs c (λ e. d (omega arith)))
          ∙ sym (own_sections-section element_top (cs ++ (c ∷ [])) q l)
