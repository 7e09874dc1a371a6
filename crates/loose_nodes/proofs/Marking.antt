-- Of the first i vertices exactly the loose ones are marked, and the later marks are left: what the loop that marks them keeps.
--     Marking, marking-start, marking-loose, marking-used, marking-end     no vertex, one more that is loose or is not, all of them
--     marks-none                                                           where there is no edge, nothing is marked
use mathlib.Core.Path.{◌≡◌, refl, sym, ap, ◌∙◌}
use mathlib.Core.Bool.{true, false}
use mathlib.Core.List.{List}
use Prim.Native.Nat.{ℕ, ◌+◌, ◌≤◌, ◌<◌}
use native.Mathlib.Decide.{ℕ_discrete}
use native.Mathlib.Omega.{arith}
use lib.Dec.{eqb}
use lib.ListN.{length, get_or, set, length-set}
use lib.Seq.{get_or-set_same, get_or-set_other}
use Rattle.complexes.specs.Complex.{Sections}
use Rattle.sheet_format.specs.Check.{count_field, sections_of, loose}
use Rattle.sheet_format.specs.SheetLaws.{count-sections_of}
use Rattle.loose_nodes.specs.Loose.{NoneMarked, MarksLoose}
use Rattle.loose_nodes.proofs.LooseByMap.{loose_none}

pub record Marking (K : Sections) (before : List ℕ) (i : ℕ) (after : List ℕ) : Type 0 where
  pub sized : length after ≡ length before
  pub here : (k : ℕ) → k < i → eqb (get_or after k 0) 1 ≡ loose K k
  pub past : (k : ℕ) → i ≤ k → get_or after k 0 ≡ get_or before k 0

pub marking-start : (K : Sections) (before : List ℕ) → Marking K before 0 before
marking-start K before = record { sized = refl; here = λ k l. absurd (omega arith); past = λ k l. refl }

-- one vertex more, where the marks change at no other place
module _ {K : Sections} {before : List ℕ} {i : ℕ} {marks : List ℕ} (m : Marking K before i marks) where
  more : {after : List ℕ} → length after ≡ length marks → ((k : ℕ) → (k ≡ i → ⊥) → get_or after k 0 ≡ get_or marks k 0)
      → eqb (get_or after i 0) 1 ≡ loose K i → Marking K before (i + 1) after
  more {after} sized same this = record {
    sized = sized ∙ m.sized;
    here = λ k l. at k l (ℕ_discrete k i);
    past = λ k l. same k (λ e. omega arith) ∙ m.past k (omega arith);
  }
    where
      at : (k : ℕ) → k < i + 1 → Dec (k ≡ i) → eqb (get_or after k 0) 1 ≡ loose K k
      at k l (yes e) = rw e this
      at k l (no d) = ap (λ (x : ℕ). eqb x 1) (same k d) ∙ m.here k (omega arith)

  pub marking-loose : i < length before → loose K i ≡ true → Marking K before (i + 1) (set marks i 1)
  marking-loose l e =
      more (length-set marks i 1) (λ k d. get_or-set_other marks i k 1 0 d) (ap (λ (x : ℕ). eqb x 1) (get_or-set_same marks i 1 0 (omega (arith, m.sized))) ∙ sym e)

  pub marking-used : get_or before i 0 ≡ 0 → loose K i ≡ false → Marking K before (i + 1) marks
  marking-used z e = more refl (λ k d. refl) (ap (λ (x : ℕ). eqb x 1) (m.past i (omega arith) ∙ z) ∙ sym e)

module _ (b : List ℕ) {before : List ℕ} where
  pub marking-end : {i : ℕ} {after : List ℕ} → Marking (sections_of b) before i after → i ≡ count_field b 0 → MarksLoose (sections_of b) before after
  marking-end m e = record {
    sized = m.sized;
    here = λ k l. m.here k (omega (arith, count-sections_of b 0));
    past = λ k l. m.past k (omega (arith, count-sections_of b 0));
  }

  pub marks-none : NoneMarked (count_field b 0) before → count_field b 1 ≡ 0 → MarksLoose (sections_of b) before before
  marks-none n e = record {
    sized = refl;
    here = λ k l. ap (λ (x : ℕ). eqb x 1) (n.clear k (omega (arith, count-sections_of b 0))) ∙ sym (loose_none b e k);
    past = λ k l. refl;
  }
