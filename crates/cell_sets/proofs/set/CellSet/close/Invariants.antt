-- `close` meets its contract. The loop's invariant: the sections from p on are those of the closure, and the others have their own cells.
use mathlib.Core.Path.{◌≡◌, sym, ap, ap₂, ◌∙◌}
use mathlib.Core.List.{List}
use Prim.Native.Nat.{ℕ, suc, ◌≤◌, ◌<◌}
use native.Mathlib.Decide.{ℕ_discrete}
use native.Mathlib.Omega.{arith}
use lib.ListN.{length}
use Rattle.complexes.specs.Cell.{Cell, precedes}
use Rattle.complexes.specs.Complex.{Sections, section}
use Rattle.closures.specs.Insert.{insert_all}
use Rattle.closures.specs.Closure.{element_top, own_section, faces_of, own_sections, closure}
use Rattle.closures.proofs.ClosureLaws.{closure-step}
use Rattle.cell_sets.specs.Set.{Holds, adding}
use Rattle.cell_sets.specs.Close.{Exceeds}
use Rattle.cell_sets.specs.declared.set.CellSet.{CellSet}
use Rattle.cell_sets.proofs.Adding.{length-adding, section-adding-same, section-adding-other}
use Rattle.cell_sets.proofs.set.CellSet.close.Given as goal

-- the faces of the cells of dimension k + 1
abbrev pub faces : ℕ → Sections → List Cell
faces k K = faces_of (suc (suc k)) (section K (suc k))

-- K is on the way from the cells cs to their closure
pub record Halfway (cs : List Cell) (p : ℕ) (K : Sections) : Type 0 where
  pub dimensions : length K ≡ suc element_top
  pub closed : (q : ℕ) → q ≤ element_top → p ≤ q → section K q ≡ section (closure element_top cs) q
  pub own : (q : ℕ) → q < p → section K q ≡ own_section cs q

-- the set holds it
pub record Closing (cs : List Cell) (p : ℕ) (s : CellSet) : Type 0 where
  pub complex : Sections
  pub holds : Holds s complex
  pub halfway : Halfway cs p complex

module _ {cs : List Cell} {p : ℕ} {s : CellSet} (h : Closing cs p s) (small : p ≤ element_top) (k : ℕ) (next : p ≡ suc k) where
  abbrev pub K : Sections
  K = h.complex

  -- section k with the faces added to it
  pub new : insert_all precedes (section K k) (faces k K) ≡ section (closure element_top cs) k
  new =
      ap₂ (λ (l m : List Cell). insert_all precedes l (faces_of (suc (suc k)) m)) (h.halfway.own k (omega arith))
      (h.halfway.closed (suc k) (omega arith) (omega arith))
      ∙ sym (closure-step element_top cs k (omega arith))

  pub one_more : {s' : CellSet} → Holds s' (adding K k (faces k K)) → Closing cs k s'
  one_more a = record {
    complex = adding K k (faces k K);
    holds = a;
    halfway = record {
      dimensions = length-adding K k (faces k K) ∙ h.halfway.dimensions;
      closed = λ q a b. closed q a b (ℕ_discrete q k);
      own = λ q l. section-adding-other K k q (faces k K) (λ e. omega arith) ∙ h.halfway.own q (omega arith);
    };
  }
    where
      closed : (q : ℕ) → q ≤ element_top → k ≤ q → Dec (q ≡ k) → section (adding K k (faces k K)) q ≡ section (closure element_top cs) q
      closed q a b (yes e) = rw e (section-adding-same K k (faces k K) (omega (arith, h.halfway.dimensions)) ∙ new)
      closed q a b (no d) = section-adding-other K k q (faces k K) d ∙ h.halfway.closed q a (omega arith)

  pub over : {limit : ℕ} → limit < length (insert_all precedes (section K k) (faces k K)) → Exceeds limit (closure element_top cs)
  over a = record { dimension = k; listed = omega arith; over = omega (arith, a, ap length new) }

abbrev pub invariant-loop-p : goal.invariant-loop-p
invariant-loop-p l = (l.self.limit ≡ l.initial.self.limit)
    × ((cs : List Cell) → Holds l.initial.self (own_sections element_top cs) → Closing cs l.p l.self)
