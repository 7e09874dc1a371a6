use mathlib.Core.Path.{◌≡◌, refl, sym, ap, subst, ◌∙◌}
use mathlib.Core.List.{List, [], ◌∷◌, ◌++◌}
use Prim.Native.Nat.{ℕ, suc, ◌+◌, ◌-◌, ◌<◌}
use native.Mathlib.Omega.{arith}
use lib.ListN.{length, take, drop, take-append-drop}
use lib.Seq.{take-suc, take_all}
use Rattle.std.specs.Prelude.{Result, Ok, Err}
use Rattle.std.proofs.lemmas.Result.{err_from_is_err_and}
use Rattle.lists.proofs.TabulateLaws.{length-tabulate, get_or-tabulate}
use Rattle.complexes.specs.Cell.{Cell, without, precedes}
use Rattle.complexes.specs.Complex.{Sections, section}
use Rattle.closures.specs.Closure.{element_top}
use Rattle.closures.specs.Insert.{insert_all}
use Rattle.cells.specs.Word.{Packs, LeavesOut}
use Rattle.cell_sets.specs.Set.{Holds, adding, Adds, AddsCell}
use Rattle.cell_sets.specs.declared.insert.Full.{Full}
use Rattle.cell_sets.specs.declared.set.CellSet.{CellSet}
use Rattle.cell_sets.proofs.Adding.{adding-nil, adds_one, adds-more, adds-over}
use Rattle.cell_sets.proofs.set.CellSet.add_faces.Invariants.{AddsFirst, Invariant, faces}
use Rattle.cell_sets.proofs.set.CellSet.add_faces.Goals as goal

none : (p word : ℕ) (s : CellSet) → Invariant p word s s (p + 2)
none p word s =
    let first : p + 2 - (p + 2) ≡ 0 = omega arith in
    record { limit = refl; few = omega arith; holds = λ K c h k. rw (first, adding-nil K p) h }

module _ {p word : ℕ} {s₀ s : CellSet} {left : ℕ} (inv : Invariant p word s₀ s left) where
  -- the face that leaves out the vertex that `behind` others stand behind, too
  turn : p < element_top → (behind : ℕ) → left ≡ suc behind → {face : ℕ} → LeavesOut behind word face → (r : Result (Unit {0}) Full) (s' : CellSet)
      → AddsCell p face s r s' → AddsFirst p word s₀ (p + 2 - behind) r s'
  turn small behind last {face} leaves r s' adds K c h k =
      subst (λ (xs : List Cell). Adds s₀.limit K p xs r s') (sym next)
      (adds-more s₀.limit K p (take j (faces p c)) (without j c ∷ []) (omega (arith, h.dimensions)) r s'
      (subst (λ (n : ℕ). Adds n (adding K p (take j (faces p c))) p (without j c ∷ []) r s') inv.limit
      (adds_one (adding K p (take j (faces p c))) p (without j c) s r s'
      (adds (adding K p (take j (faces p c))) (without j c) (inv.holds K c h k) packs))))
    where
      j : ℕ
      j = p + 2 - left

      place : j + behind ≡ suc p
      place = omega (arith, inv.few)

      sooner : p + 2 - behind ≡ suc j
      sooner = omega (arith, inv.few)

      packs : Packs (suc p) (without j c) face
      packs = rw place at (leaves j c (subst (λ (n : ℕ). Packs (suc n) c word) (sym place) k))

      next : take (p + 2 - behind) (faces p c) ≡ take j (faces p c) ++ (without j c ∷ [])
      next =
          ap (λ (n : ℕ). take n (faces p c)) sooner
          ∙ take-suc (faces p c) j [] (omega (arith, place, length-tabulate (suc (suc p)) (λ i. without i c)))
          ∙ ap (λ (d : Cell). take j (faces p c) ++ (d ∷ [])) (get_or-tabulate (suc (suc p)) (λ i. without i c) j [] (omega (arith, place)))

  all : left ≡ 0 → (K : Sections) (c : Cell) → Holds s₀ K → Packs (suc (suc p)) c word → Holds s (adding K p (faces p c))
  all done K c h k = rw (take_all (p + 2 - left) (faces p c) (omega (arith, length-tabulate (suc (suc p)) (λ i. without i c)))) at (inv.holds K c h k)

over : (limit p j : ℕ) (K : Sections) (c : Cell) → limit < length (insert_all precedes (section K p) (take j (faces p c)))
    → limit < length (insert_all precedes (section K p) (faces p c))
over limit p j K c h = rw (take-append-drop j (faces p c)) at (adds-over limit K p (take j (faces p c)) (drop j (faces p c)) h)

pub loop-behind-init : goal.loop-behind-init
loop-behind-init c = none _ _ _

pub returns-in_err-add : goal.returns-in_err-add
returns-in_err-add c =
    let e = err_from_is_err_and c.from_residual.result c.from_residual.ensures.1 in
    let a = c.args in
    let behind = c.loop-behind.behind - 1 in
    record {
      limit = c.add.ensures.limit ∙ c.loop-behind.invariant.limit;
      adds = λ K d h k.
          rw e.1
          (over a.self.now.limit a.p (a.p + 2 - behind) K d
          (turn c.loop-behind.invariant c.requires behind (omega arith) c.leave_out.ensures (Err c.in_err-add.field-0.0) _ c.in_err-add.ensures.adds K d h k));
    }

pub loop-behind-preserved : goal.loop-behind-preserved
loop-behind-preserved c = record {
  limit = c.add.ensures.limit ∙ c.loop-behind.invariant.limit;
  few = omega (arith, c.loop-behind.invariant.few);
  holds = λ K d h k.
      turn c.loop-behind.invariant c.requires (c.loop-behind.behind - 1) (omega arith) c.leave_out.ensures (Ok c.in_ok-add.field-0) _ c.in_ok-add.ensures.adds K d h k;
}

pub returns : goal.returns
returns c = record { limit = c.loop-behind.invariant.limit; adds = all c.loop-behind.invariant (omega arith) }
