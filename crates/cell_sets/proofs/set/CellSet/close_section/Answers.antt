use mathlib.Core.Path.{◌≡◌, refl, sym, ap, subst, ◌∙◌}
use mathlib.Core.List.{List, [], ◌++◌}
use Prim.Native.Nat.{ℕ, suc, ◌+◌, ◌*◌, ◌≤◌, ◌<◌}
use native.Mathlib.Numerals.{add-one}
use native.Mathlib.Omega.{arith}
use lib.ListN.{length, get_or, take, drop, take-append-drop}
use lib.Seq.{take-suc, take_all}
use Rattle.std.specs.Prelude.{Result, Ok, Err}
use Rattle.std.proofs.lemmas.Result.{err_from_is_err_and}
use Rattle.lists.specs.Tabulate.{tabulate}
use Rattle.complexes.specs.Cell.{Cell, without, precedes}
use Rattle.complexes.specs.Complex.{Sections, section}
use Rattle.closures.specs.Insert.{insert_all}
use Rattle.closures.specs.Closure.{element_top, faces_of}
use Rattle.closures.proofs.SectionLaws.{faces_of-append, faces_of-snoc}
use Rattle.cells.specs.Word.{Packs}
use Rattle.cell_sets.specs.Set.{Holds, adding, Adds}
use Rattle.cell_sets.specs.Close.{AddsFaces}
use Rattle.cell_sets.specs.declared.insert.Full.{Full}
use Rattle.cell_sets.specs.declared.set.CellSet.{CellSet}
use Rattle.cell_sets.proofs.Sets.{holds-word}
use Rattle.cell_sets.proofs.Adding.{section-adding-other, adding-nil, adds-more, adds-over}
use Rattle.cell_sets.proofs.set.CellSet.close_section.Invariants.{Invariant, faces, upper}
use Rattle.cell_sets.proofs.set.CellSet.close_section.Goals as goal
use Rattle.cell_sets.proofs.set.CellSet.close_section.Goals.{Start, In-loop-i}

none : (p : ℕ) (s : CellSet) → Invariant p s s 0
unfolding faces_of
none p s = record { limit = refl; holds = λ K h. rw (adding-nil K p) h }

module _ {p : ℕ} {s₀ s : CellSet} {i : ℕ} (inv : Invariant p s₀ s i) where
  -- the word of cell i
  word_of : p < element_top → (K : Sections) → Holds s₀ K → i < length (upper p K)
      → Packs (suc (suc p)) (get_or (upper p K) i []) (get_or s.words ((p + 1) * s.limit + i) 0)
  word_of small K h l =
      let same = section-adding-other K p (suc p) (faces p (take i (upper p K))) (λ e. omega arith) in
      rw (add-one p) (rw same at (holds-word (inv.holds K h) (suc p) i small (rw same l)))

  -- the faces of cell i too
  turn : p < element_top → (r : Result (Unit {0}) Full) (s' : CellSet) → AddsFaces p (get_or s.words ((p + 1) * s.limit + i) 0) s r s'
      → (K : Sections) → Holds s₀ K → i < length (upper p K) → Adds s₀.limit K p (faces p (take (suc i) (upper p K))) r s'
  turn small r s' adds K h l =
      subst (λ (xs : List Cell). Adds s₀.limit K p xs r s') (sym next)
      (adds-more s₀.limit K p before (tabulate (suc (suc p)) (λ j. without j c)) (omega (arith, h.dimensions)) r s'
      (subst (λ (n : ℕ). Adds n (adding K p before) p (tabulate (suc (suc p)) (λ j. without j c)) r s') inv.limit
      (adds (adding K p before) c (inv.holds K h) (word_of small K h l))))
    where
      c : Cell
      c = get_or (upper p K) i []

      before : List Cell
      before = faces p (take i (upper p K))

      next : faces p (take (suc i) (upper p K)) ≡ before ++ tabulate (suc (suc p)) (λ j. without j c)
      next = ap (faces p) (take-suc (upper p K) i [] l) ∙ faces_of-snoc (suc (suc p)) (take i (upper p K)) c

  all : (K : Sections) → Holds s₀ K → length (upper p K) ≤ i → Holds s (adding K p (faces p (upper p K)))
  all K h l = rw (take_all i (upper p K) l) at (inv.holds K h)

over : (limit p i : ℕ) (K : Sections) → limit < length (insert_all precedes (section K p) (faces p (take i (upper p K))))
    → limit < length (insert_all precedes (section K p) (faces p (upper p K)))
over limit p i K h = rw whole at (adds-over limit K p (faces p (take i (upper p K))) (faces p (drop i (upper p K))) h)
  where
    whole : faces p (take i (upper p K)) ++ faces p (drop i (upper p K)) ≡ faces p (upper p K)
    whole = sym (faces_of-append (suc (suc p)) (take i (upper p K)) (drop i (upper p K))) ∙ ap (faces p) (take-append-drop i (upper p K))

-- the cells of dimension p + 1
module _ (c : Start) where
  counted : {K : Sections} → Holds c.args.self.now K → get_or c.args.self.now.counts (c.args.p + 1) 0 ≡ length (upper c.args.p K)
  counted h = rw (add-one c.args.p) (h.sections (suc c.args.p) c.requires).counted

pub loop-i-init : goal.loop-i-init
loop-i-init c = none _ _

pub returns-in_err-add_faces : goal.returns-in_err-add_faces
returns-in_err-add_faces c =
    let e = err_from_is_err_and c.from_residual.result c.from_residual.ensures.1 in
    let start = (goal.at.returns-in_err-add_faces c).Start in
    record {
      limit = c.add_faces.ensures.limit ∙ c.loop-i.invariant.limit;
      closes = λ K h.
          rw e.1
          (over c.args.self.now.limit c.args.p (suc c.loop-i.i) K
          (turn c.loop-i.invariant c.requires (Err c.in_err-add_faces.field-0.0) c.add_faces.new.self c.in_err-add_faces.ensures.adds K h
          (omega (arith, counted start h))));
    }

pub loop-i-preserved : goal.loop-i-preserved
loop-i-preserved c =
    let start = (goal.at.loop-i-preserved c).Start in
    record {
      limit = c.add_faces.ensures.limit ∙ c.loop-i.invariant.limit;
      holds = λ K h.
          rw (add-one c.loop-i.i)
          (turn c.loop-i.invariant c.requires (Ok c.in_ok-add_faces.field-0) _ c.in_ok-add_faces.ensures.adds K h
          (omega (arith, counted start h)));
    }

pub returns : goal.returns
returns c =
    let start = (goal.at.returns c).Start in
    record { limit = c.loop-i.invariant.limit; closes = λ K h. all c.loop-i.invariant K h (omega (arith, counted start h)) }
