use mathlib.Core.Path.{◌≡◌, sym, ap, ap₂, ◌∙◌}
use mathlib.Core.Bool.{not}
use Prim.Native.Nat.{ℕ, suc}
use native.Mathlib.Omega.{arith}
use Rattle.complexes.specs.Cell.{without, listed}
use Rattle.sheet_format.specs.Check.{cell_of, some}
use Rattle.cells.specs.Section.{cells_in}
use Rattle.checks.proofs.Scan.{passed_none, passed-more, passed-all, some-found}
use Rattle.checks.proofs.Sections.{Misses, rising-section, faces-miss}
use Rattle.checks.proofs.check.section_misses.Goals as goal
use Rattle.checks.proofs.check.section_misses.Goals.{At-loop-i, After-find_faces}

-- what the call tells of the cell
module _ (c : After-find_faces) where
  abbrev head : At-loop-i
  head = (goal.at.After-find_faces c).At-loop-i

  told : Misses head.args.s.now head.of-cells.result head.of-faces.result head.loop-i.i ≡ not c.find_faces.result
  told =
      let faces = cells_in head.args.s.now head.of-faces.result in
      let sized : suc head.of-faces.result.vertices ≡ head.of-cells.result.vertices = omega (arith, head.of-cells.ensures.sized, head.of-faces.ensures.sized) in
      sym (c.find_faces.ensures.tells
      ∙ ap₂ (λ (n a : ℕ). some n (λ j. not (listed (without j (cell_of head.args.s.now n a)) faces))) sized c.byte.ensures.is)

pub loop-i-init : goal.loop-i-init
loop-i-init c = passed_none c.of-cells.result.many (Misses c.args.s.now c.of-cells.result c.of-faces.result)

pub find_faces-requires-clause-rising : goal.find_faces-requires-clause-rising
find_faces-requires-clause-rising c = rising-section c.of-faces.ensures c.requires.1

pub returns-then-not-find_faces : goal.returns-then-not-find_faces
returns-then-not-find_faces c =
    let r = (goal.at.returns-then-not-find_faces c).After-find_faces in let h = head r in
    some-found h.of-cells.result.many (Misses h.args.s.now h.of-cells.result h.of-faces.result) h.loop-i.i (omega arith) (told r ∙ ap not c.if-not-find_faces.true)
    ∙ faces-miss h.of-cells.ensures h.of-faces.ensures

pub loop-i-preserved : goal.loop-i-preserved
loop-i-preserved c =
    let r = (goal.at.loop-i-preserved c).After-find_faces in let h = head r in
    passed-more h.of-cells.result.many (Misses h.args.s.now h.of-cells.result h.of-faces.result) h.loop-i.i h.loop-i.invariant (omega arith) (told r ∙ ap not c.if-not-find_faces.false)

pub returns : goal.returns
returns c = passed-all c.of-cells.result.many (Misses c.args.s.now c.of-cells.result c.of-faces.result) c.loop-i.i c.loop-i.invariant (omega arith)
    ∙ faces-miss c.of-cells.ensures c.of-faces.ensures
