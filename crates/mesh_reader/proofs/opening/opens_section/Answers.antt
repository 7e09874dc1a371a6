-- `opens_section` meets its contract: each test is one of the definition's.
use borrow.Author.Tests.{lt-ltb, le-ltb}
use mathlib.Core.Path.{◌≡◌, refl, sym, ap, ◌∙◌}
use mathlib.Core.Bool.{Bool, true, false, not, ◌&&◌, ◌||◌}
use lib.Dec.{eqb, ltb}
use lib.ListN.{length, get_or}
use Rattle.mesh_format.specs.Words.{opening, mesh_format_name, nodes_name}
use Rattle.mesh_format.specs.Parse.{same_word}
use Rattle.mesh_words.proofs.Bytes.{same_is}
use Rattle.mesh_reader.proofs.opening.opens_section.Goals as goal
use Rattle.mesh_reader.proofs.opening.opens_section.Goals.{Joined-ne, then-w-gt1, else-w-gt1, then-w-eq36, else-w-eq36, then-ne, else-ne}

-- the tests in the order of the code, and in that of the definition
tests : (long dollar format nodes elements : Bool)
    → ((((long && dollar) && not format) && not nodes) && not elements) ≡ (dollar && long && not (format || nodes || elements))
tests false true f n e = refl
tests false false f n e = refl
tests true false f n e = refl
tests true true true n e = refl
tests true true false true e = refl
tests true true false false e = refl

-- the tests before the last
before : (c : Joined-ne)
    → c.if-ne.value
    ≡ (((ltb 1 (length c.args.w.now) && eqb (get_or c.args.w.now 0 0) 36) && not (same_word c.args.w.now (opening mesh_format_name)))
    && not (same_word c.args.w.now (opening nodes_name)))
before c =
    let dollar : c.if-w-gt1.value ≡ (ltb 1 (length c.args.w.now) && eqb (get_or c.args.w.now 0 0) 36) =
    elim c.if-w-gt1.branch [
      | then-w-gt1 x ↦ rw (lt-ltb 1 (length c.args.w.now) x.if-w-gt1.true) x.value-is
      | else-w-gt1 x ↦ let no = le-ltb 1 (length c.args.w.now) x.if-w-gt1.false in rw no (rw no at x.value-is)
    ]
    in
    let format : c.if-w-eq36.value ≡ (c.if-w-gt1.value && not (same_word c.args.w.now (opening mesh_format_name))) =
    elim c.if-w-eq36.branch [
      | then-w-eq36 x ↦ rw (x.if-w-eq36.true) (x.value-is ∙ x.ne.ensures ∙ ap not (same_is _ _))
      | else-w-eq36 x ↦ rw (x.if-w-eq36.false) (x.value-is ∙ x.if-w-eq36.false)
    ]
    in
    let nodes : c.if-ne.value ≡ (c.if-w-eq36.value && not (same_word c.args.w.now (opening nodes_name))) =
    elim c.if-ne.branch [
      | then-ne x ↦ rw (x.if-ne.true) (x.value-is ∙ ap not x.opens_nodes.ensures)
      | else-ne x ↦ rw (x.if-ne.false) (x.value-is ∙ x.if-ne.false)
    ]
    in
    nodes ∙ rw (format, dollar)

pub returns-then-not-opens_nodes : goal.returns-then-not-opens_nodes
returns-then-not-opens_nodes c =
    let e = sym (before (goal.at.returns-then-not-opens_nodes c).Joined-ne) ∙ c.if-not-opens_nodes.true in
    rw (← tests (ltb 1 (length c.args.w.now)) (eqb (get_or c.args.w.now 0 0) 36) _ _ _, e)
    (c.ne-then-not-opens_nodes.ensures ∙ ap not (same_is _ _))

pub returns-else-not-opens_nodes : goal.returns-else-not-opens_nodes
returns-else-not-opens_nodes c =
    let e = sym (before (goal.at.returns-else-not-opens_nodes c).Joined-ne) ∙ c.if-not-opens_nodes.false in
    rw (← tests (ltb 1 (length c.args.w.now)) (eqb (get_or c.args.w.now 0 0) 36) _ _ _, e, c.if-not-opens_nodes.false)
