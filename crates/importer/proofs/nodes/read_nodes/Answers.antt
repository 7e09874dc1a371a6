-- `read_nodes` meets its contract: the count, the lines and the title are read one after another.
use mathlib.Core.Path.{◌≡◌, refl, sym, ap, ◌∙◌, subst}
use mathlib.Core.List.{List, ◌++◌}
use Prim.Native.Nat.{ℕ}
use Rattle.std.specs.Prelude.{Option}
use Rattle.mesh_format.specs.Words.{nodes_name, ending}
use Rattle.mesh_format.specs.Parse.{parsed, then, count_line, node_lines, title_line, nodes_of}
use Rattle.mesh_format.proofs.ReadLaws.{parsed-inj, then-case}
use Rattle.mesh_words.specs.Steps.{skip}
use Rattle.mesh_words.specs.Tells.{tell_skipped}
use Rattle.mesh_words.specs.declared.reader.Reader.{Reader}
use Rattle.mesh_words.proofs.Steps.{fails, goes, from, failed-from}
use Rattle.mesh_words.proofs.Told.{Moved, read-none, read-moved, skipped-from}
use Rattle.mesh_elements.specs.Listed.{Maps}
use Rattle.importer.specs.Nodes.{ListsNodes}
use Rattle.importer.proofs.Ends.{skip-then, none-read, read-to}
use Rattle.importer.proofs.Listing.{lists-none}
use Rattle.importer.proofs.nodes.read_nodes.Goals as goal

-- the lines, and then the title
titled : (r lines end : Reader) {n : ℕ} {nodes before after : List ℕ} {a b : Option Reader} → Moved (count_line r.text.now r.at) n r lines
    → Moved (node_lines n r.text.now lines.at) nodes r end → ListsNodes lines (node_lines n lines.text.now lines.at) before after a
    → b ≡ tell_skipped end (title_line (ending nodes_name) end.text.now end.at) → ListsNodes r (nodes_of r.text.now r.at) before after b
unfolding nodes_of
titled r lines end {n} {nodes} {before} {after} count walk m t = record {
  told =
      t
      ∙ skipped-from (title_line (ending nodes_name)) r end walk.same
      ∙ ap (tell_skipped r) (sym (skip-then (title_line (ending nodes_name) r.text.now end.at) nodes) ∙ ap skip (sym is));
  lists = λ nodes' at' q listed k.
      subst (λ (l : List ℕ). Maps after (listed ++ l))
      (then-case (title_line (ending nodes_name) r.text.now end.at) (sym is ∙ q) (λ _ z _ f. (parsed-inj f).0))
      (m.lists nodes end.at (rw count.same walk.is) listed k);
}
  where
    is : nodes_of r.text.now r.at ≡ then (title_line (ending nodes_name) r.text.now end.at) (λ _ z. parsed nodes z)
    is = goes _ count.is (goes _ walk.is refl)

pub returns-in_err-n : goal.returns-in_err-n
unfolding nodes_of
returns-in_err-n c = rw c.from_residual.ensures (lists-none c.args.r (fails _ (read-none _ c.in_err-n.ensures)))

pub returns-in_err-end : goal.returns-in_err-end
unfolding nodes_of
returns-in_err-end c =
    let n = read-moved _ c.in_ok-n.ensures in
    rw c.from_residual-in_err-end.ensures
    (lists-none c.args.r (goes _ n.is (fails _ (failed-from (node_lines c.in_ok-n.n) c.args.r n.same (none-read _ c.in_err-end.ensures.told)))))

pub returns : goal.returns
returns c =
    let n = read-moved _ c.in_ok-n.ensures in
    let lines = read-to _ c.in_ok-end.ensures.told in
    titled c.args.r c.in_ok-n.lines c.in_ok-end.end n (from (node_lines c.in_ok-n.n) c.args.r n.same lines.moves) c.list_nodes.ensures
    c.the_title.ensures
