-- `import_at` meets its contract: the head, the nodes and the elements are read one after another, up to the end of the text, and then their sheet is
-- written.
use mathlib.Core.Path.{◌≡◌, sym, subst, ◌∙◌}
use mathlib.Core.List.{[], map}
use Prim.Native.Nat.{ℕ}
use lib.ListN.{length}
use Rattle.std.specs.Prelude.{Option, None, Ok, Err}
use Rattle.std.specs.Option.{ok_or}
use Rattle.std.proofs.lemmas.Result.{err_from_is_err_and}
use Rattle.closures.specs.Closure.{cell_with}
use Rattle.imports.specs.Import.{node_lists}
use Rattle.mesh_format.specs.Mesh.{Mesh}
use Rattle.mesh_format.specs.Parse.{parsed, head_of, nodes_of, elements_of, mesh_of}
use Rattle.mesh_words.specs.declared.reader.Reader.{Reader}
use Rattle.mesh_words.proofs.Steps.{from, failed-from}
use Rattle.mesh_words.proofs.Told.{Moved, skipped-none, skipped-moved}
use Rattle.node_maps.specs.Map.{in_map}
use Rattle.mesh_elements.specs.Listed.{Maps}
use Rattle.refusal.specs.declared.Refusal.{Refusal}
use Rattle.refusal.specs.declared.Refusal.TheVariants.{MeshMalformed}
use Rattle.importer.specs.Gather.{Outcome, Gathers}
use Rattle.importer.specs.Elements.{GathersRead, TellsElements}
use Rattle.importer.proofs.Ends.{ReadTo, none-read, read-to}
use Rattle.importer.proofs.Starting.{no-nodes-listed}
use Rattle.importer.proofs.Importing.{no-head, no-nodes, no-elements, no_end, whole, not-of-the-form, told-refused, told-written}
use Rattle.importer.proofs.import.import_at.Goals as goal
use Rattle.importer.proofs.import.import_at.Goals.{Start, In_ok-head, In_ok-nodes, In_ok-outcome, Else-end-text}

-- the refusal where something was not read
malformed-told : {A : Type 0} {o : Option A} {y : Refusal} → o ≡ None → Err y ≡ ok_or o MeshMalformed → y ≡ MeshMalformed
malformed-told e f = let g : Err _ ≡ Err MeshMalformed = rw e at f in cc

-- the reader at the start
module _ (c : Start) where
  abbrev start : Reader
  start = record { text = c.args.text; at = 0 }

pub returns-in_err-head : goal.returns-in_err-head
returns-in_err-head c =
    let e = err_from_is_err_and c.from_residual.result c.from_residual.ensures.1 in
    let none = c.in_err-head.ensures.ok_part in
    rw (e.1, e.2 ∙ malformed-told none c.in_err-head.ensures.value)
    (not-of-the-form c.args.sheet.limit c.args.text.now c.args.out.now (no-head c.args.text.now (skipped-none _ (sym none ∙ c.read_head.ensures))))

-- the head is read
module _ (c : In_ok-head) where
  abbrev first : Reader
  first = start (goal.at.In_ok-head c).Start

  head : Moved (head_of c.args.text.now) tt first c.in_ok-head.head
  head = skipped-moved first (sym c.in_ok-head.ensures.ok_part ∙ c.read_head.ensures)

pub returns-in_err-nodes : goal.returns-in_err-nodes
returns-in_err-nodes c =
    let e = err_from_is_err_and c.from_residual-in_err-nodes.result c.from_residual-in_err-nodes.ensures.1 in
    let k = (goal.at.returns-in_err-nodes c).In_ok-head in
    let none = c.in_err-nodes.ensures.ok_part in
    rw (e.1, e.2 ∙ malformed-told none c.in_err-nodes.ensures.value)
    (not-of-the-form c.args.sheet.limit c.args.text.now c.args.out.now
    (no-nodes c.args.text.now (head k).is
    (failed-from nodes_of (first k) (head k).same (none-read _ (sym none ∙ c.read_nodes.ensures.told)))))

-- the nodes are read and listed
module _ (c : In_ok-nodes) where
  abbrev k : In_ok-head
  k = (goal.at.In_ok-nodes c).In_ok-head

  read : ReadTo (nodes_of c.in_ok-head.head.text.now c.in_ok-head.head.at) c.in_ok-head.head c.in_ok-nodes.nodes
  read = read-to _ (sym c.in_ok-nodes.ensures.ok_part ∙ c.read_nodes.ensures.told)

  nodes : Moved (nodes_of c.args.text.now c.in_ok-head.head.at) read.read (first k) c.in_ok-nodes.nodes
  nodes = from nodes_of (first k) (head k).same read.moves

  maps : Maps c.read_nodes.new.map.bytes read.read
  maps = c.read_nodes.ensures.lists read.read c.in_ok-nodes.nodes.at read.moves.is [] (no-nodes-listed c.new-map.ensures)

pub read_elements-requires : goal.read_elements-requires
read_elements-requires c = c.new-cells.ensures.none

pub returns-in_err-outcome : goal.returns-in_err-outcome
returns-in_err-outcome c =
    let e = err_from_is_err_and c.from_residual-in_err-outcome.result c.from_residual-in_err-outcome.ensures.1 in
    let n = (goal.at.returns-in_err-outcome c).In_ok-nodes in
    let none = c.in_err-outcome.ensures.ok_part in
    let r = c.in_ok-nodes.nodes in
    let malformed =
    subst
    (λ (a : Option (Outcome × Reader)).
    TellsElements c.new-cells.result.limit (in_map c.read_nodes.new.map.bytes) r (elements_of r.text.now r.at) a c.read_elements.new.cells)
    none c.read_elements.ensures.tells in
    rw (e.1, e.2 ∙ malformed-told none c.in_err-outcome.ensures.value)
    (not-of-the-form c.args.sheet.limit c.args.text.now c.args.out.now
    (no-elements c.args.text.now (head (k n)).is (nodes n).is (failed-from elements_of (first (k n)) (nodes n).same malformed)))

-- the elements are read
module _ (c : In_ok-outcome) where
  abbrev n : In_ok-nodes
  n = (goal.at.In_ok-outcome c).In_ok-nodes

  abbrev r : Reader
  r = c.in_ok-nodes.nodes

  gathered : GathersRead c.new-cells.result.limit (in_map c.read_nodes.new.map.bytes) r (elements_of r.text.now r.at) c.in_ok-outcome.outcome
      c.in_ok-outcome.end c.read_elements.new.cells
  gathered =
      subst
      (λ (a : Option (Outcome × Reader)).
      TellsElements c.new-cells.result.limit (in_map c.read_nodes.new.map.bytes) r (elements_of r.text.now r.at) a c.read_elements.new.cells)
      c.in_ok-outcome.ensures.ok_part c.read_elements.ensures.tells

  elements : Moved (elements_of c.args.text.now c.in_ok-nodes.nodes.at) gathered.read (first (k n)) c.in_ok-outcome.end
  elements = from elements_of (first (k n)) (nodes n).same (record { is = gathered.is; same = gathered.same })

  mesh : Mesh
  mesh = record { nodes = (read n).read; elements = gathered.read }

  -- .. at the limit of the call, where the outcome is this one
  told : (o : Outcome) → c.in_ok-outcome.outcome ≡ o
      → Gathers c.args.sheet.limit (in_map c.read_nodes.new.map.bytes) gathered.read o c.read_elements.new.cells
  told o e =
      subst (λ (x : Outcome). Gathers c.args.sheet.limit (in_map c.read_nodes.new.map.bytes) gathered.read x c.read_elements.new.cells) e
      (subst
      (λ (limit : ℕ). Gathers limit (in_map c.read_nodes.new.map.bytes) gathered.read c.in_ok-outcome.outcome c.read_elements.new.cells)
      c.new-cells.ensures.limit gathered.gathers)

pub returns-then-end-text : goal.returns-then-end-text
returns-then-end-text c =
    let o = (goal.at.returns-then-end-text c).In_ok-outcome in
    not-of-the-form c.args.sheet.limit c.args.text.now c.args.out.now
    (no_end c.args.text.now (head (k (n o))).is (nodes (n o)).is (elements o).is c.if-end-text.true)

-- .. up to the end of the text
module _ (c : Else-end-text) where
  abbrev o : In_ok-outcome
  o = (goal.at.Else-end-text c).In_ok-outcome

  tells : mesh_of c.args.text.now ≡ parsed (mesh o) (length c.args.text.now)
  unfolding mesh
  tells = whole c.args.text.now (head (k (n o))).is (nodes (n o)).is (elements o).is c.if-end-text.false

pub write_closure-requires : goal.write_closure-requires
write_closure-requires c =
    let t = (goal.at.write_closure-requires c).Else-end-text in
    record { elements = map cell_with (node_lists (gathered (o t)).read); holds = (told (o t) (Ok tt) c.in_ok-outcome-2.was).1 }

pub returns-in_err-outcome-2 : goal.returns-in_err-outcome-2
unfolding mesh
returns-in_err-outcome-2 c =
    let e = err_from_is_err_and c.from_residual-in_err-outcome-2.result c.from_residual-in_err-outcome-2.ensures.1 in
    let t = (goal.at.returns-in_err-outcome-2 c).Else-end-text in
    let y = c.in_err-outcome-2.field-0.0 in
    rw (e.1, e.2)
    (told-refused c.args.sheet.limit c.args.text.now c.args.out.now c.read_nodes.new.map.bytes (mesh (o t)) (tells t) (maps (n (o t)))
    c.read_elements.new.cells y (told (o t) (Err y) c.in_err-outcome-2.was))

pub returns : goal.returns
unfolding mesh
returns c =
    let t = (goal.at.returns c).Else-end-text in
    let held = told (o t) (Ok tt) c.in_ok-outcome-2.was in
    told-written c.args.sheet.limit c.args.text.now c.args.out.now c.read_nodes.new.map.bytes (mesh (o t)) (tells t) (maps (n (o t))) held.0 held.1
    (c.read_elements.ensures.limit ∙ c.new-cells.ensures.limit) c.write_closure.ensures
