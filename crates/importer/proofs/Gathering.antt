-- One element more among those whose cells are gathered.
--     adds-faulty                             it is faulty
--     adds-cell, adds_none                    it is right, and its cell fits or is one too many
--     adds-after                              it is right, but one before was refused
--     Gathering                               what a loop over the lines of the elements keeps
use mathlib.Core.Path.{◌≡◌, refl, sym, ap, ◌∙◌, subst}
use mathlib.Core.Bool.{Bool, not, ◌&&◌, and-true, and-false, and_assoc}
use mathlib.Core.List.{List, [], ◌∷◌, ◌++◌, map}
use Prim.Native.Nat.{ℕ, suc, ◌≤◌}
use native.Mathlib.Omega.{arith}
use lib.ListN.{length}
use Rattle.std.specs.Prelude.{Ok, Err}
use Rattle.std.proofs.Common.{inl, inr}
use Rattle.lists.specs.Same.{every}
use Rattle.complexes.specs.Cell as cell
use Rattle.complexes.specs.Complex.{section}
use Rattle.closures.specs.Insert.{insert}
use Rattle.closures.specs.Closure.{element_top, cell_with, own_section, own_sections}
use Rattle.closures.proofs.SectionLaws.{own_section-grows, own_section-snoc}
use Rattle.closures.proofs.ClosureLaws.{own_sections-section}
use Rattle.cells.specs.Word.{Packs}
use Rattle.cell_sets.specs.Set.{Holds, adding, AddsCell}
use Rattle.cell_sets.specs.Close.{Exceeds}
use Rattle.cell_sets.specs.declared.insert.Full.{Full}
use Rattle.cell_sets.specs.declared.set.CellSet.{CellSet}
use Rattle.cell_sets.proofs.Own.{adding-own}
use Rattle.mesh_format.specs.Mesh.{Element}
use Rattle.mesh_format.specs.Parse.{element_lines}
use Rattle.mesh_format.proofs.WalkLaws.{Walk}
use Rattle.imports.specs.Import.{faulty, none_faulty, node_lists}
use Rattle.refusal.specs.declared.Refusal.{Refusal}
use Rattle.complexes.specs.Packed.{Numbered}
use Rattle.mesh_lines.specs.declared.answer.Element as answer
use Rattle.mesh_lines.specs.Tells.{TellsElement}
use Rattle.mesh_elements.specs.Element.{Checks}
use Rattle.mesh_words.specs.declared.reader.Reader.{Reader}
use Rattle.refusal.specs.Number.{number_of}
use Rattle.importer.specs.Gather.{Outcome, own_cells, Gathers, AddsElement}

-- ---- the elements with one more

none_faulty-snoc : (is_listed : ℕ → Bool) (es : List Element) (e : Element)
    → none_faulty is_listed (es ++ (e ∷ [])) ≡ none_faulty is_listed es && not (faulty is_listed e)
unfolding none_faulty every
none_faulty-snoc is_listed [] e = and-true (not (faulty is_listed e))
none_faulty-snoc is_listed (x ∷ es) e =
    ap (λ (b : Bool). not (faulty is_listed x) && b) (none_faulty-snoc is_listed es e)
    ∙ sym (and_assoc (not (faulty is_listed x)) (every (λ y. not (faulty is_listed y)) es) (not (faulty is_listed e)))

cells-snoc : (es : List Element) (e : Element)
    → map cell_with (node_lists (es ++ (e ∷ []))) ≡ map cell_with (node_lists es) ++ (cell_with e.nodes ∷ [])
cells-snoc [] e = refl
cells-snoc (x ∷ es) e = ap (λ (l : List cell.Cell). cell_with x.nodes ∷ l) (cells-snoc es e)

module _ (es : List Element) (e : Element) where
  abbrev cells : List cell.Cell
  cells = map cell_with (node_lists es)

  abbrev c : cell.Cell
  c = cell_with e.nodes

  section-more : (q : ℕ) → q ≤ element_top → section (own_cells (es ++ (e ∷ []))) q ≡ own_section (cells ++ (c ∷ [])) q
  section-more q l =
      own_sections-section element_top (map cell_with (node_lists (es ++ (e ∷ [])))) q l ∙ ap (λ (l : List cell.Cell). own_section l q) (cells-snoc es e)

  -- the sections grow
  pub exceeds-more : {limit : ℕ} → Exceeds limit (own_cells es) → Exceeds limit (own_cells (es ++ (e ∷ [])))
  exceeds-more x = record {
    dimension = x.dimension;
    listed = x.listed;
    over =
        omega (
          arith,
          x.over,
          ap length (own_sections-section element_top cells x.dimension x.listed),
          own_section-grows x.dimension cells (c ∷ []),
          ap length (section-more x.dimension x.listed),
        );
  }

  module _ (p : ℕ) (low : p ≤ element_top) (sized : length c ≡ suc p) where
    grown : section (own_cells (es ++ (e ∷ []))) p ≡ insert cell.precedes c (section (own_cells es) p)
    grown = section-more p low ∙ own_section-snoc p cells c sized ∙ ap (insert cell.precedes c) (sym (own_sections-section element_top cells p low))

    own_cells-snoc : own_cells (es ++ (e ∷ [])) ≡ adding (own_cells es) p (c ∷ [])
    own_cells-snoc = ap (own_sections element_top) (cells-snoc es e) ∙ sym (adding-own cells c p low sized)

-- ---- what is told then

module _ (limit : ℕ) (is_listed : ℕ → Bool) (x : answer.Element) (s s' : CellSet) where
  pub adds-faulty : (y : Refusal) (before : Outcome) → Checks is_listed x (Err y) → AddsElement limit is_listed x before s (Err y) s'
  adds-faulty y before h es e g t n =
      inl (record {
        told = (h.checks e t n).1;
        faulty = none_faulty-snoc is_listed es e ∙ rw (h.checks e t n).0 (and-false (none_faulty is_listed es));
      })

  -- the element is right, with this dimension and word
  module _ (d : ℕ × ℕ) (h : Checks is_listed x (Ok d)) where
    still : (es : List Element) (e : Element) → TellsElement e x → Numbered e.nodes → none_faulty is_listed (es ++ (e ∷ [])) ≡ none_faulty is_listed es
    still es e t n = none_faulty-snoc is_listed es e ∙ rw (h.checks e t n).0 (and-true (none_faulty is_listed es))

    pub adds-after : (y : Refusal) → AddsElement limit is_listed x (Err y) s (Err y) s'
    adds-after y es e (inl f) t n = inl (record { told = f.told; faulty = still es e t n ∙ f.faulty })
    adds-after y es e (inr m) t n = inr (record { told = m.told; right = still es e t n ∙ m.right; exceeds = exceeds-more es e m.exceeds })

    pub adds-cell : AddsCell d.0 d.1 s (Ok tt) s' → AddsElement limit is_listed x (Ok tt) s (Ok tt) s'
    adds-cell adds es e g t n =
        let packs : Packs (suc d.0) (cell_with e.nodes) d.1 = (h.checks e t n).1 in (
          still es e t n ∙ g.0,
          subst (Holds s') (sym (own_cells-snoc es e d.0 h.dimension-is packs.sized)) (adds (own_cells es) (cell_with e.nodes) g.1 packs),
        )

    pub adds_none : {f : Full} → AddsCell d.0 d.1 s (Err f) s' → s.limit ≡ limit → (y : Refusal) → number_of y ≡ 16
        → AddsElement limit is_listed x (Ok tt) s (Err y) s'
    adds_none adds same y told es e g t n =
        let packs : Packs (suc d.0) (cell_with e.nodes) d.1 = (h.checks e t n).1 in
        let full = adds (own_cells es) (cell_with e.nodes) g.1 packs in
        inr (record {
          told = told;
          right = still es e t n ∙ g.0;
          exceeds = record {
            dimension = d.0;
            listed = h.dimension-is;
            over = omega (arith, full.longer, same, ap length (grown es e d.0 h.dimension-is packs.sized));
          };
        })

-- ---- the loop

-- of n lines from r on, i are read up to where `here` stands, and their cells gathered
pub record Gathering (limit : ℕ) (is_listed : ℕ → Bool) (r : Reader) (n i : ℕ) (here : Reader) (o : Outcome) (s : CellSet) : Type 0 where
  pub read : List Element
  pub walk : Walk element_lines n r.text.now r.at i here.at read
  pub same : here.text ≡ r.text
  pub gathers : Gathers limit is_listed read o s
  pub limit-kept : s.limit ≡ limit
