-- The claims on acceptance.
use mathlib.Core.Path.{sym, ◌∙◌, ap, subst}
use Rattle.complexes.specs.Loose.{LooseNode}
use Rattle.sheet_format.specs.Check.{sections_of}
use Rattle.sheet_format.proofs.Accept.{accepted-iff, is-laid, laid-iff, laid-complex, sections-layout}
use Rattle.sheet_format.proofs.LooseLaws.{loose_node-true, refusal-18, refusal-earlier}
use Rattle.demands.specs.Sheets.{Acceptance, SheetCells, LooseRefused, EarlierRefused}

pub acceptance : Acceptance
acceptance = accepted-iff

pub sheet_cells : SheetCells
sheet_cells limit small b s = sym (sections-layout s.complex small) ∙ ap sections_of s.bytes

pub loose_refused : LooseRefused
loose_refused limit small b bytes = (
  λ e.
      let k = (refusal-18 limit b).0 e in
      record { laid = is-laid limit small b bytes k.0; node = (loose_node-true (laid-complex limit b bytes k.0)).0 k.1 },
  λ h.
      let laid = (laid-iff limit small b bytes).1 h.laid in
      (refusal-18 limit b).1
      (laid, (loose_node-true (laid-complex limit b bytes laid)).1 (subst LooseNode (sheet_cells limit small b h.laid) h.node)),
)

pub earlier_refused : EarlierRefused
earlier_refused = refusal-earlier
