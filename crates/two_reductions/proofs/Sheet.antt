-- What the sheet gives the two reductions and the calls: rows_none, rows-section and rows_before, the rows of a boundary matrix; cell-counts-read, the
-- cell counts of a dimension, and what follows from them; accepted-library, a sheet that is accepted at a lower limit is accepted at the library's;
-- sheet-chains.
use mathlib.Core.Path.{◌≡◌, refl, sym, ◌∙◌, ap}
use mathlib.Core.Logic.{◌≢◌}
use mathlib.Core.Bool.{Bool}
use mathlib.Core.List.{List}
use Prim.Native.Nat.{ℕ, zero, suc, ◌+◌, ◌*◌, ◌-◌, ◌≤◌, ◌<◌, max}
use native.Mathlib.Nat.{le_trans, pos_of_ne-zero}
use native.Mathlib.Numerals.{add-one}
use native.Mathlib.Omega.{arith}
use Rattle.complexes.specs.Complex.{Sections, count}
use Rattle.complexes.proofs.ChainComplex.{ChainComplex}
use Rattle.complexes.specs.Boundary.{count_below}
use Rattle.sheet_format.specs.Sheet.{Bytes}
use Rattle.sheet_format.proofs.Accept.{accepted-chains}
use Rattle.sheet_format.specs.Check.{count_field, sections_of, refusal}
use Rattle.sheet_format.specs.CheckLaws.{Passes, complex-zero, refusal-zero, count_exceeds-false}
use Rattle.sheet_format.specs.SheetLaws.{count-sections_of}
use Rattle.fields.specs.Read.{ReadsBelow}
use Rattle.limits.specs.Limits.{library_limit}
use Rattle.reports.specs.Reductions.{width}
use Rattle.requests.specs.Call.{work_slots}
use Rattle.faces.specs.Face.{Accepted}
use Rattle.two_reductions.specs.Workspaces.{first_workspace, second_workspace}
use Rattle.two_reductions.specs.CellCounts.{DimensionCounts, CellCountsRead}
use Rattle.two_reductions.specs.declared.cell_counts.CellCounts.{CellCounts}
use Rattle.two_reductions.specs.Slices.{first_workspace_of, second_workspace_of}

pub rows_none : (K : Sections) (p : ℕ) → p ≡ 0 → count_below K p ≡ 0
unfolding count_below
rows_none K zero e = refl
rows_none K (suc p) e = absurd (omega arith)

pub rows-section : (K : Sections) (p : ℕ) → 0 < p → count_below K p ≡ count K (p - 1)
unfolding count_below
rows-section K zero h = absurd (omega arith)
rows-section K (suc p) h = ap (count K) (omega arith)

pub rows_before : (b : List ℕ) (p : ℕ) → p ≢ 0 → count_below (sections_of b) p ≡ count_field b (p - 1)
rows_before b p d = rows-section (sections_of b) p (pos_of_ne-zero d) ∙ count-sections_of b (p - 1)

pub accepted-library : {limit : ℕ} {b : List ℕ} → limit ≤ library_limit → refusal limit b ≡ 0 → Accepted b
accepted-library {limit} {b} h e = record {
  none-applies = (refusal-zero library_limit b).1 (
    (complex-zero library_limit b).1 (record {
      long = passes.long;
      counts = (count_exceeds-false library_limit b).1 (λ p l. le_trans ((count_exceeds-false limit b).0 passes.counts p l) h);
      offsets = passes.offsets;
      ends = passes.ends;
      vertices = passes.vertices;
      cells = passes.cells;
      faces = passes.faces;
    }),
    ((refusal-zero limit b).0 e).1,
  );
}
  where
    passes : Passes limit b
    passes = (complex-zero limit b).0 ((refusal-zero limit b).0 e).0

pub sheet-chains : {b : List ℕ} → Bytes b → Accepted b → ChainComplex library_limit (sections_of b)
sheet-chains {b} bytes h = accepted-chains library_limit b bytes h.none-applies

pub cell-counts-read : (b : List ℕ) {p : ℕ} (n : CellCounts) → ReadsBelow 65536 (count_field b p) n.cells → ReadsBelow 65536 (count_below (sections_of b) p) n.rows
    → ReadsBelow 65536 (count_field b (p + 1)) n.columns → CellCountsRead (sections_of b) p n
cell-counts-read b {p} n c r d = record {
  is =
      cc (
        c.is ∙ sym (count-sections_of b p),
        r.is,
        d.is ∙ ap (count_field b) (add-one p) ∙ sym (count-sections_of b (suc p)),
      );
}

module _ {K : Sections} {p : ℕ} {n : CellCounts} (h : CellCountsRead K p n) where
  pub cells-of : n.cells ≡ count K p
  cells-of = ap (λ (k : DimensionCounts). k.cells) h.is

  pub slots-of : n.cells * (2 * n.cells + max n.rows n.columns) ≡ work_slots K p
  slots-of = ap (λ (k : DimensionCounts). k.cells * (2 * k.cells + max k.rows k.columns)) h.is

  pub first_of : first_workspace n.cells n.rows n.columns ≡ first_workspace_of K p
  first_of = ap (λ (k : DimensionCounts). first_workspace k.cells k.rows k.columns) h.is

  pub columns_of : n.columns ≡ count K (suc p)
  columns_of = ap (λ (k : DimensionCounts). k.columns) h.is

  pub second-of : (kept : Bool) (rank : ℕ) → second_workspace n.cells n.rows n.columns (width kept n.columns) rank ≡ second_workspace_of K p kept rank
  second-of kept rank = ap (λ (k : DimensionCounts). second_workspace k.cells k.rows k.columns (width kept k.columns) rank) h.is
