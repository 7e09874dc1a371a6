-- The edge's two reductions at the entry limit 0 are too wide: `edge-wide`.
use Rattle.std.specs.Prelude.{◌≡◌, refl}
use Rattle.sheet_format.specs.Starred.{edge_sections}
use Rattle.reduction_steps.specs.Pivot.{release1}
use Rattle.reports.specs.Reductions.{too_wide, no_transforms, reductions}
use Rattle.reports.specs.WideEnd.{in_first, in_product, ends_wide}
use Rattle.reports.specs.Examples.{examples}
use Rattle.reports.proofs.WideEndLaws.{end-wide}

-- the edge's reductions at the limit 0 are too wide
pub edge-wide : (reductions no_transforms release1 0 edge_sections 1 ≡ too_wide) × (reductions no_transforms release1 0 edge_sections 0 ≡ too_wide)
unfolding ends_wide
edge-wide = (end-wide no_transforms release1 0 edge_sections 1 in_first examples.wide_in_first refl, end-wide no_transforms release1 0 edge_sections 0 in_product examples.wide_in_product refl)
