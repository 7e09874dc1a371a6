-- The claims on the sweep.
use mathlib.Core.Path.{sym, ◌∙◌}
use Rattle.sheet_format.proofs.Accept.{laid-iff}
use Rattle.sheet_format.proofs.LooseLaws.{refusal-edgeless}
use Rattle.sweeps.specs.Sweep.{swept}
use Rattle.sweeps.proofs.SweptLaws.{swept-is, swept-complex, swept-unique}
use Rattle.sweeps.proofs.SweepLaws.{sweep-told, sweep-short, sweep-done, sweep-fits, sweep-left, sweep-sheet, sweep-number, sweep-same, sweep-twice}
use Rattle.demands.specs.Sweeps.{Layouts, SweepRefused, SweptCells, SweptUnique, SweepTooShort, SweepDone, SweepFits, SweepLeft, SweepSheet, HostSweepSheet, EdgelessSheets, SweepUnchanged, SweepTwice}

pub layouts : Layouts
layouts = laid-iff

pub sweep_refused : SweepRefused
sweep_refused = sweep-told

pub swept_cells : SweptCells
swept_cells limit K complex = record { cells = swept K; complex = swept-complex complex; are = swept-is complex }

pub swept_unique : SweptUnique
swept_unique limit K L M complex l is-l m is_m = swept-unique complex l is-l ∙ sym (swept-unique complex m is_m)

pub sweep_too_short : SweepTooShort
sweep_too_short = sweep-short

pub sweep_done : SweepDone
sweep_done = sweep-done

pub sweep_fits : SweepFits
sweep_fits = sweep-fits

pub sweep_left : SweepLeft
sweep_left = sweep-left

pub sweep_sheet : SweepSheet
sweep_sheet = sweep-sheet

pub host_sweep_sheet : HostSweepSheet
host_sweep_sheet limit b slice small bytes z = sweep-number limit b slice small bytes z

pub edgeless_sheets : EdgelessSheets
edgeless_sheets = refusal-edgeless

pub sweep_unchanged : SweepUnchanged
sweep_unchanged = sweep-same

pub sweep_twice : SweepTwice
sweep_twice = sweep-twice
