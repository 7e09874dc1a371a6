-- `sweep_at` meets its contract: a sheet that is refused with 1 to 7 is not swept, any other is.
use mathlib.Core.Path.{◌≡◌, sym}
use Rattle.std.proofs.lemmas.Result.{err_from_is_err_and}
use Rattle.sheet_format.specs.Check.{complex_refusal}
use Rattle.sweeper.proofs.Sweeping.{sweep-refused, sweep-passed, counts-small}
use Rattle.sweeper.proofs.sweep.sweep_at.Goals as goal
use Rattle.sweeper.proofs.sweep.sweep_at.Goals.{In_ok-read_complex}

-- none of the checks 1 to 7 applies
laid : (c : In_ok-read_complex) → complex_refusal c.args.sheet.limit c.args.s.now ≡ 0
laid c = sym c.in_ok-read_complex.ensures.number

pub returns-in_err-read_complex : goal.returns-in_err-read_complex
returns-in_err-read_complex c =
    let e = err_from_is_err_and c.from_residual.result c.from_residual.ensures.1 in
    rw (e.1, e.2) (sweep-refused c.args.sheet.limit c.args.s.now c.args.out.now c.in_err-read_complex.field-0.0 c.in_err-read_complex.ensures.number)

pub write_swept-requires : goal.write_swept-requires
write_swept-requires c = counts-small c.args.sheet.limit c.args.s.now c.requires (laid (goal.at.write_swept-requires c).In_ok-read_complex)

pub returns : goal.returns
returns c = sweep-passed c.args.sheet.limit c.args.s.now c.args.out.now (laid (goal.at.returns c).In_ok-read_complex) c.write_swept.ensures
