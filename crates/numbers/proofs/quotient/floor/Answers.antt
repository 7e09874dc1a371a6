-- `quotient::floor` meets its contract: the library's quotient by a positive number is `floor`.
use mathlib.Core.Path.{◌∙◌, ap₂}
use mir.Syntax.{w64}
use mir.Facts.{to_z-of_z}
use Rattle.std.specs.Int.{int_div_euclid}
use Rattle.numbers.proofs.Euclid.{floor-euclid}
use Rattle.numbers.proofs.quotient.floor.Goals as goal

pub returns : goal.returns
returns c =
    to_z-of_z {w = w64} {z = c.div_euclid.result} (record { sfits = c.div_euclid.type_inv })
    ∙ c.div_euclid.ensures
    ∙ ap₂ int_div_euclid (to_z-of_z c.ranges.x) (to_z-of_z c.ranges.d)
    ∙ floor-euclid c.args.x c.args.d c.requires
