-- `apply::on_places` meets its contract: a subtraction by what `line::subtract_places` ensures of the places of one line, another operation by what
-- `swap_places` and `negate_places` ensure.
use mathlib.Core.Path.{◌≡◌}
use Prim.Native.Nat.{ℕ, ◌+◌}
use Rattle.matrices.specs.Operation.{subtract}
use Rattle.matrices.specs.Within.{Within}
use Rattle.matrix_lines.specs.Slice.{line_at}
use Rattle.matrix_lines.specs.Matrices.{places_of}
use Rattle.elementary_operations.proofs.Operations.{fits-case}
use Rattle.elementary_operations.proofs.Places.{place_is, subtract-became}
use Rattle.elementary_operations.proofs.Subtraction.{subtraction-came}
use Rattle.elementary_operations.proofs.apply.on_places.Goals as goal
use Rattle.elementary_operations.proofs.apply.on_places.Goals.{Start, In-Subtract, After-line-at, In-Swap, In-Negate}

-- ---- a subtraction

module _ (c : In-Subtract) where
  abbrev subtracting : Start
  subtracting = (goal.at.In-Subtract c).Start

-- line k was found
module _ (c : After-line-at) where
  abbrev op : In-Subtract
  op = (goal.at.After-line-at c).In-Subtract

  place_at : let k = op.in-Subtract.k in (j : ℕ) → c.line-at.result + j ≡ line_at (places_of (subtracting op).args.m k).at 1 j
  place_at = place_is (subtracting op).args.m op.in-Subtract.k c.line-at.result c.line-at.ensures

  within : Within (subtracting op).args.m.width (subtract op.in-Subtract.j op.in-Subtract.k op.in-Subtract.q)
  within = (fits-case op.in-Subtract.is (subtracting op).requires.fits.0).within

pub returns-in-Subtract : goal.returns-in-Subtract
returns-in-Subtract c =
    let at = (goal.at.returns-in-Subtract c).After-line-at in let s = subtracting (op at) in let given = (op at).in-Subtract in let called = c.subtract_places in
    subtract-became given.is s.args.m s.args.w.now s.requires.fits.1 s.requires.fits.0 called.new.w s.args.before called.result
    (subtraction-came given.is (places_of s.args.m given.k) s.requires.fits.0 (place_at at given.j) (place_at at given.k)
    s.args.w.now called.new.w s.args.before called.result called.ensures)

-- ---- another operation
