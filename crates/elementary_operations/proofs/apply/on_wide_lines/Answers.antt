-- `apply::on_wide_lines` meets its contract, by what `line::subtract`, `line::swap` and `line::negate` ensure of lines of the matrix.
use mathlib.Core.Path.{refl}
use mathlib.Core.Logic.{inl}
use Rattle.std.specs.Prelude.{Ok}
use Rattle.matrices.specs.Operation.{swap, negate}
use Rattle.elementary_operations.specs.Operations.{Fits}
use Rattle.matrix_lines.proofs.Spans.{Span, line-span, spans-one-or-apart}
use Rattle.elementary_operations.proofs.Operations.{swap-lines, negate-line, fits-case, became-case}
use Rattle.elementary_operations.proofs.Subtraction.{subtraction-asks, subtraction-came}
use Rattle.elementary_operations.proofs.apply.on_wide_lines.Goals as goal
use Rattle.elementary_operations.proofs.apply.on_wide_lines.Goals.{Start, In-Subtract, After-line-in-Subtract, In-Swap, After-line-in-Swap-2, In-Negate, After-line-in-Negate}

-- ---- a subtraction

pub subtract-requires-clause-apart : goal.subtract-requires-clause-apart
subtract-requires-clause-apart c =
    let at = (goal.at.subtract-requires-clause-apart c).In-Subtract in let start = (goal.at.In-Subtract at).Start in
    let asked = subtraction-asks at.in-Subtract.is start.args.m start.requires.fits c.line.ensures c.line-in-Subtract.ensures start.requires.held start.requires.bounded in
    asked.1.0

pub returns-in-Subtract : goal.returns-in-Subtract
returns-in-Subtract c =
    let lines = (goal.at.returns-in-Subtract c).After-line-in-Subtract in let at = (goal.at.After-line-in-Subtract lines).In-Subtract in let start = (goal.at.In-Subtract at).Start in
    let called = c.subtract in
    subtraction-came at.in-Subtract.is start.args.m start.requires.fits lines.line.ensures lines.line-in-Subtract.ensures start.args.w.now called.new.w start.args.before called.result called.ensures

-- ---- an exchange

module _ (c : In-Swap) where
  abbrev swapping : Start
  swapping = (goal.at.In-Swap c).Start

  swap-fits : Fits swapping.args.m.lines (swap c.in-Swap.i c.in-Swap.k)
  swap-fits = fits-case c.in-Swap.is swapping.requires.fits

module _ (c : After-line-in-Swap-2) where
  abbrev exchange : In-Swap
  exchange = (goal.at.After-line-in-Swap-2 c).In-Swap

  first : Span (swapping exchange).args.m c.line-in-Swap.result exchange.in-Swap.i 0 (swapping exchange).args.m.width
  first =
      line-span (swapping exchange).args.m c.line-in-Swap.result exchange.in-Swap.i c.line-in-Swap.ensures
      (swap-fits exchange).within.first

  second : Span (swapping exchange).args.m c.line-in-Swap-2.result exchange.in-Swap.k 0 (swapping exchange).args.m.width
  second =
      line-span (swapping exchange).args.m c.line-in-Swap-2.result exchange.in-Swap.k c.line-in-Swap-2.ensures
      (swap-fits exchange).within.second

pub swap-requires-clause-fact : goal.swap-requires-clause-fact
swap-requires-clause-fact c = spans-one-or-apart (first c) (second c) (inl refl)

pub returns-in-Swap : goal.returns-in-Swap
returns-in-Swap c =
    let at = (goal.at.returns-in-Swap c).After-line-in-Swap-2 in let args = (swapping (exchange at)).args in let called = c.swap in
    became-case (exchange at).in-Swap.is args.m args.w.now called.new.w args.before (Ok called.result)
    (swap-lines (first at) (second at) args.w.now called.new.w args.before called.result called.ensures)

-- ---- a negation

module _ (c : In-Negate) where
  abbrev negating : Start
  negating = (goal.at.In-Negate c).Start

  negate-fits : Fits negating.args.m.lines (negate c.in-Negate.k)
  negate-fits = fits-case c.in-Negate.is negating.requires.fits

module _ (c : After-line-in-Negate) where
  abbrev negation : In-Negate
  negation = (goal.at.After-line-in-Negate c).In-Negate

  negated : Span (negating negation).args.m c.line-in-Negate.result negation.in-Negate.k 0 (negating negation).args.m.width
  negated =
      line-span (negating negation).args.m c.line-in-Negate.result negation.in-Negate.k c.line-in-Negate.ensures (negate-fits negation).within

pub returns-in-Negate : goal.returns-in-Negate
returns-in-Negate c =
    let at = (goal.at.returns-in-Negate c).After-line-in-Negate in let args = (negating (negation at)).args in let called = c.negate in
    became-case (negation at).in-Negate.is args.m args.w.now called.new.w args.before (Ok called.result)
    (negate-line (negated at) args.w.now called.new.w args.before called.result called.ensures)
