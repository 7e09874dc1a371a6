use mathlib.Core.Path.{◌≡◌, refl, sym, subst, ◌∙◌}
use mathlib.Core.List.{List, []}
use Prim.Native.Nat.{suc, ◌-◌}
use native.Mathlib.Omega.{arith}
use lib.Seq.{ext_get_or}
use Rattle.std.proofs.lemmas.Result.{err_from_is_err_and}
use Rattle.lists.proofs.TabulateLaws.{length-tabulate}
use Rattle.complexes.specs.Cell.{Cell}
use Rattle.complexes.specs.Complex.{Sections}
use Rattle.closures.specs.Closure.{element_top, own_section, own_sections, closure}
use Rattle.closures.proofs.ClosureLaws.{closure-dimensions, own_sections-section, closure-top}
use Rattle.cell_sets.specs.Set.{Holds}
use Rattle.cell_sets.proofs.set.CellSet.close.Invariants.{Closing, Halfway, one_more, over}
use Rattle.cell_sets.proofs.set.CellSet.close.Goals as goal

at_first : (cs : List Cell) → Halfway cs element_top (own_sections element_top cs)
unfolding own_sections
at_first cs = record {
  dimensions = length-tabulate (suc element_top) (own_section cs);
  closed = λ q h l.
      let last : q ≡ element_top = omega arith in
      rw last (own_sections-section element_top cs element_top (omega arith) ∙ sym (closure-top element_top cs));
  own = λ q l. own_sections-section element_top cs q (omega arith);
}

at_last : {cs : List Cell} {K : Sections} → Halfway cs 0 K → K ≡ closure element_top cs
at_last {cs} {K} h =
    ext_get_or [] K (closure element_top cs) (h.dimensions ∙ sym (closure-dimensions element_top cs))
    (λ q l. h.closed q (omega (arith, h.dimensions)) (omega arith))

pub loop-p-init : goal.loop-p-init
loop-p-init c = (refl, λ cs h. record { complex = own_sections element_top cs; holds = h; halfway = at_first cs })

pub returns-in_err-close_section : goal.returns-in_err-close_section
returns-in_err-close_section c =
    let e = err_from_is_err_and c.from_residual.result c.from_residual.ensures.1 in
    record {
      limit = c.close_section.ensures.limit ∙ c.loop-p.invariant.0;
      closes = λ cs h.
          let closing : Closing cs c.loop-p.p c.loop-p.self = c.loop-p.invariant.1 cs h in
          rw e.1
          (over closing (omega arith) (c.loop-p.p - 1) (omega arith)
          (rw c.loop-p.invariant.0 at (c.in_err-close_section.ensures.closes closing.complex closing.holds)));
    }

pub loop-p-preserved : goal.loop-p-preserved
loop-p-preserved c = (
  c.close_section.ensures.limit ∙ c.loop-p.invariant.0,
  λ cs h.
      let closing : Closing cs c.loop-p.p c.loop-p.self = c.loop-p.invariant.1 cs h in
      one_more closing (omega arith) (c.loop-p.p - 1) (omega arith) (c.in_ok-close_section.ensures.closes closing.complex closing.holds),
)

pub returns : goal.returns
returns c = record {
  limit = c.loop-p.invariant.0;
  closes = λ cs h.
      let last : c.loop-p.p ≡ 0 = omega arith in
      let closing : Closing cs 0 c.loop-p.self = rw last at (c.loop-p.invariant.1 cs h) in
      subst (Holds c.loop-p.self) (at_last closing.halfway) closing.holds;
}
