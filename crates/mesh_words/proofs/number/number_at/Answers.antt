use mathlib.Core.Path.{◌≡◌, refl, sym, ◌∙◌}
use native.Mathlib.Omega.{arith}
use lib.ListN.{drop}
use Rattle.mesh_format.specs.Words.{is_digit}
use Rattle.mesh_format.specs.Parse.{run}
use Rattle.mesh_words.proofs.Digits.{none_read, one_more, too_many, no_digit, word-goes-on, word-ends, all-at_end, all-at_other}
use Rattle.mesh_words.proofs.Told.{at-fails, at-goes}
use Rattle.mesh_words.proofs.number.number_at.Goals as goal
use Rattle.mesh_words.proofs.number.number_at.Goals.{else-loop-byte-test, then-loop-byte-test+then-not-contains, then-at-from-via-then-at-from, then-at-from-via-else-at-from+then-stands}

pub loop-byte-init : goal.loop-byte-init
loop-byte-init c = (none_read _, omega arith)

pub returns-then-at-from-ge-MOST_DIGITS : goal.returns-then-at-from-ge-MOST_DIGITS
returns-then-at-from-ge-MOST_DIGITS c =
    let e = c.rest-byte-items.ensures in
    at-fails (too_many _ _ c.loop-byte.invariant.0 (rw e at c.loop-byte-test.true) (rw e at (sym c.contains.ensures ∙ c.if-not-contains.false))
    (omega (arith, c.if-at-from-ge-MOST_DIGITS.true, c.loop-byte.invariant.1)))

pub loop-byte-preserved : goal.loop-byte-preserved
loop-byte-preserved c =
    let e = c.rest-byte-items.ensures in (
      rw e (one_more c.loop-byte.invariant.0 (rw e at c.loop-byte-test.true) (rw e at (sym c.contains.ensures ∙ c.if-not-contains.false))
          (omega (arith, c.if-at-from-ge-MOST_DIGITS.false, c.loop-byte.invariant.1))),
      omega (arith, c.loop-byte.invariant.1),
    )

pub returns-then-at-from : goal.returns-then-at-from
returns-then-at-from c =
    let e = c.rest-byte-items.ensures in let place = c.loop-byte.invariant.1 in
    let all : run is_digit (drop c.args.from c.args.text.now) ≡ c.loop-byte.byte-index = elim c.loop-byte-test.branch [
      | else-loop-byte-test w ↦ all-at_end c.args.text.now c.args.from c.loop-byte.invariant.0 (rw e at w.loop-byte-test.false)
      | then-loop-byte-test+then-not-contains w ↦ all-at_other c.args.text.now c.args.from c.loop-byte.invariant.0 (rw e at (sym w.contains.ensures ∙ w.if-not-contains.true))
    ] in
    at-fails (elim c.then-at-from.branch [
      | then-at-from-via-then-at-from w ↦ no_digit c.args.text.now c.args.from c.loop-byte.invariant.0 all (omega (arith, w.if-at-from.true, place))
      | then-at-from-via-else-at-from+then-stands w ↦
          word-goes-on c.args.text.now c.args.from c.loop-byte.invariant.0 all (omega (arith, w.if-at-from.false, place)) (rw place at (sym w.stands.ensures ∙ w.if-stands.true))
    ])

pub returns : goal.returns
returns c =
    let e = c.rest-byte-items.ensures in let place = c.loop-byte.invariant.1 in
    let all : run is_digit (drop c.args.from c.args.text.now) ≡ c.loop-byte.byte-index = elim c.loop-byte-test.branch [
      | else-loop-byte-test w ↦ all-at_end c.args.text.now c.args.from c.loop-byte.invariant.0 (rw e at w.loop-byte-test.false)
      | then-loop-byte-test+then-not-contains w ↦ all-at_other c.args.text.now c.args.from c.loop-byte.invariant.0 (rw e at (sym w.contains.ensures ∙ w.if-not-contains.true))
    ] in
    let read = word-ends c.args.text.now c.args.from c.loop-byte.invariant.0 all (omega (arith, c.if-at-from.false, place)) (rw place at (sym c.stands.ensures ∙ c.if-stands.false)) in
    rw place (at-goes read)
