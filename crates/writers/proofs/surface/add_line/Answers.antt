use Rattle.std.proofs.Common.{◌≡◌, ◌∙◌, refl, ap₂, arith, ℕ, ◌+◌, ◌<◌, ◌≢◌, length, List, set, get_or-set_other, get_or-set_same, below_more, ℤ, ◌+ℤ◌, ◌*ℤ◌, w64, to_z-of_z}
use Rattle.integers.specs.Slot.{slot}
use Rattle.matrix_lines.proofs.Spans.{line-span, span-inside}
use Rattle.machine_words.specs.Read.{read}
use Rattle.writers.proofs.surface.add_line.Invariants.{Invariant, product-fits, raised, raised_is, raised-fits}
use Rattle.writers.proofs.surface.add_line.Goals as goal

again : {w : List ℤ} {line : ℕ} {y : ℤ} {sums₀ : List ℤ} {j : ℕ} {sums : List ℤ} (inv : Invariant w line y sums₀ j sums) (more : j < length sums₀) → length sums ≡ length sums₀
    → Invariant w line y sums₀ (j + 1) (set sums j (read w64 (raised inv more)))
again {j = j} {sums = sums} inv more same = record {
  line-inside = inv.line-inside;
  small = inv.small;
  factor = inv.factor;
  headroom = inv.headroom;
  passed = below_more _ _
      (λ t below. let ne : t ≢ j = omega arith in rw get_or-set_other (inv.passed t below))
      (let lt : j < length sums = omega arith in rw get_or-set_same (to_z-of_z (raised-fits inv more) ∙ raised_is inv more));
  left = λ t past. let ne : t ≢ j = omega arith in rw get_or-set_other (inv.left t (omega arith));
}

pub loop-j-init : goal.loop-j-init
loop-j-init c =
    let a = c.args in let pre = c.requires in
    record {
      line-inside = omega (arith, span-inside (line-span a.g c.line-at.result a.i c.line-at.ensures pre.line) pre.held, pre.size);
      small = pre.small;
      factor = rw (to_z-of_z c.ranges.y) pre.factor;
      headroom = λ t below. pre.headroom t (omega (arith, pre.size));
      passed = λ t below. absurd (omega arith);
      left = λ t past. refl;
    }

pub overflow_mul-sum : goal.overflow_mul-sum
overflow_mul-sum c = rw c.from.ensures (product-fits c.loop-j.invariant c.loop-j-test.true)

pub overflow_add-sum : goal.overflow_add-sum
overflow_add-sum c = rw c.from.ensures (raised-fits c.loop-j.invariant c.loop-j-test.true)

pub loop-j-preserved : goal.loop-j-preserved
loop-j-preserved c = rw c.from.ensures (again c.loop-j.invariant c.loop-j-test.true c.loop-j.auto.sums)

pub returns : goal.returns
returns c =
    let a = c.args in
    λ j below.
    c.loop-j.invariant.passed j (omega (arith, c.requires.size))
    ∙ ap₂ (λ (y : ℤ) (at : ℕ). slot a.sums.now j +ℤ y *ℤ slot a.w.now (at + j)) (to_z-of_z c.ranges.y) c.line-at.ensures
