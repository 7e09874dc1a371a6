use mathlib.Core.Path.{◌≡◌, refl, sym, ap, ap₂, ◌∙◌}
use Prim.Native.Nat.{ℕ, suc, ◌+◌, ◌*◌, ◌≤◌}
use native.Mathlib.Numerals.{add-one}
use native.Mathlib.Omega.{arith}
use lib.ListN.{get_or, take, length-take}
use lib.Seq.{get_or-take}
use Rattle.limits.specs.Limits.{library_limit}
use Rattle.sheet_format.specs.Layout.{start, longest}
use Rattle.sheet_writer.specs.Write.{count_of}
use Rattle.sheet_writer.proofs.Bytes.{start-next, start_small}
use Rattle.sheet_writer.proofs.write.section_start.Goals as goal
use Rattle.sheet_writer.proofs.write.section_start.Goals.{In-loop-q}

pub loop-q-init : goal.loop-q-init
unfolding start
loop-q-init c = (omega arith, refl)

-- where the next section starts
module _ (c : In-loop-q) where
  abbrev counts : ℕ → ℕ
  counts = count_of c.args.counts.now

  abbrev q : ℕ
  q = c.loop-q.q

  -- the count as the code reads it
  item : get_or (take c.args.p c.args.counts.now) q 0 ≡ counts q
  item = get_or-take c.args.p c.args.counts.now q 0 (omega (arith, length-take c.args.p c.args.counts.now))

  next : c.loop-q.at + 2 * ((q + 1) * get_or (take c.args.p c.args.counts.now) q 0) ≡ start counts (suc q)
  next =
      ap (λ (n : ℕ). c.loop-q.at + 2 * ((q + 1) * n)) item
      ∙ ap₂ (λ (a s : ℕ). a + 2 * (s * counts q)) c.loop-q.invariant.1 (add-one q)
      ∙ sym (start-next counts q)

  small : start counts (suc q) ≤ longest library_limit
  small = start_small counts c.requires.1.within (suc q) (omega (arith, c.requires.0))

pub overflow_mul-at : goal.overflow_mul-at
overflow_mul-at c = let r = (goal.at.overflow_mul-at c).In-loop-q in omega (arith, next r, small r)

pub overflow_mul-at-in-loop-q : goal.overflow_mul-at-in-loop-q
overflow_mul-at-in-loop-q c = let r = (goal.at.overflow_mul-at-in-loop-q c).In-loop-q in omega (arith, next r, small r)

pub overflow_add-at-in-loop-q : goal.overflow_add-at-in-loop-q
overflow_add-at-in-loop-q c = let r = (goal.at.overflow_add-at-in-loop-q c).In-loop-q in omega (arith, next r, small r)

pub loop-q-preserved : goal.loop-q-preserved
loop-q-preserved c = let r = (goal.at.loop-q-preserved c).In-loop-q in (omega arith, next r ∙ ap (start (counts r)) (sym (add-one (q r))))

pub returns : goal.returns
returns c =
    let end : c.loop-q.q ≡ c.args.p = omega arith in
    c.loop-q.invariant.1 ∙ ap (start (count_of c.args.counts.now)) end
