use mathlib.Core.Path.{◌≡◌, refl, sym, ap, ◌∙◌}
use mathlib.Core.List.{List}
use mathlib.Core.Bool.{Bool, true, false}
use Prim.Native.Nat.{ℕ, zero, suc, ◌+◌, ◌-◌, ◌≤◌, ◌<◌}
use native.Mathlib.Decide.{dec_lt}
use native.Mathlib.Numerals.{add-one}
use native.Mathlib.Omega.{arith}
use lib.ListN.{length, get_or, take, drop, set, length-set, length-drop}
use Rattle.std.specs.Prelude.{count_by}
use lib.Seq.{get_or-set_same, get_or-set_other, get_or-drop}
use Rattle.std.proofs.lemmas.List.Sums.{count_by_more_yes, count_by_more_no}
use Rattle.complexes.specs.Cell.{Cell}
use Rattle.complexes.specs.Complex.{count}
use Rattle.sheet_format.specs.Layout.{top}
use Rattle.sheet_format.specs.Check.{count_field, start_at, cells_of}
use Rattle.closures.specs.Keep.{kept, cells_below}
use Rattle.closures.proofs.KeepCount.{kept-none, length-stays, length-goes, cells_below-next, cells_below-within}
use Rattle.cell_keeper.specs.Unmarked.{stays, stays_at, unmarked_cells, Counts}
use Rattle.cell_keeper.proofs.Staying.{section-unmarked}
use Rattle.cell_keeper.proofs.count.count_cells.Invariants.{Invariant}
use Rattle.cell_keeper.proofs.count.count_cells.Goals as goal
use Rattle.cell_keeper.proofs.count.count_cells.Goals.{At-loop-p, In-loop-p}

-- the marks counted are the cells that stay
count-kept : (marks : List ℕ) (from : ℕ) (l : List Cell) (n : ℕ) → from + n ≤ length marks
    → count_by stays (take n (drop from marks)) ≡ length (kept (stays_at marks from) l n)
count-kept marks from l zero h = sym (ap length (kept-none (stays_at marks from) l))
count-kept marks from l (suc n) h = pick (stays (get_or marks (from + n) 0)) refl (count-kept marks from l n (omega arith))
  where
    ms : List ℕ
    ms = drop from marks

    short : n < length ms
    short = omega (arith, length-drop from marks)

    is : get_or ms n 0 ≡ get_or marks (from + n) 0
    is = get_or-drop from marks n 0

    pick : (b : Bool) → stays (get_or marks (from + n) 0) ≡ b → count_by stays (take n ms) ≡ length (kept (stays_at marks from) l n)
        → count_by stays (take (suc n) ms) ≡ length (kept (stays_at marks from) l (suc n))
    pick true e before =
        rw (add-one n) at (count_by_more_yes stays ms n 0 short (ap stays is ∙ e))
        ∙ omega (arith, before, length-stays (stays_at marks from) l n e)
    pick false e before =
        rw (add-one n) at (count_by_more_no stays ms n 0 short (ap stays is ∙ e))
        ∙ before
        ∙ sym (length-goes (stays_at marks from) l n e)

none : (b marks counts : List ℕ) → length counts ≡ suc top → Invariant b marks counts 0 0
unfolding cells_below
none b marks counts h = record { within = omega arith; sized = h; passed = refl; counted = λ q l. absurd (omega arith) }

module _ {b marks counts : List ℕ} {from p : ℕ} (inv : Invariant b marks counts from p) where
  -- the marks of dimension p
  marked : cells_below (count_field b) (suc top) ≤ length marks → p < suc top → from + count_field b p ≤ length marks
  marked h l = omega (arith, inv.passed, cells_below-within (count_field b) p (suc top) l)

  one_more : cells_below (count_field b) (suc top) ≤ length marks → p < suc top → {many n : ℕ} → many ≡ count_field b p
      → n ≡ count_by stays (take many (drop from marks)) → Invariant b marks (set counts p n) (from + many) (p + 1)
  one_more room l {many} {n} e h = record {
    within = omega arith;
    sized = length-set counts p n ∙ inv.sized;
    passed = rw (add-one p) (omega (arith, inv.passed, e, cells_below-next (count_field b) p));
    counted = λ q k. pick q (dec_lt q p) k;
  }
    where
      here : n ≡ count (unmarked_cells b marks) p
      here =
          h
          ∙ count-kept marks from (cells_of b (suc p) (count_field b p) (start_at b p)) many (omega (arith, marked room l))
          ∙ rw (e, inv.passed) (sym (ap length (section-unmarked b marks p (omega arith))))

      pick : (q : ℕ) → Dec (q < p) → q < p + 1 → get_or (set counts p n) q 0 ≡ count (unmarked_cells b marks) q
      pick q (yes k) _ = get_or-set_other counts p q n 0 (λ r. omega arith) ∙ inv.counted q k
      pick q (no k) m =
          let same : q ≡ p = omega arith in
          rw same (get_or-set_same counts p n 0 (omega (arith, inv.sized)) ∙ here)

  all : suc top ≤ p → Counts (unmarked_cells b marks) counts
  all l = record { sized = inv.sized; counted = λ q k. inv.counted q (omega arith) }

pub loop-p-init : goal.loop-p-init
loop-p-init c = none _ _ _ refl

pub slice_bounds-count_section-end : goal.slice_bounds-count_section-end
slice_bounds-count_section-end c = omega (arith, marked c.loop-p.invariant c.requires c.loop-p-test.true, c.count-many.ensures.is)

pub overflow_add-from : goal.overflow_add-from
overflow_add-from c =
    let turn = (goal.at.overflow_add-from c).In-loop-p in
    let l = (goal.at.In-loop-p turn).At-loop-p in
    omega (arith, marked l.loop-p.invariant l.requires turn.loop-p-test.true, c.count-many.ensures.is)

pub loop-p-preserved : goal.loop-p-preserved
loop-p-preserved c =
    let turn = (goal.at.loop-p-preserved c).In-loop-p in
    let cut : c.loop-p.from + c.count-many.result - c.loop-p.from ≡ c.count-many.result = omega arith in
    one_more turn.loop-p.invariant c.requires turn.loop-p-test.true c.count-many.ensures.is (rw cut at c.count_section-stay.ensures)

pub returns : goal.returns
returns c = all c.loop-p.invariant c.loop-p-test.false
