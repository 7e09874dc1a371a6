use mathlib.Core.Path.{◌≡◌, sym, subst, ◌∙◌}
use mathlib.Core.Logic.{inl, inr, ⊎_elim}
use mathlib.Core.List.{List}
use Prim.Native.Nat.{ℕ, ◌+◌, ◌<◌, ◌≤◌}
use native.Mathlib.Omega.{arith}
use lib.ListN.{set}
use lib.IntN.{ℤ, nat_abs}
use mir.Syntax.{w32, w64}
use mir.Val.{SFits}
use Rattle.std.specs.Prelude.{Err}
use Rattle.integers.specs.Slot.{slot}
use Rattle.matrix_lines.specs.Slice.{entry_limit, LineSet, Beyond, difference}
use Rattle.matrix_lines.proofs.Peaks.{Raised, raised_by, raised-small}
use Rattle.matrix_lines.proofs.Store.{line_set-more}
use Rattle.matrix_lines.proofs.Blocks.{Partly, factor-read}
use Rattle.machine_words.specs.Read.{read, read-entry}
use Rattle.machine_words.proofs.Product.{product, less, product-fits, less-fits, read-less}
use Rattle.matrix_lines.proofs.line.subtract_places.Goals as goal
use Rattle.matrix_lines.proofs.line.subtract_places.Goals.{At-loop-t, After-unsigned_abs-size, Joined-largest-size, else-largest-size, then-largest-size+else-size}

-- ---- a turn of the loop

module _ {w₀ : List ℤ} {target source width : ℕ} {q : ℤ} {before t x : ℕ} {w : List ℤ}
    (inv : Partly w₀ target source width q before t x w) (more : t < width) where
  target_small : nat_abs (slot w (target + t)) ≤ entry_limit
  target_small = inv.so_far.bounded.bound (target + t)

  source-small : nat_abs (slot w (source + t)) ≤ entry_limit
  source-small = inv.so_far.bounded.bound (source + t)

  target-same : slot w (target + t) ≡ slot w₀ (target + t)
  target-same = inv.so_far.off (target + t) (inr (omega arith))

  source-same : slot w (source + t) ≡ slot w₀ (source + t)
  source-same = inv.so_far.off (source + t) (⊎_elim (λ l. inr (omega arith)) (λ l. inl (omega arith)) inv.apart)

  product-word : SFits w64 (product q (slot w (source + t)))
  product-word = product-fits (slot w (target + t)) q (slot w (source + t)) target_small inv.factor source-small

  less-word : SFits w64 (less (slot w (target + t)) q (slot w (source + t)))
  less-word = less-fits (slot w (target + t)) q (slot w (source + t)) target_small inv.factor source-small

  -- the difference as the machine computes it
  abbrev computed : ℤ
  computed = read w64 (less (slot w (target + t)) q (slot w (source + t)))

  computed-is : computed ≡ difference w₀ target source q t
  computed-is =
      read-less (slot w (target + t)) q (slot w (source + t)) target_small inv.factor source-small
      ∙ rw (target-same, source-same)

  too_wide : entry_limit < nat_abs computed → Beyond w₀ width (difference w₀ target source q) w
  too_wide l = record {
    same_length = inv.so_far.same_length;
    place = t;
    below = more;
    beyond = subst (λ (z : ℤ). entry_limit < nat_abs z) computed-is l;
  }

  again : {n : ℕ} → Raised x computed n → Partly w₀ target source width q before (t + 1) n (set w (target + t) (read w32 computed))
  again {n} raised = record {
    below = omega arith;
    target-inside = inv.target-inside;
    source-inside = inv.source-inside;
    apart = inv.apart;
    factor = inv.factor;
    so_far = subst (λ (z : ℤ). LineSet w₀ target (t + 1) (difference w₀ target source q) before n (set w (target + t) z))
        (sym computed-is ∙ sym (read-entry computed (raised-small raised)))
        (line_set-more w₀ w target t (difference w₀ target source q) (omega arith) inv.so_far (subst (λ (z : ℤ). Raised x z n) computed-is raised));
  }

pub overflow_mul-v : goal.overflow_mul-v
overflow_mul-v c = product-word c.loop-t.invariant c.loop-t-test.true

pub overflow_sub-v : goal.overflow_sub-v
overflow_sub-v c = less-word c.loop-t.invariant c.loop-t-test.true

-- ---- after the difference is computed

module _ (c : After-unsigned_abs-size) where
  abbrev head : At-loop-t
  head = (goal.at.After-unsigned_abs-size c).At-loop-t

  more : head.loop-t.t < head.args.width
  more = c.loop-t-test.true

  abbrev value : ℤ
  value = computed head.loop-t.invariant more

pub returns-then-size : goal.returns-then-size
returns-then-size c =
    let at = (goal.at.returns-then-size c).After-unsigned_abs-size in let args = (head at).args in
    factor-read args.w.now args.target args.source args.width args.q (head at).requires.q_bound args.before (Err _) (head at).loop-t.w
    (too_wide (head at).loop-t.invariant (more at) (omega (arith, c.if-size.true, at.unsigned_abs-size.ensures.value)))

raised : (c : Joined-largest-size) → Raised (head (goal.at.Joined-largest-size c).After-unsigned_abs-size).loop-t.largest (value (goal.at.Joined-largest-size c).After-unsigned_abs-size) c.if-largest-size.largest
raised c =
    raised_by (value (goal.at.Joined-largest-size c).After-unsigned_abs-size) c.unsigned_abs-size.ensures.value (head (goal.at.Joined-largest-size c).After-unsigned_abs-size).loop-t.invariant.so_far.bounded.limit
    (elim c.if-largest-size.branch [ then-largest-size+else-size h ↦ inl (h.if-largest-size.true, h.if-size.false, h.largest-is) | else-largest-size h ↦ inr (h.if-largest-size.false, h.largest-is) ])

pub loop-t-preserved : goal.loop-t-preserved
loop-t-preserved c = again (head (goal.at.loop-t-preserved c).After-unsigned_abs-size).loop-t.invariant (more (goal.at.loop-t-preserved c).After-unsigned_abs-size) (raised c)
