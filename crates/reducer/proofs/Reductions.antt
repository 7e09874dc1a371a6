-- The loop over the stages (`Reducing`) with its measure (`stages_left`), and what it comes to: by `reaches-reduce`, an ended machine that it reaches is
-- the reduction's outcome.
use mathlib.Core.Path.{◌≡◌, refl, sym, ap, ◌∙◌, subst}
use mathlib.Core.List.{List}
use Prim.Native.Nat.{ℕ, suc, ◌+◌, ◌-◌, ◌*◌, ◌≤◌, ◌<◌, zero-le}
use native.Mathlib.Numerals.{add-one}
use native.Mathlib.Omega.{arith}
use lib.IntN.{ℤ, pos, nat_abs}
use lib.ListN.{length, replicate}
use Rattle.reduction_steps.specs.Pivot.{Choice, none, place, Rule, IsRule}
use Rattle.reduction_steps.specs.Step.{Letter, Machine, at, Ended}
use Rattle.reduction_laws.proofs.Run.{reaches-refl, reaches-trans}
use Rattle.reduction_laws.proofs.Ends.{reaches-reduce}
use Rattle.std.specs.Prelude.{Result, Ok, Err}
use Rattle.matrix_lines.specs.Slice.{entry_limit, Under}
use Rattle.refusal.specs.declared.Refusal.{Refusal}
use Rattle.operations.specs.Laid.{Laid, sizes_of, state_of}
use Rattle.operations.specs.declared.workspace.Workspace.{Workspace}
use Rattle.reducer.specs.declared.stage.Stage.{Stage}
use Rattle.reducer.specs.declared.stage.Stage.TheVariants as stage
use Rattle.passes.specs.PassAnswers.{matrix_of}
use Rattle.reducer.specs.StageAnswers.{Begun, size_at, chosen_size, reduction_of, Goes, ChoiceEnds, ReductionDone, ReductionRefused}
use Rattle.operations.proofs.Operate.{within-under}
use Rattle.operations.proofs.Side.{shaped-state}
use Rattle.passes.proofs.States.{entry-state}
use Rattle.passes.proofs.Words.{small-entry}

-- from the slice w₀ the reduction has come to letter a of stage k with the slice w
pub record Reducing (rule : Rule) (W : Workspace) (peak₀ : ℕ) (w₀ : List ℤ) (k peak : ℕ) (w : List ℤ) : Type 0 where
  pub laid : Laid (length w₀) W
  pub under : Under peak₀ w₀
  pub goes : Goes rule W (at Letter.a 0 (state_of W peak₀ w₀)) (at Letter.a k (state_of W peak w))
  pub begun : Begun W k peak w
  pub same_length : length w ≡ length w₀

pub reducing-start : {rule : Rule} {W : Workspace} {peak : ℕ} {w : List ℤ} → Laid (length w) W → Under peak w → Reducing rule W peak w 0 peak w
reducing-start {rule} {W} {peak} {w} l s = record {
  laid = l;
  under = s;
  goes = reaches-refl entry_limit (sizes_of W) rule (at Letter.a 0 (state_of W peak w));
  begun = record { laid = l; under = s; row-bound = zero-le; column-bound = zero-le; rows-done = record { zero = λ i j a. absurd (omega arith) } };
  same_length = refl;
}

-- the entry to be chosen lies within the limit
chosen-small : {rule : Rule} → IsRule rule → {W : Workspace} {k peak : ℕ} {w : List ℤ} → Begun W k peak w → chosen_size rule W k w ≤ entry_limit
unfolding size_at
chosen-small {rule} is {W} {k} {peak} {w} h = go (rule W.matrix.lines W.matrix.width k (matrix_of W w)) refl
  where
    go : (c : Choice) → rule W.matrix.lines W.matrix.width k (matrix_of W w) ≡ c → size_at (matrix_of W w) c ≤ entry_limit
    go none e = omega arith
    go (place i j) e =
        let l = is.chosen W.matrix.lines W.matrix.width k (matrix_of W w) i j e in
        subst (λ (x : ℤ). nat_abs x ≤ entry_limit) (sym (entry-state W w i j l.row_below l.column-below)) (small-entry W.matrix h.under i j)

-- The measure of the loop: a stage more counts for more than any entry, and within a stage the entry to be chosen falls.
abbrev pub stages_left : Rule → Workspace → ℕ → List ℤ → ℕ
stages_left rule W k w = (W.matrix.lines - k) * suc entry_limit + chosen_size rule W k w

module _ {rule : Rule} {W : Workspace} {peak₀ : ℕ} {w₀ : List ℤ} {k peak : ℕ} {w : List ℤ} (h : Reducing rule W peak₀ w₀ k peak w) where
  -- the machine comes to letter a of stage l
  onward : {l peak' : ℕ} {w' : List ℤ} → Goes rule W (at Letter.a k (state_of W peak w)) (at Letter.a l (state_of W peak' w')) → Begun W l peak' w' → length w' ≡ length w → Reducing rule W peak₀ w₀ l peak' w'
  onward g b s = record { laid = h.laid; under = h.under; goes = reaches-trans entry_limit (sizes_of W) rule h.goes g; begun = b; same_length = s ∙ h.same_length }

  ended : IsRule rule → {y : Machine} → Goes rule W (at Letter.a k (state_of W peak w)) y → Ended y → reduction_of rule W peak₀ w₀ ≡ y
  ended is g = reaches-reduce entry_limit (sizes_of W) rule is (state_of W peak₀ w₀) (shaped-state peak₀ w₀ h.laid) (within-under W h.under) (reaches-trans entry_limit (sizes_of W) rule h.goes g)

-- the stage k that begins with the slice w has come to r and the slice w'
module _ {rule : Rule} (is : IsRule rule) {W : Workspace} {peak₀ : ℕ} {w₀ : List ℤ} {k peak : ℕ} {w : List ℤ} (h : Reducing rule W peak₀ w₀ k peak w) (rounds : ℕ) {r : Result Stage Refusal} (w' : List ℤ) (e : ChoiceEnds rule W k rounds peak w r w') where
  ends_as : {r' : Result Stage Refusal} → r ≡ r' → ChoiceEnds rule W k rounds peak w r' w'
  ends_as i = subst (λ (r : Result Stage Refusal). ChoiceEnds rule W k rounds peak w r w') i e

  pub reducing-next : {peak' : ℕ} → r ≡ Ok (stage.Cleared peak') → Reducing rule W peak₀ w₀ (k + 1) peak' w'
  reducing-next {peak'} i = let c = ends_as i in subst (λ (n : ℕ). Reducing rule W peak₀ w₀ n peak' w') (sym (add-one k)) (onward h c.goes c.begun c.same_length)

  pub next-less : {peak' : ℕ} → r ≡ Ok (stage.Cleared peak') → stages_left rule W (k + 1) w' < stages_left rule W k w
  next-less i = let n = reducing-next i in omega (arith, n.begun.row-bound, chosen-small is n.begun)

  pub reducing-again : {peak' : ℕ} → r ≡ Ok (stage.Again peak') → Reducing rule W peak₀ w₀ k peak' w'
  reducing-again i = let c = ends_as i in onward h c.goes c.begun c.same_length

  pub reduced : {peak' : ℕ} → r ≡ Ok (stage.Exhausted peak') → ReductionDone W (reduction_of rule W peak₀ w₀) (length w₀) k peak' w'
  reduced i =
      let c = ends_as i in
      record {
        outcome = ended h is c.goes tt;
        kept = record { same_length = c.kept.same_length ∙ h.same_length; under = c.kept.under };
      }

  pub reduction-refused : {y : Refusal} → r ≡ Err y → ReductionRefused (reduction_of rule W peak₀ w₀) (length w₀) y w'
  reduction-refused i =
      let c = ends_as i in
      record {
        outcome = ended h is c.goes tt;
        cleared = record { number = c.cleared.number; zeros = c.cleared.zeros ∙ ap (λ (n : ℕ). replicate n (pos 0)) h.same_length };
      }
