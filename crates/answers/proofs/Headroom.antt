-- The peak of two reductions that are done, document 02, Note 4: `Headroom`, and reductions-headroom. That it is an entry of some matrix on the way,
-- and covers all of them, are peak-held and peak-covers of `reduction_laws`, for the operations of either reduction. A transform that is kept may have
-- entries where there are no cells; `Bare`: none has.
use mathlib.Core.Path.{◌≡◌, sym, ◌∙◌, ap, subst}
use mathlib.Core.Logic.{◌↔◌}
use mathlib.Core.Bool.{Bool, true}
use Prim.Native.Nat.{ℕ, suc, ◌≤◌, ◌<◌}
use native.Mathlib.Nat.{le_refl}
use native.Mathlib.Omega.{arith}
use native.Mathlib.Decide.{dec_lt}
use lib.IntN.{nat_abs}
use Rattle.matrices.specs.Matrix.{identity}
use Rattle.matrices.proofs.Product.{identity-at}
use Rattle.complexes.specs.Complex.{Sections, count}
use Rattle.complexes.proofs.ChainComplex.{ChainComplex}
use Rattle.reduction_steps.specs.Table.{Table, entry, table, table_largest, table_within}
use Rattle.reduction_steps.specs.State.{Sizes, State, largest}
use Rattle.reduction_steps.specs.Pivot.{Rule, IsRule}
use Rattle.reduction_laws.specs.Tables.{entry-table, table_largest-table, table_within-le}
use Rattle.reduction_laws.specs.Shape.{Shaped, shaped-rows, shaped-columns, largest-iff, within-le}
use Rattle.reduction_laws.specs.Moves.{Moves, moves-keep}
use Rattle.reduction_laws.proofs.SmithForm as machine
use Rattle.reduction_laws.proofs.Peaks.{largest-le, peak-row, peak-column, covered-moves, peak-rises, peak-within}
use Rattle.reports.proofs.ReductionsLaws.{first-peak, second-peak, BothDone, reductions-done}
use Rattle.reports.specs.Reductions.{Transforms, second_columns_only, first_sizes, first_start, second_sizes, second_start, reduced, reductions}
use Rattle.answers.proofs.Starts.{first-shaped, first-within, second-shaped, second-within}
use Rattle.answers.proofs.TwoReductions.{first-smith, second-smith}

pub record Headroom (limit : ℕ) (K : Sections) (p : ℕ) (x : State) : Type 0 where
  -- no entry went beyond the limit
  pub within : x.peak ≤ limit
  -- what is left lies within the peak
  pub covers : largest x ≤ x.peak
  -- 0 exactly where there are no cells
  pub none : (x.peak ≡ 0) ↔ (count K p ≡ 0)

-- ---- tables without entries

-- no table of these sizes has an entry
pub record Empty (z : Sizes) : Type 0 where
  pub matrix : (i j : ℕ) → i < z.rows → j < z.columns → ⊥
  pub row_follower : (i j : ℕ) → i < z.rows → j < z.row_follower → ⊥
  pub row_inverse : (i j : ℕ) → i < z.rows → j < z.row_inverse → ⊥
  pub column_follower : (i j : ℕ) → i < z.columns → j < z.column_follower → ⊥
  pub column_inverse : (i j : ℕ) → i < z.columns → j < z.column_inverse → ⊥

empty-largest : {z : Sizes} {s : State} → Empty z → Shaped z s → largest s ≤ 0
empty-largest {z} {s} h f = (largest-iff 0 s).1 (record {
  matrix = none f.matrix h.matrix;
  row_follower = none f.row_follower h.row_follower;
  row_inverse = none f.row_inverse h.row_inverse;
  column_follower = none f.column_follower h.column_follower;
  column_inverse = none f.column_inverse h.column_inverse;
})
  where
    none : {m n : ℕ} {T : Table} → T ≡ table m n (entry T) → ((i j : ℕ) → i < m → j < n → ⊥) → table_within 0 T ≡ true
    none {m} {n} {T} e k =
        (table_within-le 0 T).1 (subst (λ (U : Table). table_largest U ≤ 0) (sym e) ((table_largest-table 0 m n (entry T)).1 (λ i j a b. absurd (k i j a b))))

-- operations leave such a state without entries
empty-moves : {limit : ℕ} {z : Sizes} {s t : State} → Empty z → Moves limit z 0 s t → Shaped z s → s.peak ≤ 0 → t.peak ≤ 0
empty-moves {limit} {z} h p f e =
    (moves-keep limit z 0 {P = λ (t : State). Shaped z t × (t.peak ≤ 0)}
    (record {
      on_rows = λ op t from w n c. (
        shaped-rows op c.0,
        omega (arith, peak-row z op t, c.1, empty-largest h (shaped-rows op c.0)),
      );
      on_columns = λ op t from w n c. (
        shaped-columns op c.0,
        omega (arith, peak-column z op t, c.1, empty-largest h (shaped-columns op c.0)),
      );
    })
    p (f, e)).1

-- ---- the two reductions

-- where there are no cells of dimension p, no table of the two reductions has an entry
pub record Bare (t : Transforms) (K : Sections) (p : ℕ) : Type 0 where
  pub first : count K p ≡ 0 → Empty (first_sizes t K p)
  pub second : (r : ℕ) → count K p ≡ 0 → Empty (second_sizes t K p r)

-- so it is with the transform of the columns of the second, where a dimension without cells is followed by none
pub second-columns-bare : {K : Sections} {p : ℕ} → (count K p ≡ 0 → count K (suc p) ≡ 0) → (kept : Bool) → Bare (second_columns_only kept) K p
second-columns-bare {K} {p} none kept = record {
  first = λ h. record {
    matrix = λ i j a c. omega (arith, h);
    row_follower = λ i j a c. omega arith;
    row_inverse = λ i j a c. omega arith;
    column_follower = λ i j a c. omega (arith, h);
    column_inverse = λ i j a c. omega (arith, h);
  };
  second = λ r h. record {
    matrix = λ i j a c. omega (arith, h);
    row_follower = λ i j a c. omega (arith, h);
    row_inverse = λ i j a c. omega (arith, h);
    column_follower = λ i j a c. omega (arith, none h);
    column_inverse = λ i j a c. omega arith;
  };
}

module _ {most : ℕ} {K : Sections} (complex : ChainComplex most K) (t : Transforms) (rule : Rule) (is : IsRule rule) (limit p : ℕ) (one : 1 ≤ limit)
    (s r : ℕ) (x : State) (e : reductions t rule limit K p ≡ reduced s r x) where
  abbrev b : BothDone t rule limit K p s r x
  b = reductions-done t rule limit K p s r x e

  abbrev r₁ : ℕ
  r₁ = b.first_rank

  abbrev x₁ : State
  x₁ = b.first_state

  abbrev S₁ : machine.Reduced limit (first_sizes t K p) (first_start t K p) r₁ x₁
  S₁ = first-smith complex t rule is limit p one s r x e

  abbrev S₂ : machine.Reduced limit (second_sizes t K p r₁) (second_start t K p r₁ x₁) r x
  S₂ = second-smith complex t rule is limit p one s r x e

  rises : (first_start t K p).peak ≤ x.peak
  rises =
      omega (arith, peak-rises limit (first_sizes t K p) 0 S₁.moves, second-peak t K p r₁ x₁, peak-rises limit (second_sizes t K p r₁) 0 S₂.moves)

  peak-small : x.peak ≤ limit
  peak-small = peak-within limit (second_sizes t K p r₁) 0 S₂.moves (omega (
    arith,
    second-peak t K p r₁ x₁,
    peak-within limit (first_sizes t K p) 0 S₁.moves (omega (arith, first-peak t K p, (within-le limit (first_start t K p)).0 (first-within t complex limit p one))),
    (within-le limit (second_start t K p r₁ x₁)).0 (second-within t K p r₁ x₁ limit one S₁.within b.narrow),
  ))

  -- where there are cells, V starts with an entry 1
  unit-start : 0 < count K p → 1 ≤ largest (first_start t K p)
  unfolding first_start
  unit-start h =
      subst (λ (n : ℕ). n ≤ largest (first_start t K p))
      (ap nat_abs (entry-table (count K p) (count K p) identity 0 0 h h ∙ identity-at 0))
      (((largest-le (largest (first_start t K p)) (first_start t K p)).0 (le_refl (largest (first_start t K p)))).column_follower 0 0)

  cells-peak : 0 < count K p → 1 ≤ x.peak
  cells-peak h = omega (arith, rises, first-peak t K p, unit-start h)

  -- where there are none and no table has an entry
  no-peak : Bare t K p → count K p ≡ 0 → x.peak ≤ 0
  no-peak bare h =
      empty-moves second_empty S₂.moves second-shape
      (omega (arith, second-peak t K p r₁ x₁, empty-largest second_empty second-shape, empty-moves first-empty S₁.moves (first-shaped t K p) start))
    where
      first-empty : Empty (first_sizes t K p)
      first-empty = bare.first h

      second_empty : Empty (second_sizes t K p r₁)
      second_empty = bare.second r₁ h

      start : (first_start t K p).peak ≤ 0
      start = omega (arith, first-peak t K p, empty-largest first-empty (first-shaped t K p))

      second-shape : Shaped (second_sizes t K p r₁) (second_start t K p r₁ x₁)
      second-shape = second-shaped t K p r₁ x₁ S₁.shaped

  pub reductions-headroom : Bare t K p → Headroom limit K p x
  reductions-headroom bare = record {
    within = peak-small;
    covers = covered-moves limit (second_sizes t K p r₁) 0 S₂.moves (omega (arith, second-peak t K p r₁ x₁));
    none = (λ z. cells (dec_lt 0 (count K p)) z, λ z. omega (arith, no-peak bare z));
  }
    where
      cells : Dec (0 < count K p) → x.peak ≡ 0 → count K p ≡ 0
      cells (yes h) z = absurd (omega (arith, cells-peak h))
      cells (no h) z = omega arith
