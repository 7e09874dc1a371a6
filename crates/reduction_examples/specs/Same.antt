-- A test that two outcomes of a reduction are the same: `same_machine`, with `same_machine-eq`.
use Rattle.std.specs.Prelude.{Bool, true, false, ◌&&◌, ◌≡◌, refl, T, eqb}
use Rattle.std.proofs.Common.{ap₂, eqb→eq}
use Rattle.lists.specs.Same.{same_number, same_list, both, same_number-eq, same_list-eq}
use Rattle.reduction_steps.specs.Table.{Table}
use Rattle.reduction_steps.specs.State.{State}
use Rattle.reduction_steps.specs.Step.{Machine, at, done, wide}

-- ---- the tests

unfoldable pub same_table : Table → Table → Bool
same_table = same_list (same_list same_number)

unfoldable pub same_state : State → State → Bool
same_state s t =
    same_table s.matrix t.matrix
    && (same_table s.row_follower t.row_follower
    && (same_table s.row_inverse t.row_inverse
    && (same_table s.column_follower t.column_follower
    && (same_table s.column_inverse t.column_inverse && eqb s.peak t.peak))))

-- both ended, and alike
unfoldable pub same_machine : Machine → Machine → Bool
same_machine (at l k s) x = false
same_machine (done r s) (at l k t) = false
same_machine (done r s) (done q t) = eqb r q && same_state s t
same_machine (done r s) wide = false
same_machine wide (at l k t) = false
same_machine wide (done q t) = false
same_machine wide wide = true

-- ---- what passes them is equal

same_table-eq : (s t : Table) → T (same_table s t) → s ≡ t
unfolding same_table
same_table-eq s t h = same_list-eq (same_list same_number) (same_list-eq same_number same_number-eq) s t h

same_state-eq : (s t : State) → T (same_state s t) → s ≡ t
unfolding same_state
same_state-eq s t h =
    let (matrix, h₁) = both (same_table s.matrix t.matrix) _ h in
    let (row_follower, h₂) = both (same_table s.row_follower t.row_follower) _ h₁ in
    let (row_inverse, h₃) = both (same_table s.row_inverse t.row_inverse) _ h₂ in
    let (column_follower, h₄) = both (same_table s.column_follower t.column_follower) _ h₃ in
    let (column_inverse, peak) = both (same_table s.column_inverse t.column_inverse) _ h₄ in
    λ i. record {
      matrix = same_table-eq s.matrix t.matrix matrix i;
      row_follower = same_table-eq s.row_follower t.row_follower row_follower i;
      row_inverse = same_table-eq s.row_inverse t.row_inverse row_inverse i;
      column_follower = same_table-eq s.column_follower t.column_follower column_follower i;
      column_inverse = same_table-eq s.column_inverse t.column_inverse column_inverse i;
      peak = eqb→eq s.peak t.peak peak i;
    }

pub same_machine-eq : (x y : Machine) → T (same_machine x y) → x ≡ y
unfolding same_machine
same_machine-eq (at l k s) x t = absurd t
same_machine-eq (done r s) (at l k u) t = absurd t
same_machine-eq (done r s) (done q u) t =
    let p : T (eqb r q) × T (same_state s u) = both (eqb r q) (same_state s u) t in
    ap₂ done (eqb→eq r q p.0) (same_state-eq s u p.1)
same_machine-eq (done r s) wide t = absurd t
same_machine-eq wide (at l k u) t = absurd t
same_machine-eq wide (done q u) t = absurd t
same_machine-eq wide wide t = refl
