-- Where the operations and passes of the steps lead: by which moves, and to which matrix (`Led`).
-- led-row, led-column: one operation; row_pass-led and column_pass-led: steps c and d; bring-made: step b leaves a positive pivot of the
-- chosen entry's size.
use Rattle.std.specs.Prelude.{◌≡◌, ◌≢◌, true, false, ℤ, negsuc, neg_ℤ, ◌<ℤ◌}
use Rattle.std.proofs.Math.Path.{refl, ap, subst}
use Rattle.std.proofs.Common.{sym, ◌∙◌, arith}
use Prim.Native.Nat.{ℕ, zero, suc, ◌+◌, ◌≤◌, ◌<◌}
use Rattle.std.proofs.Math.IntN.{pos, nat_abs}
use Rattle.std.specs.Int.Signed.{non_neg}
use Rattle.integers.proofs.Order.{lt-pos}
use Rattle.matrices.specs.Matrix.{Matrix, transpose}
use Rattle.matrices.specs.Operation.{Operation, swap, negate, on_rows, on_columns}
use Rattle.matrices.specs.Within.{Within}
use Rattle.matrices.proofs.OperationLaws.{on_rows-swap-second, on_rows-negate-at}
use Rattle.reduction_steps.specs.Table.{entry}
use Rattle.reduction_steps.specs.State.{Sizes, State, made, within, and_then, on_row, on_column}
use Rattle.reduction_steps.specs.Step.{positive, bring, quotient, row_pass, column_pass}
use Rattle.reduction_laws.specs.Shape.{Shaped, shaped-rows, shaped-columns, matrix-rows, matrix-columns}
use Rattle.reduction_laws.specs.StageLaws.{From}
use Rattle.reduction_laws.specs.Moves.{made-injective, on_row-made, on_column-made, and_then-made, Moves, stay, Keeps, moves-keep, moves-trans, moves-row, moves-column}
use Rattle.reduction_laws.specs.Pass.{pass, clearing}

module _ (limit : ℕ) (z : Sizes) (k : ℕ) where
  shaped-keeps : Keeps limit z k (Shaped z)
  shaped-keeps = record { on_rows = λ op t f w h p. shaped-rows op p; on_columns = λ op t f w h p. shaped-columns op p }

  pub shaped-moves : {s t : State} → Moves limit z k s t → Shaped z s → Shaped z t
  shaped-moves p h = moves-keep limit z k shaped-keeps p h

  within-keeps : Keeps limit z k (λ s. within limit s ≡ true)
  within-keeps = record { on_rows = λ op t f w h p. h; on_columns = λ op t f w h p. h }

  pub within-moves : {s t : State} → Moves limit z k s t → within limit s ≡ true → within limit t ≡ true
  within-moves {s} {t} p h = moves-keep limit z k {P = λ u. within limit u ≡ true} within-keeps p h

  -- moves lead from s to t, whose matrix is B
  pub record Led (s t : State) (B : Matrix) : Type 0 where
    pub moves : Moves limit z k s t
    pub matrix : entry t.matrix ≡ B

  pub led-shaped : {s t : State} {B : Matrix} → Shaped z s → Led s t B → Shaped z t
  led-shaped h l = shaped-moves l.moves h

  pub led-trans : {s t u : State} {B C : Matrix} → Led s t B → Led t u C → Led s u C
  led-trans p q = record { moves = moves-trans limit z k p.moves q.moves; matrix = q.matrix }

  led-stay : (s t : State) → made s ≡ made t → Led s t (entry s.matrix)
  led-stay s t e =
      subst (λ (u : State). Led s u (entry s.matrix)) (made-injective e) (record { moves = stay; matrix = refl })

  pub led-row : (op : Operation) (s t : State) → Shaped z s → From k op → Within z.rows op → on_row limit z op s ≡ made t → Led s t (on_rows op (entry s.matrix))
  led-row op s t h f w e = record {
    moves = moves-row limit z k op s t f w e;
    matrix = ap (λ (u : State). entry u.matrix) (sym (on_row-made limit z op s t e).same) ∙ matrix-rows op h w;
  }

  pub led-column : (op : Operation) (s t : State) → Shaped z s → From k op → Within z.columns op → on_column limit z op s ≡ made t → Led s t (on_columns op (entry s.matrix))
  led-column op s t h f w e = record {
    moves = moves-column limit z k op s t f w e;
    matrix = ap (λ (u : State). entry u.matrix) (sym (on_column-made limit z op s t e).same) ∙ matrix-columns op h w;
  }

  -- ---- steps c and d

  pub row_pass-led :
      (more i : ℕ) (s t : State) → Shaped z s → k < i → i + more ≤ z.rows → row_pass limit z k more i s ≡ made t
      → Led s t (pass k more i (entry s.matrix))
  unfolding row_pass pass clearing quotient
  row_pass-led zero i s t h l b e = led-stay s t e
  row_pass-led (suc more) i s t h l b e =
      let op : Operation = clearing k i (entry s.matrix) in
      let between = and_then-made (on_row limit z op s) (λ u. row_pass limit z k more (suc i) u) t e in
      let first : Led s between.state (on_rows op (entry s.matrix)) = led-row op s between.state h (omega arith) (omega arith) between.before in
      let rest = row_pass-led more (suc i) between.state t (led-shaped h first) (omega arith) (omega arith) between.after in
      subst (λ (B : Matrix). Led s t (pass k more (suc i) B)) first.matrix (led-trans first rest)

  pub column_pass-led :
      (more j : ℕ) (s t : State) → Shaped z s → k < j → j + more ≤ z.columns → column_pass limit z k more j s ≡ made t
      → Led s t (transpose (pass k more j (transpose (entry s.matrix))))
  unfolding column_pass pass clearing quotient on_columns
  column_pass-led zero j s t h l b e = led-stay s t e
  column_pass-led (suc more) j s t h l b e =
      let op : Operation = clearing k j (transpose (entry s.matrix)) in
      let between = and_then-made (on_column limit z op s) (λ u. column_pass limit z k more (suc j) u) t e in
      let first : Led s between.state (on_columns op (entry s.matrix)) = led-column op s between.state h (omega arith) (omega arith) between.before in
      let rest = column_pass-led more (suc j) between.state t (led-shaped h first) (omega arith) (omega arith) between.after in
      subst (λ (B : Matrix). Led s t (transpose (pass k more (suc j) (transpose B)))) first.matrix (led-trans first rest)

  -- ---- step b

  -- t has a positive pivot at (k, k), of size p
  pub record Brought (s t : State) (p : ℕ) : Type 0 where
    pub moves : Moves limit z k s t
    pub positive : pos 0 <ℤ entry t.matrix k k
    pub size : nat_abs (entry t.matrix k k) ≡ p

  positive-made : (s t : State) → Shaped z s → k < z.rows → entry s.matrix k k ≢ pos 0 → positive limit z k s ≡ made t → Brought s t (nat_abs (entry s.matrix k k))
  unfolding positive
  positive-made s t h b f e = go (entry s.matrix k k) refl f e
    where
      brought : {B : Matrix} (n : ℕ) → Led s t B → B k k ≡ pos (suc n) → Brought s t (suc n)
      brought {B} n l q = record { moves = l.moves; positive = subst (λ (y : ℤ). pos 0 <ℤ y) (sym here) (lt-pos (omega arith)); size = ap nat_abs here }
        where
          here : entry t.matrix k k ≡ pos (suc n)
          here = ap (λ (C : Matrix). C k k) l.matrix ∙ q

      go :
          (x : ℤ) → entry s.matrix k k ≡ x → x ≢ pos 0 → elim (non_neg x) [ true ↦ made s | false ↦ on_row limit z (negate k) s ] ≡ made t
          → Brought s t (nat_abs x)
      go (pos zero) q f e = absurd (f refl)
      go (pos (suc n)) q f e = brought n (led-stay s t e) q
      go (negsuc n) q f e = brought n (led-row (negate k) s t h (omega arith) b e) (on_rows-negate-at k (entry s.matrix) k ∙ ap neg_ℤ q)

  pub bring-made :
      (i j : ℕ) (s t : State) → Shaped z s → k ≤ i → i < z.rows → k ≤ j → j < z.columns → entry s.matrix i j ≢ pos 0
      → bring limit z k i j s ≡ made t → Brought s t (nat_abs (entry s.matrix i j))
  unfolding bring on_columns
  bring-made i j s t h ki im kj jn f e =
      let A : Matrix = entry s.matrix in
      let b₁ = and_then-made (on_row limit z (swap i k) s) (λ u. and_then (on_column limit z (swap j k) u) (λ v. positive limit z k v)) t e in
      let l₁ : Led s b₁.state (on_rows (swap i k) A) = led-row (swap i k) s b₁.state h (omega arith) (omega arith) b₁.before in
      let h₁ : Shaped z b₁.state = led-shaped h l₁ in
      let b₂ = and_then-made (on_column limit z (swap j k) b₁.state) (λ v. positive limit z k v) t b₁.after in
      let l₂ = led-column (swap j k) b₁.state b₂.state h₁ (omega arith) (omega arith) b₂.before in
      let pivot : entry b₂.state.matrix k k ≡ A i j =
      ap (λ (B : Matrix). B k k) l₂.matrix
      ∙ on_rows-swap-second j k (transpose (entry b₁.state.matrix)) k
      ∙ ap (λ (B : Matrix). B k j) l₁.matrix
      ∙ on_rows-swap-second i k A j
      in
      let p = positive-made b₂.state t (led-shaped h₁ l₂) (omega arith) (λ q. f (sym pivot ∙ q)) b₂.after in
      record {
        moves = moves-trans limit z k l₁.moves (moves-trans limit z k l₂.moves p.moves);
        positive = p.positive;
        size = p.size ∙ ap nat_abs pivot;
      }
