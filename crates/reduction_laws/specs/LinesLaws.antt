-- An operation on the lines of a table, or on its columns, makes the table of what it makes of the entries: on_lines-is, on_entries-is. They need no bounds
-- on the rows or columns named: what stands outside the table counts as zero in both.
use Rattle.std.specs.Prelude.{◌≡◌, Bool, List, ◌∷◌, map, ℕ, zero, suc, ◌<◌, eqb, ℤ, pos, ◌-ℤ◌, ◌*ℤ◌, get_or}
use Rattle.std.proofs.Math.Path.{refl}
use Rattle.std.proofs.Common.{sym, ◌∙◌, ap, subst, arith}
use Rattle.std.proofs.Math.Bool.{true, false, cond}
use Rattle.std.proofs.Math.Decide.{dec_lt}
use Rattle.std.proofs.Math.IntN.{neg_ℤ}
use Rattle.lists.specs.Tabulate.{tabulate}
use Rattle.lists.proofs.TabulateLaws.{get_or-tabulate, get_or-tabulate-beyond, tabulate-ext, set-tabulate, map-tabulate}
use Rattle.matrices.specs.Matrix.{Matrix}
use Rattle.matrices.specs.Operation.{Operation, subtract, swap, negate, on_rows, on_columns}
use Rattle.reduction_steps.specs.Table.{Table, entry, table}
use Rattle.reduction_steps.specs.Lines.{on_list, entry_less, line_less, on_lines, on_entries}
use Rattle.reduction_laws.specs.Bounded.{Bounded, bounded-table}

-- ---- lists

module _ {A : Type 0} (less : ℤ → A → A → A) (minus : A → A) where
  -- an operation on the values of a function
  abbrev changed : Operation → (ℕ → A) → ℕ → A
  changed (subtract i k q) f a = cond (eqb a i) (less q (f i) (f k)) (f a)
  changed (swap i k) f a = cond (eqb a i) (f k) (cond (eqb a k) (f i) (f a))
  changed (negate k) f a = cond (eqb a k) (minus (f k)) (f a)

  on_list-tabulate :
      (outside : A) (n : ℕ) (f : ℕ → A) → ((i : ℕ) → get_or (tabulate n f) i outside ≡ f i)
      → (op : Operation) → on_list outside less minus op (tabulate n f) ≡ tabulate n (changed op f)
  unfolding on_list
  on_list-tabulate outside n f h (subtract i k q) = rw (h i, h k) (set-tabulate n f i (less q (f i) (f k)))
  on_list-tabulate outside n f h (swap i k) =
      rw (h i, h k, set-tabulate n f k (f i)) (set-tabulate n (λ a. cond (eqb a k) (f i) (f a)) i (f k))
  on_list-tabulate outside n f h (negate k) = rw (h k) (set-tabulate n f k (minus (f k)))

line_less-tabulate : (q : ℤ) (n : ℕ) (f g : ℕ → ℤ) → line_less q (tabulate n f) (tabulate n g) ≡ tabulate n (λ j. entry_less q (f j) (g j))
unfolding line_less tabulate
line_less-tabulate q zero f g = refl
line_less-tabulate q (suc n) f g = ap (λ r. entry_less q (f 0) (g 0) ∷ r) (line_less-tabulate q n (λ j. f (suc j)) (λ j. g (suc j)))

-- ---- the table of a matrix that is zero outside it

module _ (m n : ℕ) (A : Matrix) (b : Bounded m n A) where
  abbrev line : ℕ → List ℤ
  line i = tabulate n (λ j. A i j)

  abbrev zeros : List ℤ
  zeros = tabulate n (λ j. pos 0)

  get_or-line : (i : ℕ) → get_or (tabulate m line) i zeros ≡ line i
  get_or-line i = go (dec_lt i m)
    where
      go : Dec (i < m) → get_or (tabulate m line) i zeros ≡ line i
      go (yes l) = get_or-tabulate m line i zeros l
      go (no l) =
          get_or-tabulate-beyond m line i zeros (omega arith)
          ∙ tabulate-ext n (λ j. pos 0) (λ j. A i j) (λ j _. sym (b.below i j (omega arith)))

  get_or-entry : (i j : ℕ) → get_or (line i) j (pos 0) ≡ A i j
  get_or-entry i j = go (dec_lt j n)
    where
      go : Dec (j < n) → get_or (line i) j (pos 0) ≡ A i j
      go (yes l) = get_or-tabulate n (λ j. A i j) j (pos 0) l
      go (no l) = get_or-tabulate-beyond n (λ j. A i j) j (pos 0) (omega arith) ∙ sym (b.right i j (omega arith))

  changed-line : (op : Operation) (a : ℕ) → changed line_less (map neg_ℤ) op line a ≡ tabulate n (λ j. on_rows op A a j)
  unfolding on_rows
  changed-line (subtract i k q) a = go (eqb a i)
    where
      go : (t : Bool) → cond t (line_less q (line i) (line k)) (line a) ≡ tabulate n (λ j. cond t (A i j -ℤ q *ℤ A k j) (A a j))
      go true = line_less-tabulate q n (λ j. A i j) (λ j. A k j)
      go false = refl
  changed-line (swap i k) a = go (eqb a i) (eqb a k)
    where
      go : (t u : Bool) → cond t (line k) (cond u (line i) (line a)) ≡ tabulate n (λ j. cond t (A k j) (cond u (A i j) (A a j)))
      go true u = refl
      go false true = refl
      go false false = refl
  changed-line (negate k) a = go (eqb a k)
    where
      go : (t : Bool) → cond t (map neg_ℤ (line k)) (line a) ≡ tabulate n (λ j. cond t (neg_ℤ (A k j)) (A a j))
      go true = map-tabulate neg_ℤ n (λ j. A k j)
      go false = refl

  changed-entry : (op : Operation) (i j : ℕ) → changed entry_less neg_ℤ op (λ j. A i j) j ≡ on_columns op A i j
  unfolding on_rows on_columns
  changed-entry (subtract a k q) i j = refl
  changed-entry (swap a k) i j = refl
  changed-entry (negate k) i j = refl

  on_lines-table : (op : Operation) → on_lines n op (table m n A) ≡ table m n (on_rows op A)
  unfolding on_lines table
  on_lines-table op =
      on_list-tabulate line_less (map neg_ℤ) zeros m line get_or-line op
      ∙ tabulate-ext m (changed line_less (map neg_ℤ) op line) (λ i. tabulate n (λ j. on_rows op A i j)) (λ i _. changed-line op i)

  on_entries-table : (op : Operation) → on_entries op (table m n A) ≡ table m n (on_columns op A)
  unfolding on_entries table
  on_entries-table op =
      map-tabulate (on_list (pos 0) entry_less neg_ℤ op) m line
      ∙ tabulate-ext m (λ i. on_list (pos 0) entry_less neg_ℤ op (line i)) (λ i. tabulate n (λ j. on_columns op A i j)) (λ i _. row i)
    where
      row : (i : ℕ) → on_list (pos 0) entry_less neg_ℤ op (line i) ≡ tabulate n (λ j. on_columns op A i j)
      row i =
          on_list-tabulate entry_less neg_ℤ (pos 0) n (λ j. A i j) (get_or-entry i) op
          ∙ tabulate-ext n (changed entry_less neg_ℤ op (λ j. A i j)) (λ j. on_columns op A i j) (λ j _. changed-entry op i j)

-- ---- a table of m rows and n columns

module _ (m n : ℕ) (T : Table) (e : T ≡ table m n (entry T)) (op : Operation) where
  bounded : Bounded m n (entry T)
  bounded = subst (λ (S : Table). Bounded m n (entry S)) (sym e) (bounded-table m n (entry T))

  pub on_lines-is : on_lines n op T ≡ table m n (on_rows op (entry T))
  on_lines-is = ap (on_lines n op) e ∙ on_lines-table m n (entry T) bounded op

  pub on_entries-is : on_entries op T ≡ table m n (on_columns op (entry T))
  on_entries-is = ap (on_entries op) e ∙ on_entries-table m n (entry T) bounded op
