-- An elementary operation on a table. It changes the lines that it is about, or the entries that it is about in every line.
use Rattle.std.specs.Prelude.{List, [], ◌∷◌, map, ℕ, ℤ, pos, neg_ℤ, ◌-ℤ◌, ◌*ℤ◌, get_or, set}
use Rattle.lists.specs.Tabulate.{tabulate}
use Rattle.matrices.specs.Operation.{Operation, subtract, swap, negate}
use Rattle.reduction_steps.specs.Table.{Table}

-- on the elements of a list: `outside` stands where there is none, `less q x y` is x less q times y, `minus x` is x with the opposite sign
module _ {A : Type 0} (outside : A) (less : ℤ → A → A → A) (minus : A → A) where
  unfoldable pub on_list : Operation → List A → List A
  on_list (subtract i k q) l = set l i (less q (get_or l i outside) (get_or l k outside))
  on_list (swap i k) l = set (set l k (get_or l i outside)) i (get_or l k outside)
  on_list (negate k) l = set l k (minus (get_or l k outside))

abbrev pub entry_less : ℤ → ℤ → ℤ → ℤ
entry_less q x y = x -ℤ q *ℤ y

-- entry by entry, for lines of one length
unfoldable pub line_less : ℤ → List ℤ → List ℤ → List ℤ
line_less q [] r = []
line_less q (x ∷ l) [] = []
line_less q (x ∷ l) (y ∷ r) = entry_less q x y ∷ line_less q l r

-- on the lines of a table, which have n entries each
unfoldable pub on_lines : ℕ → Operation → Table → Table
on_lines n op T = on_list (tabulate n (λ j. pos 0)) line_less (map neg_ℤ) op T

-- on the columns of a table: on the entries of each line
unfoldable pub on_entries : Operation → Table → Table
on_entries op T = map (on_list (pos 0) entry_less neg_ℤ op) T
