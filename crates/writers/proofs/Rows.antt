-- The rows whose kind is not 1, row by row: `reported-one` and `reported-other`; as a filter of the range of the rows: `reported-filter`; `some-any`, a test
-- of some row.
-- `blocks b l` are the lists b i for the places i of l, one after another; orders, coordinates and columns of G are such: `map-blocks`,
-- `columns_of-blocks`.
use mathlib.Core.Path.{◌≡◌, refl, sym, ap, ap₂, ◌∙◌}
use mathlib.Core.Bool.{Bool, true, false, cond, not, ◌||◌}
use mathlib.Core.Logic.{◌≢◌}
use mathlib.Core.List.{List, [], ◌∷◌, ◌++◌, map, append_assoc, append-nil}
use Prim.Native.Nat.{ℕ, zero, suc, ◌+◌, ◌*◌}
use native.Mathlib.Nat.{add-zero, zero-add, zero-mul, suc-mul}
use native.Mathlib.Numerals.{add-one}
use native.Mathlib.Omega.{arith}
use lib.ListN.{length, length-append}
use lib.IntN.{ℤ, pos, negsuc, nat_abs}
use lib.Dec.{eqb}
use mir.Syntax.{w64}
use mir.Val.{of_z}
use lib.Signed.{◌≤ℤ◌}
use borrow.Author.Tests.{ne_eqb}
use Rattle.integers.proofs.Order.{nonneg-is}
use Rattle.std.specs.List.{range_with_len, filter, list_any}
use Rattle.std.proofs.lemmas.List.Elements.{filter-append}
use Rattle.std.proofs.lemmas.List.Folds.{list_any-append}
use Rattle.lists.specs.Tabulate.{tabulate}
use Rattle.sheet_format.specs.Check.{some}
use Rattle.reduction_steps.specs.Table.{Table, entry}
use Rattle.reports.specs.Report.{reported, columns_of}

-- ---- one row more

-- a row of kind 1 is dropped
pub reported-one : (e : ℕ → ℤ) (i : ℕ) → e i ≡ pos 1 → reported e (i + 1) ≡ reported e i
unfolding reported
reported-one e i h = rw (add-one, h) (append-nil (reported e i))

-- a row of another kind is kept
pub reported-other : (e : ℕ → ℤ) (i : ℕ) → pos 0 ≤ℤ e i → e i ≢ pos 1 → reported e (i + 1) ≡ reported e i ++ (i ∷ [])
unfolding reported
reported-other e i h f = rw (add-one, ne_eqb (nat_abs (e i)) 1 (λ k. f (nonneg-is h ∙ ap pos k)))

-- ---- the rows as a walk over a range finds them

range-snoc : (a n : ℕ) → range_with_len a (suc n) ≡ range_with_len a n ++ ((a + n) ∷ [])
range-snoc a zero = ap (λ (k : ℕ). k ∷ []) (sym (add-zero a))
range-snoc a (suc n) = ap (λ (l : List ℕ). a ∷ l) (range-snoc (a + 1) n ∙ ap (λ (k : ℕ). range_with_len (a + 1) n ++ (k ∷ [])) (omega arith))

range-next : (n : ℕ) → range_with_len 0 (suc n) ≡ range_with_len 0 n ++ (n ∷ [])
range-next n = range-snoc 0 n ∙ ap (λ (k : ℕ). range_with_len 0 n ++ (k ∷ [])) (zero-add n)

-- the kind is another than 1, as a machine word tells
abbrev pub is_reported : (ℕ → ℤ) → ℕ → Bool
is_reported e i = not (eqb (of_z w64 (e i)) 1)

pub reported-filter : (e : ℕ → ℤ) → ((i : ℕ) → pos 0 ≤ℤ e i) → (n : ℕ) → filter (is_reported e) (range_with_len 0 n) ≡ reported e n
unfolding reported
reported-filter e h zero = refl
reported-filter e h (suc n) =
    ap (filter (is_reported e)) (range-next n)
    ∙ filter-append (is_reported e) (range_with_len 0 n) (n ∷ [])
    ∙ ap₂ (λ (l r : List ℕ). l ++ r) (reported-filter e h n) (one (e n) (h n))
  where
    turned : (t : Bool) → cond (not t) (n ∷ []) [] ≡ cond t [] (n ∷ [])
    turned true = refl
    turned false = refl

    one : (z : ℤ) → pos 0 ≤ℤ z → cond (not (eqb (of_z w64 z) 1)) (n ∷ []) [] ≡ cond (eqb (nat_abs z) 1) [] (n ∷ [])
    one (pos m) k = turned (eqb m 1)
    one (negsuc m) k = absurd k.le

-- some row passes the test
pub some-any : (test : ℕ → Bool) (n : ℕ) → list_any test (range_with_len 0 n) ≡ some n test
unfolding some
some-any test zero = refl
some-any test (suc n) =
    ap (list_any test) (range-next n)
    ∙ list_any-append test (range_with_len 0 n) (n ∷ [])
    ∙ ap (λ (t : Bool). t || (test n || false)) (some-any test n)
    ∙ last (test n)
  where
    last : (t : Bool) → (some n test || (t || false)) ≡ (some n test || t)
    last true = refl
    last false = refl

-- ---- lists one after another

unfoldable pub blocks : (ℕ → List ℤ) → List ℕ → List ℤ
blocks b [] = []
blocks b (i ∷ l) = b i ++ blocks b l

pub blocks-snoc : (b : ℕ → List ℤ) (l : List ℕ) (i : ℕ) → blocks b (l ++ (i ∷ [])) ≡ blocks b l ++ b i
unfolding blocks
blocks-snoc b [] i = append-nil (b i)
blocks-snoc b (j ∷ l) i = ap (λ (r : List ℤ). b j ++ r) (blocks-snoc b l i) ∙ sym (append_assoc (b j) (blocks b l) (b i))

pub length-blocks : (b : ℕ → List ℤ) (k : ℕ) → ((i : ℕ) → length (b i) ≡ k) → (l : List ℕ) → length (blocks b l) ≡ length l * k
unfolding blocks
length-blocks b k h [] = sym (zero-mul k)
length-blocks b k h (i ∷ l) =
    omega (arith, length-append (b i) (blocks b l), h i, length-blocks b k h l, suc-mul (length l) k)

pub map-blocks : (f : ℕ → ℤ) (l : List ℕ) → blocks (λ i. f i ∷ []) l ≡ map f l
unfolding blocks
map-blocks f [] = refl
map-blocks f (i ∷ l) = ap (λ (r : List ℤ). f i ∷ r) (map-blocks f l)

pub columns_of-blocks : (G : Table) (n : ℕ) (l : List ℕ) → blocks (λ i. tabulate n (λ j. entry G i j)) l ≡ columns_of G n l
unfolding blocks columns_of
columns_of-blocks G n [] = refl
columns_of-blocks G n (i ∷ l) = ap (λ (r : List ℤ). tabulate n (λ j. entry G i j) ++ r) (columns_of-blocks G n l)
