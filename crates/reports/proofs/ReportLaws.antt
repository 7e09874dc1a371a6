-- How long the report and the coordinates are, and where their numbers stand: length-report_list, length-coordinate_list, get_or-columns_of.
-- `report-fits` and `coordinates-fit`: they take no more than the slots that check 9 asks for.
use mathlib.Core.Path.{◌≡◌, refl, sym, ◌∙◌, ap}
use mathlib.Core.Bool.{Bool, true, false, cond}
use mathlib.Core.List.{List, [], ◌∷◌, ◌++◌, map}
use Prim.Native.Nat.{ℕ, zero, suc, ◌+◌, ◌*◌, ◌≤◌, ◌<◌}
use native.Mathlib.Nat.{zero-mul, suc-mul, mul-le-mul_right, le_trans}
use native.Mathlib.Omega.{arith}
use lib.Dec.{eqb}
use lib.ListN.{length, get_or, length-append, length-map, get_or-append}
use lib.Seq.{get_or-append-add}
use lib.IntN.{ℤ, pos, nat_abs}
use Rattle.lists.specs.Tabulate.{tabulate}
use Rattle.lists.proofs.TabulateLaws.{length-tabulate, get_or-tabulate}
use Rattle.reduction_steps.specs.Table.{Table, entry}
use Rattle.reduction_steps.specs.State.{State}
use Rattle.reports.specs.Report.{kind, reported, columns_of, free_rank, torsion_count, report_list, coordinate_at, coordinate_list}

-- place j of a mapped list
get_or-map-below {ℓ ℓ'} : {A : Type ℓ} {B : Type ℓ'} (f : A → B) (l : List A) (j : ℕ) (b : B) (a : A) → j < length l → get_or (map f l) j b ≡ f (get_or l j a)
get_or-map-below f [] j b a h = absurd (omega arith)
get_or-map-below f (x ∷ l) zero b a h = refl
get_or-map-below f (x ∷ l) (suc j) b a h = get_or-map-below f l j b a (omega arith)

-- ---- the places that are reported

pub length-reported-le : (e : ℕ → ℤ) (n : ℕ) → length (reported e n) ≤ n
unfolding reported
length-reported-le e zero = omega arith
length-reported-le e (suc n) =
    omega (arith, length-reported-le e n, length-append (reported e n) (last (eqb (nat_abs (e n)) 1)), one (eqb (nat_abs (e n)) 1))
  where
    last : Bool → List ℕ
    last b = cond b [] (n ∷ [])

    one : (b : Bool) → length (last b) ≤ 1
    one true = omega arith
    one false = omega arith

-- ---- the columns of G

pub length-columns_of : (G : Table) (n : ℕ) (l : List ℕ) → length (columns_of G n l) ≡ length l * n
unfolding columns_of
length-columns_of G n [] = sym (zero-mul n)
length-columns_of G n (i ∷ l) =
    omega (
      arith,
      length-append (tabulate n (λ j. entry G i j)) (columns_of G n l),
      length-tabulate n (λ j. entry G i j),
      length-columns_of G n l,
      suc-mul (length l) n,
    )

-- coefficient i of column j
pub get_or-columns_of : (G : Table) (n : ℕ) (l : List ℕ) (j i : ℕ) → j < length l → i < n → get_or (columns_of G n l) (j * n + i) (pos 0) ≡ entry G (get_or l j 0) i
unfolding columns_of
get_or-columns_of G n [] j i a b = absurd (omega arith)
get_or-columns_of G n (k ∷ l) zero i a b =
    ap (λ (t : ℕ). get_or (column ++ columns_of G n l) t (pos 0)) (omega (arith, zero-mul n))
    ∙ get_or-append column (columns_of G n l) (pos 0) i (omega (arith, length-tabulate n (λ j. entry G k j)))
    ∙ get_or-tabulate n (λ j. entry G k j) i (pos 0) b
  where
    column : List ℤ
    column = tabulate n (λ j. entry G k j)
get_or-columns_of G n (k ∷ l) (suc j) i a b =
    ap (λ (t : ℕ). get_or (column ++ columns_of G n l) t (pos 0)) (omega (arith, suc-mul j n, length-tabulate n (λ j. entry G k j)))
    ∙ get_or-append-add column (columns_of G n l) (j * n + i) (pos 0)
    ∙ get_or-columns_of G n l j i (omega arith) b
  where
    column : List ℤ
    column = tabulate n (λ j. entry G k j)

-- ---- the report

pub length-report_list : (n s r : ℕ) (x : State)
    → length (report_list n s r x) ≡ 2 + (torsion_count r x + length (reported (kind x) s) * n)
unfolding report_list torsion_count
length-report_list n s r x =
    omega (
      arith,
      length-append (map (kind x) (reported (kind x) r)) (columns_of x.row_inverse n (reported (kind x) s)),
      length-map (reported (kind x) r) (kind x),
      length-columns_of x.row_inverse n (reported (kind x) s),
    )

pub report-fits : (n s r : ℕ) (x : State) → r ≤ s → s ≤ n → length (report_list n s r x) ≤ 2 + n + n * n
unfolding torsion_count
report-fits n s r x a b =
    omega (
      arith,
      length-report_list n s r x,
      length-reported-le (kind x) r,
      mul-le-mul_right n (le_trans (length-reported-le (kind x) s) b),
    )

two-more : (j : ℕ) → 2 + j ≡ suc (suc j)
two-more j = omega arith

module _ (n s r : ℕ) (x : State) where
  orders : List ℤ
  orders = map (kind x) (reported (kind x) r)

  columns : List ℤ
  columns = columns_of x.row_inverse n (reported (kind x) s)

  pub get_or-report-free : get_or (report_list n s r x) 0 (pos 0) ≡ pos (free_rank s r)
  unfolding report_list
  get_or-report-free = refl

  pub get_or-report-torsion : get_or (report_list n s r x) 1 (pos 0) ≡ pos (torsion_count r x)
  unfolding report_list
  get_or-report-torsion = refl

  -- order j
  pub get_or-report-order : (j : ℕ) → j < torsion_count r x → get_or (report_list n s r x) (2 + j) (pos 0) ≡ kind x (get_or (reported (kind x) r) j 0)
  unfolding report_list torsion_count orders columns
  get_or-report-order j a =
      ap (λ (t : ℕ). get_or (report_list n s r x) t (pos 0)) (two-more j)
      ∙ get_or-append orders columns (pos 0) j (omega (arith, length-map (reported (kind x) r) (kind x)))
      ∙ get_or-map-below (kind x) (reported (kind x) r) j (pos 0) 0 a

  -- coefficient i of generator j
  pub get_or-report-generator : (j i : ℕ) → j < length (reported (kind x) s) → i < n
      → get_or (report_list n s r x) (2 + torsion_count r x + j * n + i) (pos 0) ≡ entry x.row_inverse (get_or (reported (kind x) s) j 0) i
  unfolding report_list torsion_count orders columns
  get_or-report-generator j i a b =
      ap (λ (t : ℕ). get_or (report_list n s r x) t (pos 0)) place
      ∙ get_or-append-add orders columns (j * n + i) (pos 0)
      ∙ get_or-columns_of x.row_inverse n (reported (kind x) s) j i a b
    where
      place : 2 + torsion_count r x + j * n + i ≡ suc (suc (length orders + (j * n + i)))
      place = omega (arith, length-map (reported (kind x) r) (kind x))

-- ---- the coordinates

pub length-coordinate_list : (n s : ℕ) (x : State) (z : List ℤ) → length (coordinate_list n s x z) ≡ length (reported (kind x) s)
unfolding coordinate_list
length-coordinate_list n s x z = length-map (reported (kind x) s) (coordinate_at n x z)

pub coordinates-fit : (n s : ℕ) (x : State) (z : List ℤ) → s ≤ n → length (coordinate_list n s x z) ≤ n
coordinates-fit n s x z a = omega (arith, length-coordinate_list n s x z, length-reported-le (kind x) s)

pub get_or-coordinate_list : (n s : ℕ) (x : State) (z : List ℤ) (j : ℕ) → j < length (reported (kind x) s)
    → get_or (coordinate_list n s x z) j (pos 0) ≡ coordinate_at n x z (get_or (reported (kind x) s) j 0)
unfolding coordinate_list
get_or-coordinate_list n s x z j a = get_or-map-below (coordinate_at n x z) (reported (kind x) s) j (pos 0) 0 a
