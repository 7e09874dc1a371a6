-- The text of a report: spaced-append and spaced-suc (fields one behind the other), generators_text-suc (one line more), report_text-report_list (the numbers of the
-- report of a dimension, whatever follows them, give the text of the dimension); program_text-take (the text of a sheet is settled by its first bytes).
use mathlib.Core.Path.{◌≡◌, refl, sym, ◌∙◌, ap, ap₂}
use mathlib.Core.List.{List, [], ◌∷◌, ◌++◌, map, append_assoc, append-nil}
use Prim.Native.Nat.{ℕ, zero, suc, ◌+◌, ◌*◌, ◌<◌}
use native.Mathlib.Nat.{zero-mul, suc-mul}
use native.Mathlib.Omega.{arith}
use lib.ListN.{length, get_or, take, drop, length-map}
use lib.Seq.{take-suc, take_at, take_all, drop_at, drop-drop}
use lib.IntN.{ℤ, pos}
use Rattle.lists.specs.Tabulate.{tabulate}
use Rattle.lists.proofs.TabulateLaws.{length-tabulate}
use Rattle.sheet_format.specs.Layout.{longest}
use Rattle.sheet_format.specs.Check.{refusal}
use Rattle.sheet_format.proofs.Prefix.{accepted-length, refusal-take}
use Rattle.reduction_steps.specs.Table.{entry}
use Rattle.reduction_steps.specs.State.{State}
use Rattle.reports.specs.Reductions.{reduced}
use Rattle.reports.specs.Report.{kind, reported, columns_of, free_rank, torsion_count, report_list}
use Rattle.limits.specs.Limits.{host_limit}
use Rattle.program_text.specs.Text.{decimal, spaced, line, generator_lines, generators_text, dimension_text, text_for, program_text, report_text}

pub spaced-append : (a b : List ℤ) → spaced (a ++ b) ≡ spaced a ++ spaced b
unfolding spaced
spaced-append [] b = refl
spaced-append (x ∷ a) b =
    ap (λ (rest : List ℕ). (32 ∷ decimal x) ++ rest) (spaced-append a b) ∙ sym (append_assoc (32 ∷ decimal x) (spaced a) (spaced b))

-- one field more
pub spaced-suc : (k : ℕ) (l : List ℤ) → k < length l → spaced (take (suc k) l) ≡ spaced (take k l) ++ (32 ∷ decimal (get_or l k (pos 0)))
unfolding spaced
spaced-suc k l h =
    ap spaced (take-suc l k (pos 0) h)
    ∙ spaced-append (take k l) (get_or l k (pos 0) ∷ [])
    ∙ ap (λ (field : List ℕ). spaced (take k l) ++ field) (append-nil (32 ∷ decimal (get_or l k (pos 0))))

-- the line of generator k stands behind those of the k generators before it
pub generators_text-suc : (n k : ℕ) (l : List ℤ) → generators_text n (suc k) l ≡ generators_text n k l ++ line 71 (take n (drop (k * n) l))
unfolding generators_text
generators_text-suc n zero l =
    append-nil (line 71 (take n l)) ∙ ap (λ (i : ℕ). line 71 (take n (drop i l))) (sym (zero-mul n))
generators_text-suc n (suc k) l =
    ap (λ (more : List ℕ). first ++ more) (generators_text-suc n k (drop n l))
    ∙ ap (λ (from : List ℤ). first ++ (generators_text n k (drop n l) ++ line 71 (take n from))) (drop-drop (k * n) n l ∙ ap (λ (i : ℕ). drop i l) place)
    ∙ sym (append_assoc first (generators_text n k (drop n l)) (line 71 (take n (drop (suc k * n) l))))
  where
    first : List ℕ
    first = line 71 (take n l)

    place : n + k * n ≡ suc k * n
    place = omega (arith, suc-mul k n)

-- the lines of columns of G, whatever follows them
generators_text-columns : (n : ℕ) (x : State) (l : List ℕ) (rest : List ℤ)
    → generators_text n (length l) (columns_of x.row_inverse n l ++ rest) ≡ generator_lines n x l
unfolding generators_text columns_of generator_lines
generators_text-columns n x [] rest = refl
generators_text-columns n x (i ∷ l) rest =
    ap (λ (numbers : List ℤ). generators_text n (suc (length l)) numbers) (append_assoc column (columns_of x.row_inverse n l) rest)
    ∙ ap₂ (λ (front : List ℤ) (more : List ℤ). line 71 front ++ generators_text n (length l) more)
    (take_at column (columns_of x.row_inverse n l ++ rest) n (length-tabulate n (λ j. entry x.row_inverse i j)))
    (drop_at column (columns_of x.row_inverse n l ++ rest) n (length-tabulate n (λ j. entry x.row_inverse i j)))
    ∙ ap (λ (more : List ℕ). line 71 column ++ more) (generators_text-columns n x l rest)
  where
    column : List ℤ
    column = tabulate n (λ j. entry x.row_inverse i j)

pub report_text-report_list : (p n s r : ℕ) (x : State) (rest : List ℤ)
    → report_text p n (torsion_count r x) (length (reported (kind x) s)) (report_list n s r x ++ rest) ≡ dimension_text p n (reduced s r x)
unfolding report_text report_list dimension_text torsion_count
report_text-report_list p n s r x rest =
    ap₂ (λ (front : List ℤ) (more : List ℤ). line 72 (pos p ∷ front) ++ generators_text n (length (reported (kind x) s)) more)
    (ap (λ (all : List ℤ). take (2 + torsion_count r x) all) parts ∙ take_at front (columns ++ rest) (2 + torsion_count r x) length_front)
    (ap (λ (all : List ℤ). drop (2 + torsion_count r x) all) parts ∙ drop_at front (columns ++ rest) (2 + torsion_count r x) length_front)
    ∙ ap (λ (more : List ℕ). line 72 (pos p ∷ front) ++ more) (generators_text-columns n x (reported (kind x) s) rest)
  where
    front : List ℤ
    front = pos (free_rank s r) ∷ pos (torsion_count r x) ∷ map (kind x) (reported (kind x) r)

    columns : List ℤ
    columns = columns_of x.row_inverse n (reported (kind x) s)

    parts : report_list n s r x ++ rest ≡ front ++ (columns ++ rest)
    parts = append_assoc front columns rest

    length_front : length front ≡ 2 + torsion_count r x
    length_front = omega (arith, length-map (reported (kind x) r) (kind x))

-- an accepted sheet has no more than the first n bytes, and a refused one is told by its number alone
pub program_text-take : (b : List ℕ) (n : ℕ) → longest host_limit < n → program_text (take n b) ≡ program_text b
unfolding program_text text_for
program_text-take b n h = settled (refusal host_limit b) refl
  where
    settled : (k : ℕ) → refusal host_limit b ≡ k → text_for (refusal host_limit (take n b)) (take n b) ≡ text_for (refusal host_limit b) b
    settled zero e = ap program_text (take_all n b (omega (arith, accepted-length host_limit b e)))
    settled (suc k) e = rw (refusal-take host_limit b n h, e)
