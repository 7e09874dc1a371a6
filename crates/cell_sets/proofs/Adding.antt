-- Cells added to a section in several steps.
--     length-adding, section-adding-same, section-adding-other    the sections with cells added to one
--     adding-nil, adds_one, adds-more                             no cell added, one, and more after others
--     adds-over                                                   what is too many stays too many
use mathlib.Core.Path.{◌≡◌, sym, ap, subst, ◌∙◌}
use mathlib.Core.List.{List, [], ◌∷◌, ◌++◌}
use Prim.Native.Nat.{ℕ, ◌<◌}
use native.Mathlib.Omega.{arith}
use lib.ListN.{length, set, length-set}
use lib.Seq.{get_or-set_same, get_or-set_other, set-get_or, set-set}
use Rattle.complexes.specs.Cell.{Cell, precedes}
use Rattle.complexes.specs.Complex.{Sections, section}
use Rattle.closures.specs.Insert.{insert_all}
use Rattle.closures.proofs.InsertLaws.{insert_all-append, insert_all-grows}
use Rattle.std.specs.Prelude.{Result, Ok, Err}
use Rattle.cell_sets.specs.Set.{Holds, adding, Adds, AddsOne}
use Rattle.cell_sets.specs.declared.insert.Full.{Full}
use Rattle.cell_sets.specs.declared.set.CellSet.{CellSet}

pub length-adding : (K : Sections) (p : ℕ) (cs : List Cell) → length (adding K p cs) ≡ length K
unfolding adding
length-adding K p cs = length-set K p (insert_all precedes (section K p) cs)

pub section-adding-same : (K : Sections) (p : ℕ) (cs : List Cell) → p < length K → section (adding K p cs) p ≡ insert_all precedes (section K p) cs
unfolding adding
section-adding-same K p cs h = get_or-set_same K p (insert_all precedes (section K p) cs) [] h

pub section-adding-other : (K : Sections) (p q : ℕ) (cs : List Cell) → (q ≡ p → ⊥) → section (adding K p cs) q ≡ section K q
unfolding adding
section-adding-other K p q cs d = get_or-set_other K p q (insert_all precedes (section K p) cs) [] d

pub adding-nil : (K : Sections) (p : ℕ) → adding K p [] ≡ K
unfolding adding insert_all
adding-nil K p = set-get_or K p []

adding-append : (K : Sections) (p : ℕ) (xs ys : List Cell) → p < length K → adding (adding K p xs) p ys ≡ adding K p (xs ++ ys)
unfolding adding
adding-append K p xs ys h =
    set-set K p (insert_all precedes (section K p) xs) (insert_all precedes (section (adding K p xs) p) ys)
    ∙ ap (set K p)
    (ap (λ (l : List Cell). insert_all precedes l ys) (section-adding-same K p xs h) ∙ sym (insert_all-append precedes (section K p) xs ys))

pub adds_one : (K : Sections) (p : ℕ) (c : Cell) (s : CellSet) (r : Result (Unit {0}) Full) (s' : CellSet) → AddsOne K p c s r s' → Adds s.limit K p (c ∷ []) r s'
unfolding insert_all
adds_one K p c s (Ok u) s' h = h
adds_one K p c s (Err e) s' h = omega (arith, h.longer)

pub adds-more : (limit : ℕ) (K : Sections) (p : ℕ) (xs ys : List Cell) → p < length K → (r : Result (Unit {0}) Full) (s : CellSet)
    → Adds limit (adding K p xs) p ys r s → Adds limit K p (xs ++ ys) r s
adds-more limit K p xs ys l (Ok u) s h = subst (Holds s) (adding-append K p xs ys l) h
adds-more limit K p xs ys l (Err e) s h =
    omega (
      arith,
      ap (λ (t : List Cell). length (insert_all precedes t ys)) (section-adding-same K p xs l),
      ap length (insert_all-append precedes (section K p) xs ys),
    )

pub adds-over : (limit : ℕ) (K : Sections) (p : ℕ) (xs ys : List Cell) → limit < length (insert_all precedes (section K p) xs)
    → limit < length (insert_all precedes (section K p) (xs ++ ys))
adds-over limit K p xs ys h =
    omega (arith, ap length (insert_all-append precedes (section K p) xs ys), insert_all-grows precedes (insert_all precedes (section K p) xs) ys)
