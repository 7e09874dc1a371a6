-- `pack_four` meets its contract: it joins the fields of the four vertices.
use mathlib.Core.Path.{◌≡◌}
use mathlib.Core.List.{List, [], ◌∷◌}
use Prim.Native.Nat.{ℕ, ◌+◌}
use native.Mathlib.Nat.{add-zero}
use Rattle.lists.specs.Tabulate.{tabulate}
use Rattle.complexes.specs.Packed.{word_vertices, packed}
use Rattle.sheet_format.specs.Check.{field_at, cell_of}
use Rattle.cells.proofs.word.pack_four.Goals as goal
use Rattle.cells.proofs.word.pack_four.Goals.{Start, After-field_within-then-at-s, After-field_within-then-at-s-3, After-field-else-at-s, After-field-else-at-s-3}

four : (s : List ℕ) (at a b c d r : ℕ) → a ≡ field_at s at → b ≡ field_at s (at + 2) → c ≡ field_at s (at + 4) → d ≡ field_at s (at + 6)
    → r ≡ packed (a ∷ b ∷ c ∷ d ∷ []) → r ≡ packed (cell_of s word_vertices at)
unfolding cell_of tabulate
four s at a b c d r ea eb ec ed e = rw (add-zero at) (cc)

pub returns-then-at-s : goal.returns-then-at-s
returns-then-at-s c =
    let d = (goal.at.returns-then-at-s c).After-field_within-then-at-s-3 in let b = (goal.at.After-field_within-then-at-s-3 d).After-field_within-then-at-s in let start = (goal.at.After-field_within-then-at-s b).Start in
    four start.args.s.now start.args.at b.field_within.result b.field_within-then-at-s.result d.field_within-then-at-s-2.result
    d.field_within-then-at-s-3.result c.join.result b.field_within.ensures.is b.field_within-then-at-s.ensures.is
    d.field_within-then-at-s-2.ensures.is d.field_within-then-at-s-3.ensures.is c.join.ensures

pub returns-else-at-s : goal.returns-else-at-s
returns-else-at-s c =
    let d = (goal.at.returns-else-at-s c).After-field-else-at-s-3 in let b = (goal.at.After-field-else-at-s-3 d).After-field-else-at-s in let start = (goal.at.After-field-else-at-s b).Start in
    four start.args.s.now start.args.at b.field.result b.field-else-at-s.result d.field-else-at-s-2.result
    d.field-else-at-s-3.result c.join-else-at-s.result b.field.ensures.is b.field-else-at-s.ensures.is
    d.field-else-at-s-2.ensures.is d.field-else-at-s-3.ensures.is c.join-else-at-s.ensures
