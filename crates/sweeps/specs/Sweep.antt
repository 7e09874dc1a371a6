-- The sweep call: document 02, Note 7, "A sweep call tries 1 to 7 and writes the sheet without loose nodes, or answers 16 if the lent slice is too short".
use Rattle.std.specs.Prelude.{Bool, true, not, List, [], ◌∷◌, ◌++◌, ℕ, zero, suc, ltb, length}
use Rattle.trials.specs.Trial.{first_refusal}
use Rattle.trials.specs.Write.{WriteCalled, answer_with}
use Rattle.complexes.specs.Complex.{Sections}
use Rattle.sheet_format.specs.Layout.{layout}
use Rattle.sheet_format.specs.Check.{sections_of, loose, complex_checks}
use Rattle.closures.specs.Keep.{keep}

-- every cell stays but the loose nodes
abbrev pub stays : Sections → ℕ → ℕ → Bool
stays K zero i = not (loose K i)
stays K (suc p) i = true

-- the cells without the loose nodes
abbrev pub swept : Sections → Sections
swept K = keep (stays K) K

-- the sheet that the sweep makes of the cells K
abbrev pub swept_sheet : Sections → List ℕ
swept_sheet K = layout (swept K)

-- the checks of the sweep of the sheet b at the count limit, with room for so many bytes
abbrev pub sweep_checks : ℕ → ℕ → List ℕ → List (ℕ × Bool)
sweep_checks limit room b = complex_checks limit b ++ ((16, ltb room (length (swept_sheet (sections_of b)))) ∷ [])

-- the sweep call at a count limit, on a sheet and a slice for the swept one
unfoldable pub sweep_call : ℕ → List ℕ → List ℕ → WriteCalled
sweep_call limit b slice = answer_with (first_refusal (sweep_checks limit (length slice) b)) (swept_sheet (sections_of b)) slice
