-- Words in a slice, section by section.
use Rattle.std.specs.Prelude.{List, ℕ, ◌*◌, ◌≤◌, ltb, get_or, take, drop}
use Rattle.closures.specs.Closure.{element_top}
use Rattle.closures.specs.Rising.{Rising}

-- the `many` elements from place `from` on
abbrev pub part : ℕ → ℕ → List ℕ → List ℕ
part from many l = take many (drop from l)

-- the words of each section rise, and there are at most `limit` of them
abbrev pub Rise : ℕ → List ℕ → List ℕ → Type 0
Rise limit words counts =
    (p : ℕ) → p ≤ element_top → (get_or counts p 0 ≤ limit) × Rising ltb 0 (part (p * limit) (get_or counts p 0) words)
