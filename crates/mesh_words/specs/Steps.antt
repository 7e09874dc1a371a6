-- Steps of reading that functions of src/ take together.
use Rattle.std.specs.Prelude.{cond, not, List, ℕ, suc, ◌+◌, ltb, length, drop}
use Rattle.mesh_format.specs.Words.{is_line_feed}
use Rattle.mesh_format.specs.Parse.{Parsed, malformed, parsed, then, run, part}

-- the same without what was read
unfoldable pub skip : {A : Type 0} → Parsed A → Parsed Unit
skip p = then p (λ _ at. parsed tt at)

-- the bytes before the next line feed, whatever they are
unfoldable pub fed_line : List ℕ → ℕ → Parsed (List ℕ)
fed_line s at =
    let n : ℕ = run (λ b. not (is_line_feed b)) (drop at s) in
    cond (ltb (at + n) (length s)) (parsed (part s at n) (suc (at + n))) malformed
