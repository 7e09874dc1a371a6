-- What a sheet that a call has written gives its reader, for the uses of the claims on sweeps and imports: parts-of.
use mathlib.Core.Path.{◌≡◌}
use mathlib.Core.List.{List}
use Prim.Native.Nat.{ℕ, ◌≤◌}
use lib.ListN.{length, take, drop}
use Rattle.sheet_format.specs.Check.{refusal}
use Rattle.sheet_format.specs.Sheet.{Bytes}
use Rattle.sheet_format.specs.Written.{header_gives, WrittenSheet}

-- its length, its bytes, that it is accepted, the length in its header, and the slice past it
abbrev pub Parts : ℕ → List ℕ → List ℕ → ℕ → Type 0
Parts limit before after n =
    (n ≤ length after) × Bytes (take n after) × (refusal limit (take n after) ≡ 0) × (header_gives after ≡ n) × (drop n after ≡ drop n before)

pub parts-of : {limit : ℕ} {before after : List ℕ} {n : ℕ} → WrittenSheet limit before after n → Parts limit before after n
parts-of sheet = (sheet.within, sheet.bytes, sheet.accepted, sheet.in-header, sheet.past)
