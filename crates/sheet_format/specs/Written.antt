-- What it means that a call has written a sheet into a slice: document 02, Notes 3 and 7.
use Rattle.std.specs.Prelude.{◌≡◌, List, ℕ, suc, ◌+◌, ◌*◌, ◌≤◌, length, take, drop}
use Rattle.sheet_format.specs.Layout.{top}
use Rattle.sheet_format.specs.Check.{count_field, offset_field, refusal}
use Rattle.sheet_format.specs.Sheet.{Bytes}

-- the length that the header of a sheet gives: section `top` starts at its offset, and the sheet ends with it
abbrev pub header_gives : List ℕ → ℕ
header_gives b = offset_field b top + 2 * (suc top * count_field b top)

-- the first n bytes of the slice, bytes all, are a sheet that is accepted at the limit; its header gives its length, and past it the slice is as before
pub record WrittenSheet (limit : ℕ) (before after : List ℕ) (n : ℕ) : Type 0 where
  pub within : n ≤ length after
  pub bytes : Bytes (take n after)
  pub accepted : refusal limit (take n after) ≡ 0
  pub in-header : header_gives after ≡ n
  pub past : drop n after ≡ drop n before
