-- Lines of a slice, and what an operation on them leaves. A slice is the list of its entries.
use Rattle.std.specs.Prelude.{◌≡◌, ◌⊎◌, ◌≢◌, Bool, true, List, ℕ, ◌+◌, ◌*◌, ◌<◌, ◌≤◌, length, ℤ, pos, neg_ℤ, nat_abs, ◌-ℤ◌, ◌*ℤ◌, Result, Ok, Err}
pub use Rattle.limits.specs.Limits.{entry_limit}
use Rattle.integers.specs.Slot.{slot}
use Rattle.matrix_lines.specs.declared.line.TooWide.{TooWide}

-- where line i of a matrix stands
abbrev pub line_at : ℕ → ℕ → ℕ → ℕ
line_at start width i = start + i * width

-- every entry lies within the limit
pub record Small (w : List ℤ) : Type 0 where
  pub bound : (i : ℕ) → nat_abs (slot w i) ≤ entry_limit

-- every entry lies within the peak, and the peak within the limit
pub record Under (peak : ℕ) (w : List ℤ) : Type 0 where
  pub bound : (i : ℕ) → nat_abs (slot w i) ≤ peak
  pub limit : peak ≤ entry_limit

-- every entry, and the largest absolute value that an operation wrote so far, lies within the limit
pub record Bounded (largest : ℕ) (w : List ℤ) : Type 0 where
  pub bound : (i : ℕ) → nat_abs (slot w i) ≤ entry_limit
  pub limit : largest ≤ entry_limit

-- an entry of w' is as it was in w, or its absolute value is at most n
pub record Covered (w w' : List ℤ) (n : ℕ) : Type 0 where
  pub entry : (i : ℕ) → (slot w' i ≡ slot w i) ⊎ (nat_abs (slot w' i) ≤ n)

-- two lines share no place
abbrev pub Apart : ℕ → ℕ → ℕ → Type 0
Apart a b width = (a + width ≤ b) ⊎ (b + width ≤ a)

-- place i is not on the line at a
abbrev pub Off : ℕ → ℕ → ℕ → Type 0
Off a width i = (i < a) ⊎ (a + width ≤ i)

-- how many places the code tests for 0 at once
abbrev pub block : ℕ
block = 8

-- what a test for 0 of the n entries from a on tells
pub record ZerosTold (w : List ℤ) (a n : ℕ) (r : Bool) : Type 0 where
  pub zeros : r ≡ true → (t : ℕ) → t < n → slot w (a + t) ≡ pos 0

-- what a test for equality of the n entries from a on and from b on tells
pub record SameTold (w : List ℤ) (a b n : ℕ) (r : Bool) : Type 0 where
  pub same : r ≡ true → (t : ℕ) → t < n → slot w (a + t) ≡ slot w (b + t)

-- the line at a is 0 from place `from` up to place r, which is at most its width
pub record ZerosTo (w : List ℤ) (a from width r : ℕ) : Type 0 where
  pub begins : from ≤ r
  pub ends : r ≤ width
  pub zeros : (t : ℕ) → from ≤ t → t < r → slot w (a + t) ≡ pos 0

-- r is the first place from `from` on where it is not 0, or its width
pub record FirstNonzero (w : List ℤ) (a from width r : ℕ) : Type 0 where
  pub passed : ZerosTo w a from width r
  pub found : r < width → slot w (a + r) ≢ pos 0

-- n is the absolute value of one of these entries
pub record OneOf (width : ℕ) (line : ℕ → ℤ) (n : ℕ) : Type 0 where
  pub place : ℕ
  pub below : place < width
  pub is : n ≡ nat_abs (line place)

-- w' is w but for the line at `target`, which now holds `line`. The largest absolute value that was written, with the entries of the line: x covers
-- every entry that differs, and is the one before or that of an entry of the line.
pub record LineSet (w : List ℤ) (target width : ℕ) (line : ℕ → ℤ) (before x : ℕ) (w' : List ℤ) : Type 0 where
  pub same_length : length w' ≡ length w
  pub on : (t : ℕ) → t < width → slot w' (target + t) ≡ line t
  pub off : (i : ℕ) → Off target width i → slot w' i ≡ slot w i
  pub bounded : Bounded x w'
  pub above : before ≤ x
  pub covered : Covered w w' x
  pub wrote : (x ≡ before) ⊎ OneOf width line x

-- some entry of the line would lie beyond the limit
pub record Beyond (w : List ℤ) (width : ℕ) (line : ℕ → ℤ) (w' : List ℤ) : Type 0 where
  pub same_length : length w' ≡ length w
  pub place : ℕ
  pub below : place < width
  pub beyond : entry_limit < nat_abs (line place)

-- the line at `target` less q times the line at `source`
abbrev pub difference : List ℤ → ℕ → ℕ → ℤ → ℕ → ℤ
difference w target source q t = slot w (target + t) -ℤ q *ℤ slot w (source + t)

-- q times the line at `source` is taken from the line at `target`
abbrev pub Subtracted : List ℤ → ℕ → ℕ → ℕ → ℤ → ℕ → Result ℕ TooWide → List ℤ → Type 0
Subtracted w target source width q before (Ok x) w' = LineSet w target width (difference w target source q) before x w'
Subtracted w target source width q before (Err e) w' = Beyond w width (difference w target source q) w'

-- the two lines have changed places; x is the largest absolute value that was written, with their entries
pub record LinesSwapped (w : List ℤ) (first second width before x : ℕ) (w' : List ℤ) : Type 0 where
  pub same_length : length w' ≡ length w
  pub on-first : (t : ℕ) → t < width → slot w' (first + t) ≡ slot w (second + t)
  pub on-second : (t : ℕ) → t < width → slot w' (second + t) ≡ slot w (first + t)
  pub off : (i : ℕ) → Off first width i → Off second width i → slot w' i ≡ slot w i
  pub bounded : Bounded x w'
  pub above : before ≤ x
  pub covered : Covered w w' x
  pub wrote : (x ≡ before) ⊎ (OneOf width (λ t. slot w (first + t)) x ⊎ OneOf width (λ t. slot w (second + t)) x)

-- the line at `target` is negated
abbrev pub Negated : List ℤ → ℕ → ℕ → ℕ → ℕ → List ℤ → Type 0
Negated w target width before x w' = LineSet w target width (λ t. neg_ℤ (slot w (target + t))) before x w'
