-- The sweep: document 02, Note 7, for every sheet and slice. The contracts of `sweeper::sweep::sweep`, `fildwuk_library_sweep` and `fildwuk_sweep` say that these
-- calls answer and leave what `sweep_call` says, at the limits of the library and of the host calls.
use Rattle.std.specs.Prelude.{◌≡◌, ◌↔◌, ◌≢◌, List, ◌++◌, ℕ, ◌≤◌, ◌<◌, length, take, drop}
use Rattle.limits.specs.Limits.{library_limit}
use Rattle.trials.specs.Trial.{done, number_told}
use Rattle.complexes.specs.Complex.{Sections, count, Complex}
use Rattle.sheet_format.specs.Layout.{top, layout}
use Rattle.sheet_format.specs.Check.{sections_of, complex_refusal, refusal}
use Rattle.sheet_format.specs.Sheet.{Bytes, IsLayout}
use Rattle.sheet_format.specs.Written.{header_gives}
use Rattle.sweeps.specs.Sweep.{sweep_call}
use Rattle.sweeps.specs.Swept.{IsSwept, SweptSheet}

-- none of 1 to 7 applies exactly when the sheet holds a complex laid out so, with loose nodes or without
abbrev pub Layouts : Type 0
Layouts = (limit : ℕ) → limit ≤ library_limit → (b : List ℕ) → Bytes b → (complex_refusal limit b ≡ 0) ↔ IsLayout limit b

-- "A sweep call tries 1 to 7": the first that applies is told, whatever the slice
abbrev pub SweepRefused : Type 0
SweepRefused =
    (limit : ℕ) (b slice : List ℕ) → complex_refusal limit b ≢ 0 → number_told (sweep_call limit b slice).answer ≡ complex_refusal limit b

-- the cells of "the sheet without loose nodes": there are such, and no others
pub record HasSwept (limit : ℕ) (K : Sections) : Type 0 where
  pub cells : Sections
  pub complex : Complex top limit cells
  pub are : IsSwept K cells

abbrev pub SweptCells : Type 0
SweptCells = (limit : ℕ) (K : Sections) → Complex top limit K → HasSwept limit K

abbrev pub SweptUnique : Type 0
SweptUnique = (limit : ℕ) (K L M : Sections) → Complex top limit K → Complex top limit L → IsSwept K L → Complex top limit M → IsSwept K M → L ≡ M

-- "or answers 16 if the lent slice is too short": for the sheet that it writes, where none of 1 to 7 applies
abbrev pub SweepTooShort : Type 0
SweepTooShort =
    (limit : ℕ) (b slice : List ℕ) → limit ≤ library_limit → Bytes b → complex_refusal limit b ≡ 0 →
    (L : Sections) → Complex top limit L → IsSwept (sections_of b) L →
    (number_told (sweep_call limit b slice).answer ≡ 16) ↔ (length slice < length (layout L))

-- demand 3, "A call answers done whenever no numbered refusal applies to it"; 02, Note 3, "A call that writes a sheet answers done with its length in bytes"
abbrev pub SweepDone : Type 0
SweepDone =
    (limit : ℕ) (b slice : List ℕ) → limit ≤ library_limit → Bytes b → complex_refusal limit b ≡ 0 →
    (L : Sections) → Complex top limit L → IsSwept (sections_of b) L → length (layout L) ≤ length slice →
    sweep_call limit b slice ≡ record { answer = done (length (layout L)); output = layout L ++ drop (length (layout L)) slice }

-- .. so that a slice as long as the sheet that is given is long enough
abbrev pub SweepFits : Type 0
SweepFits =
    (limit : ℕ) (b slice : List ℕ) → limit ≤ library_limit → Bytes b → complex_refusal limit b ≡ 0 → length b ≤ length slice →
    number_told (sweep_call limit b slice).answer ≡ 0

-- 01, "Every other slice that a call writes is untouched by a refusal"
abbrev pub SweepLeft : Type 0
SweepLeft = (limit : ℕ) (b slice : List ℕ) → number_told (sweep_call limit b slice).answer ≢ 0 → (sweep_call limit b slice).output ≡ slice

-- what is written is accepted, and its cells are those of the sheet less the loose nodes
abbrev pub SweepSheet : Type 0
SweepSheet =
    (limit : ℕ) (b slice : List ℕ) → limit ≤ library_limit → Bytes b → (n : ℕ) → (sweep_call limit b slice).answer ≡ done n →
    SweptSheet limit b slice (sweep_call limit b slice).output n

-- the same told from the answer 0 alone, as the calls for C have it: the header of the sheet gives its length
abbrev pub HostSweepSheet : Type 0
HostSweepSheet =
    (limit : ℕ) (b slice : List ℕ) → limit ≤ library_limit → Bytes b → number_told (sweep_call limit b slice).answer ≡ 0 →
    SweptSheet limit b slice (sweep_call limit b slice).output (header_gives (sweep_call limit b slice).output)

-- "Sheets with no edges keep their acceptance": they are told what 1 to 7 tell
abbrev pub EdgelessSheets : Type 0
EdgelessSheets = (limit : ℕ) (b : List ℕ) → count (sections_of b) 1 ≡ 0 → refusal limit b ≡ complex_refusal limit b

-- "written unchanged": an accepted sheet, and by `EdgelessSheets` one without edges
abbrev pub SweepUnchanged : Type 0
SweepUnchanged =
    (limit : ℕ) → limit ≤ library_limit → (b slice : List ℕ) → Bytes b → refusal limit b ≡ 0 → length b ≤ length slice →
    sweep_call limit b slice ≡ record { answer = done (length b); output = b ++ drop (length b) slice }

-- .. and what the sweep wrote
abbrev pub SweepTwice : Type 0
SweepTwice =
    (limit : ℕ) → limit ≤ library_limit → (b slice slice' : List ℕ) → Bytes b → (n : ℕ) → (sweep_call limit b slice).answer ≡ done n → n ≤ length slice' →
    sweep_call limit (take n (sweep_call limit b slice).output) slice'
    ≡ record { answer = done n; output = take n (sweep_call limit b slice).output ++ drop n slice' }
