-- Cells compared as words: document 02, Note 2. No answer depends on it.
use Rattle.std.specs.Prelude.{◌≡◌, ◌↔◌, true, ◌^◌, ◌≤◌, ◌<◌, length}
use Rattle.complexes.specs.Cell.{Cell, precedes}
use Rattle.complexes.specs.Packed.{word_vertices, packed, Numbered}

-- 02, Note 2, "compare the vertices a word at a time, up to four packed in 64 bits": `packed` is the word of a list of vertex numbers. The contracts of
-- `pack` and `leave_out` say that the code makes it, of a cell of the sheet and of a face
abbrev pub WordFits : Type 0
WordFits = (c : Cell) → Numbered c → length c ≤ word_vertices → packed c < 2 ^ 64

-- "Of two such lists of one length, the one first in 01's order has the lesser word": and no other
abbrev pub WordsOrdered : Type 0
WordsOrdered = (c d : Cell) → Numbered c → Numbered d → length c ≡ length d → (precedes c d ≡ true) ↔ (packed c < packed d)

-- "and only equal lists share one"
abbrev pub WordsShared : Type 0
WordsShared = (c d : Cell) → Numbered c → Numbered d → length c ≡ length d → packed c ≡ packed d → c ≡ d
