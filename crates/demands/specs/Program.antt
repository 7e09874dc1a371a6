-- The program: document 01, "What the program prints". The contract of `print_input`, which the program calls between reading and writing, says that it puts
-- `program_text`; here is claimed what that is. That `main` reads the whole input and writes that text once is tested only: a program has no contract.
use Rattle.std.specs.Prelude.{◌≡◌, ◌↔◌, ◌≢◌, List, ℕ, ◌<◌, take}
use Rattle.limits.specs.Limits.{host_limit}
use Rattle.sheet_format.specs.Layout.{longest}
use Rattle.sheet_format.specs.Check.{refusal}
use Rattle.sheet_format.specs.Sheet.{Bytes}
use Rattle.program_text.specs.Text.{refusal_line, program_text}
use Rattle.answers.specs.Printed.{DimensionsPrinted}

-- 01, "A sheet refused by 1 to 7 gives the single line `R` and the number", and no other sheet does; 02, Note 7, "18 ..; the program prints it too"
abbrev pub ProgramRefuses : Type 0
ProgramRefuses = (b : List ℕ) (k : ℕ) → k ≢ 0 → (program_text b ≡ refusal_line k) ↔ (refusal host_limit b ≡ k)

-- 01, "Otherwise each dimension gives .."; "a dimension that goes too wide gives `R 13` instead": else the text of the report that a report call leaves,
-- which is right by `Reports`
abbrev pub ProgramPrints : Type 0
ProgramPrints = (b : List ℕ) → Bytes b → refusal host_limit b ≡ 0 → DimensionsPrinted b

-- 01, "It reads one sheet from standard input": input longer than any sheet that is accepted is settled by its first bytes
abbrev pub ProgramInput : Type 0
ProgramInput = (b : List ℕ) (n : ℕ) → longest host_limit < n → program_text (take n b) ≡ program_text b
