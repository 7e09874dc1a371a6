-- Tables of calls that write a sheet.
use Rattle.std.specs.Prelude.{Bool, false, ◌&&◌, List, ◌++◌, ℕ, eqb, drop, replicate}
use Rattle.lists.specs.Same.{same_list}
use Rattle.trials.specs.Trial.{Answer, done, refused}
use Rattle.trials.specs.Write.{WriteCalled}

-- the slice lent for the sheet: so many bytes, all 9
abbrev pub lent : ℕ → List ℕ
lent room = replicate room 9

-- a sheet or text that is read, the count limit, the bytes lent, and what is answered and left
pub record Case : Type 0 where
  pub read : List ℕ
  pub limit : ℕ
  pub room : ℕ
  pub called : WriteCalled

-- done with the sheet, of so many bytes
abbrev pub written : List ℕ → ℕ → ℕ → ℕ → List ℕ → Case
written read limit room n sheet =
    record { read = read; limit = limit; room = room; called = record { answer = done n; output = sheet ++ drop n (lent room) } }

abbrev pub told : List ℕ → ℕ → ℕ → ℕ → Case
told read limit room n = record { read = read; limit = limit; room = room; called = record { answer = refused n; output = lent room } }

unfoldable pub same_answer : Answer ℕ → Answer ℕ → Bool
same_answer (done m) (done n) = eqb m n
same_answer (done m) (refused n) = false
same_answer (refused m) (done n) = false
same_answer (refused m) (refused n) = eqb m n

-- the call, at a limit on what is read and a slice, answers and leaves what the case says
unfoldable pub good : (ℕ → List ℕ → List ℕ → WriteCalled) → Case → Bool
good call case =
    same_answer (call case.limit case.read (lent case.room)).answer case.called.answer
    && same_list eqb (call case.limit case.read (lent case.room)).output case.called.output
