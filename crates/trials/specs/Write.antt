-- A call that writes a sheet: document 02, Note 3, "A call that writes a sheet answers done with its length in bytes".
use Rattle.std.specs.Prelude.{List, ◌++◌, ℕ, zero, suc, length, drop}
use Rattle.trials.specs.Trial.{Answer, done, refused}

-- the answer, and the slice lent for the sheet as the call leaves it
pub record WriteCalled : Type 0 where
  pub answer : Answer ℕ
  pub output : List ℕ

-- refused with the number, unless it is 0: the slice is left alone. Else the bytes are written from its start on, and it is untouched past them.
unfoldable pub answer_with : ℕ → List ℕ → List ℕ → WriteCalled
answer_with zero bytes slice = record { answer = done (length bytes); output = bytes ++ drop (length bytes) slice }
answer_with (suc n) bytes slice = record { answer = refused (suc n); output = slice }
