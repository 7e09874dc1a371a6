-- What a writer of text leaves.
use Rattle.std.specs.Prelude.{◌≡◌, List, ℕ, ◌+◌, ◌≤◌, length}
use Rattle.lists.specs.Splice.{splice}
use Rattle.text.specs.declared.writer.Writer.{Writer}

-- the text stands from place `at` on, r is the place after it, and nothing else has changed
pub record Puts (text : List ℕ) (at : ℕ) (out : List ℕ) (r : ℕ) (out' : List ℕ) : Type 0 where
  pub next : r ≡ at + length text
  pub is : out' ≡ splice at text out

-- and it takes at most `room` bytes
pub record PutsWithin (room : ℕ) (text : List ℕ) (at : ℕ) (out : List ℕ) (r : ℕ) (out' : List ℕ) : Type 0 where
  pub puts : Puts text at out r out'
  pub fits : length text ≤ room

-- the writer has put the text behind what it had put before, into the same slice, in at most `room` bytes
pub record Writes (room : ℕ) (text : List ℕ) (before after : Writer) : Type 0 where
  pub same_reference : after.out.ghost_name ≡ before.out.ghost_name
  pub puts : PutsWithin room text before.at before.out.now after.at after.out.now
