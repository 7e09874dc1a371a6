-- A change made line by line: `up_to`, with what it is below line i and from line i on.
use mathlib.Core.Path.{◌≡◌}
use mathlib.Core.Bool.{cond}
use Prim.Native.Nat.{ℕ, ◌<◌, ◌≤◌}
use lib.Dec.{ltb}
use borrow.Author.Tests.{lt-ltb, le-ltb}
use Rattle.matrices.specs.Matrix as theory

-- A on the lines below i, B on the others
abbrev pub up_to : ℕ → theory.Matrix → theory.Matrix → theory.Matrix
up_to i A B a b = cond (ltb a i) (A a b) (B a b)

pub up_to-below : (i : ℕ) (A B : theory.Matrix) (a b : ℕ) → a < i → up_to i A B a b ≡ A a b
up_to-below i A B a b l = rw (lt-ltb a i l)

pub up_to-from : (i : ℕ) (A B : theory.Matrix) (a b : ℕ) → i ≤ a → up_to i A B a b ≡ B a b
up_to-from i A B a b l = rw (le-ltb a i l)
