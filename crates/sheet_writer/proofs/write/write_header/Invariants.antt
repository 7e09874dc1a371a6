-- `write_header` meets its contract. The loop's invariant: the entries of the first p dimensions are written.
use mathlib.Core.Path.{◌≡◌}
use mathlib.Core.List.{List}
use Prim.Native.Nat.{ℕ}
use lib.ListN.{length}
use Rattle.lists.specs.Splice.{splice}
use Rattle.sheet_format.specs.Layout.{header_bytes}
use Rattle.sheet_writer.specs.Write.{count_of}
use Rattle.sheet_writer.proofs.write.write_header.Given as goal

pub record Invariant (n : ℕ → ℕ) (sheet₀ sheet : List ℕ) (p : ℕ) : Type 0 where
  pub long : length sheet ≡ length sheet₀
  pub is : sheet ≡ splice 0 (header_bytes n 0 p) sheet₀

abbrev pub invariant-loop-p : goal.invariant-loop-p
invariant-loop-p l = Invariant (count_of l.counts) l.initial.sheet l.sheet l.p
