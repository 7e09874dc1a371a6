-- Uses of the claims on words: the greatest cell, and two edges.
use mathlib.Core.Path.{◌≡◌, refl}
use mathlib.Core.Bool.{true}
use mathlib.Core.List.{[], ◌∷◌}
use Prim.Native.Nat.{◌<◌, ◌^◌}
use native.Mathlib.Omega.{arith}
use lib.Dec.{ltb→lt}
use Rattle.lists.specs.Same.{every}
use Rattle.complexes.specs.Cell.{Cell, precedes}
use Rattle.complexes.specs.Complex.{vertex_bound}
use Rattle.complexes.specs.Packed.{packed, Numbered}
use Rattle.demands.specs.Words.{WordFits, WordsOrdered, WordsShared}
use Rattle.demands.proofs.Hollow.{numbers-below}

abbrev greatest : Cell
greatest = 65535 ∷ 65535 ∷ 65535 ∷ 65535 ∷ []

-- two edges, in order
abbrev early : Cell
early = 0 ∷ 65535 ∷ []

abbrev late : Cell
late = 1 ∷ 2 ∷ []

greatest-numbered : Numbered greatest
unfolding every
greatest-numbered = record { at = λ j l. numbers-below vertex_bound (omega arith) greatest tt j }

early-numbered : Numbered early
unfolding every
early-numbered = record { at = λ j l. numbers-below vertex_bound (omega arith) early tt j }

late-numbered : Numbered late
unfolding every
late-numbered = record { at = λ j l. numbers-below vertex_bound (omega arith) late tt j }

fits : WordFits → packed greatest < 2 ^ 64
fits word_fits = word_fits greatest greatest-numbered (omega arith)

precede : WordsOrdered → precedes early late ≡ true
unfolding packed
precede words_ordered = (words_ordered early late early-numbered late-numbered refl).1 (ltb→lt (packed early) (packed late) tt)

lesser : WordsOrdered → packed early < packed late
unfolding precedes
lesser words_ordered = (words_ordered early late early-numbered late-numbered refl).0 refl

shared : WordsShared → packed early ≡ packed late → early ≡ late
shared words_shared = words_shared early late early-numbered late-numbered refl
