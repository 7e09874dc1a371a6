-- The claims on words.
use Rattle.complexes.proofs.PackedLaws.{packed-fits, packed-precedes, packed-injective}
use Rattle.demands.specs.Words.{WordFits, WordsOrdered, WordsShared}

pub word_fits : WordFits
word_fits = packed-fits

pub words_ordered : WordsOrdered
words_ordered = packed-precedes

pub words_shared : WordsShared
words_shared = packed-injective
