-- Signed machine words. A machine operation reads a number z back from its bits, `read w z`, which is z where the word holds it. `Read`: what a word
-- holds, and reading it. `Negate`, `Product`, `Sum`, `Division`: what the operations of the code compute. `Tests`: the tests of a limit.
pub mod Read
pub mod Negate
