-- What it means that an answer is right, for any complex: the owner's demands are stated in these words. Definitions: `Homology`, cycles,
-- boundaries and the group; `Right`, a report; `Wide`, the reduction goes too wide; `Outcome`, what a call answers and leaves; `Printed`, the
-- program's text. The other files prove it of what the two reductions of an accepted sheet, the calls and the program come to.
pub mod Homology
pub mod Right
pub mod Wide
pub mod Outcome
pub mod Printed
