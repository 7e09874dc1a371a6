-- The claims on the program.
use Rattle.program_text.proofs.TextLaws.{program_text-take}
use Rattle.answers.proofs.ProgramText.{dimensions-printed, refused-iff}
use Rattle.demands.specs.Program.{ProgramRefuses, ProgramPrints, ProgramInput}

pub program_refuses : ProgramRefuses
program_refuses = refused-iff

pub program_prints : ProgramPrints
program_prints = dimensions-printed

pub program_input : ProgramInput
program_input = program_text-take
