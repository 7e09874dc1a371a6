-- `closes` meets its contract: the line is compared with and without its carriage return.
use Rattle.std.proofs.Common.{rules, ◌≡◌}
use mathlib.Core.Path.{◌∙◌}
use Rattle.mesh_format.specs.Words.{ending}
use Rattle.mesh_format.specs.Parse.{same_word}
use Rattle.mesh_reader.proofs.Closing.{by-cases, line-returned, line-other}
use Rattle.mesh_reader.proofs.section.closes.Goals as goal

pub returns-else-is_ending : goal.returns-else-is_ending
returns-else-is_ending c =
    let other = c.if-is_ending.ensures in
    by-cases c.strip_suffix.result _ _ c.is_some_and.ensures c.strip_suffix.ensures.cases
    (λ f e. f ∙ line-other c.args.line.now (ending c.args.name.now) other e)
    (λ word p h.
    let told : c.is_some_and.result ≡ same_word word.now (ending c.args.name.now) = search rules in
    told ∙ line-returned c.args.line.now (ending c.args.name.now) other h.0 h.1)
