use Rattle.std.proofs.Common.{rules, ◌∙◌}
use Rattle.gl_commands.proofs.WordLemmas.{number_parsed}
use Rattle.gl_commands.proofs.words.number_in.Goals as goal

pub returns : goal.returns
returns c = c.ok.ensures.value ∙ number_parsed c.args.word.now c.parse.result (search rules) c.parse.ensures.value.0
