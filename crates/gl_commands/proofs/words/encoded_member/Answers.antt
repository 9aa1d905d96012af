use Rattle.std.proofs.Common.{rules}
use Rattle.gl_commands.proofs.WordLemmas.{encoded_too_much}
use Rattle.gl_commands.proofs.words.encoded_member.Goals as goal

pub returns-in-Err-clause-refused : goal.returns-in-Err-clause-refused
returns-in-Err-clause-refused c = encoded_too_much c.args.word.now c.parse.result c.in-Err.field-0 (search rules) c.parse.ensures.value.0 c.in-Err.is
