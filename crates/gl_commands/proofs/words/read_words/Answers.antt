use Rattle.gl_commands.proofs.WordLemmas.{command_found, command_refused}
use Rattle.gl_commands.proofs.words.read_words.Goals as goal

pub returns-clause-found : goal.returns-clause-found
returns-clause-found c =
    let found = c.in_ok-matches.ensures.found in
    command_found _ _ c.asked_command.result found.0 found.1 c.asked_command.ensures.found

pub returns-clause-refused : goal.returns-clause-refused
returns-clause-refused c =
    let found = c.in_ok-matches.ensures.found in
    command_refused _ _ c.asked_command.result found.0 found.1 c.asked_command.ensures.refused
