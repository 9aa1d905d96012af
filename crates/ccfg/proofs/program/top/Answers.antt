use Rattle.gl_schedule.proofs.HeadlineLemmas.{keeps_headline, prints_moments}
use Rattle.ccfg.proofs.program.top.Goals as goal

pub returns-clause-headline : goal.returns-clause-headline
returns-clause-headline g c given = keeps_headline given

pub returns-clause-moments : goal.returns-clause-moments
returns-clause-moments g c given = prints_moments given

pub returns-clause-words : goal.returns-clause-words
returns-clause-words g c kinds is = (c.run-ending.result.0, c.status.ensures, c.run-ending.ensures.words kinds is)

pub returns-clause-command : goal.returns-clause-command
returns-clause-command g c command asks = (c.run-ending.result.0, c.status.ensures, c.run-ending.ensures.command command asks)
