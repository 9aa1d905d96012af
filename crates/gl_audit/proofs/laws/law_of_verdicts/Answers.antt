use Rattle.gl_audit.proofs.Verdicts.{faulty_where, foreign_where, sound, valid_where}
use Rattle.gl_audit.proofs.laws.law_of_verdicts.Goals as goal

pub returns-clause-valid : goal.returns-clause-valid
returns-clause-valid c = valid_where

pub returns-clause-foreign : goal.returns-clause-foreign
returns-clause-foreign c = foreign_where

pub returns-clause-fault : goal.returns-clause-fault
returns-clause-fault c = faulty_where

pub returns-clause-sound : goal.returns-clause-sound
returns-clause-sound c = sound
