use Rattle.gl_messages.proofs.StreamLaws.{first_whole, first_none, nothing_left, grows, framed_back, one_frame}
use Rattle.gl_messages.proofs.framing.law_of_streams.Goals as goal

pub returns-clause-first : goal.returns-clause-first
returns-clause-first c = first_whole

pub returns-clause-none : goal.returns-clause-none
returns-clause-none c = first_none

pub returns-clause-last : goal.returns-clause-last
returns-clause-last c = nothing_left

pub returns-clause-grows : goal.returns-clause-grows
returns-clause-grows c = grows

pub returns-clause-back : goal.returns-clause-back
returns-clause-back c = framed_back

pub returns-clause-one : goal.returns-clause-one
returns-clause-one c = one_frame
