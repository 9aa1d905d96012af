use Rattle.gl_serve.proofs.KeptStreams.{payloads_deaf}
use Rattle.gl_serve.proofs.Whole.{whole_streams}
use Rattle.gl_serve.proofs.service.law_of_whole_streams.Goals as goal

pub returns-clause-whole : goal.returns-clause-whole
returns-clause-whole c = λ peers came conn. whole_streams peers came conn

pub returns-clause-deaf : goal.returns-clause-deaf
returns-clause-deaf c = λ bytes more len is. payloads_deaf bytes more len is
