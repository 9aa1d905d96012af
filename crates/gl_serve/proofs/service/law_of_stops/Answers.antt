use Rattle.gl_serve.proofs.Stopping.{serve_stopped}
use Rattle.gl_serve.proofs.service.law_of_stops.Goals as goal

pub returns : goal.returns
returns g c = λ honest settings first last before after ahead left s.
    serve_stopped g.N.ServedNode.rules settings honest first last before after ahead left s
