use Rattle.std.proofs.Common.{◌∙◌, ap, subst, Result, arith}
use Rattle.gl_base.specs.Answers.{Answers}
use Rattle.gl_snapshot_body.specs.declared.body.Body.{Body}
use Rattle.gl_snapshot_body.specs.declared.fault.ShapeFault.{ShapeFault}
use Rattle.gl_snapshot_body.specs.Parsing.{shape_of}
use Rattle.gl_snapshot_body.proofs.BodyLaws.{found, shape-read}
use Rattle.gl_snapshot_body.proofs.decode.read_body.Goals as goal

pub returns-clause-found : goal.returns-clause-found
returns-clause-found c = found c.read_shape.result c.args.at c.args.bytes.now (λ i. omega (arith, c.type_inv.bytes i)) c.read_shape.ensures

pub returns-clause-only : goal.returns-clause-only
returns-clause-only c b is encoded =
    subst (λ (reading : Result Body ShapeFault). Answers (λ body. body) c.read_shape.result reading)
    (ap (shape_of c.args.at) encoded ∙ shape-read c.args.at b is) c.read_shape.ensures
