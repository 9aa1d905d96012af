use Rattle.gl_world.proofs.Leading.{recorded, records}
use Rattle.gl_world.proofs.service_laws.a_leader_may_sign.Goals as goal

pub returns : goal.returns
returns c = record {
  recorded = λ layers keys s h events x leads. recorded layers keys s h events x leads;
  commit = λ layers keys s h events x leads. records layers keys s h events x leads;
}
