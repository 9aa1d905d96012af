use Rattle.gl_world.proofs.Leading.{leader_evident, leader_executes, leader_governs, leader_signs}
use Rattle.gl_world.proofs.service_laws.a_service_is_unguarded.Goals as goal

pub returns : goal.returns
returns c = record {
  executes = λ layers keys s h events x leads request. leader_executes layers keys s h events x leads request;
  governs = λ layers keys s h events x leads request. leader_governs layers keys s h events x leads request;
  signs = λ layers keys s h events x leads leaf valid. leader_signs layers keys s h events x leads leaf valid;
  evident = λ layers keys s h events x leads. leader_evident layers keys s h events x leads;
}
