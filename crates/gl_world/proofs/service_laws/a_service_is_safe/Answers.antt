use Rattle.gl_world.proofs.Safe.{begins_retiring, begins_safe}
use Rattle.gl_world.proofs.Unrecovered.{stays_unrecovered}
use Rattle.gl_world.proofs.service_laws.a_service_is_safe.Goals as goal

pub returns : goal.returns
returns c = record {
  safe = λ layers keys s h events. begins_safe layers keys s h events;
  retirement = λ layers keys s h events. begins_retiring layers keys s h events;
  unrecovered = λ layers keys s h events x. stays_unrecovered layers keys s h events x;
}
