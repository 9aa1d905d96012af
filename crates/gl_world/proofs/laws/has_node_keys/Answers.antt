use Rattle.gl_world.proofs.Groups.{group_has_key, group_endorsement}
use Rattle.gl_world.proofs.laws.has_node_keys.Goals as goal

pub returns : goal.returns
returns c = record {
  keys = λ s h x named. group_has_key s h x named;
  sizes = λ s h x named. group_endorsement s h x named;
}
