use Rattle.std.proofs.Common.{rules}
use Rattle.gl_turn.proofs.Passes.{opens_with}
use Rattle.gl_turn.proofs.shared.Shared.new.Goals as goal

pub new-requires : goal.new-requires
new-requires g c =
    opens_with g.S.Stands.stands c.args.first c.of.result.value c.args.state c.in_ok-slots.slots.items (search rules) (search rules) (search rules) c.requires
