use Rattle.std.proofs.Common.{◌≡◌, true, sym, subst}
use Rattle.gl_requests.specs.Ranges.{is_genesis}
use Rattle.gl_requests.specs.declared.genesis.Genesis as request
use Rattle.gl_world.proofs.Acceptable.{group_fits}
use Rattle.gl_world.proofs.founding.Founding.make.Goals as goal

pub returns-clause-fits : goal.returns-clause-fits
returns-clause-fits c = subst (λ (g : request.Genesis). is_genesis g ≡ true) (sym c.in_ok-genesis.ensures) (group_fits c.args.settings.now c.requires.group)
