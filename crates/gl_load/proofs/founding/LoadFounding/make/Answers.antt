use Rattle.std.proofs.Common.{◌≡◌, sym, subst}
use Rattle.gl_requests.specs.declared.genesis.Genesis as request
use Rattle.gl_ledger.specs.NodeKeys.{service_layers}
use Rattle.gl_ledger.specs.OpeningLedger.{Founds}
use Rattle.gl_world.specs.Group.{IsGroup}
use Rattle.gl_load.specs.Founding.{load_genesis, load_id, load_keys}
use Rattle.gl_load.proofs.Founded.{genesis_made, group, load_founds, node_made}
use Rattle.gl_load.proofs.founding.LoadFounding.make.Goals as goal

pub schedule_genesis-requires : goal.schedule_genesis-requires
schedule_genesis-requires c = subst IsGroup (sym c.settings-settings.ensures) (group c.args.seed.now)

pub returns-clause-founds : goal.returns-clause-founds
returns-clause-founds c =
    let seed = c.args.seed.now in
    let s = c.settings-settings.result in
    let node = node_made seed s c.settings-settings.ensures c.in_ok-service.service c.in_ok-key.key c.key_seed.result c.in_ok-node.node c.in_ok-service.ensures.private_key c.key_seed.ensures c.in_ok-key.ensures c.in_ok-node.ensures in
    let is : c.in_ok-genesis-2.genesis ≡ load_genesis seed = genesis_made seed s c.settings-settings.ensures c.in_ok-genesis.genesis c.in_ok-genesis-2.genesis c.in_ok-node.node c.in_ok-genesis.ensures node c.in_ok-genesis-2.ensures in
    subst (λ (g : request.Genesis). Founds service_layers (load_keys seed) g (load_id seed)) (sym is) (load_founds seed)
