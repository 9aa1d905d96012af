use Rattle.std.proofs.Common.{◌+◌, length, subst}
use Rattle.gl_base.specs.declared.or_no_memory.OrNoMemory.{OrNoMemory}
use Rattle.gl_requests.specs.declared.request.GovernanceRequest.TheVariants as requests
use Rattle.gl_gov_rules.specs.Changes.{history}
use Rattle.gl_gov_rules.specs.Refusals.{refusal}
use Rattle.gl_gov_rules.specs.declared.refusal.GovernanceRefusal.{GovernanceRefusal}
use Rattle.gl_audit.specs.GovState.{Refuses}
use Rattle.gl_ledger.specs.Recordings.{requests_of}
use Rattle.gl_store.proofs.Unbroken.{genesis_fits, genesis_accepted}
use Rattle.gl_store.proofs.store.Store.genesis_entry.Goals as goal

pub returns-in-Ok-clause-fits : goal.returns-in-Ok-clause-fits
returns-in-Ok-clause-fits c = genesis_fits c.args.genesis c.args.self.now.ledger c.in-Ok.entry c.requires.accepted c.requires.fits c.requires.first c.in-Ok.ensures.made

pub unreachable-requires : goal.unreachable-requires
unreachable-requires c =
    let ledger = c.args.self.now.ledger in
    genesis_accepted c.args.genesis ledger c.in-Err-Fault.field-0-0 c.requires.accepted c.requires.first
    (subst (λ (e : OrNoMemory GovernanceRefusal). Refuses (refusal (history (requests_of ledger)) (length ledger + 1) (requests.Genesis c.args.genesis)) e) c.in-Err-Fault.field-0-is c.in-Err-Fault.ensures.refused)
