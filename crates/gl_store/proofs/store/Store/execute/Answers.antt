use Rattle.gl_ledger.proofs.Applications.{request_ok}
use Rattle.gl_store.proofs.Unbroken.{execution_unbroken}
use Rattle.gl_store.proofs.store.Store.execute.Goals as goal

pub push-requires : goal.push-requires
push-requires c =
    let ledger = c.args.self.now.ledger in
    let made = request_ok ledger c.args.view c.args.request.now c.in_ok-entry.entry c.in_ok-entry.reply c.in_ok-entry.ensures.made in
    execution_unbroken ledger c.args.view c.args.request.now c.in_ok-entry.entry c.in_ok-entry.reply c.requires.some c.requires.opened c.requires.up_to made.0 made.1 c.in_ok-entry.ensures.fits
