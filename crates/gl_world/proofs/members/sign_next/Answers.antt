use Rattle.gl_world.proofs.members.sign_next.Goals as goal

pub returns-clause-signer : goal.returns-clause-signer
returns-clause-signer c = c.spend.ensures.signer c.args.settings.now c.args.number c.in_ok-make_ready.ensures.signer
