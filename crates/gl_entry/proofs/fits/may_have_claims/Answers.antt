use Rattle.std.proofs.Common.{rules}
use Rattle.gl_entry.proofs.Fitting.{is_digest-from}
use Rattle.gl_entry.proofs.fits.may_have_claims.Goals as goal

pub returns-then-may_claim-clause-digest : goal.returns-then-may_claim-clause-digest
returns-then-may_claim-clause-digest c = is_digest-from c.args.claims.now (search rules) (λ i. search rules)

pub returns-else-may_claim-clause-digest : goal.returns-else-may_claim-clause-digest
returns-else-may_claim-clause-digest c = is_digest-from c.args.claims.now (search rules) (λ i. search rules)
