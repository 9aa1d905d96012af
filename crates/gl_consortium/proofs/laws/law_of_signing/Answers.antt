use Rattle.gl_gov_rules.specs.History.{no_history}
use Rattle.gl_consortium.proofs.Foundings.{refused_so}
use Rattle.gl_consortium.proofs.Opened as openings
use Rattle.gl_consortium.proofs.Signed as signatures
use Rattle.gl_consortium.proofs.laws.law_of_signing.Goals as goal

pub returns : goal.returns
returns c = record {
  refusals = λ g why is. refused_so no_history g why is;
  endorsed = λ state text reported is. signatures.endorsed state text reported is;
  opens = λ state text reported is. openings.opens state text reported is;
  signed = λ identity number state text reported is. signatures.signed identity number state text reported is;
}
