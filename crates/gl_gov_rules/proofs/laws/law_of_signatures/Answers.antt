use Rattle.gl_gov_rules.proofs.Endorsements.{signature_means, endorsement_means, endorsed-length}
use Rattle.gl_gov_rules.proofs.laws.law_of_signatures.Goals as goal

pub returns : goal.returns
returns c = record {
  signed = λ key identity m long bytes given. signature_means key identity m long bytes given;
  endorsed = λ identity key endorsement long bytes given. endorsement_means identity key endorsement long bytes given;
  endorsement_length = λ identity key endorsement taken. endorsed-length identity key endorsement taken;
}
