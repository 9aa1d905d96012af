use Rattle.gl_audit.proofs.KeyBehind.{key_behind}
use Rattle.gl_audit.proofs.base_laws.law_of_key_behind.Goals as goal

pub returns : goal.returns
returns c = record { sized = key_behind }
