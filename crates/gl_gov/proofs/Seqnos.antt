-- The seqno of a change, where there is one.
use Rattle.std.proofs.Common.{◌≡◌, ℕ, Option, None, Some, option_map, refl}
use Rattle.std.proofs.lemmas.Option.{same_Some}
use Rattle.gl_gov_rules.specs.declared.change.Changed.{Changed}
use Rattle.gl_gov_rules.specs.History.{seqno_of}

pub no_seqno : (o : Option Changed) → option_map (λ (c : Changed). c.seqno) o ≡ None → seqno_of o ≡ 0
no_seqno None e = refl
no_seqno (Some c) e = absurd cc

pub some_seqno : (o : Option Changed) (n : ℕ) → option_map (λ (c : Changed). c.seqno) o ≡ Some n → seqno_of o ≡ n
some_seqno None n e = absurd cc
some_seqno (Some c) n e = same_Some c.seqno n e
