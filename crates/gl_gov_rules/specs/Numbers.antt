-- The numbers by which programs tell why an action can't be applied.
use Rattle.std.specs.Prelude.{ℕ}
use Rattle.gl_gov_rules.specs.declared.refusal.Cause.{Cause}
use Rattle.gl_gov_rules.specs.declared.refusal.Cause.TheVariants as causes

-- The number of a cause, from 1, in the order in which they are tried.
abbrev pub cause_number : Cause → ℕ
cause_number causes.NumberUsed = 1
cause_number causes.KeyUsed = 2
cause_number causes.NotPresent = 3
cause_number causes.TooFewHolders = 4
cause_number causes.NotRecorded = 5
cause_number causes.NodeStatus = 6
cause_number causes.LastTrusted = 7
cause_number causes.NotOpening = 8
cause_number causes.Fraction = 9
cause_number causes.Dealing = 10
cause_number causes.Full = 11
