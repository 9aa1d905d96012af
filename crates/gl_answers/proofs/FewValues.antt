-- A refusal has four values at most.
use Rattle.std.proofs.Common.{◌≤◌, length, lit≤}
use Rattle.gl_gov_rules.specs.declared.refusal.GovernanceRefusal.{GovernanceRefusal}
use Rattle.gl_gov_rules.specs.declared.refusal.GovernanceRefusal.TheVariants as governance
use Rattle.gl_hss.specs.declared.fault.HssFault.TheVariants as signature
use Rattle.gl_ledger.specs.declared.breach.EntryRefusal.{EntryRefusal}
use Rattle.gl_ledger.specs.declared.breach.EntryRefusal.TheVariants as entry
use Rattle.gl_ledger.specs.declared.refusal.Refusal as store
use Rattle.gl_ledger.specs.declared.refusal.Refusal.TheVariants as ledger
use Rattle.gl_ledger.specs.declared.response.Rejection.{Rejection}
use Rattle.gl_ledger.specs.declared.response.Rejection.TheVariants.{ByStore, Unencodable, NoEntry, NotAfterSignature, Founding, ByRule}
use Rattle.gl_rules.specs.Outcome as rules
use Rattle.gl_answers.specs.Reasons.{entry_reason, governance_reason, most_values, reason_of, rejected_reason, store_reason}

few_of_governance : (why : GovernanceRefusal) → length (governance_reason why).values ≤ most_values
few_of_governance governance.NotMember = lit≤ tt
few_of_governance governance.NotActive = lit≤ tt
few_of_governance governance.Signature = lit≤ tt
few_of_governance (governance.LeafNotGreater last got) = lit≤ tt
few_of_governance governance.NoProposal = lit≤ tt
few_of_governance (governance.NotOpen state) = lit≤ tt
few_of_governance governance.HasBallot = lit≤ tt
few_of_governance governance.NotProposer = lit≤ tt
few_of_governance (governance.BadAction index cause) = lit≤ tt
few_of_governance (governance.NodeState status) = lit≤ tt
few_of_governance (governance.TooMany limit) = lit≤ tt
few_of_governance (governance.ServiceState state) = lit≤ tt
few_of_governance (governance.KnownProposal id) = lit≤ tt
few_of_governance (governance.WrongShare digest) = lit≤ tt
few_of_governance (governance.KnownShare member) = lit≤ tt
few_of_governance (governance.Secret want got) = lit≤ tt

few_of_store : (why : store.Refusal) → length (store_reason why).values ≤ most_values
few_of_store (ledger.ServiceState state) = lit≤ tt
few_of_store (ledger.Aborted abort) = lit≤ tt
few_of_store (ledger.TooLarge size) = lit≤ tt
few_of_store ledger.SeqnoLimit = lit≤ tt
few_of_store (ledger.Governance why) = few_of_governance why

few_of_entry : (why : EntryRefusal) → length (entry_reason why).values ≤ most_values
few_of_entry (entry.ServiceState state) = lit≤ tt
few_of_entry (entry.Aborted abort) = lit≤ tt
few_of_entry (entry.Governance why) = few_of_governance why
few_of_entry (entry.Replay seqno wanted found) = lit≤ tt
few_of_entry (entry.BadSignature seqno (signature.Types at)) = lit≤ tt
few_of_entry (entry.BadSignature seqno (signature.Length want got)) = lit≤ tt
few_of_entry (entry.BadSignature seqno (signature.Levels want got)) = lit≤ tt
few_of_entry (entry.BadSignature seqno (signature.Root want got)) = lit≤ tt
few_of_entry (entry.BadSignature seqno (signature.Leaf q)) = lit≤ tt

few_of_rejected : (why : Rejection) → length (rejected_reason why).values ≤ most_values
few_of_rejected (ByStore why) = few_of_store why
few_of_rejected Unencodable = lit≤ tt
few_of_rejected NoEntry = lit≤ tt
few_of_rejected NotAfterSignature = lit≤ tt
few_of_rejected Founding = lit≤ tt
few_of_rejected (ByRule broken) = few_of_entry broken.refusal

pub few_values : (why : rules.Refusal Rejection) → length (reason_of why).values ≤ most_values
few_values (rules.NotPrimary view leader) = lit≤ tt
few_values (rules.TooManyPending limit) = lit≤ tt
few_values (rules.NotReserved reserved) = lit≤ tt
few_values (rules.KeyExhausted reserved) = lit≤ tt
few_values (rules.NothingToSign seqno) = lit≤ tt
few_values (rules.RemovalNotCommitted place commit) = lit≤ tt
few_values (rules.BelowCommit commit cut) = lit≤ tt
few_values (rules.RolledBack before now) = lit≤ tt
few_values rules.NotPeer = lit≤ tt
few_values (rules.BelowBase base) = lit≤ tt
few_values rules.ViewLimit = lit≤ tt
few_values (rules.NoLaterSignature commit) = lit≤ tt
few_values (rules.ByLedger why) = few_of_rejected why
