-- What a node answers that refuses an event is what the rules answer.
use Rattle.std.proofs.Common.{◌≡◌, Option, Some, None, option_map, refl}
use Rattle.gl_rules.specs.Outcome as rules
use Rattle.gl_replication.specs.Stands.{Answers}
use Rattle.gl_replication.specs.declared.done.Refusal.{Refusal}
use Rattle.gl_replication.specs.declared.done.Refusal.TheVariants as refusals
use Rattle.gl_ledger.specs.declared.response.Rejection.{Rejection}
use Rattle.gl_answers.specs.Reasons.{reason_of, seen_refusal}
use Rattle.gl_answers.specs.declared.value.Reason.{Reason}

-- the refusal of the rules that a node's is
pub seen_as : {S Q G R A F : Type 0} (why : Refusal S Q G R A F) (o : rules.Outcome A F) (r : rules.Refusal F) → seen_refusal why ≡ Some r → Answers why o → o ≡ rules.Refused r
seen_as refusals.NoMemory o r seen answers = absurd (cc)
seen_as (refusals.NotPrimary view leader) o r seen answers = cc
seen_as (refusals.TooManyPending limit) o r seen answers = cc
seen_as (refusals.NotReserved reserved) o r seen answers = cc
seen_as (refusals.KeyExhausted reserved) o r seen answers = cc
seen_as (refusals.NothingToSign seqno) o r seen answers = cc
seen_as (refusals.RemovalNotCommitted seqno commit) o r seen answers = cc
seen_as (refusals.BelowCommit commit seqno) o r seen answers = cc
seen_as refusals.NotPeer o r seen answers = cc
seen_as (refusals.BelowBase base) o r seen answers = cc
seen_as refusals.ViewLimit o r seen answers = cc
seen_as (refusals.NoLaterSignature commit) o r seen answers = cc
seen_as (refusals.ByLedger why) o r seen answers = cc

some_mapped : {A B : Type 0} (f : A → B) (x : Option A) (y : B) → Some y ≡ option_map f x → (a : A) × (y ≡ f a) × (x ≡ Some a)
some_mapped f None y is = absurd (cc)
some_mapped f (Some a) y is = (a, cc, refl)

-- where a node's refusal is reported for a reason, the rules refuse for that reason
pub refused_for : {S Q G R A : Type 0} (why : Refusal S Q G R A Rejection) (reason : Reason) (o : rules.Outcome A Rejection) → Some reason ≡ option_map reason_of (seen_refusal why) → Answers why o →
    (r : rules.Refusal Rejection) × (reason ≡ reason_of r) × (o ≡ rules.Refused r)
refused_for why reason o reported answers =
    let p = some_mapped reason_of (seen_refusal why) reason reported in
    (p.0, p.1, seen_as why o p.0 p.2 answers)
