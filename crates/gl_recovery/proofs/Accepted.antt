-- A recovery that is accepted, and why one is refused.
use Rattle.std.proofs.Common.{◌≡◌, ℕ, ◌+◌, ◌≤◌, ◌||◌, ◌==◌, nat_lt, List, [], ◌∷◌, length, Bool, true, false, not, Option, None, Some, Result, Ok, Err, if◌then◌else◌, subst, arith}
use Rattle.std.specs.List.{list_all}
use Rattle.std.proofs.lemmas.Bool.{and_parts}
use Rattle.std.proofs.lemmas.Bool.Decides.{nat_tests}
use Rattle.gl_entry.specs.Entry.{body_bytes, body_limit}
use Rattle.gl_entry.specs.declared.entry.Entry.{Entry}
use Rattle.gl_requests.specs.declared.genesis.NewNode.{NewNode}
use Rattle.gl_requests.specs.declared.genesis.Recovery.{Recovery}
use Rattle.gl_requests.specs.declared.request.GovernanceRequest.TheVariants as requests
use Rattle.gl_gov_rules.specs.Actions.{◌orelse◌, where_is}
use Rattle.gl_gov_rules.specs.Changes.{history}
use Rattle.gl_gov_rules.specs.History.{History}
use Rattle.gl_gov_rules.specs.Nodes.{nodes}
use Rattle.gl_gov_rules.specs.Refusals.{are_endorsed, are_ids_distinct, founding_fault, is_any_recorded, nodes_refusal, recovery_refusal, refusal}
use Rattle.gl_gov_rules.specs.Signatures.{is_endorsed}
use Rattle.gl_gov_rules.specs.declared.refusal.Cause.{Cause}
use Rattle.gl_gov_rules.specs.declared.refusal.Cause.TheVariants as causes
use Rattle.gl_gov_rules.specs.declared.refusal.GovernanceRefusal.{GovernanceRefusal}
use Rattle.gl_gov_rules.specs.declared.refusal.GovernanceRefusal.TheVariants as governance
use Rattle.gl_gov_rules.proofs.Endorsements.{endorsed-length}
use Rattle.gl_gov_rules.proofs.NoneStands.{none_of, not_bad, not_denied}
use Rattle.gl_ledger.specs.Recordings.{requests_of}
use Rattle.gl_ledger.specs.Recovery.{recovery_entry, recovery_result, where_accepted}
use Rattle.gl_ledger.specs.declared.refusal.Refusal.{Refusal}
use Rattle.gl_ledger.specs.declared.refusal.Refusal.TheVariants as refusals
use Rattle.gl_ledger.proofs.RecoveryLaws.{recovery_made}
use Rattle.gl_recovery.specs.ExpectedOutput.{first_endorsement, unless_refused}
use Rattle.gl_recovery.specs.Refounded.{IsOfRecovery}

-- ---- what is made

-- what a recovery makes is its entry
pub made_entry : (r : Recovery) (ledger : List Entry) (e : Entry) → recovery_result r ledger ≡ Ok e → e ≡ recovery_entry r ledger
made_entry r ledger e is = go (refusal (history (requests_of ledger)) (length ledger + 1) (requests.Recover r)) (nat_lt body_limit (length (body_bytes (recovery_entry r ledger)))) is
  where
    go : (o : Option GovernanceRefusal) (large : Bool) →
        where_accepted o (if large then Err (refusals.TooLarge (length (body_bytes (recovery_entry r ledger)))) else Ok (recovery_entry r ledger)) ≡ Ok e → e ≡ recovery_entry r ledger
    go (Some why) large is = absurd cc
    go None true is = absurd cc
    go None false is = cc

pub made_of : (made : Result Entry Refusal) (e : Entry) → unless_refused made ≡ Ok e → made ≡ Ok e
made_of (Ok f) e is = cc
made_of (Err why) e is = absurd cc

-- ---- what was passed

pub record IsAcceptable (r : Recovery) : Type 0 where
  pub some : 1 ≤ length r.nodes
  pub endorsed : are_endorsed r.identity r.nodes ≡ true

parts : (h : History) (r : Recovery) → recovery_refusal h r ≡ None → IsAcceptable r
unfolding recovery_refusal nodes_refusal
parts h r none =
    let ns = r.nodes in
    let twice = where_is (not (are_ids_distinct ns) || is_any_recorded h ns) (founding_fault causes.NodeStatus) in
    let many = where_is (nat_lt 32 (length ns) || nat_lt 65535 (length (nodes h) + length ns)) (founding_fault causes.Full) in
    let unsigned = not (are_endorsed r.identity ns) in
    let both = none_of (twice orelse many orelse where_is (length ns == 0) (founding_fault causes.LastTrusted)) (where_is unsigned governance.Signature) none in
    let named = none_of (twice orelse many) (where_is (length ns == 0) (founding_fault causes.LastTrusted)) both.0 in
    let some = not_bad (length ns == 0) (founding_fault causes.LastTrusted) named.1 in
    record { some = grind (arith, nat_tests, some); endorsed = not_denied (are_endorsed r.identity ns) (not_bad unsigned governance.Signature both.1) }

-- an accepted recovery has a node, and its key endorses each
pub acceptable : (r : Recovery) (ledger : List Entry) → recovery_result r ledger ≡ Ok (recovery_entry r ledger) → IsAcceptable r
unfolding refusal
acceptable r ledger accepted = parts (history (requests_of ledger)) r (recovery_made r ledger accepted).0

pub first_endorsed : (key : List ℕ) (n : NewNode) (ns : List NewNode) → are_endorsed key (n ∷ ns) ≡ true → is_endorsed key n.key n.endorsement ≡ true
unfolding are_endorsed
first_endorsed key n ns all = (and_parts (is_endorsed key n.key n.endorsement) (list_all (λ (m : NewNode). is_endorsed key m.key m.endorsement) ns) all).0

-- so the endorsement of the first one is short
pub first_short : (r : Recovery) → IsAcceptable r → length (first_endorsement r.nodes) ≤ 2508
first_short r a = go r.nodes a.endorsed
  where
    go : (ns : List NewNode) → are_endorsed r.identity ns ≡ true → length (first_endorsement ns) ≤ 2508
    go [] all = omega arith
    go (n ∷ ns) all = endorsed-length r.identity n.key n.endorsement (first_endorsed r.identity n ns all)

-- ---- why one is refused

abbrev AnyOfRecovery : Option GovernanceRefusal → Type 0
AnyOfRecovery None = Unit {0}
AnyOfRecovery (Some why) = IsOfRecovery (refusals.Governance why)

either : (first after : Option GovernanceRefusal) → AnyOfRecovery first → AnyOfRecovery after → AnyOfRecovery (first orelse after)
either None after a b = b
either (Some why) after a b = a

for_cause : (bad : Bool) (cause : Cause) → AnyOfRecovery (where_is bad (founding_fault cause))
for_cause true cause = tt
for_cause false cause = tt

for_signature : (bad : Bool) → AnyOfRecovery (where_is bad governance.Signature)
for_signature true = tt
for_signature false = tt

refused_any : (h : History) (r : Recovery) → AnyOfRecovery (recovery_refusal h r)
unfolding recovery_refusal nodes_refusal
refused_any h r =
    let ns = r.nodes in
    let a = not (are_ids_distinct ns) || is_any_recorded h ns in
    let b = nat_lt 32 (length ns) || nat_lt 65535 (length (nodes h) + length ns) in
    let c = length ns == 0 in
    let d = not (are_endorsed r.identity ns) in
    let twice = where_is a (founding_fault causes.NodeStatus) in
    let many = where_is b (founding_fault causes.Full) in
    let none = where_is c (founding_fault causes.LastTrusted) in
    either (twice orelse many orelse none) (where_is d governance.Signature)
    (either (twice orelse many) none (either twice many (for_cause a causes.NodeStatus) (for_cause b causes.Full)) (for_cause c causes.LastTrusted)) (for_signature d)

-- for its nodes, for an endorsement or for its size, and for nothing else
pub refused_so : (r : Recovery) (ledger : List Entry) (why : Refusal) → recovery_result r ledger ≡ Err why → IsOfRecovery why
unfolding refusal
refused_so r ledger why is =
    go (recovery_refusal (history (requests_of ledger)) r) (nat_lt body_limit (length (body_bytes (recovery_entry r ledger)))) (refused_any (history (requests_of ledger)) r) is
  where
    go : (o : Option GovernanceRefusal) (large : Bool) → AnyOfRecovery o →
        where_accepted o (if large then Err (refusals.TooLarge (length (body_bytes (recovery_entry r ledger)))) else Ok (recovery_entry r ledger)) ≡ Err why → IsOfRecovery why
    go (Some other) large any is = let same : refusals.Governance other ≡ why = cc in subst IsOfRecovery same any
    go None true any is = let same : refusals.TooLarge (length (body_bytes (recovery_entry r ledger))) ≡ why = cc in subst IsOfRecovery same tt
    go None false any is = absurd cc
