-- Why a genesis is refused.
use Rattle.std.proofs.Common.{◌≡◌, ◌+◌, ◌||◌, ◌==◌, Bool, true, false, not, nat_lt, List, length, Option, None, Some, sym, ◌∙◌, ap₂, subst}
use Rattle.gl_requests.specs.declared.genesis.NewNode.{NewNode}
use Rattle.gl_requests.specs.declared.genesis.Genesis as founding
use Rattle.gl_requests.specs.declared.request.GovernanceRequest.TheVariants as requests
use Rattle.gl_gov_rules.specs.History.{History, no_history}
use Rattle.gl_gov_rules.specs.Actions.{◌orelse◌, where_is}
use Rattle.gl_gov_rules.specs.Nodes.{nodes}
use Rattle.gl_gov_rules.specs.Refusals.{are_endorsed, are_ids_distinct, are_keys_distinct, are_numbers_distinct, founding_fault, genesis_refusal, is_any_recorded, is_dealing_to, members_refusal, nodes_refusal, refusal}
use Rattle.gl_gov_rules.specs.declared.refusal.Cause.{Cause}
use Rattle.gl_gov_rules.specs.declared.refusal.Cause.TheVariants as causes
use Rattle.gl_gov_rules.specs.declared.refusal.GovernanceRefusal.{GovernanceRefusal}
use Rattle.gl_gov_rules.specs.declared.refusal.GovernanceRefusal.TheVariants as refusals
use Rattle.gl_consortium.specs.Faults.{IsOfFounding}

abbrev AnyOfFounding : Option GovernanceRefusal → Type 0
AnyOfFounding None = Unit {0}
AnyOfFounding (Some why) = IsOfFounding why

either : (first after : Option GovernanceRefusal) → AnyOfFounding first → AnyOfFounding after → AnyOfFounding (first orelse after)
either None after a b = b
either (Some why) after a b = a

for_cause : (bad : Bool) (cause : Cause) → AnyOfFounding (where_is bad (founding_fault cause))
for_cause true cause = tt
for_cause false cause = tt

for_signature : (bad : Bool) → AnyOfFounding (where_is bad refusals.Signature)
for_signature true = tt
for_signature false = tt

members_so : (g : founding.Genesis) → AnyOfFounding (members_refusal g)
unfolding members_refusal
members_so g =
    let numbers = not (are_numbers_distinct g.members) in
    let keys = not (are_keys_distinct g.members) in
    let many = nat_lt 64 (length g.members) in
    let dealt = not (is_dealing_to g.members g.dealing) in
    either (where_is numbers (founding_fault causes.NumberUsed) orelse where_is keys (founding_fault causes.KeyUsed) orelse where_is many (founding_fault causes.Full)) (where_is dealt (founding_fault causes.Dealing))
    (either (where_is numbers (founding_fault causes.NumberUsed) orelse where_is keys (founding_fault causes.KeyUsed)) (where_is many (founding_fault causes.Full))
    (either (where_is numbers (founding_fault causes.NumberUsed)) (where_is keys (founding_fault causes.KeyUsed)) (for_cause numbers causes.NumberUsed) (for_cause keys causes.KeyUsed))
    (for_cause many causes.Full))
    (for_cause dealt causes.Dealing)

nodes_so : (h : History) (ns : List NewNode) → AnyOfFounding (nodes_refusal h ns)
unfolding nodes_refusal
nodes_so h ns =
    let twice = not (are_ids_distinct ns) || is_any_recorded h ns in
    let many = nat_lt 32 (length ns) || nat_lt 65535 (length (nodes h) + length ns) in
    let none = length ns == 0 in
    either (where_is twice (founding_fault causes.NodeStatus) orelse where_is many (founding_fault causes.Full)) (where_is none (founding_fault causes.LastTrusted))
    (either (where_is twice (founding_fault causes.NodeStatus)) (where_is many (founding_fault causes.Full)) (for_cause twice causes.NodeStatus) (for_cause many causes.Full))
    (for_cause none causes.LastTrusted)

genesis_so : (h : History) (g : founding.Genesis) → AnyOfFounding (genesis_refusal h g)
unfolding genesis_refusal
genesis_so h g =
    let unsigned = not (are_endorsed g.identity g.nodes) in
    either (members_refusal g orelse nodes_refusal h g.nodes) (where_is unsigned refusals.Signature)
    (either (members_refusal g) (nodes_refusal h g.nodes) (members_so g) (nodes_so h g.nodes)) (for_signature unsigned)

-- a genesis is refused for an action or for a signature alone
pub refused_so : (h : History) (g : founding.Genesis) (why : GovernanceRefusal) → genesis_refusal h g ≡ Some why → IsOfFounding why
refused_so h g why is = subst AnyOfFounding is (genesis_so h g)

-- what is answered to the question whether a genesis is refused after no request
pub answered : (h : History) (copied g : founding.Genesis) (why : Option GovernanceRefusal) → h ≡ no_history → copied ≡ g → why ≡ refusal h 1 (requests.Genesis copied) → genesis_refusal no_history g ≡ why
unfolding refusal
answered h copied g why none same is = sym (ap₂ genesis_refusal none same) ∙ sym is
