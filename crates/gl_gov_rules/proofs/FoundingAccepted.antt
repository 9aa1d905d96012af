-- What a founding that isn't refused as the first request is known to be, and when none is refused.
use Rattle.std.proofs.Common.{◌≡◌, ℕ, ◌+◌, ◌≤◌, List, [], ◌∷◌, length, None, true, not, ◌||◌, ◌==◌, nat_lt, refl, arith}
use Rattle.std.specs.List.{list_all, AllByRecursion}
use Rattle.std.proofs.lemmas.Bool.{and_parts}
use Rattle.std.proofs.lemmas.Bool.Decides.{nat_tests}
use Rattle.gl_requests.specs.declared.genesis.NewNode.{NewNode}
use Rattle.gl_requests.specs.declared.genesis.Genesis as founding
use Rattle.gl_requests.specs.declared.request.GovernanceRequest.TheVariants as requests
use Rattle.gl_gov_rules.specs.declared.refusal.Cause.TheVariants as causes
use Rattle.gl_gov_rules.specs.declared.refusal.GovernanceRefusal.TheVariants as refusals
use Rattle.gl_gov_rules.specs.History.{History, no_history}
use Rattle.gl_gov_rules.specs.Signatures.{is_endorsed}
use Rattle.gl_gov_rules.specs.Nodes.{nodes}
use Rattle.gl_gov_rules.specs.Actions.{◌orelse◌, where_is}
use Rattle.gl_gov_rules.specs.Changes.{history}
use Rattle.gl_gov_rules.specs.Refusals.{are_numbers_distinct, are_keys_distinct, is_dealing_to, are_ids_distinct, is_any_recorded, founding_fault, members_refusal, nodes_refusal, are_endorsed, genesis_refusal, refusal}
use Rattle.gl_gov_rules.proofs.Endorsements.{endorsed-length}
use Rattle.gl_gov_rules.proofs.NoneStands.{none_of, not_bad, not_denied, neither}
use Rattle.gl_gov_rules.proofs.Prefixes.{history_of_none}

-- a genesis after no request is refused by the rules of foundings
pub refusal_of_genesis : (g : founding.Genesis) → refusal (history []) 1 (requests.Genesis g) ≡ genesis_refusal no_history g
unfolding refusal
refusal_of_genesis g = rw history_of_none refl

-- where nothing is wrong with the members, the nodes and the endorsements, it is accepted
pub accepts : (g : founding.Genesis) → members_refusal g ≡ None → nodes_refusal no_history g.nodes ≡ None → are_endorsed g.identity g.nodes ≡ true → genesis_refusal no_history g ≡ None
unfolding genesis_refusal
accepts g members nodes endorsed = rw (members, nodes, endorsed) refl

-- an accepted genesis has a node, at most 32 of them and at most 64 members, and its endorsements
-- are short
pub record AcceptedParts (g : founding.Genesis) : Type 0 where
  pub some_nodes : 1 ≤ length g.nodes
  pub few_nodes : length g.nodes ≤ 32
  pub few_members : length g.members ≤ 64
  pub short : AllByRecursion (λ (n : NewNode). length n.endorsement ≤ 2508) g.nodes

-- what was passed

pub record Passed (g : founding.Genesis) : Type 0 where
  pub members : members_refusal g ≡ None
  pub nodes : nodes_refusal no_history g.nodes ≡ None
  pub endorsed : are_endorsed g.identity g.nodes ≡ true

pub accepted_passes : (g : founding.Genesis) → genesis_refusal no_history g ≡ None → Passed g
unfolding genesis_refusal
accepted_passes g none =
    let signature = where_is (not (are_endorsed g.identity g.nodes)) refusals.Signature in
    let all = none_of (members_refusal g orelse nodes_refusal no_history g.nodes) signature none in
    let both = none_of (members_refusal g) (nodes_refusal no_history g.nodes) all.0 in
    record {
      members = both.0;
      nodes = both.1;
      endorsed = not_denied (are_endorsed g.identity g.nodes) (not_bad (not (are_endorsed g.identity g.nodes)) refusals.Signature all.1);
    }

most_members : (g : founding.Genesis) → members_refusal g ≡ None → length g.members ≤ 64
unfolding members_refusal
most_members g none =
    let distinct = where_is (not (are_numbers_distinct g.members)) (founding_fault causes.NumberUsed) orelse where_is (not (are_keys_distinct g.members)) (founding_fault causes.KeyUsed) in
    let full = where_is (nat_lt 64 (length g.members)) (founding_fault causes.Full) in
    let dealing = where_is (not (is_dealing_to g.members g.dealing)) (founding_fault causes.Dealing) in
    let few = not_bad (nat_lt 64 (length g.members)) (founding_fault causes.Full) (none_of distinct full (none_of (distinct orelse full) dealing none).0).1 in
    grind (arith, nat_tests)

most_nodes : (h : History) (ns : List NewNode) → nodes_refusal h ns ≡ None → (1 ≤ length ns) × (length ns ≤ 32)
unfolding nodes_refusal
most_nodes h ns none =
    let there = where_is (not (are_ids_distinct ns) || is_any_recorded h ns) (founding_fault causes.NodeStatus) in
    let full = where_is (nat_lt 32 (length ns) || nat_lt 65535 (length (nodes h) + length ns)) (founding_fault causes.Full) in
    let last = where_is (length ns == 0) (founding_fault causes.LastTrusted) in
    let all = none_of (there orelse full) last none in
    let room = not_bad (nat_lt 32 (length ns) || nat_lt 65535 (length (nodes h) + length ns)) (founding_fault causes.Full) (none_of there full all.0).1 in
    let few = (neither (nat_lt 32 (length ns)) (nat_lt 65535 (length (nodes h) + length ns)) room).0 in
    let some = not_bad (length ns == 0) (founding_fault causes.LastTrusted) all.1 in
    (grind (arith, nat_tests), grind (arith, nat_tests))

short_ones : (key : List ℕ) (ns : List NewNode) → are_endorsed key ns ≡ true → AllByRecursion (λ (n : NewNode). length n.endorsement ≤ 2508) ns
unfolding are_endorsed
short_ones key [] all = tt
short_ones key (n ∷ ns) all =
    let both = and_parts (is_endorsed key n.key n.endorsement) (list_all (λ (m : NewNode). is_endorsed key m.key m.endorsement) ns) all in
    (endorsed-length key n.key n.endorsement both.0, short_ones key ns both.1)

pub accepted_parts : (g : founding.Genesis) → genesis_refusal no_history g ≡ None → AcceptedParts g
accepted_parts g none =
    let passed = accepted_passes g none in
    let count = most_nodes no_history g.nodes passed.nodes in
    record {
      some_nodes = count.0;
      few_nodes = count.1;
      few_members = most_members g passed.members;
      short = short_ones g.identity g.nodes passed.endorsed;
    }
