-- The genesis of a service of 1 to 9 nodes and 1 to 64 members fits its format and is accepted.
use Rattle.std.proofs.Common.{◌≡◌, ℕ, zero, suc, ◌+◌, ◌<◌, ◌≤◌, List, [], ◌∷◌, length, map, None, true, false, not, nat_lt, nat_le, is_ok, refl, ap, arith}
use Rattle.std.specs.List.{list_any}
use Rattle.std.specs.Prelude.{◌==◌}
use Rattle.std.proofs.lemmas.Bool.{and_parts, and_from}
use Rattle.std.proofs.lemmas.Bool.Decides.{nat_tests}
use Rattle.gl_base.specs.Bytes.{is_byte}
use Rattle.gl_requests.specs.Encoding.{node_id}
use Rattle.gl_requests.specs.Ranges.{is_node, is_member_number, is_member, is_share, is_dealing, is_genesis}
use Rattle.gl_requests.specs.declared.genesis.NewNode.{NewNode}
use Rattle.gl_requests.specs.declared.genesis.ShareDigest.{ShareDigest}
use Rattle.gl_gov_rules.specs.History.{no_history}
use Rattle.gl_gov_rules.specs.Members.{has_number}
use Rattle.gl_gov_rules.specs.Nodes.{nodes, node}
use Rattle.gl_gov_rules.specs.Signatures.{is_endorsed}
use Rattle.gl_gov_rules.specs.Actions.{is_below_all, is_ascending, is_dealing_in_order}
use Rattle.gl_gov_rules.specs.Refusals.{are_numbers_distinct, is_node_with, are_ids_distinct, is_any_recorded, are_held_by, is_dealing_to, members_refusal, nodes_refusal, are_endorsed, genesis_refusal}
use Rattle.gl_world.specs.declared.settings.Settings.{Settings}
use Rattle.gl_world.specs.Keys.{service_seed, node_seed, member_seed, recovery_secret}
use Rattle.gl_world.specs.Founding.{numbers_from, node_of, id_of, member_of, members_from, dealt_to, share_of, dealing_of, genesis_of}
use Rattle.gl_world.specs.Group.{IsGroup}
use Rattle.gl_world.proofs.Numbers.{all_made, none_made, among, any_fewer, not_true, length-made}
use Rattle.gl_gov_rules.proofs.Digests.{sha256_digest}
use Rattle.gl_gov_rules.proofs.FoundingAccepted.{accepts}
use Rattle.gl_world.proofs.Digests.{lms_key_sized, hss_key_sized}
use Rattle.gl_world.proofs.Endorsements.{IsEndorsable, endorsement_bytes, length-endorsement_of, endorsement_valid}

-- ---- what stands once

numbers_distinct : (s : Settings) (first count : ℕ) → are_numbers_distinct (members_from s first count) ≡ true
numbers_distinct s first zero = refl
numbers_distinct s first (suc count) =
    and_from (not (list_any (has_number first) (members_from s (suc first) count))) (are_numbers_distinct (members_from s (suc first) count))
    (ap not (none_made (has_number first) (member_of s) (suc first) count (λ k low. grind (arith, nat_tests))))
    (numbers_distinct s (suc first) count)

-- where the identifiers of the first so many nodes are distinct, those of fewer are
pub ids_fewer : (s : Settings) (first n m : ℕ) → n ≤ m → are_ids_distinct (map (node_of s) (numbers_from first m)) ≡ true → are_ids_distinct (map (node_of s) (numbers_from first n)) ≡ true
ids_fewer s first zero m le all = refl
ids_fewer s first (suc n) zero le all = absurd (omega arith)
ids_fewer s first (suc n) (suc m) le all =
    let again = list_any (is_node_with (id_of s first)) (map (node_of s) (numbers_from (suc first) m)) in
    let both = and_parts (not again) (are_ids_distinct (map (node_of s) (numbers_from (suc first) m))) all in
    and_from (not (list_any (is_node_with (id_of s first)) (map (node_of s) (numbers_from (suc first) n)))) (are_ids_distinct (map (node_of s) (numbers_from (suc first) n)))
    (ap not (any_fewer (is_node_with (id_of s first)) (node_of s) (suc first) n m (omega arith) (not_true again both.0)))
    (ids_fewer s (suc first) n m (omega arith) both.1)

-- the identifiers of so many nodes
pub ids_reported : (s : Settings) (first count : ℕ) → map node_id (map (node_of s) (numbers_from first count)) ≡ map (id_of s) (numbers_from first count)
ids_reported s first zero = refl
ids_reported s first (suc count) = ap (λ (xs : List (List ℕ)). id_of s first ∷ xs) (ids_reported s (suc first) count)

-- ---- the dealing

shares_ascend : (s : Settings) (first count : ℕ) → is_ascending (map (share_of s) (numbers_from first count)) ≡ true
shares_ascend s first zero = refl
shares_ascend s first (suc count) =
    and_from (is_below_all first (map (share_of s) (numbers_from (suc first) count))) (is_ascending (map (share_of s) (numbers_from (suc first) count)))
    (all_made (λ (d : ShareDigest). nat_lt first d.member) (share_of s) (suc first) count (λ k low high. grind (arith, nat_tests)))
    (shares_ascend s (suc first) count)

held : (s : Settings) → are_held_by (genesis_of s).members (dealing_of s).shares ≡ true
held s =
    all_made (λ (d : ShareDigest). list_any (has_number d.member) (genesis_of s).members) (share_of s) 1 s.members
    (λ k low high. among (has_number k) (member_of s) k 1 s.members low high (grind (arith, nat_tests)))

dealing_accepted : (s : Settings) → IsGroup s → is_dealing_to (genesis_of s).members (dealing_of s) ≡ true
dealing_accepted s h =
    and_from (is_dealing_in_order (dealing_of s)) (are_held_by (genesis_of s).members (dealing_of s).shares)
    (and_from (nat_le 1 (length (dealing_of s).shares)) (is_ascending (dealing_of s).shares) enough (shares_ascend s 1 s.members))
    (held s)
  where
    enough : nat_le 1 (length (dealing_of s).shares) ≡ true
    enough = let long = length-made (share_of s) 1 s.members in let least = h.some in grind (arith, nat_tests)

-- ---- no rule refuses it

members_accepted : (s : Settings) → IsGroup s → members_refusal (genesis_of s) ≡ None
unfolding members_refusal
members_accepted s h = rw (numbers_distinct s 1 s.members, h.distinct, few, dealing_accepted s h) refl
  where
    few : nat_lt 64 (length (genesis_of s).members) ≡ false
    few = let long = length-made (member_of s) 1 s.members in let most = h.few in grind (arith, nat_tests)

none_recorded : (ns : List NewNode) → is_any_recorded no_history ns ≡ false
unfolding is_any_recorded nodes node
none_recorded [] = refl
none_recorded (n ∷ ns) = none_recorded ns

none_yet : length (nodes no_history) ≡ 0
unfolding nodes
none_yet = refl

nodes_accepted : (s : Settings) → IsGroup s → nodes_refusal no_history (genesis_of s).nodes ≡ None
unfolding nodes_refusal
nodes_accepted s h = rw (ids_fewer s 1 s.starting (s.starting + s.joiners) (omega arith) h.apart, none_recorded (genesis_of s).nodes, few, fewer, some) refl
  where
    long : length (genesis_of s).nodes ≡ s.starting
    long = length-made (node_of s) 1 s.starting

    few : nat_lt 32 (length (genesis_of s).nodes) ≡ false
    few = let w = long in let most = h.starting in grind (arith, nat_tests)

    fewer : nat_lt 65535 (length (nodes no_history) + length (genesis_of s).nodes) ≡ false
    fewer = let w = long in let most = h.starting in let none = none_yet in grind (arith, nat_tests)

    some : (length (genesis_of s).nodes == 0) ≡ false
    some = let w = long in let least = h.first in grind (arith, nat_tests)

pub few_nodes : (s : Settings) → IsGroup s → (k : ℕ) → k < 1 + s.starting → k ≤ 32
few_nodes s h k high = let most = h.starting in omega arith

all_endorsed : (s : Settings) → IsGroup s → are_endorsed (genesis_of s).identity (genesis_of s).nodes ≡ true
unfolding are_endorsed is_endorsed
all_endorsed s h =
    all_made (λ (n : NewNode). is_endorsed (genesis_of s).identity n.key n.endorsement) (node_of s) 1 s.starting
    (λ k low high. ap is_ok (endorsement_valid s k (low, few_nodes s h k high)))

pub group_accepted : (s : Settings) → IsGroup s → genesis_refusal no_history (genesis_of s) ≡ None
group_accepted s h = accepts (genesis_of s) (members_accepted s h) (nodes_accepted s h) (all_endorsed s h)

-- ---- format

node_fits : (s : Settings) (k : ℕ) → IsEndorsable k → is_node (node_of s k) ≡ true
node_fits s k h = and_from _ _ (lms_key_sized (node_seed s k)) (and_from _ _ (endorsement_bytes s k) (let long = length-endorsement_of s k h in grind (arith, nat_tests)))

byte_within : (s : Settings) → IsGroup s → (k : ℕ) → k < 1 + s.members → is_byte k ≡ true
byte_within s h k high = let most = h.few in grind (arith, nat_tests)

number_within : (s : Settings) → IsGroup s → (k : ℕ) → 1 ≤ k → k < 1 + s.members → is_member_number k ≡ true
number_within s h k low high = and_from (nat_le 1 k) (is_byte k) (grind (arith, nat_tests)) (byte_within s h k high)

count_fits : (s : Settings) → IsGroup s → (n : ℕ) → n ≡ s.members → nat_lt n 256 ≡ true
count_fits s h n is = let most = h.few in grind (arith, nat_tests)

nodes_fit : (s : Settings) → IsGroup s → nat_lt (length (genesis_of s).nodes) 256 ≡ true
nodes_fit s h = let long = length-made (node_of s) 1 s.starting in let most = h.starting in grind (arith, nat_tests)

dealing_fits : (s : Settings) → IsGroup s → is_dealing (dealing_of s) ≡ true
dealing_fits s h =
    and_from _ _ (sha256_digest (recovery_secret s))
    (and_from _ _ (count_fits s h (length (dealing_of s).shares) (length-made (share_of s) 1 s.members))
    (all_made is_share (share_of s) 1 s.members (λ k low high. and_from _ _ (number_within s h k low high) (sha256_digest (dealt_to s k).value))))

pub group_fits : (s : Settings) → IsGroup s → is_genesis (genesis_of s) ≡ true
group_fits s h =
    and_from _ _ (and_from _ _ (and_from _ _ (and_from _ _ h.first_state (hss_key_sized 2 (service_seed s)))
    (and_from _ _ (nodes_fit s h) (all_made is_node (node_of s) 1 s.starting (λ k low high. node_fits s k (low, few_nodes s h k high)))))
    (and_from _ _ (count_fits s h (length (genesis_of s).members) (length-made (member_of s) 1 s.members))
    (all_made is_member (member_of s) 1 s.members (λ k low high. and_from _ _ (number_within s h k low high) (hss_key_sized 1 (member_seed s k))))))
    (dealing_fits s h)
