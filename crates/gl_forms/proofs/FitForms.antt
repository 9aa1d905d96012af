-- What readings give is within its ranges: each form.
use Rattle.std.proofs.Common.{◌≡◌, ℕ, suc, Bool, true, ◌&&◌, ◌==◌, nat_le, nat_lt, List, [], ◌∷◌, length, codes, Option, refl, ap, arith}
use Rattle.std.specs.List.{list_all}
use Rattle.std.proofs.lemmas.Bool.{and_parts, and_from, eq-eqb}
use Rattle.std.proofs.lemmas.Bool.Decides.{nat_tests}
use Rattle.serde_json.specs.Data.{Data}
use Rattle.serde_json.specs.Find.{get, at as element}
use Rattle.gl_base.specs.Bytes.{is_byte, are_sized, is_digest, same_bytes}
use Rattle.gl_base.specs.Json.{member_of, item_of}
use Rattle.gl_requests.specs.Ranges.{is_signature_field, are_counted, is_node, is_member_number, is_member, is_share, is_dealing, is_rule, are_rules, is_action, is_action_count, are_actions, is_act, is_first_state, is_genesis, is_recovery}
use Rattle.gl_requests.specs.declared.genesis.NewNode.{NewNode}
use Rattle.gl_requests.specs.declared.genesis.NewMember.{NewMember}
use Rattle.gl_requests.specs.declared.genesis.Dealing.{Dealing}
use Rattle.gl_requests.specs.declared.genesis.ServiceState.{ServiceState}
use Rattle.gl_requests.specs.declared.action.Rule.{Rule}
use Rattle.gl_requests.specs.declared.action.Action.{Action}
use Rattle.gl_requests.specs.declared.request.MemberAct.{MemberAct}
use Rattle.gl_json.specs.Form.{value_in, text_in, sized_in}
use Rattle.gl_forms.specs.Form.{flag_in, number_in, endorsement_in, pair_in, some_object_in, object_at, member_at, half_at, word_at}
use Rattle.gl_forms.specs.Parts.{member_in, node_in, share_in, dealing_names, dealing_in, dealing_at}
use Rattle.gl_forms.specs.Actions.{set_member_in, remove_member_in, set_threshold_in, node_id_in, trust_node_in, remove_node_in, open_service_in, action_names, rule_at, rules_of, rules_in, set_constitution_in, action_named, action_in, actions_in}
use Rattle.gl_forms.specs.Requests.{ack_in, propose_in, ballot_in, withdraw_in, share_act_in, act_named, act_in}
use Rattle.gl_forms.specs.Key.{one_key_in, has_endorsement, node_key_names, optional_endorsement_in, node_key_in, key_of_kind, key_in}
use Rattle.gl_forms.specs.Ranges.{is_endorsement, is_key}
use Rattle.gl_forms.specs.declared.key.KeyForm.{KeyForm}
use Rattle.gl_forms.specs.Settings.{state_named, state_in, settings_names, settings_in, recovery_in}
use Rattle.gl_forms.proofs.FitLemmas.{Fits, gives, fails, suffix, after_any, weaker, at_place, either, IsIn, number_fits, IsSized, sized_fits, IsSignature, endorsement_fits, FormFits, Listed, list_fits}

-- ---- members of objects

sized_member : (size : ℕ) (place name : List ℕ) (value : Data) → Fits (IsSized size) (member_at (sized_in size) place name value)
sized_member size place name value = at_place (member_of place name) (sized_fits size (get name value))

endorsement_member : (place name : List ℕ) (value : Data) → Fits IsSignature (member_at endorsement_in place name value)
endorsement_member place name value = at_place (member_of place name) (endorsement_fits (get name value))

number_member : (low high : ℕ) (place name : List ℕ) (value : Data) → Fits (IsIn low high) (member_at (number_in low high) place name value)
number_member low high place name value = at_place (member_of place name) (number_fits low high (get name value))

byte_is : (low n : ℕ) → IsIn low 255 n → (nat_le low n && is_byte n) ≡ true
byte_is low n e =
    let parts = and_parts (nat_le low n) (nat_le n 255) e in
    and_from (nat_le low n) (is_byte n) parts.0 (grind (arith, nat_tests, parts.1))

half_is : (n : ℕ) → IsIn 0 65535 n → nat_lt n 65536 ≡ true
half_is n e = let parts = and_parts (nat_le 0 n) (nat_le n 65535) e in grind (arith, nat_tests, parts.1)

counted_is : {X : Type 0} → (is : X → Bool) (xs : List X) → Listed is 0 255 xs → are_counted is xs ≡ true
counted_is is xs h =
    let few : nat_lt (length xs) 256 ≡ true = grind (arith, nat_tests, h.most) in
    and_from (nat_lt (length xs) 256) (list_all is xs) few h.all

-- ---- parts

member_fits : FormFits is_member member_in
unfolding member_in
member_fits place value =
    after_any (object_at place (codes "key" ∷ codes "number" ∷ []) value) (λ only.
    suffix (sized_member 60 place (codes "key") value) (λ key key_is.
    suffix (number_member 1 255 place (codes "number") value) (λ number number_is.
    gives (and_from (is_member_number number) (are_sized 60 key) (byte_is 1 number number_is) key_is))))

node_fits : FormFits is_node node_in
unfolding node_in
node_fits place value =
    after_any (object_at place (codes "endorsement" ∷ codes "key" ∷ []) value) (λ only.
    suffix (endorsement_member place (codes "endorsement") value) (λ endorsement endorsement_is.
    suffix (sized_member 56 place (codes "key") value) (λ key key_is.
    gives (and_from (are_sized 56 key) (is_signature_field endorsement) key_is endorsement_is))))

share_fits : FormFits is_share share_in
unfolding share_in
share_fits place value =
    after_any (object_at place (codes "digest" ∷ codes "member" ∷ []) value) (λ only.
    suffix (sized_member 32 place (codes "digest") value) (λ digest digest_is.
    suffix (number_member 1 255 place (codes "member") value) (λ holder holder_is.
    gives (and_from (is_member_number holder) (is_digest digest) (byte_is 1 holder holder_is) digest_is))))

dealing_fits : FormFits is_dealing dealing_in
unfolding dealing_in
dealing_fits place value =
    after_any (object_at place dealing_names value) (λ only.
    suffix (sized_member 32 place (codes "secret_digest") value) (λ secret secret_is.
    suffix (list_fits share_in is_share share_fits 0 255 place (codes "shares") value) (λ shares shares_are.
    suffix (number_member 0 255 place (codes "threshold") value) (λ threshold threshold_is.
    let byte = (and_parts (nat_le 0 threshold) (is_byte threshold) (byte_is 0 threshold threshold_is)).1 in
    let first = and_from (is_byte threshold) (is_digest secret) byte secret_is in
    gives (and_from (is_byte threshold && is_digest secret) (are_counted is_share shares) first (counted_is is_share shares shares_are))))))

dealing_member : (name : List ℕ) → FormFits is_dealing (λ place. dealing_at place name)
unfolding dealing_at
dealing_member name place value = after_any (member_at value_in place name value) (λ dealing. dealing_fits (member_of place name) dealing)

-- ---- actions

set_member_fits : FormFits is_action set_member_in
unfolding set_member_in
set_member_fits place args = suffix (member_fits place args) (λ new is. gives is)

remove_member_fits : FormFits is_action remove_member_in
unfolding remove_member_in
remove_member_fits place args =
    after_any (object_at place (codes "number" ∷ []) args) (λ only. suffix (number_member 1 255 place (codes "number") args) (λ number is. gives (byte_is 1 number is)))

set_threshold_fits : FormFits is_action set_threshold_in
unfolding set_threshold_in
set_threshold_fits place args = suffix (dealing_fits place args) (λ dealing is. gives is)

node_id_fits : FormFits is_digest node_id_in
unfolding node_id_in
node_id_fits place args = after_any (object_at place (codes "node" ∷ []) args) (λ only. sized_member 32 place (codes "node") args)

trust_node_fits : FormFits is_action trust_node_in
unfolding trust_node_in
trust_node_fits place args = suffix (node_id_fits place args) (λ id is. gives is)

remove_node_fits : FormFits is_action remove_node_in
unfolding remove_node_in
remove_node_fits place args = suffix (node_id_fits place args) (λ id is. gives is)

open_service_fits : FormFits is_action open_service_in
unfolding open_service_in
open_service_fits place args = after_any (object_at place [] args) (λ only. gives refl)

half_fits : (place : List ℕ) (index : ℕ) (pair : Data) → Fits (IsIn 0 65535) (half_at place index pair)
half_fits place index pair = at_place (item_of place index) (number_fits 0 65535 (element index pair))

rule_fits : (name : List ℕ) → FormFits is_rule (λ place. rule_at place name)
unfolding rule_at
rule_fits name place value =
    after_any (member_at pair_in place name value) (λ pair.
    suffix (half_fits (member_of place name) 0 pair) (λ num num_is.
    suffix (half_fits (member_of place name) 1 pair) (λ den den_is.
    gives (and_from (nat_lt num 65536) (nat_lt den 65536) (half_is num num_is) (half_is den den_is)))))

-- as many rules as names
record Rules (names : List (List ℕ)) (rules : List Rule) : Type 0 where
  count : length rules ≡ length names
  all : list_all is_rule rules ≡ true

rules_of_fits : (place : List ℕ) (names : List (List ℕ)) (value : Data) → Fits (Rules names) (rules_of place names value)
unfolding rules_of
rules_of_fits place [] value = gives (record { count = refl; all = refl })
rules_of_fits place (name ∷ names) value =
    suffix (rule_fits name place value) (λ rule rule_is.
    suffix (rules_of_fits place names value) (λ rules are.
    gives (record { count = ap suc are.count; all = and_from (is_rule rule) (list_all is_rule rules) rule_is are.all })))

rules_fit : FormFits are_rules rules_in
unfolding rules_in
rules_fit place value =
    after_any (object_at place action_names value) (λ only.
    weaker (rules_of_fits place action_names value) (λ rules are.
    and_from (length rules == 7) (list_all is_rule rules) (eq-eqb (length rules) 7 are.count) are.all))

set_constitution_fits : FormFits is_action set_constitution_in
unfolding set_constitution_in
set_constitution_fits place args =
    after_any (object_at place (codes "rules" ∷ []) args) (λ only.
    after_any (member_at value_in place (codes "rules") args) (λ object.
    suffix (rules_fit (member_of place (codes "rules")) object) (λ rules are. gives are)))

action_named_fits : (named name : List ℕ) → FormFits is_action (action_named named name)
unfolding action_named
action_named_fits named name place args =
    either (same_bytes name (codes "set_member")) (set_member_fits place args)
    (either (same_bytes name (codes "remove_member")) (remove_member_fits place args)
    (either (same_bytes name (codes "set_recovery_threshold")) (set_threshold_fits place args)
    (either (same_bytes name (codes "transition_node_to_trusted")) (trust_node_fits place args)
    (either (same_bytes name (codes "remove_node")) (remove_node_fits place args)
    (either (same_bytes name (codes "transition_service_to_open")) (open_service_fits place args)
    (either (same_bytes name (codes "set_constitution")) (set_constitution_fits place args) fails))))))

action_fits : FormFits is_action action_in
unfolding action_in
action_fits place value =
    after_any (object_at place (codes "args" ∷ codes "name" ∷ []) value) (λ only.
    after_any (member_at some_object_in place (codes "args") value) (λ args.
    after_any (member_at text_in place (codes "name") value) (λ name.
    action_named_fits (member_of place (codes "name")) name (member_of place (codes "args")) args)))

actions_are : (list : List Action) → Listed is_action 1 16 list → are_actions list ≡ true
actions_are list are =
    let least : nat_le 1 (length list) ≡ true = grind (arith, nat_tests, are.least) in
    let most : nat_le (length list) 16 ≡ true = grind (arith, nat_tests, are.most) in
    and_from (is_action_count (length list)) (list_all is_action list) (and_from (nat_le 1 (length list)) (nat_le (length list) 16) least most) are.all

pub actions_fit : (value : Data) → Fits (λ list. are_actions list ≡ true) (actions_in value)
unfolding actions_in
actions_fit value = weaker (list_fits action_in is_action action_fits 1 16 [] (codes "actions") value) actions_are

-- ---- requests

abbrev IsAct : MemberAct → Type 0
IsAct a = is_act a ≡ true

ack_fits : (value : Data) → Fits IsAct (ack_in value)
unfolding ack_in
ack_fits value = after_any (object_at [] (codes "op" ∷ []) value) (λ only. gives refl)

propose_fits : (value : Data) → Fits IsAct (propose_in value)
unfolding propose_in
propose_fits value = after_any (object_at [] (codes "actions" ∷ codes "op" ∷ []) value) (λ only. suffix (actions_fit value) (λ list are. gives are))

ballot_fits : (value : Data) → Fits IsAct (ballot_in value)
unfolding ballot_in
ballot_fits value =
    after_any (object_at [] (codes "op" ∷ codes "proposal_id" ∷ codes "vote" ∷ []) value) (λ only.
    suffix (sized_member 32 [] (codes "proposal_id") value) (λ id is.
    after_any (member_at flag_in [] (codes "vote") value) (λ vote. gives is)))

withdraw_fits : (value : Data) → Fits IsAct (withdraw_in value)
unfolding withdraw_in
withdraw_fits value = after_any (object_at [] (codes "op" ∷ codes "proposal_id" ∷ []) value) (λ only. suffix (sized_member 32 [] (codes "proposal_id") value) (λ id is. gives is))

share_act_fits : (value : Data) → Fits IsAct (share_act_in value)
unfolding share_act_in
share_act_fits value = after_any (object_at [] (codes "op" ∷ codes "share" ∷ []) value) (λ only. suffix (sized_member 32 [] (codes "share") value) (λ share is. gives is))

act_named_fits : (op : List ℕ) (value : Data) → Fits IsAct (act_named op value)
unfolding act_named
act_named_fits op value =
    either (same_bytes op (codes "ack")) (ack_fits value)
    (either (same_bytes op (codes "propose")) (propose_fits value)
    (either (same_bytes op (codes "ballot")) (ballot_fits value)
    (either (same_bytes op (codes "withdraw")) (withdraw_fits value)
    (either (same_bytes op (codes "share")) (share_act_fits value) fails))))

pub act_fits : (value : Data) → Fits IsAct (act_in value)
unfolding act_in
act_fits value = after_any (word_at [] (codes "op") value) (λ op. act_named_fits op value)

-- ---- settings

abbrev IsFirst : ServiceState → Type 0
IsFirst s = is_first_state s ≡ true

state_named_fits : (name : List ℕ) → Fits IsFirst (state_named name)
state_named_fits name = either (same_bytes name (codes "open")) (gives refl) (either (same_bytes name (codes "opening")) (gives refl) fails)

state_member : (name : List ℕ) (value : Data) → Fits IsFirst (member_at state_in [] name value)
state_member name value = at_place (member_of [] name) (after_any (text_in (get name value)) state_named_fits)

genesis_is : (state : ServiceState) (identity : List ℕ) (nodes : List NewNode) (members : List NewMember) (dealing : Dealing)
    → IsFirst state → IsSized 60 identity → are_counted is_node nodes ≡ true → are_counted is_member members ≡ true → is_dealing dealing ≡ true
    → is_genesis (record { state = state; identity = identity; nodes = nodes; members = members; dealing = dealing }) ≡ true
genesis_is state identity nodes members dealing a b c d e =
    let ab = and_from (is_first_state state) (are_sized 60 identity) a b in
    let abc = and_from (is_first_state state && are_sized 60 identity) (are_counted is_node nodes) ab c in
    let abcd = and_from (is_first_state state && are_sized 60 identity && are_counted is_node nodes) (are_counted is_member members) abc d in
    and_from (is_first_state state && are_sized 60 identity && are_counted is_node nodes && are_counted is_member members) (is_dealing dealing) abcd e

pub settings_fit : (value : Data) → Fits (λ g. is_genesis g ≡ true) (settings_in value)
unfolding settings_in
settings_fit value =
    after_any (object_at [] settings_names value) (λ only.
    suffix (dealing_member (codes "dealing") [] value) (λ dealing dealing_is.
    suffix (sized_member 60 [] (codes "identity") value) (λ identity identity_is.
    suffix (list_fits member_in is_member member_fits 0 255 [] (codes "members") value) (λ members members_are.
    suffix (list_fits node_in is_node node_fits 0 255 [] (codes "nodes") value) (λ nodes nodes_are.
    suffix (state_member (codes "state") value) (λ state state_is.
    gives (genesis_is state identity nodes members dealing state_is identity_is
    (counted_is is_node nodes nodes_are) (counted_is is_member members members_are) dealing_is)))))))

pub recovery_fits : (value : Data) → Fits (λ r. is_recovery r ≡ true) (recovery_in value)
unfolding recovery_in
recovery_fits value =
    after_any (object_at [] (codes "identity" ∷ codes "nodes" ∷ []) value) (λ only.
    suffix (sized_member 60 [] (codes "identity") value) (λ identity identity_is.
    suffix (list_fits node_in is_node node_fits 0 255 [] (codes "nodes") value) (λ nodes nodes_are.
    gives (and_from (are_sized 60 identity) (are_counted is_node nodes) identity_is (counted_is is_node nodes nodes_are)))))

-- ---- keys

abbrev IsKeyForm : KeyForm → Type 0
IsKeyForm k = is_key k ≡ true

one_key_fits : (value : Data) → Fits (IsSized 60) (one_key_in value)
unfolding one_key_in
one_key_fits value = after_any (object_at [] (codes "key" ∷ codes "kind" ∷ []) value) (λ only. sized_member 60 [] (codes "key") value)

abbrev IsEndorsement : Option (List ℕ) → Type 0
IsEndorsement e = is_endorsement e ≡ true

optional_fits : (value : Data) → Fits IsEndorsement (optional_endorsement_in value)
unfolding optional_endorsement_in
optional_fits value =
    either (has_endorsement value) (suffix (endorsement_member [] (codes "endorsement") value) (λ bytes is. gives is)) (gives refl)

node_key_fits : (value : Data) → Fits IsKeyForm (node_key_in value)
unfolding node_key_in
node_key_fits value =
    after_any (object_at [] (node_key_names (has_endorsement value)) value) (λ only.
    suffix (optional_fits value) (λ endorsement endorsement_is.
    suffix (sized_member 56 [] (codes "key") value) (λ key key_is.
    suffix (sized_member 32 [] (codes "node") value) (λ id id_is.
    gives (and_from (are_sized 56 key && is_digest id) (is_endorsement endorsement) (and_from (are_sized 56 key) (is_digest id) key_is id_is) endorsement_is)))))

key_of_kind_fits : (kind : List ℕ) (value : Data) → Fits IsKeyForm (key_of_kind kind value)
unfolding key_of_kind
key_of_kind_fits kind value =
    either (same_bytes kind (codes "service")) (suffix (one_key_fits value) (λ key is. gives is))
    (either (same_bytes kind (codes "member")) (suffix (one_key_fits value) (λ key is. gives is))
    (either (same_bytes kind (codes "node")) (node_key_fits value) fails))

pub key_fits : (value : Data) → Fits IsKeyForm (key_in value)
unfolding key_in
key_fits value = after_any (word_at [] (codes "kind") value) (λ kind. key_of_kind_fits kind value)
