-- Actions, and what members ask for: what is read is encoded so, and what is encoded so is read.
use Rattle.std.proofs.Common.{◌≡◌, ℕ, ◌+◌, Bool, true, ◌&&◌, ◌==◌, nat_le, List, [], ◌∷◌, ◌++◌, length, Ok, Err, refl, sym, ap, subst, ◌∙◌, append_assoc, arith}
use Rattle.std.specs.List.{list_all, flat_map}
use Rattle.std.proofs.lemmas.Bool.{and_parts, and_from, eqb-true}
use Rattle.std.proofs.lemmas.Bool.Decides.{nat_tests}
use Rattle.gl_base.specs.Bytes.{is_byte, is_digest}
use Rattle.gl_base.specs.Code.{flag_at}
use Rattle.gl_base.specs.declared.fault.CodeFault.TheVariants as faults
use Rattle.gl_base.proofs.Fields.{tag_read}
use Rattle.gl_base.proofs.ParsedBytes.{IsEncoded, Gets, IsRead}
use Rattle.gl_base.proofs.Repeated.{many-read}
use Rattle.gl_requests.specs.declared.action.Action.{Action}
use Rattle.gl_requests.specs.declared.action.Action.TheVariants as actions
use Rattle.gl_requests.specs.declared.request.MemberAct.{MemberAct}
use Rattle.gl_requests.specs.declared.request.MemberAct.TheVariants as acts
use Rattle.gl_requests.specs.Encoding.{counted_bytes, member_bytes, dealing_bytes, rule_bytes, action_bytes, act_tag, act_fields}
use Rattle.gl_requests.specs.Ranges.{is_member_number, is_member, is_dealing, is_rule, is_action, is_action_count, are_actions, is_act}
use Rattle.gl_requests.specs.Parsing.{as_value, repeated_at, digest_at, member_number_at, member_at, dealing_at, rule_at, action_fields_at, action_at, actions_in, actions_at, ballot_at, act_at, is_act_tag}
use Rattle.gl_requests.proofs.Repeats.{repeats}
use Rattle.gl_requests.proofs.Remainders.{IsAfter, field_after, made_after, from_after, last_after, value_after, cond_after, fault_after, tag_after, kind_after}
use Rattle.gl_requests.proofs.FieldReadings.{one_byte, tagged-encoded, themselves, digest-encoded, digest-read, member_number-encoded, member_number-read, flag_bytes, any_flag, flag-encoded, flag-read, are_many, repeated-encoded, counted-made, counted-gets}
use Rattle.gl_requests.proofs.PartReadings.{member-encoded, member-read, dealing-encoded, dealing-read, rule-encoded, rule-read}

-- ---- an action

fields-suffix : (place n : ℕ) → IsAfter (one_byte n) (λ unread. action_fields_at place (n, unread)) action_bytes is_action
unfolding action_fields_at
fields-suffix place n =
    kind_after n 1 member_at member_bytes is_member member-encoded actions.SetMember action_bytes is_action (λ m is. (refl, is)) _
    (λ a. kind_after n 2 member_number_at one_byte is_member_number member_number-encoded actions.RemoveMember action_bytes is_action (λ m is. (refl, is)) _
    (λ b. kind_after n 3 dealing_at dealing_bytes is_dealing dealing-encoded actions.SetRecoveryThreshold action_bytes is_action (λ d is. (refl, is)) _
    (λ c. kind_after n 4 digest_at themselves is_digest digest-encoded actions.TransitionNodeToTrusted action_bytes is_action (λ id is. (refl, is)) _
    (λ d. kind_after n 5 digest_at themselves is_digest digest-encoded actions.RemoveNode action_bytes is_action (λ id is. (refl, is)) _
    (λ e. tag_after n 6 one_byte (λ unread. Ok (actions.TransitionServiceToOpen, unread)) _ action_bytes (λ (m : ℕ). is_action)
    (made_after (one_byte 6) actions.TransitionServiceToOpen action_bytes is_action refl refl)
    (λ f. kind_after n 7 (repeated_at rule_at 7) (flat_map rule_bytes) (are_many is_rule 7) (repeated-encoded rule_at rule_bytes is_rule rule-encoded 7) actions.SetConstitution action_bytes is_action (λ rules is. (refl, is)) _
    (λ g. fault_after (one_byte n) (faults.Value place) action_bytes is_action)))))))

pub action-encoded : IsEncoded action_at action_bytes is_action
unfolding action_at
action-encoded = tagged-encoded action_fields_at action_bytes is_action (λ place n byte. fields-suffix place n)

pub action-read : IsRead action_at action_bytes is_action
unfolding action_at action_fields_at
action-read at (actions.SetMember m) rest is =
    let there = member-read (at + 1) m rest is in
    record { place = there.place; read = rw (tag_read at 1 (member_bytes m ++ rest), there.read) refl }
action-read at (actions.RemoveMember number) rest is =
    let there = member_number-read (at + 1) number rest is in
    record { place = there.place; read = rw (tag_read at 2 (number ∷ rest), there.read) refl }
action-read at (actions.SetRecoveryThreshold d) rest is =
    let there = dealing-read (at + 1) d rest is in
    record { place = there.place; read = rw (tag_read at 3 (dealing_bytes d ++ rest), there.read) refl }
action-read at (actions.TransitionNodeToTrusted id) rest is =
    let there = digest-read (at + 1) id rest is in
    record { place = there.place; read = rw (tag_read at 4 (id ++ rest), there.read) refl }
action-read at (actions.RemoveNode id) rest is =
    let there = digest-read (at + 1) id rest is in
    record { place = there.place; read = rw (tag_read at 5 (id ++ rest), there.read) refl }
action-read at actions.TransitionServiceToOpen rest is = record { place = at + 1; read = rw (tag_read at 6 rest) refl }
action-read at (actions.SetConstitution rules) rest is =
    let both = and_parts (length rules == 7) (list_all is_rule rules) is in
    let many = many-read (repeats rule_at) rule_bytes is_rule rule-read (at + 1) rules rest both.1 in
    let seven = eqb-true (length rules) 7 both.0 in
    let read : repeated_at rule_at 7 (record { at = at + 1; bytes = flat_map rule_bytes rules ++ rest }) ≡ Ok (rules, record { at = many.place; bytes = rest }) =
    subst (λ (n : ℕ). repeated_at rule_at n (record { at = at + 1; bytes = flat_map rule_bytes rules ++ rest }) ≡ Ok (rules, record { at = many.place; bytes = rest })) seven many.read in
    record { place = many.place; read = rw (tag_read at 7 (flat_map rule_bytes rules ++ rest), read) refl }

-- ---- the actions of a proposal

actions-made : (n : ℕ) (list : List Action) → is_byte n ≡ true → is_action_count n ≡ true → are_many is_action n list ≡ true
    → (n ∷ flat_map action_bytes list ≡ counted_bytes action_bytes list) × (are_actions list ≡ true)
actions-made n list byte few many =
    let both = and_parts (length list == n) (list_all is_action list) many in
    let long = eqb-true (length list) n both.0 in
    let count : is_action_count (length list) ≡ true = subst (λ (k : ℕ). is_action_count k ≡ true) (sym long) few in
    (counted-made action_bytes n list byte long, and_from (is_action_count (length list)) (list_all is_action list) count both.1)

pub actions-encoded : IsEncoded actions_at (counted_bytes action_bytes) are_actions
unfolding actions_at
actions-encoded = tagged-encoded actions_in (counted_bytes action_bytes) are_actions
    (λ place n byte. cond_after (is_action_count n) (one_byte n) (λ unread. repeated_at action_at n unread) (λ unread. Err (faults.Value place)) (counted_bytes action_bytes) are_actions
    (λ few. last_after (one_byte n) (repeated_at action_at n) (flat_map action_bytes) (are_many is_action n) (repeated-encoded action_at action_bytes is_action action-encoded n) (counted_bytes action_bytes) are_actions
    (λ list many. actions-made n list byte few many))
    (λ none. fault_after (one_byte n) (faults.Value place) (counted_bytes action_bytes) are_actions))

actions-suffix : (at : ℕ) (list : List Action) (rest : List ℕ) → is_action_count (length list) ≡ true
    → Gets (repeated_at action_at (length list) (record { at = at + 1; bytes = flat_map action_bytes list ++ rest })) list rest
    → Gets (actions_at (record { at = at; bytes = counted_bytes action_bytes list ++ rest })) list rest
unfolding actions_at
actions-suffix at list rest few others =
    let most = (and_parts (nat_le 1 (length list)) (nat_le (length list) 16) few).1 in
    let byte : is_byte (length list) ≡ true = grind (arith, nat_tests, most) in
    record { place = others.place; read = rw (counted-gets action_bytes at list rest byte, few, others.read) refl }

pub actions-read : IsRead actions_at (counted_bytes action_bytes) are_actions
actions-read at list rest is =
    let both = and_parts (is_action_count (length list)) (list_all is_action list) is in
    actions-suffix at list rest both.0 (many-read (repeats action_at) action_bytes is_action action-read (at + 1) list rest both.1)

-- ---- what a member asks for

-- It has this tag, and its fields are in their ranges.
abbrev pub is_act_of : ℕ → MemberAct → Bool
is_act_of tag act = (act_tag act == tag) && is_act act

abbrev nothing : ℕ → List ℕ
nothing tag = []

ballot-suffix : IsAfter [] ballot_at act_fields (is_act_of 7)
unfolding ballot_at
ballot-suffix =
    field_after [] digest_at themselves is_digest digest-encoded _ act_fields (is_act_of 7)
    (λ id sized. field_after id flag_at flag_bytes any_flag flag-encoded _ act_fields (is_act_of 7)
    (λ agrees any. made_after (id ++ flag_bytes agrees) (acts.Ballot id agrees) act_fields (is_act_of 7) refl sized))

share-suffix : (tag : ℕ) → (tag == 9) ≡ true → IsAfter [] (λ unread. as_value acts.Share (digest_at unread)) act_fields (is_act_of tag)
share-suffix tag nine =
    subst (λ (n : ℕ). IsAfter [] (λ unread. as_value acts.Share (digest_at unread)) act_fields (is_act_of n)) (sym (eqb-true tag 9 nine))
    (value_after [] digest_at themselves is_digest digest-encoded acts.Share act_fields (is_act_of 9) (λ share is. (refl, is)))

pub act-encoded : (tag : ℕ) → is_act_tag tag ≡ true → IsEncoded (act_at tag) act_fields (is_act_of tag)
unfolding act_at
act-encoded tag known = from_after (act_at tag) act_fields (is_act_of tag)
    (tag_after tag 5 nothing (λ unread. Ok (acts.Ack, unread)) _ act_fields is_act_of
    (made_after [] acts.Ack act_fields (is_act_of 5) refl refl)
    (λ a. tag_after tag 6 nothing (λ unread. as_value acts.Propose (actions_at unread)) _ act_fields is_act_of
    (value_after [] actions_at (counted_bytes action_bytes) are_actions actions-encoded acts.Propose act_fields (is_act_of 6) (λ list is. (refl, is)))
    (λ b. tag_after tag 7 nothing ballot_at _ act_fields is_act_of ballot-suffix
    (λ c. tag_after tag 8 nothing (λ unread. as_value acts.Withdraw (digest_at unread)) _ act_fields is_act_of
    (value_after [] digest_at themselves is_digest digest-encoded acts.Withdraw act_fields (is_act_of 8) (λ id is. (refl, is)))
    (λ d. share-suffix tag (rw (a, b, c, d) at known))))))

-- its fields are read by its tag
pub act-read : (at : ℕ) (act : MemberAct) (rest : List ℕ) → is_act act ≡ true → Gets (act_at (act_tag act) (record { at = at; bytes = act_fields act ++ rest })) act rest
unfolding act_at ballot_at
act-read at acts.Ack rest is = record { place = at; read = refl }
act-read at (acts.Propose list) rest is =
    let there = actions-read at list rest is in
    record { place = there.place; read = rw there.read refl }
act-read at (acts.Ballot id agrees) rest is =
    let first = digest-read at id (flag_bytes agrees ++ rest) is in
    let second = flag-read first.place agrees rest refl in
    let regrouped = append_assoc id (flag_bytes agrees) rest in
    record {
      place = second.place;
      read = ap (λ (ys : List ℕ). ballot_at (record { at = at; bytes = ys })) regrouped ∙ rw (first.read, second.read) refl;
    }
act-read at (acts.Withdraw id) rest is =
    let there = digest-read at id rest is in
    record { place = there.place; read = rw there.read refl }
act-read at (acts.Share share) rest is =
    let there = digest-read at share rest is in
    record { place = there.place; read = rw there.read refl }
