-- How many bytes an action has at most that could be applied where it was tried: a dealing has no
-- more shares than members are present.
use Rattle.std.proofs.Common.{◌≡◌, ℕ, ◌+◌, ◌*◌, ◌≤◌, List, [], ◌∷◌, ◌++◌, length, None, true, not, ◌&&◌, ◌==◌, nat_le, nat_lt, flat_map, length-append, arith}
use Rattle.std.specs.List.{list_all, AllByRecursion}
use Rattle.std.proofs.lemmas.Bool.{and_parts}
use Rattle.std.proofs.lemmas.Bool.Decides.{nat_tests}
use Rattle.gl_base.specs.Bytes.{is_byte, are_bytes, are_sized, is_digest}
use Rattle.gl_base.specs.LittleEndian.{little_endian}
use Rattle.gl_base.proofs.LittleEndianLaws.{length-little_endian}
use Rattle.gl_requests.specs.Encoding.{share_bytes, dealing_bytes, rule_bytes, action_bytes}
use Rattle.gl_requests.specs.Ranges.{are_counted, is_member_number, is_share, is_dealing, is_rule, is_action}
use Rattle.gl_requests.specs.declared.genesis.ShareDigest.{ShareDigest}
use Rattle.gl_requests.specs.declared.genesis.Dealing.{Dealing}
use Rattle.gl_requests.specs.declared.action.Rule.{Rule}
use Rattle.gl_requests.specs.declared.action.Action.{Action}
use Rattle.gl_requests.specs.declared.action.Action.TheVariants as actions
use Rattle.gl_gov_rules.specs.declared.refusal.Cause.TheVariants as causes
use Rattle.gl_gov_rules.specs.History.{History}
use Rattle.gl_gov_rules.specs.Members.{present_count}
use Rattle.gl_gov_rules.specs.Actions.{is_ascending, is_dealing_in_order, are_present, is_dealing_among, cause_against, at_index, with_applied, first_bad_action}
use Rattle.gl_gov_rules.proofs.NoneStands.{none_of, not_bad, no_cause, not_denied}
use Rattle.gl_gov_rules.proofs.MembersLeft.{left_in, present_count-left, shares_within, left_applied}

-- ---- parts of actions

pub sized_length : (size : ℕ) (bytes : List ℕ) → are_sized size bytes ≡ true → length bytes ≡ size
sized_length size bytes e = let both = and_parts (length bytes == size) (are_bytes bytes) e in grind (arith, nat_tests, both.0)

shares_size : (shares : List ShareDigest) → list_all is_share shares ≡ true → length (flat_map share_bytes shares) ≡ length shares * 33
shares_size [] all = omega arith
shares_size (s ∷ shares) all =
    let both = and_parts (is_share s) (list_all is_share shares) all in
    let digest = sized_length 32 s.digest (and_parts (is_member_number s.member) (is_digest s.digest) both.0).1 in
    omega (arith, length-append (share_bytes s) (flat_map share_bytes shares), digest, shares_size shares both.1)

dealing_size : (d : Dealing) → is_dealing d ≡ true → length (dealing_bytes d) ≡ 34 + length d.shares * 33
dealing_size d fits =
    let a = and_parts (is_byte d.threshold && is_digest d.secret_digest) (are_counted is_share d.shares) fits in
    let secret = sized_length 32 d.secret_digest (and_parts (is_byte d.threshold) (is_digest d.secret_digest) a.0).1 in
    let shares = (and_parts (nat_lt (length d.shares) 256) (list_all is_share d.shares) a.1).1 in
    omega (
      arith,
      length-append (d.threshold ∷ d.secret_digest) (little_endian 1 (length d.shares) ++ flat_map share_bytes d.shares),
      length-append (little_endian 1 (length d.shares)) (flat_map share_bytes d.shares),
      length-little_endian 1 (length d.shares),
      secret,
      shares_size d.shares shares,
    )

rules_size : (rules : List Rule) → length (flat_map rule_bytes rules) ≡ length rules * 4
rules_size [] = omega arith
rules_size (r ∷ rules) =
    omega (
      arith,
      length-append (rule_bytes r) (flat_map rule_bytes rules),
      length-append (little_endian 2 r.num) (little_endian 2 r.den),
      length-little_endian 2 r.num,
      length-little_endian 2 r.den,
      rules_size rules,
    )

-- ---- an action that can be applied

-- no more shares than members are present
holders_within : (h : History) (d : Dealing) → cause_against h (actions.SetRecoveryThreshold d) ≡ None → length d.shares ≤ present_count h
unfolding cause_against is_dealing_among
holders_within h d none =
    let among = not_denied (is_dealing_in_order d && are_present h d.shares) (not_bad (not (is_dealing_among h d)) causes.Dealing none) in
    let both = and_parts (is_dealing_in_order d) (are_present h d.shares) among in
    let order = and_parts (nat_le 1 d.threshold && nat_le d.threshold (length d.shares)) (is_ascending d.shares) both.0 in
    shares_within h d.shares order.1 both.1

-- an action has at most 2,147 bytes where at most 64 members are left
pub action_size : (h : History) (a : Action) → cause_against h a ≡ None → left_in h.changes ≤ 64 → is_action a ≡ true → length (action_bytes a) ≤ 2147
action_size h (actions.SetMember m) none few fits = let key = sized_length 60 m.key (and_parts (is_member_number m.number) (are_sized 60 m.key) fits).1 in omega arith
action_size h (actions.RemoveMember number) none few fits = omega arith
action_size h (actions.SetRecoveryThreshold d) none few fits = omega (arith, dealing_size d fits, holders_within h d none, present_count-left h)
action_size h (actions.TransitionNodeToTrusted id) none few fits = omega (arith, sized_length 32 id fits)
action_size h (actions.RemoveNode id) none few fits = omega (arith, sized_length 32 id fits)
action_size h actions.TransitionServiceToOpen none few fits = omega arith
action_size h (actions.SetConstitution rules) none few fits =
    let seven = (and_parts (length rules == 7) (list_all is_rule rules) fits).0 in
    let count : length rules ≡ 7 = grind (arith, nat_tests) in
    omega (arith, rules_size rules, count)

-- each of those that are tried in order has so many at most
pub tried_sizes : (h : History) (seqno index : ℕ) (list : List Action) → first_bad_action h seqno index list ≡ None → left_in h.changes ≤ 64 → list_all is_action list ≡ true →
    AllByRecursion (λ (a : Action). length (action_bytes a) ≤ 2147) list
tried_sizes h seqno index [] none few fits = tt
tried_sizes h seqno index (a ∷ rest) none few fits =
    let both = none_of (at_index index (cause_against h a)) (first_bad_action (with_applied h seqno a) seqno (index + 1) rest) none in
    let cause = no_cause index (cause_against h a) both.0 in
    let range = and_parts (is_action a) (list_all is_action rest) fits in
    (action_size h a cause few range.0, tried_sizes (with_applied h seqno a) seqno (index + 1) rest both.1 (left_applied h seqno a cause few) range.1)
