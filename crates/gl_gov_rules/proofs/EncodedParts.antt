-- What encodes members, dealings, rules and actions in their ranges is bytes.
use Rattle.std.proofs.Common.{◌≡◌, ℕ, List, [], ◌∷◌, length, Bool, true, ◌&&◌, ◌==◌, nat_le, nat_lt, flat_map, refl}
use Rattle.std.specs.List.{list_all}
use Rattle.std.proofs.lemmas.Bool.{and_parts}
use Rattle.gl_base.specs.LittleEndian.{little_endian}
use Rattle.gl_base.specs.Bytes.{is_byte, are_bytes, are_sized, is_digest}
use Rattle.gl_requests.specs.Encoding.{counted_bytes, share_bytes, dealing_bytes, rule_bytes, action_number, action_fields, action_bytes}
use Rattle.gl_requests.specs.Ranges.{are_counted, is_member_number, is_member, is_share, is_dealing, is_rule, is_action}
use Rattle.gl_requests.specs.declared.genesis.NewMember.{NewMember}
use Rattle.gl_requests.specs.declared.genesis.ShareDigest.{ShareDigest}
use Rattle.gl_requests.specs.declared.genesis.Dealing.{Dealing}
use Rattle.gl_requests.specs.declared.action.Rule.{Rule}
use Rattle.gl_requests.specs.declared.action.Action.{Action}
use Rattle.gl_requests.specs.declared.action.Action.TheVariants as actions
use Rattle.gl_gov_rules.proofs.Digests.{bytes-append, one_byte, number_bytes, flat_bytes, sized_bytes}

-- the number of a member is a byte
pub number_byte : (number : ℕ) → is_member_number number ≡ true → is_byte number ≡ true
number_byte number fits = (and_parts (nat_le 1 number) (is_byte number) fits).1

pub member_parts : (m : NewMember) → is_member m ≡ true → (is_byte m.number ≡ true) × (are_sized 60 m.key ≡ true)
member_parts m fits = let both = and_parts (is_member_number m.number) (are_sized 60 m.key) fits in (number_byte m.number both.0, both.1)

share_are_bytes : (s : ShareDigest) → is_share s ≡ true → are_bytes (share_bytes s) ≡ true
share_are_bytes s fits =
    let both = and_parts (is_member_number s.member) (is_digest s.digest) fits in
    one_byte s.member s.digest (number_byte s.member both.0) (sized_bytes 32 s.digest both.1)

pub counted_are_bytes : {A : Type 0} (bytes : A → List ℕ) (is : A → Bool) (xs : List A) → ((x : A) → is x ≡ true → are_bytes (bytes x) ≡ true) → list_all is xs ≡ true → are_bytes (counted_bytes bytes xs) ≡ true
counted_are_bytes bytes is xs each all =
    bytes-append (little_endian 1 (length xs)) (flat_map bytes xs) (number_bytes 1 (length xs)) (flat_bytes bytes is xs each all)

pub dealing_are_bytes : (d : Dealing) → is_dealing d ≡ true → are_bytes (dealing_bytes d) ≡ true
dealing_are_bytes d fits =
    let a = and_parts (is_byte d.threshold && is_digest d.secret_digest) (are_counted is_share d.shares) fits in
    let b = and_parts (is_byte d.threshold) (is_digest d.secret_digest) a.0 in
    let shares = (and_parts (nat_lt (length d.shares) 256) (list_all is_share d.shares) a.1).1 in
    bytes-append (d.threshold ∷ d.secret_digest) (counted_bytes share_bytes d.shares)
    (one_byte d.threshold d.secret_digest b.0 (sized_bytes 32 d.secret_digest b.1)) (counted_are_bytes share_bytes is_share d.shares share_are_bytes shares)

pub rule_are_bytes : (r : Rule) → are_bytes (rule_bytes r) ≡ true
rule_are_bytes r = bytes-append (little_endian 2 r.num) (little_endian 2 r.den) (number_bytes 2 r.num) (number_bytes 2 r.den)

fields_are_bytes : (a : Action) → is_action a ≡ true → are_bytes (action_fields a) ≡ true
fields_are_bytes (actions.SetMember m) fits = let both = member_parts m fits in one_byte m.number m.key both.0 (sized_bytes 60 m.key both.1)
fields_are_bytes (actions.RemoveMember number) fits = one_byte number [] (number_byte number fits) refl
fields_are_bytes (actions.SetRecoveryThreshold d) fits = dealing_are_bytes d fits
fields_are_bytes (actions.TransitionNodeToTrusted id) fits = sized_bytes 32 id fits
fields_are_bytes (actions.RemoveNode id) fits = sized_bytes 32 id fits
fields_are_bytes actions.TransitionServiceToOpen fits = refl
fields_are_bytes (actions.SetConstitution rules) fits =
    flat_bytes rule_bytes is_rule rules (λ r e. rule_are_bytes r) (and_parts (length rules == 7) (list_all is_rule rules) fits).1

action_number_byte : (a : Action) → is_byte (action_number a) ≡ true
action_number_byte (actions.SetMember m) = refl
action_number_byte (actions.RemoveMember number) = refl
action_number_byte (actions.SetRecoveryThreshold d) = refl
action_number_byte (actions.TransitionNodeToTrusted id) = refl
action_number_byte (actions.RemoveNode id) = refl
action_number_byte actions.TransitionServiceToOpen = refl
action_number_byte (actions.SetConstitution rules) = refl

pub action_are_bytes : (a : Action) → is_action a ≡ true → are_bytes (action_bytes a) ≡ true
action_are_bytes a fits = one_byte (action_number a) (action_fields a) (action_number_byte a) (fields_are_bytes a fits)
