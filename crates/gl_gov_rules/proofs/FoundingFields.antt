-- The parts of what a genesis in its ranges is tested for.
use Rattle.std.proofs.Common.{◌≡◌, ◌<◌, nat_lt, List, length, Bool, true, ◌&&◌, arith}
use Rattle.std.specs.List.{list_all}
use Rattle.std.proofs.lemmas.Bool.{and_parts}
use Rattle.std.proofs.lemmas.Bool.Decides.{nat_tests}
use Rattle.gl_base.specs.Bytes.{is_byte, are_sized, is_digest}
use Rattle.gl_requests.specs.Ranges.{is_signature_field, are_counted, is_node, is_member_number, is_member, is_share, is_dealing, is_first_state, is_genesis}
use Rattle.gl_requests.specs.declared.genesis.NewNode.{NewNode}
use Rattle.gl_requests.specs.declared.genesis.NewMember.{NewMember}
use Rattle.gl_requests.specs.declared.genesis.ShareDigest.{ShareDigest}
use Rattle.gl_requests.specs.declared.genesis.Genesis as founding
use Rattle.gl_gov_rules.proofs.ActionSizes.{sized_length}

-- so many that a byte counts them, each of which passes
pub counted_parts : {X : Type 0} (is : X → Bool) (xs : List X) → are_counted is xs ≡ true → (length xs < 256) × (list_all is xs ≡ true)
counted_parts is xs h =
    let both = and_parts (nat_lt (length xs) 256) (list_all is xs) h in
    (grind (arith, nat_tests, both.0), both.1)

pub node_key_length : (n : NewNode) → is_node n ≡ true → length n.key ≡ 56
node_key_length n h = sized_length 56 n.key (and_parts (are_sized 56 n.key) (is_signature_field n.endorsement) h).0

pub member_key_length : (m : NewMember) → is_member m ≡ true → length m.key ≡ 60
member_key_length m h = sized_length 60 m.key (and_parts (is_member_number m.number) (are_sized 60 m.key) h).1

pub share_digest_length : (s : ShareDigest) → is_share s ≡ true → length s.digest ≡ 32
share_digest_length s h = sized_length 32 s.digest (and_parts (is_member_number s.member) (is_digest s.digest) h).1

pub record Fields (g : founding.Genesis) : Type 0 where
  pub identity : length g.identity ≡ 60
  pub nodes : list_all is_node g.nodes ≡ true
  pub members : list_all is_member g.members ≡ true
  pub secret : length g.dealing.secret_digest ≡ 32
  pub few_shares : length g.dealing.shares < 256
  pub shares : list_all is_share g.dealing.shares ≡ true

pub fields_of : (g : founding.Genesis) → is_genesis g ≡ true → Fields g
fields_of g fits =
    let state : Bool = is_first_state g.state in
    let identity : Bool = are_sized 60 g.identity in
    let nodes : Bool = are_counted is_node g.nodes in
    let members : Bool = are_counted is_member g.members in
    let threshold : Bool = is_byte g.dealing.threshold in
    let secret : Bool = is_digest g.dealing.secret_digest in
    let a = and_parts (state && identity && nodes && members) (is_dealing g.dealing) fits in
    let b = and_parts (state && identity && nodes) members a.0 in
    let c = and_parts (state && identity) nodes b.0 in
    let d = and_parts state identity c.0 in
    let e = and_parts (threshold && secret) (are_counted is_share g.dealing.shares) a.1 in
    let f = and_parts threshold secret e.0 in
    let shares = counted_parts is_share g.dealing.shares e.1 in
    record {
      identity = sized_length 60 g.identity d.1;
      nodes = (counted_parts is_node g.nodes c.1).1;
      members = (counted_parts is_member g.members b.1).1;
      secret = sized_length 32 g.dealing.secret_digest f.1;
      few_shares = shares.0;
      shares = shares.1;
    }
