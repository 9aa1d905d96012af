-- The genesis of a service of a schedule, and the keys of its nodes.
use Rattle.std.specs.Prelude.{ℕ, zero, suc, ◌+◌, ◌-◌, List, [], ◌∷◌, Bool, map, find, unwrap_or}
use Rattle.sha2.specs.Sha256.{sha256}
use Rattle.gl_base.specs.Bytes.{same_bytes}
use Rattle.gl_hss.specs.Tree.{signature_bytes}
use Rattle.gl_hss.specs.Secrets.{PrivateKey}
use Rattle.gl_hss.specs.Profile.{signature_by}
use Rattle.gl_requests.specs.Encoding.{node_id}
use Rattle.gl_ledger.specs.NodeKeys.{NodeKeys}
use Rattle.gl_requests.specs.declared.genesis.NewNode.{NewNode}
use Rattle.gl_requests.specs.declared.genesis.NewMember.{NewMember}
use Rattle.gl_requests.specs.declared.genesis.ShareDigest.{ShareDigest}
use Rattle.gl_requests.specs.declared.genesis.Dealing.{Dealing}
use Rattle.gl_requests.specs.declared.genesis.Genesis as request
use Rattle.gl_gov_rules.specs.Refusals.{are_keys_distinct}
use Rattle.gl_shares.specs.Dealing.{polynomials_of}
use Rattle.gl_shares.specs.Dealing as sharing
use Rattle.gl_shares.specs.declared.share.Share.{Share}
use Rattle.gl_rules.specs.Identity.{NodeId}
use Rattle.gl_world.specs.declared.settings.Settings.{Settings}
use Rattle.gl_world.specs.Keys.{private_key, lms_key, hss_key, service_seed, node_seed, member_seed, recovery_secret, deal_seed}

-- So many numbers, from the first on.
abbrev pub numbers_from : ℕ → ℕ → List ℕ
numbers_from first zero = []
numbers_from first (suc count) = first ∷ numbers_from (suc first) count

-- The LMS signature (RFC 8554, section 5.4) by a key, with one of its leaves, of a public key.
abbrev pub endorsement_by : PrivateKey → ℕ → List ℕ → List ℕ
endorsement_by k leaf key = signature_bytes k.types (signature_by k leaf key)

-- The service's key endorses that of node i, with leaf i - 1.
abbrev pub endorsement_of : Settings → ℕ → List ℕ
endorsement_of s number =
    endorsement_by (private_key (service_seed s)) (number - 1) (lms_key (node_seed s number))

-- Node i of a schedule.
abbrev pub node_of : Settings → ℕ → NewNode
node_of s number = record {
  key = lms_key (node_seed s number);
  endorsement = endorsement_of s number;
}

abbrev pub id_of : Settings → ℕ → List ℕ
id_of s number = node_id (node_of s number)

-- The identifiers of the nodes that start and of those that join, in the order of their numbers.
abbrev pub node_ids : Settings → List NodeId
node_ids s = map (id_of s) (numbers_from 1 (s.starting + s.joiners))

-- The number of the first node that has this identifier, of those that start or join; 1 if none
-- has.
abbrev pub number_of : Settings → NodeId → ℕ
number_of s x =
    unwrap_or (find (λ number. same_bytes (id_of s number) x)
    (numbers_from 1 (s.starting + s.joiners))) 1

-- The key of each node; of an identifier that is no node's, that of node 1.
abbrev pub keys_of : Settings → NodeKeys
keys_of s = record { key_of = λ x. private_key (node_seed s (number_of s x)) }

abbrev pub member_of : Settings → ℕ → NewMember
member_of s number = record { number = number; key = hss_key 1 (member_seed s number) }

-- The recovery secret is dealt among all members, and one share gives it.
abbrev pub dealt_to : Settings → ℕ → Share
dealt_to s number = sharing.share_of (polynomials_of (recovery_secret s) 1 (deal_seed s)) number

abbrev pub digest_of : Share → ShareDigest
digest_of share = record { member = share.member; digest = sha256 share.value }

-- The digest of a member's share.
abbrev pub share_of : Settings → ℕ → ShareDigest
share_of s number = digest_of (dealt_to s number)

abbrev pub dealing_of : Settings → Dealing
dealing_of s = record {
  threshold = 1;
  secret_digest = sha256 (recovery_secret s);
  shares = map (share_of s) (numbers_from 1 s.members);
}

abbrev pub genesis_of : Settings → request.Genesis
genesis_of s = record {
  state = s.state;
  identity = hss_key 2 (service_seed s);
  nodes = map (node_of s) (numbers_from 1 s.starting);
  members = map (member_of s) (numbers_from 1 s.members);
  dealing = dealing_of s;
}

-- So many members, from a number on.
abbrev pub members_from : Settings → ℕ → ℕ → List NewMember
members_from s first count = map (member_of s) (numbers_from first count)

-- No two members have one key.
abbrev pub has_distinct_keys : Settings → Bool
has_distinct_keys s = are_keys_distinct (genesis_of s).members
