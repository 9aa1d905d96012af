-- The expected output for a text by a key file that opened to a state: what is reported, or the
-- refusal.
use Rattle.std.specs.Prelude.{ℕ, ◌^◌, List, [], ◌∷◌, ◌++◌, Option, None, Some, Result, Ok, Err, nat_le, replicate, if◌then◌else◌}
use Rattle.std.specs.List.{flat_map}
use Rattle.sha2.specs.Sha256.{sha256}
use Rattle.serde_json.specs.Written.{compact_text}
use Rattle.gl_base.specs.Bytes.{same_bytes}
use Rattle.gl_base.specs.Steps.{◌>>=◌}
use Rattle.gl_base.specs.declared.json.FormsFault.{FormsFault}
use Rattle.gl_hss.specs.Types.{height}
use Rattle.gl_hss.specs.Tree.{key_bytes, signature_bytes}
use Rattle.gl_hss.specs.Secrets.{PrivateKey, public_of}
use Rattle.gl_hss.specs.declared.types.Types.{Types}
use Rattle.gl_hss.specs.Profile.{key_of_seed, signature_by}
use Rattle.gl_hss.specs.Signer.{hss_signature}
use Rattle.gl_rules.specs.World.{first_view}
use Rattle.gl_entry.specs.Entry.{frame_bytes, no_digest}
use Rattle.gl_entry.specs.declared.entry.Content.TheVariants as content
use Rattle.gl_entry.specs.declared.entry.Entry.{Entry}
use Rattle.gl_requests.specs.Encoding.{node_id, request_bytes, signed_bytes}
use Rattle.gl_requests.specs.declared.genesis.NewNode.{NewNode}
use Rattle.gl_requests.specs.declared.genesis.Genesis as founding
use Rattle.gl_requests.specs.declared.request.MemberAct.{MemberAct}
use Rattle.gl_requests.specs.declared.request.MemberRequest.{MemberRequest}
use Rattle.gl_requests.specs.declared.request.GovernanceRequest.TheVariants as requests
use Rattle.gl_gov_rules.specs.History.{no_history}
use Rattle.gl_gov_rules.specs.Refusals.{genesis_refusal}
use Rattle.gl_gov_rules.specs.declared.refusal.GovernanceRefusal.{GovernanceRefusal}
use Rattle.gl_gov_rules.specs.declared.refusal.GovernanceRefusal.TheVariants as refusals
use Rattle.gl_ledger.specs.Ledger.{genesis_entry, message_after, opening_ledger}
use Rattle.gl_forms.specs.Key.{key_tree}
use Rattle.gl_forms.specs.declared.key.KeyForm.TheVariants as forms
use Rattle.gl_journal.specs.Durable.{Durable}
use Rattle.gl_journal.specs.declared.key.Key.{Key}
use Rattle.gl_keyfile.specs.declared.signature.Signing.{Signing}
use Rattle.gl_consortium.specs.Texts.{read}
use Rattle.gl_consortium.specs.declared.document.Document.{Document}
use Rattle.gl_consortium.specs.declared.document.Document.TheVariants.{NodeKey, Settings, Act}
use Rattle.gl_consortium.specs.declared.fault.SigningFault.{SigningFault}
use Rattle.gl_consortium.specs.declared.fault.SigningFault.TheVariants as faults

-- What is reported, with a leaf of a private key

-- The endorsement of a node's key: the LMS signature of its bytes (RFC 8554, section 5.4), as it
-- stands in the upper level of what the node signs (section 6.2).
abbrev pub endorsement_by : PrivateKey → ℕ → List ℕ → List ℕ
endorsement_by by leaf node_key = signature_bytes by.types (signature_by by leaf node_key)

-- A node's key in its form, with that endorsement, and a newline after it.
unfoldable pub endorsement_line : PrivateKey → ℕ → List ℕ → List ℕ → List ℕ
endorsement_line by leaf node_key id =
    compact_text (key_tree (forms.Node node_key id (Some (endorsement_by by leaf node_key))))
    ++ 10 ∷ []

-- The identifier of the first node, zero bytes where there is none.
abbrev pub first_id : List NewNode → List ℕ
first_id [] = replicate 32 0
first_id (n ∷ ns) = node_id n

-- The endorsement of the first node.
abbrev pub first_endorsement : List NewNode → List ℕ
first_endorsement [] = []
first_endorsement (n ∷ ns) = n.endorsement

-- A node's identifier is the digest of its LMS key.
abbrev pub id_of : PrivateKey → List ℕ
id_of by = sha256 (key_bytes (public_of by))

-- What signs the genesis: an HSS signature of two levels (RFC 8554, section 6.2), with the
-- endorsement of the first node, over what a node signs after the genesis.
abbrev pub opening_signature : PrivateKey → ℕ → founding.Genesis → List ℕ
opening_signature by leaf g =
    hss_signature by (Some (first_endorsement g.nodes)) leaf
    (message_after (genesis_entry g ∷ []) first_view 2)

-- The entry of the signature that opens a service: by this node, over this root.
abbrev pub opening_entry : List ℕ → List ℕ → List ℕ → Entry
opening_entry node root signature = record {
  view = 2;
  seqno = 2;
  content = content.Signature (record {
    node = node;
    commit = 2;
    root = root;
    signature = signature;
  });
  writes = [];
  claims = no_digest;
}

-- The opening ledger of settings: their genesis, and that signature.
abbrev pub opening_of : PrivateKey → ℕ → founding.Genesis → List Entry
opening_of by leaf g = opening_ledger g (id_of by) (opening_signature by leaf g)

-- Its entries' frames, one after the other.
unfoldable pub opening_bytes : PrivateKey → ℕ → founding.Genesis → List ℕ
opening_bytes by leaf g = flat_map frame_bytes (opening_of by leaf g)

-- What a member asks for, before it is signed.
abbrev pub unsigned : ℕ → MemberAct → MemberRequest
unsigned number act = record { member = number; act = act; signature = [] }

-- The request of the member with a number to the service with a key, with an HSS signature of one
-- level.
abbrev pub signed_request : PrivateKey → ℕ → List ℕ → ℕ → MemberAct → MemberRequest
signed_request by leaf identity number act = record {
  member = number;
  act = act;
  signature = hss_signature by None leaf (signed_bytes identity (unsigned number act));
}

-- Its bytes.
unfoldable pub request_line : PrivateKey → ℕ → List ℕ → ℕ → MemberAct → List ℕ
request_line by leaf identity number act =
    request_bytes (requests.Member (signed_request by leaf identity number act))

-- Refusals

-- The key is that of the first node.
abbrev pub is_first_node : PrivateKey → List NewNode → Result (Unit {0}) SigningFault
is_first_node by nodes =
    if same_bytes (first_id nodes) (id_of by) then Ok tt
    else Err (faults.NotFirstNode (first_id nodes) (id_of by))

-- A key of these types has a leaf with this number: it has 2^h (RFC 8554, section 5.1).
abbrev pub has_leaf : Types → ℕ → Result (Unit {0}) SigningFault
has_leaf types leaf =
    if nat_le (2 ^ height types) leaf then Err (faults.KeyExhausted leaf) else Ok tt

-- A genesis is refused for an action or for a signature, and for nothing else.
abbrev pub founding_fault : GovernanceRefusal → SigningFault
founding_fault (refusals.BadAction index cause) = faults.BadAction index cause
founding_fault other = faults.Signature

abbrev pub unless_refused : Option GovernanceRefusal → Result (Unit {0}) SigningFault
unless_refused None = Ok tt
unless_refused (Some why) = Err (founding_fault why)

-- The genesis of settings is accepted after no request.
unfoldable pub is_accepted : founding.Genesis → Result (Unit {0}) SigningFault
is_accepted g = unless_refused (genesis_refusal no_history g)

-- What is owed

-- The private key that grows from the seed of a key.
abbrev pub private_key : Key → PrivateKey
private_key key = key_of_seed key.types key.seed

-- The expected output for an opening: the key is that of the first node, it has a leaf left, and
-- the genesis is accepted.
unfoldable pub expected_opening : Key → ℕ → founding.Genesis → Result (List ℕ) SigningFault
expected_opening key leaf g = do
  first ← is_first_node (private_key key) g.nodes
  left ← has_leaf key.types leaf
  accepted ← is_accepted g
  Ok (opening_bytes (private_key key) leaf g)

-- The expected output for what was read, by a key of which so many leaves are spent.
unfoldable pub expected_for : Key → ℕ → Document → Result (List ℕ) SigningFault
expected_for key leaf (NodeKey node_key id) =
    has_leaf key.types leaf >>= λ left. Ok (endorsement_line (private_key key) leaf node_key id)
expected_for key leaf (Settings g) = expected_opening key leaf g
expected_for key leaf (Act identity number act) =
    has_leaf key.types leaf >>= λ left.
    Ok (request_line (private_key key) leaf identity number act)

-- What is read, or why the text has another form.
abbrev pub in_form : Result Document FormsFault → Result Document SigningFault
in_form (Ok document) = Ok document
in_form (Err fault) = Err (faults.Form fault)

-- The expected output for a text by a key file that opened to a state, with the next leaf of its
-- key: what is reported, or the first refusal.
unfoldable pub expected_output : Signing → Durable → List ℕ → Result (List ℕ) SigningFault
expected_output signing state text = in_form (read signing text)
    >>= expected_for state.key state.reserved
