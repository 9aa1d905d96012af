-- What is reported, as those see it who take it.
use Rattle.std.specs.Prelude.{◌≡◌, ◌⊎◌, ℕ, List, [], ◌∷◌, ◌++◌, Some, Ok, true}
use Rattle.std.specs.List.{flat_map}
use Rattle.sha2.specs.Sha256.{sha256}
use Rattle.serde_json.specs.Written.{compact_text}
use Rattle.gl_entry.specs.Entry.{frame_bytes}
use Rattle.gl_entry.specs.declared.entry.Entry.{Entry}
use Rattle.gl_requests.specs.Encoding.{request_bytes}
use Rattle.gl_requests.specs.declared.request.MemberRequest.{MemberRequest}
use Rattle.gl_requests.specs.declared.request.GovernanceRequest.TheVariants as requests
use Rattle.gl_gov_rules.specs.Signatures.{is_endorsed, is_signed}
use Rattle.gl_ledger.specs.Audit.{opened}
use Rattle.gl_ledger.specs.NodeKeys.{service_layers}
use Rattle.gl_forms.specs.Key.{key_tree}
use Rattle.gl_forms.specs.declared.key.KeyForm.TheVariants as forms
use Rattle.gl_journal.specs.declared.key.Key.{Key}
use Rattle.gl_keyfile.specs.Form.{hss_key, lms_key}

-- A node's key in its form, which the service with this key endorses (RFC 8554, section 6.3).
pub record IsEndorsement (key : Key) (reported : List ℕ) : Type 0 where
  pub node_key : List ℕ
  pub id : List ℕ
  pub endorsement : List ℕ
  pub reported_is : reported
      ≡ compact_text (key_tree (forms.Node node_key id (Some endorsement))) ++ 10 ∷ []
  pub valid : is_endorsed (hss_key 2 key) node_key endorsement ≡ true

-- Another key has the same SHA-256 digest.
abbrev pub HasTwin : List ℕ → Type 0
HasTwin key = (other : List ℕ) × (sha256 other ≡ sha256 key) × (other ≡ key → ⊥)

-- The frames of a ledger that the check of an opening takes as signed by the node with this key; or
-- two keys have one digest, as nodes are told apart by that.
pub record IsOpening (key : Key) (reported : List ℕ) : Type 0 where
  pub ledger : List Entry
  pub reported_is : reported ≡ flat_map frame_bytes ledger
  pub opens : (opened service_layers ledger ≡ Ok (sha256 (lms_key key))) ⊎ HasTwin (lms_key key)

-- A request of the member with a number, signed by its key, in the service with another.
pub record IsRequest (key : Key) (identity : List ℕ) (number : ℕ) (reported : List ℕ) : Type 0 where
  pub request : MemberRequest
  pub reported_is : reported ≡ request_bytes (requests.Member request)
  pub of_member : request.member ≡ number
  pub signed : is_signed (hss_key 1 key) identity request ≡ true
