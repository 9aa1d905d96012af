-- An endorsement that is reported is valid, and a request that is reported is signed.
use Rattle.std.proofs.Common.{◌≡◌, ℕ, ◌<◌, ◌≤◌, ◌^◌, ◌==◌, ◌&&◌, List, Bool, true, None, Ok, refl, sym, ap, ap₂, subst, arith}
use Rattle.std.specs.Prelude.{is_ok}
use Rattle.std.proofs.lemmas.Bool.Decides.{nat_tests}
use Rattle.gl_base.specs.Steps.{◌>>=◌}
use Rattle.gl_base.proofs.Steps.{bind_ok, ok_injective}
use Rattle.gl_hss.specs.Bytes.{number_at, u32str}
use Rattle.gl_hss.specs.Types.{height}
use Rattle.gl_hss.specs.Secrets.{public_of}
use Rattle.gl_hss.proofs.Octets.{seed_IsKey}
use Rattle.gl_hss.proofs.ValidSignatures.{signature_by-Signs}
use Rattle.gl_hss.specs.Hss.{IsEndorsed, IsHssKey, IsValid}
use Rattle.gl_hss.specs.Signer.{StandsUnder}
use Rattle.gl_hss.proofs.Endorsements.{endorsement_there}
use Rattle.gl_hss.proofs.Signers.{signer-IsValid}
use Rattle.gl_hss.proofs.Verdicts.{hss_key_stands, valid_verdict}
use Rattle.gl_requests.specs.Encoding.{signed_bytes}
use Rattle.gl_requests.specs.declared.request.MemberAct.{MemberAct}
use Rattle.gl_gov_rules.specs.Signatures.{is_endorsed, is_signed}
use Rattle.gl_journal.specs.Durable.{Durable}
use Rattle.gl_journal.specs.declared.key.Key.{Key}
use Rattle.gl_keyfile.specs.Form.{hss_key}
use Rattle.gl_keyfile.specs.declared.signature.Signing.TheVariants.{Endorsement, Request}
use Rattle.gl_consortium.specs.ExpectedOutput.{endorsement_by, endorsement_line, expected_for, expected_output, has_leaf, private_key, request_line, signed_request}
use Rattle.gl_consortium.specs.Laws.{IsEndorsement, IsRequest}
use Rattle.gl_consortium.specs.declared.document.Document.{Document}
use Rattle.gl_consortium.specs.declared.document.Document.TheVariants.{NodeKey, Act}
use Rattle.gl_consortium.proofs.ExpectedOutputLaws.{below_of_reported, read_of_reported}
use Rattle.gl_consortium.proofs.TextForms.{act_read, node_key_read}

module _ (key : Key) (leaf : ℕ) (below : leaf < 2 ^ height key.types) where
  -- the HSS key of so many levels
  of_levels : (levels : ℕ) → 1 ≤ levels → levels ≤ 2 → IsHssKey (hss_key levels key) levels (public_of (private_key key))
  of_levels levels some few = record { encoded = refl; form = seed_IsKey key.types key.seed; some = some; few = few }

  -- the service's key endorses
  endorses : (node_key : List ℕ) → IsEndorsed (hss_key 2 key) node_key (endorsement_by (private_key key) leaf node_key)
  endorses node_key = record {
    top = public_of (private_key key);
    leaf = leaf;
    of_key = of_levels 2 (omega arith) (omega arith);
    signs = signature_by-Signs (private_key key) leaf node_key (endorsement_by (private_key key) leaf node_key) below refl;
  }

  pub is_endorsed_by : (node_key : List ℕ) → is_endorsed (hss_key 2 key) node_key (endorsement_by (private_key key) leaf node_key) ≡ true
  unfolding is_endorsed
  is_endorsed_by node_key = ap is_ok (endorsement_there (hss_key 2 key) node_key (endorsement_by (private_key key) leaf node_key) (endorses node_key))

  -- the member's key signs
  signs : (identity : List ℕ) (number : ℕ) (act : MemberAct) → IsValid (hss_key 1 key) (signed_bytes identity (signed_request (private_key key) leaf identity number act)) (signed_request (private_key key) leaf identity number act).signature
  unfolding StandsUnder
  signs identity number act =
      let request = signed_request (private_key key) leaf identity number act in
      signer-IsValid (private_key key) None request.signature leaf (signed_bytes identity request) (hss_key 1 key) (seed_IsKey key.types key.seed) below refl refl

  pub is_signed_by : (identity : List ℕ) (number : ℕ) (act : MemberAct) → is_signed (hss_key 1 key) identity (signed_request (private_key key) leaf identity number act) ≡ true
  unfolding is_signed
  is_signed_by identity number act =
      let request = signed_request (private_key key) leaf identity number act in
      let one = (hss_key_stands (hss_key 1 key) (public_of (private_key key)) 1 (of_levels 1 (omega arith) (omega arith))).named in
      let named : (number_at (hss_key 1 key) 0 == 1) ≡ true = grind (arith, nat_tests, one) in
      ap₂ (λ (a b : Bool). a && b) named (ap is_ok (valid_verdict (hss_key 1 key) (signed_bytes identity request) request.signature (signs identity number act)))

endorsement_reported : (key : Key) (leaf : ℕ) (node_key id reported : List ℕ) → expected_for key leaf (NodeKey node_key id) ≡ Ok reported → IsEndorsement key reported
unfolding expected_for endorsement_line
endorsement_reported key leaf node_key id reported is =
    let found = bind_ok (has_leaf key.types leaf) _ reported is in
    record {
      node_key = node_key;
      id = id;
      endorsement = endorsement_by (private_key key) leaf node_key;
      reported_is = sym (ok_injective (endorsement_line (private_key key) leaf node_key id) reported found.2);
      valid = is_endorsed_by key leaf (below_of_reported key leaf (NodeKey node_key id) reported is) node_key;
    }

pub endorsed : (state : Durable) (text reported : List ℕ) → expected_output Endorsement state text ≡ Ok reported → IsEndorsement state.key reported
endorsed state text reported is =
    let found = read_of_reported Endorsement state text reported is in
    let document = node_key_read text found.0 found.1 in
    endorsement_reported state.key state.reserved document.0 document.1 reported (subst (λ (d : Document). expected_for state.key state.reserved d ≡ Ok reported) document.2 found.2)

request_reported : (key : Key) (leaf : ℕ) (identity : List ℕ) (number : ℕ) (act : MemberAct) (reported : List ℕ) → expected_for key leaf (Act identity number act) ≡ Ok reported → IsRequest key identity number reported
unfolding expected_for request_line
request_reported key leaf identity number act reported is =
    let found = bind_ok (has_leaf key.types leaf) _ reported is in
    record {
      request = signed_request (private_key key) leaf identity number act;
      reported_is = sym (ok_injective (request_line (private_key key) leaf identity number act) reported found.2);
      of_member = refl;
      signed = is_signed_by key leaf (below_of_reported key leaf (Act identity number act) reported is) identity number act;
    }

pub signed : (identity : List ℕ) (number : ℕ) (state : Durable) (text reported : List ℕ) → expected_output (Request identity number) state text ≡ Ok reported → IsRequest state.key identity number reported
signed identity number state text reported is =
    let found = read_of_reported (Request identity number) state text reported is in
    let document = act_read identity number text found.0 found.1 in
    request_reported state.key state.reserved identity number document.0 reported (subst (λ (d : Document). expected_for state.key state.reserved d ≡ Ok reported) document.1 found.2)
