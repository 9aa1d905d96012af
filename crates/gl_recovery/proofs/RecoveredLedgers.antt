-- The ledger of a service that was recovered: it is valid, and opened by the first node that the
-- recovery names.
use Rattle.std.proofs.Common.{◌≡◌, ℕ, zero, suc, ◌+◌, ◌-◌, ◌≤◌, ◌<◌, ◌^◌, ◌||◌, List, [], ◌∷◌, ◌++◌, length, map, take, slice_get, Bool, true, Option, Some, None, Ok, append_assoc, length-append, refl, sym, ◌∙◌, ap, ap₂, subst, arith}
use Rattle.std.proofs.Math.Seq.{take-append_seam}
use Rattle.std.specs.List.{list_all}
use Rattle.std.proofs.lemmas.Bool.{and_from, and_parts}
use Rattle.sha2.specs.Sha256.{sha256}
use Rattle.gl_base.specs.Bytes.{are_bytes, are_sized}
use Rattle.gl_base.proofs.Lists.{slice_get-last}
use Rattle.gl_base.proofs.Steps.{bind_ok}
use Rattle.gl_hss.specs.Types.{height}
use Rattle.gl_hss.specs.Tree.{IsKey, key_bytes}
use Rattle.gl_hss.specs.Secrets.{PrivateKey, public_of}
use Rattle.gl_hss.specs.Signer.{StandsUnder}
use Rattle.gl_merkle.specs.Tree.{root_of}
use Rattle.gl_rules.specs.Identity.{NodeId, member}
use Rattle.gl_rules.proofs.Ids.{same_self}
use Rattle.gl_entry.specs.Entry.{is_entry}
use Rattle.gl_entry.specs.SignedMessage.{signed_message}
use Rattle.gl_entry.specs.declared.entry.Entry.{Entry}
use Rattle.gl_entry.specs.declared.fault.EntryFault.{EntryFault}
use Rattle.gl_requests.specs.Encoding.{node_id}
use Rattle.gl_requests.specs.Ranges as ranges
use Rattle.gl_requests.proofs.Sizes.{sized_length}
use Rattle.gl_requests.specs.declared.genesis.NewNode.{NewNode}
use Rattle.gl_requests.specs.declared.genesis.Recovery.{Recovery}
use Rattle.gl_gov_rules.specs.declared.change.Recorded.{Recorded}
use Rattle.gl_gov_rules.specs.Changes.{history}
use Rattle.gl_gov_rules.specs.Nodes as nodes
use Rattle.gl_gov_rules.specs.Refusals.{are_endorsed}
use Rattle.gl_gov_rules.specs.Signatures.{is_endorsed}
use Rattle.gl_gov_rules.proofs.Digests.{sha256_digest}
use Rattle.gl_gov_rules.proofs.Endorsements.{endorsement_means}
use Rattle.gl_ledger.specs.Audit.{LedgerFault, audited, opened, opened_unless, opened_where, signer_of}
use Rattle.gl_ledger.specs.Past.{is_unopened, last_signed, signs_at}
use Rattle.gl_ledger.specs.Broken.{broken}
use Rattle.gl_ledger.specs.Ledger.{message_after, signature_entry}
use Rattle.gl_ledger.specs.NodeKeys.{IsNodeKey, NodeKeys, node_signature_fault, service_layers}
use Rattle.gl_ledger.specs.Recordings.{last_entry, trusted_nodes}
use Rattle.gl_ledger.specs.Recovery.{recovery_entry, recovery_result, recovery_view, with_recovery}
use Rattle.gl_ledger.specs.ServiceRow.{identity_in}
use Rattle.gl_ledger.specs.Sound.{IsSound}
use Rattle.gl_ledger.specs.Tree.{leaves_of, tables_of}
use Rattle.gl_ledger.proofs.Auditing.{audited_none}
use Rattle.gl_ledger.proofs.Gathering.{requests-quiet}
use Rattle.gl_ledger.proofs.NodeSignatures.{node_bytes, node_short, node_signs}
use Rattle.gl_ledger.proofs.Passing.{passing}
use Rattle.gl_ledger.proofs.RecoveryLaws.{recovery_begins, recovery_identity, recovery_trusted, recovery_unbroken, reopening_unbroken}
use Rattle.gl_ledger.proofs.Roots.{root_is_digest}
use Rattle.gl_ledger.proofs.SignatureEntries.{signed_fits}
use Rattle.gl_ledger.proofs.TablesLaws.{tables_of-push}
use Rattle.gl_ledger.proofs.Valid.{valid-push, valid_sound}
use Rattle.gl_entry.specs.LedgerFile.{LedgerFile, ledger_file}
use Rattle.gl_entry.proofs.EncodedEntries.{file_of_frames}
use Rattle.gl_audit.proofs.Cutting.{audited-take}
use Rattle.gl_recovery.specs.OldLedger.{has_room, signed_prefix, unless_broken, unless_empty, unless_unread, valid_ledger, with_signature}
use Rattle.gl_recovery.specs.ExpectedOutput.{IsFirstKey, expected_recovery, first_endorsement, id_of, recovered_from, refounded, reopening_signature, unless_refused}
use Rattle.gl_recovery.specs.Refounded.{IsRefounded}
use Rattle.gl_recovery.proofs.Accepted.{acceptable, first_endorsed, made_entry, made_of}
use Rattle.gl_recovery.proofs.SignedPrefixes.{HasRoom, prefix_signed, room_found, signature_found}

-- ---- the old ledger

record IsValid (file : LedgerFile) (ledger : List Entry) : Type 0 where
  entries : file.entries ≡ ledger
  valid : audited service_layers ledger ≡ None

valid_found : (file : LedgerFile) (ledger : List Entry) → valid_ledger file ≡ Ok ledger → IsValid file ledger
unfolding valid_ledger
valid_found file ledger is = go (audited service_layers file.entries) file.fault refl is
  where
    some : (es : List Entry) → unless_empty es (Ok file.entries) ≡ Ok ledger → file.entries ≡ ledger
    some [] is = absurd cc
    some (e ∷ es) is = cc

    go : (o : Option LedgerFault) (f : Option EntryFault) → audited service_layers file.entries ≡ o → unless_broken o (unless_unread (suc (length file.entries)) f (unless_empty file.entries (Ok file.entries))) ≡ Ok ledger → IsValid file ledger
    go (Some fault) f found is = absurd cc
    go None (Some fault) found is = absurd cc
    go None None found is =
        let same = some file.entries is in
        record { entries = same; valid = subst (λ (es : List Entry). audited service_layers es ≡ None) same found }

-- ---- entries of a valid ledger

all_fit : (xs : List Entry) → ((i : ℕ) (e : Entry) → slice_get xs i ≡ Some e → is_entry e ≡ true) → list_all is_entry xs ≡ true
all_fit [] each = refl
all_fit (e ∷ es) each = and_from (is_entry e) (list_all is_entry es) (each zero e refl) (all_fit es (λ i f at. each (suc i) f at))

valid_fits : (ledger : List Entry) → audited service_layers ledger ≡ None → list_all is_entry ledger ≡ true
valid_fits ledger valid = all_fit ledger (λ i e at. (passing service_layers (take i ledger) e (audited_none service_layers ledger valid i e at)).fits)

-- ---- a ledger that ends with an opening

opened_after : (before : List Entry) (e : Entry) (x : NodeId) → audited service_layers (before ++ e ∷ []) ≡ None → is_unopened (last_entry before) ≡ true → signer_of (Some e) ≡ Some x →
    opened service_layers (before ++ e ∷ []) ≡ Ok x
unfolding opened
opened_after before e x valid begins signs =
    let all : List Entry = before ++ e ∷ [] in
    let after : length all ≡ length before + 1 = length-append before (e ∷ []) in
    let last : length all - 1 ≡ length before = omega (arith, after) in
    ap (λ (o : Option LedgerFault). opened_unless service_layers o all) valid
    ∙ ap (λ (j : ℕ). opened_where (is_unopened (last_entry (take j all))) (signer_of (slice_get all j)) (length all)) last
    ∙ ap (λ (es : List Entry). opened_where (is_unopened (last_entry es)) (signer_of (slice_get all (length before))) (length all)) (take-append_seam before (e ∷ []))
    ∙ ap (λ (o : Option Entry). opened_where (is_unopened (last_entry before)) (signer_of o) (length all)) (slice_get-last before e)
    ∙ ap (λ (b : Bool). opened_where b (signer_of (Some e)) (length all)) begins
    ∙ ap (λ (o : Option NodeId). opened_where true o (length all)) signs

-- ---- the first node

-- the fields of a recovery, and of its first node
fields : (r : Recovery) → ranges.is_recovery r ≡ true → (are_sized 60 r.identity ≡ true) × (list_all ranges.is_node r.nodes ≡ true)
fields r fits =
    let both = and_parts (are_sized 60 r.identity) (ranges.are_counted ranges.is_node r.nodes) fits in
    (both.0, (and_parts _ (list_all ranges.is_node r.nodes) both.1).1)

record IsFirst (r : Recovery) (by : PrivateKey) : Type 0 where
  first : NewNode
  rest : List NewNode
  nodes : r.nodes ≡ first ∷ rest
  same : first.key ≡ key_bytes (public_of by)

first_of : (r : Recovery) (by : PrivateKey) → 1 ≤ length r.nodes → IsFirstKey by r.nodes → IsFirst r by
first_of r by some own = go r.nodes refl some own
  where
    go : (ns : List NewNode) → r.nodes ≡ ns → 1 ≤ length ns → IsFirstKey by ns → IsFirst r by
    go [] is some own = absurd (omega (arith, some))
    go (n ∷ ns) is some own = record { first = n; rest = ns; nodes = is; same = own }

node_bytes_of : (n : NewNode) → ranges.is_node n ≡ true → (are_bytes n.key ≡ true) × (are_bytes n.endorsement ≡ true)
node_bytes_of n is =
    let both = and_parts (are_sized 56 n.key) (ranges.is_signature_field n.endorsement) is in
    ((and_parts _ (are_bytes n.key) both.0).1, (and_parts (are_bytes n.endorsement) _ both.1).0)

-- ---- after what is signed

-- the key of the first node signs with one of its leaves
record Signs (r : Recovery) (by : PrivateKey) (leaf : ℕ) : Type 0 where
  fits : ranges.is_recovery r ≡ true
  own : IsFirstKey by r.nodes
  form : IsKey (public_of by)
  low : leaf < 2 ^ height by.types

module _ (r : Recovery) (by : PrivateKey) (leaf : ℕ) (h : Signs r by leaf) (ledger : List Entry) (valid : audited service_layers ledger ≡ None) (signed : signs_at (last_entry ledger) ≡ true) (room : HasRoom ledger)
    (accepted : recovery_result r ledger ≡ Ok (recovery_entry r ledger)) where
  sound : IsSound service_layers ledger
  sound = valid_sound service_layers ledger valid

  first : IsFirst r by
  first = first_of r by (acceptable r ledger accepted).some h.own

  abbrev endorsement : List ℕ
  endorsement = first_endorsement r.nodes

  endorsement_is : endorsement ≡ first.first.endorsement
  endorsement_is = ap first_endorsement first.nodes

  abbrev keys : NodeKeys
  keys = record { key_of = λ x. by }

  abbrev x : NodeId
  x = id_of by

  fit : ranges.is_node first.first ≡ true
  fit =
      let all : list_all ranges.is_node (first.first ∷ first.rest) ≡ true = subst (λ (ns : List NewNode). list_all ranges.is_node ns ≡ true) first.nodes (fields r h.fits).1 in
      (and_parts (ranges.is_node first.first) (list_all ranges.is_node first.rest) all).0

  endorsed : is_endorsed r.identity (key_bytes (public_of by)) endorsement ≡ true
  endorsed =
      let all : are_endorsed r.identity (first.first ∷ first.rest) ≡ true = subst (λ (ns : List NewNode). are_endorsed r.identity ns ≡ true) first.nodes (acceptable r ledger accepted).endorsed in
      ap₂ (is_endorsed r.identity) (sym first.same) endorsement_is ∙ first_endorsed r.identity first.first first.rest all

  is_node_key : IsNodeKey keys endorsement r.identity x
  unfolding StandsUnder
  is_node_key =
      let sized = (fields r h.fits).0 in
      let bytes : are_bytes endorsement ≡ true = ap are_bytes endorsement_is ∙ (node_bytes_of first.first fit).1 in
      record {
        form = h.form;
        stands = (endorsement_means r.identity (key_bytes (public_of by)) endorsement (sized_length 60 r.identity sized) (and_parts _ (are_bytes r.identity) sized).1 bytes).0 endorsed;
        named = refl;
        key = ap are_bytes (sym first.same) ∙ (node_bytes_of first.first fit).0;
        bytes = bytes;
      }

  named : member x (map node_id r.nodes) ≡ true
  named =
      ap (λ (ns : List NewNode). member x (map node_id ns)) first.nodes
      ∙ ap (λ (key : List ℕ). member (sha256 key) (map node_id (first.first ∷ first.rest))) (sym first.same)
      ∙ ap (λ (b : Bool). b || member (node_id first.first) (map node_id first.rest)) (same_self (node_id first.first))

  -- ---- the signature

  abbrev before : List Entry
  before = with_recovery r ledger

  abbrev message : List ℕ
  message = message_after before (recovery_view ledger) (length ledger + 2)

  abbrev signature : List ℕ
  signature = reopening_signature r by leaf ledger

  abbrev opening : Entry
  opening = signature_entry x signature before (recovery_view ledger) (length ledger + 2)

  long : length before ≡ length ledger + 1
  long = length-append ledger (recovery_entry r ledger ∷ [])

  key_in_force : identity_in (tables_of before) ≡ r.identity
  key_in_force = recovery_identity service_layers ledger r sound signed room.view room.left h.fits accepted

  entry : is_entry opening ≡ true
  entry =
      let left = room.left in
      signed_fits x (root_of (leaves_of before)) signature (recovery_view ledger) (length before + 1) (length ledger + 2)
      (sha256_digest (key_bytes (public_of by))) (root_is_digest before (omega (arith, long))) room.view (omega (arith, long, left)) (omega (arith, left))
      (node_bytes keys endorsement r.identity x leaf message is_node_key) (node_short keys endorsement r.identity x leaf message is_node_key h.low)

  opening_unbroken : broken service_layers before opening ≡ None
  opening_unbroken =
      reopening_unbroken service_layers ledger r sound signed room.view room.left h.fits accepted x signature named entry
      (ap (λ (key : List ℕ). node_signature_fault key x (signed_message (root_of (leaves_of before)) (recovery_view ledger) (length before + 1) (length ledger + 2)) signature) key_in_force
      ∙ node_signs keys endorsement r.identity x leaf message is_node_key h.low)

  -- ---- the ledger

  all_valid : audited service_layers (refounded r by leaf ledger) ≡ None
  all_valid =
      valid-push service_layers before opening
      (valid-push service_layers ledger (recovery_entry r ledger) valid (recovery_unbroken service_layers ledger r sound signed room.view room.left h.fits accepted)) opening_unbroken

  opens : opened service_layers (refounded r by leaf ledger) ≡ Ok x
  opens = opened_after before opening x all_valid (recovery_begins service_layers ledger r sound signed room.view room.left h.fits accepted) refl

  identity : identity_in (tables_of (refounded r by leaf ledger)) ≡ r.identity
  identity = ap identity_in (tables_of-push before opening) ∙ key_in_force

  trusted : trusted_nodes (refounded r by leaf ledger) ≡ map node_id r.nodes
  unfolding trusted_nodes
  trusted =
      ap (λ (rs : List Recorded). nodes.trusted (history rs)) (requests-quiet before opening tt)
      ∙ recovery_trusted service_layers ledger r sound signed room.view room.left h.fits accepted

  kept : refounded r by leaf ledger ≡ ledger ++ recovery_entry r ledger ∷ opening ∷ []
  kept = append_assoc ledger (recovery_entry r ledger ∷ []) (opening ∷ [])

-- ---- what is reported

module _ (r : Recovery) (by : PrivateKey) (leaf : ℕ) (h : Signs r by leaf) where
  after : (old prefix ledger : List Entry) → audited service_layers old ≡ None → 0 < last_signed old → signed_prefix old ≡ prefix → HasRoom prefix →
      recovery_result r prefix ≡ Ok (recovery_entry r prefix) → refounded r by leaf prefix ≡ ledger → IsRefounded r by old ledger
  after old prefix ledger valid some prefix_is room accepted reported =
      let prefix_valid : audited service_layers prefix ≡ None = subst (λ (es : List Entry). audited service_layers es ≡ None) prefix_is (audited-take service_layers old (last_signed old) valid) in
      let signed : signs_at (last_entry prefix) ≡ true = subst (λ (es : List Entry). signs_at (last_entry es) ≡ true) prefix_is (prefix_signed old some) in
      subst (IsRefounded r by old) reported (record {
        valid = valid;
        signed = some;
        recovery = recovery_entry r prefix;
        opening = opening r by leaf h prefix prefix_valid signed room accepted;
        kept = kept r by leaf h prefix prefix_valid signed room accepted
            ∙ ap (λ (es : List Entry). es ++ recovery_entry r prefix ∷ opening r by leaf h prefix prefix_valid signed room accepted ∷ []) (sym prefix_is);
        opens = opens r by leaf h prefix prefix_valid signed room accepted;
        identity = identity r by leaf h prefix prefix_valid signed room accepted;
        nodes = trusted r by leaf h prefix prefix_valid signed room accepted;
        file = file_of_frames (refounded r by leaf prefix) (valid_fits (refounded r by leaf prefix) (all_valid r by leaf h prefix prefix_valid signed room accepted));
      })

  from_valid : (old ledger : List Entry) → audited service_layers old ≡ None → recovered_from r by leaf old ≡ Ok ledger → IsRefounded r by old ledger
  from_valid old ledger valid is =
      let prefix = bind_ok (with_signature old) _ ledger is in
      let room = bind_ok (has_room prefix.0) _ ledger prefix.2 in
      let made = bind_ok (unless_refused (recovery_result r prefix.0)) _ ledger room.2 in
      let found = signature_found old prefix.0 prefix.1 in
      let entry_is : made.0 ≡ recovery_entry r prefix.0 = made_entry r prefix.0 made.0 (made_of (recovery_result r prefix.0) made.0 made.1) in
      let reported : refounded r by leaf prefix.0 ≡ ledger = let w = made.2 in cc in
      after old prefix.0 ledger valid found.some found.prefix_is (room_found prefix.0 room.0 room.1)
      (made_of (recovery_result r prefix.0) made.0 made.1 ∙ ap Ok entry_is) reported

  from_bytes : (bytes : List ℕ) (ledger : List Entry) → expected_recovery r by leaf bytes ≡ Ok ledger → IsRefounded r by (ledger_file bytes).entries ledger
  unfolding expected_recovery
  from_bytes bytes ledger is =
      let old = bind_ok (valid_ledger (ledger_file bytes)) _ ledger is in
      let found = valid_found (ledger_file bytes) old.0 old.1 in
      subst (λ (es : List Entry). IsRefounded r by es ledger) (sym found.entries) (from_valid old.0 ledger found.valid old.2)

pub is_refounded : (r : Recovery) (by : PrivateKey) (leaf : ℕ) (bytes : List ℕ) (ledger : List Entry) → ranges.is_recovery r ≡ true → IsFirstKey by r.nodes → IsKey (public_of by) → leaf < 2 ^ height by.types →
    expected_recovery r by leaf bytes ≡ Ok ledger → IsRefounded r by (ledger_file bytes).entries ledger
is_refounded r by leaf bytes ledger fits own form low is = from_bytes r by leaf (record { fits = fits; own = own; form = form; low = low }) bytes ledger is
