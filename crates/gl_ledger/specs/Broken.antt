-- The rules of the audit, and the first of them that an entry breaks, by what is read of the
-- entries before it. A ledger is valid where no entry of it breaks one after those before it. A
-- node refuses an entry from another node for the same answer.
use Rattle.std.specs.Prelude.{ℕ, zero, suc, ◌+◌, List, [], ◌∷◌, ◌++◌, Option, None, Some, Result, Ok, Err, Bool, true, false, not, ◌&&◌, ◌||◌, ◌==◌, nat_le, length, if◌then◌else◌}
use Rattle.std.specs.List.{list_all, flat_map}
use Rattle.sha2.specs.Sha256.{sha256}
use Rattle.gl_base.specs.LittleEndian.{little_endian}
use Rattle.gl_base.specs.Bytes.{same_bytes}
use Rattle.gl_base.specs.TxId.{last_seqno}
use Rattle.gl_hss.specs.declared.fault.HssFault.{HssFault}
use Rattle.gl_rules.specs.Identity.{NodeId, member}
use Rattle.gl_rules.specs.World.{first_view}
use Rattle.gl_vmaps.specs.Changes.{changes}
use Rattle.gl_vmaps.specs.declared.write.Write.{Write}
use Rattle.gl_tx.specs.Request.{reply_bytes}
use Rattle.gl_tx.specs.Run.{run}
use Rattle.gl_vmaps.specs.Tables.{same_value}
use Rattle.gl_tx.specs.declared.request.Operation.{Operation}
use Rattle.gl_tx.specs.declared.runs.Ran.{Ran}
use Rattle.gl_tx.specs.declared.abort.Abort.{Abort}
use Rattle.gl_entry.specs.Entry.{no_digest, is_entry, body_bytes, write_bytes}
use Rattle.gl_snapshot_body.specs.Body as snapshots
use Rattle.gl_snapshot_body.specs.declared.body.Body.{Body}
use Rattle.gl_entry.specs.SignedMessage.{signed_message}
use Rattle.gl_entry.specs.declared.entry.Content.TheVariants as content
use Rattle.gl_entry.specs.declared.entry.Entry.{Entry}
use Rattle.gl_entry.specs.declared.entry.Signature as signatures
use Rattle.gl_requests.specs.declared.genesis.ServiceState.{ServiceState}
use Rattle.gl_requests.specs.declared.genesis.ServiceState.TheVariants.{Open}
use Rattle.gl_requests.specs.declared.request.GovernanceRequest.{GovernanceRequest}
use Rattle.gl_gov_rules.specs.declared.refusal.GovernanceRefusal.{GovernanceRefusal}
use Rattle.gl_gov_rules.specs.declared.change.Recorded.{Recorded}
use Rattle.gl_gov_rules.specs.Refusals.{refusal}
use Rattle.gl_gov_rules.specs.Rows.{rows}
use Rattle.gl_ledger.specs.ServiceRow.{service_state, identity_in}
use Rattle.gl_ledger.specs.declared.breach.Broken.{Broken}
use Rattle.gl_ledger.specs.declared.breach.EntryRefusal.TheVariants as refusals
use Rattle.gl_ledger.specs.Layers.{Layers}
use Rattle.gl_ledger.specs.Past.{Last, Past, is_begun, is_signed, past_of, past_from, past_behind}
use Rattle.gl_ledger.specs.declared.recording.Recording.{Recording}
use Rattle.gl_ledger.specs.declared.recording.Recording.TheVariants as recordings
use Rattle.gl_ledger.specs.Recordings.{is_founding, is_recovering, is_signing, recording_of, removal, mark}

-- What is asked first, or else what is wrong with it, and then the rest.
abbrev pub required : {X : Type 0} → Bool → X → Option X → Option X
required true wrong rest = rest
required false wrong rest = Some wrong

-- At this seqno another digest is wanted than the one that is found.
abbrev pub replay : ℕ → ℕ → List ℕ → List ℕ → Broken
replay rule seqno wanted found = record {
  rule = rule;
  refusal = refusals.Replay seqno wanted found;
}

-- A rule without a digest of its own: that of the body is found where none is wanted.
abbrev pub breach : ℕ → ℕ → Entry → Broken
breach rule seqno e = replay rule seqno no_digest (sha256 (body_bytes e))

-- Rules 3 and 4: views and what comes first. Rule 2 is that of seqnos, which identifiers can name.

-- The first entry founds the service, in the first view. After it views never fall, and a recovery
-- is of the view after the last.
abbrev pub is_next_view : Option Last → Recording → ℕ → Bool
is_next_view None recording view = is_founding recording && (view == first_view)
is_next_view (Some last) recording view =
    if is_recovering recording then view == last.view + 1 else nat_le last.view view

-- An entry that founds a service stands first, and a recovery right after a signature. The entry
-- after either of them is a signature of its view.
abbrev pub is_in_order : Option Last → Recording → ℕ → Bool
is_in_order None recording view = true
is_in_order (Some last) recording view =
    not (is_founding recording) && (not (is_recovering recording) || last.signs)
    && (not last.begins || (is_signing recording && (view == last.view)))

-- Rules 5 and 6: an application request

abbrev pub is_same_write : Write → Write → Bool
is_same_write v w =
    same_bytes v.map w.map && same_bytes v.key w.key && same_value v.value w.value

abbrev pub are_same_writes : List Write → List Write → Bool
are_same_writes [] [] = true
are_same_writes [] (w ∷ ws) = false
are_same_writes (v ∷ vs) [] = false
are_same_writes (v ∷ vs) (w ∷ ws) = is_same_write v w && are_same_writes vs ws

-- The digest of a write set: of its bytes in a body, after its count.
abbrev pub writes_digest : List Write → List ℕ
writes_digest ws = sha256 (little_endian 4 (length ws) ++ flat_map write_bytes ws)

-- The entry has this write set.
abbrev pub with_writes : ℕ → ℕ → List Write → Entry → Option Broken → Option Broken
with_writes rule seqno wanted e rest =
    required (are_same_writes e.writes wanted)
    (replay rule seqno (writes_digest wanted) (writes_digest e.writes)) rest

-- The entry of a request that ran has its write set, and the digest of its reply.
abbrev pub broken_of_run : ℕ → Result Ran Abort → Entry → Option Broken
broken_of_run seqno (Err abort) e = Some (record { rule = 5; refusal = refusals.Aborted abort })
broken_of_run seqno (Ok ran) e =
    with_writes 6 seqno ran.writes e (
    required (same_bytes e.claims (sha256 (reply_bytes ran.reply)))
    (replay 6 seqno (sha256 (reply_bytes ran.reply)) e.claims) None
    )

abbrev pub broken_in_state : ℕ → ServiceState → Result Ran Abort → Entry → Option Broken
broken_in_state seqno Open ran e = broken_of_run seqno ran e
broken_in_state seqno state ran e =
    Some (record { rule = 5; refusal = refusals.ServiceState state })

abbrev pub broken_by_application : List Operation → Past → Entry → Option Broken
broken_by_application q p e =
    broken_in_state (p.len + 1) (service_state p.tables) (run q p.tables) e

-- Rules 7 and 8: a request of governance

abbrev pub unless_refused : Option GovernanceRefusal → Option Broken → Option Broken
unless_refused None rest = rest
unless_refused (Some why) rest = Some (record { rule = 7; refusal = refusals.Governance why })

-- What a request writes: it turns the rows of governance into those with it.
abbrev pub effect_after : Past → Recorded → List Write
effect_after p r = changes (rows p.history) (rows (p.after r))

-- A request is accepted, and the entry has the write set of its effect, which turns the rows of the
-- requests before it into the rows with it.
abbrev pub broken_by_governance : GovernanceRequest → Past → Entry → Option Broken
broken_by_governance g p e =
    let seqno = p.len + 1 in
    unless_refused (refusal p.history seqno g) (
    with_writes 8 seqno (effect_after p (record { seqno = seqno; request = g })) e None
    )

-- Rules 9 to 11: a signature

-- Of a node that is marked after a seqno, the removal is not above commit.
abbrev pub is_above_removal : Option ℕ → Option ℕ → ℕ → ℕ → Bool
is_above_removal None removal seqno commit = true
is_above_removal (Some mark) None seqno commit = true
is_above_removal (Some mark) (Some removal) seqno commit =
    nat_le mark seqno || nat_le removal commit

abbrev pub broken_by_fault : ℕ → Option HssFault → Option Broken
broken_by_fault seqno None = None
broken_by_fault seqno (Some fault) =
    Some (record { rule = 11; refusal = refusals.BadSignature seqno fault })

-- The commit of a signature that doesn't open a service: the seqno of an earlier signature, not
-- below the commit of the last one, nor below the removal of a node that was marked since.
abbrev pub is_later_commit : Past → ℕ → Bool
is_later_commit p commit =
    p.signs_at commit && nat_le p.last_commit commit
    && list_all (λ (y : NodeId).
    is_above_removal (p.mark y) (p.removal y) p.last_signed commit)
    p.nodes

-- The commit that a signature may record: its own seqno, where it opens the service.
abbrev pub may_record : Past → ℕ → Bool
may_record p commit =
    if is_begun p.last then commit == p.len + 1 else is_later_commit p commit

-- Rule 12: an evidence

-- A signature stands last, and the digest is that of the body of a snapshot of all entries, which
-- is within its limit.
abbrev pub broken_by_evidence : List ℕ → Past → Entry → Option Broken
broken_by_evidence d p e =
    let seqno = p.len + 1 in
    let bytes = snapshots.body_bytes p.snapshot in
    required (is_signed p.last) (breach 12 seqno e) (
    required (nat_le (length bytes) snapshots.snapshot_limit) (breach 12 seqno e) (
    required (same_bytes d (sha256 bytes)) (replay 12 seqno (sha256 bytes) d) None
    ))

module _ (layers : Layers) where
  -- Why the signature of an entry isn't valid, under the identity in force.
  abbrev pub fault_of_signature : Past → Entry → signatures.Signature → Option HssFault
  fault_of_signature p e s =
      layers.signature_fault (identity_in p.tables) s.node
      (signed_message s.root e.view e.seqno s.commit) s.signature

  abbrev pub broken_by_signature : signatures.Signature → Past → Entry → Option Broken
  broken_by_signature s p e =
      let seqno = p.len + 1 in
      required (member s.node p.nodes) (breach 9 seqno e) (
      required (same_bytes s.root p.root) (replay 9 seqno p.root s.root) (
      required (may_record p s.commit) (breach 10 seqno e)
      (broken_by_fault seqno (fault_of_signature p e s))
      ))

  -- All rules

  -- Rules 5 to 12, by what the entry records.
  abbrev pub broken_by : Recording → Past → Entry → Option Broken
  broken_by (recordings.Application q) p e = broken_by_application q p e
  broken_by (recordings.Governance g) p e = broken_by_governance g p e
  broken_by (recordings.Signature s) p e = broken_by_signature s p e
  broken_by (recordings.Evidence d) p e = broken_by_evidence d p e

  abbrev pub broken_where : Option Recording → Past → Entry → Option Broken
  broken_where None p e = Some (breach 1 (p.len + 1) e)
  broken_where (Some recording) p e =
      let seqno = p.len + 1 in
      required (is_entry e) (breach 1 seqno e) (
      required (e.seqno == seqno) (breach 2 seqno e) (
      required (nat_le seqno last_seqno) (breach 2 seqno e) (
      required (is_next_view p.last recording e.view) (breach 3 seqno e) (
      required (is_in_order p.last recording e.view) (breach 4 seqno e)
      (broken_by recording p e)
      ))))

  -- The first rule that an entry breaks, if it breaks one, after entries of which this is read.
  abbrev pub broken_after : Past → Entry → Option Broken
  broken_after p e = broken_where (recording_of e.content) p e

  -- The first rule that an entry breaks after a ledger, if it breaks one.
  unfoldable pub broken : List Entry → Entry → Option Broken
  broken ledger e = broken_after (past_of ledger) e

  -- The same, as a node reads a ledger that has its entries up to a base from a snapshot. At base 0
  -- it has the whole ledger.
  abbrev pub broken_from : ℕ → List Entry → Entry → Option Broken
  broken_from zero ledger e = broken ledger e
  broken_from (suc before) ledger e = broken_after (past_from (suc before) ledger) e

  -- The first rule that an entry breaks after entries behind a base, if it breaks one. Where the
  -- base is 0 they are a whole ledger.
  abbrev pub broken_at : ℕ → Body → List Entry → Entry → Option Broken
  broken_at zero body es e = broken es e
  broken_at (suc before) body es e = broken_after (past_behind body es) e

  abbrev pub broken_over : Body → List Entry → Entry → Option Broken
  broken_over body es e = broken_at body.base body es e
