-- What the ledger makes breaks no rule: the guard refuses no request, and of signatures only those
-- of a node that isn't recorded, or with a commit that may not be recorded.
use Rattle.std.proofs.Common.{◌≡◌, ℕ, ◌+◌, ◌<◌, ◌≤◌, ◌^◌, List, [], ◌∷◌, length, Option, Some, None, Result, Ok, Err, Bool, true, false, not, ◌&&◌, ◌||◌, ◌==◌, nat_le, max, if◌then◌else◌, refl, sym, ◌∙◌, ap, subst, arith, option_map}
use Rattle.std.specs.List.{list_all}
use Rattle.std.proofs.lemmas.Bool.{and_from}
use Rattle.std.proofs.lemmas.Bool.Decides.{nat_tests}
use Rattle.sha2.specs.Sha256.{sha256}
use Rattle.gl_base.specs.Bytes.{same_bytes}
use Rattle.gl_base.specs.TxId.{last_seqno}
use Rattle.gl_merkle.specs.Tree.{root_of}
use Rattle.gl_rules.specs.Identity.{NodeId, member}
use Rattle.gl_rules.specs.Log.{entry_at, seqno_with_first, last_signature, greatest_recorded}
use Rattle.gl_rules.specs.Safety.{MayRecord}
use Rattle.gl_tx.specs.Request.{is_request, request_bytes, reply_bytes}
use Rattle.gl_tx.specs.Parsing.{request_of}
use Rattle.gl_tx.specs.Run.{run}
use Rattle.gl_tx.specs.declared.runs.Ran.{Ran}
use Rattle.gl_tx.specs.declared.abort.Abort.{Abort}
use Rattle.gl_tx.specs.declared.request.Operation.{Operation}
use Rattle.gl_tx.specs.declared.request.Answer.{Answer}
use Rattle.gl_tx.proofs.Formats.{request-read}
use Rattle.gl_entry.specs.Entry.{is_signature, is_entry, recorded_commit}
use Rattle.gl_entry.specs.declared.entry.Content.{Content}
use Rattle.gl_entry.specs.declared.entry.Content.TheVariants as content
use Rattle.gl_entry.specs.declared.entry.Entry.{Entry}
use Rattle.gl_entry.specs.declared.entry.Signature as signatures
use Rattle.gl_requests.specs.Ranges as ranges
use Rattle.gl_ledger.specs.Tree.{tables_of, leaves_of}
use Rattle.gl_ledger.specs.Ledger.{execute_result, application_entry}
use Rattle.gl_ledger.specs.declared.refusal.Refusal.{Refusal}
use Rattle.gl_requests.specs.declared.genesis.ServiceState.{ServiceState}
use Rattle.gl_requests.specs.declared.request.GovernanceRequest.{GovernanceRequest}
use Rattle.gl_gov_rules.specs.declared.refusal.GovernanceRefusal.{GovernanceRefusal}
use Rattle.gl_gov_rules.specs.declared.change.Recorded.{Recorded}
use Rattle.gl_gov_rules.specs.Changes.{history}
use Rattle.gl_gov_rules.specs.Governed as rules
use Rattle.gl_gov_rules.specs.Refusals.{refusal}
use Rattle.gl_ledger.proofs.Applications.{execute_ok}
use Rattle.gl_ledger.proofs.Fitting.{execute_fits}
use Rattle.gl_ledger.specs.Layers.{Layers}
use Rattle.gl_ledger.specs.NodeKeys.{NodeKeys}
use Rattle.gl_ledger.specs.declared.recording.Recording.{Recording}
use Rattle.gl_ledger.specs.declared.recording.Recording.TheVariants as recordings
use Rattle.gl_ledger.specs.Recordings.{governance_recording, application_recording, is_founding, is_recovering, is_signing, last_entry, begins, requests_of, recorded_nodes, removal, mark}
use Rattle.gl_ledger.specs.Past.{commit_after, commit_from, is_unopened, last_commit, last_of, last_signed, past_of, signs_at}
use Rattle.gl_ledger.specs.Broken.{required}
use Rattle.gl_ledger.specs.declared.breach.Broken.{Broken}
use Rattle.gl_ledger.specs.Broken.{breach, is_next_view, is_in_order, broken_of_run, broken_in_state, unless_refused, with_writes, is_above_removal, is_later_commit, may_record, broken_by_fault, are_same_writes, fault_of_signature, broken}
use Rattle.gl_gov_rules.specs.Rows.{effect_writes}
use Rattle.gl_ledger.specs.declared.response.Response.{Response}
use Rattle.gl_ledger.specs.declared.response.Response.TheVariants.{Replied}
use Rattle.gl_ledger.specs.declared.response.Rejection.TheVariants.{Unencodable}
use Rattle.gl_ledger.specs.Makers.{MayMake, with_reply, request_result, guarded, unless_broken, signature_after, signed_entry, MakesValid}
use Rattle.gl_ledger.specs.Ledger.{governance_entry, signature_entry}
use Rattle.gl_ledger.specs.LedgerBook.{ledger_book}
use Rattle.gl_ledger.proofs.SameWrites.{same_writes_self}
use Rattle.gl_vmaps.proofs.SameValues.{same_bytes_self}
use Rattle.gl_ledger.proofs.Passing.{passes, passing_all}
use Rattle.gl_ledger.proofs.RequestEncodings.{request_in-read}

pub itself : (n : ℕ) → (n == n) ≡ true
itself n = grind (arith, nat_tests)

pub within : (n : ℕ) → n < last_seqno → nat_le (n + 1) last_seqno ≡ true
within n h = grind (arith, nat_tests)

-- what an entry records of a node's signature, of whatever bytes
abbrev pub signature_with : NodeId → List ℕ → List Entry → ℕ → signatures.Signature
signature_with x bytes ledger commit = record { node = x; commit = commit; root = root_of (leaves_of ledger); signature = bytes }

module _ (layers : Layers) (keys : NodeKeys) (ledger : List Entry) (view : ℕ) (m : MayMake ledger view) where
  pub in_view : (t : Recording) → is_recovering t ≡ false → is_next_view (past_of ledger).last t view ≡ true
  in_view t again =
      ap (λ (o : Option Entry). is_next_view (option_map last_of o) t view) m.is_last ∙ ap (λ (b : Bool). if b then view == m.last.view + 1 else nat_le m.last.view view) again
      ∙ (let h = m.up in grind (arith, nat_tests))

  pub in_order : (t : Recording) → is_founding t ≡ false → is_recovering t ≡ false → is_in_order (past_of ledger).last t view ≡ true
  in_order t other again =
      ap (λ (o : Option Entry). is_in_order (option_map last_of o) t view) m.is_last
      ∙ and_from (not (is_founding t) && (not (is_recovering t) || is_signature m.last.content)) (not (begins m.last) || (is_signing t && (view == m.last.view)))
      (and_from (not (is_founding t)) (not (is_recovering t) || is_signature m.last.content) (ap not other) (ap (λ (b : Bool). not b || is_signature m.last.content) again))
      (ap (λ (b : Bool). not b || (is_signing t && (view == m.last.view))) m.opened)

  -- an application request that isn't refused makes an entry that breaks no rule
  pub executed_unbroken : (q : List Operation) (e : Entry) (a : List Answer) → is_request q ≡ true → execute_result ledger view q ≡ Ok (e, a) → is_entry e ≡ true → broken layers ledger e ≡ None
  executed_unbroken q e a fits h one =
      let made = execute_ok ledger view q e a h in
      let ran = made.1 in
      let reads : request_of (request_bytes q) ≡ Ok q = request-read q fits in
      let entry = application_entry ledger view q ran in
      let seqno = length ledger + 1 in
      let all : broken layers ledger entry ≡ None = passing_all layers ledger entry (record {
        recording = recordings.Application q;
        reads = ap application_recording reads;
        fits = subst (λ (x : Entry). is_entry x ≡ true) made.3 one;
        seqno = itself (length ledger + 1);
        named = within (length ledger) made.7;
        view = in_view (recordings.Application q) refl;
        order = in_order (recordings.Application q) refl refl;
        rest = ap (λ (s : ServiceState). broken_in_state seqno s (run q (tables_of ledger)) entry) made.0 ∙ ap (λ (r : Result Ran Abort). broken_of_run seqno r entry) made.2
            ∙ passes (are_same_writes ran.writes ran.writes) _ _ (same_writes_self ran.writes)
            (passes (same_bytes (sha256 (reply_bytes ran.reply)) (sha256 (reply_bytes ran.reply))) _ None (same_bytes_self (sha256 (reply_bytes ran.reply))) refl);
      }) in
      subst (λ (x : Entry). broken layers ledger x ≡ None) (sym made.3) all

  -- an accepted request of governance that founds no service makes an entry that breaks no rule
  pub governed_unbroken : (g : GovernanceRequest) → ranges.is_request g ≡ true → refusal (history (requests_of ledger)) (length ledger + 1) g ≡ None →
      rules.is_founding g ≡ false → rules.is_recovery g ≡ false → length ledger < last_seqno → is_entry (governance_entry g ledger view) ≡ true →
      broken layers ledger (governance_entry g ledger view) ≡ None
  governed_unbroken g encoded accepted other again left fits =
      let seqno = length ledger + 1 in
      let r : Recorded = record { seqno = seqno; request = g } in
      let writes = effect_writes (requests_of ledger) r in
      passing_all layers ledger (governance_entry g ledger view) (record {
        recording = recordings.Governance g;
        reads = ap governance_recording (request_in-read g encoded);
        fits = fits;
        seqno = itself seqno;
        named = within (length ledger) left;
        view = in_view (recordings.Governance g) again;
        order = in_order (recordings.Governance g) other again;
        rest = ap (λ (o : Option GovernanceRefusal). unless_refused o (with_writes 8 seqno writes (governance_entry g ledger view) None)) accepted
            ∙ passes (are_same_writes writes writes) _ None (same_writes_self writes) refl;
      })

  -- what the trial of a node's valid signature comes to, of whatever bytes
  pub signed_broken : (x : NodeId) (bytes : List ℕ) (commit : ℕ) → length ledger < last_seqno → is_entry (signature_entry x bytes ledger view commit) ≡ true →
      fault_of_signature layers (past_of ledger) (signature_entry x bytes ledger view commit) (signature_with x bytes ledger commit) ≡ None →
      broken layers ledger (signature_entry x bytes ledger view commit)
      ≡ required (member x (recorded_nodes ledger)) (breach 9 (length ledger + 1) (signature_entry x bytes ledger view commit))
      (required (may_record (past_of ledger) commit) (breach 10 (length ledger + 1) (signature_entry x bytes ledger view commit)) None)
  unfolding broken
  signed_broken x bytes commit left fits valid =
      let e = signature_entry x bytes ledger view commit in
      let seqno = length ledger + 1 in
      let s = signature_with x bytes ledger commit in
      true_first (is_entry e) _ _ fits
      ∙ true_first (seqno == seqno) _ _ (itself seqno)
      ∙ true_first (nat_le seqno last_seqno) _ _ (within (length ledger) left)
      ∙ true_first (is_next_view (past_of ledger).last (recordings.Signature s) view) _ _ (in_view (recordings.Signature s) refl)
      ∙ true_first (is_in_order (past_of ledger).last (recordings.Signature s) view) _ _ (in_order (recordings.Signature s) refl refl)
      ∙ ap (λ (rest : Option Broken). required (member x (recorded_nodes ledger)) (breach 9 seqno e) rest)
      (true_first (same_bytes (root_of (leaves_of ledger)) (root_of (leaves_of ledger))) _ _ (same_bytes_self (root_of (leaves_of ledger)))
      ∙ ap (λ (rest : Option Broken). required (may_record (past_of ledger) commit) (breach 10 seqno e) rest) (ap (broken_by_fault seqno) valid))
    where
      true_first : (holds : Bool) (b : Broken) (rest : Option Broken) → holds ≡ true → required holds b rest ≡ rest
      true_first true b rest h = refl
      true_first false b rest h = absurd (cc)

-- ---- the commit that a leader may record

module _ (layers : Layers) (keys : NodeKeys) where
  last_same : (ledger : List Entry) → last_signature (ledger_book layers keys) ledger ≡ last_signed ledger
  unfolding last_signature
  last_same [] = refl
  last_same (e ∷ es) = ap (seqno_with_first (is_signature e.content)) (last_same es)

  -- the last commit is one of those that are recorded
  last_within : (commit : ℕ) (es : List Entry) → commit_from commit es ≤ max commit (greatest_recorded (ledger_book layers keys) es)
  unfolding greatest_recorded
  last_within commit [] = omega arith
  last_within commit (e ∷ es) = go e.content (last_within (commit_after commit e.content) es)
    where
      go : (c : Content) → commit_from (commit_after commit c) es ≤ max (commit_after commit c) (greatest_recorded (ledger_book layers keys) es) →
          commit_from (commit_after commit c) es ≤ max commit (max (if is_signature c then recorded_commit c else 0) (greatest_recorded (ledger_book layers keys) es))
      go (content.Signature s) h = omega arith
      go (content.Governance b) h = omega arith
      go (content.Application b) h = omega arith
      go (content.Evidence d) h = omega arith

  -- what the rules of consensus let a leader record, the audit lets it record
  pub may_go_on : (ledger : List Entry) (commit : ℕ) → MayRecord (ledger_book layers keys) ledger commit → is_later_commit (past_of ledger) commit ≡ true
  may_go_on ledger commit h =
      let low : last_commit ledger ≤ commit = let a = last_within 0 ledger in let b = h.least in omega arith in
      and_from (signs_at (entry_at ledger commit) && nat_le (last_commit ledger) commit) _
      (and_from (signs_at (entry_at ledger commit)) (nat_le (last_commit ledger) commit) (ap signs_at h.at ∙ h.signs) (grind (arith, nat_tests)))
      (each (recorded_nodes ledger))
    where
      above : (y : NodeId) (m r : Option ℕ) → mark ledger y ≡ m → removal ledger y ≡ r → is_above_removal m r (last_signed ledger) commit ≡ true
      above y None r a b = refl
      above y (Some place) None a b = refl
      above y (Some place) (Some low) a b = go (nat_le place (last_signed ledger)) refl
        where
          go : (t : Bool) → nat_le place (last_signed ledger) ≡ t → (t || nat_le low commit) ≡ true
          go true is = refl
          go false is =
              let suffix : last_signature (ledger_book layers keys) ledger < place = let s = last_same ledger in let d : last_signed ledger < place = grind (arith, nat_tests) in omega arith in
              let le : low ≤ commit = h.removals y place low a suffix b in
              grind (arith, nat_tests)

      each : (ys : List NodeId) → list_all (λ (y : NodeId). is_above_removal (mark ledger y) (removal ledger y) (last_signed ledger) commit) ys ≡ true
      each [] = refl
      each (y ∷ ys) = and_from _ _ (above y (mark ledger y) (removal ledger y) refl refl) (each ys)

  -- so a recorded node's signature breaks no rule
  pub signed_unbroken : (ledger : List Entry) (view : ℕ) → MayMake ledger view → (x : NodeId) (leaf commit : ℕ) → length ledger < last_seqno → is_entry (signed_entry keys x leaf ledger view commit) ≡ true →
      MakesValid layers keys x leaf ledger view commit →
      member x (recorded_nodes ledger) ≡ true → MayRecord (ledger_book layers keys) ledger commit → broken layers ledger (signed_entry keys x leaf ledger view commit) ≡ None
  signed_unbroken ledger view m x leaf commit left fits valid named may =
      let e = signed_entry keys x leaf ledger view commit in
      let seqno = length ledger + 1 in
      let records : may_record (past_of ledger) commit ≡ true =
      ap (λ (o : Option Entry). if is_unopened o then commit == seqno else is_later_commit (past_of ledger) commit) m.is_last
      ∙ ap (λ (b : Bool). if b then commit == seqno else is_later_commit (past_of ledger) commit) m.opened ∙ may_go_on ledger commit may in
      signed_broken layers keys ledger view m x (signature_after keys x leaf ledger view commit) commit left fits valid.valid ∙ passes (member x (recorded_nodes ledger)) (breach 9 seqno e) _ named (passes (may_record (past_of ledger) commit) (breach 10 seqno e) None records refl)

  pub unless_none : {X : Type 0} (o : Option Broken) (x : X) → o ≡ None → unless_broken o x ≡ Ok x
  unless_none None x h = refl
  unless_none (Some why) x h = absurd (cc)

  -- the guard refuses no application request
  pub execute_is : (ledger : List Entry) (view : ℕ) → view < 2 ^ 32 → MayMake ledger view → (q : List Operation) → (ledger_book layers keys).execute ledger view q ≡ request_result ledger view q
  execute_is ledger view low m q = go (is_request q) refl
    where
      answered : is_request q ≡ true → (r : Result (Entry × List Answer) Refusal) → execute_result ledger view q ≡ r → guarded layers (λ (made : Entry × Response). made.0) ledger (with_reply r) ≡ with_reply r
      answered fits (Err why) is = refl
      answered fits (Ok made) is =
          unless_none (broken layers ledger made.0) (made.0, Replied made.1) (executed_unbroken layers keys ledger view m q made.0 made.1 fits is (execute_fits ledger view q made.0 made.1 low fits is))

      go : (b : Bool) → is_request q ≡ b → guarded layers (λ (made : Entry × Response). made.0) ledger (if b then with_reply (execute_result ledger view q) else Err Unencodable) ≡ (if b then with_reply (execute_result ledger view q) else Err Unencodable)
      go false is = refl
      go true is = answered is (execute_result ledger view q) refl
