-- After pasts that are alike an entry breaks the same rule, or none.
use Rattle.std.proofs.Common.{◌≡◌, ℕ, ◌+◌, ◌<◌, List, Option, Some, None, Result, Ok, Err, Bool, true, false, ◌&&◌, ◌==◌, nat_le, if◌then◌else◌, refl, sym, ◌∙◌, ap, subst, arith}
use Rattle.std.specs.List.{list_all}
use Rattle.gl_base.specs.TxId.{last_seqno}
use Rattle.gl_base.specs.Bytes.{same_bytes}
use Rattle.gl_base.specs.declared.fault.CodeFault.{CodeFault}
use Rattle.gl_rules.specs.Identity.{NodeId, member}
use Rattle.gl_tx.specs.Parsing.{request_of}
use Rattle.gl_tx.specs.Run.{run}
use Rattle.gl_tx.specs.declared.request.Operation.{Operation}
use Rattle.gl_entry.specs.Entry.{is_content, is_entry}
use Rattle.gl_entry.specs.SignedMessage.{signed_message}
use Rattle.gl_entry.specs.declared.entry.Content.{Content}
use Rattle.gl_entry.specs.declared.entry.Content.TheVariants as content
use Rattle.gl_entry.specs.declared.entry.Entry.{Entry}
use Rattle.gl_entry.specs.declared.entry.Signature as signatures
use Rattle.gl_entry.proofs.EntryRanges.{fits_parts}
use Rattle.gl_requests.specs.Parsing.{request_in}
use Rattle.gl_requests.specs.Ranges.{is_request}
use Rattle.gl_requests.specs.declared.request.GovernanceRequest.{GovernanceRequest}
use Rattle.gl_gov_rules.specs.declared.refusal.GovernanceRefusal.{GovernanceRefusal}
use Rattle.gl_gov_rules.specs.Refusals.{refusal}
use Rattle.gl_ledger.specs.Broken.{required, replay, breach, is_next_view, is_in_order, with_writes, broken_in_state, broken_by_application, unless_refused, effect_after, broken_by_governance, broken_by_fault, is_later_commit, may_record, broken_by_evidence, broken_by_signature, broken_by, broken_where, broken_after}
use Rattle.gl_ledger.specs.Layers.{Layers}
use Rattle.gl_ledger.specs.Makers.{evidence_result}
use Rattle.gl_ledger.specs.Past.{Past, is_begun}
use Rattle.gl_ledger.specs.Recordings.{application_recording, governance_recording, recording_of}
use Rattle.gl_ledger.specs.ServiceRow.{identity_in, service_state}
use Rattle.gl_ledger.specs.declared.recording.Recording.{Recording}
use Rattle.gl_ledger.specs.declared.recording.Recording.TheVariants as recordings
use Rattle.gl_ledger.proofs.RequestEncodings.{request_in-encoded}
use Rattle.gl_ledger_base.specs.Ledgers.{AreAlike}

-- ---- a request of governance that bytes encode

abbrev IsInRange : Recording → Type 0
IsInRange (recordings.Application q) = Unit {0}
IsInRange (recordings.Governance g) = is_request g ≡ true
IsInRange (recordings.Signature s) = Unit {0}
IsInRange (recordings.Evidence d) = Unit {0}

-- has its fields in their ranges
pub read_in_range : (c : Content) (t : Recording) → recording_of c ≡ Some t → is_content c ≡ true → IsInRange t
read_in_range (content.Governance bytes) t h all = go (request_in bytes) refl h
  where
    go : (o : Option GovernanceRequest) → request_in bytes ≡ o → governance_recording o ≡ Some t → IsInRange t
    go None is w = absurd (cc)
    go (Some g) is w =
        let same : recordings.Governance g ≡ t = cc in
        subst IsInRange same (request_in-encoded bytes g all is).0
read_in_range (content.Application bytes) t h all = go (request_of bytes) h
  where
    go : (r : Result (List Operation) CodeFault) → application_recording r ≡ Some t → IsInRange t
    go (Err fault) w = absurd (cc)
    go (Ok q) w = let same : recordings.Application q ≡ t = cc in subst IsInRange same tt
read_in_range (content.Signature s) t h all = let same : recordings.Signature s ≡ t = cc in subst IsInRange same tt
read_in_range (content.Evidence d) t h all = let same : recordings.Evidence d ≡ t = cc in subst IsInRange same tt

-- ---- pasts that are alike

module _ (p q : Past) (x : AreAlike p q) where
  same_application : (ops : List Operation) (e : Entry) → broken_by_application ops p e ≡ broken_by_application ops q e
  same_application ops e = λ i. broken_in_state (x.len i + 1) (service_state (x.tables i)) (run ops (x.tables i)) e

  same_governance : (g : GovernanceRequest) (e : Entry) → is_request g ≡ true → broken_by_governance g p e ≡ broken_by_governance g q e
  same_governance g e fits = go (refusal p.history (p.len + 1) g) refl
    where
      above : p.len < p.len + 1
      above = omega arith

      refused : refusal p.history (p.len + 1) g ≡ refusal q.history (p.len + 1) g
      refused = x.refusals (p.len + 1) g above fits

      moved : unless_refused (refusal q.history (p.len + 1) g) (with_writes 8 (p.len + 1) (effect_after q (record { seqno = p.len + 1; request = g })) e None) ≡ broken_by_governance g q e
      moved = λ i. unless_refused (refusal q.history (x.len i + 1) g) (with_writes 8 (x.len i + 1) (effect_after q (record { seqno = x.len i + 1; request = g })) e None)

      go : (o : Option GovernanceRefusal) → refusal p.history (p.len + 1) g ≡ o → broken_by_governance g p e ≡ broken_by_governance g q e
      go None is =
          ap (λ (o : Option GovernanceRefusal). unless_refused o (with_writes 8 (p.len + 1) (effect_after p (record { seqno = p.len + 1; request = g })) e None)) is
          ∙ (λ i. with_writes 8 (p.len + 1) (x.effects (record { seqno = p.len + 1; request = g }) above fits is i) e None)
          ∙ ap (λ (o : Option GovernanceRefusal). unless_refused o (with_writes 8 (p.len + 1) (effect_after q (record { seqno = p.len + 1; request = g })) e None)) (sym is ∙ refused)
          ∙ moved
      go (Some why) is =
          ap (λ (o : Option GovernanceRefusal). unless_refused o (with_writes 8 (p.len + 1) (effect_after p (record { seqno = p.len + 1; request = g })) e None)) is
          ∙ ap (λ (o : Option GovernanceRefusal). unless_refused o (with_writes 8 (p.len + 1) (effect_after q (record { seqno = p.len + 1; request = g })) e None)) (sym is ∙ refused)
          ∙ moved

  same_later : (commit : ℕ) → is_later_commit p commit ≡ is_later_commit q commit
  same_later commit = λ i. x.signs commit i && nat_le (x.last_commit i) commit && list_all (λ (y : NodeId). x.marks y commit i) (x.nodes i)

  pub same_may : (commit : ℕ) → may_record p commit ≡ may_record q commit
  same_may commit = λ i. if is_begun (x.last i) then commit == x.len i + 1 else same_later commit i

  same_evidence : (d : List ℕ) (e : Entry) → broken_by_evidence d p e ≡ broken_by_evidence d q e
  same_evidence d e = λ i. broken_by_evidence d (record p { len = x.len i; last = x.last i; snapshot = x.snapshot i }) e

  -- an evidence is made alike
  pub same_evidence_result : (view : ℕ) → evidence_result p view ≡ evidence_result q view
  same_evidence_result view = λ i. evidence_result (record p { len = x.len i; last = x.last i; snapshot = x.snapshot i }) view

  module _ (layers : Layers) (e : Entry) where
    same_signature : (s : signatures.Signature) → broken_by_signature layers s p e ≡ broken_by_signature layers s q e
    same_signature s = λ i.
        required (member s.node (x.nodes i)) (breach 9 (x.len i + 1) e) (
        required (same_bytes s.root (x.root i)) (replay 9 (x.len i + 1) (x.root i) s.root) (
        required (same_may s.commit i) (breach 10 (x.len i + 1) e)
        (broken_by_fault (x.len i + 1) (layers.signature_fault (identity_in (x.tables i)) s.node (signed_message s.root e.view e.seqno s.commit) s.signature))
        ))

    same_by : (t : Recording) → IsInRange t → broken_by layers t p e ≡ broken_by layers t q e
    same_by (recordings.Application ops) fits = same_application ops e
    same_by (recordings.Governance g) fits = same_governance g e fits
    same_by (recordings.Signature s) fits = same_signature s
    same_by (recordings.Evidence d) fits = same_evidence d e

    -- so the same rule is broken, or none
    pub same_broken : broken_after layers p e ≡ broken_after layers q e
    same_broken = go (recording_of e.content) refl
      where
        go : (o : Option Recording) → recording_of e.content ≡ o → broken_where layers o p e ≡ broken_where layers o q e
        go None reads = λ i. Some (breach 1 (x.len i + 1) e)
        go (Some t) reads = by (is_entry e) refl
          where
            unfit : (o : Past) → is_entry e ≡ false → broken_where layers (Some t) o e ≡ Some (breach 1 (o.len + 1) e)
            unfit o unfits = λ i. required (unfits i) (breach 1 (o.len + 1) e) (
                required (e.seqno == o.len + 1) (breach 2 (o.len + 1) e) (
                required (nat_le (o.len + 1) last_seqno) (breach 2 (o.len + 1) e) (
                required (is_next_view o.last t e.view) (breach 3 (o.len + 1) e) (
                required (is_in_order o.last t e.view) (breach 4 (o.len + 1) e)
                (broken_by layers t o e)
                ))))

            rest : is_entry e ≡ true → broken_by layers t p e ≡ broken_by layers t q e
            rest fits = same_by t (read_in_range e.content t reads (fits_parts e fits).content)

            by : (b : Bool) → is_entry e ≡ b → broken_where layers (Some t) p e ≡ broken_where layers (Some t) q e
            by false unfits = unfit p unfits ∙ (λ i. Some (breach 1 (x.len i + 1) e)) ∙ sym (unfit q unfits)
            by true fits = λ i.
                required (is_entry e) (breach 1 (x.len i + 1) e) (
                required (e.seqno == x.len i + 1) (breach 2 (x.len i + 1) e) (
                required (nat_le (x.len i + 1) last_seqno) (breach 2 (x.len i + 1) e) (
                required (is_next_view (x.last i) t e.view) (breach 3 (x.len i + 1) e) (
                required (is_in_order (x.last i) t e.view) (breach 4 (x.len i + 1) e)
                (rest fits i)
                ))))
