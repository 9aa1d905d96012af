-- Behind a body an entry breaks the same rule as after the whole ledger, where it is no signature, or
-- one that records no commit below the base.
use Rattle.std.proofs.Common.{◌≡◌, ℕ, zero, suc, ◌+◌, ◌-◌, ◌<◌, ◌≤◌, List, [], ◌∷◌, ◌++◌, length, Option, Some, None, Result, Ok, Err, Bool, true, false, ◌&&◌, ◌||◌, ◌==◌, nat_lt, nat_le, slice_get, if◌then◌else◌, refl, sym, ◌∙◌, ap, subst, arith}
use Rattle.std.specs.List.{list_all}
use Rattle.std.proofs.lemmas.Bool.Decides.{nat_tests}
use Rattle.gl_base.specs.Bytes.{same_bytes}
use Rattle.gl_base.specs.TxId.{last_seqno}
use Rattle.gl_base.specs.declared.fault.CodeFault.{CodeFault}
use Rattle.gl_base.proofs.Lists.{slice_get-append}
use Rattle.gl_rules.specs.Identity.{NodeId, member}
use Rattle.gl_rules.specs.Log.{entry_at}
use Rattle.gl_tx.specs.Parsing.{request_of}
use Rattle.gl_tx.specs.declared.request.Operation.{Operation}
use Rattle.gl_entry.specs.Entry.{is_entry, is_signature}
use Rattle.gl_entry.specs.declared.entry.Content.{Content}
use Rattle.gl_entry.specs.declared.entry.Content.TheVariants as content
use Rattle.gl_entry.specs.declared.entry.Entry.{Entry}
use Rattle.gl_entry.specs.declared.entry.Signature as signatures
use Rattle.gl_requests.specs.Parsing.{request_in}
use Rattle.gl_requests.specs.declared.request.GovernanceRequest.{GovernanceRequest}
use Rattle.gl_snapshot_body.specs.declared.body.Body.{Body}
use Rattle.gl_ledger.specs.Audit.{audited_over}
use Rattle.gl_ledger.specs.Broken.{breach, broken, broken_by_fault, broken_over, broken_where, fault_of_signature, is_above_removal, is_in_order, is_next_view, may_record, replay, required}
use Rattle.gl_ledger.specs.Layers.{Layers}
use Rattle.gl_ledger.specs.Past.{is_begun, past_from, past_of, signs_at}
use Rattle.gl_ledger.specs.Recordings.{application_recording, governance_recording, recording_of}
use Rattle.gl_ledger.specs.Snapshot.{snapshot_of, view_or}
use Rattle.gl_ledger.specs.declared.recording.Recording.{Recording}
use Rattle.gl_ledger.specs.declared.recording.Recording.TheVariants as recordings
use Rattle.gl_ledger_base.specs.Ledgers.{HoldsLedger}
use Rattle.gl_ledger_base.proofs.LedgersHeld.{held_base, held_broken}
use Rattle.gl_ledger_base.proofs.LedgersPassing.{told_from}

-- what stands in the first entries stands there in all
pub entry_first : (below es : List Entry) (seqno : ℕ) (e : Entry) → entry_at below seqno ≡ Some e → entry_at (below ++ es) seqno ≡ Some e
entry_first below es zero e at = absurd (cc)
entry_first below es (suc i) e at = slice_get-append below es i e at

-- the view of a snapshot is that of the last entry
base_view : (below : List Entry) (e : Entry) → entry_at below (length below) ≡ Some e → (snapshot_of below).view ≡ e.view
base_view [] e at = absurd (cc)
base_view (x ∷ xs) e at = ap (view_or 0) (ap (slice_get (x ∷ xs)) (let last : length (x ∷ xs) - 1 ≡ length xs = omega arith in last) ∙ at)

-- what isn't a signature records none
no_signature : (c : Content) (s : signatures.Signature) → is_signature c ≡ false → recording_of c ≡ Some (recordings.Signature s) → {X : Type 0} → X
no_signature (content.Signature t) s none is = absurd (cc)
no_signature (content.Evidence d) s none is = absurd (cc)
no_signature (content.Governance bytes) s none is = go (request_in bytes) is
  where
    go : (o : Option GovernanceRequest) → governance_recording o ≡ Some (recordings.Signature s) → {X : Type 0} → X
    go None w = absurd (cc)
    go (Some g) w = absurd (cc)
no_signature (content.Application bytes) s none is = go (request_of bytes) is
  where
    go : (r : Result (List Operation) CodeFault) → application_recording r ≡ Some (recordings.Signature s) → {X : Type 0} → X
    go (Err fault) w = absurd (cc)
    go (Ok ops) w = absurd (cc)

-- a signature that is recorded records no commit below a base
abbrev IsAboveBase : ℕ → Option Recording → Type 0
IsAboveBase base o = (s : signatures.Signature) → o ≡ Some (recordings.Signature s) → base ≤ s.commit

module _ (layers : Layers) (body : Body) (es ledger : List Entry) (holds : HoldsLedger layers body es ledger) where
  -- a signature stands at the base
  pub base_signed : 0 < body.base → (e : Entry) × (entry_at ledger body.base ≡ Some e) × (is_signature e.content ≡ true) × (e.view ≡ body.view)
  base_signed some =
      let counted = held_base layers body es ledger holds in
      let end = holds.base.ends (omega (arith, counted, some)) in
      let at = ap (λ (n : ℕ). entry_at ledger n) counted ∙ ap (λ (l : List Entry). entry_at l (length holds.below)) holds.whole ∙ entry_first holds.below es (length holds.below) end.0 end.1 in
      (end.0, at, end.2, sym (base_view holds.below end.0 end.1) ∙ ap (λ (b : Body). b.view) holds.base.snapshot)

  -- so from the base on a signature stands where an entry counts as one
  counts : (commit : ℕ) → body.base ≤ commit → (past_from body.base ledger).signs_at commit ≡ (past_of ledger).signs_at commit
  counts zero low = refl
  counts (suc n) low = go (nat_lt 0 (suc n)) (nat_le (suc n) body.base) refl
    where
      signed : suc n ≤ body.base → signs_at (entry_at ledger (suc n)) ≡ true
      signed up =
          let end = base_signed (omega (arith, up)) in
          ap (λ (k : ℕ). signs_at (entry_at ledger k)) (let same : suc n ≡ body.base = omega (arith, up, low) in same) ∙ ap signs_at end.1 ∙ end.2

      go : (a b : Bool) → nat_le (suc n) body.base ≡ b → ((a && b) || signs_at (entry_at ledger (suc n))) ≡ signs_at (entry_at ledger (suc n))
      go true true is = sym (signed (let up : suc n ≤ body.base = grind (arith, nat_tests, is) in up))
      go true false is = refl
      go false b is = refl

  may_whole : (commit : ℕ) → body.base ≤ commit → may_record (past_from body.base ledger) commit ≡ may_record (past_of ledger) commit
  may_whole commit low =
      let p = past_of ledger in
      ap (λ (signs : Bool).
      if is_begun p.last then commit == p.len + 1
      else (signs && nat_le p.last_commit commit && list_all (λ (y : NodeId). is_above_removal (p.mark y) (p.removal y) p.last_signed commit) p.nodes))
      (counts commit low)

  module _ (e : Entry) where
    same_where : (o : Option Recording) → IsAboveBase body.base o → broken_where layers o (past_from body.base ledger) e ≡ broken_where layers o (past_of ledger) e
    same_where None above = refl
    same_where (Some (recordings.Application ops)) above = refl
    same_where (Some (recordings.Governance g)) above = refl
    same_where (Some (recordings.Evidence d)) above = refl
    same_where (Some (recordings.Signature s)) above =
        let p = past_of ledger in
        let seqno = p.len + 1 in
        ap (λ (may : Bool).
        required (is_entry e) (breach 1 seqno e) (
        required (e.seqno == seqno) (breach 2 seqno e) (
        required (nat_le seqno last_seqno) (breach 2 seqno e) (
        required (is_next_view p.last (recordings.Signature s) e.view) (breach 3 seqno e) (
        required (is_in_order p.last (recordings.Signature s) e.view) (breach 4 seqno e) (
        required (member s.node p.nodes) (breach 9 seqno e) (
        required (same_bytes s.root p.root) (replay 9 seqno p.root s.root) (
        required may (breach 10 seqno e)
        (broken_by_fault seqno (fault_of_signature layers p e s))
        ))))))))
        (may_whole s.commit (above s refl))

    broken_whole : audited_over layers body es ≡ None → IsAboveBase body.base (recording_of e.content) → broken_over layers body es e ≡ broken layers ledger e
    unfolding broken
    broken_whole valid above =
        held_broken layers body es ledger holds valid e ∙ told_from layers body.base ledger e ∙ same_where (recording_of e.content) above

    -- an entry that is no signature
    pub broken_plain : audited_over layers body es ≡ None → is_signature e.content ≡ false → broken_over layers body es e ≡ broken layers ledger e
    broken_plain valid none = broken_whole valid (λ s is. no_signature e.content s none is)

    -- a signature that records a commit from the base on
    pub broken_signature : audited_over layers body es ≡ None → (s : signatures.Signature) → e.content ≡ content.Signature s → body.base ≤ s.commit → broken_over layers body es e ≡ broken layers ledger e
    broken_signature valid s is low =
        broken_whole valid
        (λ t reads. subst (λ (x : signatures.Signature). body.base ≤ x.commit) (let both = sym (ap recording_of is) ∙ reads in let same : s ≡ t = cc in same) low)
