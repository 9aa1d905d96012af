-- The rules of the audit, by what a store keeps.
use Rattle.std.proofs.Common.{◌≡◌, ◌&&◌, ℕ, zero, suc, ◌+◌, ◌-◌, ◌^◌, nat_le, nat_lt, ◌==◌, ◌||◌, if◌then◌else◌, not, List, [], ◌∷◌, length, Option, Some, None, Result, Ok, Err, IfOk, IfSome, IfNone, Bool, true, false, refl, sym, ◌∙◌, ap, ap₂, arith, option_map}
use Rattle.std.proofs.lemmas.Bool.Decides.{nat_tests}
use Rattle.gl_base.proofs.Lists.{slice_get-below}
use Rattle.gl_rules.specs.Identity.{member}
use Rattle.gl_tx.specs.declared.request.Operation.{Operation}
use Rattle.gl_base.specs.Bytes.{are_bytes, same_bytes, is_digest}
use Rattle.gl_base.specs.declared.fault.CodeFault.{CodeFault}
use Rattle.gl_tx.specs.Parsing.{request_of}
use Rattle.gl_entry.specs.declared.entry.Content.{Content}
use Rattle.gl_entry.specs.declared.entry.Content.TheVariants as content
use Rattle.gl_entry.specs.declared.entry.Signature as signatures
use Rattle.std.specs.List.{list_all}
use Rattle.gl_vmaps.specs.Changes.{changes}
use Rattle.gl_vmaps.specs.Writes.{is_write, is_ordered}
use Rattle.gl_vmaps.specs.declared.write.Write.{Write}
use Rattle.gl_entry.specs.Entry.{is_entry, is_content, may_write, may_claim, are_no_writes, is_no_digest, body_bytes, body_limit}
use Rattle.gl_entry.specs.declared.entry.Entry.{Entry}
use Rattle.gl_requests.specs.Ranges as ranges
use Rattle.gl_ledger.specs.declared.recording.Recording.{Recording}
use Rattle.gl_ledger.specs.declared.recording.Recording.TheVariants as recordings
use Rattle.gl_requests.specs.declared.request.GovernanceRequest.{GovernanceRequest}
use Rattle.gl_requests.specs.Parsing.{request_in}
use Rattle.gl_ledger.specs.NodeKeys.{service_layers}
use Rattle.gl_ledger.specs.Recordings.{last_entry, recording_of, governance_recording, application_recording, requests_of}
use Rattle.gl_ledger.specs.Past.{Past, is_signed, last_of, last_or_base, past_at, past_of, past_over}
use Rattle.gl_snapshot_body.specs.Body as snapshots
use Rattle.gl_snapshot_body.specs.declared.body.Body.{Body}
use Rattle.sha2.specs.Sha256.{sha256}
use Rattle.gl_ledger.specs.Broken.{required}
use Rattle.gl_rules.specs.World.{first_view}
use Rattle.std.proofs.lemmas.Bool.{and_parts}
use Rattle.gl_ledger.specs.Audit.{audited_at}
use Rattle.gl_ledger.specs.Sound.{IsSound}
use Rattle.gl_ledger.specs.Snapshot.{governed_base, requests_over}
use Rattle.gl_ledger.specs.Broken.{may_record, replay, breach, is_next_view, is_in_order, with_writes, unless_refused, effect_after, fault_of_signature, broken_by_governance, broken_by_evidence, broken_by_fault, broken_by_signature, broken_where, broken_over}
use Rattle.gl_gov_rules.specs.Governed as governance
use Rattle.gl_gov_rules.specs.History.{History}
use Rattle.gl_gov_rules.specs.Rows.{rows}
use Rattle.gl_gov_rules.specs.declared.change.Recorded.{Recorded}
use Rattle.gl_gov_rules.specs.declared.refusal.GovernanceRefusal.{GovernanceRefusal}
use Rattle.gl_gov_rules.specs.declared.row.GovernedRows.{GovernedRows}
use Rattle.gl_gov_rules.specs.Refusals.{refusal}
use Rattle.gl_gov_base.specs.GovernedOver.{is_unfounded}
use Rattle.gl_gov_base.specs.Law.{writes_over}
use Rattle.gl_ledger.proofs.RequestEncodings.{request_in-encoded}
use Rattle.gl_ledger.proofs.Governed.{nothing_recorded}
use Rattle.gl_ledger.proofs.Valid.{valid_sound}
use Rattle.gl_ledger.specs.Behind.{IsReadAt}
use Rattle.gl_audit.specs.GovState.{Governed}
use Rattle.gl_audit.specs.Kept.{IsStateOver, ForStates}
use Rattle.gl_snapshot_body.specs.Digest.{digest_within}
use Rattle.gl_audit.proofs.GovernanceBehind.{rows_above}
use Rattle.gl_ledger.proofs.Passing.{told_over}
use Rattle.gl_audit.proofs.GovernanceBehind.{founds_none}
use Rattle.gl_audit.proofs.PastOver.{after_kept, end_len, history_kept}
use Rattle.gl_ledger.specs.declared.breach.Broken.{Broken}
use Rattle.gl_ledger.specs.declared.breach.EntryRefusal.TheVariants as refusals
use Rattle.gl_audit.specs.declared.ledger_state.LedgerState.{LedgerState}

-- what an entry records that none of its bytes encode, or that they do
pub broken_unread : (body : Body) (es : List Entry) (e : Entry) → recording_of e.content ≡ None → broken_over service_layers body es e ≡ Some (breach 1 ((past_over body es).len + 1) e)
broken_unread body es e is = told_over service_layers body es e ∙ ap (λ (o : Option Recording). broken_where service_layers o (past_over body es) e) is

pub broken_read : (body : Body) (es : List Entry) (e : Entry) (r : Recording) → recording_of e.content ≡ Some r → broken_over service_layers body es e ≡ broken_where service_layers (Some r) (past_over body es) e
broken_read body es e r is = told_over service_layers body es e ∙ ap (λ (o : Option Recording). broken_where service_layers o (past_over body es) e) is

several : (e : Entry) (es : List Entry) → (length (e ∷ es) == 0) ≡ false
several e es = grind (arith, nat_tests)

-- nothing of governance is recorded exactly where there is no entry
nothing_is : (ledger : List Entry) → IsSound service_layers ledger → governance.is_nothing (requests_of ledger) ≡ (length ledger == 0)
nothing_is [] sound = refl
nothing_is (e ∷ es) sound = some_recorded (governance.is_nothing (requests_of (e ∷ es))) refl ∙ sym (several e es)
  where
    some_recorded : (b : Bool) → governance.is_nothing (requests_of (e ∷ es)) ≡ b → b ≡ false
    some_recorded false is = refl
    some_recorded true is = absurd (let none = nothing_recorded service_layers (e ∷ es) sound is in cc)

founding_whole : (es : List Entry) (g : GovernanceRequest) (view : ℕ) → IsSound service_layers es → is_next_view (past_of es).last (recordings.Governance g) view ≡ true →
    is_in_order (past_of es).last (recordings.Governance g) view ≡ true → governance.is_founding g ≡ governance.is_nothing (requests_of es)
founding_whole [] g view sound next order = (and_parts (governance.is_founding g) (view == first_view) next).0
founding_whole (e ∷ es) g view sound next order =
    let last = slice_get-below (e ∷ es) (length (e ∷ es) - 1) (omega arith) in
    founds_none (last_of last.0) g view (ap (λ (o : Option Entry). is_in_order (option_map last_of o) (recordings.Governance g) view) (sym last.1) ∙ order)
    ∙ sym (nothing_is (e ∷ es) sound ∙ several e es)

-- where views and order let a request pass, it founds the service exactly where there is no base
-- and nothing of governance is recorded
pub founding_asked : (body : Body) (es : List Entry) (s : LedgerState) (g : GovernanceRequest) (view : ℕ) → IsStateOver body es s →
    is_next_view (past_over body es).last (recordings.Governance g) view ≡ true → is_in_order (past_over body es).last (recordings.Governance g) view ≡ true →
    governance.is_founding g ≡ is_unfounded s.gov.base s.gov.requests
founding_asked body es s g view k next order = go body.base refl k.read k.valid next order ∙ sym (ap (λ (v : Governed). is_unfounded v.base v.requests) k.governed)
  where
    go : (n : ℕ) → body.base ≡ n → IsReadAt n body → audited_at service_layers n body es ≡ None → is_next_view (past_at n body es).last (recordings.Governance g) view ≡ true →
        is_in_order (past_at n body es).last (recordings.Governance g) view ≡ true → governance.is_founding g ≡ is_unfounded (governed_base body) (requests_over body es)
    go zero is none valid next order =
        founding_whole es g view (valid_sound service_layers es valid) next order ∙ sym (ap (λ (b : Body). is_unfounded (governed_base b) (requests_over b es)) none)
    go (suc n) is b valid next order =
        founds_none (last_or_base body (last_entry es)) g view order
        ∙ sym (ap (λ (o : Option GovernedRows). is_unfounded o (requests_over body es)) (rows_above body b.rows (omega (arith, is)) b.spelled))

-- that is so exactly where no entry, nor a base, comes before
pub unfounded_kept : (body : Body) (es : List Entry) (s : LedgerState) → IsStateOver body es s → is_unfounded s.gov.base s.gov.requests ≡ (s.end.len == 0)
unfounded_kept body es s k = ap (λ (v : Governed). is_unfounded v.base v.requests) k.governed ∙ go body.base refl k.read k.valid ∙ ap (λ (n : ℕ). n == 0) (sym (end_len body es s k))
  where
    go : (n : ℕ) → body.base ≡ n → IsReadAt n body → audited_at service_layers n body es ≡ None → is_unfounded (governed_base body) (requests_over body es) ≡ (body.base + length es == 0)
    go zero is none valid =
        ap (λ (b : Body). is_unfounded (governed_base b) (requests_over b es)) none ∙ nothing_is es (valid_sound service_layers es valid)
        ∙ ap (λ (n : ℕ). n == 0) (let whole : length es ≡ body.base + length es = omega (arith, is) in whole)
    go (suc n) is b valid =
        ap (λ (o : Option GovernedRows). is_unfounded o (requests_over body es)) (rows_above body b.rows (omega (arith, is)) b.spelled)
        ∙ sym (let some : (body.base + length es == 0) ≡ false = grind (arith, nat_tests, is) in some)

-- and it writes what the state tells
pub effect_kept : (body : Body) (es : List Entry) (s : LedgerState) (r : Recorded) → IsStateOver body es s → effect_after (past_over body es) r ≡ writes_over s.gov.base s.gov.requests r
effect_kept body es s r k = ap₂ (λ (now after : History). changes (rows now) (rows after)) (history_kept body es s k) (after_kept body es s k r)

third : (a b c d f g i j k : Bool) → (a && b && c && d && f && g && i && j && k) ≡ true → c ≡ true
third true true true d f g i j k h = refl
third true true false d f g i j k h = absurd (cc)
third true false c d f g i j k h = absurd (cc)
third false b c d f g i j k h = absurd (cc)

-- and its fields are in their ranges, as it was read from bytes
pub recorded_fits : (e : Entry) (g : GovernanceRequest) → recording_of e.content ≡ Some (recordings.Governance g) → is_entry e ≡ true → ranges.is_request g ≡ true
recorded_fits e g reads fits = by_content e.content reads (third (nat_lt e.view (2 ^ 32)) (nat_lt e.seqno (2 ^ 64)) (is_content e.content) (list_all is_write e.writes) (is_ordered e.writes)
    (may_write e.content || are_no_writes e.writes) (is_digest e.claims) (may_claim e.content || is_no_digest e.claims) (nat_le (length (body_bytes e)) body_limit) fits)
  where
    read_from : (bytes : List ℕ) (o : Option GovernanceRequest) → request_in bytes ≡ o → governance_recording o ≡ Some (recordings.Governance g) → are_bytes bytes ≡ true → ranges.is_request g ≡ true
    read_from bytes None is r all = absurd (cc)
    read_from bytes (Some h) is r all = let same : h ≡ g = cc in (request_in-encoded bytes g all (is ∙ ap (λ (x : GovernanceRequest). Some x) same)).0

    by_application : (r : Result (List Operation) CodeFault) → application_recording r ≡ Some (recordings.Governance g) → ⊥
    by_application (Ok q) is = cc
    by_application (Err f) is = cc

    by_content : (c : Content) → recording_of c ≡ Some (recordings.Governance g) → is_content c ≡ true → ranges.is_request g ≡ true
    by_content (content.Governance bytes) r all = read_from bytes (request_in bytes) refl r all
    by_content (content.Application bytes) r all = absurd (by_application (request_of bytes) r)
    by_content (content.Signature s) r all = absurd (cc)
    by_content (content.Evidence d) r all = absurd (cc)

-- rules 7 and 8, by what the state of governance answers
module _ (p : Past) (g : GovernanceRequest) (e : Entry) (seqno : ℕ) (at : seqno ≡ p.len + 1) where
  asked : unless_refused (refusal p.history seqno g) (with_writes 8 seqno (effect_after p (record { seqno = seqno; request = g })) e None) ≡ broken_by_governance g p e
  asked = ap (λ (n : ℕ). unless_refused (refusal p.history n g) (with_writes 8 n (effect_after p (record { seqno = n; request = g })) e None)) at

  pub governance_refused : (why : GovernanceRefusal) → refusal p.history seqno g ≡ Some why → Some (record { rule = 7; refusal = refusals.Governance why }) ≡ broken_by_governance g p e
  governance_refused why is =
      sym (ap (λ (o : Option GovernanceRefusal). unless_refused o (with_writes 8 seqno (effect_after p (record { seqno = seqno; request = g })) e None)) is) ∙ asked

  pub governance_accepted : (wanted : List Write) (found : Option Broken) → refusal p.history seqno g ≡ None → wanted ≡ effect_after p (record { seqno = seqno; request = g }) →
      IfSome found (λ b. (rest : Option Broken) → with_writes 8 seqno wanted e rest ≡ Some b) → IfNone found ((rest : Option Broken) → with_writes 8 seqno wanted e rest ≡ rest) →
      found ≡ broken_by_governance g p e
  governance_accepted wanted found accepted writes some none =
      go found some none ∙ ap (λ (ws : List Write). with_writes 8 seqno ws e None) writes
      ∙ sym (ap (λ (o : Option GovernanceRefusal). unless_refused o (with_writes 8 seqno (effect_after p (record { seqno = seqno; request = g })) e None)) accepted) ∙ asked
    where
      go : (o : Option Broken) → IfSome o (λ b. (rest : Option Broken) → with_writes 8 seqno wanted e rest ≡ Some b) → IfNone o ((rest : Option Broken) → with_writes 8 seqno wanted e rest ≡ rest) →
          o ≡ with_writes 8 seqno wanted e None
      go None some none = sym (none None)
      go (Some b) some none = sym (some None)

-- rules 9 to 11, by the tests of them
pub signature_asked : (p : Past) (s : signatures.Signature) (e : Entry) (len : ℕ) (recorded signed may : Bool) (root : List ℕ) → len ≡ p.len → recorded ≡ member s.node p.nodes →
    root ≡ p.root → signed ≡ same_bytes s.root root → may ≡ may_record p s.commit →
    broken_by_signature service_layers s p e
    ≡ required recorded (breach 9 (len + 1) e) (required signed (replay 9 (len + 1) root s.root) (required may (breach 10 (len + 1) e)
    (broken_by_fault (p.len + 1) (fault_of_signature service_layers p e s))))
signature_asked p s e len recorded signed may root pl pn pr ps pm =
    let same : signed ≡ same_bytes s.root p.root = ps ∙ ap (same_bytes s.root) pr in
    rw (pl, pn, same, pr, pm) refl

-- rule 12, by the tests of it

too_long : (bytes : List ℕ) (n : ℕ) → digest_within bytes ≡ Err n → nat_le (length bytes) snapshots.snapshot_limit ≡ false
too_long bytes n is = go (nat_lt snapshots.snapshot_limit (length bytes)) refl is
  where
    go : (b : Bool) → nat_lt snapshots.snapshot_limit (length bytes) ≡ b → (if b then Err (length bytes) else Ok (sha256 bytes)) ≡ Err n → nat_le (length bytes) snapshots.snapshot_limit ≡ false
    go true long w = grind (arith, nat_tests, long)
    go false long w = absurd (cc)

pub evidence_asked : (p : Past) (d : List ℕ) (e : Entry) (len : ℕ) (bytes : List ℕ) (signed : Bool) → len ≡ p.len → bytes ≡ snapshots.body_bytes p.snapshot → signed ≡ is_signed p.last →
    broken_by_evidence d p e
    ≡ required signed (breach 12 (len + 1) e) (required (nat_le (length bytes) snapshots.snapshot_limit) (breach 12 (len + 1) e)
    (required (same_bytes d (sha256 bytes)) (replay 12 (len + 1) (sha256 bytes) d) None))
evidence_asked p d e len bytes signed pl pb ps = rw (pl, pb, ps) refl

pub evidence_too_long : (p : Past) (d : List ℕ) (e : Entry) (len n : ℕ) (bytes : List ℕ) → len ≡ p.len → bytes ≡ snapshots.body_bytes p.snapshot → true ≡ is_signed p.last → digest_within bytes ≡ Err n →
    Some (breach 12 (len + 1) e) ≡ broken_by_evidence d p e
evidence_too_long p d e len n bytes pl pb ps is =
    sym (ap (λ (b : Bool). required b (breach 12 (len + 1) e) (required (same_bytes d (sha256 bytes)) (replay 12 (len + 1) (sha256 bytes) d) None)) (too_long bytes n is))
    ∙ sym (evidence_asked p d e len bytes true pl pb ps)

-- what breaks a rule by what it records breaks it by its bytes
pub found_by : {E : Type 0} (s : LedgerState) (e : Entry) (r : Recording) (found : Result (Option Broken) E) → recording_of e.content ≡ Some r →
    IfOk found (λ b. ForStates s (λ body es. b ≡ broken_where service_layers (Some r) (past_over body es) e)) → IfOk found (λ b. ForStates s (λ body es. b ≡ broken_over service_layers body es e))
found_by s e r (Ok b) is all = λ body es k. all body es k ∙ sym (broken_read body es e r is)
found_by s e r (Err a) is all = tt
