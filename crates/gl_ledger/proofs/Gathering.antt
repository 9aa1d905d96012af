-- What a ledger records with one more entry.
use Rattle.std.proofs.Common.{◌≡◌, ℕ, suc, ◌+◌, List, [], ◌∷◌, ◌++◌, length, Option, Some, None, Result, Ok, Err, false, refl, sym, ◌∙◌, ap, arith, append_assoc}
use Rattle.std.proofs.lemmas.List.{append-nil}
use Rattle.gl_base.specs.declared.fault.CodeFault.{CodeFault}
use Rattle.gl_tx.specs.Parsing.{request_of}
use Rattle.gl_tx.specs.declared.request.Operation.{Operation}
use Rattle.gl_entry.specs.Entry.{is_signature}
use Rattle.gl_entry.specs.declared.entry.Content.{Content}
use Rattle.gl_entry.specs.declared.entry.Content.TheVariants as content
use Rattle.gl_entry.specs.declared.entry.Entry.{Entry}
use Rattle.gl_gov_rules.specs.declared.change.Recorded.{Recorded}
use Rattle.gl_requests.specs.Parsing.{request_in}
use Rattle.gl_requests.specs.declared.request.GovernanceRequest.{GovernanceRequest}
use Rattle.gl_ledger.specs.declared.recording.Recording.{Recording}
use Rattle.gl_ledger.specs.declared.recording.Recording.TheVariants as recordings
use Rattle.gl_ledger.specs.Recordings.{governance_recording, application_recording, is_signing, recording_of, recorded_at, recorded_in, requests_from, requests_of}
use Rattle.gl_ledger.proofs.Growth.{IsNoGovernance}

requests_more : (seqno : ℕ) (es : List Entry) (e : Entry) (at : ℕ) → at ≡ seqno + length es → requests_from seqno (es ++ e ∷ []) ≡ requests_from seqno es ++ recorded_in at e.content
requests_more seqno [] e at is = append-nil (recorded_in seqno e.content) ∙ ap (λ (k : ℕ). recorded_in k e.content) (omega (arith, is))
requests_more seqno (f ∷ es) e at is =
    ap (λ (rs : List Recorded). recorded_in seqno f.content ++ rs) (requests_more (suc seqno) es e at (omega (arith, is)))
    ∙ sym (append_assoc (recorded_in seqno f.content) (requests_from (suc seqno) es) (recorded_in at e.content))

pub requests-push : (ledger : List Entry) (e : Entry) → requests_of (ledger ++ e ∷ []) ≡ requests_of ledger ++ recorded_in (length ledger + 1) e.content
requests-push ledger e = requests_more 1 ledger e (length ledger + 1) (omega arith)

-- an entry that is none of governance records no request
pub requests-quiet : (ledger : List Entry) (e : Entry) → IsNoGovernance e.content → requests_of (ledger ++ e ∷ []) ≡ requests_of ledger
requests-quiet ledger e h =
    requests-push ledger e ∙ ap (λ (rs : List Recorded). requests_of ledger ++ rs) (nothing e.content h) ∙ append-nil (requests_of ledger)
  where
    nothing : (c : Content) → IsNoGovernance c → recorded_in (length ledger + 1) c ≡ []
    nothing (content.Governance b) n = absurd n
    nothing (content.Application b) n = refl
    nothing (content.Signature b) n = refl
    nothing (content.Evidence b) n = refl

-- an entry of governance records its request
pub requests-more : (ledger : List Entry) (e : Entry) (bytes : List ℕ) (g : GovernanceRequest) → e.content ≡ content.Governance bytes → request_in bytes ≡ Some g →
    requests_of (ledger ++ e ∷ []) ≡ requests_of ledger ++ record { seqno = length ledger + 1; request = g } ∷ []
requests-more ledger e bytes g is reads =
    requests-push ledger e
    ∙ ap (λ (rs : List Recorded). requests_of ledger ++ rs) (ap (recorded_in (length ledger + 1)) is ∙ ap (recorded_at (length ledger + 1)) reads)

-- only a signature is read as one
pub signing_is : (c : Content) (r : Recording) → recording_of c ≡ Some r → is_signing r ≡ is_signature c
signing_is (content.Signature s) r h = let k : recordings.Signature s ≡ r = cc in sym (ap is_signing k)
signing_is (content.Evidence d) r h = let k : recordings.Evidence d ≡ r = cc in sym (ap is_signing k)
signing_is (content.Application bytes) r h = go (request_of bytes) h
  where
    go : (o : Result (List Operation) CodeFault) → application_recording o ≡ Some r → is_signing r ≡ false
    go (Err fault) w = absurd (cc)
    go (Ok q) w = let k : recordings.Application q ≡ r = cc in sym (ap is_signing k)
signing_is (content.Governance bytes) r h = go (request_in bytes) h
  where
    go : (o : Option GovernanceRequest) → governance_recording o ≡ Some r → is_signing r ≡ false
    go None w = absurd (cc)
    go (Some g) w = let k : recordings.Governance g ≡ r = cc in sym (ap is_signing k)
