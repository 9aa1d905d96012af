-- With which entries a service begins, by the first byte of the request that they record.
use Rattle.std.proofs.Common.{◌≡◌, ℕ, ◌==◌, ◌||◌, List, slice_get, Option, Some, None, Bool, true, false, refl, sym, ◌∙◌, ap}
use Rattle.gl_base.specs.Bytes.{are_bytes}
use Rattle.gl_requests.specs.Parsing.{request_in}
use Rattle.gl_requests.specs.Encoding.{act_tag, request_bytes}
use Rattle.gl_requests.specs.declared.request.MemberAct.{MemberAct}
use Rattle.gl_requests.specs.declared.request.MemberAct.TheVariants as acts
use Rattle.gl_requests.specs.declared.request.GovernanceRequest.{GovernanceRequest}
use Rattle.gl_requests.specs.declared.request.GovernanceRequest.TheVariants as requests
use Rattle.gl_gov_rules.specs.Governed.{is_founding, is_recovery}
use Rattle.gl_entry.specs.declared.entry.Content.{Content}
use Rattle.gl_entry.specs.declared.entry.Content.TheVariants as content
use Rattle.gl_entry.specs.declared.entry.Entry.{Entry}
use Rattle.gl_ledger.specs.Recordings.{governance_recording, records_founding, records_recovery, recording_of, begins}
use Rattle.gl_ledger.proofs.RequestEncodings.{request_in-encoded}
use Rattle.gl_audit.specs.Ends.{IsRead}

-- the first byte is that of a request that founds a service, or recovers it
abbrev pub starts : Option ℕ → Bool
starts None = false
starts (Some tag) = (tag == 1) || (tag == 2)

starts_of : (g : GovernanceRequest) → starts (slice_get (request_bytes g) 0) ≡ (is_founding g || is_recovery g)
starts_of (requests.Genesis g) = refl
starts_of (requests.Recover r) = refl
starts_of (requests.Join n) = refl
starts_of (requests.Mark id) = refl
starts_of (requests.Member m) = by_act m.act
  where
    by_act : (act : MemberAct) → starts (Some (act_tag act)) ≡ false
    by_act acts.Ack = refl
    by_act (acts.Propose list) = refl
    by_act (acts.Ballot id agrees) = refl
    by_act (acts.Withdraw id) = refl
    by_act (acts.Share share) = refl

-- it tells which request the bytes encode
pub tag_reports : (bytes : List ℕ) (g : GovernanceRequest) (first : Option ℕ) → are_bytes bytes ≡ true → request_in bytes ≡ Some g → first ≡ slice_get bytes 0 → starts first ≡ (is_founding g || is_recovery g)
tag_reports bytes g first all reads is =
    ap starts is ∙ ap (λ (bs : List ℕ). starts (slice_get bs 0)) (request_in-encoded bytes g all reads).1 ∙ starts_of g

-- so it tells of the entry that records them
pub begins_where : (e : Entry) (bytes : List ℕ) (b : Bool) → e.content ≡ content.Governance bytes → IsRead e → ((g : GovernanceRequest) → request_in bytes ≡ Some g → b ≡ (is_founding g || is_recovery g)) → b ≡ begins e
begins_where e bytes b is read reports = go (request_in bytes) refl
  where
    go : (o : Option GovernanceRequest) → request_in bytes ≡ o → b ≡ begins e
    go None none = absurd (read (ap recording_of is ∙ ap governance_recording none))
    go (Some g) some =
        reports g some
        ∙ sym (ap (λ (c : Content). records_founding (recording_of c) || records_recovery (recording_of c)) is
        ∙ ap (λ (o : Option GovernanceRequest). records_founding (governance_recording o) || records_recovery (governance_recording o)) some)
