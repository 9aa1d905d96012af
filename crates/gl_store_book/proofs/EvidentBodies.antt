-- A body whose digest an evidence of a valid ledger records is that of the entries before it, or two inputs have one digest.
use Rattle.std.proofs.Common.{◌≡◌, ◌⊎◌, inl, inr, ℕ, zero, suc, ◌+◌, ◌-◌, ◌<◌, ◌≤◌, List, [], ◌∷◌, length, take, slice_get, nat_le, Bool, true, false, Option, None, Some, Result, Ok, Err, refl, sym, ap, subst, ◌∙◌, arith}
use Rattle.std.proofs.lemmas.Bool.Decides.{nat_tests}
use Rattle.sha2.specs.Sha256.{sha256}
use Rattle.gl_base.specs.Bytes.{same_bytes}
use Rattle.gl_entry.specs.declared.entry.Content.{Content}
use Rattle.gl_entry.specs.declared.entry.Content.TheVariants as content
use Rattle.gl_entry.specs.declared.entry.Entry.{Entry}
use Rattle.gl_rules.specs.Log.{entry_at}
use Rattle.gl_snapshot_body.specs.Body.{body_bytes, is_body, snapshot_limit}
use Rattle.gl_snapshot_body.specs.Parsing.{shape_of}
use Rattle.gl_snapshot_body.specs.declared.body.Body.{Body}
use Rattle.gl_snapshot_body.specs.declared.fault.ShapeFault.{ShapeFault}
use Rattle.gl_snapshot_body.proofs.BodyLaws.{shape-read}
use Rattle.gl_vmaps.proofs.SameValues.{same_bytes_is, same_bytes_self}
use Rattle.gl_ledger.specs.Audit.{audited}
use Rattle.gl_ledger.specs.Broken.{breach, broken, broken_by, broken_by_evidence, replay}
use Rattle.gl_ledger.specs.NodeKeys.{service_layers}
use Rattle.gl_ledger.specs.Past.{Past, is_signed, past_of}
use Rattle.gl_ledger.specs.Recordings.{recording_of}
use Rattle.gl_ledger.specs.Signed.{IsSignedUpTo}
use Rattle.gl_ledger.specs.Snapshot.{snapshot_of}
use Rattle.gl_ledger.specs.declared.recording.Recording.{Recording}
use Rattle.gl_ledger.specs.declared.recording.Recording.TheVariants as recordings
use Rattle.gl_ledger.proofs.Auditing.{audited_none}
use Rattle.gl_ledger.proofs.EachPassing.{over-take}
use Rattle.gl_ledger.proofs.Passing.{PassesAfter, passed, passing}
use Rattle.gl_ledger_base.specs.Ledgers.{IsBase}
use Rattle.gl_ledger_base.proofs.LedgersReadable.{readable}
use Rattle.gl_ledger_base.proofs.LedgersWeaker.{audited_whole}
use Rattle.gl_snapshot_body.specs.Body.{no_body}
use Rattle.gl_store_book.specs.VerifiedSnapshots.{Collide, IsBodyBefore}
use Rattle.gl_store_book.proofs.ShownSnapshots.{signed_last}

at_most : (a b : ℕ) → nat_le a b ≡ true → a ≤ b
at_most a b is = grind (arith, nat_tests, is)

-- what the rules found of an evidence with this digest
record IsRecorded (p : Past) (d : List ℕ) : Type 0 where
  signed : is_signed p.last ≡ true
  within : length (body_bytes p.snapshot) ≤ snapshot_limit
  digest : d ≡ sha256 (body_bytes p.snapshot)

recorded_by : (d : List ℕ) (p : Past) (e : Entry) → broken_by_evidence d p e ≡ None → IsRecorded p d
recorded_by d p e none =
    let seqno = p.len + 1 in
    let bytes = body_bytes p.snapshot in
    let one = passed (is_signed p.last) (breach 12 seqno e) _ none in
    let two = passed (nat_le (length bytes) snapshot_limit) (breach 12 seqno e) _ one.1 in
    let three = passed (same_bytes d (sha256 bytes)) (replay 12 seqno (sha256 bytes) d) None two.1 in
    record { signed = one.0; within = at_most (length bytes) snapshot_limit two.0; digest = same_bytes_is d (sha256 bytes) three.0 }

recorded_as : (d : List ℕ) (t : Recording) (p : Past) (e : Entry) → recording_of (content.Evidence d) ≡ Some t → broken_by service_layers t p e ≡ None → IsRecorded p d
recorded_as d t p e reads none =
    let same : recordings.Evidence d ≡ t = cc in
    recorded_by d p e (subst (λ (r : Recording). broken_by service_layers r p e ≡ None) (sym same) none)

-- two bodies that can be read, with the same bytes
same_body : (b c : Body) → is_body b ≡ true → is_body c ≡ true → body_bytes b ≡ body_bytes c → b ≡ c
same_body b c fits other same =
    let read : Ok b ≡ Ok c = sym (shape-read 0 b fits) ∙ ap (shape_of 0) same ∙ shape-read 0 c other in
    cc

met : (b c : Body) → is_body b ≡ true → is_body c ≡ true → sha256 (body_bytes b) ≡ sha256 (body_bytes c) → (b ≡ c) ⊎ Collide (body_bytes b) (body_bytes c)
met b c fits other digest = go (same_bytes (body_bytes b) (body_bytes c)) refl
  where
    go : (t : Bool) → same_bytes (body_bytes b) (body_bytes c) ≡ t → (b ≡ c) ⊎ Collide (body_bytes b) (body_bytes c)
    go true is = inl (same_body b c fits other (same_bytes_is (body_bytes b) (body_bytes c) is))
    go false is = inr (record {
      differ = λ same. let t = ap (λ (x : List ℕ). same_bytes x (body_bytes c)) same ∙ same_bytes_self (body_bytes c) in let f = sym is ∙ t in absurd (cc);
      digest = digest;
    })

module _ (ledger : List Entry) (valid : audited service_layers ledger ≡ None) (k : ℕ) (e : Entry) (at : slice_get ledger k ≡ Some e) (body : Body) (is : e.content ≡ content.Evidence (sha256 (body_bytes body))) (fits : is_body body ≡ true) where
  abbrev below : List Entry
  below = take k ledger

  passes : PassesAfter service_layers (past_of below) e
  passes = passing service_layers below e (audited_none service_layers ledger valid k e at)

  recorded : IsRecorded (past_of below) (sha256 (body_bytes body))
  recorded = recorded_as (sha256 (body_bytes body)) passes.recording (past_of below) e (subst (λ (c : Content). recording_of c ≡ Some passes.recording) is passes.reads) passes.rest

  base : IsBase service_layers (snapshot_of below) below
  base = record {
    valid = audited_whole service_layers (length below) below (over-take service_layers no_body ledger k valid);
    ends = signed_last below recorded.signed;
    snapshot = refl;
  }

  some : 0 < (snapshot_of below).base
  some = go below recorded.signed
    where
      go : (l : List Entry) → is_signed (past_of l).last ≡ true → 0 < (snapshot_of l).base
      go [] signed = absurd (cc)
      go (x ∷ xs) signed = omega arith

  before : IsBodyBefore ledger (suc k) body
  before =
      let place : k ≡ suc k - 1 = omega arith in
      subst (λ (n : ℕ). (body ≡ snapshot_of (take n ledger)) ⊎ Collide (body_bytes body) (body_bytes (snapshot_of (take n ledger)))) place
      (met body (snapshot_of below) fits (readable service_layers (snapshot_of below) below base some recorded.within).fits recorded.digest)

pub body_before : (ledger : List Entry) → audited service_layers ledger ≡ None → (seqno : ℕ) (e : Entry) → entry_at ledger seqno ≡ Some e → (body : Body) → e.content ≡ content.Evidence (sha256 (body_bytes body)) → is_body body ≡ true → IsBodyBefore ledger seqno body
body_before ledger valid zero e at body is fits = absurd (cc)
body_before ledger valid (suc k) e at body is fits = before ledger valid k e at body is fits
