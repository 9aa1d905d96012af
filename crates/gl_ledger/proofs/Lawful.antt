-- The ledger has the laws of a book: what is made was tried by the rules.
use Rattle.std.proofs.Common.{◌≡◌, ◌⊎◌, inl, inr, ⊎_elim, ℕ, zero, suc, ◌+◌, ◌-◌, ◌<◌, List, [], ◌∷◌, ◌++◌, length, take, Option, Some, None, Result, Ok, Err, Bool, true, false, ◌||◌, refl, sym, ◌∙◌, ap, subst, if◌then◌else◌, nat_lt, option_map, slice_get, arith, length-take}
use Rattle.gl_base.proofs.Lists.{slice_get-of_take, slice_get-within}
use Rattle.gl_base.specs.TxId.{last_seqno}
use Rattle.gl_rules.specs.Log.{entry_at}
use Rattle.gl_rules.specs.Identity.{NodeId}
use Rattle.gl_rules.specs.Safety.{IsLawful, EachFollows, Makes, MarksNone, KeepsPlaces}
use Rattle.gl_rules.proofs.Soundness.{sound_cut, sound_push}
use Rattle.gl_tx.specs.Request.{is_request}
use Rattle.gl_tx.specs.declared.request.Operation.{Operation}
use Rattle.gl_tx.specs.declared.request.Answer.{Answer}
use Rattle.gl_entry.specs.Entry.{is_signature, is_evidence, recorded_commit, body_bytes, body_limit}
use Rattle.gl_entry.specs.declared.entry.Content.{Content}
use Rattle.gl_entry.specs.declared.entry.Content.TheVariants as content
use Rattle.gl_entry.specs.declared.entry.Entry.{Entry}
use Rattle.gl_requests.specs.Encoding.{request_bytes}
use Rattle.gl_requests.specs.Ranges as ranges
use Rattle.gl_requests.specs.declared.request.GovernanceRequest.{GovernanceRequest}
use Rattle.gl_requests.specs.declared.request.GovernanceRequest.TheVariants as requests
use Rattle.gl_gov_rules.specs.declared.refusal.GovernanceRefusal.{GovernanceRefusal}
use Rattle.gl_gov_rules.specs.Changes.{history}
use Rattle.gl_gov_rules.specs.Governed.{is_founding, is_recovery}
use Rattle.gl_gov_rules.specs.Refusals.{refusal}
use Rattle.gl_ledger.specs.Ledger.{execute_result, within_size, within_seqnos, governance_entry}
use Rattle.gl_ledger.specs.declared.refusal.Refusal.{Refusal}
use Rattle.gl_ledger.specs.declared.refusal.Refusal.TheVariants as refusals
use Rattle.gl_ledger.specs.Layers.{Layers}
use Rattle.gl_ledger.specs.NodeKeys.{NodeKeys}
use Rattle.gl_ledger.specs.declared.recording.Recording.{Recording}
use Rattle.gl_ledger.specs.declared.recording.Recording.TheVariants as recordings
use Rattle.gl_ledger.specs.Recordings.{last_entry, requests_of, removal, mark, recording_of}
use Rattle.gl_ledger.specs.declared.breach.Broken.{Broken}
use Rattle.gl_ledger.specs.Past.{Past, is_signed, last_of, past_of}
use Rattle.gl_snapshot_body.specs.Body as snapshots
use Rattle.gl_ledger.specs.Broken.{broken, broken_by}
use Rattle.gl_ledger.specs.declared.response.Response.{Response}
use Rattle.gl_ledger.specs.declared.response.Response.TheVariants.{Replied}
use Rattle.gl_ledger.specs.declared.response.Rejection.{Rejection}
use Rattle.gl_ledger.specs.declared.response.Rejection.TheVariants.{Unencodable, NotAfterSignature, Founding}
use Rattle.gl_ledger.specs.Makers.{with_reply, request_result, by_store, unless_refused, unless_broken, unless_empty, guarded, governance_made, govern_result, signed_entry, signing_result, evidence_entry, evidence_result}
use Rattle.gl_ledger.specs.LedgerBook.{ServiceBook, marked_node, by_rule, ledger_book}
use Rattle.gl_ledger.proofs.Applications.{execute_ok}
use Rattle.gl_ledger.proofs.Growth.{IsNoGovernance}
use Rattle.gl_ledger.proofs.Passing.{passed, passing}
use Rattle.gl_ledger.proofs.Bases.{weaker_from}
use Rattle.gl_ledger.proofs.RequestEncodings.{request_in-read}
use Rattle.gl_ledger.proofs.Gathering.{requests-more}
use Rattle.gl_ledger.proofs.Governed.{no_rule_broken, followed}
use Rattle.gl_ledger.proofs.Places.{Records, none_removed, removal_stays, removal_comes, none_marked, mark_stays, mark_comes, mark_quiet, mark_by, marked}

abbrev done : {X : Type 0} → X → Result X Rejection
done x = Ok x

-- what is made where there is a seqno left
within_seqnos_ok : {X : Type 0} (ledger : List Entry) (made x : X) → within_seqnos ledger made ≡ Ok x → x ≡ made
within_seqnos_ok {X} ledger made x h = go (nat_lt (length ledger) last_seqno) h
  where
    kept : X → Result X Refusal
    kept y = Ok y

    go : (b : Bool) → (if b then kept made else Err refusals.SeqnoLimit) ≡ Ok x → x ≡ made
    go true w = cc
    go false w = absurd (cc)

-- where it is within its size
within_size_ok : {X : Type 0} (size : ℕ) (made : Result X Refusal) (x : X) → within_size size made ≡ Ok x → made ≡ Ok x
within_size_ok {X} size made x h = go (nat_lt body_limit size) h
  where
    go : (b : Bool) → (if b then Err (refusals.TooLarge size) else made) ≡ Ok x → made ≡ Ok x
    go true w = absurd (cc)
    go false w = w

-- and in the book's words
by_store_ok : {X : Type 0} (made : Result X Refusal) (x : X) → by_store made ≡ Ok x → made ≡ Ok x
by_store_ok {X} (Ok y) x h = let p : y ≡ x = cc in ap Ok p
by_store_ok {X} (Err why) x h = absurd (cc)

module _ (layers : Layers) (keys : NodeKeys) where
  abbrev pub book : ServiceBook
  book = ledger_book layers keys

  -- what is let through was made, and its entry breaks nothing
  pub guarded_ok : {X : Type 0} (entry_of : X → Entry) (ledger : List Entry) (r : Result X Rejection) (x : X) → guarded layers entry_of ledger r ≡ Ok x →
      (r ≡ Ok x) × (broken layers ledger (entry_of x) ≡ None)
  guarded_ok {X} entry_of ledger (Err why) x h = absurd (cc)
  guarded_ok {X} entry_of ledger (Ok made) x h = go (broken layers ledger (entry_of made)) refl h
    where
      go : (o : Option Broken) → broken layers ledger (entry_of made) ≡ o → unless_broken o made ≡ Ok x → (done made ≡ Ok x) × (broken layers ledger (entry_of x) ≡ None)
      go None is w = let p : made ≡ x = cc in (w, subst (λ (y : X). broken layers ledger (entry_of y) ≡ None) p is)
      go (Some why) is w = absurd (cc)

  -- what an application request makes is its entry, where bytes encode it
  request_ok : (ledger : List Entry) (view : ℕ) (q : List Operation) (made : Entry × Response) → request_result ledger view q ≡ Ok made →
      (is_request q ≡ true) × (a : List Answer) × (execute_result ledger view q ≡ Ok (made.0, a))
  request_ok ledger view q made h = go (is_request q) refl h
    where
      answered : (r : Result (Entry × List Answer) Refusal) → with_reply r ≡ Ok made → (a : List Answer) × (r ≡ Ok (made.0, a))
      answered (Err why) w = absurd (cc)
      answered (Ok m) w =
          let p : (m.0, Replied m.1) ≡ made = cc in
          (m.1, ap (λ (e : Entry). Ok (e, m.1)) (ap (λ (t : Entry × Response). t.0) p))

      go : (b : Bool) → is_request q ≡ b → (if b then with_reply (execute_result ledger view q) else Err Unencodable) ≡ Ok made →
          (is_request q ≡ true) × (a : List Answer) × (execute_result ledger view q ≡ Ok (made.0, a))
      go false is w = absurd (cc)
      go true is w = let r = answered (execute_result ledger view q) w in (is, r.0, r.1)

  -- what is signed is the entry of the signature
  signing_ok : (x : NodeId) (leaf : ℕ) (ledger : List Entry) (view commit : ℕ) (e : Entry) → signing_result keys x leaf ledger view commit ≡ Ok e → e ≡ signed_entry keys x leaf ledger view commit
  signing_ok x leaf ledger view commit e h =
      let made = signed_entry keys x leaf ledger view commit in
      within_seqnos_ok ledger made e (by_store_ok (within_seqnos ledger made) e h)

  -- after an entry
  signing_some : {X : Type 0} (ledger : List Entry) (r : Result X Rejection) (made : X) → unless_empty ledger r ≡ Ok made → r ≡ Ok made
  signing_some [] r made h = absurd (cc)
  signing_some (f ∷ fs) r made h = h

  -- where the book refuses no entry it breaks no rule
  pub unbroken : (ledger : List Entry) (e : Entry) → book.breaks 0 ledger e ≡ None → broken layers ledger e ≡ None
  unbroken ledger e h = no_rule_broken (broken layers ledger e) h

  -- an entry that breaks no rule is one that the ledger takes
  makes : (ledger : List Entry) (view : ℕ) (e : Entry) → EachFollows book ledger → e.view ≡ view → broken layers ledger e ≡ None → Makes book (EachFollows book) ledger view e
  makes ledger view e z v h = record { view_is = v; follows = ap by_rule h; sound = sound_push book ledger e z (ap by_rule h) }

  -- what an application request, a signature and a request of governance make
  executed_lawful : (ledger : List Entry) (view : ℕ) (q : List Operation) (e : Entry) (a : Response) → EachFollows book ledger →
      book.execute ledger view q ≡ Ok (e, a) → Makes book (EachFollows book) ledger view e × (book.is_signature e ≡ false) × MarksNone book ledger e
  executed_lawful ledger view q e a z h =
      let one = guarded_ok (λ (made : Entry × Response). made.0) ledger (request_result ledger view q) (e, a) h in
      let two = request_ok ledger view q (e, a) one.0 in
      let made = execute_ok ledger view q e two.1 two.2 in (
        makes ledger view e z (ap (λ (x : Entry). x.view) made.3) one.1,
        ap (λ (x : Entry). is_signature x.content) made.3,
        mark_quiet ledger e (subst (λ (x : Entry). IsNoGovernance x.content) (sym made.3) tt),
      )

  signed_lawful : (x : NodeId) (leaf : ℕ) (ledger : List Entry) (view commit : ℕ) (e : Entry) → EachFollows book ledger →
      book.sign x leaf ledger view commit ≡ Ok e → Makes book (EachFollows book) ledger view e × (book.is_signature e ≡ true) × (book.recorded_commit e ≡ commit)
  signed_lawful x leaf ledger view commit e z h =
      let signing = signing_result keys x leaf ledger view commit in
      let one = guarded_ok (λ (made : Entry). made) ledger (unless_empty ledger signing) e h in
      let is = signing_ok x leaf ledger view commit e (signing_some ledger signing e one.0) in (
        makes ledger view e z (ap (λ (f : Entry). f.view) is) one.1,
        ap (λ (f : Entry). is_signature f.content) is,
        ap (λ (f : Entry). recorded_commit f.content) is,
      )

  -- what a request of governance makes is its entry, where bytes encode it
  governed_ok : (ledger : List Entry) (view : ℕ) (g : GovernanceRequest) (made : Entry × Response) → govern_result ledger view g ≡ Ok made →
      (ranges.is_request g ≡ true) × (made.0 ≡ governance_entry g ledger view)
  governed_ok ledger view g made h = go (ranges.is_request g) (is_founding g || is_recovery g) (refusal (history (requests_of ledger)) (length ledger + 1) g) refl h
    where
      e : Entry
      e = governance_entry g ledger view

      kept : Result (Entry × Response) Refusal
      kept = within_seqnos ledger (governance_made ledger g e)

      within : Result (Entry × Response) Rejection
      within = by_store (within_size (length (body_bytes e)) kept)

      go : (a b : Bool) (o : Option GovernanceRefusal) → ranges.is_request g ≡ a → (if a then (if b then Err Founding else unless_refused o within) else Err Unencodable) ≡ Ok made →
          (ranges.is_request g ≡ true) × (made.0 ≡ e)
      go false b o is w = absurd (cc)
      go true true o is w = absurd (cc)
      go true false (Some why) is w = absurd (cc)
      go true false None is w = (
        is,
        ap (λ (t : Entry × Response). t.0) (within_seqnos_ok ledger (governance_made ledger g e) made
            (within_size_ok (length (body_bytes e)) kept made (by_store_ok (within_size (length (body_bytes e)) kept) made w))),
      )

  governed_lawful : (ledger : List Entry) (view : ℕ) (g : GovernanceRequest) (e : Entry) (a : Response) → EachFollows book ledger →
      book.govern ledger view g ≡ Ok (e, a) → Makes book (EachFollows book) ledger view e × (book.is_signature e ≡ false)
  governed_lawful ledger view g e a z h =
      let one = guarded_ok (λ (made : Entry × Response). made.0) ledger (govern_result ledger view g) (e, a) h in
      let is = governed_ok ledger view g (e, a) one.0 in
      (makes ledger view e z (ap (λ (x : Entry). x.view) is.1) one.1, ap (λ (x : Entry). is_signature x.content) is.1)

  -- the entry that a request makes records it
  governed_records : (ledger : List Entry) (view : ℕ) (g : GovernanceRequest) (e : Entry) → ranges.is_request g ≡ true → e ≡ governance_entry g ledger view → Records ledger e g
  governed_records ledger view g e fits is =
      let encoded : e.content ≡ content.Governance (request_bytes g) = ap (λ (x : Entry). x.content) is in
      record { bytes = request_bytes g; encoded = encoded; more = requests-more ledger e (request_bytes g) g encoded (request_in-read g fits) }

  -- it marks no node but the one that the request marks
  governed_marks : (ledger : List Entry) (view : ℕ) (g : GovernanceRequest) (e : Entry) (a : Response) (y : NodeId) (seqno : ℕ) →
      book.govern ledger view g ≡ Ok (e, a) → mark (ledger ++ e ∷ []) y ≡ Some seqno → (mark ledger y ≡ Some seqno) ⊎ (marked_node g ≡ Some y)
  governed_marks ledger view g e a y seqno h m =
      let one = guarded_ok (λ (made : Entry × Response). made.0) ledger (govern_result ledger view g) (e, a) h in
      let is = governed_ok ledger view g (e, a) one.0 in
      ⊎_elim (λ (old : mark ledger y ≡ Some seqno). inl old) (λ (new : (seqno ≡ length ledger + 1) × (g ≡ requests.Mark y)). inr (ap marked_node new.1))
      (mark_by ledger e g y seqno (governed_records ledger view g e is.0 is.1) m)

  -- what an evidence makes is its entry
  evidence_ok : (p : Past) (view : ℕ) (e : Entry) → evidence_result p view ≡ Ok e → e ≡ evidence_entry p view
  evidence_ok p view e h = go (is_signed p.last) (nat_lt snapshots.snapshot_limit size) (nat_lt p.len last_seqno) h
    where
      size : ℕ
      size = length (snapshots.body_bytes p.snapshot)

      made : Entry
      made = evidence_entry p view

      go : (a b c : Bool) → (if a then by_store (if b then Err (refusals.TooLarge size) else (if c then Ok made else Err refusals.SeqnoLimit)) else Err NotAfterSignature) ≡ Ok e → e ≡ made
      go false b c w = absurd (cc)
      go true true c w = absurd (cc)
      go true false false w = absurd (cc)
      go true false true w = let p : made ≡ e = cc in sym p

  evident_lawful : (ledger : List Entry) (view : ℕ) (e : Entry) → EachFollows book ledger →
      book.evidence ledger view ≡ Ok e → Makes book (EachFollows book) ledger view e × (book.is_signature e ≡ false) × MarksNone book ledger e
  evident_lawful ledger view e z h =
      let one = guarded_ok (λ (made : Entry). made) ledger (evidence_result (past_of ledger) view) e h in
      let is = evidence_ok (past_of ledger) view e one.0 in (
        makes ledger view e z (ap (λ (f : Entry). f.view) is) one.1,
        ap (λ (f : Entry). is_signature f.content) is,
        mark_quiet ledger e (subst (λ (f : Entry). IsNoGovernance f.content) (sym is) tt),
      )

  -- an evidence entry stands right after a signature
  after_signature : (ledger : List Entry) (e : Entry) → broken layers ledger e ≡ None → is_evidence e.content ≡ true → is_signed (past_of ledger).last ≡ true
  after_signature ledger e h d = let p = passing layers ledger e h in go e.content refl d p.recording p.reads p.rest
    where
      go : (c : Content) → e.content ≡ c → is_evidence c ≡ true → (t : Recording) → recording_of e.content ≡ Some t → broken_by layers t (past_of ledger) e ≡ None → is_signed (past_of ledger).last ≡ true
      go (content.Governance b) is w t r s = absurd (cc)
      go (content.Application b) is w t r s = absurd (cc)
      go (content.Signature b) is w t r s = absurd (cc)
      go (content.Evidence b) is w t r s =
          let k : Some (recordings.Evidence b) ≡ Some t = sym (ap recording_of is) ∙ r in
          let same : recordings.Evidence b ≡ t = cc in
          let none : broken_by layers (recordings.Evidence b) (past_of ledger) e ≡ None = ap (λ (u : Recording). broken_by layers u (past_of ledger) e) same ∙ s in
          (passed (is_signed (past_of ledger).last) _ _ none).0

  last_of_take : (log : List Entry) (seqno : ℕ) → seqno < length log → (f : Entry) → last_entry (take seqno log) ≡ Some f → entry_at log seqno ≡ Some f
  last_of_take log zero h f is = absurd (cc)
  last_of_take log (suc i) h f is =
      let long : length (take (suc i) log) - 1 ≡ i = omega (arith, length-take (suc i) log) in
      (slice_get-of_take (suc i) log i f (ap (slice_get (take (suc i) log)) (sym long) ∙ is)).1

  signed_last : (o : Option Entry) → is_signed (option_map last_of o) ≡ true → (f : Entry) × (o ≡ Some f) × (is_signature f.content ≡ true)
  signed_last None h = absurd (cc)
  signed_last (Some f) h = (f, refl, h)

  witnessed : (log : List Entry) (seqno : ℕ) (e : Entry) → EachFollows book log → slice_get log seqno ≡ Some e → is_evidence e.content ≡ true →
      (f : Entry) × (entry_at log seqno ≡ Some f) × (is_signature f.content ≡ true)
  witnessed log seqno e z a d =
      let f = signed_last (last_entry (take seqno log)) (after_signature (take seqno log) e (unbroken (take seqno log) e (z seqno e a)) d) in
      (f.0, last_of_take log seqno (slice_get-within log seqno e a) f.0 f.1, f.2)

  -- removals and marks stand where they came
  removals : KeepsPlaces book (EachFollows book) removal
  removals = record {
    none = none_removed;
    stays = λ log e y seqno z h. removal_stays log e y seqno h;
    comes = λ log e y seqno z h. removal_comes log e y seqno h;
  }

  markings : KeepsPlaces book (EachFollows book) mark
  markings = record {
    none = none_marked;
    stays = λ log e y seqno z h. mark_stays log e y seqno h;
    comes = λ log e y seqno z h. mark_comes log e y seqno h;
  }

  -- the laws of a book
  pub lawful : IsLawful book (EachFollows book)
  lawful = record {
    executed = λ log view q e a z v h. executed_lawful log view q e a z h;
    governed = λ log view g e a z v h. governed_lawful log view g e a z h;
    signed = λ x leaf log view commit e z v c h. signed_lawful x leaf log view commit e z h;
    evident = λ log view e z v h. evident_lawful log view e z h;
    taken = λ log e z f. sound_push book log e z f;
    weaker = λ log e base f. ap by_rule (weaker_from layers base log e (unbroken log e f));
    cut = λ log seqno z. sound_cut book log seqno z;
    witnessed = λ log seqno e z a d. witnessed log seqno e z a d;
    removals = removals;
    markings = markings;
    marked = λ log e y z h. marked layers log e y (followed layers keys (log ++ e ∷ []) z) h;
    marks = λ log view g e a y seqno z v h m. governed_marks log view g e a y seqno h m;
  }
