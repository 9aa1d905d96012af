-- What is made behind a body is what the book of each ledger makes that body and entries stand for.
use Rattle.std.proofs.Common.{◌≡◌, ℕ, ◌+◌, ◌-◌, ◌≤◌, List, [], ◌∷◌, length, Option, Some, None, Result, Ok, Err, Bool, true, false, ◌||◌, nat_lt, if◌then◌else◌, option_map, refl, sym, ◌∙◌, ap, subst, arith}
use Rattle.gl_base.specs.TxId.{last_seqno}
use Rattle.gl_base.proofs.Lists.{slice_get-below}
use Rattle.gl_rules.specs.Identity.{NodeId}
use Rattle.gl_tx.specs.Request as applications
use Rattle.gl_tx.specs.Run.{run}
use Rattle.gl_tx.specs.declared.runs.Ran.{Ran}
use Rattle.gl_tx.specs.declared.abort.Abort.{Abort}
use Rattle.gl_tx.specs.declared.request.Answer.{Answer}
use Rattle.gl_tx.specs.declared.request.Operation.{Operation}
use Rattle.gl_tx.specs.Request.{reply_bytes}
use Rattle.gl_entry.specs.Entry.{body_bytes, body_limit, is_signature}
use Rattle.gl_entry.specs.declared.entry.Content.TheVariants as content
use Rattle.gl_entry.specs.declared.entry.Entry.{Entry}
use Rattle.gl_entry.specs.declared.entry.Signature as signatures
use Rattle.gl_requests.specs.Ranges.{is_request}
use Rattle.gl_requests.specs.declared.genesis.ServiceState.{ServiceState}
use Rattle.gl_requests.specs.declared.genesis.ServiceState.TheVariants.{Opening, Open, WaitingForRecoveryShares}
use Rattle.gl_requests.specs.declared.request.GovernanceRequest.{GovernanceRequest}
use Rattle.gl_requests.specs.declared.request.GovernanceRequest.TheVariants as requests
use Rattle.gl_gov_rules.specs.Governed.{is_founding, is_recovery}
use Rattle.gl_gov_rules.specs.Nodes.{node}
use Rattle.gl_gov_rules.specs.Refusals.{mark_refusal, refusal}
use Rattle.gl_gov_rules.specs.declared.refusal.GovernanceRefusal.{GovernanceRefusal}
use Rattle.gl_snapshot_body.specs.Body as snapshots
use Rattle.gl_snapshot_body.specs.declared.body.Body.{Body}
use Rattle.gl_ledger.specs.Audit.{audited_over}
use Rattle.gl_ledger.specs.Broken.{broken, broken_over}
use Rattle.gl_ledger.specs.Layers.{Layers}
use Rattle.gl_ledger.specs.Ledger.{application_after, execute_after, execute_state, governance_after, message_of, run_after, sign_after, signature_entry_after, within_named, within_size}
use Rattle.gl_ledger.specs.LedgerBook.{by_refusal, ledger_book}
use Rattle.gl_ledger.specs.Makers.{MayMake, accepted_after, by_store, evidence_entry, evidence_result, governance_made_after, governed_within_after, govern_after, guarded, request_after, unless_broken, unless_empty, unless_refused, with_reply, within_snapshot}
use Rattle.gl_ledger.specs.NodeKeys.{NodeKeys, node_signature}
use Rattle.gl_ledger.specs.Past.{Last, Past, is_signed, last_of, past_of, past_over}
use Rattle.gl_ledger.specs.Recordings.{endorsement_found, endorsement_in, last_entry}
use Rattle.gl_ledger.specs.ServiceRow.{service_state}
use Rattle.gl_ledger.specs.declared.breach.Broken.{Broken}
use Rattle.gl_ledger.specs.declared.refusal.Refusal.{Refusal}
use Rattle.gl_ledger.specs.declared.refusal.Refusal.TheVariants as refusals
use Rattle.gl_ledger.specs.declared.response.Response.{Response}
use Rattle.gl_ledger.specs.declared.response.Rejection.{Rejection}
use Rattle.gl_ledger.specs.declared.response.Rejection.TheVariants.{NotAfterSignature, Unencodable, Founding}
use Rattle.gl_ledger_base.specs.BookOver.{evidence_over, execute_over, govern_over, guarded_over, sign_over, signature_over, unless_first}
use Rattle.gl_ledger_base.specs.Ledgers.{HoldsLedger}
use Rattle.gl_ledger_base.proofs.LedgersHeld.{held_alike}
use Rattle.gl_ledger_base.proofs.LedgersMakers.{MakeAlike, same_govern, same_made_evidence, same_message, same_request, same_sign}
use Rattle.gl_ledger_base.proofs.LedgersWhole.{broken_plain, broken_signature}

-- ---- what is made, if something is made

abbrev Each : {X F : Type 0} → (X → Type 0) → Result X F → Type 0
Each P (Ok made) = P made
Each P (Err why) = Unit {0}

module _ {X : Type 0} (P : X → Type 0) where
  sized : (size : ℕ) (r : Result X Refusal) → Each P r → Each P (within_size size r)
  sized size r h = go (nat_lt body_limit size)
    where
      go : (b : Bool) → Each P (if b then Err (refusals.TooLarge size) else r)
      go true = tt
      go false = h

  sized_snapshot : (size : ℕ) (r : Result X Refusal) → Each P r → Each P (within_snapshot size r)
  sized_snapshot size r h = go (nat_lt snapshots.snapshot_limit size)
    where
      go : (b : Bool) → Each P (if b then Err (refusals.TooLarge size) else r)
      go true = tt
      go false = h

  named : (len : ℕ) (made : X) → P made → Each P (within_named len made)
  named len made h = go (nat_lt len last_seqno)
    where
      go : (b : Bool) → Each {F = Refusal} P (if b then Ok made else Err refusals.SeqnoLimit)
      go true = h
      go false = tt

  stored : (r : Result X Refusal) → Each P r → Each P (by_store r)
  stored (Ok made) h = h
  stored (Err why) h = tt

  first : (o : Option Last) (r : Result X Rejection) → Each P r → Each P (unless_first o r)
  first None r h = tt
  first (Some last) r h = h

-- requests make no signatures
abbrev IsPlain : Entry × Response → Type 0
IsPlain made = is_signature made.0.content ≡ false

abbrev IsPlainReplied : Entry × List Answer → Type 0
IsPlainReplied made = is_signature made.0.content ≡ false

replied : (r : Result (Entry × List Answer) Refusal) → Each IsPlainReplied r → Each IsPlain (with_reply r)
replied (Ok made) h = h
replied (Err why) h = tt

plain_request : (p : Past) (view : ℕ) (ops : List Operation) → Each IsPlain (request_after p view ops)
plain_request p view ops = go (applications.is_request ops)
  where
    after_run : (r : Result Ran Abort) → Each IsPlainReplied (run_after p view ops r)
    after_run (Err abort) = tt
    after_run (Ok ran) =
        let e = application_after p view ops ran in
        let made : Each IsPlainReplied (within_named p.len (e, ran.reply)) = named IsPlainReplied p.len (e, ran.reply) refl in
        sized IsPlainReplied (length (body_bytes e)) (within_size (length (reply_bytes ran.reply)) (within_named p.len (e, ran.reply)))
        (sized IsPlainReplied (length (reply_bytes ran.reply)) (within_named p.len (e, ran.reply)) made)

    in_state : (s : ServiceState) → Each IsPlainReplied (execute_state s p view ops)
    in_state Open = after_run (run ops p.tables)
    in_state Opening = tt
    in_state WaitingForRecoveryShares = tt

    go : (b : Bool) → Each IsPlain (if b then with_reply (execute_after p view ops) else Err Unencodable)
    go true = replied (execute_after p view ops) (in_state (service_state p.tables))
    go false = tt

plain_govern : (p : Past) (view : ℕ) (g : GovernanceRequest) → Each IsPlain (govern_after p view g)
plain_govern p view g = go (is_request g) (is_founding g || is_recovery g)
  where
    e : Entry
    e = governance_after g p view

    unrefused : (o : Option GovernanceRefusal) → Each IsPlain (unless_refused o (governed_within_after p g e))
    unrefused None =
        stored IsPlain (within_size (length (body_bytes e)) (within_named p.len (governance_made_after p g e)))
        (sized IsPlain (length (body_bytes e)) (within_named p.len (governance_made_after p g e)) (named IsPlain p.len (governance_made_after p g e) refl))
    unrefused (Some why) = tt

    go : (b c : Bool) → Each IsPlain (if b then (if c then Err Founding else accepted_after p view g) else Err Unencodable)
    go false c = tt
    go true true = tt
    go true false = unrefused (refusal p.history (p.len + 1) g)

plain_evidence : (p : Past) (view : ℕ) → Each (λ (e : Entry). is_signature e.content ≡ false) (evidence_result p view)
plain_evidence p view = go (is_signed p.last)
  where
    size : ℕ
    size = length (snapshots.body_bytes p.snapshot)

    go : (b : Bool) → Each (λ (e : Entry). is_signature e.content ≡ false) (if b then by_store (within_snapshot size (within_named p.len (evidence_entry p view))) else Err NotAfterSignature)
    go false = tt
    go true =
        stored (λ (e : Entry). is_signature e.content ≡ false) (within_snapshot size (within_named p.len (evidence_entry p view)))
        (sized_snapshot (λ (e : Entry). is_signature e.content ≡ false) size (within_named p.len (evidence_entry p view))
        (named (λ (e : Entry). is_signature e.content ≡ false) p.len (evidence_entry p view) refl))

-- an entry of a signature that records this commit
abbrev Records : ℕ → Entry → Type 0
Records commit e = (s : signatures.Signature) × (e.content ≡ content.Signature s) × (s.commit ≡ commit)

signed_records : (p : Past) (node : NodeId) (bytes : List ℕ) (view commit : ℕ) → Each (Records commit) (by_store (sign_after node bytes p view commit))
signed_records p node bytes view commit =
    let e = signature_entry_after node bytes p view commit in
    stored (Records commit) (within_named p.len e) (named (Records commit) p.len e
    (record { node = node; commit = commit; root = p.root; signature = bytes }, refl, refl))

-- ---- behind a body

module _ (layers : Layers) (body : Body) (es ledger : List Entry) (holds : HoldsLedger layers body es ledger) (valid : audited_over layers body es ≡ None) where
  abbrev p : Past
  p = past_over body es

  -- the makers read the same of body and entries as of the whole ledger: where signatures stand they
  -- don't read
  pub made_alike : MakeAlike p (past_of ledger)
  made_alike =
      let x = held_alike layers body es ledger holds valid in
      record {
        len = x.len;
        last = x.last;
        tables = x.tables;
        root = x.root;
        snapshot = x.snapshot;
        refusals = x.refusals;
        effects = x.effects;
        statuses = x.statuses;
      }

  pub last_told : p.last ≡ option_map last_of (last_entry ledger)
  last_told = made_alike.last

  -- what is told of the last entry tells whether one may be made
  pub may_make : (view : ℕ) (last : Last) → p.last ≡ Some last → last.begins ≡ false → last.view ≤ view → MayMake ledger view
  may_make view last is opened up = go (last_entry ledger) refl (sym last_told ∙ is)
    where
      go : (o : Option Entry) → last_entry ledger ≡ o → option_map last_of o ≡ Some last → MayMake ledger view
      go None at w = absurd (cc)
      go (Some e) at w =
          let same : last_of e ≡ last = cc in
          record { last = e; is_last = at; opened = ap (λ (l : Last). l.begins) same ∙ opened; up = subst (λ (l : Last). l.view ≤ view) (sym same) up }

  guarded_whole : {X : Type 0} (entry_of : X → Entry) (P : X → Type 0) (r : Result X Rejection) → Each P r →
      ((made : X) → P made → broken_over layers body es (entry_of made) ≡ broken layers ledger (entry_of made)) →
      guarded_over layers body es entry_of r ≡ guarded layers entry_of ledger r
  guarded_whole entry_of P (Ok made) is same = ap (λ (o : Option Broken). unless_broken o made) (same made is)
  guarded_whole entry_of P (Err why) is same = refl

  module _ (keys : NodeKeys) where
    pub execute_whole : (view : ℕ) (ops : List Operation) → execute_over layers body es view ops ≡ (ledger_book layers keys).execute ledger view ops
    execute_whole view ops =
        guarded_whole (λ (made : Entry × Response). made.0) IsPlain (request_after p view ops) (plain_request p view ops) (λ made none. broken_plain layers body es ledger holds made.0 valid none)
        ∙ ap (λ (r : Result (Entry × Response) Rejection). guarded layers (λ (made : Entry × Response). made.0) ledger r) (same_request p (past_of ledger) made_alike view ops)

    pub govern_whole : (view : ℕ) (g : GovernanceRequest) → govern_over layers body es view g ≡ (ledger_book layers keys).govern ledger view g
    govern_whole view g =
        guarded_whole (λ (made : Entry × Response). made.0) IsPlain (govern_after p view g) (plain_govern p view g) (λ made none. broken_plain layers body es ledger holds made.0 valid none)
        ∙ ap (λ (r : Result (Entry × Response) Rejection). guarded layers (λ (made : Entry × Response). made.0) ledger r) (same_govern p (past_of ledger) made_alike view g)

    pub evidence_whole : (view : ℕ) → evidence_over layers body es view ≡ (ledger_book layers keys).evidence ledger view
    evidence_whole view =
        guarded_whole (λ (e : Entry). e) (λ (e : Entry). is_signature e.content ≡ false) (evidence_result p view) (plain_evidence p view) (λ e none. broken_plain layers body es ledger holds e valid none)
        ∙ ap (λ (r : Result Entry Rejection). guarded layers (λ (e : Entry). e) ledger r) (same_made_evidence p (past_of ledger) made_alike view)

    -- a mark is refused alike
    pub refused_mark : (x : NodeId) → is_request (requests.Mark x) ≡ true → by_refusal (mark_refusal p.history x) ≡ (ledger_book layers keys).mark_refusal ledger x
    unfolding refusal
    refused_mark x fits = ap by_refusal (made_alike.refusals (p.len + 1) (requests.Mark x) (omega arith) fits)

    -- ---- signatures

    same_endorsement : (x : NodeId) → endorsement_found (node p.history x) ≡ endorsement_in ledger x
    unfolding endorsement_in
    same_endorsement x = (held_alike layers body es ledger holds valid).endorsements x

    pub same_signature : (x : NodeId) (leaf view commit : ℕ) → signature_over keys body es x leaf view commit ≡ node_signature keys (endorsement_in ledger x) x leaf (message_of (past_of ledger) view commit)
    same_signature x leaf view commit = λ i. node_signature keys (same_endorsement x i) x leaf (same_message p (past_of ledger) made_alike view commit i)

    -- a ledger that has a last entry isn't empty
    first_empty : {X : Type 0} (l : List Entry) (r : Result X Rejection) → unless_first (option_map last_of (last_entry l)) r ≡ unless_empty l r
    first_empty [] r = refl
    first_empty (e ∷ es) r =
        let last = slice_get-below (e ∷ es) (length (e ∷ es) - 1) (omega arith) in
        ap (λ (o : Option Entry). unless_first (option_map last_of o) r) last.1

    pub sign_whole : (x : NodeId) (leaf view commit : ℕ) → body.base ≤ commit → sign_over layers body es keys x leaf view commit ≡ (ledger_book layers keys).sign x leaf ledger view commit
    sign_whole x leaf view commit low =
        guarded_whole (λ (e : Entry). e) (Records commit) (unless_first p.last made)
        (first (Records commit) p.last made (signed_records p x (signature_over keys body es x leaf view commit) view commit))
        (λ e is. broken_signature layers body es ledger holds e valid is.0 is.1 (omega (arith, low, is.2)))
        ∙ ap (λ (r : Result Entry Rejection). guarded layers (λ (e : Entry). e) ledger r)
        (ap (λ (o : Option Last). unless_first o made) made_alike.last
        ∙ first_empty ledger made
        ∙ ap (λ (r : Result Entry Rejection). unless_empty ledger r)
        (ap by_store
        (same_sign p (past_of ledger) made_alike x (signature_over keys body es x leaf view commit) view commit
        ∙ ap (λ (bytes : List ℕ). sign_after x bytes (past_of ledger) view commit) (same_signature x leaf view commit))))
      where
        made : Result Entry Rejection
        made = by_store (sign_after x (signature_over keys body es x leaf view commit) p view commit)
