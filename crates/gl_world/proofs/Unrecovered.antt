-- A service that begins unrecovered stays so: the book makes no entry of a recovery, so no node
-- ever holds one.
use Rattle.std.proofs.Common.{◌≡◌, ℕ, ◌+◌, List, [], ◌∷◌, length, Option, Some, None, Result, Ok, Err, Bool, true, false, ◌||◌, nat_lt, if◌then◌else◌, refl, sym, ◌∙◌, ap, subst}
use Rattle.gl_base.specs.TxId.{last_seqno}
use Rattle.gl_base.specs.declared.fault.CodeFault.{CodeFault}
use Rattle.gl_rules.specs.Identity.{NodeId}
use Rattle.gl_rules.specs.World.{Start}
use Rattle.gl_safety.specs.Made.{Executed, Governed, Signed, Evident, MakesOnly}
use Rattle.gl_safety.proofs.Made.{holds_after}
use Rattle.gl_tx.specs.Request.{is_request}
use Rattle.gl_tx.specs.Parsing.{request_of}
use Rattle.gl_tx.specs.declared.request.Operation.{Operation}
use Rattle.gl_tx.specs.declared.request.Answer.{Answer}
use Rattle.gl_entry.specs.Entry.{body_bytes, body_limit}
use Rattle.gl_entry.specs.declared.entry.Entry.{Entry}
use Rattle.gl_requests.specs.Ranges as ranges
use Rattle.gl_requests.specs.declared.request.GovernanceRequest.{GovernanceRequest}
use Rattle.gl_gov_rules.specs.declared.refusal.GovernanceRefusal.{GovernanceRefusal}
use Rattle.gl_gov_rules.specs.Changes.{history}
use Rattle.gl_gov_rules.specs.Governed.{is_founding, is_recovery}
use Rattle.gl_gov_rules.specs.Refusals.{refusal}
use Rattle.gl_ledger.specs.Ledger.{governance_entry, execute_result, within_size, within_seqnos}
use Rattle.gl_ledger.specs.Layers.{Layers}
use Rattle.gl_ledger.specs.NodeKeys.{NodeKeys}
use Rattle.gl_ledger.specs.Recordings.{application_recording, governance_recording, records_recovery, recovers, requests_of}
use Rattle.gl_ledger.specs.Sound.{IsUnrecovered}
use Rattle.gl_ledger.specs.declared.breach.Broken.{Broken}
use Rattle.gl_ledger.specs.declared.refusal.Refusal.{Refusal}
use Rattle.gl_ledger.specs.declared.refusal.Refusal.TheVariants as refusals
use Rattle.gl_ledger.specs.declared.response.Response.{Response}
use Rattle.gl_ledger.specs.declared.response.Rejection.{Rejection}
use Rattle.gl_ledger.specs.declared.response.Rejection.TheVariants.{Unencodable, NotAfterSignature, Founding}
use Rattle.gl_ledger.specs.Past.{Past, is_signed, past_of}
use Rattle.gl_ledger.specs.Broken.{broken}
use Rattle.gl_ledger.specs.Makers.{with_reply, request_result, by_store, unless_refused, governance_made, govern_result, unless_broken, guarded, unless_empty, signed_entry, signing_result, within_snapshot, evidence_entry, evidence_result}
use Rattle.gl_ledger.specs.LedgerBook.{ledger_book}
use Rattle.gl_ledger.specs.OpeningLedger.{Begins}
use Rattle.gl_ledger.proofs.Applications.{execute_ok}
use Rattle.gl_ledger.proofs.Governing.{neither}
use Rattle.gl_ledger.proofs.RequestEncodings.{request_in-read}
use Rattle.gl_world.specs.Service.{ServiceEvent, node_of}

abbrev NoRecovery : Entry → Type 0
NoRecovery e = recovers e ≡ false

-- the entry of what is made with an answer, and without one
abbrev entry_with_answer : Entry × Response → Entry
entry_with_answer made = made.0

abbrev entry_alone : Entry → Entry
entry_alone made = made

-- where something is made, its entry is no recovery
abbrev MakesNone : {X W : Type 0} → (X → Entry) → Result X W → Type 0
MakesNone entry_of (Ok made) = NoRecovery (entry_of made)
MakesNone entry_of (Err why) = Unit {0}

none_made : {X W : Type 0} (entry_of : X → Entry) (r : Result X W) (x : X) → MakesNone entry_of r → r ≡ Ok x → NoRecovery (entry_of x)
none_made entry_of r x none is = subst (MakesNone entry_of) is none

-- ---- limits, refusals and the guard make nothing of their own

none_within_seqnos : {X : Type 0} (entry_of : X → Entry) (ledger : List Entry) (made : X) → NoRecovery (entry_of made) → MakesNone entry_of (within_seqnos ledger made)
none_within_seqnos {X} entry_of ledger made none = go (nat_lt (length ledger) last_seqno)
  where
    kept : Result X Refusal
    kept = Ok made

    go : (b : Bool) → MakesNone entry_of (if b then kept else Err refusals.SeqnoLimit)
    go true = none
    go false = tt

none_within_size : {X : Type 0} (entry_of : X → Entry) (size : ℕ) (made : Result X Refusal) → MakesNone entry_of made → MakesNone entry_of (within_size size made)
none_within_size entry_of size made none = go (nat_lt body_limit size)
  where
    go : (b : Bool) → MakesNone entry_of (if b then Err (refusals.TooLarge size) else made)
    go true = tt
    go false = none

none_if : {X W : Type 0} (entry_of : X → Entry) (t : Bool) (one two : Result X W) → MakesNone entry_of one → MakesNone entry_of two → MakesNone entry_of (if t then one else two)
none_if entry_of true one two here other = here
none_if entry_of false one two here other = other

none_within_snapshot : {X : Type 0} (entry_of : X → Entry) (size : ℕ) (made : Result X Refusal) → MakesNone entry_of made → MakesNone entry_of (within_snapshot size made)
none_within_snapshot entry_of size made none = none_if entry_of _ (Err (refusals.TooLarge size)) made tt none

none_by_store : {X : Type 0} (entry_of : X → Entry) (made : Result X Refusal) → MakesNone entry_of made → MakesNone entry_of (by_store made)
none_by_store entry_of (Ok made) none = none
none_by_store entry_of (Err why) none = tt

none_unless_empty : {X : Type 0} (entry_of : X → Entry) (ledger : List Entry) (made : Result X Rejection) → MakesNone entry_of made → MakesNone entry_of (unless_empty ledger made)
none_unless_empty entry_of [] made none = tt
none_unless_empty entry_of (e ∷ es) made none = none

none_guarded : {X : Type 0} (layers : Layers) (entry_of : X → Entry) (ledger : List Entry) (made : Result X Rejection) → MakesNone entry_of made → MakesNone entry_of (guarded layers entry_of ledger made)
none_guarded layers entry_of ledger (Err why) none = tt
none_guarded layers entry_of ledger (Ok made) none = go (broken layers ledger (entry_of made))
  where
    go : (o : Option Broken) → MakesNone entry_of (unless_broken o made)
    go None = none
    go (Some why) = tt

-- ---- what the book makes

-- the entry of an application request
none_executed : (ledger : List Entry) (view : ℕ) (q : List Operation) → MakesNone entry_with_answer (request_result ledger view q)
none_executed ledger view q = go (is_request q)
  where
    read : (r : Result (List Operation) CodeFault) → records_recovery (application_recording r) ≡ false
    read (Ok request) = refl
    read (Err fault) = refl

    replied : (r : Result (Entry × List Answer) Refusal) → execute_result ledger view q ≡ r → MakesNone entry_with_answer (with_reply r)
    replied (Err why) is = tt
    replied (Ok made) is =
        let ran = execute_ok ledger view q made.0 made.1 is in
        subst NoRecovery (sym ran.3) (read (request_of _))

    go : (b : Bool) → MakesNone entry_with_answer (if b then with_reply (execute_result ledger view q) else Err Unencodable)
    go true = replied (execute_result ledger view q) refl
    go false = tt

-- the entry of a request of governance, which recovers nothing where the request doesn't
none_governed : (ledger : List Entry) (view : ℕ) (g : GovernanceRequest) → MakesNone entry_with_answer (govern_result ledger view g)
none_governed ledger view g = go (ranges.is_request g) (is_founding g || is_recovery g) (refusal (history (requests_of ledger)) (length ledger + 1) g) refl refl
  where
    e : Entry
    e = governance_entry g ledger view

    kept : Result (Entry × Response) Refusal
    kept = within_seqnos ledger (governance_made ledger g e)

    within : Result (Entry × Response) Rejection
    within = by_store (within_size (length (body_bytes e)) kept)

    go : (a b : Bool) (o : Option GovernanceRefusal) → ranges.is_request g ≡ a → (is_founding g || is_recovery g) ≡ b →
        MakesNone entry_with_answer (if a then (if b then Err Founding else unless_refused o within) else Err Unencodable)
    go false b o fits other = tt
    go true true o fits other = tt
    go true false (Some why) fits other = tt
    go true false None fits other =
        let read : recovers e ≡ is_recovery g = ap (λ (o : Option GovernanceRequest). records_recovery (governance_recording o)) (request_in-read g fits) in
        let none : NoRecovery e = read ∙ (neither (is_founding g) (is_recovery g) other).1 in
        none_by_store entry_with_answer (within_size (length (body_bytes e)) kept)
        (none_within_size entry_with_answer (length (body_bytes e)) kept
        (none_within_seqnos entry_with_answer ledger (governance_made ledger g e) none))

-- the entry of a signature
none_signed : (keys : NodeKeys) (x : NodeId) (leaf : ℕ) (ledger : List Entry) (view commit : ℕ) → MakesNone entry_alone (signing_result keys x leaf ledger view commit)
none_signed keys x leaf ledger view commit =
    let made = signed_entry keys x leaf ledger view commit in
    none_by_store entry_alone (within_seqnos ledger made) (none_within_seqnos entry_alone ledger made refl)

-- the entry of an evidence
none_evident : (p : Past) (view : ℕ) → MakesNone entry_alone (evidence_result p view)
none_evident p view = go (is_signed p.last) _ (nat_lt p.len last_seqno)
  where
    kept : Bool → Result Entry Refusal
    kept left = if left then Ok (evidence_entry p view) else Err refusals.SeqnoLimit

    none_kept : (left : Bool) → MakesNone entry_alone (kept left)
    none_kept true = refl
    none_kept false = tt

    go : (signed : Bool) (size : ℕ) (left : Bool) → MakesNone entry_alone (if signed then by_store (within_snapshot size (kept left)) else Err NotAfterSignature)
    go false size left = tt
    go true size left = none_by_store entry_alone (within_snapshot size (kept left)) (none_within_snapshot entry_alone size (kept left) (none_kept left))

module _ (layers : Layers) (keys : NodeKeys) where
  -- none of them is a recovery
  makes_none : MakesOnly (ledger_book layers keys) NoRecovery
  makes_none e (Executed ledger view q a is) =
      none_made entry_with_answer _ (e, a) (none_guarded layers entry_with_answer ledger (request_result ledger view q) (none_executed ledger view q)) is
  makes_none e (Governed ledger view g a is) =
      none_made entry_with_answer _ (e, a) (none_guarded layers entry_with_answer ledger (govern_result ledger view g) (none_governed ledger view g)) is
  makes_none e (Signed x leaf ledger view commit is) =
      none_made entry_alone _ e
      (none_guarded layers entry_alone ledger (unless_empty ledger (signing_result keys x leaf ledger view commit))
      (none_unless_empty entry_alone ledger (signing_result keys x leaf ledger view commit) (none_signed keys x leaf ledger view commit))) is
  makes_none e (Evident ledger view is) =
      none_made entry_alone _ e (none_guarded layers entry_alone ledger (evidence_result (past_of ledger) view) (none_evident (past_of ledger) view)) is

  -- so no node of a service that begins without one ever holds one
  pub stays_unrecovered : (s : Start Entry) → Begins layers s → (events : List ServiceEvent) (x : NodeId) → IsUnrecovered (node_of layers keys s events x).log
  stays_unrecovered s h events x = (holds_after {Kind = NoRecovery} makes_none s h.unrecovered events).logs x
