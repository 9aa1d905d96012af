-- What a ledger takes: with the trial by the rules of the audit, and where that refuses nothing.
use Rattle.std.proofs.Common.{◌≡◌, ℕ, ◌+◌, ◌<◌, ◌^◌, List, [], ◌∷◌, ◌++◌, length, Option, Some, None, Result, Ok, Err, Bool, true, false, ◌||◌, nat_lt, if◌then◌else◌, refl, sym, ap, subst, ◌∙◌}
use Rattle.gl_answers.specs.Limits.{FitsGiven}
use Rattle.gl_answers.proofs.ServiceLimits.{guarded_request_answered}
use Rattle.gl_base.specs.Answers.{Fails}
use Rattle.gl_base.specs.TxId.{last_seqno}
use Rattle.gl_base.specs.declared.or_no_memory.OrNoMemory.{OrNoMemory}
use Rattle.gl_base.specs.declared.or_no_memory.OrNoMemory.TheVariants.{NoMemory, Fault}
use Rattle.gl_tx.specs.Request as applications
use Rattle.gl_tx.specs.Run.{run}
use Rattle.gl_tx.specs.declared.runs.Ran.{Ran}
use Rattle.gl_tx.specs.declared.abort.Abort.{Abort}
use Rattle.gl_tx.specs.declared.request.Answer.{Answer}
use Rattle.gl_tx.specs.declared.request.Operation.{Operation}
use Rattle.gl_entry.specs.Entry.{body_bytes, body_limit}
use Rattle.gl_entry.specs.declared.entry.Entry.{Entry}
use Rattle.gl_requests.specs.Ranges as ranges
use Rattle.gl_requests.specs.declared.genesis.ServiceState.{ServiceState}
use Rattle.gl_requests.specs.declared.genesis.ServiceState.TheVariants.{Opening, Open, WaitingForRecoveryShares}
use Rattle.gl_requests.specs.declared.request.GovernanceRequest.{GovernanceRequest}
use Rattle.gl_gov_rules.specs.declared.refusal.GovernanceRefusal.{GovernanceRefusal}
use Rattle.gl_gov_rules.specs.Changes.{history}
use Rattle.gl_gov_rules.specs.Governed as governance
use Rattle.gl_gov_rules.specs.Refusals.{refusal}
use Rattle.gl_ledger.specs.Broken.{broken}
use Rattle.gl_ledger.specs.Ledger.{application_after, execute_after, execute_state, governance_after, run_after, within_named, within_size}
use Rattle.gl_ledger.specs.LedgerBook.{by_rule}
use Rattle.gl_ledger.specs.Makers.{MayMake, accepted_after, by_store, governance_made_after, governed_within_after, govern_after, govern_result, guarded, request_after, request_result, unless_broken, unless_refused, with_reply}
use Rattle.gl_ledger.specs.NodeKeys.{service_layers}
use Rattle.gl_ledger.specs.Past.{Past, past_of, past_over}
use Rattle.gl_ledger.specs.Recordings.{requests_of}
use Rattle.gl_ledger.specs.ServiceRow.{service_state}
use Rattle.gl_ledger.specs.declared.breach.Broken.{Broken}
use Rattle.gl_ledger.specs.declared.refusal.Refusal.{Refusal}
use Rattle.gl_ledger.specs.declared.refusal.Refusal.TheVariants as refusals
use Rattle.gl_ledger.specs.declared.response.Response.{Response}
use Rattle.gl_ledger.specs.declared.response.Rejection.{Rejection}
use Rattle.gl_ledger.specs.declared.response.Rejection.TheVariants.{ByStore, Unencodable, Founding, ByRule}
use Rattle.gl_ledger.proofs.Governing.{govern_is}
use Rattle.gl_ledger.proofs.MadeEntries.{execute_is}
use Rattle.gl_ledger.proofs.Valid.{valid_sound}
use Rattle.gl_ledger_base.specs.BookOver.{guarded_over}
use Rattle.gl_store_book.specs.BasedLedgers as based
use Rattle.gl_store_book.specs.BasedLedgers.{BasedLedger, IsAudited, body_of, broken_after, with_entries}
use Rattle.gl_store_book.specs.Taken.{IsNoGovernance, RefusesFor, Takes, executed, governed}
use Rattle.gl_store_book.proofs.AnyKeys.{any_keys}
use Rattle.gl_store_book.proofs.WholeBased.{whole_audited, whole_broken}

-- ---- the trial

-- what was made, unless it breaks a rule
abbrev pub tried : {X : Type 0} → BasedLedger → (X → Entry) → Result X Rejection → Result X Rejection
tried l entry_of made = guarded_over service_layers (body_of l.snapshot) l.entries entry_of made

abbrev pub entry_made : Entry × Response → Entry
entry_made made = made.0

abbrev pub itself : Entry → Entry
itself e = e

-- what breaks no rule is taken
untouched : {X : Type 0} (o : Option Broken) (made : X) → o ≡ None → unless_broken o made ≡ Ok made
untouched None made none = refl
untouched (Some why) made none = absurd (cc)

-- what is taken breaks none
unbroken_so : {X : Type 0} (o : Option Broken) (made x : X) → unless_broken o made ≡ Ok x → o ≡ None
unbroken_so None made x h = refl
unbroken_so (Some why) made x h = absurd (cc)

-- what is refused without a trial is refused
pub refused_first : {F : Type 0} (entry_of : F → Entry) (l : BasedLedger) (e : OrNoMemory Rejection) (expected : Result F Rejection) → Fails e expected → Fails e (tried l entry_of expected)
refused_first entry_of l NoMemory expected h = tt
refused_first entry_of l (Fault why) expected h = ap (tried l entry_of) h

-- what breaks a rule is refused for it
broken_so : {F : Type 0} (o : Option Broken) (why : Rejection) (made : F) → by_rule o ≡ Some why → unless_broken o made ≡ Err why
broken_so None why made h = absurd (cc)
broken_so (Some b) why made h = let k : ByRule b ≡ why = cc in ap Err k

pub refused_by_rule : {F : Type 0} (entry_of : F → Entry) (l : BasedLedger) (e : OrNoMemory Rejection) (made : F) (expected : Result F Rejection) → expected ≡ Ok made →
    RefusesFor (broken_after l (entry_of made)) e → Fails e (tried l entry_of expected)
refused_by_rule entry_of l NoMemory made expected is h = tt
refused_by_rule entry_of l (Fault why) made expected is h = ap (tried l entry_of) is ∙ broken_so (broken_after l (entry_of made)) why made h

pub made_so : {F : Type 0} (entry_of : F → Entry) (l : BasedLedger) (made : F) (expected : Result F Rejection) → expected ≡ Ok made → broken_after l (entry_of made) ≡ None → tried l entry_of expected ≡ Ok made
made_so entry_of l made expected is unbroken = ap (tried l entry_of) is ∙ untouched (broken_after l (entry_of made)) made unbroken

-- where the trial refuses nothing, what is made breaks no rule
pub never_broken : {F : Type 0} (entry_of : F → Entry) (ledger : List Entry) (made : F) (expected : Result F Rejection) → guarded service_layers entry_of ledger expected ≡ expected → expected ≡ Ok made →
    broken service_layers ledger (entry_of made) ≡ None
never_broken entry_of ledger made expected same is =
    unbroken_so (broken service_layers ledger (entry_of made)) made made (sym (ap (guarded service_layers entry_of ledger) is) ∙ same ∙ is)

-- ---- what is made, if something is made

abbrev pub Each : {X F : Type 0} → (X → Type 0) → Result X F → Type 0
Each P (Ok made) = P made
Each P (Err why) = Unit {0}

pub each_ok : {X F : Type 0} (P : X → Type 0) (r : Result X F) (made : X) → Each P r → r ≡ Ok made → P made
each_ok {X} {F} P r made h is = subst (λ (x : Result X F). Each P x) is h

module _ {X : Type 0} (P : X → Type 0) where
  sized : (size : ℕ) (r : Result X Refusal) → Each P r → Each P (within_size size r)
  sized size r h = go (nat_lt body_limit size)
    where
      go : (b : Bool) → Each P (if b then Err (refusals.TooLarge size) else r)
      go true = tt
      go false = h

  pub named : (len : ℕ) (made : X) → P made → Each P (within_named len made)
  named len made h = go (nat_lt len last_seqno)
    where
      go : (b : Bool) → Each {F = Refusal} P (if b then Ok made else Err refusals.SeqnoLimit)
      go true = h
      go false = tt

  pub stored : (r : Result X Refusal) → Each P r → Each P (by_store r)
  stored (Ok made) h = h
  stored (Err why) h = tt

-- ---- requests of applications

-- an entry of this view that records no request of governance
abbrev pub IsQuietIn : ℕ → Entry → Type 0
IsQuietIn view e = (e.view ≡ view) × IsNoGovernance e.content

replied : (view : ℕ) (r : Result (Entry × List Answer) Refusal) → Each (λ (made : Entry × List Answer). IsQuietIn view made.0) r → Each (λ (made : Entry × Response). IsQuietIn view made.0) (with_reply r)
replied view (Ok made) h = h
replied view (Err why) h = tt

request_quiet_in : (p : Past) (view : ℕ) (q : List Operation) → Each (λ (made : Entry × Response). IsQuietIn view made.0) (request_after p view q)
request_quiet_in p view q = go (applications.is_request q)
  where
    after_run : (r : Result Ran Abort) → Each (λ (made : Entry × List Answer). IsQuietIn view made.0) (run_after p view q r)
    after_run (Err abort) = tt
    after_run (Ok ran) =
        let e = application_after p view q ran in
        let made : Each (λ (m : Entry × List Answer). IsQuietIn view m.0) (within_named p.len (e, ran.reply)) = named (λ (m : Entry × List Answer). IsQuietIn view m.0) p.len (e, ran.reply) (refl, tt) in
        sized (λ (m : Entry × List Answer). IsQuietIn view m.0) (length (body_bytes e)) (within_size (length (applications.reply_bytes ran.reply)) (within_named p.len (e, ran.reply)))
        (sized (λ (m : Entry × List Answer). IsQuietIn view m.0) (length (applications.reply_bytes ran.reply)) (within_named p.len (e, ran.reply)) made)

    in_state : (s : ServiceState) → Each (λ (made : Entry × List Answer). IsQuietIn view made.0) (execute_state s p view q)
    in_state Open = after_run (run q p.tables)
    in_state Opening = tt
    in_state WaitingForRecoveryShares = tt

    go : (b : Bool) → Each (λ (made : Entry × Response). IsQuietIn view made.0) (if b then with_reply (execute_after p view q) else Err Unencodable)
    go true = replied view (execute_after p view q) (in_state (service_state p.tables))
    go false = tt

module _ (l : BasedLedger) (view : ℕ) (q : List Operation) (made : Entry × Response) (is : request_after (based.past_of l) view q ≡ Ok made) where
  pub request_quiet : IsQuietIn view made.0
  request_quiet = each_ok (λ (m : Entry × Response). IsQuietIn view m.0) (request_after (based.past_of l) view q) made (request_quiet_in (based.past_of l) view q) is

  -- where entries may be made it breaks no rule
  pub request_unbroken : view < 2 ^ 32 → l.snapshot ≡ None → MayMake l.entries view → broken_after l made.0 ≡ None
  request_unbroken low none may =
      whole_broken l none made.0
      ∙ never_broken entry_made l.entries made (request_result l.entries view q) (execute_is service_layers any_keys l.entries view low may q)
      (ap (λ (o : Option (List ℕ)). request_after (past_over (body_of o) l.entries) view q) (sym none) ∙ is)

-- ---- requests of governance

governed_in : (p : Past) (view : ℕ) (g : GovernanceRequest) → Each (λ (made : Entry × Response). made.0.view ≡ view) (govern_after p view g)
governed_in p view g = go (ranges.is_request g) (governance.is_founding g || governance.is_recovery g)
  where
    e : Entry
    e = governance_after g p view

    unrefused : (o : Option GovernanceRefusal) → Each (λ (made : Entry × Response). made.0.view ≡ view) (unless_refused o (governed_within_after p g e))
    unrefused None =
        stored (λ (made : Entry × Response). made.0.view ≡ view) (within_size (length (body_bytes e)) (within_named p.len (governance_made_after p g e)))
        (sized (λ (made : Entry × Response). made.0.view ≡ view) (length (body_bytes e)) (within_named p.len (governance_made_after p g e))
        (named (λ (made : Entry × Response). made.0.view ≡ view) p.len (governance_made_after p g e) refl))
    unrefused (Some why) = tt

    go : (b c : Bool) → Each (λ (made : Entry × Response). made.0.view ≡ view) (if b then (if c then Err Founding else accepted_after p view g) else Err Unencodable)
    go false c = tt
    go true true = tt
    go true false = unrefused (refusal p.history (p.len + 1) g)

module _ (l : BasedLedger) (view : ℕ) (g : GovernanceRequest) (made : Entry × Response) (is : govern_after (based.past_of l) view g ≡ Ok made) where
  pub governed_view : made.0.view ≡ view
  governed_view = each_ok (λ (m : Entry × Response). m.0.view ≡ view) (govern_after (based.past_of l) view g) made (governed_in (based.past_of l) view g) is

  -- where entries may be made it breaks no rule
  pub governed_unbroken : view < 2 ^ 32 → IsAudited l → l.snapshot ≡ None → MayMake l.entries view → broken_after l made.0 ≡ None
  governed_unbroken low valid none may =
      whole_broken l none made.0
      ∙ never_broken entry_made l.entries made (govern_result l.entries view g)
      (govern_is service_layers any_keys l.entries view low may (valid_sound service_layers l.entries (whole_audited l none valid)) g)
      (ap (λ (o : Option (List ℕ)). govern_after (past_over (body_of o) l.entries) view g) (sym none) ∙ is)

-- ---- what is taken

-- an entry that was made and that breaks no rule
pub takes : (l new : BasedLedger) (view : ℕ) (made : Entry × Response) (expected : Result (Entry × Response) Rejection) → expected ≡ Ok made → made.0.view ≡ view → broken_after l made.0 ≡ None →
    new ≡ with_entries l (l.entries ++ made.0 ∷ []) → Takes (tried l entry_made expected) view made.1 l new
takes l new view made expected is in_view unbroken entered = record {
  entry = made.0;
  made = made_so entry_made l made expected is unbroken;
  in_view = in_view;
  entered = entered;
}

-- a request of an application is given an answer that can be sent
pub executed_fits : (l new : BasedLedger) (view : ℕ) (q : List Operation) (given : Response) → Takes (executed l view q) view given l new → FitsGiven given
executed_fits l new view q given t =
    guarded_request_answered (tried l entry_made) (broken_after l) (λ made. refl) (λ why. refl) (based.past_of l) view q t.entry given t.made

-- ---- refusals of governance

-- before a service is founded
unfounded_refused : (p : Past) (view : ℕ) (g : GovernanceRequest) (why : GovernanceRefusal) → ranges.is_request g ≡ true → governance.is_founding g ≡ false → governance.is_recovery g ≡ false →
    refusal p.history (p.len + 1) g ≡ Some why → govern_after p view g ≡ Err (ByStore (refusals.Governance why))
unfounded_refused p view g why fits other again is = go (ranges.is_request g) (governance.is_founding g) (governance.is_recovery g) (refusal p.history (p.len + 1) g) fits other again is
  where
    refused_for : GovernanceRefusal → Result (Entry × Response) Rejection
    refused_for r = Err (ByStore (refusals.Governance r))

    go : (a b c : Bool) (o : Option GovernanceRefusal) → a ≡ true → b ≡ false → c ≡ false → o ≡ Some why →
        (if a then (if b || c then Err Founding else unless_refused o (governed_within_after p g (governance_after g p view))) else Err Unencodable) ≡ Err (ByStore (refusals.Governance why))
    go false b c o u v w x = absurd (cc)
    go true true c o u v w x = absurd (cc)
    go true false true o u v w x = absurd (cc)
    go true false false None u v w x = absurd (cc)
    go true false false (Some other) u v w x = let k : other ≡ why = cc in ap refused_for k

pub refused_unfounded : (l : BasedLedger) (view : ℕ) (g : GovernanceRequest) (why : GovernanceRefusal) → based.past_of l ≡ past_of [] → ranges.is_request g ≡ true → governance.is_founding g ≡ false → governance.is_recovery g ≡ false →
    refusal (history (requests_of [])) 1 g ≡ Some why → governed l view g ≡ Err (ByStore (refusals.Governance why))
refused_unfounded l view g why none fits other again is =
    ap (tried l entry_made) (ap (λ (p : Past). govern_after p view g) none ∙ unfounded_refused (past_of []) view g why fits other again is)
