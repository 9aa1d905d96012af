-- Whatever a request makes, by what is read of the entries before it, can be answered.
use Rattle.std.proofs.Common.{◌≡◌, ◌≤◌, ℕ, ◌+◌, List, length, Bool, true, false, ◌||◌, nat_lt, Option, Some, None, Result, Ok, Err, if◌then◌else◌, refl, sym, subst}
use Rattle.std.proofs.lemmas.Bool.{ltb-false}
use Rattle.gl_base.specs.Bytes.{mebibyte}
use Rattle.gl_base.specs.TxId.{last_seqno}
use Rattle.gl_entry.specs.Entry.{body_bytes, body_limit}
use Rattle.gl_entry.specs.declared.entry.Entry.{Entry}
use Rattle.gl_gov_rules.specs.Governed.{is_founding, is_recovery}
use Rattle.gl_gov_rules.specs.Refusals as governance
use Rattle.gl_gov_rules.specs.declared.refusal.GovernanceRefusal.{GovernanceRefusal}
use Rattle.gl_requests.specs.Ranges as ranges
use Rattle.gl_requests.specs.declared.genesis.ServiceState.{ServiceState}
use Rattle.gl_requests.specs.declared.genesis.ServiceState.TheVariants.{Opening, Open, WaitingForRecoveryShares}
use Rattle.gl_requests.specs.declared.request.GovernanceRequest.{GovernanceRequest}
use Rattle.gl_tx.specs.Request.{is_request, reply_bytes}
use Rattle.gl_tx.specs.Run.{run}
use Rattle.gl_tx.specs.declared.abort.Abort.{Abort}
use Rattle.gl_tx.specs.declared.request.Answer.{Answer}
use Rattle.gl_tx.specs.declared.request.Operation.{Operation}
use Rattle.gl_tx.specs.declared.runs.Ran.{Ran}
use Rattle.gl_ledger.specs.Ledger.{application_after, execute_after, execute_state, governance_after, run_after, within_named, within_size}
use Rattle.gl_ledger.specs.Makers.{accepted_after, by_store, govern_after, governance_made_after, governed_within_after, request_after, unless_broken, unless_refused, with_reply}
use Rattle.gl_ledger.specs.Past.{Past}
use Rattle.gl_ledger.specs.ServiceRow.{service_state}
use Rattle.gl_ledger.specs.declared.breach.Broken.{Broken}
use Rattle.gl_ledger.specs.declared.response.Response.{Response}
use Rattle.gl_ledger.specs.declared.response.Rejection.{Rejection}
use Rattle.gl_ledger.specs.declared.response.Rejection.TheVariants.{Founding, Unencodable}
use Rattle.gl_ledger.specs.declared.refusal.Refusal.{Refusal}
use Rattle.gl_ledger.specs.declared.refusal.Refusal.TheVariants.{SeqnoLimit, TooLarge}
use Rattle.gl_answers.specs.Limits.{FitsGiven}

-- a reply that is made has 1 MiB at most
abbrev Short : Result (Entry × List Answer) Refusal → Type 0
Short (Ok made) = length (reply_bytes made.1) ≤ mebibyte
Short (Err why) = Unit {0}

-- whatever is made can be answered
abbrev pub Answerable : Result (Entry × Response) Rejection → Type 0
Answerable (Ok made) = FitsGiven made.1
Answerable (Err why) = Unit {0}

short_within : (size : ℕ) (made : Result (Entry × List Answer) Refusal) → (size ≤ body_limit → Short made) → Short (within_size size made)
short_within size made short = go (nat_lt body_limit size) refl
  where
    go : (t : Bool) → nat_lt body_limit size ≡ t → Short (if t then Err (TooLarge size) else made)
    go true above = tt
    go false within = short (ltb-false body_limit size within)

short_named : (len : ℕ) (e : Entry) (answers : List Answer) → length (reply_bytes answers) ≤ mebibyte → Short (within_named len (e, answers))
short_named len e answers short = go (nat_lt len last_seqno)
  where
    go : (t : Bool) → Short (if t then Ok (e, answers) else Err SeqnoLimit)
    go true = short
    go false = tt

replied : (r : Result (Entry × List Answer) Refusal) → Short r → Answerable (with_reply r)
replied (Ok made) short = short
replied (Err why) short = tt

answered : (r : Result (Entry × Response) Rejection) (e : Entry) (given : Response) → Answerable r → r ≡ Ok (e, given) → FitsGiven given
answered r e given fits is = subst Answerable is fits

module _ (p : Past) (view : ℕ) where
  short_ran : (q : List Operation) (r : Result Ran Abort) → Short (run_after p view q r)
  short_ran q (Err abort) = tt
  short_ran q (Ok ran) =
      let e = application_after p view q ran in
      let made = within_named p.len (e, ran.reply) in
      short_within (length (body_bytes e)) (within_size (length (reply_bytes ran.reply)) made)
      (λ small. short_within (length (reply_bytes ran.reply)) made (λ short. short_named p.len e ran.reply short))

  short_executed : (q : List Operation) (state : ServiceState) → Short (execute_state state p view q)
  short_executed q Opening = tt
  short_executed q Open = short_ran q (run q p.tables)
  short_executed q WaitingForRecoveryShares = tt

  requested : (q : List Operation) → Answerable (request_after p view q)
  requested q = go (is_request q)
    where
      go : (t : Bool) → Answerable (if t then with_reply (execute_after p view q) else Err Unencodable)
      go true = replied (execute_after p view q) (short_executed q (service_state p.tables))
      go false = tt

  governed_small : (g : GovernanceRequest) (e : Entry) → Answerable (governed_within_after p g e)
  governed_small g e = go (nat_lt body_limit (length (body_bytes e))) (nat_lt p.len last_seqno)
    where
      go : (t u : Bool) → Answerable (by_store (if t then Err (TooLarge (length (body_bytes e))) else (if u then Ok (governance_made_after p g e) else Err SeqnoLimit)))
      go true u = tt
      go false true = tt
      go false false = tt

  accepted : (g : GovernanceRequest) (o : Option GovernanceRefusal) → Answerable (unless_refused o (governed_within_after p g (governance_after g p view)))
  accepted g None = governed_small g (governance_after g p view)
  accepted g (Some why) = tt

  governs : (g : GovernanceRequest) → Answerable (govern_after p view g)
  governs g = go (ranges.is_request g) (is_founding g || is_recovery g)
    where
      go : (t u : Bool) → Answerable (if t then (if u then Err Founding else accepted_after p view g) else Err Unencodable)
      go true true = tt
      go true false = accepted g (governance.refusal p.history (p.len + 1) g)
      go false u = tt

  -- what a request of an application is given
  pub request_answered : (q : List Operation) (e : Entry) (given : Response) → request_after p view q ≡ Ok (e, given) → FitsGiven given
  request_answered q e given is = answered (request_after p view q) e given (requested q) is

  -- what a request of governance is given
  pub govern_answered : (g : GovernanceRequest) (e : Entry) (given : Response) → govern_after p view g ≡ Ok (e, given) → FitsGiven given
  govern_answered g e given is = answered (govern_after p view g) e given (governs g) is

unbroken : (made : Entry × Response) (o : Option Broken) → FitsGiven made.1 → Answerable (unless_broken o made)
unbroken made None fits = fits
unbroken made (Some why) fits = tt

-- What is made unless its entry breaks a rule is what was made, whatever tells of the rule.
module _ (guard : Result (Entry × Response) Rejection → Result (Entry × Response) Rejection) (breach : Entry → Option Broken)
    (makes : (made : Entry × Response) → guard (Ok made) ≡ unless_broken (breach made.0) made) (refuses : (why : Rejection) → guard (Err why) ≡ Err why) where
  guards : (r : Result (Entry × Response) Rejection) → Answerable r → Answerable (guard r)
  guards (Ok made) fits = subst Answerable (sym (makes made)) (unbroken made (breach made.0) fits)
  guards (Err why) fits = subst Answerable (sym (refuses why)) tt

  pub guarded_request_answered : (p : Past) (view : ℕ) (q : List Operation) (e : Entry) (given : Response) → guard (request_after p view q) ≡ Ok (e, given) → FitsGiven given
  guarded_request_answered p view q e given is = answered (guard (request_after p view q)) e given (guards (request_after p view q) (requested p view q)) is

  pub guarded_govern_answered : (p : Past) (view : ℕ) (g : GovernanceRequest) (e : Entry) (given : Response) → guard (govern_after p view g) ≡ Ok (e, given) → FitsGiven given
  guarded_govern_answered p view g e given is = answered (guard (govern_after p view g)) e given (guards (govern_after p view g) (governs p view g)) is
