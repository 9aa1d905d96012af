-- What an application request makes after entries, by what is kept of them.
use Rattle.std.proofs.Common.{◌≡◌, ℕ, ◌+◌, ◌<◌, ◌≤◌, List, length, Result, Ok, Err, true, false, Bool, nat_lt, if◌then◌else◌, refl, sym, ◌∙◌, ap, subst, arith}
use Rattle.std.proofs.lemmas.Bool.Decides.{nat_tests}
use Rattle.sha2.specs.Sha256.{sha256}
use Rattle.gl_base.specs.Answers.{Fails, Widens}
use Rattle.gl_base.specs.TxId.{last_seqno}
use Rattle.gl_base.specs.declared.or_no_memory.OrNoMemory.{OrNoMemory}
use Rattle.gl_base.specs.declared.or_no_memory.OrNoMemory.TheVariants.{NoMemory, Fault}
use Rattle.gl_tx.specs.Request.{is_request, request_bytes, reply_bytes}
use Rattle.gl_tx.specs.Run.{run}
use Rattle.gl_tx.specs.declared.runs.Ran.{Ran}
use Rattle.gl_tx.specs.declared.request.Operation.{Operation}
use Rattle.gl_tx.specs.declared.request.Answer.{Answer}
use Rattle.gl_tx.specs.declared.abort.Abort.{Abort}
use Rattle.gl_entry.specs.Entry.{body_bytes, body_limit}
use Rattle.gl_entry.specs.declared.entry.Content.TheVariants as content
use Rattle.gl_entry.specs.declared.entry.Entry.{Entry}
use Rattle.gl_requests.specs.declared.genesis.ServiceState.{ServiceState}
use Rattle.gl_requests.specs.declared.genesis.ServiceState.TheVariants.{Open}
use Rattle.gl_ledger.specs.ServiceRow.{service_state}
use Rattle.gl_ledger.specs.Ledger.{application_after, execute_after, execute_state, run_after, within_limits_after}
use Rattle.gl_ledger.specs.Makers.{request_after, with_reply}
use Rattle.gl_ledger.specs.Past.{Past}
use Rattle.gl_ledger.specs.declared.refusal.Refusal.{Refusal}
use Rattle.gl_ledger.specs.declared.refusal.Refusal.TheVariants as refusals
use Rattle.gl_ledger.specs.declared.response.Rejection.TheVariants.{ByStore, Unencodable}
use Rattle.gl_ledger.specs.declared.response.Response.TheVariants.{Replied}
use Rattle.gl_store.specs.Calls.{Refuses}

within_limits : (len : ℕ) (e : Entry) (a : List Answer) → length (body_bytes e) ≤ body_limit → length (reply_bytes a) ≤ body_limit → len < last_seqno → within_limits_after len e a ≡ Ok (e, a)
within_limits len e a body reply left =
    let small : nat_lt body_limit (length (body_bytes e)) ≡ false = grind (arith, nat_tests) in
    let short : nat_lt body_limit (length (reply_bytes a)) ≡ false = grind (arith, nat_tests) in
    let place : nat_lt len last_seqno ≡ true = grind (arith, nat_tests) in
    rw (small, short, place) refl

module _ (p : Past) (view : ℕ) (q : List Operation) (fits : is_request q ≡ true) where
  asked : request_after p view q ≡ with_reply (execute_after p view q)
  asked = ap (λ (b : Bool). if b then with_reply (execute_after p view q) else Err Unencodable) fits

  -- in a service that is open it runs
  ran_after : service_state p.tables ≡ Open → (r : Result Ran Abort) → run q p.tables ≡ r → request_after p view q ≡ with_reply (run_after p view q r)
  ran_after is_open r runs = asked ∙ ap (λ (s : ServiceState). with_reply (execute_state s p view q)) is_open ∙ ap (λ (x : Result Ran Abort). with_reply (run_after p view q x)) runs

  -- the entry of these fields is that of the request that ran
  made_is : (seqno : ℕ) (ran : Ran) (reply : List ℕ) (e : Entry) → e ≡ record { view = view; seqno = seqno; content = content.Application (request_bytes q); writes = ran.writes; claims = sha256 reply } →
      seqno ≡ p.len + 1 → reply ≡ reply_bytes ran.reply → e ≡ application_after p view q ran
  made_is seqno ran reply e made at encoded = made ∙ rw (at, encoded) refl

  -- and it is made where the body, the reply and the seqno are within their limits
  pub made_after : (seqno : ℕ) (ran : Ran) (reply : List ℕ) (e : Entry) → service_state p.tables ≡ Open → run q p.tables ≡ Ok ran →
      e ≡ record { view = view; seqno = seqno; content = content.Application (request_bytes q); writes = ran.writes; claims = sha256 reply } →
      seqno ≡ p.len + 1 → reply ≡ reply_bytes ran.reply → length (body_bytes e) ≤ body_limit → length reply ≤ body_limit → seqno ≤ last_seqno → request_after p view q ≡ Ok (e, Replied ran.reply)
  made_after seqno ran reply e is_open runs made at encoded small short named =
      ran_after is_open (Ok ran) runs
      ∙ ap (λ (x : Entry). with_reply (within_limits_after p.len x ran.reply)) (sym (made_is seqno ran reply e made at encoded))
      ∙ ap with_reply (within_limits p.len e ran.reply small (subst (λ (xs : List ℕ). length xs ≤ body_limit) encoded short) (omega (arith, at, named)))

  -- or else it is refused
  pub limited_after : (seqno : ℕ) (ran : Ran) (reply : List ℕ) (e : Entry) (why : Refusal) → service_state p.tables ≡ Open → run q p.tables ≡ Ok ran →
      e ≡ record { view = view; seqno = seqno; content = content.Application (request_bytes q); writes = ran.writes; claims = sha256 reply } →
      seqno ≡ p.len + 1 → reply ≡ reply_bytes ran.reply → within_limits_after p.len e ran.reply ≡ Err why → request_after p view q ≡ Err (ByStore why)
  limited_after seqno ran reply e why is_open runs made at encoded limited =
      ran_after is_open (Ok ran) runs
      ∙ ap (λ (x : Entry). with_reply (within_limits_after p.len x ran.reply)) (sym (made_is seqno ran reply e made at encoded)) ∙ ap with_reply limited

  -- as where it was aborted
  pub refused_run : (e : OrNoMemory Abort) (w : OrNoMemory Refusal) → service_state p.tables ≡ Open → Fails e (run q p.tables) → Widens (λ (a : Abort) (r : Refusal). r ≡ refusals.Aborted a) e w →
      Refuses (request_after p view q) w
  refused_run NoMemory w is_open h is = subst (Refuses (request_after p view q)) (sym is) tt
  refused_run (Fault abort) w is_open h is =
      subst (Refuses (request_after p view q)) (sym (is.2 ∙ ap (λ (r : Refusal). Fault r) is.1)) (ran_after is_open (Err abort) h)
