-- What an application request writes is none of governance, and its entry keeps a ledger sound.
use Rattle.std.proofs.Common.{◌≡◌, ℕ, ◌+◌, ◌<◌, ◌≤◌, nat_lt, List, [], ◌∷◌, length, Some, None, Result, Ok, Err, Bool, true, false, not, ◌||◌, refl, sym, ◌∙◌, ap, ap₂, subst, if◌then◌else◌, arith}
use Rattle.std.specs.List.{AllByRecursion}
use Rattle.std.proofs.lemmas.Bool.Decides.{nat_tests}
use Rattle.sha2.specs.Sha256.{sha256}
use Rattle.gl_base.specs.TxId.{last_seqno}
use Rattle.gl_vmaps.specs.Name.{is_public, is_governance, is_internal}
use Rattle.gl_vmaps.specs.Tables.{Tables}
use Rattle.gl_vmaps.specs.declared.write.Write.{Write}
use Rattle.gl_tx.specs.Request.{is_request, request_bytes, reply_bytes}
use Rattle.gl_tx.specs.Run.{bar_on_map, run}
use Rattle.gl_tx.specs.Sees.{sees_in}
use Rattle.gl_tx.specs.declared.runs.Ran.{Ran}
use Rattle.gl_tx.specs.declared.request.Operation.{Operation}
use Rattle.gl_tx.specs.declared.request.Answer.{Answer}
use Rattle.gl_tx.specs.declared.abort.Cause.TheVariants as causes
use Rattle.gl_tx.specs.declared.abort.Abort.{Abort}
use Rattle.gl_tx.proofs.Written.{MayName, run_from-may}
use Rattle.gl_entry.specs.Entry.{body_bytes, body_limit}
use Rattle.gl_entry.specs.declared.entry.Content.TheVariants as content
use Rattle.gl_entry.specs.declared.entry.Entry.{Entry}
use Rattle.gl_ledger.specs.ServiceRow.{service_state}
use Rattle.gl_ledger.specs.Tree.{tables_of}
use Rattle.gl_ledger.specs.Ledger.{application_entry, execute_result, execute_in, run_result, within_limits}
use Rattle.gl_ledger.specs.declared.response.Response.{Response}
use Rattle.gl_ledger.specs.declared.response.Response.TheVariants.{Replied}
use Rattle.gl_ledger.specs.declared.response.Rejection.{Rejection}
use Rattle.gl_ledger.specs.declared.response.Rejection.TheVariants.{ByStore, Unencodable}
use Rattle.gl_ledger.specs.Makers.{with_reply, request_result}
use Rattle.gl_requests.specs.declared.genesis.ServiceState.{ServiceState}
use Rattle.gl_requests.specs.declared.genesis.ServiceState.TheVariants.{Opening, Open, WaitingForRecoveryShares}
use Rattle.gl_ledger.specs.declared.refusal.Refusal.{Refusal}
use Rattle.gl_ledger.specs.declared.refusal.Refusal.TheVariants as refusals
use Rattle.gl_base.proofs.Steps.{same_pair}
use Rattle.gl_ledger.proofs.Growth.{IsOutside}

-- ---- what a request writes is none of governance

-- what no rule bars is none of governance
outside : (map : List ℕ) → bar_on_map map ≡ None → is_governance map ≡ false
outside map h = go (is_public map) (is_governance map) (is_internal map) refl h
  where
    go : (a b c : Bool) → is_governance map ≡ b →
        (if not a then Some causes.NotPublic else (if b || c then Some causes.Reserved else None)) ≡ None → is_governance map ≡ false
    go false b c is e = absurd (cc)
    go true true c is e = absurd (cc)
    go true false true is e = absurd (cc)
    go true false false is e = is

all_outside : (ws : List Write) → AllByRecursion MayName ws → AllByRecursion IsOutside ws
all_outside [] all = tt
all_outside (w ∷ ws) all = (outside w.map all.0, all_outside ws all.1)

pub run_outside : (q : List Operation) (t : Tables) (ran : Ran) → run q t ≡ Ok ran → AllByRecursion IsOutside ran.writes
run_outside q t ran e = all_outside ran.writes (run_from-may 1 q (sees_in t) [] ran tt e)

-- ---- what a request makes, told by cases

abbrev given : Entry → List Answer → Result (Entry × List Answer) Refusal
given made reply = Ok (made, reply)

-- an entry and a reply that are let through are within their sizes, and a place is left
within_limits_ok : (ledger : List Entry) (made e : Entry) (reply a : List Answer) → within_limits ledger made reply ≡ Ok (e, a) →
    (e ≡ made) × (a ≡ reply) × (length (body_bytes made) ≤ body_limit) × (length (reply_bytes reply) ≤ body_limit) × (length ledger < last_seqno)
within_limits_ok ledger made e reply a h =
    go (nat_lt body_limit (length (body_bytes made))) (nat_lt body_limit (length (reply_bytes reply))) (nat_lt (length ledger) last_seqno) refl refl refl h
  where
    go : (large long left : Bool) → nat_lt body_limit (length (body_bytes made)) ≡ large → nat_lt body_limit (length (reply_bytes reply)) ≡ long →
        nat_lt (length ledger) last_seqno ≡ left →
        (if large then Err (refusals.TooLarge (length (body_bytes made)))
        else (if long then Err (refusals.TooLarge (length (reply_bytes reply))) else (if left then given made reply else Err refusals.SeqnoLimit))) ≡ given e a →
        (e ≡ made) × (a ≡ reply) × (length (body_bytes made) ≤ body_limit) × (length (reply_bytes reply) ≤ body_limit) × (length ledger < last_seqno)
    go true long left is1 is2 is3 p = absurd (cc)
    go false true left is1 is2 is3 p = absurd (cc)
    go false false false is1 is2 is3 p = absurd (cc)
    go false false true is1 is2 is3 p =
        let both = same_pair {F = Refusal} (given made reply) made e reply a refl p in
        let small : length (body_bytes made) ≤ body_limit = grind (arith, nat_tests) in
        let short : length (reply_bytes reply) ≤ body_limit = grind (arith, nat_tests) in
        let place : length ledger < last_seqno = grind (arith, nat_tests) in
        (both.0, both.1, small, short, place)

-- what execute_result gives: an open service, a run, its entry and its answers, and that nothing is
-- above its limit
pub execute_ok : (ledger : List Entry) (view : ℕ) (q : List Operation) (e : Entry) (a : List Answer) → execute_result ledger view q ≡ Ok (e, a) →
    (service_state (tables_of ledger) ≡ Open) × (ran : Ran) × (run q (tables_of ledger) ≡ Ok ran) × (e ≡ application_entry ledger view q ran) × (a ≡ ran.reply)
    × (length (body_bytes e) ≤ body_limit) × (length (reply_bytes a) ≤ body_limit) × (length ledger < last_seqno)
execute_ok ledger view q e a h = go (service_state (tables_of ledger)) refl h
  where
    ran_ok : (r : Result Ran Abort) → run_result ledger view q r ≡ Ok (e, a) → (ran : Ran) × (r ≡ Ok ran) × (e ≡ application_entry ledger view q ran) × (a ≡ ran.reply)
        × (length (body_bytes e) ≤ body_limit) × (length (reply_bytes a) ≤ body_limit) × (length ledger < last_seqno)
    ran_ok (Err abort) p = absurd (cc)
    ran_ok (Ok ran) p =
        let is = within_limits_ok ledger (application_entry ledger view q ran) e ran.reply a p in (
          ran,
          refl,
          is.0,
          is.1,
          subst (λ (x : Entry). length (body_bytes x) ≤ body_limit) (sym is.0) is.2,
          subst (λ (x : List Answer). length (reply_bytes x) ≤ body_limit) (sym is.1) is.3,
          is.4,
        )

    go : (s : ServiceState) → service_state (tables_of ledger) ≡ s → execute_in s ledger view q ≡ Ok (e, a) →
        (service_state (tables_of ledger) ≡ Open) × (ran : Ran) × (run q (tables_of ledger) ≡ Ok ran) × (e ≡ application_entry ledger view q ran) × (a ≡ ran.reply)
        × (length (body_bytes e) ≤ body_limit) × (length (reply_bytes a) ≤ body_limit) × (length ledger < last_seqno)
    go Opening is p = absurd (cc)
    go WaitingForRecoveryShares is p = absurd (cc)
    go Open is p = let r = ran_ok (run q (tables_of ledger)) p in (is, r.0, r.1, r.2, r.3, r.4, r.5, r.6)

-- what execute_result gives where the request ran: its entry and its answers, unless a limit is
-- passed
pub execute_ran : (ledger : List Entry) (view : ℕ) (q : List Operation) (ran : Ran) → service_state (tables_of ledger) ≡ Open →
    run q (tables_of ledger) ≡ Ok ran → execute_result ledger view q ≡ within_limits ledger (application_entry ledger view q ran) ran.reply
execute_ran ledger view q ran is_open runs =
    ap (λ (s : ServiceState). execute_in s ledger view q) is_open ∙ ap (λ (r : Result Ran Abort). run_result ledger view q r) runs

-- within the limits it is the entry and the answers
pub within_limits_made : (ledger : List Entry) (e : Entry) (a : List Answer) → length (body_bytes e) ≤ body_limit → length (reply_bytes a) ≤ body_limit →
    length ledger < last_seqno → within_limits ledger e a ≡ Ok (e, a)
within_limits_made ledger e a body reply left =
    let small : nat_lt body_limit (length (body_bytes e)) ≡ false = grind (arith, nat_tests) in
    let short : nat_lt body_limit (length (reply_bytes a)) ≡ false = grind (arith, nat_tests) in
    let place : nat_lt (length ledger) last_seqno ≡ true = grind (arith, nat_tests) in
    rw (small, short, place) refl

pub execute_within : (ledger : List Entry) (view : ℕ) (q : List Operation) (ran : Ran) (e : Entry) → service_state (tables_of ledger) ≡ Open →
    run q (tables_of ledger) ≡ Ok ran → e ≡ application_entry ledger view q ran → length (body_bytes e) ≤ body_limit → length (reply_bytes ran.reply) ≤ body_limit →
    length ledger < last_seqno → execute_result ledger view q ≡ Ok (e, ran.reply)
execute_within ledger view q ran e is_open runs made body reply left =
    execute_ran ledger view q ran is_open runs ∙ ap (λ (x : Entry). within_limits ledger x ran.reply) (sym made) ∙ within_limits_made ledger e ran.reply body reply left

-- an entry of these fields is the one of the request that ran
pub application_made : (ledger : List Entry) (view place : ℕ) (q : List Operation) (ran : Ran) (reply : List ℕ) (e : Entry) →
    e ≡ record { view = view; seqno = place; content = content.Application (request_bytes q); writes = ran.writes; claims = sha256 reply } →
    place ≡ length ledger + 1 → reply ≡ reply_bytes ran.reply → e ≡ application_entry ledger view q ran
application_made ledger view place q ran reply e made at encoded = made ∙ rw (at, encoded) refl

-- the entry that is made where the request ran, and the body, the reply and the seqno are within
-- their limits
pub made_within : (ledger : List Entry) (view seqno : ℕ) (q : List Operation) (ran : Ran) (reply body : List ℕ) (e : Entry) → service_state (tables_of ledger) ≡ Open →
    run q (tables_of ledger) ≡ Ok ran →
    e ≡ record { view = view; seqno = seqno; content = content.Application (request_bytes q); writes = ran.writes; claims = sha256 reply } →
    seqno ≡ length ledger + 1 → reply ≡ reply_bytes ran.reply → body ≡ body_bytes e → length body ≤ body_limit → length reply ≤ body_limit → seqno ≤ last_seqno →
    execute_result ledger view q ≡ Ok (e, ran.reply)
made_within ledger view seqno q ran reply body e is_open runs made at encoded sized small short named =
    execute_within ledger view q ran e is_open runs (application_made ledger view seqno q ran reply e made at encoded)
    (subst (λ (xs : List ℕ). length xs ≤ body_limit) sized small) (subst (λ (xs : List ℕ). length xs ≤ body_limit) encoded short) (omega (arith, at, named))

-- ---- the same in the book's words

-- a request that bytes encode
pub request_encoded : (ledger : List Entry) (view : ℕ) (q : List Operation) → is_request q ≡ true →
    request_result ledger view q ≡ with_reply (execute_result ledger view q)
request_encoded ledger view q fits =
    ap (λ (b : Bool). if b then with_reply (execute_result ledger view q) else Err Unencodable) fits

pub request_made : (ledger : List Entry) (view : ℕ) (q : List Operation) (e : Entry) (a : List Answer) → is_request q ≡ true →
    execute_result ledger view q ≡ Ok (e, a) → request_result ledger view q ≡ Ok (e, Replied a)
request_made ledger view q e a fits made = request_encoded ledger view q fits ∙ ap with_reply made

pub request_refused : (ledger : List Entry) (view : ℕ) (q : List Operation) (why : Refusal) → is_request q ≡ true →
    execute_result ledger view q ≡ Err why → request_result ledger view q ≡ Err (ByStore why)
request_refused ledger view q why fits refused = request_encoded ledger view q fits ∙ ap with_reply refused

abbrev replying : Entry → List Answer → Result (Entry × Response) Rejection
replying e a = Ok (e, Replied a)

-- what an application request makes in the book's words is what the ledger makes of it
pub request_ok : (ledger : List Entry) (view : ℕ) (q : List Operation) (e : Entry) (a : List Answer) →
    request_result ledger view q ≡ Ok (e, Replied a) → (is_request q ≡ true) × (execute_result ledger view q ≡ Ok (e, a))
request_ok ledger view q e a h = go (is_request q) refl (execute_result ledger view q) refl h
  where
    go : (b : Bool) → is_request q ≡ b → (r : Result (Entry × List Answer) Refusal) → execute_result ledger view q ≡ r →
        (if b then with_reply r else Err Unencodable) ≡ replying e a → (is_request q ≡ true) × (execute_result ledger view q ≡ Ok (e, a))
    go false is r from p = absurd (cc)
    go true is (Err why) from p = absurd (cc)
    go true is (Ok done) from p =
        let one : (done.0, Replied done.1) ≡ (e, Replied a) = cc in
        let reply : Replied done.1 ≡ Replied a = ap (λ (t : Entry × Response). t.1) one in
        let answers : done.1 ≡ a = cc in
        (is, from ∙ ap₂ given (ap (λ (t : Entry × Response). t.0) one) answers)
