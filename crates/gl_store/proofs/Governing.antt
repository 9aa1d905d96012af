-- What a request of governance makes after entries, by what is kept of them.
use Rattle.std.proofs.Common.{◌≡◌, ℕ, ◌+◌, ◌≤◌, List, [], ◌∷◌, ◌++◌, length, Option, None, Some, Result, Ok, Err, Bool, true, false, ◌||◌, nat_lt, if◌then◌else◌, refl, sym, ◌∙◌, ap, ap₂, subst, arith}
use Rattle.std.proofs.lemmas.Bool.Decides.{nat_tests}
use Rattle.gl_base.specs.TxId.{last_seqno}
use Rattle.gl_vmaps.specs.declared.write.Write.{Write}
use Rattle.gl_entry.specs.Entry.{body_bytes, body_limit, no_digest}
use Rattle.gl_entry.specs.declared.entry.Content.TheVariants as content
use Rattle.gl_entry.specs.declared.entry.Entry.{Entry}
use Rattle.gl_requests.specs.Ranges.{is_request}
use Rattle.gl_requests.specs.Encoding.{request_bytes}
use Rattle.gl_requests.specs.declared.request.GovernanceRequest.{GovernanceRequest}
use Rattle.gl_gov_rules.specs.Changes.{history}
use Rattle.gl_gov_rules.specs.Governed.{is_founding, is_recovery}
use Rattle.gl_gov_rules.specs.History.{History}
use Rattle.gl_gov_rules.specs.Refusals.{refusal}
use Rattle.gl_gov_rules.specs.declared.change.Recorded.{Recorded}
use Rattle.gl_gov_rules.specs.declared.refusal.GovernanceRefusal.{GovernanceRefusal}
use Rattle.gl_snapshot_body.specs.declared.body.Body.{Body}
use Rattle.gl_ledger.specs.Broken.{effect_after}
use Rattle.gl_ledger.specs.Ledger.{governance_after, governance_entry}
use Rattle.gl_ledger.specs.Makers.{accepted_after, accepted_result, by_store, govern_after, govern_result, governance_made, governance_made_after, governed_within, governed_within_after, unless_refused}
use Rattle.gl_ledger.specs.Past.{Past, past_over}
use Rattle.gl_ledger.specs.Recordings.{requests_of}
use Rattle.gl_ledger.specs.declared.refusal.Refusal.{Refusal}
use Rattle.gl_ledger.specs.declared.refusal.Refusal.TheVariants as refusals
use Rattle.gl_ledger.specs.declared.response.Response.{Response}
use Rattle.gl_ledger.specs.declared.response.Rejection.{Rejection}
use Rattle.gl_ledger.specs.declared.response.Rejection.TheVariants.{ByStore, Founding, Unencodable}
use Rattle.gl_ledger.proofs.Gathering.{requests-more}
use Rattle.gl_ledger.proofs.RequestEncodings.{request_in-read}
use Rattle.gl_audit.specs.GovState.{Governed, history_of, with_recorded}
use Rattle.gl_audit.proofs.PastOver.{after_kept, history_kept}
use Rattle.gl_store.specs.Tail.{Becomes, StandsBehind, Tail}
use Rattle.gl_store.proofs.Tails.{seqno_past}

-- ---- what the state of governance answers

abbrev pub asked : GovernanceRequest → ℕ → Recorded
asked g n = record { seqno = n; request = g }

module _ (body : Body) (t : Tail) (s : StandsBehind body t) (g : GovernanceRequest) (seqno : ℕ) (at : seqno ≡ body.base + length t.entries + 1) where
  pub refusal_past : refusal (history_of t.state.gov) seqno g ≡ refusal (past_over body t.entries).history ((past_over body t.entries).len + 1) g
  refusal_past = ap₂ (λ (h : History) (n : ℕ). refusal h n g) (sym (history_kept body t.entries t.state s.stands)) (seqno_past body t.entries seqno at)

  pub writes_past : (writes : List Write) → writes ≡ effect_after (past_over body t.entries) (asked g seqno) → writes ≡ effect_after (past_over body t.entries) (asked g ((past_over body t.entries).len + 1))
  writes_past writes written = written ∙ ap (λ (n : ℕ). effect_after (past_over body t.entries) (asked g n)) (seqno_past body t.entries seqno at)

  pub after_past : history_of (with_recorded t.state.gov (asked g seqno)) ≡ (past_over body t.entries).after (asked g ((past_over body t.entries).len + 1))
  after_past =
      ap (λ (n : ℕ). history_of (with_recorded t.state.gov (asked g n))) (seqno_past body t.entries seqno at)
      ∙ sym (after_kept body t.entries t.state s.stands (asked g ((past_over body t.entries).len + 1)))

  -- the entry of these fields is the request's
  pub entry_past : (view : ℕ) (writes : List Write) (e : Entry) → e ≡ record { view = view; seqno = seqno; content = content.Governance (request_bytes g); writes = writes; claims = no_digest } →
      writes ≡ effect_after (past_over body t.entries) (asked g seqno) → e ≡ governance_after g (past_over body t.entries) view
  entry_past view writes e made written =
      made ∙ ap₂ (λ (n : ℕ) (ws : List Write). record { view = view; seqno = n; content = content.Governance (request_bytes g); writes = ws; claims = no_digest })
      (seqno_past body t.entries seqno at) (writes_past writes written)

-- the state is as it was after an effect was asked
pub asked_still : (t : Tail) (gov : Governed) → gov ≡ t.state.gov → Becomes t t.entries (record t { state = record t.state { gov = gov } })
asked_still t gov is =
    subst (λ (g : Governed). Becomes t t.entries (record t { state = record t.state { gov = g } })) (sym is) (record { entries = refl; stands = λ body s. s })

-- ---- what is made of it

module _ (p : Past) (view : ℕ) (g : GovernanceRequest) (fits : is_request g ≡ true) (founding : is_founding g ≡ false) (recovery : is_recovery g ≡ false) where
  founds : (is_founding g || is_recovery g) ≡ false
  founds = ap₂ (λ (a b : Bool). a || b) founding recovery

  govern_is : govern_after p view g ≡ accepted_after p view g
  govern_is =
      ap (λ (b : Bool). if b then (if is_founding g || is_recovery g then Err Founding else accepted_after p view g) else Err Unencodable) fits
      ∙ ap (λ (b : Bool). if b then Err Founding else accepted_after p view g) founds

  pub govern_refused : (why : GovernanceRefusal) → refusal p.history (p.len + 1) g ≡ Some why → govern_after p view g ≡ Err (ByStore (refusals.Governance why))
  govern_refused why is = govern_is ∙ ap (λ (o : Option GovernanceRefusal). unless_refused o (governed_within_after p g (governance_after g p view))) is

  accepted_is : (e : Entry) → refusal p.history (p.len + 1) g ≡ None → e ≡ governance_after g p view → govern_after p view g ≡ governed_within_after p g e
  accepted_is e accepted made =
      govern_is ∙ ap (λ (o : Option GovernanceRefusal). unless_refused o (governed_within_after p g (governance_after g p view))) accepted ∙ ap (governed_within_after p g) (sym made)

  pub govern_limited : (e : Entry) (why : Refusal) → refusal p.history (p.len + 1) g ≡ None → e ≡ governance_after g p view → governed_within_after p g e ≡ Err (ByStore why) → govern_after p view g ≡ Err (ByStore why)
  govern_limited e why accepted made limited = accepted_is e accepted made ∙ limited

  pub govern_made : (e : Entry) (seqno : ℕ) → refusal p.history (p.len + 1) g ≡ None → e ≡ governance_after g p view → length (body_bytes e) ≤ body_limit → seqno ≡ p.len + 1 → seqno ≤ last_seqno →
      govern_after p view g ≡ Ok (governance_made_after p g e)
  govern_made e seqno accepted made body at named =
      let small : nat_lt body_limit (length (body_bytes e)) ≡ false = grind (arith, nat_tests, body) in
      let place : nat_lt p.len last_seqno ≡ true = grind (arith, nat_tests, at, named) in
      accepted_is e accepted made ∙ rw (small, place) refl

-- ---- a whole ledger

-- the requests after the entry of one
pub requests_after : (ledger : List Entry) (g : GovernanceRequest) (e : Entry) → is_request g ≡ true → e.content ≡ content.Governance (request_bytes g) →
    requests_of (ledger ++ e ∷ []) ≡ requests_of ledger ++ record { seqno = length ledger + 1; request = g } ∷ []
requests_after ledger g e fits is = requests-more ledger e (request_bytes g) g is (request_in-read g fits)

abbrev entry_or : Entry → Result (Entry × Response) Rejection → Entry
entry_or e (Ok made) = made.0
entry_or e (Err why) = e

-- what is made within the limits is the entry itself
limited_made : (size : ℕ) (made e : Entry) (a b : Response) (large left : Bool) →
    by_store {X = Entry × Response} (if large then Err (refusals.TooLarge size) else (if left then Ok (made, a) else Err refusals.SeqnoLimit)) ≡ Ok (e, b) → e ≡ made
limited_made size made e a b true left w = absurd (cc)
limited_made size made e a b false false w = absurd (cc)
limited_made size made e a b false true w = sym (ap (entry_or made) w)

-- what is made is the request's entry
pub govern_ok : (ledger : List Entry) (view : ℕ) (g : GovernanceRequest) (e : Entry) → govern_result ledger view g ≡ Ok (governance_made ledger g e) → e ≡ governance_entry g ledger view
govern_ok ledger view g e is = asked (is_request g) (is_founding g || is_recovery g) is
  where
    made : Entry
    made = governance_entry g ledger view

    accepted : (o : Option GovernanceRefusal) → unless_refused o (governed_within ledger g made) ≡ Ok (governance_made ledger g e) → e ≡ made
    accepted (Some why) w = absurd (cc)
    accepted None w = limited_made (length (body_bytes made)) made e (governance_made ledger g made).1 (governance_made ledger g e).1 (nat_lt body_limit (length (body_bytes made))) (nat_lt (length ledger) last_seqno) w

    asked : (t f : Bool) → (if t then (if f then Err Founding else accepted_result ledger view g) else Err Unencodable) ≡ Ok (governance_made ledger g e) → e ≡ made
    asked false f w = absurd (cc)
    asked true true w = absurd (cc)
    asked true false w = accepted (refusal (history (requests_of ledger)) (length ledger + 1) g) w
