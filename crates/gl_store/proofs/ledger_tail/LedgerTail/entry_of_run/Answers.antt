use Rattle.std.proofs.Common.{◌≡◌, ◌≤◌, ◌∙◌, ℕ, List, Ok, length, subst, sym}
use Rattle.gl_base.specs.Answers.{Fails}
use Rattle.gl_entry.specs.Entry.{body_limit, body_bytes}
use Rattle.gl_entry.specs.declared.entry.Entry.{Entry}
use Rattle.gl_tx.specs.Run.{run}
use Rattle.gl_vmaps.specs.Tables.{Tables}
use Rattle.gl_ledger.specs.Snapshot.{writes_over}
use Rattle.gl_ledger.specs.Past.{past_over}
use Rattle.gl_store.specs.Tail.{Tail}
use Rattle.gl_store.proofs.Applications.{limited_after, made_after, refused_run}
use Rattle.gl_store.proofs.Tails.{kept_behind, seqno_past, state_past, tables_past}
use Rattle.gl_store.proofs.ledger_tail.LedgerTail.entry_of_run.Goals as goal

pub returns-clause-made : goal.returns-clause-made
returns-clause-made c = λ body now.
    let s = kept_behind c.self.view_is body now in
    let es = c.self.inside.entries.items in
    let q = c.args.request.now in
    let e : Entry = c.in_ok-entry.entry in
    let ran = c.in-Ok.ran in
    let small : length (body_bytes e) ≤ body_limit = subst (λ (n : ℕ). n ≤ body_limit) c.body_len.ensures.exact c.in_default.ensures.body in
    let runs = subst (λ (t : Tables). run q t ≡ Ok ran) (tables_past body _ s) (c.in-Ok.ensures.stands (writes_over body es) s.stands.tables_are) in
    made_after (past_over body c.args.self.now.entries) c.args.view q c.requires.encoded c.next_seqno-seqno.result ran c.deref.result.now e (state_past body c.args.self.now now ∙ c.requires.is_open)
    (subst (λ (t : Tail). run q (past_over body t.entries).tables ≡ Ok ran) c.self.view_is runs) c.in_ok-entry.ensures.made (seqno_past body _ _ (c.next_seqno-seqno.ensures body now))
    (c.deref.ensures.value ∙ c.in_ok-reply.ensures.bytes) small
    (subst (λ (xs : List ℕ). length xs ≤ body_limit) (c.deref-2.ensures.value ∙ sym c.deref.ensures.value) c.in_default.ensures.reply) c.in_default.ensures.seqno

pub returns-clause-fits : goal.returns-clause-fits
returns-clause-fits c = c.in_ok-entry.ensures.fits (subst (λ (n : ℕ). n ≤ body_limit) c.body_len.ensures.exact c.in_default.ensures.body)

-- a request that is aborted, or memory that ran out
pub returns-in-Err-clause-refused : goal.returns-in-Err-clause-refused
returns-in-Err-clause-refused c = λ body now.
    let s = kept_behind c.self.view_is body now in
    let es = c.self.inside.entries.items in
    let q = c.args.request.now in
    let fails = subst (λ (t : Tables). Fails c.in-Err.error (run q t)) (tables_past body _ s) (c.in-Err.ensures.stands (writes_over body es) s.stands.tables_are) in
    refused_run (past_over body c.args.self.now.entries) c.args.view q c.requires.encoded c.in-Err.error c.widen.result (state_past body c.args.self.now now ∙ c.requires.is_open)
    (subst (λ (t : Tail). Fails c.in-Err.error (run q (past_over body t.entries).tables)) c.self.view_is fails) c.widen.ensures

-- what passes a limit
pub returns-in-Some-clause-refused : goal.returns-in-Some-clause-refused
returns-in-Some-clause-refused c = λ body now.
    let s = kept_behind c.self.view_is body now in
    let es = c.self.inside.entries.items in
    let q = c.args.request.now in
    let e : Entry = c.in_ok-entry.entry in
    let ran = c.in-Ok.ran in
    let runs = subst (λ (t : Tables). run q t ≡ Ok ran) (tables_past body _ s) (c.in-Ok.ensures.stands (writes_over body es) s.stands.tables_are) in
    let at = seqno_past body _ _ (c.next_seqno-seqno.ensures body now) in
    limited_after (past_over body c.args.self.now.entries) c.args.view q c.requires.encoded c.next_seqno-seqno.result ran c.deref.result.now e c.in-Some.refusal
    (state_past body c.args.self.now now ∙ c.requires.is_open) (subst (λ (t : Tail). run q (past_over body t.entries).tables ≡ Ok ran) c.self.view_is runs) c.in_ok-entry.ensures.made at
    (c.deref.ensures.value ∙ c.in_ok-reply.ensures.bytes)
    (c.in-Some.ensures.expected (past_over body c.args.self.now.entries).len e ran.reply c.body_len.ensures.exact (c.deref-2.ensures.value ∙ c.in_ok-reply.ensures.bytes) at)
