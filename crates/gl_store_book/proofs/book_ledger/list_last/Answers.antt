use Rattle.std.proofs.Common.{◌≡◌, ℕ, suc, ◌+◌, ap, subst, sym, ◌∙◌, arith}
use Rattle.gl_audit.specs.declared.ledger_state.LedgerState.{LedgerState}
use Rattle.gl_store_book.specs.Lists.{AreListsBefore, AreListsOf}
use Rattle.gl_store_book.proofs.TailLists.{last_cut, last_listed, last_taken}
use Rattle.gl_store_book.proofs.book_ledger.list_last.Goals as goal

pub push_last-requires : goal.push_last-requires
push_last-requires c =
    let r = c.requires.listed in
    let at : c.ledger_len-seqno.result ≡ r.0.base + suc r.2 = c.ledger_len-seqno.ensures.len r.0 r.1 ∙ ap (λ (n : ℕ). r.0.base + n) r.3 in (
      r.0.base,
      r.2,
      at,
      subst (λ (s : LedgerState). AreListsBefore r.0.base r.2 s.gov c.args.lists.now) (sym c.state.ensures.state) (last_taken r.0 c.args.tail.now r.1 r.2 r.3 c.args.lists.now r.4),
    )

pub cut-requires-clause-from_base : goal.cut-requires-clause-from_base
cut-requires-clause-from_base c = λ body stands.
    let at = c.ledger_len-seqno.ensures.len body stands in
    let long = c.requires.listed.3 in
    omega (arith, at, long)

pub cut-requires-clause-within : goal.cut-requires-clause-within
cut-requires-clause-within c = λ body stands.
    let at = c.ledger_len-seqno.ensures.len body stands in
    omega (arith, at)

pub returns-in-Err-clause-taken_back : goal.returns-in-Err-clause-taken_back
returns-in-Err-clause-taken_back c =
    let r = c.requires.listed in
    let at = c.ledger_len-seqno.ensures.len r.0 r.1 in
    let long = r.3 in
    last_cut r.0 c.args.tail.now r.1 r.2 r.3 c.cut.new.self _ (omega (arith, at, long)) c.cut.ensures.entries c.cut.ensures.stands

pub returns-clause-listed : goal.returns-clause-listed
returns-clause-listed c =
    let r = c.requires.listed in
    let at : c.ledger_len-seqno.result ≡ r.0.base + suc r.2 = c.ledger_len-seqno.ensures.len r.0 r.1 ∙ ap (λ (n : ℕ). r.0.base + n) r.3 in
    let before =
    subst (λ (s : LedgerState). AreListsBefore r.0.base r.2 s.gov c.args.lists.now) (sym c.state.ensures.state) (last_taken r.0 c.args.tail.now r.1 r.2 r.3 c.args.lists.now r.4) in
    last_listed r.0 c.args.tail.now r.1 r.2 r.3 c.push_last.new.self
    (subst (λ (s : LedgerState). AreListsOf r.0.base s.gov (suc r.2) c.push_last.new.self) c.state.ensures.state (c.in_default.ensures.pushed r.0.base r.2 at before))
