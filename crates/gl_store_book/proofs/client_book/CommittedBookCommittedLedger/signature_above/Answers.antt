use Rattle.std.proofs.Common.{◌≡◌, ◌-◌, List, Option, None, Some, Bor, IfSome, sym, ap, subst, ◌∙◌, arith}
use Rattle.std.specs.Option.{option_copied}
use Rattle.gl_entry.specs.declared.entry.Entry.{Entry}
use Rattle.gl_receipt.specs.Made as made
use Rattle.gl_rules.specs.Log.{entry_at}
use Rattle.gl_snapshot_body.specs.declared.body.Body.{Body}
use Rattle.gl_store.specs.Tail.{ForBodies, StandsBehind, Tail}
use Rattle.gl_store.proofs.Tails.{same_base}
use Rattle.gl_store_book.specs.BasedLedgers.{body_of}
use Rattle.gl_store_book.proofs.CommittedBooks.{Numbered, signature_held, signature_numbered, signature_within}
use Rattle.gl_store_book.proofs.client_book.CommittedBookCommittedLedger.signature_above.Goals as goal

-- it stands at its seqno behind the body
numbered : (body : Body) (t : Tail) (es : List Entry) (o : Option (Bor Entry)) → StandsBehind body t → t.entries ≡ es → IfSome o (λ e. ForBodies t (λ before. entry_at t.entries (e.now.seqno - before.base) ≡ option_copied o)) → Numbered body es o
numbered body t es None s is at = tt
numbered body t es (Some e) s is at = ap (λ (xs : List Entry). entry_at xs (e.now.seqno - body.base)) (sym is) ∙ at body s

pub first_signature_above-requires : goal.first_signature_above-requires
first_signature_above-requires c = record {
  from_base = λ body s.
      let same = same_base body (body_of c.args.self.now.ledger.now.snapshot) c.tail.result.now s c.tail.ensures.stands in
      let above = c.requires in
      omega (arith, same, above);
}

pub returns-clause-first : goal.returns-clause-first
returns-clause-first c = λ l s.
    let b = c.args.self.now.ledger.now in
    let body = body_of b.snapshot in
    c.first_signature_above.ensures.first body c.tail.ensures.stands
    ∙ ap (λ (es : List Entry). made.signature_above es (c.args.seqno - body.base)) c.tail.ensures.entries
    ∙ signature_held body b.entries s.0 s.1 c.args.seqno c.requires.above_base
    ∙ sym (ap (λ (m : made.Ledger). made.signature_above m.entries c.args.seqno) s.2)

pub returns-clause-within : goal.returns-clause-within
returns-clause-within c =
    let b = c.args.self.now.ledger.now in
    let body = body_of b.snapshot in
    signature_within body b.entries c.first_signature_above.result
    (numbered body c.tail.result.now b.entries c.first_signature_above.result c.tail.ensures.stands c.tail.ensures.entries c.first_signature_above.ensures.numbered)

pub returns-clause-numbered : goal.returns-clause-numbered
returns-clause-numbered c = λ l s.
    let b = c.args.self.now.ledger.now in
    let body = body_of b.snapshot in
    subst (λ (es : List Entry). IfSome c.first_signature_above.result (λ e. made.entry_at es e.now.seqno ≡ option_copied c.first_signature_above.result)) (sym (ap (λ (m : made.Ledger). m.entries) s.2))
    (signature_numbered body b.entries s.0 s.1 c.first_signature_above.result
    (numbered body c.tail.result.now b.entries c.first_signature_above.result c.tail.ensures.stands c.tail.ensures.entries c.first_signature_above.ensures.numbered))
