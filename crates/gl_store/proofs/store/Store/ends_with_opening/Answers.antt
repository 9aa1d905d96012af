use Rattle.std.proofs.Common.{◌≡◌, ◌∙◌, ◌-◌, length, ap, sym, subst, arith, Option, IfSome}
use Rattle.gl_rules.specs.Log.{entry_at}
use Rattle.gl_entry.specs.declared.entry.Entry.{Entry}
use Rattle.gl_audit.specs.Ends.{IsRead}
use Rattle.gl_audit.proofs.LastEntries.{entry_read, last_of_take}
use Rattle.gl_store.proofs.store.Store.ends_with_opening.Goals as goal
use Rattle.gl_ledger.specs.Past.{is_unopened}

pub is_unopened-requires : goal.is_unopened-requires
is_unopened-requires c = record {
  read = subst (λ (o : Option Entry). IfSome o IsRead) (sym c.entry.ensures.entry) (entry_read c.args.self.now.ledger c.ledger_len.ensures.valid c.saturating_sub-before.result);
}

pub returns : goal.returns
returns c =
    let ledger = c.args.self.now.ledger in
    let place : c.saturating_sub-before.result ≡ length ledger - 1 = omega (arith, c.ledger_len.ensures.len) in
    c.is_unopened.ensures ∙ ap is_unopened (c.entry.ensures.entry ∙ ap (entry_at ledger) place ∙ sym (last_of_take ledger (length ledger - 1) (omega arith)))
