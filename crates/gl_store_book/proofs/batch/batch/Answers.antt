use Rattle.std.proofs.Common.{List, IsTrue, sym, subst, ◌∙◌, arith}
use Rattle.gl_entry.specs.declared.entry.Entry.{Entry}
use Rattle.gl_ledger.specs.LedgerBook.{ledger_book}
use Rattle.gl_ledger.specs.NodeKeys.{service_layers}
use Rattle.gl_messages.specs.Message.{entries_fit}
use Rattle.gl_replication.proofs.Rows.{if_ok}
use Rattle.gl_store_book.proofs.AnyKeys.{any_keys}
use Rattle.gl_store_book.proofs.Batching.{batch_fits}
use Rattle.gl_store_book.proofs.batch.batch.Goals as goal

pub returns-clause-value : goal.returns-clause-value
returns-clause-value c = if_ok c.copies.result (λ copies all keys. all ∙ c.batch_len-count.ensures.value keys) c.copies.ensures

pub returns-clause-fits : goal.returns-clause-fits
returns-clause-fits c =
    let fits = batch_fits (ledger_book service_layers any_keys) (λ e is. omega arith) c.args.entries.now c.requires in
    if_ok c.copies.result (λ copies all. subst (λ (es : List Entry). IsTrue (entries_fit es)) (sym (all ∙ c.batch_len-count.ensures.value any_keys)) fits) c.copies.ensures
