use Rattle.std.proofs.Common.{◌≡◌, ℕ, ap, ◌∙◌, sym, subst, rules, Err}
use Rattle.gl_audit.specs.Committed.{Held}
use Rattle.gl_entry.specs.SourceBytes.{OfBytes}
use Rattle.gl_entry.specs.LedgerFile.{ledger_file}
use Rattle.gl_recovery.specs.OldLedger.{valid_ledger}
use Rattle.gl_recovery.specs.declared.fault.RecoveryFault.TheVariants as faults
use Rattle.gl_recovery.proofs.OldLedgers.{ends_broken, ends_unread, ends_whole, goes_on, refused_as, whole_answers}
use Rattle.gl_recovery.proofs.old_ledger.read_ledger.Goals as goal

pub loop-entry-preserved : goal.loop-entry-preserved
loop-entry-preserved g c =
    let grown = c.in_ok-take_entry-in-Ok-Entry.ensures.grown in
    record {
      read = goes_on _ _ _ c.loop-entry.store c.take_entry.new.store c.in-Ok-Entry.field-0 c.in-Ok-Entry.entry c.loop-entry.invariant.read c.in-Ok-Entry.field-0-is c.in-Ok-Entry.ensures.next
          c.in_ok-take_entry-in-Ok-Entry.ensures.unbroken grown;
      uncommitted = ap (λ (h : Held). h.commit) grown ∙ c.loop-entry.invariant.uncommitted;
      quiet = search rules;
    }

pub returns-in_err-take_entry-in-Ok-Entry-clause-read : goal.returns-in_err-take_entry-in-Ok-Entry-clause-read
returns-in_err-take_entry-in-Ok-Entry-clause-read g c =
    refused_as _ c.from_residual-in_err-take_entry-in-Ok-Entry.result c.in_err-take_entry-in-Ok-Entry.field-0.0 c.from_residual-in_err-take_entry-in-Ok-Entry.ensures.0 c.from_residual-in_err-take_entry-in-Ok-Entry.ensures.1
    (ends_broken _ _ _ c.loop-entry.store.ledger c.loop-entry.invariant.read c.in-Ok-Entry.field-0 c.in-Ok-Entry.ensures.next c.in-Ok-Entry.entry c.in-Ok-Entry.field-0-is c.in_err-take_entry-in-Ok-Entry.field-0.0
    c.in_err-take_entry-in-Ok-Entry.ensures.refused)

pub returns-in-Ok-End-clause-read : goal.returns-in-Ok-End-clause-read
returns-in-Ok-End-clause-read g c =
    whole_answers _ c.loop-entry.store c.whole.result
    (ends_whole _ _ _ c.loop-entry.store.ledger c.loop-entry.invariant.read c.in-Ok-End.field-0 c.in-Ok-End.ensures.next c.in-Ok-End.field-0-is) c.whole.ensures

pub returns-in-Ok-Unread-clause-read : goal.returns-in-Ok-Unread-clause-read
returns-in-Ok-Unread-clause-read g c =
    subst (λ (n : ℕ). OfBytes (g.S.Source.left c.args.source.now) (λ bytes. valid_ledger (ledger_file bytes) ≡ Err (faults.Audit n 1))) (sym c.next_seqno-seqno.ensures)
    (ends_unread _ _ _ c.loop-entry.store.ledger c.loop-entry.invariant.read c.in-Ok-Unread.field-0 c.in-Ok-Unread.ensures.next c.in-Ok-Unread.field-0-is)
