use Rattle.std.proofs.Common.{◌≡◌, ◌≤◌, List, length, Option, None, Some, Bor, IfSome, rules, subst, sym, ap}
use Rattle.std.specs.Option.{option_copied}
use Rattle.gl_entry.specs.declared.entry.Entry.{Entry}
use Rattle.gl_receipt.specs.Made.{Ledger, entry_at, signature_above}
use Rattle.gl_receipt.proofs.MakeLemmas.{within}
use Rattle.gl_receipt.proofs.OrderLemmas.{AreInOrder, signature_after, signature_numbered}
use Rattle.t_forms.proofs.receipt.mem_ledger.MemLedgerCommittedLedger.signature_above.Goals as goal

-- what stands at its seqno is among the entries
held : (es : List Entry) (o : Option (Bor Entry)) → IfSome o (λ e. entry_at es e.now.seqno ≡ option_copied o) → IfSome o (λ e. e.now.seqno ≤ length es)
held es None at = tt
held es (Some e) at = (within es e.now.seqno e.now at).1

pub returns-clause-within : goal.returns-clause-within
returns-clause-within c =
    let same : c.self.inside.entries.items ≡ c.args.self.now.0 = search rules in
    let first : option_copied c.signature_in.result ≡ signature_above c.args.self.now.0 c.args.seqno = search rules in
    held c.args.self.now.0 c.signature_in.result (signature_numbered c.args.self.now.0 c.args.seqno c.signature_in.result (subst AreInOrder same c.self.invariant.1) first)

pub returns-clause-above : goal.returns-clause-above
returns-clause-above c =
    let same : c.self.inside.entries.items ≡ c.args.self.now.0 = search rules in
    let first : option_copied c.signature_in.result ≡ signature_above c.args.self.now.0 c.args.seqno = search rules in
    signature_after c.args.self.now.0 c.args.seqno c.signature_in.result (subst AreInOrder same c.self.invariant.1) first

pub returns-clause-numbered : goal.returns-clause-numbered
returns-clause-numbered c = λ l s.
    let same : c.self.inside.entries.items ≡ c.args.self.now.0 = search rules in
    let first : option_copied c.signature_in.result ≡ signature_above c.args.self.now.0 c.args.seqno = search rules in
    subst (λ (es : List Entry). IfSome c.signature_in.result (λ e. entry_at es e.now.seqno ≡ option_copied c.signature_in.result)) (sym (ap (λ (m : Ledger). m.entries) s))
    (signature_numbered c.args.self.now.0 c.args.seqno c.signature_in.result (subst AreInOrder same c.self.invariant.1) first)
