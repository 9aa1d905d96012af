use Rattle.std.proofs.Common.{◌≡◌, ◌+◌, ◌∙◌, ℕ, [], length, Some, Err, sym, ap, subst}
use Rattle.gl_base.specs.declared.or_no_memory.OrNoMemory.{OrNoMemory}
use Rattle.gl_ledger.specs.declared.breach.Broken.{Broken}
use Rattle.gl_ledger.specs.Audit.{fault_from}
use Rattle.gl_ledger.specs.NodeKeys.{service_layers}
use Rattle.gl_audit.specs.Committed.{Held}
use Rattle.gl_store.specs.Calls.{StopsAt}
use Rattle.gl_store.proofs.OpeningLedgers.{stopped}
use Rattle.gl_store.proofs.store.Store.opening.Goals as goal

pub returns-clause-refused : goal.returns-clause-refused
returns-clause-refused c =
    let entries = c.args.entries.items in
    let seqno : ℕ = length c.apply_all.new.self.ledger + 1 in
    let broken : Broken = c.in-Err-Fault.field-0-0 in
    let stops : fault_from service_layers c.in_ok-store.store.ledger entries ≡ Some (record { seqno = seqno; broken = broken }) =
    subst (λ (e : OrNoMemory Broken). StopsAt seqno (fault_from service_layers c.in_ok-store.store.ledger entries) e) c.in-Err-Fault.field-0-is c.in-Err-Fault.ensures.refused in
    let begun : fault_from service_layers [] entries ≡ Some (record { seqno = seqno; broken = broken }) =
    subst (λ (h : Held). fault_from service_layers h.ledger entries ≡ Some (record { seqno = seqno; broken = broken })) c.in_ok-store.ensures stops in
    stopped entries seqno broken begun ∙ ap (λ (n : ℕ). Err (n + 1)) (sym c.ledger_len.ensures.len)
