use Rattle.std.proofs.Common.{◌∙◌, ◌-◌, ℕ, List, length, slice_get, take, sym, ap}
use Rattle.std.specs.Option.{unwrap_or}
use Rattle.gl_audit.proofs.SignatureSeqnos.{last_up_to}
use Rattle.gl_audit.proofs.ledger_state.LedgerState.last_signed_up_to.Goals as goal

pub returns : goal.returns
returns c = λ body es k from.
    last_up_to body es c.deref.result.now c.args.to c.count_up_to-count.result c.last_or_zero.result from (c.deref.ensures.value ∙ k.signed) c.count_up_to-count.ensures.point
    (c.last_or_zero.ensures ∙ ap (λ (ss : List ℕ). unwrap_or (slice_get ss (length ss - 1)) 0) (c.split_at.ensures.front ∙ ap (take c.count_up_to-count.result) (c.deref-2.ensures.value ∙ sym c.deref.ensures.value)))
