use Rattle.std.proofs.Common.{ℕ, refl, subst, ◌∙◌}
use Rattle.gl_vmaps.specs.Standing.{HasCompacted}
use Rattle.gl_audit.proofs.KeptLedgers.{state_settled}
use Rattle.gl_audit.proofs.PastOver.{count_kept, end_len}
use Rattle.gl_audit.proofs.ledger_state.LedgerState.settle.Goals as goal

pub returns-clause-state : goal.returns-clause-state
returns-clause-state c = λ body es k.
    state_settled body es c.args.self.now _ k refl refl refl refl refl refl refl refl refl c.compact.ensures.stands c.compact.ensures.exact.base c.len-len.result _ c.len-len.ensures c.compact.ensures.exact.compacted
    c.in_ok-peaks.ensures.over c.in_ok-self.ensures.base (c.in_ok-self.ensures.peaks ∙ c.deref.ensures.value) c.in_ok-self.ensures.leaves

pub returns-clause-settled : goal.returns-clause-settled
returns-clause-settled c = λ body es k. record {
  tables = subst (λ (n : ℕ). HasCompacted c.args.self.now.tables n c.compact.new.self) (c.len-len.ensures ∙ count_kept body es c.args.self.now k ∙ end_len body es c.args.self.now k) c.compact.ensures.exact;
  leaves = c.in_ok-self.ensures.leaves;
}
