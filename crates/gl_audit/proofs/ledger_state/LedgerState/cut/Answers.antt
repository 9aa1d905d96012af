use Rattle.std.proofs.Common.{ℕ, List, nat_le, true, false, ◌≡◌, refl, subst, arith}
use Rattle.std.specs.List.Sorted.{IsPartitionPoint, IsPartitionedBy}
use Rattle.gl_audit.proofs.KeptLedgers.{state-cut}
use Rattle.gl_audit.proofs.PastOver.{base_kept, count_kept, end_len}
use Rattle.gl_audit.proofs.ledger_state.LedgerState.cut.Goals as goal

pub cut-requires : goal.cut-requires
cut-requires c =
    let s = c.requires.state in
    let from = s.2.tree.from_base in
    let low = c.requires.from_base in
    record { whole = base_kept s.0 s.1 c.args.self.now s.2 c.args.to (omega (arith, from, low)) }

pub cut-requires-3-clause-within : goal.cut-requires-3-clause-within
cut-requires-3-clause-within c =
    let s = c.requires.state in
    let count = count_kept s.0 s.1 c.args.self.now s.2 in
    let within = c.requires.within in
    omega (arith, count, within)

pub returns-clause-cut : goal.returns-clause-cut
returns-clause-cut c = λ body es k ends.
    let len = end_len body es c.args.self.now k in
    let within = c.requires.within in
    let n : ℕ = c.count_up_to-signed.result in
    state-cut body es c.args.self.now _ c.args.to k c.requires.from_base (omega (arith, len, within)) c.requires.whole refl refl refl ends n
    (subst (λ (ss : List ℕ). IsPartitionedBy (λ s. nat_le s c.args.to) ss → IsPartitionPoint (λ s. nat_le s c.args.to ≡ true) (λ s. nat_le s c.args.to ≡ false) ss n)
    c.deref.ensures.value c.count_up_to-signed.ensures.point)
    c.truncate.ensures.items c.cut_starts.ensures c.cut.ensures c.cut-2.ensures.stands c.cut-2.ensures.exact.base c.cut-2.ensures.exact.compacted
    (record { state_reported = c.state_in-self.ensures; identity_reported = c.identity_in-self.ensures }) c.cut-3.ensures.leaves
