use Rattle.std.proofs.Common.{subst}
use Rattle.gl_replication.specs.Stands.{held_by}
use Rattle.gl_store_book.specs.BasedLedgers.{IsAudited}
use Rattle.gl_store_book.specs.Replicas.{NodeCore}
use Rattle.gl_store_book.proofs.HeldLedgers.{has_ledger}
use Rattle.gl_store_book.proofs.RestartLaws.{base_next, below_stands, holds_base, restarts, restarts_next}
use Rattle.gl_store_book.proofs.laws.a_stop_forgets_nothing.Goals as goal

pub returns-clause-before : goal.returns-clause-before
returns-clause-before g c = λ honest running b x n s d is.
    let core = c.args.replica.now.core in
    let valid = subst (λ (k : NodeCore). IsAudited k.book.ledger) c.core.ensures.core c.is_audited.ensures in
    restarts core valid b x n s (g.D.Disk.bytes c.args.replica.now.disk) (c.disk-disk.ensures.keeps honest running (has_ledger core.book b (held_by x n) s.ledger)) d is

pub returns-clause-holds : goal.returns-clause-holds
returns-clause-holds g c = λ honest running b x n s d is.
    let core = c.args.replica.now.core in
    let valid = subst (λ (k : NodeCore). IsAudited k.book.ledger) c.core.ensures.core c.is_audited.ensures in
    holds_base core valid b x n s (g.D.Disk.bytes c.args.replica.now.disk) (c.disk-disk.ensures.keeps honest running (has_ledger core.book b (held_by x n) s.ledger)) d is

pub returns-clause-below : goal.returns-clause-below
returns-clause-below g c = λ b x n s d held.
    let valid = subst (λ (k : NodeCore). IsAudited k.book.ledger) c.core.ensures.core c.is_audited.ensures in
    below_stands c.args.replica.now.core valid b x n s d held

pub returns-clause-after : goal.returns-clause-after
returns-clause-after g c = λ b x n s d.
    let valid = subst (λ (k : NodeCore). IsAudited k.book.ledger) c.core.ensures.core c.is_audited.ensures in
    restarts_next c.args.replica.now.core valid b x n s c.args.event.now d

pub returns-clause-base : goal.returns-clause-base
returns-clause-base g c = λ b x n s d held.
    let valid = subst (λ (k : NodeCore). IsAudited k.book.ledger) c.core.ensures.core c.is_audited.ensures in
    base_next c.args.replica.now.core valid b x n s c.args.event.now d held
