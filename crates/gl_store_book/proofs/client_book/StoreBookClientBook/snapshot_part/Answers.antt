use Rattle.std.proofs.Common.{◌≡◌, ◌<◌, ℕ, List, Option, Some, IfSome, IsSome, Vec, Global, sym, ap, subst, ◌∙◌}
use Rattle.gl_answers.specs.Snapshots.{IsSnapshotWith, part_of}
use Rattle.gl_entry.specs.declared.entry.Entry.{Entry}
use Rattle.gl_ledger.specs.NodeKeys.{service_layers}
use Rattle.gl_ledger_base.specs.Ledgers.{HoldsLedger}
use Rattle.gl_snapshot.specs.declared.snapshot.Snapshot.{Snapshot}
use Rattle.gl_store_book.specs.AtHand.{IsFileWith}
use Rattle.gl_store_book.specs.BasedLedgers.{IsAudited, base_of, body_of}
use Rattle.gl_store_book.specs.Stands.{NodeStore}
use Rattle.gl_store_book.proofs.ServedParts.{by_file, by_none}
use Rattle.gl_store_book.proofs.client_book.StoreBookClientBook.snapshot_part.Goals as goal

pub returns-in-Some-clause-part : goal.returns-in-Some-clause-part
returns-in-Some-clause-part c =
    by_file c.args.self.now (subst (λ (n : NodeStore). IsAudited n.ledger) c.self.view_is c.len.ensures.valid) c.args.commit c.args.evidence c.args.offset c.requires.within c.requires.evidence c.in-Some.bytes.now
    c.in-Some.ensures c.in_ok-part_from.field-0 c.in_ok-part_from.ensures.part

pub returns-in_ok-part_from-in-Some-2-clause-part : goal.returns-in_ok-part_from-in-Some-2-clause-part
returns-in_ok-part_from-in-Some-2-clause-part c =
    let bytes = c.in-Some-2.bytes.items in
    let made = subst
    (λ (o : Option (Vec ℕ Global)). IfSome o (λ v. (log : List Entry) → HoldsLedger service_layers (body_of c.self.inside.ledger.snapshot) c.self.inside.ledger.entries log →
    IsFileWith (base_of c.self.inside.ledger) log c.args.commit c.args.evidence v.items)) c.in-Some-2.is c.in_ok-snapshot_bytes.ensures.made in
    by_file c.args.self.now (subst (λ (n : NodeStore). IsAudited n.ledger) c.self.view_is c.len.ensures.valid) c.args.commit c.args.evidence c.args.offset c.requires.within c.requires.evidence bytes
    (subst (λ (n : NodeStore). (log : List Entry) → HoldsLedger service_layers (body_of n.ledger.snapshot) n.ledger.entries log → (x : ℕ) × IsFileWith (base_of n.ledger) log x c.args.evidence bytes) c.self.view_is
    (λ log holds. (c.args.commit, made log holds)))
    c.in_ok-part_from-in-Some-2.field-0 (c.in_ok-part_from-in-Some-2.ensures.part ∙ ap (λ (b : List ℕ). part_of b c.args.offset) c.deref.ensures.value)

pub returns-in-None-clause-part : goal.returns-in-None-clause-part
returns-in-None-clause-part c =
    by_none c.args.self.now (subst (λ (n : NodeStore). IsAudited n.ledger) c.self.view_is c.len.ensures.valid) c.args.commit c.args.evidence c.args.offset c.requires.within c.requires.evidence
    (subst (λ (n : NodeStore). (log : List Entry) → HoldsLedger service_layers (body_of n.ledger.snapshot) n.ledger.entries log → base_of n.ledger < c.args.evidence → (v : Snapshot) →
    IsSnapshotWith (base_of n.ledger) log c.args.commit c.args.evidence v → ⊥) c.self.view_is
    (λ log holds above v is. let never = subst (λ (o : Option (Vec ℕ Global)). IsSome o) c.in-None.is (c.in_ok-snapshot_bytes.ensures.some log holds above v is) in absurd (cc)))
