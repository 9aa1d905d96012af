-- The part of a snapshot that a node's store gives, in each ledger that it stands for.
use Rattle.std.proofs.Common.{◌≡◌, ℕ, ◌-◌, ◌<◌, ◌≤◌, List, length, take, Option, Some, None, IsSome, sym, ap, subst, ◌∙◌, arith}
use Rattle.gl_answers.specs.Snapshots.{IsSnapshotWith, evidence_below, part_of}
use Rattle.gl_answers.specs.declared.part.Part.{Part}
use Rattle.gl_entry.specs.declared.entry.Entry.{Entry}
use Rattle.gl_ledger.specs.LedgerBook.{ServiceBook, ledger_book}
use Rattle.gl_ledger.specs.NodeKeys.{service_layers}
use Rattle.gl_ledger_base.specs.Ledgers.{HoldsLedger}
use Rattle.gl_replication.specs.Holding.{Holding}
use Rattle.gl_replication.specs.Standing.{At}
use Rattle.gl_replication.proofs.Installs.{found_at}
use Rattle.gl_rules.specs.Log.{last_signature}
use Rattle.gl_rules.specs.Replication.{greatest_evidence}
use Rattle.gl_snapshot.specs.Snapshot.{file_bytes}
use Rattle.gl_snapshot.specs.declared.snapshot.Snapshot.{Snapshot}
use Rattle.gl_store_book.specs.AtHand.{IsFileWith}
use Rattle.gl_store_book.specs.BasedLedgers.{BasedLedger, IsAudited, base_of, body_of}
use Rattle.gl_store_book.specs.Stands.{NodeStore, Stands}
use Rattle.gl_store_book.proofs.FilesAtHand.{same_file}
use Rattle.gl_store_book.proofs.ServedSnapshots.{exists}

module _ (node : NodeStore) (valid : IsAudited node.ledger) (commit evidence offset : ℕ) (within : At Stands node (λ b h. commit ≤ length h.log)) (asked : At Stands node (λ b h. evidence_below b h commit ≡ Some evidence)) where
  abbrev l : BasedLedger
  l = node.ledger

  -- this part is owed
  abbrev pub IsOwed : Option Part → Type 0
  IsOwed part = At Stands node (λ b h. (s : Snapshot) × IsSnapshotWith h.base h.log commit evidence s × (part ≡ Some (part_of (file_bytes s) offset)))

  at_base : (b : ServiceBook) (h : Holding Entry) → Stands node b h → greatest_evidence b h.log (base_of l) (last_signature b (take commit h.log) - 1) ≡ Some evidence
  at_base b h s = subst (λ (k : ℕ). greatest_evidence b h.log k (last_signature b (take commit h.log) - 1) ≡ Some evidence) s.holding.base (asked b h s)

  there : (b : ServiceBook) (h : Holding Entry) → Stands node b h → (v : Snapshot) × IsSnapshotWith (base_of l) h.log commit evidence v
  there b h s =
      exists l h.log s.holding.holds valid s.holding.spelled s.keys h.me commit evidence (within b h s)
      (subst (λ (r : ServiceBook). greatest_evidence r h.log (base_of l) (last_signature r (take commit h.log) - 1) ≡ Some evidence) s.book (at_base b h s))

  pub above : (b : ServiceBook) (h : Holding Entry) → Stands node b h → base_of l < evidence
  above b h s = (found_at b h.log (base_of l) (last_signature b (take commit h.log) - 1) evidence (at_base b h s)).0

  pub by_file : (bytes : List ℕ) → ((log : List Entry) → HoldsLedger service_layers (body_of l.snapshot) l.entries log → (x : ℕ) × IsFileWith (base_of l) log x evidence bytes) → (part : Part) → part ≡ part_of bytes offset → IsOwed (Some part)
  by_file bytes given part is = λ b h s.
      let t = there b h s in
      let f = given h.log s.holding.holds in (
        t.0,
        subst (λ (k : ℕ). IsSnapshotWith k h.log commit evidence t.0) (sym s.holding.base) t.1,
        ap Some (is ∙ ap (λ (x : List ℕ). part_of x offset) (same_file (base_of l) h.log f.0 commit evidence bytes t.0 f.1 t.1)),
      )

  pub by_none : ((log : List Entry) → HoldsLedger service_layers (body_of l.snapshot) l.entries log → base_of l < evidence → (v : Snapshot) → IsSnapshotWith (base_of l) log commit evidence v → ⊥) → IsOwed None
  by_none never = λ b h s. let t = there b h s in absurd (never h.log s.holding.holds (above b h s) t.0 t.1)
