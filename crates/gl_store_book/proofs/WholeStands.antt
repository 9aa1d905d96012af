-- A node stands for the ledger that its entries and those up to its base make, and one with a whole
-- ledger for this.
use Rattle.std.proofs.Common.{◌≡◌, List, [], ◌++◌, length, refl, sym}
use Rattle.gl_hss.specs.Secrets.{PrivateKey}
use Rattle.gl_rules.specs.Identity.{NodeId}
use Rattle.gl_entry.specs.declared.entry.Entry.{Entry}
use Rattle.gl_ledger.specs.NodeKeys.{NodeKeys, service_layers}
use Rattle.gl_ledger.specs.LedgerBook.{ledger_book}
use Rattle.gl_ledger_base.specs.Ledgers.{HoldsLedger, IsBase}
use Rattle.gl_ledger_base.proofs.LedgersHeld.{held_base}
use Rattle.gl_replication.specs.Holding.{Holding}
use Rattle.gl_store_book.specs.BasedLedgers.{BasedLedger, IsEncoded, body_of, whole_ledger}
use Rattle.gl_store_book.specs.Stands.{Stands, whole, whole_store}
use Rattle.gl_store_book.proofs.WholeHeld.{none_base}

-- A node's ledger whose entries up to the base are these.
abbrev pub behind : NodeId → List Entry → List Entry → Holding Entry
behind me below entries = record { me = me; base = length below; log = below ++ entries }

pub stands_behind : (keys : NodeKeys) (me : NodeId) (key : PrivateKey) (l : BasedLedger) (below : List Entry) → keys.key_of me ≡ key → IsEncoded l.snapshot → IsBase service_layers (body_of l.snapshot) below
    → Stands (record { me = me; key = key; ledger = l }) (ledger_book service_layers keys) (behind me below l.entries)
stands_behind keys me key l below has spelled base =
    let holds : HoldsLedger service_layers (body_of l.snapshot) l.entries (below ++ l.entries) = record { below = below; base = base; whole = refl } in
    record {
      keys = keys;
      has = record { key = has };
      book = refl;
      holding = record {
        me = refl;
        base = sym (held_base service_layers (body_of l.snapshot) l.entries (below ++ l.entries) holds);
        spelled = spelled;
        holds = holds;
      };
    }

pub whole_stands : (keys : NodeKeys) (me : NodeId) (key : PrivateKey) (ledger : List Entry) → keys.key_of me ≡ key → Stands (whole_store me key ledger) (ledger_book service_layers keys) (whole me ledger)
whole_stands keys me key ledger has = stands_behind keys me key (whole_ledger ledger) [] has tt none_base
