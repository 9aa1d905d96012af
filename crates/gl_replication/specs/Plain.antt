-- A small ledger book: requests are entries, a signature is a given entry in the leader's view, any
-- entry may follow, there are no configurations, no request of governance is taken, each key has 32
-- leaves, and a message carries one entry.
use Rattle.std.specs.Prelude.{ℕ, List, [], false, None, Ok, Err}
use Rattle.gl_entry.specs.Entry.{is_signature}
use Rattle.gl_entry.specs.declared.entry.Entry.{Entry}
use Rattle.gl_rules.specs.Identity.{NodeId}
use Rattle.gl_rules.specs.Book.{Book}
use Rattle.gl_replication.specs.Holding.{Holding}

abbrev pub plain : Entry → Book Entry Entry ℕ ℕ ℕ ℕ
plain signature = record {
  view_of = λ e. e.view;
  is_signature = λ e. is_signature e.content;
  is_evidence = λ e. false;
  recorded_commit = λ e. 0;
  frame_size = λ e. 1500001;
  configuration = λ log. None;
  recorded_nodes = λ log. [];
  removal = λ log y. None;
  mark = λ log y. None;
  leaves = λ y. 32;
  execute = λ log view q. Ok (record q { view = view }, 0);
  govern = λ log view g. Err 0;
  sign = λ x leaf log view commit. Ok (record signature { view = view });
  evidence = λ log view. Err 0;
  marked_node = λ g. None;
  mark_refusal = λ log y. None;
  conflict = λ base log len reads. None;
  breaks = λ base log e. None;
}

-- What a store with this ledger holds.
abbrev pub holding : NodeId → List Entry → Holding Entry
holding me log = record { me = me; base = 0; log = log }
