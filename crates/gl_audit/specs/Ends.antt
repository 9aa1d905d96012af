-- How a ledger ends, and how entries behind a base end.
use Rattle.std.specs.Prelude.{◌≢◌, ℕ, zero, suc, ◌+◌, List, Option, None, Some, false, length, option_map, if◌then◌else◌}
use Rattle.gl_base.specs.declared.tx_id.TxId.{TxId}
use Rattle.gl_rules.specs.Log.{entry_at}
use Rattle.gl_entry.specs.Entry.{is_signature}
use Rattle.gl_entry.specs.Leaf.{id_of}
use Rattle.gl_entry.specs.declared.entry.Entry.{Entry}
use Rattle.gl_ledger.specs.Recordings.{last_entry, recording_of, begins}
use Rattle.gl_ledger.specs.Past.{commit_after, commit_from, is_unopened, last_commit, last_signed}
use Rattle.gl_snapshot_body.specs.declared.body.Body.{Body}
use Rattle.gl_audit.specs.declared.ledger_end.LedgerEnd.{LedgerEnd}

-- The entry's bytes encode what it records.
abbrev pub IsRead : Entry → Type 0
IsRead e = recording_of e.content ≢ None

-- The view of a transaction, 0 where there is none.
abbrev pub view_of : Option TxId → ℕ
view_of None = 0
view_of (Some id) = id.view

-- Of no entries.
abbrev pub no_end : LedgerEnd
no_end = record { len = 0; last = None; signed = None; commit = 0; is_unopened = false }

-- How many entries a ledger has, the transactions of its last entry and of its last signature, the
-- commit that this records, and whether a service begins with the last entry.
abbrev pub end_of : List Entry → LedgerEnd
end_of ledger = record {
  len = length ledger;
  last = option_map id_of (last_entry ledger);
  signed = option_map id_of (entry_at ledger (last_signed ledger));
  commit = last_commit ledger;
  is_unopened = is_unopened (last_entry ledger);
}

-- Of entries behind a base that is above 0. The entry at the base is a signature, which stands last
-- where no entry, or no signature, comes behind it.
module _ (body : Body) where
  abbrev pub id_or_base : Option Entry → TxId
  id_or_base None = record { view = body.view; seqno = body.base }
  id_or_base (Some e) = id_of e

  abbrev pub end_behind : List Entry → LedgerEnd
  end_behind es = record {
    len = body.base + length es;
    last = Some (id_or_base (last_entry es));
    signed = Some (id_or_base (entry_at es (last_signed es)));
    commit = commit_from body.commit es;
    is_unopened = is_unopened (last_entry es);
  }

-- Of entries behind a base; where it is 0 they are the whole ledger.
abbrev pub end_at : ℕ → Body → List Entry → LedgerEnd
end_at zero body es = end_of es
end_at (suc before) body es = end_behind body es

abbrev pub end_over : Body → List Entry → LedgerEnd
end_over body es = end_at body.base body es

-- The same with one more entry.
abbrev pub end_with : LedgerEnd → Entry → LedgerEnd
end_with end e = record {
  len = end.len + 1;
  last = Some (id_of e);
  signed = if is_signature e.content then Some (id_of e) else end.signed;
  commit = commit_after end.commit e.content;
  is_unopened = begins e;
}
