-- A ledger with a base, as a node keeps it: of its entries up to the base the body of a snapshot
-- tells what is left of them.
use Rattle.std.specs.Prelude.{◌≡◌, ℕ, ◌+◌, ◌-◌, List, [], Option, None, Some, Result, Ok, Err, true, length, take}
use Rattle.gl_entry.specs.declared.entry.Entry.{Entry}
use Rattle.gl_snapshot_body.specs.Body.{body_bytes, is_body, no_body}
use Rattle.gl_snapshot_body.specs.Parsing.{shape_of}
use Rattle.gl_snapshot_body.specs.declared.body.Body.{Body}
use Rattle.gl_snapshot_body.specs.declared.fault.ShapeFault.{ShapeFault}
use Rattle.gl_ledger.specs.Audit.{audited_over}
use Rattle.gl_ledger.specs.Broken.{broken_over}
use Rattle.gl_ledger.specs.NodeKeys.{service_layers}
use Rattle.gl_ledger.specs.declared.breach.Broken.{Broken}
use Rattle.gl_ledger.specs.Past.{Past, past_over}
use Rattle.gl_ledger.specs.Snapshot.{governed_base, requests_over}
use Rattle.gl_audit.specs.GovState.{Governed}
use Rattle.gl_replication.specs.Offers.{kept_body}

-- The bytes of the body of the snapshot up to the base, where there is one, and the entries above
-- the base. Without a snapshot the base is 0, and the entries are a whole ledger.
pub record BasedLedger : Type 0 where
  pub snapshot : Option (List ℕ)
  pub entries : List Entry

abbrev pub body_read : Result Body ShapeFault → Body
body_read (Ok body) = body
body_read (Err fault) = no_body

-- The body that these bytes encode.
unfoldable pub body_encoded : List ℕ → Body
body_encoded bytes = body_read (shape_of 0 bytes)

-- The body of the snapshot, or else that of no entries.
abbrev pub body_of : Option (List ℕ) → Body
body_of None = no_body
body_of (Some bytes) = body_encoded bytes

-- The bytes are those of a body, where there is a snapshot.
abbrev pub IsEncoded : Option (List ℕ) → Type 0
IsEncoded None = Unit {0}
IsEncoded (Some bytes) =
    (is_body (body_encoded bytes) ≡ true) × (bytes ≡ body_bytes (body_encoded bytes))

-- A whole ledger, from seqno 1 on.
abbrev pub whole_ledger : List Entry → BasedLedger
whole_ledger ledger = record { snapshot = None; entries = ledger }

-- The ledger of no entries behind the base of which the body of a snapshot tells; from seqno 1 on
-- where that is 0.
abbrev pub begun_ledger : Body → BasedLedger
begun_ledger body = record { snapshot = kept_body body; entries = [] }

module _ (l : BasedLedger) where
  abbrev pub base_of : ℕ
  base_of = (body_of l.snapshot).base

  -- The seqno of the last entry.
  abbrev pub len_of : ℕ
  len_of = base_of + length l.entries

  -- No entry above the base breaks a rule of the audit.
  abbrev pub IsAudited : Type 0
  IsAudited = audited_over service_layers (body_of l.snapshot) l.entries ≡ None

  -- The first rule that an entry breaks after the last one.
  abbrev pub broken_after : Entry → Option Broken
  broken_after e = broken_over service_layers (body_of l.snapshot) l.entries e

  -- What the rules of the audit read of it.
  abbrev pub past_of : Past
  past_of = past_over (body_of l.snapshot) l.entries

  -- The rows of governance at the base, and the requests above it.
  abbrev pub governed_of : Governed
  governed_of =
      record {
        base = governed_base (body_of l.snapshot);
        requests = requests_over (body_of l.snapshot) l.entries;
      }

  -- The same with other entries above the base.
  abbrev pub with_entries : List Entry → BasedLedger
  with_entries es = record l { entries = es }

-- The same cut to a seqno that is not below the base.
abbrev pub cut_to : ℕ → BasedLedger → BasedLedger
cut_to seqno l = with_entries l (take (seqno - base_of l) l.entries)
