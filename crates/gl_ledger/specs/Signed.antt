-- The places of a ledger at which a signature stands.
use Rattle.std.specs.Prelude.{◌≡◌, ℕ, ◌<◌, List, Some, true}
use Rattle.gl_rules.specs.Log.{entry_at}
use Rattle.gl_entry.specs.Entry.{is_signature}
use Rattle.gl_entry.specs.declared.entry.Entry.{Entry}

-- A signature has this seqno.
abbrev pub IsSignedAt : List Entry → ℕ → Type 0
IsSignedAt ledger seqno =
    (e : Entry) × (entry_at ledger seqno ≡ Some e) × (is_signature e.content ≡ true)

-- The seqno is that of a signature, or 0.
abbrev pub IsSignedUpTo : List Entry → ℕ → Type 0
IsSignedUpTo ledger seqno = 0 < seqno → IsSignedAt ledger seqno
