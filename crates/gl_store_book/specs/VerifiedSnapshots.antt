-- What a verified snapshot is of a ledger in which its evidence stands.
use Rattle.std.specs.Prelude.{◌≡◌, ◌⊎◌, ◌-◌, ℕ, List, take}
use Rattle.sha2.specs.Sha256.{sha256}
use Rattle.gl_entry.specs.declared.entry.Entry.{Entry}
use Rattle.gl_ledger.specs.Snapshot.{snapshot_of}
use Rattle.gl_snapshot_body.specs.Body.{body_bytes}
use Rattle.gl_snapshot_body.specs.declared.body.Body.{Body}

-- Two inputs of SHA-256 that differ and have one digest.
pub record Collide (this that : List ℕ) : Type 0 where
  pub differ : this ≡ that → ⊥
  pub digest : sha256 this ≡ sha256 that

-- A body is that of the snapshot of the entries before a seqno, or its bytes and the bytes of that
-- one are two inputs with one digest.
abbrev pub IsBodyBefore : List Entry → ℕ → Body → Type 0
IsBodyBefore ledger seqno body =
    let snapshot = snapshot_of (take (seqno - 1) ledger) in
    (body ≡ snapshot) ⊎ Collide (body_bytes body) (body_bytes snapshot)
