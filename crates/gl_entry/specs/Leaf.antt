-- The leaf of an entry in the Merkle tree of its ledger (CCF documentation, "Merkle Tree" and
-- "Receipts").
use Rattle.std.specs.Prelude.{ℕ, List, ◌++◌, codes}
use Rattle.sha2.specs.Sha256.{sha256}
use Rattle.sha2.specs.Hashers.{Holds256}
use Rattle.sha2.specs.declared.Sha256.{Sha256}
use Rattle.hex.specs.Hex.{encode_lower}
use Rattle.gl_base.specs.LittleEndian.{little_endian}
use Rattle.gl_base.specs.TxId.{text_of}
use Rattle.gl_base.specs.declared.tx_id.TxId.{TxId}
use Rattle.gl_entry.specs.Entry.{body_bytes}
use Rattle.gl_entry.specs.declared.entry.Entry.{Entry}

-- The identifier of an entry.
abbrev pub id_of : Entry → TxId
id_of e = record { view = e.view; seqno = e.seqno }

-- What ties an entry to its service: the digest of the service's key and the identifier.
abbrev pub evidence_digest : List ℕ → TxId → List ℕ
evidence_digest identity id =
    sha256 (identity ++ little_endian 4 id.view ++ little_endian 8 id.seqno)

-- The commit evidence of an entry: a text of its identifier and that digest in hexadecimal.
abbrev pub evidence_text : List ℕ → TxId → List ℕ
evidence_text identity id =
    codes "ce:" ++ text_of id ++ codes ":" ++ encode_lower (evidence_digest identity id)

-- The leaf of its components: the digest of the digest of a body, the digest of a commit evidence,
-- and claims.
abbrev pub leaf_of_components : List ℕ → List ℕ → List ℕ → List ℕ
leaf_of_components body evidence claims = sha256 (body ++ evidence ++ claims)

-- The leaf of an entry.
abbrev pub leaf_of : List ℕ → Entry → List ℕ
leaf_of identity e =
    leaf_of_components (sha256 (body_bytes e)) (sha256 (evidence_text identity (id_of e))) e.claims

-- The hasher was fed with these bytes after what it held.
abbrev pub Feeds : Sha256 → Sha256 → List ℕ → Type 0
Feeds old new bytes = (message : List ℕ) → Holds256 old message → Holds256 new (message ++ bytes)
