-- Receipts (CCF documentation, "Receipts"): what one shows, and when it shows that.
use Rattle.std.specs.Prelude.{◌≡◌, ℕ, List}
use Rattle.sha2.specs.Sha256.{sha256}
use Rattle.gl_base.specs.TxId.{IsTxId}
use Rattle.gl_base.specs.declared.tx_id.TxId.{TxId}
use Rattle.gl_entry.specs.Leaf.{evidence_text, leaf_of_components}
use Rattle.gl_entry.specs.SignedMessage.{signed_message}
use Rattle.gl_hss.specs.Hss.{IsValid}
use Rattle.gl_merkle.specs.Path.{climb_of}
use Rattle.gl_receipt.specs.declared.components.LeafComponents.{LeafComponents}
use Rattle.gl_receipt.specs.declared.components.Receipt.{Receipt}

-- The leaf of the entry: the digest of its body's digest, of its commit evidence's digest, and of
-- its claims.
abbrev pub leaf_of : LeafComponents → List ℕ
leaf_of c = leaf_of_components c.write_set_digest (sha256 c.commit_evidence) c.claims_digest

-- The root of the Merkle tree, to which the path leads from there.
abbrev pub root_of : Receipt → List ℕ
root_of r = climb_of (leaf_of r.leaf_components) r.proof

-- What a node signed: that root, and the view, the place and the recorded commit of its signature.
abbrev pub message_of : Receipt → List ℕ
message_of r = signed_message (root_of r) r.signed.view r.signed.seqno r.signed.commit

-- The text is the commit evidence of this transaction of the service with this key.
pub record IsEvidence (identity text : List ℕ) (id : TxId) : Type 0 where
  pub named : IsTxId id
  pub encoded : text ≡ evidence_text identity id

-- The receipt is accepted for this transaction under this key: the evidence is its own, and the
-- signature of the root to which its path leads is valid (RFC 8554, section 6.3).
pub record Accepts (identity : List ℕ) (r : Receipt) (id : TxId) : Type 0 where
  pub evidence : IsEvidence identity r.leaf_components.commit_evidence id
  pub signature : IsValid identity (message_of r) r.signature
