-- A receipt is accepted for the transaction whose evidence it has, where its signature is valid.
use Rattle.std.proofs.Common.{◌≡◌, ◌↔◌, ℕ, List, Result, Ok, Err, IsErr, sym, ◌∙◌}
use Rattle.gl_base.specs.declared.tx_id.TxId.{TxId}
use Rattle.gl_hss.specs.Hss.{IsValid}
use Rattle.gl_receipt.specs.Receipt.{message_of, Accepts}
use Rattle.gl_receipt.specs.Verdict.{transaction_of}
use Rattle.gl_receipt.specs.declared.components.Receipt.{Receipt}
use Rattle.gl_receipt.specs.declared.fault.ReceiptFault.{ReceiptFault}
use Rattle.gl_receipt.proofs.EvidenceLemmas.{transaction-evidence}

pub accepted : (identity : List ℕ) (r : Receipt) (id : TxId) → Ok id ≡ transaction_of identity r.leaf_components.commit_evidence
    → IsValid identity (message_of r) r.signature → (j : TxId)
    → (◌≡◌ {A = Result TxId ReceiptFault} (Ok id) (Ok j)) ↔ Accepts identity r j
accepted identity r id t valid j = (
  λ e. record {
    evidence = (transaction-evidence identity r.leaf_components.commit_evidence j).0 (sym t ∙ e);
    signature = valid;
  },
  λ a. t ∙ (transaction-evidence identity r.leaf_components.commit_evidence j).1 a.evidence,
)

pub no_evidence : (identity : List ℕ) (r : Receipt) (fault : ReceiptFault) → Err fault ≡ transaction_of identity r.leaf_components.commit_evidence
    → (result : Result TxId ReceiptFault) → IsErr result → (j : TxId) → (result ≡ Ok j) ↔ Accepts identity r j
no_evidence identity r fault t (Ok id) h j = cc
no_evidence identity r fault t (Err other) h j = (
  λ e. cc,
  λ a.
      let found : ◌≡◌ {A = Result TxId ReceiptFault} (Err fault) (Ok j) =
      t ∙ (transaction-evidence identity r.leaf_components.commit_evidence j).1 a.evidence in
      cc,
)
