-- What is answered of a receipt: its transaction, or the first thing that is wrong. The commit
-- evidence is looked at before the signature.
use Rattle.std.specs.Prelude.{ℕ, List, Bool, drop, Result, Ok, Err, ◌==◌, if◌then◌else◌}
use Rattle.std.specs.List.{before_first}
use Rattle.gl_base.specs.Bytes.{same_bytes}
use Rattle.gl_base.specs.Steps.{◌>>=◌}
use Rattle.gl_base.specs.TxId.{parsed}
use Rattle.gl_base.specs.declared.tx_id.TxId.{TxId}
use Rattle.gl_base.specs.declared.tx_id.TxIdFault.{TxIdFault}
use Rattle.gl_entry.specs.Leaf.{evidence_text}
use Rattle.gl_hss.specs.Order as hss
use Rattle.gl_hss.specs.declared.fault.HssFault.{HssFault}
use Rattle.gl_receipt.specs.Receipt.{message_of}
use Rattle.gl_receipt.specs.declared.components.Receipt.{Receipt}
use Rattle.gl_receipt.specs.declared.fault.ReceiptFault.{ReceiptFault}
use Rattle.gl_receipt.specs.declared.fault.ReceiptFault.TheVariants.{Evidence, Hss}

abbrev pub is_colon : ℕ → Bool
is_colon byte = byte == 58

-- The identifier that a text of commit evidence names: it stands after `ce:`, up to the next colon.
abbrev pub named_id : List ℕ → Result TxId TxIdFault
named_id text = parsed (before_first is_colon (drop 3 text))

-- The text has to be the commit evidence of the transaction that it names.
abbrev pub reported_by : List ℕ → List ℕ → Result TxId TxIdFault → Result TxId ReceiptFault
reported_by identity text (Err fault) = Err Evidence
reported_by identity text (Ok id) =
    if same_bytes text (evidence_text identity id) then Ok id else Err Evidence

-- The transaction of the service with this key whose commit evidence the text is.
unfoldable pub transaction_of : List ℕ → List ℕ → Result TxId ReceiptFault
transaction_of identity text = reported_by identity text (named_id text)

-- What the signature's verdict means for the receipt.
abbrev pub of_signature : Result (Unit {0}) HssFault → Result (Unit {0}) ReceiptFault
of_signature (Ok u) = Ok u
of_signature (Err fault) = Err (Hss fault)

unfoldable pub verdict : List ℕ → Receipt → Result TxId ReceiptFault
verdict identity r = do
  id ← transaction_of identity r.leaf_components.commit_evidence
  valid ← of_signature (hss.verdict identity (message_of r) r.signature)
  Ok id
