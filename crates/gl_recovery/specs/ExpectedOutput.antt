-- The expected output for the recovery of a ledger file: the ledger of the service that is
-- recovered, or why none is.
use Rattle.std.specs.Prelude.{◌≡◌, ℕ, ◌+◌, List, [], ◌∷◌, Some, Result, Ok, Err, length}
use Rattle.std.specs.List.{flat_map}
use Rattle.sha2.specs.Sha256.{sha256}
use Rattle.gl_base.specs.Steps.{◌>>=◌}
use Rattle.gl_hss.specs.Tree.{key_bytes}
use Rattle.gl_hss.specs.Secrets.{PrivateKey, public_of}
use Rattle.gl_hss.specs.Signer.{hss_signature}
use Rattle.gl_entry.specs.Entry.{frame_bytes}
use Rattle.gl_entry.specs.declared.entry.Entry.{Entry}
use Rattle.gl_requests.specs.declared.genesis.NewNode.{NewNode}
use Rattle.gl_requests.specs.declared.genesis.Recovery.{Recovery}
use Rattle.gl_gov_rules.specs.declared.refusal.GovernanceRefusal.TheVariants as governance
use Rattle.gl_ledger.specs.Ledger.{message_after}
use Rattle.gl_ledger.specs.Recovery.{recovered_ledger, recovery_result, recovery_view, with_recovery}
use Rattle.gl_ledger.specs.declared.refusal.Refusal.{Refusal}
use Rattle.gl_ledger.specs.declared.refusal.Refusal.TheVariants as refusals
use Rattle.gl_entry.specs.LedgerFile.{ledger_file}
use Rattle.gl_recovery.specs.OldLedger.{has_room, valid_ledger, with_signature}
use Rattle.gl_recovery.specs.declared.fault.RecoveryFault.{RecoveryFault}
use Rattle.gl_recovery.specs.declared.fault.RecoveryFault.TheVariants as faults

-- The key is that of the first node that is named, if there is one.
abbrev pub IsFirstKey : PrivateKey → List NewNode → Type 0
IsFirstKey by [] = Unit {0}
IsFirstKey by (n ∷ ns) = n.key ≡ key_bytes (public_of by)

-- A node's identifier is the digest of its LMS key.
abbrev pub id_of : PrivateKey → List ℕ
id_of by = sha256 (key_bytes (public_of by))

-- The endorsement of the first node.
abbrev pub first_endorsement : List NewNode → List ℕ
first_endorsement [] = []
first_endorsement (n ∷ ns) = n.endorsement

-- What opens the service again: an HSS signature of two levels (RFC 8554, section 6.2), with the
-- endorsement of the first node that the recovery names, over what a node signs after the recovery.
abbrev pub reopening_signature : Recovery → PrivateKey → ℕ → List Entry → List ℕ
reopening_signature r by leaf ledger =
    hss_signature by (Some (first_endorsement r.nodes)) leaf
    (message_after (with_recovery r ledger) (recovery_view ledger) (length ledger + 2))

-- The ledger with the recovery after it, and that signature.
abbrev pub refounded : Recovery → PrivateKey → ℕ → List Entry → List Entry
refounded r by leaf ledger =
    recovered_ledger r (id_of by) (reopening_signature r by leaf ledger) ledger

-- A recovery is refused for its nodes, for an endorsement or for its size, and for nothing else.
abbrev pub fault_of : Refusal → RecoveryFault
fault_of (refusals.Governance (governance.BadAction index cause)) = faults.BadAction index cause
fault_of (refusals.TooLarge size) = faults.TooLarge size
fault_of other = faults.Signature

abbrev pub unless_refused : Result Entry Refusal → Result Entry RecoveryFault
unless_refused (Ok e) = Ok e
unless_refused (Err why) = Err (fault_of why)

-- What is owed after a valid ledger: what is signed of it, recovered by a recovery, and signed by a
-- leaf of the first node's key.
abbrev pub recovered_from : Recovery → PrivateKey → ℕ → List Entry →
    Result (List Entry) RecoveryFault
recovered_from r by leaf ledger = do
  signed ← with_signature ledger
  room ← has_room signed
  recovery ← unless_refused (recovery_result r signed)
  Ok (refounded r by leaf signed)

-- The expected output for the bytes of a ledger file.
unfoldable pub expected_recovery : Recovery → PrivateKey → ℕ → List ℕ →
    Result (List Entry) RecoveryFault
expected_recovery r by leaf bytes = valid_ledger (ledger_file bytes) >>= recovered_from r by leaf

-- Its entries' frames, one after the other.
abbrev pub in_frames : Result (List Entry) RecoveryFault → Result (List ℕ) RecoveryFault
in_frames (Ok ledger) = Ok (flat_map frame_bytes ledger)
in_frames (Err fault) = Err fault
