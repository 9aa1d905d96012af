-- The ledger of a service that was recovered, as those see it who take it.
use Rattle.std.specs.Prelude.{◌≡◌, ℕ, ◌<◌, List, [], ◌∷◌, ◌++◌, None, Ok, map}
use Rattle.std.specs.List.{flat_map}
use Rattle.gl_hss.specs.Secrets.{PrivateKey}
use Rattle.gl_entry.specs.Entry.{frame_bytes}
use Rattle.gl_entry.specs.declared.entry.Entry.{Entry}
use Rattle.gl_requests.specs.Encoding.{node_id}
use Rattle.gl_requests.specs.declared.genesis.Recovery.{Recovery}
use Rattle.gl_gov_rules.specs.declared.refusal.GovernanceRefusal.TheVariants as governance
use Rattle.gl_ledger.specs.Audit.{audited, opened}
use Rattle.gl_ledger.specs.NodeKeys.{service_layers}
use Rattle.gl_ledger.specs.Recordings.{trusted_nodes}
use Rattle.gl_ledger.specs.ServiceRow.{identity_in}
use Rattle.gl_ledger.specs.Tree.{tables_of}
use Rattle.gl_ledger.specs.declared.refusal.Refusal.{Refusal}
use Rattle.gl_ledger.specs.declared.refusal.Refusal.TheVariants as refusals
use Rattle.gl_ledger.specs.Past.{last_signed}
use Rattle.gl_entry.specs.LedgerFile.{ledger_file, no_entries, with_entries}
use Rattle.gl_forms.specs.Settings.{recovery_in}
use Rattle.gl_forms.specs.Text.{from_text}
use Rattle.gl_journal.specs.declared.key.Key.{Key}
use Rattle.gl_recovery.specs.SettingsPrefix.{Parts, parts_of}
use Rattle.gl_recovery.specs.OldLedger.{signed_prefix}
use Rattle.gl_recovery.specs.ExpectedOutput.{id_of}
use Rattle.gl_recovery.specs.RecoveryOutput.{private_key}

-- The old ledger is valid, and this one is what is signed of it, the recovery and one signature
-- more, with nothing of what followed. The check of an opening takes it as signed by the node with
-- this key, so it is valid too. The recovery's key is in force, and the nodes that it names are
-- trusted, in its order, and no others. Its frames are a ledger file.
pub record IsRefounded (r : Recovery) (by : PrivateKey) (old ledger : List Entry) : Type 0 where
  pub valid : audited service_layers old ≡ None
  pub signed : 0 < last_signed old
  pub recovery : Entry
  pub opening : Entry
  pub kept : ledger ≡ signed_prefix old ++ recovery ∷ opening ∷ []
  pub opens : opened service_layers ledger ≡ Ok (id_of by)
  pub identity : identity_in (tables_of ledger) ≡ r.identity
  pub nodes : trusted_nodes ledger ≡ map node_id r.nodes
  pub file : ledger_file (flat_map frame_bytes ledger) ≡ with_entries ledger (no_entries None)

-- A recovery is refused so: for its nodes, for an endorsement or for its size.
abbrev pub IsOfRecovery : Refusal → Type 0
IsOfRecovery (refusals.Governance (governance.BadAction index cause)) = Unit {0}
IsOfRecovery (refusals.Governance governance.Signature) = Unit {0}
IsOfRecovery (refusals.TooLarge size) = Unit {0}
IsOfRecovery other = ⊥

-- What is told to all the bytes of a source, with the key of a key file: these are settings and an
-- old ledger, and the settings name a recovery; told are the frames of a ledger that is recovered
-- by it, after the entries of the old one, and that the node with this key opens.
pub record IsRecovered (key : Key) (given reported : List ℕ) : Type 0 where
  pub parts : Parts
  pub given_as : parts_of given ≡ Ok parts
  pub recovery : Recovery
  pub named : from_text recovery_in parts.settings ≡ Ok recovery
  pub ledger : List Entry
  pub reported_is : reported ≡ flat_map frame_bytes ledger
  pub founded : IsRefounded recovery (private_key key) (ledger_file parts.ledger).entries ledger
