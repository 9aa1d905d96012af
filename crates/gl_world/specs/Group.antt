-- The settings that a service of several nodes may have, and its ledger as a book.
use Rattle.std.specs.Prelude.{◌≡◌, ◌+◌, ◌≤◌, List, true, map}
use Rattle.sha2.specs.Sha256.{sha256}
use Rattle.gl_rules.specs.Identity.{NodeId}
use Rattle.gl_entry.specs.declared.entry.Entry.{Entry}
use Rattle.gl_requests.specs.Ranges.{is_first_state}
use Rattle.gl_gov_rules.specs.Refusals.{are_ids_distinct}
use Rattle.gl_ledger.specs.NodeKeys.{service_layers}
use Rattle.gl_ledger.specs.LedgerBook.{ServiceBook, ledger_book}
use Rattle.gl_ledger.specs.Recordings.{key_in}
use Rattle.gl_world.specs.declared.settings.Settings.{Settings}
use Rattle.gl_world.specs.Founding.{numbers_from, has_distinct_keys, node_of, number_of, keys_of}
use Rattle.gl_world.specs.Keys.{lms_key, node_seed}

-- 1 to 9 nodes that start and up to 9 that join, with an identifier of their own each, and 1 to 64
-- members with a key of their own each. The service begins opening or open.
pub record IsGroup (s : Settings) : Type 0 where
  pub first_state : is_first_state s.state ≡ true
  pub first : 1 ≤ s.starting
  pub starting : s.starting ≤ 9
  pub joiners : s.joiners ≤ 9
  pub some : 1 ≤ s.members
  pub few : s.members ≤ 64
  pub distinct : has_distinct_keys s ≡ true
  pub apart : are_ids_distinct (map (node_of s) (numbers_from 1 (s.starting + s.joiners))) ≡ true

-- The ledger of the service as a book.
abbrev pub book_of : Settings → ServiceBook
book_of s = ledger_book service_layers (keys_of s)

-- The ledger records a node with another key than the settings give it, and the two have one
-- digest.
pub record RecordsTwin (s : Settings) (ledger : List Entry) (x : NodeId) : Type 0 where
  pub same : sha256 (key_in ledger x) ≡ sha256 (lms_key (node_seed s (number_of s x)))
  pub other : key_in ledger x ≡ lms_key (node_seed s (number_of s x)) → ⊥
