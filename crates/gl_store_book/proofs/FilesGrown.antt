-- The bytes that a node keeps of a snapshot stay those where its ledger takes an entry, or refuses it.
use Rattle.std.proofs.Common.{◌≡◌, List, [], ◌∷◌, ◌++◌, Option, Result, Ok, Err, OnOk, OnErr}
use Rattle.gl_entry.specs.declared.entry.Entry.{Entry}
use Rattle.gl_store_book.specs.AtHand.{IsAtHand}
use Rattle.gl_store_book.specs.BasedLedgers.{BasedLedger, with_entries}
use Rattle.gl_store_book.specs.declared.snapshot_file.SnapshotFile.{SnapshotFile}
use Rattle.gl_store_book.proofs.FilesAtHand.{at_hand_more, at_hand_same}

pub at_hand_applied : {X E : Type 0} (l m : BasedLedger) (e : Entry) (file : Option SnapshotFile) (r : Result X E) → OnOk r (m ≡ with_entries l (l.entries ++ e ∷ [])) → OnErr r (m ≡ l) → IsAtHand l file → IsAtHand m file
at_hand_applied l m e file (Ok x) grown same is = at_hand_more l m (e ∷ []) file grown is
at_hand_applied l m e file (Err x) grown same is = at_hand_same l m file same is
