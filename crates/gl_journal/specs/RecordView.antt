-- What the records of the code stand for, and its durable state.
use Rattle.std.specs.Prelude.{◌≡◌, ℕ, List, [], ◌∷◌, Option, None, Some, Vec}
use Rattle.std.specs.declared.alloc.Global.{Global}
use Rattle.gl_journal.specs.Records.{RecordValue, Key, Vote, Cut, Append, Signer, Install, Start}
use Rattle.gl_journal.specs.Durable as of
use Rattle.gl_journal.specs.declared.record.Record.{Record}
use Rattle.gl_journal.specs.declared.record.Record.TheVariants as records
use Rattle.gl_journal.specs.declared.durable.Durable.{Durable}

abbrev pub record_value : Record → RecordValue
record_value (records.Key key) = Key key
record_value (records.Vote view vote) = Vote view vote
record_value (records.Cut to) = Cut to
record_value (records.Append frame) = Append frame.now
record_value (records.Signer reserved) = Signer reserved
record_value (records.Install body) = Install body.now
record_value (records.Start leaves) = Start leaves

abbrev pub record_values : List Record → List RecordValue
record_values [] = []
record_values (first ∷ others) = record_value first ∷ record_values others

-- The bytes of a snapshot's body, where there is one.
abbrev pub snapshot_of : Option (Vec ℕ Global) → Option (List ℕ)
snapshot_of None = None
snapshot_of (Some body) = Some body.items

-- Over a ledger whose entries have these frames.
abbrev pub state_of : {L : Type 0} → (L → List (List ℕ)) → Durable L → of.Durable
state_of frames d = record {
  key = d.key;
  view = d.view;
  vote = d.vote;
  has_vote_record = d.has_vote_record;
  base = d.base;
  snapshot = snapshot_of d.snapshot;
  log = frames d.log;
  reserved = d.reserved;
  start = d.start;
}

-- Its ledger stands on the snapshot that is kept beside it.
abbrev pub StandsOn : {L : Type 0} → (L → Option (List ℕ)) → Durable L → Type 0
StandsOn snapshot d = snapshot d.log ≡ snapshot_of d.snapshot
