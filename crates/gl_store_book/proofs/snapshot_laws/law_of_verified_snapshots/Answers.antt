use Rattle.gl_store_book.proofs.EvidentBodies.{body_before}
use Rattle.gl_store_book.proofs.snapshot_laws.law_of_verified_snapshots.Goals as goal

pub returns : goal.returns
returns c identity s id ledger snapshot shows valid at = body_before ledger valid s.entry.seqno s.entry at s.body shows.body snapshot.body
