use Rattle.gl_base.proofs.ByteLists.{are_bytes-each}
use Rattle.gl_snapshot.proofs.SnapshotLaws.{decoded-encoded, decoded-reads}
use Rattle.gl_snapshot.proofs.laws.law_of_snapshots.Goals as goal

pub returns-clause-read : goal.returns-clause-read
returns-clause-read c = decoded-reads

pub returns-clause-only : goal.returns-clause-only
returns-clause-only c bytes s all read = decoded-encoded bytes s (are_bytes-each bytes all) read
