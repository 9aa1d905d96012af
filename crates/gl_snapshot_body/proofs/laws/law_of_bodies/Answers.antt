use Rattle.gl_base.proofs.ByteLists.{are_bytes-each}
use Rattle.gl_snapshot_body.proofs.BodyLaws.{shape-read, shape-encoded, none_shorter}
use Rattle.gl_snapshot_body.proofs.Places.{rows_from-place}
use Rattle.gl_snapshot_body.proofs.laws.law_of_bodies.Goals as goal

pub returns-clause-read : goal.returns-clause-read
returns-clause-read c = shape-read

pub returns-clause-only : goal.returns-clause-only
returns-clause-only c at bytes b all read = shape-encoded at bytes b (are_bytes-each bytes all) read

pub returns-clause-whole : goal.returns-clause-whole
returns-clause-whole c at prefix rest b d is all e read = none_shorter b d at prefix rest is (are_bytes-each prefix all) e read

pub returns-clause-places : goal.returns-clause-places
returns-clause-places c b index within = rows_from-place b index
