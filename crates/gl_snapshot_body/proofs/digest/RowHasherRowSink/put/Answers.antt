use Rattle.std.proofs.Common.{◌++◌, sym, ap, subst, append-nil}
use Rattle.sha2.specs.Hashers.{Holds256}
use Rattle.gl_snapshot_body.specs.Body.{row_bytes}
use Rattle.gl_snapshot_body.proofs.digest.RowHasherRowSink.put.Goals as goal

pub returns : goal.returns
returns c = λ message holds.
    subst (Holds256 c.feed_row.new.hasher)
    (ap (λ bytes. message ++ bytes) (sym (append-nil (row_bytes (record { map = c.args.map.now; key = c.args.key.now; value = c.args.value.now })))))
    (c.feed_row.ensures message holds)
