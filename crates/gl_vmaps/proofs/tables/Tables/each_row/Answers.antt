use Rattle.std.proofs.Common.{◌++◌, reverse, ap, Result, Ok, Err, OnOk}
use Rattle.gl_vmaps.specs.Kept.{Kept}
use Rattle.gl_vmaps.specs.Standing.{value_up_to}
use Rattle.gl_vmaps.specs.Chains.{maps_by}
use Rattle.gl_vmaps.specs.Rows.{row_writes}
use Rattle.gl_vmaps.specs.Versions.{placed_at}
use Rattle.gl_vmaps.proofs.InOrder.{rising-in}
use Rattle.gl_vmaps.proofs.RowsOverLaws.{put-alike, put-behind}
use Rattle.gl_vmaps.proofs.StandingLaws.{value_up_to-stands, value_up_to-cut}
use Rattle.gl_vmaps.proofs.tables.Tables.each_row.Goals as goal

when_ok : {T E A B : Type 0} (result : Result T E) → (A → B) → OnOk result A → OnOk result B
when_ok (Ok x) then given = then given
when_ok (Err e) then given = given

pub put_rows-requires : goal.put_rows-requires
put_rows-requires g c = λ name key. record {
  named = c.self.invariant.named name key;
  rising = rising-in c.self.inside.compacted (maps_by c.self.inside.maps.entries) (reverse c.self.inside.journal.items) c.self.invariant.undone name key;
}

pub returns-clause-value : goal.returns-clause-value
returns-clause-value g c =
    when_ok c.put_rows.result (put-alike (λ name key. ap (λ (t : Kept). value_up_to t c.args.to name key) c.self.view_is)) c.put_rows.ensures

pub returns-clause-cut : goal.returns-clause-cut
returns-clause-cut g c =
    when_ok c.put_rows.result (λ put cut is. put-alike (value_up_to-cut c.args.self.now c.args.to cut is) put) (returns-clause-value g c)

pub returns-clause-stands : goal.returns-clause-stands
returns-clause-stands g c =
    when_ok c.put_rows.result (λ put ps stands. put-alike (value_up_to-stands c.args.self.now c.args.to ps c.requires stands) put) (returns-clause-value g c)

pub returns-clause-behind : goal.returns-clause-behind
returns-clause-behind g c =
    when_ok c.put_rows.result (λ put before ps first stands. put-behind before ps c.args.to first (put (placed_at 0 (row_writes before) ++ ps) stands))
    (returns-clause-stands g c)
