-- A turn after a write to its state: of one equation of tables there is one proof.
use Rattle.std.proofs.Common.{◌≡◌}
use base.Stored.{Coded-set}
use Rattle.atomic_table.specs.Seated.{table_id_coded}
use Rattle.gl_turn.specs.declared.turn.Turn.{Turn}

pub one_own : {S E : Type 0} (t : Turn S E) (w : S) (p : t.pass.now.table_id ≡ t.shared.now.table.shared.table_id)
    → ◌≡◌ {A = Turn S E} record { shared = t.shared; pass = t.pass; state = w; own = p } record { shared = t.shared; pass = t.pass; state = w; own = t.own }
one_own t w p i = record { shared = t.shared; pass = t.pass; state = w; own = Coded-set table_id_coded _ _ p t.own i }
