use Rattle.std.proofs.Common.{rules, ◌∷◌, Some, sym, ap, ◌∙◌}
use Rattle.atomic_table.specs.Table.{rest}
use Rattle.gl_turn.proofs.Looks.{looks}
use Rattle.gl_turn.proofs.shared.Shared.look.Goals as goal

pub load-requires : goal.load-requires
load-requires g c =
    let key = c.args.self.now.table.shared.key in
    (search rules, search rules, looks g.S.Stands.stands key.first key.start.value _ _ _ _ c.requires.waits.0)

pub exchange-requires : goal.exchange-requires
exchange-requires g c =
    let gets = (c.load.ensures.2 _ c.requires.waits.0).0 c.if-load-ticket.false in
    let held = ap (λ m. m.1) gets.2 in
    (search rules, (Some gets.1, held ∙ ap (λ cs. (0, Some gets.1) ∷ rest cs) (sym held)))
