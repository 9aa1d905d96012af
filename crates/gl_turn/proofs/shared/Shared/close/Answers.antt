use Rattle.gl_turn.proofs.Ends.{closes, ends, some_or_none}
use Rattle.gl_turn.proofs.shared.Shared.close.Goals as goal

pub unreachable-requires : goal.unreachable-requires
unreachable-requires g c =
    let key = c.args.self.table.shared.key in
    let slot = c.take-slot.result in
    let e = ends g.S.Stands.stands key.first key.start.value c.args.pass.id c.args.pass.me.0 _ _ c.word-ticket.result c.word-serving.result slot c.requires.known c.close_with-closed.ensures.values.2
    c.word-ticket.ensures c.word-serving.ensures c.if-serving-ticket.false c.take-slot.ensures.value in
    some_or_none slot e.0 e.1 c.in-None.is

pub returns-clause-state : goal.returns-clause-state
returns-clause-state g c =
    let key = c.args.self.table.shared.key in
    closes g.S.Stands.stands key.first key.start.value c.args.pass.id c.args.pass.me.0 _ _ c.word-ticket.result c.word-serving.result c.take-slot.result c.in-Some.state c.requires.known
    c.close_with-closed.ensures.values.2 c.word-ticket.ensures c.word-serving.ensures c.if-serving-ticket.false c.take-slot.ensures.value c.in-Some.is
