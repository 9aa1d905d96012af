use Rattle.gl_index.proofs.ListsByNumber.{at_more}
use Rattle.gl_index.proofs.lists.push_at.Goals as goal

pub returns : goal.returns
returns g c = at_more c.args.lists.now c.args.number c.index-lists-number.result c.push_reserved.new.self c.args.item c.requires.there c.push_reserved.ensures.items
