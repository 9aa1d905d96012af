use Rattle.gl_store_book.proofs.Growing.{listed_none}
use Rattle.gl_store_book.proofs.node_lists.NodeLists.new.Goals as goal

pub returns : goal.returns
returns c = listed_none _ c.new.ensures.items c.new-2.ensures.items
