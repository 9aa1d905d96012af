use Rattle.std.proofs.Common.{◌∙◌}
use Rattle.gl_vmaps.proofs.CopyLaws.{chains-step, chains-end}
use Rattle.gl_vmaps.proofs.table.copy_rows.Goals as goal

pub loop-key-preserved-in_ok-insert : goal.loop-key-preserved-in_ok-insert
loop-key-preserved-in_ok-insert c =
    chains-step c.args.rows.now.entries c.loop-key.copy c.insert.new.self c.loop-key.key-iterator c.next.new.self c.next.result c.in-Some.key c.in-Some.chain c.in_ok-key.key c.in_ok-chain.chain
    c.loop-key.invariant c.in-Some.is c.next.ensures.steps c.in_ok-insert.ensures.updates (c.in_ok-key.ensures.items ∙ c.deref.ensures.value) c.in_ok-chain.ensures

pub loop-key-preserved : goal.loop-key-preserved
loop-key-preserved c =
    chains-step c.args.rows.now.entries c.loop-key.copy c.insert.new.self c.loop-key.key-iterator c.next.new.self c.next.result c.in-Some.key c.in-Some.chain c.in_ok-key.key c.in_ok-chain.chain
    c.loop-key.invariant c.in-Some.is c.next.ensures.steps c.in_ok-insert.ensures.updates (c.in_ok-key.ensures.items ∙ c.deref.ensures.value) c.in_ok-chain.ensures

pub returns : goal.returns
returns c = chains-end c.args.rows.now.entries c.loop-key.copy c.loop-key.key-iterator c.next.new.self c.next.result c.loop-key.invariant c.in-None.is c.next.ensures.steps c.into_iter-key-iterator.ensures.into_iter_gives.5
