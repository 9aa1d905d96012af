use Rattle.gl_commands.proofs.WordLemmas.{no_nodes, one_node}
use Rattle.gl_commands.proofs.node_words.named_nodes.Goals as goal

pub returns-in-None : goal.returns-in-None
returns-in-None c = no_nodes c.args.words.now c.loop-word.word-index _ c.loop-word-test.true c.in-None.ensures

pub loop-word-preserved : goal.loop-word-preserved
loop-word-preserved c =
    let more = one_node c.args.words.now c.loop-word.word-index _ c.loop-word.nodes.items _ c.in-Some.node c.loop-word-test.true c.in-Some.ensures
    c.in_ok-push-in-Some.ensures.items c.loop-word.invariant.all c.loop-word.invariant.read in
    record { all = more.0; read = more.1 }
