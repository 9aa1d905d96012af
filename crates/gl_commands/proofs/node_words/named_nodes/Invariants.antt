use Rattle.std.proofs.Common.{◌≡◌, true, map, take}
use Rattle.std.specs.List.{list_all}
use Rattle.gl_commands.specs.Words.{is_node, node_of}
use Rattle.gl_commands.proofs.node_words.named_nodes.Given as goal

-- the words so far encode these identifiers
abbrev pub invariant-loop-word : goal.invariant-loop-word
invariant-loop-word l = record {
  all : list_all is_node (map (λ s. s.now) (take l.word-index l.words)) ≡ true;
  read : l.nodes.items ≡ map node_of (map (λ s. s.now) (take l.word-index l.words));
}
