use Rattle.std.proofs.Common.{rules, ◌<◌, ◌^◌, ℕ, List, refl, sym, subst, arith}
use Rattle.gl_hss.specs.declared.types.Types.TheVariants.{H5W4}
use Rattle.gl_journal.specs.Durable.{key_alone}
use Rattle.gl_journal.specs.declared.key.KeyKind.TheVariants as kinds
use Rattle.gl_rules.specs.World.{node_at_start}
use Rattle.gl_world.specs.Founding.{id_of}
use Rattle.gl_world.specs.Group.{book_of}
use Rattle.gl_world.specs.World.{start_of}
use Rattle.gl_store_book.specs.Stands.{HasLedger}
use Rattle.ccfg.specs.FileNodes.{IsFileNode, IsMemoryFile, SeenFileNode, StandsOverFile}
use Rattle.ccfg.proofs.Beginnings.{of_none}
use Rattle.ccfg.proofs.FileNodes.{file_kept}
use Rattle.ccfg.proofs.FileStarts.{few_at_start, whole_at_start, file_at_start, first_view_at_start, leaf_at_start, serving_at_start, state_at_start, state_with}
use Rattle.ccfg.proofs.schedule_nodes.FileNode.begin.Goals as goal

pub overflow_cast-core : goal.overflow_cast-core
overflow_cast-core c =
    let one = leaf_at_start c.args.settings.now (id_of c.args.settings.now c.args.number) c.args.core c.requires.core in
    let small : c.args.core.leaves.reserved < 2 ^ 32 = omega (arith, one) in
    search (rules, small)

pub keep_leaves-requires : goal.keep_leaves-requires
keep_leaves-requires c = (key_alone (record { kind = kinds.Node; types = H5W4; seed = c.node_seed.result }), c.in_ok-journal.ensures)

pub keep_node-requires-clause-open : goal.keep_node-requires-clause-open
keep_node-requires-clause-open c =
    let alone = key_alone (record { kind = kinds.Node; types = H5W4; seed = c.node_seed.result }) in
    let one = leaf_at_start c.args.settings.now (id_of c.args.settings.now c.args.number) c.args.core c.requires.core in
    (record alone { reserved = c.args.core.leaves.reserved }, c.in_ok-keep_leaves.ensures alone c.in_ok-journal.ensures (omega arith) (omega (arith, one)))

pub keep_node-requires-clause-whole : goal.keep_node-requires-clause-whole
keep_node-requires-clause-whole c = whole_at_start c.args.settings.now (id_of c.args.settings.now c.args.number) c.args.core c.requires.core

pub keep_node-requires-clause-few : goal.keep_node-requires-clause-few
keep_node-requires-clause-few c = few_at_start c.args.settings.now (id_of c.args.settings.now c.args.number) c.args.core c.requires.core

pub new-requires-clause-serving : goal.new-requires-clause-serving
new-requires-clause-serving c some =
    let s = c.args.settings.now in
    let x = id_of s c.args.number in
    let alone = key_alone (record { kind = kinds.Node; types = H5W4; seed = c.node_seed.result }) in
    let one = leaf_at_start s x c.args.core c.requires.core in
    let leaves = c.in_ok-keep_leaves.ensures alone c.in_ok-journal.ensures (omega arith) (omega (arith, one)) in
    let kept = c.in_ok-keep_node.ensures (record alone { reserved = c.args.core.leaves.reserved }) leaves refl refl (first_view_at_start s x c.args.core c.requires.core) in
    let file = subst (λ (seed : List ℕ). IsMemoryFile c.keep_node.new.journal (state_with seed c.args.core)) c.node_seed.ensures kept in
    serving_at_start s c.requires.group c.args.number c.requires.low c.requires.high c.args.core c.keep_node.new.journal (node_at_start (start_of s) x) c.requires.core (whole_at_start s x c.args.core c.requires.core) file

pub new-requires-clause-settled : goal.new-requires-clause-settled
new-requires-clause-settled c honest =
    let s = c.args.settings.now in
    let x = id_of s c.args.number in
    let alone = key_alone (record { kind = kinds.Node; types = H5W4; seed = c.node_seed.result }) in
    let one = leaf_at_start s x c.args.core c.requires.core in
    let leaves = c.in_ok-keep_leaves.ensures alone c.in_ok-journal.ensures (omega arith) (omega (arith, one)) in
    let kept = c.in_ok-keep_node.ensures (record alone { reserved = c.args.core.leaves.reserved }) leaves refl refl (first_view_at_start s x c.args.core c.requires.core) in
    kept.kept honest

pub invariant_of-result : goal.invariant_of-result
invariant_of-result c =
    let s = c.args.settings.now in
    let x = id_of s c.args.number in
    let alone = key_alone (record { kind = kinds.Node; types = H5W4; seed = c.node_seed.result }) in
    let one = leaf_at_start s x c.args.core c.requires.core in
    let leaves = c.in_ok-keep_leaves.ensures alone c.in_ok-journal.ensures (omega arith) (omega (arith, one)) in
    let kept = c.in_ok-keep_node.ensures (record alone { reserved = c.args.core.leaves.reserved }) leaves refl refl (first_view_at_start s x c.args.core c.requires.core) in
    subst IsFileNode (sym c.new.ensures) (record { serves = refl; ledger = subst HasLedger (sym (whole_at_start s x c.args.core c.requires.core)) of_none; state = state_with c.node_seed.result c.args.core; file = record { opens = kept.opens refl; kind = refl } })

pub returns : goal.returns
returns c =
    let s = c.args.settings.now in
    let x = id_of s c.args.number in
    let alone = key_alone (record { kind = kinds.Node; types = H5W4; seed = c.node_seed.result }) in
    let one = leaf_at_start s x c.args.core c.requires.core in
    let leaves = c.in_ok-keep_leaves.ensures alone c.in_ok-journal.ensures (omega arith) (omega (arith, one)) in
    let kept = c.in_ok-keep_node.ensures (record alone { reserved = c.args.core.leaves.reserved }) leaves refl refl (first_view_at_start s x c.args.core c.requires.core) in
    let file = subst (λ (seed : List ℕ). IsMemoryFile c.keep_node.new.journal (state_with seed c.args.core)) c.node_seed.ensures kept in
    subst (λ (f : SeenFileNode). StandsOverFile f (book_of s) x (node_at_start (start_of s) x)) (sym c.new.ensures) (record {
      core = c.requires.core;
      file = file_kept c.keep_node.new.journal.gated.disk.bytes (state_at_start s c.args.number c.args.core) (book_of s) x (file.opens refl)
          (file_at_start s c.requires.group c.args.number c.requires.low c.requires.high c.args.core);
    })
