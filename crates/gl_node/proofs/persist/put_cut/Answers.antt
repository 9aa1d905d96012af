use Rattle.std.proofs.Common.{◌-◌, sym, subst, arith}
use Rattle.gl_base.proofs.LittleEndianLaws.{length-little_endian}
use Rattle.gl_journal.specs.declared.record.Record.TheVariants.{Cut}
use Rattle.gl_node.specs.Batches.{Folds}
use Rattle.gl_node.proofs.Folding.{folds_push, size_push, cut_folds, whole_folds}
use Rattle.gl_node.proofs.persist.put_cut.Goals as goal

pub returns-then-kept-len-clause-folds : goal.returns-then-kept-len-clause-folds
returns-then-kept-len-clause-folds c goes_on d m so_far long above within =
    folds_push goes_on c.args.records.now.items c.push_reserved.new.self.items (Cut c.args.kept) d m _ c.push_reserved.ensures.items so_far (cut_folds goes_on m c.args.kept above (omega (arith, long, within)))

pub returns-then-kept-len-clause-size : goal.returns-then-kept-len-clause-size
returns-then-kept-len-clause-size c =
    let more = size_push c.args.records.now.items c.push_reserved.new.self.items (Cut c.args.kept) c.push_reserved.ensures.items in
    omega (arith, more, length-little_endian 8 c.args.kept)

pub returns-else-kept-len-clause-folds : goal.returns-else-kept-len-clause-folds
returns-else-kept-len-clause-folds c goes_on d m so_far long above within =
    subst (Folds goes_on c.args.records.now.items d) (sym (whole_folds goes_on m (c.args.kept - m.base) (omega (arith, long, above, within, c.if-kept-len.false)))) so_far
