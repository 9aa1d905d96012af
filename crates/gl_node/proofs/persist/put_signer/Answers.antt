use Rattle.std.proofs.Common.{◌≡◌, ℕ, Some, ap, ◌∙◌, arith}
use Rattle.gl_base.proofs.LittleEndianLaws.{length-little_endian}
use Rattle.gl_journal.specs.declared.record.Record.TheVariants.{Signer}
use Rattle.gl_node.proofs.Folding.{folds_push, size_push, signer_folds}
use Rattle.gl_node.proofs.persist.put_signer.Goals as goal

pub returns-then-reserved-before-clause-folds : goal.returns-then-reserved-before-clause-folds
returns-then-reserved-before-clause-folds c goes_on d m so_far was more within few =
    let field = c.min.result in
    let is : field ≡ c.args.reserved = omega (arith, c.min.ensures, c.from.ensures, few) in
    folds_push goes_on c.args.records.now.items c.push_reserved.new.self.items (Signer field) d m _ c.push_reserved.ensures.items so_far
    (signer_folds goes_on m field (omega (arith, was, more, is)) (omega (arith, within, is)) ∙ ap (λ (n : ℕ). Some (record m { reserved = n })) is)

pub returns-then-reserved-before-clause-size : goal.returns-then-reserved-before-clause-size
returns-then-reserved-before-clause-size c =
    let more = size_push c.args.records.now.items c.push_reserved.new.self.items (Signer c.min.result) c.push_reserved.ensures.items in
    omega (arith, more, length-little_endian 4 c.min.result)
