use Rattle.std.proofs.Common.{ap, sym, ◌∙◌}
use Rattle.gl_vmaps.specs.Chains.{chains_by, present, newest_place}
use Rattle.gl_vmaps.proofs.ChainLaws.{present-empty, newest-empty}
use Rattle.gl_vmaps.proofs.table.Table.new.Goals as goal

pub invariant_of-result : goal.invariant_of-result
invariant_of-result c = record {
  counted = sym present-empty ∙ ap (λ es. present (chains_by es)) (sym c.new.ensures.empty);
  topped = sym newest-empty ∙ ap (λ es. newest_place (chains_by es)) (sym c.new.ensures.empty);
}
