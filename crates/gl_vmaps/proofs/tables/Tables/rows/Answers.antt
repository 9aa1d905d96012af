use Rattle.std.proofs.Common.{◌≡◌, List, true, ◌++◌, ap, sym, subst, ◌∙◌}
use Rattle.gl_vmaps.specs.Tables.{value_in}
use Rattle.gl_vmaps.specs.Rows.{row_writes, tables_with}
use Rattle.gl_vmaps.specs.Versions.{placed_at}
use Rattle.gl_vmaps.specs.Writes.{is_ordered}
use Rattle.gl_vmaps.specs.declared.row.Row.{Row}
use Rattle.gl_vmaps.proofs.RowsOverLaws.{rows-behind, put-ordered, put-values}
use Rattle.gl_vmaps.proofs.StandingLaws.{value_up_to-stands, value_up_to-cut}
use Rattle.gl_vmaps.proofs.tables.Tables.rows.Goals as goal

pub of-requires : goal.of-requires
of-requires c = put-ordered c.new.ensures.items c.in_ok-each_row.ensures.value

pub returns-clause-value : goal.returns-clause-value
returns-clause-value c = λ name key.
    ap (λ (rows : List Row). value_in (tables_with rows) name key) c.of.ensures
    ∙ put-values c.new.ensures.items c.in_ok-each_row.ensures.value name key

pub returns-clause-cut : goal.returns-clause-cut
returns-clause-cut c = λ cut is name key. returns-clause-value c name key ∙ value_up_to-cut c.args.self.now c.args.to cut is name key

pub returns-clause-stands : goal.returns-clause-stands
returns-clause-stands c = λ ps stands name key. returns-clause-value c name key ∙ value_up_to-stands c.args.self.now c.args.to ps c.requires stands name key

pub returns-clause-behind : goal.returns-clause-behind
returns-clause-behind c = λ before ps first stands.
    rows-behind before _ ps c.args.to first
    (subst (λ (rows : List Row). is_ordered (row_writes rows) ≡ true) (sym c.of.ensures) (put-ordered c.new.ensures.items c.in_ok-each_row.ensures.value))
    (returns-clause-stands c (placed_at 0 (row_writes before) ++ ps) stands)
