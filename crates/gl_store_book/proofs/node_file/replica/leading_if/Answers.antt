use Rattle.std.proofs.Common.{Bool, sym, subst}
use Rattle.gl_rules.specs.Steps.{lead_if}
use Rattle.gl_replication.specs.Stands.{StandsFor}
use Rattle.gl_store_book.specs.Stands.{Stands}
use Rattle.gl_store_book.proofs.node_file.replica.leading_if.Goals as goal

pub returns-then-leads-clause-stands : goal.returns-then-leads-clause-stands
returns-then-leads-clause-stands c = λ b x n s.
    subst (λ (l : Bool). StandsFor Stands c.begin_leading.new.core b x (lead_if b l n)) (sym c.if-leads.true) (c.begin_leading.ensures.turns b x n s)
