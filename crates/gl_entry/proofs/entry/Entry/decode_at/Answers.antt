use Rattle.std.proofs.Common.{arith, ap, ◌∙◌, subst}
use Rattle.gl_base.specs.Answers.{Answers}
use Rattle.gl_entry.specs.Parsing.{entry_at}
use Rattle.gl_entry.proofs.EntryLaws.{entry_at-reads}
use Rattle.gl_entry.proofs.Found.{is_found}
use Rattle.gl_entry.proofs.entry.Entry.decode_at.Goals as goal

pub returns-clause-found : goal.returns-clause-found
returns-clause-found c = is_found c.args.place c.args.bytes.now c.read_first.result (λ i. omega (arith, c.type_inv.bytes i)) c.read_first.ensures

pub returns-clause-only : goal.returns-clause-only
returns-clause-only c = λ e rest is encoded.
    subst (λ f. Answers (λ read. read) c.read_first.result f)
    (ap (entry_at c.args.place) encoded ∙ entry_at-reads c.args.place e rest is) c.read_first.ensures
