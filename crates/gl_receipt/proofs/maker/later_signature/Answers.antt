use Rattle.std.proofs.Common.{drop, sym}
use Rattle.gl_entry.specs.Entry.{is_signature}
use Rattle.gl_entry.specs.declared.entry.Entry.{Entry}
use Rattle.gl_receipt.proofs.MakeLemmas.{find_passes}
use Rattle.gl_receipt.proofs.maker.later_signature.Goals as goal

pub returns-in-Some-clause-signs : goal.returns-in-Some-clause-signs
returns-in-Some-clause-signs g c = λ l s. find_passes (λ (e : Entry). is_signature e.content) (drop c.args.seqno l.entries) c.in-Some.entry.now (sym (c.in-Some.ensures.first l s))
