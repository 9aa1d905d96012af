use Rattle.std.proofs.Common.{ap, refl, Err, ◌∙◌}
use Rattle.gl_base.specs.declared.or_no_memory.OrNoMemory.TheVariants.{Fault}
use Rattle.gl_entry.proofs.FileSteps.{next_entry_taken, next_is_end, next_is_unread}
use Rattle.gl_entry.proofs.next.read_next.Goals as goal

pub returns-in-Ok-Some-clause-next : goal.returns-in-Ok-Some-clause-next
returns-in-Ok-Some-clause-next g c =
    next_entry_taken _ _ c.in-Ok-Some.field-0 c.in-Ok-Some.entry c.in-Ok-Some.field-0-is c.in-Ok-Some.ensures.entry c.in-Ok-Some.ensures.valid

pub returns-in-Ok-None-clause-next : goal.returns-in-Ok-None-clause-next
returns-in-Ok-None-clause-next g c = next_is_end _ _ c.in-Ok-None.field-0 c.in-Ok-None.field-0-is c.in-Ok-None.ensures.entry

pub returns-in-Err-Fault-Entry-clause-next : goal.returns-in-Err-Fault-Entry-clause-next
returns-in-Err-Fault-Entry-clause-next g c =
    next_is_unread _ _ _ c.in-Err-Fault-Entry.field-0-0-0
    (c.in-Err-Fault-Entry.ensures.fault _ (ap Err (c.in-Err-Fault-Entry.field-0-is ∙ ap Fault c.in-Err-Fault-Entry.field-0-0-is)))
    (c.in-Err-Fault-Entry.ensures.refused _ (ap Err (c.in-Err-Fault-Entry.field-0-is ∙ ap Fault c.in-Err-Fault-Entry.field-0-0-is)))

pub returns-in-Err-Fault-Read-clause-quiet : goal.returns-in-Err-Fault-Read-clause-quiet
returns-in-Err-Fault-Read-clause-quiet g c = λ none. absurd (none (record {}) refl)
