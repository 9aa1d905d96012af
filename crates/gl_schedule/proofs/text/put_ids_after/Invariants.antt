use Rattle.std.proofs.Common.{◌≡◌, ◌++◌, codes, drop}
use Rattle.std.specs.List.{flat_map}
use Rattle.gl_entry.specs.declared.entry.Entry.{Entry}
use Rattle.gl_schedule.specs.Text.{id_text}
use Rattle.gl_schedule.proofs.text.put_ids_after.Given as goal

-- what is written and what is left to write make the whole
abbrev pub invariant-loop-entry : goal.invariant-loop-entry
invariant-loop-entry l =
    l.out.items ++ flat_map (λ (e : Entry). codes " " ++ id_text e.view e.seqno) (drop l.entry-index l.entries)
    ≡ l.fn.out.items ++ flat_map (λ (e : Entry). codes " " ++ id_text e.view e.seqno) l.entries
