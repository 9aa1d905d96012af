use Rattle.std.proofs.Common.{◌≡◌, ◌++◌, drop, true}
use Rattle.std.specs.List.{AllByRecursion, flat_map}
use Rattle.gl_entry.specs.Entry.{is_entry}
use Rattle.gl_schedule.specs.Text.{entry_text}
use Rattle.gl_schedule.proofs.text.put_entries.Given as goal

-- what is written and what is left to write make the whole
abbrev pub invariant-loop-entry : goal.invariant-loop-entry
invariant-loop-entry l = record {
  written : l.out.items ++ flat_map entry_text (drop l.entry-index l.entries) ≡ l.fn.out.items ++ flat_map entry_text l.entries;
  rest : AllByRecursion (λ e. is_entry e ≡ true) (drop l.entry-index l.entries);
}
