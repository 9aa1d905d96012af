use Rattle.std.proofs.Common.{◌≡◌, ◌+◌, ◌-◌, length}
use Rattle.std.specs.List.{flat_map}
use Rattle.gl_base.specs.Code.{unread_of}
use Rattle.gl_base.proofs.ByteLists.{AreBytes}
use Rattle.gl_requests.specs.Encoding.{action_bytes}
use Rattle.gl_gov_rules.specs.GovernedRows.{actions_to_end}
use Rattle.gl_gov_rows.proofs.Actions.{behind}
use Rattle.gl_gov_rows.proofs.values.read_actions.Given as goal

-- what was read and what is still to be read make the whole, and their bytes are all
abbrev pub invariant-loop : goal.invariant-loop
invariant-loop l = record {
  exact : behind l.actions.items (actions_to_end (length l.bytes - l.counter) l.cut) ≡ actions_to_end (length l.bytes) (unread_of l.bytes);
  size : length (flat_map action_bytes l.actions.items) + length l.cut.bytes ≡ length l.bytes;
  left : AreBytes l.cut.bytes;
}
