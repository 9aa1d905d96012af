use Rattle.std.proofs.Common.{◌≡◌, ◌++◌, false, true, ap, subst, sym, ◌∙◌}
use Rattle.std.proofs.lemmas.Result.{on_ok_weaker}
use Rattle.std.specs.List.{AllByRecursion}
use Rattle.gl_entry.specs.Entry.{is_entry}
use Rattle.gl_entry.specs.declared.entry.Entry.{Entry}
use Rattle.gl_world.specs.Group.{IsGroup}
use Rattle.gl_world.specs.Held.{node_now}
use Rattle.gl_schedule.specs.Text.{held_entries, ledger_text}
use Rattle.gl_schedule.specs.Output.{Answers}
use Rattle.gl_schedule.proofs.LogLemmas.{held_fit}
use Rattle.gl_schedule.specs.Playing.{Playing}
use Rattle.gl_schedule.proofs.EventLemmas.{group_from, node_from, prints_no_node, prints_node, seen_from}
use Rattle.gl_schedule.proofs.machine.Machine.print_ledger.Goals as goal

pub put_ledger-requires : goal.put_ledger-requires
put_ledger-requires g c =
    subst (AllByRecursion (λ (e : Entry). is_entry e ≡ true)) (sym c.entries.ensures)
    (held_fit _ (subst IsGroup (sym c.self.invariant.world) c.self.invariant.group) c.node_number-node.result)

pub returns-then-not-has_node : goal.returns-then-not-has_node
returns-then-not-has_node g c =
    let m = c.args.self.now in
    let held = sym (ap (λ (p : Playing). p.world) c.self.view_is) in
    let group = group_from m _ _ held c.self.invariant.world c.self.invariant.group in
    let none = node_from m _ c.args.node _ _ false held c.node_number-node.ensures c.has_node.ensures c.if-not-has_node.true in
    record {
      prints = on_ok_weaker c.put_unnamed.result (λ w. prints_no_node m group c.args.node (λ t x. Answers (ledger_text (held_entries (t.world.nodes x)))) _ _ none w) c.put_unnamed.ensures;
    }

pub returns : goal.returns
returns g c =
    let m = c.args.self.now in
    let held = sym (ap (λ (p : Playing). p.world) c.self.view_is) in
    let group = group_from m _ _ held c.self.invariant.world c.self.invariant.group in
    let some = node_from m _ c.args.node _ _ true held c.node_number-node.ensures c.has_node.ensures c.if-not-has_node.false in
    record {
      prints = on_ok_weaker c.put_ledger.result
          (λ w. prints_node m group c.args.node (λ n. ledger_text (held_entries n)) _ _ some
          (w ∙ ap (λ x. c.args.out.now.items ++ ledger_text x) c.entries.ensures
          ∙ seen_from m _ _ c.args.node (λ h k. c.args.out.now.items ++ ledger_text (held_entries (node_now h k))) held c.node_number-node.ensures)) c.put_ledger.ensures;
    }
