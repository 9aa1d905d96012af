use Rattle.std.proofs.Common.{◌≡◌, ◌+◌, rules, [], ◌∷◌, ◌++◌, length, sym, ap, subst, ◌∙◌}
use Rattle.gl_receipt.proofs.OrderLemmas.{AreInOrder, in_order-push}
use Rattle.t_forms.proofs.receipt.mem_ledger.MemLedger.push.Goals as goal

pub invariant_of-self-in_err-push : goal.invariant_of-self-in_err-push
invariant_of-self-in_err-push c =
    let leaves : c.reserve.new.self.items ≡ c.self.inside.leaves.items = search rules in
    let entries : c.push.new.self.items ≡ c.self.inside.entries.items = search rules in (
      ap length leaves ∙ c.self.invariant.0 ∙ ap length (sym entries),
      subst AreInOrder (sym entries) c.self.invariant.1,
    )

pub invariant_of-self-2 : goal.invariant_of-self-2
invariant_of-self-2 c =
    let at : c.in_ok-entry.entry.seqno ≡ length c.self.inside.entries.items + 1 = search rules in
    let size : length c.push-2.new.self.items ≡ length c.push.new.self.items = search rules in
    let entries : c.push.new.self.items ≡ c.self.inside.entries.items ++ c.in_ok-entry.entry ∷ [] = search rules in (
      size,
      subst AreInOrder (sym entries)
          (in_order-push c.self.inside.entries.items c.in_ok-entry.entry c.self.invariant.1 at),
    )
