use Rattle.std.proofs.Common.{◌≡◌, List, [], ◌∷◌, ◌++◌, sym, subst, ◌∙◌, arith, rules}
use Rattle.std.specs.Vec.{with_items}
use Rattle.std.proofs.lemmas.List.{with_items_is}
use Rattle.gl_gov_rules.specs.declared.change.Recorded.{Recorded}
use Rattle.gl_gov_rules.specs.Index.{IsOfRequests}
use Rattle.gl_gov_rules.proofs.Settled.{settled_more, settled_with}
use Rattle.gl_gov_rules.proofs.history.History.push_recorded.Goals as goal

pub invariant_of-self-2 : goal.invariant_of-self-2
invariant_of-self-2 c =
    let k = c.self.inside.carried in
    let rs = c.self.inside.requests.items in
    let cs = c.self.inside.changes.items in
    let all = c.append_reserved.new.list.items in
    let room = c.reserve-5.new.self in
    let changed : all ≡ cs ++ c.args.changes.items = rw c.in_ok-reserve-2.ensures.items at c.append_reserved.ensures in
    let pushed : c.push_reserved.new.self.items ≡ rs ++ c.args.recorded ∷ [] = rw c.in_ok-reserve.ensures.items at c.push_reserved.ensures.items in
    let reported : IsOfRequests k rs c.reserve-4.new.self = c.in_ok-reserve-4.ensures.same k rs c.self.invariant.requests in
    let more = c.push.ensures k rs reported in
    record {
      changes = search rules;
      requests = subst (λ (us : List Recorded). IsOfRequests k us c.push.new.self) (sym pushed) more;
      settlings = settled_with k rs _ c.args.recorded all _ _ (with_items room c.settle.new.settlings).items _ _
          (settled_more cs c.args.changes.items _ all _ _ _ c.self.inside.settlings.items c.settle.new.settlings _
          (with_items_is room c.settle.new.settlings (omega (arith, c.settle.auto.settlings, room.ok.0)))
          (c.deref_mut.ensures.value ∙ c.in_ok-reserve-5.ensures.items) c.settle.ensures (c.deref-2.ensures.value ∙ reported.proposals) c.self.invariant.settlings c.deref-3.ensures.value changed)
          (sym (with_items room c.settle.new.settlings).ok.0) pushed (c.deref-4.ensures.value ∙ more.proposals) c.deref-5.ensures.value c.push_settling.ensures;
    }
