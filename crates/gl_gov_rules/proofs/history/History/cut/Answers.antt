use Rattle.std.proofs.Common.{◌≡◌, List, length, take, map, filter, nat_le, arith, sym, subst, ap, ◌∙◌}
use Rattle.gl_gov_rules.specs.declared.change.Recorded.{Recorded}
use Rattle.gl_gov_rules.specs.declared.change.Changed.{Changed}
use Rattle.gl_gov_rules.specs.History.{History}
use Rattle.gl_gov_rules.specs.Governed.{up_to}
use Rattle.gl_gov_rules.specs.GovernedRows.{history_over}
use Rattle.gl_gov_rules.specs.Proposals.{settling_in}
use Rattle.gl_gov_rules.proofs.Settled.{settled_left}
use Rattle.gl_gov_rules.specs.Index.{IsOfChanges, IsOfRequests, made}
use Rattle.gl_gov_rules.proofs.CutLists.{count_taken, rising_in, history_left, requests_left, changes_left}
use Rattle.gl_gov_rules.proofs.ByRequests.{cut_requests}
use Rattle.gl_gov_rules.proofs.OverBase.{carried_to}
use Rattle.gl_gov_rules.proofs.history.History.cut.Goals as goal

pub invariant_of-self : goal.invariant_of-self
invariant_of-self c =
    let k = c.self.inside.carried in
    let rs = c.self.inside.requests.items in
    let rising = rising_in _ k rs _ c.self.view_is c.requires.rising in
    let left : c.cut_list.new.list.items ≡ up_to c.args.to rs = cut_requests c.args.to rs _ rising c.cut_list.ensures in
    let cs = c.self.inside.changes.items in
    let h : History = record { carried = k; requests = rs; changes = cs } in
    let base = c.requires.whole.0 in
    let under = c.requires.whole.2 in
    let whole : h ≡ history_over base rs = subst (λ (x : History). x ≡ history_over base x.requests) (sym c.self.view_is) c.requires.whole.1 in
    let low : c.truncate.new.self.items ≡ filter (λ (x : Changed). nat_le x.seqno c.args.to) cs =
    count_taken (λ (x : Changed). nat_le x.seqno c.args.to) _ _ cs _ _ c.truncate.ensures.items c.changes_up_to-changes.ensures c.deref.ensures.value ∙ changes_left c.args.to base h rising whole under in
    let reported : IsOfRequests k (up_to c.args.to rs) c.cut-2.new.self = c.cut-2.ensures k rs (carried_to c.args.to base h whole under) rising c.self.invariant.requests in
    record {
      changes = subst (λ (us : List Changed). us ≡ take c.changes_up_to-changes.result c.self.inside.changes.items → IsOfChanges c.self.inside.changes.items c.self.inside.by_change →
          IsOfChanges us c.cut.new.self) c.deref-2.ensures.value (c.cut.ensures c.changes_up_to-changes.result c.self.inside.changes.items) c.truncate.ensures.items c.self.invariant.changes;
      requests = subst (λ (us : List Recorded). IsOfRequests k us c.cut-2.new.self) (sym left) reported;
      settlings = settled_left c.args.to c.changes_up_to-changes.result c.len.result k rs cs c.truncate.new.self.items c.self.inside.settlings.items _ rising c.truncate.ensures.items low
          c.self.invariant.settlings (omega (arith, c.len.ensures, c.cut-2.new.self.proposals.ok.0, ap length reported.proposals)) c.cut_settlings.ensures
          ∙ ap (λ us. map (settling_in c.truncate.new.self.items) (made k us)) (sym left);
    }

pub returns-clause-cut : goal.returns-clause-cut
returns-clause-cut c = λ base whole under.
    let k = c.self.inside.carried in
    let rs = c.self.inside.requests.items in
    let rising = rising_in _ k rs _ c.self.view_is c.requires.rising in
    let left : c.cut_list.new.list.items ≡ up_to c.args.to rs = cut_requests c.args.to rs _ rising c.cut_list.ensures in
    history_left c.args.to base _ k _ _ _ _ c.self.view_is c.requires.rising whole under
    (left ∙ sym (requests_left c.args.to rs rising))
    (count_taken _ _ _ _ _ _ c.truncate.ensures.items c.changes_up_to-changes.ensures c.deref.ensures.value)

pub returns-clause-requests : goal.returns-clause-requests
returns-clause-requests c =
    let k = c.self.inside.carried in
    let rs = c.self.inside.requests.items in
    let rising = rising_in _ k rs _ c.self.view_is c.requires.rising in
    let left : c.cut_list.new.list.items ≡ up_to c.args.to rs = cut_requests c.args.to rs _ rising c.cut_list.ensures in
    left ∙ ap (λ (x : History). up_to c.args.to x.requests) c.self.view_is
