use Rattle.std.proofs.Common.{ℕ, List, false, true, ap, subst, sym, ◌∙◌}
use Rattle.std.proofs.lemmas.Result.{on_ok_weaker}
use Rattle.gl_requests.specs.declared.request.MemberAct.{MemberAct}
use Rattle.gl_requests.specs.declared.request.MemberAct.TheVariants as acts
use Rattle.gl_lines.specs.References.{id_at}
use Rattle.gl_world.specs.Founding.{id_of}
use Rattle.gl_schedule.specs.Play.{Prints, byte_number}
use Rattle.gl_schedule.specs.Playing.{Playing}
use Rattle.gl_schedule.specs.Output.{at_member, at_proposal, signs}
use Rattle.gl_schedule.proofs.EventLemmas.{group_from, node_from, prints_no_node}
use Rattle.gl_schedule.proofs.RequestLemmas.{prints_about, prints_at, prints_no_proposal, prints_of_member}
use Rattle.gl_schedule.proofs.machine.Machine.withdraw.Goals as goal

pub returns-then-not-has_node : goal.returns-then-not-has_node
returns-then-not-has_node g c =
    let m = c.args.self.now in
    let held = sym (ap (λ (p : Playing). p.world) c.self.view_is) in
    let group = group_from m _ _ held c.self.invariant.world c.self.invariant.group in
    let none = node_from m _ c.args.node _ _ false held c.node_number-node.ensures c.has_node.ensures c.if-not-has_node.true in
    record { prints = on_ok_weaker c.put_unnamed.result (λ w. prints_no_node m group c.args.node (λ t x. at_member c.args.member (at_proposal (id_at t.proposals c.args.proposal) (λ id. signs m.world.settings t x c.args.member (acts.Withdraw id)))) _ _ none w c.args.number) c.put_unnamed.ensures }

pub returns-in-None : goal.returns-in-None
returns-in-None g c =
    let m = c.args.self.now in
    let held = sym (ap (λ (p : Playing). p.world) c.self.view_is) in
    let group = group_from m _ _ held c.self.invariant.world c.self.invariant.group in
    let some = node_from m _ c.args.node _ _ true held c.node_number-node.ensures c.has_node.ensures c.if-not-has_node.false in
    record {
      prints = on_ok_weaker c.put_no_proposal.result
          (λ w. prints_at m m group c.args.number c.args.node (λ s t x. at_member c.args.member (at_proposal (id_at t.proposals c.args.proposal) (λ id. signs s t x c.args.member (acts.Withdraw id)))) _ _ some
          (prints_of_member m m c.args.number c.args.member c.in-Some.member (λ s t n. at_proposal (id_at t.proposals c.args.proposal) (λ id. signs s t (id_of s (byte_number c.args.node)) n (acts.Withdraw id))) _ _ c.in-Some.ensures
          (prints_no_proposal m c.args.number c.args.proposal (λ s t id. signs s t (id_of s (byte_number c.args.node)) c.in-Some.member (acts.Withdraw id)) _ _
          (c.in-None.ensures ∙ ap (λ (ids : List (List ℕ)). id_at ids c.args.proposal) (ap (λ (p : Playing). p.proposals) c.self.view_is)) w))) c.put_no_proposal.ensures;
    }

pub returns-in-Some-id : goal.returns-in-Some-id
returns-in-Some-id g c =
    let m = c.args.self.now in
    let held = sym (ap (λ (p : Playing). p.world) c.self.view_is) in
    let group = group_from m _ _ held c.self.invariant.world c.self.invariant.group in
    let some = node_from m _ c.args.node _ _ true held c.node_number-node.ensures c.has_node.ensures c.if-not-has_node.false in
    record {
      prints = on_ok_weaker c.ask.result
          (λ prints. prints_at m _ group c.args.number c.args.node (λ s t x. at_member c.args.member (at_proposal (id_at t.proposals c.args.proposal) (λ id. signs s t x c.args.member (acts.Withdraw id)))) _ _ some
          (prints_of_member m _ c.args.number c.args.member c.in-Some.member (λ s t n. at_proposal (id_at t.proposals c.args.proposal) (λ id. signs s t (id_of s (byte_number c.args.node)) n (acts.Withdraw id))) _ _ c.in-Some.ensures
          (prints_about m _ c.args.number c.args.proposal c.in-Some-id.proposal (λ s t id. signs s t (id_of s (byte_number c.args.node)) c.in-Some.member (acts.Withdraw id)) _ _
          (c.in-Some-id.ensures ∙ ap (λ (ids : List (List ℕ)). id_at ids c.args.proposal) (ap (λ (p : Playing). p.proposals) c.self.view_is))
          (subst (λ (a : MemberAct). Prints c.args.number (λ s t. signs s t (id_of s (byte_number c.args.node)) c.in-Some.member a) m c.ask.new.self c.args.out.now.items c.ask.new.out.items) c.withdrawal_of.ensures.act
          (subst (λ (k : ℕ). Prints c.args.number (λ s t. signs s t (id_of s k) c.in-Some.member c.withdrawal_of.result) m c.ask.new.self c.args.out.now.items c.ask.new.out.items) c.node_number-node.ensures prints))))) c.ask.ensures.prints;
    }
