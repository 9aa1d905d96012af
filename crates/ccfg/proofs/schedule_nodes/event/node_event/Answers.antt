use Rattle.std.proofs.Common.{map, Some, None, refl}
use Rattle.gl_election.specs.Bridge.{seen_message}
use Rattle.gl_replication.specs.declared.event.Event.TheVariants as served_events
use Rattle.ccfg.proofs.NodeEvents.{as_event, delivers, was_sent}
use Rattle.ccfg.proofs.schedule_nodes.event.node_event.Goals as goal

pub returns-in-Timeout : goal.returns-in-Timeout
returns-in-Timeout c = as_event c.args.ids.now (map seen_message c.args.sent.now) c.args.event.now _ (Some served_events.Timeout) c.in-Timeout.is (refl, λ b x n. refl)

pub returns-in_ok-copied-in-Deliver : goal.returns-in_ok-copied-in-Deliver
returns-in_ok-copied-in-Deliver c =
    let ids = c.args.ids.now in
    let sent = c.args.sent.now in
    let i = c.in-Deliver.message in
    let m = c.index-sent-message.result in
    delivers ids sent c.args.event.now i m c.in_ok-copied-in-Deliver.copied c.in-Deliver.is
    (was_sent ids sent c.args.event.now i m c.in-Deliver.is c.requires.among c.index-sent-message.is) c.in_ok-copied-in-Deliver.ensures c.requires.few

pub returns-in-Reserve : goal.returns-in-Reserve
returns-in-Reserve c = as_event c.args.ids.now (map seen_message c.args.sent.now) c.args.event.now _ (Some served_events.Reserve) c.in-Reserve.is (refl, λ b x n. refl)

pub returns-in-Sign : goal.returns-in-Sign
returns-in-Sign c = as_event c.args.ids.now (map seen_message c.args.sent.now) c.args.event.now _ (Some served_events.Sign) c.in-Sign.is (refl, λ b x n. refl)

pub returns-in-Evidence : goal.returns-in-Evidence
returns-in-Evidence c = as_event c.args.ids.now (map seen_message c.args.sent.now) c.args.event.now _ (Some served_events.Evidence) c.in-Evidence.is (refl, λ b x n. refl)

pub returns-in-Advance : goal.returns-in-Advance
returns-in-Advance c = as_event c.args.ids.now (map seen_message c.args.sent.now) c.args.event.now _ (Some served_events.Advance) c.in-Advance.is (refl, λ b x n. refl)

pub returns-in-Restart : goal.returns-in-Restart
returns-in-Restart c = as_event c.args.ids.now (map seen_message c.args.sent.now) c.args.event.now _ None c.in-Restart.is (λ b x n. refl)
