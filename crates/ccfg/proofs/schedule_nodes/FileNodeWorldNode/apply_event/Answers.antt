use Rattle.std.proofs.Common.{map, None, Some, sym}
use Rattle.gl_election.specs.Bridge.{seen_message}
use Rattle.gl_rules.specs.Replication.{restart}
use Rattle.gl_replication.specs.Events as served
use Rattle.gl_world.specs.Rules.{rule_of}
use Rattle.ccfg.proofs.FileNodes.{err_refuses, ok_steps}
use Rattle.ccfg.proofs.NodeEvents.{event_is}
use Rattle.ccfg.proofs.schedule_nodes.FileNodeWorldNode.apply_event.Goals as goal

pub dispatch-requires : goal.dispatch-requires
dispatch-requires c =
    let r = c.in-Ok-Some in
    (event_is (rule_of c.args.ids.now (map seen_message c.args.sent.now) c.args.event.now) c.node_event.result r.field-0 (Some r.event) r.is r.field-0-is c.node_event.ensures).0

pub returns-in-Ok-None-clause-steps : goal.returns-in-Ok-None-clause-steps
returns-in-Ok-None-clause-steps c =
    let r = c.in-Ok-None in
    let rule = rule_of c.args.ids.now (map seen_message c.args.sent.now) c.args.event.now in
    let same = event_is rule c.node_event.result r.field-0 None r.is r.field-0-is c.node_event.ensures in
    ok_steps (λ b x n. restart b n) rule same c.args.self.now c.restart.new.self c.restart.result c.restart.ensures.steps

pub returns-in-Ok-None-clause-refused : goal.returns-in-Ok-None-clause-refused
returns-in-Ok-None-clause-refused c =
    let r = c.in-Ok-None in
    let rule = rule_of c.args.ids.now (map seen_message c.args.sent.now) c.args.event.now in
    let same = event_is rule c.node_event.result r.field-0 None r.is r.field-0-is c.node_event.ensures in
    err_refuses (λ b x n. restart b n) rule same c.args.self.now c.restart.result c.restart.ensures.refused

pub returns-in-Ok-Some-clause-steps : goal.returns-in-Ok-Some-clause-steps
returns-in-Ok-Some-clause-steps c =
    let r = c.in-Ok-Some in
    let rule = rule_of c.args.ids.now (map seen_message c.args.sent.now) c.args.event.now in
    let is = event_is rule c.node_event.result r.field-0 (Some r.event) r.is r.field-0-is c.node_event.ensures in
    ok_steps (served.rule_of r.event) rule (λ b x n. sym (is.1 b x n)) c.args.self.now c.dispatch.new.self c.dispatch.result c.dispatch.ensures.steps

pub returns-in-Ok-Some-clause-refused : goal.returns-in-Ok-Some-clause-refused
returns-in-Ok-Some-clause-refused c =
    let r = c.in-Ok-Some in
    let rule = rule_of c.args.ids.now (map seen_message c.args.sent.now) c.args.event.now in
    let is = event_is rule c.node_event.result r.field-0 (Some r.event) r.is r.field-0-is c.node_event.ensures in
    err_refuses (served.rule_of r.event) rule (λ b x n. sym (is.1 b x n)) c.args.self.now c.dispatch.result c.dispatch.ensures.refused
