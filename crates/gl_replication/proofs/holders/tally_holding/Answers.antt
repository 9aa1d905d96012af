use Rattle.std.proofs.Common.{rules, ◌≡◌, count_by, sym, ◌∙◌, arith}
use Rattle.gl_rules.specs.Identity.{NodeId}
use Rattle.gl_config.proofs.Scans.{tally-count, tally_le}
use Rattle.gl_replication.specs.Pairs.{held, holds}
use Rattle.gl_replication.proofs.holders.tally_holding.Goals as goal

pub returns : goal.returns
returns c =
    let scan : c.count.result ≡ count_by (λ (y : NodeId). holds c.args.me.now c.args.seqno (held c.args.matched.now) y) c.args.nodes.now = search rules in
    let value = scan ∙ sym (tally-count (holds c.args.me.now c.args.seqno (held c.args.matched.now)) c.args.nodes.now) in
    record { value = value; within = omega (arith, value, tally_le (holds c.args.me.now c.args.seqno (held c.args.matched.now)) c.args.nodes.now) }
