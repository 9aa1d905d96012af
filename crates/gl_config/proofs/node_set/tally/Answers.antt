use Rattle.std.proofs.Common.{rules, ◌≡◌, count_by, sym, ◌∙◌, arith}
use Rattle.gl_rules.specs.Identity.{NodeId, member}
use Rattle.gl_config.proofs.Scans.{tally-count, tally_le}
use Rattle.gl_config.proofs.node_set.tally.Goals as goal

pub returns : goal.returns
returns c =
    let scan : c.count.result ≡ count_by (λ (y : NodeId). member y c.args.votes.now) c.args.configuration.now = search rules in
    let value = scan ∙ sym (tally-count (λ (y : NodeId). member y c.args.votes.now) c.args.configuration.now) in
    record { value = value; within = omega (arith, value, tally_le (λ (y : NodeId). member y c.args.votes.now) c.args.configuration.now) }
