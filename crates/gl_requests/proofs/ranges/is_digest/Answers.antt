use Rattle.std.proofs.Common.{rules, sym, ◌∙◌}
use Rattle.gl_requests.proofs.RangeTests.{sized}
use Rattle.gl_requests.proofs.ranges.is_digest.Goals as goal

pub returns : goal.returns
returns c = search rules ∙ sym (sized 32 c.args.digest (search rules) (λ i low. search rules))
