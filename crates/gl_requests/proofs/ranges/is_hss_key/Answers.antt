use Rattle.std.proofs.Common.{rules, sym, ◌∙◌}
use Rattle.gl_requests.proofs.RangeTests.{sized}
use Rattle.gl_requests.proofs.ranges.is_hss_key.Goals as goal

pub returns : goal.returns
returns c = search rules ∙ sym (sized 60 c.args.key (search rules) (λ i low. search rules))
