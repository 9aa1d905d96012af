use Rattle.std.proofs.Common.{rules}
use Rattle.gl_requests.proofs.RangeTests.{numbered}
use Rattle.gl_requests.proofs.ranges.is_member_number.Goals as goal

pub returns : goal.returns
returns c = numbered c.args.number (search rules)
