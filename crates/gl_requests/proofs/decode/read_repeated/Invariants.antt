use Rattle.std.proofs.Common.{◌≡◌, ◌-◌}
use Rattle.gl_requests.specs.Parsing.{repeated_at}
use Rattle.gl_base.proofs.Repeated.{with_prefix}
use Rattle.gl_requests.proofs.decode.read_repeated.Given as goal

-- what is read, before what is still read, is the whole
abbrev pub invariant-loop : goal.invariant-loop
invariant-loop g l = with_prefix l.parts.items (repeated_at g.T.Decode.reading (l.count - l.counter) l.cut) ≡ repeated_at g.T.Decode.reading l.count l.fn.cut
