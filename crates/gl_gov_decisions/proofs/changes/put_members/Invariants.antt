use Rattle.std.proofs.Common.{◌≡◌, ◌++◌, drop, map}
use Rattle.gl_gov_rules.specs.Changes.{changed_at, set_member}
use Rattle.gl_gov_decisions.proofs.changes.put_members.Given as goal

abbrev pub invariant-loop-member : goal.invariant-loop-member
invariant-loop-member l =
    l.out.items ++ map (changed_at l.seqno) (map set_member (drop l.member-index l.members))
    ≡ l.fn.out.items ++ map (changed_at l.seqno) (map set_member l.members)
