-- Runs of the small book, worked by hand from the rule of each event and compared with what the
-- definitions compute. Messages count from 0.
use Rattle.std.proofs.Common.{◌≡◌, ℕ, ◌-◌, List, [], ◌∷◌, ◌++◌, length, map, true, false, Option, Some, None, slice_get, refl}
use Rattle.gl_base.specs.declared.tx_id.Status.TheVariants.{Invalid}
use Rattle.gl_rules.specs.Node.{Node}
use Rattle.gl_rules.specs.Message.{Message, Body, VoteReply, AppendReply}
use Rattle.gl_rules.specs.Outcome as outcome
use Rattle.gl_rules.specs.Outcome.{Outcome, Refused, RemovalNotCommitted}
use Rattle.gl_rules.specs.Log.{last_signature}
use Rattle.gl_rules.specs.Retirement.{Stage, Ordered, Completed, RetiredCommitted, stage}
use Rattle.gl_rules.specs.Retirement as retirement
use Rattle.gl_rules.specs.World.{Start, World, Event, Timeout, Deliver, Submit, Govern, Reserve, Sign, Evidence, Replicate, Advance, Restart, Install, happens, after, begin}
use Rattle.gl_rules.specs.Safety.{reported_status}
use Rattle.gl_safety.specs.declared.small_book.Entry.{Entry}
use Rattle.gl_safety.specs.declared.small_book.Order.{Order}
use Rattle.gl_safety.specs.declared.small_book.Order.TheVariants.{SetNodes, RemoveNode, MarkNode}
use Rattle.gl_safety.specs.declared.small_book.Kind.TheVariants.{Removal, Mark, Signature}
use Rattle.gl_safety.specs.declared.small_book.Fault.{Fault}
use Rattle.gl_safety.specs.declared.small_book.Fault.TheVariants.{Unfit}
use Rattle.gl_safety.specs.SmallBook.{small}
use Rattle.gl_safety.proofs.SmallRuns.{set, service, rules_open, one, two, three, four, five}

-- What an event answers, and how many messages it sends.
pub record Line : Type 0 where
  pub outcome : Outcome ℕ Fault
  pub sent : ℕ

-- what each of these events tells
abbrev reports : World Entry → List (Event ℕ Order ℕ) → List Line
reports w [] = []
reports w (e ∷ es) = record { outcome = (happens small w e).outcome; sent = length (happens small w e).world.sent - length w.sent } ∷ reports (happens small w e).world es

abbrev line : Outcome ℕ Fault → ℕ → Line
line o n = record { outcome = o; sent = n }

abbrev views : Node Entry → List ℕ
views n = map (λ e. e.view) n.log

abbrev body_of : Option (Message Entry) → Option (Body Entry)
body_of None = None
body_of (Some m) = Some m.body

abbrev said : World Entry → ℕ → Option (Body Entry)
said w which = body_of (slice_get w.sent which)

-- A leader's entry that nobody has is rolled back by the next leader's.
abbrev three_nodes : Start Entry
three_nodes = service one (two ∷ three ∷ [])

abbrev rollback : List (Event ℕ Order ℕ)
rollback =
    Submit one 7 ∷ Timeout two ∷ Deliver 1 ∷ Deliver 2 ∷ Submit two 8 ∷ Reserve two ∷ Sign two
    ∷ Replicate two three ∷ Deliver 3 ∷ Deliver 4 ∷ Advance two ∷ Replicate two one ∷ Deliver 5 ∷ []

rollback_reported : reports (begin three_nodes) rollback ≡
    line (outcome.Accepted 2 3 7) 0 ∷ line outcome.BecameCandidate 2 ∷ line outcome.Done 1 ∷ line outcome.BecameLeader 0
    ∷ line (outcome.Accepted 3 3 8) 0 ∷ line outcome.Done 0 ∷ line (outcome.Signed 3 4) 0
    ∷ line outcome.Done 1 ∷ line outcome.Done 1 ∷ line outcome.Done 0 ∷ line (outcome.Committed 3 4) 0
    ∷ line outcome.Done 1 ∷ line outcome.Done 1 ∷ []
unfolding rules_open
rollback_reported = refl

rollback_views : views ((after small three_nodes rollback).nodes one) ≡ 2 ∷ 2 ∷ 3 ∷ 3 ∷ []
unfolding rules_open
rollback_views = refl

rollback_status : reported_status small ((after small three_nodes rollback).nodes one) (record { view = 2; seqno = 3 }) ≡ Invalid
unfolding rules_open
rollback_status = refl

-- Messages that come again: a counted vote is ignored, entries that are held are answered, and a
-- request of the vote's view is refused once the voter has a later signature.
again_reported : reports (after small three_nodes rollback) (Deliver 2 ∷ Deliver 3 ∷ Deliver 3 ∷ Deliver 1 ∷ []) ≡
    line outcome.Idle 0 ∷ line outcome.Done 1 ∷ line outcome.Done 1 ∷ line outcome.Done 1 ∷ []
unfolding rules_open
again_reported = refl

again_refused : said (after small three_nodes (rollback ++ Deliver 2 ∷ Deliver 3 ∷ Deliver 3 ∷ Deliver 1 ∷ [])) 9 ≡ Some (VoteReply false)
unfolding rules_open
again_refused = refl

again_granted : said (after small three_nodes (Submit one 7 ∷ Timeout two ∷ Deliver 1 ∷ Deliver 1 ∷ [])) 3 ≡ Some (VoteReply true)
unfolding rules_open
again_granted = refl

-- A vote outlives a restart.
restart_refused : said (after small three_nodes (Timeout two ∷ Deliver 1 ∷ Restart three ∷ Restart one ∷ Timeout one ∷ Deliver 4 ∷ [])) 5 ≡ Some (VoteReply false)
unfolding rules_open
restart_refused = refl

-- A signature of an earlier view is not committed, though a majority holds it; one of the leader's
-- own is.
abbrev five_nodes : Start Entry
five_nodes = service one (two ∷ three ∷ four ∷ five ∷ [])

abbrev earlier : List (Event ℕ Order ℕ)
earlier =
    Submit one 7 ∷ Reserve one ∷ Sign one ∷ Replicate one two ∷ Deliver 0
    -- node 5 wins view 3 by 3 and 4
    ∷ Timeout five ∷ Deliver 4 ∷ Deliver 5 ∷ Deliver 6 ∷ Deliver 7 ∷ Submit five 8 ∷ Reserve five ∷ Sign five
    -- node 1 wins view 4 by 2 and 3
    ∷ Restart one ∷ Timeout one ∷ Timeout one ∷ Deliver 12 ∷ Deliver 13 ∷ Deliver 16 ∷ Deliver 17
    -- 2 and 3 come to hold seqno 4
    ∷ Replicate one two ∷ Deliver 18 ∷ Deliver 19 ∷ Replicate one three ∷ Deliver 20 ∷ Deliver 21 ∷ Replicate one three ∷ Deliver 22 ∷ Deliver 23 ∷ []

earlier_reported : reports (after small five_nodes earlier) (Advance one ∷ Reserve one ∷ Sign one ∷ Replicate one two ∷ Deliver 24 ∷ Deliver 25 ∷ Replicate one three ∷ Deliver 26 ∷ Deliver 27 ∷ Advance one ∷ []) ≡
    line outcome.Idle 0 ∷ line outcome.Done 0 ∷ line (outcome.Signed 4 5) 0
    ∷ line outcome.Done 1 ∷ line outcome.Done 1 ∷ line outcome.Done 0 ∷ line outcome.Done 1 ∷ line outcome.Done 1 ∷ line outcome.Done 0
    ∷ line (outcome.Committed 4 5) 0 ∷ []
unfolding rules_open
earlier_reported = refl

earlier_held : views ((after small five_nodes earlier).nodes three) ≡ 2 ∷ 2 ∷ 2 ∷ 2 ∷ []
unfolding rules_open
earlier_held = refl

-- A configuration {3, 4, 5} in place of {1, 2, 3}: both must agree.
abbrev replaced : List (Event ℕ Order ℕ)
replaced =
    Govern one (SetNodes (set (three ∷ four ∷ five ∷ []))) ∷ Reserve one ∷ Sign one
    ∷ Replicate one two ∷ Deliver 0 ∷ Deliver 1 ∷ Replicate one three ∷ Deliver 2 ∷ Deliver 3 ∷ []

replaced_reported : reports (after small three_nodes replaced) (Advance one ∷ Replicate one four ∷ Deliver 4 ∷ Deliver 5 ∷ Replicate one four ∷ Deliver 6 ∷ Deliver 7 ∷ Advance one ∷ []) ≡
    line outcome.Idle 0 ∷ line outcome.Done 1 ∷ line outcome.Done 1 ∷ line outcome.Done 0
    ∷ line outcome.Done 1 ∷ line outcome.Done 1 ∷ line outcome.Done 0 ∷ line (outcome.Committed 2 4) 0 ∷ []
unfolding rules_open
replaced_reported = refl

replaced_refused : said (after small three_nodes (replaced ++ Replicate one four ∷ Deliver 4 ∷ [])) 5 ≡ Some (AppendReply false 0)
unfolding rules_open
replaced_refused = refl

-- A node that is in no configuration doesn't stand.
joiner_idle : reports (begin (service one [])) (Timeout two ∷ []) ≡ line outcome.Idle 0 ∷ []
unfolding rules_open
joiner_idle = refl

-- Retirement of node 1, as it sees it itself.
abbrev stage_of : World Entry → Option Stage
stage_of w = let n = w.nodes one in stage (small.removal n.log one) (small.mark n.log one) (last_signature small n.log) n.commit

abbrev removal : List (Event ℕ Order ℕ)
removal = Govern one (RemoveNode one (set (two ∷ three ∷ []))) ∷ []

abbrev removal_signed : List (Event ℕ Order ℕ)
removal_signed = removal ++ Reserve one ∷ Sign one ∷ []

abbrev removal_committed : List (Event ℕ Order ℕ)
removal_committed = removal_signed ++ Replicate one two ∷ Deliver 0 ∷ Deliver 1 ∷ Replicate one three ∷ Deliver 2 ∷ Deliver 3 ∷ Advance one ∷ []

abbrev marked : List (Event ℕ Order ℕ)
marked =
    removal_committed ++ Govern one (MarkNode one) ∷ Reserve one ∷ Sign one
    ∷ Replicate one two ∷ Deliver 4 ∷ Deliver 5 ∷ Replicate one three ∷ Deliver 6 ∷ Deliver 7 ∷ Advance one ∷ []

mark_early : reports (after small three_nodes removal) (Govern one (MarkNode one) ∷ []) ≡ line (Refused (RemovalNotCommitted 3 2)) 0 ∷ []
unfolding rules_open
mark_early = refl

stages : map (λ es. stage_of (after small three_nodes es)) (removal ∷ removal_signed ∷ removal_committed ∷ marked ∷ []) ≡
    Some Ordered ∷ Some retirement.Signed ∷ Some Completed ∷ Some RetiredCommitted ∷ []
unfolding rules_open
stages = refl

-- node 2 knows from the last signature that the removal is committed, and asks node 3 alone
after_marked : reports (after small three_nodes marked) (Restart two ∷ Timeout two ∷ []) ≡ line outcome.Done 0 ∷ line outcome.BecameCandidate 1 ∷ []
unfolding rules_open
after_marked = refl

known_again : ((after small three_nodes (marked ++ Restart two ∷ [])).nodes two).commit ≡ 4
unfolding rules_open
known_again = refl

-- A snapshot: evidence after a signature, another signature above it, and both committed.
abbrev snapshot : List (Event ℕ Order ℕ)
snapshot = Submit one 7 ∷ Reserve one ∷ Sign one ∷ Evidence one ∷ Reserve one ∷ Sign one ∷ Advance one ∷ []

snapshot_reported : reports (begin (service one [])) (snapshot ++ Install two one ∷ []) ≡
    line (outcome.Accepted 2 3 7) 0 ∷ line outcome.Done 0 ∷ line (outcome.Signed 2 4) 0 ∷ line (outcome.Signed 2 5) 0
    ∷ line outcome.Done 0 ∷ line (outcome.Signed 2 6) 0 ∷ line (outcome.Committed 2 6) 0 ∷ line outcome.Done 0 ∷ []
unfolding rules_open
snapshot_reported = refl

snapshot_base : ((after small (service one []) (snapshot ++ Install two one ∷ [])).nodes two).base ≡ 4
unfolding rules_open
snapshot_base = refl

-- What a signature may record after a removal at 3, a signature at 4 that records 2, and a mark at
-- 5: neither 2, as the removal stands above it, nor 3 or 6, where no signature stands, but 4.
abbrev after_mark : List Entry
after_mark =
    (service one (two ∷ [])).opening
    ++ record { view = 2; kind = Removal one (set (two ∷ [])) }
    ∷ record { view = 2; kind = Signature 2 }
    ∷ record { view = 2; kind = Mark one } ∷ []

recorded_after_mark : map (λ commit. small.breaks 0 after_mark (record { view = 2; kind = Signature commit })) (2 ∷ 3 ∷ 4 ∷ 6 ∷ []) ≡
    Some Unfit ∷ Some Unfit ∷ None ∷ Some Unfit ∷ []
unfolding rules_open
recorded_after_mark = refl
