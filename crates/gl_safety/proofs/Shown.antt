-- A run of the small book, computed: a change of configuration, two leaders one after the other, a
-- snapshot, and the one refusal of entries that the laws leave: at a node whose commit is its base.
use Rattle.std.proofs.Common.{◌≡◌, ℕ, List, [], ◌∷◌, ◌++◌, refl}
use Rattle.gl_rules.specs.Node.{Leader}
use Rattle.gl_rules.specs.Outcome.{Refused, BelowCommit}
use Rattle.gl_rules.specs.World.{Event, Timeout, Deliver, Submit, Govern, Reserve, Sign, Evidence, Replicate, Advance, Install, happens, after}
use Rattle.gl_rules.specs.World.{Start}
use Rattle.gl_safety.specs.declared.small_book.Entry.{Entry}
use Rattle.gl_safety.specs.declared.small_book.Order.{Order}
use Rattle.gl_safety.specs.declared.small_book.Order.TheVariants.{SetNodes}
use Rattle.gl_safety.specs.SmallBook.{small}
use Rattle.gl_safety.proofs.SmallRuns.{set, service, rules_open, one, two, three, four}

abbrev start : Start Entry
start = service one (two ∷ three ∷ [])

-- Node 1 adds node 4, and commits that with 2 and 3; then it goes on alone.
abbrev pub added : List (Event ℕ Order ℕ)
added =
    Govern one (SetNodes (set (one ∷ two ∷ three ∷ four ∷ [])))
    ∷ Reserve one ∷ Sign one
    ∷ Replicate one two ∷ Deliver 0 ∷ Deliver 1
    ∷ Replicate one three ∷ Deliver 2 ∷ Deliver 3
    ∷ Advance one ∷ Submit one 7 ∷ Reserve one ∷ Sign one ∷ []

-- Node 2 wins view 3 with 3 and 4; node 1, which has the greater last signature, doesn't vote for
-- it. Its first entry is on the way to node 4.
abbrev pub second : List (Event ℕ Order ℕ)
second =
    Timeout two ∷ Deliver 5 ∷ Deliver 6 ∷ Deliver 4 ∷ Deliver 7 ∷ Deliver 8
    ∷ Submit two 8 ∷ Replicate two four ∷ []

-- Node 1 wins view 4 with 2 and 3, and commits a signature of its own; node 4 takes a snapshot from
-- it.
abbrev pub third : List (Event ℕ Order ℕ)
third =
    Timeout one ∷ Deliver 11 ∷ Deliver 12 ∷ Deliver 14 ∷ Deliver 15
    ∷ Evidence one ∷ Reserve one ∷ Sign one
    ∷ Replicate one two ∷ Deliver 16 ∷ Deliver 17 ∷ Replicate one two ∷ Deliver 18 ∷ Deliver 19
    ∷ Replicate one three ∷ Deliver 20 ∷ Deliver 21 ∷ Replicate one three ∷ Deliver 22 ∷ Deliver 23
    ∷ Advance one ∷ Install four one ∷ []

added_commits : ((after small start added).nodes one).commit ≡ 4
unfolding rules_open
added_commits = refl

second_leads : ((after small start (added ++ second)).nodes two).role ≡ Leader
unfolding rules_open
second_leads = refl

third_commits : ((after small start (added ++ second ++ third)).nodes one).commit ≡ 8
unfolding rules_open
third_commits = refl

-- node 2's old entry conflicts below the base of node 4
below_base : (happens small (after small start (added ++ second ++ third)) (Deliver 10)).outcome ≡ Refused (BelowCommit 6 4)
unfolding rules_open
below_base = refl
