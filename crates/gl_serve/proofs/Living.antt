-- Whatever a serve does at its node is events, one after the other, through which no leaf signs
-- twice.
use Rattle.std.proofs.Common.{◌≡◌, ℕ, ◌+◌, Bool, true, false, not, List, [], ◌∷◌, ◌++◌, Option, None, Some, Result, Ok, Err, refl, sym, ap, subst, ◌∙◌, nat_le}
use Rattle.gl_entry.specs.declared.entry.Entry.{Entry}
use Rattle.gl_rules.specs.Identity.{NodeId}
use Rattle.gl_rules.specs.Node.{Node}
use Rattle.gl_ledger.specs.LedgerBook.{ServiceBook}
use Rattle.gl_outside.specs.Disk.{Step}
use Rattle.gl_outside.specs.Link.{Arrival}
use Rattle.gl_journal.specs.Durable.{LogRules}
use Rattle.gl_replication.specs.Events.{rule_of}
use Rattle.gl_replication.specs.declared.event.Event.TheVariants as events
use Rattle.gl_replication.specs.Holding.{Holding}
use Rattle.gl_replication.specs.Stands.{StandsFor}
use Rattle.gl_node.specs.declared.fault.NodeFault.TheVariants.{Refused, DiskFault, Stopped}
use Rattle.gl_node.proofs.SignedLeaves.{leaves_rise}
use Rattle.gl_serve.specs.Doing.{Does, Line, Moment, One}
use Rattle.gl_serve.specs.Doing as doing
use Rattle.gl_serve.specs.Running.{Stand, Went}
use Rattle.gl_serve.specs.Serves.{course_of}
use Rattle.gl_serve.specs.Works.{Work, Take, Handle, Beat, Lead}
use Rattle.gl_serve.specs.declared.node.OwnEvent.{OwnEvent}
use Rattle.gl_serve.specs.declared.node.OwnEvent.TheVariants as own
use Rattle.gl_serve.specs.declared.node.Outcome.{Outcome}
use Rattle.gl_serve.specs.declared.settings.ServeEnd.{ServeEnd}
use Rattle.gl_serve.specs.declared.settings.ServeEnd.TheVariants as ends
use Rattle.gl_serve.specs.declared.settings.Serving.{Serving}
use Rattle.gl_serve.specs.Events.{Happens}
use Rattle.gl_serve.specs.Life.{IsLife, Lived, Lives, happenings, node_after, node_through}
use Rattle.gl_serve.specs.NodeWork.{Asks, Comes, HappenUnless, Handles, Owns, serving_rules}
use Rattle.gl_serve.specs.Types.{NodeDone, NodeEvent, NodeFaults, NodeSeen}
use Rattle.gl_serve.specs.declared.payload.Ask.{Ask}
use Rattle.gl_serve.specs.declared.payload.Ask.TheVariants as asks
use Rattle.gl_serve.specs.declared.payload.Payload.{Payload}
use Rattle.gl_serve.specs.declared.payload.Payload.TheVariants as payloads

module _ {D S : Type 0} (stands : S → ServiceBook → Holding Entry → Type 0) (goes_on : LogRules) (honest : Bool) (bytes : D → List ℕ) (past : D → List Step) (faults : D → ℕ) where
  abbrev Live : NodeSeen D S → List (Lived S) → NodeSeen D S → Type 0
  Live first life last = Lives stands goes_on honest bytes past faults first life last

  abbrev Happen : NodeEvent S → NodeSeen D S → Result (NodeDone S) (NodeFaults S) → NodeSeen D S → Type 0
  Happen event old result new = Happens stands goes_on honest bytes past faults event old result new

  -- some events lead from the one node to the other
  abbrev Goes : NodeSeen D S → NodeSeen D S → Type 0
  Goes first last = (life : List (Lived S)) × Live first life last

  lives_then : (xs ys : List (Lived S)) (first mid last : NodeSeen D S) → Live first xs mid → Live mid ys last → Live first (xs ++ ys) last
  lives_then [] ys first mid last is more = subst (λ (v : NodeSeen D S). Live v ys last) is more
  lives_then (x ∷ xs) ys first mid last h more = (h.0, h.1, lives_then xs ys h.0 mid last h.2 more)

  stays : (first last : NodeSeen D S) → last ≡ first → Goes first last
  stays first last is = ([], is)

  goes_then : (first mid last : NodeSeen D S) → Goes first mid → Goes mid last → Goes first last
  goes_then first mid last a b = (a.0 ++ b.0, lives_then a.0 b.0 first mid last a.1 b.1)

  -- ---- a serve is events

  comes : (event : NodeEvent S) (old new : NodeSeen D S) (Reported : Result (NodeDone S) (NodeFaults S) → Type 0) → Comes stands goes_on honest bytes past faults event old new Reported → Goes old new
  comes event old new Reported c = (record { event = event; result = c.0 } ∷ [], (new, c.1, refl))

  asked : (old : NodeSeen D S) (number : ℕ) (ask : Ask) (outcome : Outcome) (new : NodeSeen D S) → Asks stands goes_on honest bytes past faults old number ask outcome new → Goes old new
  asked old number (asks.Submit request) outcome new h = comes (events.Submit request) old new _ h
  asked old number (asks.Govern request) outcome new h = comes (events.Govern request) old new _ h
  asked old number (asks.StatusOf id) outcome new h = stays old new h.1
  asked old number (asks.ReceiptOf id) outcome new h = stays old new h.1
  asked old number (asks.SnapshotPart offset) outcome new h = stays old new h.1

  handled : (old : NodeSeen D S) (payload : Payload) (outcome : Outcome) (new : NodeSeen D S) → Handles stands goes_on honest bytes past faults old payload outcome new → Goes old new
  handled old (payloads.Peer m) outcome new h = comes (events.Message m) old new _ h
  handled old (payloads.Client number ask) outcome new h = asked old number ask outcome new h.0

  unless : (signed : Bool) (event : NodeEvent S) (old : NodeSeen D S) (outcome : Outcome) (new : NodeSeen D S) → HappenUnless stands goes_on honest bytes past faults signed old event outcome new → Goes old new
  unless true event old outcome new h = stays old new h.1
  unless false event old outcome new h = comes event old new _ h

  owned : (old : NodeSeen D S) (event : OwnEvent) (outcome : Outcome) (new : NodeSeen D S) → Owns stands goes_on honest bytes past faults old event outcome new → Goes old new
  owned old (own.Replicate peer) outcome new h = comes (events.Replicate peer) old new _ h
  owned old own.Reserve outcome new h = unless h.0 events.Reserve old outcome new h.2
  owned old own.Sign outcome new h = unless h.0 events.Sign old outcome new h.2
  owned old own.Advance outcome new h = comes events.Advance old new _ h
  owned old own.Evidence outcome new h = unless (not h.0) events.Evidence old outcome new h.2
  owned old own.Timeout outcome new h = comes events.Timeout old new _ h

  module _ (settings : Serving) where
    abbrev Does-one : Moment (NodeSeen D S) → Work → List Line → Moment (NodeSeen D S) → Type 0
    Does-one m work lines now = One (serving_rules stands goes_on honest bytes past faults) settings m work lines now

    read : (m now : Moment (NodeSeen D S)) (conn : ℕ) (read : Option Payload) (lines : List Line) → doing.Handles (serving_rules stands goes_on honest bytes past faults) settings m conn read lines now → Goes m.node now.node
    read m now conn None lines h = stays m.node now.node h.1
    read m now conn (Some payload) lines e = handled m.node payload e.outcome now.node e.event

    waits : (m now : Moment (NodeSeen D S)) (late : Bool) (lines : List Line) → doing.Waits (serving_rules stands goes_on honest bytes past faults) settings m late lines now → Goes m.node now.node
    waits m now true lines e = owned m.node own.Timeout e.outcome now.node e.event
    waits m now false lines h = stays m.node now.node h.1

    beats : (m now : Moment (NodeSeen D S)) (leads : Bool) (lines : List Line) → doing.Beats (serving_rules stands goes_on honest bytes past faults) settings m leads lines now → Goes m.node now.node
    beats m now true lines h = stays m.node now.node h.1
    beats m now false lines h = waits m now (nat_le settings.ticks (m.session_state.idle + 1)) lines h

    leads : (m now : Moment (NodeSeen D S)) (event : OwnEvent) (leading : Bool) (lines : List Line) → doing.Leads (serving_rules stands goes_on honest bytes past faults) settings m event leading lines now → Goes m.node now.node
    leads m now event true lines e = owned m.node event e.outcome now.node e.event
    leads m now event false lines h = stays m.node now.node h.1

    one : (m now : Moment (NodeSeen D S)) (work : Work) (lines : List Line) → Does-one m work lines now → Goes m.node now.node
    one m now (Take arrival) lines h = stays m.node now.node (ap (λ (v : Moment (NodeSeen D S)). v.node) h.1)
    one m now (Handle conn payload) lines h = read m now conn h.0 lines h.2
    one m now Beat lines h = beats m now ((serving_rules stands goes_on honest bytes past faults).leads m.node) lines h
    one m now (Lead event) lines h = leads m now event m.session_state.leading lines h

    does : (works : List Work) (reported : List (List Line)) (m now : Moment (NodeSeen D S)) → Does (serving_rules stands goes_on honest bytes past faults) settings m works reported now → Goes m.node now.node
    does [] reported m now h = stays m.node now.node (ap (λ (v : Moment (NodeSeen D S)). v.node) h.1)
    does (work ∷ more) reported m now h = goes_then m.node h.1.node now.node (one m h.1 work h.2 h.4) (does more h.3 h.1 now h.6)

    pub serve_lives : (reported : Bool) (from to : Stand (NodeSeen D S)) (works : List Work) (came : List Arrival) (result : Result (ℕ × ℕ) ServeEnd) →
        Went reported (serving_rules stands goes_on honest bytes past faults) settings from works came to (course_of result) → Goes from.moment.node to.moment.node
    serve_lives reported from to works came (Ok counts) w = does w.0.done w.0.content from.moment to.moment w.0.does
    serve_lives reported from to works came (Err ends.LinkFailed) w = does w.0.done w.0.content from.moment to.moment w.0.does
    serve_lives reported from to works came (Err ends.Turns) w = does w.0.done w.0.content from.moment to.moment w.0.does
    serve_lives reported from to works came (Err ends.Stopped) w = does w.2.done w.2.content from.moment to.moment w.2.does
    serve_lives reported from to works came (Err ends.NoMemory) w = does w.2.done w.2.content from.moment to.moment w.2.does

  -- ---- no leaf signs twice through events

  -- at a node that has stopped nothing happens
  still_by : (event : NodeEvent S) (result : Result (NodeDone S) (NodeFaults S)) (more : List (Lived S)) (first next last : NodeSeen D S) (count : ℕ) → Happen event first result next → (next.stopped ≡ Some count → last ≡ next) → first.stopped ≡ Some count → last ≡ first
  still_by event (Ok done) more first next last count h still stopped = absurd (cc (h.going.0, stopped))
  still_by event (Err (Refused why)) more first next last count h still stopped = absurd (cc (h.going.0, stopped))
  still_by event (Err DiskFault) more first next last count h still stopped = absurd (cc (h.going, stopped))
  still_by event (Err (Stopped count')) more first next last count h still stopped =
      still (ap (λ (v : NodeSeen D S). v.stopped) h.same ∙ stopped) ∙ h.same

  pub still : (life : List (Lived S)) (first last : NodeSeen D S) (count : ℕ) → Live first life last → first.stopped ≡ Some count → last ≡ first
  still [] first last count is stopped = is
  still (lived ∷ more) first last count h stopped = still_by lived.event lived.result more first h.0 last count h.1 (still more h.0 last count h.2) stopped

  module _ (b : ServiceBook) (x : NodeId) where
    stands_by : (event : NodeEvent S) (result : Result (NodeDone S) (NodeFaults S)) (more : List (Lived S)) (first next last : NodeSeen D S) (n : Node Entry) → Happen event first result next → Live next more last →
        ((m : Node Entry) → StandsFor stands next.core b x m → StandsFor stands last.core b x (node_through b x m more)) →
        StandsFor stands first.core b x n → last.stopped ≡ None → StandsFor stands last.core b x (node_through b x (node_after b x n event result) more)
    stands_by event (Ok done) more first next last n h lives rest s going = rest (rule_of event b x n).node (h.steps b x n s).node
    stands_by event (Err (Refused why)) more first next last n h lives rest s going = rest n (h.keeps b x n s)
    stands_by event (Err DiskFault) more first next last n h lives rest s going =
        absurd (cc (going, ap (λ (v : NodeSeen D S). v.stopped) (still more next last (faults next.disk) lives h.stopped), h.stopped))
    stands_by event (Err (Stopped count)) more first next last n h lives rest s going = rest n (subst (λ (v : NodeSeen D S). StandsFor stands v.core b x n) (sym h.same) s)

    stands_then : (life : List (Lived S)) (first last : NodeSeen D S) (n : Node Entry) → Live first life last → StandsFor stands first.core b x n → last.stopped ≡ None → StandsFor stands last.core b x (node_through b x n life)
    stands_then [] first last n is s going = subst (λ (v : NodeSeen D S). StandsFor stands v.core b x n) (sym is) s
    stands_then (lived ∷ more) first last n h s going = stands_by lived.event lived.result more first h.0 last n h.1 h.2 (λ m t. stands_then more h.0 last m h.2 t going) s going

    pub life_signs_once : (first last : NodeSeen D S) (life : List (Lived S)) → Live first life last → (n : Node Entry) → StandsFor stands first.core b x n → IsLife stands goes_on honest bytes past faults first life last b x n
    life_signs_once first last life lives n s =
        let rise = leaves_rise b x n (happenings life) s.used in
        record { node = stands_then life first last n lives s; once = rise.0; unused = rise.1 }
