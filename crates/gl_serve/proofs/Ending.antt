-- How a serve ends for its node and its file.
use Rattle.std.proofs.Common.{◌≡◌, ◌⊎◌, ◌≤◌, inl, inr, ℕ, Bool, true, false, not, List, [], ◌∷◌, Option, None, Some, Result, Ok, Err, IsTrue, refl, sym, ap, subst, ◌∙◌, arith}
use Rattle.gl_entry.specs.declared.entry.Entry.{Entry}
use Rattle.gl_rules.specs.Identity.{NodeId}
use Rattle.gl_rules.specs.Node.{Node}
use Rattle.gl_ledger.specs.LedgerBook.{ServiceBook}
use Rattle.gl_outside.specs.Disk.{Leaves, Step}
use Rattle.gl_outside.specs.Fault.{Rose}
use Rattle.gl_outside.proofs.Moments.{so_too}
use Rattle.gl_journal.specs.Durable.{Durable, LogRules, durable, journal_header}
use Rattle.gl_journal.specs.Kept.{IsAtRest}
use Rattle.gl_journal.specs.Parts.{HasGate}
use Rattle.gl_journal.specs.declared.fault.JournalFault.{JournalFault}
use Rattle.gl_replication.specs.Events.{rule_of}
use Rattle.gl_replication.specs.declared.event.Event.TheVariants as events
use Rattle.gl_replication.specs.Holding.{Holding}
use Rattle.gl_replication.specs.Stands.{StandsFor}
use Rattle.gl_node.specs.Kept.{Kept, kept_after}
use Rattle.gl_node.specs.declared.fault.NodeFault.TheVariants.{Refused, DiskFault, Stopped}
use Rattle.gl_node.proofs.SignedLeaves.{reserved_before}
use Rattle.gl_outside.specs.Link.{Arrival, Exchange}
use Rattle.gl_node.specs.Persistence.{OpensToCore, StandsForSome}
use Rattle.gl_serve.specs.Serves.{Serves, StoppedBy}
use Rattle.gl_serve.specs.declared.settings.ServeEnd.{ServeEnd}
use Rattle.gl_serve.specs.declared.settings.ServeEnd.TheVariants as ends
use Rattle.gl_serve.specs.declared.node.OwnEvent.{OwnEvent}
use Rattle.gl_serve.specs.declared.node.OwnEvent.TheVariants as own
use Rattle.gl_serve.specs.declared.node.Outcome.TheVariants as outcomes
use Rattle.gl_serve.specs.declared.settings.Serving.{Serving}
use Rattle.gl_serve.specs.ClientAnswers.{Answers, own_outcome, message_outcome}
use Rattle.gl_serve.specs.Events.{Happens}
use Rattle.gl_serve.specs.Life.{Lived, Lives, MayKeep}
use Rattle.gl_serve.specs.OverLink.{KeepsLeaves}
use Rattle.gl_serve.specs.NodeWork.{Asks, HappenUnless, Handles, Owns, Report, serving_rules}
use Rattle.gl_serve.specs.Types.{NodeDone, NodeEvent, NodeFaults, NodeSeen}
use Rattle.gl_serve.specs.declared.payload.Ask.{Ask}
use Rattle.gl_serve.specs.declared.payload.Ask.TheVariants as asks
use Rattle.gl_serve.specs.declared.payload.Payload.{Payload}
use Rattle.gl_serve.specs.declared.payload.Payload.TheVariants as payloads
use Rattle.gl_serve.proofs.Stopping.{serve_stopped}
use Rattle.gl_serve.proofs.KeepingEvents.{life_is_kept}
use Rattle.gl_serve.proofs.Living.{serve_lives, still}

module _ {D S : Type 0} (stands : S → ServiceBook → Holding Entry → Type 0) (goes_on : LogRules) (honest : Bool) (bytes : D → List ℕ) (past : D → List Step) (faults : D → ℕ) where
  abbrev Live : NodeSeen D S → List (Lived S) → NodeSeen D S → Type 0
  Live first life last = Lives stands goes_on honest bytes past faults first life last

  abbrev Happen : NodeEvent S → NodeSeen D S → Result (NodeDone S) (NodeFaults S) → NodeSeen D S → Type 0
  Happen event old result new = Happens stands goes_on honest bytes past faults event old result new

  -- ---- where the node has stopped

  -- an event by which the node stops, or at which it had
  abbrev Stops : Result (NodeDone S) (NodeFaults S) → Type 0
  Stops result = (result ≡ Err DiskFault) ⊎ ((count : ℕ) × (result ≡ Err (Stopped count)))

  stops_node : (event : NodeEvent S) (old new : NodeSeen D S) (result : Result (NodeDone S) (NodeFaults S)) → Happen event old result new → Stops result → (count : ℕ) × (new.stopped ≡ Some count)
  stops_node event old new result h (inl is) =
      let b = subst (λ (r : Result (NodeDone S) (NodeFaults S)). Happen event old r new) is h in
      (faults new.disk, b.stopped)
  stops_node event old new result h (inr (count, is)) =
      let b = subst (λ (r : Result (NodeDone S) (NodeFaults S)). Happen event old r new) is h in
      (count, ap (λ (v : NodeSeen D S). v.stopped) b.same ∙ b.stopped)

  own_stops : (result : Result (NodeDone S) (NodeFaults S)) → outcomes.Stopped ≡ own_outcome result → Stops result
  own_stops (Ok done) is = cc
  own_stops (Err (Refused why)) is = cc
  own_stops (Err DiskFault) is = inl refl
  own_stops (Err (Stopped count)) is = inr (count, refl)

  message_stops : (came view : ℕ) (result : Result (NodeDone S) (NodeFaults S)) → outcomes.Stopped ≡ message_outcome came view result → Stops result
  message_stops came view (Ok done) is = cc
  message_stops came view (Err (Refused why)) is = cc
  message_stops came view (Err DiskFault) is = inl refl
  message_stops came view (Err (Stopped count)) is = inr (count, refl)

  answer_stops : (number : ℕ) (result : Result (NodeDone S) (NodeFaults S)) → Answers number result outcomes.Stopped → Stops result
  answer_stops number (Ok done) (inl is) = cc
  answer_stops number (Ok done) (inr is) = cc
  answer_stops number (Err (Refused why)) (inl is) = cc
  answer_stops number (Err (Refused why)) (inr is) = cc
  answer_stops number (Err DiskFault) is = inl refl
  answer_stops number (Err (Stopped count)) is = inr (count, refl)

  -- the node has stopped
  abbrev Ended : NodeSeen D S → Type 0
  Ended node = (count : ℕ) × (node.stopped ≡ Some count)

  report_stops : (stopped : Option ℕ) (old new : NodeSeen D S) (number : ℕ) (due : ServiceBook → Node Entry → _) → old.stopped ≡ stopped → Report stands goes_on honest bytes past faults stopped old number due outcomes.Stopped → new ≡ old → Ended new
  report_stops (Some count) old new number due is reported same = (count, ap (λ (v : NodeSeen D S). v.stopped) same ∙ is)
  report_stops None old new number due is reported same = cc (reported.2)

  ask_stops : (old new : NodeSeen D S) (number : ℕ) (ask : Ask) → Asks stands goes_on honest bytes past faults old number ask outcomes.Stopped new → Ended new
  ask_stops old new number (asks.Submit request) c = stops_node (events.Submit request) old new c.0 c.1 (answer_stops number c.0 c.2)
  ask_stops old new number (asks.Govern request) c = stops_node (events.Govern request) old new c.0 c.1 (answer_stops number c.0 c.2)
  ask_stops old new number (asks.StatusOf id) c = report_stops old.stopped old new number _ refl c.0 c.1
  ask_stops old new number (asks.ReceiptOf id) c = report_stops old.stopped old new number _ refl c.0 c.1
  ask_stops old new number (asks.SnapshotPart offset) c = report_stops old.stopped old new number _ refl c.0 c.1

  handle_stops : (old new : NodeSeen D S) (payload : Payload) → Handles stands goes_on honest bytes past faults old payload outcomes.Stopped new → Ended new
  handle_stops old new (payloads.Peer m) c = stops_node (events.Message m) old new c.0 c.1 (message_stops m.view new.core.peer.view c.0 c.2)
  handle_stops old new (payloads.Client number ask) c = ask_stops old new number ask c.0

  unless_stops : (signed : Bool) (event : NodeEvent S) (old new : NodeSeen D S) → HappenUnless stands goes_on honest bytes past faults signed old event outcomes.Stopped new → Ended new
  unless_stops true event old new h = cc (h.0)
  unless_stops false event old new h = stops_node event old new h.0 h.1 (own_stops h.0 h.2)

  own_ends : (old new : NodeSeen D S) (event : OwnEvent) → Owns stands goes_on honest bytes past faults old event outcomes.Stopped new → Ended new
  own_ends old new (own.Replicate peer) h = stops_node (events.Replicate peer) old new h.0 h.1 (own_stops h.0 h.2)
  own_ends old new own.Reserve h = unless_stops h.0 events.Reserve old new h.2
  own_ends old new own.Sign h = unless_stops h.0 events.Sign old new h.2
  own_ends old new own.Advance h = stops_node events.Advance old new h.0 h.1 (own_stops h.0 h.2)
  own_ends old new own.Evidence h = unless_stops (not h.0) events.Evidence old new h.2
  own_ends old new own.Timeout h = stops_node events.Timeout old new h.0 h.1 (own_stops h.0 h.2)

  -- an event that stopped the node
  stopped_ends : (last : NodeSeen D S) → StoppedBy (serving_rules stands goes_on honest bytes past faults) last → Ended last
  stopped_ends last (old, inl (payload, h)) = handle_stops old last payload h
  stopped_ends last (old, inr (event, h)) = own_ends old last event h

  -- ---- the disk's count of faults

  abbrev Failed : NodeSeen D S → NodeSeen D S → Type 0
  Failed first last = Ended last → Rose (faults first.disk) (faults last.disk)

  failed_by : (event : NodeEvent S) (result : Result (NodeDone S) (NodeFaults S)) (more : List (Lived S)) (first next last : NodeSeen D S) → Happen event first result next → Live next more last →
      (next.stopped ≡ None → Failed next last) → first.stopped ≡ None → Failed first last
  failed_by event (Ok done) more first next last h lives rest going ended = subst (λ (n : ℕ). Rose n (faults last.disk)) h.quiet (rest h.going.1 ended)
  failed_by event (Err (Refused why)) more first next last h lives rest going ended = subst (λ (n : ℕ). Rose n (faults last.disk)) h.quiet (rest h.going.1 ended)
  failed_by event (Err DiskFault) more first next last h lives rest going ended =
      subst (λ (v : NodeSeen D S). Rose (faults first.disk) (faults v.disk)) (sym (still stands goes_on honest bytes past faults more next last (faults next.disk) lives h.stopped)) h.rose
  failed_by event (Err (Stopped count)) more first next last h lives rest going ended = absurd (let s = h.stopped in cc)

  pub life_failed : (life : List (Lived S)) (first last : NodeSeen D S) → Live first life last → first.stopped ≡ None → Failed first last
  life_failed [] first last is going ended = absurd (let s = ap (λ (v : NodeSeen D S). v.stopped) is in let e = ended.1 in cc)
  life_failed (lived ∷ more) first last h going ended = failed_by lived.event lived.result more first h.0 last h.1 h.2 (life_failed more h.0 last h.2) going ended

  -- ---- leaves

  module _ (b : ServiceBook) (x : NodeId) where
    -- the same key, and no fewer spent leaves
    abbrev NoFewer : Durable → Durable → Type 0
    NoFewer d state = (state.key ≡ d.key) × (d.reserved ≤ state.reserved)

    same_leaves : (d state : Durable) → state ≡ d → NoFewer d state
    same_leaves d state is = (ap (λ (s : Durable). s.key) is, let r = ap (λ (s : Durable). s.reserved) is in omega (arith, r))

    still_keeps_by : (event : NodeEvent S) (result : Result (NodeDone S) (NodeFaults S)) (more : List (Lived S)) (first next : NodeSeen D S) (n : Node Entry) (d state : Durable) (count : ℕ) → Happen event first result next → first.stopped ≡ Some count →
        (next.stopped ≡ Some count → MayKeep b x n d more state → state ≡ d) → MayKeep b x n d (record { event = event; result = result } ∷ more) state → state ≡ d
    still_keeps_by event (Ok done) more first next n d state count h stopped rest may = absurd (let g = h.going.0 in cc)
    still_keeps_by event (Err (Refused why)) more first next n d state count h stopped rest may = absurd (let g = h.going.0 in cc)
    still_keeps_by event (Err DiskFault) more first next n d state count h stopped rest may = absurd (let g = h.going in cc)
    still_keeps_by event (Err (Stopped other)) more first next n d state count h stopped rest (inl is) = is
    still_keeps_by event (Err (Stopped other)) more first next n d state count h stopped rest (inr may) = rest (ap (λ (v : NodeSeen D S). v.stopped) h.same ∙ stopped) may

    still_keeps : (life : List (Lived S)) (first last : NodeSeen D S) (n : Node Entry) (d state : Durable) (count : ℕ) → Live first life last → first.stopped ≡ Some count → MayKeep b x n d life state → state ≡ d
    still_keeps [] first last n d state count lives stopped may = may
    still_keeps (lived ∷ more) first last n d state count lives stopped may =
        still_keeps_by lived.event lived.result more first lives.0 n d state count lives.1 stopped (λ s m. still_keeps more lives.0 last n d state count lives.2 s m) may

    leaves_by : (event : NodeEvent S) (result : Result (NodeDone S) (NodeFaults S)) (more : List (Lived S)) (first next last : NodeSeen D S) (n : Node Entry) (d state : Durable) → Happen event first result next → Live next more last →
        ((m : Node Entry) (e : Durable) → StandsFor stands next.core b x m → e.reserved ≡ m.reserved → MayKeep b x m e more state → NoFewer e state) →
        StandsFor stands first.core b x n → d.reserved ≡ n.reserved → MayKeep b x n d (record { event = event; result = result } ∷ more) state → NoFewer d state
    leaves_by event result more first next last n d state h lives rest s same (inl is) = same_leaves d state is
    leaves_by event (Ok done) more first next last n d state h lives rest s same (inr may) =
        let m = (rule_of event b x n).node in
        let k = rest m (kept_after d m) (h.steps b x n s).node refl may in
        let r = (reserved_before b x n event s.used).0 in
        (k.0, let l = k.1 in omega (arith, l, r, same))
    leaves_by event (Err (Refused why)) more first next last n d state h lives rest s same (inr may) = rest n d (h.keeps b x n s) same may
    leaves_by event (Err DiskFault) more first next last n d state h lives rest s same (inr may) =
        let m = (rule_of event b x n).node in
        let k = same_leaves (kept_after d m) state (still_keeps more next last m (kept_after d m) state (faults next.disk) lives h.stopped may) in
        let r = (reserved_before b x n event s.used).0 in
        (k.0, let l = k.1 in omega (arith, l, r, same))
    leaves_by event (Err (Stopped count)) more first next last n d state h lives rest s same (inr may) =
        rest n d (subst (λ (v : NodeSeen D S). StandsFor stands v.core b x n) (sym h.same) s) same may

    pub leaves_kept : (life : List (Lived S)) (first last : NodeSeen D S) (n : Node Entry) (d state : Durable) → Live first life last → StandsFor stands first.core b x n → d.reserved ≡ n.reserved → MayKeep b x n d life state → NoFewer d state
    leaves_kept [] first last n d state lives s same may = same_leaves d state may
    leaves_kept (lived ∷ more) first last n d state lives s same may =
        leaves_by lived.event lived.result more first lives.0 last n d state lives.1 lives.2 (λ m e t r k. leaves_kept more lives.0 last m e state lives.2 t r k) s same may

  -- ---- a serve

  -- where it ended since the node stopped, the disk failed
  pub serve_failed : (reported : Bool) (settings : Serving) (first last : NodeSeen D S) (before after : List Exchange) (ahead left : List Arrival) (result : Result (ℕ × ℕ) ServeEnd) →
      Serves reported (serving_rules stands goes_on honest bytes past faults) settings first before ahead last after left result → first.stopped ≡ None → result ≡ Err ends.Stopped → Rose (faults first.disk) (faults last.disk)
  serve_failed reported settings first last before after ahead left result s going is =
      let t = subst (λ (r : Result (ℕ × ℕ) ServeEnd). Serves reported (serving_rules stands goes_on honest bytes past faults) settings first before ahead last after left r) is s in
      let life = serve_lives stands goes_on honest bytes past faults settings reported _ _ _ _ (Err ends.Stopped) t.went in
      life_failed life.0 first last life.1 going (stopped_ends last (serve_stopped (serving_rules stands goes_on honest bytes past faults) settings reported first last before after ahead left t))

  -- whatever it came to, its file has the same key and no fewer spent leaves
  pub serve_keeps : (held : S → Kept) (reported : Bool) (settings : Serving) (first last : NodeSeen D S) (before after : List Exchange) (ahead left : List Arrival) (result : Result (ℕ × ℕ) ServeEnd) →
      Serves reported (serving_rules stands goes_on honest bytes past faults) settings first before ahead last after left result → IsTrue honest → StandsForSome stands first.core → OpensToCore held goes_on (bytes first.disk) first.core → IsAtRest (bytes first.disk) (past first.disk) →
      (d : Durable) → durable goes_on (bytes first.disk) ≡ Ok d → Leaves (KeepsLeaves goes_on d) (past first.disk) (past last.disk)
  serve_keeps held reported settings first last before after ahead left result s true_disk some file rest d opens =
      let life = serve_lives stands goes_on honest bytes past faults settings reported _ _ _ _ result s.went in
      let n = some.node in
      let same : d.reserved ≡ n.reserved = held_reserved d file.0 (sym opens ∙ file.1) ∙ file.2.reserved ∙ ap (λ (m : Node Entry). m.reserved) some.standing.same in
      let kept = life_is_kept stands goes_on honest bytes past faults true_disk some.rules some.me first last life.0 life.1 n some.standing d opens in
      so_too (λ (image : List ℕ). HasGate journal_header image × (state : Durable) × MayKeep some.rules some.me n d life.0 state × (durable goes_on image ≡ Ok state)) (KeepsLeaves goes_on d) (past first.disk) (past last.disk)
      (λ image may. let k = leaves_kept some.rules some.me life.0 first last n d may.1 life.1 some.standing same may.2 in (may.0, may.1, may.3, k.0, k.1))
      (kept.any_moment rest)
    where
      held_reserved : (d e : Durable) → ◌≡◌ {A = Result Durable JournalFault} (Ok d) (Ok e) → d.reserved ≡ e.reserved
      held_reserved d e is = ap (λ (x : Durable). x.reserved) (inner d e is)
        where
          inner : (d e : Durable) → ◌≡◌ {A = Result Durable JournalFault} (Ok d) (Ok e) → d ≡ e
          inner d e is = cc
