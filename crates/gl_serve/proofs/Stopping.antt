-- Where a serve ends since its node stopped, an event of the node came to that.
use Rattle.std.proofs.Common.{◌≡◌, ℕ, Bool, true, false, List, [], ◌∷◌, Option, None, Some, Result, Err, inl, inr, refl, sym, ap, subst}
use Rattle.gl_outside.specs.Link.{Arrival, Exchange}
use Rattle.gl_serve.specs.declared.session.SessionState.{SessionState}
use Rattle.gl_serve.specs.declared.session.SessionError.{SessionError}
use Rattle.gl_serve.specs.declared.session.SessionError.TheVariants as halts
use Rattle.gl_serve.specs.declared.node.Outcome.{Outcome}
use Rattle.gl_serve.specs.declared.node.Outcome.TheVariants as outcomes
use Rattle.gl_serve.specs.declared.node.OwnEvent.{OwnEvent}
use Rattle.gl_serve.specs.declared.node.OwnEvent.TheVariants.{Timeout}
use Rattle.gl_serve.specs.declared.settings.Serving.{Serving}
use Rattle.gl_serve.specs.declared.settings.ServeEnd.{ServeEnd}
use Rattle.gl_serve.specs.declared.settings.ServeEnd.TheVariants as ends
use Rattle.gl_serve.specs.Rules.{Rules}
use Rattle.gl_serve.specs.Works.{Work, Take, Handle, Beat, Lead}
use Rattle.gl_serve.specs.Doing.{Beats, Does, Event, Handles, Leads, Line, Moment, One, Waits, session_state_after}
use Rattle.gl_serve.specs.Running.{is_stopped}
use Rattle.gl_serve.specs.Serves.{Serves, StoppedBy}

module _ {S Payload : Type 0} (rules : Rules S Payload) (settings : Serving) where
  -- it is over so only after such an event
  abbrev Over : Moment S → Type 0
  Over m = m.session_state.over ≡ Some halts.Stopped → StoppedBy rules m.node

  event_over : (asker : Option ℕ) (happens : Outcome → S → Type 0) (noted : SessionState) (lines : List Line) (now : Moment S) → noted.over ≡ None →
      ((node : S) → happens outcomes.Stopped node → StoppedBy rules node) → Event settings.peers.now asker happens noted lines now → Over now
  event_over asker happens noted lines now going stops e = go e.outcome e.event e.session_state
    where
      go : (outcome : Outcome) → happens outcome now.node → now.session_state ≡ session_state_after noted outcome → Over now
      go (outcomes.Done messages answer heard) h is = λ over. absurd (let a = ap (λ (d : SessionState). d.over) is in cc)
      go outcomes.Stopped h is = λ over. stops now.node h
      go outcomes.NoMemory h is = λ over. absurd (let a = ap (λ (d : SessionState). d.over) is in cc)

  idle_over : (noted : SessionState) (now : Moment S) → noted.over ≡ None → now.session_state ≡ noted → Over now
  idle_over noted now going is = λ over. absurd (let a = ap (λ (d : SessionState). d.over) is in cc)

  handled_over : (m now : Moment S) (conn : ℕ) (read : Option Payload) (lines : List Line) → m.session_state.over ≡ None → Handles rules settings m conn read lines now → Over now
  handled_over m now conn None lines going h = idle_over m.session_state now going h.2
  handled_over m now conn (Some payload) lines going h =
      event_over (Some conn) (rules.handles m.node payload) _ lines now going (λ node e. (m.node, inl (payload, e))) h

  waited_over : (m now : Moment S) (late : Bool) (lines : List Line) → m.session_state.over ≡ None → Waits rules settings m late lines now → Over now
  waited_over m now true lines going h = event_over None (rules.owns m.node Timeout) _ lines now going (λ node e. (m.node, inr (Timeout, e))) h
  waited_over m now false lines going h = idle_over _ now going h.2

  beat_over : (m now : Moment S) (leads : Bool) (lines : List Line) → m.session_state.over ≡ None → Beats rules settings m leads lines now → Over now
  beat_over m now true lines going h = idle_over _ now going h.2
  beat_over m now false lines going h = waited_over m now _ lines going h

  lead_over : (m now : Moment S) (event : OwnEvent) (leads : Bool) (lines : List Line) → m.session_state.over ≡ None → Leads rules settings m event leads lines now → Over now
  lead_over m now event true lines going h = event_over None (rules.owns m.node event) _ lines now going (λ node e. (m.node, inr (event, e))) h
  lead_over m now event false lines going h = idle_over m.session_state now going h.2

  one_over : (m now : Moment S) (work : Work) (lines : List Line) → m.session_state.over ≡ None → One rules settings m work lines now → Over now
  one_over m now (Take arrival) lines going h = idle_over m.session_state now going (ap (λ (x : Moment S). x.session_state) h.1)
  one_over m now (Handle conn payload) lines going h = handled_over m now conn h.0 lines going h.2
  one_over m now Beat lines going h = beat_over m now _ lines going h
  one_over m now (Lead event) lines going h = lead_over m now event _ lines going h

  does_over : (works : List Work) (m now : Moment S) (content : List (List Line)) → Over m → Does rules settings m works content now → Over now
  does_over [] m now content over d = subst Over (sym d.1) over
  does_over (work ∷ more) m now content over d = does_over more d.1 now d.3 (one_over m d.1 work d.2 d.0 d.4) d.6

  stopped_so : (over : Option SessionError) → is_stopped over ≡ true → over ≡ Some halts.Stopped
  stopped_so None is = cc
  stopped_so (Some halts.Stopped) is = refl
  stopped_so (Some halts.NoMemory) is = cc

  pub serve_stopped : (honest : Bool) (first last : S) (before after : List Exchange) (ahead left : List Arrival) → Serves honest rules settings first before ahead last after left (Err ends.Stopped) → StoppedBy rules last
  serve_stopped honest first last before after ahead left s =
      does_over s.went.2.done _ _ s.went.2.content (λ over. absurd (let o = over in cc)) s.went.2.does (stopped_so s.session_state.over s.went.3)
