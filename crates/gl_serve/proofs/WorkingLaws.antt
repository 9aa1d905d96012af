-- Works that are done one after the other.
use Rattle.std.proofs.Common.{◌≡◌, ℕ, List, [], ◌∷◌, ◌++◌, map, length, length-append, Bool, true, false, Result, Ok, Err, OnOk, OnErr, refl, sym, ap, ◌∙◌, append_assoc, append-nil, subst, Option, None, Some, unwrap_or, ◌+◌, ◌<◌, ◌≤◌, nat_le, arith}
use Rattle.std.specs.List.{last_or}
use Rattle.std.proofs.lemmas.Bool.Decides.{nat_tests}
use Rattle.std.proofs.lemmas.Grind.{flat_map-append}
use Rattle.std.proofs.lemmas.List.{map-append}
use Rattle.gl_outside.specs.Fault.{next_call}
use Rattle.gl_outside.specs.Link.{Arrival, Exchange, arrivals}
use Rattle.gl_serve.specs.declared.node.Outcome.{Outcome}
use Rattle.gl_serve.specs.declared.node.OwnEvent.{OwnEvent}
use Rattle.gl_serve.specs.declared.node.OwnEvent.TheVariants.{Timeout}
use Rattle.gl_serve.specs.declared.session.SessionState.{SessionState}
use Rattle.gl_serve.specs.declared.session.SessionError.{SessionError}
use Rattle.gl_serve.specs.declared.settings.Serving.{Serving}
use Rattle.gl_serve.specs.Rules.{Rules}
use Rattle.gl_serve.specs.Works.{Work, Handle, Beat, Lead}
use Rattle.gl_serve.specs.Doing.{Line, Moment, One, Does, Event, Handles, Beats, Waits, Leads, lines_of, session_state_after}
use Rattle.gl_serve.specs.Outbox.{line_of, counted, Sends, SendsSome}
use Rattle.gl_serve.specs.Running.{Stand, all_lines, last_lines, is_stop, is_stopped, Ran, Went}
use Rattle.gl_serve.proofs.SendingLaws.{counted-append, arrivals-append}

-- ---- what works do

-- First these works, then those.
pub does_then : {S Payload : Type 0} (rules : Rules S Payload) (settings : Serving) (m mid now : Moment S) (xs ys : List Work) (first others : List (List Line))
    → Does rules settings m xs first mid → Does rules settings mid ys others now → Does rules settings m (xs ++ ys) (first ++ others) now
does_then {S} rules settings m mid now [] ys first others p q =
    subst (λ (t : List (List Line)). Does rules settings m ys (t ++ others) now) (sym p.0) (subst (λ (n : Moment S). Does rules settings n ys others now) p.1 q)
does_then rules settings m mid now (x ∷ xs) ys first others p q =
    (p.0, p.1, p.2, p.3 ++ others, p.4, ap (λ (t : List (List Line)). t ++ others) p.5, does_then rules settings p.1 mid now xs ys p.3 others p.6 q)

-- One work alone.
pub does_one : {S Payload : Type 0} (rules : Rules S Payload) (settings : Serving) (m now : Moment S) (work : Work) (lines : List Line)
    → m.session_state.over ≡ None → One rules settings m work lines now → Does rules settings m (work ∷ []) (lines ∷ []) now
does_one rules settings m now work lines going one = (going, now, lines, [], one, refl, (refl, refl))

-- ---- how far they were done

last_after : (xs : List (List Line)) (o p : Option (List Line)) (y : List Line) (ys : List (List Line)) → last_or o (xs ++ y ∷ ys) ≡ last_or p (y ∷ ys)
last_after [] o p y ys = refl
last_after (x ∷ xs) o p y ys = last_after xs (Some x) p y ys

cut_after : (xs ys : List (List Line)) (n : ℕ) → n ≤ length (last_lines ys) → n ≤ length (last_lines (xs ++ ys))
cut_after xs [] n few =
    let none : n ≡ 0 = omega (arith, few) in
    subst (λ (k : ℕ). k ≤ length (last_lines (xs ++ []))) (sym none) (omega arith)
cut_after xs (y ∷ ys) n few = subst (λ (o : Option (List Line)). n ≤ length (unwrap_or o [])) (sym (last_after xs None None y ys)) few

-- No work was begun.
pub ran_none : {S Payload : Type 0} (honest : Bool) (rules : Rules S Payload) (settings : Serving) (from : Stand S) (works : List Work) → Ran honest rules settings from works [] from works []
ran_none honest rules settings from works = record {
  done = [];
  content = [];
  exchanges = [];
  works = refl;
  does = (refl, refl);
  history = λ h. sym (append-nil from.past);
  lines = refl;
  cut = omega arith;
  came = refl;
  lost = refl;
}

-- All these works were done, and then some of those.
pub ran_then : {S Payload : Type 0} (honest : Bool) (rules : Rules S Payload) (settings : Serving) (from mid to : Stand S) (xs ys : List Work) (came more : List Arrival) (undone : List Work) (unsent : List Line)
    → Ran honest rules settings from xs came mid [] [] → Ran honest rules settings mid ys more to undone unsent → Ran honest rules settings from (xs ++ ys) (came ++ more) to undone unsent
ran_then honest rules settings from mid to xs ys came more undone unsent p q = record {
  done = p.done ++ q.done;
  content = p.content ++ q.content;
  exchanges = p.exchanges ++ q.exchanges;
  works = ap (λ (t : List Work). t ++ ys) (p.works ∙ append-nil p.done) ∙ ap (λ (t : List Work). p.done ++ t) q.works ∙ sym (append_assoc p.done q.done undone);
  does = does_then rules settings from.moment mid.moment to.moment p.done q.done p.content q.content p.does q.does;
  history = λ h. q.history h ∙ ap (λ (t : List Exchange). t ++ q.exchanges) (p.history h) ∙ append_assoc from.past p.exchanges q.exchanges;
  lines = flat_map-append (λ (lines : List Line). lines) p.content q.content
      ∙ ap (λ (t : List Line). t ++ all_lines q.content) (p.lines ∙ append-nil (map line_of p.exchanges))
      ∙ ap (λ (t : List Line). map line_of p.exchanges ++ t) q.lines
      ∙ sym (append_assoc (map line_of p.exchanges) (map line_of q.exchanges) unsent)
      ∙ ap (λ (t : List Line). t ++ unsent) (sym (map-append line_of p.exchanges q.exchanges));
  cut = cut_after p.content q.content (length unsent) q.cut;
  came = arrivals-append p.exchanges q.exchanges ∙ ap (λ (t : List Arrival). t ++ arrivals q.exchanges) p.came ∙ ap (λ (t : List Arrival). came ++ t) q.came;
  lost = q.lost ∙ ap (λ (k : ℕ). counted k q.exchanges) p.lost ∙ sym (counted-append from.lost p.exchanges q.exchanges);
}

-- The same works, written otherwise.
pub ran_is : {S Payload : Type 0} (honest : Bool) (rules : Rules S Payload) (settings : Serving) (from to : Stand S) (xs ys : List Work) (came : List Arrival) (undone : List Work) (unsent : List Line)
    → ys ≡ xs → Ran honest rules settings from xs came to undone unsent → Ran honest rules settings from ys came to undone unsent
ran_is honest rules settings from to xs ys came undone unsent is p = subst (λ (t : List Work). Ran honest rules settings from t came to undone unsent) (sym is) p

-- All was done but for the later works.
pub ran_undone : {S Payload : Type 0} (honest : Bool) (rules : Rules S Payload) (settings : Serving) (from to : Stand S) (xs ys all : List Work) (came : List Arrival)
    → all ≡ xs ++ ys → Ran honest rules settings from xs came to [] [] → Ran honest rules settings from all came to ys []
ran_undone honest rules settings from to xs ys all came is p = record {
  done = p.done;
  content = p.content;
  exchanges = p.exchanges;
  works = is ∙ ap (λ (t : List Work). t ++ ys) (p.works ∙ append-nil p.done);
  does = p.does;
  history = p.history;
  lines = p.lines;
  cut = p.cut;
  came = p.came;
  lost = p.lost;
}

-- One work that sends nothing.
pub ran_idle : {S Payload : Type 0} (honest : Bool) (rules : Rules S Payload) (settings : Serving) (from : Stand S) (now : Moment S) (work : Work)
    → from.moment.session_state.over ≡ None → One rules settings from.moment work [] now → Ran honest rules settings from (work ∷ []) [] (record { moment = now; past = from.past; lost = from.lost }) [] []
ran_idle honest rules settings from now work going one = record {
  done = work ∷ [];
  content = [] ∷ [];
  exchanges = [];
  works = refl;
  does = does_one rules settings from.moment now work [] going one;
  history = λ h. sym (append-nil from.past);
  lines = refl;
  cut = omega arith;
  came = refl;
  lost = refl;
}

-- ---- and how it ended

-- One work, whose lines were sent, or some of them.
pub went_one : {S Payload : Type 0} (honest : Bool) (rules : Rules S Payload) (settings : Serving) (from to : Stand S) (work : Work) (lines : List Line) (result : Result (Unit {0}) SessionError)
    → from.moment.session_state.over ≡ None → One rules settings from.moment work lines to.moment
    → OnOk result (Sends honest from.past from.lost to.past to.lost lines) → OnErr result (SendsSome honest from.past from.lost to.past to.lost lines)
    → OnOk result (to.moment.session_state.over ≡ None) → ((end : SessionError) → result ≡ Err end → is_stopped to.moment.session_state.over ≡ is_stop end)
    → Went honest rules settings from (work ∷ []) [] to result
went_one honest rules settings from to work lines (Ok done) going one all some on off = (
  record {
    done = work ∷ [];
    content = lines ∷ [];
    exchanges = all.exchanges;
    works = refl;
    does = does_one rules settings from.moment to.moment work lines going one;
    history = all.history;
    lines = ap (λ (t : List Line). t ++ []) (sym all.sent);
    cut = omega arith;
    came = all.came;
    lost = all.counts;
  },
  on,
)
went_one honest rules settings from to work lines (Err end) going one all some on off =
    let few : length some.1 ≤ length lines = omega (arith, length-append some.0 some.1, ap (λ (t : List Line). length t) some.2) in (
      [],
      some.1,
      record {
        done = work ∷ [];
        content = lines ∷ [];
        exchanges = some.3.exchanges;
        works = refl;
        does = does_one rules settings from.moment to.moment work lines going one;
        history = some.3.history;
        lines = append-nil lines ∙ some.2 ∙ ap (λ (t : List Line). t ++ some.1) (sym some.3.sent);
        cut = few;
        came = some.3.came;
        lost = some.3.counts;
      },
      off end refl,
    )

-- The same works, written otherwise.
pub went_is : {S Payload : Type 0} (honest : Bool) (rules : Rules S Payload) (settings : Serving) (from to : Stand S) (xs ys : List Work) (came : List Arrival) (result : Result (Unit {0}) SessionError)
    → ys ≡ xs → Went honest rules settings from xs came to result → Went honest rules settings from ys came to result
went_is honest rules settings from to xs ys came result is p = subst (λ (t : List Work). Went honest rules settings from t came to result) (sym is) p

-- All these works were done, and then it went on.
pub went_then : {S Payload : Type 0} (honest : Bool) (rules : Rules S Payload) (settings : Serving) (from mid to : Stand S) (xs ys : List Work) (came more : List Arrival) (result : Result (Unit {0}) SessionError)
    → Ran honest rules settings from xs came mid [] [] → Went honest rules settings mid ys more to result → Went honest rules settings from (xs ++ ys) (came ++ more) to result
went_then honest rules settings from mid to xs ys came more (Ok done) p q = (ran_then honest rules settings from mid to xs ys came more [] [] p q.0, q.1)
went_then honest rules settings from mid to xs ys came more (Err end) p q = (q.0, q.1, ran_then honest rules settings from mid to xs ys came more q.0 q.1 p q.2, q.3)

-- An end among these works is an end with others after them.
pub went_stop : {S Payload : Type 0} (honest : Bool) (rules : Rules S Payload) (settings : Serving) (from to : Stand S) (xs ys : List Work) (came : List Arrival) (end : SessionError)
    → Went honest rules settings from xs came to (Err end) → Went honest rules settings from (xs ++ ys) came to (Err end)
went_stop honest rules settings from to xs ys came end p =
    let r = p.2 in (
      p.0 ++ ys,
      p.1,
      record {
        done = r.done;
        content = r.content;
        exchanges = r.exchanges;
        works = ap (λ (t : List Work). t ++ ys) r.works ∙ append_assoc r.done p.0 ys;
        does = r.does;
        history = r.history;
        lines = r.lines;
        cut = r.cut;
        came = r.came;
        lost = r.lost;
      },
      p.3,
    )

-- All these works were done, and an end came among those after them, of which others are left.
pub went_end : {S Payload : Type 0} (honest : Bool) (rules : Rules S Payload) (settings : Serving) (from mid to : Stand S) (xs ys others all : List Work) (end : SessionError) (result : Result (Unit {0}) SessionError)
    → all ≡ xs ++ (ys ++ others) → result ≡ Err end
    → Ran honest rules settings from xs [] mid [] [] → Went honest rules settings mid ys [] to (Err end) → Went honest rules settings from all [] to result
went_end {S} honest rules settings from mid to xs ys others all end result is bad p q =
    subst (λ (r : Result (Unit {0}) SessionError). Went honest rules settings from all [] to r) (sym bad)
    (went_is honest rules settings from to (xs ++ (ys ++ others)) all [] (Err end) is
    (went_then honest rules settings from mid to xs (ys ++ others) [] [] (Err end) p (went_stop honest rules settings mid to ys others [] end q)))

-- An end came among the first works.
pub went_first : {S Payload : Type 0} (honest : Bool) (rules : Rules S Payload) (settings : Serving) (from to : Stand S) (ys others all : List Work) (end : SessionError) (result : Result (Unit {0}) SessionError)
    → all ≡ ys ++ others → result ≡ Err end → Went honest rules settings from ys [] to (Err end) → Went honest rules settings from all [] to result
went_first {S} honest rules settings from to ys others all end result is bad q =
    subst (λ (r : Result (Unit {0}) SessionError). Went honest rules settings from all [] to r) (sym bad)
    (went_is honest rules settings from to (ys ++ others) all [] (Err end) is (went_stop honest rules settings from to ys others [] end q))

-- Memory ran out before the later works were begun.
pub went_none : {S Payload : Type 0} (honest : Bool) (rules : Rules S Payload) (settings : Serving) (from to : Stand S) (xs ys all : List Work) (end : SessionError) (result : Result (Unit {0}) SessionError)
    → all ≡ xs ++ ys → result ≡ Err end → is_stop end ≡ false → to.moment.session_state.over ≡ None → Ran honest rules settings from xs [] to [] [] → Went honest rules settings from all [] to result
went_none {S} honest rules settings from to xs ys all end result is bad free going p =
    subst (λ (r : Result (Unit {0}) SessionError). Went honest rules settings from all [] to r) (sym bad)
    (ys, [], ran_undone honest rules settings from to xs ys all [] is p, ap is_stopped going ∙ sym free)

-- ---- single works

pub event_of : {S : Type 0} (peers : List (List ℕ)) (asker : Option ℕ) (happens : Outcome → S → Type 0) (noted session_state : SessionState) (outcome : Outcome) (s : S)
    → happens outcome s → session_state ≡ session_state_after noted outcome → Event peers asker happens noted (lines_of peers asker outcome) (record { node = s; session_state = session_state })
event_of peers asker happens noted session_state outcome s so is = record { outcome = outcome; event = so; sent = refl; session_state = is }

pub handled_none : {S Payload : Type 0} (rules : Rules S Payload) (settings : Serving) (m : Moment S) (conn : ℕ) (payload : List ℕ) (read : Option Payload)
    → rules.reads payload read → read ≡ None → One rules settings m (Handle conn payload) [] m
handled_none {S} {Payload} rules settings m conn payload read reads none =
    (read, reads, subst (λ (x : Option Payload). Handles rules settings m conn x [] m) (sym none) (refl, refl, refl))

pub handled_one : {S Payload : Type 0} (rules : Rules S Payload) (settings : Serving) (m : Moment S) (conn : ℕ) (payload : List ℕ) (read : Option Payload) (x : Payload) (served : ℕ) (lines : List Line) (now : Moment S)
    → rules.reads payload read → read ≡ Some x → served ≡ next_call m.session_state.served → Event settings.peers.now (Some conn) (rules.handles m.node x) (record m.session_state { served = served }) lines now
    → One rules settings m (Handle conn payload) lines now
handled_one {S} {Payload} rules settings m conn payload read x served lines now reads some counts event = (
  read,
  reads,
  subst (λ (y : Option Payload). Handles rules settings m conn y lines now) (sym some)
      (subst (λ (n : ℕ). Event settings.peers.now (Some conn) (rules.handles m.node x) (record m.session_state { served = n }) lines now) counts event),
)

pub lead_not : {S Payload : Type 0} (rules : Rules S Payload) (settings : Serving) (m : Moment S) (event : OwnEvent) → m.session_state.leading ≡ false → One rules settings m (Lead event) [] m
lead_not {S} rules settings m event off = subst (λ (b : Bool). Leads rules settings m event b [] m) (sym off) (refl, refl, refl)

pub lead_does : {S Payload : Type 0} (rules : Rules S Payload) (settings : Serving) (m : Moment S) (event : OwnEvent) (lines : List Line) (now : Moment S)
    → m.session_state.leading ≡ true → Event settings.peers.now None (rules.owns m.node event) m.session_state lines now → One rules settings m (Lead event) lines now
lead_does rules settings m event lines now on done = subst (λ (b : Bool). Leads rules settings m event b lines now) (sym on) done

pub beat_leads : {S Payload : Type 0} (rules : Rules S Payload) (settings : Serving) (m : Moment S) (leads : Bool)
    → leads ≡ rules.leads m.node → leads ≡ true → One rules settings m Beat [] (record { node = m.node; session_state = record m.session_state { leading = leads } })
beat_leads {S} rules settings m leads is on =
    let now : Moment S = record { node = m.node; session_state = record m.session_state { leading = leads } } in
    subst (λ (b : Bool). Beats rules settings m b [] now) (sym on ∙ is) (refl, refl, ap (λ (b : Bool). record m.session_state { leading = b }) on)

later : (a b : ℕ) → b < a → nat_le a b ≡ false
later a b h = grind (arith, nat_tests)

due : (a b : ℕ) → a ≤ b → nat_le a b ≡ true
due a b h = grind (arith, nat_tests)

pub beat_counts : {S Payload : Type 0} (rules : Rules S Payload) (settings : Serving) (m : Moment S) (leads : Bool)
    → leads ≡ rules.leads m.node → leads ≡ false → m.session_state.idle + 1 < settings.ticks
    → One rules settings m Beat [] (record { node = m.node; session_state = record m.session_state { idle = m.session_state.idle + 1; leading = leads } })
beat_counts {S} rules settings m leads is off early =
    let now : Moment S = record { node = m.node; session_state = record m.session_state { idle = m.session_state.idle + 1; leading = leads } } in
    subst (λ (b : Bool). Beats rules settings m b [] now) (sym off ∙ is)
    (subst (λ (b : Bool). Waits rules settings m b [] now) (sym (later settings.ticks (m.session_state.idle + 1) early))
    (refl, refl, ap (λ (b : Bool). record m.session_state { idle = m.session_state.idle + 1; leading = b }) off))

pub beat_out : {S Payload : Type 0} (rules : Rules S Payload) (settings : Serving) (m : Moment S) (leads : Bool) (lines : List Line) (now : Moment S)
    → leads ≡ rules.leads m.node → leads ≡ false → settings.ticks ≤ m.session_state.idle + 1
    → Event settings.peers.now None (rules.owns m.node Timeout) (record m.session_state { idle = 0; leading = leads }) lines now
    → One rules settings m Beat lines now
beat_out {S} rules settings m leads lines now is off late event =
    subst (λ (b : Bool). Beats rules settings m b lines now) (sym off ∙ is)
    (subst (λ (b : Bool). Waits rules settings m b lines now) (sym (due settings.ticks (m.session_state.idle + 1) late))
    (subst (λ (b : Bool). Event settings.peers.now None (rules.owns m.node Timeout) (record m.session_state { idle = 0; leading = b }) lines now) off event))
