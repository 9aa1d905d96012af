-- What is told of events and questions.
use Rattle.std.proofs.Common.{◌≡◌, ℕ, zero, suc, ◌-◌, ◌<◌, ◌⊎◌, List, [], ◌∷◌, ◌++◌, length, Bool, true, false, Option, Some, Result, Ok, Err, OnOk, is_some, refl, sym, ◌∙◌, ap, ap₂, subst, arith, if◌then◌else◌}
use Rattle.std.proofs.lemmas.List.{map-append}
use Rattle.std.proofs.lemmas.Option.{slice_get_past}
use Rattle.gl_rules.specs.Identity.{NodeId}
use Rattle.gl_rules.specs.Message.{Message}
use Rattle.gl_rules.specs.Node.{Node}
use Rattle.gl_rules.specs.World.{happens}
use Rattle.gl_rules.specs.World as rules
use Rattle.gl_entry.specs.declared.entry.Entry.{Entry}
use Rattle.gl_world.specs.declared.event.Event.{Event}
use Rattle.gl_world.specs.declared.event.Event.TheVariants as events
use Rattle.gl_world.specs.declared.settings.Settings.{Settings}
use Rattle.gl_world.specs.Founding.{id_of, node_ids}
use Rattle.gl_world.specs.Group.{IsGroup, book_of}
use Rattle.gl_world.specs.Happened.{answer_to, with_event}
use Rattle.gl_world.specs.Held.{Held, has_node, is_among, may_happen, node_now, receiver_in, seen_event, world_now}
use Rattle.gl_world.specs.World.{ServiceWorld}
use Rattle.gl_world.specs.Service.{ServiceEvent}
use Rattle.gl_world.proofs.Histories.{after_one}
use Rattle.gl_lines.specs.declared.line.Line.{Line}
use Rattle.gl_lines.specs.declared.line.Line.TheVariants as lines
use Rattle.gl_schedule.specs.Play.{IsIn, Prints, PrintsAnywhere, PrintsEffect, byte_number, event_effect, event_in}
use Rattle.gl_schedule.specs.Playing.{Playing}
use Rattle.gl_schedule.specs.Text.{new_messages, outcome_text, sent_text, unnamed_text}
use Rattle.gl_schedule.specs.Output.{Output, Effect, Happens, Answers, at_node, at_nodes, delivers, effect_of, next_text}
use Rattle.gl_schedule.proofs.NumberLemmas.{at_none, at_some, at_one, at_two}

-- ---- answers

-- an answer changes nothing
pub prints_answer : (t : Output) (m : Playing) (text before after : List ℕ) → IsIn t m → after ≡ before ++ text → PrintsEffect t (Answers text) m m before after
prints_answer t m text before after is_in written = record {
  settings = refl;
  text = text;
  reported = refl;
  written = written;
  is_in = record { world = is_in.world; events = is_in.events; requests = is_in.requests; proposals = is_in.proposals; signed = is_in.signed };
}

-- what is told of an effect is told of its like
pub by_effect : (t : Output) (e f : Effect) (old new : Playing) (before after : List ℕ) → e ≡ f → PrintsEffect t f old new before after → PrintsEffect t e old new before after
by_effect t e f old new before after is prints = subst (λ (g : Effect). PrintsEffect t g old new before after) (sym is) prints

-- an effect that comes to an answer whatever was reported
pub prints_always : (m : Playing) (effect : Settings → Output → Effect) (text before after : List ℕ) → ((t : Output) → IsIn t m → effect m.world.settings t ≡ Answers text) → after ≡ before ++ text →
    PrintsAnywhere effect m m before after
prints_always m effect text before after is written number t is_in next =
    by_effect t (effect m.world.settings t) (Answers text) m m before after (is t is_in) (prints_answer t m text before after is_in written)

-- ---- what a machine's parts say

-- what follows from two facts of a value
pub on_ok_both : {T E P Q R : Type 0} (r : Result T E) → (P → Q → R) → OnOk r P → OnOk r Q → OnOk r R
on_ok_both (Ok t) f p q = f p q
on_ok_both (Err e) f p q = tt

-- its service is one that there may be
pub group_from : (m : Playing) (held : Held) (s : Settings) → m.world ≡ held → held.settings ≡ s → IsGroup s → IsGroup m.world.settings
group_from m held s is settings group = subst IsGroup (sym (ap (λ (h : Held). h.settings) is ∙ settings)) group

-- whether it has a node
pub node_from : (m : Playing) (held : Held) (number byte : ℕ) (b c : Bool) → m.world ≡ held → byte ≡ byte_number number → b ≡ has_node held byte → b ≡ c → has_node m.world (byte_number number) ≡ c
node_from m held number byte b c is same says value =
    ap (λ (h : Held). has_node h (byte_number number)) is ∙ ap (has_node held) (sym same) ∙ sym says ∙ value

-- whether an event may happen there
pub may_from : (m : Playing) (held : Held) (event : Event) (b c : Bool) → m.world ≡ held → b ≡ may_happen held event → b ≡ c → may_happen m.world event ≡ c
may_from m held event b c is says value = ap (λ (h : Held). may_happen h event) is ∙ sym says ∙ value

-- what is seen of it there
pub seen_from : {A : Type 0} (m : Playing) (held : Held) (byte number : ℕ) (seen : Held → ℕ → A) → m.world ≡ held → byte ≡ byte_number number → seen held byte ≡ seen m.world (byte_number number)
seen_from m held byte number seen is same = ap (seen held) same ∙ ap (λ (h : Held). seen h (byte_number number)) (sym is)

-- ---- questions

-- of a node that there isn't
pub prints_no_node : (m : Playing) → IsGroup m.world.settings → (number : ℕ) (effect : Output → NodeId → Effect) (before after : List ℕ) → has_node m.world (byte_number number) ≡ false → after ≡ before ++ unnamed_text →
    PrintsAnywhere (λ s t. at_node s number (effect t)) m m before after
prints_no_node m group number effect before after none written =
    prints_always m (λ s t. at_node s number (effect t)) unnamed_text before after (λ t is_in. at_none m.world.settings group number (effect t) none) written

-- of a node and another that there isn't
pub prints_no_other : (m : Playing) → IsGroup m.world.settings → (number other : ℕ) (effect : Output → NodeId → NodeId → Effect) (before after : List ℕ) → has_node m.world (byte_number number) ≡ true →
    has_node m.world (byte_number other) ≡ false → after ≡ before ++ unnamed_text → PrintsAnywhere (λ s t. at_nodes s number other (effect t)) m m before after
prints_no_other m group number other effect before after named none written =
    prints_always m (λ s t. at_nodes s number other (effect t)) unnamed_text before after
    (λ t is_in. at_some m.world.settings group number (λ x. at_node m.world.settings other (effect t x)) named ∙ at_none m.world.settings group other (effect t (id_of m.world.settings (byte_number number))) none) written

pub prints_node : (m : Playing) → IsGroup m.world.settings → (number : ℕ) (text : Node Entry → List ℕ) (before after : List ℕ) → has_node m.world (byte_number number) ≡ true →
    after ≡ before ++ text (node_now m.world (byte_number number)) → PrintsAnywhere (λ s t. at_node s number (λ x. Answers (text (t.world.nodes x)))) m m before after
prints_node m group number text before after named written =
    let s = m.world.settings in
    prints_always m (λ s t. at_node s number (λ x. Answers (text (t.world.nodes x)))) (text (node_now m.world (byte_number number))) before after
    (λ t is_in. at_some s group number (λ x. Answers (text (t.world.nodes x))) named
    ∙ ap (λ (w : ServiceWorld). Answers (text (w.nodes (id_of s (byte_number number))))) is_in.world) written

pub prints_nodes : (m : Playing) → IsGroup m.world.settings → (number other : ℕ) (text : Node Entry → NodeId → List ℕ) (before after : List ℕ) → has_node m.world (byte_number number) ≡ true →
    has_node m.world (byte_number other) ≡ true → after ≡ before ++ text (node_now m.world (byte_number number)) (id_of m.world.settings (byte_number other)) →
    PrintsAnywhere (λ s t. at_nodes s number other (λ x y. Answers (text (t.world.nodes x) y))) m m before after
prints_nodes m group number other text before after named also written =
    let s = m.world.settings in
    prints_always m (λ s t. at_nodes s number other (λ x y. Answers (text (t.world.nodes x) y))) (text (node_now m.world (byte_number number)) (id_of s (byte_number other))) before after
    (λ t is_in. at_some s group number (λ x. at_node s other (λ y. Answers (text (t.world.nodes x) y))) named
    ∙ at_some s group other (λ y. Answers (text (t.world.nodes (id_of s (byte_number number))) y)) also
    ∙ ap (λ (w : ServiceWorld). Answers (text (w.nodes (id_of s (byte_number number))) (id_of s (byte_number other)))) is_in.world) written

-- ---- events

-- one event in the machine's world
event_printed : (t : Output) (old : Playing) (event : Event) (before after : List ℕ) → IsIn t old →
    (let new : Playing = record old { world = with_event old.world event } in
    after ≡ before ++ (outcome_text old.world.settings (answer_to old.world event) ++ sent_text (world_now old.world) (world_now new.world)) →
    PrintsEffect t (Happens (seen_event old.world.settings event)) old new before after)
event_printed t old event before after is_in written = record {
  settings = refl;
  text = outcome_text s (answer_to old.world event) ++ sent_text (world_now old.world) (world_now (with_event old.world event));
  reported = ap (λ (w : ServiceWorld). next_text t (outcome_text s (happens (book_of s) w e).outcome ++ sent_text w (happens (book_of s) w e).world)) is_in.world
      ∙ ap (λ (w : ServiceWorld). next_text t (outcome_text s (answer_to old.world event) ++ sent_text (world_now old.world) w)) (sym (after_one old.world event));
  written = written;
  is_in = record {
    world = ap (λ (w : ServiceWorld). (happens (book_of s) w e).world) is_in.world ∙ sym (after_one old.world event);
    events = ap (λ (es : List ServiceEvent). es ++ e ∷ []) is_in.events ∙ sym (map-append (seen_event s) old.world.events (event ∷ []));
    requests = is_in.requests;
    proposals = is_in.proposals;
    signed = is_in.signed;
  };
}
  where
    s : Settings
    s = old.world.settings

    e : ServiceEvent
    e = seen_event old.world.settings event

-- the text of the messages that were sent meanwhile
pub sent_is : (w v : ServiceWorld) (prefix whole : List ℕ) (before now : ℕ) → before ≡ length w.sent → now ≡ length v.sent → whole ≡ prefix ++ new_messages (now - before) before → whole ≡ prefix ++ sent_text w v
sent_is w v prefix whole before now before_is now_is written = written ∙ ap₂ (λ (a b : ℕ). prefix ++ new_messages (a - b) b) now_is before_is

-- whether it may happen, by what was reported
may : (t : Output) (m : Playing) (event : Event) (b : Bool) → IsIn t m → may_happen m.world event ≡ b →
    event_effect event m.world.settings t ≡ (if b then Happens (seen_event m.world.settings event) else Answers unnamed_text)
may t m event b is_in is =
    ap (λ (c : Bool). if c then Happens (seen_event m.world.settings event) else Answers unnamed_text)
    (ap (λ (w : ServiceWorld). is_among (node_ids m.world.settings) w.sent event) is_in.world ∙ is)

pub happens_printed : (old new : Playing) (event : Event) (before after : List ℕ) → may_happen old.world event ≡ true → new ≡ record old { world = with_event old.world event } →
    after ≡ before ++ (outcome_text old.world.settings (answer_to old.world event) ++ sent_text (world_now old.world) (world_now new.world)) →
    PrintsAnywhere (event_effect event) old new before after
happens_printed old new event before after here becomes written number t is_in next =
    let m : Playing = record old { world = with_event old.world event } in
    by_effect t (event_effect event old.world.settings t) (Happens (seen_event old.world.settings event)) old new before after (may t old event true is_in here)
    (subst (λ (n : Playing). PrintsEffect t (Happens (seen_event old.world.settings event)) old n before after) (sym becomes)
    (event_printed t old event before after is_in
    (subst (λ (n : Playing). after ≡ before ++ (outcome_text old.world.settings (answer_to old.world event) ++ sent_text (world_now old.world) (world_now n.world))) becomes written)))

pub happens_not : (m : Playing) (event : Event) (before after : List ℕ) → may_happen m.world event ≡ false → after ≡ before ++ unnamed_text → PrintsAnywhere (event_effect event) m m before after
happens_not m event before after none written =
    prints_always m (event_effect event) unnamed_text before after (λ t is_in. may t m event false is_in none) written

-- the event of a line
pub event_of_line : (s : Settings) → IsGroup s → (t : Output) (line : Line) (event : Event) → event_in line ≡ Some event → effect_of s t line ≡ event_effect event s t
event_of_line s h t (lines.Timeout node) event is =
    let same : events.Timeout (byte_number node) ≡ event = cc in subst (λ e. effect_of s t (lines.Timeout node) ≡ event_effect e s t) same (at_one s h node _)
event_of_line s h t (lines.Submit node request) event is =
    let same : events.Submit (byte_number node) request ≡ event = cc in subst (λ e. effect_of s t (lines.Submit node request) ≡ event_effect e s t) same (at_one s h node _)
event_of_line s h t (lines.Reserve node) event is =
    let same : events.Reserve (byte_number node) ≡ event = cc in subst (λ e. effect_of s t (lines.Reserve node) ≡ event_effect e s t) same (at_one s h node _)
event_of_line s h t (lines.Sign node) event is =
    let same : events.Sign (byte_number node) ≡ event = cc in subst (λ e. effect_of s t (lines.Sign node) ≡ event_effect e s t) same (at_one s h node _)
event_of_line s h t (lines.Evidence node) event is =
    let same : events.Evidence (byte_number node) ≡ event = cc in subst (λ e. effect_of s t (lines.Evidence node) ≡ event_effect e s t) same (at_one s h node _)
event_of_line s h t (lines.Advance node) event is =
    let same : events.Advance (byte_number node) ≡ event = cc in subst (λ e. effect_of s t (lines.Advance node) ≡ event_effect e s t) same (at_one s h node _)
event_of_line s h t (lines.Restart node) event is =
    let same : events.Restart (byte_number node) ≡ event = cc in subst (λ e. effect_of s t (lines.Restart node) ≡ event_effect e s t) same (at_one s h node _)
event_of_line s h t (lines.Replicate node to) event is =
    let same : events.Replicate (byte_number node) (byte_number to) ≡ event = cc in subst (λ e. effect_of s t (lines.Replicate node to) ≡ event_effect e s t) same (at_two s h node to _)
event_of_line s h t (lines.StepDown node to) event is =
    let same : events.StepDown (byte_number node) (byte_number to) ≡ event = cc in subst (λ e. effect_of s t (lines.StepDown node to) ≡ event_effect e s t) same (at_two s h node to _)
event_of_line s h t (lines.Install node from) event is =
    let same : events.Install (byte_number node) (byte_number from) ≡ event = cc in subst (λ e. effect_of s t (lines.Install node from) ≡ event_effect e s t) same (at_two s h node from _)
event_of_line s h t (lines.Deliver message) event is = absurd (cc)
event_of_line s h t (lines.Ack node member) event is = absurd (cc)
event_of_line s h t (lines.Propose node member list) event is = absurd (cc)
event_of_line s h t (lines.Ballot node member proposal agrees) event is = absurd (cc)
event_of_line s h t (lines.Withdraw node member proposal) event is = absurd (cc)
event_of_line s h t (lines.Join node joiner) event is = absurd (cc)
event_of_line s h t (lines.Mark node marked) event is = absurd (cc)
event_of_line s h t (lines.Again node line) event is = absurd (cc)
event_of_line s h t (lines.Status node id) event is = absurd (cc)
event_of_line s h t (lines.Stage node other) event is = absurd (cc)
event_of_line s h t (lines.Ids node) event is = absurd (cc)
event_of_line s h t (lines.Ledger node) event is = absurd (cc)

-- a line with an event
pub line_happens : (old new : Playing) (number : ℕ) (line : Line) (event : Event) (before after : List ℕ) → IsGroup old.world.settings → event_in line ≡ Some event →
    PrintsAnywhere (event_effect event) old new before after → Prints number (λ s t. effect_of s t line) old new before after
line_happens old new number line event before after group is prints t is_in next =
    by_effect t (effect_of old.world.settings t line) (event_effect event old.world.settings t) old new before after
    (event_of_line old.world.settings group t line event is) (prints number t is_in next)

-- ---- deliveries

no_message : (s : Settings) (sent : List (Message Entry)) (message : ℕ) → (message ≡ 0) ⊎ (length sent < message) → delivers s sent message ≡ Answers unnamed_text
no_message s sent zero none = refl
no_message s sent (suc index) none =
    ap (λ (o : Option (Message Entry)). if is_some (receiver_in (node_ids s) o) then Happens (rules.Deliver index) else Answers unnamed_text)
    (slice_get_past sent index (omega (arith, none)))

pub delivers_none : (m : Playing) (message : ℕ) (before after : List ℕ) → (message ≡ 0) ⊎ (length (world_now m.world).sent < message) → after ≡ before ++ unnamed_text →
    PrintsAnywhere (λ s t. delivers s t.world.sent message) m m before after
delivers_none m message before after none written =
    prints_always m (λ s t. delivers s t.world.sent message) unnamed_text before after
    (λ t is_in. ap (λ (w : ServiceWorld). delivers m.world.settings w.sent message) is_in.world ∙ no_message m.world.settings (world_now m.world).sent message none) written

pub delivers_one : (old new : Playing) (message index : ℕ) (before after : List ℕ) → message ≡ suc index → PrintsAnywhere (event_effect (events.Deliver index)) old new before after →
    PrintsAnywhere (λ s t. delivers s t.world.sent message) old new before after
delivers_one old new message index before after is prints =
    subst (λ (k : ℕ). PrintsAnywhere (λ s t. delivers s t.world.sent k) old new before after) (sym is) prints
