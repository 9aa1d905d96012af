-- An event of a world as the node knows it.
use Rattle.std.proofs.Common.{◌≡◌, ℕ, zero, suc, List, [], ◌∷◌, map, true, Option, Some, get_or, is_some, slice_get, Result, Ok, IfOk, refl, sym, ap, subst, ◌∙◌}
use Rattle.std.proofs.lemmas.Bool.{and_parts}
use Rattle.std.proofs.lemmas.Option.{slice_get-map}
use Rattle.std.specs.Option.{option_map}
use Rattle.gl_entry.specs.declared.entry.Entry.{Entry}
use Rattle.gl_rules.specs.Identity.{NodeId}
use Rattle.gl_rules.specs.Message.{Message}
use Rattle.gl_messages.specs.declared.message.Body.{Body}
use Rattle.gl_messages.specs.declared.message.Body.TheVariants as bodies
use Rattle.gl_messages.specs.declared.message.Message as program
use Rattle.gl_election.specs.Bridge.{seen_body, seen_message}
use Rattle.gl_replication.specs.Events as served
use Rattle.gl_replication.specs.declared.event.Event.TheVariants as served_events
use Rattle.gl_world.specs.declared.event.Event.{Event}
use Rattle.gl_world.specs.declared.event.Event.TheVariants as events
use Rattle.gl_world.specs.Held.{is_among, receiver_in}
use Rattle.gl_world.specs.Rules.{bring_few, brings_few, delivery, rule_of}
use Rattle.gl_world.specs.WorldNodes.{Rule}
use Rattle.ccfg.specs.FileNodes.{IsEventOf}
use Rattle.ccfg.proofs.FileNodes.{NodeEvent}

-- what one of these messages brings
few_at : (sent : List program.Message) (i : ℕ) (m : program.Message) → bring_few (map seen_message sent) ≡ true → slice_get sent i ≡ Some m → brings_few (seen_body m.body) ≡ true
few_at [] i m few at = absurd (cc)
few_at (x ∷ sent) zero m few at =
    let same : x ≡ m = cc in
    ap (λ (y : program.Message). brings_few (seen_body y.body)) (sym same) ∙ (and_parts (brings_few (seen_body x.body)) (bring_few (map seen_message sent)) few).0
few_at (x ∷ sent) (suc i) m few at = few_at sent i m (and_parts (brings_few (seen_body x.body)) (bring_few (map seen_message sent)) few).1 at

few_as : (body : Body) → served.brings_few body ≡ brings_few (seen_body body)
few_as (bodies.RequestVote last) = refl
few_as (bodies.VoteReply granted) = refl
few_as (bodies.Append prev commit es) = refl
few_as (bodies.AppendReply ok seqno) = refl
few_as bodies.ProposeVote = refl

-- by the event that it is
pub as_event : (ids : List NodeId) (sent : List (Message Entry)) (event is : Event) (o : Option NodeEvent) → event ≡ is → IsEventOf (rule_of ids sent is) o → IsEventOf (rule_of ids sent event) o
as_event ids sent event is o same of = subst (λ (e : Event). IsEventOf (rule_of ids sent e) o) (sym same) of

-- a message that an event names was sent
sent_at : (ids : List NodeId) (sent : List program.Message) (i : ℕ) (d : program.Message) → is_some (receiver_in ids (slice_get (map seen_message sent) i)) ≡ true → slice_get sent i ≡ Some (get_or sent i d)
sent_at ids [] i d among = absurd (cc)
sent_at ids (x ∷ sent) zero d among = refl
sent_at ids (x ∷ sent) (suc i) d among = sent_at ids sent i d among

pub was_sent : (ids : List NodeId) (sent : List program.Message) (event : Event) (i : ℕ) (m : program.Message) → event ≡ events.Deliver i → is_among ids (map seen_message sent) event ≡ true → m ≡ get_or sent i m → slice_get sent i ≡ Some m
was_sent ids sent event i m is among read =
    sent_at ids sent i m (subst (λ (e : Event). is_among ids (map seen_message sent) e ≡ true) is among) ∙ ap (λ (x : program.Message). Some x) (sym read)

-- a message that reaches the node
pub delivers : (ids : List NodeId) (sent : List program.Message) (event : Event) (i : ℕ) (m copied : program.Message) → event ≡ events.Deliver i → slice_get sent i ≡ Some m → copied ≡ m →
    bring_few (map seen_message sent) ≡ true → IsEventOf (rule_of ids (map seen_message sent) event) (Some (served_events.Message copied))
delivers ids sent event i m copied is at same few =
    subst (λ (e : Event). IsEventOf (rule_of ids (map seen_message sent) e) (Some (served_events.Message copied))) (sym is)
    (subst (λ (c : program.Message). IsEventOf (rule_of ids (map seen_message sent) (events.Deliver i)) (Some (served_events.Message c))) (sym same) (
      few_as m.body ∙ few_at sent i m few at,
      λ b x n. ap (λ (o : Option (Message Entry)). delivery o b x n) (sym (slice_get-map seen_message sent i ∙ ap (option_map seen_message) at)),
    ))

-- as the node's event is found
pub event_is : {E : Type 0} (rule : Rule) (result : Result (Option NodeEvent) E) (o other : Option NodeEvent) → result ≡ Ok o → o ≡ other → IfOk result (IsEventOf rule) → IsEventOf rule other
event_is {E = E} rule result o other is same here = subst (λ (r : Result (Option NodeEvent) E). IfOk r (IsEventOf rule)) (is ∙ ap (λ (p : Option NodeEvent). Ok p) same) here
