-- What is told of requests of governance.
use Rattle.std.proofs.Common.{◌≡◌, ℕ, suc, ◌-◌, ◌<◌, List, [], ◌∷◌, ◌++◌, length, Bool, true, false, nat_lt, find, Option, Some, None, ap₂, refl, sym, ◌∙◌, ap, subst, arith, append_assoc, append-nil, option_to_list, if◌then◌else◌}
use Rattle.std.proofs.lemmas.Bool.Decides.{nat_tests}
use Rattle.std.proofs.lemmas.List.{map-append}
use Rattle.std.specs.List.{AllByRecursion}
use Rattle.gl_rules.specs.Identity.{NodeId}
use Rattle.gl_rules.specs.Outcome as outcome
use Rattle.gl_rules.specs.World.{happens}
use Rattle.gl_rules.specs.World as event
use Rattle.gl_requests.specs.declared.request.MemberAct.{MemberAct}
use Rattle.gl_requests.specs.declared.request.MemberRequest.{MemberRequest}
use Rattle.gl_requests.specs.declared.request.GovernanceRequest.{GovernanceRequest}
use Rattle.gl_requests.specs.declared.request.GovernanceRequest.TheVariants as requests
use Rattle.gl_requests.specs.Ranges.{is_member_number}
use Rattle.gl_lines.specs.References.{id_at}
use Rattle.gl_ledger.specs.declared.response.Rejection.{Rejection}
use Rattle.gl_world.specs.Service.{ServiceEvent}
use Rattle.gl_world.specs.declared.event.Event.{Event}
use Rattle.gl_world.specs.declared.event.Event.TheVariants as events
use Rattle.gl_world.specs.declared.settings.Settings.{Settings}
use Rattle.gl_world.specs.Founding.{id_of}
use Rattle.gl_world.specs.Group.{IsGroup, book_of}
use Rattle.gl_world.specs.Happened.{answer_to, is_no_memory, with_event}
use Rattle.gl_world.specs.WorldNodes.{ServiceRefusal}
use Rattle.gl_replication.specs.Stands.{Answers as Refused}
use Rattle.gl_world.specs.Held.{Held, has_node, seen_event, world_now}
use Rattle.gl_world.specs.Members.{Signed, next_leaf, leaf_limit, member_request}
use Rattle.gl_world.specs.World.{ServiceOutcome, ServiceWorld}
use Rattle.gl_world.proofs.Histories.{after_one}
use Rattle.gl_schedule.specs.declared.line_request.LineRequest.{LineRequest}
use Rattle.gl_schedule.specs.Governed.{governed_text, has_line, proposals_after, request_named}
use Rattle.gl_schedule.specs.Play.{Governs, IsIn, Prints, PrintsEffect, Sends, byte_number}
use Rattle.gl_schedule.specs.Playing.{IsSent, Playing}
use Rattle.gl_schedule.specs.Text.{new_messages, no_proposal_text, outcome_text, sent_text, spent_text, unnamed_text}
use Rattle.gl_schedule.specs.Output.{Output, Effect, Answers, at_member, at_named, at_node, at_nodes, at_proposal, next_text, node_named, repeats, signs}
use Rattle.gl_schedule.specs.Output.{Governs as Governing}
use Rattle.gl_schedule.proofs.EventLemmas.{by_effect, prints_answer, sent_is}
use Rattle.gl_schedule.proofs.TextLemmas.{refused_by}
use Rattle.gl_schedule.proofs.NumberLemmas.{at_member_is, at_no_member, at_some}

-- ---- one request

-- a refused one names no proposal
pub governs_not : (old : Playing) (node : ℕ) (g : GovernanceRequest) (r : outcome.Refusal Rejection) (before after : List ℕ) → answer_to old.world (events.Govern node g) ≡ outcome.Refused r →
    after ≡ before ++ outcome_text old.world.settings (answer_to old.world (events.Govern node g)) → Governs old node g (record old { world = with_event old.world (events.Govern node g) }) before after
governs_not old node g r before after refused written = record {
  becomes = ap (λ (ids : List (List ℕ)). record old { world = with_event old.world (events.Govern node g); proposals = ids }) (sym (ap (λ (o : ServiceOutcome). proposals_after old.proposals g o) refused));
  written = written
      ∙ ap (λ (l : List ℕ). before ++ l)
      (sym (append-nil (outcome_text old.world.settings (answer_to old.world (events.Govern node g))))
      ∙ ap (λ (o : ServiceOutcome). outcome_text old.world.settings (answer_to old.world (events.Govern node g)) ++ governed_text old.proposals o) (sym refused));
}

-- what the world answered to it is reported
module _ (old mid : Playing) (node : ℕ) (g : GovernanceRequest) (becomes : mid ≡ record old { world = with_event old.world (events.Govern node g) }) where
  pub governs_ok : (new : Playing) (o : ServiceOutcome) (before after : List ℕ) → o ≡ answer_to old.world (events.Govern node g) → new ≡ record mid { proposals = proposals_after mid.proposals g o } →
      ((s : Settings) → after ≡ before ++ (outcome_text s o ++ governed_text new.proposals o)) → Governs old node g new before after
  governs_ok new o before after answer noted written = record {
    becomes = noted
        ∙ ap (λ (p : Playing). record p { proposals = proposals_after p.proposals g o }) becomes
        ∙ ap (λ (q : ServiceOutcome). record old { world = with_event old.world (events.Govern node g); proposals = proposals_after old.proposals g q }) answer;
    written = written old.world.settings ∙ ap (λ (q : ServiceOutcome). before ++ (outcome_text old.world.settings q ++ governed_text new.proposals q)) answer;
  }

  pub governs_err : {S : Type 0} (why : ServiceRefusal S) (before after : List ℕ) → is_no_memory why ≡ false → Refused why (answer_to old.world (events.Govern node g)) →
      after ≡ before ++ outcome_text old.world.settings (answer_to old.world (events.Govern node g)) → Governs old node g mid before after
  governs_err why before after other answers written =
      let p = refused_by why (answer_to old.world (events.Govern node g)) other answers in
      subst (λ (q : Playing). Governs old node g q before after) (sym becomes) (governs_not old node g p.0 before after p.2 written)

-- it is noted, and the messages are reported
pub sends_from : (old mid new : Playing) (number node : ℕ) (g : GovernanceRequest) (rs : List LineRequest) (before printed after : List ℕ) (count now : ℕ) → Governs old node g mid before printed →
    count ≡ length (world_now old.world).sent → now ≡ length (world_now mid.world).sent → after ≡ printed ++ new_messages (now - count) count →
    rs ≡ mid.requests ++ record { line = number; request = g } ∷ [] → new ≡ record mid { requests = rs } → Sends old number node g new before after
sends_from old mid new number node g rs before printed after count now governs count_is now_is written noted is = record {
  becomes = is ∙ ap (λ (l : List LineRequest). record mid { requests = l }) noted
      ∙ ap (λ (p : Playing). record p { requests = p.requests ++ record { line = number; request = g } ∷ [] }) governs.becomes;
  written = sent_is (world_now old.world) (world_now mid.world) printed after count now count_is now_is written
      ∙ ap (λ (l : List ℕ). l ++ sent_text (world_now old.world) (world_now mid.world)) governs.written
      ∙ append_assoc before (outcome_text old.world.settings o ++ governed_text mid.proposals o) (sent_text (world_now old.world) (world_now mid.world))
      ∙ ap (λ (p : Playing). before ++ ((outcome_text old.world.settings o ++ governed_text p.proposals o) ++ sent_text (world_now old.world) (world_now p.world))) (sym same);
}
  where
    o : ServiceOutcome
    o = answer_to old.world (events.Govern node g)

    same : record new { requests = mid.requests } ≡ mid
    same = ap (λ (p : Playing). record p { requests = mid.requests }) is

-- what was sent is reported; `signer` is who signed for it
sent_printed : (t : Output) (old : Playing) (number node : ℕ) (g : GovernanceRequest) (signer : Option ℕ) (before after : List ℕ) → IsIn t old → suc t.lines ≡ number →
    (let o = answer_to old.world (events.Govern node g) in
    let ids = proposals_after old.proposals g o in
    let held = with_event old.world (events.Govern node g) in
    after ≡ before ++ ((outcome_text old.world.settings o ++ governed_text ids o) ++ sent_text (world_now old.world) (world_now held)) →
    PrintsEffect t (Governing (id_of old.world.settings node) signer g) old
    (record {
      world = held;
      requests = old.requests ++ record { line = number; request = g } ∷ [];
      proposals = ids;
      signed = old.signed ++ option_to_list signer;
    }) before after)
sent_printed t old number node g signer before after is_in next written = record {
  settings = refl;
  text = (outcome_text s o ++ governed_text (proposals_after old.proposals g o) o) ++ sent_text (world_now old.world) (world_now (with_event old.world (events.Govern node g)));
  reported = ap₂ printed_text is_in.world is_in.proposals
      ∙ ap (λ (w : ServiceWorld). next_text t ((outcome_text s o ++ governed_text (proposals_after old.proposals g o) o) ++ sent_text (world_now old.world) w)) (sym (after_one old.world (events.Govern node g)));
  written = written;
  is_in = record {
    world = ap (λ (w : ServiceWorld). (happens (book_of s) w e).world) is_in.world ∙ sym (after_one old.world (events.Govern node g));
    events = ap (λ (es : List ServiceEvent). es ++ e ∷ []) is_in.events ∙ sym (map-append (seen_event s) old.world.events (events.Govern node g ∷ []));
    requests = ap₂ (λ (rs : List LineRequest) (n : ℕ). rs ++ record { line = n; request = g } ∷ []) is_in.requests next;
    proposals = ap₂ (λ (w : ServiceWorld) (ids : List (List ℕ)). proposals_after ids g (happens (book_of s) w e).outcome) is_in.world is_in.proposals;
    signed = ap (λ (l : List ℕ). l ++ option_to_list signer) is_in.signed;
  };
}
  where
    s : Settings
    s = old.world.settings

    e : ServiceEvent
    e = event.Govern (id_of s node) g

    o : ServiceOutcome
    o = answer_to old.world (events.Govern node g)

    printed_text : ServiceWorld → List (List ℕ) → List ℕ
    printed_text w ids =
        let done = happens (book_of s) w e in
        next_text t ((outcome_text s done.outcome ++ governed_text (proposals_after ids g done.outcome) done.outcome) ++ sent_text w done.world)

-- after what the machine was, where somebody signed
pub prints_sent : (t : Output) (old mid new : Playing) (number node : ℕ) (g : GovernanceRequest) (signer : Option ℕ) (before after : List ℕ) → IsIn t old → suc t.lines ≡ number →
    mid ≡ record old { signed = old.signed ++ option_to_list signer } → Sends mid number node g new before after →
    PrintsEffect t (Governing (id_of old.world.settings node) signer g) old new before after
prints_sent t old mid new number node g signer before after is_in next signed sends =
    subst (λ (n : Playing). PrintsEffect t (Governing (id_of old.world.settings node) signer g) old n before after) (sym is)
    (sent_printed t old number node g signer before after is_in next written)
  where
    ev : Event
    ev = events.Govern node g

    becomes : Playing → Playing
    becomes m = record m {
      world = with_event m.world ev;
      requests = m.requests ++ record { line = number; request = g } ∷ [];
      proposals = proposals_after m.proposals g (answer_to m.world ev);
    }

    is : new ≡ becomes (record old { signed = old.signed ++ option_to_list signer })
    is = sends.becomes ∙ ap becomes signed

    printed_by : Playing → Playing → List ℕ
    printed_by m n = before
        ++ ((outcome_text m.world.settings (answer_to m.world ev) ++ governed_text n.proposals (answer_to m.world ev))
        ++ sent_text (world_now m.world) (world_now n.world))

    written : after ≡ printed_by (record old { signed = old.signed ++ option_to_list signer }) (becomes (record old { signed = old.signed ++ option_to_list signer }))
    written = sends.written ∙ ap₂ printed_by signed is

-- nobody signed
pub prints_unsigned : (t : Output) (old new : Playing) (number node : ℕ) (g : GovernanceRequest) (before after : List ℕ) → IsIn t old → suc t.lines ≡ number → Sends old number node g new before after →
    PrintsEffect t (Governing (id_of old.world.settings node) None g) old new before after
prints_unsigned t old new number node g before after is_in next sends =
    prints_sent t old old new number node g None before after is_in next
    (ap (λ (l : List ℕ). record old { signed = l }) (sym (append-nil old.signed))) sends

-- at a node that a line names
pub prints_request : (old new : Playing) → IsGroup old.world.settings → (number node byte : ℕ) (g : GovernanceRequest) (before after : List ℕ) → byte ≡ byte_number node → has_node old.world (byte_number node) ≡ true →
    Sends old number byte g new before after → Prints number (λ s t. at_node s node (λ x. Governing x None g)) old new before after
prints_request old new group number node byte g before after same named sends t is_in next =
    by_effect t (at_node old.world.settings node (λ x. Governing x None g)) (Governing (id_of old.world.settings (byte_number node)) None g) old new before after
    (at_some old.world.settings group node (λ x. Governing x None g) named)
    (prints_unsigned t old new number (byte_number node) g before after is_in next (subst (λ (k : ℕ). Sends old number k g new before after) same sends))

-- about another that it names
pub prints_pair : (old new : Playing) → IsGroup old.world.settings → (number node other byte : ℕ) (request : NodeId → GovernanceRequest) (g : GovernanceRequest) (before after : List ℕ) → byte ≡ byte_number node →
    has_node old.world (byte_number node) ≡ true → has_node old.world (byte_number other) ≡ true → g ≡ request (id_of old.world.settings (byte_number other)) → Sends old number byte g new before after →
    (t : Output) → IsIn t old → suc t.lines ≡ number → PrintsEffect t (at_nodes old.world.settings node other (λ x y. Governing x None (request y))) old new before after
prints_pair old new group number node other byte request g before after same named also is sends t is_in next =
    by_effect t (at_nodes old.world.settings node other (λ x y. Governing x None (request y))) (at_node old.world.settings node (λ x. Governing x None g)) old new before after
    (at_some old.world.settings group node (λ x. at_node old.world.settings other (λ y. Governing x None (request y))) named
    ∙ at_some old.world.settings group other (λ y. Governing x None (request y)) also
    ∙ ap (Governing x None) (sym is)
    ∙ sym (at_some old.world.settings group node (λ x. Governing x None g) named))
    (prints_request old new group number node byte g before after same named sends t is_in next)
  where
    x : NodeId
    x = id_of old.world.settings (byte_number node)

-- ---- what members ask for

-- the effect of what a member asks for, by who signed so far and by whether a leaf is left
abbrev asked : Settings → NodeId → ℕ → MemberAct → Bool → List ℕ → Effect
asked s x member act b signed = if b then Governing x (Some member) (requests.Member (member_request s member (next_leaf signed member) act)) else Answers spent_text

signs_is : (t : Output) (m : Playing) (x : NodeId) (member : ℕ) (act : MemberAct) (b : Bool) → IsIn t m → nat_lt (next_leaf m.signed member) leaf_limit ≡ b →
    signs m.world.settings t x member act ≡ asked m.world.settings x member act b m.signed
signs_is t m x member act b is_in left =
    ap (λ (l : List ℕ). asked m.world.settings x member act (nat_lt (next_leaf l member) leaf_limit) l) is_in.signed
    ∙ ap (λ (c : Bool). asked m.world.settings x member act c m.signed) left

-- signed with its next leaf
pub prints_asked : (old mid new : Playing) (number node member : ℕ) (act : MemberAct) (m : MemberRequest) (before after : List ℕ) →
    m ≡ member_request old.world.settings member (next_leaf old.signed member) act → next_leaf old.signed member < leaf_limit → mid ≡ record old { signed = old.signed ++ member ∷ [] } →
    Sends mid number node (requests.Member m) new before after → Prints number (λ s t. signs s t (id_of s node) member act) old new before after
prints_asked old mid new number node member act m before after made left signed sends t is_in next =
    let x = id_of old.world.settings node in
    let has_leaf : nat_lt (next_leaf old.signed member) leaf_limit ≡ true = grind (arith, nat_tests, left) in
    by_effect t (signs old.world.settings t x member act) (Governing x (Some member) (requests.Member m)) old new before after
    (signs_is t old x member act true is_in has_leaf ∙ ap (λ (k : MemberRequest). Governing x (Some member) (requests.Member k)) (sym made))
    (prints_sent t old mid new number node (requests.Member m) (Some member) before after is_in next signed sends)

-- each leaf is used
pub prints_spent : (m : Playing) (number node member : ℕ) (act : MemberAct) (before after : List ℕ) → next_leaf m.signed member ≡ leaf_limit → after ≡ before ++ spent_text →
    Prints number (λ s t. signs s t (id_of s node) member act) m m before after
prints_spent m number node member act before after spent written t is_in next =
    let none : nat_lt (next_leaf m.signed member) leaf_limit ≡ false = grind (arith, nat_tests, spent) in
    by_effect t (signs m.world.settings t (id_of m.world.settings node) member act) (Answers spent_text) m m before after
    (signs_is t m (id_of m.world.settings node) member act false is_in none) (prints_answer t m spent_text before after is_in written)

-- by the parts of a machine
pub asked_from : (old mid new : Playing) (held : Held) (signers : Signed) (s : Settings) (number node member : ℕ) (act : MemberAct) (m : MemberRequest) (before after : List ℕ) → held ≡ old.world → held.settings ≡ s →
    signers.settings ≡ s → signers.signed ≡ old.signed → m ≡ member_request signers.settings member (next_leaf signers.signed member) act → next_leaf signers.signed member < leaf_limit →
    mid ≡ record old { signed = signers.signed ++ member ∷ [] } → Sends mid number node (requests.Member m) new before after → Prints number (λ s t. signs s t (id_of s node) member act) old new before after
asked_from old mid new held signers s number node member act m before after is settings mine signed made left became sends =
    prints_asked old mid new number node member act m before after
    (made ∙ ap₂ (λ (u : Settings) (l : List ℕ). member_request u member (next_leaf l member) act) (mine ∙ sym settings ∙ ap (λ (h : Held). h.settings) is) signed)
    (subst (λ (l : List ℕ). next_leaf l member < leaf_limit) signed left)
    (became ∙ ap (λ (l : List ℕ). record old { signed = l ++ member ∷ [] }) signed) sends

-- ---- at the node and of the member that a line names

-- the machine is the same
pub prints_same : (old new : Playing) (number : ℕ) (effect : Settings → Output → Effect) (before after : List ℕ) → new ≡ old → Prints number effect old old before after → Prints number effect old new before after
prints_same old new number effect before after is prints = subst (λ (m : Playing). Prints number effect old m before after) (sym is) prints

pub prints_at : (old new : Playing) → IsGroup old.world.settings → (number node : ℕ) (effect : Settings → Output → NodeId → Effect) (before after : List ℕ) → has_node old.world (byte_number node) ≡ true →
    Prints number (λ s t. effect s t (id_of s (byte_number node))) old new before after → Prints number (λ s t. at_node s node (effect s t)) old new before after
prints_at old new group number node effect before after named prints t is_in next =
    by_effect t (at_node old.world.settings node (effect old.world.settings t)) (effect old.world.settings t (id_of old.world.settings (byte_number node))) old new before after
    (at_some old.world.settings group node (effect old.world.settings t) named) (prints t is_in next)

pub prints_of_member : (old new : Playing) (number member m : ℕ) (effect : Settings → Output → ℕ → Effect) (before after : List ℕ) →
    Some m ≡ (if is_member_number member then Some member else None) → Prints number (λ s t. effect s t m) old new before after →
    Prints number (λ s t. at_member member (effect s t member)) old new before after
prints_of_member old new number member m effect before after is prints t is_in next =
    by_effect t (at_member member (effect old.world.settings t member)) (effect old.world.settings t m) old new before after
    (at_member_is member m (effect old.world.settings t) is) (prints t is_in next)

pub prints_no_member : (m : Playing) (number member : ℕ) (effect : Settings → Output → Effect) (before after : List ℕ) → None ≡ (if is_member_number member then Some member else None) → after ≡ before ++ unnamed_text →
    Prints number (λ s t. at_member member (effect s t)) m m before after
prints_no_member m number member effect before after none written t is_in next =
    by_effect t (at_member member (effect m.world.settings t)) (Answers unnamed_text) m m before after (at_no_member member (effect m.world.settings t) none) (prints_answer t m unnamed_text before after is_in written)

-- about the proposal that it names
pub prints_about : (old new : Playing) (number proposal : ℕ) (id : List ℕ) (effect : Settings → Output → List ℕ → Effect) (before after : List ℕ) → Some id ≡ id_at old.proposals proposal →
    Prints number (λ s t. effect s t id) old new before after → Prints number (λ s t. at_proposal (id_at t.proposals proposal) (effect s t)) old new before after
prints_about old new number proposal id effect before after found prints t is_in next =
    by_effect t (at_proposal (id_at t.proposals proposal) (effect old.world.settings t)) (effect old.world.settings t id) old new before after
    (ap (λ (ids : List (List ℕ)). at_proposal (id_at ids proposal) (effect old.world.settings t)) is_in.proposals
    ∙ ap (λ (o : Option (List ℕ)). at_proposal o (effect old.world.settings t)) (sym found)) (prints t is_in next)

pub prints_no_proposal : (m : Playing) (number proposal : ℕ) (effect : Settings → Output → List ℕ → Effect) (before after : List ℕ) → None ≡ id_at m.proposals proposal → after ≡ before ++ no_proposal_text →
    Prints number (λ s t. at_proposal (id_at t.proposals proposal) (effect s t)) m m before after
prints_no_proposal m number proposal effect before after none written t is_in next =
    by_effect t (at_proposal (id_at t.proposals proposal) (effect m.world.settings t)) (Answers no_proposal_text) m m before after
    (ap (λ (ids : List (List ℕ)). at_proposal (id_at ids proposal) (effect m.world.settings t)) is_in.proposals
    ∙ ap (λ (o : Option (List ℕ)). at_proposal o (effect m.world.settings t)) (sym none))
    (prints_answer t m no_proposal_text before after is_in written)

-- where it is about no node, member or proposal, whichever comes first
pub prints_unnamed : (m : Playing) (number node member : ℕ) (before after : List ℕ) → after ≡ before ++ unnamed_text →
    Prints number (λ s t. at_node s node (λ x. at_member member (Answers unnamed_text))) m m before after
prints_unnamed m number node member before after written t is_in next =
    by_effect t (at_node m.world.settings node (λ x. at_member member (Answers unnamed_text))) (Answers unnamed_text) m m before after
    (ap (λ (e : Effect). at_node m.world.settings node (λ x. e)) (of_member (is_member_number member)) ∙ of_node (node_named m.world.settings node)) (prints_answer t m unnamed_text before after is_in written)
  where
    of_member : (b : Bool) → (if b then Answers unnamed_text else Answers unnamed_text) ≡ Answers unnamed_text
    of_member true = refl
    of_member false = refl

    of_node : (o : Option NodeId) → at_named o (λ x. Answers unnamed_text) ≡ Answers unnamed_text
    of_node None = refl
    of_node (Some x) = refl

-- ---- the request of an earlier line

pub prints_repeated : (old new : Playing) (number node line : ℕ) (r : LineRequest) (g : GovernanceRequest) (before after : List ℕ) → request_named old.requests line ≡ Some r → g ≡ r.request →
    Sends old number node g new before after → Prints number (λ s t. repeats (id_of s node) (request_named t.requests line)) old new before after
prints_repeated old new number node line r g before after found same sends t is_in next =
    let x = id_of old.world.settings node in
    by_effect t (repeats x (request_named t.requests line)) (Governing x None g) old new before after
    (ap (λ (rs : List LineRequest). repeats x (request_named rs line)) is_in.requests ∙ ap (repeats x) found ∙ ap (Governing x None) (sym same))
    (prints_unsigned t old new number node g before after is_in next sends)

pub prints_not_repeated : (m : Playing) (number node line : ℕ) (before after : List ℕ) → request_named m.requests line ≡ None → after ≡ before ++ unnamed_text →
    Prints number (λ s t. repeats (id_of s node) (request_named t.requests line)) m m before after
prints_not_repeated m number node line before after none written t is_in next =
    let x = id_of m.world.settings node in
    by_effect t (repeats x (request_named t.requests line)) (Answers unnamed_text) m m before after
    (ap (λ (rs : List LineRequest). repeats x (request_named rs line)) is_in.requests ∙ ap (repeats x) none) (prints_answer t m unnamed_text before after is_in written)

-- each request that a line may name was sent
pub found_sent : (number : ℕ) (rs : List LineRequest) (r : LineRequest) → AllByRecursion (λ (q : LineRequest). IsSent q.request) rs → request_named rs number ≡ Some r → IsSent r.request
found_sent number [] r all found = absurd (cc)
found_sent number (q ∷ rs) r all found = go (has_line number q) found (found_sent number rs r all.1)
  where
    go : (b : Bool) → (if b then Some q else find (has_line number) rs) ≡ Some r → (find (has_line number) rs ≡ Some r → IsSent r.request) → IsSent r.request
    go true one rest = let same : q ≡ r = cc in subst (λ (x : LineRequest). IsSent x.request) same all.0
    go false more rest = rest more

-- one request more
pub one_sent_more : (rs : List LineRequest) (r : LineRequest) → AllByRecursion (λ (r : LineRequest). IsSent r.request) rs → IsSent r.request →
    AllByRecursion (λ (r : LineRequest). IsSent r.request) (rs ++ r ∷ [])
one_sent_more [] r all sent = (sent, tt)
one_sent_more (q ∷ rs) r all sent = (all.0, one_sent_more rs r all.1 sent)
