-- A world after one event more, and what is promised of it.
use Rattle.std.proofs.Common.{◌≡◌, ◌<◌, ℕ, suc, ◌-◌, Some, slice_get, arith, List, [], ◌∷◌, ◌++◌, map, length, true, false, if◌then◌else◌, refl, sym, ap, subst, ◌∙◌}
use Rattle.std.proofs.lemmas.List.{map-append}
use Rattle.gl_rules.specs.Identity.{NodeId}
use Rattle.gl_rules.specs.Node.{Node}
use Rattle.gl_rules.specs.Outcome as outcomes
use Rattle.gl_rules.specs.World.{begin, happens, run}
use Rattle.gl_rules.specs.Safety.{LeavesAll}
use Rattle.gl_safety.proofs.Unchanged.{leaves_all}
use Rattle.gl_entry.specs.declared.entry.Entry.{Entry}
use Rattle.gl_ledger.specs.declared.response.Response.{Response}
use Rattle.gl_election.specs.Bridge.{seen_message}
use Rattle.gl_replication.specs.Stands.{Answers}
use Rattle.gl_replication.specs.declared.done.Outcome.{Outcome}
use Rattle.gl_replication.specs.declared.done.Refusal.{Refusal}
use Rattle.gl_replication.specs.declared.done.Refusal.TheVariants as refusals
use Rattle.gl_world.specs.declared.event.Event.{Event}
use Rattle.gl_world.specs.declared.settings.Settings.{Settings}
use Rattle.gl_world.specs.Founding.{id_of, node_ids}
use Rattle.gl_world.specs.Group.{book_of}
use Rattle.gl_world.specs.Happened.{Happened, Refuses, answer_to, is_no_memory, with_event}
use Rattle.gl_world.specs.Held.{Held, has_node, is_among, is_number, may_happen, node_now, seen_event, seen_events, world_now}
use Rattle.gl_world.specs.declared.world.nodes.Nodes.{Nodes}
use Rattle.gl_world.specs.Rules.{bring_few}
use Rattle.gl_world.specs.Running.{Denies, IsReached, IsRunning, Keeps, Moves, below_base}
use Rattle.gl_world.specs.WorldNodes.{ServiceRefusal, StandsAs}
use Rattle.gl_world.specs.World.{ServiceWorld, start_of}
use Rattle.gl_world.proofs.NodeIds.{count_is, id_at, number_parts}
use Rattle.gl_world.proofs.Reached.{reached_next, run_append}

pub after_one : (h : Held) (event : Event) → world_now (with_event h event) ≡ (happens (book_of h.settings) (world_now h) (seen_event h.settings event)).world
unfolding run
after_one h event =
    ap (λ es. run (book_of h.settings) es (begin (start_of h.settings))) (map-append (seen_event h.settings) h.events (event ∷ []))
    ∙ run_append (book_of h.settings) (seen_events h) (seen_event h.settings event ∷ []) (begin (start_of h.settings))

module _ {S Q G R A F : Type 0} where
  -- a refusal other than running out of memory is one of the rules
  refused_by : (why : Refusal S Q G R A F) (o : outcomes.Outcome A F) → is_no_memory why ≡ false → Answers why o → (r : outcomes.Refusal F) × (o ≡ outcomes.Refused r)
  refused_by refusals.NoMemory o z a = absurd (cc)
  refused_by (refusals.NotPrimary view leader) o z a = (outcomes.NotPrimary view leader, a)
  refused_by (refusals.TooManyPending limit) o z a = (outcomes.TooManyPending limit, a)
  refused_by (refusals.NotReserved reserved) o z a = (outcomes.NotReserved reserved, a)
  refused_by (refusals.KeyExhausted reserved) o z a = (outcomes.KeyExhausted reserved, a)
  refused_by (refusals.NothingToSign seqno) o z a = (outcomes.NothingToSign seqno, a)
  refused_by (refusals.RemovalNotCommitted seqno commit) o z a = (outcomes.RemovalNotCommitted seqno commit, a)
  refused_by (refusals.BelowCommit commit seqno) o z a = (outcomes.BelowCommit commit seqno, a)
  refused_by refusals.NotPeer o z a = (outcomes.NotPeer, a)
  refused_by (refusals.BelowBase base) o z a = (outcomes.BelowBase base, a)
  refused_by refusals.ViewLimit o z a = (outcomes.ViewLimit, a)
  refused_by (refusals.NoLaterSignature commit) o z a = (outcomes.NoLaterSignature commit, a)
  refused_by (refusals.ByLedger why) o z a = (outcomes.ByLedger why, a)

  pub other_than_memory : (why : Refusal S Q G R A F) → (why ≡ refusals.NoMemory → ⊥) → is_no_memory why ≡ false
  other_than_memory refusals.NoMemory other = absurd (other refl)
  other_than_memory (refusals.NotPrimary view leader) other = refl
  other_than_memory (refusals.TooManyPending limit) other = refl
  other_than_memory (refusals.NotReserved reserved) other = refl
  other_than_memory (refusals.KeyExhausted reserved) other = refl
  other_than_memory (refusals.NothingToSign seqno) other = refl
  other_than_memory (refusals.RemovalNotCommitted seqno commit) other = refl
  other_than_memory (refusals.BelowCommit commit seqno) other = refl
  other_than_memory refusals.NotPeer other = refl
  other_than_memory (refusals.BelowBase base) other = refl
  other_than_memory refusals.ViewLimit other = refl
  other_than_memory (refusals.NoLaterSignature commit) other = refl
  other_than_memory (refusals.ByLedger why) other = refl

-- with the world as the code reads it
pub may_as : (h old : Held) (event : Event) → old ≡ h → may_happen old event ≡ true → may_happen h event ≡ true
may_as h old event is may = ap (λ (m : Held). may_happen m event) (sym is) ∙ may

module _ {N S : Type 0} (stands : StandsAs N) where
  -- nodes that run for a world run for its like
  same_world : (h : Held) {ns : Nodes N S} {w v : ServiceWorld} → IsRunning stands h.settings ns w → LeavesAll w v → IsReached h.settings v → IsRunning stands h.settings ns v
  same_world h {ns} {w} {v} r l reached = record {
    group = r.group;
    ids = r.ids;
    whole = r.whole;
    stand = λ i c at_i. subst (λ n. stands c (book_of h.settings) (id_of h.settings (suc i)) n) (sym (l.nodes (id_of h.settings (suc i)))) (r.stand i c at_i);
    below_whole = r.below_whole;
    below = λ i kept at_i. r.below i kept at_i ∙ sym (ap (λ (n : Node Entry). below_base n) (l.nodes (id_of h.settings (suc i))));
    sent = r.sent ∙ sym l.sent;
    few = ap bring_few l.sent ∙ r.few;
    reached = reached;
  }

  -- the world that is kept: the nodes run for what happened
  abbrev pub IsKept : Nodes N S → Held → Type 0
  IsKept ns h = IsRunning stands h.settings ns (world_now h)

  -- before anything happened
  pub at_first : (ns : Nodes N S) (s : Settings) (items : List Event) → items ≡ [] → IsRunning stands s ns (begin (start_of s)) → IsKept ns (record { settings = s; events = items })
  unfolding run
  at_first ns s items is r = subst (λ (es : List Event). IsKept ns (record { settings = s; events = es })) (sym is) r

  pub kept_on : {old : Nodes N S} (new : Nodes N S) (h : Held) (event : Event) (o : Outcome Response) → IsKept old h → Moves stands event old o new → may_happen h event ≡ true → IsKept new (with_event h event)
  kept_on new h event o r moves here =
      subst (λ (w : ServiceWorld). IsRunning stands h.settings new w) (sym (after_one h event)) (moves h.settings (world_now h) r here).0

  pub kept_refused : {old : Nodes N S} (new : Nodes N S) (h : Held) (event : Event) (why : ServiceRefusal S) → is_no_memory why ≡ false → IsKept old h → Keeps stands old new → Denies stands event old why →
      may_happen h event ≡ true → IsKept new (with_event h event)
  kept_refused new h event why z r keeps denies here =
      let by = refused_by why (answer_to h event) z (denies h.settings (world_now h) r here) in
      subst (λ (w : ServiceWorld). IsRunning stands h.settings new w) (sym (after_one h event))
      (same_world h (keeps h.settings (world_now h) r) (leaves_all (book_of h.settings) (world_now h) (seen_event h.settings event) by.0 by.1) (reached_next r.reached (seen_event h.settings event)))

  -- with the list of events as it is kept
  pub more : {ns : Nodes N S} (h : Held) (event : Event) (items : List Event) → items ≡ h.events ++ event ∷ [] → IsKept ns (with_event h event) → IsKept ns (record { settings = h.settings; events = items })
  more {ns} h event items is r = subst (λ (es : List Event). IsKept ns (record { settings = h.settings; events = es })) (sym is) r

  pub happened_by : {old_nodes : Nodes N S} (new_nodes : Nodes N S) (old new h : Held) (event : Event) (o : Outcome Response) → old ≡ h → new ≡ with_event h event → IsKept old_nodes h → Moves stands event old_nodes o new_nodes →
      may_happen h event ≡ true → Happened old event new o
  happened_by new_nodes old new h event o was is r moves here = subst (λ (m : Held). Happened m event new o) (sym was)
      (record { grows = is; answer = (moves h.settings (world_now h) r here).1 })

  pub refuses_by : {old_nodes : Nodes N S} (old new h : Held) (event : Event) (why : ServiceRefusal S) → old ≡ h → is_no_memory why ≡ false → new ≡ with_event h event → IsKept old_nodes h → Denies stands event old_nodes why →
      may_happen h event ≡ true → Refuses old event new why
  refuses_by old new h event why was z is r denies here = subst (λ (m : Held). Refuses m event new why) (sym was)
      (record { left = is ∙ ap (λ t. if t then h else with_event h event) (sym z); answer = denies h.settings (world_now h) r here })

  -- what may happen in the world may happen at the nodes that run
  pub among_here : {ns : Nodes N S} (h old : Held) (event : Event) → old ≡ h → IsKept ns h → may_happen old event ≡ true → is_among ns.ids.items (map seen_message ns.sent.items) event ≡ true
  among_here {ns} h old event is r may =
      ap (λ ids. is_among ids (map seen_message ns.sent.items) event) r.ids ∙ ap (λ sent. is_among (node_ids h.settings) sent event) r.sent
      ∙ ap (λ (m : Held). may_happen m event) (sym is) ∙ may

  pub may_here : {ns : Nodes N S} (h old : Held) (event : Event) → old ≡ h → IsKept ns h → is_among ns.ids.items (map seen_message ns.sent.items) event ≡ may_happen old event
  may_here {ns} h old event is r =
      ap (λ ids. is_among ids (map seen_message ns.sent.items) event) r.ids ∙ ap (λ sent. is_among (node_ids h.settings) sent event) r.sent
      ∙ ap (λ (m : Held). may_happen m event) (sym is)

  -- a number of a node of the world is one of the nodes that run
  pub named_here : {ns : Nodes N S} (h old : Held) (number : ℕ) → old ≡ h → IsKept ns h → has_node old number ≡ true → is_number (length ns.ids.items) number ≡ true
  named_here {ns} h old number is r here = ap (λ ids. is_number (length ids) number) r.ids ∙ ap (λ (m : Held). has_node m number) (sym is) ∙ here

  -- a node of a number
  pub core_here : {ns : Nodes N S} (h old : Held) (number : ℕ) → old ≡ h → IsKept ns h → has_node old number ≡ true → (number - 1 < length ns.nodes.items) × (number - 1 < length ns.ids.items)
  core_here {ns} h old number is r here =
      let p = number_parts (length (node_ids h.settings)) number (ap (λ (m : Held). has_node m number) (sym is) ∙ here) in
      (omega (arith, p.0, p.1, count_is h.settings, r.whole), omega (arith, p.0, p.1, ap length r.ids))

  pub stands_here : {ns : Nodes N S} (h old : Held) (number : ℕ) (c : N) → old ≡ h → IsKept ns h → has_node old number ≡ true → slice_get ns.nodes.items (number - 1) ≡ Some c →
      stands c (book_of old.settings) (id_of old.settings number) (node_now old number)
  stands_here {ns} h old number c is r here core_at =
      let p = number_parts (length (node_ids h.settings)) number (ap (λ (m : Held). has_node m number) (sym is) ∙ here) in
      subst (λ (m : Held). stands c (book_of m.settings) (id_of m.settings number) (node_now m number)) (sym is)
      (subst (λ (k : ℕ). stands c (book_of h.settings) (id_of h.settings k) (node_now h k)) (omega (arith, p.0)) (r.stand (number - 1) c core_at))

  pub id_here : {ns : Nodes N S} (h old : Held) (number : ℕ) (x : NodeId) → old ≡ h → IsKept ns h → has_node old number ≡ true → slice_get ns.ids.items (number - 1) ≡ Some x → x ≡ id_of old.settings number
  id_here {ns} h old number x is r here at_i =
      let p = number_parts (length (node_ids h.settings)) number (ap (λ (m : Held). has_node m number) (sym is) ∙ here) in
      (id_at h.settings (number - 1) x (ap (λ ids. slice_get ids (number - 1)) (sym r.ids) ∙ at_i)).1
      ∙ ap (id_of h.settings) (omega (arith, p.0)) ∙ ap (λ (m : Held). id_of m.settings number) (sym is)
