-- What stands below a node's base stays where its base stays, and it can be told from a node's committed
-- ledger.
use Rattle.std.proofs.Common.{◌≡◌, ◌⊎◌, inl, inr, ℕ, ◌-◌, ◌≤◌, List, [], ◌∷◌, ◌++◌, length, take, drop, Some, refl, sym, ap, subst, ◌∙◌, arith}
use Rattle.std.proofs.lemmas.List.{length-take, take_all, take-append-drop, take-append-le, take-take}
use Rattle.gl_rules.specs.Identity.{NodeId}
use Rattle.gl_rules.specs.Replication.{snapshot_of}
use Rattle.gl_rules.specs.World.{begin, happens, run}
use Rattle.gl_rules.specs.Safety.{Agree, EachFollows, IsLawful, IsPrefixOf, node_after}
use Rattle.gl_entry.specs.declared.entry.Entry.{Entry}
use Rattle.gl_safety.proofs.Beginning.{holding_first}
use Rattle.gl_safety.proofs.Installing.{snapshot_ends}
use Rattle.gl_safety.proofs.Invariants.{sure_within}
use Rattle.gl_safety.proofs.Prefixes.{prefix}
use Rattle.gl_safety.proofs.Runs.{Holding, first_story, onward_run}
use Rattle.gl_safety.proofs.Story.{Story}
use Rattle.gl_ledger.specs.LedgerBook.{ServiceBook}
use Rattle.gl_ledger.specs.NodeKeys.{service_layers}
use Rattle.gl_ledger.proofs.Lawful.{lawful}
use Rattle.gl_world.specs.Service.{ServiceEvent}
use Rattle.gl_world.specs.declared.settings.Settings.{Settings}
use Rattle.gl_world.specs.Founding.{keys_of}
use Rattle.gl_world.specs.Group.{IsGroup, book_of}
use Rattle.gl_world.specs.Running.{IsReached, below_base}
use Rattle.gl_world.specs.World.{ServiceWorld, start_of}
use Rattle.gl_world.proofs.Groups.{group_opens}

pub run_append : (b : ServiceBook) (es fs : List ServiceEvent) (w : ServiceWorld) → run b (es ++ fs) w ≡ run b fs (run b es w)
unfolding run
run_append b [] fs w = refl
run_append b (e ∷ es) fs w = run_append b es fs (happens b w e).world

-- ---- lists

module _ {X : Type 0} where
  -- up to a length that both have, a list and one that it begins
  prefix_same : (l m : List X) (c d k : ℕ) → k ≤ c → k ≤ d → k ≤ length l → IsPrefixOf (take c l) (take d m) → take k l ≡ take k m
  prefix_same l m c d k low high long p =
      sym (take-take k c l low)
      ∙ sym (take-append-le k (take c l) p.0 (omega (arith, length-take c l)))
      ∙ ap (take k) p.1
      ∙ take-take k d m high

  agree_same : (l m : List X) (c d k : ℕ) → k ≤ c → k ≤ d → k ≤ length l → k ≤ length m → IsPrefixOf (take c l) (take d m) ⊎ IsPrefixOf (take d m) (take c l) → take k l ≡ take k m
  agree_same l m c d k low high long other (inl p) = prefix_same l m c d k low high long p
  agree_same l m c d k low high long other (inr p) = sym (prefix_same m l d c k high low other p)

  -- a list from its parts below and above a base
  pub joined_is : (l : List X) (base commit : ℕ) → base ≤ commit → take base l ++ drop base (take commit l) ≡ take commit l
  joined_is l base commit low =
      ap (λ (m : List X). m ++ drop base (take commit l)) (sym (take-take base commit l low)) ∙ take-append-drop base (take commit l)

-- ---- worlds

-- the world after one event more
pub reached_next : {s : Settings} {w : ServiceWorld} → IsReached s w → (e : ServiceEvent) → IsReached s (happens (book_of s) w e).world
unfolding run
reached_next {s} {w} r e = record {
  events = r.events ++ e ∷ [];
  is = ap (λ (v : ServiceWorld). (happens (book_of s) v e).world) r.is ∙ sym (run_append (book_of s) r.events (e ∷ []) (begin (start_of s)));
}

pub reached_first : (s : Settings) → IsReached s (begin (start_of s))
unfolding run
reached_first s = record { events = []; is = refl }

module _ {s : Settings} (h : IsGroup s) where
  laws : IsLawful (book_of s) (EachFollows (book_of s))
  laws = lawful service_layers (keys_of s)

  abbrev Held : ServiceWorld → Type 0
  Held w = (g : Story Entry) × Holding (group_opens s h) laws w g

  held : {w : ServiceWorld} → IsReached s w → Held w
  held {w} r =
      let p = onward_run (group_opens s h) laws r.events (begin (start_of s)) (first_story (group_opens s h) laws) (holding_first (group_opens s h) laws) in
      subst Held (sym r.is) (p.0, p.1)

  -- a base is committed
  pub base_committed : {w : ServiceWorld} → IsReached s w → (x : NodeId) → (w.nodes x).base ≤ (w.nodes x).commit
  base_committed {w} r x = let k = held r in (k.1.nodes x).commits.above

  base_within : {w : ServiceWorld} → IsReached s w → (x : NodeId) → (w.nodes x).base ≤ length (w.nodes x).log
  base_within {w} r x =
      let k = held r in
      let z = (k.1.nodes x).commits.based in
      sure_within (group_opens s h) k.0 (w.nodes x).log (w.nodes x).base z.0 z.1

  -- the entry at which a snapshot is taken is committed
  pub snapshot_committed : {w : ServiceWorld} → IsReached s w → (x : NodeId) (seqno : ℕ) → snapshot_of (book_of s) (w.nodes x) ≡ Some seqno → seqno - 1 ≤ (w.nodes x).commit
  snapshot_committed {w} r x seqno at =
      let k = held r in
      let p = snapshot_ends (group_opens s h) laws k.0 x (w.nodes x) seqno (k.1.nodes x) at in
      omega (arith, p.1, p.2)

  -- the same of two worlds, one event apart
  agreeing : {w : ServiceWorld} → (r : IsReached s w) → (e : ServiceEvent) (x : NodeId) → Agree (book_of s) (w.nodes x) ((happens (book_of s) w e).world.nodes x)
  unfolding reached_next
  agreeing {w} r e x =
      let b = book_of s in
      let more : List ServiceEvent = r.events ++ e ∷ [] in
      let first : take (length r.events) more ≡ r.events = take-append-le (length r.events) r.events (e ∷ []) (omega arith) ∙ take_all (length r.events) r.events (omega arith) in
      let all : take (length more) more ≡ more = take_all (length more) more (omega arith) in
      let p = prefix (group_opens s h) laws more (length r.events) (length more) x x in
      subst (λ (v : ServiceWorld). Agree b (v.nodes x) ((happens b w e).world.nodes x)) (sym r.is)
      (subst (λ (v : ServiceWorld). Agree b (node_after b (start_of s) r.events x) (v.nodes x)) (sym (reached_next r e).is)
      (subst (λ (l : List ServiceEvent). Agree b (node_after b (start_of s) r.events x) (node_after b (start_of s) l x)) all
      (subst (λ (l : List ServiceEvent). Agree b (node_after b (start_of s) l x) (node_after b (start_of s) (take (length more) more) x)) first p)))

  -- where a base stays, so does what stands below
  pub below_stays : {w : ServiceWorld} → (r : IsReached s w) → (e : ServiceEvent) (x : NodeId) → let v = (happens (book_of s) w e).world in
      (v.nodes x).base ≡ (w.nodes x).base → below_base (v.nodes x) ≡ below_base (w.nodes x)
  below_stays {w} r e x same =
      let v = (happens (book_of s) w e).world in
      let next = reached_next r e in
      let is = agree_same (w.nodes x).log (v.nodes x).log (w.nodes x).commit (v.nodes x).commit (w.nodes x).base (base_committed r x) (omega (arith, same, base_committed next x)) (base_within r x) (omega (arith, same, base_within next x)) (agreeing r e x) in
      ap (λ (k : ℕ). take k (v.nodes x).log) same ∙ sym is
