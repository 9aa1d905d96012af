-- What is committed anywhere, a leader has committed before.
use Rattle.std.proofs.Common.{◌≡◌, ◌≢◌, ◌⊎◌, inl, inr, ⊎_elim, ℕ, zero, suc, ◌≤◌, ◌<◌, List, [], ◌∷◌, length, take, Bool, if◌then◌else◌, Some, slice_get, refl, sym, ap, ◌∙◌, subst, arith}
use Rattle.std.proofs.lemmas.Bool.{cases_eq, cases_lt}
use Rattle.std.proofs.lemmas.Bool.Decides.{nat_tests}
use Rattle.gl_rules.specs.Identity.{NodeId, member}
use Rattle.gl_rules.specs.Book.{Book}
use Rattle.gl_rules.specs.Node.{Node, Leader}
use Rattle.gl_rules.specs.World.{Start, Event, World, happens, run, begin, after, starter, joiner, leader_at_start, node_at_start}
use Rattle.gl_rules.specs.Safety.{IsOpening, IsLawful, EachFollows, IsPrefixOf, committed_ledger}
use Rattle.gl_rules.proofs.Ids.{same_self}
use Rattle.gl_rules.proofs.Lists.{Same, there, take_get, get_take, get_left, take_one_more, take_past}
use Rattle.gl_safety.proofs.Story.{Story}
use Rattle.gl_safety.proofs.Certificates.{SureOver, Cert}
use Rattle.gl_safety.proofs.Invariants.{settled_of, sure_within}
use Rattle.gl_safety.proofs.Runs.{Holding, Committers, onward_event, first_story, run_append}
use Rattle.gl_safety.proofs.Beginning.{holding_first}
use Rattle.gl_safety.proofs.Prefixes.{prefix}

module _ {E Q G R A F : Type 0} {b : Book E Q G R A F} {s : Start E} (o : IsOpening b (EachFollows b) s) (la : IsLawful b (EachFollows b)) where
  -- a leader of view v that had committed as much, by a moment
  pub record Committed (es : List (Event Q G R)) (i v c : ℕ) : Type 0 where
    pub moment : ℕ
    pub by : NodeId
    pub before : moment ≤ i
    pub role : ((after b s (take moment es)).nodes by).role ≡ Leader
    pub view : ((after b s (take moment es)).nodes by).view ≡ v
    pub commit : c ≤ ((after b s (take moment es)).nodes by).commit

  abbrev Known : List (Event Q G R) → ℕ → Story E → Type 0
  Known es i g = (v : ℕ) → 0 < g.committed v → Committed es i v (g.committed v)

  starts : (es : List (Event Q G R)) → begin s ≡ after b s (take 0 es)
  unfolding run
  starts es = refl

  at_start : (es : List (Event Q G R)) → Known es 0 (first_story o la)
  unfolding first_story run
  at_start es v h = ⊎_elim
      (λ (d : v ≡ 2). record {
        moment = 0;
        by = s.first;
        before = omega arith;
        role = ap (λ (n : Node E). n.role) here;
        view = ap (λ (n : Node E). n.view) here ∙ sym d;
        commit = let q = ap (λ (n : Node E). n.commit) here in grind (arith, nat_tests);
      })
      (λ (d : v ≢ 2). absurd (grind (arith, nat_tests)))
      (cases_eq v 2)
    where
      here : node_at_start s s.first ≡ leader_at_start s
      here = ap (λ (t : Bool). if t then leader_at_start s else (if member s.first s.starting then starter s else joiner)) (same_self s.first)

  single : (e : Event Q G R) (w : World E) → (happens b w e).world ≡ run b (e ∷ []) w
  unfolding run
  single e w = refl

  one_more : (es : List (Event Q G R)) (i : ℕ) (e : Event Q G R) → slice_get es i ≡ Some e → (happens b (after b s (take i es)) e).world ≡ after b s (take (suc i) es)
  one_more es i e a = single e (after b s (take i es)) ∙ sym (run_append o la (take i es) (e ∷ []) (begin s)) ∙ ap (λ l. run b l (begin s)) (take_one_more es i e a)

  -- each moment, with what is known of it
  known_at : (es : List (Event Q G R)) (i : ℕ) → (g : Story E) × Holding o la (after b s (take i es)) g × Known es i g
  known_at es zero = (first_story o la, subst (λ (w : World E). Holding o la w (first_story o la)) (starts es) (holding_first o la), at_start es)
  known_at es (suc i) = ⊎_elim
      (λ (h : i < length es).
      let p = known_at es i in
      let e = there es i h in
      let q = onward_event o la (after b s (take i es)) p.0 e.0 p.1 in
      let same = one_more es i e.0 e.1 in (
        q.0,
        subst (λ (w : World E). Holding o la w q.0) same q.1,
        known es i p.0 q.0 p.2 (subst (Committers o la p.0 q.0) same q.3),
      ))
      (λ (h : length es ≤ i).
      let p = known_at es i in
      let same : take i es ≡ take (suc i) es = take_past i es h ∙ sym (take_past (suc i) es (omega arith)) in (
        p.0,
        subst (λ (l : List (Event Q G R)). Holding o la (after b s l) p.0) same p.1,
        λ v c. let k = p.2 v c in record { moment = k.moment; by = k.by; before = omega (arith, k.before); role = k.role; view = k.view; commit = k.commit },
      ))
      (cases_lt i (length es))
    where
      known : (es : List (Event Q G R)) (i : ℕ) (g h : Story E) → Known es i g → Committers o la g h (after b s (take (suc i) es)) → Known es (suc i) h
      known es i g h k new v c = ⊎_elim
          (λ (q : h.committed v ≡ g.committed v).
          let r = k v (omega (arith, q)) in
          record { moment = r.moment; by = r.by; before = omega (arith, r.before); role = r.role; view = r.view; commit = omega (arith, r.commit, q) })
          (λ (q : (x : NodeId) × (((after b s (take (suc i) es)).nodes x).role ≡ Leader) × (((after b s (take (suc i) es)).nodes x).view ≡ v) × (h.committed v ≤ ((after b s (take (suc i) es)).nodes x).commit)).
          record { moment = suc i; by = q.0; before = omega arith; role = q.1; view = q.2; commit = q.3 })
          (new v)

  -- a leader had committed all that x has, before
  pub committed_before : (es : List (Event Q G R)) (i : ℕ) (x : NodeId) → 0 < ((after b s (take i es)).nodes x).commit → (j : ℕ) × (z : NodeId) × (j ≤ i) × (((after b s (take j es)).nodes z).role ≡ Leader) ×
      (((after b s (take i es)).nodes x).commit ≤ ((after b s (take j es)).nodes z).commit) × Same ((after b s (take i es)).nodes x).commit ((after b s (take i es)).nodes x).log ((after b s (take j es)).nodes z).log
  committed_before es i x h =
      let p = known_at es i in
      let n = (after b s (take i es)).nodes x in
      let k = settled_of o p.0 x n.view n.role n.log n.commit n.base n.matched (p.1.nodes x).commits in
      let q : SureOver o (Cert o (k.1).0 p.0) p.0 n.log n.commit k.0 = ⊎_elim (λ (d : n.commit ≡ 0). absurd (omega arith)) (λ (d : SureOver o (Cert o (k.1).0 p.0) p.0 n.log n.commit k.0). d) (k.1).1 in
      let c = p.2 q.v (omega (arith, q.done)) in
      let most : n.commit ≤ ((after b s (take c.moment es)).nodes c.by).commit = omega (arith, q.done, c.commit) in
      (c.moment, c.by, c.before, c.role, most, within_log n ((after b s (take c.moment es)).nodes c.by) most (long es c.moment c.by) (prefix o la es c.moment i c.by x))
    where
      long : (es : List (Event Q G R)) (j : ℕ) (z : NodeId) → ((after b s (take j es)).nodes z).commit ≤ length ((after b s (take j es)).nodes z).log
      long es j z =
          let p = known_at es j in
          let n = (after b s (take j es)).nodes z in
          let k = settled_of o p.0 z n.view n.role n.log n.commit n.base n.matched (p.1.nodes z).commits in
          sure_within o p.0 n.log n.commit k.0 k.1

      -- of two committed ledgers, of which the second is no shorter
      within_log : (n m : Node E) → n.commit ≤ m.commit → m.commit ≤ length m.log → IsPrefixOf (committed_ledger m) (committed_ledger n) ⊎ IsPrefixOf (committed_ledger n) (committed_ledger m) → Same n.commit n.log m.log
      within_log n m most long (inl r) i e h a =
          let f = there m.log i (omega arith) in
          let in_m : slice_get (take m.commit m.log) i ≡ Some f.0 = take_get m.commit m.log i f.0 (omega arith) f.1 in
          let in_n : slice_get (take n.commit n.log) i ≡ Some f.0 = ap (λ l. slice_get l i) (sym r.1) ∙ get_left (take m.commit m.log) r.0 i f.0 in_m in
          let q = (get_take n.commit n.log i f.0 in_n).1 in
          f.1 ∙ sym q ∙ a
      within_log n m most long (inr r) i e h a =
          let in_n : slice_get (take n.commit n.log) i ≡ Some e = take_get n.commit n.log i e h a in
          let in_m : slice_get (take m.commit m.log) i ≡ Some e = ap (λ l. slice_get l i) (sym r.1) ∙ get_left (take n.commit n.log) r.0 i e in_n in
          (get_take m.commit m.log i e in_m).1
