-- Evidence that a snapshot is taken at, and a node that begins from a snapshot.
use Rattle.std.proofs.Common.{◌≡◌, ◌≤◌, ◌<◌, ◌-◌, ◌==◌, ◌&&◌, ℕ, zero, suc, List, [], ◌∷◌, length, max, take, slice_get, Bool, true, false, nat_lt, Option, None, Some, if◌then◌else◌, refl, sym, ap, ◌∙◌, arith, length-take}
use Rattle.std.proofs.lemmas.Bool.Decides.{nat_tests}
use Rattle.gl_entry.specs.declared.entry.Entry.{Entry}
use Rattle.gl_rules.specs.Book.{Book}
use Rattle.gl_rules.specs.Identity.{NodeId}
use Rattle.gl_rules.specs.Node.{Node, Follower}
use Rattle.gl_rules.specs.Log.{entry_at, last_signature, view_at}
use Rattle.gl_rules.specs.Outcome.{Step, idle, refuse, quiet, Done, NoLaterSignature}
use Rattle.gl_rules.specs.Replication.{greatest_evidence, install, install_snapshot, is_evidence_at, snapshot_of, with_snapshot}
use Rattle.gl_rules.specs.Steps.{enter_view, one_more_cut, update_view}
use Rattle.gl_replication.specs.Holding.{Holding, from_snapshot}
use Rattle.gl_replication.specs.Offers.{begun_from}
use Rattle.gl_replication.specs.Stands.{StandsFor}
use Rattle.gl_replication.specs.declared.node.Core.{Core}
use Rattle.gl_replication.proofs.Prefixes.{view_within}

module _ {E Q G R A F : Type 0} (b : Book E Q G R A F) where
  none_upto : (log : List E) (base k : ℕ) → k ≤ base → greatest_evidence b log base k ≡ None
  unfolding greatest_evidence
  none_upto log base zero h = refl
  none_upto log base (suc k) h =
      let t : nat_lt base (suc k) ≡ false = grind (arith, nat_tests) in
      ap (λ u. if u && is_evidence_at b (entry_at log (suc k)) then Some (suc k) else greatest_evidence b log base k) t
      ∙ none_upto log base k (omega arith)

  -- up to two seqnos that are the same above the base
  pub evidence_same : (log : List E) (base r l : ℕ) → max base r ≡ max base l → greatest_evidence b log base (r - 1) ≡ greatest_evidence b log base (l - 1)
  evidence_same log base r l h = go (nat_lt base r) refl
    where
      go : (t : Bool) → nat_lt base r ≡ t → greatest_evidence b log base (r - 1) ≡ greatest_evidence b log base (l - 1)
      go true e = let k : base < r = grind (arith, nat_tests) in let z : r ≡ l = omega (arith, h, k) in ap (λ m. greatest_evidence b log base (m - 1)) z
      go false e = let k : r ≤ base = grind (arith, nat_tests) in
          none_upto log base (r - 1) (omega (arith, k)) ∙ sym (none_upto log base (l - 1) (omega (arith, h, k)))

  -- where evidence is found
  pub found_at : (log : List E) (base k seqno : ℕ) → greatest_evidence b log base k ≡ Some seqno → (base < seqno) × (is_evidence_at b (entry_at log seqno) ≡ true)
  unfolding greatest_evidence
  found_at log base zero seqno e = absurd (cc)
  found_at log base (suc k) seqno e = go (found_at log base k seqno) (nat_lt base (suc k)) (is_evidence_at b (entry_at log (suc k))) refl refl e
    where
      go : (greatest_evidence b log base k ≡ Some seqno → (base < seqno) × (is_evidence_at b (entry_at log seqno) ≡ true)) → (t u : Bool) → nat_lt base (suc k) ≡ t → is_evidence_at b (entry_at log (suc k)) ≡ u →
          (if t && u then Some (suc k) else greatest_evidence b log base k) ≡ Some seqno → (base < seqno) × (is_evidence_at b (entry_at log seqno) ≡ true)
      go again true true p q r =
          let low : base < suc k = grind (arith, nat_tests) in
          let z : suc k ≡ seqno = cc in
          (omega (arith, low, z), ap (λ m. is_evidence_at b (entry_at log m)) (sym z) ∙ q)
      go again true false p q r = again r
      go again false u p q r = again r

  held_within : (log : List E) (i : ℕ) → is_evidence_at b (slice_get log i) ≡ true → i < length log
  held_within [] zero e = absurd (cc)
  held_within [] (suc i) e = absurd (cc)
  held_within (f ∷ log) zero e = omega arith
  held_within (f ∷ log) (suc i) e = let h = held_within log i e in omega (arith, h)

  pub evidence_within : (log : List E) (seqno : ℕ) → is_evidence_at b (entry_at log seqno) ≡ true → seqno ≤ length log
  evidence_within log zero e = omega arith
  evidence_within log (suc i) e = let h = held_within log i e in omega (arith, h)

  pub snapshot_within : (m : Node E) (seqno : ℕ) → snapshot_of b m ≡ Some seqno → seqno ≤ length m.log
  snapshot_within m seqno is = evidence_within m.log seqno (found_at m.log m.base _ seqno is).1

  pub snapshot_is : (n : Node E) (commit signed : ℕ) (found : Option ℕ) → commit ≡ n.commit → max n.base signed ≡ max n.base (last_signature b (take commit n.log)) → found ≡ greatest_evidence b n.log n.base (signed - 1) → found ≡ snapshot_of b n
  snapshot_is n commit signed found at is reported =
      reported
      ∙ evidence_same n.log n.base signed (last_signature b (take commit n.log)) is
      ∙ ap (λ k. greatest_evidence b n.log n.base (last_signature b (take k n.log) - 1)) at

  -- the node that begins from another one's snapshot
  pub with_snapshot_is : (m n : Node E) (k : ℕ) → k ≤ length m.log → with_snapshot b m k n ≡ begun_from b (take k m.log) n
  with_snapshot_is m n k h =
      let long : length (take k m.log) ≡ k = omega (arith, length-take k m.log, h) in
      ap {B = Node E} (λ v. record (update_view b v n) { log = take k m.log; base = k; commit = k }) (sym (view_within b m.log k k (omega arith)))
      ∙ ap {B = Node E} (λ j. record (update_view b (view_at b (take k m.log) j) n) { log = take k m.log; base = j; commit = j }) (sym long)

  -- the node that begins with a ledger, in its last view where that is later
  pub begun_later : (log : List E) (n : Node E) (v : ℕ) → n.log ≡ [] → v ≡ view_at b log (length log) → n.view < v →
      record n { log = log; base = length log; commit = length log; view = v; vote = None; role = Follower; leader = None; votes = [] } ≡ begun_from b log n
  unfolding enter_view last_signature
  begun_later log n v empty is h =
      let t : nat_lt n.view v ≡ true = grind (arith, nat_tests) in
      ap {B = Node E} (λ l. record n {
        log = log;
        base = length log;
        commit = length log;
        view = v;
        vote = None;
        role = Follower;
        leader = None;
        votes = [];
        cuts = if nat_lt (last_signature b l) (length l) then one_more_cut n.cuts else n.cuts;
      }) (sym empty)
      ∙ ap {B = Node E} (λ u. record (if u then enter_view b v n else n) { log = log; base = length log; commit = length log }) (sym t)
      ∙ ap {B = Node E} (λ w. record (update_view b w n) { log = log; base = length log; commit = length log }) is

  pub begun_here : (log : List E) (n : Node E) (v : ℕ) → v ≡ view_at b log (length log) → v ≤ n.view → record n { log = log; base = length log; commit = length log } ≡ begun_from b log n
  begun_here log n v is h =
      let t : nat_lt n.view v ≡ false = grind (arith, nat_tests) in
      ap {B = Node E} (λ u. record (if u then enter_view b v n else n) { log = log; base = length log; commit = length log }) (sym t)
      ∙ ap {B = Node E} (λ w. record (update_view b w n) { log = log; base = length log; commit = length log }) is

module _ {E Q G R A F : Type 0} (b : Book E Q G R A F) (m n : Node E) where
  pub install_idle : 0 < length n.log → install b m n ≡ idle n
  unfolding install
  install_idle h =
      let t : (length n.log == 0) ≡ false = grind (arith, nat_tests) in
      ap {B = Step E A F} (λ u. if u then install_snapshot b m (snapshot_of b m) n else idle n) t

  empty_is : length n.log ≡ 0 → install b m n ≡ install_snapshot b m (snapshot_of b m) n
  unfolding install
  empty_is h =
      let t : (length n.log == 0) ≡ true = grind (arith, nat_tests) in
      ap {B = Step E A F} (λ u. if u then install_snapshot b m (snapshot_of b m) n else idle n) t

  pub install_none : length n.log ≡ 0 → snapshot_of b m ≡ None → install b m n ≡ refuse n (NoLaterSignature m.commit)
  install_none h is = empty_is h ∙ ap {B = Step E A F} (λ o. install_snapshot b m o n) is

  pub install_some : length n.log ≡ 0 → (seqno : ℕ) → snapshot_of b m ≡ Some seqno → install b m n ≡ quiet (begun_from b (take (seqno - 1) m.log) n) Done
  install_some h seqno is =
      empty_is h
      ∙ ap {B = Step E A F} (λ o. install_snapshot b m o n) is
      ∙ ap {B = Step E A F} (λ k. quiet k Done) (with_snapshot_is b m n (seqno - 1) (let w = snapshot_within b m seqno is in omega (arith, w)))

module _ {S Q G R A F : Type 0} (stands : S → Book Entry Q G R A F → Holding Entry → Type 0) where
  -- a core whose book began from a snapshot
  pub installed : {c : Core S Q G R A F} {b : Book Entry Q G R A F} {x : NodeId} {n : Node Entry} → StandsFor stands c b x n → (book : S) (len : ℕ) (log : List Entry) → len ≡ length log → stands book b (from_snapshot x log) →
      StandsFor stands (record c { book = book; commit = len }) b x (record n { log = log; base = length log; commit = length log })
  installed {c} {b} {x} {n} s book len log is ledger = record {
    ledger = ledger;
    same =
        ap (λ (m : Node Entry). record m { log = log; base = length log; commit = len }) s.same
        ∙ ap {B = Node Entry} (λ k. record n { log = log; base = length log; commit = k }) is;
    above = omega arith;
    matched = s.matched;
    next = s.next;
    within = s.within;
    used = s.used;
    leaves = s.leaves;
  }
