-- The nodes at the start, by their numbers.
use Rattle.std.proofs.Common.{◌≡◌, ◌⊎◌, inl, inr, ⊎_elim, ℕ, zero, suc, ◌+◌, ◌-◌, ◌<◌, ◌≤◌, List, [], ◌∷◌, ◌++◌, length, map, take, Bool, true, false, ◌||◌, nat_le, Some, slice_get, refl, sym, ◌∙◌, ap, subst, arith, if◌then◌else◌}
use Rattle.std.proofs.lemmas.Bool.Decides.{nat_tests}
use Rattle.std.proofs.lemmas.Bool.{cases_lt}
use Rattle.std.proofs.lemmas.List.{length-append}
use Rattle.std.specs.declared.alloc.Global.{Global}
use Rattle.std.specs.declared.vec.Vec.{Vec}
use Rattle.gl_entry.specs.declared.entry.Entry.{Entry}
use Rattle.gl_rules.specs.Identity.{NodeId, same, member}
use Rattle.gl_rules.specs.World.{begin, joiner, leader_at_start, node_at_start, starter}
use Rattle.gl_rules.specs.Node.{Node}
use Rattle.gl_rules.proofs.Ids.{same_self}
use Rattle.gl_ledger.specs.LedgerBook.{ServiceBook}
use Rattle.gl_election.specs.Bridge.{seen_message}
use Rattle.gl_replication.specs.Holding.{Holding}
use Rattle.gl_replication.specs.Stands.{StandsFor}
use Rattle.gl_world.specs.declared.settings.Settings.{Settings}
use Rattle.gl_world.specs.AtStart.{AreAtStart, held_at_start}
use Rattle.gl_world.specs.Founding.{id_of, numbers_from}
use Rattle.gl_world.specs.Group.{IsGroup, book_of}
use Rattle.gl_world.specs.declared.world.nodes.Nodes.{Nodes}
use Rattle.gl_world.specs.Running.{IsRunning}
use Rattle.gl_world.specs.World.{start_of}
use Rattle.gl_world.specs.WorldNodes.{ServiceCore, StandsAs}
use Rattle.gl_world.proofs.NodeIds.{numbers_apart}
use Rattle.gl_world.proofs.Numbers.{member_made}
use Rattle.gl_world.proofs.Reached.{reached_first}

-- what is made of a number is among those made
member_number : (f : ℕ → NodeId) (first count number : ℕ) → first ≤ number → number < first + count → member (f number) (map f (numbers_from first count)) ≡ true
member_number f first zero number low high = absurd (omega arith)
member_number f first (suc count) number low high = ⊎_elim
    (λ (h : number ≤ first). here (omega arith))
    (λ (h : first < number). later (same (f number) (f first)) (member_number f (suc first) count number h (omega arith)))
    (either_way (cases_lt first number))
  where
    either_way : (first < number) ⊎ (number ≤ first) → (number ≤ first) ⊎ (first < number)
    either_way (inl h) = inr h
    either_way (inr h) = inl h

    here : number ≡ first → (same (f number) (f first) || member (f number) (map f (numbers_from (suc first) count))) ≡ true
    here is = ap (λ (t : Bool). t || member (f number) (map f (numbers_from (suc first) count))) (ap (λ (k : ℕ). same (f number) (f k)) (sym is) ∙ same_self (f number))

    later : (t : Bool) → member (f number) (map f (numbers_from (suc first) count)) ≡ true → (t || member (f number) (map f (numbers_from (suc first) count))) ≡ true
    later true e = refl
    later false e = e

-- ---- what each number begins with

pub first_node : (s : Settings) → node_at_start (start_of s) (id_of s 1) ≡ leader_at_start (start_of s)
first_node s = ap (λ (t : Bool). if t then leader_at_start (start_of s) else (if member (id_of s 1) (start_of s).starting then starter (start_of s) else joiner)) (same_self (id_of s 1))

module _ (s : Settings) (h : IsGroup s) where
  is_other : (number : ℕ) → 2 ≤ number → number ≤ s.starting + s.joiners → same (id_of s number) (id_of s 1) ≡ false
  is_other number low high = go (same (id_of s number) (id_of s 1)) refl
    where
      go : (t : Bool) → same (id_of s number) (id_of s 1) ≡ t → t ≡ false
      go false e = refl
      go true e =
          let back : same (id_of s (suc (number - 1))) (id_of s (suc 0)) ≡ true = subst (λ (k : ℕ). same (id_of s k) (id_of s 1) ≡ true) (omega arith) e in
          let is = numbers_apart s h (number - 1) 0 (omega arith) (omega arith) back in
          absurd (omega (arith, is))

  other_node : (number : ℕ) → 2 ≤ number → number ≤ s.starting + s.joiners →
      node_at_start (start_of s) (id_of s number) ≡ (if member (id_of s number) (start_of s).starting then starter (start_of s) else joiner)
  other_node number low high =
      ap (λ (t : Bool). if t then leader_at_start (start_of s) else (if member (id_of s number) (start_of s).starting then starter (start_of s) else joiner)) (is_other number low high)

  pub starting_node : (number : ℕ) → 2 ≤ number → number ≤ s.starting → node_at_start (start_of s) (id_of s number) ≡ starter (start_of s)
  starting_node number low high =
      other_node number low (omega arith)
      ∙ ap (λ (t : Bool). if t then starter (start_of s) else joiner) (member_number (id_of s) 1 s.starting number (omega arith) (omega arith))

  pub joining_node : (number : ℕ) → s.starting < number → number ≤ s.starting + s.joiners → node_at_start (start_of s) (id_of s number) ≡ joiner
  joining_node number low high =
      other_node number (omega (arith, h.first)) high ∙ ap (λ (t : Bool). if t then starter (start_of s) else joiner) (absent (member (id_of s number) (start_of s).starting) refl)
    where
      absent : (t : Bool) → member (id_of s number) (start_of s).starting ≡ t → t ≡ false
      absent false e = refl
      absent true e =
          let m = member_made (id_of s) (id_of s number) 1 s.starting e in
          let one : same (id_of s (suc (m.0 - 1))) (id_of s (suc (number - 1))) ≡ true =
          subst (λ (k : ℕ). same (id_of s k) (id_of s (suc (number - 1))) ≡ true) (omega (arith, m.1))
          (subst (λ (k : ℕ). same (id_of s m.0) (id_of s k) ≡ true) (omega arith)
          (subst (λ (x : NodeId). same (id_of s m.0) x ≡ true) m.3 (same_self (id_of s m.0)))) in
          let is = numbers_apart s h (m.0 - 1) (number - 1) (omega (arith, m.1, m.2)) (omega arith) one in
          absurd (omega (arith, is, m.1, m.2))

  -- a node that starts holds the opening, and one that joins nothing
  pub starting_log : (number : ℕ) → number ≤ s.starting → (held_at_start s number).log ≡ (start_of s).opening
  starting_log number high =
      let is : nat_le number s.starting ≡ true = grind (arith, nat_tests) in
      ap (λ (t : Bool). if t then (start_of s).opening else []) is

  pub joining_log : (number : ℕ) → s.starting < number → (held_at_start s number).log ≡ []
  joining_log number low =
      let is : nat_le number s.starting ≡ false = grind (arith, nat_tests) in
      ap (λ (t : Bool). if t then (start_of s).opening else []) is

-- what stands after a list
pub suffix : {A : Type 0} (xs ys : List A) (y : A) → slice_get (xs ++ y ∷ ys) (length xs) ≡ Some y
suffix [] ys y = refl
suffix (x ∷ xs) ys y = suffix xs ys y

-- ---- the cores with which nodes start

module _ {S : Type 0} (stands : S → ServiceBook → Holding Entry → Type 0) (s : Settings) where
  -- the core of a node as it starts
  pub stood_first : (h : IsGroup s) (c : ServiceCore S) → StandsFor stands c (book_of s) (id_of s 1) (leader_at_start (start_of s)) → StandsFor stands c (book_of s) (id_of s 1) (node_at_start (start_of s) (id_of s 1))
  stood_first h c stood = subst (λ (n : Node Entry). StandsFor stands c (book_of s) (id_of s 1) n) (sym (first_node s)) stood

  pub stood_starting : (h : IsGroup s) (c : ServiceCore S) (number : ℕ) → 2 ≤ number → number ≤ s.starting → StandsFor stands c (book_of s) (id_of s number) (starter (start_of s)) →
      StandsFor stands c (book_of s) (id_of s number) (node_at_start (start_of s) (id_of s number))
  stood_starting h c number low high stood = subst (λ (n : Node Entry). StandsFor stands c (book_of s) (id_of s number) n) (sym (starting_node s h number low high)) stood

  pub stood_joining : (h : IsGroup s) (c : ServiceCore S) (number : ℕ) → s.starting < number → number ≤ s.starting + s.joiners → StandsFor stands c (book_of s) (id_of s number) joiner →
      StandsFor stands c (book_of s) (id_of s number) (node_at_start (start_of s) (id_of s number))
  stood_joining h c number low high stood = subst (λ (n : Node Entry). StandsFor stands c (book_of s) (id_of s number) n) (sym (joining_node s h number low high)) stood

-- ---- the identifiers of nodes that start

numbers_more : {A : Type 0} (f : ℕ → A) (first count : ℕ) → map f (numbers_from first (suc count)) ≡ map f (numbers_from first count) ++ f (first + count) ∷ []
numbers_more f first zero = ap (λ (k : ℕ). f k ∷ []) (omega arith)
numbers_more {A} f first (suc count) =
    ap (λ (l : List A). f first ∷ l) (numbers_more f (suc first) count)
    ∙ ap (λ (k : ℕ). f first ∷ map f (numbers_from (suc first) count) ++ f k ∷ []) (omega arith)

-- one more
pub one_id : (s : Settings) (i : ℕ) (ids more : List NodeId) (x : NodeId) → ids ≡ map (id_of s) (numbers_from 1 i) → x ≡ id_of s (suc i) → more ≡ ids ++ x ∷ [] → more ≡ map (id_of s) (numbers_from 1 (i + 1))
one_id s i ids more x so_far is grown =
    let place : suc i ≡ 1 + i = omega arith in
    let next : suc i ≡ i + 1 = omega arith in
    grown ∙ ap (λ (l : List NodeId). l ++ x ∷ []) so_far
    ∙ ap (λ (y : NodeId). map (id_of s) (numbers_from 1 i) ++ y ∷ []) (is ∙ ap (id_of s) place)
    ∙ sym (numbers_more (id_of s) 1 i) ∙ ap (λ (k : ℕ). map (id_of s) (numbers_from 1 k)) next

-- ---- what stands below the bases of nodes that start

-- so many lists without entries
abbrev pub AreEmpty : ℕ → List (Vec Entry Global) → Type 0
AreEmpty count lists = (length lists ≡ count) × ((i : ℕ) (kept : Vec Entry Global) → slice_get lists i ≡ Some kept → kept.items ≡ [])

-- one more
pub one_empty : (i : ℕ) (lists more : List (Vec Entry Global)) (new : Vec Entry Global) → AreEmpty i lists → new.items ≡ [] → more ≡ lists ++ new ∷ [] → AreEmpty (i + 1) more
one_empty i lists more new so_far is grown = (
  ap length grown ∙ length-append lists (new ∷ []) ∙ ap (λ (k : ℕ). k + 1) so_far.0,
  λ j kept at_j. each lists j kept so_far.1 (ap (λ l. slice_get l j) (sym grown) ∙ at_j),
)
  where
    each : (ls : List (Vec Entry Global)) (j : ℕ) (kept : Vec Entry Global) → ((l : ℕ) (k : Vec Entry Global) → slice_get ls l ≡ Some k → k.items ≡ []) → slice_get (ls ++ new ∷ []) j ≡ Some kept → kept.items ≡ []
    each [] zero kept all at_j = let same : new ≡ kept = cc in ap (λ (v : Vec Entry Global). v.items) (sym same) ∙ is
    each [] (suc j) kept all at_j = absurd (cc)
    each (l ∷ ls) zero kept all at_j = all zero kept at_j
    each (l ∷ ls) (suc j) kept all at_j = each ls j kept (λ a k at_a. all (suc a) k at_a) at_j

no_base : (s : Settings) (x : NodeId) → (node_at_start (start_of s) x).base ≡ 0
no_base s x = go (same x (start_of s).first) (member x (start_of s).starting)
  where
    go : (t u : Bool) → (if t then leader_at_start (start_of s) else (if u then starter (start_of s) else joiner)).base ≡ 0
    go true u = refl
    go false true = refl
    go false false = refl

module _ {N S : Type 0} (stands : StandsAs N) (s : Settings) where
  -- once all have started they run
  pub all_started : (ns : Nodes N S) → IsGroup s → AreAtStart stands s ns.nodes.items → ns.ids.items ≡ map (id_of s) (numbers_from 1 (length ns.nodes.items)) → AreEmpty (length ns.nodes.items) ns.below.items → ns.sent.items ≡ [] →
      IsRunning stands s ns (begin (start_of s))
  all_started ns h at_start ids empty sent = record {
    group = h;
    ids = ids ∙ ap (λ (k : ℕ). map (id_of s) (numbers_from 1 k)) at_start.count;
    whole = at_start.count;
    stand = at_start.stand;
    below_whole = empty.0 ∙ at_start.count;
    below = λ i kept at_i. empty.1 i kept at_i ∙ ap (λ (k : ℕ). take k (node_at_start (start_of s) (id_of s (suc i))).log) (sym (no_base s (id_of s (suc i))));
    sent = ap (map seen_message) sent;
    few = refl;
    reached = reached_first s;
  }
