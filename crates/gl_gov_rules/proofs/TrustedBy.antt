-- Whether a node is trusted, read off the two lists of a history: what keeps a trusted node trusted
-- when a request or changes come after it, and that actions which can be applied in order leave
-- one.
use Rattle.std.proofs.Common.{◌≡◌, ⊎_elim, ℕ, ◌+◌, List, [], ◌∷◌, ◌++◌, map, Some, None, is_some, is_none, Bool, true, false, not, ◌&&◌, ◌||◌, ◌==◌, nat_lt, count_by, slice_get, refl, sym, ◌∙◌, ap, subst, append-nil}
use Rattle.std.specs.List.{list_any}
use Rattle.std.specs.Cmp.Lexicographic.{bytes_decides}
use Rattle.std.proofs.lemmas.Bool.{and_parts, and_from, and_right, or_parts, or_from, not-true, not_from_false, both_ways, cases_Bool}
use Rattle.std.proofs.lemmas.List.Folds.{list_any-append}
use Rattle.gl_base.proofs.Lists.{push-append}
use Rattle.gl_base.specs.Bytes.{same_bytes}
use Rattle.gl_requests.specs.declared.action.Action.{Action}
use Rattle.gl_requests.specs.declared.action.Action.TheVariants as actions
use Rattle.gl_gov_rules.specs.declared.change.Recorded.{Recorded}
use Rattle.gl_gov_rules.specs.declared.change.RecordedNode.{RecordedNode}
use Rattle.gl_gov_rules.specs.declared.change.Change.{Change}
use Rattle.gl_gov_rules.specs.declared.change.Change.TheVariants as changes
use Rattle.gl_gov_rules.specs.declared.change.Changed.{Changed}
use Rattle.gl_gov_rules.specs.declared.refusal.Cause.TheVariants as causes
use Rattle.gl_gov_rules.specs.History.{History, nothing}
use Rattle.gl_gov_rules.specs.Nodes.{nodes, node, trusts, retires, marks, retirement, is_trust_applied, was_trusted, trusted_count}
use Rattle.gl_gov_rules.specs.Actions.{◌orelse◌, where_is, is_pending_node, is_trusted_node, cause_against, at_index, with_applied, first_bad_action}
use Rattle.gl_gov_rules.specs.Changes.{changed_at}
use Rattle.gl_gov_rules.proofs.Counting.{find_passes}
use Rattle.gl_gov_rules.proofs.NoneStands.{none_of, not_bad, no_cause}
use Rattle.gl_gov_rules.proofs.Finding.{At, another}
use Rattle.gl_gov_rules.proofs.Removals.{takes_out, retirement_is}
use Rattle.gl_gov_rules.proofs.NewNodes.{AreDistinct, node_in}
use Rattle.gl_gov_rules.proofs.Statuses.{is_trusted_in, trusted_is}
use Rattle.gl_gov_rules.proofs.NothingCarried.{marked_asked}

-- ---- one node

abbrev pub marked_in : List Recorded → List ℕ → Bool
marked_in rs id = list_any (λ (r : Recorded). marks id r.request) rs

abbrev pub trust_in : List Changed → List ℕ → Bool
trust_in cs id = list_any (λ (c : Changed). trusts id c.change) cs

-- not marked, not out of service, and trusted by a founding or by an action
pub record IsTrusted (rs : List Recorded) (cs : List Changed) (n : RecordedNode) : Type 0 where
  pub unmarked : marked_in rs n.id ≡ false
  pub serves : list_any (takes_out n) cs ≡ false
  pub trust : (n.is_founding || trust_in cs n.id) ≡ true

out_is : (h : History) (n : RecordedNode) → is_some (retirement h n) ≡ list_any (takes_out n) h.changes
out_is h n = ap is_some (retirement_is h n) ∙ find_passes (takes_out n) h.changes

-- where nothing is carried, it is marked by the requests alone
trusted_asked : (h : History) (n : RecordedNode) → h.carried ≡ nothing →
    is_trusted_in h n ≡ (not (marked_in h.requests n.id) && (not (is_some (retirement h n)) && (n.is_founding || trust_in h.changes n.id)))
unfolding was_trusted is_trust_applied
trusted_asked h n bare =
    trusted_is h n ∙ ap (λ (b : Bool). not b && (not (is_some (retirement h n)) && (n.is_founding || trust_in h.changes n.id))) (marked_asked h n.id bare)

pub trusted_read : (h : History) (n : RecordedNode) → h.carried ≡ nothing → is_trusted_in h n ≡ true → IsTrusted h.requests h.changes n
trusted_read h n bare e =
    let a = and_parts (not (marked_in h.requests n.id)) (not (is_some (retirement h n)) && (n.is_founding || trust_in h.changes n.id)) (sym (trusted_asked h n bare) ∙ e) in
    let b = and_parts (not (is_some (retirement h n))) (n.is_founding || trust_in h.changes n.id) a.1 in
    record {
      unmarked = not-true (marked_in h.requests n.id) a.0;
      serves = sym (out_is h n) ∙ not-true (is_some (retirement h n)) b.0;
      trust = b.1;
    }

pub trusted_from : (h : History) (n : RecordedNode) → h.carried ≡ nothing → IsTrusted h.requests h.changes n → is_trusted_in h n ≡ true
trusted_from h n bare t =
    trusted_asked h n bare
    ∙ and_from (not (marked_in h.requests n.id)) (not (is_some (retirement h n)) && (n.is_founding || trust_in h.changes n.id))
    (not_from_false (marked_in h.requests n.id) t.unmarked)
    (and_from (not (is_some (retirement h n))) (n.is_founding || trust_in h.changes n.id) (not_from_false (is_some (retirement h n)) (out_is h n ∙ t.serves)) t.trust)

-- ---- what keeps it

-- a request that doesn't mark it
pub kept_by_request : (rs : List Recorded) (cs : List Changed) (n : RecordedNode) (r : Recorded) → marks n.id r.request ≡ false → IsTrusted rs cs n → IsTrusted (rs ++ r ∷ []) cs n
kept_by_request rs cs n r other t = record {
  unmarked =
      list_any-append (λ (x : Recorded). marks n.id x.request) rs (r ∷ [])
      ∙ or_from (marked_in rs n.id) (marks n.id r.request || false) t.unmarked (or_from (marks n.id r.request) false other refl);
  serves = t.serves;
  trust = t.trust;
}

-- changes that don't take it out of service
pub kept_by_changes : (rs : List Recorded) (cs ds : List Changed) (n : RecordedNode) → list_any (takes_out n) ds ≡ false → IsTrusted rs cs n → IsTrusted rs (cs ++ ds) n
kept_by_changes rs cs ds n none t = record {
  unmarked = t.unmarked;
  serves = list_any-append (takes_out n) cs ds ∙ or_from (list_any (takes_out n) cs) (list_any (takes_out n) ds) t.serves none;
  trust = ap (λ (b : Bool). n.is_founding || b) (list_any-append (λ (c : Changed). trusts n.id c.change) cs ds) ∙ more n.is_founding (trust_in cs n.id) (trust_in ds n.id) t.trust;
}
  where
    more : (a b c : Bool) → (a || b) ≡ true → (a || (b || c)) ≡ true
    more true b c e = refl
    more false true c e = refl
    more false false c e = absurd cc

-- a change between the others that doesn't take it out of service
pub kept_by_between : (rs : List Recorded) (cs ds : List Changed) (d : Changed) (n : RecordedNode) → takes_out n d ≡ false → IsTrusted rs (cs ++ ds) n → IsTrusted rs (cs ++ d ∷ ds) n
kept_by_between rs cs ds d n none t =
    let serve = or_parts (list_any (takes_out n) cs) (list_any (takes_out n) ds) (sym (list_any-append (takes_out n) cs ds) ∙ t.serves) in
    record {
      unmarked = t.unmarked;
      serves =
          list_any-append (takes_out n) cs (d ∷ ds)
          ∙ or_from (list_any (takes_out n) cs) (takes_out n d || list_any (takes_out n) ds) serve.0 (or_from (takes_out n d) (list_any (takes_out n) ds) none serve.1);
      trust =
          ap (λ (b : Bool). n.is_founding || b) (list_any-append (λ (c : Changed). trusts n.id c.change) cs (d ∷ ds))
          ∙ more n.is_founding (trust_in cs n.id) (trusts n.id d.change) (trust_in ds n.id)
          (ap (λ (b : Bool). n.is_founding || b) (sym (list_any-append (λ (c : Changed). trusts n.id c.change) cs ds)) ∙ t.trust);
    }
  where
    more : (a b c e : Bool) → (a || (b || e)) ≡ true → (a || (b || (c || e))) ≡ true
    more true b c e t = refl
    more false true c e t = refl
    more false false true e t = refl
    more false false false e t = t

-- a change at any seqno that retires no node with its identifier
pub harmless : (n : RecordedNode) (s : ℕ) (c : Change) → retires n.id c ≡ false → takes_out n (changed_at s c) ≡ false
harmless n s c e = and_right (nat_lt n.seqno s) (retires n.id c) e

-- ---- some node

-- one of the nodes is trusted
pub record SomeTrusted (ns : List RecordedNode) (rs : List Recorded) (cs : List Changed) : Type 0 where
  pub of : RecordedNode
  pub place : ℕ
  pub stands : slice_get ns place ≡ Some of
  pub is : IsTrusted rs cs of

-- ---- an action

-- the last trusted node isn't removed
not_last : (g : History) (id : List ℕ) → cause_against g (actions.RemoveNode id) ≡ None → (is_trusted_node g (node g id) && (trusted_count g == 1)) ≡ false
unfolding cause_against
not_last g id none =
    let last = where_is (is_trusted_node g (node g id) && (trusted_count g == 1)) causes.LastTrusted in
    let state = where_is (not (is_pending_node g (node g id) || is_trusted_node g (node g id))) causes.NodeStatus in
    not_bad (is_trusted_node g (node g id) && (trusted_count g == 1)) causes.LastTrusted
    (none_of (where_is (is_none (node g id)) causes.NotRecorded orelse state) last none).1

count_is : (g : History) → trusted_count g ≡ count_by (is_trusted_in g) (nodes g)
unfolding trusted_count
count_is g = refl

-- beside a trusted node that can be removed another is trusted
other_trusted : (g : History) (id : List ℕ) (i : ℕ) (n : RecordedNode) → AreDistinct (nodes g) → cause_against g (actions.RemoveNode id) ≡ None →
    slice_get (nodes g) i ≡ Some n → is_trusted_in g n ≡ true → n.id ≡ id → (m : RecordedNode) × (q : At (is_trusted_in g) (nodes g) m) × (q.place ≡ i → ⊥)
other_trusted g id i n apart none at trusted same =
    let found : node g id ≡ Some n = ap (node g) (sym same) ∙ node_in g i n apart at in
    another (is_trusted_in g) (nodes g) i n at trusted
    (λ one.
    both_ways (is_trusted_node g (node g id) && (trusted_count g == 1)) (not_last g id none)
    (and_from (is_trusted_node g (node g id)) (trusted_count g == 1) (ap (is_trusted_node g) found ∙ trusted) (ap (λ (k : ℕ). k == 1) (count_is g ∙ one))))

-- after an action that can be applied some node is trusted where one was
pub apply_kept : (g : History) (s : ℕ) (a : Action) → g.carried ≡ nothing → AreDistinct (nodes g) → cause_against g a ≡ None → SomeTrusted (nodes g) g.requests g.changes →
    SomeTrusted (nodes g) g.requests (g.changes ++ changed_at s (changes.Applied a) ∷ [])
apply_kept g s a bare apart none t = by a none
  where
    one : (n : RecordedNode) (c : Change) → retires n.id c ≡ false → list_any (takes_out n) (changed_at s c ∷ []) ≡ false
    one n c e = or_from (takes_out n (changed_at s c)) false (harmless n s c e) refl

    still : (b : Action) → retires t.of.id (changes.Applied b) ≡ false → SomeTrusted (nodes g) g.requests (g.changes ++ changed_at s (changes.Applied b) ∷ [])
    still b e = record {
      of = t.of;
      place = t.place;
      stands = t.stands;
      is = kept_by_changes g.requests g.changes (changed_at s (changes.Applied b) ∷ []) t.of (one t.of (changes.Applied b) e) t.is;
    }

    another_one : (id : List ℕ) → t.of.id ≡ id → (m : RecordedNode) × (q : At (is_trusted_in g) (nodes g) m) × (q.place ≡ t.place → ⊥) →
        SomeTrusted (nodes g) g.requests (g.changes ++ changed_at s (changes.Applied (actions.RemoveNode id)) ∷ [])
    another_one id same m =
        let differs : same_bytes m.0.id id ≡ false = ⊎_elim
        (λ (e : same_bytes m.0.id id ≡ true). absurd (m.2 (apart m.1.place t.place m.0 t.of m.1.stands t.stands ((bytes_decides m.0.id id).0 e ∙ sym same))))
        (λ (e : same_bytes m.0.id id ≡ false). e)
        (cases_Bool (same_bytes m.0.id id)) in
        record {
          of = m.0;
          place = m.1.place;
          stands = m.1.stands;
          is = kept_by_changes g.requests g.changes (changed_at s (changes.Applied (actions.RemoveNode id)) ∷ []) m.0 (one m.0 (changes.Applied (actions.RemoveNode id)) differs) (trusted_read g m.0 bare m.1.passes);
        }

    by : (b : Action) → cause_against g b ≡ None → SomeTrusted (nodes g) g.requests (g.changes ++ changed_at s (changes.Applied b) ∷ [])
    by (actions.SetMember m) clear = still (actions.SetMember m) refl
    by (actions.RemoveMember number) clear = still (actions.RemoveMember number) refl
    by (actions.SetRecoveryThreshold d) clear = still (actions.SetRecoveryThreshold d) refl
    by (actions.TransitionNodeToTrusted id) clear = still (actions.TransitionNodeToTrusted id) refl
    by (actions.RemoveNode id) clear =
        ⊎_elim
        (λ (e : same_bytes t.of.id id ≡ true).
        let same = (bytes_decides t.of.id id).0 e in
        another_one id same (other_trusted g id t.place t.of apart clear t.stands (trusted_from g t.of bare t.is) same))
        (λ (e : same_bytes t.of.id id ≡ false). still (actions.RemoveNode id) e)
        (cases_Bool (same_bytes t.of.id id))
    by actions.TransitionServiceToOpen clear = still actions.TransitionServiceToOpen refl
    by (actions.SetConstitution rules) clear = still (actions.SetConstitution rules) refl

-- the actions as changes
abbrev pub all_applied : ℕ → List Action → List Changed
all_applied s list = map (changed_at s) (map (λ a. changes.Applied a) list)

nodes_applied : (g : History) (s : ℕ) (a : Action) → nodes g ≡ nodes (with_applied g s a)
unfolding nodes
nodes_applied g s a = refl

-- after actions that can be applied in order, too
pub all_kept : (g : History) (s index : ℕ) (list : List Action) → g.carried ≡ nothing → AreDistinct (nodes g) → first_bad_action g s index list ≡ None → SomeTrusted (nodes g) g.requests g.changes →
    SomeTrusted (nodes g) g.requests (g.changes ++ all_applied s list)
all_kept g s index [] bare apart none t = subst (SomeTrusted (nodes g) g.requests) (sym (append-nil g.changes)) t
all_kept g s index (a ∷ rest) bare apart none t =
    let next : History = with_applied g s a in
    let both = none_of (at_index index (cause_against g a)) (first_bad_action next s (index + 1) rest) none in
    let one = apply_kept g s a bare apart (no_cause index (cause_against g a) both.0) t in
    let same = nodes_applied g s a in
    let rest_kept = all_kept next s (index + 1) rest bare (subst AreDistinct same apart) both.1 (subst (λ (ns : List RecordedNode). SomeTrusted ns next.requests next.changes) same one) in
    subst (SomeTrusted (nodes g) g.requests) (push-append g.changes (changed_at s (changes.Applied a)) (all_applied s rest))
    (subst (λ (ns : List RecordedNode). SomeTrusted ns next.requests (next.changes ++ all_applied s rest)) (sym same) rest_kept)
