-- What a history with a few more actions applied answers, by what it answers without them.
use Rattle.std.proofs.Common.{◌≡◌, ℕ, ◌+◌, List, [], ◌∷◌, ◌++◌, map, reverse, Option, Some, None, is_some, Bool, true, false, not, ◌&&◌, ◌||◌, nat_lt, cond, find, filter_map, count_by, option_map, arith, refl, sym, ap, append-nil, ◌∙◌}
use Rattle.std.specs.List.{list_any}
use Rattle.std.specs.Option.{option_or}
use Rattle.std.proofs.lemmas.List.{map-append, reverse-append, append_assoc}
use Rattle.std.proofs.lemmas.List.Folds.{list_any-append}
use Rattle.std.proofs.lemmas.List.Elements.{filter_map-append}
use Rattle.gl_requests.specs.declared.genesis.NewMember.{NewMember}
use Rattle.gl_requests.specs.declared.genesis.ServiceState.{ServiceState}
use Rattle.gl_requests.specs.declared.genesis.Dealing.{Dealing}
use Rattle.gl_requests.specs.declared.action.Action.{Action}
use Rattle.gl_requests.specs.declared.action.Action.TheVariants as actions
use Rattle.gl_gov_rules.specs.declared.change.RecordedNode.{RecordedNode}
use Rattle.gl_gov_rules.specs.declared.change.Change.TheVariants as changes
use Rattle.gl_gov_rules.specs.declared.change.Changed.{Changed}
use Rattle.gl_gov_rules.specs.declared.refusal.NodeStatus.{NodeStatus}
use Rattle.gl_gov_rules.specs.declared.refusal.NodeStatus.TheVariants as statuses
use Rattle.gl_gov_rules.specs.History.{History, set_by, last_set}
use Rattle.gl_gov_rules.specs.Members.{member_named, members, has_number, member, removes_member, is_removed, is_present, present_count}
use Rattle.gl_gov_rules.specs.Nodes.{nodes, has_id, node, trusts, retires, retirement, is_marked, is_trust_applied, was_trusted, node_status, is_trusted_status, trusted_count}
use Rattle.gl_gov_rules.specs.Service.{sets_dealing, dealing, is_recovery, is_recovered, state_once_open, sets_state, service_state}
use Rattle.gl_gov_rules.specs.Actions.{is_number_used, has_key, is_key_used, with_applied}
use Rattle.gl_gov_rules.proofs.Counting.{one_if, count-cons, count-append, find_passes}
use Rattle.gl_gov_rules.proofs.Finding.{found_at}
use Rattle.gl_gov_rules.proofs.LastSet.{last_set-append, last_set-cons}
use Rattle.gl_gov_decisions.specs.Trial.{applied_at, with_all_applied, takes_in, opens, status_after}

-- ---- whether any of the changes does

any_applied : (p : Changed → Bool) (s : ℕ) (list : List Action) → list_any p (map (applied_at s) list) ≡ list_any (λ a. p (applied_at s a)) list
any_applied p s [] = refl
any_applied p s (a ∷ list) = ap (λ b. p (applied_at s a) || b) (any_applied p s list)

any_with : (p : Changed → Bool) (cs : List Changed) (s : ℕ) (list : List Action) →
    (list_any p cs || list_any (λ a. p (applied_at s a)) list) ≡ list_any p (cs ++ map (applied_at s) list)
any_with p cs s list = ap (λ b. list_any p cs || b) (sym (any_applied p s list)) ∙ sym (list_any-append p cs (map (applied_at s) list))

-- ---- members

abbrev named : Changed → Option NewMember
named c = member_named c.change

any_named : (p : NewMember → Bool) (s : ℕ) (list : List Action) → list_any p (filter_map named (map (applied_at s) list)) ≡ list_any (takes_in p) list
any_named p s [] = refl
any_named p s (actions.SetMember m ∷ list) = ap (λ b. p m || b) (any_named p s list)
any_named p s (actions.RemoveMember n ∷ list) = any_named p s list
any_named p s (actions.SetRecoveryThreshold d ∷ list) = any_named p s list
any_named p s (actions.TransitionNodeToTrusted id ∷ list) = any_named p s list
any_named p s (actions.RemoveNode id ∷ list) = any_named p s list
any_named p s (actions.TransitionServiceToOpen ∷ list) = any_named p s list
any_named p s (actions.SetConstitution rules ∷ list) = any_named p s list

-- an action that takes in nobody who passes doesn't count
passed : (p : NewMember → Bool) (a : Action) (list : List Action) → takes_in p a ≡ false → count_by (takes_in p) list ≡ count_by (takes_in p) (a ∷ list)
passed p a list fails =
    let none : one_if (takes_in p a) ≡ 0 = ap one_if fails in
    omega (arith, count-cons (takes_in p) a list, none)

count_named : (p : NewMember → Bool) (s : ℕ) (list : List Action) → count_by p (filter_map named (map (applied_at s) list)) ≡ count_by (takes_in p) list
count_named p s [] = refl
count_named p s (actions.SetMember m ∷ list) =
    count-cons p m (filter_map named (map (applied_at s) list))
    ∙ ap (λ n. one_if (p m) + n) (count_named p s list)
    ∙ sym (count-cons (takes_in p) (actions.SetMember m) list)
count_named p s (actions.RemoveMember n ∷ list) = count_named p s list ∙ passed p (actions.RemoveMember n) list refl
count_named p s (actions.SetRecoveryThreshold d ∷ list) = count_named p s list ∙ passed p (actions.SetRecoveryThreshold d) list refl
count_named p s (actions.TransitionNodeToTrusted id ∷ list) = count_named p s list ∙ passed p (actions.TransitionNodeToTrusted id) list refl
count_named p s (actions.RemoveNode id ∷ list) = count_named p s list ∙ passed p (actions.RemoveNode id) list refl
count_named p s (actions.TransitionServiceToOpen ∷ list) = count_named p s list ∙ passed p actions.TransitionServiceToOpen list refl
count_named p s (actions.SetConstitution rules ∷ list) = count_named p s list ∙ passed p (actions.SetConstitution rules) list refl

members_with : (h : History) (s : ℕ) (list : List Action) → members (with_all_applied h s list) ≡ members h ++ filter_map named (map (applied_at s) list)
unfolding members
members_with h s list = filter_map-append named h.changes (map (applied_at s) list)

any_member : (p : NewMember → Bool) (h : History) (s : ℕ) (list : List Action) →
    (list_any p (members h) || list_any (takes_in p) list) ≡ list_any p (members (with_all_applied h s list))
any_member p h s list =
    ap (λ b. list_any p (members h) || b) (sym (any_named p s list))
    ∙ sym (list_any-append p (members h) (filter_map named (map (applied_at s) list)))
    ∙ ap (list_any p) (sym (members_with h s list))

pub number_used : (h : History) (s : ℕ) (list : List Action) (number : ℕ) →
    (list_any (has_number number) (members h) || list_any (takes_in (has_number number)) list) ≡ is_number_used (with_all_applied h s list) number
unfolding is_number_used
number_used h s list number = any_member (has_number number) h s list

pub key_used : (h : History) (s : ℕ) (list : List Action) (key : List ℕ) →
    (list_any (has_key key) (members h) || list_any (takes_in (has_key key)) list) ≡ is_key_used (with_all_applied h s list) key
unfolding is_key_used
key_used h s list key = any_member (has_key key) h s list

pub removed : (h : History) (s : ℕ) (list : List Action) (number : ℕ) →
    (is_removed h number || list_any (λ a. removes_member number (changes.Applied a)) list) ≡ is_removed (with_all_applied h s list) number
unfolding is_removed
removed h s list number = any_with (λ (c : Changed). removes_member number c.change) h.changes s list

-- present is who has the number and was not removed
present : (h : History) (number : ℕ) → (is_number_used h number && not (is_removed h number)) ≡ is_present h number
unfolding is_present member is_number_used
present h number = ap (λ b. b && not (is_removed h number)) (sym (find_passes (has_number number) (members h)))

pub present_named : (h : History) (number : ℕ) → is_number_used h number ≡ true → not (is_removed h number) ≡ is_present h number
present_named h number used = ap (λ b. b && not (is_removed h number)) (sym used) ∙ present h number

pub present_unnamed : (h : History) (number : ℕ) → is_number_used h number ≡ false → false ≡ is_present h number
present_unnamed h number unused = ap (λ b. b && not (is_removed h number)) (sym unused) ∙ present h number

pub present_counted : (h : History) (s : ℕ) (list : List Action) →
    count_by (λ (m : NewMember). is_present (with_all_applied h s list) m.number) (members h)
    + count_by (takes_in (λ (m : NewMember). is_present (with_all_applied h s list) m.number)) list ≡ present_count (with_all_applied h s list)
unfolding present_count
present_counted h s list =
    let passes : NewMember → Bool = λ (m : NewMember). is_present (with_all_applied h s list) m.number in
    ap (λ n. count_by passes (members h) + n) (sym (count_named passes s list))
    ∙ sym (count-append passes (members h) (filter_map named (map (applied_at s) list)))
    ∙ ap (count_by passes) (sym (members_with h s list))

-- ---- nodes

same_nodes : (h : History) (s : ℕ) (list : List Action) → nodes h ≡ nodes (with_all_applied h s list)
unfolding nodes
same_nodes h s list = refl

pub same_node : (h : History) (s : ℕ) (list : List Action) (id : List ℕ) → node h id ≡ node (with_all_applied h s list) id
unfolding node
same_node h s list id = ap (find (has_id id)) (same_nodes h s list)

same_marked : (h : History) (s : ℕ) (list : List Action) (id : List ℕ) → is_marked h id ≡ is_marked (with_all_applied h s list) id
unfolding is_marked
same_marked h s list id = refl

retired_with : (h : History) (s : ℕ) (list : List Action) (n : RecordedNode) →
    (is_some (retirement h n) || list_any (λ a. nat_lt n.seqno s && retires n.id (changes.Applied a)) list) ≡ is_some (retirement (with_all_applied h s list) n)
unfolding retirement
retired_with h s list n =
    let p : Changed → Bool = λ (c : Changed). nat_lt n.seqno c.seqno && retires n.id c.change in
    ap (λ b. b || list_any (λ a. p (applied_at s a)) list) (find_passes p h.changes) ∙ any_with p h.changes s list
    ∙ sym (find_passes p (h.changes ++ map (applied_at s) list))

trusted_with : (h : History) (s : ℕ) (list : List Action) (n : RecordedNode) →
    (was_trusted h n || list_any (λ a. trusts n.id (changes.Applied a)) list) ≡ was_trusted (with_all_applied h s list) n
unfolding was_trusted is_trust_applied
trusted_with h s list n = by n.is_founding _ _ _ (any_with (λ (c : Changed). trusts n.id c.change) h.changes s list)
  where
    by : (b x y z : Bool) → (x || y) ≡ z → ((b || x) || y) ≡ (b || z)
    by true x y z e = refl
    by false x y z e = e

pub status : (h : History) (s : ℕ) (list : List Action) (n : RecordedNode) →
    status_after (list_any (λ a. nat_lt n.seqno s && retires n.id (changes.Applied a)) list) (list_any (λ a. trusts n.id (changes.Applied a)) list) (node_status h n)
    ≡ node_status (with_all_applied h s list) n
unfolding node_status
status h s list n =
    by (is_marked h n.id) (is_some (retirement h n)) (was_trusted h n)
    (list_any (λ a. nat_lt n.seqno s && retires n.id (changes.Applied a)) list)
    (list_any (λ a. trusts n.id (changes.Applied a)) list)
    ∙ rw (same_marked h s list n.id, retired_with h s list n, trusted_with h s list n) refl
  where
    kept : Bool → Bool → Bool → NodeStatus
    kept marked gone trust = cond marked statuses.Marked (cond gone statuses.Retired (cond trust statuses.Trusted statuses.Pending))

    by : (marked gone trust retired now : Bool) → status_after retired now (kept marked gone trust) ≡ kept marked (gone || retired) (trust || now)
    by true gone trust retired now = refl
    by false true trust retired now = refl
    by false false true true now = refl
    by false false true false now = refl
    by false false false true now = refl
    by false false false false true = refl
    by false false false false false = refl

pub trusted_counted : (h : History) (s : ℕ) (list : List Action) →
    count_by (λ (n : RecordedNode). is_trusted_status (node_status (with_all_applied h s list) n)) (nodes h) ≡ trusted_count (with_all_applied h s list)
unfolding trusted_count
trusted_counted h s list =
    ap (count_by (λ (n : RecordedNode). is_trusted_status (node_status (with_all_applied h s list) n))) (same_nodes h s list)

-- ---- the dealing

found_applied : (p : Changed → Bool) (s : ℕ) (list : List Action) → find p (map (applied_at s) list) ≡ option_map (applied_at s) (find (λ a. p (applied_at s a)) list)
found_applied p s [] = refl
found_applied p s (a ∷ list) = by (p (applied_at s a)) (found_applied p s list)
  where
    by : (b : Bool) → find p (map (applied_at s) list) ≡ option_map (applied_at s) (find (λ a. p (applied_at s a)) list) →
        cond b (Some (applied_at s a)) (find p (map (applied_at s) list)) ≡ option_map (applied_at s) (cond b (Some a) (find (λ a. p (applied_at s a)) list))
    by true e = refl
    by false e = e

reverse_map : (s : ℕ) (list : List Action) → reverse (map (applied_at s) list) ≡ map (applied_at s) (reverse list)
reverse_map s [] = refl
reverse_map s (a ∷ list) =
    reverse-append (applied_at s a ∷ []) (map (applied_at s) list)
    ∙ ap (λ (cs : List Changed). cs ++ applied_at s a ∷ []) (reverse_map s list)
    ∙ sym (map-append (applied_at s) (reverse list) (a ∷ []))
    ∙ ap (map (applied_at s)) (sym (reverse-append (a ∷ []) list))

abbrev deals : Action → Bool
deals a = is_some (sets_dealing (changes.Applied a))

last_dealt : (s : ℕ) (list : List Action) → last_set sets_dealing (map (applied_at s) list) ≡ set_by sets_dealing (option_map (applied_at s) (find deals (reverse list)))
last_dealt s list =
    let p : Changed → Bool = λ (c : Changed). is_some (sets_dealing c.change) in
    ap (λ (cs : List Changed). set_by sets_dealing (find p cs)) (reverse_map s list) ∙ ap (set_by sets_dealing) (found_applied p s (reverse list))

pub dealt_before : (h : History) (s : ℕ) (list : List Action) → find deals (reverse list) ≡ None → dealing h ≡ dealing (with_all_applied h s list)
unfolding dealing
dealt_before h s list none =
    sym (
    last_set-append sets_dealing h.changes (map (applied_at s) list)
    ∙ ap (λ (o : Option Dealing). option_or o (last_set sets_dealing h.changes))
    (last_dealt s list ∙ ap (λ (o : Option Action). set_by sets_dealing (option_map (applied_at s) o)) none)
    )

pub dealt_last : (h : History) (s : ℕ) (list : List Action) (a : Action) → find deals (reverse list) ≡ Some a → sets_dealing (changes.Applied a) ≡ dealing (with_all_applied h s list)
unfolding dealing
dealt_last h s list a is =
    sym (
    last_set-append sets_dealing h.changes (map (applied_at s) list)
    ∙ ap (λ (o : Option Dealing). option_or o (last_set sets_dealing h.changes))
    (last_dealt s list ∙ ap (λ (o : Option Action). set_by sets_dealing (option_map (applied_at s) o)) is)
    ∙ own (sets_dealing (changes.Applied a)) (last_set sets_dealing h.changes) (found_at deals (reverse list) a is).passes
    )
  where
    own : (o p : Option Dealing) → is_some o ≡ true → option_or o p ≡ o
    own None p there = absurd cc
    own (Some x) p there = refl

-- ---- the service's state

same_recovered : (h : History) (s : ℕ) (list : List Action) → is_recovered h ≡ is_recovered (with_all_applied h s list)
unfolding is_recovered
same_recovered h s list =
    onto (list_any (λ (c : Changed). is_recovery c.change) h.changes) (none list)
    ∙ any_with (λ (c : Changed). is_recovery c.change) h.changes s list
  where
    none : (list : List Action) → false ≡ list_any (λ (a : Action). false) list
    none [] = refl
    none (a ∷ list) = none list

    onto : (b : Bool) {c : Bool} → false ≡ c → b ≡ (b || c)
    onto true e = refl
    onto false e = e

abbrev opened : Bool → Bool → Option ServiceState
opened recovered opening = cond opening (Some (state_once_open recovered)) None

state_set : (recovered : Bool) (a : Action) → sets_state recovered (changes.Applied a) ≡ opened recovered (opens a)
state_set recovered (actions.SetMember m) = refl
state_set recovered (actions.RemoveMember n) = refl
state_set recovered (actions.SetRecoveryThreshold d) = refl
state_set recovered (actions.TransitionNodeToTrusted id) = refl
state_set recovered (actions.RemoveNode id) = refl
state_set recovered actions.TransitionServiceToOpen = refl
state_set recovered (actions.SetConstitution rules) = refl

last_opened : (recovered : Bool) (s : ℕ) (list : List Action) → last_set (sets_state recovered) (map (applied_at s) list) ≡ opened recovered (list_any opens list)
last_opened recovered s [] = refl
last_opened recovered s (a ∷ list) =
    last_set-cons (sets_state recovered) (applied_at s a) (map (applied_at s) list)
    ∙ rw (last_opened recovered s list, state_set recovered a) (by (opens a) (list_any opens list))
  where
    by : (b c : Bool) → option_or (opened recovered c) (opened recovered b) ≡ opened recovered (b || c)
    by true true = refl
    by true false = refl
    by false true = refl
    by false false = refl

state_with : (h : History) (s : ℕ) (list : List Action) → option_or (opened (is_recovered h) (list_any opens list)) (service_state h) ≡ service_state (with_all_applied h s list)
unfolding service_state
state_with h s list =
    ap (λ (o : Option ServiceState). option_or o (last_set (sets_state (is_recovered h)) h.changes)) (sym (last_opened (is_recovered h) s list))
    ∙ sym (last_set-append (sets_state (is_recovered h)) h.changes (map (applied_at s) list))
    ∙ ap (λ b. last_set (sets_state b) (h.changes ++ map (applied_at s) list)) (same_recovered h s list)

pub state_before : (h : History) (s : ℕ) (list : List Action) → list_any opens list ≡ false → service_state h ≡ service_state (with_all_applied h s list)
state_before h s list none = ap (λ b. option_or (opened (is_recovered h) b) (service_state h)) (sym none) ∙ state_with h s list

pub state_opened : (h : History) (s : ℕ) (list : List Action) → list_any opens list ≡ true → Some (state_once_open (is_recovered h)) ≡ service_state (with_all_applied h s list)
state_opened h s list some = ap (λ b. option_or (opened (is_recovered h) b) (service_state h)) (sym some) ∙ state_with h s list

-- The service's state after some actions, whether one of them opens it or not.
pub ruleset state_after = (state_before, state_opened)

-- ---- one more action

pub one_more : (h : History) (s : ℕ) (list : List Action) (a : Action) → with_all_applied h s (list ++ a ∷ []) ≡ with_applied (with_all_applied h s list) s a
one_more h s list a =
    ap (λ (cs : List Changed). record h { changes = cs }) (ap (λ (cs : List Changed). h.changes ++ cs) (map-append (applied_at s) list (a ∷ [])) ∙ sym (append_assoc h.changes (map (applied_at s) list) (applied_at s a ∷ [])))

pub none_applied : (h : History) (s : ℕ) → with_all_applied h s [] ≡ h
none_applied h s = ap (λ (cs : List Changed). record h { changes = cs }) (append-nil h.changes)
