-- How many members are present after changes: at most 64 as long as each action was tried, and as
-- many as there are holders of shares at the least.
use Rattle.std.proofs.Common.{◌≡◌, ℕ, suc, ◌+◌, ◌≤◌, ◌<◌, List, [], ◌∷◌, ◌++◌, length, map, None, is_some, Bool, true, false, not, ◌&&◌, ◌||◌, nat_eq, nat_le, nat_lt, find, filter_map, count_by, refl, sym, ◌∙◌, ap, append-nil, subst, arith}
use Rattle.std.specs.List.{list_all, list_any, AllByRecursion}
use Rattle.std.proofs.lemmas.Bool.{and_parts, and_from, or_left, or_right}
use Rattle.std.proofs.lemmas.Bool.Decides.{nat_tests}
use Rattle.std.proofs.lemmas.List.Elements.{filter_map-append}
use Rattle.std.proofs.lemmas.List.Folds.{list_any-append}
use Rattle.std.proofs.lemmas.List.Sums.{count_by-le-length}
use Rattle.gl_base.proofs.Lists.{push-append}
use Rattle.gl_requests.specs.declared.genesis.NewMember.{NewMember}
use Rattle.gl_requests.specs.declared.genesis.ShareDigest.{ShareDigest}
use Rattle.gl_requests.specs.declared.action.Action.{Action}
use Rattle.gl_requests.specs.declared.action.Action.TheVariants as actions
use Rattle.gl_gov_rules.specs.declared.change.Changed.{Changed}
use Rattle.gl_gov_rules.specs.declared.change.ProposalState.{ProposalState}
use Rattle.gl_gov_rules.specs.declared.change.Change.TheVariants as changes
use Rattle.gl_gov_rules.specs.declared.refusal.Cause.TheVariants as causes
use Rattle.gl_gov_rules.specs.History.{History}
use Rattle.gl_gov_rules.specs.Members.{member_named, members, has_number, member, removes_member, is_removed, is_present, present_count}
use Rattle.gl_gov_rules.specs.Actions.{is_below_all, is_ascending, are_present, is_number_used, is_key_used, ◌orelse◌, where_is, cause_against, at_index, with_applied, first_bad_action}
use Rattle.gl_gov_rules.specs.Changes.{changed_at, set_member}
use Rattle.gl_gov_rules.proofs.Counting.{one_if, all_weaker, find_passes, count-cons, count-append, count_alike, count_weaker, count_none, pigeonhole_met}
use Rattle.gl_gov_rules.proofs.NoneStands.{none_of, not_bad, no_cause}

-- ---- the members that are left after changes

abbrev pub members_in : List Changed → List NewMember
members_in cs = filter_map (λ (c : Changed). member_named c.change) cs

abbrev pub removed_in : List Changed → ℕ → Bool
removed_in cs number = list_any (λ (c : Changed). removes_member number c.change) cs

abbrev pub left_of : List NewMember → (ℕ → Bool) → ℕ
left_of ms removed = count_by (λ (m : NewMember). not (removed m.number)) ms

abbrev pub left_in : List Changed → ℕ
left_in cs = left_of (members_in cs) (removed_in cs)

left_alike : (removed gone : ℕ → Bool) → ((number : ℕ) → removed number ≡ gone number) → (ms : List NewMember) → left_of ms removed ≡ left_of ms gone
left_alike removed gone alike ms = count_alike (λ (m : NewMember). not (removed m.number)) (λ (m : NewMember). not (gone m.number)) ms (each ms)
  where
    each : (ns : List NewMember) → AllByRecursion (λ (m : NewMember). not (removed m.number) ≡ not (gone m.number)) ns
    each [] = tt
    each (m ∷ ns) = (ap not (alike m.number), each ns)

-- ---- those that are present are those that are left

-- each member has a number that a member has
numbers_there : (ms : List NewMember) → list_all (λ (m : NewMember). list_any (has_number m.number) ms) ms ≡ true
numbers_there [] = refl
numbers_there (m ∷ ms) =
    let own : nat_eq m.number m.number ≡ true = grind (arith, nat_tests) in
    and_from _ _ (or_left _ _ own)
    (all_weaker (λ (n : NewMember). list_any (has_number n.number) ms) (λ (n : NewMember). list_any (has_number n.number) (m ∷ ms)) (λ n e. or_right (has_number n.number m) _ e) ms (numbers_there ms))

present_is : (h : History) (ms : List NewMember) → list_all (λ (m : NewMember). list_any (has_number m.number) (members h)) ms ≡ true →
    AllByRecursion (λ (m : NewMember). is_present h m.number ≡ not (removed_in h.changes m.number)) ms
unfolding is_present is_removed member
present_is h [] all = tt
present_is h (m ∷ ms) all =
    let both = and_parts (list_any (has_number m.number) (members h)) _ all in
    (ap (λ b. b && not (removed_in h.changes m.number)) (find_passes (has_number m.number) (members h) ∙ both.0), present_is h ms both.1)

pub present_count-left : (h : History) → present_count h ≡ left_in h.changes
unfolding present_count members
present_count-left h =
    count_alike (λ (m : NewMember). is_present h m.number) (λ (m : NewMember). not (removed_in h.changes m.number)) (members h)
    (present_is h (members h) (numbers_there (members h)))

-- ---- holders of shares

-- none of those after a number has it
others_differ : (number : ℕ) (shares : List ShareDigest) → is_below_all number shares ≡ true → list_all (λ (s : ShareDigest). not (nat_eq number s.member)) shares ≡ true
others_differ number shares below =
    all_weaker (λ (s : ShareDigest). nat_lt number s.member) (λ (s : ShareDigest). not (nat_eq number s.member)) (λ s e. differ number s.member e) shares below
  where
    differ : (a b : ℕ) → nat_lt a b ≡ true → not (nat_eq a b) ≡ true
    differ a b e = grind (arith, nat_tests)

-- at most one of the shares is for a member, and only if it passes as all holders do
holds_one : (passes : ℕ → Bool) (number : ℕ) (shares : List ShareDigest) → is_ascending shares ≡ true → list_all (λ (s : ShareDigest). passes s.member) shares ≡ true →
    count_by (λ (s : ShareDigest). nat_eq number s.member) shares ≤ one_if (passes number)
holds_one passes number [] ascending all = omega arith
holds_one passes number (s ∷ shares) ascending all =
    let order = and_parts (is_below_all s.member shares) (is_ascending shares) ascending in
    let both = and_parts (passes s.member) (list_all (λ (t : ShareDigest). passes t.member) shares) all in
    pick (nat_eq number s.member) refl order.0 both.0 (holds_one passes number shares order.1 both.1)
  where
    rest : ℕ
    rest = count_by (λ (t : ShareDigest). nat_eq number t.member) shares

    pick : (b : Bool) → nat_eq number s.member ≡ b → is_below_all s.member shares ≡ true → passes s.member ≡ true → rest ≤ one_if (passes number) →
        count_by (λ (t : ShareDigest). nat_eq number t.member) (s ∷ shares) ≤ one_if (passes number)
    pick true e below pass others =
        let same : number ≡ s.member = grind (arith, nat_tests) in
        let none = count_none (λ (t : ShareDigest). nat_eq number t.member) shares (rw same (others_differ s.member shares below)) in
        omega (arith, count-cons (λ (t : ShareDigest). nat_eq number t.member) s shares, ap one_if e, none, ap one_if (ap passes same ∙ pass))
    pick false e below pass others = omega (arith, count-cons (λ (t : ShareDigest). nat_eq number t.member) s shares, ap one_if e, others)

-- what is present is the number of a member
member_there : (h : History) (number : ℕ) → is_present h number ≡ true → list_any (has_number number) (members h) ≡ true
unfolding is_present member
member_there h number e = sym (find_passes (has_number number) (members h)) ∙ (and_parts (is_some (find (has_number number) (members h))) _ e).0

-- there are no more shares for members that are present, in ascending order, than those members
pub shares_within : (h : History) (shares : List ShareDigest) → is_ascending shares ≡ true → are_present h shares ≡ true → length shares ≤ present_count h
unfolding are_present present_count
shares_within h shares ascending present =
    pigeonhole_met (λ (m : NewMember). is_present h m.number) (λ (m : NewMember) (s : ShareDigest). has_number s.member m) shares (members h)
    (λ m. holds_one (is_present h) m.number shares ascending present)
    (all_weaker (λ (s : ShareDigest). is_present h s.member) (λ (s : ShareDigest). list_any (has_number s.member) (members h)) (λ s e. member_there h s.member e) shares present)

-- ---- more changes

left_append : (cs ds : List Changed) → left_in (cs ++ ds) ≡ left_of (members_in cs ++ members_in ds) (λ number. removed_in cs number || removed_in ds number)
left_append cs ds =
    ap (λ ms. left_of ms (removed_in (cs ++ ds))) (filter_map-append (λ (c : Changed). member_named c.change) cs ds)
    ∙ left_alike (removed_in (cs ++ ds)) (λ number. removed_in cs number || removed_in ds number)
    (λ number. list_any-append (λ (c : Changed). removes_member number c.change) cs ds) (members_in cs ++ members_in ds)

-- no more are left than there were, and those that are new
pub left_more : (cs ds : List Changed) → left_in (cs ++ ds) ≤ left_in cs + length (members_in ds)
left_more cs ds =
    let gone : ℕ → Bool = λ number. removed_in cs number || removed_in ds number in
    omega (
      arith,
      left_append cs ds,
      count-append (λ (m : NewMember). not (gone m.number)) (members_in cs) (members_in ds),
      count_weaker (λ (m : NewMember). not (gone m.number)) (λ (m : NewMember). not (removed_in cs m.number)) (λ m. fewer (removed_in cs m.number) (removed_in ds m.number)) (members_in cs),
      count_by-le-length (λ (m : NewMember). not (gone m.number)) (members_in ds),
    )
  where
    fewer : (a b : Bool) → one_if (not (a || b)) ≤ one_if (not a)
    fewer true b = omega arith
    fewer false true = omega arith
    fewer false false = omega arith

-- the settling of a proposal between changes makes no difference
pub settled_between : (cs ds : List Changed) (seqno : ℕ) (id : List ℕ) (state : ProposalState) → left_in (cs ++ changed_at seqno (changes.Settled id state) ∷ ds) ≡ left_in (cs ++ ds)
settled_between cs ds seqno id state = left_append cs (changed_at seqno (changes.Settled id state) ∷ ds) ∙ sym (left_append cs ds)

-- those that a founding names
pub founding_members : (seqno : ℕ) (ms : List NewMember) → length (members_in (map (changed_at seqno) (map set_member ms))) ≡ length ms
founding_members seqno [] = refl
founding_members seqno (m ∷ ms) = ap suc (founding_members seqno ms)

-- ---- actions that are tried in order

-- a member can be set where there is room for it
room_left : (h : History) (m : NewMember) → cause_against h (actions.SetMember m) ≡ None → nat_le 64 (present_count h) ≡ false
unfolding cause_against
room_left h m none =
    let full = where_is (nat_le 64 (present_count h)) causes.Full in
    let used = where_is (is_number_used h m.number) causes.NumberUsed orelse where_is (is_key_used h m.key) causes.KeyUsed in
    not_bad (nat_le 64 (present_count h)) causes.Full (none_of used full none).1

-- after an action that can be applied no more than 64 are left
pub left_applied : (h : History) (seqno : ℕ) (a : Action) → cause_against h a ≡ None → left_in h.changes ≤ 64 → left_in (h.changes ++ changed_at seqno (changes.Applied a) ∷ []) ≤ 64
left_applied h seqno (actions.SetMember m) none few =
    let full = room_left h m none in
    let room : present_count h < 64 = grind (arith, nat_tests) in
    omega (arith, left_more h.changes (changed_at seqno (changes.Applied (actions.SetMember m)) ∷ []), present_count-left h, room)
left_applied h seqno (actions.RemoveMember number) none few = omega (arith, left_more h.changes (changed_at seqno (changes.Applied (actions.RemoveMember number)) ∷ []))
left_applied h seqno (actions.SetRecoveryThreshold d) none few = omega (arith, left_more h.changes (changed_at seqno (changes.Applied (actions.SetRecoveryThreshold d)) ∷ []))
left_applied h seqno (actions.TransitionNodeToTrusted id) none few = omega (arith, left_more h.changes (changed_at seqno (changes.Applied (actions.TransitionNodeToTrusted id)) ∷ []))
left_applied h seqno (actions.RemoveNode id) none few = omega (arith, left_more h.changes (changed_at seqno (changes.Applied (actions.RemoveNode id)) ∷ []))
left_applied h seqno actions.TransitionServiceToOpen none few = omega (arith, left_more h.changes (changed_at seqno (changes.Applied actions.TransitionServiceToOpen) ∷ []))
left_applied h seqno (actions.SetConstitution rules) none few = omega (arith, left_more h.changes (changed_at seqno (changes.Applied (actions.SetConstitution rules)) ∷ []))

-- the actions that are applied by the entry with a seqno, as changes
abbrev pub all_applied : ℕ → List Action → List Changed
all_applied seqno list = map (changed_at seqno) (map (λ a. changes.Applied a) list)

pub left_tried : (h : History) (seqno index : ℕ) (list : List Action) → first_bad_action h seqno index list ≡ None → left_in h.changes ≤ 64 → left_in (h.changes ++ all_applied seqno list) ≤ 64
left_tried h seqno index [] none few = rw append-nil few
left_tried h seqno index (a ∷ rest) none few =
    let both = none_of (at_index index (cause_against h a)) (first_bad_action (with_applied h seqno a) seqno (index + 1) rest) none in
    let one = left_applied h seqno a (no_cause index (cause_against h a) both.0) few in
    subst (λ cs. left_in cs ≤ 64) (push-append h.changes (changed_at seqno (changes.Applied a)) (all_applied seqno rest))
    (left_tried (with_applied h seqno a) seqno (index + 1) rest both.1 one)
