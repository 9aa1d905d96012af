-- The service's key stays: of all that requests bring about only a founding and a recovery name
-- one.
use Rattle.std.proofs.Common.{◌≡◌, ℕ, List, [], ◌∷◌, ◌++◌, map, Option, Some, None, slice_get, Bool, true, false, ◌||◌, refl, sym, ◌∙◌, ap, ap₂, if◌then◌else◌}
use Rattle.std.specs.List.{list_all, list_any}
use Rattle.std.specs.Option.{option_or}
use Rattle.std.proofs.lemmas.Bool.{and_parts, or_parts, or_from}
use Rattle.std.proofs.lemmas.Option.{same_Some}
use Rattle.std.proofs.lemmas.List.Folds.{list_any-append}
use Rattle.gl_requests.specs.declared.genesis.NewMember.{NewMember}
use Rattle.gl_requests.specs.declared.genesis.Genesis.{Genesis}
use Rattle.gl_requests.specs.declared.action.Action.{Action}
use Rattle.gl_requests.specs.declared.action.Action.TheVariants as actions
use Rattle.gl_requests.specs.declared.request.MemberAct.{MemberAct}
use Rattle.gl_requests.specs.declared.request.MemberAct.TheVariants as acts
use Rattle.gl_requests.specs.declared.request.GovernanceRequest.{GovernanceRequest}
use Rattle.gl_requests.specs.declared.request.GovernanceRequest.TheVariants as requests
use Rattle.gl_gov_rules.specs.declared.change.Recorded.{Recorded}
use Rattle.gl_gov_rules.specs.declared.change.Proposal.{Proposal}
use Rattle.gl_gov_rules.specs.declared.change.Tally.{Tally}
use Rattle.gl_gov_rules.specs.declared.change.ProposalState.TheVariants as states
use Rattle.gl_gov_rules.specs.declared.change.Change.{Change}
use Rattle.gl_gov_rules.specs.declared.change.Change.TheVariants as changes
use Rattle.gl_gov_rules.specs.declared.change.Changed.{Changed}
use Rattle.gl_gov_rules.specs.declared.refusal.Cause.{Cause}
use Rattle.gl_gov_rules.specs.History.{History, last_set, Answered}
use Rattle.gl_gov_rules.specs.Service as service
use Rattle.gl_gov_rules.specs.Service.{sets_identity, identity, is_recovered}
use Rattle.gl_gov_rules.specs.Proposals.{proposal, answers_with}
use Rattle.gl_gov_rules.specs.Actions.{first_bad_action}
use Rattle.gl_gov_rules.specs.Tally.{tally, is_accepted, is_rejected}
use Rattle.gl_gov_rules.specs.Changes.{first_rules, set_member, founding_changes, acceptance_changes, ballot_changes, ballot_changes_on, is_complete, act_changes, request_changes, changes_of, changed_at, history}
use Rattle.gl_gov_rules.specs.Governed.{is_founding, is_recovery, Follows, IsGoverned}
use Rattle.gl_gov_rules.proofs.Prefixes.{changes_more, governed_induction}
use Rattle.gl_gov_rules.proofs.LastSet.{last_set-append, last_set-cons}

or-false : (b : Bool) → (b || false) ≡ b
or-false true = refl
or-false false = refl

-- ---- changes that name no key

abbrev leaves_key : Change → Bool
leaves_key (changes.Founded state key) = false
leaves_key (changes.Recovered key) = false
leaves_key other = true

abbrev leave_key : List Change → Bool
leave_key cs = list_all leaves_key cs

sets_none : (c : Change) → leaves_key c ≡ true → sets_identity c ≡ None
sets_none (changes.Founded state key) leaves = absurd cc
sets_none (changes.Recovered key) leaves = absurd cc
sets_none (changes.Applied a) leaves = refl
sets_none (changes.Settled id state) leaves = refl
sets_none changes.Completed leaves = refl

recovers_none : (c : Change) → leaves_key c ≡ true → service.is_recovery c ≡ false
recovers_none (changes.Founded state key) leaves = absurd cc
recovers_none (changes.Recovered key) leaves = absurd cc
recovers_none (changes.Applied a) leaves = refl
recovers_none (changes.Settled id state) leaves = refl
recovers_none changes.Completed leaves = refl

-- such changes set no key
pub none_set : (s : ℕ) (cs : List Change) → leave_key cs ≡ true → last_set sets_identity (map (changed_at s) cs) ≡ None
none_set s [] leave = refl
none_set s (c ∷ cs) leave =
    let both = and_parts (leaves_key c) (leave_key cs) leave in
    last_set-cons sets_identity (changed_at s c) (map (changed_at s) cs) ∙ ap₂ option_or (none_set s cs both.1) (sets_none c both.0)

abbrev recovers : Changed → Bool
recovers c = service.is_recovery c.change

-- and recover nothing
none_recovers : (s : ℕ) (cs : List Change) → leave_key cs ≡ true → list_any recovers (map (changed_at s) cs) ≡ false
none_recovers s [] leave = refl
none_recovers s (c ∷ cs) leave =
    let both = and_parts (leaves_key c) (leave_key cs) leave in
    or_from (service.is_recovery c) (list_any recovers (map (changed_at s) cs)) (recovers_none c both.0) (none_recovers s cs both.1)

-- ---- what requests bring about

applied_leave : (list : List Action) → leave_key (map (λ a. changes.Applied a) list) ≡ true
applied_leave [] = refl
applied_leave (a ∷ list) = applied_leave list

members_leave : (ms : List NewMember) → leave_key (map set_member ms) ≡ true
members_leave [] = refl
members_leave (m ∷ ms) = members_leave ms

acceptance_leaves : (id : List ℕ) (list : List Action) (bad : Option (ℕ × Cause)) → leave_key (acceptance_changes id list bad) ≡ true
acceptance_leaves id list None = applied_leave list
acceptance_leaves id list (Some bad) = refl

ballot_leaves : (h : History) (s : ℕ) (id : List ℕ) (t : Tally) (list : List Action) → leave_key (ballot_changes h s id t list) ≡ true
unfolding ballot_changes
ballot_leaves h s id t list = by_count (is_accepted h t list) (is_rejected h t list)
  where
    by_count : (a b : Bool) →
        leave_key (if a then acceptance_changes id list (first_bad_action h s 1 list) else (if b then changes.Settled id states.Rejected ∷ [] else [])) ≡ true
    by_count true b = acceptance_leaves id list (first_bad_action h s 1 list)
    by_count false true = refl
    by_count false false = refl

act_leaves : (h : History) (given : List Answered) (s : ℕ) (a : MemberAct) → leave_key (act_changes h given s a) ≡ true
act_leaves h given s acts.Ack = refl
act_leaves h given s (acts.Propose list) = refl
act_leaves h given s (acts.Ballot id agrees) = on (proposal h id)
  where
    on : (o : Option Proposal) → leave_key (ballot_changes_on h given s id o) ≡ true
    on None = refl
    on (Some p) = ballot_leaves h s id (tally h given id) p.actions
act_leaves h given s (acts.Withdraw id) = refl
act_leaves h given s (acts.Share share) = by_count (is_complete h)
  where
    by_count : (b : Bool) → leave_key (if b then changes.Completed ∷ [] else []) ≡ true
    by_count true = refl
    by_count false = refl

request_leaves : (h : History) (given : List Answered) (s : ℕ) (q : GovernanceRequest) → is_founding q ≡ false → is_recovery q ≡ false → leave_key (request_changes h given s q) ≡ true
request_leaves h given s (requests.Genesis g) founds recovers = absurd cc
request_leaves h given s (requests.Recover r) founds recovers = absurd cc
request_leaves h given s (requests.Join n) founds recovers = refl
request_leaves h given s (requests.Mark id) founds recovers = refl
request_leaves h given s (requests.Member m) founds recovers = act_leaves h given s m.act

pub brought_leave : (h : History) (r : Recorded) → is_founding r.request ≡ false → is_recovery r.request ≡ false → leave_key (changes_of h r) ≡ true
unfolding changes_of
brought_leave h r founds recovers = request_leaves h (answers_with h r.request) r.seqno r.request founds recovers

-- ---- the key stays

-- with one request more that is no founding and no recovery the key is as it was
pub identity_kept : (rs : List Recorded) (r : Recorded) → is_founding r.request ≡ false → is_recovery r.request ≡ false → identity (history (rs ++ r ∷ [])) ≡ identity (history rs)
unfolding identity
identity_kept rs r founds recovers =
    let cs : List Changed = (history rs).changes in
    let more : List Change = changes_of (history rs) r in
    ap (last_set sets_identity) (changes_more rs r) ∙ last_set-append sets_identity cs (map (changed_at r.seqno) more)
    ∙ ap (λ (o : Option (List ℕ)). option_or o (last_set sets_identity cs)) (none_set r.seqno more (brought_leave (history rs) r founds recovers))

-- and the service is recovered if it was
pub recovered_kept : (rs : List Recorded) (r : Recorded) → is_founding r.request ≡ false → is_recovery r.request ≡ false → is_recovered (history (rs ++ r ∷ [])) ≡ is_recovered (history rs)
unfolding is_recovered
recovered_kept rs r founds recovery =
    let cs : List Changed = (history rs).changes in
    let more : List Change = changes_of (history rs) r in
    ap (list_any recovers) (changes_more rs r) ∙ list_any-append recovers cs (map (changed_at r.seqno) more)
    ∙ ap (λ (b : Bool). list_any recovers cs || b) (none_recovers r.seqno more (brought_leave (history rs) r founds recovery)) ∙ or-false (list_any recovers cs)

-- ---- the key of a founding

-- the founding as the first request
abbrev pub first_founding : Genesis → Recorded
first_founding g = record { seqno = 1; request = requests.Genesis g }

founding_brings : (h : History) (s : ℕ) (g : Genesis) → changes_of h (record { seqno = s; request = requests.Genesis g }) ≡ founding_changes g
unfolding changes_of
founding_brings h s g = refl

-- what it brings about after its first change
abbrev founding_rest : Genesis → List Change
founding_rest g = changes.Applied (actions.SetConstitution first_rules) ∷ changes.Applied (actions.SetRecoveryThreshold g.dealing) ∷ map set_member g.members

first_sets : (s : ℕ) (g : Genesis) → last_set sets_identity (map (changed_at s) (founding_changes g)) ≡ Some g.identity
first_sets s g =
    let rest : List Change = founding_rest g in
    last_set-cons sets_identity (changed_at s (changes.Founded g.state g.identity)) (map (changed_at s) rest)
    ∙ ap (λ (o : Option (List ℕ)). option_or o (Some g.identity)) (none_set s rest (members_leave g.members))

-- a founding's key is the service's
pub founding_named : (rs : List Recorded) (s : ℕ) (g : Genesis) → identity (history (rs ++ record { seqno = s; request = requests.Genesis g } ∷ [])) ≡ Some g.identity
unfolding identity
founding_named rs s g =
    let cs : List Changed = (history rs).changes in
    ap (last_set sets_identity) (changes_more rs (record { seqno = s; request = requests.Genesis g }) ∙ ap (λ (more : List Change). cs ++ map (changed_at s) more) (founding_brings (history rs) s g))
    ∙ last_set-append sets_identity cs (map (changed_at s) (founding_changes g))
    ∙ ap (λ (o : Option (List ℕ)). option_or o (last_set sets_identity cs)) (first_sets s g)

abbrev pub has_recovery : List Recorded → Bool
has_recovery rs = list_any (λ (r : Recorded). is_recovery r.request) rs

-- after a founding, and without a recovery, its key is the service's
abbrev HasKeyOf : Genesis → List Recorded → Type 0
HasKeyOf g rs = has_recovery rs ≡ false → slice_get rs 0 ≡ Some (first_founding g) → identity (history rs) ≡ Some g.identity

key_of_first : (g : Genesis) (rs : List Recorded) → IsGoverned rs → HasKeyOf g rs
key_of_first g = governed_induction (HasKeyOf g) (λ none at. absurd cc) step
  where
    step : (rs : List Recorded) (r : Recorded) → IsGoverned rs → Follows rs r → HasKeyOf g rs → HasKeyOf g (rs ++ r ∷ [])
    step [] r all follows old none at = ap (λ (x : Recorded). identity (history (x ∷ []))) (same_Some r (first_founding g) at) ∙ founding_named [] 1 g
    step (x ∷ rs) r all follows old none at =
        let both = or_parts (has_recovery (x ∷ rs)) (has_recovery (r ∷ [])) (sym (list_any-append (λ (y : Recorded). is_recovery y.request) (x ∷ rs) (r ∷ [])) ∙ none) in
        identity_kept (x ∷ rs) r follows.founding (sym (or-false (is_recovery r.request)) ∙ both.1) ∙ old both.0 at

-- a founding that is followed by no recovery keeps its key
pub founded_identity : (g : Genesis) (rs : List Recorded) → IsGoverned (record { seqno = 1; request = requests.Genesis g } ∷ rs) →
    list_any (λ (r : Recorded). is_recovery r.request) rs ≡ false → identity (history (record { seqno = 1; request = requests.Genesis g } ∷ rs)) ≡ Some g.identity
founded_identity g rs all none = key_of_first g (first_founding g ∷ rs) all none refl
