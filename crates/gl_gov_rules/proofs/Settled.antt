-- What settles proposals: where more changes come, where they are cut, and the state it gives.
use Rattle.std.proofs.Common.{◌≡◌, ℕ, zero, suc, ◌+◌, ◌<◌, nat_le, nat_lt, nat_eq, Bool, true, false, ◌&&◌, cond, Option, None, Some, option_map, List, [], ◌∷◌, ◌++◌, length, map, take, drop, filter, get_or, set, slice_get, refl, sym, ◌∙◌, ap, arith, append_assoc, take-append-drop, length-append}
use Rattle.std.specs.List.{filter_map, cons_option, count_by, position, AllByRecursion}
use Rattle.std.specs.Option.{option_or, option_to_list}
use Rattle.std.proofs.lemmas.List.{drop_more, take_more, map-append, length-map, length-take-le}
use Rattle.std.proofs.lemmas.List.Elements.{filter_map-append, filter-append}
use Rattle.std.proofs.Math.Seq.{take-append_seam}
use Rattle.gl_gov_rules.specs.declared.change.Recorded.{Recorded}
use Rattle.gl_gov_rules.specs.Governed.{up_to}
use Rattle.gl_gov_rules.specs.Rising.{IsRising}
use Rattle.gl_gov_rules.specs.Index.{made}
use Rattle.gl_gov_rules.proofs.CutLists.{requests_above, requests_split}
use Rattle.gl_gov_rules.proofs.ByRequests.{one_more_after}
use Rattle.gl_gov_rules.specs.declared.change.Changed.{Changed}
use Rattle.gl_gov_rules.specs.declared.change.Proposal.{Proposal}
use Rattle.gl_gov_rules.specs.declared.change.ProposalState.{ProposalState}
use Rattle.gl_gov_rules.specs.declared.change.Settling.{Settling}
use Rattle.gl_gov_rules.specs.History.{Carried, History}
use Rattle.std.proofs.lemmas.List.Sums.{length-filter}
use Rattle.std.proofs.lemmas.List.Quantifiers.{position-Some}
use Rattle.std.proofs.lemmas.Option.{same_Some}
use Rattle.std.proofs.lemmas.Bool.Decides.{nat_tests}
use Rattle.gl_base.specs.Bytes.{same_bytes}
use Rattle.gl_vmaps.proofs.SameValues.{same_bytes_is}
use Rattle.gl_requests.specs.declared.action.Action.{Action}
use Rattle.gl_requests.specs.declared.action.Action.TheVariants as actions
use Rattle.gl_gov_rules.specs.declared.change.Change.{Change}
use Rattle.gl_gov_rules.specs.declared.change.Change.TheVariants as changes
use Rattle.gl_gov_rules.specs.Index.{is_same_proposal}
use Rattle.gl_gov_rules.specs.Proposals.{proposals, settlings, open_count, dropped_if, is_open_state, proposal_in, state_settled, first_or_open, proposal_state, settling_by, first_settling, settling_in, settled_state, settling_up_to}

-- ---- the state

state_of : (p : Proposal) (cs : List Changed) → first_or_open (filter_map (λ (c : Changed). state_settled p c.seqno c.change) cs) ≡ settled_state (first_settling (filter_map (settling_by p) cs))
state_of p [] = refl
state_of p (c ∷ cs) = by (state_settled p c.seqno c.change) (state_of p cs)
  where
    by : (o : Option ProposalState) → first_or_open (filter_map (λ (x : Changed). state_settled p x.seqno x.change) cs) ≡ settled_state (first_settling (filter_map (settling_by p) cs)) →
        first_or_open (cons_option o (filter_map (λ (x : Changed). state_settled p x.seqno x.change) cs))
        ≡ settled_state (first_settling (cons_option (option_map (λ state. record { seqno = c.seqno; state = state }) o) (filter_map (settling_by p) cs)))
    by None rest = rest
    by (Some s) rest = refl

-- a proposal has the state of what settles it, and is open without
pub state_settled_in : (h : History) (p : Proposal) → proposal_state h p ≡ settled_state (settling_in h.changes p)
unfolding proposal_state settling_in
state_settled_in h p = state_of p h.changes

-- ---- more changes

first_append : (ss ts : List Settling) → first_settling (ss ++ ts) ≡ option_or (first_settling ss) (first_settling ts)
first_append [] ts = refl
first_append (s ∷ ss) ts = refl

pub settling-append : (cs ds : List Changed) (p : Proposal) → settling_in (cs ++ ds) p ≡ option_or (settling_in cs p) (settling_in ds p)
unfolding settling_in
settling-append cs ds p = ap first_settling (filter_map-append (settling_by p) cs ds) ∙ first_append (filter_map (settling_by p) cs) (filter_map (settling_by p) ds)

-- an element after so many
at_end : {X : Type 0} (us vs : List X) (x d : X) (i : ℕ) → length us ≡ i → get_or (us ++ x ∷ vs) i d ≡ x
at_end [] vs x d i e = rw (sym e) refl
at_end (u ∷ us) vs x d zero e = absurd (omega (arith, e))
at_end (u ∷ us) vs x d (suc i) e = at_end us vs x d i (omega (arith, e))

set_end : {X : Type 0} (us vs : List X) (x y : X) (i : ℕ) → length us ≡ i → set (us ++ x ∷ vs) i y ≡ us ++ y ∷ vs
set_end [] vs x y i e = rw (sym e) refl
set_end (u ∷ us) vs x y zero e = absurd (omega (arith, e))
set_end (u ∷ us) vs x y (suc i) e = ap (λ zs. u ∷ zs) (set_end us vs x y i (omega (arith, e)))

-- one more of two lists side by side
pub settle_one : {A B : Type 0} (f g : A → B) (xs : List A) (ys : List B) (i : ℕ) (d : A) (e y : B) → i < length xs →
    ys ≡ map f (take i xs) ++ map g (drop i xs) → (get_or ys i e ≡ g (get_or xs i d) → y ≡ f (get_or xs i d)) →
    set ys i y ≡ map f (take (i + 1) xs) ++ map g (drop (i + 1) xs)
settle_one f g xs ys i d e y lt are is =
    let x = get_or xs i d in
    let size : length (map f (take i xs)) ≡ i = length-map (take i xs) f ∙ length-take-le i xs (omega arith) in
    let parts : ys ≡ map f (take i xs) ++ g x ∷ map g (drop (i + 1) xs) = are ∙ ap (λ zs. map f (take i xs) ++ map g zs) (drop_more xs i d lt) in
    let new : y ≡ f x = is (ap (λ zs. get_or zs i e) parts ∙ at_end (map f (take i xs)) (map g (drop (i + 1) xs)) (g x) e i size) in
    ap (λ zs. set zs i y) parts ∙ set_end (map f (take i xs)) (map g (drop (i + 1) xs)) (g x) y i size
    ∙ ap (λ z. map f (take i xs) ++ z ∷ map g (drop (i + 1) xs)) new
    ∙ sym (append_assoc (map f (take i xs)) (f x ∷ []) (map g (drop (i + 1) xs)))
    ∙ ap (λ zs. zs ++ map g (drop (i + 1) xs)) (sym (map-append f (take i xs) (x ∷ [])) ∙ ap (map f) (sym (take_more xs i d lt)))

-- ---- one more proposal

after_all : {X : Type 0} (us : List X) (o : Option X) (n : ℕ) → length us ≡ n → slice_get (us ++ option_to_list o) n ≡ o
after_all [] None n e = refl
after_all [] (Some x) n e = rw (sym e) refl
after_all (u ∷ us) o zero e = absurd (omega (arith, e))
after_all (u ∷ us) o (suc n) e = after_all us o n (omega (arith, e))

pub one_settled : {A B : Type 0} (f : A → B) (xs : List A) (o : Option A) (ys zs : List B) (n : ℕ) → ys ≡ map f xs → length ys ≡ n →
    zs ≡ ys ++ option_to_list (option_map f (slice_get (xs ++ option_to_list o) n)) → zs ≡ map f (xs ++ option_to_list o)
one_settled {A = A} f xs o ys zs n are size put =
    put ∙ ap (λ us. us ++ option_to_list (option_map f (slice_get (xs ++ option_to_list o) n))) are
    ∙ ap (λ p. map f xs ++ option_to_list (option_map f p)) (after_all xs o n (sym (length-map xs f) ∙ ap length (sym are) ∙ size))
    ∙ by o ∙ sym (map-append f xs (option_to_list o))
  where
    by : (p : Option A) → map f xs ++ option_to_list (option_map f p) ≡ map f xs ++ map f (option_to_list p)
    by None = refl
    by (Some x) = refl

-- ---- a cut

pub map_same : {X : Type 0} (xs : List X) → map (λ x. x) xs ≡ xs
map_same [] = refl
map_same (x ∷ xs) = ap (λ ys. x ∷ ys) (map_same xs)

first_kept : (to : ℕ) (p : Proposal) (cs : List Changed) → AllByRecursion (λ (c : Changed). nat_le c.seqno to ≡ true) cs →
    settling_up_to to (first_settling (filter_map (settling_by p) cs)) ≡ first_settling (filter_map (settling_by p) cs)
first_kept to p [] all = refl
first_kept to p (c ∷ cs) all = by (state_settled p c.seqno c.change) (first_kept to p cs all.1)
  where
    by : (o : Option ProposalState) → settling_up_to to (first_settling (filter_map (settling_by p) cs)) ≡ first_settling (filter_map (settling_by p) cs) →
        settling_up_to to (first_settling (cons_option (option_map (λ state. record { seqno = c.seqno; state = state }) o) (filter_map (settling_by p) cs)))
        ≡ first_settling (cons_option (option_map (λ state. record { seqno = c.seqno; state = state }) o) (filter_map (settling_by p) cs))
    by None rest = rest
    by (Some s) rest = rw all.0 refl

first_gone : (to : ℕ) (p : Proposal) (cs : List Changed) → AllByRecursion (λ (c : Changed). nat_le c.seqno to ≡ false) cs →
    settling_up_to to (first_settling (filter_map (settling_by p) cs)) ≡ None
first_gone to p [] all = refl
first_gone to p (c ∷ cs) all = by (state_settled p c.seqno c.change) (first_gone to p cs all.1)
  where
    by : (o : Option ProposalState) → settling_up_to to (first_settling (filter_map (settling_by p) cs)) ≡ None →
        settling_up_to to (first_settling (cons_option (option_map (λ state. record { seqno = c.seqno; state = state }) o) (filter_map (settling_by p) cs))) ≡ None
    by None rest = rest
    by (Some s) rest = rw all.0 refl

kept_or : (to : ℕ) (o a : Option Settling) → settling_up_to to o ≡ o → settling_up_to to a ≡ None → settling_up_to to (option_or o a) ≡ o
kept_or to None a kept gone = gone
kept_or to (Some s) a kept gone = kept

-- where all changes above the seqno stand after the others, what settles a proposal up to it is the
-- first of those up to it
pub settling_left : (to : ℕ) (p : Proposal) (cs ds : List Changed) → AllByRecursion (λ (c : Changed). nat_le c.seqno to ≡ true) cs →
    AllByRecursion (λ (c : Changed). nat_le c.seqno to ≡ false) ds → settling_up_to to (settling_in (cs ++ ds) p) ≡ settling_in cs p
unfolding settling_in
settling_left to p cs ds prefix back =
    ap (settling_up_to to) (settling-append cs ds p) ∙ kept_or to (first_settling (filter_map (settling_by p) cs)) (first_settling (filter_map (settling_by p) ds)) (first_kept to p cs prefix) (first_gone to p ds back)

all_in : {X : Type 0} (p : X → Bool) (xs : List X) → AllByRecursion (λ x. p x ≡ true) (filter p xs)
all_in p [] = tt
all_in {X = X} p (x ∷ xs) = step (p x) refl (all_in p xs)
  where
    step : (b : Bool) → p x ≡ b → AllByRecursion (λ y. p y ≡ true) (filter p xs) → AllByRecursion (λ y. p y ≡ true) (cond b (x ∷ filter p xs) (filter p xs))
    step true e rest = (e, rest)
    step false e rest = rest

pass_again : {X : Type 0} (p : X → Bool) (xs : List X) → AllByRecursion (λ x. p x ≡ true) xs → filter p xs ≡ xs
pass_again p [] all = refl
pass_again p (x ∷ xs) all = rw all.0 (ap (λ ys. x ∷ ys) (pass_again p xs all.1))

none_out : {X : Type 0} (p : X → Bool) (xs : List X) → length (filter p xs) ≡ 0 → AllByRecursion (λ x. p x ≡ false) xs
none_out p [] e = tt
none_out {X = X} p (x ∷ xs) e = step (p x) refl e (none_out p xs)
  where
    step : (b : Bool) → p x ≡ b → length (cond b (x ∷ filter p xs) (filter p xs)) ≡ 0 → (length (filter p xs) ≡ 0 → AllByRecursion (λ y. p y ≡ false) xs) → AllByRecursion (λ y. p y ≡ false) (x ∷ xs)
    step true is none rest = absurd (omega (arith, none))
    step false is none rest = (is, rest none)

-- after all that passes nothing does
rest_fails : {X : Type 0} (p : X → Bool) (xs ys : List X) → xs ≡ filter p xs ++ ys → AllByRecursion (λ x. p x ≡ false) ys
rest_fails p xs ys whole =
    let twice : filter p xs ≡ filter p xs ++ filter p ys =
    ap (filter p) whole ∙ filter-append p (filter p xs) ys ∙ ap (λ zs. zs ++ filter p ys) (pass_again p (filter p xs) (all_in p xs)) in
    none_out p ys (omega (arith, ap length twice, length-append (filter p xs) (filter p ys)))

abbrev is_low : ℕ → Changed → Bool
is_low to c = nat_le c.seqno to

map_settled : (to : ℕ) (ps : List Proposal) (cs ds : List Changed) → AllByRecursion (λ (c : Changed). is_low to c ≡ true) cs → AllByRecursion (λ (c : Changed). is_low to c ≡ false) ds →
    map (settling_up_to to) (map (settling_in (cs ++ ds)) ps) ≡ map (settling_in cs) ps
map_settled to [] cs ds prefix back = refl
map_settled to (p ∷ ps) cs ds prefix back = rw (settling_left to p cs ds prefix back) (ap (λ ys. settling_in cs p ∷ ys) (map_settled to ps cs ds prefix back))

abbrev asked : List Recorded → List Proposal
asked rs = filter_map (λ (r : Recorded). proposal_in r.seqno r.request) rs

made_parts : (to : ℕ) (k : Carried) (rs : List Recorded) → IsRising rs → made k rs ≡ made k (up_to to rs) ++ asked (requests_above to rs)
made_parts to k rs rising =
    ap (made k) (requests_split to rs rising) ∙ ap (λ (ps : List Proposal). k.proposals ++ ps) (filter_map-append (λ (r : Recorded). proposal_in r.seqno r.request) (up_to to rs) (requests_above to rs))
    ∙ sym (append_assoc k.proposals (asked (up_to to rs)) (asked (requests_above to rs)))

-- what settles the proposals up to a seqno, by the changes up to it
pub settled_left : (to n count : ℕ) (k : Carried) (rs : List Recorded) (cs left : List Changed) (ss after : List (Option Settling)) → IsRising rs → left ≡ take n cs → left ≡ filter (is_low to) cs →
    ss ≡ map (settling_in cs) (made k rs) → count ≡ length (made k (up_to to rs)) → after ≡ map (settling_up_to to) (take count ss) → after ≡ map (settling_in left) (made k (up_to to rs))
settled_left to n count k rs cs left ss after rising prefix low are counted cut =
    let us = made k (up_to to rs) in
    let ds = drop n cs in
    let parts : cs ≡ left ++ ds = sym (take-append-drop n cs) ∙ ap (λ zs. zs ++ ds) (sym prefix) in
    let back : AllByRecursion (λ (c : Changed). is_low to c ≡ false) ds = rest_fails (is_low to) cs ds (parts ∙ ap (λ zs. zs ++ ds) low) in
    let ahead : AllByRecursion (λ (c : Changed). is_low to c ≡ true) left = rw low (all_in (is_low to) cs) in
    let taken : take count ss ≡ map (settling_in cs) us =
    ap (take count) (are ∙ ap (map (settling_in cs)) (made_parts to k rs rising) ∙ map-append (settling_in cs) us (asked (requests_above to rs)))
    ∙ ap (λ m. take m (map (settling_in cs) us ++ map (settling_in cs) (asked (requests_above to rs)))) (counted ∙ sym (length-map us (settling_in cs)))
    ∙ take-append_seam (map (settling_in cs) us) (map (settling_in cs) (asked (requests_above to rs))) in
    cut ∙ ap (map (settling_up_to to)) (taken ∙ ap (λ zs. map (settling_in zs) us) parts) ∙ map_settled to us left ds ahead back

-- ---- more changes, and one proposal more

pub settled_more : (cs ds ms after : List Changed) (ps qs : List Proposal) (ss0 ss news whole : List (Option Settling)) → whole ≡ news → ss0 ≡ ss →
    ((us : List Changed) → ss0 ≡ map (settling_in us) ps → news ≡ map (settling_in (us ++ ms)) ps) → ps ≡ qs → ss ≡ map (settling_in cs) qs → ms ≡ ds → after ≡ cs ++ ds →
    whole ≡ map (settling_in after) qs
settled_more cs ds ms after ps qs ss0 ss news whole w s0 step same are m a =
    w ∙ step cs (s0 ∙ are ∙ ap (map (settling_in cs)) (sym same)) ∙ ap (map (settling_in (cs ++ ms))) same
    ∙ ap (λ zs. map (settling_in zs) qs) (ap (λ d. cs ++ d) m ∙ sym a)

made_more : (k : Carried) (rs : List Recorded) (r : Recorded) → made k (rs ++ r ∷ []) ≡ made k rs ++ option_to_list (proposal_in r.seqno r.request)
made_more k rs r = sym (one_more_after k.proposals (λ (x : Recorded). proposal_in x.seqno x.request) rs r (made k rs) _ refl refl)

pub settled_with : (k : Carried) (rs after : List Recorded) (r : Recorded) (cs ds : List Changed) (ps : List Proposal) (ys zs : List (Option Settling)) (n : ℕ) → ys ≡ map (settling_in cs) (made k rs) → length ys ≡ n →
    after ≡ rs ++ r ∷ [] → ps ≡ made k (rs ++ r ∷ []) → ds ≡ cs → zs ≡ ys ++ option_to_list (option_map (settling_in ds) (slice_get ps n)) → zs ≡ map (settling_in cs) (made k after)
settled_with k rs after r cs ds ps ys zs n are size pushed same changed put =
    let o = proposal_in r.seqno r.request in
    one_settled (settling_in cs) (made k rs) o ys zs n are size
    (put ∙ ap (λ us. ys ++ option_to_list (option_map (settling_in us) (slice_get ps n))) changed
    ∙ ap (λ qs. ys ++ option_to_list (option_map (settling_in cs) (slice_get qs n))) (same ∙ made_more k rs r))
    ∙ ap (map (settling_in cs)) (sym (ap (made k) pushed ∙ made_more k rs r))

-- ---- how many are open

count_settled : (h : History) (ps : List Proposal) → length (filter (λ (o : Option Settling). is_open_state (settled_state o)) (map (settling_in h.changes) ps)) ≡ length (filter (λ (p : Proposal). is_open_state (proposal_state h p)) ps)
count_settled h [] = refl
count_settled h (p ∷ ps) = by (is_open_state (proposal_state h p)) (is_open_state (settled_state (settling_in h.changes p))) (ap is_open_state (state_settled_in h p)) (count_settled h ps)
  where
    by : (a b : Bool) → a ≡ b → length (filter (λ (o : Option Settling). is_open_state (settled_state o)) (map (settling_in h.changes) ps)) ≡ length (filter (λ (q : Proposal). is_open_state (proposal_state h q)) ps) →
        length (cond b (settling_in h.changes p ∷ filter (λ (o : Option Settling). is_open_state (settled_state o)) (map (settling_in h.changes) ps)) (filter (λ (o : Option Settling). is_open_state (settled_state o)) (map (settling_in h.changes) ps)))
        ≡ length (cond a (p ∷ filter (λ (q : Proposal). is_open_state (proposal_state h q)) ps) (filter (λ (q : Proposal). is_open_state (proposal_state h q)) ps))
    by true true e rest = ap suc rest
    by true false e rest = absurd cc
    by false true e rest = absurd cc
    by false false e rest = rest

open_settled : (h : History) (ps : List Proposal) → count_by (λ (o : Option Settling). is_open_state (settled_state o)) (map (settling_in h.changes) ps) ≡ count_by (λ (p : Proposal). is_open_state (proposal_state h p)) ps
open_settled h ps =
    sym (length-filter (λ (o : Option Settling). is_open_state (settled_state o)) (map (settling_in h.changes) ps)) ∙ count_settled h ps
    ∙ length-filter (λ (p : Proposal). is_open_state (proposal_state h p)) ps

pub open_is : (h : History) → open_count h ≡ count_by (λ (o : Option Settling). is_open_state (settled_state o)) (settlings h)
unfolding open_count settlings
open_is h = sym (open_settled h (proposals h))

-- ---- the same proposal

state_same : (p q : Proposal) → p.id ≡ q.id → p.seqno ≡ q.seqno → (n : ℕ) (c : Change) → state_settled p n c ≡ state_settled q n c
state_same p q id seqno n (changes.Founded state key) = refl
state_same p q id seqno n (changes.Recovered key) = ap (λ s. dropped_if (nat_lt s n)) seqno
state_same p q id seqno n (changes.Settled other state) = ap (λ i. cond (same_bytes i other) (Some state) None) id
state_same p q id seqno n changes.Completed = refl
state_same p q id seqno n (changes.Applied a) = by a
  where
    by : (b : Action) → state_settled p n (changes.Applied b) ≡ state_settled q n (changes.Applied b)
    by (actions.SetMember m) = refl
    by (actions.RemoveMember m) = refl
    by (actions.SetRecoveryThreshold d) = refl
    by (actions.TransitionNodeToTrusted i) = refl
    by (actions.RemoveNode i) = refl
    by actions.TransitionServiceToOpen = refl
    by (actions.SetConstitution rules) = ap (λ s. dropped_if (nat_lt s n)) seqno

all_same : (p q : Proposal) → p.id ≡ q.id → p.seqno ≡ q.seqno → (cs : List Changed) → filter_map (settling_by p) cs ≡ filter_map (settling_by q) cs
all_same p q id seqno [] = refl
all_same p q id seqno (c ∷ cs) =
    ap (λ o. cons_option (option_map (λ state. record { seqno = c.seqno; state = state }) o) (filter_map (settling_by p) cs)) (state_same p q id seqno c.seqno c.change)
    ∙ ap (cons_option (settling_by q c)) (all_same p q id seqno cs)

both_true : (a b : Bool) → (a && b) ≡ true → (a ≡ true) × (b ≡ true)
both_true true b e = (refl, e)
both_true false b e = absurd cc

pub settling_same : (cs : List Changed) (p q : Proposal) → is_same_proposal p q ≡ true → settling_in cs q ≡ settling_in cs p
unfolding settling_in
settling_same cs p q same =
    let both = both_true (nat_eq p.seqno q.seqno) (same_bytes p.id q.id) same in
    ap first_settling (sym (all_same p q (same_bytes_is p.id q.id both.1) (grind (arith, nat_tests, both.0)) cs))

at_mapped : {A B : Type 0} (f : A → B) (xs : List A) (i : ℕ) (d : A) → i < length xs → slice_get (map f xs) i ≡ Some (f (get_or xs i d))
at_mapped f [] i d lt = absurd (omega arith)
at_mapped f (x ∷ xs) zero d lt = refl
at_mapped f (x ∷ xs) (suc i) d lt = at_mapped f xs i d (omega arith)

-- what is kept at the place of the same proposal
pub kept_settling : (cs : List Changed) (p : Proposal) (ps : List Proposal) (ss : List (Option Settling)) (i : ℕ) (s : Option Settling) → ss ≡ map (settling_in cs) ps →
    position (is_same_proposal p) ps ≡ Some i → slice_get ss i ≡ Some s → s ≡ settling_in cs p
kept_settling cs p ps ss i s are at there =
    let found = position-Some (is_same_proposal p) ps i p at in
    let mine : Some s ≡ Some (settling_in cs (get_or ps i p)) = sym there ∙ ap (λ us. slice_get us i) are ∙ at_mapped (settling_in cs) ps i p found.0 in
    same_Some s (settling_in cs (get_or ps i p)) mine ∙ settling_same cs p (get_or ps i p) found.1
