-- A state's history is that of its requests behind its base, each of which follows those before it:
-- of no requests, with one more, and cut.
use Rattle.std.proofs.Common.{◌≡◌, ℕ, ◌-◌, ◌<◌, ◌≤◌, zero, suc, true, List, [], ◌∷◌, ◌++◌, Option, None, Some, length, map, take, slice_get, refl, sym, ◌∙◌, ap, ap₂, subst, arith}
use Rattle.std.specs.Option.{IfSome}
use Rattle.std.specs.List.{AllByRecursion}
use Rattle.gl_base.proofs.Lists.{slice_get-within}
use Rattle.gl_requests.specs.Ranges.{is_request}
use Rattle.gl_requests.specs.declared.request.GovernanceRequest.{GovernanceRequest}
use Rattle.gl_gov_rules.specs.declared.change.Recorded.{Recorded}
use Rattle.gl_gov_rules.specs.declared.change.Changed.{Changed}
use Rattle.gl_gov_rules.specs.declared.row.GovernedRows.{GovernedRows}
use Rattle.gl_gov_rules.specs.History.{History, no_history}
use Rattle.gl_gov_rules.specs.Changes.{with_request, changes_of, changed_at}
use Rattle.gl_gov_rules.specs.GovernedRows.{begin_with, history_over, IsBelow}
use Rattle.gl_gov_rules.specs.Refusals.{refusal}
use Rattle.gl_gov_rules.specs.Governed.{is_founding, IsAbove, IsBounded, up_to}
use Rattle.gl_gov_rules.proofs.Prefixes.{requests_with}
use Rattle.gl_gov_rules.proofs.Counting.{each_append}
use Rattle.gl_gov_rules.proofs.RequestsUpTo.{up_to-push_above, up_to-all}
use Rattle.gl_gov_base.specs.GovernedOver.{base_seqno, is_unfounded, FollowsOver, IsGovernedOver, IsReadBase, IsReadInOrder}
use Rattle.gl_gov_base.proofs.RequestsOver.{over_more, over_none, over_pushed, over_cut}
use Rattle.gl_gov_base.proofs.BoundsOver.{bounded_over}
use Rattle.gl_audit.specs.GovState.{Governed, IsLater, IsPastOf, governed_up_to, history_of, with_recorded}

-- a history is that of its requests behind the base
abbrev pub IsState : Option GovernedRows → History → Type 0
IsState base h = IsPastOf (record { base = base; requests = h.requests }) h

none_follow : (base : Option GovernedRows) → IsGovernedOver base []
none_follow base i r at = absurd (cc)

pub state_of_none : (h : History) → h ≡ no_history → IsState None h
state_of_none h is =
    subst (IsState None) (sym is) (record { past_is = sym (over_none None); governed = record { read = tt; accepted = none_follow None } })

pub state_of_rows : (g : GovernedRows) (h : History) → IsReadInOrder (Some g) → h ≡ begin_with (Some g) → IsState (Some g) h
state_of_rows g h read is =
    subst (IsState (Some g)) (sym is) (record { past_is = sym (over_none (Some g)); governed = record { read = read; accepted = none_follow (Some g) } })

pub state_more : (base : Option GovernedRows) (old new : History) (r : Recorded) → IsState base old → FollowsOver base old.requests r → new ≡ with_request old r → IsState base new
state_more base old new r all follows made =
    let requests : new.requests ≡ old.requests ++ r ∷ [] = ap (λ (h : History). h.requests) made ∙ requests_with old r in
    record {
      past_is = made ∙ ap (λ (h : History). with_request h r) all.past_is ∙ sym (over_more base old.requests r) ∙ ap (history_over base) (sym requests);
      governed = record {
        read = all.governed.read;
        accepted = subst (IsGovernedOver base) (sym requests) (over_pushed base old.requests r all.governed.accepted follows);
      };
    }

pub state_cut : (base : Option GovernedRows) (old new : History) (to : ℕ) → IsState base old → new ≡ history_over base (up_to to old.requests) → new.requests ≡ up_to to old.requests → IsState base new
state_cut base old new to all made requests = record {
  past_is = made ∙ ap (history_over base) (sym requests);
  governed = record {
    read = all.governed.read;
    accepted = subst (IsGovernedOver base) (sym requests) (over_cut base to old.requests all.governed.accepted);
  };
}

-- a copy of it, behind the same base
pub state_same : (base copied : Option GovernedRows) (h copy : History) → IsState base h → copied ≡ base → copy ≡ h → IsState copied copy
state_same base copied h copy all shared same = subst (λ (b : Option GovernedRows). IsState b copy) (sym shared) (subst (IsState base) (sym same) all)

-- what a state's history comes to is bounded
read_in_order : (base : Option GovernedRows) → IsReadInOrder base → IsReadBase base
read_in_order None read = tt
read_in_order (Some g) read = (read.0, read.1)

pub state_bounded : (base : Option GovernedRows) (h : History) → IsState base h → IsBounded h
state_bounded base h all =
    subst IsBounded (sym all.past_is) (bounded_over base h.requests (read_in_order base all.governed.read) all.governed.accepted)

-- the history that is kept is that which the value comes to
pub past_of : (base : Option GovernedRows) (h : History) (g : Governed) → IsState base h → record { base = base; requests = h.requests } ≡ g → h ≡ history_of g
past_of base h g all same = all.past_is ∙ ap history_of same

-- ---- seqnos

-- a base that is below a seqno is below each later one
base_below : (base : Option GovernedRows) (m n : ℕ) → m ≤ n → IfSome base (λ (b : GovernedRows). b.seqno < m) → IfSome base (λ (b : GovernedRows). b.seqno < n)
base_below None m n le low = tt
base_below (Some b) m n le low = omega (arith, le, low)

is_below : (base : Option GovernedRows) (to : ℕ) → IfSome base (λ (b : GovernedRows). b.seqno ≤ to) → IsBelow base to
is_below None to low = tt
is_below (Some b) to low = low

pub view_below : (base : Option GovernedRows) (rs : List Recorded) (g : Governed) (to : ℕ) → record { base = base; requests = rs } ≡ g → IfSome g.base (λ (b : GovernedRows). b.seqno ≤ to) → IsBelow base to
view_below base rs g to same low = is_below base to (subst (λ (x : Governed). IfSome x.base (λ (b : GovernedRows). b.seqno ≤ to)) (sym same) low)

-- and not above the seqno before

pub below_next : (base : Option GovernedRows) (seqno to : ℕ) → seqno ≡ suc to → IfSome base (λ (b : GovernedRows). b.seqno < seqno) → IfSome base (λ (b : GovernedRows). b.seqno ≤ to)
below_next None seqno to next low = tt
below_next (Some b) seqno to next low = omega (arith, next, low)

-- none is below seqno 0
no_base_below : (base : Option GovernedRows) (seqno : ℕ) → (1 ≤ seqno → ⊥) → IfSome base (λ (b : GovernedRows). b.seqno < seqno) → base ≡ None
no_base_below None seqno first low = refl
no_base_below (Some b) seqno first low = absurd (first (omega (arith, low)))

base_seqno_below : (base : Option GovernedRows) (n : ℕ) → base_seqno base < n → IfSome base (λ (b : GovernedRows). b.seqno < n)
base_seqno_below None n low = tt
base_seqno_below (Some b) n low = low

split_last : (rs : List Recorded) (r : Recorded) (k : ℕ) → length rs ≡ suc k → slice_get rs k ≡ Some r → rs ≡ take k rs ++ r ∷ []
split_last [] r k long at = absurd (cc)
split_last (q ∷ []) r zero long at = let same : q ≡ r = cc in ap (λ (x : Recorded). x ∷ []) same
split_last (q ∷ []) r (suc k) long at = absurd (cc)
split_last (q ∷ p ∷ rs) r zero long at = absurd (omega (arith, long))
split_last (q ∷ p ∷ rs) r (suc k) long at = ap (λ (xs : List Recorded). q ∷ xs) (split_last (p ∷ rs) r k (omega (arith, long)) at)

above_more : (m n : ℕ) (rs : List Recorded) → m < n → IsAbove m rs → IsAbove n rs
above_more m n [] more all = tt
above_more m n (r ∷ rs) more all = (omega (arith, all.0), above_more m n rs more all.1)

above_last : (rs : List Recorded) (r : Recorded) (n : ℕ) → IsAbove r.seqno (take (length rs - 1) rs) → slice_get rs (length rs - 1) ≡ Some r → r.seqno < n → IsAbove n rs
above_last rs r n before at more =
    let prefix : List Recorded = take (length rs - 1) rs in
    let long : length rs ≡ suc (length rs - 1) = omega (arith, slice_get-within rs (length rs - 1) r at) in
    subst (IsAbove n) (sym (split_last rs r (length rs - 1) long at))
    (each_append (λ (x : Recorded). x.seqno < n) prefix (r ∷ []) (above_more r.seqno n prefix more before) (more, tt))

-- what is above the last seqno is above all
pub later_than_last : (base : Option GovernedRows) (rs : List Recorded) (r : Recorded) (n : ℕ) → IsGovernedOver base rs → slice_get rs (length rs - 1) ≡ Some r → r.seqno < n →
    IsLater n (record { base = base; requests = rs })
later_than_last base rs r n all at more =
    let follows = all (length rs - 1) r at in
    record {
      above_base = base_below base r.seqno n (omega (arith, more)) follows.above_base;
      above = above_last rs r n follows.above at more;
    }

none_last : (rs : List Recorded) (k : ℕ) → length rs ≡ suc k → slice_get rs k ≡ None → ⊥
none_last [] k long at = absurd (cc)
none_last (q ∷ rs) zero long at = absurd (cc)
none_last (q ∷ []) (suc k) long at = absurd (cc)
none_last (q ∷ p ∷ rs) (suc k) long at = none_last (p ∷ rs) k (omega (arith, long)) at

-- and so is what is above the base, where there is no request
pub later_than_base : (base : Option GovernedRows) (rs : List Recorded) (n : ℕ) → slice_get rs (length rs - 1) ≡ None → base_seqno base < n → IsLater n (record { base = base; requests = rs })
later_than_base base [] n at more = record { above_base = base_seqno_below base n more; above = tt }
later_than_base base (r ∷ rs) n at more = absurd (none_last (r ∷ rs) (length (r ∷ rs) - 1) (omega arith) at)

-- ---- a step

-- a request of which it is known that no rule refuses it follows those of the state
follows_in : (g : Governed) (r : Recorded) → IsLater r.seqno g → is_request r.request ≡ true → is_founding r.request ≡ is_unfounded g.base g.requests →
    refusal (history_of g) r.seqno r.request ≡ None → FollowsOver g.base g.requests r
follows_in g r later fits founding none =
    record { above_base = later.above_base; above = later.above; fits = fits; founding = founding; accepted = none }

pub request_follows : (base : Option GovernedRows) (rs : List Recorded) (g : Governed) (r : Recorded) → record { base = base; requests = rs } ≡ g → IsLater r.seqno g → is_request r.request ≡ true →
    is_founding r.request ≡ is_unfounded g.base g.requests → refusal (history_of g) r.seqno r.request ≡ None → FollowsOver base rs r
request_follows base rs g r same later fits founding none =
    subst (λ (x : Governed). FollowsOver x.base x.requests r) (sym same) (follows_in g r later fits founding none)

-- a history with a request that follows, and with what it brings about, is a state
pub state_recorded : (base : Option GovernedRows) (past next : History) (r : Recorded) (more : List Changed) → IsState base past → FollowsOver base past.requests r →
    more ≡ map (changed_at r.seqno) (changes_of past r) → next ≡ record { carried = past.carried; requests = past.requests ++ r ∷ []; changes = past.changes ++ more } → IsState base next
unfolding with_request
state_recorded base past next r more all follows brought pushed = state_more base past next r all follows (rw brought at pushed)

-- ---- a request is taken back

below : (to : ℕ) (rs : List Recorded) → IsAbove (suc to) rs → AllByRecursion (λ (r : Recorded). r.seqno ≤ to) rs
below to [] all = tt
below to (r ∷ rs) all = (omega (arith, all.0), below to rs all.1)

-- up to the seqno before that of the last request are all those before it
pub taken_back : (seqno to : ℕ) (g : Governed) (request : GovernanceRequest) → seqno ≡ suc to → IsLater seqno g →
    governed_up_to to (with_recorded g (record { seqno = seqno; request = request })) ≡ g
taken_back seqno to g request next later =
    ap (λ (rs : List Recorded). record { base = g.base; requests = rs })
    (up_to-push_above to g.requests (record { seqno = seqno; request = request }) (omega (arith, next))
    ∙ up_to-all to g.requests (below to g.requests (subst (λ (n : ℕ). IsAbove n g.requests) next later.above)))

-- no request is before seqno 0
none_before : (seqno : ℕ) (rs : List Recorded) → (1 ≤ seqno → ⊥) → IsAbove seqno rs → rs ≡ []
none_before seqno [] first above = refl
none_before seqno (r ∷ rs) first above = absurd (first (omega (arith, above.0)))

no_base_before : (base : Option GovernedRows) (rs : List Recorded) (g : Governed) (seqno : ℕ) → record { base = base; requests = rs } ≡ g → (1 ≤ seqno → ⊥) →
    IfSome g.base (λ (b : GovernedRows). b.seqno < seqno) → base ≡ None
no_base_before base rs g seqno same first low =
    no_base_below base seqno first (subst (λ (x : Governed). IfSome x.base (λ (b : GovernedRows). b.seqno < seqno)) (sym same) low)

pub state_at_first : (base : Option GovernedRows) (rs : List Recorded) (h : History) (g : Governed) (seqno : ℕ) → record { base = base; requests = rs } ≡ g → (1 ≤ seqno → ⊥) →
    IfSome g.base (λ (b : GovernedRows). b.seqno < seqno) → h ≡ no_history → IsState base h
state_at_first base rs h g seqno same first low none =
    subst (λ (b : Option GovernedRows). IsState b h) (sym (no_base_before base rs g seqno same first low)) (state_of_none h none)

pub taken_at_first : (base : Option GovernedRows) (rs : List Recorded) (h : History) (g before : Governed) (seqno : ℕ) → record { base = base; requests = rs } ≡ g → (1 ≤ seqno → ⊥) →
    IfSome g.base (λ (b : GovernedRows). b.seqno < seqno) → h ≡ no_history → IsLater seqno before → record { base = base; requests = h.requests } ≡ before
taken_at_first base rs h g before seqno same first low none later =
    ap₂ (λ (b : Option GovernedRows) (qs : List Recorded). record { base = b; requests = qs })
    (no_base_before base rs g seqno same first low ∙ sym (no_base_below before.base seqno first later.above_base))
    (ap (λ (x : History). x.requests) none ∙ sym (none_before seqno before.requests first later.above))
