-- The history of the requests up to a seqno is the history of all of them, up to that seqno.
use Rattle.std.proofs.Common.{◌≡◌, ℕ, ◌<◌, nat_le, Bool, true, false, List, [], ◌∷◌, ◌++◌, map, refl, sym, ◌∙◌, ap, arith, append-nil}
use Rattle.std.specs.List.{filter, fold}
use Rattle.std.proofs.lemmas.List.Elements.{filter-append}
use Rattle.std.proofs.lemmas.Bool.Decides.{nat_tests}
use Rattle.gl_gov_rules.specs.declared.change.Recorded.{Recorded}
use Rattle.gl_gov_rules.specs.declared.change.Changed.{Changed}
use Rattle.gl_gov_rules.specs.declared.change.Change.{Change}
use Rattle.gl_gov_rules.specs.History.{History, no_history}
use Rattle.gl_gov_rules.specs.Changes.{history, with_request, changed_at, changes_of}
use Rattle.gl_gov_rules.specs.Governed.{up_to}
use Rattle.gl_gov_rules.specs.Rising.{IsRising}
use Rattle.gl_gov_rules.proofs.Rising.{AreAfter, rest_rises, rest_after}

abbrev pub changes_up_to : ℕ → List Changed → List Changed
changes_up_to seqno cs = filter (λ (c : Changed). nat_le c.seqno seqno) cs

abbrev pub cut_to : ℕ → History → History
cut_to seqno h = record { carried = h.carried; requests = up_to seqno h.requests; changes = changes_up_to seqno h.changes }

pub kept_changes : (p q : ℕ) (cs : List Change) → nat_le q p ≡ true → changes_up_to p (map (changed_at q) cs) ≡ map (changed_at q) cs
kept_changes p q [] e = refl
kept_changes p q (c ∷ cs) e = rw e (ap (λ xs. changed_at q c ∷ xs) (kept_changes p q cs e))

gone_changes : (p q : ℕ) (cs : List Change) → nat_le q p ≡ false → changes_up_to p (map (changed_at q) cs) ≡ []
gone_changes p q [] e = refl
gone_changes p q (c ∷ cs) e = rw e (gone_changes p q cs e)

kept_alone : (p : ℕ) (r : Recorded) → nat_le r.seqno p ≡ true → up_to p (r ∷ []) ≡ r ∷ []
kept_alone p r e = rw e refl

gone_alone : (p : ℕ) (r : Recorded) → nat_le r.seqno p ≡ false → up_to p (r ∷ []) ≡ []
gone_alone p r e = rw e refl

-- a request up to the seqno stays, with all that it brings about
cut_below : (p : ℕ) (h : History) (r : Recorded) → nat_le r.seqno p ≡ true → cut_to p h ≡ h → cut_to p (with_request h r) ≡ with_request h r
unfolding with_request
cut_below p h r e same =
    let more : List Changed = map (changed_at r.seqno) (changes_of h r) in
    let requests : up_to p (h.requests ++ r ∷ []) ≡ h.requests ++ r ∷ [] =
    filter-append (λ (x : Recorded). nat_le x.seqno p) h.requests (r ∷ [])
    ∙ ap (λ xs. up_to p h.requests ++ xs) (kept_alone p r e) ∙ ap (λ xs. xs ++ r ∷ []) (ap (λ (x : History). x.requests) same) in
    let changes : changes_up_to p (h.changes ++ more) ≡ h.changes ++ more =
    filter-append (λ (x : Changed). nat_le x.seqno p) h.changes more
    ∙ ap (λ xs. changes_up_to p h.changes ++ xs) (kept_changes p r.seqno (changes_of h r) e)
    ∙ ap (λ xs. xs ++ more) (ap (λ (x : History). x.changes) same) in
    rw (requests, changes) refl

-- a request above it goes, with all that it brings about
cut_above : (p : ℕ) (h : History) (r : Recorded) → nat_le r.seqno p ≡ false → cut_to p (with_request h r) ≡ cut_to p h
unfolding with_request
cut_above p h r e =
    let more : List Changed = map (changed_at r.seqno) (changes_of h r) in
    let requests : up_to p (h.requests ++ r ∷ []) ≡ up_to p h.requests =
    filter-append (λ (x : Recorded). nat_le x.seqno p) h.requests (r ∷ [])
    ∙ ap (λ xs. up_to p h.requests ++ xs) (gone_alone p r e) ∙ append-nil (up_to p h.requests) in
    let changes : changes_up_to p (h.changes ++ more) ≡ changes_up_to p h.changes =
    filter-append (λ (x : Changed). nat_le x.seqno p) h.changes more
    ∙ ap (λ xs. changes_up_to p h.changes ++ xs) (gone_changes p r.seqno (changes_of h r) e) ∙ append-nil (changes_up_to p h.changes) in
    rw (requests, changes) refl

above : (p q s : ℕ) → nat_le q p ≡ false → q < s → nat_le s p ≡ false
above p q s e more = grind (arith, nat_tests)

-- requests above the seqno leave nothing
all_above : (p q : ℕ) (h : History) (rs : List Recorded) → nat_le q p ≡ false → AreAfter q rs → cut_to p (fold with_request h rs) ≡ cut_to p h
all_above p q h [] e more = refl
all_above p q h (r ∷ rs) e more = all_above p q (with_request h r) rs e more.1 ∙ cut_above p h r (above p q r.seqno e more.0)

pub none_above : (p q : ℕ) (rs : List Recorded) → nat_le q p ≡ false → AreAfter q rs → up_to p rs ≡ []
none_above p q [] e more = refl
none_above p q (r ∷ rs) e more = let gone : nat_le r.seqno p ≡ false = above p q r.seqno e more.0 in rw gone (none_above p q rs e more.1)

cut_step : (p : ℕ) (h : History) (r : Recorded) (rs : List Recorded) (b : Bool) → nat_le r.seqno p ≡ b → AreAfter r.seqno rs →
    cut_to p h ≡ h →
    (cut_to p (with_request h r) ≡ with_request h r → fold with_request (with_request h r) (up_to p rs) ≡ cut_to p (fold with_request (with_request h r) rs)) →
    fold with_request h (up_to p (r ∷ rs)) ≡ cut_to p (fold with_request h (r ∷ rs))
cut_step p h r rs true e later same after = rw e (after (cut_below p h r e same))
cut_step p h r rs false e later same after =
    rw e (ap (fold with_request h) (none_above p r.seqno rs e later)
    ∙ sym same ∙ sym (cut_above p h r e) ∙ sym (all_above p r.seqno (with_request h r) rs e later))

pub cut_fold : (p : ℕ) (h : History) (rs : List Recorded) → IsRising rs → cut_to p h ≡ h → fold with_request h (up_to p rs) ≡ cut_to p (fold with_request h rs)
cut_fold p h [] rising same = sym same
cut_fold p h (r ∷ rs) rising same = cut_step p h r rs (nat_le r.seqno p) refl (rest_after r rs rising) same (λ kept. cut_fold p (with_request h r) rs (rest_rises r rs rising) kept)

pub history-up_to : (p : ℕ) (rs : List Recorded) → IsRising rs → history (up_to p rs) ≡ cut_to p (history rs)
unfolding history
history-up_to p rs rising = cut_fold p no_history rs rising refl
