-- What is left of each list of a history that is cut stands before it, and is as long as what is
-- counted up to the seqno.
use Rattle.std.proofs.Common.{◌≡◌, ℕ, suc, nat_le, Bool, true, false, cond, Option, None, Some, is_some, List, [], ◌∷◌, ◌++◌, length, take, map, refl, sym, ◌∙◌, ap, append_assoc, append-nil, subst}
use Rattle.std.specs.List.{filter, filter_map, cons_option, count_by, fold}
use Rattle.std.proofs.Math.Seq.{take-append_seam}
use Rattle.std.proofs.lemmas.List.Sums.{length-filter}
use Rattle.std.proofs.lemmas.Grind.{fold-append}
use Rattle.gl_gov_rules.specs.declared.change.Recorded.{Recorded}
use Rattle.gl_gov_rules.specs.declared.change.Changed.{Changed}
use Rattle.gl_gov_rules.specs.declared.row.GovernedRows.{GovernedRows}
use Rattle.gl_gov_rules.specs.History.{Carried, History}
use Rattle.gl_gov_rules.specs.Changes.{with_request, changed_at, changes_of}
use Rattle.gl_gov_rules.specs.GovernedRows.{IsBelow, begin_with, history_over}
use Rattle.gl_gov_rules.specs.Governed.{up_to}
use Rattle.gl_gov_rules.specs.Rising.{IsRising}
use Rattle.gl_gov_rules.proofs.Rising.{AreAfter, rest_rises, rest_after}
use Rattle.gl_gov_rules.proofs.Cutting.{changes_up_to, cut_to, none_above}
use Rattle.gl_gov_rules.proofs.OverBase.{over_fold, over_up_to}

-- ---- what passes a test, where all of it stands first

prefix : {X : Type 0} (p : X → Bool) (xs rest : List X) → xs ≡ filter p xs ++ rest → take (count_by p xs) xs ≡ filter p xs
prefix p xs rest whole =
    ap (λ n. take n xs) (sym (length-filter p xs)) ∙ ap (λ ys. take (length (filter p xs)) ys) whole ∙ take-append_seam (filter p xs) rest

named_filter : {X Y : Type 0} (f : X → Option Y) (xs : List X) → length (filter (λ x. is_some (f x)) xs) ≡ length (filter_map f xs)
named_filter f [] = refl
named_filter {Y = Y} f (x ∷ xs) = by (f x) (named_filter f xs)
  where
    by : (o : Option Y) → length (filter (λ y. is_some (f y)) xs) ≡ length (filter_map f xs) →
        length (cond (is_some o) (x ∷ filter (λ y. is_some (f y)) xs) (filter (λ y. is_some (f y)) xs)) ≡ length (cons_option o (filter_map f xs))
    by None rest = rest
    by (Some y) rest = ap suc rest

pub named_length : {X Y : Type 0} (f : X → Option Y) (xs : List X) → count_by (λ x. is_some (f x)) xs ≡ length (filter_map f xs)
named_length f xs = sym (length-filter (λ x. is_some (f x)) xs) ∙ named_filter f xs

-- as many of a list are taken as were counted in it
pub count_taken : {X Y : Type 0} (p : X → Bool) (k : ℕ) (seen xs : List X) (ys after : List Y) → after ≡ take k ys → k ≡ count_by p seen → seen ≡ xs → after ≡ take (count_by p xs) ys
count_taken p k seen xs ys after items counted same = items ∙ ap (λ n. take n ys) (counted ∙ ap (count_by p) same)

-- ---- requests

abbrev pub requests_above : ℕ → List Recorded → List Recorded
requests_above p [] = []
requests_above p (r ∷ rs) = cond (nat_le r.seqno p) (requests_above p rs) (r ∷ rs)

requests_split_step : (p : ℕ) (r : Recorded) (rs : List Recorded) (b : Bool) → nat_le r.seqno p ≡ b → AreAfter r.seqno rs → rs ≡ up_to p rs ++ requests_above p rs →
    r ∷ rs ≡ cond b (r ∷ up_to p rs) (up_to p rs) ++ cond b (requests_above p rs) (r ∷ rs)
requests_split_step p r rs true e later rest = ap (λ xs. r ∷ xs) rest
requests_split_step p r rs false e later rest = sym (ap (λ xs. xs ++ r ∷ rs) (none_above p r.seqno rs e later))

pub requests_split : (p : ℕ) (rs : List Recorded) → IsRising rs → rs ≡ up_to p rs ++ requests_above p rs
requests_split p [] rising = refl
requests_split p (r ∷ rs) rising = requests_split_step p r rs (nat_le r.seqno p) refl (rest_after r rs rising) (requests_split p rs (rest_rises r rs rising))

pub requests_left : (p : ℕ) (rs : List Recorded) → IsRising rs → take (count_by (λ (r : Recorded). nat_le r.seqno p) rs) rs ≡ up_to p rs
requests_left p rs rising = prefix (λ (r : Recorded). nat_le r.seqno p) rs (requests_above p rs) (requests_split p rs rising)

-- ---- changes

-- the changes that requests bring about after a history
abbrev changes_after : History → List Recorded → List Changed
changes_after h [] = []
changes_after h (r ∷ rs) = map (changed_at r.seqno) (changes_of h r) ++ changes_after (with_request h r) rs

changes_with : (h : History) (r : Recorded) → (with_request h r).changes ≡ h.changes ++ map (changed_at r.seqno) (changes_of h r)
unfolding with_request
changes_with h r = refl

changes_onto : (h : History) (rs : List Recorded) → (fold with_request h rs).changes ≡ h.changes ++ changes_after h rs
changes_onto h [] = sym (append-nil h.changes)
changes_onto h (r ∷ rs) =
    changes_onto (with_request h r) rs ∙ ap (λ xs. xs ++ changes_after (with_request h r) rs) (changes_with h r)
    ∙ append_assoc h.changes (map (changed_at r.seqno) (changes_of h r)) (changes_after (with_request h r) rs)

over_split : (base : Option GovernedRows) (us rs : List Recorded) → (history_over base (us ++ rs)).changes ≡ (history_over base us).changes ++ changes_after (history_over base us) rs
over_split base us rs =
    ap (λ (h : History). h.changes)
    (over_fold base (us ++ rs) ∙ fold-append with_request (begin_with base) us rs ∙ ap (λ (h : History). fold with_request h rs) (sym (over_fold base us)))
    ∙ changes_onto (history_over base us) rs

pub changes_left : (p : ℕ) (base : Option GovernedRows) (h : History) → IsRising h.requests → h ≡ history_over base h.requests → IsBelow base p →
    take (count_by (λ (c : Changed). nat_le c.seqno p) h.changes) h.changes ≡ changes_up_to p h.changes
changes_left p base h rising whole low =
    let us : List Recorded = up_to p h.requests in
    let rs : List Recorded = requests_above p h.requests in
    let same : (history_over base us).changes ≡ changes_up_to p h.changes =
    ap (λ (x : History). x.changes) (over_up_to p base h.requests rising low) ∙ sym (ap (λ (x : History). changes_up_to p x.changes) whole) in
    prefix (λ (c : Changed). nat_le c.seqno p) h.changes (changes_after (history_over base us) rs)
    (ap (λ (x : History). x.changes) (whole ∙ ap (history_over base) (requests_split p h.requests rising)) ∙ over_split base us rs
    ∙ ap (λ xs. xs ++ changes_after (history_over base us) rs) same)

-- ---- the history that is left

record_left : (p : ℕ) (base : Option GovernedRows) (h : History) → IsRising h.requests → h ≡ history_over base h.requests → IsBelow base p →
    record { carried = h.carried; requests = take (count_by (λ (r : Recorded). nat_le r.seqno p) h.requests) h.requests; changes = take (count_by (λ (c : Changed). nat_le c.seqno p) h.changes) h.changes }
    ≡ history_over base (up_to p h.requests)
record_left p base h rising whole low =
    rw (requests_left p h.requests rising, changes_left p base h rising whole low) (ap (cut_to p) whole ∙ sym (over_up_to p base h.requests rising low))

pub rising_in : (h : History) (k : Carried) (rs : List Recorded) (cs : List Changed) → record { carried = k; requests = rs; changes = cs } ≡ h → IsRising h.requests → IsRising rs
rising_in h k rs cs view rising = subst (λ (x : History). IsRising x.requests) (sym view) rising

pub history_left : (p : ℕ) (base : Option GovernedRows) (h : History) (k : Carried) (rs after : List Recorded) (cs left : List Changed) → record { carried = k; requests = rs; changes = cs } ≡ h →
    IsRising h.requests → h ≡ history_over base h.requests → IsBelow base p →
    after ≡ take (count_by (λ (r : Recorded). nat_le r.seqno p) rs) rs → left ≡ take (count_by (λ (c : Changed). nat_le c.seqno p) cs) cs →
    record { carried = k; requests = after; changes = left } ≡ history_over base (up_to p h.requests)
history_left p base h k rs after cs left view rising whole low r c =
    rw (r, c) (subst (λ (x : History). IsRising x.requests → x ≡ history_over base x.requests →
    record { carried = k; requests = take (count_by (λ (r : Recorded). nat_le r.seqno p) rs) rs; changes = take (count_by (λ (c : Changed). nat_le c.seqno p) cs) cs } ≡ history_over base (up_to p x.requests))
    view (λ rise over. record_left p base (record { carried = k; requests = rs; changes = cs }) rise over low) rising whole)
