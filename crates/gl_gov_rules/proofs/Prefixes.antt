-- Requests that follow one another: their prefixes, one request more, and the induction along them.
use Rattle.std.proofs.Common.{◌≡◌, ℕ, List, [], ◌∷◌, ◌++◌, length, take, drop, map, Some, slice_get, refl, sym, ◌∙◌, ap, subst, ⊎_elim, append-nil, take-append-drop, arith}
use Rattle.std.proofs.Math.Seq.{take-append_seam}
use Rattle.std.proofs.lemmas.List.{take-append-le}
use Rattle.std.proofs.lemmas.Grind.{fold-append}
use Rattle.gl_base.proofs.Lists.{slice_get-within, slice_get-append, slice_get-push, slice_get-last, push-append}
use Rattle.gl_gov_rules.specs.declared.change.Recorded.{Recorded}
use Rattle.gl_gov_rules.specs.History.{History, no_history}
use Rattle.gl_gov_rules.specs.Changes.{changes_of, changed_at, with_request, history}
use Rattle.gl_gov_rules.specs.Governed.{Follows, IsGoverned}

-- ---- one request more

-- the history of one request more is that of the requests before it, with it
pub history-more : (rs : List Recorded) (r : Recorded) → history (rs ++ r ∷ []) ≡ with_request (history rs) r
unfolding history
history-more rs r = fold-append with_request no_history rs (r ∷ [])

pub requests_with : (h : History) (r : Recorded) → (with_request h r).requests ≡ h.requests ++ r ∷ []
unfolding with_request
requests_with h r = refl

pub changes_with : (h : History) (r : Recorded) → (with_request h r).changes ≡ h.changes ++ map (changed_at r.seqno) (changes_of h r)
unfolding with_request
changes_with h r = refl

pub requests_more : (rs : List Recorded) (r : Recorded) → (history (rs ++ r ∷ [])).requests ≡ (history rs).requests ++ r ∷ []
requests_more rs r = ap (λ (h : History). h.requests) (history-more rs r) ∙ requests_with (history rs) r

pub changes_more : (rs : List Recorded) (r : Recorded) → (history (rs ++ r ∷ [])).changes ≡ (history rs).changes ++ map (changed_at r.seqno) (changes_of (history rs) r)
changes_more rs r = ap (λ (h : History). h.changes) (history-more rs r) ∙ changes_with (history rs) r

-- the history of no requests
pub history_of_none : history [] ≡ no_history
unfolding history
history_of_none = refl

-- ---- prefixes

-- the requests in front follow one another
pub governed_prefix : (prefix rest : List Recorded) → IsGoverned (prefix ++ rest) → IsGoverned prefix
governed_prefix prefix rest all i r at =
    let within = slice_get-within prefix i r at in
    subst (λ rs. Follows rs r) (take-append-le i prefix rest (omega (arith, within))) (all i r (slice_get-append prefix rest i r at))

-- the request after them follows them
pub governed_next : (prefix : List Recorded) (r : Recorded) (rest : List Recorded) → IsGoverned (prefix ++ r ∷ rest) → Follows prefix r
governed_next prefix r rest all =
    let at : slice_get (prefix ++ r ∷ rest) (length prefix) ≡ Some r =
    ap (λ rs. slice_get rs (length prefix)) (sym (push-append prefix r rest)) ∙ slice_get-append (prefix ++ r ∷ []) rest (length prefix) r (slice_get-last prefix r) in
    subst (λ rs. Follows rs r) (take-append_seam prefix (r ∷ rest)) (all (length prefix) r at)

-- so do the first ones, so many of them
pub governed_take : (n : ℕ) (rs : List Recorded) → IsGoverned rs → IsGoverned (take n rs)
governed_take n rs all = governed_prefix (take n rs) (drop n rs) (rw (take-append-drop n rs) all)

-- with one more that follows them
pub governed_more : (rs : List Recorded) (r : Recorded) → IsGoverned rs → Follows rs r → IsGoverned (rs ++ r ∷ [])
governed_more rs r all follows i q at =
    let fits = take-append-le i rs (r ∷ []) in
    ⊎_elim
    (λ (old : slice_get rs i ≡ Some q). subst (λ xs. Follows xs q) (sym (fits (omega (arith, slice_get-within rs i q old)))) (all i q old))
    (λ (new : (i ≡ length rs) × (q ≡ r)). rw (new.1, new.0, take-append_seam rs (r ∷ [])) follows)
    (slice_get-push rs r i q at)

-- the requests and the one after them
pub governed_last : (rs : List Recorded) (r : Recorded) → IsGoverned (rs ++ r ∷ []) → IsGoverned rs × Follows rs r
governed_last rs r all = (governed_prefix rs (r ∷ []) all, governed_next rs r [] all)

-- ---- the induction

-- from those before to all
induction_from : (P : List Recorded → Type 0) → ((rs : List Recorded) (r : Recorded) → IsGoverned rs → Follows rs r → P rs → P (rs ++ r ∷ [])) →
    (prefix rest : List Recorded) → IsGoverned (prefix ++ rest) → P prefix → P (prefix ++ rest)
induction_from P step prefix [] all holds = rw append-nil holds
induction_from P step prefix (r ∷ rest) all holds =
    let next = step prefix r (governed_prefix prefix (r ∷ rest) all) (governed_next prefix r rest all) holds in
    subst P (push-append prefix r rest) (induction_from P step (prefix ++ r ∷ []) rest (rw push-append all) next)

-- what holds of no requests, and with each that follows, holds of all that follow one another
pub governed_induction : (P : List Recorded → Type 0) → P [] → ((rs : List Recorded) (r : Recorded) → IsGoverned rs → Follows rs r → P rs → P (rs ++ r ∷ [])) →
    (rs : List Recorded) → IsGoverned rs → P rs
governed_induction P none step rs all = induction_from P step [] rs all none
