-- Requests that follow one another behind a base: their prefixes, one request more, the induction
-- along them, and that without a base they are those that follow one another from the first on.
use Rattle.std.proofs.Common.{◌≡◌, ◌↔◌, ℕ, List, [], ◌∷◌, ◌++◌, length, take, Option, None, Some, Ok, slice_get, refl, sym, ◌∙◌, ap, subst, ⊎_elim, append-nil, arith}
use Rattle.std.proofs.Math.Seq.{take-append_seam}
use Rattle.std.proofs.lemmas.List.{take-append-le}
use Rattle.std.proofs.lemmas.Grind.{fold-append}
use Rattle.gl_base.proofs.Lists.{slice_get-within, slice_get-append, slice_get-push, slice_get-last, push-append}
use Rattle.gl_vmaps.specs.declared.row.Row.{Row}
use Rattle.gl_gov_rules.specs.declared.change.Recorded.{Recorded}
use Rattle.gl_gov_rules.specs.declared.row.GovernedRows.{GovernedRows}
use Rattle.gl_gov_rules.specs.History.{History}
use Rattle.gl_gov_rules.specs.Changes.{with_request, history}
use Rattle.gl_gov_rules.specs.Governed.{Follows, IsGoverned, up_to}
use Rattle.gl_gov_rules.specs.GovernedRows.{no_rows, begin_with, history_behind, history_over, governed_rows}
use Rattle.gl_gov_rules.specs.Refusals.{refusal}
use Rattle.gl_gov_rules.specs.Rising.{IsRising}
use Rattle.gl_gov_rules.proofs.CutLists.{requests_above, requests_split}
use Rattle.gl_gov_rules.proofs.Prefixes.{history-more, history_of_none}
use Rattle.gl_gov_base.specs.GovernedOver.{FollowsOver, IsGovernedOver}
use Rattle.gl_gov_base.proofs.RowsCollected.{rows_ended, seqno_collected}

-- ---- histories

-- with one request more
pub over_more : (base : Option GovernedRows) (rs : List Recorded) (r : Recorded) → history_over base (rs ++ r ∷ []) ≡ with_request (history_over base rs) r
unfolding history_behind
over_more None rs r = history-more rs r
over_more (Some g) rs r = fold-append with_request (begin_with (Some g)) rs (r ∷ [])

-- of no requests
pub over_none : (base : Option GovernedRows) → history_over base [] ≡ begin_with base
unfolding history_behind
over_none None = history_of_none
over_none (Some g) = refl

-- without a base
pub no_base : (rs : List Recorded) → history_over None rs ≡ history rs
no_base rs = refl

-- what is read has the seqno that it is read for
pub seqno_read : (seqno : ℕ) (all : List Row) (g : GovernedRows) → governed_rows seqno all ≡ Ok g → g.seqno ≡ seqno
unfolding governed_rows
seqno_read seqno all g read =
    let ended = rows_ended 0 (no_rows seqno) all g read in
    ap (λ (n : GovernedRows). n.seqno) (sym ended.is) ∙ seqno_collected (no_rows seqno) all ended.last ended.reached

-- ---- prefixes

-- the requests in front follow one another
pub over_prefix : (base : Option GovernedRows) (prefix rest : List Recorded) → IsGovernedOver base (prefix ++ rest) → IsGovernedOver base prefix
over_prefix base prefix rest all i r at =
    let within = slice_get-within prefix i r at in
    subst (λ rs. FollowsOver base rs r) (take-append-le i prefix rest (omega (arith, within))) (all i r (slice_get-append prefix rest i r at))

-- the request after them follows them
pub over_next : (base : Option GovernedRows) (prefix : List Recorded) (r : Recorded) (rest : List Recorded) → IsGovernedOver base (prefix ++ r ∷ rest) → FollowsOver base prefix r
over_next base prefix r rest all =
    let at : slice_get (prefix ++ r ∷ rest) (length prefix) ≡ Some r =
    ap (λ rs. slice_get rs (length prefix)) (sym (push-append prefix r rest)) ∙ slice_get-append (prefix ++ r ∷ []) rest (length prefix) r (slice_get-last prefix r) in
    subst (λ rs. FollowsOver base rs r) (take-append_seam prefix (r ∷ rest)) (all (length prefix) r at)

-- with one more that follows them
pub over_pushed : (base : Option GovernedRows) (rs : List Recorded) (r : Recorded) → IsGovernedOver base rs → FollowsOver base rs r → IsGovernedOver base (rs ++ r ∷ [])
over_pushed base rs r all follows i q at =
    let fits = take-append-le i rs (r ∷ []) in
    ⊎_elim
    (λ (old : slice_get rs i ≡ Some q). subst (λ xs. FollowsOver base xs q) (sym (fits (omega (arith, slice_get-within rs i q old)))) (all i q old))
    (λ (new : (i ≡ length rs) × (q ≡ r)). rw (new.1, new.0, take-append_seam rs (r ∷ [])) follows)
    (slice_get-push rs r i q at)

-- the requests and the one after them
pub over_last : (base : Option GovernedRows) (rs : List Recorded) (r : Recorded) → IsGovernedOver base (rs ++ r ∷ []) → IsGovernedOver base rs × FollowsOver base rs r
over_last base rs r all = (over_prefix base rs (r ∷ []) all, over_next base rs r [] all)

-- they stand at rising seqnos
pub over_rise : (base : Option GovernedRows) (rs : List Recorded) → IsGovernedOver base rs → IsRising rs
over_rise base rs all i r at = (all i r at).above

-- those up to a seqno follow one another
pub over_cut : (base : Option GovernedRows) (to : ℕ) (rs : List Recorded) → IsGovernedOver base rs → IsGovernedOver base (up_to to rs)
over_cut base to rs all =
    over_prefix base (up_to to rs) (requests_above to rs) (subst (IsGovernedOver base) (requests_split to rs (over_rise base rs all)) all)

-- ---- the induction

module _ (base : Option GovernedRows) (P : List Recorded → Type 0)
    (step : (rs : List Recorded) (r : Recorded) → IsGovernedOver base rs → FollowsOver base rs r → P rs → P (rs ++ r ∷ [])) where
  -- from those before to all
  induction_from : (prefix rest : List Recorded) → IsGovernedOver base (prefix ++ rest) → P prefix → P (prefix ++ rest)
  induction_from prefix [] all holds = rw append-nil holds
  induction_from prefix (r ∷ rest) all holds =
      let next = step prefix r (over_prefix base prefix (r ∷ rest) all) (over_next base prefix r rest all) holds in
      subst P (push-append prefix r rest) (induction_from (prefix ++ r ∷ []) rest (rw push-append all) next)

  -- what holds of no requests, and with each that follows, holds of all that follow one another
  pub over_induction : P [] → (rs : List Recorded) → IsGovernedOver base rs → P rs
  over_induction none rs all = induction_from [] rs all none

-- ---- without a base

follows_whole : (rs : List Recorded) (r : Recorded) → Follows rs r → FollowsOver None rs r
follows_whole rs r follows = record {
  above_base = tt;
  above = follows.above;
  fits = follows.fits;
  founding = follows.founding;
  accepted = ap (λ (h : History). refusal h r.seqno r.request) (no_base rs) ∙ follows.accepted;
}

whole_follows : (rs : List Recorded) (r : Recorded) → FollowsOver None rs r → Follows rs r
whole_follows rs r follows = record {
  above = follows.above;
  fits = follows.fits;
  founding = follows.founding;
  accepted = ap (λ (h : History). refusal h r.seqno r.request) (sym (no_base rs)) ∙ follows.accepted;
}

-- requests that follow one another from the first on do so behind no base
pub whole_over : (rs : List Recorded) → IsGoverned rs ↔ IsGovernedOver None rs
whole_over rs = (λ all i r at. follows_whole (take i rs) r (all i r at), λ all i r at. whole_follows (take i rs) r (all i r at))
