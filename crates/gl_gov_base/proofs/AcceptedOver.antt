-- The other direction of the law of a base: requests that are accepted over the base one after
-- another are accepted after those up to it.
use Rattle.std.proofs.Common.{◌≡◌, ℕ, suc, ◌<◌, ◌≤◌, List, [], ◌∷◌, ◌++◌, Some, None, false, refl, sym, ◌∙◌, ap, subst, append-nil, arith}
use Rattle.std.specs.List.{AllByRecursion}
use Rattle.gl_base.proofs.Lists.{push-append}
use Rattle.gl_vmaps.specs.declared.row.Row.{Row}
use Rattle.gl_gov_rules.specs.declared.change.Recorded.{Recorded}
use Rattle.gl_gov_rules.specs.declared.row.ServiceRow.{ServiceRow}
use Rattle.gl_gov_rules.specs.History.{History, no_history}
use Rattle.gl_gov_rules.specs.Changes.{with_request, history}
use Rattle.gl_gov_rules.specs.Governed.{is_founding, is_nothing, IsAbove, Follows, IsGoverned}
use Rattle.gl_gov_rules.specs.declared.row.GovernedRows.{GovernedRows}
use Rattle.gl_gov_rules.specs.GovernedRows.{history_over}
use Rattle.gl_gov_rules.specs.Refusals.{refusal}
use Rattle.gl_gov_rules.specs.Rising.{IsRising}
use Rattle.gl_gov_rules.specs.Rows.{service_row}
use Rattle.gl_gov_rules.specs.Service.{identity, is_recovered, service_state}
use Rattle.gl_gov_rules.proofs.Counting.{each_append}
use Rattle.gl_gov_rules.proofs.Prefixes.{history-more, history_of_none, governed_more}
use Rattle.gl_gov_rules.proofs.Rising.{AreAfter, rest_rises, rest_after}
use Rattle.gl_gov_base.specs.Alike.{Alike}
use Rattle.gl_gov_base.specs.Law.{AreAccepted, IsOver, IsAcceptedOver}
use Rattle.gl_gov_base.proofs.AtBase.{alike_over}
use Rattle.gl_gov_base.proofs.NewRequests.{is_new}
use Rattle.gl_gov_base.proofs.ReadRows.{read_back}
use Rattle.gl_gov_base.proofs.SameChanges.{alike_request}
use Rattle.gl_gov_base.proofs.SameRefusals.{same_refusal}

-- ---- seqnos and foundings

higher : (m n : ℕ) (rs : List Recorded) → m ≤ n → IsAbove m rs → IsAbove n rs
higher m n [] le all = tt
higher m n (r ∷ rs) le all = ((let low = all.0 in omega (arith, low, le)), higher m n rs le all.1)

above_base : (base : ℕ) (h : History) (es : List Recorded) → AreAccepted base h es → AreAfter base es
above_base base h [] all = tt
above_base base h (r ∷ es) all = (all.0, above_base base (with_request h r) es all.3)

some_pushed : (ps : List Recorded) (r : Recorded) → is_nothing (ps ++ r ∷ []) ≡ false
some_pushed [] r = refl
some_pushed (p ∷ ps) r = refl

-- before a founding there is no row of the service
no_service : service_row no_history ≡ None
unfolding service_row service_state is_recovered identity
no_service = refl

pub some_founded : (rs : List Recorded) (s : ServiceRow) → service_row (history rs) ≡ Some s → is_nothing rs ≡ false
some_founded [] s is = absurd (let none = sym is ∙ ap service_row history_of_none ∙ no_service in cc)
some_founded (r ∷ rs) s is = refl

-- ---- one after another

-- those that are accepted after a history follow the requests of one that is alike to it
module _ (base : ℕ) where
  accepted_follow : (last : ℕ) (b : History) (ps es : List Recorded) → Alike base (history ps) b → IsGoverned ps → is_nothing ps ≡ false → IsAbove (suc last) ps → AreAfter last es →
      IsRising es → AllByRecursion (λ (r : Recorded). is_founding r.request ≡ false) es → AreAccepted base b es → IsGoverned (ps ++ es)
  accepted_follow last b ps [] x before some low after rising none all = rw append-nil before
  accepted_follow last b ps (r ∷ es) x before some low after rising none all =
      let accepted : refusal (history ps) r.seqno r.request ≡ None = same_refusal base (history ps) b x r.seqno all.0 r.request all.1 ∙ all.2 in
      let high = after.0 in
      let follows : Follows ps r = record { above = higher (suc last) r.seqno ps (omega (arith, high)) low; fits = all.1; founding = none.0 ∙ sym some; accepted = accepted } in
      let next : Alike base (history (ps ++ r ∷ [])) (with_request b r) = subst (λ h. Alike base h (with_request b r)) (sym (history-more ps r)) (alike_request base (history ps) b x r (is_new base (history ps) r all.0 all.1 accepted)) in
      let lower : IsAbove (suc r.seqno) (ps ++ r ∷ []) = each_append (λ (q : Recorded). q.seqno < suc r.seqno) ps (r ∷ []) (higher (suc last) (suc r.seqno) ps (omega (arith, high)) low) (omega arith, tt) in
      subst IsGoverned (push-append ps r es)
      (accepted_follow r.seqno (with_request b r) (ps ++ r ∷ []) es next (governed_more ps r before follows) (some_pushed ps r) lower (rest_after r es rising) (rest_rises r es rising) none.1 all.3)

-- what is accepted over the base is accepted after all requests up to it
pub governed_over : (base : ℕ) (all : List Row) (g : GovernedRows) (rs es : List Recorded) → IsAcceptedOver base all g rs es → IsGoverned (rs ++ es)
governed_over base all g rs es over =
    let start : IsOver base all g rs [] = record { above = over.above; rows = over.rows; read = over.read; high = tt; governed = rw append-nil over.governed } in
    let alike : Alike base (history rs) (history_over (Some g) []) = subst (λ qs. Alike base (history qs) (history_over (Some g) [])) (append-nil rs) (alike_over base all g rs [] start) in
    let read = read_back rs over.governed base over.rows.low over.rows.fits all g over.rows.left over.read in
    accepted_follow base base (history_over (Some g) []) rs es alike over.governed (some_founded rs read.founder read.founded) over.rows.low (above_base base (history_over (Some g) []) es over.accepted) over.rising over.founding over.accepted
