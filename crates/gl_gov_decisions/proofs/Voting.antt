-- The members who gave an answer, by the ballots on a proposal and one more request.
use Rattle.std.proofs.Common.{◌≡◌, ℕ, List, [], ◌∷◌, Bool, ◌&&◌, ◌||◌, cond, filter, length, refl, sym, ap, ◌∙◌}
use Rattle.std.specs.List.{count_by, list_any}
use Rattle.std.proofs.lemmas.List.Sums.{length-filter}
use Rattle.gl_requests.specs.declared.genesis.NewMember.{NewMember}
use Rattle.gl_gov_rules.specs.declared.change.Recorded.{Recorded}
use Rattle.gl_gov_rules.specs.History.{History}
use Rattle.gl_gov_rules.specs.Members.{is_active, members}
use Rattle.gl_gov_rules.specs.Proposals.{answers_with, has_answered, ballots_on, is_ballot, is_vote}
use Rattle.gl_gov_rules.specs.Tally.{answer_count}
use Rattle.gl_gov_rules.proofs.HistoryIndex.{answered_any}
use Rattle.gl_gov_rules.proofs.Answered.{answered_with}

same_filter : {A : Type 0} (p q : A → Bool) → ((x : A) → p x ≡ q x) → (xs : List A) → filter p xs ≡ filter q xs
same_filter p q same [] = refl
same_filter {A = A} p q same (x ∷ xs) = ap (λ b. cond b (x ∷ filter p xs) (filter p xs)) (same x) ∙ ap (λ ys. cond (q x) (x ∷ ys) ys) (same_filter p q same xs)

same_count : {A : Type 0} (p q : A → Bool) → ((x : A) → p x ≡ q x) → (xs : List A) → count_by p xs ≡ count_by q xs
same_count p q same xs = sym (length-filter p xs) ∙ ap length (same_filter p q same xs) ∙ length-filter q xs

-- the answer is among the ballots, or it is the last
voted : (h : History) (r : Recorded) (id : List ℕ) (agrees : Bool) (number : ℕ) →
    (list_any (is_vote number agrees) (ballots_on id h) || is_ballot id number agrees r.request) ≡ has_answered (answers_with h r.request) id agrees number
voted h r id agrees number =
    ap (λ b. b || is_ballot id number agrees r.request) (sym (answered_any h id agrees number)) ∙ sym (answered_with h r.request id agrees number)

pub votes_counted : (h : History) (r : Recorded) (id : List ℕ) (agrees : Bool) →
    count_by (λ (m : NewMember). is_active h m.number && (list_any (is_vote m.number agrees) (ballots_on id h) || is_ballot id m.number agrees r.request)) (members h)
    ≡ answer_count h (answers_with h r.request) id agrees
unfolding answer_count
votes_counted h r id agrees =
    same_count (λ (m : NewMember). is_active h m.number && (list_any (is_vote m.number agrees) (ballots_on id h) || is_ballot id m.number agrees r.request))
    (λ (m : NewMember). is_active h m.number && has_answered (answers_with h r.request) id agrees m.number)
    (λ m. ap (λ b. is_active h m.number && b) (voted h r id agrees m.number)) (members h)
