-- A member's answer to a proposal among those of a history and that of one more request.
use Rattle.std.proofs.Common.{◌≡◌, ℕ, List, [], Option, None, Some, Bool, ◌||◌, refl, sym, ◌∙◌, ap}
use Rattle.std.specs.List.{list_any, cons_option}
use Rattle.std.specs.Option.{option_to_list}
use Rattle.std.proofs.lemmas.List.Folds.{list_any-append}
use Rattle.gl_requests.specs.declared.request.GovernanceRequest.{GovernanceRequest}
use Rattle.gl_gov_rules.specs.History.{History, Answered}
use Rattle.gl_gov_rules.specs.Proposals.{answer_in, answers_of, answers_with, is_answer, has_answered, is_ballot}
use Rattle.gl_gov_rules.proofs.HistoryIndex.{is_ballot_answer}

-- it is among those before, or it is the last
pub answered_with : (h : History) (g : GovernanceRequest) (id : List ℕ) (agrees : Bool) (number : ℕ) →
    has_answered (answers_with h g) id agrees number ≡ (has_answered (answers_of h) id agrees number || is_ballot id number agrees g)
unfolding has_answered
answered_with h g id agrees number =
    let any = list_any (is_answer id agrees number) in
    list_any-append (is_answer id agrees number) (answers_of h) (option_to_list (answer_in g))
    ∙ ap (λ (b : Bool). any (answers_of h) || b) (one (answer_in g) ∙ sym (is_ballot_answer id agrees number g))
  where
    one : (o : Option Answered) → list_any (is_answer id agrees number) (option_to_list o) ≡ list_any (is_answer id agrees number) (cons_option o [])
    one None = refl
    one (Some a) = refl
