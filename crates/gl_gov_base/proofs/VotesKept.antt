-- The votes of a proposal's row are the answers on it: each member answers once.
use Rattle.std.proofs.Common.{◌≡◌, ⊎_elim, ℕ, zero, suc, ◌+◌, List, [], ◌∷◌, Some, None, IfSome, Bool, true, false, ◌&&◌, ◌||◌, cond, nat_eq, nat_le, nat_lt, refl, sym, ◌∙◌, ap, subst, arith}
use Rattle.std.specs.List.{list_any, list_all, range_with_len}
use Rattle.std.specs.Option.{option_to_list}
use Rattle.std.proofs.lemmas.Bool.{or_cases, and_parts, eqb-true}
use Rattle.std.proofs.lemmas.Bool.Decides.{nat_tests}
use Rattle.std.proofs.lemmas.List.Folds.{list_any-append}
use Rattle.gl_base.specs.Bytes.{same_bytes}
use Rattle.gl_requests.specs.Ranges.{is_member_number, is_act, is_signature_field, is_request}
use Rattle.gl_requests.specs.declared.request.MemberAct.{MemberAct}
use Rattle.gl_requests.specs.declared.request.MemberAct.TheVariants as acts
use Rattle.gl_requests.specs.declared.request.GovernanceRequest.{GovernanceRequest}
use Rattle.gl_requests.specs.declared.request.GovernanceRequest.TheVariants as requests
use Rattle.gl_gov_rules.specs.declared.change.Recorded.{Recorded}
use Rattle.gl_gov_rules.specs.declared.row.Vote.{Vote}
use Rattle.gl_gov_rules.specs.declared.carried.Answered.{Answered}
use Rattle.gl_gov_rules.specs.History.{History, no_history}
use Rattle.gl_gov_rules.specs.Proposals.{same_answer, answer_in, answer_in_act, answers_of, answers_with, is_answer, has_answered, has_ballot}
use Rattle.gl_gov_rules.specs.Changes.{changes_of, with_request, history}
use Rattle.gl_gov_rules.specs.Refusals.{refusal}
use Rattle.gl_gov_rules.specs.Rows.{vote_of, member_numbers, votes}
use Rattle.gl_gov_rules.specs.Governed.{IsGoverned}
use Rattle.gl_gov_rules.proofs.Prefixes.{history-more, history_of_none, governed_induction}
use Rattle.gl_gov_rules.proofs.RowParts.{all_found, requests_fit}
use Rattle.gl_gov_rules.proofs.NothingCarried.{nothing_carried, answers_asked}
use Rattle.gl_gov_base.specs.Alike.{with_changes}
use Rattle.gl_gov_base.proofs.MoreRequests.{answers_more}
use Rattle.gl_gov_base.proofs.KeptLists.{passes, any_made}
use Rattle.gl_gov_base.proofs.KnownFacts.{with_both}
use Rattle.gl_gov_base.proofs.KnownProposals.{gives, answer_new}

-- ---- one answer of each member

answers_after : (h : History) (r : Recorded) → answers_of (with_request h r) ≡ answers_with h r.request
unfolding answers_of
answers_after h r = ap answers_of (with_both h r) ∙ answers_more (with_changes h r.seqno (changes_of h r)) r

abbrev answered : History → List ℕ → Bool → ℕ → Bool
answered h id agrees n = has_answered (answers_of h) id agrees n

pub record OneAnswer (h : History) : Type 0 where
  pub one : (id : List ℕ) (n : ℕ) → (answered h id true n && answered h id false n) ≡ false

answered_more : (h : History) (r : Recorded) (id : List ℕ) (agrees : Bool) (n : ℕ) → answered (with_request h r) id agrees n ≡ (answered h id agrees n || gives id agrees n r.request)
unfolding has_answered
answered_more h r id agrees n =
    ap (list_any (is_answer id agrees n)) (answers_after h r) ∙ list_any-append (is_answer id agrees n) (answers_of h) (option_to_list (answer_in r.request))

gives_once : (id : List ℕ) (n : ℕ) (g : GovernanceRequest) → (gives id true n g && gives id false n g) ≡ false
gives_once id n (requests.Genesis g) = refl
gives_once id n (requests.Recover r) = refl
gives_once id n (requests.Join x) = refl
gives_once id n (requests.Mark other) = refl
gives_once id n (requests.Member m) = by m.act
  where
    both : (a b given : Bool) → (((a && (b && same_answer given true)) || false) && ((a && (b && same_answer given false)) || false)) ≡ false
    both false b given = refl
    both true false given = refl
    both true true true = refl
    both true true false = refl

    by : (act : MemberAct) → (list_any (is_answer id true n) (option_to_list (answer_in_act m.member act)) && list_any (is_answer id false n) (option_to_list (answer_in_act m.member act))) ≡ false
    by acts.Ack = refl
    by (acts.Propose list) = refl
    by (acts.Withdraw other) = refl
    by (acts.Share share) = refl
    by (acts.Ballot other given) = both (nat_eq m.member n) (same_bytes other id) given

one_more : (ot of gt gf : Bool) → (ot && of) ≡ false → (gt && gf) ≡ false → (gt ≡ true → (ot || of) ≡ false) → (gf ≡ true → (ot || of) ≡ false) → ((ot || gt) && (of || gf)) ≡ false
one_more ot of true true old new one two = absurd cc
one_more true of true false old new one two = absurd (let e = one refl in cc)
one_more false true true false old new one two = absurd (let e = one refl in cc)
one_more false false true false old new one two = refl
one_more true of false true old new one two = absurd (let e = two refl in cc)
one_more false of false true old new one two = refl
one_more true true false false old new one two = absurd cc
one_more true false false false old new one two = refl
one_more false of false false old new one two = refl

one_with : (h : History) (r : Recorded) → refusal h r.seqno r.request ≡ None → OneAnswer h → OneAnswer (with_request h r)
unfolding has_ballot
one_with h r e inv = record {
  one = λ id n.
      (λ i. answered_more h r id true n i && answered_more h r id false n i)
      ∙ one_more (answered h id true n) (answered h id false n) (gives id true n r.request) (gives id false n r.request) (inv.one id n) (gives_once id n r.request)
      (λ is. (answer_new id true n h r.seqno r.request e is).first) (λ is. (answer_new id false n h r.seqno r.request e is).first);
}

none_answered : OneAnswer no_history
unfolding answers_of has_answered
none_answered = record { one = λ id n. refl }

pub one_answer : (rs : List Recorded) → IsGoverned rs → OneAnswer (history rs)
one_answer = governed_induction (λ rs. OneAnswer (history rs)) (subst OneAnswer (sym history_of_none) none_answered)
    (λ rs r all follows old. subst OneAnswer (sym (history-more rs r)) (one_with (history rs) r follows.accepted old))

-- ---- members in their range

abbrev is_by_member : Answered → Bool
is_by_member a = is_member_number a.member

answer_in_range : (g : GovernanceRequest) → is_request g ≡ true → IfSome (answer_in g) (λ (a : Answered). is_by_member a ≡ true)
answer_in_range (requests.Genesis g) fits = tt
answer_in_range (requests.Recover r) fits = tt
answer_in_range (requests.Join x) fits = tt
answer_in_range (requests.Mark other) fits = tt
answer_in_range (requests.Member m) fits = by m.act
  where
    number : is_member_number m.member ≡ true
    number = (and_parts (is_member_number m.member) (is_act m.act) (and_parts (is_member_number m.member && is_act m.act) (is_signature_field m.signature) fits).0).0

    by : (act : MemberAct) → IfSome (answer_in_act m.member act) (λ (a : Answered). is_by_member a ≡ true)
    by acts.Ack = tt
    by (acts.Propose list) = tt
    by (acts.Withdraw other) = tt
    by (acts.Share share) = tt
    by (acts.Ballot other given) = number

answers_in_range : (rs : List Recorded) → IsGoverned rs → list_all is_by_member (answers_of (history rs)) ≡ true
answers_in_range rs all =
    ap (list_all is_by_member) (answers_asked (history rs) (nothing_carried rs))
    ∙ all_found (λ (r : Recorded). is_request r.request) is_by_member (λ (r : Recorded). answer_in r.request) (λ r fits. answer_in_range r.request fits) (history rs).requests (requests_fit rs all)

number_of : (id : List ℕ) (agrees : Bool) (n : ℕ) (given : List Answered) → list_all is_by_member given ≡ true → has_answered given id agrees n ≡ true → is_member_number n ≡ true
unfolding has_answered
number_of id agrees n [] all is = absurd cc
number_of id agrees n (a ∷ given) all is =
    let fits = and_parts (is_by_member a) (list_all is_by_member given) all in
    ⊎_elim
    (λ (one : is_answer id agrees n a ≡ true).
    ap is_member_number (sym (eqb-true a.member n (and_parts (nat_eq a.member n) (same_bytes a.id id && same_answer a.agrees agrees) one).0)) ∙ fits.0)
    (λ (rest : has_answered given id agrees n ≡ true). number_of id agrees n given fits.1 rest)
    (or_cases (is_answer id agrees n a) (has_answered given id agrees n) is)

-- ---- numbers

and_none : (b : Bool) → false ≡ (b && false)
and_none true = refl
and_none false = refl

at_number : (f : ℕ → Bool) (n : ℕ) (ks : List ℕ) → list_any (λ (k : ℕ). nat_eq k n && f k) ks ≡ (list_any (λ (k : ℕ). nat_eq k n) ks && f n)
at_number f n [] = refl
at_number f n (k ∷ ks) = (λ i. head (nat_eq k n) refl i || at_number f n ks i) ∙ join (nat_eq k n) (f n) (list_any (λ (k : ℕ). nat_eq k n) ks)
  where
    head : (b : Bool) → nat_eq k n ≡ b → (nat_eq k n && f k) ≡ (nat_eq k n && f n)
    head true is = ap (λ x. nat_eq k n && f x) (eqb-true k n is)
    head false is = (λ i. is i && f k) ∙ sym (λ i. is i && f n)

    join : (s v r : Bool) → ((s && v) || (r && v)) ≡ ((s || r) && v)
    join true true r = refl
    join true false true = refl
    join true false false = refl
    join false v r = refl

in_range : (a len n : ℕ) → list_any (λ (k : ℕ). nat_eq k n) (range_with_len a len) ≡ (nat_le a n && nat_lt n (a + len))
in_range a zero n = by (nat_le a n && nat_lt n (a + 0)) refl
  where
    by : (b : Bool) → (nat_le a n && nat_lt n (a + 0)) ≡ b → false ≡ (nat_le a n && nat_lt n (a + 0))
    by true e = let parts = and_parts (nat_le a n) (nat_lt n (a + 0)) e in absurd (grind (arith, nat_tests, parts.0, parts.1))
    by false e = sym e
in_range a (suc len) n = ap (λ b. nat_eq a n || b) (in_range (a + 1) len n) ∙ by (nat_eq a n) refl
  where
    same : (nat_le (a + 1) n && nat_lt n ((a + 1) + len)) ≡ (nat_le a n && nat_lt n (a + suc len)) → (nat_eq a n || (nat_le (a + 1) n && nat_lt n ((a + 1) + len))) ≡ (nat_le a n && nat_lt n (a + suc len))
    same e = grind (arith, nat_tests, e)

    by : (b : Bool) → nat_eq a n ≡ b → (nat_eq a n || (nat_le (a + 1) n && nat_lt n ((a + 1) + len))) ≡ (nat_le a n && nat_lt n (a + suc len))
    by true e = grind (arith, nat_tests, e)
    by false e = grind (arith, nat_tests, e)

-- ---- votes

module _ (given : List Answered) (once : (id : List ℕ) (n : ℕ) → (has_answered given id true n && has_answered given id false n) ≡ false) (fits : list_all is_by_member given ≡ true) where
  abbrev is_that : Bool → ℕ → Vote → Bool
  is_that agrees n v = nat_eq v.member n && same_answer v.agrees agrees

  one_vote : (id : List ℕ) (agrees : Bool) (n k : ℕ) → passes (is_that agrees n) (vote_of given id k) ≡ (nat_eq k n && has_answered given id agrees k)
  one_vote id agrees n k = by (has_answered given id true k) (has_answered given id false k) (once id k) agrees ∙ ap (λ b. nat_eq k n && b) (said agrees)
    where
      chosen : Bool → Bool → Bool → Bool
      chosen t f true = t
      chosen t f false = f

      said : (agrees : Bool) → chosen (has_answered given id true k) (has_answered given id false k) agrees ≡ has_answered given id agrees k
      said true = refl
      said false = refl

      by : (t f : Bool) → (t && f) ≡ false → (agrees : Bool) → passes (is_that agrees n) (cond t (Some (record { member = k; agrees = true })) (cond f (Some (record { member = k; agrees = false })) None)) ≡ (nat_eq k n && chosen t f agrees)
      by true true e agrees = absurd cc
      by true false e true = refl
      by true false e false = refl
      by false true e true = refl
      by false true e false = refl
      by false false e true = and_none (nat_eq k n)
      by false false e false = and_none (nat_eq k n)

  pub voted_so : (id : List ℕ) (agrees : Bool) (n : ℕ) → list_any (is_that agrees n) (votes given id) ≡ has_answered given id agrees n
  unfolding votes
  voted_so id agrees n =
      any_made (vote_of given id) (is_that agrees n) member_numbers
      ∙ (λ i. list_any (λ (k : ℕ). one_vote id agrees n k i) member_numbers)
      ∙ at_number (λ k. has_answered given id agrees k) n member_numbers
      ∙ ap (λ b. b && has_answered given id agrees n) (in_range 1 255 n)
      ∙ by (has_answered given id agrees n) refl
    where
      by : (b : Bool) → has_answered given id agrees n ≡ b → ((nat_le 1 n && nat_lt n 256) && b) ≡ b
      by true is = ap (λ x. x && true) (number_of id agrees n given fits is)
      by false is = sym (and_none (nat_le 1 n && nat_lt n 256))

pub voted_of : (rs : List Recorded) → IsGoverned rs → (id : List ℕ) (agrees : Bool) (n : ℕ) →
    list_any (λ (v : Vote). nat_eq v.member n && same_answer v.agrees agrees) (votes (answers_of (history rs)) id) ≡ has_answered (answers_of (history rs)) id agrees n
voted_of rs all id agrees n = voted_so (answers_of (history rs)) (one_answer rs all).one (answers_in_range rs all) id agrees n
