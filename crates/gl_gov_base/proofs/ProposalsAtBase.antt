-- The proposals and the answers of a history that begins with the rows of another.
use Rattle.std.proofs.Common.{◌≡◌, ℕ, ◌-◌, ◌<◌, ◌≤◌, List, [], ◌∷◌, ◌++◌, map, Option, Some, None, is_some, Bool, true, false, not, ◌&&◌, ◌||◌, cond, find, filter_map, flat_map, nat_lt, nat_eq, refl, sym, ◌∙◌, ap, subst₂, append-nil, arith}
use Rattle.std.specs.List.{list_any, cons_option, AllByRecursion}
use Rattle.std.specs.Option.{option_map}
use Rattle.std.proofs.lemmas.Bool.Decides.{nat_tests}
use Rattle.std.proofs.lemmas.Bool.{or_parts}
use Rattle.std.proofs.lemmas.List.Folds.{list_any-append}
use Rattle.gl_base.specs.Bytes.{same_bytes}
use Rattle.gl_vmaps.proofs.TablesLaws.{same_bytes-symm, same_bytes-eq}
use Rattle.gl_gov_rules.proofs.Counting.{find_passes}
use Rattle.gl_gov_rules.specs.declared.change.Proposal.{Proposal}
use Rattle.gl_gov_rules.specs.declared.change.ProposalState.{ProposalState}
use Rattle.gl_gov_rules.specs.declared.change.ProposalState.TheVariants as states
use Rattle.gl_gov_rules.specs.declared.change.Change.{Change}
use Rattle.gl_gov_rules.specs.declared.change.Change.TheVariants as changes
use Rattle.gl_gov_rules.specs.declared.row.Vote.{Vote}
use Rattle.gl_gov_rules.specs.History.{History}
use Rattle.gl_gov_rules.specs.Proposals.{proposals, proposal, has_proposal_id, dropped_if, state_settled, proposal_state, is_open_state, same_answer, is_answer, answers_of, has_answered}
use Rattle.gl_gov_rules.specs.Rows.{proposal_row, votes}
use Rattle.gl_gov_base.specs.SameBy.{SameBy}
use Rattle.gl_gov_base.specs.Alike.{ProposalView, proposal_view, first_of_list, settled_by, is_view_of}
use Rattle.gl_gov_rules.specs.declared.row.ProposalAt.{ProposalAt}
use Rattle.gl_gov_rules.specs.declared.row.GovernedRows.{GovernedRows}
use Rattle.gl_gov_rules.specs.GovernedRows.{carried_proposal, answers_carried, settled_row}
use Rattle.gl_gov_base.specs.AtBase.{is_proposal_at, proposal_at, IsReadOf, IsOneProposal, IsSettled}
use Rattle.gl_gov_base.proofs.SameLists.{map_twice, find-map, any-map, same_any, same_map, same_sym}
use Rattle.gl_gov_base.proofs.SameReadings.{state_viewed, state_in}
use Rattle.gl_gov_base.proofs.RowChanges.{none_or, kept_kept, on_recovered, on_founded, on_dealt, on_members, on_removed, on_nodes, kept_parts}
use Rattle.gl_gov_base.proofs.RowReadings.{begun}

never : (k : ℕ) → nat_lt k 0 ≡ false
never k = grind (arith, nat_tests)

-- ---- lists

kept_find : {A B : Type 0} (p : A → Bool) (f : A → B) (xs : List A) → first_of_list (filter_map (λ x. cond (p x) (Some (f x)) None) xs) ≡ option_map f (find p xs)
kept_find p f [] = refl
kept_find p f (x ∷ xs) = by (p x) (kept_find p f xs)
  where
    by : (b : Bool) → first_of_list (filter_map (λ x. cond (p x) (Some (f x)) None) xs) ≡ option_map f (find p xs) →
        first_of_list (cons_option (cond b (Some (f x)) None) (filter_map (λ x. cond (p x) (Some (f x)) None) xs)) ≡ option_map f (cond b (Some x) (find p xs))
    by true e = refl
    by false e = e

any_flat : {A B : Type 0} (p : B → Bool) (f : A → List B) (xs : List A) → list_any p (flat_map f xs) ≡ list_any (λ x. list_any p (f x)) xs
any_flat p f [] = refl
any_flat p f (x ∷ xs) = list_any-append p (f x) (flat_map f xs) ∙ ap (λ b. list_any p (f x) || b) (any_flat p f xs)

-- where only one element has a key
module _ {A : Type 0} (has test : A → Bool) (x : A) where
  abbrev IsApart : A → Type 0
  IsApart y = has y ≡ true → y ≡ x

  none_passes : (xs : List A) → test x ≡ false → AllByRecursion IsApart xs → find (λ y. has y && test y) xs ≡ None
  none_passes [] fails all = refl
  none_passes (y ∷ ys) fails all = (λ i. cond (by (has y) refl i) (Some y) (find (λ y. has y && test y) ys)) ∙ none_passes ys fails all.1
    where
      by : (b : Bool) → has y ≡ b → (has y && test y) ≡ false
      by true is = (λ i. is i && test y) ∙ ap test (all.0 is) ∙ fails
      by false is = λ i. is i && test y

  one_passes : (xs : List A) → test x ≡ true → list_any has xs ≡ true → AllByRecursion IsApart xs → find (λ y. has y && test y) xs ≡ Some x
  one_passes [] passes stands all = absurd cc
  one_passes (y ∷ ys) passes stands all = by (has y) refl (one_passes ys passes)
    where
      by : (b : Bool) → has y ≡ b → (list_any has ys ≡ true → AllByRecursion IsApart ys → find (λ y. has y && test y) ys ≡ Some x) → find (λ y. has y && test y) (y ∷ ys) ≡ Some x
      by true is rest =
          let same = all.0 is in
          let pass : (has y && test y) ≡ true = (λ i. is i && test y) ∙ ap test same ∙ passes in
          (λ i. cond (pass i) (Some y) (find (λ y. has y && test y) ys)) ∙ ap Some same
      by false is rest =
          (λ i. cond (is i && test y) (Some y) (find (λ y. has y && test y) ys)) ∙ rest (sym (λ i. is i || list_any has ys) ∙ stands) all.1

none_has : {A : Type 0} (has test : A → Bool) (xs : List A) → list_any has xs ≡ false → find (λ y. has y && test y) xs ≡ None
none_has has test [] e = refl
none_has has test (y ∷ ys) e =
    let both = or_parts (has y) (list_any has ys) e in
    (λ i. cond (both.0 i && test y) (Some y) (find (λ y. has y && test y) ys)) ∙ none_has has test ys both.1

-- ---- how rows settle a proposal

abbrev is_closed : ProposalAt → Bool
is_closed p = not (is_open_state p.row.state)

abbrev state_at : ProposalAt → ProposalState
state_at p = p.row.state

module _ (g : GovernedRows) where
  base_settled : (q : Proposal) → settled_by (begun g) q ≡ option_map state_at (find (λ p. is_proposal_at q.id p && is_closed p) g.proposals)
  base_settled q =
      let f : ℕ → Change → Option ProposalState = λ s c. state_settled q s c in
      let low = ap dropped_if (never q.seqno) in
      ap (λ (xs : List ProposalState). first_of_list xs) (kept_parts f g
      ∙ (λ i. on_recovered f (λ key. low) g.service i ++ on_founded f (λ s key. refl) g.service i ++ cons_option (low i) [] ++ on_dealt f (λ d. refl) g.dealing i ++ on_members f (λ m. refl) g.members i ++ on_removed f (λ n. refl) g.members i ++ kept_kept (f 0) settled_row g.proposals i ++ on_nodes f g.seqno (λ s id. refl) g.nodes i)
      ∙ append-nil (filter_map (λ p. none_or (f 0) (settled_row p)) g.proposals)
      ∙ (λ i. filter_map (λ p. (by (is_open_state p.row.state) p.id p.row.state ∙ (λ j. cond (same_bytes-symm q.id p.id j && is_closed p) (Some p.row.state) None)) i) g.proposals))
      ∙ kept_find (λ p. is_proposal_at q.id p && is_closed p) state_at g.proposals
    where
      by : (b : Bool) (id : List ℕ) (state : ProposalState) → none_or (λ (c : Change). state_settled q 0 c) (cond b None (Some (changes.Settled id state))) ≡ cond (same_bytes q.id id && not b) (Some state) None
      by true id state = sym (no (same_bytes q.id id))
        where
          no : (s : Bool) → cond (s && false) (Some state) None ≡ None
          no true = refl
          no false = refl
      by false id state = yes_so (same_bytes q.id id)
        where
          yes_so : (s : Bool) → cond s (Some state) None ≡ cond (s && true) (Some state) None
          yes_so true = refl
          yes_so false = refl

  base_proposals : proposals (begun g) ≡ map carried_proposal g.proposals
  unfolding proposals
  base_proposals = append-nil (map carried_proposal g.proposals)

closed : (s : ProposalState) → (Some s ≡ Some states.Open → ⊥) → is_open_state s ≡ false
closed states.Open other = absurd (other refl)
closed states.Accepted other = refl
closed states.Rejected other = refl
closed states.Withdrawn other = refl
closed states.Failed other = refl
closed states.Dropped other = refl

module _ (base : ℕ) (h : History) (g : GovernedRows) (read : IsReadOf base h g) (known : IsSettled base h) where
  abbrev open_not : Proposal → Bool
  open_not p = not (is_open_state (proposal_state h p))

  settled_rows : (q : Proposal) → settled_by (begun g) q ≡ option_map state_at (option_map (proposal_at h) (find (λ p. same_bytes p.id q.id && open_not p) (proposals h)))
  unfolding proposal_row
  settled_rows q =
      base_settled g q
      ∙ ap (option_map state_at) (read.proposals.first_with q.id is_closed ∙ find-map (λ p. is_proposal_at q.id p && is_closed p) (proposal_at h) (proposals h))

  -- a proposal of the history is settled by its row
  settled_one : (p q : Proposal) → q.id ≡ p.id → IsOneProposal base h p → settled_by h p ≡ settled_by (begun g) q
  unfolding proposal_row
  settled_one p q same one = by (settled_by h p) refl ∙ sym (settled_rows q ∙ (λ i. option_map state_at (option_map (proposal_at h) (find (λ r. same_bytes r.id (same i) && open_not r) (proposals h)))))
    where
      by : (o : Option ProposalState) → settled_by h p ≡ o → o ≡ option_map state_at (option_map (proposal_at h) (find (λ r. same_bytes r.id p.id && open_not r) (proposals h)))
      by None is =
          let stays : open_not p ≡ false = ap (λ s. not (is_open_state s)) (state_viewed base h p ∙ ap (λ o. state_in (record (proposal_view base h p) { settled = o })) is) in
          sym (ap (λ o. option_map state_at (option_map (proposal_at h) o)) (none_passes (λ r. same_bytes r.id p.id) open_not p (proposals h) stays one.apart))
      by (Some s) is =
          let state : proposal_state h p ≡ s = state_viewed base h p ∙ ap (λ o. state_in (record (proposal_view base h p) { settled = o })) is in
          let shut : open_not p ≡ true = ap (λ s. not (is_open_state s)) state ∙ ap (λ b. not b) (closed s (λ e. one.settled (is ∙ e))) in
          sym (ap (λ o. option_map state_at (option_map (proposal_at h) o)) (one_passes (λ r. same_bytes r.id p.id) open_not p (proposals h) shut one.stands one.apart) ∙ ap Some state)

  view_of_row : (p : Proposal) → IsOneProposal base h p → proposal_view base h p ≡ proposal_view base (begun g) (carried_proposal (proposal_at h p))
  unfolding proposal_row
  view_of_row p one =
      let settled = settled_one p (carried_proposal (proposal_at h p)) refl one in
      let late : p.seqno - base ≡ 0 - base = (let low : p.seqno ≤ base = one.low in omega arith) in
      λ i. record { id = p.id; late = late i; proposer = p.proposer; actions = p.actions; settled = settled i }

  views_of_rows : (ps : List Proposal) → AllByRecursion (IsOneProposal base h) ps → map (proposal_view base h) ps ≡ map (λ p. proposal_view base (begun g) (carried_proposal (proposal_at h p))) ps
  views_of_rows [] all = refl
  views_of_rows (p ∷ ps) all = λ i. view_of_row p all.0 i ∷ views_of_rows ps all.1 i

  pub proposals_at_base : SameBy is_view_of (map (proposal_view base h) (proposals h)) (map (proposal_view base (begun g)) (proposals (begun g)))
  proposals_at_base =
      let f : ProposalAt → ProposalView = λ p. proposal_view base (begun g) (carried_proposal p) in
      let rows : map f (map (proposal_at h) (proposals h)) ≡ map (proposal_view base h) (proposals h) = sym (views_of_rows (proposals h) known.each_proposal ∙ map_twice f (proposal_at h) (proposals h)) in
      let mine : map f g.proposals ≡ map (proposal_view base (begun g)) (proposals (begun g)) = map_twice (proposal_view base (begun g)) carried_proposal g.proposals ∙ sym (ap (map (proposal_view base (begun g))) (base_proposals g)) in
      same_sym is_view_of (map (proposal_view base (begun g)) (proposals (begun g))) (map (proposal_view base h) (proposals h))
      (subst₂ (SameBy is_view_of) mine rows (same_map is_proposal_at is_view_of f (λ k p. refl) g.proposals (map (proposal_at h) (proposals h)) read.proposals))

  -- a proposal that isn't made yet
  pub new_proposal_at_base : (p : Proposal) → base < p.seqno → proposal h p.id ≡ None → proposal_view base h p ≡ proposal_view base (begun g) p
  unfolding proposal
  new_proposal_at_base p high fresh =
      let unknown : list_any (has_proposal_id p.id) (proposals h) ≡ false = sym (find_passes (has_proposal_id p.id) (proposals h)) ∙ ap (λ (o : Option Proposal). is_some o) fresh in
      let settled = known.unsettled p high unknown ∙ sym (settled_rows p ∙ ap (λ o. option_map state_at (option_map (proposal_at h) o)) (none_has (has_proposal_id p.id) open_not (proposals h) unknown)) in
      λ i. record { id = p.id; late = p.seqno - base; proposer = p.proposer; actions = p.actions; settled = settled i }

  -- ---- answers

  votes_of : (id : List ℕ) (agrees : Bool) (n : ℕ) (p : Proposal) → list_any (is_answer id agrees n) (answers_carried (proposal_at h p)) ≡ (same_bytes p.id id && has_answered (answers_of h) id agrees n)
  unfolding proposal_row
  votes_of id agrees n p =
      sym (any-map (is_answer id agrees n) (λ (v : Vote). record { id = p.id; member = v.member; agrees = v.agrees }) (votes (answers_of h) p.id))
      ∙ by (same_bytes p.id id) refl
    where
      and_false : (b : Bool) → (b && false) ≡ false
      and_false true = refl
      and_false false = refl

      nothing : (vs : List Vote) → list_any (λ (v : Vote). false) vs ≡ false
      nothing [] = refl
      nothing (v ∷ vs) = nothing vs

      by : (b : Bool) → same_bytes p.id id ≡ b → list_any (λ (v : Vote). nat_eq v.member n && (same_bytes p.id id && same_answer v.agrees agrees)) (votes (answers_of h) p.id) ≡ (same_bytes p.id id && has_answered (answers_of h) id agrees n)
      by true is =
          (λ i. list_any (λ (v : Vote). nat_eq v.member n && (is i && same_answer v.agrees agrees)) (votes (answers_of h) p.id))
          ∙ known.voted p.id agrees n ∙ ap (λ k. has_answered (answers_of h) k agrees n) (same_bytes-eq p.id id is) ∙ sym (λ i. is i && has_answered (answers_of h) id agrees n)
      by false is =
          (λ i. list_any (λ (v : Vote). (ap (λ b. nat_eq v.member n && (b && same_answer v.agrees agrees)) is ∙ and_false (nat_eq v.member n)) i) (votes (answers_of h) p.id))
          ∙ nothing (votes (answers_of h) p.id) ∙ sym (λ i. is i && has_answered (answers_of h) id agrees n)

  any_of : (id : List ℕ) (k : Bool) (ps : List Proposal) → list_any (λ (p : Proposal). same_bytes p.id id && k) ps ≡ (k && list_any (has_proposal_id id) ps)
  any_of id true [] = refl
  any_of id false [] = refl
  any_of id k (p ∷ ps) = ap (λ b. (same_bytes p.id id && k) || b) (any_of id k ps) ∙ join (same_bytes p.id id) k (list_any (has_proposal_id id) ps)
    where
      join : (s k r : Bool) → ((s && k) || (k && r)) ≡ (k && (s || r))
      join true true r = refl
      join true false r = refl
      join false k r = refl

  carried_answers : answers_of (begun g) ≡ flat_map answers_carried g.proposals
  unfolding answers_of
  carried_answers = append-nil (flat_map answers_carried g.proposals)

  pub answers_at_base : (id : List ℕ) (agrees : Bool) (n : ℕ) → has_answered (answers_of h) id agrees n ≡ has_answered (answers_of (begun g)) id agrees n
  unfolding has_answered
  answers_at_base id agrees n =
      sym (ap (list_any (is_answer id agrees n)) carried_answers
      ∙ any_flat (is_answer id agrees n) answers_carried g.proposals
      ∙ same_any is_proposal_at g.proposals (map (proposal_at h) (proposals h)) read.proposals (λ p. list_any (is_answer id agrees n) (answers_carried p))
      ∙ sym (any-map (λ p. list_any (is_answer id agrees n) (answers_carried p)) (proposal_at h) (proposals h))
      ∙ (λ i. list_any (λ (p : Proposal). votes_of id agrees n p i) (proposals h))
      ∙ any_of id (has_answered (answers_of h) id agrees n) (proposals h)
      ∙ by (has_answered (answers_of h) id agrees n) refl)
    where
      by : (b : Bool) → has_answered (answers_of h) id agrees n ≡ b → (b && list_any (has_proposal_id id) (proposals h)) ≡ b
      by true is = known.answered id agrees n is
      by false is = refl
