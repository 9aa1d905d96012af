-- What is read of a history that begins with rows: members, the service, and what is in force.
use Rattle.std.proofs.Common.{◌≡◌, ℕ, List, [], ◌∷◌, ◌++◌, map, Option, Some, None, is_some, Bool, true, false, ◌&&◌, ◌||◌, cond, filter_map, nat_eq, refl, ◌∙◌, ap, append-nil}
use Rattle.std.specs.List.{list_any, cons_option}
use Rattle.std.specs.Option.{option_or, option_map}
use Rattle.gl_vmaps.specs.LastWrite.{last_such}
use Rattle.gl_vmaps.proofs.LastWrites.{last_such-cons}
use Rattle.gl_requests.specs.declared.genesis.ServiceState.{ServiceState}
use Rattle.gl_requests.specs.declared.genesis.Dealing.{Dealing}
use Rattle.gl_requests.specs.declared.genesis.NewMember.{NewMember}
use Rattle.gl_requests.specs.declared.action.Rule.{Rule}
use Rattle.gl_requests.specs.declared.action.Action.TheVariants as actions
use Rattle.gl_gov_rules.specs.declared.change.Change.{Change}
use Rattle.gl_gov_rules.specs.declared.change.Change.TheVariants as changes
use Rattle.gl_gov_rules.specs.declared.change.Changed.{Changed}
use Rattle.gl_gov_rules.specs.declared.row.ServiceRow.{ServiceRow}
use Rattle.gl_gov_rules.specs.declared.row.MemberRow.{MemberRow}
use Rattle.gl_gov_rules.specs.History.{History, seqno_of}
use Rattle.gl_gov_rules.specs.Members.{members, member_named, removes_member, is_removed}
use Rattle.gl_gov_rules.specs.Service.{constitution, sets_rules, dealing, sets_dealing, identity, sets_identity, is_recovery, is_recovered, sets_state, service_state, clears_shares, last_clearing}
use Rattle.gl_gov_rules.specs.Changes.{changed_at, set_member}
use Rattle.gl_gov_base.specs.Alike.{first_of_list}
use Rattle.gl_gov_rules.specs.declared.row.RuleAt.{RuleAt}
use Rattle.gl_gov_rules.specs.declared.row.GovernedRows.{GovernedRows}
use Rattle.gl_gov_rules.specs.GovernedRows.{recovered_if, founded_by, dealt_by, is_removed_status, member_of_row, member_removed_by, changes_of_rows, begin_with}
use Rattle.gl_gov_base.proofs.MoreChanges.{kept-map}
use Rattle.gl_gov_base.proofs.RowChanges.{last_item, last_set_kept, where_it, any_kept, none_or, kept_kept, on_recovered, on_founded, on_dealt, on_members, on_removed, on_settled, on_nodes, kept_parts}

-- ---- lists

kept_some : {A B : Type 0} (f : A → B) (xs : List A) → filter_map (λ x. Some (f x)) xs ≡ map f xs
kept_some f [] = refl
kept_some f (x ∷ xs) = ap (λ ys. f x ∷ ys) (kept_some f xs)

pub some_first : {A B : Type 0} (f : A → Option B) (p : A → Bool) → ((x : A) → is_some (f x) ≡ p x) → (xs : List A) → is_some (first_of_list (filter_map f xs)) ≡ list_any p xs
some_first f p e [] = refl
some_first {B = B} f p e (x ∷ xs) = by (f x) (p x) (e x) (some_first f p e xs)
  where
    by : (o : Option B) (b : Bool) → is_some o ≡ b → is_some (first_of_list (filter_map f xs)) ≡ list_any p xs → is_some (first_of_list (cons_option o (filter_map f xs))) ≡ (b || list_any p xs)
    by (Some y) true is rest = refl
    by (Some y) false is rest = absurd cc
    by None true is rest = absurd cc
    by None false is rest = rest

pub last_such_kept : {A : Type 0} (p : A → Bool) (xs : List A) → last_such p xs ≡ last_item (filter_map (where_it p) xs)
last_such_kept p [] = refl
last_such_kept {A = A} p (x ∷ xs) = last_such-cons p x xs ∙ ap (λ o. option_or o (cond (p x) (Some x) None)) (last_such_kept p xs) ∙ by (p x)
  where
    nothing_more : (o : Option A) → option_or o None ≡ o
    nothing_more None = refl
    nothing_more (Some x) = refl

    by : (b : Bool) → option_or (last_item (filter_map (where_it p) xs)) (cond b (Some x) None) ≡ last_item (cons_option (cond b (Some x) None) (filter_map (where_it p) xs))
    by true = refl
    by false = nothing_more (last_item (filter_map (where_it p) xs))

four : {A : Type 0} (xs : List A) → xs ++ [] ++ [] ++ [] ++ [] ≡ xs
four xs = simp append-nil refl

six : {A : Type 0} (xs ys : List A) → xs ++ ys ++ [] ++ [] ++ [] ++ [] ++ [] ++ [] ≡ xs ++ ys
six xs ys = simp append-nil refl

module _ (g : GovernedRows) where
  abbrev pub begun : History
  begun = begin_with (Some g)

  pub base_members : members begun ≡ map member_of_row g.members
  unfolding members
  base_members =
      let f : ℕ → Change → Option NewMember = λ s c. member_named c in
      let own = kept-map (f 0) (λ (m : MemberRow). set_member (member_of_row m)) g.members ∙ kept_some member_of_row g.members in
      kept_parts f g
      ∙ (λ i. on_recovered f (λ key. refl) g.service i ++ on_founded f (λ s key. refl) g.service i ++ [] ++ on_dealt f (λ d. refl) g.dealing i ++ own i ++ on_removed f (λ n. refl) g.members i ++ on_settled f (λ id s. refl) g.proposals i ++ on_nodes f g.seqno (λ s id. refl) g.nodes i)
      ∙ simp append-nil refl

  pub base_removed : (n : ℕ) → is_removed begun n ≡ list_any (λ (m : MemberRow). is_removed_status m.status && nat_eq m.number n) g.members
  unfolding is_removed
  base_removed n =
      let p : Changed → Bool = λ (c : Changed). removes_member n c.change in
      let f : ℕ → Change → Option Changed = λ s c. where_it p (changed_at s c) in
      any_kept p (changes_of_rows g)
      ∙ ap (λ xs. is_some (first_of_list xs)) (kept_parts f g
      ∙ (λ i. on_recovered f (λ key. refl) g.service i ++ on_founded f (λ s key. refl) g.service i ++ [] ++ on_dealt f (λ d. refl) g.dealing i ++ on_members f (λ m. refl) g.members i ++ kept_kept (f 0) member_removed_by g.members i ++ on_settled f (λ id s. refl) g.proposals i ++ on_nodes f g.seqno (λ s id. refl) g.nodes i)
      ∙ simp append-nil refl)
      ∙ some_first (λ (m : MemberRow). none_or (f 0) (member_removed_by m)) (λ (m : MemberRow). is_removed_status m.status && nat_eq m.number n) (λ m. by (is_removed_status m.status) m.number) g.members
    where
      by : (b : Bool) (k : ℕ) → is_some (none_or (λ (c : Change). where_it (λ (c : Changed). removes_member n c.change) (changed_at 0 c)) (cond b (Some (changes.Applied (actions.RemoveMember k))) None)) ≡ (b && nat_eq k n)
      by true k = one (nat_eq k n)
        where
          one : (e : Bool) → is_some (cond e (Some (changed_at 0 (changes.Applied (actions.RemoveMember k)))) None) ≡ e
          one true = refl
          one false = refl
      by false k = refl

  pub base_constitution : constitution begun ≡ Some (map (λ (r : RuleAt). r.rule) g.rules)
  unfolding constitution
  base_constitution =
      let f : ℕ → Change → Option (List Rule) = λ s c. sets_rules c in
      last_set_kept sets_rules (changes_of_rows g)
      ∙ ap (λ (xs : List (List Rule)). last_item xs) (kept_parts f g
      ∙ (λ i. on_recovered f (λ key. refl) g.service i ++ on_founded f (λ s key. refl) g.service i ++ (map (λ (r : RuleAt). r.rule) g.rules ∷ []) ++ on_dealt f (λ d. refl) g.dealing i ++ on_members f (λ m. refl) g.members i ++ on_removed f (λ n. refl) g.members i ++ on_settled f (λ id s. refl) g.proposals i ++ on_nodes f g.seqno (λ s id. refl) g.nodes i))

  pub base_dealing : dealing begun ≡ g.dealing
  unfolding dealing
  base_dealing =
      let f : ℕ → Change → Option Dealing = λ s c. sets_dealing c in
      last_set_kept sets_dealing (changes_of_rows g)
      ∙ ap (λ (xs : List Dealing). last_item xs) (kept_parts f g
      ∙ (λ i. on_recovered f (λ key. refl) g.service i ++ on_founded f (λ s key. refl) g.service i ++ [] ++ filter_map (f 0) (dealt_by g.dealing) ++ on_members f (λ m. refl) g.members i ++ on_removed f (λ n. refl) g.members i ++ on_settled f (λ id s. refl) g.proposals i ++ on_nodes f g.seqno (λ s id. refl) g.nodes i)
      ∙ four (filter_map (f 0) (dealt_by g.dealing)))
      ∙ by g.dealing
    where
      by : (o : Option Dealing) → last_item (filter_map sets_dealing (dealt_by o)) ≡ o
      by None = refl
      by (Some d) = refl

  pub base_identity : identity begun ≡ option_map (λ (s : ServiceRow). s.identity) g.service
  unfolding identity
  base_identity =
      let f : ℕ → Change → Option (List ℕ) = λ s c. sets_identity c in
      last_set_kept sets_identity (changes_of_rows g)
      ∙ ap (λ (xs : List (List ℕ)). last_item xs) (kept_parts f g
      ∙ (λ i. filter_map (f 0) (recovered_if g.service) ++ filter_map (f 0) (founded_by g.service) ++ [] ++ on_dealt f (λ d. refl) g.dealing i ++ on_members f (λ m. refl) g.members i ++ on_removed f (λ n. refl) g.members i ++ on_settled f (λ id s. refl) g.proposals i ++ on_nodes f g.seqno (λ s id. refl) g.nodes i)
      ∙ six (filter_map (f 0) (recovered_if g.service)) (filter_map (f 0) (founded_by g.service)))
      ∙ by g.service
    where
      two : (r : Bool) (s : ServiceRow) → last_item (filter_map sets_identity (cond r (changes.Recovered s.identity ∷ []) []) ++ (s.identity ∷ [])) ≡ Some s.identity
      two true s = refl
      two false s = refl

      by : (o : Option ServiceRow) → last_item (filter_map sets_identity (recovered_if o) ++ filter_map sets_identity (founded_by o)) ≡ option_map (λ (s : ServiceRow). s.identity) o
      by None = refl
      by (Some s) = two s.is_recovered s

  pub base_state : service_state begun ≡ option_map (λ (s : ServiceRow). s.state) g.service
  unfolding service_state
  base_state =
      let f : ℕ → Change → Option ServiceState = λ s c. sets_state (is_recovered begun) c in
      last_set_kept (sets_state (is_recovered begun)) (changes_of_rows g)
      ∙ ap (λ (xs : List ServiceState). last_item xs) (kept_parts f g
      ∙ (λ i. filter_map (f 0) (recovered_if g.service) ++ filter_map (f 0) (founded_by g.service) ++ [] ++ on_dealt f (λ d. refl) g.dealing i ++ on_members f (λ m. refl) g.members i ++ on_removed f (λ n. refl) g.members i ++ on_settled f (λ id s. refl) g.proposals i ++ on_nodes f g.seqno (λ s id. refl) g.nodes i)
      ∙ six (filter_map (f 0) (recovered_if g.service)) (filter_map (f 0) (founded_by g.service)))
      ∙ by (is_recovered begun) g.service
    where
      two : (b r : Bool) (s : ServiceRow) → last_item (filter_map (sets_state b) (cond r (changes.Recovered s.identity ∷ []) []) ++ (s.state ∷ [])) ≡ Some s.state
      two b true s = refl
      two b false s = refl

      by : (b : Bool) (o : Option ServiceRow) → last_item (filter_map (sets_state b) (recovered_if o) ++ filter_map (sets_state b) (founded_by o)) ≡ option_map (λ (s : ServiceRow). s.state) o
      by b None = refl
      by b (Some s) = two b s.is_recovered s

  abbrev pub recovered_row : Option ServiceRow → Bool
  recovered_row None = false
  recovered_row (Some s) = s.is_recovered

  pub base_recovered : is_recovered begun ≡ recovered_row g.service
  unfolding is_recovered
  base_recovered =
      let p : Changed → Bool = λ (c : Changed). is_recovery c.change in
      let f : ℕ → Change → Option Changed = λ s c. where_it p (changed_at s c) in
      any_kept p (changes_of_rows g)
      ∙ ap (λ (xs : List Changed). is_some (first_of_list xs)) (kept_parts f g
      ∙ (λ i. filter_map (f 0) (recovered_if g.service) ++ on_founded f (λ s key. refl) g.service i ++ [] ++ on_dealt f (λ d. refl) g.dealing i ++ on_members f (λ m. refl) g.members i ++ on_removed f (λ n. refl) g.members i ++ on_settled f (λ id s. refl) g.proposals i ++ on_nodes f g.seqno (λ s id. refl) g.nodes i)
      ∙ six (filter_map (f 0) (recovered_if g.service)) [] ∙ append-nil (filter_map (f 0) (recovered_if g.service)))
      ∙ by g.service
    where
      one : (r : Bool) (s : ServiceRow) → is_some (first_of_list (filter_map (λ (c : Change). where_it (λ (c : Changed). is_recovery c.change) (changed_at 0 c)) (cond r (changes.Recovered s.identity ∷ []) []))) ≡ r
      one true s = refl
      one false s = refl

      by : (o : Option ServiceRow) → is_some (first_of_list (filter_map (λ (c : Change). where_it (λ (c : Changed). is_recovery c.change) (changed_at 0 c)) (recovered_if o))) ≡ recovered_row o
      by None = refl
      by (Some s) = one s.is_recovered s

  pub base_clearing : last_clearing begun ≡ 0
  unfolding last_clearing
  base_clearing =
      let p : Changed → Bool = λ (c : Changed). clears_shares c.change in
      let f : ℕ → Change → Option Changed = λ s c. where_it p (changed_at s c) in
      ap seqno_of (last_such_kept p (changes_of_rows g)
      ∙ ap (λ (xs : List Changed). last_item xs) (kept_parts f g
      ∙ (λ i. on_recovered f (λ key. refl) g.service i ++ on_founded f (λ s key. refl) g.service i ++ [] ++ filter_map (f 0) (dealt_by g.dealing) ++ on_members f (λ m. refl) g.members i ++ on_removed f (λ n. refl) g.members i ++ on_settled f (λ id s. refl) g.proposals i ++ on_nodes f g.seqno (λ s id. refl) g.nodes i)
      ∙ four (filter_map (f 0) (dealt_by g.dealing))))
      ∙ by g.dealing
    where
      by : (o : Option Dealing) → seqno_of (last_item (filter_map (λ (c : Change). where_it (λ (c : Changed). clears_shares c.change) (changed_at 0 c)) (dealt_by o))) ≡ 0
      by None = refl
      by (Some d) = refl
