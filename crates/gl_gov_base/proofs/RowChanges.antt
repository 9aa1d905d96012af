-- What is read of the changes that rows stand for.
use Rattle.std.proofs.Common.{◌≡◌, ℕ, List, [], ◌∷◌, ◌++◌, map, Option, Some, None, is_some, Bool, true, false, ◌||◌, cond, find, filter_map, min, nat_lt, refl, sym, ◌∙◌, ap}
use Rattle.std.specs.List.{list_any, cons_option}
use Rattle.std.specs.Option.{option_or}
use Rattle.std.proofs.lemmas.List.Elements.{filter_map-append}
use Rattle.gl_requests.specs.declared.genesis.ServiceState.{ServiceState}
use Rattle.gl_requests.specs.declared.genesis.Dealing.{Dealing}
use Rattle.gl_requests.specs.declared.genesis.NewMember.{NewMember}
use Rattle.gl_requests.specs.declared.action.Action.TheVariants as actions
use Rattle.gl_gov_rules.specs.declared.change.ProposalState.{ProposalState}
use Rattle.gl_gov_rules.specs.declared.change.Change.{Change}
use Rattle.gl_gov_rules.specs.declared.change.Change.TheVariants as changes
use Rattle.gl_gov_rules.specs.declared.change.Changed.{Changed}
use Rattle.gl_gov_rules.specs.declared.row.ServiceRow.{ServiceRow}
use Rattle.gl_gov_rules.specs.declared.row.MemberRow.{MemberRow}
use Rattle.gl_gov_rules.specs.declared.row.NodeRow.{NodeRow}
use Rattle.gl_gov_rules.proofs.LastSet.{last_set-cons}
use Rattle.gl_gov_rules.specs.History.{last_set}
use Rattle.gl_gov_rules.specs.Proposals.{is_open_state}
use Rattle.gl_gov_rules.specs.Changes.{changed_at, set_member}
use Rattle.gl_gov_base.specs.Alike.{first_of_list}
use Rattle.gl_gov_rules.specs.declared.row.ProposalAt.{ProposalAt}
use Rattle.gl_gov_rules.specs.declared.row.RuleAt.{RuleAt}
use Rattle.gl_gov_rules.specs.declared.row.GovernedRows.{GovernedRows}
use Rattle.gl_gov_rules.specs.GovernedRows.{recovered_if, founded_by, dealt_by, is_removed_status, member_of_row, member_removed_by, settled_row, node_removed_by, changes_at_base, changes_of_rows}
use Rattle.gl_gov_base.proofs.MoreChanges.{kept-map}

-- ---- readings as what is kept of a list

abbrev pub last_item : {A : Type 0} → List A → Option A
last_item [] = None
last_item (x ∷ xs) = option_or (last_item xs) (Some x)

pub last_set_kept : {A : Type 0} (sets : Change → Option A) (cs : List Changed) → last_set sets cs ≡ last_item (filter_map (λ (c : Changed). sets c.change) cs)
last_set_kept sets [] = refl
last_set_kept {A = A} sets (c ∷ cs) = last_set-cons sets c cs ∙ ap (λ o. option_or o (sets c.change)) (last_set_kept sets cs) ∙ by (sets c.change) (filter_map (λ (c : Changed). sets c.change) cs)
  where
    nothing_more : (o : Option A) → option_or o None ≡ o
    nothing_more None = refl
    nothing_more (Some x) = refl

    by : (o : Option A) (xs : List A) → option_or (last_item xs) o ≡ last_item (cons_option o xs)
    by None xs = nothing_more (last_item xs)
    by (Some x) xs = refl

abbrev pub where_it : {A : Type 0} → (A → Bool) → A → Option A
where_it p x = cond (p x) (Some x) None

pub find_kept : {A : Type 0} (p : A → Bool) (xs : List A) → find p xs ≡ first_of_list (filter_map (where_it p) xs)
find_kept p [] = refl
find_kept p (x ∷ xs) = by (p x) (find_kept p xs)
  where
    by : (b : Bool) → find p xs ≡ first_of_list (filter_map (where_it p) xs) → cond b (Some x) (find p xs) ≡ first_of_list (cons_option (cond b (Some x) None) (filter_map (where_it p) xs))
    by true e = refl
    by false e = e

pub any_kept : {A : Type 0} (p : A → Bool) (xs : List A) → list_any p xs ≡ is_some (first_of_list (filter_map (where_it p) xs))
any_kept p [] = refl
any_kept p (x ∷ xs) = by (p x) (any_kept p xs)
  where
    by : (b : Bool) → list_any p xs ≡ is_some (first_of_list (filter_map (where_it p) xs)) → (b || list_any p xs) ≡ is_some (first_of_list (cons_option (cond b (Some x) None) (filter_map (where_it p) xs)))
    by true e = refl
    by false e = e

-- ---- what is kept of each part

pub none_each : {A B : Type 0} (f : A → Option B) → ((x : A) → f x ≡ None) → (xs : List A) → filter_map f xs ≡ []
none_each f none [] = refl
none_each f none (x ∷ xs) = ap (λ o. cons_option o (filter_map f xs)) (none x) ∙ none_each f none xs

pub none_kept : {A B C : Type 0} (f : B → Option C) (g : A → Option B) → ((x : A) (y : B) → g x ≡ Some y → f y ≡ None) → (xs : List A) → filter_map f (filter_map g xs) ≡ []
none_kept f g none [] = refl
none_kept {B = B} f g none (x ∷ xs) = by (g x) refl (none_kept f g none xs)
  where
    by : (o : Option B) → g x ≡ o → filter_map f (filter_map g xs) ≡ [] → filter_map f (cons_option o (filter_map g xs)) ≡ []
    by None is e = e
    by (Some y) is e = ap (λ o. cons_option o (filter_map f (filter_map g xs))) (none x y is) ∙ e

abbrev pub none_or : {B C : Type 0} → (B → Option C) → Option B → Option C
none_or f None = None
none_or f (Some y) = f y

pub kept_kept : {A B C : Type 0} (f : B → Option C) (g : A → Option B) (xs : List A) → filter_map f (filter_map g xs) ≡ filter_map (λ x. none_or f (g x)) xs
kept_kept f g [] = refl
kept_kept {B = B} f g (x ∷ xs) = by (g x) (kept_kept f g xs)
  where
    by : (o : Option B) → filter_map f (filter_map g xs) ≡ filter_map (λ x. none_or f (g x)) xs → filter_map f (cons_option o (filter_map g xs)) ≡ cons_option (none_or f o) (filter_map (λ x. none_or f (g x)) xs)
    by None e = e
    by (Some y) e = ap (cons_option (f y)) e

module _ {X : Type 0} (F : ℕ → Change → Option X) where
  abbrev at : Changed → Option X
  at c = F c.seqno c.change

  pub on_recovered : ((key : List ℕ) → F 0 (changes.Recovered key) ≡ None) → (o : Option ServiceRow) → filter_map (F 0) (recovered_if o) ≡ []
  on_recovered none None = refl
  on_recovered none (Some s) = by s.is_recovered
    where
      by : (b : Bool) → filter_map (F 0) (cond b (changes.Recovered s.identity ∷ []) []) ≡ []
      by true = ap (λ o. cons_option o []) (none s.identity)
      by false = refl

  pub on_founded : ((state : ServiceState) (key : List ℕ) → F 0 (changes.Founded state key) ≡ None) → (o : Option ServiceRow) → filter_map (F 0) (founded_by o) ≡ []
  on_founded none None = refl
  on_founded none (Some s) = ap (λ o. cons_option o []) (none s.state s.identity)

  pub on_dealt : ((d : Dealing) → F 0 (changes.Applied (actions.SetRecoveryThreshold d)) ≡ None) → (o : Option Dealing) → filter_map (F 0) (dealt_by o) ≡ []
  on_dealt none None = refl
  on_dealt none (Some d) = ap (λ o. cons_option o []) (none d)

  pub on_members : ((m : NewMember) → F 0 (set_member m) ≡ None) → (ms : List MemberRow) → filter_map (F 0) (map (λ (m : MemberRow). set_member (member_of_row m)) ms) ≡ []
  on_members none ms = kept-map (F 0) (λ (m : MemberRow). set_member (member_of_row m)) ms ∙ none_each (λ (m : MemberRow). F 0 (set_member (member_of_row m))) (λ m. none (member_of_row m)) ms

  pub on_removed : ((n : ℕ) → F 0 (changes.Applied (actions.RemoveMember n)) ≡ None) → (ms : List MemberRow) → filter_map (F 0) (filter_map member_removed_by ms) ≡ []
  on_removed none ms = none_kept (F 0) member_removed_by (λ m c e. by (is_removed_status m.status) m.number c e) ms
    where
      by : (b : Bool) (n : ℕ) (c : Change) → cond b (Some (changes.Applied (actions.RemoveMember n))) None ≡ Some c → F 0 c ≡ None
      by true n c e = let same : changes.Applied (actions.RemoveMember n) ≡ c = cc in ap (F 0) (sym same) ∙ none n
      by false n c e = absurd cc

  pub on_settled : ((id : List ℕ) (state : ProposalState) → F 0 (changes.Settled id state) ≡ None) → (ps : List ProposalAt) → filter_map (F 0) (filter_map settled_row ps) ≡ []
  on_settled none ps = none_kept (F 0) settled_row (λ p c e. by (is_open_state p.row.state) p.id p.row.state c e) ps
    where
      by : (b : Bool) (id : List ℕ) (state : ProposalState) (c : Change) → cond b None (Some (changes.Settled id state)) ≡ Some c → F 0 c ≡ None
      by true id state c e = absurd cc
      by false id state c e = let same : changes.Settled id state ≡ c = cc in ap (F 0) (sym same) ∙ none id state

  pub on_nodes : (base : ℕ) → ((s : ℕ) (id : List ℕ) → F s (changes.Applied (actions.RemoveNode id)) ≡ None) → (ns : List NodeRow) → filter_map at (filter_map (node_removed_by base) ns) ≡ []
  on_nodes base none ns = none_kept at (node_removed_by base) (λ n c e. by (nat_lt 0 n.removal) (min n.removal base) n.id c e) ns
    where
      by : (b : Bool) (s : ℕ) (id : List ℕ) (c : Changed) → cond b (Some (changed_at s (changes.Applied (actions.RemoveNode id)))) None ≡ Some c → F c.seqno c.change ≡ None
      by true s id c e = let same : changed_at s (changes.Applied (actions.RemoveNode id)) ≡ c = cc in ap at (sym same) ∙ none s id
      by false s id c e = absurd cc

  pub kept_parts : (g : GovernedRows) → filter_map at (changes_of_rows g)
      ≡ filter_map (F 0) (recovered_if g.service) ++ filter_map (F 0) (founded_by g.service) ++ filter_map (F 0) (changes.Applied (actions.SetConstitution (map (λ (r : RuleAt). r.rule) g.rules)) ∷ []) ++ filter_map (F 0) (dealt_by g.dealing)
      ++ filter_map (F 0) (map (λ (m : MemberRow). set_member (member_of_row m)) g.members) ++ filter_map (F 0) (filter_map member_removed_by g.members) ++ filter_map (F 0) (filter_map settled_row g.proposals)
      ++ filter_map at (filter_map (node_removed_by g.seqno) g.nodes)
  kept_parts g =
      filter_map-append at (map (changed_at 0) (changes_at_base g)) (filter_map (node_removed_by g.seqno) g.nodes)
      ∙ ap (λ xs. xs ++ filter_map at (filter_map (node_removed_by g.seqno) g.nodes)) (kept-map at (changed_at 0) (changes_at_base g) ∙ simp filter_map-append refl)
