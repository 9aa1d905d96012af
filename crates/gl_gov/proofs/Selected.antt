-- Which rows are selected, table by table, and sets to which the selected ones are put.
use Rattle.std.proofs.Common.{◌≡◌, ℕ, suc, List, [], ◌∷◌, ◌++◌, map, filter, Option, None, Some, Bool, true, false, cond, refl, sym, ◌∙◌, ap, ap₂, append_assoc}
use Rattle.std.proofs.lemmas.List.Elements.{filter-append}
use Rattle.gl_vmaps.specs.Writes.{with_write}
use Rattle.gl_vmaps.specs.Changes.{row, set_from, write_set}
use Rattle.gl_vmaps.specs.declared.write.Write.{Write}
use Rattle.gl_vmaps.proofs.WriteSets.{set_from-append}
use Rattle.gl_requests.specs.declared.genesis.NewMember.{NewMember}
use Rattle.gl_requests.specs.declared.action.Rule.{Rule}
use Rattle.gl_gov_rules.specs.declared.change.RecordedNode.{RecordedNode}
use Rattle.gl_gov_rules.specs.declared.change.Proposal.{Proposal}
use Rattle.gl_gov_rules.specs.History.{History}
use Rattle.gl_gov_rules.specs.Service.{constitution, dealing, shares_given}
use Rattle.gl_gov_rules.specs.Rows.{members_map, nodes_map, proposals_map, constitution_map, dealing_map, service_map, shares_map, rule_writes_from, rule_writes_of, write_of, dealing_write, member_row, member_rows, member_write, node_row, node_rows, node_write, proposal_row, proposal_write, proposal_writes, service_row, service_write, share_write, all_rows, rows}
use Rattle.gl_gov.specs.declared.touched.Touched.{Touched}
use Rattle.gl_gov.specs.declared.touched.Selection.{Selection}
use Rattle.gl_gov.specs.declared.touched.Selection.TheVariants as selections
use Rattle.gl_gov.specs.Touched.{touches_member, touches_node, touches_proposal, is_touched, selects_settings, selects_member, selects_node, selects_proposal, is_selected}

-- ---- which rows are touched

pub touched_member : (t : Touched) (key value : List ℕ) → is_touched t (row members_map key value) ≡ touches_member t key
unfolding is_touched
touched_member t key value = refl

pub touched_node : (t : Touched) (id value : List ℕ) → is_touched t (row nodes_map id value) ≡ touches_node t id
unfolding is_touched
touched_node t id value = refl

pub touched_proposal : (t : Touched) (id value : List ℕ) → is_touched t (row proposals_map id value) ≡ touches_proposal t id
unfolding is_touched
touched_proposal t id value = refl

pub touched_rule : (t : Touched) (key value : List ℕ) → is_touched t (row constitution_map key value) ≡ t.changes_more
unfolding is_touched
touched_rule t key value = refl

pub touched_dealing : (t : Touched) (key value : List ℕ) → is_touched t (row dealing_map key value) ≡ t.changes_more
unfolding is_touched
touched_dealing t key value = refl

pub touched_service : (t : Touched) (key value : List ℕ) → is_touched t (row service_map key value) ≡ t.changes_more
unfolding is_touched
touched_service t key value = refl

pub touched_share : (t : Touched) (key value : List ℕ) → is_touched t (row shares_map key value) ≡ t.changes_more
unfolding is_touched
touched_share t key value = refl

-- ---- which rows are selected

pub selected_member : (s : Selection) (h : History) (m : NewMember) → is_selected s (member_write (member_row h m)) ≡ selects_member s m.number
unfolding is_selected member_row
selected_member selections.All h m = refl
selected_member (selections.Touched t) h m = touched_member t _ _

pub selected_node : (s : Selection) (h : History) (order : ℕ) (n : RecordedNode) → is_selected s (node_write (node_row h order n)) ≡ selects_node s n.id
unfolding is_selected node_row
selected_node selections.All h order n = refl
selected_node (selections.Touched t) h order n = touched_node t _ _

pub selected_proposal : (s : Selection) (h : History) (p : Proposal) → is_selected s (proposal_write p.id (proposal_row h p)) ≡ selects_proposal s p.id
unfolding is_selected
selected_proposal selections.All h p = refl
selected_proposal (selections.Touched t) h p = touched_proposal t _ _

-- a row of the constitution, the dealing, the service or the shares
abbrev IsSetting : Selection → Write → Type 0
IsSetting s w = is_selected s w ≡ selects_settings s

setting_rule : (s : Selection) (key value : List ℕ) → IsSetting s (row constitution_map key value)
unfolding is_selected
setting_rule selections.All key value = refl
setting_rule (selections.Touched t) key value = touched_rule t key value

setting_dealing : (s : Selection) (key value : List ℕ) → IsSetting s (row dealing_map key value)
unfolding is_selected
setting_dealing selections.All key value = refl
setting_dealing (selections.Touched t) key value = touched_dealing t key value

setting_service : (s : Selection) (key value : List ℕ) → IsSetting s (row service_map key value)
unfolding is_selected
setting_service selections.All key value = refl
setting_service (selections.Touched t) key value = touched_service t key value

setting_share : (s : Selection) (key value : List ℕ) → IsSetting s (row shares_map key value)
unfolding is_selected
setting_share selections.All key value = refl
setting_share (selections.Touched t) key value = touched_share t key value

-- ---- one row

-- a row that isn't selected is not put
pub none_put : (s : Selection) (set : List Write) (w : Write) → is_selected s w ≡ false → set ≡ set_from set (filter (is_selected s) (w ∷ []))
none_put s set w is = sym (ap (λ (b : Bool). set_from set (cond b (w ∷ []) [])) is)

-- one that is selected is put
pub one_put : (s : Selection) (old new : List Write) (put w : Write) → new ≡ with_write old put → put ≡ w → is_selected s w ≡ true →
    new ≡ set_from old (filter (is_selected s) (w ∷ []))
one_put s old new put w made same is = made ∙ ap (with_write old) same ∙ sym (ap (λ (b : Bool). set_from old (cond b (w ∷ []) [])) is)

-- ---- settings

abbrev AllOrNone : Bool → List Write → List Write → Type 0
AllOrNone b xs ws = xs ≡ cond b ws []

module _ (s : Selection) where
  -- all are selected, or none is
  abbrev pub AreAlike : List Write → Type 0
  AreAlike ws = filter (is_selected s) ws ≡ cond (selects_settings s) ws []

  one_more : (b : Bool) (w : Write) (xs ws : List Write) → xs ≡ cond b ws [] → cond b (w ∷ xs) xs ≡ cond b (w ∷ ws) []
  one_more true w xs ws same = ap (λ (ys : List Write). w ∷ ys) same
  one_more false w xs ws same = same

  alike-cons : (w : Write) (ws : List Write) → IsSetting s w → AreAlike ws → AreAlike (w ∷ ws)
  alike-cons w ws is rest =
      ap (λ (b : Bool). cond b (w ∷ filter (is_selected s) ws) (filter (is_selected s) ws)) is ∙ one_more (selects_settings s) w (filter (is_selected s) ws) ws rest

  none_alike : AreAlike []
  none_alike = go (selects_settings s)
    where
      go : (b : Bool) → AllOrNone b [] []
      go true = refl
      go false = refl

  alike-append : (xs ys : List Write) → AreAlike xs → AreAlike ys → AreAlike (xs ++ ys)
  alike-append xs ys one two = filter-append (is_selected s) xs ys ∙ ap₂ (λ (us vs : List Write). us ++ vs) one two ∙ go (selects_settings s)
    where
      go : (b : Bool) → cond b xs [] ++ cond b ys [] ≡ cond b (xs ++ ys) []
      go true = refl
      go false = refl

  alike-map : {A : Type 0} (f : A → Write) → ((a : A) → IsSetting s (f a)) → (xs : List A) → AreAlike (map f xs)
  alike-map f each [] = none_alike
  alike-map f each (a ∷ xs) = alike-cons (f a) (map f xs) (each a) (alike-map f each xs)

  alike-option : {A : Type 0} (f : A → Write) → ((a : A) → IsSetting s (f a)) → (o : Option A) → AreAlike (write_of f o)
  alike-option f each None = none_alike
  alike-option f each (Some a) = alike-cons (f a) [] (each a) none_alike

  alike-rules_from : (number : ℕ) (rules : List Rule) → AreAlike (rule_writes_from number rules)
  alike-rules_from number [] = none_alike
  alike-rules_from number (r ∷ rules) = alike-cons _ (rule_writes_from (suc number) rules) (setting_rule s _ _) (alike-rules_from (suc number) rules)

  pub alike-rules : (o : Option (List Rule)) → AreAlike (rule_writes_of o)
  alike-rules None = none_alike
  alike-rules (Some rules) = alike-rules_from 1 rules

  pub rules_and_dealing : (h : History) → AreAlike (rule_writes_of (constitution h) ++ write_of dealing_write (dealing h))
  rules_and_dealing h =
      alike-append (rule_writes_of (constitution h)) (write_of dealing_write (dealing h)) (alike-rules (constitution h)) (alike-option dealing_write (λ d. setting_dealing s _ _) (dealing h))

  pub service_and_shares : (h : History) → AreAlike (write_of service_write (service_row h) ++ map share_write (shares_given h))
  service_and_shares h =
      alike-append (write_of service_write (service_row h)) (map share_write (shares_given h)) (alike-option service_write (λ x. setting_service s _ _) (service_row h)) (alike-map share_write (λ x. setting_share s _ _) (shares_given h))

-- where they are selected all of them are put, and else none
pub all_alike_put : (s : Selection) (set ws : List Write) → AreAlike s ws → selects_settings s ≡ true → set_from set ws ≡ set_from set (filter (is_selected s) ws)
all_alike_put s set ws alike is = sym (ap (set_from set) (alike ∙ ap (λ (b : Bool). cond b ws []) is))

pub none_alike_put : (s : Selection) (set ws : List Write) → AreAlike s ws → selects_settings s ≡ false → set ≡ set_from set (filter (is_selected s) ws)
none_alike_put s set ws alike is = sym (ap (set_from set) (alike ∙ ap (λ (b : Bool). cond b ws []) is))

-- ---- all rows

-- the parts are put one after another
put_parts : (s : Selection) (a b c d e : List Write) →
    write_set (filter (is_selected s) (a ++ b ++ c ++ d ++ e))
    ≡ set_from (set_from (set_from (set_from (set_from [] (filter (is_selected s) a)) (filter (is_selected s) b)) (filter (is_selected s) c)) (filter (is_selected s) d)) (filter (is_selected s) e)
put_parts s a b c d e = go [] (a ++ b ++ c ++ d) e ∙ ap (λ (xs : List Write). set_from xs (filter (is_selected s) e)) (
    go [] (a ++ b ++ c) d ∙ ap (λ (xs : List Write). set_from xs (filter (is_selected s) d)) (
    go [] (a ++ b) c ∙ ap (λ (xs : List Write). set_from xs (filter (is_selected s) c)) (go [] a b)))
  where
    go : (set xs ys : List Write) → set_from set (filter (is_selected s) (xs ++ ys)) ≡ set_from (set_from set (filter (is_selected s) xs)) (filter (is_selected s) ys)
    go set xs ys = ap (set_from set) (filter-append (is_selected s) xs ys) ∙ set_from-append set (filter (is_selected s) xs) (filter (is_selected s) ys)

pub rows_put : (s : Selection) (h : History) →
    write_set (filter (is_selected s) (all_rows h))
    ≡ set_from (set_from (set_from (set_from (set_from [] (filter (is_selected s) (rule_writes_of (constitution h) ++ write_of dealing_write (dealing h))))
    (filter (is_selected s) (map member_write (member_rows h)))) (filter (is_selected s) (map node_write (node_rows h)))) (filter (is_selected s) (proposal_writes h)))
    (filter (is_selected s) (write_of service_write (service_row h) ++ map share_write (shares_given h)))
unfolding all_rows
rows_put s h =
    let a = rule_writes_of (constitution h) ++ write_of dealing_write (dealing h) in
    let prefix = a ++ map member_write (member_rows h) ++ map node_write (node_rows h) ++ proposal_writes h in
    ap (λ (ws : List Write). write_set (filter (is_selected s) ws)) (append_assoc prefix (write_of service_write (service_row h)) (map share_write (shares_given h)))
    ∙ put_parts s a (map member_write (member_rows h)) (map node_write (node_rows h)) (proposal_writes h) (write_of service_write (service_row h) ++ map share_write (shares_given h))

all_kept : (ws : List Write) → filter (is_selected selections.All) ws ≡ ws
unfolding is_selected
all_kept [] = refl
all_kept (w ∷ ws) = ap (λ (xs : List Write). w ∷ xs) (all_kept ws)

-- where all are selected all are made
pub all_selected : (h : History) → write_set (filter (is_selected selections.All) (all_rows h)) ≡ rows h
unfolding rows
all_selected h = ap write_set (all_kept (all_rows h))

-- they are put table by table
pub rows_by : (s : Selection) (h : History) (none a b c d e : List Write) → none ≡ [] →
    a ≡ set_from none (filter (is_selected s) (rule_writes_of (constitution h) ++ write_of dealing_write (dealing h))) →
    b ≡ set_from a (filter (is_selected s) (map member_write (member_rows h))) →
    c ≡ set_from b (filter (is_selected s) (map node_write (node_rows h))) →
    d ≡ set_from c (filter (is_selected s) (proposal_writes h)) →
    e ≡ set_from d (filter (is_selected s) (write_of service_write (service_row h) ++ map share_write (shares_given h))) →
    e ≡ write_set (filter (is_selected s) (all_rows h))
rows_by s h none a b c d e empty one two three four five = let all = rows_put s h in cc
