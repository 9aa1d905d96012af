-- All rows of a history are different rows.
use Rattle.std.proofs.Common.{◌≡◌, ℕ, suc, ◌<◌, List, [], ◌∷◌, ◌++◌, map, Option, Some, None, Bool, false, cond, find, nat_eq, refl, sym, ◌∙◌, ap, subst, arith}
use Rattle.std.specs.List.{AllByRecursion}
use Rattle.std.specs.Option.{option_or, option_to_list}
use Rattle.std.proofs.lemmas.Bool.Decides.{nat_tests}
use Rattle.std.proofs.lemmas.List.Folds.{find-append}
use Rattle.gl_base.specs.Bytes.{same_bytes}
use Rattle.gl_vmaps.specs.Versions.{is_to_row}
use Rattle.gl_vmaps.specs.Changes.{row}
use Rattle.gl_vmaps.specs.declared.write.Write.{Write}
use Rattle.gl_shares.specs.declared.share.Share.{Share}
use Rattle.gl_requests.specs.Encoding.{rule_bytes}
use Rattle.gl_requests.specs.declared.action.Rule.{Rule}
use Rattle.gl_gov_rules.specs.declared.change.Proposal.{Proposal}
use Rattle.gl_gov_rules.specs.declared.row.ServiceRow.{ServiceRow}
use Rattle.gl_gov_rules.specs.declared.row.MemberRow.{MemberRow}
use Rattle.gl_gov_rules.specs.declared.row.NodeRow.{NodeRow}
use Rattle.gl_gov_rules.specs.History.{History}
use Rattle.gl_gov_rules.specs.Proposals.{proposals}
use Rattle.gl_gov_rules.specs.Service.{constitution, dealing, shares_given}
use Rattle.gl_gov_rules.specs.Rows.{constitution_map, member_write, member_rows, node_write, node_rows, proposal_write, proposal_row, proposal_writes, rule_writes_from, rule_writes_of, dealing_write, service_write, service_row, share_write, write_of, all_rows}
use Rattle.gl_gov_rules.specs.declared.row.RuleAt.{RuleAt}
use Rattle.gl_gov_rules.proofs.Counting.{each_append}
use Rattle.gl_gov_base.proofs.DistinctRows.{IsFresh, AreDistinct}
use Rattle.gl_gov_base.proofs.RowsSpelled.{numbered_rules, rules_at}

-- ---- all rows as those of lists

abbrev pub rule_write : RuleAt → Write
rule_write r = row constitution_map (r.number ∷ []) (rule_bytes r.rule)

abbrev pub proposed : History → Proposal → Write
proposed h p = proposal_write p.id (proposal_row h p)

rules_listed : (n : ℕ) (rs : List Rule) → rule_writes_from n rs ≡ map rule_write (numbered_rules n rs)
rules_listed n [] = refl
rules_listed n (r ∷ rs) = ap (λ ws. row constitution_map (n ∷ []) (rule_bytes r) ∷ ws) (rules_listed (suc n) rs)

pub rules_written : (o : Option (List Rule)) → rule_writes_of o ≡ map rule_write (rules_at o)
rules_written None = refl
rules_written (Some rs) = rules_listed 1 rs

one_listed : {A : Type 0} (f : A → Write) (o : Option A) → write_of f o ≡ map f (option_to_list o)
one_listed f None = refl
one_listed f (Some x) = refl

-- ---- different rows

-- no two of these are the same by a test
abbrev pub AreApartBy : {A : Type 0} → (A → A → Bool) → List A → Type 0
AreApartBy same [] = Unit {0}
AreApartBy same (x ∷ xs) = AllByRecursion (λ y. same x y ≡ false) xs × AreApartBy same xs

pub absent : {A : Type 0} (q : Write → Bool) (f : A → Write) (xs : List A) → AllByRecursion (λ x. q (f x) ≡ false) xs → find q (map f xs) ≡ None
absent q f [] none = refl
absent q f (x ∷ xs) none = (λ i. cond (none.0 i) (Some (f x)) (find q (map f xs))) ∙ absent q f xs none.1

each_one : {A : Type 0} (P Q : A → Type 0) → ((x : A) → P x → Q x) → (xs : List A) → AllByRecursion P xs → AllByRecursion Q xs
each_one P Q f [] all = tt
each_one P Q f (x ∷ xs) all = (f x all.0, each_one P Q f xs all.1)

pub all_of : {A : Type 0} (P : A → Type 0) → ((x : A) → P x) → (xs : List A) → AllByRecursion P xs
all_of P f [] = tt
all_of P f (x ∷ xs) = (f x, all_of P f xs)

distinct_map : {A : Type 0} (f : A → Write) (same : A → A → Bool) → ((x y : A) → same x y ≡ false → is_to_row (f x).map (f x).key (f y) ≡ false) → (xs : List A) → AreApartBy same xs → AreDistinct (map f xs)
distinct_map f same differ [] apart = tt
distinct_map f same differ (x ∷ xs) apart =
    (absent (is_to_row (f x).map (f x).key) f xs (each_one (λ y. same x y ≡ false) (λ y. is_to_row (f x).map (f x).key (f y) ≡ false) (differ x) xs apart.0), distinct_map f same differ xs apart.1)

distinct_one : {A : Type 0} (f : A → Write) (o : Option A) → AreDistinct (map f (option_to_list o))
distinct_one f None = tt
distinct_one f (Some x) = (refl, tt)

-- writes of one kind are to other rows than those of another kind
fresh_kinds : {A B : Type 0} (f : A → Write) (g : B → Write) → ((x : A) (y : B) → is_to_row (f x).map (f x).key (g y) ≡ false) → (xs : List A) (ys : List B) → AllByRecursion (λ (w : Write). IsFresh (map g ys) w) (map f xs)
fresh_kinds f g differ [] ys = tt
fresh_kinds f g differ (x ∷ xs) ys = (absent (is_to_row (f x).map (f x).key) g ys (all_of (λ y. is_to_row (f x).map (f x).key (g y) ≡ false) (differ x) ys), fresh_kinds f g differ xs ys)

fresh_after : (xs ys : List Write) (w : Write) → IsFresh xs w → IsFresh ys w → IsFresh (xs ++ ys) w
fresh_after xs ys w one two = find-append (is_to_row w.map w.key) xs ys ∙ (λ i. option_or (one i) (two i))

distinct_both : (xs ys : List Write) → AreDistinct xs → AreDistinct ys → AllByRecursion (λ (w : Write). IsFresh ys w) xs → AreDistinct (xs ++ ys)
distinct_both [] ys one two fresh = two
distinct_both (x ∷ xs) ys one two fresh = (fresh_after xs ys x one.0 fresh.0, distinct_both xs ys one.1 two fresh.1)

one_cell : (n m : ℕ) → nat_eq n m ≡ false → same_bytes (n ∷ []) (m ∷ []) ≡ false
one_cell n m e = grind (arith, nat_tests, e)

abbrev pub same_rule : RuleAt → RuleAt → Bool
same_rule a b = nat_eq a.number b.number

abbrev pub same_member : MemberRow → MemberRow → Bool
same_member a b = nat_eq a.number b.number

abbrev pub same_node : NodeRow → NodeRow → Bool
same_node a b = same_bytes a.id b.id

abbrev pub same_proposal : Proposal → Proposal → Bool
same_proposal a b = same_bytes a.id b.id

abbrev pub same_giver : Share → Share → Bool
same_giver a b = nat_eq a.member b.member

later_rules : (n k : ℕ) (rs : List Rule) → n < k → AllByRecursion (λ (r : RuleAt). nat_eq n r.number ≡ false) (numbered_rules k rs)
later_rules n k [] low = tt
later_rules n k (r ∷ rs) low = (grind (arith, nat_tests), later_rules n (suc k) rs (omega (arith, low)))

rules_apart : (n : ℕ) (rs : List Rule) → AreApartBy same_rule (numbered_rules n rs)
rules_apart n [] = tt
rules_apart n (r ∷ rs) = (later_rules n (suc n) rs (omega arith), rules_apart (suc n) rs)

pub record AreApartRows (h : History) : Type 0 where
  pub members : AreApartBy same_member (member_rows h)
  pub nodes : AreApartBy same_node (node_rows h)
  pub proposals : AreApartBy same_proposal (proposals h)
  pub shares : AreApartBy same_giver (shares_given h)

module _ (h : History) (apart : AreApartRows h) where
  abbrev rs : List Write
  rs = map rule_write (rules_at (constitution h))

  abbrev ds : List Write
  ds = map dealing_write (option_to_list (dealing h))

  abbrev ms : List Write
  ms = map member_write (member_rows h)

  abbrev ns : List Write
  ns = map node_write (node_rows h)

  abbrev ps : List Write
  ps = map (proposed h) (proposals h)

  abbrev ss : List Write
  ss = map service_write (option_to_list (service_row h))

  abbrev gs : List Write
  gs = map share_write (shares_given h)

  pub listed : all_rows h ≡ rs ++ ds ++ ms ++ ns ++ ps ++ ss ++ gs
  unfolding all_rows proposal_writes
  listed = λ i. rules_written (constitution h) i ++ one_listed dealing_write (dealing h) i ++ ms ++ ns ++ ps ++ one_listed service_write (service_row h) i ++ gs

  rules_distinct : AreDistinct rs
  rules_distinct = distinct_map rule_write same_rule (λ x y e. one_cell x.number y.number e) (rules_at (constitution h)) (by (constitution h))
    where
      by : (o : Option (List Rule)) → AreApartBy same_rule (rules_at o)
      by None = tt
      by (Some rs) = rules_apart 1 rs

  members_distinct : AreDistinct ms
  members_distinct = distinct_map member_write same_member (λ x y e. one_cell x.number y.number e) (member_rows h) apart.members

  nodes_distinct : AreDistinct ns
  nodes_distinct = distinct_map node_write same_node (λ x y e. e) (node_rows h) apart.nodes

  proposals_distinct : AreDistinct ps
  proposals_distinct = distinct_map (proposed h) same_proposal (λ x y e. e) (proposals h) apart.proposals

  shares_distinct : AreDistinct gs
  shares_distinct = distinct_map share_write same_giver (λ x y e. one_cell x.member y.member e) (shares_given h) apart.shares

  abbrev AreFreshIn : List Write → List Write → Type 0
  AreFreshIn ys xs = AllByRecursion (λ (w : Write). IsFresh ys w) xs

  more_fresh : (ys xs zs : List Write) → AreFreshIn ys xs → AreFreshIn ys zs → AreFreshIn ys (xs ++ zs)
  more_fresh ys xs zs one two = each_append (λ (w : Write). IsFresh ys w) xs zs one two

  two_distinct : AreDistinct (rs ++ ds)
  two_distinct = distinct_both rs ds rules_distinct (distinct_one dealing_write (dealing h)) (fresh_kinds rule_write dealing_write (λ x y. refl) (rules_at (constitution h)) (option_to_list (dealing h)))

  three_distinct : AreDistinct (rs ++ ds ++ ms)
  three_distinct =
      distinct_both (rs ++ ds) ms two_distinct members_distinct
      (more_fresh ms rs ds (fresh_kinds rule_write member_write (λ x y. refl) (rules_at (constitution h)) (member_rows h)) (fresh_kinds dealing_write member_write (λ x y. refl) (option_to_list (dealing h)) (member_rows h)))

  four_distinct : AreDistinct (rs ++ ds ++ ms ++ ns)
  four_distinct =
      distinct_both (rs ++ ds ++ ms) ns three_distinct nodes_distinct
      (more_fresh ns (rs ++ ds) ms
      (more_fresh ns rs ds (fresh_kinds rule_write node_write (λ x y. refl) (rules_at (constitution h)) (node_rows h)) (fresh_kinds dealing_write node_write (λ x y. refl) (option_to_list (dealing h)) (node_rows h)))
      (fresh_kinds member_write node_write (λ x y. refl) (member_rows h) (node_rows h)))

  five_distinct : AreDistinct (rs ++ ds ++ ms ++ ns ++ ps)
  five_distinct =
      distinct_both (rs ++ ds ++ ms ++ ns) ps four_distinct proposals_distinct
      (more_fresh ps (rs ++ ds ++ ms) ns
      (more_fresh ps (rs ++ ds) ms
      (more_fresh ps rs ds (fresh_kinds rule_write (proposed h) (λ x y. refl) (rules_at (constitution h)) (proposals h)) (fresh_kinds dealing_write (proposed h) (λ x y. refl) (option_to_list (dealing h)) (proposals h)))
      (fresh_kinds member_write (proposed h) (λ x y. refl) (member_rows h) (proposals h)))
      (fresh_kinds node_write (proposed h) (λ x y. refl) (node_rows h) (proposals h)))

  six_distinct : AreDistinct (rs ++ ds ++ ms ++ ns ++ ps ++ ss)
  six_distinct =
      let sl : List ServiceRow = option_to_list (service_row h) in
      distinct_both (rs ++ ds ++ ms ++ ns ++ ps) ss five_distinct (distinct_one service_write (service_row h))
      (more_fresh ss (rs ++ ds ++ ms ++ ns) ps
      (more_fresh ss (rs ++ ds ++ ms) ns
      (more_fresh ss (rs ++ ds) ms
      (more_fresh ss rs ds (fresh_kinds rule_write service_write (λ x y. refl) (rules_at (constitution h)) sl) (fresh_kinds dealing_write service_write (λ x y. refl) (option_to_list (dealing h)) sl))
      (fresh_kinds member_write service_write (λ x y. refl) (member_rows h) sl))
      (fresh_kinds node_write service_write (λ x y. refl) (node_rows h) sl))
      (fresh_kinds (proposed h) service_write (λ x y. refl) (proposals h) sl))

  all_distinct : AreDistinct (rs ++ ds ++ ms ++ ns ++ ps ++ ss ++ gs)
  all_distinct =
      let gl : List Share = shares_given h in
      distinct_both (rs ++ ds ++ ms ++ ns ++ ps ++ ss) gs six_distinct shares_distinct
      (more_fresh gs (rs ++ ds ++ ms ++ ns ++ ps) ss
      (more_fresh gs (rs ++ ds ++ ms ++ ns) ps
      (more_fresh gs (rs ++ ds ++ ms) ns
      (more_fresh gs (rs ++ ds) ms
      (more_fresh gs rs ds (fresh_kinds rule_write share_write (λ x y. refl) (rules_at (constitution h)) gl) (fresh_kinds dealing_write share_write (λ x y. refl) (option_to_list (dealing h)) gl))
      (fresh_kinds member_write share_write (λ x y. refl) (member_rows h) gl))
      (fresh_kinds node_write share_write (λ x y. refl) (node_rows h) gl))
      (fresh_kinds (proposed h) share_write (λ x y. refl) (proposals h) gl))
      (fresh_kinds service_write share_write (λ x y. refl) (option_to_list (service_row h)) gl))

  -- all rows of a history are different rows
  pub rows_distinct : AreDistinct (all_rows h)
  rows_distinct = subst AreDistinct (sym listed) all_distinct
