-- The rules among the rows of a history stand in the order of their numbers.
use Rattle.std.proofs.Common.{◌≡◌, ℕ, suc, List, [], ◌∷◌, ◌++◌, map, Option, Some, None, Bool, true, false, ◌&&◌, ◌==◌, cond, find, filter, filter_map, nat_lt, refl, sym, ◌∙◌, ap, arith}
use Rattle.std.specs.List.{AllByRecursion, cons_option}
use Rattle.std.specs.Option.{option_or, option_to_list}
use Rattle.std.specs.Ordering.{nat_cmp, ordering_then}
use Rattle.std.specs.declared.cmp.Ordering.TheVariants.{Less, Equal, Greater}
use Rattle.std.proofs.lemmas.Bool.{and_parts, and_from}
use Rattle.std.proofs.lemmas.Bool.Decides.{nat_tests}
use Rattle.std.proofs.lemmas.List.Folds.{find-append}
use Rattle.gl_base.specs.Bytes.{same_bytes}
use Rattle.gl_vmaps.specs.Versions.{is_to_row}
use Rattle.gl_vmaps.specs.Writes.{is_ordered, stands_before, write_order, is_less}
use Rattle.gl_vmaps.specs.Changes.{write_set}
use Rattle.gl_vmaps.specs.declared.write.Write.{Write}
use Rattle.gl_vmaps.proofs.TablesLaws.{same_bytes-eq, same_bytes-symm}
use Rattle.gl_vmaps.proofs.WriteLaws.{ordered_before, is_ordered-rest}
use Rattle.gl_vmaps.proofs.WriteSets.{is_ordered-set_from}
use Rattle.gl_requests.specs.declared.action.Rule.{Rule}
use Rattle.gl_gov_rules.specs.History.{History}
use Rattle.gl_gov_rules.specs.Proposals.{proposals}
use Rattle.gl_gov_rules.specs.Service.{constitution, dealing, shares_given}
use Rattle.gl_gov_rules.specs.Rows.{constitution_map, member_write, member_rows, node_write, node_rows, dealing_write, service_write, service_row, share_write, rule_writes_of, all_rows}
use Rattle.gl_gov_base.proofs.DistinctRows.{same_as_set}
use Rattle.gl_gov_base.proofs.DifferentRows.{rule_write, proposed, rules_written, AreApartRows, listed, rows_distinct, absent, all_of}
use Rattle.gl_gov_base.proofs.RowKinds.{valued, is_rule_key, read_rule, rule_of}
use Rattle.gl_gov_base.proofs.RowsSpelled.{numbered_rules, rules_at, FitsRows, rules_read}
use Rattle.gl_gov_base.proofs.SameSets.{same_set}

-- ---- what is kept of a set

each_kept : {A : Type 0} (P : A → Type 0) (p : A → Bool) (xs : List A) → AllByRecursion P xs → AllByRecursion P (filter p xs)
each_kept P p [] all = tt
each_kept P p (x ∷ xs) all = by (p x) (each_kept P p xs all.1)
  where
    by : (b : Bool) → AllByRecursion P (filter p xs) → AllByRecursion P (cond b (x ∷ filter p xs) (filter p xs))
    by true rest = (all.0, rest)
    by false rest = rest

stands_first : (x : Write) (ys : List Write) → AllByRecursion (λ (y : Write). write_order x y ≡ Less) ys → stands_before x.map x.key ys ≡ true
stands_first x [] all = refl
stands_first x (y ∷ ys) all = ap is_less all.0

ordered_kept : (p : Write → Bool) (xs : List Write) → is_ordered xs ≡ true → is_ordered (filter p xs) ≡ true
ordered_kept p [] e = refl
ordered_kept p (x ∷ xs) e = by (p x) (ordered_kept p xs (is_ordered-rest x xs e))
  where
    by : (b : Bool) → is_ordered (filter p xs) ≡ true → is_ordered (cond b (x ∷ filter p xs) (filter p xs)) ≡ true
    by true rest = and_from (stands_before x.map x.key (filter p xs)) (is_ordered (filter p xs)) (stands_first x (filter p xs) (each_kept (λ (y : Write). write_order x y ≡ Less) p xs (ordered_before x xs e))) rest
    by false rest = rest

find_kept : (p q : Write → Bool) → ((x : Write) → q x ≡ true → p x ≡ true) → (xs : List Write) → find q (filter p xs) ≡ find q xs
find_kept p q f [] = refl
find_kept p q f (x ∷ xs) = by (p x) (q x) refl refl (find_kept p q f xs)
  where
    by : (a b : Bool) → p x ≡ a → q x ≡ b → find q (filter p xs) ≡ find q xs → find q (cond a (x ∷ filter p xs) (filter p xs)) ≡ cond (q x) (Some x) (find q xs)
    by true b ea eb rest = ap (cond (q x) (Some x)) rest
    by false true ea eb rest = let no = f x eb in absurd cc
    by false false ea eb rest = rest ∙ sym (ap (λ b. cond b (Some x) (find q xs)) eb)

none_kept : (p q : Write → Bool) → ((x : Write) → p x ≡ true → q x ≡ false) → (xs : List Write) → find q (filter p xs) ≡ None
none_kept p q f [] = refl
none_kept p q f (x ∷ xs) = by (p x) refl (none_kept p q f xs)
  where
    by : (a : Bool) → p x ≡ a → find q (filter p xs) ≡ None → find q (cond a (x ∷ filter p xs) (filter p xs)) ≡ None
    by true is rest = ap (λ b. cond b (Some x) (find q (filter p xs))) (f x is) ∙ rest
    by false is rest = rest

pub made_kept : {A Y : Type 0} (p : A → Bool) (f : A → Option Y) → ((x : A) → p x ≡ false → f x ≡ None) → (xs : List A) → filter_map f (filter p xs) ≡ filter_map f xs
made_kept p f none [] = refl
made_kept {Y = Y} p f none (x ∷ xs) = by (p x) refl (made_kept p f none xs)
  where
    by : (a : Bool) → p x ≡ a → filter_map f (filter p xs) ≡ filter_map f xs → filter_map f (cond a (x ∷ filter p xs) (filter p xs)) ≡ cons_option (f x) (filter_map f xs)
    by true is rest = ap (cons_option (f x)) rest
    by false is rest = rest ∙ sym (ap (λ o. cons_option o (filter_map f xs)) (none x is))

-- ---- rules in order

next_less : (n : ℕ) → nat_cmp n (suc n) ≡ Less
next_less n = (let less : nat_lt n (suc n) ≡ true = grind (arith, nat_tests) in ap (λ b. cond b Less (cond (n == suc n) Equal Greater)) less)

rules_ordered : (n : ℕ) (rs : List Rule) → is_ordered (map rule_write (numbered_rules n rs)) ≡ true
rules_ordered n [] = refl
rules_ordered n (r ∷ rs) =
    and_from (stands_before constitution_map (n ∷ []) (map rule_write (numbered_rules (suc n) rs))) (is_ordered (map rule_write (numbered_rules (suc n) rs))) (first rs) (rules_ordered (suc n) rs)
  where
    first : (rs : List Rule) → stands_before constitution_map (n ∷ []) (map rule_write (numbered_rules (suc n) rs)) ≡ true
    first [] = refl
    first (s ∷ rs) = ap (λ o. is_less (ordering_then o Equal)) (next_less n)

abbrev is_rule_row : Write → Bool
is_rule_row w = same_bytes w.map constitution_map

module _ (h : History) (apart : AreApartRows h) where
  abbrev rules : List Write
  rules = map rule_write (rules_at (constitution h))

  -- the first write to a row of the constitution is a rule's
  first_rule : (k : List ℕ) → find (is_to_row constitution_map k) (all_rows h) ≡ find (is_to_row constitution_map k) rules
  first_rule k =
      let q : Write → Bool = is_to_row constitution_map k in
      ap (find q) (listed h apart)
      ∙ behind q (rules ++ map dealing_write (option_to_list (dealing h)) ++ map member_write (member_rows h) ++ map node_write (node_rows h) ++ map (proposed h) (proposals h) ++ map service_write (option_to_list (service_row h)))
      (map share_write (shares_given h)) (absent q share_write (shares_given h) (all_of (λ s. q (share_write s) ≡ false) (λ s. refl) (shares_given h)))
      ∙ behind q (rules ++ map dealing_write (option_to_list (dealing h)) ++ map member_write (member_rows h) ++ map node_write (node_rows h) ++ map (proposed h) (proposals h))
      (map service_write (option_to_list (service_row h))) (absent q service_write (option_to_list (service_row h)) (all_of (λ s. q (service_write s) ≡ false) (λ s. refl) (option_to_list (service_row h))))
      ∙ behind q (rules ++ map dealing_write (option_to_list (dealing h)) ++ map member_write (member_rows h) ++ map node_write (node_rows h))
      (map (proposed h) (proposals h)) (absent q (proposed h) (proposals h) (all_of (λ p. q (proposed h p) ≡ false) (λ p. refl) (proposals h)))
      ∙ behind q (rules ++ map dealing_write (option_to_list (dealing h)) ++ map member_write (member_rows h))
      (map node_write (node_rows h)) (absent q node_write (node_rows h) (all_of (λ n. q (node_write n) ≡ false) (λ n. refl) (node_rows h)))
      ∙ behind q (rules ++ map dealing_write (option_to_list (dealing h)))
      (map member_write (member_rows h)) (absent q member_write (member_rows h) (all_of (λ m. q (member_write m) ≡ false) (λ m. refl) (member_rows h)))
      ∙ behind q rules (map dealing_write (option_to_list (dealing h))) (absent q dealing_write (option_to_list (dealing h)) (all_of (λ d. q (dealing_write d) ≡ false) (λ d. refl) (option_to_list (dealing h))))
    where
      or_none : (o : Option Write) → option_or o None ≡ o
      or_none None = refl
      or_none (Some w) = refl

      behind : (q : Write → Bool) (xs ys : List Write) → find q ys ≡ None → find q (xs ++ ys) ≡ find q xs
      behind q xs ys none = find-append q xs ys ∙ ap (option_or (find q xs)) none ∙ or_none (find q xs)

  same_rule_rows : filter is_rule_row (write_set (all_rows h)) ≡ rules
  same_rule_rows =
      same_set (filter is_rule_row (write_set (all_rows h))) rules (ordered_kept is_rule_row (write_set (all_rows h)) (is_ordered-set_from [] (all_rows h) refl)) (ordered (constitution h))
      (λ m k. by m k (same_bytes m constitution_map) refl)
    where
      ordered : (o : Option (List Rule)) → is_ordered (map rule_write (rules_at o)) ≡ true
      ordered None = refl
      ordered (Some rs) = rules_ordered 1 rs

      in_map : (k : List ℕ) (x : Write) → is_to_row constitution_map k x ≡ true → is_rule_row x ≡ true
      in_map k x is = same_bytes-symm x.map constitution_map ∙ (and_parts (same_bytes constitution_map x.map) (same_bytes k x.key) is).0

      at_map : (k : List ℕ) → find (is_to_row constitution_map k) (filter is_rule_row (write_set (all_rows h))) ≡ find (is_to_row constitution_map k) rules
      at_map k =
          find_kept is_rule_row (is_to_row constitution_map k) (in_map k) (write_set (all_rows h))
          ∙ (same_as_set (all_rows h) (rows_distinct h apart)).first (record { map = constitution_map; key = k }) ∙ first_rule k

      elsewhere : (m k : List ℕ) → same_bytes m constitution_map ≡ false → (x : Write) → is_rule_row x ≡ true → is_to_row m k x ≡ false
      elsewhere m k other x is = (λ i. same_bytes m (same_bytes-eq x.map constitution_map is i) && same_bytes k x.key) ∙ (λ i. other i && same_bytes k x.key)

      by : (m k : List ℕ) (b : Bool) → same_bytes m constitution_map ≡ b → find (is_to_row m k) (filter is_rule_row (write_set (all_rows h))) ≡ find (is_to_row m k) rules
      by m k true is =
          let same = same_bytes-eq m constitution_map is in
          (λ i. find (is_to_row (same i) k) (filter is_rule_row (write_set (all_rows h)))) ∙ at_map k ∙ sym (λ i. find (is_to_row (same i) k) rules)
      by m k false is =
          none_kept is_rule_row (is_to_row m k) (elsewhere m k is) (write_set (all_rows h))
          ∙ sym (absent (is_to_row m k) rule_write (rules_at (constitution h)) (all_of (λ r. is_to_row m k (rule_write r) ≡ false) (λ r. λ i. is i && same_bytes k (r.number ∷ [])) (rules_at (constitution h))))

  -- the rules that are read of the rows, in order
  pub rules_in_order : FitsRows h → filter_map rule_of (write_set (all_rows h)) ≡ rules_at (constitution h)
  rules_in_order fits =
      sym (made_kept is_rule_row rule_of none (write_set (all_rows h))) ∙ ap (filter_map rule_of) (same_rule_rows ∙ sym (rules_written (constitution h))) ∙ back
    where
      none : (x : Write) → is_rule_row x ≡ false → rule_of x ≡ None
      none x e = ap (λ b. cond (b && is_rule_key x.key) (valued (read_rule x.key) x.value) None) e

      back : filter_map rule_of (rule_writes_of (constitution h)) ≡ rules_at (constitution h)
      back = rules_read h fits
