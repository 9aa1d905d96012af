-- The rows of a history are in order, and each sets a value.
use Rattle.std.proofs.Common.{◌≡◌, ℕ, suc, true, Option, None, Some, List, [], ◌∷◌, ◌++◌, map, refl, ◌∙◌}
use Rattle.std.specs.List.{list_all}
use Rattle.std.proofs.lemmas.Bool.{and_from}
use Rattle.std.proofs.lemmas.List.Folds.{list_all-append}
use Rattle.gl_vmaps.specs.Writes.{is_ordered}
use Rattle.gl_vmaps.specs.Changes.{are_rows}
use Rattle.gl_vmaps.specs.declared.write.Write.{Write}
use Rattle.gl_vmaps.proofs.WriteSets.{sets_value, is_ordered-set_from, list_all-set_from}
use Rattle.gl_requests.specs.declared.action.Rule.{Rule}
use Rattle.gl_gov_rules.specs.History.{History}
use Rattle.gl_gov_rules.specs.Service.{constitution, dealing, shares_given}
use Rattle.gl_gov_rules.specs.Proposals.{proposals}
use Rattle.gl_gov_rules.specs.Rows.{rule_writes_from, rule_writes_of, write_of, dealing_write, member_rows, member_write, node_rows, node_write, proposal_row, proposal_write, proposal_writes, service_row, service_write, share_write, all_rows, rows}
use Rattle.gl_gov_rules.specs.declared.change.Proposal.{Proposal}

abbrev all_set : List Write → Type 0
all_set ws = list_all sets_value ws ≡ true

set-append : (xs ys : List Write) → all_set xs → all_set ys → all_set (xs ++ ys)
set-append xs ys one two = list_all-append sets_value xs ys ∙ and_from (list_all sets_value xs) (list_all sets_value ys) one two

set-map : {A : Type 0} (f : A → Write) (xs : List A) → ((x : A) → sets_value (f x) ≡ true) → all_set (map f xs)
set-map f [] each = refl
set-map f (x ∷ xs) each = and_from (sets_value (f x)) (list_all sets_value (map f xs)) (each x) (set-map f xs each)

set-option : {A : Type 0} (f : A → Write) (o : Option A) → ((x : A) → sets_value (f x) ≡ true) → all_set (write_of f o)
set-option f None each = refl
set-option f (Some x) each = and_from (sets_value (f x)) true (each x) refl

set-rules_from : (number : ℕ) (rules : List Rule) → all_set (rule_writes_from number rules)
set-rules_from number [] = refl
set-rules_from number (r ∷ rules) = set-rules_from (suc number) rules

set-rules : (o : Option (List Rule)) → all_set (rule_writes_of o)
set-rules None = refl
set-rules (Some rules) = set-rules_from 1 rules

set-proposals : (h : History) → all_set (proposal_writes h)
unfolding proposal_writes
set-proposals h = set-map (λ (p : Proposal). proposal_write p.id (proposal_row h p)) (proposals h) (λ p. refl)

-- each of all rows sets a value
set-all_rows : (h : History) → all_set (all_rows h)
unfolding all_rows
set-all_rows h =
    let rules = rule_writes_of (constitution h) in
    let dealt = write_of dealing_write (dealing h) in
    let members = map member_write (member_rows h) in
    let nodes = map node_write (node_rows h) in
    let service = write_of service_write (service_row h) in
    let shares = map share_write (shares_given h) in
    let a = set-append rules dealt (set-rules (constitution h)) (set-option dealing_write (dealing h) (λ d. refl)) in
    let b = set-append (rules ++ dealt) members a (set-map member_write (member_rows h) (λ m. refl)) in
    let c = set-append (rules ++ dealt ++ members) nodes b (set-map node_write (node_rows h) (λ n. refl)) in
    let d = set-append (rules ++ dealt ++ members ++ nodes) (proposal_writes h) c (set-proposals h) in
    let e = set-append (rules ++ dealt ++ members ++ nodes ++ proposal_writes h) service d (set-option service_write (service_row h) (λ s. refl)) in
    set-append (rules ++ dealt ++ members ++ nodes ++ proposal_writes h ++ service) shares e (set-map share_write (shares_given h) (λ s. refl))

pub are_rows_rows : (h : History) → are_rows (rows h) ≡ true
unfolding rows
are_rows_rows h =
    and_from (is_ordered (rows h)) (list_all sets_value (rows h)) (is_ordered-set_from [] (all_rows h) refl) (list_all-set_from sets_value [] (all_rows h) refl (set-all_rows h))
