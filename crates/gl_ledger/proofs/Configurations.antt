-- The configuration that begins with an entry is the set of nodes that are trusted there, and one
-- that is in force at a seqno is that of the nodes that are trusted there too.
use Rattle.std.proofs.Common.{◌≡◌, ℕ, zero, suc, ◌-◌, ◌≤◌, List, [], ◌∷◌, length, take, Option, Some, None, Bool, true, false, refl, sym, ◌∙◌, ap, arith, if◌then◌else◌}
use Rattle.std.proofs.lemmas.Bool.{and_parts}
use Rattle.std.proofs.lemmas.List.{length-take-le, take-take}
use Rattle.gl_base.specs.Bytes.{same_bytes}
use Rattle.gl_vmaps.proofs.SameValues.{same_bytes_is}
use Rattle.gl_rules.specs.Identity.{NodeId}
use Rattle.gl_rules.specs.Configuration.{or_else, configuration_at}
use Rattle.gl_entry.specs.declared.entry.Entry.{Entry}
use Rattle.gl_ledger.specs.Layers.{Layers}
use Rattle.gl_ledger.specs.NodeKeys.{NodeKeys}
use Rattle.gl_ledger.specs.Recordings.{same_nodes, changed_set, trusted_nodes, configuration}
use Rattle.gl_ledger.specs.LedgerBook.{ledger_book}

-- lists of nodes that the test finds the same are one
pub same_nodes_are : (xs ys : List NodeId) → same_nodes xs ys ≡ true → xs ≡ ys
same_nodes_are [] [] h = refl
same_nodes_are [] (y ∷ ys) h = absurd (cc)
same_nodes_are (x ∷ xs) [] h = absurd (cc)
same_nodes_are (x ∷ xs) (y ∷ ys) h =
    let both = and_parts (same_bytes x y) (same_nodes xs ys) h in
    let first : x ≡ y = same_bytes_is x y both.0 in
    let rest : xs ≡ ys = same_nodes_are xs ys both.1 in
    ap (λ (z : NodeId). z ∷ xs) first ∙ ap (λ (zs : List NodeId). y ∷ zs) rest

-- a set that is there
abbrev found : List NodeId → Option (List NodeId)
found set = Some set

-- the set that differs from the one before is the one now, and where none differs they are one
changed_is : (before now set : List NodeId) → changed_set before now ≡ Some set → set ≡ now
changed_is before now set h = go (same_nodes before now) h
  where
    go : (b : Bool) → (if b then None else found now) ≡ Some set → set ≡ now
    go true w = absurd (cc)
    go false w = let k : now ≡ set = cc in sym k

unchanged_is : (before now : List NodeId) → changed_set before now ≡ None → before ≡ now
unchanged_is before now h = go (same_nodes before now) refl h
  where
    go : (b : Bool) → same_nodes before now ≡ b → (if b then None else found now) ≡ None → before ≡ now
    go true is w = same_nodes_are before now is
    go false is w = absurd (cc)

-- a configuration is the set of the nodes that are trusted there
pub configuration_is : (ledger : List Entry) (set : List NodeId) → configuration ledger ≡ Some set → set ≡ trusted_nodes ledger
unfolding configuration
configuration_is ledger set h = changed_is (trusted_nodes (take (length ledger - 1) ledger)) (trusted_nodes ledger) set h

-- where none begins the same nodes are trusted as before
pub configuration_kept : (ledger : List Entry) (n : ℕ) → suc n ≤ length ledger → configuration (take (suc n) ledger) ≡ None → trusted_nodes (take n ledger) ≡ trusted_nodes (take (suc n) ledger)
unfolding configuration
configuration_kept ledger n low h =
    let long : length (take (suc n) ledger) ≡ suc n = length-take-le (suc n) ledger low in
    let before : take (length (take (suc n) ledger) - 1) (take (suc n) ledger) ≡ take n ledger =
    ap (λ (k : ℕ). take k (take (suc n) ledger)) (omega (arith, long)) ∙ take-take n (suc n) ledger (omega arith) in
    ap trusted_nodes (sym before) ∙ unchanged_is (trusted_nodes (take (length (take (suc n) ledger) - 1) (take (suc n) ledger))) (trusted_nodes (take (suc n) ledger)) h

-- the configuration in force at a seqno is the set of the nodes that are trusted there
pub in_force : (layers : Layers) (keys : NodeKeys) (ledger : List Entry) (n : ℕ) (set : List NodeId) → n ≤ length ledger →
    configuration_at (ledger_book layers keys) ledger n ≡ Some set → set ≡ trusted_nodes (take n ledger)
unfolding configuration_at
in_force layers keys ledger zero set low h = absurd (cc)
in_force layers keys ledger (suc n) set low h =
    go (configuration (take (suc n) ledger)) refl h (λ w. in_force layers keys ledger n set (omega (arith, low)) w)
  where
    go : (o : Option (List NodeId)) → configuration (take (suc n) ledger) ≡ o → or_else o (configuration_at (ledger_book layers keys) ledger n) ≡ Some set →
        (configuration_at (ledger_book layers keys) ledger n ≡ Some set → set ≡ trusted_nodes (take n ledger)) → set ≡ trusted_nodes (take (suc n) ledger)
    go None is w again = again w ∙ configuration_kept ledger n low is
    go (Some c) is w again = let k : c ≡ set = cc in configuration_is (take (suc n) ledger) set (is ∙ ap found k)
