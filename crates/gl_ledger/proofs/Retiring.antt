-- From its removal on a node is in no active configuration of a ledger.
use Rattle.std.proofs.Common.{◌≡◌, ⊎_elim, ℕ, zero, suc, ◌+◌, ◌<◌, ◌≤◌, List, [], ◌∷◌, ◌++◌, length, take, Option, Some, None, Bool, true, false, ◌||◌, nat_lt, if◌then◌else◌, refl, sym, ◌∙◌, ap, subst, arith}
use Rattle.std.specs.Option.{option_to_list}
use Rattle.std.proofs.lemmas.Bool.{cases_lt}
use Rattle.std.proofs.lemmas.Bool.Decides.{nat_tests}
use Rattle.std.proofs.lemmas.List.{length-take-le}
use Rattle.gl_base.proofs.Lists.{slice_get-below, take-next, take-past, take-all}
use Rattle.gl_rules.specs.Identity.{NodeId, member}
use Rattle.gl_rules.specs.Configuration.{in_some, configuration_at, configurations_above}
use Rattle.gl_rules.specs.Safety.{EachFollows, IsRetiring}
use Rattle.gl_rules.proofs.Soundness.{sound_cut}
use Rattle.gl_entry.specs.declared.entry.Entry.{Entry}
use Rattle.gl_gov_rules.specs.Changes.{history}
use Rattle.gl_gov_rules.specs.Nodes as nodes
use Rattle.gl_gov_rules.proofs.Statuses.{not_trusted}
use Rattle.gl_ledger.specs.Layers.{Layers}
use Rattle.gl_ledger.specs.NodeKeys.{NodeKeys}
use Rattle.gl_ledger.specs.Recordings.{requests_of, trusted_nodes, configuration, removal}
use Rattle.gl_ledger.specs.LedgerBook.{ledger_book}
use Rattle.gl_ledger.proofs.Governed.{governed, followed}
use Rattle.gl_ledger.proofs.Places.{removal_comes}
use Rattle.gl_ledger.proofs.RecordedNodes.{member_is}
use Rattle.gl_ledger.proofs.Configurations.{configuration_is, in_force}

-- ---- sets of nodes

-- a node is in none of two lists of sets
in_none : (x : NodeId) (cs ds : List (List NodeId)) → in_some x cs ≡ false → in_some x ds ≡ false → in_some x (cs ++ ds) ≡ false
in_none x [] ds a b = b
in_none x (c ∷ cs) ds a b = go (member x c) a (λ w. in_none x cs ds w b)
  where
    go : (t : Bool) → (t || in_some x cs) ≡ false → (in_some x cs ≡ false → in_some x (cs ++ ds) ≡ false) → (t || in_some x (cs ++ ds)) ≡ false
    go true w again = absurd (cc)
    go false w again = again w

-- nor in a set that there may be
in_no_option : (x : NodeId) (o : Option (List NodeId)) → ((c : List NodeId) → o ≡ Some c → member x c ≡ false) → in_some x (option_to_list o) ≡ false
in_no_option x None none = refl
in_no_option x (Some c) none = ap (λ (b : Bool). b || false) (none c refl)

module _ (layers : Layers) (keys : NodeKeys) (ledger : List Entry) (y : NodeId) (removed : ℕ) (each : EachFollows (ledger_book layers keys) ledger) (is_removed : removal ledger y ≡ Some removed) where
  -- the removal stands in each prefix of the ledger that reaches it
  stands_in : (n k : ℕ) → k ≤ n → removed ≤ k → removal (take n ledger) y ≡ Some removed → removal (take k ledger) y ≡ Some removed
  stands_in zero k le low h = let none : 0 ≡ k = omega (arith, le) in subst (λ (j : ℕ). removal (take j ledger) y ≡ Some removed) none h
  stands_in (suc n) k le low h = ⊎_elim
      (λ (less : k < suc n). stands_in n k (omega (arith, less)) low (shorter (omega (arith, less, low))))
      (λ (same : suc n ≤ k). let all : suc n ≡ k = omega (arith, le, same) in subst (λ (j : ℕ). removal (take j ledger) y ≡ Some removed) all h)
      (cases_lt k (suc n))
    where
      shorter : removed ≤ n → removal (take n ledger) y ≡ Some removed
      shorter before = ⊎_elim
          (λ (here : n < length ledger).
          let e = slice_get-below ledger n here in
          let long : length (take n ledger) ≡ n = length-take-le n ledger (omega (arith, here)) in
          ⊎_elim
          (λ (old : removal (take n ledger) y ≡ Some removed). old)
          (λ (new : removed ≡ length (take n ledger) + 1). absurd (omega (arith, new, long, before)))
          (removal_comes (take n ledger) e.0 y removed (subst (λ (l : List Entry). removal l y ≡ Some removed) (take-next ledger n e.0 e.1) h)))
          (λ (past : length ledger ≤ n).
          subst (λ (l : List Entry). removal l y ≡ Some removed) (take-past ledger (suc n) (omega (arith, past)) ∙ sym (take-past ledger n past)) h)
          (cases_lt n (length ledger))

  -- so it stands in each of them
  stands : (k : ℕ) → k ≤ length ledger → removed ≤ k → removal (take k ledger) y ≡ Some removed
  stands k le low = stands_in (length ledger) k le low (subst (λ (l : List Entry). removal l y ≡ Some removed) (sym (take-all ledger)) is_removed)

  -- from there on the node isn't trusted
  untrusted : (k : ℕ) → k ≤ length ledger → removed ≤ k → member y (trusted_nodes (take k ledger)) ≡ false
  unfolding trusted_nodes removal
  untrusted k le low =
      let before = take k ledger in
      member_is y (nodes.trusted (history (requests_of before)))
      ∙ not_trusted (requests_of before) y removed (governed layers before (followed layers keys before (sound_cut (ledger_book layers keys) ledger k each))) (stands k le low)

  module _ (commit : ℕ) (low : removed ≤ commit) (within : commit ≤ length ledger) where
    -- so it is not in the configuration in force at a later commit
    not_in_force : in_some y (option_to_list (configuration_at (ledger_book layers keys) ledger commit)) ≡ false
    not_in_force =
        in_no_option y (configuration_at (ledger_book layers keys) ledger commit)
        (λ c is. ap (member y) (in_force layers keys ledger commit c within is) ∙ untrusted commit within low)

    -- nor in one that begins after it
    not_above : (n : ℕ) → n ≤ length ledger → in_some y (configurations_above (ledger_book layers keys) ledger commit n) ≡ false
    unfolding configurations_above
    not_above zero le = refl
    not_above (suc n) le = go (nat_lt commit (suc n)) refl (not_above n (omega (arith, le)))
      where
        begins : commit < suc n → in_some y (option_to_list (configuration (take (suc n) ledger))) ≡ false
        begins less =
            in_no_option y (configuration (take (suc n) ledger))
            (λ c is. ap (member y) (configuration_is (take (suc n) ledger) c is) ∙ untrusted (suc n) le (omega (arith, less, low)))

        go : (b : Bool) → nat_lt commit (suc n) ≡ b → in_some y (configurations_above (ledger_book layers keys) ledger commit n) ≡ false →
            in_some y (if b then (configurations_above (ledger_book layers keys) ledger commit n ++ option_to_list (configuration (take (suc n) ledger))) else []) ≡ false
        go true is none =
            let less : commit < suc n = grind (arith, nat_tests) in
            in_none y (configurations_above (ledger_book layers keys) ledger commit n) (option_to_list (configuration (take (suc n) ledger))) none (begins less)
        go false is none = refl

-- from its removal on a node is in no active configuration
pub retiring : (layers : Layers) (keys : NodeKeys) → IsRetiring (ledger_book layers keys) (EachFollows (ledger_book layers keys))
retiring layers keys = record {
  removed = λ log y removal commit each is low within.
      in_none y (option_to_list (configuration_at (ledger_book layers keys) log commit)) (configurations_above (ledger_book layers keys) log commit (length log))
      (not_in_force layers keys log y removal each is commit low within) (not_above layers keys log y removal each is commit low within (length log) (omega arith));
}
