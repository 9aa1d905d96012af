-- The configurations of a ledger are told by each body and entries that stand for it.
use Rattle.std.proofs.Common.{◌≡◌, ⊎_elim, ℕ, zero, suc, ◌+◌, ◌-◌, ◌<◌, ◌≤◌, List, [], ◌∷◌, ◌++◌, length, take, Option, Some, None, Bool, false, nat_lt, if◌then◌else◌, refl, sym, ◌∙◌, ap, arith}
use Rattle.std.specs.Option.{option_to_list}
use Rattle.std.proofs.lemmas.Bool.{cases_lt}
use Rattle.std.proofs.lemmas.Bool.Decides.{nat_tests}
use Rattle.std.proofs.lemmas.List.{length-take-le, take-take}
use Rattle.gl_base.proofs.Lists.{take-past}
use Rattle.gl_rules.specs.Identity.{NodeId}
use Rattle.gl_rules.specs.Replication.{is_reached}
use Rattle.gl_rules.specs.Configuration.{active, configuration_at, configurations_above, or_else}
use Rattle.gl_entry.specs.declared.entry.Entry.{Entry}
use Rattle.gl_gov_rules.specs.declared.change.Recorded.{Recorded}
use Rattle.gl_gov_rules.specs.Changes.{history}
use Rattle.gl_gov_rules.specs.Governed.{IsGoverned, is_nothing}
use Rattle.gl_gov_rules.specs.GovernedRows.{history_over}
use Rattle.gl_gov_rules.specs.Nodes as nodes
use Rattle.gl_gov_rules.specs.declared.row.GovernedRows.{GovernedRows}
use Rattle.gl_gov_rules.proofs.SomeTrusted.{some_trusted}
use Rattle.gl_gov_base.specs.Alike.{is_up_to}
use Rattle.gl_gov_base.proofs.AtBase.{alike_over}
use Rattle.gl_snapshot_body.specs.declared.body.Body.{Body}
use Rattle.gl_ledger.specs.Audit.{audited_over}
use Rattle.gl_ledger.specs.Layers.{Layers}
use Rattle.gl_ledger.specs.LedgerBook.{ServiceBook, ledger_book}
use Rattle.gl_ledger.specs.NodeKeys.{NodeKeys}
use Rattle.gl_ledger.specs.Past.{past_at, past_over}
use Rattle.gl_ledger.specs.Recordings.{changed_set, configuration, mark, recorded_nodes, removal, requests_of, trusted_nodes}
use Rattle.gl_ledger.specs.Snapshot.{requests_over}
use Rattle.gl_ledger.proofs.Configurations.{configuration_is, configuration_kept, in_force}
use Rattle.gl_ledger_base.specs.Ledgers.{HoldsLedger}
use Rattle.gl_ledger_base.specs.ReadOver.{configuration_over, configurations_over, trusted_at}
use Rattle.gl_ledger_base.proofs.LedgersHeld.{held_alike, held_audited, held_base, held_governance, held_length, held_requests}
use Rattle.gl_ledger_base.proofs.LedgersRead.{is_read}
use Rattle.gl_ledger_base.proofs.LedgersReads.{held_cut, valid_cut}

-- ---- of a whole ledger

none_at_first : trusted_nodes [] ≡ []
unfolding history trusted_nodes nodes.trusted nodes.nodes
none_at_first = refl

some_governed : (rs : List Recorded) → is_nothing rs ≡ false → IsGoverned rs → 0 < length (nodes.trusted (history rs))
some_governed [] some all = absurd (cc)
some_governed (r ∷ rs) some all = some_trusted r rs all

no_entry : (es : List Entry) → length es ≡ 0 → es ≡ []
no_entry [] is = refl
no_entry (e ∷ es) is = absurd (omega (arith, is))

-- where no configuration has begun the same nodes are trusted as at first
same_as_first : (layers : Layers) (keys : NodeKeys) (ledger : List Entry) (n : ℕ) → n ≤ length ledger → configuration_at (ledger_book layers keys) ledger n ≡ None → trusted_nodes (take n ledger) ≡ trusted_nodes []
unfolding configuration_at
same_as_first layers keys ledger zero low none = refl
same_as_first layers keys ledger (suc n) low none = go (configuration (take (suc n) ledger)) refl none (same_as_first layers keys ledger n (omega (arith, low)))
  where
    go : (o : Option (List NodeId)) → configuration (take (suc n) ledger) ≡ o → or_else o (configuration_at (ledger_book layers keys) ledger n) ≡ None →
        (configuration_at (ledger_book layers keys) ledger n ≡ None → trusted_nodes (take n ledger) ≡ trusted_nodes []) → trusted_nodes (take (suc n) ledger) ≡ trusted_nodes []
    go None is w again = sym (configuration_kept ledger n low is) ∙ again w
    go (Some set) is w again = absurd (cc)

-- past the last entry the configuration in force stays
past_end : (layers : Layers) (keys : NodeKeys) (ledger : List Entry) (k n : ℕ) → n ≡ length ledger + k → configuration_at (ledger_book layers keys) ledger (length ledger) ≡ Some (trusted_nodes ledger) →
    configuration_at (ledger_book layers keys) ledger n ≡ Some (trusted_nodes ledger)
unfolding configuration_at
past_end layers keys ledger zero n is end = ap (configuration_at (ledger_book layers keys) ledger) (let same : n ≡ length ledger = omega (arith, is) in same) ∙ end
past_end layers keys ledger (suc k) zero is end = absurd (omega (arith, is))
past_end layers keys ledger (suc k) (suc n) is end =
    ap (λ (l : List Entry). or_else (configuration l) (configuration_at (ledger_book layers keys) ledger n)) (take-past ledger (suc n) (omega (arith, is)))
    ∙ go (configuration ledger) refl (past_end layers keys ledger k n (omega (arith, is)) end)
  where
    go : (o : Option (List NodeId)) → configuration ledger ≡ o → configuration_at (ledger_book layers keys) ledger n ≡ Some (trusted_nodes ledger) →
        or_else o (configuration_at (ledger_book layers keys) ledger n) ≡ Some (trusted_nodes ledger)
    go None is before = before
    go (Some set) is before = ap (λ (s : List NodeId). Some s) (configuration_is ledger set is)

-- ---- behind a body

module _ (layers : Layers) (body : Body) (es ledger : List Entry) (holds : HoldsLedger layers body es ledger) (valid : audited_over layers body es ≡ None) where
  pub read_nodes : recorded_nodes ledger ≡ (past_over body es).nodes
  read_nodes = sym (held_alike layers body es ledger holds valid).nodes

  pub read_removal : (y : NodeId) → removal ledger y ≡ (past_over body es).removal y
  read_removal y = sym ((held_alike layers body es ledger holds valid).removals y)

  pub read_trusted : trusted_nodes ledger ≡ nodes.trusted (past_over body es).history
  unfolding trusted_nodes
  read_trusted = sym (held_alike layers body es ledger holds valid).trusted

  -- a node's mark stands at a commit where it stands in the whole ledger
  pub read_mark : (y : NodeId) (commit : ℕ) → body.base ≤ commit → is_reached (mark ledger y) commit ≡ is_reached ((past_over body es).mark y) commit
  unfolding mark
  read_mark y commit low = sym (reached (mark ledger y) commit) ∙ go body.base refl ∙ reached ((past_over body es).mark y) commit
    where
      reached : (o : Option ℕ) (seqno : ℕ) → is_up_to seqno o ≡ is_reached o seqno
      reached None seqno = refl
      reached (Some m) seqno = refl

      go : (n : ℕ) → body.base ≡ n → is_up_to commit (mark ledger y) ≡ is_up_to commit ((past_at n body es).mark y)
      go zero is =
          let counted = held_base layers body es ledger holds in
          ap (λ (l : List Entry). is_up_to commit (mark l y)) (holds.whole ∙ ap (λ (l : List Entry). l ++ es) (no_entry holds.below (omega (arith, is, counted))))
      go (suc n) is =
          let over = held_governance layers body es ledger holds valid (omega (arith, is)) in
          ap (λ (rs : List Recorded). is_up_to commit (nodes.mark (history rs) y)) (held_requests layers body es ledger holds)
          ∙ (alike_over body.base body.rows over.0 (requests_of holds.below) (requests_over body es) over.2).marks y commit low
          ∙ ap (λ (o : Option GovernedRows). is_up_to commit (nodes.mark (history_over o (requests_over body es)) y)) (sym over.1)

  -- after an entry that breaks no rule some node is trusted
  some_node : 0 < length ledger → 0 < length (trusted_nodes ledger)
  unfolding trusted_nodes
  some_node some =
      let read = is_read layers body.base ledger (held_audited layers body es ledger holds valid) in
      some_governed (requests_of ledger) (read.founded some) read.governed

-- cut to a seqno
module _ (layers : Layers) (body : Body) (es ledger : List Entry) (holds : HoldsLedger layers body es ledger) (valid : audited_over layers body es ≡ None) where
  pub trusted_upto : (seqno : ℕ) → body.base ≤ seqno → trusted_nodes (take seqno ledger) ≡ trusted_at body es seqno
  trusted_upto seqno low =
      read_trusted layers body (take (seqno - body.base) es) (take seqno ledger) (held_cut layers body es ledger holds seqno low) (valid_cut layers body es (seqno - body.base) valid)

  pub nodes_upto : (seqno : ℕ) → body.base ≤ seqno → recorded_nodes (take seqno ledger) ≡ (past_over body (take (seqno - body.base) es)).nodes
  nodes_upto seqno low =
      read_nodes layers body (take (seqno - body.base) es) (take seqno ledger) (held_cut layers body es ledger holds seqno low) (valid_cut layers body es (seqno - body.base) valid)

  some_upto : (seqno : ℕ) → body.base ≤ seqno → 0 < seqno → seqno ≤ length ledger → 0 < length (trusted_nodes (take seqno ledger))
  some_upto seqno low some within =
      some_node layers body (take (seqno - body.base) es) (take seqno ledger) (held_cut layers body es ledger holds seqno low) (valid_cut layers body es (seqno - body.base) valid)
      (let long = length-take-le seqno ledger within in omega (arith, long, some))

  -- a configuration begins where the trusted nodes change
  pub read_configuration : (seqno : ℕ) → body.base < seqno → seqno ≤ length ledger → configuration (take seqno ledger) ≡ configuration_over body es seqno
  unfolding configuration
  read_configuration seqno high within =
      let long : length (take seqno ledger) ≡ seqno = length-take-le seqno ledger within in
      let before : take (length (take seqno ledger) - 1) (take seqno ledger) ≡ take (seqno - 1) ledger =
      ap (λ (n : ℕ). take (n - 1) (take seqno ledger)) long ∙ take-take (seqno - 1) seqno ledger (omega arith) in
      ap (λ (l : List Entry). changed_set (trusted_nodes l) (trusted_nodes (take seqno ledger))) before
      ∙ (λ i. changed_set (trusted_upto (seqno - 1) (omega (arith, high)) i) (trusted_upto seqno (omega (arith, high)) i))

  module _ (keys : NodeKeys) where
    abbrev b : ServiceBook
    b = ledger_book layers keys

    -- and the one in force is the set of those that are trusted
    within_in_force : (seqno : ℕ) → body.base ≤ seqno → 0 < seqno → seqno ≤ length ledger → configuration_at b ledger seqno ≡ Some (trusted_at body es seqno)
    within_in_force seqno low some within = go (configuration_at b ledger seqno) refl
      where
        go : (o : Option (List NodeId)) → configuration_at b ledger seqno ≡ o → configuration_at b ledger seqno ≡ Some (trusted_at body es seqno)
        go None is =
            absurd
            (let one = some_upto seqno low some within in
            let none = ap length (same_as_first layers keys ledger seqno within is ∙ none_at_first) in
            omega (arith, one, none))
        go (Some set) is = is ∙ ap (λ (s : List NodeId). Some s) (in_force layers keys ledger seqno set within is ∙ trusted_upto seqno low)

    pub read_in_force : (seqno : ℕ) → body.base ≤ seqno → 0 < seqno → 0 < length ledger → configuration_at b ledger seqno ≡ Some (trusted_at body es seqno)
    read_in_force seqno low some full = ⊎_elim
        (λ (within : seqno < length ledger). within_in_force seqno low some (omega (arith, within)))
        (λ (past : length ledger ≤ seqno).
        let long = held_length layers body es ledger holds in
        let up : body.base ≤ length ledger = omega (arith, long) in
        let whole : trusted_at body es (length ledger) ≡ trusted_nodes ledger = sym (trusted_upto (length ledger) up) ∙ ap trusted_nodes (take-past ledger (length ledger) (omega arith)) in
        past_end layers keys ledger (seqno - length ledger) seqno (omega (arith, past)) (within_in_force (length ledger) up full (omega arith) ∙ ap (λ (s : List NodeId). Some s) whole)
        ∙ ap (λ (s : List NodeId). Some s) (ap trusted_nodes (sym (take-past ledger seqno past)) ∙ trusted_upto seqno low))
        (cases_lt seqno (length ledger))

    none_to : (commit seqno : ℕ) → seqno ≤ commit → configurations_above b ledger commit seqno ≡ []
    unfolding configurations_above
    none_to commit zero low = refl
    none_to commit (suc n) low =
        ap (λ (high : Bool). if high then configurations_above b ledger commit n ++ option_to_list (configuration (take (suc n) ledger)) else [])
        (let high : nat_lt commit (suc n) ≡ false = grind (arith, nat_tests, low) in high)

    above_at : (commit n seqno : ℕ) → body.base ≤ commit → seqno ≡ body.base + n → seqno ≤ length ledger → configurations_above b ledger commit seqno ≡ configurations_over body es commit n
    unfolding configurations_above
    above_at commit zero seqno low is within = none_to commit seqno (omega (arith, is, low))
    above_at commit (suc n) zero low is within = absurd (omega (arith, is))
    above_at commit (suc n) (suc s) low is within =
        (λ i.
        if nat_lt commit (is i)
        then above_at commit n s low (omega (arith, is)) (omega (arith, within)) i ++ option_to_list (begun i)
        else [])
      where
        begun : configuration (take (suc s) ledger) ≡ configuration_over body es (body.base + suc n)
        begun = read_configuration (suc s) (omega (arith, is)) within ∙ ap (configuration_over body es) is

    pub read_above : (commit seqno : ℕ) → body.base ≤ commit → body.base ≤ seqno → seqno ≤ length ledger → configurations_above b ledger commit seqno ≡ configurations_over body es commit (seqno - body.base)
    read_above commit seqno low up within = above_at commit (seqno - body.base) seqno low (omega (arith, up)) within

    pub read_active : (commit : ℕ) → body.base ≤ commit → 0 < commit → 0 < length ledger → active b ledger commit ≡ trusted_at body es commit ∷ configurations_over body es commit (length es)
    read_active commit low some full =
        let long = held_length layers body es ledger holds in
        (λ i. option_to_list (read_in_force commit low some full i) ++ above_at commit (length es) (length ledger) low long (omega arith) i)
