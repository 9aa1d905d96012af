-- Behind no base the configurations are those of a whole ledger.
use Rattle.std.proofs.Common.{◌≡◌, ℕ, zero, suc, ◌≤◌, ◌+◌, ◌-◌, List, [], ◌++◌, length, take, Option, None, refl, sym, ap, ap₂, ◌∙◌, arith}
use Rattle.std.proofs.lemmas.List.{length-take-le, take-take}
use Rattle.gl_rules.specs.Identity.{NodeId}
use Rattle.gl_rules.specs.Configuration.{active}
use Rattle.gl_config.specs.declared.configuration.Configuration.{Configuration}
use Rattle.gl_config.specs.Active.{active_of, at_seqno, configurations_upto, sets_of}
use Rattle.gl_entry.specs.declared.entry.Entry.{Entry}
use Rattle.gl_gov_rules.specs.declared.change.Recorded.{Recorded}
use Rattle.gl_gov_rules.specs.Governed.{up_to}
use Rattle.gl_gov_rules.specs.Changes.{history}
use Rattle.gl_gov_rules.specs.Nodes as nodes
use Rattle.gl_audit.specs.GovState.{Governed}
use Rattle.gl_audit.proofs.Cutting.{requests_of-take}
use Rattle.gl_ledger.specs.NodeKeys.{NodeKeys}
use Rattle.gl_ledger.specs.Recordings.{changed_set, configuration, requests_of, trusted_nodes}
use Rattle.gl_store_book.specs.Lists.{configurations_behind, trusted_up_to}
use Rattle.gl_store_book.proofs.Actives.{active_at}
use Rattle.gl_store_book.proofs.AllLedgers.{book}
use Rattle.gl_store_book.proofs.Growing.{unchanged}

abbrev pub governed_whole : List Entry → Governed
governed_whole ledger = record { base = None; requests = requests_of ledger }

trusted_whole : (ledger : List Entry) (n m : ℕ) → n ≡ m → trusted_up_to (governed_whole ledger) n ≡ trusted_nodes (take m ledger)
unfolding trusted_nodes
trusted_whole ledger n m same =
    ap (λ (rs : List Recorded). nodes.trusted (history rs)) (ap (λ (k : ℕ). up_to k (requests_of ledger)) same ∙ sym (requests_of-take ledger m))

-- one begins where the trusted nodes change
begins_whole : (ledger : List Entry) (n : ℕ) → suc n ≤ length ledger → configuration (take (suc n) ledger) ≡ changed_set (trusted_nodes (take n ledger)) (trusted_nodes (take (suc n) ledger))
unfolding configuration
begins_whole ledger n low =
    let long : length (take (suc n) ledger) ≡ suc n = length-take-le (suc n) ledger low in
    let here : length (take (suc n) ledger) - 1 ≡ n = omega (arith, long) in
    ap (λ (l : List Entry). changed_set (trusted_nodes l) (trusted_nodes (take (suc n) ledger)))
    (ap (λ (k : ℕ). take k (take (suc n) ledger)) here ∙ take-take n (suc n) ledger (omega arith))

behind_none : (keys : NodeKeys) (ledger : List Entry) (n : ℕ) → n ≤ length ledger → configurations_behind 0 (governed_whole ledger) n ≡ configurations_upto (book keys) ledger n
unfolding configurations_behind configurations_upto
behind_none keys ledger zero low = refl
behind_none keys ledger (suc n) low =
    let here : 0 + suc n ≡ suc n = omega arith in
    let before : 0 + suc n - 1 ≡ n = omega arith in
    ap₂ (λ (cs : List Configuration) (s : ℕ). cs ++ at_seqno s (changed_set (trusted_up_to (governed_whole ledger) (0 + suc n - 1)) (trusted_up_to (governed_whole ledger) (0 + suc n))))
    (behind_none keys ledger n (omega (arith, low))) here
    ∙ ap (λ (o : Option (List NodeId)). configurations_upto (book keys) ledger n ++ at_seqno (suc n) o)
    (ap₂ changed_set (trusted_whole ledger (0 + suc n - 1) n before) (trusted_whole ledger (0 + suc n) (suc n) here) ∙ sym (begins_whole ledger n low))

-- where nothing is trusted no configuration begins
none_begins : configuration [] ≡ None
unfolding configuration
none_begins = unchanged (trusted_nodes [])

-- they give the active ones
pub active_whole : (keys : NodeKeys) (ledger : List Entry) (commit : ℕ) →
    sets_of (active_of (configurations_behind 0 (governed_whole ledger) (length ledger)) commit) ≡ active (book keys) ledger commit
active_whole keys ledger commit =
    ap (λ (cs : List Configuration). sets_of (active_of cs commit)) (behind_none keys ledger (length ledger) (omega arith))
    ∙ active_at (book keys) ledger none_begins commit
