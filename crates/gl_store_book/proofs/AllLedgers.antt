-- What holds of each ledger that a node's ledger with a base stands for holds of all that its store
-- stands for.
use Rattle.std.proofs.Common.{◌≡◌, ℕ, List, [], ◌∷◌, ◌++◌, refl, sym, ap₂, subst}
use Rattle.gl_rules.specs.Identity.{NodeId}
use Rattle.gl_entry.specs.declared.entry.Entry.{Entry}
use Rattle.gl_ledger.specs.NodeKeys.{NodeKeys, service_layers}
use Rattle.gl_ledger.specs.LedgerBook.{ServiceBook, ledger_book}
use Rattle.gl_ledger_base.specs.Ledgers.{HoldsLedger}
use Rattle.gl_ledger_base.proofs.LedgersGrown.{held_more}
use Rattle.gl_replication.specs.Holding.{Holding, with_log}
use Rattle.gl_replication.specs.Standing.{At, Becomes, Enters, Stays}
use Rattle.gl_store_book.specs.BasedLedgers.{BasedLedger, IsEncoded, base_of, body_of, with_entries}
use Rattle.gl_store_book.specs.Stands.{NodeStore, HasKey, IsHolding, Stands}

abbrev pub book : NodeKeys → ServiceBook
book keys = ledger_book service_layers keys

-- it stands for this ledger
abbrev pub Holds : BasedLedger → List Entry → Type 0
Holds l log = HoldsLedger service_layers (body_of l.snapshot) l.entries log

abbrev pub held : NodeStore → List Entry → Holding Entry
held node log = record { me = node.me; base = base_of node.ledger; log = log }

held_is : (node : NodeStore) (h : Holding Entry) → IsHolding node h → held node h.log ≡ h
held_is node h is = ap₂ (λ (x : NodeId) (n : ℕ). record { me = x; base = n; log = h.log }) (sym is.me) (sym is.base)

pub stands_with : (keys : NodeKeys) (node : NodeStore) (log : List Entry) → HasKey keys node → IsEncoded node.ledger.snapshot → Holds node.ledger log → Stands node (book keys) (held node log)
stands_with keys node log has spelled holds = record { keys = keys; has = has; book = refl; holding = record { me = refl; base = refl; spelled = spelled; holds = holds } }

-- from each service in which it has its key, and each ledger
along : (P : ServiceBook → Holding Entry → Type 0) (b c : ServiceBook) (h g : Holding Entry) → b ≡ c → g ≡ h → P c g → P b h
along P b c h g same_book same_holding p = subst (λ (x : ServiceBook). P x h) (sym same_book) (subst (λ (x : Holding Entry). P c x) same_holding p)

pub reports : (node : NodeStore) (P : ServiceBook → Holding Entry → Type 0) →
    ((keys : NodeKeys) → HasKey keys node → (log : List Entry) → IsEncoded node.ledger.snapshot → Holds node.ledger log → P (book keys) (held node log)) → At Stands node P
reports node P each b h stands =
    along P b (book stands.keys) h (held node h.log) stands.book (held_is node h stands.holding)
    (each stands.keys stands.has h.log stands.holding.spelled stands.holding.holds)

-- one with other entries above the base
pub becomes : (old new : NodeStore) (es : List Entry) (P : ServiceBook → Holding Entry → List Entry → Type 0) →
    new ≡ record old { ledger = with_entries old.ledger es } →
    ((keys : NodeKeys) → HasKey keys old → (log : List Entry) → IsEncoded old.ledger.snapshot → Holds old.ledger log →
    (next : List Entry) × P (book keys) (held old log) next × Holds (with_entries old.ledger es) next) → Becomes Stands old new P
becomes old new es P same each =
    reports old (λ b h. (next : List Entry) × P b h next × Stands new b (with_log h next)) (λ keys has log spelled holds.
    let n = each keys has log spelled holds in (
      n.0,
      n.1,
      subst (λ (m : NodeStore). Stands m (book keys) (held old n.0)) (sym same)
          (stands_with keys (record old { ledger = with_entries old.ledger es }) n.0 (record { key = has.key }) spelled n.2),
    ))

-- one with one more entry
pub enters : (old new : NodeStore) (e : Entry) (P : ServiceBook → Holding Entry → Entry → Type 0) →
    new ≡ record old { ledger = with_entries old.ledger (old.ledger.entries ++ e ∷ []) } →
    ((keys : NodeKeys) → HasKey keys old → (log : List Entry) → IsEncoded old.ledger.snapshot → Holds old.ledger log → P (book keys) (held old log) e) → Enters Stands old new P
enters old new e P same each =
    reports old (λ b h. (f : Entry) × P b h f × Stands new b (with_log h (h.log ++ f ∷ []))) (λ keys has log spelled holds. (
      e,
      each keys has log spelled holds,
      subst (λ (m : NodeStore). Stands m (book keys) (held old (log ++ e ∷ []))) (sym same)
          (stands_with keys (record old { ledger = with_entries old.ledger (old.ledger.entries ++ e ∷ []) }) (log ++ e ∷ []) (record { key = has.key }) spelled
          (held_more service_layers (body_of old.ledger.snapshot) old.ledger.entries log holds (e ∷ []))),
    ))

-- one that is as it was
pub stays : (old new : NodeStore) → new ≡ old → Stays Stands old new
stays old new same b h stands = subst (λ (n : NodeStore). Stands n b h) (sym same) stands
