-- A store that founds its service: the genesis, and the signature that opens it.
use Rattle.std.proofs.Common.{◌≡◌, [], ◌∷◌, ◌++◌, None, Some, Ok, refl, sym, ap, ap₂, ◌∙◌}
use Rattle.gl_rules.specs.Identity.{NodeId}
use Rattle.gl_entry.specs.declared.entry.Entry.{Entry}
use Rattle.gl_requests.specs.declared.genesis.Genesis as request
use Rattle.gl_ledger.specs.declared.breach.Broken.{Broken}
use Rattle.gl_ledger.specs.Broken.{broken}
use Rattle.gl_ledger.specs.Ledger.{genesis_entry}
use Rattle.gl_ledger.specs.Makers.{opening_of, signed_entry}
use Rattle.gl_ledger.specs.NodeKeys.{NodeKeys, service_layers}
use Rattle.gl_ledger.specs.OpeningLedger.{Founds}
use Rattle.gl_ledger.specs.Recordings.{endorsement_in}
use Rattle.gl_ledger.proofs.Governed.{no_rule_broken}
use Rattle.gl_ledger.proofs.OpeningLaws.{follow}
use Rattle.gl_store_book.specs.BasedLedgers.{BasedLedger, broken_after, whole_ledger, with_entries}
use Rattle.gl_store_book.specs.Stands.{HasKey, NodeStore}
use Rattle.gl_store_book.specs.Taken.{signed}

-- the ledger of a genesis
abbrev pub founding : request.Genesis → BasedLedger
founding g = whole_ledger (genesis_entry g ∷ [])

abbrev pub opening_entry : NodeKeys → request.Genesis → NodeId → Entry
opening_entry keys g x = signed_entry keys x 0 (genesis_entry g ∷ []) 2 2

-- the node's signature follows the genesis
opening_follows : (keys : NodeKeys) (g : request.Genesis) (x : NodeId) → Founds service_layers keys g x → broken service_layers (genesis_entry g ∷ []) (opening_entry keys g x) ≡ None
opening_follows keys g x h =
    no_rule_broken (broken service_layers (genesis_entry g ∷ []) (opening_entry keys g x))
    (follow service_layers keys g x h 1 (opening_entry keys g x) refl)

-- the entry with which it signs
opening_signed : (keys : NodeKeys) (g : request.Genesis) (x : NodeId) → signed keys (founding g) x 0 2 2 ≡ Ok (opening_entry keys g x)
unfolding endorsement_in
opening_signed keys g x = refl

pub opened_entry : (keys : NodeKeys) (node : NodeStore) (ledger : BasedLedger) (g : request.Genesis) (e : Entry) → HasKey keys node → ledger ≡ founding g →
    ((others : NodeKeys) → HasKey others (record node { ledger = ledger }) → signed others ledger node.me 0 2 2 ≡ Ok e) → e ≡ opening_entry keys g node.me
opened_entry keys node ledger g e held founded made =
    let both : Ok (opening_entry keys g node.me) ≡ Ok e = sym (opening_signed keys g node.me) ∙ ap (λ (l : BasedLedger). signed keys l node.me 0 2 2) (sym founded) ∙ made keys (record { key = held.key }) in
    let same : opening_entry keys g node.me ≡ e = cc in
    sym same

-- it breaks no rule
pub never_broken : (keys : NodeKeys) (ledger : BasedLedger) (g : request.Genesis) (x : NodeId) (e : Entry) (b : Broken) → Founds service_layers keys g x → ledger ≡ founding g →
    e ≡ opening_entry keys g x → broken_after ledger e ≡ Some b → ⊥
never_broken keys ledger g x e b h founded is wrong =
    let expected : broken_after ledger e ≡ None = ap₂ (λ (l : BasedLedger) (f : Entry). broken_after l f) founded is ∙ opening_follows keys g x h in
    let none : Some b ≡ None = sym wrong ∙ expected in
    cc

-- so the ledger is the opening one
pub opened_ledger : (keys : NodeKeys) (ledger new : BasedLedger) (g : request.Genesis) (x : NodeId) (e : Entry) → ledger ≡ founding g →
    e ≡ opening_entry keys g x → new ≡ with_entries ledger (ledger.entries ++ e ∷ []) → new ≡ whole_ledger (opening_of keys g x)
opened_ledger keys ledger new g x e founded is grown = grown ∙ ap₂ (λ (l : BasedLedger) (f : Entry). with_entries l (l.entries ++ f ∷ [])) founded is
