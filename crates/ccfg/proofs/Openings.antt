-- The stores with which the nodes of a service begin stand for what the nodes hold then.
use Rattle.std.proofs.Common.{◌≡◌, ◌≢◌, ⊎_elim, ℕ, zero, suc, ◌+◌, ◌≤◌, ◌<◌, List, [], ◌∷◌, ◌++◌, length, true, false, Bool, if◌then◌else◌, Some, nat_le, slice_get, slice_set, refl, sym, ap, subst, ◌∙◌, arith}
use Rattle.std.proofs.lemmas.Bool.{cases_lt}
use Rattle.std.proofs.lemmas.Bool.Decides.{nat_tests}
use Rattle.std.proofs.lemmas.Option.{slice_get_within}
use Rattle.sha2.specs.Sha256.{sha256}
use Rattle.gl_hss.specs.Tree.{key_bytes}
use Rattle.gl_hss.specs.Secrets.{PrivateKey, public_of}
use Rattle.gl_rules.specs.Identity.{NodeId, same}
use Rattle.gl_requests.specs.declared.genesis.Genesis as request
use Rattle.gl_ledger.specs.LedgerBook.{ledger_book}
use Rattle.gl_ledger.specs.NodeKeys.{service_layers}
use Rattle.gl_ledger.specs.OpeningLedger.{Founds}
use Rattle.gl_world.specs.declared.settings.Settings.{Settings}
use Rattle.gl_world.specs.declared.node_key.NodeKey.{NodeKey}
use Rattle.gl_world.specs.AtStart.{StandAtStart}
use Rattle.gl_world.specs.Founding.{id_of, keys_of, genesis_of, number_of}
use Rattle.gl_world.specs.Group.{IsGroup}
use Rattle.gl_world.specs.Keyed.{IsKeyOf}
use Rattle.gl_world.specs.Keys.{private_key, node_seed}
use Rattle.gl_world.specs.World.{start_of}
use Rattle.gl_world.proofs.Groups.{group_founds}
use Rattle.gl_world.proofs.NodeIds.{number_is}
use Rattle.ccfg.specs.OpeningStores.{IsOfNode, HaveOpened, opened_at}
use Rattle.gl_store_book.specs.BasedLedgers.{BasedLedger, whole_ledger}
use Rattle.gl_store_book.specs.Stands.{HasKey, NodeStore, Stands, whole, whole_store}
use Rattle.gl_store_book.proofs.WholeStands.{whole_stands}

-- a store of a node signs with the node's key
pub has_key : (s : Settings) → IsGroup s → (number : ℕ) → 1 ≤ number → number ≤ s.starting + s.joiners → (node : NodeStore) → IsOfNode s number node → HasKey (keys_of s) node
has_key s h number low high node is =
    let one : number_of s node.me ≡ number = ap (number_of s) is.named ∙ number_is s h number low high in
    record { key = ap (λ (n : ℕ). private_key (node_seed s n)) one ∙ sym is.key }

-- the store of a node's key is the node's
joins : (s : Settings) (number : ℕ) (key : NodeKey) (node : NodeStore) → IsKeyOf s number key → node ≡ whole_store (sha256 (key_bytes (public_of key.key))) key.key [] →
    IsOfNode s number node
joins s number key node keyed is = record {
  named = ap (λ (n : NodeStore). n.me) is ∙ ap (λ (k : PrivateKey). sha256 (key_bytes (public_of k))) keyed.key;
  key = ap (λ (n : NodeStore). n.key) is ∙ keyed.key;
}

-- an element of a list with one more is of the list, or the last one
at_end : (P : ℕ → NodeStore → Type 0) (first : ℕ) (ks : List NodeStore) (k : NodeStore) → ((i : ℕ) (n : NodeStore) → slice_get ks i ≡ Some n → P (first + i) n) → P (first + length ks) k →
    (i : ℕ) (n : NodeStore) → slice_get (ks ++ k ∷ []) i ≡ Some n → P (first + i) n
at_end P first [] k each last zero n is = let same : k ≡ n = cc in subst (P (first + 0)) same last
at_end P first [] k each last (suc i) n is = absurd (cc)
at_end P first (m ∷ ks) k each last zero n is = each zero n is
at_end P first (m ∷ ks) k each last (suc i) n is =
    subst (λ (j : ℕ). P j n) (let next : suc first + i ≡ first + suc i = omega arith in next)
    (at_end P (suc first) ks k (λ j o at. subst (λ (l : ℕ). P l o) (let next : first + suc j ≡ suc first + j = omega arith in next) (each (suc j) o at))
    (subst (λ (l : ℕ). P l k) (let next : first + suc (length ks) ≡ suc first + length ks = omega arith in next) last) i n is)

-- one more joins
pub one_joined : (s : Settings) (books new : List NodeStore) (key : NodeKey) (node : NodeStore) → HaveOpened s 0 books → IsKeyOf s (length books + 1) key →
    node ≡ whole_store (sha256 (key_bytes (public_of key.key))) key.key [] → new ≡ books ++ node ∷ [] → HaveOpened s 0 new
one_joined s books new key node opened keyed is grown =
    subst (HaveOpened s 0) (sym grown) (λ i other at.
    subst (λ (n : ℕ). IsAt n other) (let none : 0 + i ≡ i = omega arith in none)
    (at_end IsAt 0 books node (λ j o here. subst (λ (n : ℕ). IsAt n o) (let none : j ≡ 0 + j = omega arith in none) (opened j o here))
    (subst (λ (n : ℕ). IsAt n node) (let none : length books ≡ 0 + length books = omega arith in none) last) i other at))
  where
    IsAt : ℕ → NodeStore → Type 0
    IsAt n o = IsOfNode s (suc n) o × (o.ledger ≡ whole_ledger (opened_at s 0 (suc n)))

    last : IsAt (length books) node
    last = (
      subst (λ (n : ℕ). IsOfNode s n node) (let next : length books + 1 ≡ suc (length books) = omega arith in next) (joins s (length books + 1) key node keyed is),
      ap (λ (n : NodeStore). n.ledger) is ∙ ap (λ (t : Bool). whole_ledger (if t then (start_of s).opening else [])) (sym (let r : nat_le (suc (length books)) 0 ≡ false = grind (arith, nat_tests) in r)),
    )

-- ---- the opening

-- the first node of the settings founds their service
pub first_founds : (s : Settings) → IsGroup s → (g : request.Genesis) (x : NodeId) → g ≡ genesis_of s → x ≡ id_of s 1 → Founds service_layers (keys_of s) g x
first_founds s h g x same named =
    subst (λ (f : request.Genesis). Founds service_layers (keys_of s) f x) (sym same) (subst (Founds service_layers (keys_of s) (genesis_of s)) (sym named) (group_founds s h))

-- ---- all stores

-- where the count of those that have opened rises, one of them does
same_opened : (s : Settings) (count n : ℕ) → n ≢ count → opened_at s count (suc n) ≡ opened_at s (suc count) (suc n)
same_opened s count n other =
    ap (λ (t : Bool). if t then (start_of s).opening else []) (cases (nat_le (suc n) count) refl)
  where
    cases : (t : Bool) → nat_le (suc n) count ≡ t → t ≡ nat_le (suc n) (suc count)
    cases true is = let low : suc n ≤ count = grind (arith, nat_tests, is) in sym (let r : nat_le (suc n) (suc count) ≡ true = grind (arith, nat_tests, low) in r)
    cases false is =
        let high : count ≤ n = grind (arith, nat_tests, is) in
        let above : count < n = ⊎_elim (λ (l : count < n). l) (λ (g : n ≤ count). absurd (other (omega (arith, g, high)))) (cases_lt count n) in
        sym (let r : nat_le (suc n) (suc count) ≡ false = grind (arith, nat_tests, above) in r)

now_opened : (s : Settings) (count n : ℕ) → n ≡ count → (start_of s).opening ≡ opened_at s (suc count) (suc n)
now_opened s count n is =
    ap (λ (t : Bool). if t then (start_of s).opening else []) (sym (let r : nat_le (suc n) (suc count) ≡ true = grind (arith, nat_tests, is) in r))

-- the first one has, where any have
pub opened_one : (s : Settings) (count : ℕ) → 1 ≤ count → opened_at s count 1 ≡ (start_of s).opening
opened_one s count some =
    ap (λ (t : Bool). if t then (start_of s).opening else []) (let r : nat_le 1 count ≡ true = grind (arith, nat_tests, some) in r)

-- one more has opened
pub one_opened : (s : Settings) (count : ℕ) (books : List NodeStore) (node : NodeStore) → HaveOpened s count books → IsOfNode s (suc count) node → node.ledger ≡ whole_ledger (start_of s).opening →
    HaveOpened s (suc count) (slice_set books count node)
one_opened s count books node opened is held i other at =
    let r = go 0 count books (λ j o here. subst (λ (n : ℕ). IsAt count n o) (let none : j ≡ 0 + j = omega arith in none) (opened j o here)) (let none : 0 + count ≡ count = omega arith in none) i other at in
    subst (λ (n : ℕ). IsAt (suc count) n other) (let none : 0 + i ≡ i = omega arith in none) r
  where
    IsAt : ℕ → ℕ → NodeStore → Type 0
    IsAt k n o = IsOfNode s (suc n) o × (o.ledger ≡ whole_ledger (opened_at s k (suc n)))

    go : (first place : ℕ) (rest : List NodeStore) → ((j : ℕ) (o : NodeStore) → slice_get rest j ≡ Some o → IsAt count (first + j) o) →
        first + place ≡ count → (j : ℕ) (o : NodeStore) → slice_get (slice_set rest place node) j ≡ Some o → IsAt (suc count) (first + j) o
    go first place [] each sum j o here = absurd (cc)
    go first zero (b ∷ rest) each sum zero o here =
        let same : node ≡ o = cc in
        let place : first + 0 ≡ count = sum in
        subst (λ (x : NodeStore). IsAt (suc count) (first + 0) x) same
        (subst (λ (n : ℕ). IsOfNode s (suc n) node) (sym place) is, held ∙ ap whole_ledger (now_opened s count (first + 0) place))
    go first zero (b ∷ rest) each sum (suc j) o here =
        let r = each (suc j) o here in
        (r.0, r.1 ∙ ap whole_ledger (same_opened s count (first + suc j) (λ e. omega (arith, e, sum))))
    go first (suc place) (b ∷ rest) each sum zero o here =
        let r = each zero o here in
        (r.0, r.1 ∙ ap whole_ledger (same_opened s count (first + 0) (λ e. omega (arith, e, sum))))
    go first (suc place) (b ∷ rest) each sum (suc j) o here =
        subst (λ (n : ℕ). IsAt (suc count) n o) (let next : suc first + j ≡ first + suc j = omega arith in next)
        (go (suc first) place rest (λ k p there. subst (λ (n : ℕ). IsAt count n p) (let next : first + suc k ≡ suc first + k = omega arith in next) (each (suc k) p there))
        (let next : suc first + place ≡ count = omega (arith, sum) in next) j o here)

pub stand_at_start : (s : Settings) → IsGroup s → (books : List NodeStore) → length books ≡ s.starting + s.joiners → HaveOpened s s.starting books → StandAtStart Stands s books
stand_at_start s h books whole_length opened = record {
  count = whole_length;
  stand = λ i node at.
      let low : i < s.starting + s.joiners = omega (arith, slice_get_within books i node at, whole_length) in
      let is = opened i node at in
      let ledger = opened_at s s.starting (suc i) in
      let has = has_key s h (suc i) (omega arith) (omega (arith, low)) node is.0 in
      subst (λ (x : NodeId). Stands node (ledger_book service_layers (keys_of s)) (whole x ledger)) is.0.named
      (subst (λ (l : BasedLedger). Stands (record { me = node.me; key = node.key; ledger = l }) (ledger_book service_layers (keys_of s)) (whole node.me ledger)) (sym is.1)
      (whole_stands (keys_of s) node.me node.key ledger has.key));
}
