-- The expected output for a text, by what is read of it; and what is never owed.
use Rattle.std.proofs.Common.{◌≡◌, ℕ, ◌<◌, ◌≤◌, ◌^◌, Bool, true, false, nat_le, List, Option, None, Some, Result, Ok, Err, IsErr, Vec, Global, if◌then◌else◌, refl, sym, ◌∙◌, ap, ap₂, subst, arith}
use Rattle.std.proofs.lemmas.Bool.Decides.{nat_tests}
use Rattle.std.specs.Result.{IsErrAnd}
use Rattle.gl_base.specs.Answers.{Answers, Fails, Widens}
use Rattle.gl_base.specs.Bytes.{same_bytes}
use Rattle.gl_base.specs.Steps.{◌>>=◌}
use Rattle.gl_base.specs.declared.json.FormsFault.{FormsFault}
use Rattle.gl_base.specs.declared.or_no_memory.OrNoMemory.{OrNoMemory}
use Rattle.gl_base.specs.declared.or_no_memory.OrNoMemory.TheVariants.{NoMemory, Fault}
use Rattle.gl_base.proofs.Steps.{bind_ok}
use Rattle.gl_hss.specs.Types.{height}
use Rattle.gl_hss.specs.declared.types.Types.{Types}
use Rattle.gl_requests.specs.declared.genesis.Genesis as founding
use Rattle.gl_requests.specs.declared.genesis.NewNode.{NewNode}
use Rattle.gl_hss.specs.Secrets.{PrivateKey}
use Rattle.gl_gov_rules.specs.History.{no_history}
use Rattle.gl_gov_rules.specs.Refusals.{genesis_refusal}
use Rattle.gl_gov_rules.specs.declared.refusal.GovernanceRefusal.{GovernanceRefusal}
use Rattle.gl_gov_rules.specs.declared.refusal.GovernanceRefusal.TheVariants as refusals
use Rattle.gl_journal.specs.Durable.{Durable, leaf_count}
use Rattle.gl_journal.specs.declared.key.Key.{Key}
use Rattle.gl_keyfile.specs.declared.signature.Signing.{Signing}
use Rattle.gl_consortium.specs.Texts.{read}
use Rattle.gl_consortium.specs.ExpectedOutput.{expected_for, expected_opening, expected_output, first_id, founding_fault, has_leaf, id_of, in_form, is_accepted, is_first_node, opening_bytes, private_key, unless_refused}
use Rattle.gl_consortium.specs.declared.document.Document.{Document}
use Rattle.gl_consortium.specs.declared.document.Document.TheVariants.{NodeKey, Settings, Act}
use Rattle.gl_consortium.specs.declared.fault.SigningFault.{SigningFault}
use Rattle.gl_consortium.specs.declared.fault.SigningFault.TheVariants as faults

-- the expected output where a document is read
pub expected_read : (signing : Signing) (state : Durable) (key : Key) (leaf : ℕ) (text : List ℕ) (document : Document) → read signing text ≡ Ok document → state.key ≡ key → state.reserved ≡ leaf → expected_output signing state text ≡ expected_for key leaf document
unfolding expected_output
expected_read signing state key leaf text document is same_key same_leaf =
    ap (λ (r : Result Document FormsFault). in_form r >>= expected_for state.key state.reserved) is
    ∙ ap₂ (λ (k : Key) (n : ℕ). expected_for k n document) same_key same_leaf

-- and where the text has another form
pub expected_unread : (signing : Signing) (state : Durable) (text : List ℕ) (error : OrNoMemory FormsFault) (wider : OrNoMemory SigningFault) → Fails error (read signing text) → Widens (λ fault wide. wide ≡ faults.Form fault) error wider → Fails wider (expected_output signing state text)
unfolding expected_output
expected_unread signing state text NoMemory wider fails widens = subst (λ (e : OrNoMemory SigningFault). Fails e (expected_output signing state text)) (sym widens) tt
expected_unread signing state text (Fault fault) wider fails widens =
    subst (λ (e : OrNoMemory SigningFault). Fails e (expected_output signing state text)) (sym (widens.2 ∙ ap Fault widens.1))
    (ap (λ (r : Result Document FormsFault). in_form r >>= expected_for state.key state.reserved) fails)

-- a fault that was reported is the expected one
pub expected_fault : (error : OrNoMemory SigningFault) (reading : Result (List ℕ) SigningFault) (fault : SigningFault) → Fails error reading → error ≡ Fault fault → reading ≡ Err fault
expected_fault NoMemory reading fault fails is = absurd cc
expected_fault (Fault reported) reading fault fails is = let same : reported ≡ fault = cc in fails ∙ ap Err same

-- ---- what is reported has a leaf

has_leaf_below : (types : Types) (leaf : ℕ) (u : Unit {0}) → has_leaf types leaf ≡ Ok u → leaf < 2 ^ height types
has_leaf_below types leaf u is = go (nat_le (2 ^ height types) leaf) refl is
  where
    go : (b : Bool) → nat_le (2 ^ height types) leaf ≡ b → (if b then Err (faults.KeyExhausted leaf) else Ok tt) ≡ Ok u → leaf < 2 ^ height types
    go true test is = absurd cc
    go false test is = grind (arith, nat_tests)

-- what is read of a text for which something is reported
pub read_of_reported : (signing : Signing) (state : Durable) (text reported : List ℕ) → expected_output signing state text ≡ Ok reported → (document : Document) × (read signing text ≡ Ok document) × (expected_for state.key state.reserved document ≡ Ok reported)
unfolding expected_output
read_of_reported signing state text reported is = go (read signing text) refl is
  where
    go : (r : Result Document FormsFault) → read signing text ≡ r → in_form r >>= expected_for state.key state.reserved ≡ Ok reported → (document : Document) × (r ≡ Ok document) × (expected_for state.key state.reserved document ≡ Ok reported)
    go (Ok document) same is = (document, refl, is)
    go (Err fault) same is = absurd cc

-- the parts of an opening for which something is reported
pub record OpeningParts (key : Key) (leaf : ℕ) (g : founding.Genesis) (reported : List ℕ) : Type 0 where
  pub first : is_first_node (private_key key) g.nodes ≡ Ok tt
  pub below : leaf < 2 ^ height key.types
  pub accepted : genesis_refusal no_history g ≡ None
  pub reported_is : reported ≡ opening_bytes (private_key key) leaf g

no_refusal : (why : Option GovernanceRefusal) (u : Unit {0}) → unless_refused why ≡ Ok u → why ≡ None
no_refusal None u is = refl
no_refusal (Some why) u is = absurd cc

accepted_so : (g : founding.Genesis) (u : Unit {0}) → is_accepted g ≡ Ok u → genesis_refusal no_history g ≡ None
unfolding is_accepted
accepted_so g u is = no_refusal (genesis_refusal no_history g) u is

pub opening_parts : (key : Key) (leaf : ℕ) (g : founding.Genesis) (reported : List ℕ) → expected_opening key leaf g ≡ Ok reported → OpeningParts key leaf g reported
unfolding expected_opening
opening_parts key leaf g reported is =
    let one = bind_ok (is_first_node (private_key key) g.nodes) _ reported is in
    let two = bind_ok (has_leaf key.types leaf) _ reported one.2 in
    let three = bind_ok (is_accepted g) _ reported two.2 in
    let same : opening_bytes (private_key key) leaf g ≡ reported = let w = three.2 in cc in
    record {
      first = one.1;
      below = has_leaf_below key.types leaf two.0 two.1;
      accepted = accepted_so g three.0 three.1;
      reported_is = sym same;
    }

pub below_of_reported : (key : Key) (leaf : ℕ) (document : Document) (reported : List ℕ) → expected_for key leaf document ≡ Ok reported → leaf < 2 ^ height key.types
unfolding expected_for
below_of_reported key leaf (NodeKey node_key id) reported is = let left = bind_ok (has_leaf key.types leaf) _ reported is in has_leaf_below key.types leaf left.0 left.1
below_of_reported key leaf (Settings g) reported is = (opening_parts key leaf g reported is).below
below_of_reported key leaf (Act identity number act) reported is = let left = bind_ok (has_leaf key.types leaf) _ reported is in has_leaf_below key.types leaf left.0 left.1

-- where something is told the key has a leaf left
pub left_of_reported : (signing : Signing) (state : Durable) (text reported : List ℕ) → expected_output signing state text ≡ Ok reported → state.reserved < leaf_count state
left_of_reported signing state text reported is = let found = read_of_reported signing state text reported is in below_of_reported state.key state.reserved found.0 reported found.2

-- a fault that is handed on
pub refused_as : (result : Result (Vec ℕ Global) (OrNoMemory SigningFault)) (error : OrNoMemory SigningFault) (reading : Result (List ℕ) SigningFault) → IsErr result → IsErrAnd result (λ e. e ≡ error) → Fails error reading → Answers (λ (reported : Vec ℕ Global). reported.items) result reading
refused_as (Ok reported) error reading wrong same fails = absurd (cc)
refused_as (Err e) error reading wrong same fails = subst (λ (x : OrNoMemory SigningFault). Fails x reading) (sym same) fails

-- a refused genesis of a key that has a leaf, and is that of the first node
pub opening_refused : (key : Key) (leaf : ℕ) (g : founding.Genesis) (error : OrNoMemory SigningFault) → is_first_node (private_key key) g.nodes ≡ Ok tt → has_leaf key.types leaf ≡ Ok tt → Fails error (is_accepted g) → Fails error (expected_opening key leaf g)
unfolding expected_opening
opening_refused key leaf g NoMemory first left fails = tt
opening_refused key leaf g (Fault fault) first left fails = rw (first, left, fails) refl

-- ---- no disk fails

abbrev NotOfDisk : {X : Type 0} → Result X SigningFault → Type 0
NotOfDisk r = r ≡ Err faults.DiskFailed → ⊥

then_too : {X Y : Type 0} (r : Result X SigningFault) (f : X → Result Y SigningFault) → NotOfDisk r → ((x : X) → NotOfDisk (f x)) → NotOfDisk (r >>= f)
then_too (Ok x) f first next is = next x is
then_too (Err fault) f first next is = let same : fault ≡ faults.DiskFailed = cc in first (ap Err same)

reported_no_disk : {X : Type 0} (x : X) → NotOfDisk (Ok x)
reported_no_disk x is = cc

has_leaf_no_disk : (types : Types) (leaf : ℕ) → NotOfDisk (has_leaf types leaf)
has_leaf_no_disk types leaf = go (nat_le (2 ^ height types) leaf)
  where
    go : (b : Bool) → NotOfDisk {X = Unit {0}} (if b then Err (faults.KeyExhausted leaf) else Ok (tt {0}))
    go true is = cc
    go false is = cc

first_no_disk : (by : PrivateKey) (nodes : List NewNode) → NotOfDisk (is_first_node by nodes)
first_no_disk by nodes = go (same_bytes (first_id nodes) (id_of by))
  where
    go : (b : Bool) → NotOfDisk {X = Unit {0}} (if b then Ok (tt {0}) else Err (faults.NotFirstNode (first_id nodes) (id_of by)))
    go true is = cc
    go false is = cc

founding_no_disk : (why : GovernanceRefusal) → founding_fault why ≡ faults.DiskFailed → ⊥
founding_no_disk refusals.NotMember is = cc
founding_no_disk refusals.NotActive is = cc
founding_no_disk refusals.Signature is = cc
founding_no_disk (refusals.LeafNotGreater last got) is = cc
founding_no_disk refusals.NoProposal is = cc
founding_no_disk (refusals.NotOpen state) is = cc
founding_no_disk refusals.HasBallot is = cc
founding_no_disk refusals.NotProposer is = cc
founding_no_disk (refusals.BadAction index cause) is = cc
founding_no_disk (refusals.NodeState status) is = cc
founding_no_disk (refusals.TooMany limit) is = cc
founding_no_disk (refusals.ServiceState state) is = cc
founding_no_disk (refusals.KnownProposal id) is = cc
founding_no_disk (refusals.WrongShare digest) is = cc
founding_no_disk (refusals.KnownShare member) is = cc
founding_no_disk (refusals.Secret want got) is = cc

accepted_no_disk : (g : founding.Genesis) → NotOfDisk (is_accepted g)
unfolding is_accepted
accepted_no_disk g = go (genesis_refusal no_history g)
  where
    go : (why : Option GovernanceRefusal) → NotOfDisk (unless_refused why)
    go None is = cc
    go (Some why) is = let same : founding_fault why ≡ faults.DiskFailed = cc in founding_no_disk why same

document_no_disk : (key : Key) (leaf : ℕ) (document : Document) → NotOfDisk (expected_for key leaf document)
unfolding expected_for expected_opening
document_no_disk key leaf (NodeKey node_key id) = then_too (has_leaf key.types leaf) _ (has_leaf_no_disk key.types leaf) (λ left. reported_no_disk _)
document_no_disk key leaf (Settings g) =
    then_too (is_first_node (private_key key) g.nodes) _ (first_no_disk (private_key key) g.nodes)
    (λ first. then_too (has_leaf key.types leaf) _ (has_leaf_no_disk key.types leaf)
    (λ left. then_too (is_accepted g) _ (accepted_no_disk g) (λ accepted. reported_no_disk _)))
document_no_disk key leaf (Act identity number act) = then_too (has_leaf key.types leaf) _ (has_leaf_no_disk key.types leaf) (λ left. reported_no_disk _)

-- no failure of the disk is owed
pub expected_no_disk : (signing : Signing) (state : Durable) (text : List ℕ) → expected_output signing state text ≡ Err faults.DiskFailed → ⊥
unfolding expected_output
expected_no_disk signing state text is = go (read signing text) is
  where
    go : (r : Result Document FormsFault) → NotOfDisk (in_form r >>= expected_for state.key state.reserved)
    go (Ok document) is = document_no_disk state.key state.reserved document is
    go (Err fault) is = cc
