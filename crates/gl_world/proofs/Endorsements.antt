-- The service's key endorses that of each node, and each node's key is found by its identifier.
use Rattle.std.proofs.Common.{◌≡◌, ℕ, zero, suc, ◌+◌, ◌-◌, ◌<◌, ◌≤◌, length, Option, Some, Ok, Bool, true, false, cond, refl, sym, ◌∙◌, ap, subst, arith, inl, inr}
use Rattle.std.specs.Prelude.{find, unwrap_or}
use Rattle.std.proofs.lemmas.Bool.{cases_eq}
use Rattle.std.specs.Cmp.Lexicographic.{bytes_decides}
use Rattle.gl_hss.specs.declared.types.Types.TheVariants.{H5W4}
use Rattle.gl_hss.specs.Secrets.{public_of}
use Rattle.gl_hss.proofs.Octets.{seed_IsKey, signed_bytes, length-signed}
use Rattle.gl_hss.proofs.ValidSignatures.{signature_by-Signs}
use Rattle.gl_hss.specs.Hss.{IsEndorsed}
use Rattle.gl_hss.specs.Order.{endorsement_verdict}
use Rattle.gl_hss.specs.Signer.{StandsUnder}
use Rattle.gl_hss.proofs.Endorsements.{endorsement_there}
use Rattle.gl_base.specs.Bytes.{are_bytes, same_bytes}
use Rattle.gl_rules.specs.Identity.{NodeId, member}
use Rattle.gl_ledger.specs.NodeKeys.{IsNodeKey}
use Rattle.gl_world.specs.declared.settings.Settings.{Settings}
use Rattle.gl_world.specs.Keys.{private_key, lms_key, service_seed, node_seed}
use Rattle.gl_world.specs.Founding.{numbers_from, endorsement_of, id_of, node_ids, number_of, keys_of, genesis_of}
use Rattle.gl_world.proofs.Digests.{lms_key_bytes}
use Rattle.gl_world.proofs.Numbers.{member_made}

-- the numbers of nodes whose keys the service's endorses: it has 32 leaves
abbrev pub IsEndorsable : ℕ → Type 0
IsEndorsable number = (1 ≤ number) × (number ≤ 32)

module _ (s : Settings) (number : ℕ) where
  pub endorsement_bytes : are_bytes (endorsement_of s number) ≡ true
  endorsement_bytes = signed_bytes (private_key (service_seed s)) (number - 1) (lms_key (node_seed s number))

  module _ (h : IsEndorsable number) where
    pub length-endorsement_of : length (endorsement_of s number) ≡ 2348
    length-endorsement_of = length-signed (private_key (service_seed s)) (number - 1) (lms_key (node_seed s number)) (omega (arith, h.0, h.1))

    pub endorsed : IsEndorsed (genesis_of s).identity (lms_key (node_seed s number)) (endorsement_of s number)
    endorsed = record {
      top = public_of (private_key (service_seed s));
      leaf = number - 1;
      of_key = record { encoded = refl; form = seed_IsKey H5W4 (service_seed s); some = omega arith; few = omega arith };
      signs = signature_by-Signs (private_key (service_seed s)) (number - 1) (lms_key (node_seed s number)) (endorsement_of s number) (omega (arith, h.0, h.1)) refl;
    }

    pub endorsement_valid : endorsement_verdict (genesis_of s).identity (lms_key (node_seed s number)) (endorsement_of s number) ≡ Ok tt
    endorsement_valid = endorsement_there (genesis_of s).identity (lms_key (node_seed s number)) (endorsement_of s number) endorsed

-- ---- a node's number

-- the first of the numbers that passes a test, where one does
record IsFound (test : ℕ → Bool) (first count : ℕ) : Type 0 where
  number : ℕ
  is : find test (numbers_from first count) ≡ Some number
  low : first ≤ number
  high : number < first + count
  passes : test number ≡ true

found : (test : ℕ → Bool) (k first count : ℕ) → first ≤ k → k < first + count → test k ≡ true → IsFound test first count
found test k first zero low high passes = absurd (omega arith)
found test k first (suc count) low high passes = go (test first) refl (λ next. found test k (suc first) count next (omega arith) passes)
  where
    suffix : test first ≡ false → suc first ≤ k
    suffix is =
        elim (cases_eq k first) [
          | inl same ↦ absurd (let w = sym is ∙ ap test (sym same) ∙ passes in cc)
          | inr other ↦ omega arith
        ]

    go : (b : Bool) → test first ≡ b → (suc first ≤ k → IsFound test (suc first) count) → IsFound test first (suc count)
    go true is rest = record {
      number = first;
      is = ap (λ (b : Bool). cond b (Some first) (find test (numbers_from (suc first) count))) is;
      low = omega arith;
      high = omega arith;
      passes = is;
    }
    go false is rest =
        let next = rest (suffix is) in
        record {
          number = next.number;
          is = ap (λ (b : Bool). cond b (Some first) (find test (numbers_from (suc first) count))) is ∙ next.is;
          low = omega (arith, next.low);
          high = omega (arith, next.high);
          passes = next.passes;
        }

-- ---- a node's key

-- a number whose node has this identifier
pub record IsNumbered (s : Settings) (x : NodeId) : Type 0 where
  pub low : 1 ≤ number_of s x
  pub high : number_of s x ≤ s.starting + s.joiners
  pub named : id_of s (number_of s x) ≡ x

pub numbered : (s : Settings) (number : ℕ) → 1 ≤ number → number ≤ s.starting + s.joiners → IsNumbered s (id_of s number)
numbered s number low high =
    let f = found (λ k. same_bytes (id_of s k) (id_of s number)) number 1 (s.starting + s.joiners) low (omega arith) ((bytes_decides (id_of s number) (id_of s number)).1 refl) in
    let is : number_of s (id_of s number) ≡ f.number = ap (λ (o : Option ℕ). unwrap_or o 1) f.is in
    record {
      low = omega (arith, is, f.low);
      high = omega (arith, is, f.high);
      named = ap (id_of s) is ∙ (bytes_decides (id_of s f.number) (id_of s number)).0 f.passes;
    }

-- the node's key is that of its identifier, and the service's key endorses it
pub is_node_key : (s : Settings) (number : ℕ) → 1 ≤ number → number ≤ s.starting + s.joiners → s.starting + s.joiners ≤ 32 →
    IsNodeKey (keys_of s) (endorsement_of s (number_of s (id_of s number))) (genesis_of s).identity (id_of s number)
unfolding StandsUnder
is_node_key s number low high few =
    let x = id_of s number in
    let j = number_of s x in
    let r = numbered s number low high in
    record {
      form = seed_IsKey H5W4 (node_seed s j);
      stands = endorsed s j (r.low, omega (arith, r.high, few));
      named = sym r.named;
      key = lms_key_bytes (node_seed s j);
      bytes = endorsement_bytes s j;
    }

-- so has each node that starts or joins
pub member_has_key : (s : Settings) (x : NodeId) → s.starting + s.joiners ≤ 32 → member x (node_ids s) ≡ true → IsNodeKey (keys_of s) (endorsement_of s (number_of s x)) (genesis_of s).identity x
member_has_key s x few h =
    let k = member_made (id_of s) x 1 (s.starting + s.joiners) h in
    subst (λ (y : NodeId). IsNodeKey (keys_of s) (endorsement_of s (number_of s y)) (genesis_of s).identity y) k.3 (is_node_key s k.0 k.1 (omega (arith, k.2)) few)

pub member_endorsement : (s : Settings) (x : NodeId) → s.starting + s.joiners ≤ 32 → member x (node_ids s) ≡ true → length (endorsement_of s (number_of s x)) ≡ 2348
member_endorsement s x few h =
    let k = member_made (id_of s) x 1 (s.starting + s.joiners) h in
    subst (λ (y : NodeId). length (endorsement_of s (number_of s y)) ≡ 2348) k.3 (
    let r = numbered s k.0 k.1 (omega (arith, k.2)) in
    length-endorsement_of s (number_of s (id_of s k.0)) (r.low, omega (arith, r.high, few)))
