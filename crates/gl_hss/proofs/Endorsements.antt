-- An endorsement is accepted exactly where it is one, and stands for the upper level that it is.
use Rattle.std.proofs.Common.{◌≡◌, ℕ, ◌+◌, ◌-◌, ◌*◌, true, List, length, Ok, refl, sym, ap, ap₂, subst, ◌∙◌, arith}
use Rattle.std.specs.Prelude.{◌==◌}
use Rattle.std.proofs.lemmas.Bool.Decides.{nat_tests}
use Rattle.gl_hss.specs.declared.types.Types.{Types}
use Rattle.gl_hss.specs.declared.fault.HssFault.TheVariants as fault
use Rattle.gl_hss.specs.Bytes.{u32str, number_at, bytes_at}
use Rattle.gl_hss.specs.Types.{height, chain_count, signature_len}
use Rattle.gl_hss.specs.Tree.{Signature, PublicKey}
use Rattle.gl_hss.specs.Hss.{IsEndorsed}
use Rattle.gl_hss.specs.Lent.{signature_fields}
use Rattle.gl_hss.specs.Order.{◌>>◌, check, ends, has_root, top_key, signature_at, one_level, endorsement_verdict}
use Rattle.gl_hss.proofs.Spans.{IsBytes, Spans, Spans-append, spans_number, spans_all, all_spans, bytes_at-bytes_at}
use Rattle.gl_hss.proofs.ParsedFields.{then_ok, bind_ok, check_ok, top_key_ok, top_key_there, signature_at_ok}
use Rattle.gl_hss.proofs.Verdicts.{key_is, one_level_ok, one_level_there, hss_key_stands}

-- what is accepted is an endorsement
pub endorsement_ok : (identity key e : List ℕ) → IsBytes identity → length identity ≡ 60 → IsBytes e → endorsement_verdict identity key e ≡ Ok tt → IsEndorsed identity key e
unfolding endorsement_verdict
endorsement_ok identity key e identity-fits identity-len fits ok =
    let test = check (number_at identity 0 == 2) (fault.Levels 2 (number_at identity 0)) in
    let prefix = bind_ok (test >> top_key identity) (λ (k : PublicKey). one_level k key e 0) tt ok in
    let k = prefix.0 in
    let read = then_ok test (top_key identity) k prefix.1 in
    let passed = check_ok (number_at identity 0 == 2) _ read.0.0 read.0.1 in
    let two : number_at identity 0 ≡ 2 = grind (arith, nat_tests) in
    let key-is = key_is k identity 4 identity-fits (top_key_ok identity k identity-len read.1) in
    let levels : Spans identity 0 (u32str 2) 4 = rw (← two) (spans_number identity 0 4 identity-fits (omega arith) refl) in
    let lone = one_level_ok k key e 0 tt fits prefix.2 in
    record {
      top = k;
      leaf = lone.signature.leaf;
      of_key = record {
        encoded = spans_all identity _ (rw identity-len (Spans-append identity 0 4 60 _ _ levels key-is.span));
        form = key-is.form;
        some = omega arith;
        few = omega arith;
      };
      signs = record { fields = lone.signature; encoded = spans_all e _ lone.span; leaf = refl; signed = lone.signed };
    }

-- what is an endorsement is accepted
pub endorsement_there : (identity key e : List ℕ) → IsEndorsed identity key e → endorsement_verdict identity key e ≡ Ok tt
unfolding endorsement_verdict
endorsement_there identity key e h =
    let stands = hss_key_stands identity h.top 2 h.of_key in
    let named : (number_at identity 0 == 2) ≡ true = grind (arith, nat_tests, stands.named) in
    rw (named, top_key_there h.top identity stands.top)
    (one_level_there h.top key e 0 h.signs.fields (all_spans e _ h.signs.encoded) h.signs.signed)

-- ---- the upper level that it is

-- the fields of a signature are those of a copy of its bytes
fields-copied : (t : Types) (s : List ℕ) → signature_fields t (bytes_at s 4 (signature_len t)) 0 ≡ signature_fields t s 4
unfolding number_at
fields-copied t s =
    let n = signature_len t in
    let p = 32 * chain_count t in
    rw (
      bytes_at-bytes_at s 4 n 0 4 4 (omega arith) refl,
      bytes_at-bytes_at s 4 n 8 32 12 (omega arith) refl,
      bytes_at-bytes_at s 4 n 40 p 44 (omega arith) refl,
      bytes_at-bytes_at s 4 n (44 + p) (32 * height t) (48 + p) (omega arith) (omega arith),
    ) refl

-- a signature by the key on top, whose upper level is an endorsement, leads to its root there
pub endorsed_root : (identity key e s : List ℕ) (k : PublicKey) (g : Signature) (at : ℕ) → IsEndorsed identity key e → top_key identity ≡ Ok k → g ≡ signature_fields k.types s 4 → at ≡ 4 + signature_len k.types → bytes_at s 4 (at - 4) ≡ e → bytes_at s at 56 ≡ key → has_root k g (bytes_at s at 56) ≡ Ok tt
unfolding endorsement_verdict one_level
endorsed_root identity key e s k g at endorsed top fields place signature-is key-is =
    let verified = endorsement_there identity key e endorsed in
    let test = check (number_at identity 0 == 2) (fault.Levels 2 (number_at identity 0)) in
    let prefix = bind_ok (test >> top_key identity) (λ (x : PublicKey). one_level x key e 0) tt verified in
    let read = then_ok test (top_key identity) prefix.0 prefix.1 in
    let same : prefix.0 ≡ k = cc (read.1, top) in
    let lone = subst (λ (x : PublicKey). one_level x key e 0 ≡ Ok tt) same prefix.2 in
    let len = 0 + signature_len k.types in
    let inner = bind_ok (signature_at k.types e 0 len) (λ (x : Signature). ends e len >> has_root k x key) tt lone in
    let rest = then_ok (ends e len) (has_root k inner.0 key) tt inner.2 in
    let inner-is : signature_fields k.types e 0 ≡ inner.0 = (signature_at_ok k.types e 0 len inner.0 inner.1).fields in
    let span : at - 4 ≡ signature_len k.types = omega arith in
    let copy : bytes_at s 4 (signature_len k.types) ≡ e = ap (bytes_at s 4) (sym span) ∙ signature-is in
    let g-is : g ≡ inner.0 =
    fields ∙ sym (fields-copied k.types s) ∙ ap (λ (x : List ℕ). signature_fields k.types x 0) copy ∙ inner-is in
    ap₂ (has_root k) g-is key-is ∙ rest.1
