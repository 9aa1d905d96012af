-- A signature is accepted exactly where it is valid.
use Rattle.std.proofs.Common.{◌≡◌, ℕ, suc, ◌+◌, ◌-◌, ◌≤◌, true, List, [], ◌∷◌, ◌++◌, length, drop, Result, Ok, Err, refl, sym, ap, subst, ◌∙◌, arith, ◌⊎◌, inl, inr}
use Rattle.std.specs.Prelude.{◌==◌, ◌||◌, if◌then◌else◌, IsOk, OnOk}
use Rattle.std.proofs.lemmas.Bool.Decides.{nat_tests}
use Rattle.std.proofs.lemmas.List.{length-append, length-drop}
use Rattle.std.proofs.lemmas.Bool.{cases_eq}
use Rattle.gl_hss.specs.declared.types.Types.{Types}
use Rattle.gl_hss.specs.declared.types.Types.TheVariants.{H5W8}
use Rattle.gl_hss.specs.declared.fault.HssFault.{HssFault}
use Rattle.gl_hss.specs.declared.fault.HssFault.TheVariants as fault
use Rattle.gl_hss.specs.Bytes.{u32str, number_at, bytes_at}
use Rattle.gl_hss.specs.Types.{signature_len}
use Rattle.gl_hss.specs.Tree.{Signature, PublicKey, key_bytes, signature_bytes, IsKey, IsSignature, IsSigned}
use Rattle.gl_hss.specs.Hss.{Upper, levels_bytes, hss_bytes, SignsDown, IsHssKey, IsValid}
use Rattle.gl_hss.specs.Order.{◌>>=◌, ◌>>◌, check, reaches, ends, has_root, embedded_key, top_key, signature_at, levels_of_key, one_level, two_levels, least_len, verdict}
use Rattle.gl_hss.proofs.Spans.{IsBytes, Spans, Spans-append, Spans-from, spans_number, spans_all, all_spans, spans_left, spans_right, bytes_at-Spans, length-u32str, number_at-Spans}
use Rattle.gl_hss.proofs.EncodedFields.{KeyStands, SignatureStands, key_fields-IsKey, key_spans, length-key_bytes, key_stands, signature_fields-IsSignature, signature_spans, length-signature_bytes, signature_stands}
use Rattle.gl_hss.proofs.ParsedFields.{then_ok, bind_ok, check_ok, reaches_ok, reaches_room, ends_ok, ends_there, has_root_ok, has_root_there, IsReadKey, top_key_ok, top_key_there, embedded_key_ok, embedded_key_there, IsReadSignature, signature_at_ok, signature_at_there}

-- ---- the parts that were read

pub record KeyIs (k : PublicKey) (s : List ℕ) (at : ℕ) : Type 0 where
  pub form : IsKey k
  pub span : Spans s at (key_bytes k) (at + 56)

pub key_is : (k : PublicKey) (s : List ℕ) (at : ℕ) → IsBytes s → IsReadKey k s at → KeyIs k s at
key_is k s at fits h =
    let F : PublicKey → Type 0 = λ x. IsKey x in
    let S : PublicKey → Type 0 = λ x. Spans s at (key_bytes x) (at + 56) in
    record {
      form = subst F h.fields (key_fields-IsKey k.types s at h.room);
      span = subst S h.fields (key_spans k.types s at (at + 56) fits h.room refl h.codes);
    }

pub record SignatureIs (t : Types) (g : Signature) (s : List ℕ) (at : ℕ) : Type 0 where
  pub form : IsSignature t g
  pub span : Spans s at (signature_bytes t g) (at + signature_len t)

pub signature_is : (t : Types) (g : Signature) (s : List ℕ) (at : ℕ) → IsBytes s → IsReadSignature t g s at → SignatureIs t g s at
signature_is t g s at fits h =
    let F : Signature → Type 0 = λ x. IsSignature t x in
    let S : Signature → Type 0 = λ x. Spans s at (signature_bytes t x) (at + signature_len t) in
    record {
      form = subst F h.fields (signature_fields-IsSignature t s at h.room h.leaf);
      span = subst S h.fields (signature_spans t s at (at + signature_len t) fits h.room refl h.codes);
    }

-- ---- what is accepted is valid

-- what stands after the number of upper levels
pub record Accepted (k : PublicKey) (message s : List ℕ) (levels : ℕ) : Type 0 where
  pub upper : List Upper
  pub last : Signature
  pub count : length upper + 1 ≡ levels
  pub span : Spans s 4 (levels_bytes k.types upper last) (length s)
  pub signs : SignsDown k upper last message

-- from this place on nothing stands but a signature of the message by the key
pub record IsLone (k : PublicKey) (message s : List ℕ) (at : ℕ) : Type 0 where
  pub signature : Signature
  pub span : Spans s at (signature_bytes k.types signature) (length s)
  pub signed : IsSigned k message signature

pub one_level_ok : (k : PublicKey) (message s : List ℕ) (at : ℕ) (u : Unit {0}) → IsBytes s → one_level k message s at ≡ Ok u → IsLone k message s at
unfolding one_level
one_level_ok k message s at u fits e =
    let len = at + signature_len k.types in
    let read = bind_ok (signature_at k.types s at len) (λ (g : Signature). ends s len >> has_root k g message) u e in
    let g = read.0 in
    let rest = then_ok (ends s len) (has_root k g message) u read.2 in
    let end : length s ≡ len = ends_ok s len rest.0.0 rest.0.1 in
    let found = signature_is k.types g s at fits (signature_at_ok k.types s at len g read.1) in
    record {
      signature = g;
      span = rw end found.span;
      signed = record { form = found.form; root = has_root_ok k g message u rest.1 };
    }

one_level_accepted : (k : PublicKey) (message s : List ℕ) → IsLone k message s 4 → Accepted k message s 1
one_level_accepted k message s h = record { upper = []; last = h.signature; count = refl; span = h.span; signs = h.signed }

pub two_levels_ok : (k : PublicKey) (message s : List ℕ) (u : Unit {0}) → IsBytes s → two_levels k message s ≡ Ok u → Accepted k message s 2
unfolding two_levels
two_levels_ok k message s u fits e =
    let at = 4 + signature_len k.types in
    let first = bind_ok (signature_at k.types s 4 (at + 56 + signature_len H5W8)) (λ (g : Signature). embedded_key s at >>= λ (next : PublicKey). signature_at next.types s (at + 56) (at + 56 + signature_len next.types) >>= λ (l : Signature). ends s (at + 56 + signature_len next.types) >> has_root k g (bytes_at s at 56) >> has_root next l message) u e in
    let g = first.0 in
    let second = bind_ok (embedded_key s at) (λ (next : PublicKey). signature_at next.types s (at + 56) (at + 56 + signature_len next.types) >>= λ (l : Signature). ends s (at + 56 + signature_len next.types) >> has_root k g (bytes_at s at 56) >> has_root next l message) u first.2 in
    let next = second.0 in
    let len = at + 56 + signature_len next.types in
    let third = bind_ok (signature_at next.types s (at + 56) len) (λ (l : Signature). ends s len >> has_root k g (bytes_at s at 56) >> has_root next l message) u second.2 in
    let l = third.0 in
    let rest = then_ok (ends s len >> has_root k g (bytes_at s at 56)) (has_root next l message) u third.2 in
    let prefix = then_ok (ends s len) (has_root k g (bytes_at s at 56)) rest.0.0 rest.0.1 in
    let end : length s ≡ len = ends_ok s len prefix.0.0 prefix.0.1 in
    let upper-is = signature_is k.types g s 4 fits (signature_at_ok k.types s 4 (at + 56 + signature_len H5W8) g first.1) in
    let key-is = key_is next s at fits (embedded_key_ok s at next second.1) in
    let last-is = signature_is next.types l s (at + 56) fits (signature_at_ok next.types s (at + 56) len l third.1) in
    let middle : bytes_at s at 56 ≡ key_bytes next = bytes_at-Spans s at (at + 56) 56 (key_bytes next) key-is.span (length-key_bytes next key-is.form) in
    record {
      upper = record { signature = g; key = next } ∷ [];
      last = l;
      count = refl;
      span = rw end (Spans-append s 4 (at + 56) len _ _ (Spans-append s 4 at (at + 56) _ _ upper-is.span key-is.span) last-is.span);
      signs = (
        record { form = upper-is.form; root = rw (← middle) (has_root_ok k g (bytes_at s at 56) rest.0.0 prefix.1) },
        key-is.form,
        record { form = last-is.form; root = has_root_ok next l message u rest.1 },
      );
    }

few : {n : ℕ} → (n ≡ 1) ⊎ (n ≡ 2) → n ≤ 2
few (inl one) = omega arith
few (inr two) = omega arith

either : (n : ℕ) → (n == 1 || n == 2) ≡ true → (n ≡ 1) ⊎ (n ≡ 2)
either n e =
    elim (cases_eq n 1) [
      | inl one ↦ inl one
      | inr other ↦ inr (grind (arith, nat_tests))
    ]

pub levels_of_key_ok : (key : List ℕ) (n : ℕ) → levels_of_key key ≡ Ok n → (number_at key 0 ≡ n) × ((n ≡ 1) ⊎ (n ≡ 2))
unfolding levels_of_key
levels_of_key_ok key n e =
    let r = then_ok (check (number_at key 0 == 1 || number_at key 0 == 2) (fault.Levels 2 (number_at key 0))) (Ok (number_at key 0)) n e in
    let t = check_ok (number_at key 0 == 1 || number_at key 0 == 2) _ r.0.0 r.0.1 in
    let same : number_at key 0 ≡ n = cc (r.1) in
    (same, subst (λ (x : ℕ). (x ≡ 1) ⊎ (x ≡ 2)) same (either (number_at key 0) t))

accepted : (levels : ℕ) (k : PublicKey) (message s : List ℕ) → (levels ≡ 1) ⊎ (levels ≡ 2) → IsBytes s → (if levels == 1 then one_level k message s 4 else two_levels k message s) ≡ Ok tt → Accepted k message s levels
accepted levels k message s (inl one) fits e = subst (λ (n : ℕ). Accepted k message s n) (sym one) (one_level_accepted k message s (one_level_ok k message s 4 tt fits (rw one at e)))
accepted levels k message s (inr two) fits e = subst (λ (n : ℕ). Accepted k message s n) (sym two) (two_levels_ok k message s tt fits (rw two at e))

-- what is accepted is valid
pub verdict_ok : (key message s : List ℕ) → IsBytes key → length key ≡ 60 → IsBytes s → verdict key message s ≡ Ok tt → IsValid key message s
unfolding verdict
verdict_ok key message s key-fits key-len fits e =
    let levels-read = bind_ok (levels_of_key key) (λ (levels : ℕ). top_key key >>= λ (k : PublicKey). reaches s 4 (least_len k.types levels) >> check (number_at s 0 == levels - 1) (fault.Levels (levels - 1) (number_at s 0)) >> (if levels == 1 then one_level k message s 4 else two_levels k message s)) tt e in
    let levels = levels-read.0 in
    let key-read = bind_ok (top_key key) (λ (k : PublicKey). reaches s 4 (least_len k.types levels) >> check (number_at s 0 == levels - 1) (fault.Levels (levels - 1) (number_at s 0)) >> (if levels == 1 then one_level k message s 4 else two_levels k message s)) tt levels-read.2 in
    let k = key-read.0 in
    let last = then_ok (reaches s 4 (least_len k.types levels) >> check (number_at s 0 == levels - 1) (fault.Levels (levels - 1) (number_at s 0))) (if levels == 1 then one_level k message s 4 else two_levels k message s) tt key-read.2 in
    let prefix = then_ok (reaches s 4 (least_len k.types levels)) (check (number_at s 0 == levels - 1) (fault.Levels (levels - 1) (number_at s 0))) last.0.0 last.0.1 in
    let named = levels_of_key_ok key levels levels-read.1 in
    let room : 4 ≤ length s = reaches_ok s 4 _ prefix.0.0 prefix.0.1 in
    let test = check_ok (number_at s 0 == levels - 1) _ last.0.0 prefix.1 in
    let count : number_at s 0 ≡ levels - 1 = grind (arith, nat_tests) in
    let a = accepted levels k message s named.1 fits last.1 in
    let upper-count : number_at s 0 ≡ length a.upper = omega (arith, a.count) in
    let key-is = key_is k key 4 key-fits (top_key_ok key k key-len key-read.1) in
    let key-levels : Spans key 0 (u32str (length a.upper + 1)) 4 = rw (a.count, ← named.0) (spans_number key 0 4 key-fits (omega arith) refl) in
    let s-levels : Spans s 0 (u32str (length a.upper)) 4 = rw (← upper-count) (spans_number s 0 4 fits room refl) in
    record {
      top = k;
      upper = a.upper;
      last = a.last;
      of_key = record {
        encoded = spans_all key _ (rw key-len (Spans-append key 0 4 60 _ _ key-levels key-is.span));
        form = key-is.form;
        some = omega (arith, a.count);
        few = omega (arith, a.count, few named.1);
      };
      encoded = spans_all s _ (Spans-append s 0 4 (length s) _ _ s-levels a.span);
      signs = a.signs;
    }

-- ---- what is valid is accepted

pub levels_of_key_there : (key : List ℕ) (n : ℕ) → number_at key 0 ≡ n → (n ≡ 1) ⊎ (n ≡ 2) → levels_of_key key ≡ Ok n
unfolding levels_of_key
levels_of_key_there key n e (inl one) = rw (e, one) refl
levels_of_key_there key n e (inr two) = rw (e, two) refl

-- where a last text ends, the string ends
pub length-last : (s : List ℕ) (at : ℕ) (x : List ℕ) → Spans s at x (length s) → at ≤ length s → length s ≡ at + length x
length-last s at x span room =
    omega (arith, ap length span.parts, length-drop at s, length-append x (drop (length s) s), length-drop (length s) s)

pub one_level_there : (k : PublicKey) (message s : List ℕ) (at : ℕ) (g : Signature) → Spans s at (signature_bytes k.types g) (length s) → IsSigned k message g → one_level k message s at ≡ Ok tt
unfolding one_level
one_level_there k message s at g span signed =
    let len = at + signature_len k.types in
    let stands = signature_stands k.types g s at (length s) span signed.form in
    let end : length s ≡ len = length-last s at (signature_bytes k.types g) span (omega (arith, stands.room)) ∙ ap (λ (n : ℕ). at + n) (length-signature_bytes k.types g signed.form) in
    rw (signature_at_there k.types g s at len stands signed.form.leaf, ends_there s len end, has_root_there k g message signed.root) refl

-- the parts of two levels
pub record TwoStand (t : Types) (u : Upper) (last : Signature) (s : List ℕ) : Type 0 where
  pub upper : SignatureStands t u.signature s 4
  pub key : KeyStands u.key s (4 + signature_len t)
  pub middle : bytes_at s (4 + signature_len t) 56 ≡ key_bytes u.key
  pub below : SignatureStands u.key.types last s (4 + signature_len t + 56)
  pub end : length s ≡ 4 + signature_len t + 56 + signature_len u.key.types

pub two_stand : (t : Types) (u : Upper) (last : Signature) (s : List ℕ) → Spans s 4 (levels_bytes t (u ∷ []) last) (length s) → IsSignature t u.signature → IsKey u.key → IsSignature u.key.types last → TwoStand t u last s
two_stand t u last s span upper-form key-form last-form =
    let a = signature_bytes t u.signature in
    let k = key_bytes u.key in
    let l = signature_bytes u.key.types last in
    let n = signature_len t in
    let a-len : length a ≡ n = length-signature_bytes t u.signature upper-form in
    let k-len : length k ≡ 56 = length-key_bytes u.key key-form in
    let l-len : length l ≡ signature_len u.key.types = length-signature_bytes u.key.types last last-form in
    let prefix-len : length (a ++ k) ≡ n + 56 = omega (arith, length-append a k) in
    let prefix = spans_left s 4 (length s) (n + 56) (a ++ k) l span prefix-len in
    let after = spans_right s 4 (length s) (n + 56) (a ++ k) l span prefix-len in
    let upper-span = spans_left s 4 (4 + (n + 56)) n a k prefix a-len in
    let key-span = spans_right s 4 (4 + (n + 56)) n a k prefix a-len in
    let last-span = Spans-from s (4 + (n + 56)) (4 + n + 56) (length s) l (omega arith) after in
    let last-stands = signature_stands u.key.types last s (4 + n + 56) (length s) last-span last-form in
    record {
      upper = signature_stands t u.signature s 4 (4 + n) upper-span upper-form;
      key = key_stands u.key s (4 + n) (4 + (n + 56)) key-span key-form;
      middle = bytes_at-Spans s (4 + n) (4 + (n + 56)) 56 k key-span k-len;
      below = last-stands;
      end = length-last s (4 + n + 56) l last-span (omega (arith, last-stands.room)) ∙ ap (λ (m : ℕ). 4 + n + 56 + m) l-len;
    }

pub two_levels_there : (k : PublicKey) (message s : List ℕ) (u : Upper) (last : Signature) → Spans s 4 (levels_bytes k.types (u ∷ []) last) (length s) → SignsDown k (u ∷ []) last message → two_levels k message s ≡ Ok tt
unfolding two_levels
two_levels_there k message s u last span signs =
    let at = 4 + signature_len k.types in
    let h = two_stand k.types u last s span signs.0.form signs.1 signs.2.form in
    rw (
      signature_at_there k.types u.signature s 4 (at + 56 + signature_len H5W8) h.upper signs.0.form.leaf,
      embedded_key_there u.key s at h.key,
      signature_at_there u.key.types last s (at + 56) (at + 56 + signature_len u.key.types) h.below signs.2.form.leaf,
      ends_there s (at + 56 + signature_len u.key.types) h.end,
      h.middle,
      has_root_there k u.signature (key_bytes u.key) signs.0.root,
      has_root_there u.key last message signs.2.root,
    ) refl

-- how an HSS key stands in its bytes
pub record HssKeyStands (k : PublicKey) (key : List ℕ) (levels : ℕ) : Type 0 where
  pub named : number_at key 0 ≡ levels
  pub span : Spans key 4 (key_bytes k) (length key)
  pub top : KeyStands k key 4

pub hss_key_stands : (key : List ℕ) (k : PublicKey) (levels : ℕ) → IsHssKey key levels k → HssKeyStands k key levels
hss_key_stands key k levels of_key =
    let whole = all_spans key (u32str levels ++ key_bytes k) of_key.encoded in
    let few = of_key.few in
    let span = spans_right key 0 (length key) 4 (u32str levels) (key_bytes k) whole (length-u32str levels) in
    record {
      named = number_at-Spans key 0 4 levels (spans_left key 0 (length key) 4 (u32str levels) (key_bytes k) whole (length-u32str levels)) (omega arith);
      span = span;
      top = key_stands k key 4 (length key) span of_key.form;
    }

-- how the levels stand after their number
pub record HeadStands (k : PublicKey) (key s : List ℕ) (levels : ℕ) : Type 0 where
  pub top : HssKeyStands k key levels
  pub room : 4 ≤ length s
  pub count : number_at s 0 ≡ levels - 1

head_stands : (key s : List ℕ) (k : PublicKey) (us : List Upper) (t : Types) (last : Signature) → IsHssKey key (length us + 1) k → s ≡ hss_bytes t us last → HeadStands k key s (length us + 1)
head_stands key s k us t last of_key encoded =
    let n = length us in
    let s-span = all_spans s (u32str n ++ levels_bytes t us last) encoded in
    let few = of_key.few in
    let count = number_at-Spans s 0 4 n (spans_left s 0 (length s) 4 (u32str n) (levels_bytes t us last) s-span (length-u32str n)) (omega arith) in
    record {
      top = hss_key_stands key k (n + 1) of_key;
      room = omega (arith, ap length encoded, length-append (u32str n) (levels_bytes t us last), length-u32str n);
      count = omega (arith, count);
    }

pub levels_span : (s : List ℕ) (t : Types) (us : List Upper) (last : Signature) → s ≡ hss_bytes t us last → Spans s 4 (levels_bytes t us last) (length s)
levels_span s t us last encoded =
    spans_right s 0 (length s) 4 (u32str (length us)) (levels_bytes t us last) (all_spans s (u32str (length us) ++ levels_bytes t us last) encoded) (length-u32str (length us))

verdict_from : (key message s : List ℕ) (k : PublicKey) (levels : ℕ) → (levels ≡ 1) ⊎ (levels ≡ 2) → HeadStands k key s levels → (if levels == 1 then one_level k message s 4 else two_levels k message s) ≡ Ok tt → verdict key message s ≡ Ok tt
unfolding verdict
verdict_from key message s k levels which h e =
    let test : (number_at s 0 == levels - 1) ≡ true = grind (arith, nat_tests, h.count) in
    rw (levels_of_key_there key levels h.top.named which, top_key_there k key h.top.top, reaches_room s 4 (least_len k.types levels) h.room, test) e

-- what is valid is accepted
valid_levels : (key message s : List ℕ) (k : PublicKey) (us : List Upper) (last : Signature) → IsHssKey key (length us + 1) k → s ≡ hss_bytes k.types us last → SignsDown k us last message → verdict key message s ≡ Ok tt
valid_levels key message s k [] last of_key encoded signs =
    verdict_from key message s k 1 (inl refl) (head_stands key s k [] k.types last of_key encoded)
    (one_level_there k message s 4 last (levels_span s k.types [] last encoded) signs)
valid_levels key message s k (u ∷ []) last of_key encoded signs =
    verdict_from key message s k 2 (inr refl) (head_stands key s k (u ∷ []) k.types last of_key encoded)
    (two_levels_there k message s u last (levels_span s k.types (u ∷ []) last encoded) signs)
valid_levels key message s k (u ∷ v ∷ us) last of_key encoded signs =
    let few : suc (suc (length us)) + 1 ≤ 2 = of_key.few in
    absurd (omega arith)

pub valid_verdict : (key message s : List ℕ) → IsValid key message s → verdict key message s ≡ Ok tt
valid_verdict key message s v = valid_levels key message s v.top v.upper v.last v.of_key v.encoded v.signs

-- an answer that is Ok is Ok of nothing
pub ok_nothing : (r : Result (Unit {0}) HssFault) → IsOk r → r ≡ Ok tt
ok_nothing (Ok u) h = refl
ok_nothing (Err f) h = absurd cc

pub nothing_ok : (r : Result (Unit {0}) HssFault) → r ≡ Ok tt → IsOk r
nothing_ok (Ok u) e = refl
nothing_ok (Err f) e = absurd cc

-- what holds where an answer is Ok
pub on_ok : (r : Result (Unit {0}) HssFault) (P : Type 0) → (IsOk r → P) → OnOk r P
on_ok (Ok u) P h = h refl
on_ok (Err f) P h = tt
