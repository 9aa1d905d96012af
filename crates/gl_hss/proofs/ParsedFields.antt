-- What a reading that found no fault says, and what is read without a fault.
use Rattle.std.proofs.Common.{◌≡◌, ℕ, ◌+◌, ◌*◌, ◌^◌, ◌<◌, ◌≤◌, Bool, true, false, List, length, Option, Some, None, Result, Ok, Err, refl, sym, ap, ◌∙◌, arith}
use Rattle.std.specs.Prelude.{ok_or, ◌||◌, ◌==◌, nat_lt, nat_le}
use Rattle.std.specs.Str.{bytes_eq}
use Rattle.std.proofs.lemmas.Bool.Decides.{nat_tests}
use Rattle.std.proofs.lemmas.Slice.Eq.{bytes_eq-Decides}
use Rattle.gl_hss.specs.declared.types.Types.{Types}
use Rattle.gl_hss.specs.declared.types.Types.TheVariants.{H5W4, H5W8, H10W4, H10W8}
use Rattle.gl_hss.specs.declared.fault.HssFault.{HssFault}
use Rattle.gl_hss.specs.declared.fault.HssFault.TheVariants as fault
use Rattle.gl_hss.specs.Bytes.{number_at}
use Rattle.gl_hss.specs.Types.{height, chain_count, lms_code, ots_code, signature_len, types_of}
use Rattle.gl_hss.specs.Tree.{Signature, PublicKey, root_candidate}
use Rattle.gl_hss.specs.Lent.{key_fields, signature_fields}
use Rattle.gl_hss.specs.Order.{◌>>=◌, ◌>>◌, check, reaches, ends, has_code, has_leaf, has_root, types_at, embedded_key, top_key, signature_at}
use Rattle.gl_hss.proofs.EncodedFields.{HasKeyCodes, HasCodes, KeyStands, SignatureStands}

-- ---- steps that found no fault

pub then_ok : {A B : Type 0} (r : Result A HssFault) (q : Result B HssFault) (y : B) → (r >> q) ≡ Ok y → ((x : A) × (r ≡ Ok x)) × (q ≡ Ok y)
then_ok (Ok x) q y e = ((x, refl), e)
then_ok (Err f) q y e = absurd cc

pub bind_ok : {A B : Type 0} (r : Result A HssFault) (g : A → Result B HssFault) (y : B) → (r >>= g) ≡ Ok y → (x : A) × (r ≡ Ok x) × (g x ≡ Ok y)
bind_ok (Ok x) g y e = (x, refl, e)
bind_ok (Err f) g y e = absurd cc

pub check_ok : (b : Bool) (f : HssFault) (u : Unit {0}) → check b f ≡ Ok u → b ≡ true
check_ok true f u e = refl
check_ok false f u e = absurd cc

pub ok_or_ok : {A : Type 0} (o : Option A) (f : HssFault) (x : A) → ok_or o f ≡ Ok x → o ≡ Some x
ok_or_ok (Some y) f x e = cc
ok_or_ok None f x e = absurd cc

-- ---- tests

pub reaches_ok : (s : List ℕ) (end want : ℕ) (u : Unit {0}) → reaches s end want ≡ Ok u → end ≤ length s
unfolding reaches
reaches_ok s end want u e =
    let t = check_ok (nat_le end (length s)) (fault.Length want (length s)) u e in
    grind (arith, nat_tests)

pub reaches_room : (s : List ℕ) (end want : ℕ) → end ≤ length s → reaches s end want ≡ Ok tt
unfolding reaches
reaches_room s end want h =
    let t : nat_le end (length s) ≡ true = grind (arith, nat_tests) in
    rw t refl

pub ends_ok : (s : List ℕ) (want : ℕ) (u : Unit {0}) → ends s want ≡ Ok u → length s ≡ want
unfolding ends
ends_ok s want u e =
    let t = check_ok (length s == want) (fault.Length want (length s)) u e in
    grind (arith, nat_tests)

pub ends_there : (s : List ℕ) (want : ℕ) → length s ≡ want → ends s want ≡ Ok tt
unfolding ends
ends_there s want h =
    let t : (length s == want) ≡ true = grind (arith, nat_tests) in
    rw t refl

pub has_code_ok : (s : List ℕ) (at code : ℕ) (u : Unit {0}) → has_code s at code ≡ Ok u → number_at s at ≡ code
unfolding has_code
has_code_ok s at code u e =
    let t = check_ok (number_at s at == code) (fault.Types at) u e in
    grind (arith, nat_tests)

pub has_code_there : (s : List ℕ) (at code : ℕ) → number_at s at ≡ code → has_code s at code ≡ Ok tt
unfolding has_code
has_code_there s at code h =
    let t : (number_at s at == code) ≡ true = grind (arith, nat_tests) in
    rw t refl

pub has_leaf_ok : (t : Types) (q : ℕ) (u : Unit {0}) → has_leaf t q ≡ Ok u → q < 2 ^ height t
unfolding has_leaf
has_leaf_ok t q u e =
    let b = check_ok (nat_lt q (2 ^ height t)) (fault.Leaf q) u e in
    grind (arith, nat_tests)

pub has_leaf_there : (t : Types) (q : ℕ) → q < 2 ^ height t → has_leaf t q ≡ Ok tt
unfolding has_leaf
has_leaf_there t q h =
    let b : nat_lt q (2 ^ height t) ≡ true = grind (arith, nat_tests) in
    rw b refl

pub has_root_ok : (k : PublicKey) (g : Signature) (message : List ℕ) (u : Unit {0}) → has_root k g message ≡ Ok u → root_candidate k.types k.identifier g message ≡ k.root
unfolding has_root
has_root_ok k g message u e =
    let got = root_candidate k.types k.identifier g message in
    (bytes_eq-Decides got k.root).0 (check_ok (bytes_eq got k.root) (fault.Root k.root got) u e)

pub has_root_there : (k : PublicKey) (g : Signature) (message : List ℕ) → root_candidate k.types k.identifier g message ≡ k.root → has_root k g message ≡ Ok tt
unfolding has_root
has_root_there k g message h =
    let got = root_candidate k.types k.identifier g message in
    let t = (bytes_eq-Decides got k.root).1 h in
    rw t refl

-- ---- typecodes

pub types_of_ok : (lms ots : ℕ) (t : Types) → types_of lms ots ≡ Some t → (lms ≡ lms_code t) × (ots ≡ ots_code t)
types_of_ok lms ots H5W4 e = grind (arith, nat_tests)
types_of_ok lms ots H5W8 e = grind (arith, nat_tests)
types_of_ok lms ots H10W4 e = grind (arith, nat_tests)
types_of_ok lms ots H10W8 e = grind (arith, nat_tests)

pub types_of_codes : (t : Types) → types_of (lms_code t) (ots_code t) ≡ Some t
types_of_codes H5W4 = refl
types_of_codes H5W8 = refl
types_of_codes H10W4 = refl
types_of_codes H10W8 = refl

is_lms_code : (t : Types) → (lms_code t == 5 || lms_code t == 6) ≡ true
is_lms_code H5W4 = refl
is_lms_code H5W8 = refl
is_lms_code H10W4 = refl
is_lms_code H10W8 = refl

pub types_at_ok : (s : List ℕ) (at want : ℕ) (t : Types) → types_at s at want ≡ Ok t → HasKeyCodes t s at
unfolding types_at
types_at_ok s at want t e =
    let last = then_ok _ _ t e in
    let found = types_of_ok (number_at s at) (number_at s (at + 4)) t (ok_or_ok (types_of (number_at s at) (number_at s (at + 4))) (fault.Types (at + 4)) t last.1) in
    record { lms = found.0; ots = found.1 }

pub types_at_there : (t : Types) (s : List ℕ) (at want : ℕ) → at + 8 ≤ length s → HasKeyCodes t s at → types_at s at want ≡ Ok t
unfolding types_at
types_at_there t s at want room codes =
    rw (reaches_room s (at + 4) want (omega arith), reaches_room s (at + 8) want room, codes.lms, codes.ots, is_lms_code t, types_of_codes t) refl

-- ---- a key and a signature

pub record IsReadKey (k : PublicKey) (s : List ℕ) (at : ℕ) : Type 0 where
  pub room : at + 56 ≤ length s
  pub codes : HasKeyCodes k.types s at
  pub fields : key_fields k.types s at ≡ k

read_key : (t : Types) (k : PublicKey) (s : List ℕ) (at : ℕ) → at + 56 ≤ length s → HasKeyCodes t s at → key_fields t s at ≡ k → IsReadKey k s at
read_key t k s at room codes e =
    let same : t ≡ k.types = ap (λ (p : PublicKey). p.types) e in
    record { room = room; codes = rw (← same) codes; fields = ap (λ (x : Types). key_fields x s at) (sym same) ∙ e }

abbrev done : {A : Type 0} → A → Result A HssFault
done x = Ok x

ok_is : {A : Type 0} (x y : A) → done x ≡ done y → x ≡ y
ok_is x y e = cc

pub top_key_ok : (key : List ℕ) (k : PublicKey) → length key ≡ 60 → top_key key ≡ Ok k → IsReadKey k key 4
unfolding top_key
top_key_ok key k room e =
    let read = bind_ok (types_at key 4 60) (λ (t : Types). Ok (key_fields t key 4)) k e in
    read_key read.0 k key 4 (omega arith) (types_at_ok key 4 60 read.0 read.1) (ok_is _ _ read.2)

pub top_key_there : (k : PublicKey) (key : List ℕ) → KeyStands k key 4 → top_key key ≡ Ok k
unfolding top_key
top_key_there k key h =
    rw (types_at_there k.types key 4 60 (omega (arith, h.room)) h.codes) (ap done h.fields)

pub embedded_key_ok : (s : List ℕ) (at : ℕ) (k : PublicKey) → embedded_key s at ≡ Ok k → IsReadKey k s at
unfolding embedded_key
embedded_key_ok s at k e =
    let read = bind_ok (types_at s at (at + 56 + signature_len H5W8)) (λ (t : Types). reaches s (at + 56) (at + 56 + signature_len t) >> Ok (key_fields t s at)) k e in
    let last = then_ok (reaches s (at + 56) (at + 56 + signature_len read.0)) (Ok (key_fields read.0 s at)) k read.2 in
    read_key read.0 k s at (reaches_ok s (at + 56) _ last.0.0 last.0.1) (types_at_ok s at _ read.0 read.1) (ok_is _ _ last.1)

pub embedded_key_there : (k : PublicKey) (s : List ℕ) (at : ℕ) → KeyStands k s at → embedded_key s at ≡ Ok k
unfolding embedded_key
embedded_key_there k s at h =
    rw (types_at_there k.types s at (at + 56 + signature_len H5W8) (omega (arith, h.room)) h.codes, reaches_room s (at + 56) (at + 56 + signature_len k.types) h.room) (ap done h.fields)

pub record IsReadSignature (t : Types) (g : Signature) (s : List ℕ) (at : ℕ) : Type 0 where
  pub room : at + signature_len t ≤ length s
  pub leaf : number_at s at < 2 ^ height t
  pub codes : HasCodes t s at
  pub fields : signature_fields t s at ≡ g

pub signature_at_ok : (t : Types) (s : List ℕ) (at want : ℕ) (g : Signature) → signature_at t s at want ≡ Ok g → IsReadSignature t g s at
unfolding signature_at
signature_at_ok t s at want g e =
    let p = 32 * chain_count t in
    let a7 = then_ok _ _ g e in
    let a6 = then_ok _ (reaches s (at + signature_len t) want) a7.0.0 a7.0.1 in
    let a5 = then_ok _ (has_code s (at + 40 + p) (lms_code t)) a6.0.0 a6.0.1 in
    let a4 = then_ok _ (reaches s (at + 44 + p) want) a5.0.0 a5.0.1 in
    let a3 = then_ok _ (has_code s (at + 4) (ots_code t)) a4.0.0 a4.0.1 in
    let a2 = then_ok _ (reaches s (at + 8) want) a3.0.0 a3.0.1 in
    let a1 = then_ok _ (has_leaf t (number_at s at)) a2.0.0 a2.0.1 in
    record {
      room = reaches_ok s (at + signature_len t) want a7.0.0 a6.1;
      leaf = has_leaf_ok t (number_at s at) a2.0.0 a1.1;
      codes = record { ots = has_code_ok s (at + 4) (ots_code t) a4.0.0 a3.1; lms = has_code_ok s (at + 40 + p) (lms_code t) a6.0.0 a5.1 };
      fields = ok_is _ _ a7.1;
    }

pub signature_at_there : (t : Types) (g : Signature) (s : List ℕ) (at want : ℕ) → SignatureStands t g s at → g.leaf < 2 ^ height t → signature_at t s at want ≡ Ok g
unfolding signature_at
signature_at_there t g s at want h leaf =
    let p = 32 * chain_count t in
    let leaf-is : number_at s at ≡ g.leaf = ap (λ (x : Signature). x.leaf) h.fields in
    let below : number_at s at < 2 ^ height t = rw leaf-is leaf in
    rw (
      reaches_room s (at + 4) want (omega (arith, h.room)),
      has_leaf_there t (number_at s at) below,
      reaches_room s (at + 8) want (omega (arith, h.room)),
      has_code_there s (at + 4) (ots_code t) h.codes.ots,
      reaches_room s (at + 44 + p) want (omega (arith, h.room)),
      has_code_there s (at + 40 + p) (lms_code t) h.codes.lms,
      reaches_room s (at + signature_len t) want h.room,
    ) (ap done h.fields)
