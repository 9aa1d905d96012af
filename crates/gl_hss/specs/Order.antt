-- Which fault comes first: a key and a signature read from left to right, and then the roots.
use Rattle.std.specs.Prelude.{ℕ, ◌≡◌, ◌+◌, ◌-◌, ◌*◌, ◌^◌, Bool, true, false, List, length, Option, Some, None, Result, Ok, Err, ok_or, ◌==◌, ◌||◌, nat_lt, nat_le, if◌then◌else◌}
use Rattle.std.specs.Str.{bytes_eq}
use Rattle.gl_hss.specs.declared.types.Types.{Types}
use Rattle.gl_hss.specs.declared.types.Types.TheVariants.{H5W4, H5W8}
use Rattle.gl_hss.specs.declared.fault.HssFault.{HssFault}
use Rattle.gl_hss.specs.declared.fault.HssFault.TheVariants as fault
use Rattle.gl_hss.specs.Bytes.{bytes_at, number_at}
use Rattle.gl_hss.specs.Types.{height, chain_count, lms_code, ots_code, signature_len, types_of}
use Rattle.gl_hss.specs.Tree.{Signature, PublicKey, root_candidate}
use Rattle.gl_hss.specs.Lent.{key_fields, signature_fields}

-- what a function returned, seen by view, is this reading
abbrev pub Gives : {X Y : Type 0} → (X → Y) → Result X HssFault → Result Y HssFault → Type 0
Gives view (Ok x) read = read ≡ Ok (view x)
Gives view (Err f) read = read ≡ Err f

infixl 10 ◌>>=◌
abbrev pub ◌>>=◌ : {A B : Type 0} → Result A HssFault → (A → Result B HssFault) → Result B HssFault
(Ok x) >>= g = g x
(Err f) >>= g = Err f

-- one test, and then the other
infixl 10 ◌>>◌
abbrev pub ◌>>◌ : {A B : Type 0} → Result A HssFault → Result B HssFault → Result B HssFault
(Ok x) >> r = r
(Err f) >> r = Err f

-- nothing where the test holds, else the fault
abbrev pub check : Bool → HssFault → Result (Unit {0}) HssFault
check true f = Ok tt
check false f = Err f

-- the signature has `end` bytes, where one that begins so has `want` at the least
unfoldable pub reaches : List ℕ → ℕ → ℕ → Result (Unit {0}) HssFault
reaches s end want = check (nat_le end (length s)) (fault.Length want (length s))

-- nothing stands after the signature
unfoldable pub ends : List ℕ → ℕ → Result (Unit {0}) HssFault
ends s want = check (length s == want) (fault.Length want (length s))

-- the typecode at this place is this one
unfoldable pub has_code : List ℕ → ℕ → ℕ → Result (Unit {0}) HssFault
has_code s at code = check (number_at s at == code) (fault.Types at)

-- the tree has this leaf
unfoldable pub has_leaf : Types → ℕ → Result (Unit {0}) HssFault
has_leaf t q = check (nat_lt q (2 ^ height t)) (fault.Leaf q)

-- the least parameter set, in bytes of a signature, that has the one-time typecode
abbrev pub least_types : ℕ → Option Types
least_types ots = if ots == 3 then Some H5W4 else (if ots == 4 then Some H5W8 else None)

-- ---- a key

-- the two typecodes from this place on
unfoldable pub types_at : List ℕ → ℕ → ℕ → Result Types HssFault
types_at s at want =
    reaches s (at + 4) want
    >> check (number_at s at == 5 || number_at s at == 6) (fault.Types at)
    >> reaches s (at + 8) want
    >> ok_or (types_of (number_at s at) (number_at s (at + 4))) (fault.Types (at + 4))

-- the number of levels that the 60 bytes of an HSS public key name
unfoldable pub levels_of_key : List ℕ → Result ℕ HssFault
levels_of_key key =
    check (number_at key 0 == 1 || number_at key 0 == 2) (fault.Levels 2 (number_at key 0))
    >> Ok (number_at key 0)

-- the LMS public key in the 60 bytes
unfoldable pub top_key : List ℕ → Result PublicKey HssFault
top_key key = types_at key 4 60 >>= λ t. Ok (key_fields t key 4)

-- the LMS public key in a signature from this place on. Before its types are read, the signature
-- after it counts as the shortest.
unfoldable pub embedded_key : List ℕ → ℕ → Result PublicKey HssFault
embedded_key s at =
    types_at s at (at + 56 + signature_len H5W8) >>= λ t.
    reaches s (at + 56) (at + 56 + signature_len t) >> Ok (key_fields t s at)

-- ---- an LMS signature

-- an LMS signature from this place on, by a key that has these types
unfoldable pub signature_at : Types → List ℕ → ℕ → ℕ → Result Signature HssFault
signature_at t s at want =
    reaches s (at + 4) want
    >> has_leaf t (number_at s at)
    >> reaches s (at + 8) want
    >> has_code s (at + 4) (ots_code t)
    >> reaches s (at + 44 + 32 * chain_count t) want
    >> has_code s (at + 40 + 32 * chain_count t) (lms_code t)
    >> reaches s (at + signature_len t) want
    >> Ok (signature_fields t s at)

-- the types and the leaf of the LMS signature at place 4, by a key that isn't known. `after` is the
-- least number of bytes after it.
unfoldable pub first_signature : List ℕ → ℕ → Result (Types × ℕ) HssFault
first_signature s after =
    reaches s 12 (4 + signature_len H5W8 + after)
    >> ok_or (least_types (number_at s 8)) (fault.Types 8) >>= λ least.
    reaches s (48 + 32 * chain_count least) (4 + signature_len least + after)
    >> ok_or (types_of (number_at s (44 + 32 * chain_count least)) (number_at s 8))
    (fault.Types (44 + 32 * chain_count least)) >>= λ t.
    has_leaf t (number_at s 4)
    >> reaches s (4 + signature_len t) (4 + signature_len t + after)
    >> Ok (t, number_at s 4)

-- ---- the whole

-- the root that the signature leads to is the key's
unfoldable pub has_root : PublicKey → Signature → List ℕ → Result (Unit {0}) HssFault
has_root k s message =
    check (bytes_eq (root_candidate k.types k.identifier s message) k.root)
    (fault.Root k.root (root_candidate k.types k.identifier s message))

-- from this place on nothing stands but one LMS signature
unfoldable pub one_level : PublicKey → List ℕ → List ℕ → ℕ → Result (Unit {0}) HssFault
one_level k message s at =
    signature_at k.types s at (at + signature_len k.types) >>= λ last.
    ends s (at + signature_len k.types)
    >> has_root k last message

-- the endorsement of a key by an HSS key of two levels
unfoldable pub endorsement_verdict : List ℕ → List ℕ → List ℕ → Result (Unit {0}) HssFault
endorsement_verdict identity key endorsement =
    check (number_at identity 0 == 2) (fault.Levels 2 (number_at identity 0))
    >> top_key identity >>= λ k.
    one_level k key endorsement 0

-- a signature of two levels: the last one stands at place `at`, 56 bytes after the upper one
unfoldable pub two_levels : PublicKey → List ℕ → List ℕ → Result (Unit {0}) HssFault
two_levels k message s =
    let at = 4 + signature_len k.types in
    signature_at k.types s 4 (at + 56 + signature_len H5W8) >>= λ upper.
    embedded_key s at >>= λ next.
    signature_at next.types s (at + 56) (at + 56 + signature_len next.types) >>= λ last.
    ends s (at + 56 + signature_len next.types)
    >> has_root k upper (bytes_at s at 56)
    >> has_root next last message

-- the least length of a signature of so many levels under a key with these types
abbrev pub least_len : Types → ℕ → ℕ
least_len t levels =
    if levels == 1 then 4 + signature_len t else 4 + signature_len t + 56 + signature_len H5W8

-- what verifying answers: nothing, or the first fault
unfoldable pub verdict : List ℕ → List ℕ → List ℕ → Result (Unit {0}) HssFault
verdict key message s =
    levels_of_key key >>= λ levels.
    top_key key >>= λ k.
    reaches s 4 (least_len k.types levels)
    >> check (number_at s 0 == levels - 1) (fault.Levels (levels - 1) (number_at s 0))
    >> (if levels == 1 then one_level k message s 4 else two_levels k message s)

-- the leaf in a signature of one level
unfoldable pub leaf_of_one : List ℕ → Result ℕ HssFault
leaf_of_one s =
    first_signature s 0 >>= λ x.
    ends s (4 + signature_len x.0)
    >> Ok x.1

-- the leaf after an upper LMS signature with these types
unfoldable pub leaf_below : Types → List ℕ → Result ℕ HssFault
leaf_below t s =
    let at = 4 + signature_len t in
    embedded_key s at >>= λ next.
    signature_at next.types s (at + 56) (at + 56 + signature_len next.types) >>= λ last.
    ends s (at + 56 + signature_len next.types)
    >> Ok last.leaf

-- the leaf of the last level in a signature of two
unfoldable pub leaf_of_two : List ℕ → Result ℕ HssFault
leaf_of_two s = first_signature s (56 + signature_len H5W8) >>= λ x. leaf_below x.0 s

-- the leaf of the last LMS signature, or the first fault
unfoldable pub leaf_verdict : List ℕ → Result ℕ HssFault
leaf_verdict s =
    reaches s 4 (4 + signature_len H5W8)
    >> check (number_at s 0 == 0 || number_at s 0 == 1) (fault.Levels 1 (number_at s 0))
    >> (if number_at s 0 == 0 then leaf_of_one s else leaf_of_two s)

-- the bytes of the key that makes the last LMS signature: those in the key, or in the signature
unfoldable pub last_key_verdict : List ℕ → List ℕ → Result (List ℕ) HssFault
last_key_verdict key s =
    levels_of_key key >>= λ levels.
    top_key key >>= λ k.
    let at = 4 + signature_len k.types in
    (if levels == 1 then Ok (bytes_at key 4 56)
    else reaches s (at + 56) (at + 56 + signature_len H5W8) >> Ok (bytes_at s at 56))
