-- The members whose keys are compared: those left after the next.
use Rattle.std.proofs.Common.{◌≡◌, ℕ, suc, ◌+◌, ◌-◌, ◌<◌, List, ◌∷◌, ◌++◌, map, length, take, drop, Bool, true, false, not, ◌&&◌, ◌||◌, refl, sym, ◌∙◌, ap, add-one, arith, length-append}
use Rattle.std.specs.List.{list_any}
use Rattle.std.specs.Cmp.Lexicographic.{bytes_decides}
use Rattle.std.proofs.lemmas.List.{take_at, drop_at}
use Rattle.gl_hss.specs.declared.types.Types.TheVariants.{H5W4}
use Rattle.gl_hss.specs.Bytes.{u32str}
use Rattle.gl_hss.specs.Types.{lms_code, ots_code}
use Rattle.gl_hss.specs.Tree.{key_bytes}
use Rattle.gl_hss.specs.Secrets.{node}
use Rattle.gl_hss.specs.Profile.{identifier_of}
use Rattle.gl_hss.proofs.Spans.{length-u32str}
use Rattle.gl_hss.proofs.Octets.{seed_IsKey}
use Rattle.gl_base.specs.Bytes.{same_bytes}
use Rattle.gl_gov_rules.specs.Actions.{has_key}
use Rattle.gl_gov_rules.specs.Refusals.{are_keys_distinct}
use Rattle.gl_world.specs.declared.settings.Settings.{Settings}
use Rattle.gl_world.specs.Keys.{private_key, lms_key, hss_key}
use Rattle.gl_world.specs.Founding.{member_of, members_from}
use Rattle.gl_world.proofs.Numbers.{numbers-next}

abbrev pub key_of : Settings → ℕ → List ℕ
key_of s number = (member_of s number).key

members-next : (s : Settings) (i n : ℕ) → i < n → members_from s (suc i) (n - i) ≡ member_of s (suc i) ∷ members_from s (suc (suc i)) (n - suc i)
members-next s i n below = ap (map (member_of s)) (numbers-next i n below)

-- where I stands in an HSS key: after the levels and two typecodes
identifier_in : (levels : ℕ) (seed : List ℕ) → drop 8 (take 24 (drop 4 (hss_key levels seed))) ≡ identifier_of seed
unfolding key_bytes
identifier_in levels seed =
    let k = private_key seed in
    let codes = u32str (lms_code k.types) ++ u32str (ots_code k.types) in
    let form = seed_IsKey H5W4 seed in
    let eight : length codes ≡ 8 = omega (arith, length-append (u32str (lms_code k.types)) (u32str (ots_code k.types)), length-u32str (lms_code k.types), length-u32str (ots_code k.types)) in
    let prefix : length (codes ++ k.identifier) ≡ 24 = omega (arith, length-append codes k.identifier, eight, form.identifier) in
    ap (λ (l : List ℕ). drop 8 (take 24 l)) (drop_at (u32str levels) (lms_key seed) 4 (length-u32str levels))
    ∙ ap (drop 8) (take_at (codes ++ k.identifier) (node k 1) 24 prefix)
    ∙ drop_at codes k.identifier 8 eight

-- so seeds with different I have different keys
pub keys_differ : (levels : ℕ) (a b : List ℕ) → same_bytes (identifier_of a) (identifier_of b) ≡ false → same_bytes (hss_key levels a) (hss_key levels b) ≡ false
keys_differ levels a b other = go (same_bytes (hss_key levels a) (hss_key levels b)) refl
  where
    go : (t : Bool) → same_bytes (hss_key levels a) (hss_key levels b) ≡ t → t ≡ false
    go false is = refl
    go true is = absurd (
        let key = (bytes_decides (hss_key levels a) (hss_key levels b)).0 is in
        let identifier : identifier_of a ≡ identifier_of b = sym (identifier_in levels a) ∙ ap (λ (l : List ℕ). drop 8 (take 24 (drop 4 l))) key ∙ identifier_in levels b in
        let one = (bytes_decides (identifier_of a) (identifier_of b)).1 identifier in
        let w = sym other ∙ one in cc)

-- a key that the next member doesn't have is among all where it is among those left
pub repeated-next : (s : Settings) (key : List ℕ) (i n : ℕ) → i < n → has_key key (member_of s (i + 1)) ≡ false →
    list_any (has_key key) (members_from s (suc (i + 1)) (n - (i + 1))) ≡ list_any (has_key key) (members_from s (suc i) (n - i))
repeated-next s key i n below other = rw (add-one i)
    (sym (ap (list_any (has_key key)) (members-next s i n below)
    ∙ ap (λ (b : Bool). b || list_any (has_key key) (members_from s (suc (suc i)) (n - suc i))) (ap (λ (k : ℕ). has_key key (member_of s k)) (sym (add-one i)) ∙ other)))

-- the members left are those after the next, with it before them
distinct-next : (s : Settings) (i n : ℕ) → i < n →
    are_keys_distinct (members_from s (suc i) (n - i))
    ≡ (not (list_any (has_key (key_of s (i + 1))) (members_from s (suc (i + 1)) (n - (i + 1)))) && are_keys_distinct (members_from s (suc (i + 1)) (n - (i + 1))))
distinct-next s i n below = rw (add-one i) (ap are_keys_distinct (members-next s i n below))

-- they are not distinct where the next stands after it again
pub distinct-found : (s : Settings) (i n : ℕ) → i < n →
    list_any (has_key (key_of s (i + 1))) (members_from s (suc (i + 1)) (n - (i + 1))) ≡ true → are_keys_distinct (members_from s (suc i) (n - i)) ≡ false
distinct-found s i n below found =
    distinct-next s i n below ∙ ap (λ (b : Bool). not b && are_keys_distinct (members_from s (suc (i + 1)) (n - (i + 1)))) found

-- and else they are where those after it are
pub distinct-passed : (s : Settings) (i n : ℕ) → i < n →
    list_any (has_key (key_of s (i + 1))) (members_from s (suc (i + 1)) (n - (i + 1))) ≡ false →
    are_keys_distinct (members_from s (suc (i + 1)) (n - (i + 1))) ≡ are_keys_distinct (members_from s (suc i) (n - i))
distinct-passed s i n below none =
    sym (distinct-next s i n below ∙ ap (λ (b : Bool). not b && are_keys_distinct (members_from s (suc (i + 1)) (n - (i + 1)))) none)
