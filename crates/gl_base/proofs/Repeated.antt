-- One reading after another, so many times: as a loop does it, what it takes, and what it gives
-- where its encoding stands.
use Rattle.std.proofs.Common.{◌≡◌, ℕ, zero, suc, ◌+◌, ◌-◌, ◌≤◌, ◌<◌, Bool, true, List, [], ◌∷◌, ◌++◌, length, Result, Ok, Err, refl, sym, ap, subst, ◌∙◌, append_assoc, length-append, suc-mul, ◌*◌, arith}
use Rattle.std.specs.List.{flat_map, list_all}
use Rattle.std.proofs.lemmas.Bool.{and_parts, and_from}
use Rattle.std.proofs.lemmas.List.{append-nil}
use Rattle.gl_base.specs.Steps.{◌>>=◌}
use Rattle.gl_base.specs.Cut.{Unread}
use Rattle.gl_base.specs.Answers.{Fails}
use Rattle.gl_base.specs.declared.fault.CodeFault.{CodeFault}
use Rattle.gl_base.specs.declared.or_no_memory.OrNoMemory.{OrNoMemory}
use Rattle.gl_base.specs.declared.or_no_memory.OrNoMemory.TheVariants.{NoMemory, Fault}
use Rattle.gl_base.proofs.Steps.{bind_ok, ok_injective}
use Rattle.gl_base.proofs.ByteLists.{AreBytes}
use Rattle.gl_base.proofs.ParsedBytes.{Encoded, IsEncoded, Gets, IsRead, both_parts}

-- The second reads what the first does, so many times.
pub record Repeats {X : Type 0} (one : Unread → Result (X × Unread) CodeFault) (many : ℕ → Unread → Result (List X × Unread) CodeFault) : Type 0 where
  pub none : (unread : Unread) → many zero unread ≡ Ok ([], unread)
  pub more : (n : ℕ) (unread : Unread) → many (suc n) unread ≡ (one unread >>= λ first. many n first.1 >>= λ rest. Ok (first.0 ∷ rest.0, rest.1))

-- ---- as a loop does it

-- What was read before, before what is still read.
abbrev pub with_prefix : {X : Type 0} → List X → Result (List X × Unread) CodeFault → Result (List X × Unread) CodeFault
with_prefix prefix read = read >>= λ x. Ok (prefix ++ x.0, x.1)

regroup : {X : Type 0} → (prefix : List X) (x : X) (read : Result (List X × Unread) CodeFault)
    → with_prefix prefix (read >>= λ rest. Ok (x ∷ rest.0, rest.1)) ≡ with_prefix (prefix ++ x ∷ []) read
regroup {X = X} prefix x (Ok rest) = ap (λ (xs : List X). Ok (xs, rest.1)) (sym (append_assoc prefix (x ∷ []) rest.0))
regroup prefix x (Err fault) = refl

one_more : {X : Type 0} {one : Unread → Result (X × Unread) CodeFault} {many : ℕ → Unread → Result (List X × Unread) CodeFault} → Repeats one many
    → (prefix : List X) (count i : ℕ) (old new : Unread) (x : X) → i < count → one old ≡ Ok (x, new)
    → with_prefix prefix (many (count - i) old) ≡ with_prefix (prefix ++ x ∷ []) (many (count - (i + 1)) new)
one_more {X = X} {many = many} repeats prefix count i old new x within read =
    let left : count - i ≡ suc (count - (i + 1)) = omega arith in
    rw (left, repeats.more, read) (regroup prefix x (many (count - (i + 1)) new))

pub goes_on : {X : Type 0} {one : Unread → Result (X × Unread) CodeFault} {many : ℕ → Unread → Result (List X × Unread) CodeFault} → Repeats one many
    → (prefix : List X) (count i : ℕ) (old new : Unread) (x : X) (total : Result (List X × Unread) CodeFault) → i < count → one old ≡ Ok (x, new)
    → with_prefix prefix (many (count - i) old) ≡ total → with_prefix (prefix ++ x ∷ []) (many (count - (i + 1)) new) ≡ total
goes_on repeats prefix count i old new x total within read so_far = sym (one_more repeats prefix count i old new x within read) ∙ so_far

pub ends : {X : Type 0} {one : Unread → Result (X × Unread) CodeFault} {many : ℕ → Unread → Result (List X × Unread) CodeFault} → Repeats one many
    → (e : OrNoMemory CodeFault) (prefix : List X) (count i : ℕ) (old : Unread) (total : Result (List X × Unread) CodeFault) → i < count → Fails e (one old)
    → with_prefix prefix (many (count - i) old) ≡ total → Fails e total
ends repeats NoMemory prefix count i old total within failed so_far = tt
ends {X = X} {many = many} repeats (Fault fault) prefix count i old total within failed so_far =
    let left : count - i ≡ suc (count - (i + 1)) = omega arith in
    let all : with_prefix prefix (many (count - i) old) ≡ Err fault = rw (left, repeats.more, failed) refl in
    sym so_far ∙ all

pub is_done : {X : Type 0} {one : Unread → Result (X × Unread) CodeFault} {many : ℕ → Unread → Result (List X × Unread) CodeFault} → Repeats one many
    → (prefix : List X) (count i : ℕ) (new : Unread) (total : Result (List X × Unread) CodeFault) → count ≤ i → with_prefix prefix (many (count - i) new) ≡ total → total ≡ Ok (prefix, new)
is_done {X = X} {many = many} repeats prefix count i new total over so_far =
    let left : count - i ≡ 0 = omega arith in
    let all : with_prefix prefix (many (count - i) new) ≡ Ok (prefix, new) = rw (left, repeats.none) (ap (λ (xs : List X). Ok (xs, new)) (append-nil prefix)) in
    sym so_far ∙ all

-- ---- what it takes

pub many-encoded : {X : Type 0} {one : Unread → Result (X × Unread) CodeFault} {many : ℕ → Unread → Result (List X × Unread) CodeFault} → Repeats one many
    → (bytes : X → List ℕ) (is : X → Bool) → IsEncoded one bytes is
    → (count : ℕ) (old new : Unread) (xs : List X) → AreBytes old.bytes → many count old ≡ Ok (xs, new)
    → Encoded (flat_map bytes) (list_all is) old xs new × (length xs ≡ count)
many-encoded {X = X} repeats bytes is encoded zero old new xs all read =
    let same : ◌≡◌ {A = List X × Unread} ([], old) (xs, new) = ok_injective {A = List X × Unread} {E = CodeFault} ([], old) (xs, new) (sym (repeats.none old) ∙ read) in
    subst (λ (y : List X × Unread). Encoded (flat_map bytes) (list_all is) old y.0 y.1 × (length y.0 ≡ 0)) same
    (record { parts = refl; left = all; limits = refl }, refl)
many-encoded {X = X} {one = one} {many = many} repeats bytes is encoded (suc count) old new xs all read =
    let first = bind_ok {A = X × Unread} {B = List X × Unread} {E = CodeFault} (one old)
    (λ (first : X × Unread). many count first.1 >>= λ (rest : List X × Unread). Ok (first.0 ∷ rest.0, rest.1)) (xs, new) (sym (repeats.more count old) ∙ read) in
    let rest = bind_ok {A = List X × Unread} {B = List X × Unread} {E = CodeFault} (many count first.0.1)
    (λ (rest : List X × Unread). Ok (first.0.0 ∷ rest.0, rest.1)) (xs, new) first.2 in
    let same : ◌≡◌ {A = List X × Unread} (first.0.0 ∷ rest.0.0, rest.0.1) (xs, new) = ok_injective {A = List X × Unread} {E = CodeFault} (first.0.0 ∷ rest.0.0, rest.0.1) (xs, new) rest.2 in
    let prefix = encoded old first.0.1 first.0.0 all first.1 in
    let after = many-encoded repeats bytes is encoded count first.0.1 rest.0.1 rest.0.0 prefix.left rest.1 in
    let parts = both_parts old.bytes (bytes first.0.0) first.0.1.bytes (flat_map bytes rest.0.0) rest.0.1.bytes prefix.parts after.0.parts in
    subst (λ (y : List X × Unread). Encoded (flat_map bytes) (list_all is) old y.0 y.1 × (length y.0 ≡ suc count)) {x = (first.0.0 ∷ rest.0.0, rest.0.1)} same
    (record { parts = parts; left = after.0.left; limits = and_from (is first.0.0) (list_all is rest.0.0) prefix.limits after.0.limits }, ap suc after.1)

-- ---- what it gives where its encoding stands

pub many-read : {X : Type 0} {one : Unread → Result (X × Unread) CodeFault} {many : ℕ → Unread → Result (List X × Unread) CodeFault} → Repeats one many
    → (bytes : X → List ℕ) (is : X → Bool) → IsRead one bytes is
    → (at : ℕ) (xs : List X) (rest : List ℕ) → list_all is xs ≡ true
    → Gets (many (length xs) (record { at = at; bytes = flat_map bytes xs ++ rest })) xs rest
many-read repeats bytes is read at [] rest all = record { place = at; read = repeats.none (record { at = at; bytes = rest }) }
many-read {X = X} {many = many} repeats bytes is read at (x ∷ xs) rest all =
    let both = and_parts (is x) (list_all is xs) all in
    let first = read at x (flat_map bytes xs ++ rest) both.0 in
    let others = many-read repeats bytes is read first.place xs rest both.1 in
    let regrouped : flat_map bytes (x ∷ xs) ++ rest ≡ bytes x ++ (flat_map bytes xs ++ rest) = append_assoc (bytes x) (flat_map bytes xs) rest in
    record {
      place = others.place;
      read =
          ap (λ (ys : List ℕ). many (suc (length xs)) (record { at = at; bytes = ys })) regrouped
          ∙ rw (repeats.more, first.read, others.read) refl;
    }

-- ---- how long its encoding is

pub length-flat_map-le : {X : Type 0} → (bytes : X → List ℕ) (is : X → Bool) (most : ℕ) → ((x : X) → is x ≡ true → length (bytes x) ≤ most)
    → (xs : List X) → list_all is xs ≡ true → length (flat_map bytes xs) ≤ length xs * most
length-flat_map-le bytes is most each [] all = omega arith
length-flat_map-le bytes is most each (x ∷ xs) all =
    let both = and_parts (is x) (list_all is xs) all in
    let first = each x both.0 in
    let others = length-flat_map-le bytes is most each xs both.1 in
    let whole = length-append (bytes x) (flat_map bytes xs) in
    omega (arith, suc-mul (length xs) most)
