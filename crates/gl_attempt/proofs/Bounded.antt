-- However long a request is fetched for, at most 128 notes are made: two for each of its
-- operations.
use Rattle.std.proofs.Common.{◌≡◌, ◌⊎◌, inl, inr, ℕ, suc, ◌*◌, ◌≤◌, List, [], ◌∷◌, ◌++◌, Option, None, Some, Result, Ok, Err, Bool, true, false, not, ◌&&◌, refl, sym, ap, ◌∙◌, subst, cond, find, is_some, length, map, arith, length-append, append_assoc}
use Rattle.std.specs.List.{list_all}
use Rattle.std.specs.Option.{option_or}
use Rattle.std.proofs.lemmas.List.{append-nil}
use Rattle.std.specs.declared.cmp.Ordering.{Ordering}
use Rattle.std.specs.declared.cmp.Ordering.TheVariants.{Less, Equal, Greater}
use Rattle.std.proofs.lemmas.Bool.{and_parts, and_from}
use Rattle.std.proofs.lemmas.List.Folds.{find-append}
use Rattle.gl_vmaps.specs.Name.{is_key}
use Rattle.gl_vmaps.specs.Tables.{same_bytes}
use Rattle.gl_vmaps.specs.Versions.{is_to_map}
use Rattle.gl_vmaps.specs.Writes.{write_order, put_before, with_write}
use Rattle.gl_vmaps.specs.declared.write.Write.{Write}
use Rattle.gl_vmaps.proofs.TablesLaws.{same_bytes-itself, same_bytes-eq}
use Rattle.gl_tx.specs.Sees.{Sees, write_to, seen_after}
use Rattle.gl_tx.specs.Run.{bar_on, perform_result, with_writes}
use Rattle.gl_attempt.specs.Asks.{row_asks, rows_written, key_asks, allowed_asks, asks_unless_barred, asks_of, asks_after, asks_from, is_of_row, is_of_map, note_on, is_noted, value_in_note, size_in_note, sees_by, next_ask, ask_of, AreAskedAfter, AreAsked}
use Rattle.gl_tx.specs.declared.performed.Performed.{Performed}
use Rattle.gl_tx.specs.declared.abort.Cause.{Cause}
use Rattle.gl_attempt.specs.declared.notes.Ask.{Ask}
use Rattle.gl_attempt.specs.declared.notes.Ask.TheVariants as asks
use Rattle.gl_attempt.specs.declared.notes.Note.{Note}
use Rattle.gl_attempt.specs.declared.notes.Note.TheVariants as notes
use Rattle.gl_tx.specs.declared.request.Operation.{Operation}
use Rattle.gl_tx.specs.declared.request.Operation.TheVariants.{Get, Has, Put, Remove, Add, Check, Follow, Size}
use Rattle.gl_attempt.proofs.Alike.{AreAlike, value-alike, perform_result-alike, asks_of-alike}
use Rattle.gl_tx.proofs.Written.{row_of, own_row, IsTo, WritesTo, perform_result-own}

-- ---- lists whose elements differ, all among others, are no longer than those

abbrev pub Among : {A : Type 0} → List A → A → Type 0
Among [] a = ⊥
Among (x ∷ xs) a = (x ≡ a) ⊎ Among xs a

abbrev pub AreDifferent : {A : Type 0} → List A → Type 0
AreDifferent [] = Unit {0}
AreDifferent (x ∷ xs) = (Among xs x → ⊥) × AreDifferent xs

abbrev AllAmong : {A : Type 0} → List A → List A → Type 0
AllAmong {A} xs ys = (a : A) → Among xs a → Among ys a

among-prefix : {A : Type 0} → (xs ys : List A) (a : A) → Among xs a → Among (xs ++ ys) a
among-prefix [] ys a h = absurd h
among-prefix (x ∷ xs) ys a (inl e) = inl e
among-prefix (x ∷ xs) ys a (inr h) = inr (among-prefix xs ys a h)

among-back : {A : Type 0} → (xs ys : List A) (a : A) → Among ys a → Among (xs ++ ys) a
among-back [] ys a h = h
among-back (x ∷ xs) ys a h = inr (among-back xs ys a h)

among-append : {A : Type 0} → (xs ys : List A) (a : A) → Among (xs ++ ys) a → Among xs a ⊎ Among ys a
among-append [] ys a h = inr h
among-append (x ∷ xs) ys a (inl e) = inl (inl e)
among-append (x ∷ xs) ys a (inr h) = elim (among-append xs ys a h) [ inl f ↦ inl (inr f) | inr b ↦ inr b ]

different-push : {A : Type 0} → (xs : List A) (a : A) → AreDifferent xs → (Among xs a → ⊥) → AreDifferent (xs ++ a ∷ [])
different-push [] a all new = (λ h. h, tt)
different-push (x ∷ xs) a all new = (go, different-push xs a all.1 (λ h. new (inr h)))
  where
    go : Among (xs ++ a ∷ []) x → ⊥
    go h = elim (among-append xs (a ∷ []) x h) [ inl f ↦ all.0 f | inr b ↦ elim b [ inl e ↦ new (inl (sym e)) | inr never ↦ never ] ]

-- a list without one of its elements
without : {A : Type 0} → (ys : List A) (a : A) → Among ys a → (rest : List A) × (suc (length rest) ≡ length ys) × ((z : A) → (a ≡ z → ⊥) → Among ys z → Among rest z)
without [] a h = absurd h
without (y ∷ ys) a (inl e) = (ys, refl, λ z other among. elim among [ inl is ↦ absurd (other (sym e ∙ is)) | inr there ↦ there ])
without (y ∷ ys) a (inr h) =
    let less = without ys a h in
    (y ∷ less.0, ap suc less.1, λ z other among. elim among [ inl is ↦ inl is | inr there ↦ inr (less.2 z other there) ])

length-different : {A : Type 0} → (xs ys : List A) → AreDifferent xs → AllAmong xs ys → length xs ≤ length ys
length-different [] ys all among = omega arith
length-different {A} (x ∷ xs) ys all among =
    let less = without ys x (among x (inl refl)) in
    let rest = length-different xs less.0 all.1 (λ z h. less.2 z (λ e. all.0 (subst (λ (y : A). Among xs y) (sym e) h)) (among z (inr h))) in
    omega (arith, rest, less.1)

-- ---- the known prefix of a list, and the first after it that isn't known

abbrev pub prefix : {A : Type 0} → (A → Bool) → List A → List A
prefix known [] = []
prefix known (x ∷ xs) = x ∷ cond (known x) (prefix known xs) []

abbrev Begins : {A : Type 0} → List A → List A → Type 0
Begins {A} xs ys = (rest : List A) × (xs ++ rest ≡ ys)

prefix-begins : {A : Type 0} → (known : A → Bool) (xs : List A) → Begins (prefix known xs) xs
prefix-begins known [] = ([], refl)
prefix-begins {A} known (x ∷ xs) = go (known x) (prefix-begins known xs)
  where
    go : (b : Bool) → Begins (prefix known xs) xs → Begins (x ∷ cond b (prefix known xs) []) (x ∷ xs)
    go true begins = (begins.0, ap (λ (ys : List A). x ∷ ys) begins.1)
    go false begins = (xs, refl)

prefix-known : {A : Type 0} → (known : A → Bool) (xs ys : List A) → list_all known xs ≡ true → prefix known (xs ++ ys) ≡ xs ++ prefix known ys
prefix-known known [] ys all = refl
prefix-known {A} known (x ∷ xs) ys all =
    let both = and_parts (known x) (list_all known xs) all in
    ap (λ (b : Bool). x ∷ cond b (prefix known (xs ++ ys)) []) both.0 ∙ ap (λ (zs : List A). x ∷ zs) (prefix-known known xs ys both.1)

prefix-unknown : {A : Type 0} → (known : A → Bool) (xs ys : List A) → list_all known xs ≡ false → prefix known (xs ++ ys) ≡ prefix known xs
prefix-unknown known [] ys all = absurd (cc)
prefix-unknown {A} known (x ∷ xs) ys all = go (known x) all (prefix-unknown known xs ys)
  where
    go : (b : Bool) → (b && list_all known xs) ≡ false → (list_all known xs ≡ false → prefix known (xs ++ ys) ≡ prefix known xs) →
        x ∷ cond b (prefix known (xs ++ ys)) [] ≡ x ∷ cond b (prefix known xs) []
    go true h again = ap (λ (zs : List A). x ∷ zs) (again h)
    go false h again = refl

-- the first that isn't known ends the front, and all before it are known
prefix-found : {A : Type 0} → (known : A → Bool) (xs : List A) (a : A) → find (λ x. not (known x)) xs ≡ Some a → Among (prefix known xs) a
prefix-found known [] a e = absurd (cc)
prefix-found {A} known (x ∷ xs) a e = go (known x) e (prefix-found known xs a)
  where
    go : (b : Bool) → cond (not b) (Some x) (find (λ x. not (known x)) xs) ≡ Some a → (find (λ x. not (known x)) xs ≡ Some a → Among (prefix known xs) a) →
        Among (x ∷ cond b (prefix known xs) []) a
    go true h again = inr (again h)
    go false h again = let same : x ≡ a = cc in inl same

found-unknown : {A : Type 0} → (known : A → Bool) (xs : List A) (a : A) → find (λ x. not (known x)) xs ≡ Some a → known a ≡ false
found-unknown known [] a e = absurd (cc)
found-unknown {A} known (x ∷ xs) a e = go (known x) refl e (found-unknown known xs a)
  where
    go : (b : Bool) → known x ≡ b → cond (not b) (Some x) (find (λ x. not (known x)) xs) ≡ Some a → (find (λ x. not (known x)) xs ≡ Some a → known a ≡ false) → known a ≡ false
    go true is h again = again h
    go false is h again = let same : x ≡ a = cc in subst (λ (y : A). known y ≡ false) same is

-- what is before it is known to whoever knows it and what was known before
prefix-all : {A : Type 0} → (known wider : A → Bool) (xs : List A) (a : A) → ((x : A) → known x ≡ true → wider x ≡ true) → wider a ≡ true →
    find (λ x. not (known x)) xs ≡ Some a → list_all wider (prefix known xs) ≡ true
prefix-all known wider [] a more here e = absurd (cc)
prefix-all {A} known wider (x ∷ xs) a more here e = go (known x) refl e (prefix-all known wider xs a more here)
  where
    go : (b : Bool) → known x ≡ b → cond (not b) (Some x) (find (λ x. not (known x)) xs) ≡ Some a →
        (find (λ x. not (known x)) xs ≡ Some a → list_all wider (prefix known xs) ≡ true) → list_all wider (x ∷ cond b (prefix known xs) []) ≡ true
    go true is h again = and_from (wider x) (list_all wider (prefix known xs)) (more x is) (again h)
    go false is h again = let same : a ≡ x = cc in and_from (wider x) true (subst (λ (y : A). wider y ≡ true) same here) refl

-- ---- what was asked for so far stays asked for where nothing that is known changes

begins-append : {A : Type 0} → (xs ys zs : List A) → Begins xs ys → Begins xs (ys ++ zs)
begins-append {A} xs ys zs begins = (begins.0 ++ zs, sym (append_assoc xs begins.0 zs) ∙ ap (λ (us : List A). us ++ zs) begins.1)

begins-suffix : {A : Type 0} → (xs ys zs : List A) → Begins ys zs → Begins (xs ++ ys) (xs ++ zs)
begins-suffix {A} xs ys zs begins = (begins.0, append_assoc xs ys begins.0 ∙ ap (λ (us : List A). xs ++ us) begins.1)

follow-stays : (known : Ask → Bool) (s t : Sees) (ws : List Write) (map key target : List ℕ) → AreAlike known s t →
    Begins (prefix known (allowed_asks (Follow map key target) s ws)) (allowed_asks (Follow map key target) t ws)
follow-stays known s t ws map key target alike = go (list_all known (row_asks ws map key)) refl
  where
    go : (b : Bool) → list_all known (row_asks ws map key) ≡ b → Begins (prefix known (allowed_asks (Follow map key target) s ws)) (allowed_asks (Follow map key target) t ws)
    go true is =
        subst (λ (xs : List Ask). Begins (prefix known (allowed_asks (Follow map key target) s ws)) xs)
        (ap (λ (v : Option (List ℕ)). row_asks ws map key ++ key_asks ws target v) (value-alike known s t ws map key alike is))
        (prefix-begins known (allowed_asks (Follow map key target) s ws))
    go false is =
        subst (λ (xs : List Ask). Begins xs (allowed_asks (Follow map key target) t ws))
        (sym (prefix-unknown known (row_asks ws map key) (key_asks ws target ((seen_after s ws).value map key)) is))
        (begins-append (prefix known (row_asks ws map key)) (row_asks ws map key) (key_asks ws target ((seen_after t ws).value map key)) (prefix-begins known (row_asks ws map key)))

allowed-stays : (known : Ask → Bool) (s t : Sees) (ws : List Write) (o : Operation) → AreAlike known s t → Begins (prefix known (allowed_asks o s ws)) (allowed_asks o t ws)
allowed-stays known s t ws (Get map key) alike = prefix-begins known (row_asks ws map key)
allowed-stays known s t ws (Has map key) alike = prefix-begins known (row_asks ws map key)
allowed-stays known s t ws (Put map key value) alike = ([], refl)
allowed-stays known s t ws (Remove map key) alike = prefix-begins known (row_asks ws map key)
allowed-stays known s t ws (Add map key amount) alike = prefix-begins known (row_asks ws map key)
allowed-stays known s t ws (Check map key expected) alike = prefix-begins known (row_asks ws map key)
allowed-stays known s t ws (Follow map key target) alike = follow-stays known s t ws map key target alike
allowed-stays known s t ws (Size map) alike = prefix-begins known (asks.Map map ∷ rows_written map ws)

asks_of-stays : (known : Ask → Bool) (s t : Sees) (ws : List Write) (o : Operation) → AreAlike known s t → Begins (prefix known (asks_of o s ws)) (asks_of o t ws)
asks_of-stays known s t ws o alike = go (bar_on o)
  where
    go : (b : Option Cause) → Begins (prefix known (asks_unless_barred b (allowed_asks o s ws))) (asks_unless_barred b (allowed_asks o t ws))
    go None = allowed-stays known s t ws o alike
    go (Some cause) = ([], refl)

abbrev asks_next : List Operation → Sees → List Write → Result Performed Cause → List Ask
asks_next os s ws r = asks_after (λ done. asks_from os s (with_writes ws done.write)) r

asks_from-stays : (known : Ask → Bool) (s t : Sees) (os : List Operation) (ws : List Write) → AreAlike known s t → Begins (prefix known (asks_from os s ws)) (asks_from os t ws)
asks_from-stays known s t [] ws alike = ([], refl)
asks_from-stays known s t (o ∷ os) ws alike =
    go (list_all known (asks_of o s ws)) refl (suffix-stays (perform_result o (seen_after s ws)) (λ done. asks_from-stays known s t os (with_writes ws done.write) alike))
  where
    suffix-stays : (r : Result Performed Cause) → ((done : Performed) → Begins (prefix known (asks_from os s (with_writes ws done.write))) (asks_from os t (with_writes ws done.write))) →
        Begins (prefix known (asks_next os s ws r)) (asks_next os t ws r)
    suffix-stays (Err cause) again = ([], refl)
    suffix-stays (Ok done) again = again done

    go : (b : Bool) → list_all known (asks_of o s ws) ≡ b →
        Begins (prefix known (asks_next os s ws (perform_result o (seen_after s ws)))) (asks_next os t ws (perform_result o (seen_after s ws))) →
        Begins (prefix known (asks_from (o ∷ os) s ws)) (asks_from (o ∷ os) t ws)
    go true is again =
        let rest = asks_next os s ws (perform_result o (seen_after s ws)) in
        let after = asks_next os t ws (perform_result o (seen_after s ws)) in
        let begins : Begins (asks_of o s ws ++ prefix known rest) (asks_of o s ws ++ after) =
        begins-suffix (asks_of o s ws) (prefix known rest) after again in
        let first : Begins (prefix known (asks_of o s ws ++ rest)) (asks_of o s ws ++ after) =
        subst (λ (xs : List Ask). Begins xs (asks_of o s ws ++ after)) (sym (prefix-known known (asks_of o s ws) rest is)) begins in
        subst (λ (xs : List Ask). Begins (prefix known (asks_of o s ws ++ rest)) xs)
        (ap (λ (xs : List Ask). xs ++ after) (asks_of-alike known s t ws o alike is)
        ∙ ap (λ (r : Result Performed Cause). asks_of o t ws ++ asks_next os t ws r) (perform_result-alike known s t ws o alike is))
        first
    go false is again =
        subst (λ (xs : List Ask). Begins xs (asks_from (o ∷ os) t ws))
        (sym (prefix-unknown known (asks_of o s ws) (asks_next os s ws (perform_result o (seen_after s ws))) is))
        (begins-append (prefix known (asks_of o s ws)) (asks_of o t ws) (asks_next os t ws (perform_result o (seen_after t ws))) (asks_of-stays known s t ws o alike))

-- ---- two asks for each operation

-- what an operation names
abbrev own_ask : Operation → Ask
own_ask (Get map key) = asks.Row map key
own_ask (Has map key) = asks.Row map key
own_ask (Put map key value) = asks.Row map key
own_ask (Remove map key) = asks.Row map key
own_ask (Add map key amount) = asks.Row map key
own_ask (Check map key expected) = asks.Row map key
own_ask (Follow map key target) = asks.Row map key
own_ask (Size map) = asks.Map map

-- the row of a write
abbrev row_ask : Write → Ask
row_ask w = asks.Row w.map w.key

abbrev named_ask : Option (List ℕ × List ℕ) → Ask
named_ask None = asks.Map []
named_ask (Some row) = asks.Row row.0 row.1

own_ask-row : (o : Operation) (w : Write) → own_row o ≡ Some (row_of w) → own_ask o ≡ row_ask w
own_ask-row (Get map key) w e = ap named_ask e
own_ask-row (Has map key) w e = ap named_ask e
own_ask-row (Put map key value) w e = ap named_ask e
own_ask-row (Remove map key) w e = ap named_ask e
own_ask-row (Add map key amount) w e = ap named_ask e
own_ask-row (Check map key expected) w e = ap named_ask e
own_ask-row (Follow map key target) w e = ap named_ask e
own_ask-row (Size map) w e = absurd (cc)

-- the key that a followed value is
abbrev further_asks : Operation → Sees → List Write → List Ask
further_asks (Follow map key target) s ws = key_asks ws target ((seen_after s ws).value map key)
further_asks other s ws = []

abbrev charges : Operation → Sees → List Write → List Ask
charges o s ws = own_ask o ∷ further_asks o s ws

abbrev charges_after : (Performed → List Ask) → Result Performed Cause → List Ask
charges_after rest (Err cause) = []
charges_after rest (Ok done) = rest done

abbrev charges_from : List Operation → Sees → List Write → List Ask
charges_from [] s ws = []
charges_from (o ∷ os) s ws = charges o s ws ++ charges_after (λ done. charges_from os s (with_writes ws done.write)) (perform_result o (seen_after s ws))

length-row_asks : (ws : List Write) (map key : List ℕ) → length (row_asks ws map key) ≤ 1
length-row_asks ws map key = go (is_some (write_to map key ws))
  where
    go : (b : Bool) → length (cond b [] (asks.Row map key ∷ [])) ≤ 1
    go true = omega arith
    go false = omega arith

length-key_asks : (ws : List Write) (target : List ℕ) (v : Option (List ℕ)) → length (key_asks ws target v) ≤ 1
length-key_asks ws target None = omega arith
length-key_asks ws target (Some key) = go (is_key key)
  where
    go : (b : Bool) → length (cond b (row_asks ws target key) []) ≤ 1
    go true = length-row_asks ws target key
    go false = omega arith

length-further_asks : (o : Operation) (s : Sees) (ws : List Write) → length (further_asks o s ws) ≤ 1
length-further_asks (Get map key) s ws = omega arith
length-further_asks (Has map key) s ws = omega arith
length-further_asks (Put map key value) s ws = omega arith
length-further_asks (Remove map key) s ws = omega arith
length-further_asks (Add map key amount) s ws = omega arith
length-further_asks (Check map key expected) s ws = omega arith
length-further_asks (Follow map key target) s ws = length-key_asks ws target ((seen_after s ws).value map key)
length-further_asks (Size map) s ws = omega arith

length-charges_from : (os : List Operation) (s : Sees) (ws : List Write) → length (charges_from os s ws) ≤ 2 * length os
length-charges_from [] s ws = omega arith
length-charges_from (o ∷ os) s ws = go (perform_result o (seen_after s ws)) (λ done. length-charges_from os s (with_writes ws done.write))
  where
    go : (r : Result Performed Cause) → ((done : Performed) → length (charges_from os s (with_writes ws done.write)) ≤ 2 * length os) →
        length (charges o s ws ++ charges_after (λ done. charges_from os s (with_writes ws done.write)) r) ≤ 2 * length (o ∷ os)
    go (Err cause) again = omega (arith, length-append (charges o s ws) [], length-further_asks o s ws)
    go (Ok done) again = omega (arith, length-append (charges o s ws) (charges_from os s (with_writes ws done.write)), length-further_asks o s ws, again done)

-- the rows of a write set
abbrev rows : List Write → List Ask
rows [] = []
rows (w ∷ ws) = row_ask w ∷ rows ws

among-row_asks : (ws : List Write) (map key : List ℕ) (a : Ask) → Among (row_asks ws map key) a → asks.Row map key ≡ a
among-row_asks ws map key a h = go (is_some (write_to map key ws)) h
  where
    go : (b : Bool) → Among (cond b [] (asks.Row map key ∷ [])) a → asks.Row map key ≡ a
    go true never = absurd never
    go false one = elim one [ inl e ↦ e | inr never ↦ absurd never ]

among-rows_written : (map : List ℕ) (ws : List Write) (a : Ask) → Among (rows_written map ws) a → Among (rows ws) a
among-rows_written map [] a h = h
among-rows_written map (w ∷ ws) a h = go (is_to_map map w) refl h (among-rows_written map ws a)
  where
    go : (b : Bool) → is_to_map map w ≡ b → Among (cond b (asks.Row map w.key ∷ rows_written map ws) (rows_written map ws)) a →
        (Among (rows_written map ws) a → Among (rows ws) a) → Among (rows (w ∷ ws)) a
    go true is here again =
        elim here [
          | inl e ↦ inl (ap (λ (m : List ℕ). asks.Row m w.key) (sym (same_bytes-eq map w.map is)) ∙ e)
          | inr there ↦ inr (again there)
        ]
    go false is there again = inr (again there)

abbrev IsCharged : Operation → Sees → List Write → Ask → Type 0
IsCharged o s ws a = Among (charges o s ws) a ⊎ Among (rows ws) a

allowed-charged : (o : Operation) (s : Sees) (ws : List Write) (a : Ask) → Among (allowed_asks o s ws) a → IsCharged o s ws a
allowed-charged (Get map key) s ws a h = inl (inl (among-row_asks ws map key a h))
allowed-charged (Has map key) s ws a h = inl (inl (among-row_asks ws map key a h))
allowed-charged (Put map key value) s ws a h = absurd h
allowed-charged (Remove map key) s ws a h = inl (inl (among-row_asks ws map key a h))
allowed-charged (Add map key amount) s ws a h = inl (inl (among-row_asks ws map key a h))
allowed-charged (Check map key expected) s ws a h = inl (inl (among-row_asks ws map key a h))
allowed-charged (Follow map key target) s ws a h =
    elim (among-append (row_asks ws map key) (key_asks ws target ((seen_after s ws).value map key)) a h) [
      | inl f ↦ inl (inl (among-row_asks ws map key a f))
      | inr b ↦ inl (inr b)
    ]
allowed-charged (Size map) s ws a h = elim h [ inl e ↦ inl (inl e) | inr there ↦ inr (among-rows_written map ws a there) ]

asks_of-charged : (o : Operation) (s : Sees) (ws : List Write) (a : Ask) → Among (asks_of o s ws) a → IsCharged o s ws a
asks_of-charged o s ws a h = go (bar_on o) h
  where
    go : (b : Option Cause) → Among (asks_unless_barred b (allowed_asks o s ws)) a → IsCharged o s ws a
    go None there = allowed-charged o s ws a there
    go (Some cause) never = absurd never

among-put_before : (o : Ordering) (w x : Write) (xs rest : List Write) (a : Ask) → (Among (rows rest) a → Among (rows xs) a ⊎ (row_ask w ≡ a)) →
    Among (rows (put_before o w x xs rest)) a → Among (rows (x ∷ xs)) a ⊎ (row_ask w ≡ a)
among-put_before Less w x xs rest a again h = elim h [ inl e ↦ inr e | inr there ↦ inl there ]
among-put_before Equal w x xs rest a again h = elim h [ inl e ↦ inr e | inr there ↦ inl (inr there) ]
among-put_before Greater w x xs rest a again h = elim h [ inl e ↦ inl (inl e) | inr there ↦ elim (again there) [ inl f ↦ inl (inr f) | inr e ↦ inr e ] ]

among-with_write : (ws : List Write) (w : Write) (a : Ask) → Among (rows (with_write ws w)) a → Among (rows ws) a ⊎ (row_ask w ≡ a)
among-with_write [] w a h = elim h [ inl e ↦ inr e | inr never ↦ absurd never ]
among-with_write (x ∷ xs) w a h = among-put_before (write_order w x) w x xs (with_write xs w) a (among-with_write xs w a) h

among-with_writes : (ws : List Write) (w : Option Write) (o : Operation) (a : Ask) → IsTo (own_row o) w → Among (rows (with_writes ws w)) a →
    Among (rows ws) a ⊎ (own_ask o ≡ a)
among-with_writes ws None o a is h = inl h
among-with_writes ws (Some w) o a is h = elim (among-with_write ws w a h) [ inl f ↦ inl f | inr e ↦ inr (own_ask-row o w is ∙ e) ]

-- what a run asks for is charged to one of its operations, or was written before
asks_from-charged : (os : List Operation) (s : Sees) (ws : List Write) (a : Ask) → Among (asks_from os s ws) a → Among (charges_from os s ws) a ⊎ Among (rows ws) a
asks_from-charged [] s ws a h = absurd h
asks_from-charged (o ∷ os) s ws a h =
    go (perform_result o (seen_after s ws)) (perform_result-own o (seen_after s ws)) (λ done. asks_from-charged os s (with_writes ws done.write) a) h
  where
    go : (r : Result Performed Cause) → WritesTo (own_row o) r →
        ((done : Performed) → Among (asks_from os s (with_writes ws done.write)) a → Among (charges_from os s (with_writes ws done.write)) a ⊎ Among (rows (with_writes ws done.write)) a) →
        Among (asks_of o s ws ++ asks_next os s ws r) a →
        Among (charges o s ws ++ charges_after (λ done. charges_from os s (with_writes ws done.write)) r) a ⊎ Among (rows ws) a
    go (Err cause) own again there =
        elim (among-append (asks_of o s ws) [] a there) [
          | inl f ↦ elim (asks_of-charged o s ws a f) [ inl c ↦ inl (among-prefix (charges o s ws) [] a c) | inr r ↦ inr r ]
          | inr never ↦ absurd never
        ]
    go (Ok done) own again there =
        let rest = charges_from os s (with_writes ws done.write) in
        elim (among-append (asks_of o s ws) (asks_from os s (with_writes ws done.write)) a there) [
          | inl f ↦ elim (asks_of-charged o s ws a f) [ inl c ↦ inl (among-prefix (charges o s ws) rest a c) | inr r ↦ inr r ]
          | inr b ↦
              elim (again done b) [
                | inl c ↦ inl (among-back (charges o s ws) rest a c)
                | inr r ↦ elim (among-with_writes ws done.write o a own r) [ inl f ↦ inr f | inr e ↦ inl (inl e) ]
              ]
        ]

-- ---- the notes that are fetched

abbrev asked : List Note → List Ask
asked [] = []
asked (n ∷ ns) = ask_of n ∷ asked ns

length-asked : (ns : List Note) → length (asked ns) ≡ length ns
length-asked [] = refl
length-asked (n ∷ ns) = ap suc (length-asked ns)

asked-push : (ns : List Note) (n : Note) → asked (ns ++ n ∷ []) ≡ asked ns ++ ask_of n ∷ []
asked-push [] n = refl
asked-push (x ∷ ns) n = ap (λ (xs : List Ask). ask_of x ∷ xs) (asked-push ns n)

is_some-or : {A : Type 0} → (a b : Option A) → is_some a ≡ true → option_or a b ≡ a
is_some-or None b h = absurd (cc)
is_some-or (Some x) b h = refl

-- one more note changes nothing that was noted
note_on-more : (ns : List Note) (n : Note) (a : Ask) → is_noted ns a ≡ true → note_on (ns ++ n ∷ []) a ≡ note_on ns a
note_on-more ns n (asks.Row map key) h =
    find-append (is_of_row map key) ns (n ∷ []) ∙ is_some-or (find (is_of_row map key) ns) (find (is_of_row map key) (n ∷ [])) h
note_on-more ns n (asks.Map map) h =
    find-append (is_of_map map) ns (n ∷ []) ∙ is_some-or (find (is_of_map map) ns) (find (is_of_map map) (n ∷ [])) h

is_noted-more : (ns : List Note) (n : Note) (a : Ask) → is_noted ns a ≡ true → is_noted (ns ++ n ∷ []) a ≡ true
is_noted-more ns n a h = ap (λ (o : Option Note). is_some o) (note_on-more ns n a h) ∙ h

alike-more : (ns : List Note) (n : Note) → AreAlike (is_noted ns) (sees_by ns) (sees_by (ns ++ n ∷ []))
alike-more ns n (asks.Row map key) h = sym (ap value_in_note (note_on-more ns n (asks.Row map key) h))
alike-more ns n (asks.Map map) h = sym (ap size_in_note (note_on-more ns n (asks.Map map) h))

is_of_row-itself : (map key : List ℕ) (v : Option (List ℕ)) → is_of_row map key (notes.Row map key v) ≡ true
is_of_row-itself map key v = and_from (same_bytes map map) (same_bytes key key) (same_bytes-itself map) (same_bytes-itself key)

-- what a note among others is of is noted
is_noted-among : (ns : List Note) (a : Ask) → Among (asked ns) a → is_noted ns a ≡ true
is_noted-among [] a h = absurd h
is_noted-among (n ∷ ns) a h = go a n (elim h [ inl e ↦ inl e | inr there ↦ inr (is_noted-among ns a there) ])
  where
    or_there : (b : Bool) (m : Note) (o : Option Note) → is_some o ≡ true → is_some (cond b (Some m) o) ≡ true
    or_there true m o h = refl
    or_there false m o h = h

    go : (a : Ask) (m : Note) → (ask_of m ≡ a) ⊎ (is_noted ns a ≡ true) → is_noted (m ∷ ns) a ≡ true
    go (asks.Row map key) (notes.Row of at v) (inl e) =
        let same_map : of ≡ map = cc in
        let same_key : at ≡ key = cc in
        rw (same_map, same_key, is_of_row-itself map key v) refl
    go (asks.Row map key) (notes.Map of size) (inl e) = absurd (cc)
    go (asks.Map map) (notes.Row of at v) (inl e) = absurd (cc)
    go (asks.Map map) (notes.Map of size) (inl e) = let same_map : of ≡ map = cc in rw (same_map, same_bytes-itself map) refl
    go (asks.Row map key) m (inr there) = or_there (is_of_row map key m) m (find (is_of_row map key) ns) there
    go (asks.Map map) m (inr there) = or_there (is_of_map map m) m (find (is_of_map map) ns) there

is_noted-last : (ns : List Note) (n : Note) → is_noted (ns ++ n ∷ []) (ask_of n) ≡ true
is_noted-last ns n =
    is_noted-among (ns ++ n ∷ []) (ask_of n)
    (subst (λ (xs : List Ask). Among xs (ask_of n)) (sym (asked-push ns n)) (among-back (asked ns) (ask_of n ∷ []) (ask_of n) (inl refl)))

-- the notes are of different asks, and the run on them asks for each before the first that isn't
-- noted
abbrev known_asks : List Operation → List Note → List Ask
known_asks os ns = prefix (is_noted ns) (asks_from os (sees_by ns) [])

record AreReached (os : List Operation) (ns : List Note) : Type 0 where
  pub different : AreDifferent (asked ns)
  pub reached : AllAmong (asked ns) (known_asks os ns)

-- what was asked for up to the next ask is asked for still where that is noted
still_reached : (os : List Operation) (ns : List Note) (n : Note) (a : Ask) → next_ask os ns ≡ Some (ask_of n) →
    Among (known_asks os ns) a → Among (known_asks os (ns ++ n ∷ [])) a
still_reached os ns n a next h =
    let stays = asks_from-stays (is_noted ns) (sees_by ns) (sees_by (ns ++ n ∷ [])) os [] (alike-more ns n) in
    let known = prefix-all (is_noted ns) (is_noted (ns ++ n ∷ [])) (asks_from os (sees_by ns) []) (ask_of n) (is_noted-more ns n) (is_noted-last ns n) next in
    subst (λ (xs : List Ask). Among (prefix (is_noted (ns ++ n ∷ [])) xs) a) stays.1
    (subst (λ (xs : List Ask). Among xs a) (sym (prefix-known (is_noted (ns ++ n ∷ [])) (known_asks os ns) stays.0 known))
    (among-prefix (known_asks os ns) (prefix (is_noted (ns ++ n ∷ [])) stays.0) a h))

next-new : (os : List Operation) (ns : List Note) (n : Note) → next_ask os ns ≡ Some (ask_of n) → Among (asked ns) (ask_of n) → ⊥
next-new os ns n next h =
    let known = is_noted-among ns (ask_of n) h in
    let unknown = found-unknown (is_noted ns) (asks_from os (sees_by ns) []) (ask_of n) next in
    cc (known, unknown)

reached-more : (os : List Operation) (ns : List Note) (n : Note) → AreReached os ns → next_ask os ns ≡ Some (ask_of n) → AreReached os (ns ++ n ∷ [])
reached-more os ns n before next = record {
  different = subst AreDifferent (sym (asked-push ns n)) (different-push (asked ns) (ask_of n) before.different (next-new os ns n next));
  reached = λ a h.
      elim (among-append (asked ns) (ask_of n ∷ []) a (subst (λ (xs : List Ask). Among xs a) (asked-push ns n) h)) [
        | inl f ↦ still_reached os ns n a next (before.reached a f)
        | inr b ↦
            elim b [
              | inl e ↦
                  subst (λ (x : Ask). Among (known_asks os (ns ++ n ∷ [])) x) e
                  (still_reached os ns n (ask_of n) next (prefix-found (is_noted ns) (asks_from os (sees_by ns) []) (ask_of n) next))
              | inr never ↦ absurd never
            ]
      ];
}

reached-all : (os : List Operation) (before ns : List Note) → AreReached os before → AreAskedAfter os before ns → AreReached os (before ++ ns)
reached-all os before [] is h = subst (AreReached os) (sym (append-nil before)) is
reached-all os before (n ∷ ns) is h =
    subst (AreReached os) (append_assoc before (n ∷ []) ns) (reached-all os (before ++ n ∷ []) ns (reached-more os before n is h.0) h.1)

-- at most two notes for each operation
pub length-AreAsked : (os : List Operation) (ns : List Note) → length os ≤ 64 → AreAsked os ns → length ns ≤ 128
length-AreAsked os ns few h =
    let is = reached-all os [] ns (record { different = tt; reached = λ a never. absurd never }) h in
    let begins = prefix-begins (is_noted ns) (asks_from os (sees_by ns) []) in
    let charged : (a : Ask) → Among (asked ns) a → Among (charges_from os (sees_by ns) []) a =
    λ a there.
    elim (asks_from-charged os (sees_by ns) [] a
    (subst (λ (xs : List Ask). Among xs a) begins.1 (among-prefix (known_asks os ns) begins.0 a (is.reached a there)))) [ inl c ↦ c | inr never ↦ absurd never ] in
    let within = length-different (asked ns) (charges_from os (sees_by ns) []) is.different charged in
    omega (arith, within, length-asked ns, length-charges_from os (sees_by ns) [])

asked_after-push : (os : List Operation) (before ns : List Note) (n : Note) → AreAskedAfter os before ns → next_ask os (before ++ ns) ≡ Some (ask_of n) →
    AreAskedAfter os before (ns ++ n ∷ [])
asked_after-push os before [] n h next = (subst (λ (xs : List Note). next_ask os xs ≡ Some (ask_of n)) (append-nil before) next, tt)
asked_after-push os before (x ∷ ns) n h next =
    (h.0, asked_after-push os (before ++ x ∷ []) ns n h.1 (subst (λ (xs : List Note). next_ask os xs ≡ Some (ask_of n)) (sym (append_assoc before (x ∷ []) ns)) next))

-- one more note, of what is asked for next
pub AreAsked-push : (os : List Operation) (ns : List Note) (n : Note) → AreAsked os ns → next_ask os ns ≡ Some (ask_of n) → AreAsked os (ns ++ n ∷ [])
AreAsked-push os ns n h next = asked_after-push os [] ns n h next
