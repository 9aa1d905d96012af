-- The words of operations, operation by operation.
use Rattle.std.proofs.Common.{◌≡◌, ℕ, zero, suc, ◌+◌, ◌<◌, ◌≤◌, Bool, true, false, List, [], ◌∷◌, ◌++◌, length, take, drop, Option, None, Some, refl, sym, ◌∙◌, ap, arith, append_assoc, append-nil, add-one, codes, Bor, if◌then◌else◌}
use Rattle.gl_lines.specs.Words.{is}
use Rattle.gl_lines.specs.Operations.{arity, groups, groups_of}
use Rattle.gl_lines.specs.Groups.{group_before}
use Rattle.gl_lines.specs.Parts.{bytes_of}

-- words that an operation still asks for are taken
taken : (so_far : List (List ℕ)) (n : ℕ) (words : List (Bor (List ℕ))) → n ≤ length words →
    groups so_far (Some n) (bytes_of words) ≡ groups (so_far ++ bytes_of (take n words)) (Some 0) (bytes_of (drop n words))
taken so_far zero words enough = ap (λ (s : List (List ℕ)). groups s (Some 0) (bytes_of words)) (sym (append-nil so_far))
taken so_far (suc n) [] enough = absurd (omega arith)
taken so_far (suc n) (word ∷ words) enough =
    taken (so_far ++ word.now ∷ []) n words (omega arith)
    ∙ ap (λ (s : List (List ℕ)). groups s (Some 0) (bytes_of (drop n words))) (append_assoc so_far (word.now ∷ []) (bytes_of (take n words)))

-- or they are missing
missing : (so_far : List (List ℕ)) (n : ℕ) (words : List (Bor (List ℕ))) → length words < n → groups so_far (Some n) (bytes_of words) ≡ None
missing so_far zero words few = absurd (omega arith)
missing so_far (suc n) [] few = refl
missing so_far (suc n) (word ∷ words) few = missing (so_far ++ word.now ∷ []) n words (omega arith)

either_way : (b : Bool) (A : Type 0) → ◌≡◌ {A = Option A} None (if b then None else None)
either_way true A = refl
either_way false A = refl

-- what stands after an operation
after_group : (group : List (List ℕ)) (word : List ℕ) (words : List (List ℕ)) →
    groups group (Some 0) (word ∷ words) ≡ (if is word (codes ";") then group_before group (Some words) else None)
after_group group word [] = either_way (is word (codes ";")) (List (List (List ℕ)))
after_group group word (name ∷ words) = refl

-- the words up to the end of the first operation
group_prefix : (words others : List (Bor (List ℕ))) (name : Bor (List ℕ)) (n : ℕ) → words ≡ name ∷ others → arity name.now ≡ Some n → n < length words →
    groups_of (bytes_of words) ≡ groups (bytes_of (take (n + 1) words)) (Some 0) (bytes_of (drop (n + 1) words))
group_prefix words others name n first asks enough =
    let after : (List (Bor (List ℕ)) → ℕ → Option (List (List (List ℕ)))) = λ ws m. groups (bytes_of (take m ws)) (Some 0) (bytes_of (drop m ws)) in
    ap (λ (ws : List (Bor (List ℕ))). groups_of (bytes_of ws)) first
    ∙ ap (λ (o : Option ℕ). groups (name.now ∷ []) o (bytes_of others)) asks
    ∙ taken (name.now ∷ []) n others (omega (arith, ap length first))
    ∙ ap (λ (m : ℕ). after (name ∷ others) m) (sym (add-one n))
    ∙ ap (λ (ws : List (Bor (List ℕ))). after ws (n + 1)) (sym first)

pub group_missing : (words others : List (Bor (List ℕ))) (name : Bor (List ℕ)) (n : ℕ) → words ≡ name ∷ others → arity name.now ≡ Some n → length words ≤ n →
    groups_of (bytes_of words) ≡ None
group_missing words others name n first asks few =
    ap (λ (ws : List (Bor (List ℕ))). groups_of (bytes_of ws)) first
    ∙ ap (λ (o : Option ℕ). groups (name.now ∷ []) o (bytes_of others)) asks
    ∙ missing (name.now ∷ []) n others (omega (arith, ap length first))

empty : {A : Type 0} (xs : List A) → length xs ≡ 0 → xs ≡ []
empty [] none = refl
empty (x ∷ xs) none = absurd (omega arith)

-- the operation is the last
pub group_last : (words others prefix after : List (Bor (List ℕ))) (name : Bor (List ℕ)) (n : ℕ) → words ≡ name ∷ others → arity name.now ≡ Some n → n < length words →
    prefix ≡ take (n + 1) words → after ≡ drop (n + 1) words → length after ≡ 0 → groups_of (bytes_of words) ≡ Some (bytes_of prefix ∷ [])
group_last words others prefix after name n first asks enough taken left none =
    group_prefix words others name n first asks enough
    ∙ ap (λ (ws : List (Bor (List ℕ))). groups (bytes_of ws) (Some 0) (bytes_of (drop (n + 1) words))) (sym taken)
    ∙ ap (λ (ws : List (Bor (List ℕ))). groups (bytes_of prefix) (Some 0) (bytes_of ws)) (sym left ∙ empty after none)

-- others follow after a semicolon
pub group_first : (words others prefix after rest : List (Bor (List ℕ))) (name semicolon : Bor (List ℕ)) (n : ℕ) → words ≡ name ∷ others → arity name.now ≡ Some n → n < length words →
    prefix ≡ take (n + 1) words → after ≡ drop (n + 1) words → after ≡ semicolon ∷ rest → is semicolon.now (codes ";") ≡ true →
    groups_of (bytes_of words) ≡ group_before (bytes_of prefix) (Some (bytes_of rest))
group_first words others prefix after rest name semicolon n first asks enough taken left next apart =
    group_prefix words others name n first asks enough
    ∙ ap (λ (ws : List (Bor (List ℕ))). groups (bytes_of ws) (Some 0) (bytes_of (drop (n + 1) words))) (sym taken)
    ∙ ap (λ (ws : List (Bor (List ℕ))). groups (bytes_of prefix) (Some 0) (bytes_of ws)) (sym left ∙ next)
    ∙ after_group (bytes_of prefix) semicolon.now (bytes_of rest)
    ∙ ap (λ (b : Bool). if b then group_before (bytes_of prefix) (Some (bytes_of rest)) else None) apart

-- another word follows
pub group_unread : (words others prefix after rest : List (Bor (List ℕ))) (name word : Bor (List ℕ)) (n : ℕ) → words ≡ name ∷ others → arity name.now ≡ Some n → n < length words →
    prefix ≡ take (n + 1) words → after ≡ drop (n + 1) words → after ≡ word ∷ rest → is word.now (codes ";") ≡ false → groups_of (bytes_of words) ≡ None
group_unread words others prefix after rest name word n first asks enough taken left next other =
    group_prefix words others name n first asks enough
    ∙ ap (λ (ws : List (Bor (List ℕ))). groups (bytes_of ws) (Some 0) (bytes_of (drop (n + 1) words))) (sym taken)
    ∙ ap (λ (ws : List (Bor (List ℕ))). groups (bytes_of prefix) (Some 0) (bytes_of ws)) (sym left ∙ next)
    ∙ after_group (bytes_of prefix) word.now (bytes_of rest)
    ∙ ap (λ (b : Bool). if b then group_before (bytes_of prefix) (Some (bytes_of rest)) else None) other
