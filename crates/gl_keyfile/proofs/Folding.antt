-- What the records of a leaf fold into.
use Rattle.std.proofs.Common.{◌≡◌, ℕ, ◌+◌, ◌<◌, ◌≤◌, Bool, false, ◌||◌, nat_lt, if◌then◌else◌, List, [], ◌∷◌, None, Some, refl, ◌∙◌, ap, arith, le-ltb}
use Rattle.gl_journal.specs.Records.{RecordValue, Signer, Start as StartRecord, then_some}
use Rattle.gl_journal.specs.Durable.{Durable, LogRules, fold_records, leaf_count}
use Rattle.gl_keyfile.specs.Leaf.{after_leaf, after_leaves}
use Rattle.gl_keyfile.specs.declared.leaf.LeafUse.{LeafUse}
use Rattle.gl_keyfile.specs.declared.leaf.LeafUse.TheVariants.{Signature, Start}

neither : (a b : Bool) → a ≡ false → b ≡ false → (a || b) ≡ false
neither a b na nb = ap (λ (x : Bool). x || b) na ∙ nb

signer_one : (goes_on : LogRules) (s : Durable) (n : ℕ) (rest : List RecordValue) → s.reserved ≤ n → n ≤ leaf_count s → fold_records goes_on s (Signer n ∷ rest) ≡ fold_records goes_on (record s { reserved = n }) rest
signer_one goes_on s n rest low high =
    ap (λ (b : Bool). then_some (if b then None else Some (record s { reserved = n })) (λ next. fold_records goes_on next rest))
    (neither (nat_lt n s.reserved) (nat_lt (leaf_count s) n) (le-ltb n s.reserved low) (le-ltb (leaf_count s) n high))

start_one : (goes_on : LogRules) (s : Durable) (n : ℕ) (rest : List RecordValue) → n ≤ leaf_count s → fold_records goes_on s (StartRecord n ∷ rest) ≡ fold_records goes_on (record s { start = Some n }) rest
start_one goes_on s n rest high =
    ap (λ (b : Bool). then_some (if b then None else Some (record s { start = Some n })) (λ next. fold_records goes_on next rest)) (le-ltb (leaf_count s) n high)

-- the record of a leaf
pub signature_folds : (goes_on : LogRules) (s : Durable) (n : ℕ) → n ≡ s.reserved + 1 → s.reserved < leaf_count s → fold_records goes_on s (Signer n ∷ []) ≡ Some (after_leaf Signature s)
signature_folds goes_on s n next below =
    signer_one goes_on s n [] (omega arith) (omega arith) ∙ ap (λ (m : ℕ). Some (record s { reserved = m })) next

-- the records of a leaf that a start spends
pub start_folds : (goes_on : LogRules) (s : Durable) (n : ℕ) → n ≡ s.reserved + 1 → s.reserved < leaf_count s → fold_records goes_on s (Signer n ∷ StartRecord n ∷ []) ≡ Some (after_leaf Start s)
start_folds goes_on s n next below =
    signer_one goes_on s n (StartRecord n ∷ []) (omega arith) (omega arith) ∙ start_one goes_on (record s { reserved = n }) n [] (omega arith)
    ∙ ap (λ (m : ℕ). Some (record s { reserved = m; start = Some m })) next

pub reserved_after : (leaf_use : LeafUse) (s : Durable) → (after_leaf leaf_use s).reserved ≡ s.reserved + 1
reserved_after Signature s = refl
reserved_after Start s = refl

pub reserved_later : (others : List LeafUse) (s : Durable) → s.reserved ≤ (after_leaves others s).reserved
reserved_later [] s = omega arith
reserved_later (leaf_use ∷ others) s = omega (arith, reserved_after leaf_use s, reserved_later others (after_leaf leaf_use s))
