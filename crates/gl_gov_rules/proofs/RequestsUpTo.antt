-- The requests up to a seqno, with one request more, and where all are up to it.
use Rattle.std.proofs.Common.{◌≡◌, ℕ, ◌≤◌, ◌<◌, nat_le, List, [], ◌∷◌, ◌++◌, true, false, refl, ◌∙◌, ap, append-nil, le-leb}
use Rattle.std.specs.List.{AllByRecursion}
use Rattle.std.proofs.lemmas.Bool.{lt-leb}
use Rattle.std.proofs.lemmas.List.Elements.{filter-append}
use Rattle.gl_gov_rules.specs.declared.change.Recorded.{Recorded}
use Rattle.gl_gov_rules.specs.Governed.{up_to}

alone_kept : (to : ℕ) (r : Recorded) → nat_le r.seqno to ≡ true → up_to to (r ∷ []) ≡ r ∷ []
alone_kept to r e = rw e refl

alone_gone : (to : ℕ) (r : Recorded) → nat_le r.seqno to ≡ false → up_to to (r ∷ []) ≡ []
alone_gone to r e = rw e refl

-- one more that is up to the seqno stays
pub up_to-push : (to : ℕ) (rs : List Recorded) (r : Recorded) → r.seqno ≤ to → up_to to (rs ++ r ∷ []) ≡ up_to to rs ++ r ∷ []
up_to-push to rs r low =
    filter-append (λ (x : Recorded). nat_le x.seqno to) rs (r ∷ []) ∙ ap (λ (xs : List Recorded). up_to to rs ++ xs) (alone_kept to r (le-leb r.seqno to low))

-- one more that is above it goes
pub up_to-push_above : (to : ℕ) (rs : List Recorded) (r : Recorded) → to < r.seqno → up_to to (rs ++ r ∷ []) ≡ up_to to rs
up_to-push_above to rs r high =
    filter-append (λ (x : Recorded). nat_le x.seqno to) rs (r ∷ []) ∙ ap (λ (xs : List Recorded). up_to to rs ++ xs) (alone_gone to r (lt-leb r.seqno to high)) ∙ append-nil (up_to to rs)

-- where all are up to it, all stay
pub up_to-all : (to : ℕ) (rs : List Recorded) → AllByRecursion (λ (r : Recorded). r.seqno ≤ to) rs → up_to to rs ≡ rs
up_to-all to [] all = refl
up_to-all to (r ∷ rs) all = let here : nat_le r.seqno to ≡ true = le-leb r.seqno to all.0 in rw here (ap (λ (xs : List Recorded). r ∷ xs) (up_to-all to rs all.1))
