-- The active configurations of an ascending list are its end: from the last one at or below commit
-- on.
use Rattle.std.proofs.Common.{◌≡◌, inl, inr, ℕ, zero, suc, ◌≤◌, ◌<◌, List, [], ◌∷◌, length, take, take_all, drop, length-drop, subst, ◌-◌, get_or, refl, sym, ap, ◌∙◌, arith}
use Rattle.std.specs.List.{All, AllPairs}
use Rattle.std.proofs.lemmas.List.Elements.{All-head, All-tail}
use Rattle.std.proofs.lemmas.Bool.{cases_lt, lt-ltb, le-ltb, le-leb, lt-leb}
use Rattle.gl_config.specs.declared.configuration.Configuration.{Configuration}
use Rattle.gl_config.specs.Active.{upto, above, last_of, active_of}

-- in the order of their seqnos
abbrev pub IsAscending : List Configuration → Type 0
IsAscending cs = AllPairs (λ c d. c.seqno < d.seqno) cs

pub ascending_tail : (c : Configuration) (cs : List Configuration) → IsAscending (c ∷ cs) → IsAscending cs
ascending_tail c cs h = λ i j d low high. h (suc i) (suc j) d (omega arith) (omega arith)

pub ascending_head : (c : Configuration) (cs : List Configuration) → IsAscending (c ∷ cs) → All (λ d. c.seqno < d.seqno) cs
ascending_head c cs h = λ j d lt. h 0 (suc j) d (omega arith) (omega arith)

upto_none : (commit : ℕ) (cs : List Configuration) → All (λ d. commit < d.seqno) cs → upto commit cs ≡ []
upto_none commit [] h = refl
upto_none commit (c ∷ cs) h = rw (lt-leb c.seqno commit (All-head (λ d. commit < d.seqno) c cs h)) (upto_none commit cs (All-tail (λ d. commit < d.seqno) c cs h))

above_all : (commit : ℕ) (cs : List Configuration) → All (λ d. commit < d.seqno) cs → above commit cs ≡ cs
above_all commit [] h = refl
above_all commit (c ∷ cs) h =
    rw (lt-ltb commit c.seqno (All-head (λ d. commit < d.seqno) c cs h)) (ap (λ r. c ∷ r) (above_all commit cs (All-tail (λ d. commit < d.seqno) c cs h)))

-- all but the first are above commit
ends : (a : Configuration) (cs : List Configuration) (commit : ℕ) → All (λ d. commit < d.seqno) cs → active_of (a ∷ cs) commit ≡ a ∷ cs
unfolding active_of last_of
ends a cs commit h =
    elim (cases_lt commit a.seqno) [
      | inl high ↦ rw (lt-leb a.seqno commit high, lt-ltb commit a.seqno high, upto_none commit cs h, above_all commit cs h) refl
      | inr low ↦ rw (le-leb a.seqno commit low, le-ltb commit a.seqno low, upto_none commit cs h, above_all commit cs h) refl
    ]

-- the second one is at or below commit, too
skips : (a b : Configuration) (cs : List Configuration) (commit : ℕ) → a.seqno < b.seqno → b.seqno ≤ commit → active_of (b ∷ cs) commit ≡ active_of (a ∷ b ∷ cs) commit
unfolding active_of last_of
skips a b cs commit below here =
    rw (le-leb b.seqno commit here, le-ltb commit b.seqno here, le-leb a.seqno commit (omega arith), le-ltb commit a.seqno (omega arith)) refl

pub active_of-drop : (rest : List Configuration) (commit : ℕ) (d : Configuration) → IsAscending rest → 1 < length rest → (get_or rest 1 d).seqno ≤ commit
    → IsAscending (drop 1 rest) × (active_of (drop 1 rest) commit ≡ active_of rest commit)
active_of-drop [] commit d h more here = absurd (omega arith)
active_of-drop (a ∷ []) commit d h more here = absurd (omega arith)
active_of-drop (a ∷ b ∷ cs) commit d h more here = (ascending_tail a (b ∷ cs) h, skips a b cs commit (h 0 1 d (omega arith) (omega arith)) here)

above_later : (b : Configuration) (cs : List Configuration) (commit : ℕ) → commit < b.seqno → IsAscending (b ∷ cs) → All (λ d. commit < d.seqno) (b ∷ cs)
above_later b cs commit high h = λ k d lt. go k d lt
  where
    go : (k : ℕ) (d : Configuration) → k < length (b ∷ cs) → commit < (get_or (b ∷ cs) k d).seqno
    go zero d lt = high
    go (suc k) d lt = let later : b.seqno < (get_or cs k d).seqno = h 0 (suc k) d (omega arith) lt in omega arith

pub active_of-end : (rest : List Configuration) (commit : ℕ) (d : Configuration) → IsAscending rest → (1 < length rest → commit < (get_or rest 1 d).seqno) → active_of rest commit ≡ rest
unfolding active_of last_of
active_of-end [] commit d h high = refl
active_of-end (a ∷ []) commit d h high = ends a [] commit (λ k e lt. absurd (omega arith))
active_of-end (a ∷ b ∷ cs) commit d h high = ends a (b ∷ cs) commit (above_later b cs commit (high (omega arith)) (ascending_tail a (b ∷ cs) h))

-- the same of what is left of the list as code takes it
pub active_of-rest : (rest : List Configuration) (commit : ℕ) (d : Configuration) → IsAscending rest → 1 < length rest → (get_or rest 1 d).seqno ≤ commit
    → IsAscending (take (length rest - 1) (drop 1 rest)) × (active_of (take (length rest - 1) (drop 1 rest)) commit ≡ active_of rest commit)
active_of-rest rest commit d h more here =
    let parts = active_of-drop rest commit d h more here in
    let whole : take (length rest - 1) (drop 1 rest) ≡ drop 1 rest = take_all (length rest - 1) (drop 1 rest) (omega (arith, length-drop 1 rest)) in
    (subst IsAscending (sym whole) parts.0, ap (λ cs. active_of cs commit) whole ∙ parts.1)
