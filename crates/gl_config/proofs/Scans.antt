-- The definitions of the rules as scans of a list.
use Rattle.std.proofs.Common.{◌≡◌, inl, inr, ℕ, ◌+◌, ◌≤◌, List, [], ◌∷◌, Bool, true, false, ◌||◌, ◌&&◌, length, count_by, sum_by, nat_lt, if◌then◌else◌, cond, refl, sym, ap, ◌∙◌, zero-add, arith}
use Rattle.std.specs.List.{list_any, list_all}
use Rattle.std.proofs.lemmas.List.Sums.{sum_by_from}
use Rattle.std.proofs.lemmas.Bool.{cases_lt, lt-ltb, le-ltb, le-leb, lt-leb}
use Rattle.gl_rules.specs.Identity.{NodeId, member, same}
use Rattle.gl_rules.specs.Majority.{tally, majority, quorum}
use Rattle.gl_rules.specs.Configuration.{in_some}
use Rattle.gl_config.specs.declared.configuration.Configuration.{Configuration}
use Rattle.gl_config.specs.Active.{sets_of, upto}

pub member-any : (x : NodeId) (ys : List NodeId) → member x ys ≡ list_any (λ y. same x y) ys
member-any x [] = refl
member-any x (y ∷ ys) = ap (λ t. same x y || t) (member-any x ys)

pub in_some-any : (x : NodeId) (cs : List Configuration) → in_some x (sets_of cs) ≡ list_any (λ c. member x c.nodes) cs
in_some-any x [] = refl
in_some-any x (c ∷ cs) = ap (λ t. member x c.nodes || t) (in_some-any x cs)

pub quorum-all : (votes : NodeId → Bool) (cs : List Configuration) → quorum votes (sets_of cs) ≡ list_all (λ c. majority votes c.nodes) cs
quorum-all votes [] = refl
quorum-all votes (c ∷ cs) = ap (λ t. majority votes c.nodes && t) (quorum-all votes cs)

pub quorum_upto-all : (votes : NodeId → Bool) (seqno : ℕ) (cs : List Configuration) → quorum votes (sets_of (upto seqno cs)) ≡ list_all (λ c. nat_lt seqno c.seqno || majority votes c.nodes) cs
quorum_upto-all votes seqno [] = refl
quorum_upto-all votes seqno (c ∷ cs) =
    let again = quorum_upto-all votes seqno cs in
    elim (cases_lt seqno c.seqno) [
      | inl high ↦ rw (lt-leb c.seqno seqno high, lt-ltb seqno c.seqno high) again
      | inr low ↦ rw (le-leb c.seqno seqno low, le-ltb seqno c.seqno low) (ap (λ t. majority votes c.nodes && t) again)
    ]

pub tally-count : (votes : NodeId → Bool) (xs : List NodeId) → tally votes xs ≡ count_by votes xs
tally-count votes [] = refl
tally-count votes (x ∷ xs) =
    let one : NodeId → ℕ = λ y. cond (votes y) 1 0 in
    ap (λ n. one x + n) (tally-count votes xs) ∙ ap (λ n. n + sum_by one xs) (sym (zero-add (one x))) ∙ sym (sum_by_from one (0 + one x) xs)

pub tally_le : (votes : NodeId → Bool) (xs : List NodeId) → tally votes xs ≤ length xs
tally_le votes [] = omega arith
tally_le votes (x ∷ xs) = go (votes x) (tally_le votes xs)
  where
    go : (t : Bool) → tally votes xs ≤ length xs → (if t then 1 else 0) + tally votes xs ≤ length (x ∷ xs)
    go true h = omega arith
    go false h = omega arith
