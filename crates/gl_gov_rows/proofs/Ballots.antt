-- Ballots read one after the other, as a loop does it.
use Rattle.std.proofs.Common.{◌≡◌, ℕ, zero, suc, ◌+◌, ◌-◌, ◌≤◌, ◌<◌, Bool, List, [], ◌∷◌, ◌++◌, Result, Ok, Err, refl, sym, ap, ◌∙◌, append_assoc, arith}
use Rattle.std.proofs.lemmas.List.{append-nil}
use Rattle.gl_base.specs.Steps.{◌>>=◌}
use Rattle.gl_base.specs.Cut.{Unread, number_at}
use Rattle.gl_base.specs.Code.{field, flag_at}
use Rattle.gl_base.specs.Answers.{Fails}
use Rattle.gl_base.specs.declared.fault.CodeFault.{CodeFault}
use Rattle.gl_base.specs.declared.or_no_memory.OrNoMemory.{OrNoMemory}
use Rattle.gl_base.specs.declared.or_no_memory.OrNoMemory.TheVariants.{NoMemory, Fault}
use Rattle.gl_base.proofs.Repeated.{with_prefix}
use Rattle.gl_gov_rules.specs.declared.row.Vote.{Vote}
use Rattle.gl_gov_rules.specs.GovernedRows.{later_member, votes_at}
use Rattle.gl_gov_rows.specs.Reading.{vote_at}

-- the others after a ballot, and both together
abbrev after_vote : ℕ → Vote × Unread → Result (List Vote × Unread) CodeFault
after_vote n v = votes_at n v.0.member v.1 >>= λ rest. Ok (v.0 ∷ rest.0, rest.1)

flag_then : (n : ℕ) (m : ℕ × Unread) (flag : Result (Bool × Unread) CodeFault)
    → (flag >>= λ agrees. votes_at n m.0 agrees.1 >>= λ rest. Ok (record { member = m.0; agrees = agrees.0 } ∷ rest.0, rest.1))
    ≡ ((flag >>= λ agrees. Ok (record { member = m.0; agrees = agrees.0 }, agrees.1)) >>= after_vote n)
flag_then n m (Ok agrees) = refl
flag_then n m (Err fault) = refl

member_then : (n : ℕ) (member : Result (ℕ × Unread) CodeFault)
    → (member >>= λ m. flag_at m.1 >>= λ agrees. votes_at n m.0 agrees.1 >>= λ rest. Ok (record { member = m.0; agrees = agrees.0 } ∷ rest.0, rest.1))
    ≡ ((member >>= λ m. flag_at m.1 >>= λ agrees. Ok (record { member = m.0; agrees = agrees.0 }, agrees.1)) >>= after_vote n)
member_then n (Ok m) = flag_then n m (flag_at m.1)
member_then n (Err fault) = refl

more : (n last : ℕ) (u : Unread) → votes_at (suc n) last u ≡ (vote_at last u >>= after_vote n)
unfolding votes_at vote_at
more n last u = member_then n (field (number_at 1 u) >>= later_member last u.at)

none : (last : ℕ) (u : Unread) → votes_at zero last u ≡ Ok ([], u)
unfolding votes_at
none last u = refl

regroup : (prefix : List Vote) (v : Vote) (read : Result (List Vote × Unread) CodeFault)
    → with_prefix prefix (read >>= λ rest. Ok (v ∷ rest.0, rest.1)) ≡ with_prefix (prefix ++ v ∷ []) read
regroup prefix v (Ok rest) = ap (λ (xs : List Vote). Ok (xs, rest.1)) (sym (append_assoc prefix (v ∷ []) rest.0))
regroup prefix v (Err fault) = refl

pub goes_on : (prefix : List Vote) (count i last : ℕ) (old new : Unread) (v : Vote) (total : Result (List Vote × Unread) CodeFault) → i < count → vote_at last old ≡ Ok (v, new)
    → with_prefix prefix (votes_at (count - i) last old) ≡ total → with_prefix (prefix ++ v ∷ []) (votes_at (count - (i + 1)) v.member new) ≡ total
goes_on prefix count i last old new v total within read so_far =
    let left : count - i ≡ suc (count - (i + 1)) = omega arith in
    let turn : with_prefix prefix (votes_at (count - i) last old) ≡ with_prefix (prefix ++ v ∷ []) (votes_at (count - (i + 1)) v.member new) =
    rw (left, more, read) (regroup prefix v (votes_at (count - (i + 1)) v.member new)) in
    sym turn ∙ so_far

pub ends : (e : OrNoMemory CodeFault) (prefix : List Vote) (count i last : ℕ) (old : Unread) (total : Result (List Vote × Unread) CodeFault) → i < count → Fails e (vote_at last old)
    → with_prefix prefix (votes_at (count - i) last old) ≡ total → Fails e total
ends NoMemory prefix count i last old total within failed so_far = tt
ends (Fault fault) prefix count i last old total within failed so_far =
    let left : count - i ≡ suc (count - (i + 1)) = omega arith in
    let all : with_prefix prefix (votes_at (count - i) last old) ≡ Err fault = rw (left, more, failed) refl in
    sym so_far ∙ all

pub is_done : (prefix : List Vote) (count i last : ℕ) (new : Unread) (total : Result (List Vote × Unread) CodeFault) → count ≤ i → with_prefix prefix (votes_at (count - i) last new) ≡ total → total ≡ Ok (prefix, new)
is_done prefix count i last new total over so_far =
    let left : count - i ≡ 0 = omega arith in
    let all : with_prefix prefix (votes_at (count - i) last new) ≡ Ok (prefix, new) = rw (left, none) (ap (λ (xs : List Vote). Ok (xs, new)) (append-nil prefix)) in
    sym so_far ∙ all
