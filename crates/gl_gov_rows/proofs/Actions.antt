-- Actions read up to the end of their bytes, as a loop does it.
use Rattle.std.proofs.Common.{◌≡◌, ℕ, zero, suc, ◌+◌, ◌-◌, ◌≤◌, ◌<◌, ◌==◌, true, false, List, [], ◌∷◌, ◌++◌, length, Result, Ok, Err, inl, inr, refl, sym, ap, ◌∙◌, append_assoc, length-append, arith}
use Rattle.std.specs.List.{flat_map}
use Rattle.std.proofs.lemmas.List.{append-nil}
use Rattle.std.proofs.lemmas.Grind.{flat_map-append}
use Rattle.gl_base.specs.Steps.{◌>>=◌}
use Rattle.gl_base.specs.Cut.{Unread}
use Rattle.gl_base.specs.Answers.{Fails}
use Rattle.gl_base.specs.declared.fault.CodeFault.{CodeFault}
use Rattle.gl_base.specs.declared.fault.CodeFault.TheVariants.{Trailing}
use Rattle.gl_base.specs.declared.or_no_memory.OrNoMemory.{OrNoMemory}
use Rattle.gl_base.specs.declared.or_no_memory.OrNoMemory.TheVariants.{NoMemory, Fault}
use Rattle.gl_base.specs.Code.{ended}
use Rattle.gl_base.proofs.ByteLists.{AreBytes}
use Rattle.gl_base.proofs.ParsedBytes.{chosen}
use Rattle.gl_requests.specs.declared.action.Action.{Action}
use Rattle.gl_requests.specs.Encoding.{action_bytes}
use Rattle.gl_requests.specs.Parsing.{action_at}
use Rattle.gl_requests.proofs.ActionReadings.{action-encoded}
use Rattle.gl_gov_rules.specs.GovernedRows.{actions_to_end}

-- What was read before, before what is still read.
abbrev pub behind : List Action → Result (List Action) CodeFault → Result (List Action) CodeFault
behind prefix read = read >>= λ xs. Ok (prefix ++ xs)

more : (n : ℕ) (u : Unread) → (length u.bytes == 0) ≡ false → actions_to_end (suc n) u ≡ (action_at u >>= λ first. actions_to_end n first.1 >>= λ rest. Ok (first.0 ∷ rest))
unfolding actions_to_end
more n u some = rw some refl

at_end : (n : ℕ) (u : Unread) → (length u.bytes == 0) ≡ true → actions_to_end n u ≡ Ok []
unfolding actions_to_end
at_end zero u none = rw none refl
at_end (suc n) u none = rw none refl

no_more : (u : Unread) → (length u.bytes == 0) ≡ false → actions_to_end 0 u ≡ Err (Trailing u.at)
unfolding actions_to_end
no_more u some = rw some refl

regroup : (prefix : List Action) (a : Action) (read : Result (List Action) CodeFault) → behind prefix (read >>= λ rest. Ok (a ∷ rest)) ≡ behind (prefix ++ a ∷ []) read
regroup prefix a (Ok rest) = ap (λ (xs : List Action). Ok xs) (sym (append_assoc prefix (a ∷ []) rest))
regroup prefix a (Err fault) = refl

pub goes_on : (prefix : List Action) (count i : ℕ) (old new : Unread) (a : Action) (total : Result (List Action) CodeFault) → i < count → (length old.bytes == 0) ≡ false → action_at old ≡ Ok (a, new)
    → behind prefix (actions_to_end (count - i) old) ≡ total → behind (prefix ++ a ∷ []) (actions_to_end (count - (i + 1)) new) ≡ total
goes_on prefix count i old new a total within some read so_far =
    let left : count - i ≡ suc (count - (i + 1)) = omega arith in
    let turn : behind prefix (actions_to_end (count - i) old) ≡ behind (prefix ++ a ∷ []) (actions_to_end (count - (i + 1)) new) =
    rw (left, more (count - (i + 1)) old some, read) (regroup prefix a (actions_to_end (count - (i + 1)) new)) in
    sym turn ∙ so_far

pub ends : (e : OrNoMemory CodeFault) (prefix : List Action) (count i : ℕ) (old : Unread) (total : Result (List Action) CodeFault) → i < count → (length old.bytes == 0) ≡ false → Fails e (action_at old)
    → behind prefix (actions_to_end (count - i) old) ≡ total → Fails e total
ends NoMemory prefix count i old total within some failed so_far = tt
ends (Fault fault) prefix count i old total within some failed so_far =
    let left : count - i ≡ suc (count - (i + 1)) = omega arith in
    let all : behind prefix (actions_to_end (count - i) old) ≡ Err fault = rw (left, more (count - (i + 1)) old some, failed) refl in
    sym so_far ∙ all

pub is_done : (prefix : List Action) (n : ℕ) (old : Unread) (total : Result (List Action) CodeFault) → (length old.bytes == 0) ≡ true → behind prefix (actions_to_end n old) ≡ total → total ≡ Ok prefix
is_done prefix n old total none so_far =
    let all : behind prefix (actions_to_end n old) ≡ Ok prefix = rw (at_end n old none) (ap (λ (xs : List Action). Ok xs) (append-nil prefix)) in
    sym so_far ∙ all

pub is_over : (prefix : List Action) (count i : ℕ) (old : Unread) (total : Result (List Action) CodeFault) → count ≤ i → (length old.bytes == 0) ≡ false → behind prefix (actions_to_end (count - i) old) ≡ total → total ≡ Err (Trailing old.at)
is_over prefix count i old total over some so_far =
    let left : count - i ≡ 0 = omega arith in
    let all : behind prefix (actions_to_end (count - i) old) ≡ Err (Trailing old.at) = rw (left, no_more old some) refl in
    sym so_far ∙ all

-- the bytes of what was read, and those that are left
pub one_more : (prefix : List Action) (old new : Unread) (a : Action) (count : ℕ) → AreBytes old.bytes → action_at old ≡ Ok (a, new) → length (flat_map action_bytes prefix) + length old.bytes ≡ count
    → (length (flat_map action_bytes (prefix ++ a ∷ [])) + length new.bytes ≡ count) × AreBytes new.bytes
one_more prefix old new a count all read so_far =
    let there = action-encoded old new a all read in
    let both = length-append (action_bytes a) new.bytes in
    let split = ap length (flat_map-append action_bytes prefix (a ∷ [])) in
    let last = ap length (append-nil (action_bytes a)) in
    let parts = length-append (flat_map action_bytes prefix) (flat_map action_bytes (a ∷ [])) in
    let whole = ap length there.parts in
    (omega (arith, both, split, last, parts, whole, so_far), there.left)

-- nothing was left, or the first byte that was is told
pub end_passes : (u : Unread) → ended {X = Unit {0}} (tt, u) ≡ Ok tt → (length u.bytes == 0) ≡ true
end_passes u e = elim (chosen {A = Result (Unit {0}) CodeFault} (length u.bytes == 0) (Ok tt) (Err (Trailing u.at)) (Ok tt) e) [
  | inl all ↦ all.0
  | inr some ↦ cc
]

pub end_fails : (u : Unread) (fault : CodeFault) → ended {X = Unit {0}} (tt, u) ≡ Err fault → ((length u.bytes == 0) ≡ false) × (Trailing u.at ≡ fault)
end_fails u fault e = elim (chosen {A = Result (Unit {0}) CodeFault} (length u.bytes == 0) (Ok tt) (Err (Trailing u.at)) (Err fault) e) [
  | inl all ↦ cc
  | inr some ↦ (some.0, cc)
]
