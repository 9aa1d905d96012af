-- Reading writes one after the other, as a loop does.
use Rattle.std.proofs.Common.{◌≡◌, ℕ, suc, ◌-◌, ◌+◌, ◌≤◌, ◌<◌, List, [], ◌∷◌, ◌++◌, length, Option, Some, Result, Ok, Err, refl, sym, ap, ◌∙◌, append_assoc, length-append, arith}
use Rattle.std.specs.List.{slice_get}
use Rattle.std.proofs.lemmas.List.{append-nil}
use Rattle.std.proofs.lemmas.Option.{slice_get-get_or}
use Rattle.std.proofs.Math.Seq.{get_or-append_seam}
use Rattle.gl_base.specs.Steps.{◌>>=◌}
use Rattle.gl_base.specs.Cut.{Unread}
use Rattle.gl_vmaps.specs.declared.write.Write.{Write}
use Rattle.gl_entry.specs.declared.fault.EntryFault.{EntryFault}
use Rattle.gl_base.specs.declared.or_no_memory.OrNoMemory.{OrNoMemory}
use Rattle.gl_base.specs.declared.or_no_memory.OrNoMemory.TheVariants as errors
use Rattle.gl_base.specs.Answers.{Fails}
use Rattle.gl_entry.specs.Parsing.{row_of, write_at, writes_from}

-- the last of the writes, if there is one
abbrev pub last_of : List Write → Option Write
last_of ws = slice_get ws (length ws - 1)

last_of-push : (ws : List Write) (w : Write) → last_of (ws ++ w ∷ []) ≡ Some w
last_of-push ws w =
    let long : length (ws ++ w ∷ []) ≡ length ws + 1 = length-append ws (w ∷ []) in
    let place : length (ws ++ w ∷ []) - 1 ≡ length ws = omega arith in
    let within : length ws < length (ws ++ w ∷ []) = omega arith in
    ap (slice_get (ws ++ w ∷ [])) place ∙ slice_get-get_or (ws ++ w ∷ []) (length ws) w within ∙ ap (λ (x : Write). Some x) (get_or-append_seam ws w [] w)

abbrev Reading : Type 0
Reading = Result (List Write × Unread) EntryFault

-- what was read before, and what is still read
abbrev pub with_prefix : List Write → Reading → Reading
with_prefix prefix read = read >>= λ x. Ok (prefix ++ x.0, x.1)

regroup : (prefix : List Write) (w : Write) (read : Reading) → with_prefix prefix (read >>= λ x. Ok (w ∷ x.0, x.1)) ≡ with_prefix (prefix ++ w ∷ []) read
regroup prefix w (Ok x) = ap (λ (ws : List Write). Ok (ws, x.1)) (simp append_assoc)
regroup prefix w (Err f) = refl

-- the writes from the one after these on
abbrev pub suffix : List Write → ℕ → ℕ → Unread → Reading
suffix prefix count i unread = with_prefix prefix (writes_from (i + 1) (row_of (last_of prefix)) (count - i) unread)

pub goes_on : (prefix : List Write) (count i : ℕ) (old new : Unread) (w : Write) (total : Reading) → i < count → write_at (i + 1) (row_of (last_of prefix)) old ≡ Ok (w, new)
    → suffix prefix count i old ≡ total → suffix (prefix ++ w ∷ []) count (i + 1) new ≡ total
unfolding writes_from
goes_on prefix count i old new w total lt h so_far =
    let k : count - i ≡ suc (count - (i + 1)) = omega arith in
    let next : suc (i + 1) ≡ i + 1 + 1 = omega arith in
    let row : Some (w.map, w.key) ≡ row_of (last_of (prefix ++ w ∷ [])) = ap row_of (sym (last_of-push prefix w)) in
    let one : suffix prefix count i old ≡ suffix (prefix ++ w ∷ []) count (i + 1) new = rw (k, h, next, row) (regroup prefix w (writes_from (i + 1 + 1) (row_of (last_of (prefix ++ w ∷ []))) (count - (i + 1)) new)) in
    sym one ∙ so_far

pub ends : (e : OrNoMemory EntryFault) (prefix : List Write) (count i : ℕ) (old : Unread) (total : Reading) → i < count → Fails e (write_at (i + 1) (row_of (last_of prefix)) old)
    → suffix prefix count i old ≡ total → Fails e total
unfolding writes_from
ends errors.NoMemory prefix count i old total lt h so_far = tt
ends (errors.Fault f) prefix count i old total lt h so_far =
    let k : count - i ≡ suc (count - (i + 1)) = omega arith in
    let one : suffix prefix count i old ≡ Err f = rw (k, h) refl in
    sym so_far ∙ one

pub is_done : (prefix : List Write) (count i : ℕ) (old : Unread) (total : Reading) → count ≤ i → suffix prefix count i old ≡ total → total ≡ Ok (prefix, old)
unfolding writes_from
is_done prefix count i old total le so_far =
    let k : count - i ≡ 0 = omega arith in
    let one : suffix prefix count i old ≡ Ok (prefix, old) = rw k (ap (λ (ws : List Write). Ok (ws, old)) (append-nil prefix)) in
    sym so_far ∙ one
