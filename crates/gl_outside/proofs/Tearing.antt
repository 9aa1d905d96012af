-- What writes leave of the bytes, whole and torn.
use Rattle.std.proofs.Common.{◌≡◌, ◌⊎◌, inl, inr, ℕ, ◌+◌, ◌-◌, ◌≤◌, List, ◌∷◌, ◌++◌, length, take, drop, refl, sym, ◌∙◌, ap, subst, arith, append_assoc, length-append, length-take, length-drop}
use Rattle.std.proofs.lemmas.List.{take_at, drop_at, drop-drop, take-take}
use Rattle.gl_outside.specs.Disk.{Step, Kept, Touched, IsImage, LeavesOnly, Leaves, Torn, written}
use Rattle.gl_outside.proofs.Moments.{Images, started, now, goes_on}

pub length-written : (bytes : List ℕ) (at : ℕ) (piece : List ℕ) → at ≤ length bytes → length (written bytes at piece) ≡ at + length piece + (length bytes - (at + length piece))
length-written bytes at piece in_order =
    omega (arith, length-append (take at bytes ++ piece) (drop (at + length piece) bytes), length-append (take at bytes) piece, length-take at bytes, length-drop (at + length piece) bytes)

prefix_size : (bytes : List ℕ) (at : ℕ) (piece : List ℕ) → at ≤ length bytes → length (take at bytes ++ piece) ≡ at + length piece
prefix_size bytes at piece in_order = omega (arith, length-append (take at bytes) piece, length-take at bytes)

pub take-written : (bytes : List ℕ) (at : ℕ) (piece : List ℕ) → at ≤ length bytes → take at (written bytes at piece) ≡ take at bytes
take-written bytes at piece in_order =
    ap (λ (l : List ℕ). take at l) (append_assoc (take at bytes) piece (drop (at + length piece) bytes))
    ∙ take_at (take at bytes) (piece ++ drop (at + length piece) bytes) at (omega (arith, length-take at bytes))

pub drop-written : (bytes : List ℕ) (at : ℕ) (piece : List ℕ) → at ≤ length bytes → drop (at + length piece) (written bytes at piece) ≡ drop (at + length piece) bytes
drop-written bytes at piece in_order = drop_at (take at bytes ++ piece) (drop (at + length piece) bytes) (at + length piece) (prefix_size bytes at piece in_order)

-- a write that was not begun
pub torn_same : (at count : ℕ) (bytes : List ℕ) → Torn at count bytes bytes
torn_same at count bytes = record { before = refl; suffix = refl; no_shorter = omega arith; no_longer = omega arith }

-- a write that was done whole
pub torn_whole : (bytes : List ℕ) (at : ℕ) (piece : List ℕ) → at ≤ length bytes → Torn at (length piece) bytes (written bytes at piece)
torn_whole bytes at piece in_order = record {
  before = take-written bytes at piece in_order;
  suffix = drop-written bytes at piece in_order;
  no_shorter = omega (arith, length-written bytes at piece in_order);
  no_longer = omega (arith, length-written bytes at piece in_order);
}

-- The bytes that reads give are among those that a stop may leave: after a write,
pub reads_written : (past past' : List Step) (bytes bytes' : List ℕ) (at : ℕ) (piece : List ℕ) → at ≤ length bytes
    → past' ≡ Touched at (length piece) ∷ past → bytes' ≡ written bytes at piece → IsImage past bytes → IsImage past' bytes'
reads_written past past' bytes bytes' at piece joined is_past is_bytes left =
    let here : IsImage (Touched at (length piece) ∷ past) (written bytes at piece) = (bytes, left, torn_whole bytes at piece joined) in
    subst (λ (p : List Step). IsImage p bytes') (sym is_past) (subst (IsImage (Touched at (length piece) ∷ past)) (sym is_bytes) here)

-- after one that failed and did nothing,
pub reads_lost : (past past' : List Step) (bytes bytes' : List ℕ) (at count : ℕ)
    → past' ≡ Touched at count ∷ past → bytes' ≡ bytes → IsImage past bytes → IsImage past' bytes'
reads_lost past past' bytes bytes' at count is_past is_bytes left =
    let here : IsImage (Touched at count ∷ past) bytes = (bytes, left, torn_same at count bytes) in
    subst (λ (p : List Step). IsImage p bytes') (sym is_past) (subst (IsImage (Touched at count ∷ past)) (sym is_bytes) here)

-- after a sync,
pub reads_kept : (past past' : List Step) (bytes bytes' : List ℕ) → past' ≡ Kept bytes ∷ past → bytes' ≡ bytes → IsImage past' bytes'
reads_kept past past' bytes bytes' is_past is_bytes =
    subst (λ (p : List Step). IsImage p bytes') (sym is_past) is_bytes

-- and after a call that did no step.
pub reads_stayed : (past past' : List Step) (bytes bytes' : List ℕ) → past' ≡ past → bytes' ≡ bytes → IsImage past bytes → IsImage past' bytes'
reads_stayed past past' bytes bytes' is_past is_bytes left =
    subst (λ (p : List Step). IsImage p bytes') (sym is_past) (subst (IsImage past) (sym is_bytes) left)

same_prefix : (from at : ℕ) (a b : List ℕ) → from ≤ at → take at a ≡ take at b → take from a ≡ take from b
same_prefix from at a b below same =
    sym (take-take from at a below) ∙ ap (λ (l : List ℕ). take from l) same ∙ take-take from at b below

same_back : (from to : ℕ) (a b : List ℕ) → from ≤ to → drop from a ≡ drop from b → drop to a ≡ drop to b
same_back from to a b below same =
    let more : ℕ = to - from in
    let is : from + more ≡ to = omega arith in
    let both : drop (from + more) a ≡ drop (from + more) b = sym (drop-drop more from a) ∙ ap (λ (l : List ℕ). drop more l) same ∙ drop-drop more from b in
    subst (λ (n : ℕ). drop n a ≡ drop n b) is both

-- a write inside a range that was torn already
pub torn_within : (from all at count : ℕ) (old mid new : List ℕ) → from ≤ at → at + count ≤ from + all → Torn from all old mid → Torn at count mid new → Torn from all old new
torn_within from all at count old mid new above below first second = record {
  before = same_prefix from at new mid above second.before ∙ first.before;
  suffix = same_back (at + count) (from + all) new mid below second.suffix ∙ first.suffix;
  no_shorter = omega (arith, first.no_shorter, second.no_shorter);
  no_longer = omega (arith, first.no_longer, second.no_longer);
}

-- one piece after another is one piece
pub written-written : (bytes : List ℕ) (at next : ℕ) (first second : List ℕ) → at ≤ length bytes → next ≡ at + length first
    → written (written bytes at first) next second ≡ written bytes at (first ++ second)
written-written bytes at next first second in_order is =
    let prefix : take next (written bytes at first) ≡ take at bytes ++ first = take_at (take at bytes ++ first) (drop (at + length first) bytes) next (prefix_size bytes at first in_order ∙ sym is) in
    let same : drop (next + length second) (written bytes at first) ≡ drop (next + length second) bytes =
    same_back (at + length first) (next + length second) (written bytes at first) bytes (omega arith) (drop-written bytes at first in_order) in
    let end : next + length second ≡ at + length (first ++ second) = omega (arith, length-append first second) in
    ap (λ (l : List ℕ). l ++ second ++ drop (next + length second) (written bytes at first)) prefix
    ∙ ap (λ (l : List ℕ). take at bytes ++ first ++ second ++ l) same
    ∙ ap (λ (n : ℕ). take at bytes ++ first ++ second ++ drop n bytes) end
    ∙ ap (λ (l : List ℕ). l ++ drop (at + length (first ++ second)) bytes) (append_assoc (take at bytes) first second)

-- One write more, inside a range that may be torn since the bytes were as they are here.
pub tears_on : (base : List ℕ) (from all at count : ℕ) (before mid after : List Step) → from ≤ at → at + count ≤ from + all
    → Leaves (Torn from all base) before mid → after ≡ Touched at count ∷ mid → Leaves (Torn from all base) before after
tears_on base from all at count before mid after above below so_far is =
    let P : List ℕ → Type 0 = Torn from all base in
    let each : Images P (Touched at count ∷ mid) = λ image left. torn_within from all at count base left.0 image above below (now P before mid so_far left.0 left.1) left.2 in
    goes_on P before mid after (Touched at count) so_far is (subst (Images P) (sym is) each)

-- A sync, after which the bytes are as they read.
pub kept_on : (P : List ℕ → Type 0) (before mid after : List Step) (bytes : List ℕ) → Leaves P before mid → after ≡ Kept bytes ∷ mid → P bytes → Leaves P before after
kept_on P before mid after bytes so_far is here =
    let each : Images P (Kept bytes ∷ mid) = λ image left. subst P (sym left) here in
    goes_on P before mid after (Kept bytes) so_far is (subst (Images P) (sym is) each)

-- Before the first write, where the bytes are kept.
pub tears_from : (base : List ℕ) (from all : ℕ) (past : List Step) → LeavesOnly past base → Leaves (Torn from all base) past past
tears_from base from all past keeps = started (Torn from all base) past (λ image left. subst (Torn from all base) (sym (keeps image left)) (torn_same from all base))

-- A sync and nothing else that a stop could tell.
pub after_sync : (past mid after : List Step) (bytes : List ℕ) → mid ≡ Kept bytes ∷ past → after ≡ mid → Leaves (λ image. IsImage past image ⊎ (image ≡ bytes)) past after
after_sync past mid after bytes is same =
    let P : List ℕ → Type 0 = λ image. IsImage past image ⊎ (image ≡ bytes) in
    kept_on P past past after bytes (started P past (λ image left. inl left)) (same ∙ is) (inr refl)
