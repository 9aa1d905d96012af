-- The entries of an Append: their frames read back, and what reads are frames of entries in order
-- and within the limits.
use Rattle.std.proofs.Common.{◌≡◌, ℕ, zero, suc, ◌+◌, ◌≤◌, ◌<◌, ◌==◌, nat_le, nat_lt, Bool, true, false, cond, ◌&&◌, ◌||◌, List, [], ◌∷◌, length, Result, Ok, Err, refl, ap, ap₂, subst, length-append, arith}
use Rattle.std.specs.List.{list_all}
use Rattle.std.proofs.lemmas.Bool.{and_parts, and_from}
use Rattle.std.proofs.lemmas.Bool.Decides.{nat_tests}
use Rattle.gl_base.specs.Cut.{Unread}
use Rattle.gl_base.specs.declared.fault.CodeFault.TheVariants as codes
use Rattle.gl_base.proofs.Steps.{bind_ok, ok_injective, cond_ok}
use Rattle.gl_base.proofs.ByteLists.{AreBytes}
use Rattle.gl_base.proofs.RowLaws.{Took}
use Rattle.gl_entry.specs.Entry.{body_limit, is_entry, frame_bytes, frame_size}
use Rattle.gl_entry.specs.Parsing.{frame_at}
use Rattle.gl_entry.specs.declared.entry.Entry.{Entry}
use Rattle.gl_entry.specs.declared.fault.EntryFault.{EntryFault}
use Rattle.gl_entry.proofs.EntryLaws.{frame-encoded, frame-reads, length-frame_bytes}
use Rattle.gl_entry.proofs.Parts.{took_then, Lies, lie_both}
use Rattle.gl_messages.specs.Message.{most_entries, most_bytes, frames_bytes, frames_size, has_fitting_body, are_within, entries_fit, are_after}
use Rattle.gl_messages.specs.MessageReading.{view_in, seqno_in, in_order, has_room, roomy, placed_at, entry_in, entry_at, with_entry, entries_at}
use Rattle.gl_messages.specs.declared.append.Before.{Before}
use Rattle.gl_messages.specs.declared.fault.MessageFault.{MessageFault}
use Rattle.gl_messages.specs.declared.fault.MessageFault.TheVariants as faults

-- ---- one entry

-- An entry that may stand there.
pub record Follows (most : ℕ) (before : Before) (e : Entry) : Type 0 where
  pub room : has_room before (frame_size e) ≡ true
  pub low : before.view ≤ e.view
  pub high : e.view ≤ most
  pub next : e.seqno ≡ before.seqno + 1

kept : {A E : Type 0} (b : Bool) (x : A) (f : E) (y : A) → ◌≡◌ {A = Result A E} (cond b (Ok x) (Err f)) (Ok y) → b ≡ true
kept true x f y e = refl
kept false x f y e = absurd cc

view_in_ok : (most before view v : ℕ) → view_in most before view ≡ Ok v → (before ≤ view) × (view ≤ most)
view_in_ok most before view v e =
    let a = cond_ok {A = ℕ} {E = MessageFault} (nat_lt view before) (faults.Order before view) (cond (nat_lt most view) (Err (faults.Order most view)) (Ok view)) v e in
    let b = cond_ok {A = ℕ} {E = MessageFault} (nat_lt most view) (faults.Order most view) (Ok view) v a.1 in
    (grind (arith, nat_tests, a.0), grind (arith, nat_tests, b.0))

seqno_in_ok : (before seqno n : ℕ) → seqno_in before seqno ≡ Ok n → seqno ≡ before + 1
seqno_in_ok before seqno n e =
    let is = kept {A = ℕ} {E = MessageFault} (seqno == before + 1) seqno _ n e in
    grind (arith, nat_tests, is)

entry_in_ok : (most : ℕ) (before : Before) (unread : Unread) (r : Result (Entry × Unread) EntryFault) (read : Entry × Unread) → entry_in most before unread r ≡ Ok read
    → (r ≡ Ok read) × Follows most before read.0
entry_in_ok most before unread (Err fault) read e =
    let placed = bind_ok {E = MessageFault} (placed_at most before unread) _ read e in
    let never = placed.2 in
    absurd cc
entry_in_ok most before unread (Ok x) read e =
    let fitting = bind_ok {E = MessageFault} (roomy before unread.at x.0) _ read e in
    let placed = bind_ok {E = MessageFault} (in_order most before x.0.view x.0.seqno) _ read fitting.2 in
    let same : x ≡ read = ok_injective {E = MessageFault} x read placed.2 in
    let view = bind_ok {E = MessageFault} (view_in most before.view x.0.view) _ placed.0 placed.1 in
    let limits = view_in_ok most before.view x.0.view view.0 view.1 in
    let follows : Follows most before x.0 = record {
      room = kept {E = MessageFault} (has_room before (frame_size x.0)) x.0 (faults.Code (codes.Value unread.at)) fitting.0 fitting.1;
      low = limits.0;
      high = limits.1;
      next = seqno_in_ok before.seqno x.0.seqno placed.0 view.2;
    } in
    (ap (λ (p : Entry × Unread). Ok p) same, subst (λ (p : Entry × Unread). Follows most before p.0) same follows)

entry_ok : (most : ℕ) (before : Before) (unread : Unread) (read : Entry × Unread) → entry_at most before unread ≡ Ok read → (frame_at unread ≡ Ok read) × Follows most before read.0
unfolding entry_at
entry_ok most before unread read e = entry_in_ok most before unread (frame_at unread) read e

entry_finds : (most : ℕ) (before : Before) (e : Entry) (old new : Unread) → is_entry e ≡ true → Follows most before e → Lies (frame_bytes e) old new → entry_at most before old ≡ Ok (e, new)
unfolding entry_at
entry_finds most before e old new is follows there =
    let read = frame-reads e old new is there in
    let low : nat_lt e.view before.view ≡ false = grind (arith, nat_tests, follows.low) in
    let high : nat_lt most e.view ≡ false = grind (arith, nat_tests, follows.high) in
    let next : (e.seqno == before.seqno + 1) ≡ true = grind (arith, nat_tests, follows.next) in
    rw (read, follows.room, low, high, next) refl

-- ---- room

-- Each entry has room after those before it.
abbrev pub rooms : Before → List Entry → Bool
rooms before [] = true
rooms before (e ∷ es) = has_room before (frame_size e) && rooms (with_entry before e) es

some_size : (e : Entry) → 8 ≤ frame_size e
some_size e = omega arith

rooms_sum : (es : List Entry) (before : Before) → 0 < before.size → rooms before es ≡ true → 1 ≤ length es → before.size + frames_size es ≤ most_bytes
rooms_sum [] before some are least = absurd (omega arith)
rooms_sum (e ∷ []) before some are least =
    let parts = and_parts (has_room before (frame_size e)) (rooms (with_entry before e) []) are in
    grind (arith, nat_tests, parts.0)
rooms_sum (e ∷ f ∷ es) before some are least =
    let parts = and_parts (has_room before (frame_size e)) (rooms (with_entry before e) (f ∷ es)) are in
    let more = rooms_sum (f ∷ es) (with_entry before e) (omega (arith, some)) parts.1 (omega arith) in
    omega (arith, more)

sum_rooms : (es : List Entry) (before : Before) → before.size + frames_size es ≤ most_bytes → rooms before es ≡ true
sum_rooms [] before within = refl
sum_rooms (e ∷ es) before within =
    let room : has_room before (frame_size e) ≡ true = grind (arith, nat_tests, within) in
    let more = sum_rooms es (with_entry before e) (omega (arith, within)) in
    and_from (has_room before (frame_size e)) (rooms (with_entry before e) es) room more

pub rooms_within : (es : List Entry) (before : Before) → before.size ≡ 0 → rooms before es ≡ true → are_within es ≡ true
rooms_within [] before none are = refl
rooms_within (e ∷ []) before none are = refl
rooms_within (e ∷ f ∷ es) before none are =
    let parts = and_parts (has_room before (frame_size e)) (rooms (with_entry before e) (f ∷ es)) are in
    let sum = rooms_sum (f ∷ es) (with_entry before e) (omega (arith, some_size e)) parts.1 (omega arith) in
    let all : frames_size (e ∷ f ∷ es) ≤ most_bytes = omega (arith, sum, none) in
    grind (arith, nat_tests, all)

pub within_rooms : (es : List Entry) (before : Before) → before.size ≡ 0 → are_within es ≡ true → rooms before es ≡ true
within_rooms [] before none is = refl
within_rooms (e ∷ []) before none is =
    let first : has_room before (frame_size e) ≡ true = grind (arith, nat_tests, none) in
    rw first refl
within_rooms (e ∷ f ∷ es) before none is =
    let all : frames_size (e ∷ f ∷ es) ≤ most_bytes = grind (arith, nat_tests, is) in
    let first : has_room before (frame_size e) ≡ true = grind (arith, nat_tests, none) in
    let more = sum_rooms (f ∷ es) (with_entry before e) (omega (arith, all, none)) in
    and_from (has_room before (frame_size e)) (rooms (with_entry before e) (f ∷ es)) first more

-- ---- all of them

pub record TookEntries (most : ℕ) (before : Before) (count : ℕ) (es : List Entry) (old new : Unread) : Type 0 where
  pub took : Took (frames_bytes es) (list_all is_entry es) old new
  pub suffix : are_after most before.view before.seqno es ≡ true
  pub room : rooms before es ≡ true
  pub counted : length es ≡ count

pub entries_take : (most : ℕ) (before : Before) (count : ℕ) (old : Unread) (read : List Entry × Unread) → AreBytes old.bytes → entries_at most before count old ≡ Ok read → TookEntries most before count read.0 old read.1
unfolding entries_at
entries_take most before zero old read all e =
    let gave : List Entry × Unread = ([], old) in
    let same : gave ≡ read = ok_injective {E = MessageFault} gave read e in
    let nothing : Took [] true old old = record { bytes = refl; place = omega arith; valid = refl; rest = all } in
    subst (λ (r : List Entry × Unread). TookEntries most before 0 r.0 old r.1) same (record { took = nothing; suffix = refl; room = refl; counted = refl })
entries_take most before (suc count) old read all e =
    let first = bind_ok {E = MessageFault} (entry_at most before old) _ read e in
    let rest = bind_ok {E = MessageFault} (entries_at most (with_entry before first.0.0) count first.0.1) _ read first.2 in
    let gave : List Entry × Unread = (first.0.0 ∷ rest.0.0, rest.0.1) in
    let same : gave ≡ read = ok_injective {E = MessageFault} gave read rest.2 in
    let one = entry_ok most before old first.0 first.1 in
    let frame = frame-encoded old first.0 all one.0 in
    let others = entries_take most (with_entry before first.0.0) count first.0.1 rest.0 frame.rest rest.1 in
    let both = took_then (frame_bytes first.0.0) (frames_bytes rest.0.0) (is_entry first.0.0) (list_all is_entry rest.0.0) old first.0.1 rest.0.1 frame others.took in
    let low : nat_le before.view first.0.0.view ≡ true = grind (arith, nat_tests, one.1.low) in
    let high : nat_le first.0.0.view most ≡ true = grind (arith, nat_tests, one.1.high) in
    let next : (first.0.0.seqno == before.seqno + 1) ≡ true = grind (arith, nat_tests, one.1.next) in
    let got : TookEntries most before (suc count) gave.0 old gave.1 = record {
      took = both;
      suffix = rw (low, high, next) others.suffix;
      room = and_from (has_room before (frame_size first.0.0)) (rooms (with_entry before first.0.0) rest.0.0) one.1.room others.room;
      counted = ap suc others.counted;
    } in
    subst (λ (r : List Entry × Unread). TookEntries most before (suc count) r.0 old r.1) same got

pub entries_find : (most : ℕ) (es : List Entry) (before : Before) (old new : Unread) → list_all is_entry es ≡ true → are_after most before.view before.seqno es ≡ true → rooms before es ≡ true → Lies (frames_bytes es) old new
    → entries_at most before (length es) old ≡ Ok (es, new)
unfolding entries_at
entries_find most [] before old new are suffix room there =
    let place : old.at ≡ new.at = omega (arith, there.place) in
    let same : old ≡ new = ap₂ (λ (n : ℕ) (xs : List ℕ). record { at = n; bytes = xs }) place there.bytes in
    ap (λ (u : Unread). Ok ([], u)) same
entries_find most (e ∷ es) before old new are suffix room there =
    let valid = and_parts (is_entry e) (list_all is_entry es) are in
    let rest = and_parts (nat_le before.view e.view && nat_le e.view most && (e.seqno == before.seqno + 1)) (are_after most e.view e.seqno es) suffix in
    let seqno = and_parts (nat_le before.view e.view && nat_le e.view most) (e.seqno == before.seqno + 1) rest.0 in
    let views = and_parts (nat_le before.view e.view) (nat_le e.view most) seqno.0 in
    let roomy = and_parts (has_room before (frame_size e)) (rooms (with_entry before e) es) room in
    let both = lie_both (frame_bytes e) (frames_bytes es) old new there in
    let follows : Follows most before e = record { room = roomy.0; low = grind (arith, nat_tests, views.0); high = grind (arith, nat_tests, views.1); next = grind (arith, nat_tests, seqno.1) } in
    let one = entry_finds most before e old both.mid valid.0 follows both.first in
    let others = entries_find most es (with_entry before e) both.mid new valid.1 rest.1 roomy.1 both.second in
    rw (one, others) refl

-- ---- their bytes

length-frames_bytes : (es : List Entry) → length (frames_bytes es) ≡ frames_size es
length-frames_bytes [] = refl
length-frames_bytes (e ∷ es) = omega (arith, length-append (frame_bytes e) (frames_bytes es), length-frame_bytes e, length-frames_bytes es)

one_fits : (es : List Entry) → list_all has_fitting_body es ≡ true → length es ≤ 1 → frames_size es ≤ body_limit + 8
one_fits [] all few = omega arith
one_fits (e ∷ []) all few =
    let parts = and_parts (has_fitting_body e) true all in
    grind (arith, nat_tests, parts.0)
one_fits (e ∷ f ∷ es) all few = absurd (omega arith)

pub frames_bytes-le : (es : List Entry) → entries_fit es ≡ true → length (frames_bytes es) ≤ most_bytes
frames_bytes-le es is =
    let parts = and_parts (nat_le (length es) most_entries && list_all has_fitting_body es) (are_within es) is in
    let first = and_parts (nat_le (length es) most_entries) (list_all has_fitting_body es) parts.0 in
    by_test (nat_le (length es) 1) refl parts.1 first.1
  where
    by_test : (b : Bool) → nat_le (length es) 1 ≡ b → (b || nat_le (frames_size es) most_bytes) ≡ true → list_all has_fitting_body es ≡ true → length (frames_bytes es) ≤ most_bytes
    by_test true few within all = let some : length es ≤ 1 = grind (arith, nat_tests, few) in omega (arith, length-frames_bytes es, one_fits es all some)
    by_test false many within all = let small : frames_size es ≤ most_bytes = grind (arith, nat_tests, within) in omega (arith, length-frames_bytes es, small)
