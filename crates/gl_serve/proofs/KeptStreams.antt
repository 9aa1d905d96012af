-- What is kept of a stream, and what comes after it.
use Rattle.std.proofs.Common.{◌≡◌, ℕ, ◌+◌, ◌*◌, List, [], ◌∷◌, ◌++◌, Bool, true, false, cond, Option, None, Some, unwrap_or, nat_lt, length, drop, refl, sym, ap, ◌∙◌, subst, append-nil}
use Rattle.std.specs.Ordering.{nat_cmp, is_eq}
use Rattle.std.specs.BTreeMap.{Updates}
use Rattle.std.proofs.Math.Seq.{drop-append_seam}
use Rattle.std.proofs.lemmas.Map.Lookups.{exact_unsigned}
use Rattle.std.proofs.lemmas.Map.Views.{tells_apart}
use Rattle.gl_messages.specs.Frames.{frame_limit, Prefix, whole, too_long, unfinished, prefix, payloads, rest, IsNoFrame}
use Rattle.gl_messages.proofs.StreamLaws.{first_whole, first_none, grows}
use Rattle.gl_serve.specs.declared.streams.Stream.{Stream}
use Rattle.gl_serve.specs.declared.streams.Stream.TheVariants.{Heard, Deaf}
use Rattle.gl_serve.specs.declared.streams.Streams.{Streams}
use Rattle.gl_serve.specs.Streams.{fresh}
use Rattle.gl_serve.specs.Kept.{fed, next_by, next_of, kept_at, kept_of, payloads_of, rest_of, stream_at}

-- What is kept of bytes with no whole frame.
abbrev kept_here : List ℕ → Stream
kept_here bytes = kept_at (prefix bytes) bytes

-- ---- the next payload

next_some_by : (bytes p : List ℕ) (t : Stream) (f : Prefix) → prefix bytes ≡ f → next_by f bytes ≡ (Some p, t) → (payloads bytes ≡ p ∷ payloads_of t) × (kept_of bytes ≡ rest_of t)
next_some_by bytes p t (whole payload left) is h =
    let first = first_whole bytes payload left is in
    let same : payload ≡ p = ap (λ (c : Option (List ℕ) × Stream). unwrap_or c.0 []) h in
    let there : Heard left ≡ t = ap (λ (c : Option (List ℕ) × Stream). c.1) h in
    subst (λ (s : Stream). (payloads bytes ≡ p ∷ payloads_of s) × (kept_of bytes ≡ rest_of s)) there
    (first.0 ∙ ap (λ (x : List ℕ). x ∷ payloads left) same, ap kept_here first.1)
next_some_by bytes p t (too_long len) is h =
    let no_some : None ≡ Some p = ap (λ (c : Option (List ℕ) × Stream). c.0) h in
    absurd cc
next_some_by bytes p t unfinished is h =
    let no_some : None ≡ Some p = ap (λ (c : Option (List ℕ) × Stream). c.0) h in
    absurd cc

pub next_some : (s : Stream) (p : List ℕ) (t : Stream) → next_of s ≡ (Some p, t) → (payloads_of s ≡ p ∷ payloads_of t) × (rest_of s ≡ rest_of t)
next_some (Heard bytes) p t h = next_some_by bytes p t (prefix bytes) refl h
next_some Deaf p t h =
    let no_some : None ≡ Some p = ap (λ (c : Option (List ℕ) × Stream). c.0) h in
    absurd cc

next_none_by : (bytes : List ℕ) (t : Stream) (f : Prefix) → prefix bytes ≡ f → next_by f bytes ≡ (None, t) → (payloads bytes ≡ []) × (kept_of bytes ≡ t)
next_none_by bytes t (whole payload left) is h =
    let no_none : Some payload ≡ None = ap (λ (c : Option (List ℕ) × Stream). c.0) h in
    absurd cc
next_none_by bytes t (too_long len) is h =
    let none = first_none bytes (subst IsNoFrame (sym is) tt) in
    let there : Deaf ≡ t = ap (λ (c : Option (List ℕ) × Stream). c.1) h in
    (none.0, ap kept_here none.1 ∙ ap (λ (f : Prefix). kept_at f bytes) is ∙ there)
next_none_by bytes t unfinished is h =
    let none = first_none bytes (subst IsNoFrame (sym is) tt) in
    let there : Heard bytes ≡ t = ap (λ (c : Option (List ℕ) × Stream). c.1) h in
    (none.0, ap kept_here none.1 ∙ ap (λ (f : Prefix). kept_at f bytes) is ∙ there)

pub next_none : (s t : Stream) → next_of s ≡ (None, t) → (payloads_of s ≡ []) × (rest_of s ≡ t)
next_none (Heard bytes) t h = next_none_by bytes t (prefix bytes) refl h
next_none Deaf t h = (refl, ap (λ (c : Option (List ℕ) × Stream). c.1) h)

pub kept_nil : kept_of [] ≡ Heard []
unfolding prefix
kept_nil = ap kept_here (first_none [] tt).1

pub next_nil : next_of (Heard []) ≡ (None, Heard [])
unfolding prefix
next_nil = refl

-- ---- more bytes

long_stays : (n len : ℕ) (long short there : Bool) (a b c d : List ℕ) → cond long (too_long n) (cond short unfinished (whole a b)) ≡ too_long len → cond long (too_long n) (cond there unfinished (whole c d)) ≡ too_long len
long_stays n len true short there a b c d h = h
long_stays n len false true there a b c d h = absurd cc
long_stays n len false false there a b c d h = absurd cc

-- A length above the limit stays at the start.
too_long_stays : (bytes more : List ℕ) (len : ℕ) → prefix bytes ≡ too_long len → prefix (bytes ++ more) ≡ too_long len
unfolding prefix
too_long_stays [] more len h = absurd cc
too_long_stays (a ∷ []) more len h = absurd cc
too_long_stays (a ∷ b ∷ []) more len h = absurd cc
too_long_stays (a ∷ b ∷ c ∷ []) more len h = absurd cc
too_long_stays (a ∷ b ∷ c ∷ d ∷ bytes) more len h =
    let n = ((a * 256 + b) * 256 + c) * 256 + d in
    long_stays n len (nat_lt frame_limit n) (nat_lt (length bytes) n) (nat_lt (length (bytes ++ more)) n) _ _ _ _ h

-- After such a length there are no more payloads.
pub payloads_deaf : (bytes more : List ℕ) (len : ℕ) → prefix (rest bytes) ≡ too_long len → payloads (bytes ++ more) ≡ payloads bytes
payloads_deaf bytes more len is =
    let stays = too_long_stays (rest bytes) more len is in
    (grows bytes more).0 ∙ ap (λ (t : List (List ℕ)). payloads bytes ++ t) (first_none (rest bytes ++ more) (subst IsNoFrame (sym stays) tt)).0 ∙ append-nil (payloads bytes)

fed_by : (bytes more : List ℕ) (f : Prefix) → prefix (rest bytes) ≡ f →
    (payloads_of (fed more (kept_at f (rest bytes))) ≡ payloads (rest bytes ++ more)) × (rest_of (fed more (kept_at f (rest bytes))) ≡ kept_of (bytes ++ more))
fed_by bytes more (whole payload left) is = (refl, ap kept_here (sym (grows bytes more).1))
fed_by bytes more (too_long len) is =
    let stays = too_long_stays (rest bytes) more len is in
    let none = first_none (rest bytes ++ more) (subst IsNoFrame (sym stays) tt) in
    (sym none.0, sym (ap kept_here (grows bytes more).1 ∙ ap kept_here none.1 ∙ ap (λ (f : Prefix). kept_at f (rest bytes ++ more)) stays))
fed_by bytes more unfinished is = (refl, ap kept_here (sym (grows bytes more).1))

-- What is kept gives, with more bytes, the payloads that they make whole, and is then what is kept
-- of all.
pub fed_kept : (bytes more : List ℕ) → (payloads_of (fed more (kept_of bytes)) ≡ payloads (rest bytes ++ more)) × (rest_of (fed more (kept_of bytes)) ≡ kept_of (bytes ++ more))
fed_kept bytes more = fed_by bytes more (prefix (rest bytes)) refl

pub fresh_is : (before piece : List ℕ) → fresh before piece ≡ payloads (rest before ++ piece)
unfolding fresh
fresh_is before piece = ap (drop (length (payloads before))) (grows before piece).0 ∙ drop-append_seam (payloads before) (payloads (rest before ++ piece))

-- ---- the streams of all connections

not_true : (b : Bool) → (b ≡ true → ⊥) → b ≡ false
not_true true never = absurd (never refl)
not_true false never = refl

apart_at : (conn other : ℕ) → (conn ≡ other → ⊥) → is_eq (nat_cmp conn other) ≡ false
apart_at conn other apart = not_true (is_eq (nat_cmp conn other)) (λ e. apart (tells_apart exact_unsigned conn other e))

-- One stream has changed.
pub one_changed : (m n : Streams) (conn : ℕ) (s : Stream) → Updates nat_cmp m.streams n.streams conn (Some s) →
    (stream_at n conn ≡ s) × ((other : ℕ) → (conn ≡ other → ⊥) → stream_at n other ≡ stream_at m other)
one_changed m n conn s updates = (
  ap (λ (o : Option Stream). unwrap_or o (Heard [])) updates.1,
  λ other apart. ap (λ (o : Option Stream). unwrap_or o (Heard [])) (updates.2 other (apart_at conn other apart)),
)
