-- Lists of frames, one more at a time.
use Rattle.std.proofs.Common.{All, IsTrue, ◌≡◌, ◌≤◌, ◌<◌, ℕ, zero, suc, ◌+◌, ◌-◌, ◌*◌, min, Bool, true, false, List, [], ◌∷◌, ◌++◌, length, take, drop, get_or, map, slice_get, Option, Some, Vec, nat_le, ◌&&◌, if◌then◌else◌, refl, sym, ap, subst, ◌∙◌, arith, append_assoc, length-append, length-drop, take-append-drop}
use Rattle.std.specs.declared.alloc.Global.{Global}
use Rattle.std.proofs.Math.Nat.{min_comm}
use Rattle.std.proofs.lemmas.Bool.Decides.{nat_tests}
use Rattle.std.proofs.lemmas.List.Elements.{All-head, All-tail}
use Rattle.std.proofs.lemmas.List.{drop_min, take_all, take_min, take_more, take_at, map-append}
use Rattle.gl_base.specs.LittleEndian.{little_endian}
use Rattle.gl_base.proofs.LittleEndianLaws.{length-little_endian}
use Rattle.gl_entry.specs.Entry.{body_bytes, body_limit, frame_bytes, is_entry}
use Rattle.gl_entry.specs.declared.entry.Entry.{Entry}
use Rattle.gl_journal.specs.Durable.{LogRules}
use Rattle.gl_journal.specs.Kept.{HasBatchRoom}
use Rattle.gl_journal.specs.Parts.{items_of}
use Rattle.gl_journal.specs.declared.journal.Journal.{Journal}
use Rattle.gl_journal.proofs.PartLaws.{items_of_push, items_of_drop, items_of_take}
use Rattle.gl_node.specs.Frames.{EachGoesOn, appends_size, frame_if_fits}

pub items_more : (fs : List (Vec ℕ Global)) (i : ℕ) (f : Vec ℕ Global) → i < length fs → f ≡ get_or fs i f → items_of (take (i + 1) fs) ≡ items_of (take i fs) ++ f.items ∷ []
items_more fs i f below is =
    ap items_of (take_more fs i f below) ∙ items_of_push (take i fs) (get_or fs i f) ∙ ap (λ (v : Vec ℕ Global). items_of (take i fs) ++ v.items ∷ []) (sym is)

pub map_more : {A B : Type 0} (g : A → B) (xs : List A) (i : ℕ) (x : A) → i < length xs → x ≡ get_or xs i x → map g (take (i + 1) xs) ≡ map g (take i xs) ++ g x ∷ []
map_more g xs i x below is =
    ap (map g) (take_more xs i x below) ∙ map-append g (take i xs) (get_or xs i x ∷ []) ∙ ap (λ v. map g (take i xs) ++ g v ∷ []) (sym is)

pub appends_push : (fs : List (List ℕ)) (f : List ℕ) → appends_size (fs ++ f ∷ []) ≡ appends_size fs + (5 + length f)
appends_push [] f = omega arith
appends_push (g ∷ fs) f = omega (arith, appends_push fs f)

pub appends_take : (i : ℕ) (fs : List (List ℕ)) → appends_size (take i fs) ≤ appends_size fs
appends_take zero fs = omega arith
appends_take (suc i) [] = omega arith
appends_take (suc i) (f ∷ fs) = omega (arith, appends_take i fs)

pub appends_drop : (i : ℕ) (fs : List (List ℕ)) → appends_size (drop i fs) ≤ appends_size fs
appends_drop zero fs = omega arith
appends_drop (suc i) [] = omega arith
appends_drop (suc i) (f ∷ fs) = omega (arith, appends_drop i fs)

-- one frame more than the first ones
pub appends_more : (fs : List (Vec ℕ Global)) (i : ℕ) (f : Vec ℕ Global) → i < length fs → f ≡ get_or fs i f → appends_size (items_of (take (i + 1) fs)) ≡ appends_size (items_of (take i fs)) + (5 + length f.items)
appends_more fs i f below is = ap appends_size (items_more fs i f below is) ∙ appends_push (items_of (take i fs)) f.items

pub appends_within : (fs : List (Vec ℕ Global)) (i : ℕ) → appends_size (items_of (take i fs)) ≤ appends_size (items_of fs)
appends_within fs i = let e = ap appends_size (items_of_take i fs) in omega (arith, e, appends_take i (items_of fs))

get_at : {A : Type 0} (xs ys : List A) (x : A) → slice_get (xs ++ x ∷ ys) (length xs) ≡ Some x
get_at [] ys x = refl
get_at (y ∷ xs) ys x = get_at xs ys x

items_append : (fs gs : List (Vec ℕ Global)) → items_of (fs ++ gs) ≡ items_of fs ++ items_of gs
items_append [] gs = refl
items_append (f ∷ fs) gs = ap (λ (l : List (List ℕ)). f.items ∷ l) (items_append fs gs)

-- a frame goes on those before it
pub goes_next : (goes_on : LogRules) (snapshot : Option (List ℕ)) (log : List (List ℕ)) (fs : List (Vec ℕ Global)) (i : ℕ) (f : Vec ℕ Global) → i < length fs → f ≡ get_or fs i f → EachGoesOn goes_on snapshot (log ++ items_of fs) → goes_on.appends snapshot (log ++ items_of (take i fs)) f.items ≡ true
goes_next goes_on snapshot log fs i f below is each =
    let prefix = log ++ items_of (take i fs) in
    let rest = items_of (drop (i + 1) fs) in
    let parts : items_of fs ≡ items_of (take i fs) ++ f.items ∷ rest =
    ap items_of (sym (take-append-drop i fs)) ∙ items_append (take i fs) (drop i fs) ∙ ap (λ (l : List (List ℕ)). items_of (take i fs) ++ l) (items_of_drop fs i f below is) in
    let whole : log ++ items_of fs ≡ prefix ++ f.items ∷ rest = ap (λ (l : List (List ℕ)). log ++ l) parts ∙ sym (append_assoc log (items_of (take i fs)) (f.items ∷ rest)) in
    let goes = subst (EachGoesOn goes_on snapshot) whole each (length prefix) f.items (get_at prefix rest f.items) in
    sym (ap (λ (l : List (List ℕ)). goes_on.appends snapshot l f.items) (take_at prefix (f.items ∷ rest) (length prefix) refl)) ∙ goes

pub log_more : (log : List (List ℕ)) (fs : List (Vec ℕ Global)) (i : ℕ) (f : Vec ℕ Global) → i < length fs → f ≡ get_or fs i f → (log ++ items_of (take i fs)) ++ f.items ∷ [] ≡ log ++ items_of (take (i + 1) fs)
log_more log fs i f below is = append_assoc log (items_of (take i fs)) (f.items ∷ []) ∙ ap (λ (l : List (List ℕ)). log ++ l) (sym (items_more fs i f below is))

-- ---- the frames of entries

pub frame_size : (e : Entry) → length (frame_bytes e) ≡ 8 + length (body_bytes e)
frame_size e = omega (arith, length-append (1 ∷ 0 ∷ little_endian 6 (length (body_bytes e))) (body_bytes e), length-little_endian 6 (length (body_bytes e)))

last_test : (a b : Bool) → (a && b) ≡ true → b ≡ true
last_test true b is = is
last_test false b is = absurd (cc)

pub small_body : (e : Entry) → is_entry e ≡ true → length (body_bytes e) ≤ body_limit
small_body e is = let t = last_test _ (nat_le (length (body_bytes e)) body_limit) is in grind (arith, nat_tests)

pub small_frame : (e : Entry) → length (frame_if_fits e) ≤ 1048584
small_frame e = go (is_entry e) refl
  where
    go : (t : Bool) → is_entry e ≡ t → length (if t then frame_bytes e else []) ≤ 1048584
    go true is = omega (arith, frame_size e, small_body e is)
    go false is = omega arith

pub small_frames : (es : List Entry) → appends_size (map frame_if_fits es) ≤ length es * 1048589
small_frames [] = omega arith
small_frames (e ∷ es) = omega (arith, small_frame e, small_frames es)

abbrev Fits : Entry → Type 0
Fits e = IsTrue (is_entry e)

-- entries that a ledger may hold
pub frames_fit : (es : List Entry) → All (λ e. IsTrue (is_entry e)) es → map frame_if_fits es ≡ map frame_bytes es
frames_fit [] fit = refl
frames_fit (e ∷ es) fit =
    let here : is_entry e ≡ true = All-head Fits e es fit in
    ap (λ (l : List (List ℕ)). frame_if_fits e ∷ l) (frames_fit es (All-tail Fits e es fit))
    ∙ ap {B = List (List ℕ)} (λ (t : Bool). (if t then frame_bytes e else []) ∷ map frame_bytes es) here

-- the frame of one entry is small
pub small_one : (frames : List (List ℕ)) (rest : List Entry) → frames ≡ map frame_if_fits rest → length rest ≤ 1 → appends_size frames ≤ 1048589
small_one frames rest is few = omega (arith, ap appends_size is, small_frames rest, few)

-- ---- the entry after so many

module _ {A : Type 0} where
  -- the first of what stands after so many, as slices
  pub first_after : (i j count : ℕ) (l : List A) → i ≡ min (length l) count → j ≡ min (length (take (length l - i) (drop i l))) 1 → take j (take (length l - i) (drop i l)) ≡ take 1 (drop count l)
  first_after i j count l at one =
      let rest : take (length l - i) (drop i l) ≡ drop i l = take_all (length l - i) (drop i l) (omega (arith, length-drop i l)) in
      let after : drop i l ≡ drop count l = ap (λ (k : ℕ). drop k l) (at ∙ min_comm (length l) count) ∙ drop_min count l in
      let few : j ≡ min 1 (length (drop i l)) = omega (arith, one, ap length rest) in
      ap (take j) rest ∙ ap (λ (k : ℕ). take k (drop i l)) few ∙ take_min 1 (drop i l) ∙ ap (take 1) after

-- ---- parts of a ledger's frames

pub length_map : {A B : Type 0} (f : A → B) (l : List A) → length (map f l) ≡ length l
length_map f [] = refl
length_map f (x ∷ l) = ap suc (length_map f l)

pub map_take : {A B : Type 0} (f : A → B) (k : ℕ) (l : List A) → map f (take k l) ≡ take k (map f l)
map_take f zero l = refl
map_take f (suc k) [] = refl
map_take f (suc k) (x ∷ l) = ap (λ r. f x ∷ r) (map_take f k l)

map_drop : {A B : Type 0} (f : A → B) (k : ℕ) (l : List A) → map f (drop k l) ≡ drop k (map f l)
map_drop f zero l = refl
map_drop f (suc k) [] = refl
map_drop f (suc k) (x ∷ l) = map_drop f k l

items_after : (k : ℕ) (fs : List (Vec ℕ Global)) → items_of (drop k fs) ≡ drop k (items_of fs)
items_after zero fs = refl
items_after (suc k) [] = refl
items_after (suc k) (f ∷ fs) = items_after k fs

-- a part of the frames has no more bytes
pub appends_part : (i k : ℕ) (fs : List (Vec ℕ Global)) → appends_size (items_of (take i (drop k fs))) ≤ appends_size (items_of fs)
appends_part i k fs = let e = ap appends_size (items_after k fs) in omega (arith, e, appends_within (drop k fs) i, appends_drop k (items_of fs))

-- a ledger that is another up to a seqno
pub frames_parts : (kept : ℕ) (old new : List Entry) → take kept new ≡ take kept old → map frame_bytes new ≡ take kept (map frame_bytes old) ++ map frame_bytes (drop kept new)
frames_parts kept old new prefix =
    ap (map frame_bytes) (sym (take-append-drop kept new)) ∙ map-append frame_bytes (take kept new) (drop kept new)
    ∙ ap (λ (l : List Entry). map frame_bytes l ++ map frame_bytes (drop kept new)) prefix
    ∙ ap (λ (l : List (List ℕ)). l ++ map frame_bytes (drop kept new)) (map_take frame_bytes kept old)

-- the last ones of the frames of entries, where these are a ledger's after a seqno
pub frames_tail : (fs : List (Vec ℕ Global)) (es new : List Entry) (kept k : ℕ) → items_of fs ≡ map frame_if_fits es → drop kept new ≡ drop k es → All (λ e. IsTrue (is_entry e)) (drop kept new) →
    items_of (drop k fs) ≡ map frame_bytes (drop kept new)
frames_tail fs es new kept k made tail fit =
    items_after k fs ∙ ap (drop k) made ∙ sym (map_drop frame_if_fits k es) ∙ ap (map frame_if_fits) (sym tail) ∙ frames_fit (drop kept new) fit

-- memory for a batch is memory for a smaller one
pub room_less : {D : Type 0} (room_end room_calls : D → ℕ) (j : Journal D) (size less : ℕ) → less ≤ size → HasBatchRoom room_end room_calls j size → HasBatchRoom room_end room_calls j less
room_less room_end room_calls j size less few r = record {
  buffer = let h = r.buffer in omega (arith, few, h);
  disk = let p = r.disk in record {
    within = let h = p.within in omega (arith, few, h);
    end = let h = p.end in omega (arith, few, h);
    calls = p.calls;
  };
}
