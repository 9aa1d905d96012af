-- The bytes of a body are read as it, and what is read is the body of which they are the bytes.
use Rattle.std.proofs.Common.{◌≡◌, ℕ, Bool, true, ◌&&◌, List, [], ◌++◌, length, Result, Ok, Err, IfOk, refl, sym, ap, ◌∙◌, subst, append_assoc}
use Rattle.std.specs.List.{flat_map}
use Rattle.std.proofs.lemmas.Bool.{and_parts, and_from}
use Rattle.std.proofs.lemmas.List.{append-nil}
use Rattle.gl_base.specs.Answers.{Answers}
use Rattle.gl_base.specs.Code.{field, unread_of}
use Rattle.gl_base.specs.Cut.{Unread, number_at}
use Rattle.gl_base.specs.LittleEndian.{little_endian}
use Rattle.gl_base.specs.declared.fault.CodeFault.{CodeFault}
use Rattle.gl_base.specs.declared.or_no_memory.OrNoMemory.{OrNoMemory}
use Rattle.gl_base.proofs.ByteLists.{AreBytes}
use Rattle.gl_base.proofs.ParsedBytes.{Encoded, IsEncoded, IsRead, whole-encoded, whole-read}
use Rattle.gl_base.proofs.Steps.{bind_ok, ok_injective}
use Rattle.gl_snapshot_body.specs.declared.body.Body.{Body}
use Rattle.gl_snapshot_body.specs.declared.fault.ShapeFault.{ShapeFault}
use Rattle.gl_snapshot_body.specs.Body.{start_bytes, counted_bytes, row_bytes, body_bytes, is_base, are_starts, are_peaks, are_rows, is_body}
use Rattle.gl_snapshot_body.specs.Parsing.{base_at, starts_at, peaks_at, rows_at, body_at, body_in, by_place, shape_of}
use Rattle.gl_snapshot_body.proofs.Parts.{is_within, number-encoded, number-read, base-encoded, base-read, are_counted, starts-encoded, starts-read, itself, peaks-encoded, peaks-read, rows-encoded, rows-read}

-- ---- its ranges

-- What is asked of each part of a body.
pub record Parts (b : Body) : Type 0 where
  pub base : is_base b.base ≡ true
  pub view : is_within 4 b.view ≡ true
  pub commit : is_within 8 b.commit ≡ true
  pub views : are_counted (are_starts b.base) b.views ≡ true
  pub peaks : are_counted (are_peaks b.base) b.peaks ≡ true
  pub rows : are_counted are_rows b.rows ≡ true

pub parts_of : (b : Body) → is_body b ≡ true → Parts b
parts_of b is =
    let p = is_base b.base in
    let q = is_within 4 b.view in
    let c = is_within 8 b.commit in
    let s = are_starts b.base b.views in
    let k = are_peaks b.base b.peaks in
    let r = are_rows b.rows in
    let n = is_within 4 (length b.views) in
    let m = is_within 4 (length b.peaks) in
    let l = is_within 4 (length b.rows) in
    let a = and_parts (p && q && c && s && k && r) (n && m && l) is in
    let counts = and_parts (n && m) l a.1 in
    let two = and_parts n m counts.0 in
    let a5 = and_parts (p && q && c && s && k) r a.0 in
    let a4 = and_parts (p && q && c && s) k a5.0 in
    let a3 = and_parts (p && q && c) s a4.0 in
    let a2 = and_parts (p && q) c a3.0 in
    let a1 = and_parts p q a2.0 in
    record {
      base = a1.0;
      view = a1.1;
      commit = a2.1;
      views = and_from n s two.0 a3.1;
      peaks = and_from m k two.1 a4.1;
      rows = and_from l r counts.1 a5.1;
    }

pub of_parts : (b : Body) → Parts b → is_body b ≡ true
of_parts b h =
    let views = and_parts (is_within 4 (length b.views)) (are_starts b.base b.views) h.views in
    let peaks = and_parts (is_within 4 (length b.peaks)) (are_peaks b.base b.peaks) h.peaks in
    let rows = and_parts (is_within 4 (length b.rows)) (are_rows b.rows) h.rows in
    all_of (is_base b.base) (is_within 4 b.view) (is_within 8 b.commit) (are_starts b.base b.views) (are_peaks b.base b.peaks) (are_rows b.rows)
    (is_within 4 (length b.views)) (is_within 4 (length b.peaks)) (is_within 4 (length b.rows))
    h.base h.view h.commit views.1 peaks.1 rows.1 views.0 peaks.0 rows.0
  where
    all_of : (p q c s k r n m l : Bool) → p ≡ true → q ≡ true → c ≡ true → s ≡ true → k ≡ true → r ≡ true → n ≡ true → m ≡ true → l ≡ true
        → (p && q && c && s && k && r && (n && m && l)) ≡ true
    all_of p q c s k r n m l ep eq ec es ek er en em el = rw (ep, eq, ec, es, ek, er, en, em, el) refl

-- ---- its parts, one after the other

regrouped : (a b c s p n f rest : List ℕ) → (a ++ b ++ c ++ s ++ p ++ n ++ f) ++ rest ≡ a ++ (b ++ (c ++ (s ++ (p ++ ((n ++ f) ++ rest)))))
regrouped a b c s p n f rest = simp append_assoc refl

-- The bytes of its parts before others.
abbrev spelled : Body → List ℕ → List ℕ
spelled b rest =
    little_endian 8 b.base ++ (little_endian 4 b.view ++ (little_endian 8 b.commit ++ (counted_bytes start_bytes b.views ++ (counted_bytes itself b.peaks ++ (counted_bytes row_bytes b.rows ++ rest)))))

body_lies : (b : Body) (rest : List ℕ) → body_bytes b ++ rest ≡ spelled b rest
body_lies b rest =
    regrouped (little_endian 8 b.base) (little_endian 4 b.view) (little_endian 8 b.commit) (counted_bytes start_bytes b.views) (counted_bytes itself b.peaks)
    (little_endian 4 (length b.rows)) (flat_map row_bytes b.rows) rest

spelled_lies : (b : Body) (rest : List ℕ) → spelled b rest ≡ body_bytes b ++ rest
spelled_lies b rest = sym (body_lies b rest)

six_parts : (all a m1 b m2 c m3 s m4 p m5 r rest : List ℕ) → all ≡ a ++ m1 → m1 ≡ b ++ m2 → m2 ≡ c ++ m3 → m3 ≡ s ++ m4 → m4 ≡ p ++ m5 → m5 ≡ r ++ rest
    → all ≡ a ++ (b ++ (c ++ (s ++ (p ++ (r ++ rest)))))
six_parts all a m1 b m2 c m3 s m4 p m5 r rest e1 e2 e3 e4 e5 e6 =
    e1 ∙ ap (λ (x : List ℕ). a ++ x) (e2 ∙ ap (λ (x : List ℕ). b ++ x) (e3 ∙ ap (λ (x : List ℕ). c ++ x) (e4 ∙ ap (λ (x : List ℕ). s ++ x) (e5 ∙ ap (λ (x : List ℕ). p ++ x) e6))))

-- ---- a body at the start of bytes

pub body-encoded : IsEncoded body_at body_bytes is_body
unfolding body_at
body-encoded old new b all e =
    let base = bind_ok {E = CodeFault} (base_at old) _ (b, new) e in
    let view = bind_ok {E = CodeFault} (field (number_at 4 base.0.1)) _ (b, new) base.2 in
    let commit = bind_ok {E = CodeFault} (field (number_at 8 view.0.1)) _ (b, new) view.2 in
    let views = bind_ok {E = CodeFault} (starts_at base.0.0 commit.0.1) _ (b, new) commit.2 in
    let peaks = bind_ok {E = CodeFault} (peaks_at base.0.0 views.0.1) _ (b, new) views.2 in
    let rows = bind_ok {E = CodeFault} (rows_at peaks.0.1) _ (b, new) peaks.2 in
    let made : Body = record { base = base.0.0; view = view.0.0; commit = commit.0.0; views = views.0.0; peaks = peaks.0.0; rows = rows.0.0 } in
    let gave : Body × Unread = (made, rows.0.1) in
    let same : gave ≡ (b, new) = ok_injective {E = CodeFault} gave (b, new) rows.2 in
    let e1 = base-encoded old base.0.1 base.0.0 all base.1 in
    let e2 = number-encoded 4 base.0.1 view.0.1 view.0.0 e1.left view.1 in
    let e3 = number-encoded 8 view.0.1 commit.0.1 commit.0.0 e2.left commit.1 in
    let e4 = starts-encoded base.0.0 commit.0.1 views.0.1 views.0.0 e3.left views.1 in
    let e5 = peaks-encoded base.0.0 views.0.1 peaks.0.1 peaks.0.0 e4.left peaks.1 in
    let e6 = rows-encoded peaks.0.1 rows.0.1 rows.0.0 e5.left rows.1 in
    let parts : old.bytes ≡ body_bytes made ++ rows.0.1.bytes =
    ◌∙◌ {b = spelled made rows.0.1.bytes}
    (six_parts old.bytes (little_endian 8 made.base) base.0.1.bytes (little_endian 4 made.view) view.0.1.bytes (little_endian 8 made.commit) commit.0.1.bytes
    (counted_bytes start_bytes made.views) views.0.1.bytes (counted_bytes itself made.peaks) peaks.0.1.bytes (counted_bytes row_bytes made.rows) rows.0.1.bytes
    e1.parts e2.parts e3.parts e4.parts e5.parts e6.parts)
    (spelled_lies made rows.0.1.bytes) in
    let limits : is_body made ≡ true =
    of_parts made (record { base = e1.limits; view = e2.limits; commit = e3.limits; views = e4.limits; peaks = e5.limits; rows = e6.limits }) in
    subst (λ (y : Body × Unread). Encoded body_bytes is_body old y.0 y.1) {x = gave} same (record { parts = parts; left = e6.left; limits = limits })

pub body-read : IsRead body_at body_bytes is_body
unfolding body_at
body-read at b rest is =
    let h = parts_of b is in
    let r6 = counted_bytes row_bytes b.rows ++ rest in
    let r5 = counted_bytes itself b.peaks ++ r6 in
    let r4 = counted_bytes start_bytes b.views ++ r5 in
    let r3 = little_endian 8 b.commit ++ r4 in
    let r2 = little_endian 4 b.view ++ r3 in
    let base = base-read at b.base r2 h.base in
    let view = number-read 4 base.place b.view r3 h.view in
    let commit = number-read 8 view.place b.commit r4 h.commit in
    let views = starts-read b.base commit.place b.views r5 h.views in
    let peaks = peaks-read b.base views.place b.peaks r6 h.peaks in
    let rows = rows-read peaks.place b.rows rest h.rows in
    record {
      place = rows.place;
      read =
          ap (λ (ys : List ℕ). body_at (record { at = at; bytes = ys })) (body_lies b rest)
          ∙ rw (base.read, view.read, commit.read, views.read, peaks.read, rows.read) refl;
    }

-- ---- a body that is all of the bytes

-- The same reading, with all of the bytes at a place.
abbrev placed : ℕ → Unread → Result (Body × Unread) CodeFault
placed at unread = body_at (record { at = at; bytes = unread.bytes })

placed-encoded : (at : ℕ) → IsEncoded (placed at) body_bytes is_body
placed-encoded at old new b all e =
    let there = body-encoded (record { at = at; bytes = old.bytes }) new b all e in
    record { parts = there.parts; left = there.left; limits = there.limits }

placed-read : (at : ℕ) → IsRead (placed at) body_bytes is_body
placed-read at place b rest is = body-read at b rest is

by_place_ok : {X : Type 0} (r : Result X CodeFault) (x : X) → by_place r ≡ Ok x → r ≡ Ok x
by_place_ok (Ok y) x e = ap (λ z. Ok z) (ok_injective {E = ShapeFault} y x e)
by_place_ok (Err fault) x e = absurd cc

pub shape-encoded : (at : ℕ) (bytes : List ℕ) (b : Body) → AreBytes bytes → shape_of at bytes ≡ Ok b → (is_body b ≡ true) × (bytes ≡ body_bytes b)
shape-encoded at bytes b all e = whole-encoded (placed at) body_bytes is_body (placed-encoded at) bytes b all (by_place_ok (body_in at bytes) b e)

pub shape-read : (at : ℕ) (b : Body) → is_body b ≡ true → shape_of at (body_bytes b) ≡ Ok b
shape-read at b is = ap by_place (whole-read (placed at) body_bytes is_body (placed-read at) b is)

-- No body's bytes begin with another's.
pub one_body : (b c : Body) (x y : List ℕ) → is_body b ≡ true → is_body c ≡ true → body_bytes b ++ x ≡ body_bytes c ++ y → (b ≡ c) × (x ≡ y)
one_body b c x y is_b is_c e =
    let p = body-read 0 b x is_b in
    let q = body-read 0 c y is_c in
    let pair = ok_injective {A = Body × Unread} {E = CodeFault} (b, record { at = p.place; bytes = x }) (c, record { at = q.place; bytes = y })
    (sym p.read ∙ ap (λ (ys : List ℕ). body_at (unread_of ys)) e ∙ q.read) in
    (ap (λ (z : Body × Unread). z.0) pair, ap (λ (z : Body × Unread). z.1.bytes) pair)

-- Fewer bytes than all of a body's are none.
pub none_shorter : (b c : Body) (at : ℕ) (front back : List ℕ) → is_body b ≡ true → AreBytes front → front ++ back ≡ body_bytes b → shape_of at front ≡ Ok c → back ≡ []
none_shorter b c at front back is all e read =
    let there = shape-encoded at front c all read in
    (one_body c b back [] there.0 is (ap (λ (xs : List ℕ). xs ++ back) (sym there.1) ∙ e ∙ sym (append-nil (body_bytes b)))).1

-- ---- what a call gives that reads

pub found : (r : Result Body (OrNoMemory ShapeFault)) (at : ℕ) (bytes : List ℕ) → AreBytes bytes → Answers (λ body. body) r (shape_of at bytes)
    → IfOk r (λ body. (is_body body ≡ true) × (bytes ≡ body_bytes body))
found (Ok b) at bytes all given = shape-encoded at bytes b all given
found (Err e) at bytes all given = tt
