-- The seqnos of a ledger's signatures: those of one with one more entry and of a cut one, the last
-- one, and the first above a seqno; and those of entries behind a base.
use Rattle.std.proofs.Common.{◌≡◌, ℕ, zero, suc, ◌+◌, ◌-◌, ◌<◌, ◌≤◌, nat_le, nat_lt, List, [], ◌∷◌, ◌++◌, length, take, drop, get_or, slice_get, Option, None, Some, Bool, true, false, cond, not, ◌&&◌, ◌||◌, ◌==◌, if◌then◌else◌, refl, sym, ◌∙◌, ap, subst, arith}
use Rattle.std.specs.List.{find}
use Rattle.std.specs.List.Sorted.{IsPartitionPoint, IsPartitionedBy}
use Rattle.std.specs.Option.{unwrap_or}
use Rattle.std.proofs.lemmas.Bool.Decides.{nat_tests}
use Rattle.std.proofs.lemmas.Option.{get_or_from_slice_get}
use Rattle.gl_base.proofs.Lists.{take-nil, slice_get-within}
use Rattle.gl_rules.specs.Log.{entry_at, seqno_with_first}
use Rattle.gl_entry.specs.Entry.{is_signature, recorded_commit}
use Rattle.gl_entry.specs.declared.entry.Content.{Content}
use Rattle.gl_entry.specs.declared.entry.Content.TheVariants as content
use Rattle.gl_entry.specs.declared.entry.Entry.{Entry}
use Rattle.gl_snapshot_body.specs.declared.body.Body.{Body}
use Rattle.gl_ledger.specs.Past.{commit_after, commit_from, last_commit, last_signed, last_signed_over, past_at, past_over, signs_at, signs_over}
use Rattle.gl_audit.specs.Kept.{seqno_if, signed_from, signature_seqnos, seqnos_over, commit_at}

-- the entry at a seqno, where there is one
abbrev pub entry_if : List Entry → Option ℕ → Option Entry
entry_if ledger None = None
entry_if ledger (Some seqno) = entry_at ledger seqno

-- ---- one more entry

after_first : (b : Bool) (n : ℕ) (xs ys : List ℕ) → seqno_if b n (xs ++ ys) ≡ seqno_if b n xs ++ ys
after_first true n xs ys = refl
after_first false n xs ys = refl

signed_from-push : (n : ℕ) (es : List Entry) (e : Entry) → signed_from n (es ++ e ∷ []) ≡ signed_from n es ++ seqno_if (is_signature e.content) (n + length es) []
signed_from-push n [] e = ap (λ (k : ℕ). seqno_if (is_signature e.content) k []) (omega arith)
signed_from-push n (f ∷ es) e =
    ap (seqno_if (is_signature f.content) n)
    (signed_from-push (suc n) es e ∙ ap (λ (k : ℕ). signed_from (suc n) es ++ seqno_if (is_signature e.content) k []) (omega arith))
    ∙ after_first (is_signature f.content) n (signed_from (suc n) es) (seqno_if (is_signature e.content) (n + length (f ∷ es)) [])

-- ---- the last one

none_signed : (n : ℕ) (es : List Entry) → last_signed es ≡ 0 → signed_from n es ≡ []
none_signed n [] is = refl
none_signed n (e ∷ es) is = go (is_signature e.content) (last_signed es) refl is (λ more. none_signed (suc n) es more)
  where
    go : (b : Bool) (m : ℕ) → last_signed es ≡ m → seqno_with_first b m ≡ 0 → (last_signed es ≡ 0 → signed_from (suc n) es ≡ []) → seqno_if b n (signed_from (suc n) es) ≡ []
    go true zero more w again = absurd (let q : 1 ≡ 0 = w in omega (arith, q))
    go false zero more w again = again more
    go b (suc m) more w again = absurd (let q : suc (suc m) ≡ 0 = w in omega (arith, q))

last_after : (n s : ℕ) (xs : List ℕ) → slice_get xs (length xs - 1) ≡ Some s → slice_get (n ∷ xs) (length (n ∷ xs) - 1) ≡ Some s
last_after n s [] is = absurd (cc)
last_after n s (x ∷ xs) is =
    ap (slice_get (n ∷ x ∷ xs)) (let q : length (n ∷ x ∷ xs) - 1 ≡ suc (length xs) = omega arith in q)
    ∙ ap (slice_get (x ∷ xs)) (let q : length xs ≡ length (x ∷ xs) - 1 = omega arith in q) ∙ is

last_from : (n i : ℕ) (es : List Entry) → last_signed es ≡ suc i → slice_get (signed_from n es) (length (signed_from n es) - 1) ≡ Some (n + i)
last_from n i [] is = absurd (omega (arith, is))
last_from n i (e ∷ es) is = go (is_signature e.content) (last_signed es) i refl is (λ j more. last_from (suc n) j es more)
  where
    go : (b : Bool) (m j : ℕ) → last_signed es ≡ m → seqno_with_first b m ≡ suc j →
        ((k : ℕ) → last_signed es ≡ suc k → slice_get (signed_from (suc n) es) (length (signed_from (suc n) es) - 1) ≡ Some (suc n + k)) →
        slice_get (seqno_if b n (signed_from (suc n) es)) (length (seqno_if b n (signed_from (suc n) es)) - 1) ≡ Some (n + j)
    go true zero j more w again =
        ap (λ (xs : List ℕ). slice_get (n ∷ xs) (length (n ∷ xs) - 1)) (none_signed (suc n) es more) ∙ ap (λ (k : ℕ). Some k) (let q : 1 ≡ suc j = w in omega (arith, q))
    go false zero j more w again = absurd (let q : 0 ≡ suc j = w in omega (arith, q))
    go b (suc m) zero more w again = absurd (let q : suc (suc m) ≡ suc zero = w in omega (arith, q))
    go true (suc m) (suc j) more w again =
        last_after n (n + suc j) (signed_from (suc n) es) (again j (more ∙ (let q : suc (suc m) ≡ suc (suc j) = w in omega (arith, q))) ∙ ap (λ (k : ℕ). Some k) (omega arith))
    go false (suc m) (suc j) more w again = again j (more ∙ (let q : suc (suc m) ≡ suc (suc j) = w in omega (arith, q))) ∙ ap (λ (k : ℕ). Some k) (omega arith)

-- the last seqno is that of the last signature
pub last_of_seqnos : (ledger : List Entry) (some : Option ℕ) → some ≡ slice_get (signature_seqnos ledger) (length (signature_seqnos ledger) - 1) →
    last_signed ledger ≡ unwrap_or some 0
last_of_seqnos ledger some at = go (last_signed ledger) refl
  where
    go : (m : ℕ) → last_signed ledger ≡ m → m ≡ unwrap_or some 0
    go zero is = sym (ap (λ (o : Option ℕ). unwrap_or o 0) at ∙ ap (λ (xs : List ℕ). unwrap_or (slice_get xs (length xs - 1)) 0) (none_signed 1 ledger is))
    go (suc i) is = sym (ap (λ (o : Option ℕ). unwrap_or o 0) (at ∙ last_from 1 i ledger is) ∙ (let q : unwrap_or (Some (1 + i)) 0 ≡ 1 + i = refl in omega (arith, q)))

-- ---- the last commit

abbrev pub commit_up_to : ℕ → List Entry → ℕ → ℕ
commit_up_to commit es zero = commit
commit_up_to commit es (suc i) = commit_at (slice_get es i)

pub commit_from-is : (commit : ℕ) (es : List Entry) → commit_from commit es ≡ commit_up_to commit es (last_signed es)
commit_from-is commit [] = refl
commit_from-is commit (e ∷ es) = commit_from-is (commit_after commit e.content) es ∙ go (last_signed es)
  where
    here : (c : Content) (f : Entry) → f.content ≡ c → commit_after commit c ≡ commit_up_to commit (f ∷ es) (seqno_with_first (is_signature c) 0)
    here (content.Governance b) f is = refl
    here (content.Application b) f is = refl
    here (content.Signature s) f is = sym (ap recorded_commit is)
    here (content.Evidence d) f is = refl

    later : (b : Bool) (i : ℕ) → commit_at (slice_get es i) ≡ commit_up_to commit (e ∷ es) (seqno_with_first b (suc i))
    later true i = refl
    later false i = refl

    go : (m : ℕ) → commit_up_to (commit_after commit e.content) es m ≡ commit_up_to commit (e ∷ es) (seqno_with_first (is_signature e.content) m)
    go zero = here e.content e refl
    go (suc i) = later (is_signature e.content) i

-- the last commit is what the entry of the last signature records
pub last_commit-is : (ledger : List Entry) → last_commit ledger ≡ commit_at (entry_at ledger (last_signed ledger))
last_commit-is ledger = commit_from-is 0 ledger ∙ go (last_signed ledger)
  where
    go : (m : ℕ) → commit_up_to 0 ledger m ≡ commit_at (entry_at ledger m)
    go zero = refl
    go (suc i) = refl

-- ---- they ascend

no_less : (n : ℕ) (es : List Entry) (j d : ℕ) → j < length (signed_from n es) → n ≤ get_or (signed_from n es) j d
no_less n [] j d low = absurd (omega arith)
no_less n (e ∷ es) j d low = go (is_signature e.content) j low (λ k less. no_less (suc n) es k d less)
  where
    go : (b : Bool) (k : ℕ) → k < length (seqno_if b n (signed_from (suc n) es)) → ((h : ℕ) → h < length (signed_from (suc n) es) → suc n ≤ get_or (signed_from (suc n) es) h d) →
        n ≤ get_or (seqno_if b n (signed_from (suc n) es)) k d
    go true zero w again = omega arith
    go true (suc k) w again = let r = again k (omega (arith, w)) in omega (arith, r)
    go false k w again = let r = again k w in omega (arith, r)

rising : (n : ℕ) (es : List Entry) (i j d : ℕ) → i ≤ j → j < length (signed_from n es) → get_or (signed_from n es) i d ≤ get_or (signed_from n es) j d
rising n [] i j d le low = absurd (omega arith)
rising n (e ∷ es) i j d le low = go (is_signature e.content) i j le low (λ h k le low. rising (suc n) es h k d le low)
  where
    go : (b : Bool) (h k : ℕ) → h ≤ k → k < length (seqno_if b n (signed_from (suc n) es)) →
        ((x y : ℕ) → x ≤ y → y < length (signed_from (suc n) es) → get_or (signed_from (suc n) es) x d ≤ get_or (signed_from (suc n) es) y d) →
        get_or (seqno_if b n (signed_from (suc n) es)) h d ≤ get_or (seqno_if b n (signed_from (suc n) es)) k d
    go true zero zero u w again = omega arith
    go true zero (suc k) u w again = let r = no_less (suc n) es k d (omega (arith, w)) in omega (arith, r)
    go true (suc h) zero u w again = absurd (omega arith)
    go true (suc h) (suc k) u w again = again h k (omega (arith, u)) (omega (arith, w))
    go false h k u w again = again h k u w

-- so that none that is at most a seqno comes after one above it
pub seqnos-partitioned : (ledger : List Entry) (to : ℕ) → IsPartitionedBy (λ s. nat_le s to) (signature_seqnos ledger)
seqnos-partitioned ledger to i j d le low up = let r = rising 1 ledger i j d le low in grind (arith, nat_tests)

-- ---- a cut ledger

-- the first k of these seqnos are below a limit, and the others aren't
abbrev IsCutAt : List ℕ → ℕ → ℕ → Type 0
IsCutAt xs limit k = ((j d : ℕ) → j < k → get_or xs j d < limit) × ((j d : ℕ) → k ≤ j → j < length xs → limit ≤ get_or xs j d)

cut_next : (n limit k : ℕ) (xs : List ℕ) → IsCutAt (n ∷ xs) limit (suc k) → IsCutAt xs limit k
cut_next n limit k xs cut = (λ j d low. cut.0 (suc j) d (omega arith), λ j d high low. cut.1 (suc j) d (omega arith) (omega arith))

point_cut : (to k : ℕ) (xs : List ℕ) → IsPartitionPoint (λ s. nat_le s to ≡ true) (λ s. nat_le s to ≡ false) xs k → IsCutAt xs (1 + to) k
point_cut to k xs point = (
  λ j d low. let here : nat_le (get_or xs j d) to ≡ true = point.0 j d (omega arith) low in grind (arith, nat_tests),
  λ j d high low. let here : nat_le (get_or xs j d) to ≡ false = point.1 j d high low in grind (arith, nat_tests),
)

-- none is below the seqno of the first entry
none_below : (n k : ℕ) (xs : List ℕ) → (0 < length xs → n ≤ get_or xs 0 0) → IsCutAt xs (n + 0) k → take k xs ≡ []
none_below n k [] low cut = take-nil k
none_below n zero (x ∷ xs) low cut = refl
none_below n (suc k) (x ∷ xs) low cut =
    let first : x < n + 0 = cut.0 0 0 (omega arith) in let least : n ≤ x = low (omega arith) in absurd (omega (arith, first, least))

take_cut : (n : ℕ) (es : List Entry) (to k : ℕ) → IsCutAt (signed_from n es) (n + to) k → signed_from n (take to es) ≡ take k (signed_from n es)
take_cut n es zero k cut = sym (none_below n k (signed_from n es) (λ some. no_less n es 0 0 some) cut)
take_cut n [] (suc to) k cut = sym (take-nil k)
take_cut n (e ∷ es) (suc to) k cut = go (is_signature e.content) k cut (λ m c. take_cut (suc n) es to m c)
  where
    moved : (m : ℕ) → IsCutAt (signed_from (suc n) es) (n + suc to) m → IsCutAt (signed_from (suc n) es) (suc n + to) m
    moved m c = (λ j d low. let r = c.0 j d low in omega (arith, r), λ j d high low. let r = c.1 j d high low in omega (arith, r))

    go : (b : Bool) (m : ℕ) → IsCutAt (seqno_if b n (signed_from (suc n) es)) (n + suc to) m →
        ((h : ℕ) → IsCutAt (signed_from (suc n) es) (suc n + to) h → signed_from (suc n) (take to es) ≡ take h (signed_from (suc n) es)) →
        seqno_if b n (signed_from (suc n) (take to es)) ≡ take m (seqno_if b n (signed_from (suc n) es))
    go true zero c again = absurd (let r : n + suc to ≤ n = c.1 0 0 (omega arith) (omega arith) in omega (arith, r))
    go true (suc m) c again = ap (λ (xs : List ℕ). n ∷ xs) (again m (moved m (cut_next n (n + suc to) m (signed_from (suc n) es) c)))
    go false m c again = again m (moved m c)

-- the signatures of a cut ledger are those up to its length
pub seqnos-take : (ledger : List Entry) (to n : ℕ) → IsPartitionPoint (λ s. nat_le s to ≡ true) (λ s. nat_le s to ≡ false) (signature_seqnos ledger) n →
    signature_seqnos (take to ledger) ≡ take n (signature_seqnos ledger)
seqnos-take ledger to n point = take_cut 1 ledger to n (point_cut to n (signature_seqnos ledger) point)

-- ---- the first above a seqno

-- the entry with a seqno, where that of the first entry is n
abbrev entry_from : ℕ → List Entry → Option ℕ → Option Entry
entry_from n es None = None
entry_from n es (Some seqno) = slice_get es (seqno - n)

entry_after : (n k : ℕ) (e : Entry) (es : List Entry) → entry_from (suc n) es (slice_get (signed_from (suc n) es) k) ≡ entry_from n (e ∷ es) (slice_get (signed_from (suc n) es) k)
entry_after n k e es = go (slice_get (signed_from (suc n) es) k) refl
  where
    go : (o : Option ℕ) → slice_get (signed_from (suc n) es) k ≡ o → entry_from (suc n) es o ≡ entry_from n (e ∷ es) o
    go None is = refl
    go (Some s) is =
        let low = no_less (suc n) es k 0 (slice_get-within (signed_from (suc n) es) k s is) in
        let at = get_or_from_slice_get (signed_from (suc n) es) k s 0 is in
        ap (slice_get (e ∷ es)) (let q : suc (s - suc n) ≡ s - n = omega (arith, low, at) in q)

above_cut : (n : ℕ) (es : List Entry) (seqno k : ℕ) → IsCutAt (signed_from n es) (n + seqno) k →
    find (λ (e : Entry). is_signature e.content) (drop seqno es) ≡ entry_from n es (slice_get (signed_from n es) k)
above_cut n [] zero k cut = refl
above_cut n [] (suc t) k cut = refl
above_cut n (e ∷ es) zero k cut = go (is_signature e.content) k cut (λ m c. above_cut (suc n) es zero m c)
  where
    go : (b : Bool) (m : ℕ) → IsCutAt (seqno_if b n (signed_from (suc n) es)) (n + 0) m →
        ((h : ℕ) → IsCutAt (signed_from (suc n) es) (suc n + 0) h → find (λ (f : Entry). is_signature f.content) es ≡ entry_from (suc n) es (slice_get (signed_from (suc n) es) h)) →
        cond b (Some e) (find (λ (f : Entry). is_signature f.content) es) ≡ entry_from n (e ∷ es) (slice_get (seqno_if b n (signed_from (suc n) es)) m)
    go true zero c again = ap (slice_get (e ∷ es)) (let q : 0 ≡ n - n = omega arith in q)
    go true (suc m) c again = absurd (let r : n < n + 0 = c.0 0 0 (omega arith) in omega (arith, r))
    go false m c again =
        again m (λ j d low. let r = c.0 j d low in omega (arith, r), λ j d high low. let r = no_less (suc n) es j d low in omega (arith, r)) ∙ entry_after n m e es
above_cut n (e ∷ es) (suc t) k cut = go (is_signature e.content) k cut (λ m c. above_cut (suc n) es t m c)
  where
    moved : (m : ℕ) → IsCutAt (signed_from (suc n) es) (n + suc t) m → IsCutAt (signed_from (suc n) es) (suc n + t) m
    moved m c = (λ j d low. let r = c.0 j d low in omega (arith, r), λ j d high low. let r = c.1 j d high low in omega (arith, r))

    go : (b : Bool) (m : ℕ) → IsCutAt (seqno_if b n (signed_from (suc n) es)) (n + suc t) m →
        ((h : ℕ) → IsCutAt (signed_from (suc n) es) (suc n + t) h → find (λ (f : Entry). is_signature f.content) (drop t es) ≡ entry_from (suc n) es (slice_get (signed_from (suc n) es) h)) →
        find (λ (f : Entry). is_signature f.content) (drop t es) ≡ entry_from n (e ∷ es) (slice_get (seqno_if b n (signed_from (suc n) es)) m)
    go true zero c again = absurd (let r : n + suc t ≤ n = c.1 0 0 (omega arith) (omega arith) in omega (arith, r))
    go true (suc m) c again = again m (moved m (cut_next n (n + suc t) m (signed_from (suc n) es) c)) ∙ entry_after n m e es
    go false m c again = again m (moved m c) ∙ entry_after n m e es

-- the first signature above a seqno is the entry at the first of their seqnos above it
pub above-is : (ledger : List Entry) (seqno n : ℕ) → IsPartitionPoint (λ s. nat_le s seqno ≡ true) (λ s. nat_le s seqno ≡ false) (signature_seqnos ledger) n →
    (o : Option ℕ) → o ≡ slice_get (signature_seqnos ledger) n → find (λ (e : Entry). is_signature e.content) (drop seqno ledger) ≡ entry_if ledger o
above-is ledger seqno n point o is = above_cut 1 ledger seqno n (point_cut seqno n (signature_seqnos ledger) point) ∙ ap (entry_from 1 ledger) (sym is) ∙ go o (sym is)
  where
    go : (p : Option ℕ) → slice_get (signature_seqnos ledger) n ≡ p → entry_from 1 ledger p ≡ entry_if ledger p
    go None at = refl
    go (Some zero) at =
        absurd (let low = no_less 1 ledger n 0 (slice_get-within (signature_seqnos ledger) n zero at) in let is_at = get_or_from_slice_get (signature_seqnos ledger) n zero 0 at in omega (arith, low, is_at))
    go (Some (suc s)) at = ap (slice_get ledger) (let q : suc s - 1 ≡ s = omega arith in q)

-- ---- where signatures stand

-- an entry is a signature where the last signature up to it is the entry itself
signs_from : (es : List Entry) (i : ℕ) → signs_at (slice_get es i) ≡ (last_signed (take (suc i) es) == suc i)
signs_from [] i = let t : (0 == suc i) ≡ false = grind (arith, nat_tests) in sym t
signs_from (e ∷ es) zero = go (is_signature e.content)
  where
    go : (b : Bool) → b ≡ (seqno_with_first b 0 == 1)
    go true = refl
    go false = refl
signs_from (e ∷ es) (suc i) = signs_from es i ∙ go (is_signature e.content) (last_signed (take (suc i) es))
  where
    first : (b : Bool) → (seqno_with_first b 0 == suc (suc i)) ≡ false
    first true = grind (arith, nat_tests)
    first false = grind (arith, nat_tests)

    go : (b : Bool) (m : ℕ) → (m == suc i) ≡ (seqno_with_first b m == suc (suc i))
    go b zero = (let t : (0 == suc i) ≡ false = grind (arith, nat_tests) in t) ∙ sym (first b)
    go true (suc m) = grind (arith, nat_tests)
    go false (suc m) = grind (arith, nat_tests)

signs_where : (ledger : List Entry) (n : ℕ) → signs_at (entry_at ledger n) ≡ (not (n == 0) && (last_signed (take n ledger) == n))
signs_where ledger zero = refl
signs_where ledger (suc i) = signs_from ledger i ∙ ap (λ (b : Bool). not b && (last_signed (take (suc i) ledger) == suc i)) (let t : false ≡ (suc i == 0) = sym (grind (arith, nat_tests)) in t)

-- ---- behind a base

-- their seqnos, where the base is 0 and where it is not
abbrev seqnos_at : ℕ → Body → List Entry → List ℕ
seqnos_at zero body es = signature_seqnos es
seqnos_at (suc n) body es = body.base ∷ signed_from (suc body.base) es

seqnos_are : (n : ℕ) (body : Body) (es : List Entry) → body.base ≡ n → seqnos_over body es ≡ seqnos_at n body es
seqnos_are zero body es is = ap (λ (m : ℕ). seqno_if (nat_lt 0 m) m (signed_from (suc m) es)) is
seqnos_are (suc n) body es is =
    ap (λ (b : Bool). seqno_if b body.base (signed_from (suc body.base) es)) (let some : nat_lt 0 body.base ≡ true = grind (arith, nat_tests, is) in some)

-- with one more entry
pub seqnos_over-push : (body : Body) (es : List Entry) (e : Entry) →
    seqnos_over body (es ++ e ∷ []) ≡ seqnos_over body es ++ seqno_if (is_signature e.content) (body.base + length es + 1) []
seqnos_over-push body es e =
    ap (seqno_if (nat_lt 0 body.base) body.base)
    (signed_from-push (suc body.base) es e ∙ ap (λ (k : ℕ). signed_from (suc body.base) es ++ seqno_if (is_signature e.content) k []) (omega arith))
    ∙ after_first (nat_lt 0 body.base) body.base (signed_from (suc body.base) es) (seqno_if (is_signature e.content) (body.base + length es + 1) [])

-- they ascend
rising_behind : (n : ℕ) (es : List Entry) (i j d : ℕ) → i ≤ j → j < length (n ∷ signed_from (suc n) es) → get_or (n ∷ signed_from (suc n) es) i d ≤ get_or (n ∷ signed_from (suc n) es) j d
rising_behind n es zero zero d le low = omega arith
rising_behind n es zero (suc j) d le low = let r = no_less (suc n) es j d (omega (arith, low)) in omega (arith, r)
rising_behind n es (suc i) zero d le low = absurd (omega arith)
rising_behind n es (suc i) (suc j) d le low = rising (suc n) es i j d (omega (arith, le)) (omega (arith, low))

partitioned_at : (n : ℕ) (body : Body) (es : List Entry) (to : ℕ) → IsPartitionedBy (λ s. nat_le s to) (seqnos_at n body es)
partitioned_at zero body es to i j d le low up = seqnos-partitioned es to i j d le low up
partitioned_at (suc n) body es to i j d le low up = let r = rising_behind body.base es i j d le low in grind (arith, nat_tests)

pub seqnos_over-partitioned : (body : Body) (es : List Entry) (to : ℕ) → IsPartitionedBy (λ s. nat_le s to) (seqnos_over body es)
seqnos_over-partitioned body es to = subst (IsPartitionedBy (λ s. nat_le s to)) (sym (seqnos_are body.base body es refl)) (partitioned_at body.base body es to)

-- the signatures of entries that are cut at a seqno from the base on are those up to it
cut_at : (n : ℕ) (body : Body) (es : List Entry) (to k : ℕ) → body.base ≡ n → body.base ≤ to → IsPartitionPoint (λ s. nat_le s to ≡ true) (λ s. nat_le s to ≡ false) (seqnos_at n body es) k →
    seqnos_at n body (take (to - body.base) es) ≡ take k (seqnos_at n body es)
cut_at zero body es to k is from point = ap (λ (m : ℕ). signature_seqnos (take m es)) (let whole : to - body.base ≡ to = omega (arith, is) in whole) ∙ seqnos-take es to k point
cut_at (suc n) body es to k is from point = go k (point_cut to k (body.base ∷ signed_from (suc body.base) es) point)
  where
    moved : (m : ℕ) → IsCutAt (signed_from (suc body.base) es) (1 + to) m → IsCutAt (signed_from (suc body.base) es) (suc body.base + (to - body.base)) m
    moved m c = (λ j d low. let r = c.0 j d low in omega (arith, r, from), λ j d high low. let r = c.1 j d high low in omega (arith, r, from))

    go : (m : ℕ) → IsCutAt (body.base ∷ signed_from (suc body.base) es) (1 + to) m →
        body.base ∷ signed_from (suc body.base) (take (to - body.base) es) ≡ take m (body.base ∷ signed_from (suc body.base) es)
    go zero c = absurd (let r : 1 + to ≤ body.base = c.1 0 0 (omega arith) (omega arith) in omega (arith, r, from))
    go (suc m) c =
        ap (λ (xs : List ℕ). body.base ∷ xs)
        (take_cut (suc body.base) es (to - body.base) m (moved m (cut_next body.base (1 + to) m (signed_from (suc body.base) es) c)))

pub seqnos_over-take : (body : Body) (es : List Entry) (to k : ℕ) → body.base ≤ to → IsPartitionPoint (λ s. nat_le s to ≡ true) (λ s. nat_le s to ≡ false) (seqnos_over body es) k →
    seqnos_over body (take (to - body.base) es) ≡ take k (seqnos_over body es)
seqnos_over-take body es to k from point =
    let are = seqnos_are body.base body es refl in
    seqnos_are body.base body (take (to - body.base) es) refl
    ∙ cut_at body.base body es to k refl from (subst (λ (ss : List ℕ). IsPartitionPoint (λ s. nat_le s to ≡ true) (λ s. nat_le s to ≡ false) ss k) are point) ∙ ap (take k) (sym are)

-- the last one
last_at : (n : ℕ) (body : Body) (es : List Entry) → unwrap_or (slice_get (seqnos_at n body es) (length (seqnos_at n body es) - 1)) 0 ≡ (past_at n body es).last_signed
last_at zero body es = sym (last_of_seqnos es (slice_get (signature_seqnos es) (length (signature_seqnos es) - 1)) refl)
last_at (suc n) body es = go (last_signed es) refl
  where
    go : (m : ℕ) → last_signed es ≡ m →
        unwrap_or (slice_get (body.base ∷ signed_from (suc body.base) es) (length (body.base ∷ signed_from (suc body.base) es) - 1)) 0 ≡ last_signed_over body es
    go zero is =
        ap (λ (xs : List ℕ). unwrap_or (slice_get (body.base ∷ xs) (length (body.base ∷ xs) - 1)) 0) (none_signed (suc body.base) es is)
        ∙ sym (ap (λ (m : ℕ). if m == 0 then body.base else body.base + m) is)
    go (suc i) is =
        let last = last_after body.base (suc body.base + i) (signed_from (suc body.base) es) (last_from (suc body.base) i es is) in
        let some : (suc i == 0) ≡ false = grind (arith, nat_tests) in
        let next : suc body.base + i ≡ body.base + suc i = omega arith in
        ap (λ (o : Option ℕ). unwrap_or o 0) last ∙ next ∙ sym (ap (λ (b : Bool). if b then body.base else body.base + suc i) some)
        ∙ sym (ap (λ (m : ℕ). if m == 0 then body.base else body.base + m) is)

pub last_over : (body : Body) (es : List Entry) (seqnos : List ℕ) → seqnos ≡ seqnos_over body es → unwrap_or (slice_get seqnos (length seqnos - 1)) 0 ≡ (past_over body es).last_signed
last_over body es seqnos are =
    ap (λ (ss : List ℕ). unwrap_or (slice_get ss (length ss - 1)) 0) (are ∙ seqnos_are body.base body es refl) ∙ last_at body.base body es

-- of the seqnos that are at most this one the last is that of the last signature of the entries cut there
pub last_up_to : (body : Body) (es : List Entry) (seqnos : List ℕ) (to n : ℕ) (last : ℕ) → body.base ≤ to → seqnos ≡ seqnos_over body es →
    (IsPartitionedBy (λ s. nat_le s to) seqnos → IsPartitionPoint (λ s. nat_le s to ≡ true) (λ s. nat_le s to ≡ false) seqnos n) →
    last ≡ unwrap_or (slice_get (take n seqnos) (length (take n seqnos) - 1)) 0 → last ≡ (past_over body (take (to - body.base) es)).last_signed
last_up_to body es seqnos to n last from are count is =
    let point : IsPartitionPoint (λ s. nat_le s to ≡ true) (λ s. nat_le s to ≡ false) (seqnos_over body es) n =
    subst (λ (ss : List ℕ). IsPartitionPoint (λ s. nat_le s to ≡ true) (λ s. nat_le s to ≡ false) ss n) are
    (count (subst (λ (ss : List ℕ). IsPartitionedBy (λ s. nat_le s to) ss) (sym are) (seqnos_over-partitioned body es to))) in
    is ∙ last_over body (take (to - body.base) es) (take n seqnos) (ap (take n) are ∙ sym (seqnos_over-take body es to n from point))

-- and whether one stands at a seqno, each one up to the base counting as one
signs_from_base : (base d m : ℕ) → (m == suc d) ≡ ((if m == 0 then base else base + m) == base + suc d)
signs_from_base base d zero = (let t : (0 == suc d) ≡ false = grind (arith, nat_tests) in t) ∙ sym (let t : (base == base + suc d) ≡ false = grind (arith, nat_tests) in t)
signs_from_base base d (suc m) =
    let some : (suc m == 0) ≡ false = grind (arith, nat_tests) in
    (let t : (suc m == suc d) ≡ (base + suc m == base + suc d) = grind (arith, nat_tests) in t) ∙ sym (ap (λ (b : Bool). (if b then base else base + suc m) == base + suc d) some)

signs_behind : (body : Body) (es : List Entry) (seqno last : ℕ) → 0 < body.base → (body.base ≤ seqno → last ≡ last_signed_over body (take (seqno - body.base) es)) →
    signs_over body es seqno ≡ (not (seqno == 0) && (nat_le seqno body.base || (last == seqno)))
signs_behind body es zero last some is = ap (λ (m : ℕ). (nat_lt 0 0 && nat_le 0 body.base) || signs_at (entry_at es m)) (let none : 0 - body.base ≡ 0 = omega arith in none)
signs_behind body es (suc i) last some is =
    ap (λ (b : Bool). (b && nat_le (suc i) body.base) || signs_at (entry_at es (suc i - body.base))) (let t : nat_lt 0 (suc i) ≡ true = grind (arith, nat_tests) in t)
    ∙ go (nat_le (suc i) body.base) refl
    ∙ ap (λ (b : Bool). not b && (nat_le (suc i) body.base || (last == suc i))) (let t : false ≡ (suc i == 0) = sym (grind (arith, nat_tests)) in t)
  where
    above : (d : ℕ) → suc i - body.base ≡ suc d → body.base ≤ suc i → signs_at (entry_at es (suc i - body.base)) ≡ (last == suc i)
    above d at from =
        let place : suc i ≡ body.base + suc d = omega (arith, at, from) in
        ap (λ (m : ℕ). signs_at (entry_at es m)) at ∙ signs_from es d ∙ signs_from_base body.base d (last_signed (take (suc d) es))
        ∙ sym (ap (λ (m : ℕ). last_signed_over body (take m es) == body.base + suc d) at)
        ∙ ap (λ (m : ℕ). last_signed_over body (take (suc i - body.base) es) == m) (sym place) ∙ ap (λ (m : ℕ). m == suc i) (sym (is from))

    go : (b : Bool) → nat_le (suc i) body.base ≡ b → (b || signs_at (entry_at es (suc i - body.base))) ≡ (b || (last == suc i))
    go true within = refl
    go false within =
        let high : body.base < suc i = grind (arith, nat_tests, within) in
        above (suc i - body.base - 1) (omega (arith, high)) (omega (arith, high))

signs_whole : (es : List Entry) (base seqno last : ℕ) → base ≡ 0 → (base ≤ seqno → last ≡ last_signed (take (seqno - base) es)) →
    signs_at (entry_at es seqno) ≡ (not (seqno == 0) && (nat_le seqno base || (last == seqno)))
signs_whole es base zero last none is = refl
signs_whole es base (suc i) last none is =
    let high : nat_le (suc i) base ≡ false = grind (arith, nat_tests, none) in
    let whole : suc i - base ≡ suc i = omega (arith, none) in
    signs_where es (suc i)
    ∙ ap (λ (m : ℕ). not (suc i == 0) && (m == suc i)) (sym (is (omega (arith, none)) ∙ ap (λ (m : ℕ). last_signed (take m es)) whole))
    ∙ sym (ap (λ (b : Bool). not (suc i == 0) && (b || (last == suc i))) high)

pub signs_kept : (body : Body) (es : List Entry) (seqno last : ℕ) → (body.base ≤ seqno → last ≡ (past_over body (take (seqno - body.base) es)).last_signed) →
    (past_over body es).signs_at seqno ≡ (not (seqno == 0) && (nat_le seqno body.base || (last == seqno)))
signs_kept body es seqno last is = go body.base refl is
  where
    go : (n : ℕ) → body.base ≡ n → (body.base ≤ seqno → last ≡ (past_at n body (take (seqno - body.base) es)).last_signed) →
        (past_at n body es).signs_at seqno ≡ (not (seqno == 0) && (nat_le seqno body.base || (last == seqno)))
    go zero at is = signs_whole es body.base seqno last at is
    go (suc n) at is = signs_behind body es seqno last (omega (arith, at)) is
