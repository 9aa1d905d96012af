-- The entries that one message carries are so many of the first ones.
use Rattle.std.proofs.Common.{◌≡◌, ℕ, zero, suc, ◌-◌, ◌≤◌, ◌<◌, ◌^◌, List, [], ◌∷◌, ◌++◌, length, take, drop, get_or, nat_le, true, Bool, if◌then◌else◌, refl, sym, ap, ap₂, subst, ◌∙◌, arith, append_assoc}
use Rattle.std.specs.List.{AllByRecursion}
use Rattle.std.proofs.lemmas.Bool.{and_parts, le-leb, lt-leb}
use Rattle.std.proofs.lemmas.Bool.Decides.{nat_tests}
use Rattle.std.proofs.lemmas.List.{append-nil}
use Rattle.gl_rules.specs.Book.{Book}
use Rattle.gl_rules.specs.Replication.{fitting_prefix}
use Rattle.gl_entry.specs.Entry.{is_entry, body_bytes, body_limit, content_bytes}
use Rattle.gl_entry.specs.declared.entry.Entry.{Entry}
use Rattle.gl_entry.proofs.Sizes.{content_within, writes_counted}

-- ---- lists

pub each_at : {A : Type 0} (P : A → Type 0) (xs : List A) (i : ℕ) (d : A) → AllByRecursion P xs → i < length xs → P (get_or xs i d)
each_at P [] i d all low = absurd (omega arith)
each_at P (x ∷ xs) zero d all low = all.0
each_at P (x ∷ xs) (suc i) d all low = each_at P xs i d all.1 (omega arith)

pub suffix : {A : Type 0} (xs : List A) (i : ℕ) (d : A) → i < length xs → drop i xs ≡ get_or xs i d ∷ drop (suc i) xs
suffix [] i d low = absurd (omega arith)
suffix (x ∷ xs) zero d low = refl
suffix (x ∷ xs) (suc i) d low = suffix xs i d (omega arith)

pub before : {A : Type 0} (xs : List A) (i : ℕ) (d : A) → i < length xs → take (suc i) xs ≡ take i xs ++ get_or xs i d ∷ []
before [] i d low = absurd (omega arith)
before (x ∷ xs) zero d low = refl
before (x ∷ xs) (suc i) d low = ap (λ ys. x ∷ ys) (before xs i d (omega arith))

pub none_after : {A : Type 0} (xs : List A) (i : ℕ) → length xs ≤ i → drop i xs ≡ []
none_after [] zero low = refl
none_after [] (suc i) low = refl
none_after (x ∷ xs) zero low = absurd (omega arith)
none_after (x ∷ xs) (suc i) low = none_after xs i (omega arith)

-- ---- sizes

-- so an entry's size can be reported
fits_small : (e : Entry) → is_entry e ≡ true → (length (content_bytes e.content) < 2 ^ 32) × (length e.writes < 2 ^ 32)
fits_small e fits =
    let small : nat_le (length (body_bytes e)) body_limit ≡ true = (and_parts _ (nat_le (length (body_bytes e)) body_limit) fits).1 in
    let body : length (body_bytes e) ≤ 1048576 = grind (arith, nat_tests) in
    (omega (arith, body, content_within e), omega (arith, body, writes_counted e))

pub content_small : (es : List Entry) (i : ℕ) (d : Entry) → AllByRecursion (λ e. is_entry e ≡ true) es → i < length es → length (content_bytes (get_or es i d).content) < 2 ^ 32
content_small es i d all low = (fits_small (get_or es i d) (each_at (λ (e : Entry). is_entry e ≡ true) es i d all low)).0

pub writes_small : (es : List Entry) (i : ℕ) (d : Entry) → AllByRecursion (λ e. is_entry e ≡ true) es → i < length es → length (get_or es i d).writes < 2 ^ 32
writes_small es i d all low = (fits_small (get_or es i d) (each_at (λ (e : Entry). is_entry e ≡ true) es i d all low)).1

-- ---- as many as fit

module _ {E Q G R A F : Type 0} (book : Book E Q G R A F) (es : List E) (most room : ℕ) where
  -- the first ones fit, and of those after so many as still do
  abbrev pub Fit : ℕ → ℕ → Type 0
  Fit count left = take count es ++ fitting_prefix book (most - count) left (drop count es) ≡ fitting_prefix book most room es

  pub fit_none : Fit 0 room
  fit_none = let same : most - 0 ≡ most = omega arith in ap (λ (n : ℕ). fitting_prefix book n room es) same

  none_left : (left : ℕ) (fs : List E) → fitting_prefix book 0 left fs ≡ []
  unfolding fitting_prefix
  none_left left fs = refl

  none_there : (n left : ℕ) → fitting_prefix book n left [] ≡ []
  unfolding fitting_prefix
  none_there zero left = refl
  none_there (suc n) left = refl

  next_fits : (n left : ℕ) (f : E) (fs : List E) → book.frame_size f ≤ left →
      fitting_prefix book (suc n) left (f ∷ fs) ≡ f ∷ fitting_prefix book n (left - book.frame_size f) fs
  unfolding fitting_prefix
  next_fits n left f fs fits =
      ap (λ (b : Bool). if b then f ∷ fitting_prefix book n (left - book.frame_size f) fs else []) (le-leb (book.frame_size f) left fits)

  next_too_large : (n left : ℕ) (f : E) (fs : List E) → left < book.frame_size f → fitting_prefix book (suc n) left (f ∷ fs) ≡ []
  unfolding fitting_prefix
  next_too_large n left f fs large =
      ap (λ (b : Bool). if b then f ∷ fitting_prefix book n (left - book.frame_size f) fs else []) (lt-leb (book.frame_size f) left large)

  no_more : (count left : ℕ) → fitting_prefix book (most - count) left (drop count es) ≡ [] → Fit count left → take count es ≡ fitting_prefix book most room es
  no_more count left none fit = sym (append-nil (take count es)) ∙ ap (λ (fs : List E). take count es ++ fs) (sym none) ∙ fit

  pub fit_all : (count left : ℕ) → length es ≤ count → Fit count left → take count es ≡ fitting_prefix book most room es
  fit_all count left past fit =
      no_more count left (ap (fitting_prefix book (most - count) left) (none_after es count past) ∙ none_there (most - count) left) fit

  pub fit_most : (count left : ℕ) → count ≡ most → Fit count left → take count es ≡ fitting_prefix book most room es
  fit_most count left is fit =
      let none : most - count ≡ 0 = omega (arith, is) in
      no_more count left (ap (λ (n : ℕ). fitting_prefix book n left (drop count es)) none ∙ none_left left (drop count es)) fit

  pub fit_no_more : (count left : ℕ) (d : E) → count < most → count < length es → left < book.frame_size (get_or es count d) → Fit count left →
      take count es ≡ fitting_prefix book most room es
  fit_no_more count left d low there large fit =
      let more : most - count ≡ suc (most - suc count) = omega (arith, low) in
      no_more count left
      (ap₂ (λ (n : ℕ) (fs : List E). fitting_prefix book n left fs) more (suffix es count d there)
      ∙ next_too_large (most - suc count) left (get_or es count d) (drop (suc count) es) large)
      fit

  pub fit_next : (count left : ℕ) (d : E) → count < most → count < length es → book.frame_size (get_or es count d) ≤ left → Fit count left →
      Fit (suc count) (left - book.frame_size (get_or es count d))
  fit_next count left d low there fits fit =
      let f = get_or es count d in
      let rest = fitting_prefix book (most - suc count) (left - book.frame_size f) (drop (suc count) es) in
      let more : most - count ≡ suc (most - suc count) = omega (arith, low) in
      ap (λ (fs : List E). fs ++ rest) (before es count d there)
      ∙ append_assoc (take count es) (f ∷ []) rest
      ∙ ap (λ (fs : List E). take count es ++ fs)
      (sym (ap₂ (λ (n : ℕ) (fs : List E). fitting_prefix book n left fs) more (suffix es count d there) ∙ next_fits (most - suc count) left f (drop (suc count) es) fits))
      ∙ fit

-- ---- the first of some entries

pub first_small : (es fs : List Entry) (e : Entry) → es ≡ e ∷ fs → AllByRecursion (λ x. is_entry x ≡ true) es →
    (length (content_bytes e.content) < 2 ^ 32) × (length e.writes < 2 ^ 32) × AllByRecursion (λ x. is_entry x ≡ true) fs
first_small es fs e is all =
    let parts = subst (λ (xs : List Entry). AllByRecursion (λ (x : Entry). is_entry x ≡ true) xs) is all in
    let small = fits_small e parts.0 in
    (small.0, small.1, parts.1)
