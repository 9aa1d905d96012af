-- Headers that begin a file, byte by byte.
use Rattle.std.proofs.Common.{◌≡◌, ◌≢◌, if◌then◌else◌, Bool, ℕ, ◌+◌, ◌<◌, ◌≤◌, List, [], ◌∷◌, ◌++◌, inl, inr, length, drop, get_or, Option, None, Some, refl, sym, ◌∙◌, ap, arith}
use Rattle.std.proofs.lemmas.Bool.{cases_eq, eq-eqb}
use Rattle.std.proofs.lemmas.Bool.Decides.{nat_tests}
use Rattle.std.proofs.lemmas.List.{drop_more, drop_all}
use Rattle.gl_journal.specs.Gates.{one_on, mismatch}

abbrev pub further : ℕ → Option ℕ → Option ℕ
further i None = None
further i (Some at) = Some (i + at)

pub further_one : (i : ℕ) (o : Option ℕ) → further i (one_on o) ≡ further (i + 1) o
further_one i None = refl
further_one i (Some at) = let e : i + (at + 1) ≡ i + 1 + at = omega arith in ap (λ (n : ℕ). Some n) e

pub further_none : (o : Option ℕ) → o ≡ further 0 o
further_none None = refl
further_none (Some at) = let e : at ≡ 0 + at = omega arith in ap (λ (n : ℕ). Some n) e

-- one byte that is the same
pub same_byte : (header file : List ℕ) (i : ℕ) → i < length header → i < length file → get_or file i 0 ≡ get_or header i 0
    → further i (mismatch (drop i header) (drop i file)) ≡ further (i + 1) (mismatch (drop (i + 1) header) (drop (i + 1) file))
same_byte header file i p q same =
    let h = get_or header i 0 in
    let rest = mismatch (drop (i + 1) header) (drop (i + 1) file) in
    let here : mismatch (drop i header) (drop i file) ≡ mismatch (get_or header i 0 ∷ drop (i + 1) header) (get_or header i 0 ∷ drop (i + 1) file) =
    ap (λ (l : List ℕ). mismatch l (drop i file)) (drop_more header i 0 p) ∙ ap (mismatch (get_or header i 0 ∷ drop (i + 1) header)) (drop_more file i 0 q ∙ ap (λ (n : ℕ). n ∷ drop (i + 1) file) same) in
    let yes : mismatch (get_or header i 0 ∷ drop (i + 1) header) (get_or header i 0 ∷ drop (i + 1) file) ≡ one_on (mismatch (drop (i + 1) header) (drop (i + 1) file)) =
    ap (λ (t : Bool). if t then one_on (mismatch (drop (i + 1) header) (drop (i + 1) file)) else Some 0) (eq-eqb (get_or header i 0) (get_or header i 0) refl) in
    ap (further i) (here ∙ yes) ∙ further_one i (mismatch (drop (i + 1) header) (drop (i + 1) file))

at_place : (i : ℕ) (o : Option ℕ) (m : Option ℕ) → o ≡ Some 0 → m ≡ further i o → Some i ≡ m
at_place i o m is whole =
    let e : i ≡ i + 0 = omega arith in
    ap (λ (n : ℕ). Some n) e ∙ sym (whole ∙ ap (further i) is)

-- the file has no such byte
pub lacks_byte : (header file : List ℕ) (i : ℕ) → i < length header → length file ≤ i → mismatch header file ≡ further i (mismatch (drop i header) (drop i file)) → Some i ≡ mismatch header file
lacks_byte header file i p q whole =
    at_place i (mismatch (drop i header) (drop i file)) (mismatch header file)
    (ap (λ (l : List ℕ). mismatch l (drop i file)) (drop_more header i 0 p) ∙ ap (mismatch (get_or header i 0 ∷ drop (i + 1) header)) (drop_all i file q)) whole

differs : (byte other : ℕ) (header file : List ℕ) → byte ≢ other → mismatch (byte ∷ header) (other ∷ file) ≡ Some 0
differs byte other header file apart = grind (arith, nat_tests)

-- the file has another byte
pub other_byte : (header file : List ℕ) (i : ℕ) → i < length header → i < length file → get_or header i 0 ≢ get_or file i 0 → mismatch header file ≡ further i (mismatch (drop i header) (drop i file)) → Some i ≡ mismatch header file
other_byte header file i p q apart whole =
    at_place i (mismatch (drop i header) (drop i file)) (mismatch header file)
    (ap (λ (l : List ℕ). mismatch l (drop i file)) (drop_more header i 0 p) ∙ ap (mismatch (get_or header i 0 ∷ drop (i + 1) header)) (drop_more file i 0 q) ∙ differs (get_or header i 0) (get_or file i 0) (drop (i + 1) header) (drop (i + 1) file) apart) whole

one_none : (o : Option ℕ) → one_on o ≡ None → o ≡ None
one_none None is = refl
one_none (Some at) is = cc

eq_step : (byte other : ℕ) (header file : List ℕ) → byte ≡ other → mismatch (byte ∷ header) (other ∷ file) ≡ one_on (mismatch header file)
eq_step byte other header file same = ap (λ (t : Bool). if t then one_on (mismatch header file) else Some 0) (eq-eqb byte other same)

-- a file that no byte of the header differs in begins with it
pub begins_with : (header file : List ℕ) → mismatch header file ≡ None → file ≡ header ++ drop (length header) file
begins_with [] file is = refl
begins_with (byte ∷ header) [] is = cc
begins_with (byte ∷ header) (other ∷ file) is = elim (cases_eq byte other) [
  | inl same ↦
      let rest : mismatch header file ≡ None = one_none (mismatch header file) (sym (eq_step byte other header file same) ∙ is) in
      ap (λ (l : List ℕ). other ∷ l) (begins_with header file rest) ∙ ap (λ (n : ℕ). n ∷ header ++ drop (length header) file) (sym same)
  | inr apart ↦ let there = differs byte other header file apart in cc
]
