-- One read after the other: what is read is encoded so, and what is encoded so is read. Each stands
-- where it may after the one before it.
use Rattle.std.proofs.Common.{◌≡◌, ℕ, zero, suc, Bool, true, ◌&&◌, List, [], ◌∷◌, ◌++◌, length, Option, Some, Ok, refl, ap, ◌∙◌, subst, append_assoc}
use Rattle.std.specs.List.{flat_map, list_all}
use Rattle.std.proofs.lemmas.Bool.{and_parts, and_from}
use Rattle.gl_base.specs.Steps.{◌>>=◌}
use Rattle.gl_base.specs.Cut.{Unread}
use Rattle.gl_base.specs.declared.fault.CodeFault.{CodeFault}
use Rattle.gl_base.proofs.ByteLists.{AreBytes}
use Rattle.gl_base.proofs.ParsedBytes.{Encoded, IsEncoded, Gets, IsRead, both_parts}
use Rattle.gl_base.proofs.Steps.{bind_ok, ok_injective}
use Rattle.gl_snapshot_body.specs.Body.{follow}
use Rattle.gl_snapshot_body.specs.Parsing.{repeated_at}
use Rattle.gl_snapshot_body.proofs.Loop.{Next}

-- What was read: the first, and the others after it.
record Turn {X : Type 0} (one : Next X) (last : Option X) (count : ℕ) (old : Unread) (read : List X × Unread) : Type 0 where
  pub x : X
  pub mid : Unread
  pub first : one last old ≡ Ok (x, mid)
  pub xs : List X
  pub new : Unread
  pub others : repeated_at one (Some x) count mid ≡ Ok (xs, new)
  pub same : ◌≡◌ {A = List X × Unread} (x ∷ xs, new) read

turn : {X : Type 0} (one : Next X) (last : Option X) (count : ℕ) (old : Unread) (read : List X × Unread) → repeated_at one last (suc count) old ≡ Ok read → Turn one last count old read
unfolding repeated_at
turn {X} one last count old read e =
    let first = bind_ok {A = X × Unread} {B = List X × Unread} {E = CodeFault} (one last old)
    (λ (first : X × Unread). repeated_at one (Some first.0) count first.1 >>= λ (rest : List X × Unread). Ok (first.0 ∷ rest.0, rest.1)) read e in
    let rest = bind_ok {A = List X × Unread} {B = List X × Unread} {E = CodeFault} (repeated_at one (Some first.0.0) count first.0.1)
    (λ (rest : List X × Unread). Ok (first.0.0 ∷ rest.0, rest.1)) read first.2 in
    record {
      x = first.0.0;
      mid = first.0.1;
      first = first.1;
      xs = rest.0.0;
      new = rest.0.1;
      others = rest.1;
      same = ok_injective {A = List X × Unread} {E = CodeFault} (first.0.0 ∷ rest.0.0, rest.0.1) read rest.2;
    }

none_read : {X : Type 0} (one : Next X) (last : Option X) (old : Unread) (read : List X × Unread) → repeated_at one last zero old ≡ Ok read → ◌≡◌ {A = List X × Unread} ([], old) read
unfolding repeated_at
none_read {X} one last old read e = ok_injective {A = List X × Unread} {E = CodeFault} ([], old) read e

-- ---- each stands where it may

pub repeated-follow : {X : Type 0} (one : Next X) (may : Option X → X → Bool) → ((last : Option X) (old new : Unread) (x : X) → one last old ≡ Ok (x, new) → may last x ≡ true)
    → (count : ℕ) (last : Option X) (old : Unread) (read : List X × Unread) → repeated_at one last count old ≡ Ok read → follow may last read.0 ≡ true
repeated-follow {X} one may each zero last old read e =
    subst (λ (y : List X × Unread). follow may last y.0 ≡ true) (none_read one last old read e) refl
repeated-follow {X} one may each (suc count) last old read e =
    let t = turn one last count old read e in
    let here = each last old t.mid t.x t.first in
    let others = repeated-follow one may each count (Some t.x) t.mid (t.xs, t.new) t.others in
    subst (λ (y : List X × Unread). follow may last y.0 ≡ true) {x = (t.x ∷ t.xs, t.new)} t.same (and_from (may last t.x) (follow may (Some t.x) t.xs) here others)

-- ---- what is read is encoded so

pub repeated-encoded : {X : Type 0} (one : Next X) (bytes : X → List ℕ) (may : Option X → X → Bool) → ((last : Option X) → IsEncoded (one last) bytes (may last))
    → (count : ℕ) (last : Option X) (old : Unread) (read : List X × Unread) → AreBytes old.bytes → repeated_at one last count old ≡ Ok read
    → Encoded (flat_map bytes) (follow may last) old read.0 read.1 × (length read.0 ≡ count)
repeated-encoded {X} one bytes may encoded zero last old read all e =
    subst (λ (y : List X × Unread). Encoded (flat_map bytes) (follow may last) old y.0 y.1 × (length y.0 ≡ 0)) {x = ([], old)} (none_read one last old read e)
    (record { parts = refl; left = all; limits = refl }, refl)
repeated-encoded {X} one bytes may encoded (suc count) last old read all e =
    let t = turn one last count old read e in
    let here = encoded last old t.mid t.x all t.first in
    let others = repeated-encoded one bytes may encoded count (Some t.x) t.mid (t.xs, t.new) here.left t.others in
    let parts = both_parts old.bytes (bytes t.x) t.mid.bytes (flat_map bytes t.xs) t.new.bytes here.parts others.0.parts in
    subst (λ (y : List X × Unread). Encoded (flat_map bytes) (follow may last) old y.0 y.1 × (length y.0 ≡ suc count)) {x = (t.x ∷ t.xs, t.new)} t.same
    (record { parts = parts; left = others.0.left; limits = and_from (may last t.x) (follow may (Some t.x) t.xs) here.limits others.0.limits }, ap suc others.1)

-- ---- what is encoded so is read

pub repeated-read : {X : Type 0} (one : Next X) (bytes : X → List ℕ) (may : Option X → X → Bool) → ((last : Option X) → IsRead (one last) bytes (may last))
    → (at : ℕ) (last : Option X) (xs : List X) (rest : List ℕ) → follow may last xs ≡ true
    → Gets (repeated_at one last (length xs) (record { at = at; bytes = flat_map bytes xs ++ rest })) xs rest
unfolding repeated_at
repeated-read one bytes may read at last [] rest all = record { place = at; read = refl }
repeated-read {X} one bytes may read at last (x ∷ xs) rest all =
    let both = and_parts (may last x) (follow may (Some x) xs) all in
    let first = read last at x (flat_map bytes xs ++ rest) both.0 in
    let others = repeated-read one bytes may read first.place (Some x) xs rest both.1 in
    let regrouped : flat_map bytes (x ∷ xs) ++ rest ≡ bytes x ++ (flat_map bytes xs ++ rest) = append_assoc (bytes x) (flat_map bytes xs) rest in
    record {
      place = others.place;
      read =
          ap (λ (ys : List ℕ). repeated_at one last (suc (length xs)) (record { at = at; bytes = ys })) regrouped
          ∙ rw (first.read, others.read) refl;
    }

-- ---- what is asked of each alone, and of its place after the one before it

abbrev pub alone : {X : Type 0} → (X → Bool) → Option X → X → Bool
alone is last x = is x

abbrev pub both : {X : Type 0} → (X → Bool) → (Option X → X → Bool) → Option X → X → Bool
both is may last x = is x && may last x

pub alone-all : {X : Type 0} (is : X → Bool) (last : Option X) (xs : List X) → follow (alone is) last xs ≡ true → list_all is xs ≡ true
alone-all is last [] all = refl
alone-all is last (x ∷ xs) all =
    let parts = and_parts (is x) (follow (alone is) (Some x) xs) all in
    and_from (is x) (list_all is xs) parts.0 (alone-all is (Some x) xs parts.1)

pub all-alone : {X : Type 0} (is : X → Bool) (last : Option X) (xs : List X) → list_all is xs ≡ true → follow (alone is) last xs ≡ true
all-alone is last [] all = refl
all-alone is last (x ∷ xs) all =
    let parts = and_parts (is x) (list_all is xs) all in
    and_from (is x) (follow (alone is) (Some x) xs) parts.0 (all-alone is (Some x) xs parts.1)

pub both-parts : {X : Type 0} (is : X → Bool) (may : Option X → X → Bool) (last : Option X) (xs : List X) → follow (both is may) last xs ≡ true
    → (list_all is xs ≡ true) × (follow may last xs ≡ true)
both-parts is may last [] all = (refl, refl)
both-parts is may last (x ∷ xs) all =
    let parts = and_parts (is x && may last x) (follow (both is may) (Some x) xs) all in
    let here = and_parts (is x) (may last x) parts.0 in
    let others = both-parts is may (Some x) xs parts.1 in
    (and_from (is x) (list_all is xs) here.0 others.0, and_from (may last x) (follow may (Some x) xs) here.1 others.1)

pub both-from : {X : Type 0} (is : X → Bool) (may : Option X → X → Bool) (last : Option X) (xs : List X) → list_all is xs ≡ true → follow may last xs ≡ true
    → follow (both is may) last xs ≡ true
both-from is may last [] all stands = refl
both-from is may last (x ∷ xs) all stands =
    let each = and_parts (is x) (list_all is xs) all in
    let parts = and_parts (may last x) (follow may (Some x) xs) stands in
    and_from (is x && may last x) (follow (both is may) (Some x) xs) (and_from (is x) (may last x) each.0 parts.0) (both-from is may (Some x) xs each.1 parts.1)
