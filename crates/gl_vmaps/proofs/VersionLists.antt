-- Lists of versions: the last one, those up to a place, and the latest from a place on.
use Rattle.std.proofs.Common.{◌≡◌, ℕ, ◌≤◌, Bool, true, false, ◌&&◌, ◌||◌, cond, List, [], ◌∷◌, ◌++◌, Option, Some, refl, ◌∙◌, ap, if◌then◌else◌, arith}
use Rattle.std.specs.List.{last_or, list_any}
use Rattle.std.proofs.lemmas.Bool.Decides.{nat_tests}
use Rattle.gl_vmaps.specs.Standing.{is_up_to, versions_up_to, latest_from}
use Rattle.gl_vmaps.specs.declared.table.Version.{Version}

-- ---- the last one

pub last_or-append : {A : Type 0} (o : Option A) (xs ys : List A) → last_or o (xs ++ ys) ≡ last_or (last_or o xs) ys
last_or-append o [] ys = refl
last_or-append o (x ∷ xs) ys = last_or-append (Some x) xs ys

last_or-some : (o p : Option Version) (place : ℕ) (vs : List Version) → list_any (is_up_to place) vs ≡ true → last_or o vs ≡ last_or p vs
last_or-some o p place [] any = absurd (cc)
last_or-some o p place (v ∷ vs) any = refl

-- ---- those up to a place

is_up_to-later : (v : Version) (place later : ℕ) → place ≤ later → is_up_to place v ≡ true → is_up_to later v ≡ true
is_up_to-later v place later le is = grind (arith, nat_tests)

any_later : (vs : List Version) (place later : ℕ) → place ≤ later → list_any (is_up_to place) vs ≡ true → list_any (is_up_to later) vs ≡ true
any_later [] place later le any = absurd (cc)
any_later (v ∷ vs) place later le any = go (is_up_to place v) (is_up_to later v) refl refl (λ e. any_later vs place later le e) any
  where
    go : (a b : Bool) → is_up_to place v ≡ a → is_up_to later v ≡ b → (list_any (is_up_to place) vs ≡ true → list_any (is_up_to later) vs ≡ true) →
        (a || list_any (is_up_to place) vs) ≡ true → (b || list_any (is_up_to later) vs) ≡ true
    go a true is is' rest either = refl
    go true false is is' rest either = let up = is_up_to-later v place later le is in absurd (cc)
    go false false is is' rest either = rest either

any-up_to : (vs : List Version) (place to : ℕ) → place ≤ to → list_any (is_up_to place) (versions_up_to to vs) ≡ list_any (is_up_to place) vs
any-up_to [] place to le = refl
any-up_to (v ∷ vs) place to le = go (is_up_to place v) (is_up_to to v) refl refl (any-up_to vs place to le)
  where
    go : (a b : Bool) → is_up_to place v ≡ a → is_up_to to v ≡ b → list_any (is_up_to place) (versions_up_to to vs) ≡ list_any (is_up_to place) vs →
        list_any (is_up_to place) (cond b (v ∷ versions_up_to to vs) (versions_up_to to vs)) ≡ (a || list_any (is_up_to place) vs)
    go true true is is' rest = rw is refl
    go false true is is' rest = rw is rest
    go true false is is' rest = let up = is_up_to-later v place to le is in absurd (cc)
    go false false is is' rest = rest

-- ---- the latest from a place on

any-latest : (vs : List Version) (place later : ℕ) → place ≤ later → list_any (is_up_to later) (latest_from place vs) ≡ list_any (is_up_to later) vs
any-latest [] place later le = refl
any-latest (v ∷ vs) place later le = go (is_up_to place v) (list_any (is_up_to place) vs) refl refl (any-latest vs place later le)
  where
    go : (a b : Bool) → is_up_to place v ≡ a → list_any (is_up_to place) vs ≡ b → list_any (is_up_to later) (latest_from place vs) ≡ list_any (is_up_to later) vs →
        list_any (is_up_to later) (if a && b then latest_from place vs else v ∷ latest_from place vs) ≡ (is_up_to later v || list_any (is_up_to later) vs)
    go true true is any rest =
        let up : is_up_to later v ≡ true = is_up_to-later v place later le is in
        let others : list_any (is_up_to later) vs ≡ true = any_later vs place later le any in
        rest ∙ others ∙ rw up refl
    go true false is any rest = ap (λ b. is_up_to later v || b) rest
    go false b is any rest = ap (λ b. is_up_to later v || b) rest

-- the last one stays
pub last_or-latest : (o : Option Version) (place : ℕ) (vs : List Version) → last_or o (latest_from place vs) ≡ last_or o vs
last_or-latest o place [] = refl
last_or-latest o place (v ∷ vs) = go (is_up_to place v) (list_any (is_up_to place) vs) refl (last_or-latest o place vs) (last_or-latest (Some v) place vs)
  where
    go : (a b : Bool) → list_any (is_up_to place) vs ≡ b → last_or o (latest_from place vs) ≡ last_or o vs → last_or (Some v) (latest_from place vs) ≡ last_or (Some v) vs →
        last_or o (if a && b then latest_from place vs else v ∷ latest_from place vs) ≡ last_or (Some v) vs
    go true true any without with = without ∙ last_or-some o (Some v) place vs any
    go true false any without with = with
    go false b any without with = with

pub any_either : (test : Version → Bool) (xs ys : List Version) → list_any test (xs ++ ys) ≡ (list_any test xs || list_any test ys)
any_either test [] ys = refl
any_either test (x ∷ xs) ys = rw (any_either test xs ys) (elim (test x) as (λ b. (b || (list_any test xs || list_any test ys)) ≡ ((b || list_any test xs) || list_any test ys)) [ true ↦ refl | false ↦ refl ])

-- what was not among the latest is not missed after others
pub latest-append : (place : ℕ) (xs ys : List Version) → latest_from place (xs ++ ys) ≡ latest_from place (latest_from place xs ++ ys)
latest-append place [] ys = refl
latest-append place (v ∷ xs) ys = rw (any_either (is_up_to place) xs ys) (go (is_up_to place v) (list_any (is_up_to place) xs) refl refl (latest-append place xs ys))
  where
    go : (a b : Bool) → is_up_to place v ≡ a → list_any (is_up_to place) xs ≡ b → latest_from place (xs ++ ys) ≡ latest_from place (latest_from place xs ++ ys) →
        (if a && (b || list_any (is_up_to place) ys) then latest_from place (xs ++ ys) else v ∷ latest_from place (xs ++ ys))
        ≡ latest_from place ((if a && b then latest_from place xs else v ∷ latest_from place xs) ++ ys)
    go true true is any rest = rest
    go true false is any rest =
        let none : list_any (is_up_to place) (latest_from place xs ++ ys) ≡ list_any (is_up_to place) ys =
        any_either (is_up_to place) (latest_from place xs) ys ∙ ap (λ b. b || list_any (is_up_to place) ys) (any-latest xs place place (omega arith) ∙ any) in
        rw (is, none, rest) refl
    go false b is any rest = rw (is, rest) refl

-- those that were the latest from an earlier place hide none that are from a later one
pub latest-latest : (vs : List Version) (place later : ℕ) → place ≤ later → latest_from later (latest_from place vs) ≡ latest_from later vs
latest-latest [] place later le = refl
latest-latest (v ∷ vs) place later le = go (is_up_to place v) (list_any (is_up_to place) vs) refl refl (latest-latest vs place later le)
  where
    kept : latest_from later (latest_from place vs) ≡ latest_from later vs →
        latest_from later (v ∷ latest_from place vs) ≡ (if is_up_to later v && list_any (is_up_to later) vs then latest_from later vs else v ∷ latest_from later vs)
    kept rest = rw (any-latest vs place later le, rest) refl

    go : (a b : Bool) → is_up_to place v ≡ a → list_any (is_up_to place) vs ≡ b → latest_from later (latest_from place vs) ≡ latest_from later vs →
        latest_from later (if a && b then latest_from place vs else v ∷ latest_from place vs)
        ≡ (if is_up_to later v && list_any (is_up_to later) vs then latest_from later vs else v ∷ latest_from later vs)
    go true true is any rest =
        let up : is_up_to later v ≡ true = is_up_to-later v place later le is in
        let others : list_any (is_up_to later) vs ≡ true = any_later vs place later le any in
        rw (up, others) rest
    go true false is any rest = kept rest
    go false b is any rest = kept rest

-- a cut above the place leaves the latest as they are
pub latest-up_to : (vs : List Version) (place to : ℕ) → place ≤ to → latest_from place (versions_up_to to vs) ≡ versions_up_to to (latest_from place vs)
latest-up_to [] place to le = refl
latest-up_to (v ∷ vs) place to le = go (is_up_to to v) (is_up_to place v) (list_any (is_up_to place) vs) refl refl refl (latest-up_to vs place to le)
  where
    go : (u a b : Bool) → is_up_to to v ≡ u → is_up_to place v ≡ a → list_any (is_up_to place) vs ≡ b →
        latest_from place (versions_up_to to vs) ≡ versions_up_to to (latest_from place vs) →
        latest_from place (cond u (v ∷ versions_up_to to vs) (versions_up_to to vs)) ≡ versions_up_to to (if a && b then latest_from place vs else v ∷ latest_from place vs)
    go true true true up is any rest = rw (is, any-up_to vs place to le, any) rest
    go true true false up is any rest = rw (is, any-up_to vs place to le, any, up) (ap (λ ws. v ∷ ws) rest)
    go true false b up is any rest = rw (is, up) (ap (λ ws. v ∷ ws) rest)
    go false true b up is any rest = let over = is_up_to-later v place to le is in absurd (cc)
    go false false b up is any rest = rw up rest
