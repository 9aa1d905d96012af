-- Two identifiers are one where the test says so; functions that differ at one node; majorities
-- that meet.
use Rattle.std.proofs.Common.{◌≡◌, ◌≢◌, ◌⊎◌, inl, inr, ⊎_elim, ℕ, suc, ◌+◌, ◌*◌, ◌≤◌, List, [], ◌∷◌, length, Bool, true, false, ◌&&◌, ◌==◌, if◌then◌else◌, refl, sym, ap, ◌∙◌, true≢false, ltb-true, arith}
use Rattle.std.specs.Cmp.Lexicographic.{bytes_decides}
use Rattle.std.proofs.lemmas.Bool.Decides.{nat_tests, leb_tells, eqb_tells}
use Rattle.gl_rules.specs.Identity.{NodeId, same, put}
use Rattle.gl_rules.specs.Majority.{tally, majority}

pub same_is : (x y : NodeId) → same x y ≡ true → x ≡ y
unfolding same
same_is x y e = (bytes_decides x y).0 e

pub same_self : (x : NodeId) → same x x ≡ true
unfolding same
same_self x = (bytes_decides x x).1 refl

-- for `grind`
pub same_reports : (x y : NodeId) → ((same x y ≡ true) × (x ≡ y)) ⊎ ((same x y ≡ false) × (x ≢ y))
same_reports x y = go (same x y) refl
  where
    go : (t : Bool) → same x y ≡ t → ((same x y ≡ true) × (x ≡ y)) ⊎ ((same x y ≡ false) × (x ≢ y))
    go true e = inl (e, same_is x y e)
    go false e = inr (e, λ (z : x ≡ y). true≢false (sym (same_self x) ∙ ap (same x) z ∙ e))

pub cases_same : (x y : NodeId) → (x ≡ y) ⊎ (x ≢ y)
cases_same x y = ⊎_elim (λ (h : (same x y ≡ true) × (x ≡ y)). inl h.1) (λ (h : (same x y ≡ false) × (x ≢ y)). inr h.1) (same_reports x y)

pub ruleset id_tests = (leb_tells, eqb_tells, same_reports)

pub put_all : {A : Type 0} (P : NodeId → A → Type 0) (f : NodeId → A) (x : NodeId) (a : A) → P x a → ((y : NodeId) → y ≢ x → P y (f y)) → (y : NodeId) → P y (put f x a y)
put_all P f x a p k y = go (same y x) refl
  where
    go : (t : Bool) → same y x ≡ t → P y (if t then a else f y)
    go true e = subst_back (same_is y x e)
      where
        subst_back : y ≡ x → P y a
        subst_back z = rw z p
    go false e = k y (λ (z : y ≡ x). true≢false (sym (same_self x) ∙ ap (λ w. same w x) (sym z) ∙ e))

-- a test that differs at one node and view
abbrev pub put2 : {A : Type 0} → (NodeId → ℕ → A) → NodeId → ℕ → A → NodeId → ℕ → A
put2 f x v a y u = if same y x && (u == v) then a else f y u

-- by a test
pub by_test : {S : Type 0} (P : S → Type 0) (b : Bool) (s t : S) → (b ≡ true → P s) → (b ≡ false → P t) → P (if b then s else t)
by_test P true s t f g = f refl
by_test P false s t f g = g refl

pub shared : (votes ballots : NodeId → Bool) (config : List NodeId) → ((y : NodeId) × (votes y ≡ true) × (ballots y ≡ true)) ⊎ (tally votes config + tally ballots config ≤ length config)
shared votes ballots [] = inr (omega arith)
shared votes ballots (x ∷ xs) = go (votes x) (ballots x) refl refl (shared votes ballots xs)
  where
    go : (s t : Bool) → votes x ≡ s → ballots x ≡ t → ((y : NodeId) × (votes y ≡ true) × (ballots y ≡ true)) ⊎ (tally votes xs + tally ballots xs ≤ length xs) → ((y : NodeId) × (votes y ≡ true) × (ballots y ≡ true)) ⊎ (((if s then 1 else 0) + tally votes xs) + ((if t then 1 else 0) + tally ballots xs) ≤ suc (length xs))
    go true true p q r = inl (x, p, q)
    go true false p q (inl r) = inl r
    go true false p q (inr r) = inr (omega arith)
    go false true p q (inl r) = inl r
    go false true p q (inr r) = inr (omega arith)
    go false false p q (inl r) = inl r
    go false false p q (inr r) = inr (omega arith)

-- two majorities of one configuration have a node in common
pub share : (votes ballots : NodeId → Bool) (config : List NodeId) → majority votes config ≡ true → majority ballots config ≡ true → (y : NodeId) × (votes y ≡ true) × (ballots y ≡ true)
share votes ballots config p q = go (shared votes ballots config)
  where
    go : ((y : NodeId) × (votes y ≡ true) × (ballots y ≡ true)) ⊎ (tally votes config + tally ballots config ≤ length config) → (y : NodeId) × (votes y ≡ true) × (ballots y ≡ true)
    go (inl r) = r
    go (inr r) = absurd (omega (arith, ltb-true (length config) (2 * tally votes config) p, ltb-true (length config) (2 * tally ballots config) q))

pub put2_cases : {A : Type 0} (f : NodeId → ℕ → A) (x : NodeId) (v : ℕ) (a : A) (y : NodeId) (u : ℕ) → ((y ≡ x) × (u ≡ v) × (put2 f x v a y u ≡ a)) ⊎ (put2 f x v a y u ≡ f y u)
put2_cases f x v a y u = grind (arith, id_tests)

pub put2_at : {A : Type 0} (f : NodeId → ℕ → A) (x : NodeId) (v : ℕ) (a : A) → put2 f x v a x v ≡ a
put2_at f x v a = grind (arith, id_tests)
