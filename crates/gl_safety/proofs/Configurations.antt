-- Active configurations as the proof reads them: the newest one at or below commit, and those
-- above.
use Rattle.std.proofs.Common.{◌≡◌, ◌≢◌, ⊎_elim, ℕ, zero, suc, ◌+◌, ◌≤◌, ◌<◌, List, [], ◌∷◌, ◌++◌, length, take, Bool, true, false, ◌&&◌, nat_lt, Option, Some, None, refl, sym, ap, ◌∙◌, arith, if◌then◌else◌}
use Rattle.std.specs.Option.{option_to_list}
use Rattle.std.proofs.lemmas.Bool.{cases_eq, cases_lt}
use Rattle.std.proofs.lemmas.Bool.Decides.{nat_tests}
use Rattle.gl_rules.specs.Identity.{NodeId}
use Rattle.gl_rules.specs.Majority.{majority, quorum}
use Rattle.gl_rules.specs.Book.{Book}
use Rattle.gl_rules.specs.Configuration.{or_else, configuration_at, configurations_above, active_upto}
use Rattle.gl_rules.proofs.Lists.{Same, same_take}

pub quorum_append : (votes : NodeId → Bool) (xs ys : List (List NodeId)) → quorum votes (xs ++ ys) ≡ true → (quorum votes xs ≡ true) × (quorum votes ys ≡ true)
quorum_append votes [] ys e = (refl, e)
quorum_append votes (x ∷ xs) ys e = go (majority votes x) e (quorum_append votes xs ys)
  where
    go : (t : Bool) → (t && quorum votes (xs ++ ys)) ≡ true → (quorum votes (xs ++ ys) ≡ true → (quorum votes xs ≡ true) × (quorum votes ys ≡ true)) → ((t && quorum votes xs) ≡ true) × (quorum votes ys ≡ true)
    go true k again = again k
    go false k again = absurd (cc)

module _ {E Q G R A F : Type 0} (b : Book E Q G R A F) where
  -- m is the last configuration of l at or below c, and stands at p
  pub record IsNewest (l : List E) (c p : ℕ) (m : List NodeId) : Type 0 where
    pub counts : 0 < p
    pub below : p ≤ c
    pub at : b.configuration (take p l) ≡ Some m
    pub none : (q : ℕ) → p < q → q ≤ c → b.configuration (take q l) ≡ None

  -- a majority in each configuration of l that is active at commit c and stands at or below k
  pub record Backed (votes : NodeId → Bool) (l : List E) (c k : ℕ) : Type 0 where
    pub newest : (p : ℕ) (m : List NodeId) → IsNewest l c p m → majority votes m ≡ true
    pub above : (q : ℕ) (m : List NodeId) → c < q → q ≤ k → b.configuration (take q l) ≡ Some m → majority votes m ≡ true

  found : (l : List E) (c p : ℕ) (m : List NodeId) → IsNewest l c p m → configuration_at b l c ≡ Some m
  unfolding configuration_at
  found l zero p m k = absurd (omega (arith, k.counts, k.below))
  found l (suc c) p m k = ⊎_elim
      (λ (z : p ≡ suc c). let t : b.configuration (take (suc c) l) ≡ Some m = ap (λ q. b.configuration (take q l)) (sym z) ∙ k.at in ap (λ o. or_else o (configuration_at b l c)) t)
      (λ (z : p ≢ suc c).
      let t : b.configuration (take (suc c) l) ≡ None = k.none (suc c) (omega (arith, k.below)) (omega arith) in
      ap (λ o. or_else o (configuration_at b l c)) t
      ∙ found l c p m (record { counts = k.counts; below = omega (arith, k.below); at = k.at; none = λ q h i. k.none q h (omega arith) }))
      (cases_eq p (suc c))

  among : (votes : NodeId → Bool) (l : List E) (c k q : ℕ) (m : List NodeId) → c < q → q ≤ k → b.configuration (take q l) ≡ Some m → quorum votes (configurations_above b l c k) ≡ true → majority votes m ≡ true
  unfolding configurations_above
  among votes l c zero q m h i e s = absurd (omega arith)
  among votes l c (suc k) q m h i e s = go (nat_lt c (suc k)) (grind (arith, nat_tests)) s (λ n. among votes l c k q m h n e)
    where
      last : quorum votes (option_to_list (Some m)) ≡ true → majority votes m ≡ true
      last z = grind arith

      go : (t : Bool) → t ≡ true → quorum votes (if t then configurations_above b l c k ++ option_to_list (b.configuration (take (suc k) l)) else []) ≡ true →
          (q ≤ k → quorum votes (configurations_above b l c k) ≡ true → majority votes m ≡ true) → majority votes m ≡ true
      go true z w again =
          let parts = quorum_append votes (configurations_above b l c k) (option_to_list (b.configuration (take (suc k) l))) w in
          ⊎_elim
          (λ (d : q ≡ suc k). last (ap (λ o. quorum votes (option_to_list o)) (sym e ∙ ap (λ r. b.configuration (take r l)) d) ∙ parts.1))
          (λ (d : q ≢ suc k). again (omega arith) parts.0)
          (cases_eq q (suc k))
      go false z w again = absurd (cc)

  -- the rules' test says so
  pub backed_by : (votes : NodeId → Bool) (l : List E) (c k : ℕ) → quorum votes (active_upto b l c k) ≡ true → Backed votes l c k
  backed_by votes l c k e =
      let parts = quorum_append votes (option_to_list (configuration_at b l c)) (configurations_above b l c k) e in
      record {
        newest = λ p m z. last m (ap (λ o. quorum votes (option_to_list o)) (sym (found l c p m z)) ∙ parts.0);
        above = λ q m h i z. among votes l c k q m h i z parts.1;
      }
    where
      last : (m : List NodeId) → quorum votes (option_to_list (Some m)) ≡ true → majority votes m ≡ true
      last m z = grind arith

  -- the newest configuration at a later seqno, also where it isn't the newest at commit
  pub backs : (votes : NodeId → Bool) (l : List E) (c k d p : ℕ) (m : List NodeId) → Backed votes l c k → c ≤ d → d ≤ k → IsNewest l d p m → majority votes m ≡ true
  backs votes l c k d p m z h i n = ⊎_elim
      (λ (j : c < p). z.above p m j (omega (arith, n.below)) n.at)
      (λ (j : p ≤ c). z.newest p m (record { counts = n.counts; below = j; at = n.at; none = λ q r s. n.none q r (omega arith) }))
      (cases_lt c p)

  pub newest_same : (l r : List E) (c p : ℕ) (m : List NodeId) → c ≤ length l → Same c l r → IsNewest l c p m → IsNewest r c p m
  newest_same l r c p m h a n = record {
    counts = n.counts;
    below = n.below;
    at = ap b.configuration (sym (cut p n.below)) ∙ n.at;
    none = λ q i j. ap b.configuration (sym (cut q j)) ∙ n.none q i j;
  }
    where
      cut : (q : ℕ) → q ≤ c → take q l ≡ take q r
      cut q i = same_take q l r (omega arith) (λ j x k e. a j x (omega arith) e)

  step_up : (l : List E) (c : ℕ) → (p : ℕ) × (m : List NodeId) × IsNewest l c p m → (p : ℕ) × (m : List NodeId) × IsNewest l (suc c) p m
  step_up l c k = go (b.configuration (take (suc c) l)) refl
    where
      go : (o : Option (List NodeId)) → b.configuration (take (suc c) l) ≡ o → (p : ℕ) × (m : List NodeId) × IsNewest l (suc c) p m
      go (Some m) e = (suc c, m, record { counts = omega arith; below = omega arith; at = e; none = λ q i j. absurd (omega arith) })
      go None e = (
        k.0,
        k.1,
        record {
          counts = k.2.counts;
          below = omega (arith, k.2.below);
          at = k.2.at;
          none = λ q i j. ⊎_elim (λ (z : q ≡ suc c). ap (λ r. b.configuration (take r l)) z ∙ e) (λ (z : q ≢ suc c). k.2.none q i (omega arith)) (cases_eq q (suc c));
        },
      )

  pub newest_exists : (l : List E) (seqno more c : ℕ) (m : List NodeId) → 0 < seqno → b.configuration (take seqno l) ≡ Some m → c ≡ seqno + more → (p : ℕ) × (n : List NodeId) × IsNewest l c p n
  newest_exists l seqno zero c m h e z = (seqno, m, record { counts = h; below = omega arith; at = e; none = λ q i j. absurd (omega arith) })
  newest_exists l seqno (suc more) zero m h e z = absurd (omega arith)
  newest_exists l seqno (suc more) (suc c) m h e z = step_up l c (newest_exists l seqno more c m h e (omega arith))
