-- The list of a ledger's configurations gives the active ones.
use Rattle.std.proofs.Common.{◌≡◌, inl, inr, ℕ, zero, suc, ◌≤◌, ◌<◌, List, [], ◌∷◌, ◌++◌, length, take, get_or, nat_le, nat_lt, Option, None, Some, if◌then◌else◌, refl, sym, ap, ap₂, subst, ◌∙◌, arith}
use Rattle.std.specs.List.{All, AllPairs}
use Rattle.std.specs.Option.{option_to_list}
use Rattle.std.proofs.lemmas.Bool.{cases_lt, cases_eq, lt-ltb, le-ltb, le-leb, lt-leb}
use Rattle.std.proofs.lemmas.List.{append-nil, map-append, length-take-le, take-take}
use Rattle.std.proofs.lemmas.List.Elements.{All-head, All-tail, All-nil, All-cons, All-append, filter-append}
use Rattle.std.proofs.lemmas.List.Quantifiers.{all_pairs_push}
use Rattle.gl_rules.specs.Identity.{NodeId}
use Rattle.gl_rules.specs.Book.{Book}
use Rattle.gl_rules.specs.Configuration.{or_else, configuration_at, configurations_above, active, active_upto}
use Rattle.gl_config.specs.declared.configuration.Configuration.{Configuration}
use Rattle.gl_config.specs.Active.{upto, above, last_of, active_of, sets_of, at_seqno, configurations_upto, configurations_of}

-- ---- configurations at or below a seqno

upto_all : (seqno : ℕ) (cs : List Configuration) → All (λ c. c.seqno ≤ seqno) cs → upto seqno cs ≡ cs
upto_all seqno [] h = refl
upto_all seqno (c ∷ cs) h = rw (le-leb c.seqno seqno (All-head (λ d. d.seqno ≤ seqno) c cs h)) (ap (λ r. c ∷ r) (upto_all seqno cs (All-tail (λ d. d.seqno ≤ seqno) c cs h)))

above_none : (seqno : ℕ) (cs : List Configuration) → All (λ c. c.seqno ≤ seqno) cs → above seqno cs ≡ []
above_none seqno [] h = refl
above_none seqno (c ∷ cs) h = rw (le-ltb seqno c.seqno (All-head (λ d. d.seqno ≤ seqno) c cs h)) (above_none seqno cs (All-tail (λ d. d.seqno ≤ seqno) c cs h))

last_of-push : (cs : List Configuration) (c : Configuration) → last_of (cs ++ c ∷ []) ≡ c ∷ []
unfolding last_of
last_of-push [] c = refl
last_of-push (a ∷ []) c = refl
last_of-push (a ∷ b ∷ cs) c = last_of-push (b ∷ cs) c

All-last_of : (P : Configuration → Type 0) (cs : List Configuration) → All P cs → All P (last_of cs)
unfolding last_of
All-last_of P [] h = h
All-last_of P (a ∷ []) h = h
All-last_of P (a ∷ b ∷ cs) h = All-last_of P (b ∷ cs) (All-tail P a (b ∷ cs) h)

-- the two tests in either order
upto-above : (seqno commit : ℕ) (cs : List Configuration) → upto seqno (above commit cs) ≡ above commit (upto seqno cs)
upto-above seqno commit [] = refl
upto-above seqno commit (c ∷ cs) =
    let again = upto-above seqno commit cs in
    elim (cases_lt commit c.seqno) [
      | inl late ↦ elim (cases_lt seqno c.seqno) [
        | inl high ↦ rw (lt-ltb commit c.seqno late, lt-leb c.seqno seqno high) again
        | inr low ↦ rw (lt-ltb commit c.seqno late, le-leb c.seqno seqno low, lt-ltb commit c.seqno late) (ap (λ r. c ∷ r) again)
      ]
      | inr early ↦ elim (cases_lt seqno c.seqno) [
        | inl high ↦ rw (le-ltb commit c.seqno early, lt-leb c.seqno seqno high) again
        | inr low ↦ rw (le-ltb commit c.seqno early, le-leb c.seqno seqno low, le-ltb commit c.seqno early) again
      ]
    ]

module _ {E Q G R A F : Type 0} (book : Book E Q G R A F) (log : List E) where
  -- ---- the configurations up to a seqno

  at_within : (k n : ℕ) (o : Option (List NodeId)) → k ≤ n → All (λ c. c.seqno ≤ n) (at_seqno k o)
  at_within k n None h = All-nil (λ c. c.seqno ≤ n)
  at_within k n (Some nodes) h = All-cons (λ c. c.seqno ≤ n) (record { seqno = k; nodes = nodes }) [] h (All-nil (λ c. c.seqno ≤ n))

  within : (k n : ℕ) → k ≤ n → All (λ c. c.seqno ≤ n) (configurations_upto book log k)
  unfolding configurations_upto
  within zero n h = All-nil (λ c. c.seqno ≤ n)
  within (suc k) n h =
      All-append (λ c. c.seqno ≤ n) (configurations_upto book log k) (at_seqno (suc k) (book.configuration (take (suc k) log)))
      (within k n (omega arith)) (at_within (suc k) n (book.configuration (take (suc k) log)) h)

  at_above : (k n : ℕ) (o : Option (List NodeId)) → n < k → upto n (at_seqno k o) ≡ []
  at_above k n None h = refl
  at_above k n (Some nodes) h = rw (lt-leb k n h) refl

  at_later : (k n : ℕ) (o : Option (List NodeId)) → n < k → above n (at_seqno k o) ≡ at_seqno k o
  at_later k n None h = refl
  at_later k n (Some nodes) h = rw (lt-ltb n k h) refl

  sets_at : (k : ℕ) (o : Option (List NodeId)) → sets_of (at_seqno k o) ≡ option_to_list o
  sets_at k None = refl
  sets_at k (Some nodes) = refl

  -- those of them at or below a lower seqno
  pub upto-configurations : (k n : ℕ) → n ≤ k → upto n (configurations_upto book log k) ≡ configurations_upto book log n
  unfolding configurations_upto
  upto-configurations zero n h =
      let none : n ≡ 0 = omega arith in
      sym (ap (configurations_upto book log) none)
  upto-configurations (suc k) n h =
      let more : List Configuration = at_seqno (suc k) (book.configuration (take (suc k) log)) in
      elim (cases_eq n (suc k)) [
        | inl same ↦ upto_all n (configurations_upto book log (suc k)) (within (suc k) n (omega arith)) ∙ ap (configurations_upto book log) (sym same)
        | inr other ↦ (
            filter-append (λ (c : Configuration). nat_le c.seqno n) (configurations_upto book log k) more
            ∙ ap₂ (λ a b. a ++ b) (upto-configurations k n (omega arith)) (at_above (suc k) n (book.configuration (take (suc k) log)) (omega arith))
            ∙ append-nil (configurations_upto book log n))
      ]

  last-configuration : (k : ℕ) → sets_of (last_of (configurations_upto book log k)) ≡ option_to_list (configuration_at book log k)
  unfolding configurations_upto configuration_at last_of
  last-configuration zero = refl
  last-configuration (suc k) = go (book.configuration (take (suc k) log)) (last-configuration k)
    where
      go : (o : Option (List NodeId)) → sets_of (last_of (configurations_upto book log k)) ≡ option_to_list (configuration_at book log k)
          → sets_of (last_of (configurations_upto book log k ++ at_seqno (suc k) o)) ≡ option_to_list (or_else o (configuration_at book log k))
      go None again = ap (λ cs. sets_of (last_of cs)) (append-nil (configurations_upto book log k)) ∙ again
      go (Some nodes) again = ap sets_of (last_of-push (configurations_upto book log k) (record { seqno = suc k; nodes = nodes }))

  above-configurations : (commit k : ℕ) → sets_of (above commit (configurations_upto book log k)) ≡ configurations_above book log commit k
  unfolding configurations_upto configurations_above
  above-configurations commit zero = refl
  above-configurations commit (suc k) =
      let o : Option (List NodeId) = book.configuration (take (suc k) log) in
      elim (cases_lt commit (suc k)) [
        | inl late ↦ (
            ap sets_of (filter-append (λ (c : Configuration). nat_lt commit c.seqno) (configurations_upto book log k) (at_seqno (suc k) o))
            ∙ map-append (λ (c : Configuration). c.nodes) (above commit (configurations_upto book log k)) (above commit (at_seqno (suc k) o))
            ∙ ap₂ (λ a b. a ++ b) (above-configurations commit k) (ap sets_of (at_later (suc k) commit o late) ∙ sets_at (suc k) o)
            ∙ sym (ap (λ t. if t then configurations_above book log commit k ++ option_to_list o else []) (lt-ltb commit (suc k) late)))
        | inr early ↦ (
            ap sets_of (above_none commit (configurations_upto book log (suc k)) (within (suc k) commit early))
            ∙ sym (ap (λ t. if t then configurations_above book log commit k ++ option_to_list o else []) (le-ltb commit (suc k) early)))
      ]

  active_of-configurations : (commit k : ℕ) → commit ≤ k → sets_of (active_of (configurations_upto book log k) commit) ≡ active_upto book log commit k
  unfolding active_of
  active_of-configurations commit k h =
      map-append (λ (c : Configuration). c.nodes) (last_of (upto commit (configurations_upto book log k))) (above commit (configurations_upto book log k))
      ∙ ap₂ (λ a b. a ++ b) (ap (λ cs. sets_of (last_of cs)) (upto-configurations k commit h) ∙ last-configuration commit) (above-configurations commit k)

  -- ---- the laws

  pub active-read : (commit : ℕ) → commit ≤ length log → sets_of (active_of (configurations_of book log) commit) ≡ active book log commit
  active-read commit h = active_of-configurations commit (length log) h

  upto-active_of : (commit seqno n : ℕ) → commit ≤ seqno → seqno ≤ n → upto seqno (active_of (configurations_upto book log n) commit) ≡ active_of (configurations_upto book log seqno) commit
  unfolding active_of
  upto-active_of commit seqno n low high =
      let cs : List Configuration = configurations_upto book log n in
      let prefix : upto commit cs ≡ configurations_upto book log commit = upto-configurations n commit (omega arith) in
      filter-append (λ (c : Configuration). nat_le c.seqno seqno) (last_of (upto commit cs)) (above commit cs)
      ∙ ap₂ (λ a b. a ++ b)
      (ap (λ r. upto seqno (last_of r)) prefix
      ∙ upto_all seqno (last_of (configurations_upto book log commit)) (All-last_of (λ c. c.seqno ≤ seqno) (configurations_upto book log commit) (within commit seqno low))
      ∙ ap last_of (sym (upto-configurations seqno commit low)))
      (upto-above seqno commit cs ∙ ap (above commit) (upto-configurations n seqno high))

  pub active_upto-read : (commit seqno : ℕ) → commit ≤ seqno → seqno ≤ length log → sets_of (upto seqno (active_of (configurations_of book log) commit)) ≡ active_upto book log commit seqno
  active_upto-read commit seqno low high = ap sets_of (upto-active_of commit seqno (length log) low high) ∙ active_of-configurations commit seqno low

  configurations-cut : (s k : ℕ) → k ≤ s → configurations_upto book (take s log) k ≡ configurations_upto book log k
  unfolding configurations_upto
  configurations-cut s zero h = refl
  configurations-cut s (suc k) h = ap₂ (λ cs l. cs ++ at_seqno (suc k) (book.configuration l)) (configurations-cut s k (omega arith)) (take-take (suc k) s log h)

  pub configurations_of-cut : (seqno : ℕ) → seqno ≤ length log → configurations_of book (take seqno log) ≡ upto seqno (configurations_of book log)
  configurations_of-cut seqno h =
      ap (configurations_upto book (take seqno log)) (length-take-le seqno log h) ∙ configurations-cut seqno seqno (omega arith) ∙ sym (upto-configurations (length log) seqno h)

  pub configurations_ascend : (k : ℕ) → AllPairs (λ c d. c.seqno < d.seqno) (configurations_upto book log k)
  unfolding configurations_upto
  configurations_ascend zero = λ i j d low high. absurd (omega arith)
  configurations_ascend (suc k) = go (book.configuration (take (suc k) log)) (configurations_ascend k)
    where
      go : (o : Option (List NodeId)) → AllPairs (λ c d. c.seqno < d.seqno) (configurations_upto book log k) → AllPairs (λ c d. c.seqno < d.seqno) (configurations_upto book log k ++ at_seqno (suc k) o)
      go None again = subst (AllPairs (λ (c d : Configuration). c.seqno < d.seqno)) (sym (append-nil (configurations_upto book log k))) again
      go (Some nodes) again = all_pairs_push (λ (c d : Configuration). c.seqno < d.seqno) (configurations_upto book log k) (record { seqno = suc k; nodes = nodes }) again
          (λ i d lt. let below : (get_or (configurations_upto book log k) i d).seqno ≤ k = within k k (omega arith) i d lt in omega arith)
