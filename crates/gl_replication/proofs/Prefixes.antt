-- A log of which only a prefix counts, as the view rises.
use Rattle.std.proofs.Common.{◌≡◌, ◌≤◌, ◌<◌, ℕ, zero, suc, ◌+◌, ◌-◌, List, [], ◌∷◌, length, take, drop, true, false, nat_le, Some, ◌==◌, if◌then◌else◌, refl, sym, ap, ◌∙◌, arith}
use Rattle.std.proofs.lemmas.Bool.Decides.{nat_tests}
use Rattle.gl_rules.specs.Book.{Book}
use Rattle.gl_rules.specs.Log.{entry_at, view_at, view_of_entry}
use Rattle.gl_rules.specs.Replication.{matching_prefix_len, highest_possible_match}
use Rattle.gl_election.proofs.Bridging.{last_le}

module _ {E : Type 0} where
  pub entry_within : (l : List E) (len seqno : ℕ) → seqno ≤ len → entry_at (take len l) seqno ≡ entry_at l seqno
  entry_within l len zero h = refl
  entry_within l zero (suc seqno) h = absurd (omega arith)
  entry_within [] (suc len) (suc seqno) h = refl
  entry_within (e ∷ l) (suc len) (suc zero) h = refl
  entry_within (e ∷ l) (suc len) (suc (suc seqno)) h = entry_within l len (suc seqno) (omega arith)

  after_from : (l : List E) (len prev : ℕ) → prev < len → len ≤ length l → (f : E) × (drop prev (take len l) ≡ f ∷ drop (suc prev) (take len l)) × (entry_at l (suc prev) ≡ Some f)
  after_from l zero prev h i = absurd (omega arith)
  after_from [] (suc len) prev h i = absurd (omega arith)
  after_from (e ∷ l) (suc len) zero h i = (e, refl, refl)
  after_from (e ∷ l) (suc len) (suc prev) h i = let r = after_from l len prev (omega arith) (omega arith) in (r.0, r.1, r.2)

  after_at : (l : List E) (len prev : ℕ) → prev < len → len ≤ length l → (f : E) × (drop prev (take len l) ≡ f ∷ drop (prev + 1) (take len l)) × (entry_at l (prev + 1) ≡ Some f)
  after_at l len prev h i =
      let e : suc prev ≡ prev + 1 = omega arith in
      let r = after_from l len prev h i in
      (r.0, r.1 ∙ ap (λ k. r.0 ∷ drop k (take len l)) e, ap (entry_at l) (sym e) ∙ r.2)

  pub after_none : (l : List E) (len prev : ℕ) → len ≤ prev → drop prev (take len l) ≡ []
  after_none l zero zero h = refl
  after_none l zero (suc prev) h = refl
  after_none [] (suc len) zero h = refl
  after_none [] (suc len) (suc prev) h = refl
  after_none (e ∷ l) (suc len) zero h = absurd (omega arith)
  after_none (e ∷ l) (suc len) (suc prev) h = after_none l len prev (omega arith)

module _ {E Q G R A F : Type 0} (b : Book E Q G R A F) where
  pub view_within : (l : List E) (len seqno : ℕ) → seqno ≤ len → view_at b (take len l) seqno ≡ view_at b l seqno
  view_within l len seqno h = ap (view_of_entry b) (entry_within l len seqno h)

  pub match_zero : (l es : List E) → es ≡ [] → matching_prefix_len b l es ≡ 0
  unfolding matching_prefix_len
  match_zero l [] is = refl
  match_zero l (e ∷ es) is = absurd (cc)

  pub match_none : (l : List E) (len prev : ℕ) (es : List E) → len ≤ prev → matching_prefix_len b (drop prev (take len l)) es ≡ 0
  unfolding matching_prefix_len
  match_none l len prev [] h = refl
  match_none l len prev (e ∷ es) h = ap (λ m. matching_prefix_len b m (e ∷ es)) (after_none l len prev h)

  pub match_other : (l : List E) (len prev : ℕ) (e : E) (es : List E) → prev < len → len ≤ length l → (view_at b l (prev + 1) ≡ b.view_of e → ⊥) → matching_prefix_len b (drop prev (take len l)) (e ∷ es) ≡ 0
  unfolding matching_prefix_len
  match_other l len prev e es h i other =
      let r = after_at l len prev h i in
      ap (λ m. matching_prefix_len b m (e ∷ es)) r.1
      ∙ ap (λ t. if t then suc (matching_prefix_len b (drop (prev + 1) (take len l)) es) else 0) (let t : (b.view_of r.0 == b.view_of e) ≡ false = not_equal (b.view_of r.0) (b.view_of e) (λ z. other (ap (view_of_entry b) r.2 ∙ z)) in t)
    where
      not_equal : (u v : ℕ) → (u ≡ v → ⊥) → (u == v) ≡ false
      not_equal u v h = grind (arith, nat_tests)

  pub match_more : (l : List E) (len prev : ℕ) (e : E) (es : List E) → prev < len → len ≤ length l → view_at b l (prev + 1) ≡ b.view_of e →
      matching_prefix_len b (drop prev (take len l)) (e ∷ es) ≡ suc (matching_prefix_len b (drop (prev + 1) (take len l)) es)
  unfolding matching_prefix_len
  match_more l len prev e es h i equal =
      let r = after_at l len prev h i in
      ap (λ m. matching_prefix_len b m (e ∷ es)) r.1
      ∙ ap (λ t. if t then suc (matching_prefix_len b (drop (prev + 1) (take len l)) es) else 0) (let t : (b.view_of r.0 == b.view_of e) ≡ true = is_equal (b.view_of r.0) (b.view_of e) (sym (ap (view_of_entry b) r.2) ∙ equal) in t)
    where
      is_equal : (u v : ℕ) → u ≡ v → (u == v) ≡ true
      is_equal u v h = grind (arith, nat_tests)

  pub ruleset last = (last_le)

  pub most_here : (l : List E) (len view seqno : ℕ) → 0 < seqno → seqno ≤ len → view_at b l seqno ≤ view → highest_possible_match b (take len l) view seqno ≡ seqno
  unfolding highest_possible_match
  most_here l len view zero p h is = absurd (omega arith)
  most_here l len view (suc seqno) p h is =
      ap (λ t. if nat_le t view then suc seqno else highest_possible_match b (take len l) view seqno) (view_within l len (suc seqno) h)
      ∙ ap (λ t. if t then suc seqno else highest_possible_match b (take len l) view seqno) (let t : nat_le (view_at b l (suc seqno)) view ≡ true = grind (arith, nat_tests) in t)

  pub most_below : (l : List E) (len view seqno : ℕ) → 0 < seqno → seqno ≤ len → view < view_at b l seqno → highest_possible_match b (take len l) view seqno ≡ highest_possible_match b (take len l) view (seqno - 1)
  unfolding highest_possible_match
  most_below l len view zero p h is = absurd (omega arith)
  most_below l len view (suc seqno) p h is =
      let e : suc seqno - 1 ≡ seqno = omega arith in
      ap (λ t. if nat_le t view then suc seqno else highest_possible_match b (take len l) view seqno) (view_within l len (suc seqno) h)
      ∙ ap (λ t. if t then suc seqno else highest_possible_match b (take len l) view seqno) (let t : nat_le (view_at b l (suc seqno)) view ≡ false = grind (arith, nat_tests) in t)
      ∙ ap (highest_possible_match b (take len l) view) (sym e)

  pub most_none : (l : List E) (len view seqno : ℕ) → seqno ≡ 0 → highest_possible_match b (take len l) view seqno ≡ 0
  unfolding highest_possible_match
  most_none l len view zero h = refl
  most_none l len view (suc seqno) h = absurd (omega arith)

  pub ruleset matching = (view_within, match_zero, match_none, match_other, match_more, most_here, most_below, most_none)
