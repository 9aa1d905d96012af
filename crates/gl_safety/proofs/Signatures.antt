-- The last signature of a log, and the greatest commit that its signatures record.
use Rattle.std.proofs.Common.{◌≡◌, ◌≢◌, inl, inr, ⊎_elim, ℕ, zero, suc, ◌≤◌, ◌<◌, max, List, [], ◌∷◌, length, take, Bool, true, false, Some, slice_get, refl, sym, ap, ◌∙◌, length-take, arith, if◌then◌else◌}
use Rattle.std.proofs.lemmas.Bool.{cases_eq}
use Rattle.std.proofs.lemmas.Bool.Decides.{nat_tests}
use Rattle.gl_rules.specs.Book.{Book}
use Rattle.gl_rules.specs.Message.{Position}
use Rattle.gl_rules.specs.Log.{seqno_with_first, is_up_to_date, view_at, last_signature, last_signature_position, greatest_recorded}
use Rattle.gl_rules.proofs.Lists.{get_take, take_get}
use Rattle.gl_safety.proofs.Facts.{Covers, Rising}

module _ {E Q G R A F : Type 0} (b : Book E Q G R A F) where
  pub last_le : (l : List E) → last_signature b l ≤ length l
  unfolding last_signature
  last_le [] = omega arith
  last_le (e ∷ l) = go (b.is_signature e) (last_signature b l) (last_le l)
    where
      go : (t : Bool) (k : ℕ) → k ≤ length l → seqno_with_first t k ≤ suc (length l)
      go t (suc k) h = omega arith
      go true zero h = omega arith
      go false zero h = omega arith

  pub last_above : (l : List E) (i : ℕ) (e : E) → slice_get l i ≡ Some e → b.is_signature e ≡ true → i < last_signature b l
  unfolding last_signature
  last_above [] i e a s = absurd (cc)
  last_above (f ∷ l) zero e a s = go (b.is_signature f) (last_signature b l) (let z : f ≡ e = cc in ap b.is_signature z ∙ s)
    where
      go : (t : Bool) (k : ℕ) → t ≡ true → 0 < seqno_with_first t k
      go t (suc k) h = omega arith
      go true zero h = omega arith
      go false zero h = absurd (cc)
  last_above (f ∷ l) (suc i) e a s = go (b.is_signature f) (last_signature b l) (last_above l i e a s)
    where
      go : (t : Bool) (k : ℕ) → i < k → suc i < seqno_with_first t k
      go t (suc k) h = omega arith
      go true zero h = absurd (omega arith)
      go false zero h = absurd (omega arith)

  pub last_signs : (l : List E) (i : ℕ) → last_signature b l ≡ suc i → (e : E) × (slice_get l i ≡ Some e) × (b.is_signature e ≡ true)
  unfolding last_signature
  last_signs [] i z = absurd (cc)
  last_signs (f ∷ l) i z = go (b.is_signature f) (last_signature b l) refl refl z (last_signs l)
    where
      go : (t : Bool) (k : ℕ) → b.is_signature f ≡ t → last_signature b l ≡ k → seqno_with_first t k ≡ suc i → ((j : ℕ) → last_signature b l ≡ suc j → (e : E) × (slice_get l j ≡ Some e) × (b.is_signature e ≡ true)) →
          (e : E) × (slice_get (f ∷ l) i ≡ Some e) × (b.is_signature e ≡ true)
      go t (suc k) a d w again = let y = again k d in let q : suc k ≡ i = omega arith in (y.0, ap (slice_get (f ∷ l)) (sym q) ∙ y.1, y.2)
      go true zero a d w again = let q : i ≡ zero = omega arith in (f, ap (slice_get (f ∷ l)) q, a)
      go false zero a d w again = absurd (omega arith)

  pub last_take : (n : ℕ) (l : List E) (i : ℕ) → last_signature b (take n l) ≡ suc i → (e : E) × (i < n) × (slice_get l i ≡ Some e) × (b.is_signature e ≡ true)
  last_take n l i z =
      let y = last_signs (take n l) i z in
      let r = get_take n l i y.0 y.1 in
      (y.0, r.0, r.1, y.2)

  -- a signature stays where a log is cut to its last one
  pub signed_keeps : (l : List E) (i : ℕ) (e : E) → slice_get l i ≡ Some e → b.is_signature e ≡ true → slice_get (take (last_signature b l) l) i ≡ Some e
  signed_keeps l i e a z = take_get (last_signature b l) l i e (last_above l i e a z) a

  pub view_at_is : (l : List E) (i : ℕ) (e : E) → slice_get l i ≡ Some e → view_at b l (suc i) ≡ b.view_of e
  view_at_is l i e a = grind arith

  pub last_view_is : (l : List E) (i : ℕ) → last_signature b l ≡ suc i → (e : E) × (slice_get l i ≡ Some e) × ((last_signature_position b l).view ≡ b.view_of e) × (b.is_signature e ≡ true)
  last_view_is l i z =
      let y = last_signs l i z in
      (y.0, y.1, ap (view_at b l) z ∙ view_at_is l i y.0 y.1, y.2)

  pub last_zero : (l : List E) → last_signature b l ≡ 0 → (last_signature_position b l).view ≡ 0
  last_zero l z = ap (view_at b l) z

  -- each signature of a log is covered by its last one
  pub covers_last : (l : List E) (i : ℕ) (e : E) → Rising b l → slice_get l i ≡ Some e → b.is_signature e ≡ true → Covers (last_signature_position b l) (b.view_of e) i
  covers_last l i e r a z = go (last_signature b l) refl
    where
      top : i < last_signature b l
      top = last_above l i e a z

      go : (k : ℕ) → last_signature b l ≡ k → Covers (last_signature_position b l) (b.view_of e) i
      go zero d = absurd (omega (arith, top))
      go (suc k) d =
          let y = last_view_is l k d in
          let up : b.view_of e ≤ b.view_of y.0 = r.rising i k e y.0 (omega (arith, top)) a y.1 in
          ⊎_elim (λ (q : b.view_of e ≡ b.view_of y.0). inr (q ∙ sym y.2, top)) (λ (q : b.view_of e ≢ b.view_of y.0). inl (omega (arith, y.2, up))) (cases_eq (b.view_of e) (b.view_of y.0))

  pub covers_more : (l m : Position) (v i : ℕ) → is_up_to_date l m ≡ true → Covers m v i → Covers l v i
  covers_more l m v i z c = grind (arith, nat_tests)

  -- recorded commits
  pub recorded_le : (l : List E) (i : ℕ) (e : E) → slice_get l i ≡ Some e → b.is_signature e ≡ true → b.recorded_commit e ≤ greatest_recorded b l
  unfolding greatest_recorded
  recorded_le [] i e a z = absurd (cc)
  recorded_le (f ∷ l) zero e a z =
      let q : f ≡ e = cc in
      let w : (if b.is_signature e then b.recorded_commit e else 0) ≡ b.recorded_commit e = rw z refl in
      let u : (if b.is_signature f then b.recorded_commit f else 0) ≡ b.recorded_commit e = ap (λ d. if b.is_signature d then b.recorded_commit d else 0) q ∙ w in
      omega arith
  recorded_le (f ∷ l) (suc i) e a z = omega (arith, recorded_le l i e a z)

  pub recorded_bound : (l : List E) (n : ℕ) → ((i : ℕ) (e : E) → slice_get l i ≡ Some e → b.is_signature e ≡ true → b.recorded_commit e ≤ n) → greatest_recorded b l ≤ n
  unfolding greatest_recorded
  recorded_bound [] n h = omega arith
  recorded_bound (f ∷ l) n h = go (b.is_signature f) refl (recorded_bound l n (λ i e a z. h (suc i) e a z))
    where
      go : (t : Bool) → b.is_signature f ≡ t → greatest_recorded b l ≤ n → max (if t then b.recorded_commit f else 0) (greatest_recorded b l) ≤ n
      go true z k = omega (arith, h 0 f refl z)
      go false z k = omega arith

  pub recorded_some : (l : List E) (r : ℕ) → greatest_recorded b l ≡ suc r → (i : ℕ) × (e : E) × (slice_get l i ≡ Some e) × (b.is_signature e ≡ true) × (b.recorded_commit e ≡ suc r)
  unfolding greatest_recorded
  recorded_some [] r z = absurd (cc)
  recorded_some (f ∷ l) r z = go (b.is_signature f) refl z (recorded_some l)
    where
      Found : List E → Type 0
      Found xs = (i : ℕ) × (e : E) × (slice_get xs i ≡ Some e) × (b.is_signature e ≡ true) × (b.recorded_commit e ≡ suc r)

      go : (t : Bool) → b.is_signature f ≡ t → max (if t then b.recorded_commit f else 0) (greatest_recorded b l) ≡ suc r →
          ((q : ℕ) → greatest_recorded b l ≡ suc q → (i : ℕ) × (e : E) × (slice_get l i ≡ Some e) × (b.is_signature e ≡ true) × (b.recorded_commit e ≡ suc q)) →
          (i : ℕ) × (e : E) × (slice_get (f ∷ l) i ≡ Some e) × (b.is_signature e ≡ true) × (b.recorded_commit e ≡ suc r)
      go true a w again = ⊎_elim
          (λ (q : greatest_recorded b l ≡ suc r). let y = again r q in (suc y.0, y.1, y.2, y.3, y.4))
          (λ (q : greatest_recorded b l ≢ suc r). (0, f, refl, a, omega arith))
          (cases_eq (greatest_recorded b l) (suc r))
      go false a w again = let y = again r (omega arith) in (suc y.0, y.1, y.2, y.3, y.4)

  pub recorded_part : (l m : List E) → ((i : ℕ) (e : E) → slice_get m i ≡ Some e → slice_get l i ≡ Some e) → greatest_recorded b m ≤ greatest_recorded b l
  recorded_part l m a = recorded_bound m (greatest_recorded b l) (λ i e f z. recorded_le l i e (a i e f) z)

  -- a log that is cut to its last signature ends with it
  pub signed_ends : (l : List E) → length (take (last_signature b l) l) ≤ last_signature b (take (last_signature b l) l)
  signed_ends l = go (last_signature b l) refl
    where
      go : (k : ℕ) → last_signature b l ≡ k → length (take (last_signature b l) l) ≤ last_signature b (take (last_signature b l) l)
      go zero d = omega (arith, length-take (last_signature b l) l)
      go (suc k) d =
          let y = last_signs l k d in
          omega (arith, length-take (last_signature b l) l, last_above (take (last_signature b l) l) k y.0 (signed_keeps l k y.0 y.1 y.2) y.2)

  -- a longer log has no earlier last signature
  pub last_more : (l r : List E) → ((i : ℕ) (e : E) → slice_get l i ≡ Some e → slice_get r i ≡ Some e) → last_signature b l ≤ last_signature b r
  last_more l r a = go (last_signature b l) refl
    where
      go : (k : ℕ) → last_signature b l ≡ k → last_signature b l ≤ last_signature b r
      go zero d = omega arith
      go (suc k) d = let y = last_signs l k d in omega (arith, last_above r k y.0 (a k y.0 y.1) y.2)
