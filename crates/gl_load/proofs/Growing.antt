-- How the ledger of a load grows.
use Rattle.std.proofs.Common.{◌≡◌, ℕ, zero, suc, ◌+◌, ◌/◌, ◌%◌, ◌<◌, ◌≤◌, ◌==◌, List, [], ◌∷◌, ◌++◌, Bool, true, false, ◌||◌, refl, sym, ◌∙◌, ap, subst, arith, if◌then◌else◌}
use Rattle.std.proofs.lemmas.Bool.Decides.{nat_tests}
use Rattle.gl_base.specs.TxId.{last_seqno}
use Rattle.gl_rules.specs.Node.{Node}
use Rattle.gl_rules.specs.Replication.{advance}
use Rattle.gl_rules.specs.Requests.{reserve, sign, submit}
use Rattle.gl_rules.specs.World.{Advance, Reserve, Sign}
use Rattle.gl_rules.proofs.Lists.{push_append}
use Rattle.gl_entry.specs.declared.entry.Entry.{Entry}
use Rattle.gl_world.specs.Service.{ServiceEvent}
use Rattle.gl_load.specs.Events.{events_up_to, node_after, signature_count, signing, signs_after, submitting}
use Rattle.gl_load.specs.Founding.{load_book, load_id}
use Rattle.gl_load.specs.Node.{IsRefused}
use Rattle.gl_load.specs.Requests.{load_request}
use Rattle.gl_load.proofs.NodeSteps.{advanced, first_node, reserved, signed, submitted}
use Rattle.gl_load.proofs.Steps.{IsAt, IsUnsigned, advance_at, advance_unrefused, at_start, reserve_at, reserve_unrefused, reserve_unsigned, sign_at, sign_unrefused, submit_at, submit_unrefused, submit_unsigned}

-- how often the node signs after the first so many requests
abbrev pub signings : ℕ → ℕ → ℕ
signings count zero = 0
signings count (suc n) = signings count n + (if signs_after count (suc n) then 1 else 0)

-- before the last request it signed after each hundred
pub signings_before : (count n : ℕ) → n < count → signings count n ≡ n / 100
signings_before count zero more = refl
signings_before count (suc n) more =
    ap (λ (k : ℕ). k + (if signs_after count (suc n) then 1 else 0)) (signings_before count n (omega (arith, more)))
    ∙ go (suc n % 100 == 0) refl
  where
    go : (t : Bool) → (suc n % 100 == 0) ≡ t → n / 100 + (if t || (suc n == count) then 1 else 0) ≡ suc n / 100
    go true is = let z : suc n % 100 ≡ 0 = grind (arith, nat_tests, is) in omega (arith, z)
    go false is =
        let other : (suc n == count) ≡ false = grind (arith, nat_tests, more) in
        ap (λ (u : Bool). n / 100 + (if u then 1 else 0)) other ∙ (let z : suc n % 100 ≡ 0 → ⊥ = grind (arith, nat_tests, is) in omega (arith, z))

or_true : (b : Bool) → (b || true) ≡ true
or_true true = refl
or_true false = refl

-- and after the last one once more
pub signings_all : (count : ℕ) → signings count count ≡ signature_count count
signings_all zero = refl
signings_all (suc n) =
    let same : (suc n == suc n) ≡ true = grind (arith, nat_tests) in
    let last : signs_after (suc n) (suc n) ≡ true = ap (λ (b : Bool). (suc n % 100 == 0) || b) same ∙ or_true (suc n % 100 == 0) in
    ap (λ (b : Bool). signings (suc n) n + (if b then 1 else 0)) last
    ∙ (let before = signings_before (suc n) n (omega arith) in omega (arith, before))

-- what is known of the node after the first so many requests
abbrev pub IsGrown : List ℕ → ℕ → ℕ → Type 0
IsGrown seed count done =
    IsAt (node_after seed (events_up_to seed count done)) (2 + done + signings count done) (1 + signings count done) (1 + signings count done)

module _ (seed : List ℕ) (count done : ℕ) where
  abbrev earlier : List ServiceEvent
  earlier = events_up_to seed count done

  abbrev pub unsigned : List ServiceEvent
  unsigned = earlier ++ submitting seed done ∷ []

  abbrev pub with_leaf : List ServiceEvent
  with_leaf = unsigned ++ Reserve (load_id seed) ∷ []

  abbrev pub with_signature : List ServiceEvent
  with_signature = with_leaf ++ Sign (load_id seed) ∷ []

  abbrev pub with_commit : List ServiceEvent
  with_commit = with_signature ++ Advance (load_id seed) ∷ []

  -- what follows the request
  pub ends_signed : signs_after count (suc done) ≡ true → events_up_to seed count (suc done) ≡ with_commit
  unfolding events_up_to
  ends_signed signs =
      ap (λ (t : Bool). earlier ++ submitting seed done ∷ (if t then signing seed else [])) signs
      ∙ sym (push_append earlier (submitting seed done) (signing seed))
      ∙ sym (push_append unsigned (Reserve (load_id seed)) (Sign (load_id seed) ∷ Advance (load_id seed) ∷ []))
      ∙ sym (push_append with_leaf (Sign (load_id seed)) (Advance (load_id seed) ∷ []))

  pub ends_unsigned : signs_after count (suc done) ≡ false → events_up_to seed count (suc done) ≡ unsigned
  unfolding events_up_to
  ends_unsigned none = ap (λ (t : Bool). earlier ++ submitting seed done ∷ (if t then signing seed else [])) none

  module _ (most : count ≤ 100000) (more : done < count) (at : IsGrown seed count done) where
    abbrev s : ℕ
    s = signings count done

    few : s ≤ 999
    few = let is = signings_before count done more in omega (arith, is, most, more)

    left : 2 + done + s < last_seqno
    left = omega (arith, few, most, more)

    at_unsigned : IsAt (node_after seed unsigned) (2 + done + s + 1) (1 + s) (1 + s)
    at_unsigned =
        subst (λ (m : Node Entry). IsAt m (2 + done + s + 1) (1 + s) (1 + s)) (sym (submitted seed earlier (load_request seed done)))
        (submit_at seed earlier (2 + done + s) (1 + s) (1 + s) at done left)

    is_unsigned : IsUnsigned seed (node_after seed unsigned)
    is_unsigned =
        subst (IsUnsigned seed) (sym (submitted seed earlier (load_request seed done)))
        (submit_unsigned seed earlier (2 + done + s) (1 + s) (1 + s) at done left)

    room : 1 + s < 1024
    room = omega (arith, few)

    at_leaf : IsAt (node_after seed with_leaf) (2 + done + s + 1) (1 + s) (1 + s + 1)
    at_leaf =
        subst (λ (m : Node Entry). IsAt m (2 + done + s + 1) (1 + s) (1 + s + 1)) (sym (reserved seed unsigned))
        (reserve_at seed unsigned (2 + done + s + 1) (1 + s) (1 + s) at_unsigned room)

    still_unsigned : IsUnsigned seed (node_after seed with_leaf)
    still_unsigned =
        subst (IsUnsigned seed) (sym (reserved seed unsigned))
        (reserve_unsigned seed unsigned (2 + done + s + 1) (1 + s) (1 + s) at_unsigned room is_unsigned)

    at_signature : IsAt (node_after seed with_signature) (2 + done + s + 1 + 1) (1 + s + 1) (1 + s + 1)
    at_signature =
        subst (λ (m : Node Entry). IsAt m (2 + done + s + 1 + 1) (1 + s + 1) (1 + s + 1)) (sym (signed seed with_leaf))
        (sign_at seed with_leaf (2 + done + s + 1) (1 + s) (1 + s + 1) at_leaf (omega arith) (omega (arith, few)) (omega (arith, few, most, more)) still_unsigned)

    at_commit : IsAt (node_after seed with_commit) (2 + done + s + 1 + 1) (1 + s + 1) (1 + s + 1)
    at_commit =
        subst (λ (m : Node Entry). IsAt m (2 + done + s + 1 + 1) (1 + s + 1) (1 + s + 1)) (sym (advanced seed with_signature))
        (advance_at seed with_signature (2 + done + s + 1 + 1) (1 + s + 1) (1 + s + 1) at_signature)

    -- none of it is refused
    pub takes_request : IsRefused (submit (load_book seed) (load_request seed done) (node_after seed earlier)).outcome → ⊥
    takes_request = submit_unrefused seed earlier (2 + done + s) (1 + s) (1 + s) at done left

    pub takes_leaf : IsRefused (reserve (load_book seed) (load_id seed) (node_after seed unsigned)).outcome → ⊥
    takes_leaf = reserve_unrefused seed unsigned (2 + done + s + 1) (1 + s) (1 + s) at_unsigned room

    pub takes_signature : IsRefused (sign (load_book seed) (load_id seed) (node_after seed with_leaf)).outcome → ⊥
    takes_signature =
        sign_unrefused seed with_leaf (2 + done + s + 1) (1 + s) (1 + s + 1) at_leaf (omega arith) (omega (arith, few)) (omega (arith, few, most, more)) still_unsigned

    pub takes_commit : IsRefused (advance (load_book seed) (load_id seed) (node_after seed with_signature)).outcome → ⊥
    takes_commit = advance_unrefused seed with_signature (2 + done + s + 1 + 1) (1 + s + 1) (1 + s + 1) at_signature

    -- with one request more
    pub grown_by_one : IsGrown seed count (suc done)
    grown_by_one = go (signs_after count (suc done)) refl
      where
        go : (t : Bool) → signs_after count (suc done) ≡ t → IsGrown seed count (suc done)
        go true is =
            let one : signings count (suc done) ≡ s + 1 = ap (λ (u : Bool). s + (if u then 1 else 0)) is in
            let long : 2 + done + s + 1 + 1 ≡ 2 + suc done + (s + 1) = omega arith in
            let leaves : 1 + s + 1 ≡ 1 + (s + 1) = omega arith in
            subst (λ (k : ℕ). IsAt (node_after seed (events_up_to seed count (suc done))) (2 + suc done + k) (1 + k) (1 + k)) (sym one)
            (subst (λ (es : List ServiceEvent). IsAt (node_after seed es) (2 + suc done + (s + 1)) (1 + (s + 1)) (1 + (s + 1))) (sym (ends_signed is))
            (subst (λ (k : ℕ). IsAt (node_after seed with_commit) (2 + suc done + (s + 1)) k k) leaves
            (subst (λ (k : ℕ). IsAt (node_after seed with_commit) k (1 + s + 1) (1 + s + 1)) long at_commit)))
        go false is =
            let same : signings count (suc done) ≡ s = ap (λ (u : Bool). s + (if u then 1 else 0)) is ∙ omega arith in
            let long : 2 + done + s + 1 ≡ 2 + suc done + s = omega arith in
            subst (λ (k : ℕ). IsAt (node_after seed (events_up_to seed count (suc done))) (2 + suc done + k) (1 + k) (1 + k)) (sym same)
            (subst (λ (es : List ServiceEvent). IsAt (node_after seed es) (2 + suc done + s) (1 + s) (1 + s)) (sym (ends_unsigned is))
            (subst (λ (k : ℕ). IsAt (node_after seed unsigned) k (1 + s) (1 + s)) long at_unsigned))

pub nothing_yet : (seed : List ℕ) (count : ℕ) → events_up_to seed count 0 ≡ []
unfolding events_up_to
nothing_yet seed count = refl

at_first : (seed : List ℕ) (count : ℕ) → IsGrown seed count 0
at_first seed count =
    subst (λ (es : List ServiceEvent). IsAt (node_after seed es) 2 1 1) (sym (nothing_yet seed count))
    (subst (λ (m : Node Entry). IsAt m 2 1 1) (sym (first_node seed)) (at_start seed))

-- so it is after each request
pub grown : (seed : List ℕ) (count done : ℕ) → count ≤ 100000 → done ≤ count → IsGrown seed count done
grown seed count zero most low = at_first seed count
grown seed count (suc done) most low = grown_by_one seed count done most (omega (arith, low)) (grown seed count done most (omega (arith, low)))
