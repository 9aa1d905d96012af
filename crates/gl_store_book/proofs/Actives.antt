-- The configurations of a ledger give the active ones at each commit, also at one beyond its end.
use Rattle.std.proofs.Common.{◌≡◌, ⊎_elim, ℕ, zero, suc, ◌+◌, ◌-◌, ◌≤◌, ◌<◌, List, [], ◌∷◌, ◌++◌, length, take, take_all, nat_le, nat_lt, Option, None, Some, if◌then◌else◌, refl, sym, ap, ap₂, ◌∙◌, arith}
use Rattle.std.specs.Option.{option_to_list}
use Rattle.std.proofs.lemmas.Bool.{cases_lt, le-ltb, le-leb}
use Rattle.std.proofs.lemmas.List.Elements.{filter-append}
use Rattle.gl_rules.specs.Identity.{NodeId}
use Rattle.gl_rules.specs.Book.{Book}
use Rattle.gl_rules.specs.Configuration.{or_else, configuration_at, configurations_above, active}
use Rattle.gl_config.specs.declared.configuration.Configuration.{Configuration}
use Rattle.gl_config.specs.Active.{upto, above, last_of, active_of, sets_of, at_seqno, configurations_upto, configurations_of}
use Rattle.gl_config.proofs.Ledgers.{active-read}

module _ {E Q G R A F : Type 0} (book : Book E Q G R A F) (log : List E) where
  one_kept : (k n : ℕ) (o : Option (List NodeId)) → k ≤ n → upto n (at_seqno k o) ≡ at_seqno k o
  one_kept k n None low = refl
  one_kept k n (Some nodes) low = rw (le-leb k n low) refl

  one_gone : (k n : ℕ) (o : Option (List NodeId)) → k ≤ n → above n (at_seqno k o) ≡ []
  one_gone k n None low = refl
  one_gone k n (Some nodes) low = rw (le-ltb n k low) refl

  -- all of them are at or below a seqno after theirs, and none is above it
  pub all_upto : (k n : ℕ) → k ≤ n → upto n (configurations_upto book log k) ≡ configurations_upto book log k
  unfolding configurations_upto
  all_upto zero n low = refl
  all_upto (suc k) n low =
      let o : Option (List NodeId) = book.configuration (take (suc k) log) in
      filter-append (λ (c : Configuration). nat_le c.seqno n) (configurations_upto book log k) (at_seqno (suc k) o)
      ∙ ap₂ (λ (us vs : List Configuration). us ++ vs) (all_upto k n (omega (arith, low))) (one_kept (suc k) n o low)

  none_above : (k n : ℕ) → k ≤ n → above n (configurations_upto book log k) ≡ []
  unfolding configurations_upto
  none_above zero n low = refl
  none_above (suc k) n low =
      let o : Option (List NodeId) = book.configuration (take (suc k) log) in
      filter-append (λ (c : Configuration). nat_lt n c.seqno) (configurations_upto book log k) (at_seqno (suc k) o)
      ∙ ap₂ (λ (us vs : List Configuration). us ++ vs) (none_above k n (omega (arith, low))) (one_gone (suc k) n o low)

  -- so a later commit changes nothing in the list
  list_beyond : (commit : ℕ) → length log ≤ commit → active_of (configurations_of book log) commit ≡ active_of (configurations_of book log) (length log)
  unfolding active_of
  list_beyond commit far =
      let end : length log ≤ length log = omega arith in
      ap₂ (λ (us vs : List Configuration). last_of us ++ vs)
      (all_upto (length log) commit far ∙ sym (all_upto (length log) (length log) end))
      (none_above (length log) commit far ∙ sym (none_above (length log) (length log) end))

  -- nor in the rules
  sets_beyond : (commit k : ℕ) → k ≤ commit → configurations_above book log commit k ≡ []
  unfolding configurations_above
  sets_beyond commit zero low = refl
  sets_beyond commit (suc k) low =
      ap (λ t. if t then configurations_above book log commit k ++ option_to_list (book.configuration (take (suc k) log)) else []) (le-ltb commit (suc k) low)

  twice : (o p : Option (List NodeId)) → or_else o (or_else o p) ≡ or_else o p
  twice None p = refl
  twice (Some nodes) p = refl

  module _ (none : book.configuration [] ≡ None) where
    -- at its end the one of the whole ledger is tried first
    tried_first : (n : ℕ) → length log ≡ n → or_else (book.configuration log) (configuration_at book log n) ≡ configuration_at book log n
    unfolding configuration_at
    tried_first zero long = ap (λ o. or_else o None) (ap book.configuration (empty log long) ∙ none)
      where
        empty : (es : List E) → length es ≡ 0 → es ≡ []
        empty [] h = refl
        empty (e ∷ es) h = absurd (omega (arith, h))
    tried_first (suc n) long =
        let all : take (suc n) log ≡ log = take_all (suc n) log (omega (arith, long)) in
        ap (λ es. or_else (book.configuration log) (or_else (book.configuration es) (configuration_at book log n))) all
        ∙ twice (book.configuration log) (configuration_at book log n)
        ∙ sym (ap (λ es. or_else (book.configuration es) (configuration_at book log n)) all)

    at_beyond : (more : ℕ) → configuration_at book log (length log + more) ≡ configuration_at book log (length log)
    unfolding configuration_at
    at_beyond zero = ap (configuration_at book log) (omega arith)
    at_beyond (suc more) =
        let next : length log + suc more ≡ suc (length log + more) = omega arith in
        let all : take (suc (length log + more)) log ≡ log = take_all (suc (length log + more)) log (omega arith) in
        ap (configuration_at book log) next
        ∙ ap₂ (λ (es : List E) (o : Option (List NodeId)). or_else (book.configuration es) o) all (at_beyond more)
        ∙ tried_first (length log) refl

    rules_beyond : (commit : ℕ) → length log ≤ commit → active book log commit ≡ active book log (length log)
    rules_beyond commit far =
        let more : commit ≡ length log + (commit - length log) = omega arith in
        ap₂ (λ (o : Option (List NodeId)) (sets : List (List NodeId)). option_to_list o ++ sets)
        (ap (configuration_at book log) more ∙ at_beyond (commit - length log))
        (sets_beyond commit (length log) far ∙ sym (sets_beyond (length log) (length log) (omega arith)))

    -- the active ones are read off the list at each commit
    pub active_at : (commit : ℕ) → sets_of (active_of (configurations_of book log) commit) ≡ active book log commit
    active_at commit = ⊎_elim
        (λ (inside : commit < length log). active-read book log commit (omega arith))
        (λ (far : length log ≤ commit). ap sets_of (list_beyond commit far) ∙ active-read book log (length log) (omega arith) ∙ sym (rules_beyond commit far))
        (cases_lt commit (length log))
