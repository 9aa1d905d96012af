-- The members, the service and the shares of a history that begins with the rows of another.
use Rattle.std.proofs.Common.{◌≡◌, ℕ, ◌-◌, ◌<◌, ◌≤◌, List, [], ◌∷◌, map, Option, Some, None, is_some, Bool, true, false, not, ◌&&◌, ◌||◌, cond, find, filter_map, nat_lt, nat_eq, refl, sym, ◌∙◌, ap, subst, subst₂, append-nil, arith}
use Rattle.std.specs.List.{list_any, cons_option, AllByRecursion}
use Rattle.std.specs.Option.{option_or, option_map}
use Rattle.std.proofs.lemmas.Bool.Decides.{nat_tests}
use Rattle.std.proofs.lemmas.Bool.{eqb-true}
use Rattle.gl_vmaps.specs.LastWrite.{last_such}
use Rattle.gl_vmaps.proofs.LastWrites.{last_such-cons}
use Rattle.gl_shares.specs.declared.share.Share.{Share}
use Rattle.gl_requests.specs.declared.genesis.ServiceState.{ServiceState}
use Rattle.gl_requests.specs.declared.genesis.NewMember.{NewMember}
use Rattle.gl_gov_rules.specs.Service.{given_after}
use Rattle.gl_gov_rules.specs.declared.request_facts.GivenShare.{GivenShare}
use Rattle.gl_gov_rules.specs.declared.change.Changed.{Changed}
use Rattle.gl_gov_rules.specs.declared.refusal.MemberStatus.TheVariants as statuses
use Rattle.gl_gov_rules.specs.declared.row.ServiceRow.{ServiceRow}
use Rattle.gl_gov_rules.specs.declared.row.MemberRow.{MemberRow}
use Rattle.gl_gov_rules.proofs.Counting.{find_passes}
use Rattle.gl_gov_rules.proofs.Finding.{found_at}
use Rattle.gl_gov_rules.specs.History.{History, seqno_of}
use Rattle.gl_gov_rules.specs.Members.{members, has_number, is_removed, is_signer, is_acked_by, has_acked, member_status, leaf_carried, next_leaf}
use Rattle.gl_gov_rules.specs.Service.{constitution, dealing, identity, is_recovered, service_state, clears_shares, last_clearing, given, shares_given}
use Rattle.gl_gov_rules.specs.Rows.{member_row, member_rows, service_row, service_row_of}
use Rattle.gl_gov_base.specs.SameBy.{SameBy}
use Rattle.gl_gov_base.specs.Alike.{of_member, SameShares, shares_since}
use Rattle.gl_gov_rules.specs.declared.row.GovernedRows.{GovernedRows}
use Rattle.gl_gov_rules.specs.GovernedRows.{is_removed_status, is_active_status, member_of_row, signer_carried}
use Rattle.gl_gov_base.specs.AtBase.{of_number, IsReadOf, IsSettled}
use Rattle.gl_gov_base.proofs.SameLists.{map_twice, map_same, find-map, any-map, same_any, same_map, same_refl, same_sym}
use Rattle.gl_gov_base.proofs.MoreRequests.{or_none}
use Rattle.gl_gov_base.proofs.RowReadings.{begun, base_members, base_removed, base_constitution, base_dealing, base_identity, base_state, base_recovered, recovered_row, base_clearing}

-- ---- tests by numbers

numbered : (q : ℕ → Bool) (n : ℕ) (ms : List NewMember) → list_any (λ (m : NewMember). nat_eq m.number n && q m.number) ms ≡ (q n && list_any (has_number n) ms)
numbered q n [] = by (q n)
  where
    by : (b : Bool) → false ≡ (b && false)
    by true = refl
    by false = refl
numbered q n (m ∷ ms) = (λ i. head (nat_eq m.number n) refl i || numbered q n ms i) ∙ join (q n) (nat_eq m.number n) (list_any (has_number n) ms)
  where
    head : (b : Bool) → nat_eq m.number n ≡ b → (nat_eq m.number n && q m.number) ≡ (q n && nat_eq m.number n)
    head true is = (λ i. is i && q m.number) ∙ ap q (eqb-true m.number n is) ∙ by (q n) ∙ sym (λ i. q n && is i)
      where
        by : (b : Bool) → b ≡ (b && true)
        by true = refl
        by false = refl
    head false is = (λ i. is i && q m.number) ∙ by (q n) ∙ sym (λ i. q n && is i)
      where
        by : (b : Bool) → false ≡ (b && false)
        by true = refl
        by false = refl

    join : (k s r : Bool) → ((k && s) || (k && r)) ≡ (k && (s || r))
    join true s r = refl
    join false s r = refl

and_swap : (a b : Bool) → (a && b) ≡ (b && a)
and_swap true true = refl
and_swap true false = refl
and_swap false true = refl
and_swap false false = refl

removed_status : (h : History) (n : ℕ) → is_removed_status (member_status h n) ≡ is_removed h n
unfolding member_status
removed_status h n = by (is_removed h n) (has_acked h n)
  where
    by : (r k : Bool) → is_removed_status (cond r statuses.Removed (cond k statuses.Active statuses.Accepted)) ≡ r
    by true k = refl
    by false true = refl
    by false false = refl

active_status : (h : History) (n : ℕ) → is_active_status (member_status h n) ≡ (not (is_removed h n) && has_acked h n)
unfolding member_status
active_status h n = by (is_removed h n) (has_acked h n)
  where
    by : (r k : Bool) → is_active_status (cond r statuses.Removed (cond k statuses.Active statuses.Accepted)) ≡ (not r && k)
    by true k = refl
    by false true = refl
    by false false = refl

-- ---- what clears the shares, and shares

low_last : (base : ℕ) (p : Changed → Bool) (cs : List Changed) → AllByRecursion (λ (c : Changed). c.seqno ≤ base) cs → seqno_of (last_such p cs) ≤ base
low_last base p [] all = omega arith
low_last base p (c ∷ cs) all = subst (λ (o : Option Changed). seqno_of o ≤ base) (sym (last_such-cons p c cs)) (by (last_such p cs) (p c) (low_last base p cs all.1))
  where
    by : (o : Option Changed) (b : Bool) → seqno_of o ≤ base → seqno_of (option_or o (cond b (Some c) None)) ≤ base
    by (Some d) b low = low
    by None true low = all.0
    by None false low = low

not_above : (s t base : ℕ) → t ≤ base → base ≤ s → nat_lt s t ≡ false
not_above s t base low high = grind (arith, nat_tests)

is_above : (base : ℕ) → 0 < base → nat_lt 0 base ≡ true
is_above base high = grind (arith, nat_tests)

pub none_after : (base s : ℕ) (gs : List GivenShare) → base ≤ s → AllByRecursion (λ (x : GivenShare). x.seqno ≤ base) gs → filter_map (given_after s) gs ≡ []
none_after base s [] high all = refl
none_after base s (x ∷ gs) high all = ap (λ b. cons_option (cond b (Some x.share) None) (filter_map (given_after s) gs)) (not_above s x.seqno base all.0 high) ∙ none_after base s gs high all.1

abbrev at_seqno : ℕ → Share → GivenShare
at_seqno seqno s = record { seqno = seqno; share = s }

all_low : (base seqno : ℕ) (ss : List Share) → seqno ≤ base → AllByRecursion (λ (x : GivenShare). x.seqno ≤ base) (map (at_seqno seqno) ss)
all_low base seqno [] low = tt
all_low base seqno (s ∷ ss) low = (low, all_low base seqno ss low)

all_behind : (seqno : ℕ) (ss : List Share) → nat_lt 0 seqno ≡ true → filter_map (given_after 0) (map (at_seqno seqno) ss) ≡ ss
all_behind seqno [] high = refl
all_behind seqno (s ∷ ss) high = (λ i. cons_option (cond (high i) (Some s) None) (filter_map (given_after 0) (map (at_seqno seqno) ss))) ∙ ap (λ xs. s ∷ xs) (all_behind seqno ss high)

no_shares : SameShares [] []
no_shares = record { same = same_refl of_member []; join = λ more bytes. refl }

module _ (base : ℕ) (h : History) (g : GovernedRows) (read : IsReadOf base h g) (known : IsSettled base h) where
  -- ---- members

  rows_members : map member_of_row (member_rows h) ≡ members h
  unfolding member_rows member_row
  rows_members = sym (map_twice member_of_row (member_row h) (members h)) ∙ map_same (members h)

  pub members_at_base : SameBy has_number (members h) (members (begun g))
  members_at_base =
      same_sym has_number (members (begun g)) (members h)
      (subst₂ (SameBy has_number) (sym (base_members g)) rows_members
      (same_map of_number has_number member_of_row (λ k m. refl) g.members (member_rows h) read.members))

  any_rows : (p : MemberRow → Bool) → list_any p g.members ≡ list_any (λ (m : NewMember). p (member_row h m)) (members h)
  unfolding member_rows
  any_rows p = same_any of_number g.members (member_rows h) read.members p ∙ sym (any-map p (member_row h) (members h))

  pub removed_at_base : (n : ℕ) → is_removed h n ≡ is_removed (begun g) n
  unfolding member_row
  removed_at_base n =
      sym (base_removed g n ∙ any_rows (λ (m : MemberRow). is_removed_status m.status && nat_eq m.number n)
      ∙ (λ i. list_any (λ (m : NewMember). (and_swap (is_removed_status (member_status h m.number)) (nat_eq m.number n) ∙ ap (λ b. nat_eq m.number n && b) (removed_status h m.number)) i) (members h))
      ∙ numbered (is_removed h) n (members h) ∙ by (is_removed h n) refl)
    where
      by : (b : Bool) → is_removed h n ≡ b → (b && list_any (has_number n) (members h)) ≡ b
      by true is = known.removed_members n is
      by false is = refl

  acked_rows : (n : ℕ) → has_acked (begun g) n ≡ ((not (is_removed h n) && has_acked h n) && list_any (has_number n) (members h))
  unfolding has_acked member_row
  acked_rows n =
      or_none (list_any (is_acked_by n) (map signer_carried g.members))
      ∙ sym (any-map (is_acked_by n) signer_carried g.members)
      ∙ any_rows (λ (m : MemberRow). nat_eq m.number n && is_active_status m.status)
      ∙ (λ i. list_any (λ (m : NewMember). nat_eq m.number n && active_status h m.number i) (members h))
      ∙ numbered (λ k. not (is_removed h k) && has_acked h k) n (members h)

  pub acked_at_base : (n : ℕ) → (is_removed h n || has_acked h n) ≡ (is_removed (begun g) n || has_acked (begun g) n)
  acked_at_base n = sym ((λ i. sym (removed_at_base n) i || acked_rows n i) ∙ by (is_removed h n) (has_acked h n) refl)
    where
      by : (r k : Bool) → has_acked h n ≡ k → (r || ((not r && k) && list_any (has_number n) (members h))) ≡ (r || k)
      by true k is = refl
      by false true is = known.acked n is
      by false false is = refl

  carried_leaf : (n : ℕ) → next_leaf (begun g) n ≡ leaf_carried (find (is_signer n) (map signer_carried g.members))
  unfolding next_leaf
  carried_leaf n = refl

  rows_found : (n : ℕ) → find (of_number n) (member_rows h) ≡ option_map (member_row h) (find (has_number n) (members h))
  unfolding member_rows member_row
  rows_found n = find-map (of_number n) (member_row h) (members h)

  leaf_row : (n : ℕ) (o : Option NewMember) → find (has_number n) (members h) ≡ o → next_leaf h n ≡ leaf_carried (option_map signer_carried (option_map (member_row h) o))
  unfolding member_row
  leaf_row n None is = known.leaves n (sym (find_passes (has_number n) (members h)) ∙ ap (λ (o : Option NewMember). is_some o) is)
  leaf_row n (Some m) is = ap (next_leaf h) (sym (eqb-true m.number n (found_at (has_number n) (members h) m is).passes))

  pub leaves_at_base : (n : ℕ) → next_leaf h n ≡ next_leaf (begun g) n
  leaves_at_base n =
      let found : find (is_signer n) (map signer_carried g.members) ≡ option_map signer_carried (option_map (member_row h) (find (has_number n) (members h))) =
      find-map (is_signer n) signer_carried g.members ∙ ap (option_map signer_carried) (read.members.first n ∙ rows_found n) in
      leaf_row n (find (has_number n) (members h)) refl ∙ sym (ap leaf_carried found) ∙ sym (carried_leaf n)

  -- ---- the service, and what is in force

  parts_of : (st : Option ServiceState) (r : Bool) (key : Option (List ℕ)) (s : ServiceRow) → service_row_of st r key ≡ Some s → (st ≡ Some s.state) × (r ≡ s.is_recovered) × (key ≡ Some s.identity)
  parts_of None r key s e = absurd cc
  parts_of (Some state) r None s e = absurd cc
  parts_of (Some state) r (Some k) s e =
      let same : record { state = state; is_recovered = r; identity = k } ≡ s = cc in
      (ap (λ (x : ServiceRow). Some x.state) same, ap (λ (x : ServiceRow). x.is_recovered) same, ap (λ (x : ServiceRow). Some x.identity) same)

  parts : (service_state h ≡ Some read.founder.state) × (is_recovered h ≡ read.founder.is_recovered) × (identity h ≡ Some read.founder.identity)
  unfolding service_row
  parts = parts_of (service_state h) (is_recovered h) (identity h) read.founder read.founded

  pub state_at_base : service_state h ≡ service_state (begun g)
  state_at_base = parts.0 ∙ sym (base_state g ∙ ap (option_map (λ (s : ServiceRow). s.state)) read.service)

  pub recovered_at_base : is_recovered h ≡ is_recovered (begun g)
  recovered_at_base = parts.1 ∙ sym (base_recovered g ∙ ap (recovered_row g) read.service)

  pub identity_at_base : identity h ≡ identity (begun g)
  identity_at_base = parts.2 ∙ sym (base_identity g ∙ ap (option_map (λ (s : ServiceRow). s.identity)) read.service)

  pub constitution_at_base : constitution h ≡ constitution (begun g)
  constitution_at_base = read.rules ∙ sym (base_constitution g)

  pub dealing_at_base : dealing h ≡ dealing (begun g)
  dealing_at_base = sym (base_dealing g ∙ read.dealing)

  -- ---- shares

  low_clearing : last_clearing h ≤ base
  unfolding last_clearing
  low_clearing = low_last base (λ (c : Changed). clears_shares c.change) h.changes known.low_changes

  pub clearing_at_base : last_clearing h - base ≡ last_clearing (begun g) - base
  clearing_at_base = let low = low_clearing in let zero = base_clearing g in omega arith

  given_carried : (s : ℕ) → shares_since (begun g) s ≡ filter_map (given_after s) (map (at_seqno g.seqno) g.shares)
  unfolding given
  given_carried s = ap (filter_map (given_after s)) (append-nil (map (at_seqno g.seqno) g.shares))

  base_shares : shares_given (begun g) ≡ g.shares
  unfolding shares_given
  base_shares = ap (shares_since (begun g)) (base_clearing g) ∙ given_carried 0 ∙ all_behind g.seqno g.shares (ap (nat_lt 0) read.seqno ∙ is_above base known.above)

  pub shares_at_base : SameShares (shares_given h) (shares_given (begun g))
  shares_at_base =
      subst (SameShares (shares_given h)) (sym base_shares) (record { same = same_sym of_member g.shares (shares_given h) read.shares.same; join = λ more bytes. sym (read.shares.join more bytes) })

  pub later_shares_at_base : (s : ℕ) → base ≤ s → SameShares (shares_since h s) (shares_since (begun g) s)
  later_shares_at_base s high =
      let low : g.seqno ≤ base = (let e = read.seqno in omega arith) in
      subst₂ SameShares (sym (none_after base s (given h) high known.low_shares)) (sym (given_carried s ∙ none_after base s (map (at_seqno g.seqno) g.shares) high (all_low base g.seqno g.shares low))) no_shares
