-- The shares that are given, with one request more: no member gives two, and each is the member's
-- own.
use Rattle.std.proofs.Common.{◌≡◌, ℕ, ◌≤◌, nat_eq, nat_lt, List, [], ◌∷◌, ◌++◌, map, reverse, find, cond, Bool, true, false, not, ◌||◌, if◌then◌else◌, Option, None, Some, refl, sym, ◌∙◌, ap, ap₂, subst, append-nil, arith}
use Rattle.std.specs.List.{AllByRecursion, IsDistinct, list_any, filter_map, cons_option}
use Rattle.std.specs.Option.{option_or}
use Rattle.std.proofs.lemmas.Cmp.{nat_eq_equiv}
use Rattle.std.proofs.lemmas.Bool.{or_parts}
use Rattle.std.proofs.lemmas.Bool.Decides.{nat_tests}
use Rattle.std.proofs.lemmas.List.{reverse-append}
use Rattle.std.proofs.lemmas.List.Elements.{filter_map-append}
use Rattle.std.proofs.lemmas.List.Folds.{find-append}
use Rattle.std.proofs.lemmas.Map.Keys.{IsDistinct-push}
use Rattle.sha2.specs.Sha256.{sha256}
use Rattle.gl_vmaps.specs.LastWrite.{last_such}
use Rattle.gl_vmaps.proofs.LastWrites.{last_such-cons}
use Rattle.gl_shares.specs.Joining.{joined, members_of}
use Rattle.gl_shares.specs.declared.share.Share.{Share}
use Rattle.gl_requests.specs.declared.genesis.Dealing.{Dealing}
use Rattle.gl_requests.specs.declared.action.Action.{Action}
use Rattle.gl_requests.specs.declared.action.Action.TheVariants as actions
use Rattle.gl_requests.specs.declared.request.MemberAct.{MemberAct}
use Rattle.gl_requests.specs.declared.request.MemberAct.TheVariants as acts
use Rattle.gl_requests.specs.declared.request.MemberRequest.{MemberRequest}
use Rattle.gl_requests.specs.declared.request.GovernanceRequest.{GovernanceRequest}
use Rattle.gl_requests.specs.declared.request.GovernanceRequest.TheVariants as requests
use Rattle.gl_gov_rules.specs.declared.change.Recorded.{Recorded}
use Rattle.gl_gov_rules.specs.declared.change.Change.{Change}
use Rattle.gl_gov_rules.specs.declared.change.Change.TheVariants as changes
use Rattle.gl_gov_rules.specs.declared.change.Changed.{Changed}
use Rattle.gl_gov_rules.specs.declared.refusal.GovernanceRefusal.TheVariants as refusals
use Rattle.gl_gov_rules.specs.History.{History, last_set, seqno_of}
use Rattle.gl_gov_rules.specs.Actions.{◌orelse◌, where_is}
use Rattle.gl_gov_rules.specs.Changes.{changes_of, changed_at, history, is_complete}
use Rattle.gl_gov_rules.specs.Governed.{Follows, IsAbove, IsGoverned}
use Rattle.gl_gov_rules.specs.Refusals.{act_refusal, has_given, is_dealt, refusal, secret_refusal, share_refusal, signed_refusal, waiting_refusal}
use Rattle.gl_gov_rules.specs.Service.{clears_shares, dealing, given, last_clearing, service_state, sets_dealing, share_after, share_in, share_in_act, shares_given}
use Rattle.gl_gov_rules.proofs.LastSet.{last_set-append, last_set-cons}
use Rattle.gl_gov_rules.proofs.NoneStands.{none_of, not_bad, not_denied}
use Rattle.gl_gov_rules.proofs.Prefixes.{changes_more, governed_induction}
use Rattle.gl_gov_rules.proofs.NothingCarried.{shares_of_requests}

-- ---- the last change that clears the shares

abbrev is_clearing : Changed → Bool
is_clearing c = clears_shares c.change

abbrev clear : List Change → Bool
clear cs = list_any clears_shares cs

last_such-append : (is_such : Changed → Bool) (xs ys : List Changed) → last_such is_such (xs ++ ys) ≡ option_or (last_such is_such ys) (last_such is_such xs)
last_such-append is_such xs ys = ap (find is_such) (reverse-append xs ys) ∙ find-append is_such (reverse ys) (reverse xs)

none_clears : (s : ℕ) (cs : List Change) → clear cs ≡ false → last_such is_clearing (map (changed_at s) cs) ≡ None
none_clears s [] none = refl
none_clears s (c ∷ cs) none =
    let both = or_parts (clears_shares c) (clear cs) none in
    last_such-cons is_clearing (changed_at s c) (map (changed_at s) cs)
    ∙ ap₂ option_or (none_clears s cs both.1) (ap (λ (b : Bool). cond b (Some (changed_at s c)) None) both.0)

-- one of these changes clears, at their seqno
abbrev ClearsAt : ℕ → Option Changed → Type 0
ClearsAt s o = (c : Changed) × (o ≡ Some c) × (c.seqno ≡ s)

some_clears : (s : ℕ) (cs : List Change) → clear cs ≡ true → ClearsAt s (last_such is_clearing (map (changed_at s) cs))
some_clears s [] some = absurd cc
some_clears s (c ∷ cs) some =
    subst (ClearsAt s) (sym (last_such-cons is_clearing (changed_at s c) (map (changed_at s) cs)))
    (go (clear cs) (clears_shares c) refl refl some (some_clears s cs))
  where
    go : (rest this : Bool) → clear cs ≡ rest → clears_shares c ≡ this → this || rest ≡ true → (clear cs ≡ true → ClearsAt s (last_such is_clearing (map (changed_at s) cs))) →
        ClearsAt s (option_or (last_such is_clearing (map (changed_at s) cs)) (cond (is_clearing (changed_at s c)) (Some (changed_at s c)) None))
    go true this more here either after =
        let there = after more in
        (there.0, ap (λ (o : Option Changed). option_or o (cond (is_clearing (changed_at s c)) (Some (changed_at s c)) None)) there.1, there.2)
    go false true more here either after =
        (changed_at s c, ap₂ option_or (none_clears s cs more) (ap (λ (b : Bool). cond b (Some (changed_at s c)) None) here), refl)
    go false false more here either after = absurd cc

module _ (rs : List Recorded) (r : Recorded) where
  abbrev before : History
  before = history rs

  abbrev after : History
  after = history (rs ++ r ∷ [])

  abbrev more : List Change
  more = changes_of (history rs) r

  last_cleared : last_such is_clearing after.changes ≡ option_or (last_such is_clearing (map (changed_at r.seqno) more)) (last_such is_clearing before.changes)
  last_cleared = ap (last_such is_clearing) (changes_more rs r) ∙ last_such-append is_clearing before.changes (map (changed_at r.seqno) more)

  cleared_now : clear more ≡ true → last_clearing after ≡ r.seqno
  unfolding last_clearing
  cleared_now some =
      let at = some_clears r.seqno more some in
      ap seqno_of (last_cleared ∙ ap (λ (o : Option Changed). option_or o (last_such is_clearing before.changes)) at.1) ∙ at.2

  cleared_before : clear more ≡ false → last_clearing after ≡ last_clearing before
  unfolding last_clearing
  cleared_before none = ap seqno_of (last_cleared ∙ ap (λ (o : Option Changed). option_or o (last_such is_clearing before.changes)) (none_clears r.seqno more none))

-- ---- the shares after it

too_early : (q : ℕ) (x : Recorded) → x.seqno ≤ q → share_after q x ≡ None
too_early q x low = go (nat_lt q x.seqno) refl
  where
    go : (b : Bool) → nat_lt q x.seqno ≡ b → (if b then share_in x.request else None) ≡ None
    go true test = absurd (grind (arith, nat_tests))
    go false test = refl

none_since : (q : ℕ) (rs : List Recorded) → AllByRecursion (λ (x : Recorded). x.seqno ≤ q) rs → filter_map (share_after q) rs ≡ []
none_since q [] low = refl
none_since q (x ∷ rs) low = ap₂ cons_option (too_early q x low.0) (none_since q rs low.1)

all_early : (q : ℕ) (rs : List Recorded) (r : Recorded) → IsAbove q rs → r.seqno ≤ q → AllByRecursion (λ (x : Recorded). x.seqno ≤ q) (rs ++ r ∷ [])
all_early q [] r above low = (low, tt)
all_early q (x ∷ rs) r above low = (let one = above.0 in omega (arith, one), all_early q rs r above.1 low)

-- they are cleared by what the request brings about
pub shares_cleared : (rs : List Recorded) (r : Recorded) → IsAbove r.seqno rs → clear (changes_of (history rs) r) ≡ true → shares_given (history (rs ++ r ∷ [])) ≡ []
shares_cleared rs r above some =
    shares_of_requests (rs ++ r ∷ [])
    ∙ ap (λ (q : ℕ). filter_map (share_after q) (rs ++ r ∷ [])) (cleared_now rs r some)
    ∙ none_since r.seqno (rs ++ r ∷ []) (all_early r.seqno rs r above (omega arith))

-- or else kept, with one that the request gives
pub shares_kept : (rs : List Recorded) (r : Recorded) → clear (changes_of (history rs) r) ≡ false →
    shares_given (history (rs ++ r ∷ [])) ≡ shares_given (history rs) ++ cons_option (share_after (last_clearing (history rs)) r) []
shares_kept rs r none =
    let q = last_clearing (history rs) in
    shares_of_requests (rs ++ r ∷ [])
    ∙ ap (λ (k : ℕ). filter_map (share_after k) (rs ++ r ∷ [])) (cleared_before rs r none)
    ∙ filter_map-append (share_after q) rs (r ∷ [])
    ∙ ap (λ (ss : List Share). ss ++ cons_option (share_after q r) []) (sym (shares_of_requests rs))

-- ---- the dealing

deals_none : (c : Change) → clears_shares c ≡ false → sets_dealing c ≡ None
deals_none (changes.Founded state key) none = refl
deals_none (changes.Recovered key) none = refl
deals_none (changes.Settled id state) none = refl
deals_none changes.Completed none = refl
deals_none (changes.Applied a) none = by a none
  where
    by : (a : Action) → clears_shares (changes.Applied a) ≡ false → sets_dealing (changes.Applied a) ≡ None
    by (actions.SetMember m) none = refl
    by (actions.RemoveMember m) none = refl
    by (actions.SetRecoveryThreshold d) none = absurd cc
    by (actions.TransitionNodeToTrusted id) none = refl
    by (actions.RemoveNode id) none = refl
    by actions.TransitionServiceToOpen none = refl
    by (actions.SetConstitution rules) none = refl

none_deals : (s : ℕ) (cs : List Change) → clear cs ≡ false → last_set sets_dealing (map (changed_at s) cs) ≡ None
none_deals s [] none = refl
none_deals s (c ∷ cs) none =
    let both = or_parts (clears_shares c) (clear cs) none in
    last_set-cons sets_dealing (changed_at s c) (map (changed_at s) cs) ∙ ap₂ option_or (none_deals s cs both.1) (deals_none c both.0)

-- shares that are kept are shares of the same dealing
pub dealing_kept : (rs : List Recorded) (r : Recorded) → clear (changes_of (history rs) r) ≡ false → dealing (history (rs ++ r ∷ [])) ≡ dealing (history rs)
unfolding dealing
dealing_kept rs r none =
    let cs : List Changed = (history rs).changes in
    let more : List Change = changes_of (history rs) r in
    ap (last_set sets_dealing) (changes_more rs r) ∙ last_set-append sets_dealing cs (map (changed_at r.seqno) more)
    ∙ ap (λ (o : Option Dealing). option_or o (last_set sets_dealing cs)) (none_deals r.seqno more none)

-- ---- a share that is accepted

pub record IsAccepted (h : History) (member : ℕ) (value : List ℕ) : Type 0 where
  pub waiting : waiting_refusal (service_state h) ≡ None
  pub fresh : list_any (has_given member) (shares_given h) ≡ false
  pub own : is_dealt member (sha256 value) (dealing h) ≡ true
  pub joins : (if is_complete h then secret_refusal (sha256 (joined (shares_given h ++ record { member = member; value = value } ∷ []))) (dealing h) else None) ≡ None

pub share_accepted : (h : History) (member : ℕ) (value : List ℕ) → share_refusal h member value ≡ None → IsAccepted h member value
unfolding share_refusal
share_accepted h member value none =
    let given = list_any (has_given member) (shares_given h) in
    let digest = sha256 value in
    let a = none_of (waiting_refusal (service_state h) orelse where_is given (refusals.KnownShare member) orelse where_is (not_dealt digest) (refusals.WrongShare digest)) _ none in
    let b = none_of (waiting_refusal (service_state h) orelse where_is given (refusals.KnownShare member)) _ a.0 in
    let c = none_of (waiting_refusal (service_state h)) _ b.0 in
    record {
      waiting = c.0;
      fresh = not_bad given (refusals.KnownShare member) c.1;
      own = not_denied (is_dealt member digest (dealing h)) (not_bad (not_dealt digest) (refusals.WrongShare digest) b.1);
      joins = a.1;
    }
  where
    not_dealt : List ℕ → Bool
    not_dealt digest = not (is_dealt member digest (dealing h))

-- the request of a member who gives a share
pub record Gives (q : GovernanceRequest) (s : Share) : Type 0 where
  pub by : MemberRequest
  pub request : q ≡ requests.Member by
  pub act : by.act ≡ acts.Share s.value
  pub member : by.member ≡ s.member

pub gives : (q : GovernanceRequest) (s : Share) → share_in q ≡ Some s → Gives q s
gives (requests.Genesis g) s is = absurd cc
gives (requests.Recover r) s is = absurd cc
gives (requests.Join n) s is = absurd cc
gives (requests.Mark id) s is = absurd cc
gives (requests.Member m) s is = go m.act refl is
  where
    go : (a : MemberAct) → m.act ≡ a → share_in_act m.member a ≡ Some s → Gives (requests.Member m) s
    go acts.Ack same none = absurd cc
    go (acts.Propose list) same none = absurd cc
    go (acts.Ballot id agrees) same none = absurd cc
    go (acts.Withdraw id) same none = absurd cc
    go (acts.Share value) same some = record { by = m; request = refl; act = cc; member = cc }

pub gives_accepted : (h : History) (seqno : ℕ) (q : GovernanceRequest) (s : Share) → Gives q s → refusal h seqno q ≡ None → IsAccepted h s.member s.value
unfolding refusal act_refusal
gives_accepted h seqno q s g none =
    let m = g.by in
    let of_member : refusal h seqno (requests.Member m) ≡ None = ap (refusal h seqno) (sym g.request) ∙ none in
    let act : act_refusal h seqno m m.act ≡ None = (none_of (signed_refusal h m) (act_refusal h seqno m m.act) of_member).1 in
    let share : share_refusal h m.member s.value ≡ None = ap (act_refusal h seqno m) (sym g.act) ∙ act in
    share_accepted h s.member s.value (ap (λ (n : ℕ). share_refusal h n s.value) (sym g.member) ∙ share)

given_since : (q : ℕ) (r : Recorded) (s : Share) → share_after q r ≡ Some s → share_in r.request ≡ Some s
given_since q r s is = go (nat_lt q r.seqno) is
  where
    go : (b : Bool) → (if b then share_in r.request else None) ≡ Some s → share_in r.request ≡ Some s
    go true is = is
    go false is = absurd cc

-- ---- all that are given

-- no member gave two of the shares, and each is the one that was dealt to its member
pub record AreGiven (h : History) : Type 0 where
  pub distinct : IsDistinct nat_eq (members_of (shares_given h))
  pub own : AllByRecursion (λ (s : Share). is_dealt s.member (sha256 s.value) (dealing h) ≡ true) (shares_given h)

abbrev AreOf : Option Dealing → List Share → Type 0
AreOf d shares = IsDistinct nat_eq (members_of shares) × AllByRecursion (λ (s : Share). is_dealt s.member (sha256 s.value) d ≡ true) shares

of_none : (d : Option Dealing) → AreOf d []
unfolding IsDistinct
of_none d = (tt, tt)

members-push : (ss : List Share) (s : Share) → members_of (ss ++ s ∷ []) ≡ members_of ss ++ s.member ∷ []
members-push [] s = refl
members-push (x ∷ ss) s = ap (λ (ns : List ℕ). x.member ∷ ns) (members-push ss s)

not_among : (n : ℕ) (ss : List Share) → list_any (has_given n) ss ≡ false → list_any (nat_eq n) (members_of ss) ≡ false
not_among n [] none = refl
not_among n (s ∷ ss) none =
    let both = or_parts (has_given n s) (list_any (has_given n) ss) none in
    ap₂ (λ (a b : Bool). a || b) (nat_eq_equiv.symm n s.member ∙ both.0) (not_among n ss both.1)

own-push : (d : Option Dealing) (ss : List Share) (s : Share) → AllByRecursion (λ (x : Share). is_dealt x.member (sha256 x.value) d ≡ true) ss → is_dealt s.member (sha256 s.value) d ≡ true →
    AllByRecursion (λ (x : Share). is_dealt x.member (sha256 x.value) d ≡ true) (ss ++ s ∷ [])
own-push d [] s all one = (one, tt)
own-push d (x ∷ ss) s all one = (all.0, own-push d ss s all.1 one)

of_one_more : (h : History) (ss : List Share) (s : Share) → ss ≡ shares_given h → AreOf (dealing h) ss → IsAccepted h s.member s.value → AreOf (dealing h) (ss ++ s ∷ [])
of_one_more h ss s is old accepted = (
  subst (IsDistinct nat_eq) (sym (members-push ss s))
      (IsDistinct-push nat_eq_equiv (members_of ss) s.member old.0 (not_among s.member ss (ap (list_any (has_given s.member)) is ∙ accepted.fresh))),
  own-push (dealing h) ss s old.1 accepted.own,
)

module _ (rs : List Recorded) (r : Recorded) (follows : Follows rs r) where
  abbrev old : List Share
  old = shares_given (history rs)

  with_share : (o : Option Share) → share_after (last_clearing (history rs)) r ≡ o → AreOf (dealing (history rs)) old → AreOf (dealing (history rs)) (old ++ cons_option o [])
  with_share None is all = subst (AreOf (dealing (history rs))) (sym (append-nil old)) all
  with_share (Some s) is all =
      of_one_more (history rs) old s refl all
      (gives_accepted (history rs) r.seqno r.request s (gives r.request s (given_since (last_clearing (history rs)) r s is)) follows.accepted)

  one_more : (b : Bool) → clear (changes_of (history rs) r) ≡ b → AreGiven (history rs) → AreGiven (history (rs ++ r ∷ []))
  one_more true cleared all =
      let none : AreOf (dealing (history (rs ++ r ∷ []))) (shares_given (history (rs ++ r ∷ []))) =
      subst (AreOf (dealing (history (rs ++ r ∷ [])))) (sym (shares_cleared rs r follows.above cleared)) (of_none (dealing (history (rs ++ r ∷ [])))) in
      record { distinct = none.0; own = none.1 }
  one_more false kept all =
      let more : AreOf (dealing (history rs)) (old ++ cons_option (share_after (last_clearing (history rs)) r) []) = with_share (share_after (last_clearing (history rs)) r) refl (all.distinct, all.own) in
      let same : AreOf (dealing (history (rs ++ r ∷ []))) (shares_given (history (rs ++ r ∷ []))) =
      subst (λ (d : Option Dealing). AreOf d (shares_given (history (rs ++ r ∷ [])))) (sym (dealing_kept rs r kept)) (subst (AreOf (dealing (history rs))) (sym (shares_kept rs r kept)) more) in
      record { distinct = same.0; own = same.1 }

none_given : AreGiven (history [])
unfolding history shares_given given IsDistinct
none_given = record { distinct = tt; own = tt }

-- whatever requests were accepted one after another
pub are_given : (rs : List Recorded) → IsGoverned rs → AreGiven (history rs)
are_given = governed_induction (λ (rs : List Recorded). AreGiven (history rs)) none_given (λ rs r all follows before. one_more rs r follows (clear (changes_of (history rs) r)) refl before)
