-- The key of a service that was founded, whether or not it was recovered, is one that a request
-- names, so it has its size.
use Rattle.std.proofs.Common.{◌≡◌, ℕ, List, [], ◌∷◌, ◌++◌, map, Option, Some, None, Bool, true, false, ◌&&◌, refl, sym, ◌∙◌, ap}
use Rattle.std.specs.Option.{option_or}
use Rattle.std.proofs.lemmas.Bool.{and_parts}
use Rattle.std.proofs.lemmas.Option.{same_Some}
use Rattle.gl_base.specs.Bytes.{are_sized}
use Rattle.gl_requests.specs.Ranges as ranges
use Rattle.gl_requests.specs.declared.action.Action.TheVariants as actions
use Rattle.gl_requests.specs.declared.genesis.Genesis.{Genesis}
use Rattle.gl_requests.specs.declared.genesis.Recovery.{Recovery}
use Rattle.gl_requests.specs.declared.genesis.NewMember.{NewMember}
use Rattle.gl_requests.specs.declared.request.GovernanceRequest.{GovernanceRequest}
use Rattle.gl_requests.specs.declared.request.GovernanceRequest.TheVariants as requests
use Rattle.gl_gov_rules.specs.declared.change.Recorded.{Recorded}
use Rattle.gl_gov_rules.specs.declared.change.Change.{Change}
use Rattle.gl_gov_rules.specs.declared.change.Change.TheVariants as changes
use Rattle.gl_gov_rules.specs.declared.change.Changed.{Changed}
use Rattle.gl_gov_rules.specs.History.{last_set}
use Rattle.gl_gov_rules.specs.Service.{sets_identity, identity}
use Rattle.gl_gov_rules.specs.Changes.{first_rules, set_member, founding_changes, changes_of, changed_at, history}
use Rattle.gl_gov_rules.specs.Governed.{Follows, IsGoverned, is_founding, is_recovery}
use Rattle.gl_gov_rules.proofs.Prefixes.{changes_more, governed_induction}
use Rattle.gl_gov_rules.proofs.LastSet.{last_set-append, last_set-cons}
use Rattle.gl_gov_rules.proofs.KeptIdentity.{identity_kept}

-- members that are set name no key of the service
members_set : (seqno : ℕ) (ms : List NewMember) → last_set sets_identity (map (changed_at seqno) (map set_member ms)) ≡ None
members_set seqno [] = refl
members_set seqno (m ∷ ms) =
    last_set-cons sets_identity (changed_at seqno (set_member m)) (map (changed_at seqno) (map set_member ms))
    ∙ ap (λ (o : Option (List ℕ)). option_or o None) (members_set seqno ms)

-- a founding names its key
founding_set : (seqno : ℕ) (g : Genesis) → last_set sets_identity (map (changed_at seqno) (founding_changes g)) ≡ Some g.identity
founding_set seqno g =
    let members : List Changed = map (changed_at seqno) (map set_member g.members) in
    let dealt : Changed = changed_at seqno (changes.Applied (actions.SetRecoveryThreshold g.dealing)) in
    let ruled : Changed = changed_at seqno (changes.Applied (actions.SetConstitution first_rules)) in
    last_set-cons sets_identity (changed_at seqno (changes.Founded g.state g.identity)) (ruled ∷ dealt ∷ members)
    ∙ ap (λ (o : Option (List ℕ)). option_or o (Some g.identity))
    (last_set-cons sets_identity ruled (dealt ∷ members)
    ∙ ap (λ (o : Option (List ℕ)). option_or o None)
    (last_set-cons sets_identity dealt members ∙ ap (λ (o : Option (List ℕ)). option_or o None) (members_set seqno g.members)))

-- after a request that names a key this one is the service's
named : (rs : List Recorded) (r : Recorded) (key : List ℕ) → last_set sets_identity (map (changed_at r.seqno) (changes_of (history rs) r)) ≡ Some key → identity (history (rs ++ r ∷ [])) ≡ Some key
unfolding identity
named rs r key is =
    ap (last_set sets_identity) (changes_more rs r) ∙ last_set-append sets_identity (history rs).changes (map (changed_at r.seqno) (changes_of (history rs) r))
    ∙ ap (λ (o : Option (List ℕ)). option_or o (last_set sets_identity (history rs).changes)) is

founding_named : (rs : List Recorded) (seqno : ℕ) (g : Genesis) → identity (history (rs ++ record { seqno = seqno; request = requests.Genesis g } ∷ [])) ≡ Some g.identity
unfolding changes_of
founding_named rs seqno g = named rs (record { seqno = seqno; request = requests.Genesis g }) g.identity (founding_set seqno g)

pub recovery_named : (rs : List Recorded) (seqno : ℕ) (q : Recovery) → identity (history (rs ++ record { seqno = seqno; request = requests.Recover q } ∷ [])) ≡ Some q.identity
unfolding changes_of
recovery_named rs seqno q =
    named rs (record { seqno = seqno; request = requests.Recover q }) q.identity (last_set-cons sets_identity (changed_at seqno (changes.Recovered q.identity)) [])

-- the size of the keys that requests name
genesis_sized : (g : Genesis) → ranges.is_genesis g ≡ true → are_sized 60 g.identity ≡ true
genesis_sized g fits =
    let state : Bool = ranges.is_first_state g.state in
    let key : Bool = are_sized 60 g.identity in
    let nodes : Bool = ranges.are_counted ranges.is_node g.nodes in
    let members : Bool = ranges.are_counted ranges.is_member g.members in
    let a = and_parts (state && key && nodes && members) (ranges.is_dealing g.dealing) fits in
    let b = and_parts (state && key && nodes) members a.0 in
    let c = and_parts (state && key) nodes b.0 in
    (and_parts state key c.0).1

recovery_sized : (q : Recovery) → ranges.is_recovery q ≡ true → are_sized 60 q.identity ≡ true
recovery_sized q fits = (and_parts (are_sized 60 q.identity) (ranges.are_counted ranges.is_node q.nodes) fits).0

-- the service's key, if there is one, has its size
abbrev HasSizedKey : List Recorded → Type 0
HasSizedKey rs = (key : List ℕ) → identity (history rs) ≡ Some key → are_sized 60 key ≡ true

-- one that a request names
sized_as : (rs : List Recorded) (named : List ℕ) → identity (history rs) ≡ Some named → are_sized 60 named ≡ true → HasSizedKey rs
sized_as rs named is sized key reported = ap (are_sized 60) (same_Some key named (sym reported ∙ is)) ∙ sized

suffix : (rs : List Recorded) (r : Recorded) → Follows rs r → HasSizedKey rs → HasSizedKey (rs ++ r ∷ [])
suffix rs r follows old = go r.request refl
  where
    whole : (q : GovernanceRequest) → r.request ≡ q → r ≡ record { seqno = r.seqno; request = q }
    whole q is = ap (λ (x : GovernanceRequest). record { seqno = r.seqno; request = x }) is

    fits : (q : GovernanceRequest) → r.request ≡ q → ranges.is_request q ≡ true
    fits q is = ap ranges.is_request (sym is) ∙ follows.fits

    go : (q : GovernanceRequest) → r.request ≡ q → HasSizedKey (rs ++ r ∷ [])
    go (requests.Genesis g) is key reported =
        sized_as (rs ++ r ∷ []) g.identity (ap (λ (x : Recorded). identity (history (rs ++ x ∷ []))) (whole (requests.Genesis g) is) ∙ founding_named rs r.seqno g)
        (genesis_sized g (fits (requests.Genesis g) is)) key reported
    go (requests.Recover q) is key reported =
        sized_as (rs ++ r ∷ []) q.identity (ap (λ (x : Recorded). identity (history (rs ++ x ∷ []))) (whole (requests.Recover q) is) ∙ recovery_named rs r.seqno q)
        (recovery_sized q (fits (requests.Recover q) is)) key reported
    go (requests.Join n) is key reported = old key (sym (identity_kept rs r (ap is_founding is) (ap is_recovery is)) ∙ reported)
    go (requests.Mark id) is key reported = old key (sym (identity_kept rs r (ap is_founding is) (ap is_recovery is)) ∙ reported)
    go (requests.Member m) is key reported = old key (sym (identity_kept rs r (ap is_founding is) (ap is_recovery is)) ∙ reported)

-- without a request there is none
nothing_sized : HasSizedKey []
unfolding identity history
nothing_sized key reported = absurd (cc)

-- of requests that were accepted one after another the key has the size of an HSS public key
pub identity_fits : (rs : List Recorded) → IsGoverned rs → HasSizedKey rs
identity_fits rs all = governed_induction HasSizedKey nothing_sized (λ before r old follows kept. suffix before r follows kept) rs all
