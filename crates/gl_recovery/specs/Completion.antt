-- What completes the recovery of a service, so that it opens: the shares of its recovery secret
-- (CCF documentation, "Disaster Recovery").
use Rattle.std.specs.Prelude.{◌≡◌, ℕ, ◌+◌, ◌≤◌, List, [], ◌∷◌, ◌++◌, Some, true, nat_eq, length}
use Rattle.std.specs.List.{AllByRecursion, IsDistinct}
use Rattle.sha2.specs.Sha256.{sha256}
use Rattle.gl_shares.specs.Joining.{joined, members_of}
use Rattle.gl_shares.specs.declared.share.Share.{Share}
use Rattle.gl_requests.specs.declared.genesis.Dealing.{Dealing}
use Rattle.gl_requests.specs.declared.genesis.ServiceState.TheVariants as services
use Rattle.gl_requests.specs.declared.request.MemberAct.TheVariants as acts
use Rattle.gl_requests.specs.declared.request.MemberRequest.{MemberRequest}
use Rattle.gl_requests.specs.declared.request.GovernanceRequest.TheVariants as requests
use Rattle.gl_gov_rules.specs.declared.change.Recorded.{Recorded}
use Rattle.gl_gov_rules.specs.History.{History}
use Rattle.gl_gov_rules.specs.Changes.{history}
use Rattle.gl_gov_rules.specs.Refusals.{is_dealt}
use Rattle.gl_gov_rules.specs.Service.{dealing, service_state, shares_given}
use Rattle.gl_entry.specs.declared.entry.Entry.{Entry}
use Rattle.gl_ledger.specs.Recordings.{recorded_in, requests_of}

-- Each share is the one that was dealt to its member, by the digest that the dealing names.
abbrev pub AreOwn : Dealing → List Share → Type 0
AreOwn d shares =
    AllByRecursion (λ (s : Share). is_dealt s.member (sha256 s.value) (Some d) ≡ true) shares

-- The shares give the secret that was dealt: they are as many as the dealing asks for, of as many
-- members, each of whom gave its own; and what they join to has the digest of the secret.
pub record GiveSecret (d : Dealing) (shares : List Share) : Type 0 where
  pub enough : d.threshold ≤ length shares
  pub distinct : IsDistinct nat_eq (members_of shares)
  pub own : AreOwn d shares
  pub secret : sha256 (joined shares) ≡ d.secret_digest

-- A request completes a recovery after others: while the service waits for shares, a member gives
-- one, and with it those that are given give the secret that was dealt.
pub record Completes (before : List Recorded) (r : Recorded) : Type 0 where
  pub by : MemberRequest
  pub request : r.request ≡ requests.Member by
  pub value : List ℕ
  pub gives : by.act ≡ acts.Share value
  pub waited : service_state (history before) ≡ Some services.WaitingForRecoveryShares
  pub dealt : Dealing
  pub in_force : dealing (history before) ≡ Some dealt
  pub given : shares_given (history (before ++ r ∷ []))
      ≡ shares_given (history before) ++ record { member = by.member; value = value } ∷ []
  pub secret : GiveSecret dealt (shares_given (history (before ++ r ∷ [])))

-- What the requests of governance of a ledger come to.
abbrev pub governance_of : List Entry → History
governance_of ledger = history (requests_of ledger)

-- An entry after a ledger records a request that completes the recovery.
abbrev pub CompletesAfter : List Entry → Entry → Type 0
CompletesAfter ledger e =
    (r : Recorded) × (recorded_in (length ledger + 1) e.content ≡ r ∷ [])
    × Completes (requests_of ledger) r
