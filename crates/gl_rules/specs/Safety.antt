-- What is promised of every run: of any two committed ledgers, at any nodes and moments, one is a
-- prefix of the other; what is reported Committed is never reported Invalid; and each committed
-- ledger is one that the service's layer of the ledger stands for. A moment is a prefix of the list
-- of events.
use Rattle.std.specs.Prelude.{◌≡◌, ℕ, suc, ◌+◌, ◌≤◌, ◌<◌, List, [], ◌∷◌, ◌++◌, true, false, Option, None, Some, Ok, length, take, slice_get, ◌⊎◌}
use Rattle.gl_base.specs.declared.tx_id.TxId.{TxId}
use Rattle.gl_base.specs.declared.tx_id.Status.{Status}
use Rattle.gl_base.specs.declared.tx_id.Status.TheVariants.{Committed, Invalid}
use Rattle.gl_base.specs.Status.{status_of}
use Rattle.gl_rules.specs.Identity.{NodeId, member}
use Rattle.gl_rules.specs.Book.{Book}
use Rattle.gl_rules.specs.Node.{Node, Leader}
use Rattle.gl_rules.specs.Message.{Message}
use Rattle.gl_rules.specs.Outcome.{Outcome, Refused, ByLedger, BelowCommit}
use Rattle.gl_rules.specs.Log.{entry_at, last_signature, greatest_recorded}
use Rattle.gl_rules.specs.Configuration.{active, in_some}
use Rattle.gl_rules.specs.Retirement.{RetiredCommitted, stage_at}
use Rattle.gl_rules.specs.World.{Event, Deliver, World, Start, after, happens, first_view}

-- The second list begins with the first.
abbrev pub IsPrefixOf : {A : Type 0} → List A → List A → Type 0
IsPrefixOf {A} xs ys = (rest : List A) × (xs ++ rest ≡ ys)

-- A node's committed ledger, whole from seqno 1.
abbrev pub committed_ledger : {E : Type 0} → Node E → List E
committed_ledger n = take n.commit n.log

-- What an event that is refused leaves: each node as it was, and no message.
pub record LeavesAll {E : Type 0} (w v : World E) : Type 0 where
  pub nodes : (y : NodeId) → v.nodes y ≡ w.nodes y
  pub sent : v.sent ≡ w.sent

module _ {E Q G R A F : Type 0} (book : Book E Q G R A F) where
  -- An entry that a ledger takes in a view: it may follow, and the ledger with it is sound again.
  -- Here, and in all that is asked of ledgers below, none of their entries came by a snapshot: each
  -- is tried by the whole rule.
  pub record Makes (Sound : List E → Type 0) (log : List E) (view : ℕ) (e : E) : Type 0 where
    pub view_is : book.view_of e ≡ view
    pub follows : book.breaks 0 log e ≡ None
    pub sound : Sound (log ++ e ∷ [])

  -- A ledger whose every entry may follow those before it.
  abbrev pub EachFollows : List E → Type 0
  EachFollows log = (i : ℕ) (e : E) → slice_get log i ≡ Some e → book.breaks 0 (take i log) e ≡ None

  -- Each view of the ledger is at most this one.
  abbrev pub ViewsUpTo : ℕ → List E → Type 0
  ViewsUpTo view log = (i : ℕ) (e : E) → slice_get log i ≡ Some e → book.view_of e ≤ view

  -- An entry that marks no node.
  abbrev pub MarksNone : List E → E → Type 0
  MarksNone log e =
      (y : NodeId) (seqno : ℕ) →
      book.mark (log ++ e ∷ []) y ≡ Some seqno → book.mark log y ≡ Some seqno

  -- Where something stands in ledgers: at the seqno of the entry that brought it, and there it
  -- stays.
  pub record KeepsPlaces (Sound : List E → Type 0) (place_of : List E → NodeId → Option ℕ) :
      Type 0 where
    pub none : (y : NodeId) → place_of [] y ≡ None
    pub stays : (log : List E) (e : E) (y : NodeId) (seqno : ℕ) → Sound (log ++ e ∷ []) →
        place_of log y ≡ Some seqno → place_of (log ++ e ∷ []) y ≡ Some seqno
    pub comes : (log : List E) (e : E) (y : NodeId) (seqno : ℕ) → Sound (log ++ e ∷ []) →
        place_of (log ++ e ∷ []) y ≡ Some seqno →
        (place_of log y ≡ Some seqno) ⊎ (seqno ≡ length log + 1)

  -- A commit that a signature may record: the seqno of a signature, not below what an earlier
  -- signature records, and not below the removal of a node that was marked since.
  pub record MayRecord (log : List E) (commit : ℕ) : Type 0 where
    pub signature : E
    pub at : entry_at log commit ≡ Some signature
    pub signs : book.is_signature signature ≡ true
    pub least : greatest_recorded book log ≤ commit
    pub removals : (y : NodeId) (mark removal : ℕ) → book.mark log y ≡ Some mark →
        last_signature book log < mark → book.removal log y ≡ Some removal → removal ≤ commit

  -- What the rules ask of the layer of the ledger. Sound is what that layer says of a ledger.
  pub record IsLawful (Sound : List E → Type 0) : Type 0 where
    -- what is made
    pub executed : (log : List E) (view : ℕ) (q : Q) (e : E) (a : A) → Sound log →
        ViewsUpTo view log →
        book.execute log view q ≡ Ok (e, a) →
        Makes Sound log view e × (book.is_signature e ≡ false) × MarksNone log e
    pub governed : (log : List E) (view : ℕ) (g : G) (e : E) (a : A) → Sound log →
        ViewsUpTo view log →
        book.govern log view g ≡ Ok (e, a) → Makes Sound log view e × (book.is_signature e ≡ false)
    pub signed : (x : NodeId) (leaf : ℕ) (log : List E) (view commit : ℕ) (e : E) → Sound log →
        ViewsUpTo view log → MayRecord log commit →
        book.sign x leaf log view commit ≡ Ok e →
        Makes Sound log view e × (book.is_signature e ≡ true) × (book.recorded_commit e ≡ commit)
    pub evident : (log : List E) (view : ℕ) (e : E) → Sound log → ViewsUpTo view log →
        book.evidence log view ≡ Ok e →
        Makes Sound log view e × (book.is_signature e ≡ false) × MarksNone log e
    -- what is taken
    pub taken : (log : List E) (e : E) → Sound log → book.breaks 0 log e ≡ None →
        Sound (log ++ e ∷ [])
    -- an entry that may follow may follow also where the entries up to a base came by a snapshot
    pub weaker : (log : List E) (e : E) (base : ℕ) → book.breaks 0 log e ≡ None →
        book.breaks base log e ≡ None
    pub cut : (log : List E) (seqno : ℕ) → Sound log → Sound (take seqno log)
    -- an evidence entry stands right after a signature
    pub witnessed : (log : List E) (seqno : ℕ) (e : E) → Sound log →
        entry_at log (suc seqno) ≡ Some e → book.is_evidence e ≡ true →
        (f : E) × (entry_at log seqno ≡ Some f) × (book.is_signature f ≡ true)
    -- removals and marks
    pub removals : KeepsPlaces Sound book.removal
    pub markings : KeepsPlaces Sound book.mark
    -- a mark is no signature, and stands after the removal of its node
    pub marked : (log : List E) (e : E) (y : NodeId) → Sound (log ++ e ∷ []) →
        book.mark (log ++ e ∷ []) y ≡ Some (length log + 1) →
        (book.is_signature e ≡ false) × ((removal : ℕ) × (book.removal log y ≡ Some removal))
    -- a governance request marks no node but the one that it is a mark of
    pub marks : (log : List E) (view : ℕ) (g : G) (e : E) (a : A) (y : NodeId) (seqno : ℕ) →
        Sound log → ViewsUpTo view log →
        book.govern log view g ≡ Ok (e, a) → book.mark (log ++ e ∷ []) y ≡ Some seqno →
        (book.mark log y ≡ Some seqno) ⊎ (book.marked_node g ≡ Some y)

  -- What retirement asks beside: from its removal on, a node is in no active configuration.
  pub record IsRetiring (Sound : List E → Type 0) : Type 0 where
    pub removed : (log : List E) (y : NodeId) (removal commit : ℕ) → Sound log →
        book.removal log y ≡ Some removal → removal ≤ commit → commit ≤ length log →
        in_some y (active book log commit) ≡ false

  -- What the rules ask of the opening ledger: its entries are of the first view, a configuration
  -- stands in it, and its last entry is its only signature and records its own seqno. The node that
  -- signed it is among those that start.
  pub record IsOpening (Sound : List E → Type 0) (s : Start E) : Type 0 where
    pub sound : Sound s.opening
    pub views : (i : ℕ) (e : E) → slice_get s.opening i ≡ Some e → book.view_of e ≡ first_view
    pub follow : (i : ℕ) (e : E) → slice_get s.opening i ≡ Some e →
        book.breaks 0 (take i s.opening) e ≡ None
    pub before : ℕ
    pub long : length s.opening ≡ suc before
    pub signature : E
    pub last : slice_get s.opening before ≡ Some signature
    pub signs : book.is_signature signature ≡ true
    pub records : book.recorded_commit signature ≡ suc before
    pub alone : (i : ℕ) (e : E) → slice_get s.opening i ≡ Some e → book.is_signature e ≡ true →
        i ≡ before
    pub configured_at : ℕ
    pub counted : 0 < configured_at
    pub within : configured_at ≤ before
    pub members : List NodeId
    pub configured : book.configuration (take configured_at s.opening) ≡ Some members
    pub first_starts : member s.first s.starting ≡ true

  -- A service that the rules run: a book with its laws, and an opening.
  pub record IsService (s : Start E) : Type 0 where
    pub lawful : IsLawful EachFollows
    pub opening : IsOpening EachFollows s

  -- The view of an entry, if there is one.
  abbrev pub view_of : Option E → Option ℕ
  view_of None = None
  view_of (Some e) = Some (book.view_of e)

  abbrev pub id_at : ℕ → Option ℕ → Option TxId
  id_at seqno None = None
  id_at seqno (Some view) = Some (record { view = view; seqno = seqno })

  -- The identifier of the last committed entry, if there is one.
  abbrev pub commit_id : Node E → Option TxId
  commit_id n = id_at n.commit (view_of (entry_at n.log n.commit))

  -- What a node tells of a transaction's status.
  abbrev pub reported_status : Node E → TxId → Status
  reported_status n id = status_of id (view_of (entry_at n.log id.seqno)) (commit_id n)

  -- Of two committed ledgers one is a prefix of the other.
  abbrev pub Agree : Node E → Node E → Type 0
  Agree m n =
      IsPrefixOf (committed_ledger m) (committed_ledger n)
      ⊎ IsPrefixOf (committed_ledger n) (committed_ledger m)

  -- Node x after a list of events.
  abbrev pub node_after : Start E → List (Event Q G R) → NodeId → Node E
  node_after s events x = (after book s events).nodes x

  -- Node x at moment i of a list of events.
  abbrev pub node_at : Start E → List (Event Q G R) → ℕ → NodeId → Node E
  node_at s events i x = node_after s (take i events) x

  -- What holds of a list of events, at all pairs of moments and nodes.
  pub record IsSafe (Sound : List E → Type 0) (s : Start E) (events : List (Event Q G R)) :
      Type 0 where
    pub prefix : (i j : ℕ) (x y : NodeId) → Agree (node_at s events i x) (node_at s events j y)
    pub status : (i j : ℕ) (x y : NodeId) (id : TxId) →
        reported_status (node_at s events i x) id ≡ Committed →
        reported_status (node_at s events j y) id ≡ Invalid → ⊥
    pub ledger : (i : ℕ) (x : NodeId) → Sound (committed_ledger (node_at s events i x))

  -- Views, votes and leaders, at all pairs of moments and nodes.
  pub record LeadsByVote (s : Start E) (events : List (Event Q G R)) : Type 0 where
    -- a node's view never falls
    pub views : (i j : ℕ) (x : NodeId) → i ≤ j →
        (node_at s events i x).view ≤ (node_at s events j x).view
    -- a node votes for one candidate in a view
    pub one_vote : (i j : ℕ) (x c d : NodeId) →
        (node_at s events i x).view ≡ (node_at s events j x).view →
        (node_at s events i x).vote ≡ Some c → (node_at s events j x).vote ≡ Some d → c ≡ d
    -- a view has one leader
    pub one_leader : (i j : ℕ) (x y : NodeId) →
        (node_at s events i x).view ≡ (node_at s events j y).view →
        (node_at s events i x).role ≡ Leader → (node_at s events j y).role ≡ Leader → x ≡ y
    -- while it leads, its log only grows
    pub leader_grows : (i j : ℕ) (x : NodeId) → i ≤ j →
        (node_at s events i x).view ≡ (node_at s events j x).view →
        (node_at s events i x).role ≡ Leader → (node_at s events j x).role ≡ Leader →
        IsPrefixOf (node_at s events i x).log (node_at s events j x).log
    -- a leader holds whatever a leader of an earlier view ever commits
    pub leader_keeps : (i j : ℕ) (x y : NodeId) →
        (node_at s events i x).view < (node_at s events j y).view →
        (node_at s events i x).role ≡ Leader → (node_at s events j y).role ≡ Leader →
        IsPrefixOf (committed_ledger (node_at s events i x)) (node_at s events j y).log

  -- What a refusal of a message says of its receiver: never that an entry may not follow, and that
  -- entries below commit would be cut only of a node whose commit is its base, above 0.
  abbrev pub RefusedOnlyAtBase : Node E → Outcome A F → Type 0
  RefusedOnlyAtBase n (Refused (ByLedger why)) = ⊥
  RefusedOnlyAtBase n (Refused (BelowCommit commit cut)) = (n.commit ≡ n.base) × (0 < n.base)
  RefusedOnlyAtBase n _ = Unit {0}

  -- No message is refused for an entry that may not follow.
  pub record NeverConflicts (s : Start E) (events : List (Event Q G R)) : Type 0 where
    pub messages : (i which : ℕ) (m : Message E) →
        slice_get (after book s (take i events)).sent which ≡ Some m →
        RefusedOnlyAtBase (node_at s events i m.receiver)
        (happens book (after book s (take i events)) (Deliver which)).outcome

  -- A node that is in a configuration of a ledger, at whatever seqno.
  abbrev pub IsConfigured : NodeId → List E → Type 0
  IsConfigured x log =
      (seqno : ℕ) × (nodes : List NodeId)
      × (book.configuration (take seqno log) ≡ Some nodes) × (member x nodes ≡ true)

  -- A leader's log may be added to and signed, so that no entry of its own need be refused.
  pub record LeadersMayRecord (s : Start E) (events : List (Event Q G R)) : Type 0 where
    -- each entry of its log may follow those before it
    pub follows : (i : ℕ) (x : NodeId) → (node_at s events i x).role ≡ Leader →
        EachFollows (node_at s events i x).log
    -- none is of a later view
    pub views : (i : ℕ) (x : NodeId) → (node_at s events i x).role ≡ Leader →
        ViewsUpTo (node_at s events i x).view (node_at s events i x).log
    -- a signature after it may record its commit
    pub commit : (i : ℕ) (x : NodeId) → (node_at s events i x).role ≡ Leader →
        MayRecord (node_at s events i x).log (node_at s events i x).commit
    -- it is in a configuration of its log, where the first leader is in one of the opening
    pub configured : IsConfigured s.first s.opening → (i : ℕ) (x : NodeId) →
        (node_at s events i x).role ≡ Leader →
        IsConfigured x (node_at s events i x).log

  -- A node says that the retirement of y is committed: then y may be switched off.
  abbrev pub IsRetired : Node E → NodeId → Type 0
  IsRetired n y = stage_at book n y ≡ Some RetiredCommitted

  -- Node n counts y in an active configuration.
  abbrev pub IsActive : Node E → NodeId → Type 0
  IsActive n y = in_some y (active book n.log n.commit) ≡ true

  -- A node whose retirement is committed is in no active configuration of whoever has said so, nor
  -- of a leader of a later view: then and for good, restarts included.
  pub record RetiresSafely (s : Start E) (events : List (Event Q G R)) : Type 0 where
    -- of a node that has said so
    pub here : (i j : ℕ) (x y : NodeId) → i ≤ j → IsRetired (node_at s events i x) y →
        IsActive (node_at s events j x) y → ⊥
    -- of a node that leads a later view than a leader that says so, whenever each of them leads
    pub later : (i j k : ℕ) (x z y : NodeId) → j ≤ k →
        (node_at s events i x).role ≡ Leader → IsRetired (node_at s events i x) y →
        (node_at s events j z).role ≡ Leader →
        (node_at s events i x).view < (node_at s events j z).view →
        IsActive (node_at s events k z) y → ⊥
    -- where any node says so, a leader has said so before
    pub led : (i : ℕ) (x y : NodeId) → IsRetired (node_at s events i x) y →
        (j : ℕ) × (z : NodeId) × (j ≤ i)
        × ((node_at s events j z).role ≡ Leader) × IsRetired (node_at s events j z) y
