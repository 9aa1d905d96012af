-- Who is to have a leader's entries.
use Rattle.std.proofs.Common.{◌≡◌, ◌≤◌, ℕ, List, Bool, ◌&&◌, ◌||◌, not, Option, is_some, ap, ◌∙◌}
use Rattle.gl_entry.specs.declared.entry.Entry.{Entry}
use Rattle.gl_rules.specs.Identity.{NodeId, same}
use Rattle.gl_rules.specs.Book.{Book}
use Rattle.gl_rules.specs.Node.{Node}
use Rattle.gl_rules.specs.Configuration.{active, in_some}
use Rattle.gl_rules.specs.Replication.{is_peer, is_reached}
use Rattle.gl_replication.specs.Holding.{Holding}
use Rattle.gl_replication.specs.Stands.{StandsFor}
use Rattle.gl_replication.specs.declared.node.Core.{Core}
use Rattle.gl_replication.proofs.PeerSteps.{commit_of, same4}

module _ {S Q G R A F : Type 0} (stands : S → Book Entry Q G R A F → Holding Entry → Type 0) where
  pub peer_is : {c : Core S Q G R A F} {b : Book Entry Q G R A F} {x : NodeId} {n : Node Entry} → StandsFor stands c b x n → (y me : NodeId) (sets : List (List NodeId)) (removal mark : Option ℕ) (is_me is_active is_removed is_marked : Bool) →
      is_me ≡ same y me → me ≡ x → is_active ≡ in_some y sets → sets ≡ active b n.log n.commit → is_removed ≡ is_some removal → removal ≡ b.removal n.log y → is_marked ≡ is_reached mark c.commit → ((commit : ℕ) → n.base ≤ commit → is_reached mark commit ≡ is_reached (b.mark n.log y) commit) →
      (not is_me && (is_active || (is_removed && not is_marked))) ≡ is_peer b x y n
  peer_is {n = n} s y me sets removal mark is_me is_active is_removed is_marked me_is mine active_is acting removed_is removal_is marked_is mark_is =
      same4 (λ t u v w. not t && (u || (v && not w))) (me_is ∙ ap (same y) mine) (active_is ∙ ap (in_some y) acting) (removed_is ∙ ap is_some removal_is) (marked_is ∙ ap (is_reached mark) (commit_of stands s) ∙ mark_is n.commit s.above)
