-- A core, the node that it stands for, and the file that keeps it.
use Rattle.std.proofs.Common.{All, IsTrue, ◌≡◌, ◌≤◌, ◌<◌, ℕ, ◌^◌, ◌-◌, ◌==◌, ◌&&◌, ◌++◌, Bool, true, List, [], length, take, drop, map, Option, Some, None, refl, sym, ap, subst, ◌∙◌, arith, length-take, length-drop}
use Rattle.std.proofs.lemmas.Bool.Decides.{nat_tests}
use Rattle.std.proofs.lemmas.List.Elements.{All-drop}
use Rattle.std.proofs.lemmas.List.{take_all, drop_all, take-take}
use Rattle.gl_entry.specs.Entry.{frame_bytes, is_entry}
use Rattle.gl_entry.specs.declared.entry.Entry.{Entry}
use Rattle.gl_rules.specs.Identity.{NodeId}
use Rattle.gl_rules.specs.Book.{Book}
use Rattle.gl_rules.specs.Node.{Node}
use Rattle.gl_rules.proofs.Ids.{same_self}
use Rattle.gl_journal.specs.Durable.{Durable, LogRules, leaf_count}
use Rattle.gl_replication.specs.Holding.{Holding}
use Rattle.gl_replication.specs.Standing.{At}
use Rattle.gl_replication.specs.Stands.{StandsFor, held_by}
use Rattle.gl_replication.specs.declared.node.Core.{Core}
use Rattle.gl_replication.proofs.PeerSteps.{same4}
use Rattle.gl_node.specs.Batches.{IsChange}
use Rattle.gl_node.specs.Changes.{IsAsKept, IsTurned, KeepsBase}
use Rattle.gl_node.specs.Frames.{EachGoesOn}
use Rattle.gl_node.specs.Kept.{Kept, is_same_vote, kept_after, keeping}
use Rattle.gl_node.specs.Persistence.{HoldsAbove, IsFileOf, IsHeldOf, SnapshotOf, kept_of}
use Rattle.gl_node.specs.declared.changed.Before.{Before}
use Rattle.gl_node.proofs.AboveBase.{drop_past, same_above, same_below}
use Rattle.gl_node.proofs.Folding.{vote_stays}
use Rattle.gl_node.proofs.Framing.{frames_parts, length_map}

same_vote_self : (v w : Option NodeId) → v ≡ w → is_same_vote v w ≡ true
same_vote_self v w is = subst (λ (u : Option NodeId). is_same_vote v u ≡ true) is (self v)
  where
    self : (u : Option NodeId) → is_same_vote u u ≡ true
    self None = refl
    self (Some x) = same_self x

-- where nothing is another the base is none
pub as_kept_base : (n m : Node Entry) → IsAsKept n m → KeepsBase n m
as_kept_base n m k = record { base = k.base; below = ap (take n.base) k.log }

module _ {S Q G R A F : Type 0} (stands : S → Book Entry Q G R A F → Holding Entry → Type 0) where
  pub view_of : {c : Core S Q G R A F} {b : Book Entry Q G R A F} {x : NodeId} {n : Node Entry} → StandsFor stands c b x n → c.peer.view ≡ n.view
  view_of s = ap (λ (m : Node Entry). m.view) s.same

  pub vote_of : {c : Core S Q G R A F} {b : Book Entry Q G R A F} {x : NodeId} {n : Node Entry} → StandsFor stands c b x n → c.peer.vote ≡ n.vote
  vote_of s = ap (λ (m : Node Entry). m.vote) s.same

  pub reserved_of : {c : Core S Q G R A F} {b : Book Entry Q G R A F} {x : NodeId} {n : Node Entry} → StandsFor stands c b x n → c.leaves.reserved ≡ n.reserved
  reserved_of s = ap (λ (m : Node Entry). m.reserved) s.same

  pub used_of : {c : Core S Q G R A F} {b : Book Entry Q G R A F} {x : NodeId} {n : Node Entry} → StandsFor stands c b x n → c.leaves.used ≡ n.used
  used_of s = ap (λ (m : Node Entry). m.used) s.same

  module _ (held : S → Kept) (snapshot_of : SnapshotOf) where
    abbrev pub Holds : Core S Q G R A F → Type 0
    Holds c = HoldsAbove stands held snapshot_of c.book

    -- what is held of the ledger of a node that it stands for
    pub held_of : {c : Core S Q G R A F} {b : Book Entry Q G R A F} {x : NodeId} {n : Node Entry} → Holds c → StandsFor stands c b x n → IsHeldOf snapshot_of (held c.book) (held_by x n)
    held_of {b = b} above s = above b _ s.ledger

    -- the leaves that are reserved fit their field
    leaves_fit : {c : Core S Q G R A F} {b : Book Entry Q G R A F} {x : NodeId} {n : Node Entry} → StandsFor stands c b x n → At stands c.book (λ b h. b.leaves h.me < 2 ^ 32) → c.leaves.reserved < 2 ^ 32
    leaves_fit {c} {b} {x} {n} s few = let h : b.leaves x < 2 ^ 32 = few b _ s.ledger in omega (arith, h, s.leaves, reserved_of s)

    -- the entries after a seqno that isn't below the base fit a ledger
    pub fits_after : {c : Core S Q G R A F} {b : Book Entry Q G R A F} {x : NodeId} {n : Node Entry} → Holds c → StandsFor stands c b x n → (kept : ℕ) → n.base ≤ kept → All (λ e. IsTrue (is_entry e)) (held c.book).entries → All (λ e. IsTrue (is_entry e)) (drop kept n.log)
    fits_after {c} {b} {x} {n} above s kept low fit =
        let Fits : Entry → Type 0 = λ e. IsTrue (is_entry e) in
        subst (All Fits) (drop_past n.base kept n.log low) (All-drop Fits (kept - n.base) (drop n.base n.log) (subst (All Fits) (sym (held_of above s).entries) fit))

    -- what is kept of a core is what is kept of the node that it stands for
    pub kept_same : {c : Core S Q G R A F} {b : Book Entry Q G R A F} {x : NodeId} {n : Node Entry} (d : Durable) → Holds c → StandsFor stands c b x n → kept_of held d c ≡ kept_after d n
    kept_same {c} {b} {x} {n} d above s = same4 (keeping d) (view_of s) (vote_of s) (sym (held_of above s).entries) (reserved_of s)

    module _ {c c' : Core S Q G R A F} {b : Book Entry Q G R A F} {x : NodeId} {n m : Node Entry} (above : Holds c) (s : StandsFor stands c b x n)
        (above' : Holds c') (s' : StandsFor stands c' b x m) where
      -- where the base stays, and what stands up to it, so does the snapshot
      pub same_base : KeepsBase n m → (held c'.book).base ≡ (held c.book).base
      same_base k = sym (held_of above' s').base ∙ k.base ∙ (held_of above s).base

      pub same_snapshot : KeepsBase n m → (held c'.book).snapshot ≡ (held c.book).snapshot
      same_snapshot k =
          sym (held_of above' s').snapshot ∙ ap (λ (i : ℕ). snapshot_of (take i m.log)) k.base
          ∙ ap snapshot_of k.below ∙ (held_of above s).snapshot

      -- what a file holds is kept of a core
      pub keeps_kept : (d : Durable) → KeepsBase n m → IsFileOf held d c → IsFileOf held (kept_of held d c') c'
      keeps_kept d k f = record { view = refl; vote = refl; base = f.base ∙ sym (same_base k); snapshot = f.snapshot ∙ sym (same_snapshot k); log = refl; reserved = refl }

      -- the entries above the base, of the new ledger
      entries_are : m.base ≡ n.base → (held c'.book).entries ≡ drop n.base m.log
      entries_are base = sym (held_of above' s').entries ∙ ap (λ (i : ℕ). drop i m.log) base

      -- a file goes on keeping a node in which nothing of that is another
      pub still_keeps : (d : Durable) → IsAsKept n m → IsFileOf held d c → IsFileOf held d c'
      still_keeps d k f = record {
        view = f.view ∙ view_of s ∙ sym k.view ∙ sym (view_of s');
        vote = f.vote ∙ vote_of s ∙ sym k.vote ∙ sym (vote_of s');
        base = f.base ∙ sym (same_base (as_kept_base n m k));
        snapshot = f.snapshot ∙ sym (same_snapshot (as_kept_base n m k));
        log = f.log ∙ ap (map frame_bytes) (sym (held_of above s).entries ∙ ap (drop n.base) (sym k.log) ∙ sym (entries_are k.base));
        reserved = f.reserved ∙ reserved_of s ∙ sym k.reserved ∙ sym (reserved_of s');
      }

      -- an event that keeps the ledger up to a seqno, and brings the frames after it
      pub to_change : (goes_on : LogRules) (d : Durable) (before : Before) (kept : ℕ) (frames : List (List ℕ)) → n.view ≤ m.view → n.reserved ≤ m.reserved → m.base ≡ n.base → n.base ≤ kept →
          kept ≤ length n.log → take kept m.log ≡ take kept n.log → frames ≡ map frame_bytes (drop kept m.log) → IsFileOf held d c → leaf_count d ≡ b.leaves x →
          before.view ≡ c.peer.view → before.vote ≡ c.peer.vote → before.len ≡ length n.log → before.leaves ≡ c.leaves →
          EachGoesOn goes_on (held c'.book).snapshot (map frame_bytes (held c'.book).entries) → At stands c'.book (λ b h. b.leaves h.me < 2 ^ 32) → IsChange held goes_on d before kept frames c'
      to_change goes_on d before kept frames rises more stays low within prefix after f leaves view vote len spent follow few =
          let k : KeepsBase n m = record { base = stays; below = same_below n.base kept n.log m.log low prefix } in
          let reserved : before.leaves.reserved ≡ n.reserved = ap (λ l. l.reserved) spent ∙ reserved_of s in
          let base : d.base ≡ n.base = f.base ∙ sym (held_of above s).base in
          let old : d.log ≡ map frame_bytes (drop n.base n.log) = f.log ∙ ap (map frame_bytes) (sym (held_of above s).entries) in
          let long : length d.log ≡ length n.log - n.base = ap length old ∙ length_map frame_bytes (drop n.base n.log) ∙ length-drop n.base n.log in
          record {
            view = f.view ∙ sym view;
            vote = f.vote ∙ sym vote;
            len = omega (arith, base, long, len, low, within);
            reserved = f.reserved ∙ sym (ap (λ l. l.reserved) spent);
            rises = omega (arith, view, view_of s, rises, view_of s');
            above = omega (arith, base, low);
            within = omega (arith, len, within);
            log =
                ap (map frame_bytes) (entries_are stays)
                ∙ frames_parts (kept - n.base) (drop n.base n.log) (drop n.base m.log) (same_above n.base kept n.log m.log low prefix)
                ∙ ap (λ (l : List (List ℕ)). take (kept - n.base) l ++ map frame_bytes (drop (kept - n.base) (drop n.base m.log))) (sym old)
                ∙ ap (λ (i : ℕ). take (kept - i) d.log ++ map frame_bytes (drop (kept - n.base) (drop n.base m.log))) (sym base)
                ∙ ap (λ (l : List Entry). take (kept - d.base) d.log ++ map frame_bytes l) (drop_past n.base kept m.log low)
                ∙ ap (λ (l : List (List ℕ)). take (kept - d.base) d.log ++ l) (sym after);
            follow = subst (λ (o : Option (List ℕ)). EachGoesOn goes_on o (map frame_bytes (held c'.book).entries)) (same_snapshot k ∙ sym f.snapshot) follow;
            more = omega (arith, reserved, more, reserved_of s');
            leaves = omega (arith, reserved_of s', s'.leaves, leaves);
            few = leaves_fit s' few;
          }

      -- an event that may cut the log
      base_within : m.base ≡ n.base → n.base ≤ length m.log
      base_within stays = let h = (held_of above' s').within in omega (arith, h, stays)

      pub turned_base : IsTurned n m → KeepsBase n m
      turned_base t = record { base = t.base; below = ap (take n.base) t.log ∙ take-take n.base (length m.log) n.log (base_within t.base) }

      pub turned_change : (goes_on : LogRules) (d : Durable) (before : Before) (kept : ℕ) (frames : List (List ℕ)) → IsTurned n m → IsFileOf held d c → leaf_count d ≡ b.leaves x →
          before.view ≡ c.peer.view → before.vote ≡ c.peer.vote → before.len ≡ length n.log → before.leaves ≡ c.leaves → kept ≡ length m.log → frames ≡ [] →
          EachGoesOn goes_on (held c'.book).snapshot (map frame_bytes (held c'.book).entries) → At stands c'.book (λ b h. b.leaves h.me < 2 ^ 32) → IsChange held goes_on d before kept frames c'
      turned_change goes_on d before kept frames t f leaves view vote len spent all none follow few =
          let within : length m.log ≤ length n.log = let e = ap length t.log in omega (arith, e, length-take (length m.log) n.log) in
          let cut : m.log ≡ take kept n.log = t.log ∙ ap (λ (k : ℕ). take k n.log) (sym all) in
          to_change goes_on d before kept frames t.view t.reserved t.base (omega (arith, all, base_within t.base)) (omega (arith, all, within))
          (take_all kept m.log (omega (arith, all)) ∙ cut) (none ∙ ap (map frame_bytes) (sym (drop_all kept m.log (omega (arith, all)))))
          f leaves view vote len spent follow few

    -- nothing to be kept is another
    pub kept_still : (d : Durable) (c : Core S Q G R A F) → IsFileOf held d c → kept_of held d c ≡ d
    kept_still d c f =
        let at : (d.view == c.peer.view) ≡ true = let e = f.view in grind (arith, nat_tests) in
        let same : (d.view == c.peer.view && is_same_vote d.vote c.peer.vote) ≡ true = ap (λ (t : Bool). t && is_same_vote d.vote c.peer.vote) at ∙ same_vote_self d.vote c.peer.vote f.vote in
        ap (λ (v : Durable). record v { log = map frame_bytes (held c.book).entries; reserved = c.leaves.reserved }) (vote_stays d c.peer.view c.peer.vote same)
        ∙ ap (λ (l : List (List ℕ)). record d { log = l; reserved = c.leaves.reserved }) (sym f.log)
        ∙ ap (λ (k : ℕ). record d { reserved = k }) (sym f.reserved)
