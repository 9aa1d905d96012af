-- A node that stands for one of the rules, over a file that keeps it, serves.
use Rattle.std.proofs.Common.{◌≡◌, ℕ, ◌≤◌, ◌^◌, List, [], ◌++◌, Bool, true, false, IsTrue, Option, None, Some, Ok, drop, length, map, unwrap_or, refl, sym, ap, subst, ◌∙◌}
use Rattle.std.proofs.Math.Seq.{drop-append_seam}
use Rattle.gl_hss.specs.Secrets.{PrivateKey}
use Rattle.gl_hss.specs.Types.{height}
use Rattle.gl_rules.specs.Identity.{NodeId}
use Rattle.gl_rules.specs.Node.{Node}
use Rattle.gl_rules.specs.Replication.{restart}
use Rattle.gl_rules.specs.Steps.{lead_if}
use Rattle.gl_rules.specs.World.{Start, joiner}
use Rattle.gl_entry.specs.Entry.{frame_bytes}
use Rattle.gl_entry.specs.declared.entry.Entry.{Entry}
use Rattle.gl_outside.specs.Disk.{Step}
use Rattle.gl_journal.specs.Durable.{Durable, leaf_count}
use Rattle.gl_journal.specs.declared.journal.Journal.{Journal}
use Rattle.gl_ledger.specs.NodeKeys.{NodeKeys, service_layers}
use Rattle.gl_ledger.specs.LedgerBook.{ServiceBook, ledger_book}
use Rattle.gl_ledger_base.specs.Ledgers.{IsBase}
use Rattle.gl_replication.specs.Stands.{StandsFor, held_by}
use Rattle.gl_node.specs.Persistence.{IsFileOf, IsServing}
use Rattle.gl_store_book.specs.AtOpening.{kept_ledger, restarted_node, vote_at_opening, opened_state, leads_at_opening, node_at_opening}
use Rattle.gl_store_book.specs.BasedLedgers.{body_of}
use Rattle.gl_store_book.specs.Frames.{goes_on_ledger, ledger_of_frames}
use Rattle.gl_store_book.specs.NodeFile.{IsOpened, key_of, node_of}
use Rattle.gl_store_book.specs.Replicas.{NodeCore, StandsForFile, StandsForKey}
use Rattle.gl_store_book.specs.ServiceStart.{start_in}
use Rattle.gl_store_book.specs.Stands.{HasLedger, Stands, snapshot_below}
use Rattle.gl_store_book.specs.ViewVotes.{IsViewVoteOf}
use Rattle.gl_store_book.specs.declared.node_file.opening_batch.ViewVote.{ViewVote}
use Rattle.gl_store_book.proofs.FoldedStates.{durable_ordered}
use Rattle.gl_store_book.proofs.FrameLaws.{AllFit, ledger_of_frames-map}
use Rattle.gl_store_book.proofs.HeldLedgers.{held_in, holds_above}
use Rattle.gl_store_book.proofs.WholeHeld.{none_base}

abbrev book : NodeKeys → ServiceBook
book keys = ledger_book service_layers keys

keys_with : PrivateKey → NodeKeys
keys_with key = record { key_of = λ x. key }

keys_with-key : (key : PrivateKey) (x : NodeId) → (keys_with key).key_of x ≡ key
unfolding keys_with
keys_with-key key x = refl

-- A file with this durable state keeps a node: of its ledger what stands above the base.
pub record Keeps (d : Durable) (n : Node Entry) : Type 0 where
  pub view : n.view ≡ d.view
  pub vote : n.vote ≡ d.vote
  pub log : map frame_bytes (drop n.base n.log) ≡ d.log
  pub reserved : n.reserved ≡ d.reserved

file_of : (c : NodeCore) (b : ServiceBook) (x : NodeId) (n : Node Entry) (d : Durable) → StandsFor Stands c b x n → Keeps d n → c.book.ledger.snapshot ≡ d.snapshot → d.base ≡ (body_of d.snapshot).base → IsFileOf held_in d c
file_of c b x n d s k same base =
    let held = holds_above c.book b (held_by x n) s.ledger in
    record {
      view = sym k.view ∙ sym (ap (λ (m : Node Entry). m.view) s.same);
      vote = sym k.vote ∙ sym (ap (λ (m : Node Entry). m.vote) s.same);
      base = base ∙ ap (λ (o : Option (List ℕ)). (body_of o).base) (sym same);
      snapshot = sym same;
      log = sym k.log ∙ ap (map frame_bytes) held.entries;
      reserved = sym k.reserved ∙ sym (ap (λ (m : Node Entry). m.reserved) s.same);
    }

pub serving : {D : Type 0} (honest : Bool) (bytes : D → List ℕ) (past : D → List Step) (journal : Journal D) (d : Durable) (core : NodeCore) (node : ServiceBook → Node Entry)
    → IsOpened honest bytes past journal d → StandsForKey d core node → ((b : ServiceBook) → Keeps d (node b)) → (IsTrue honest → core.book.ledger.snapshot ≡ d.snapshot)
    → IsServing Stands held_in snapshot_below goes_on_ledger honest bytes past core journal
unfolding keys_with
serving honest bytes past journal d core node file stands keeps same =
    let keys = keys_with (key_of d) in
    let here = stands keys (keys_with-key (key_of d) (node_of d)) in
    record {
      some = record { rules = book keys; me = node_of d; node = node (book keys); standing = here };
      above = holds_above core.book;
      file = λ h. record {
        kept = file.kept h;
        state = d;
        opens = file.opens h;
        keeps = file_of core (book keys) (node_of d) (node (book keys)) d here (keeps (book keys)) (same h) (durable_ordered (bytes journal.gated.disk) d (file.opens h)).base;
        leaves = refl;
      };
    }

-- ---- a restart

pub ledger_is : (d : Durable) (entries : List Entry) → ledger_of_frames d.log ≡ Some entries → kept_ledger d ≡ entries
ledger_is d entries is = ap (λ (o : Option (List Entry)). unwrap_or o []) is

pub keeps_restarted : (d : Durable) (entries : List Entry) → ledger_of_frames d.log ≡ Some entries → d.log ≡ map frame_bytes entries → (below : List Entry) (b : ServiceBook) → Keeps d (restarted_node b below d)
unfolding restart
keeps_restarted d entries is frames below b = record {
  view = refl;
  vote = refl;
  log = ap (map frame_bytes) (drop-append_seam below (kept_ledger d) ∙ ledger_is d entries is) ∙ sym frames;
  reserved = refl;
}

-- What a file keeps of a node, with this view and vote and these entries above the base.
abbrev pub seat_node : ℕ → Option NodeId → List Entry → List Entry → ℕ → Node Entry
seat_node view vote below entries reserved = record joiner {
  view = view;
  vote = vote;
  log = below ++ entries;
  base = length below;
  reserved = reserved;
}

-- Under the book of each service in which this node has this key, and whatever entries this snapshot
-- stands for, the core stands for the node, restarted.
abbrev pub Restarts : NodeId → PrivateKey → NodeCore → Option (List ℕ) → ℕ → Option NodeId → List Entry → ℕ → Type 0
Restarts me key core snapshot view vote entries reserved =
    (keys : NodeKeys) → keys.key_of me ≡ key → reserved ≤ 2 ^ height key.types → (below : List Entry) → IsBase service_layers (body_of snapshot) below →
    StandsFor Stands core (book keys) me (restart (book keys) (seat_node view vote below entries reserved)).node

module _ (d : Durable) (entries : List Entry) (core : NodeCore) (me : NodeId) (key : PrivateKey) (is : ledger_of_frames d.log ≡ Some entries) (within : d.reserved ≤ leaf_count d) (grown : key ≡ key_of d) (named : me ≡ node_of d) where
  -- the node has the key, with so many leaves
  has_key : (keys : NodeKeys) → keys.key_of (node_of d) ≡ key_of d → keys.key_of me ≡ key
  has_key keys has = ap (λ (x : NodeId). keys.key_of x) named ∙ has ∙ sym grown

  has_leaves : d.reserved ≤ 2 ^ height key.types
  has_leaves = subst (λ (p : PrivateKey). d.reserved ≤ 2 ^ height p.types) (sym grown) within

  -- what stands for the node of the seat stands for that of the file
  of_file : (keys : NodeKeys) (below : List Entry) → StandsFor Stands core (book keys) me (restart (book keys) (seat_node d.view d.vote below entries d.reserved)).node → StandsFor Stands core (book keys) (node_of d) (restarted_node (book keys) below d)
  of_file keys below stands =
      subst (λ (x : NodeId). StandsFor Stands core (book keys) x (restarted_node (book keys) below d)) named
      (subst (λ (es : List Entry). StandsFor Stands core (book keys) me (restart (book keys) (seat_node d.view d.vote below es d.reserved)).node) (sym (ledger_is d entries is)) stands)

  pub stands_restarted : (snapshot : Option (List ℕ)) → snapshot ≡ d.snapshot → Restarts me key core snapshot d.view d.vote entries d.reserved → StandsForFile d core (λ b below. restarted_node b below d)
  stands_restarted snapshot same stands = λ keys has below base.
      of_file keys below (stands keys (has_key keys has) has_leaves below (subst (λ (o : Option (List ℕ)). IsBase service_layers (body_of o) below) (sym same) base))

  pub stands_whole : Restarts me key core None d.view d.vote entries d.reserved → StandsForKey d core (λ b. restarted_node b [] d)
  stands_whole stands = λ keys has. of_file keys [] (stands keys (has_key keys has) has_leaves [] none_base)

-- Where there is a ledger with the snapshot of the core, the node of the file serves.
pub serving_restarted : {D : Type 0} (honest : Bool) (bytes : D → List ℕ) (past : D → List Step) (journal : Journal D) (d : Durable) (core : NodeCore) (entries : List Entry)
    → IsOpened honest bytes past journal d → StandsForFile d core (λ b below. restarted_node b below d) → ledger_of_frames d.log ≡ Some entries → d.log ≡ map frame_bytes entries → core.book.ledger.snapshot ≡ d.snapshot
    → HasLedger core.book.ledger.snapshot → IsServing Stands held_in snapshot_below goes_on_ledger honest bytes past core journal
serving_restarted honest bytes past journal d core entries file stands is frames same has =
    let below = has.0 in
    let here = subst (λ (o : Option (List ℕ)). IsBase service_layers (body_of o) below) same has.1 in
    serving honest bytes past journal d core (λ b. restarted_node b below d) file (λ keys key. stands keys key below here) (keeps_restarted d entries is frames below) (λ h. same)

-- ---- an opening

pub stands_opened : (s : Start Entry) (d : Durable) (t : ViewVote) (core : NodeCore) (me : NodeId) (key : PrivateKey) → AllFit s.opening → IsViewVoteOf s d t → d.reserved ≤ leaf_count d
    → key ≡ key_of d → me ≡ node_of d → Restarts me key core None t.view t.vote s.opening d.reserved → StandsForKey d core (λ b. restarted_node b [] (opened_state s d))
stands_opened s d t core me key fits turn within grown named stands =
    stands_whole (opened_state s d) s.opening core me key (ledger_of_frames-map s.opening fits) within grown named
    (subst (λ (v : ℕ). Restarts me key core None v (vote_at_opening s d) s.opening d.reserved) turn.view
    (subst (λ (v : Option NodeId). Restarts me key core None t.view v s.opening d.reserved) turn.vote stands))

keeps_leading : (b : ServiceBook) (leads : Bool) (d : Durable) (n : Node Entry) → Keeps d n → Keeps d (lead_if b leads n)
keeps_leading b true d n k = record { view = k.view; vote = k.vote; log = k.log; reserved = k.reserved }
keeps_leading b false d n k = k

pub keeps_opened : (s : Start Entry) (d : Durable) → AllFit s.opening → (b : ServiceBook) → Keeps (opened_state s d) (node_at_opening b s d)
keeps_opened s d fits b =
    keeps_leading b (leads_at_opening s d) (opened_state s d) (restarted_node b [] (opened_state s d)) (keeps_restarted (opened_state s d) s.opening (ledger_of_frames-map s.opening fits) refl [] b)

-- what was read from bytes is that with which the service begins, also in another place
pub stands_as : (bytes : List ℕ) (first s : Start Entry) (d : Durable) (core there : NodeCore) → start_in bytes ≡ Ok first → start_in bytes ≡ Ok s → core ≡ there
    → StandsForKey d core (λ b. node_at_opening b first d) → StandsForKey d there (λ b. node_at_opening b s d)
stands_as bytes first s d core there is starts same stands =
    let one : first ≡ s = cc in
    subst (λ (z : Start Entry). StandsForKey d there (λ b. node_at_opening b z d)) one (subst (λ (k : NodeCore). StandsForKey d k (λ b. node_at_opening b first d)) same stands)
