-- The file of a node at the start of a service keeps it.
use Rattle.std.proofs.Common.{◌≡◌, ⊎_elim, ◌≤◌, ◌<◌, ◌+◌, ◌*◌, ◌^◌, ℕ, suc, List, [], ◌∷◌, ◌++◌, length, length-append, map, get_or, take, drop, Bool, true, false, ◌||◌, Option, None, Some, slice_get, if◌then◌else◌, refl, sym, ap, ap₂, subst, ◌∙◌, arith, le-ltb}
use Rattle.std.specs.List.{AllByRecursion, flat_map}
use Rattle.std.proofs.lemmas.Grind.{flat_map-append}
use Rattle.std.proofs.lemmas.List.{append-nil}
use Rattle.gl_rules.specs.Identity.{NodeId, same, member}
use Rattle.gl_rules.specs.Node.{Node}
use Rattle.gl_rules.specs.World.{Start, joiner, leader_at_start, node_at_start, starter}
use Rattle.gl_rules.proofs.Lists.{get_push}
use Rattle.gl_entry.specs.Entry.{frame_bytes, is_entry}
use Rattle.gl_entry.specs.declared.entry.Entry.{Entry}
use Rattle.gl_entry.proofs.EntryLaws.{body_within}
use Rattle.gl_hss.specs.declared.types.Types.TheVariants.{H5W4}
use Rattle.ccfg.specs.Disk.{HeldDisk}
use Rattle.gl_journal.specs.Durable.{Durable, fold_records, key_alone, leaf_count}
use Rattle.gl_journal.specs.Records.{RecordValue, Append, Signer, Vote, record_bytes, records_bytes, then_some}
use Rattle.gl_journal.specs.declared.journal.Journal.{Journal}
use Rattle.gl_journal.specs.declared.key.KeyKind.TheVariants as kinds
use Rattle.gl_ledger.specs.Audit.{audited}
use Rattle.gl_ledger.specs.NodeKeys.{service_layers}
use Rattle.gl_replication.specs.Holding.{Holding}
use Rattle.gl_replication.specs.Stands.{StandsFor, held_by}
use Rattle.gl_node.specs.Persistence.{IsServing}
use Rattle.gl_world.specs.declared.settings.Settings.{Settings}
use Rattle.gl_world.specs.Founding.{id_of, keys_of}
use Rattle.gl_world.specs.Group.{IsGroup, book_of}
use Rattle.gl_world.specs.Keys.{node_seed, private_key}
use Rattle.gl_world.specs.World.{start_of}
use Rattle.gl_world.specs.WorldNodes.{ServiceCore}
use Rattle.gl_world.proofs.NodeIds.{number_is}
use Rattle.gl_store_book.specs.AtOpening.{append_records}
use Rattle.ccfg.specs.FileNodes.{IsFileIn, IsMemoryFile, SeenFileNode, StandsOverFile}
use Rattle.gl_store_book.specs.Frames.{goes_on_ledger}
use Rattle.gl_store_book.specs.BasedLedgers.{body_of}
use Rattle.gl_store_book.specs.Stands.{NodeStore, Stands, snapshot_below}
use Rattle.gl_store_book.proofs.HeldLedgers.{held_in, holds_above, none_at_start}
use Rattle.gl_store_book.proofs.Batches.{before}
use Rattle.gl_store_book.proofs.FrameLaws.{AllFit}
use Rattle.gl_store_book.proofs.OpeningFolds.{appends_fold}
use Rattle.gl_store_book.proofs.OpeningSizes.{append_len, records_bytes-append}

-- ---- the frames of a ledger

-- one frame more
pub frames_next : (es : List Entry) (i : ℕ) (e : Entry) (bytes frame more : List ℕ) → i < length es → e ≡ get_or es i e → bytes ≡ flat_map frame_bytes (take i es) → frame ≡ frame_bytes e →
    more ≡ bytes ++ frame → more ≡ flat_map frame_bytes (take (i + 1) es)
frames_next es i e bytes frame more low is so_far framed grown =
    let next : i + 1 ≡ suc i = omega arith in
    grown ∙ ap₂ (λ (xs ys : List ℕ). xs ++ ys) so_far framed
    ∙ sym (
    ap (λ (n : ℕ). flat_map frame_bytes (take n es)) next ∙ ap (flat_map frame_bytes) (before es i e low ∙ ap (λ (x : Entry). take i es ++ x ∷ []) (sym is))
    ∙ flat_map-append frame_bytes (take i es) (e ∷ [])
    ∙ ap (λ (l : List ℕ). flat_map frame_bytes (take i es) ++ l) (append-nil (frame_bytes e))
    )

-- ---- what the records fold into

pub leaves_fold : (d : Durable) (r : ℕ) → d.reserved ≤ r → r ≤ leaf_count d → fold_records goes_on_ledger d (Signer r ∷ []) ≡ Some (record d { reserved = r })
leaves_fold d r low high =
    ap₂ (λ (s t : Bool). then_some (if s || t then None else Some (record d { reserved = r })) (λ (e : Durable). Some e)) (le-ltb r d.reserved low) (le-ltb (leaf_count d) r high)

pub node_folds : (d : Durable) (view : ℕ) (vote : Option NodeId) (ledger : List Entry) → audited service_layers ledger ≡ None → AllFit ledger → d.log ≡ [] → d.snapshot ≡ None → d.view ≤ view →
    fold_records goes_on_ledger d (Vote view vote ∷ append_records ledger) ≡ Some (record d { view = view; vote = vote; has_vote_record = true; log = map frame_bytes ledger })
node_folds d view vote ledger valid fit none behind low =
    let next : Durable = record d { view = view; vote = vote; has_vote_record = true } in
    ap (λ (b : Bool). then_some (if b then None else Some next) (λ (s : Durable). fold_records goes_on_ledger s (append_records ledger))) (le-ltb view d.view low)
    ∙ appends_fold next [] ledger valid fit behind none

-- ---- how many bytes they have

appends_small : (es : List Entry) → AllByRecursion (λ e. is_entry e ≡ true) es → length (records_bytes (append_records es)) ≤ length es * 1048589
appends_small [] fit = omega arith
appends_small (e ∷ es) fit =
    let one = append_len e in
    let small = body_within e fit.0 in
    let rest = appends_small es fit.1 in
    let all = length-append (record_bytes (Append (frame_bytes e))) (records_bytes (append_records es)) in
    let alone = length-append (record_bytes (Append (frame_bytes e))) [] in
    omega (arith, one, small, rest, all, alone)

pub node_size : (turn : List RecordValue) (es : List Entry) → AllByRecursion (λ e. is_entry e ≡ true) es → length (records_bytes turn) ≤ 42 → length es ≤ 2 →
    length (records_bytes (turn ++ append_records es)) < 2 ^ 32
node_size turn es fit small few =
    let rest = appends_small es fit in
    let all = ap length (records_bytes-append turn (append_records es)) ∙ length-append (records_bytes turn) (records_bytes (append_records es)) in
    omega (arith, rest, all, small, few)

-- ---- the node at the start

-- it is one of three
at_start : {E : Type 0} (P : Node E → Type 0) (s : Start E) (x : NodeId) → P (leader_at_start s) → P (starter s) → P joiner → P (node_at_start s x)
at_start P s x leads starts joins = go (same x s.first) (member x s.starting)
  where
    go : (a b : Bool) → P (if a then leader_at_start s else (if b then starter s else joiner))
    go true b = leads
    go false true = starts
    go false false = joins

module _ (s : Settings) (x : NodeId) (core : ServiceCore NodeStore) (stood : StandsFor Stands core (book_of s) x (node_at_start (start_of s) x)) where
  pub first_view_at_start : 2 ≤ core.peer.view
  first_view_at_start =
      let is = ap (λ (m : Node Entry). m.view) stood.same in
      let two : 2 ≤ (node_at_start (start_of s) x).view = at_start (λ (m : Node Entry). 2 ≤ m.view) (start_of s) x (omega arith) (omega arith) (omega arith) in
      omega (arith, is, two)

  base_at_start : (node_at_start (start_of s) x).base ≡ 0
  base_at_start = at_start (λ (m : Node Entry). m.base ≡ 0) (start_of s) x refl refl refl

  -- its ledger is whole
  pub whole_at_start : core.book.ledger.snapshot ≡ None
  whole_at_start = none_at_start core.book.ledger.snapshot stood.ledger.holding.spelled (sym stood.ledger.holding.base ∙ base_at_start)

  ledger_at_start : (node_at_start (start_of s) x).log ≡ core.book.ledger.entries
  ledger_at_start =
      let n = node_at_start (start_of s) x in
      ap (λ (i : ℕ). drop i n.log) (sym base_at_start) ∙ (holds_above core.book (book_of s) (held_by x n) stood.ledger).entries

  pub few_at_start : length core.book.ledger.entries ≤ 2
  few_at_start =
      let is = ap (λ (l : List Entry). length l) ledger_at_start in
      let few : length (node_at_start (start_of s) x).log ≤ 2 = at_start (λ (m : Node Entry). length m.log ≤ 2) (start_of s) x (omega arith) (omega arith) (omega arith) in
      omega (arith, is, few)

  pub leaf_at_start : core.leaves.reserved ≤ 1
  leaf_at_start =
      let is = ap (λ (m : Node Entry). m.reserved) stood.same in
      let one : (node_at_start (start_of s) x).reserved ≤ 1 = at_start (λ (m : Node Entry). m.reserved ≤ 1) (start_of s) x (omega arith) (omega arith) (omega arith) in
      omega (arith, is, one)

-- what its file holds, with a seed
abbrev pub state_with : List ℕ → ServiceCore NodeStore → Durable
state_with seed core = record (key_alone (record { kind = kinds.Node; types = H5W4; seed = seed })) {
  reserved = core.leaves.reserved;
  view = core.peer.view;
  vote = core.peer.vote;
  has_vote_record = true;
  log = map frame_bytes core.book.ledger.entries;
}

abbrev pub state_at_start : Settings → ℕ → ServiceCore NodeStore → Durable
state_at_start s number core = state_with (node_seed s number) core

module _ (s : Settings) (h : IsGroup s) (number : ℕ) (low : 1 ≤ number) (high : number ≤ s.starting + s.joiners) (core : ServiceCore NodeStore) where
  pub file_at_start : IsFileIn (state_at_start s number core) (book_of s) (id_of s number)
  file_at_start = record {
    keys = keys_of s;
    book = refl;
    named = refl;
    key = ap (λ (n : ℕ). private_key (node_seed s n)) (number_is s h number low high);
  }

  pub serving_at_start : (journal : Journal HeldDisk) (n : Node Entry) → StandsFor Stands core (book_of s) (id_of s number) n → core.book.ledger.snapshot ≡ None → IsMemoryFile journal (state_at_start s number core) →
      IsServing Stands held_in snapshot_below goes_on_ledger true (λ (disk : HeldDisk). disk.bytes) (λ (disk : HeldDisk). disk.past) core journal
  serving_at_start journal n stood none file = record {
    some = record { rules = book_of s; me = id_of s number; node = n; standing = stood };
    above = holds_above core.book;
    file = λ honest. record {
      kept = file.kept honest;
      state = state_at_start s number core;
      opens = file.opens honest;
      keeps = record { view = refl; vote = refl; base = ap (λ (o : Option (List ℕ)). (body_of o).base) (sym none); snapshot = sym none; log = refl; reserved = refl };
      leaves = refl;
    };
  }

-- ---- all nodes

-- the first so many nodes stand for themselves
abbrev pub HaveBegun : Settings → List SeenFileNode → Type 0
HaveBegun s nodes = (i : ℕ) (node : SeenFileNode) → slice_get nodes i ≡ Some node → StandsOverFile node (book_of s) (id_of s (suc i)) (node_at_start (start_of s) (id_of s (suc i)))

pub none_begun : (s : Settings) (nodes : List SeenFileNode) → nodes ≡ [] → HaveBegun s nodes
none_begun s [] is i node at = absurd (cc)
none_begun s (n ∷ nodes) is i node at = absurd (cc)

pub one_begun : (s : Settings) (old new : List SeenFileNode) (one : SeenFileNode) (number : ℕ) → HaveBegun s old → number ≡ suc (length old) → StandsOverFile one (book_of s) (id_of s number) (node_at_start (start_of s) (id_of s number)) →
    new ≡ old ++ one ∷ [] → HaveBegun s new
one_begun s old new one number begun place stood grown i node at = ⊎_elim
    (λ (h : slice_get old i ≡ Some node). begun i node h)
    (λ (h : (i ≡ length old) × (node ≡ one)).
    subst (λ (k : ℕ). StandsOverFile node (book_of s) (id_of s k) (node_at_start (start_of s) (id_of s k))) (place ∙ ap suc (sym h.0))
    (subst (λ (m : SeenFileNode). StandsOverFile m (book_of s) (id_of s number) (node_at_start (start_of s) (id_of s number))) (sym h.1) stood))
    (get_push old one i node (ap (λ l. slice_get l i) (sym grown) ∙ at))

-- one that is yet to come has a number
pub next_low : {A : Type 0} (xs ys all : List A) (y : A) → xs ++ y ∷ ys ≡ all → length xs < length all
next_low xs ys all y is = omega (arith, ap length is, length-append xs (y ∷ ys))
