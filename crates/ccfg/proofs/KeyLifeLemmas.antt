-- What a stop leaves of a key file, and which leaves are told, run after run.
use Rattle.std.proofs.Common.{◌≡◌, ◌⊎◌, inl, inr, ℕ, zero, suc, ◌+◌, ◌≤◌, ◌<◌, List, [], ◌∷◌, ◌++◌, Option, None, Some, Bool, true, false, length, Result, Ok, Err, IsTrue, All, AllPairs, refl, sym, subst, ap, ◌∙◌, arith}
use Rattle.std.proofs.lemmas.List.Elements.{All-append, All-head, All-nil, All-cons, All-tail, All-weaker}
use Rattle.std.proofs.lemmas.List.Kept.{AllPairs-cons}
use Rattle.gl_commands.specs.declared.task.Asked.{Asked}
use Rattle.gl_commands.specs.declared.task.Asked.TheVariants as asks
use Rattle.gl_commands.specs.declared.task.NodeTask.{NodeTask}
use Rattle.gl_commands.specs.declared.task.Task.{Task}
use Rattle.gl_commands.specs.declared.task.Task.TheVariants as tasks
use Rattle.gl_entry.specs.SourceBytes.{OfBytes}
use Rattle.gl_entry.specs.declared.entry.Entry.{Entry}
use Rattle.gl_hss.specs.declared.types.Types.{Types}
use Rattle.gl_journal.specs.Durable.{Durable, journal_header, key_alone}
use Rattle.gl_journal.specs.Kept.{IsKept}
use Rattle.gl_journal.specs.Parts.{HasGate}
use Rattle.gl_journal.specs.declared.fault.JournalFault.{JournalFault}
use Rattle.gl_journal.specs.declared.journal.Journal.{Journal}
use Rattle.gl_journal.specs.declared.key.Key.{Key}
use Rattle.gl_journal.specs.declared.key.KeyKind.{KeyKind}
use Rattle.gl_journal.proofs.Appending.{has_gate}
use Rattle.gl_keyfile.specs.Leaf.{after_leaf}
use Rattle.gl_keyfile.specs.SigningRequest.{use_of}
use Rattle.gl_keyfile.specs.declared.leaf.LeafUse.{LeafUse}
use Rattle.gl_keyfile.specs.declared.leaf.LeafUse.TheVariants.{Signature, Start}
use Rattle.gl_ledger.specs.LedgerBook.{ledger_book}
use Rattle.gl_ledger.specs.NodeKeys.{NodeKeys, service_layers}
use Rattle.gl_outside.specs.Disk.{IsImage, Leaves, Step}
use Rattle.gl_outside.proofs.Moments.{now, so_too, started, stayed}
use Rattle.gl_serve.specs.Life.{told_through}
use Rattle.gl_serve.proofs.Telling.{life_tells}
use Rattle.gl_store_book.specs.Frames.{goes_on_ledger}
use Rattle.gl_store_book.specs.NodeFile.{key_of, node_of, opened}
use Rattle.gl_store_book.specs.Replicas.{IsBelow}
use Rattle.gl_store_book.specs.Stands.{Stands}
use Rattle.ccfg.specs.Commands.{Does, TaskDoes}
use Rattle.ccfg.specs.ExpectedOutput.{PrintsFaultPrefix}
use Rattle.ccfg.specs.KeyLife.{Follow, GoesOnFrom, HoldsKey, KeyRun, LeavesKey, MayServe, Tells, TellsBySigning, TellsByServing, TellsNext, TellsUnlessFault, next_leaf, steps_after, told_by_all}
use Rattle.ccfg.specs.KeygenCommand.{KeygenDoes}
use Rattle.ccfg.specs.NodeCommand.{NodeDoes}
use Rattle.ccfg.specs.Nodes.{BeginsBy, KeepsNode, OfLedger, OfOpened, beginning_of}
use Rattle.ccfg.specs.Plans.{KeepsKey, MayBeLeft, SpendsLeaf}
use Rattle.ccfg.specs.Run.{DiskRun, LinkRun, Run}
use Rattle.ccfg.specs.SignCommand.{TakesLeaf}
use Rattle.ccfg.specs.declared.ending.Ending.{Ending}
use Rattle.ccfg.specs.declared.ending.Ending.TheVariants as endings
use Rattle.ccfg.proofs.NodeStarts.{start_leaves}
use Rattle.ccfg.proofs.ShownLemmas.{from_given, of_map}

-- a settled journal has its closed gate, whatever is left of it
pub gated : {D : Type 0} (bytes : D → List ℕ) (past : D → List Step) (journal : Journal D) (image : List ℕ) → IsKept bytes past journal → IsImage (past journal.gated.disk) image → HasGate journal_header image
gated bytes past journal image kept left =
    let s = kept.settled in
    subst (λ (h : List ℕ). HasGate h image) kept.header (has_gate journal.gated.header image s.payloads s.gate s.tail (s.kept image left ∙ s.file) s.fit s.closed)

-- a leaf that is taken is of the same key, and one more is spent
same_key : (leaf : LeafUse) (state : Durable) → (after_leaf leaf state).key ≡ state.key
same_key Signature state = refl
same_key Start state = refl

one_more : (leaf : LeafUse) (state : Durable) → (after_leaf leaf state).reserved ≡ state.reserved + 1
one_more Signature state = refl
one_more Start state = refl

one_state : (bytes : List ℕ) (one other : Durable) → opened bytes ≡ Ok one → opened bytes ≡ Ok other → one ≡ other
one_state bytes one other first second = let both : ◌≡◌ {A = Result Durable JournalFault} (Ok one) (Ok other) = sym first ∙ second in cc

-- ---- a key that is begun

pub begins : {S D : Type 0} (kind : KeyKind) (types : Types) (r : Run S D) → KeygenDoes kind types r endings.Done → IsTrue r.disk.honest → OfBytes r.source.given (λ seed. LeavesKey (record { kind = kind; types = types; seed = seed }) 0 (r.disk.past r.disk.after))
begins kind types r does honest =
    of_map r.source.given (KeepsKey kind types (r.disk.past r.disk.after)) (λ seed. LeavesKey (record { kind = kind; types = types; seed = seed }) 0 (r.disk.past r.disk.after))
    (λ seed keeps image left. record { gate = (keeps image left).0; state = key_alone (record { kind = kind; types = types; seed = seed }); opens = (keeps image left).1; same = refl; least = omega arith }) (does.kept refl honest)

-- ---- one run

record BeginsWithKey {D : Type 0} (key : Key) (spent : ℕ) (disk : DiskRun D) : Type 0 where
  honest : IsTrue disk.honest
  holds : HoldsKey key spent (disk.bytes disk.before)
  leaves : LeavesKey key spent (disk.past disk.before)

begun : {D : Type 0} (key : Key) (spent : ℕ) (past : List Step) (disk : DiskRun D) → LeavesKey key spent past → GoesOnFrom past disk → BeginsWithKey key spent disk
begun key spent past disk leaves from =
    let holds = leaves (disk.bytes disk.before) from.left in
    record { honest = from.honest; holds = holds; leaves = λ image left. subst (HoldsKey key spent) (sym (from.only image left)) holds }

-- of the leaves that it may have told
pub record Telling (key : Key) (spent : ℕ) (after : List Step) (told : List ℕ) : Type 0 where
  pub once : AllPairs (λ leaf later. leaf < later) told
  pub each : All (λ leaf. (spent ≤ leaf) × LeavesKey key (leaf + 1) after) told

nothing : (key : Key) (spent : ℕ) (after : List Step) → Telling key spent after []
nothing key spent after = record { once = λ i j d below last. absurd (omega (arith, last)); each = All-nil (λ leaf. (spent ≤ leaf) × LeavesKey key (leaf + 1) after) }

none_told : (key : Key) (spent : ℕ) (after : List Step) (told : List ℕ) → told ≡ [] → Telling key spent after told
none_told key spent after told is = subst (Telling key spent after) (sym is) (nothing key spent after)

one_told : (key : Key) (spent : ℕ) (after : List Step) (leaf : ℕ) → spent ≤ leaf → LeavesKey key (leaf + 1) after → Telling key spent after (leaf ∷ [])
one_told key spent after leaf least leaves =
    let none = nothing key spent after in record {
      once = AllPairs-cons (λ (x y : ℕ). x < y) leaf [] (All-nil (λ (later : ℕ). leaf < later)) none.once;
      each = All-cons (λ q. (spent ≤ q) × LeavesKey key (q + 1) after) leaf [] (least, leaves) none.each;
    }

module _ {S D : Type 0} (key : Key) (spent : ℕ) (r : Run S D) (b : BeginsWithKey key spent r.disk) where
  abbrev before : List Step
  before = r.disk.past r.disk.before

  abbrev after : List Step
  after = r.disk.past r.disk.after

  abbrev Keeps : Type 0
  Keeps = Leaves (HoldsKey key spent) before after

  same_moments : after ≡ before → Keeps
  same_moments same = stayed (HoldsKey key spent) before before after (started (HoldsKey key spent) before b.leaves) same

  -- ---- a command that signs

  left_so : (leaf : LeafUse) (image : List ℕ) → MayBeLeft leaf b.holds.state before image → HoldsKey key spent image
  left_so leaf image (inl old) = b.leaves image old
  left_so leaf image (inr (gate, inl same)) = record { gate = gate; state = b.holds.state; opens = same; same = b.holds.same; least = b.holds.least }
  left_so leaf image (inr (gate, inr next)) =
      let more = one_more leaf b.holds.state in
      let least = b.holds.least in
      record { gate = gate; state = after_leaf leaf b.holds.state; opens = next; same = same_key leaf b.holds.state ∙ b.holds.same; least = omega (arith, more, least) }

  signing_keeps : (leaf : LeafUse) (e : Ending) → TakesLeaf leaf r e → Keeps
  signing_keeps leaf e takes =
      so_too (MayBeLeft leaf b.holds.state before) (HoldsKey key spent) before after (left_so leaf) (takes.any_moment b.holds.gate b.holds.state b.holds.opens)

  -- its leaf is spent
  next_told : (leaf : LeafUse) (e : Ending) (told : List ℕ) → TakesLeaf leaf r e → SpendsLeaf leaf (r.disk.bytes r.disk.before) after → TellsNext r told → Telling key spent after told
  next_told leaf e told takes s is =
      let state = s.0 in
      let one = one_state (r.disk.bytes r.disk.before) b.holds.state state b.holds.opens s.1 in
      let least = ap (λ (d : Durable). d.reserved) one in
      let most = b.holds.least in
      let more = one_more leaf state in
      let moved = now (HoldsKey key spent) before after (signing_keeps leaf e takes) in
      subst (Telling key spent after) (sym (is ∙ ap next_leaf s.1))
      (one_told key spent after state.reserved (omega (arith, least, most)) (λ image left. record {
        gate = (moved image left).gate;
        state = after_leaf leaf state;
        opens = s.2 image left;
        same = same_key leaf state ∙ ap (λ (d : Durable). d.key) (sym one) ∙ b.holds.same;
        least = omega (arith, more);
      }))

  unless_told : (leaf : LeafUse) (e : Ending) (told : List ℕ) → TakesLeaf leaf r e → SpendsLeaf leaf (r.disk.bytes r.disk.before) after ⊎ PrintsFaultPrefix r.sink.held r.sink.holds → TellsUnlessFault r told → Telling key spent after told
  unless_told leaf e told takes spends (inl (printed, none)) = none_told key spent after told none
  unless_told leaf e told takes (inl spends) (inr (unprinted, next)) = next_told leaf e told takes spends next
  unless_told leaf e told takes (inr printed) (inr (unprinted, next)) = absurd (unprinted printed)

  signing_tells : (leaf : LeafUse) (e : Ending) (told : List ℕ) → TakesLeaf leaf r e → TellsBySigning r told e → Telling key spent after told
  signing_tells leaf endings.Done told takes tells = next_told leaf endings.Done told takes (takes.signed refl) tells
  signing_tells leaf endings.SinkFailed told takes tells = unless_told leaf endings.SinkFailed told takes (takes.spent (inr (inl refl))) tells
  signing_tells leaf endings.Memory told takes tells = unless_told leaf endings.Memory told takes (takes.spent (inr (inr refl))) tells
  signing_tells leaf endings.NotValid told takes tells = none_told key spent after told tells
  signing_tells leaf endings.OtherWords told takes tells = none_told key spent after told tells
  signing_tells leaf endings.SourceFailed told takes tells = none_told key spent after told tells
  signing_tells leaf endings.DiskFailed told takes tells = none_told key spent after told tells
  signing_tells leaf endings.LinkFailed told takes tells = none_told key spent after told tells
  signing_tells leaf endings.PastLimit told takes tells = none_told key spent after told tells
  signing_tells leaf endings.NoReading told takes tells = none_told key spent after told tells

  -- ---- a node

  node_left_so : (image : List ℕ) → KeepsNode (r.disk.bytes r.disk.before) before image → HoldsKey key spent image
  node_left_so image (inl (inl old)) = b.leaves image old
  node_left_so image (inl (inr (gate, same))) = record { gate = gate; state = b.holds.state; opens = same ∙ b.holds.opens; same = b.holds.same; least = b.holds.least }
  node_left_so image (inr (d, opens, (gate, state, is, kept, more))) =
      let one = one_state (r.disk.bytes r.disk.before) d b.holds.state opens b.holds.opens in
      let least = b.holds.least in
      let same = ap (λ (s : Durable). s.reserved) one in
      record { gate = gate; state = state; opens = is; same = kept ∙ ap (λ (s : Durable). s.key) one ∙ b.holds.same; least = omega (arith, least, same, more) }

  module _ {L : Type 0} (node : NodeTask) (link : LinkRun L) (e : Ending) (does : NodeDoes node r link e) (of : OfLedger (r.disk.bytes r.disk.before) r.source.given) where
    node_keeps : Keeps
    node_keeps = so_too (KeepsNode (r.disk.bytes r.disk.before) before) (HoldsKey key spent) before after node_left_so (does.any_moment b.honest b.holds.gate of)

    module _ (told : List ℕ) (t : TellsByServing node r link told) where
      abbrev IsBegun : Result Durable JournalFault → List ℕ → Type 0
      IsBegun opens given =
          (by : BeginsBy r.disk.honest r.disk.bytes r.disk.past r.disk.faults opens given t.first)
          × (keys : NodeKeys) × (keys.key_of (node_of by.start.state) ≡ key_of by.start.state)
          × (below : List Entry) × IsBelow by.start.state below
          × (told ≡ told_through (ledger_book service_layers keys) (node_of by.start.state) (by.start.node (ledger_book service_layers keys) below) t.life)

      begun_tells : (given : List ℕ) → IsBegun (opened (r.disk.bytes r.disk.before)) given → Telling key spent after told
      begun_tells given (by, keys, keyed, below, stood, told_is) =
          let state = by.state in
          let book = ledger_book service_layers keys in
          let me = node_of by.start.state in
          let n = by.start.node book below in
          let has = start_leaves state given by.start (ap (λ (o : Result Durable JournalFault). beginning_of o given) (sym by.found) ∙ by.begins) in
          let tells = life_tells Stands goes_on_ledger r.disk.honest r.disk.bytes r.disk.past r.disk.faults b.honest book me t.first t.last t.life t.lives n (by.began.stands keys keyed below stood) by.start.state
          (by.began.at_rest b.honest) (by.began.keeps b.honest) (has.reserved ∙ sym (has.kept book below)) in
          let one = ap (λ (s : Durable). s.reserved) (one_state (r.disk.bytes r.disk.before) b.holds.state state b.holds.opens by.found) in
          let least = b.holds.least in
          let used = has.used book below in
          let moved = now (HoldsKey key spent) before after node_keeps in
          subst (Telling key spent after) (sym told_is) (record {
            once = tells.once;
            each = λ k d within. (
              (let unused = tells.unused k d within in omega (arith, least, one, used, unused)),
              λ image left.
                  let h = moved image left in
                  let file = tells.spent image (subst (λ (v : D). IsImage (r.disk.past v) image) (sym t.disk) left) in
                  let below = file.2 k d within in
                  record {
                    gate = h.gate;
                    state = file.0;
                    opens = file.1;
                    same = ap (λ (s : Durable). s.key) (one_state image file.0 h.state file.1 h.opens) ∙ h.same;
                    least = omega (arith, below);
                  },
            );
          })

      honestly : (honest : Bool) → IsTrue honest → OfOpened honest (r.disk.bytes r.disk.before) (λ opens. OfBytes r.source.given (λ given. IsBegun opens given)) → Telling key spent after told
      honestly true is found = from_given r.source.given (IsBegun (opened (r.disk.bytes r.disk.before))) (Telling key spent after told) begun_tells found
      honestly false is found = absurd (let no : ◌≡◌ {A = Bool} false true = is in cc)

      serving_tells : Telling key spent after told
      serving_tells = honestly r.disk.honest b.honest t.leaves

  -- ---- any command

  has_bytes : (bytes : List ℕ) → HasGate journal_header bytes → 0 < length bytes
  has_bytes bytes gate = let long = ap length gate.parts.split in omega (arith, long)

  task_keeps : (task : Task) (e : Ending) → TaskDoes task r e → Keeps
  task_keeps (tasks.Keygen kind types) e does = same_moments (does.not_empty b.honest (has_bytes (r.disk.bytes r.disk.before) b.holds.gate)).past
  task_keeps (tasks.Sign signing) e does = signing_keeps (use_of signing) e (does.leaf b.honest)
  task_keeps tasks.Recover e does = signing_keeps Start e (does.leaf b.honest)
  task_keeps task e does = same_moments (ap r.disk.past does.disk.same)

  module _ {L : Type 0} (link : LinkRun L) (e : Ending) where
    run_keeps : (asked : Asked) → MayServe asked r → Does asked r link e → Keeps
    run_keeps (asks.Task task) may does = task_keeps task e does.0
    run_keeps (asks.Load load) may does = same_moments (ap r.disk.past does.0.disk.same)
    run_keeps (asks.Node node) may does = node_keeps node link e does.0 may

    task_tells : (task : Task) (told : List ℕ) → TaskDoes task r e → Tells (asks.Task task) r link e told → Telling key spent after told
    task_tells (tasks.Sign signing) told does tells = signing_tells (use_of signing) e told (does.leaf b.honest) tells
    task_tells tasks.Recover told does tells = signing_tells Start e told (does.leaf b.honest) tells
    task_tells task told does tells = none_told key spent after told tells

    run_tells : (asked : Asked) (told : List ℕ) → MayServe asked r → Does asked r link e → Tells asked r link e told → Telling key spent after told
    run_tells (asks.Task task) told may does tells = task_tells task told does.0 tells
    run_tells (asks.Load load) told may does tells = none_told key spent after told tells
    run_tells (asks.Node node) told may does (inl none) = none_told key spent after told none
    run_tells (asks.Node node) told may does (inr t) = serving_tells node link e does.0 may told t

pub any_moment : {S D L : Type 0} (key : Key) (spent : ℕ) (past : List Step) (asked : Asked) (r : Run S D) (link : LinkRun L) (e : Ending) → LeavesKey key spent past → GoesOnFrom past r.disk → MayServe asked r → Does asked r link e →
    Leaves (HoldsKey key spent) (r.disk.past r.disk.before) (r.disk.past r.disk.after)
any_moment key spent past asked r link e leaves from may does = run_keeps key spent r (begun key spent past r.disk leaves from) link e asked may does

-- ---- all runs

pairs_append : (xs ys : List ℕ) → AllPairs (λ (x y : ℕ). x < y) xs → AllPairs (λ (x y : ℕ). x < y) ys → All (λ x. All (λ (y : ℕ). x < y) ys) xs → AllPairs (λ (x y : ℕ). x < y) (xs ++ ys)
pairs_append [] ys first second across = second
pairs_append (x ∷ xs) ys first second across =
    AllPairs-cons (λ (a c : ℕ). a < c) x (xs ++ ys)
    (All-append (λ (y : ℕ). x < y) xs ys (λ k d within. first zero (suc k) d (omega arith) (omega (arith, within))) (All-head (λ a. All (λ (y : ℕ). a < y) ys) x xs across))
    (pairs_append xs ys (λ i j d below within. first (suc i) (suc j) d (omega (arith, below)) (omega (arith, within))) second (All-tail (λ a. All (λ (y : ℕ). a < y) ys) x xs across))

module _ {S D L : Type 0} (key : Key) where
  still_leaves : (runs : List (KeyRun S D L)) (spent : ℕ) (past : List Step) → LeavesKey key spent past → Follow past runs → LeavesKey key spent (steps_after past runs)
  still_leaves [] spent past leaves follow = leaves
  still_leaves (it ∷ more) spent past leaves (from, may, does, tells, follow) =
      let r = it.run in
      still_leaves more spent (r.disk.past r.disk.after)
      (now (HoldsKey key spent) (r.disk.past r.disk.before) (r.disk.past r.disk.after) (any_moment key spent past it.asked r it.link it.ending leaves from may does)) follow

  pub runs_tell : (runs : List (KeyRun S D L)) (spent : ℕ) (past : List Step) → LeavesKey key spent past → Follow past runs → Telling key spent (steps_after past runs) (told_by_all runs)
  runs_tell [] spent past leaves follow = nothing key spent past
  runs_tell (it ∷ more) spent past leaves (from, may, does, tells, follow) =
      let r = it.run in
      let after = r.disk.past r.disk.after in
      let end = steps_after after more in
      let here = run_tells key spent r (begun key spent past r.disk leaves from) it.link it.ending it.asked it.told may does tells in
      let left = now (HoldsKey key spent) (r.disk.past r.disk.before) after (any_moment key spent past it.asked r it.link it.ending leaves from may does) in
      let rest = runs_tell more spent after left follow in
      record {
        once = pairs_append it.told (told_by_all more) here.once rest.once
            (All-weaker (λ leaf. (spent ≤ leaf) × LeavesKey key (leaf + 1) after) (λ leaf. All (λ (later : ℕ). leaf < later) (told_by_all more))
            (λ leaf h. All-weaker (λ later. (leaf + 1 ≤ later) × LeavesKey key (later + 1) end) (λ (later : ℕ). leaf < later) (λ later k. let above = k.0 in omega (arith, above)) (told_by_all more) (runs_tell more (leaf + 1) after h.1 follow).each) it.told here.each);
        each = All-append (λ leaf. (spent ≤ leaf) × LeavesKey key (leaf + 1) end) it.told (told_by_all more)
            (All-weaker (λ leaf. (spent ≤ leaf) × LeavesKey key (leaf + 1) after) (λ leaf. (spent ≤ leaf) × LeavesKey key (leaf + 1) end) (λ leaf h. (h.0, still_leaves more (leaf + 1) after h.1 follow)) it.told here.each)
            rest.each;
      }
