-- What a stop may leave of a node's file at each moment.
use Rattle.std.proofs.Common.{◌≡◌, ◌≢◌, ◌≤◌, ◌⊎◌, inl, inr, ℕ, List, Bool, true, false, None, nat_lt, if◌then◌else◌, Result, Ok, Err, IfOk, arith, refl, sym, subst, ◌∙◌}
use Rattle.gl_entry.specs.declared.entry.Entry.{Entry}
use Rattle.gl_rules.specs.World.{Start}
use Rattle.gl_snapshot_body.specs.declared.body.Body.{Body}
use Rattle.gl_journal.specs.Durable.{Durable, OpensToOneOf, OpensToTheSame, journal_header, raised}
use Rattle.gl_journal.specs.Kept.{IsAtRest}
use Rattle.gl_journal.specs.Parts.{HasGate}
use Rattle.gl_outside.specs.Disk.{Leaves, Step}
use Rattle.gl_outside.proofs.Moments.{so_too, started, stayed, then_too}
use Rattle.gl_store_book.specs.AtOpening.{opened_state}
use Rattle.gl_store_book.specs.Frames.{goes_on_ledger}
use Rattle.gl_store_book.specs.FromSnapshot.{installed_state}
use Rattle.gl_store_book.specs.NodeFile.{has_ledger, opened}
use Rattle.gl_serve.specs.OverLink.{KeepsLeaves}
use Rattle.gl_store_book.specs.Stands.{NodeStore}
use Rattle.gl_serve.specs.Types.{NodeSeen}
use Rattle.ccfg.specs.Nodes.{IsUnserved, KeepsNode, KeepsOpening, MovesNode, disk_after}
use Rattle.ccfg.specs.declared.fault.BeginFault.{BeginFault}
use Rattle.ccfg.specs.declared.node.NodeError.{NodeError}
use Rattle.ccfg.specs.declared.node.NodeError.TheVariants as stops

-- a file at rest, to whose disk nothing was done
pub reopened_moments : (d : Durable) (bytes : List ℕ) (before after : List Step) → IsAtRest bytes before → opened bytes ≡ Ok d → after ≡ before → Leaves (KeepsOpening d) before after
reopened_moments d bytes before after rest opens same =
    let P = KeepsOpening d in
    stayed P before before after (started P before (λ image left. subst P (sym (rest.only image left)) (rest.gate, inl opens))) same

-- the disk of a file that goes on is handed over, or back
pub reopened_disk : {D : Type 0} (r : Result (NodeSeen D NodeStore) (NodeError × D)) (disk : D) → IfOk r (λ replica. replica.disk ≡ disk) →
    ((why : NodeError) (back : D) → r ≡ Err (why, back) → (why ≡ stops.Memory) × (back ≡ disk)) → disk_after r ≡ disk
reopened_disk (Ok replica) disk same err = same
reopened_disk (Err (why, back)) disk same err = (err why back refl).1

one_of : (s : Start Entry) (d : Durable) → has_ledger d ≡ false → (image : List ℕ) → OpensToOneOf goes_on_ledger d (opened_state s d) image → KeepsOpening d image
one_of s d none image (gate, inl is) = (gate, inl is)
one_of s d none image (gate, inr is) = (gate, inr (none, inl (s, is)))

-- the opening ledger was kept, or was to be
pub opening_moments : (s : Start Entry) (d : Durable) (before after : List Step) → has_ledger d ≡ false → Leaves (OpensToOneOf goes_on_ledger d (opened_state s d)) before after → Leaves (KeepsOpening d) before after
opening_moments s d before after none = so_too (OpensToOneOf goes_on_ledger d (opened_state s d)) (KeepsOpening d) before after (one_of s d none)

behind_of : (body : Body) (d : Durable) → has_ledger d ≡ false → (image : List ℕ) → OpensToOneOf goes_on_ledger d (installed_state body d) image → KeepsOpening d image
behind_of body d none image (gate, inl is) = (gate, inl is)
behind_of body d none image (gate, inr is) = (gate, inr (none, inr (body, is)))

-- the snapshot was kept, or was to be
pub behind_moments : (body : Body) (d : Durable) (before after : List Step) → has_ledger d ≡ false → Leaves (OpensToOneOf goes_on_ledger d (installed_state body d)) before after → Leaves (KeepsOpening d) before after
behind_moments body d before after none = so_too (OpensToOneOf goes_on_ledger d (installed_state body d)) (KeepsOpening d) before after (behind_of body d none)

-- a file that holds a snapshot has the key and the leaves that it had
pub raised_key : (view : ℕ) (d : Durable) → (raised view d).key ≡ d.key
raised_key view d = go (nat_lt d.view view)
  where
    go : (b : Bool) → (if b then record d { view = view; vote = None } else d).key ≡ d.key
    go true = refl
    go false = refl

pub raised_reserved : (view : ℕ) (d : Durable) → (raised view d).reserved ≡ d.reserved
raised_reserved view d = go (nat_lt d.view view)
  where
    go : (b : Bool) → (if b then record d { view = view; vote = None } else d).reserved ≡ d.reserved
    go true = refl
    go false = refl

-- the disk failed, or it didn't
pub by_stop : (stop : NodeError) (A : Type 0) → (stop ≡ stops.DiskFailed → A) → (stop ≢ stops.DiskFailed → A) → A
by_stop (stops.Refused fault) A failed other = other (λ is. cc)
by_stop stops.SourceFailed A failed other = other (λ is. cc)
by_stop stops.DiskFailed A failed other = failed refl
by_stop stops.Memory A failed other = other (λ is. cc)

-- nothing else stops it than a fault of the file
pub refused_only : (stop : NodeError) → stop ≢ stops.SourceFailed → stop ≢ stops.DiskFailed → stop ≢ stops.Memory → (fault : BeginFault) × (stop ≡ stops.Refused fault)
refused_only (stops.Refused fault) source disk memory = (fault, refl)
refused_only stops.SourceFailed source disk memory = absurd (source refl)
refused_only stops.DiskFailed source disk memory = absurd (disk refl)
refused_only stops.Memory source disk memory = absurd (memory refl)

-- the file was opened, and no more
pub opened_moments : (bytes : List ℕ) (before after : List Step) → Leaves (OpensToTheSame goes_on_ledger bytes before) before after → Leaves (IsUnserved bytes before) before after
opened_moments bytes before after = so_too (OpensToTheSame goes_on_ledger bytes before) (IsUnserved bytes before) before after (λ image left. inl left)

-- and then the node began
pub beginning_moments : (bytes : List ℕ) (before mid after : List Step) (d : Durable) → opened bytes ≡ Ok d → Leaves (IsUnserved bytes before) before mid → Leaves (KeepsOpening d) mid after → Leaves (IsUnserved bytes before) before after
beginning_moments bytes before mid after d opens first second =
    then_too (IsUnserved bytes before) before mid after first
    (so_too (KeepsOpening d) (IsUnserved bytes before) mid after (λ image left. inr (d, opens, left)) second)

-- a beginning keeps the key and the spent leaves
behind_keeps : (body : Body) (d : Durable) (image : List ℕ) → HasGate journal_header image → opened image ≡ Ok (installed_state body d) → KeepsLeaves goes_on_ledger d image
behind_keeps body d image gate is =
    let more = raised_reserved body.view d in
    (gate, installed_state body d, is, raised_key body.view d, omega (arith, more))

unserved_keeps : (bytes : List ℕ) (before : List Step) (image : List ℕ) → IsUnserved bytes before image → KeepsNode bytes before image
unserved_keeps bytes before image (inl same) = inl same
unserved_keeps bytes before image (inr (d, opens, (gate, inl is))) = inr (d, opens, (gate, d, is, refl, omega arith))
unserved_keeps bytes before image (inr (d, opens, (gate, inr (none, inl (s, is))))) = inr (d, opens, (gate, opened_state s d, is, refl, omega arith))
unserved_keeps bytes before image (inr (d, opens, (gate, inr (none, inr (body, is))))) = inr (d, opens, behind_keeps body d image gate is)

pub unserved_moments : (bytes : List ℕ) (before after : List Step) → Leaves (IsUnserved bytes before) before after → MovesNode bytes before after
unserved_moments bytes before after = so_too (IsUnserved bytes before) (KeepsNode bytes before) before after (unserved_keeps bytes before)

-- and then it kept its leaves, from a state on that has no fewer
pub later_moments : (bytes : List ℕ) (before mid after : List Step) (d state : Durable) → opened bytes ≡ Ok d → state.key ≡ d.key → d.reserved ≤ state.reserved →
    MovesNode bytes before mid → Leaves (KeepsLeaves goes_on_ledger state) mid after → MovesNode bytes before after
later_moments bytes before mid after d state opens key spent first second =
    then_too (KeepsNode bytes before) before mid after first
    (so_too (KeepsLeaves goes_on_ledger state) (KeepsNode bytes before) mid after
    (λ image left. inr (d, opens, (left.0, left.1, left.2, left.3 ∙ key, omega (arith, spent, left.4)))) second)

-- what a file at rest opens to has the key and the leaves of it
pub keeps_at_rest : (d : Durable) (bytes : List ℕ) (past : List Step) → IsAtRest bytes past → opened bytes ≡ Ok d → KeepsLeaves goes_on_ledger d bytes
keeps_at_rest d bytes past rest is = (rest.gate, d, is, refl, omega arith)

pub keeps_opening : (s : Start Entry) (d : Durable) (bytes : List ℕ) (past : List Step) → IsAtRest bytes past → opened bytes ≡ Ok (opened_state s d) → KeepsLeaves goes_on_ledger d bytes
keeps_opening s d bytes past rest is = (rest.gate, opened_state s d, is, refl, omega arith)

pub keeps_behind : (body : Body) (d : Durable) (bytes : List ℕ) (past : List Step) → IsAtRest bytes past → opened bytes ≡ Ok (installed_state body d) → KeepsLeaves goes_on_ledger d bytes
keeps_behind body d bytes past rest is = behind_keeps body d bytes rest.gate is
