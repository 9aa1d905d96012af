use Rattle.std.proofs.Common.{◌≡◌, ℕ, ◌<◌, true, List, ◌++◌, ap, sym, ◌∙◌, subst, reverse, arith}
use Rattle.std.specs.List.{AllByRecursion}
use Rattle.gl_vmaps.specs.Writes.{is_write}
use Rattle.gl_vmaps.specs.Kept.{Kept, last_place, version_of}
use Rattle.gl_vmaps.specs.Chains.{Maps, maps_by, found_in}
use Rattle.gl_vmaps.specs.Journal.{IsTidy, AreNamed, IsJournal, AreFresh, pushed_maps}
use Rattle.gl_vmaps.specs.Standing.{versions_in}
use Rattle.gl_vmaps.specs.Versions.{placed_at}
use Rattle.gl_vmaps.specs.declared.write.Write.{Write}
use Rattle.gl_vmaps.proofs.MapLaws.{proper-by}
use Rattle.gl_vmaps.proofs.InOrder.{named-pushed_maps}
use Rattle.gl_vmaps.proofs.JournalLaws.{fresh-above, pushed_maps-tidy, journal-pushed, found_in-pushed}
use Rattle.gl_vmaps.proofs.StandingLaws.{stands-applied}
use Rattle.gl_vmaps.proofs.tables.Tables.apply.Goals as goal

pub push_writes-requires-clause-fresh : goal.push_writes-requires-clause-fresh
push_writes-requires-clause-fresh c =
    let maps = maps_by c.self.inside.maps.entries in
    let above : (name key : List ℕ) → last_place (found_in maps name key) < c.args.seqno =
    subst (λ (t : Kept). (name key : List ℕ) → version_of t name key < c.args.seqno) (sym c.self.view_is) c.requires.above in
    subst (AreFresh maps c.args.seqno) (sym c.as_slice-writes.ensures.value) (fresh-above maps c.args.seqno c.args.writes.now above c.as_slice-writes.ensures.ordered)

pub invariant_of-self-2 : goal.invariant_of-self-2
invariant_of-self-2 c =
    let s = c.self.inside in
    let maps = maps_by s.maps.entries in
    let ws = c.as_slice-writes.result.now in
    let place = c.args.seqno in
    let above : (name key : List ℕ) → last_place (found_in maps name key) < place =
    subst (λ (t : Kept). (name key : List ℕ) → version_of t name key < place) (sym c.self.view_is) c.requires.above in
    let fresh : AreFresh maps place ws =
    subst (AreFresh maps place) (sym c.as_slice-writes.ensures.value) (fresh-above maps place c.args.writes.now above c.as_slice-writes.ensures.ordered) in
    let undone = journal-pushed s.compacted maps (reverse s.journal.items) place ws (proper-by s.maps.entries) c.self.invariant.tidy c.self.invariant.undone
    (λ name key. let lt = above name key in omega (arith, lt)) fresh in
    record {
      tidy = subst IsTidy (sym c.in_ok-push_writes.ensures.maps) (pushed_maps-tidy maps place ws c.self.invariant.tidy);
      named = subst AreNamed (sym c.in_ok-push_writes.ensures.maps)
          (named-pushed_maps maps place ws (subst (AllByRecursion (λ (w : Write). is_write w ≡ true)) (sym c.as_slice-writes.ensures.value) c.as_slice-writes.ensures.limits) c.self.invariant.named);
      undone = subst (λ (m : Maps). IsJournal s.compacted m (reverse c.push_writes.new.journal.items)) (sym c.in_ok-push_writes.ensures.maps)
          (subst (IsJournal s.compacted (pushed_maps maps place ws)) (sym c.in_ok-push_writes.ensures.journal) undone);
    }

pub returns-clause-ok : goal.returns-clause-ok
returns-clause-ok c =
    let s = c.self.inside in
    let maps = maps_by s.maps.entries in
    record {
      base = ap (λ (t : Kept). t.base) c.self.view_is;
      compacted = ap (λ (t : Kept). t.compacted) c.self.view_is;
      rows = λ name key.
          ap (λ (m : Maps). found_in m name key) c.in_ok-push_writes.ensures.maps
          ∙ found_in-pushed maps c.args.seqno c.as_slice-writes.result.now name key
          ∙ ap (λ (ws : List Write). found_in maps name key ++ versions_in (placed_at c.args.seqno ws) name key) c.as_slice-writes.ensures.value
          ∙ ap (λ (t : Kept). Rattle.gl_vmaps.specs.Kept.versions_of t name key ++ versions_in (placed_at c.args.seqno c.args.writes.now) name key) c.self.view_is;
    }

pub returns-clause-stands : goal.returns-clause-stands
returns-clause-stands c = λ ps stands. stands-applied _ _ _ _ ps c.requires.above (returns-clause-ok c) stands
