use Rattle.std.proofs.Common.{◌≡◌, true, false, reverse, ap, sym, ◌∙◌, subst, arith}
use Rattle.gl_vmaps.specs.Kept.{Kept, versions_of}
use Rattle.gl_vmaps.specs.Standing.{versions_up_to}
use Rattle.gl_vmaps.specs.Chains.{maps_by}
use Rattle.gl_vmaps.specs.Journal.{AreNamed, is_last_above}
use Rattle.gl_vmaps.proofs.InOrder.{named-popped_last}
use Rattle.gl_vmaps.proofs.JournalLaws.{can_pop, cuts-step, above-some, all_up_to, none_above}
use Rattle.gl_vmaps.proofs.StandingLaws.{stands-cut}
use Rattle.gl_vmaps.proofs.tables.Tables.cut.Goals as goal

pub loop-self-init : goal.loop-self-init
loop-self-init c = record {
  base = ap (λ (t : Kept). t.base) c.self.view_is;
  compacted = ap (λ (t : Kept). t.compacted) c.self.view_is;
  tidy = c.self.invariant.tidy;
  named = c.self.invariant.named;
  undone = c.self.invariant.undone;
  rows = λ name key. ap (λ (t : Kept). versions_up_to c.args.to (versions_of t name key)) c.self.view_is;
}

pub invariant_of-self : goal.invariant_of-self
invariant_of-self c = record { tidy = c.loop-self.invariant.tidy; named = c.loop-self.invariant.named; undone = c.loop-self.invariant.undone }

pub pop_last-requires : goal.pop_last-requires
pop_last-requires c = can_pop c.loop-self.self-inside.compacted _ _ c.loop-self.invariant.undone

pub loop-self-preserved : goal.loop-self-preserved
loop-self-preserved c =
    let s = c.loop-self.self-inside in
    let above : is_last_above c.args.to (reverse s.journal.items) ≡ true = sym c.ends_above.ensures ∙ c.loop-self-test.true in
    let step = cuts-step s.compacted c.args.to (maps_by s.maps.entries) (maps_by c.pop_last.new.maps.entries) (reverse s.journal.items) (reverse c.pop_last.new.journal.items)
    c.loop-self.invariant.tidy c.loop-self.invariant.undone above c.pop_last.ensures.maps c.pop_last.ensures.journal in
    record {
      base = c.loop-self.invariant.base;
      compacted = c.loop-self.invariant.compacted;
      tidy = step.tidy;
      named = subst AreNamed (sym c.pop_last.ensures.maps) (named-popped_last (maps_by s.maps.entries) (reverse s.journal.items) c.loop-self.invariant.named);
      undone = step.undone;
      rows = λ name key. step.rows name key ∙ c.loop-self.invariant.rows name key;
    }

pub loop-self-smaller : goal.loop-self-smaller
loop-self-smaller c =
    let s = c.loop-self.self-inside in
    let above : is_last_above c.args.to (reverse s.journal.items) ≡ true = sym c.ends_above.ensures ∙ c.loop-self-test.true in
    let some = above-some c.args.to s.journal.items above in
    omega (arith, some, c.pop_last.ensures.shorter)

pub returns-clause-exact : goal.returns-clause-exact
returns-clause-exact c =
    let s = c.loop-self.self-inside in
    let none : is_last_above c.args.to (reverse s.journal.items) ≡ false = sym c.ends_above.ensures ∙ c.loop-self-test.false in
    record {
      base = c.loop-self.invariant.base;
      compacted = c.loop-self.invariant.compacted;
      rows = λ name key.
          sym (all_up_to s.compacted c.args.to (maps_by s.maps.entries) (reverse s.journal.items) (omega (arith, c.requires, c.loop-self.invariant.compacted))
          c.loop-self.invariant.undone (none_above s.compacted c.args.to (maps_by s.maps.entries) (reverse s.journal.items) c.loop-self.invariant.undone none) name key)
          ∙ c.loop-self.invariant.rows name key;
    }

pub returns-clause-stands : goal.returns-clause-stands
returns-clause-stands c = λ ps stands. stands-cut _ _ _ ps c.requires (returns-clause-exact c) stands
