use Rattle.std.proofs.Common.{◌≡◌, true, false, reverse, max, ap, sym, ◌∙◌, subst, arith}
use Rattle.gl_vmaps.specs.Kept.{Kept, versions_of}
use Rattle.gl_vmaps.specs.Standing.{latest_from}
use Rattle.gl_vmaps.specs.Chains.{maps_by}
use Rattle.gl_vmaps.specs.Journal.{AreNamed, is_first_up_to}
use Rattle.gl_vmaps.proofs.InOrder.{named-settled_first}
use Rattle.gl_vmaps.proofs.MapLaws.{proper-by}
use Rattle.gl_vmaps.proofs.Settling.{journal-later, settles-step, first-some, nothing_left, all_above}
use Rattle.gl_vmaps.proofs.StandingLaws.{stands-compacted}
use Rattle.gl_vmaps.proofs.tables.Tables.compact.Goals as goal

pub loop-self-init : goal.loop-self-init
loop-self-init c = record {
  base = ap (λ (t : Kept). t.base) c.self.view_is;
  compacted = ap (λ (t : Kept). t.compacted) c.self.view_is;
  tidy = c.self.invariant.tidy;
  named = c.self.invariant.named;
  undone = journal-later c.self.inside.compacted (max c.self.inside.compacted c.args.to) _ _ (omega arith) c.self.invariant.undone;
  rows = λ name key. ap (λ (t : Kept). latest_from c.args.to (versions_of t name key)) c.self.view_is;
}

pub loop-self-preserved : goal.loop-self-preserved
loop-self-preserved c =
    let s = c.loop-self.self-inside in
    let first : is_first_up_to c.args.to s.journal.items ≡ true = sym c.starts_up_to.ensures ∙ c.loop-self-test.true in
    let step = settles-step (max s.compacted c.args.to) c.args.to (maps_by s.maps.entries) (maps_by c.settle_first.new.maps.entries) s.journal.items c.settle_first.new.journal.items
    (proper-by s.maps.entries) c.loop-self.invariant.tidy (omega arith) c.loop-self.invariant.undone first c.settle_first.ensures.maps c.settle_first.ensures.journal in
    record {
      base = c.loop-self.invariant.base;
      compacted = c.loop-self.invariant.compacted;
      tidy = step.tidy;
      named = subst AreNamed (sym c.settle_first.ensures.maps) (named-settled_first (maps_by s.maps.entries) s.journal.items c.loop-self.invariant.named);
      undone = step.undone;
      rows = λ name key. step.rows name key ∙ c.loop-self.invariant.rows name key;
    }

pub loop-self-smaller : goal.loop-self-smaller
loop-self-smaller c =
    let s = c.loop-self.self-inside in
    let first : is_first_up_to c.args.to s.journal.items ≡ true = sym c.starts_up_to.ensures ∙ c.loop-self-test.true in
    let some = first-some c.args.to s.journal.items first in
    omega (arith, some, c.settle_first.ensures.shorter)

pub returns-clause-exact : goal.returns-clause-exact
returns-clause-exact c =
    let s = c.loop-self.self-inside in
    let d = max s.compacted c.args.to in
    let first : is_first_up_to c.args.to s.journal.items ≡ false = sym c.starts_up_to.ensures ∙ c.loop-self-test.false in
    let above = all_above d c.args.to (maps_by s.maps.entries) s.journal.items c.loop-self.invariant.undone first in
    record {
      base = c.loop-self.invariant.base;
      compacted = c.max-self-inside.ensures ∙ ap (λ n. max n c.args.to) c.loop-self.invariant.compacted;
      rows = λ name key.
          sym (nothing_left d c.args.to (maps_by s.maps.entries) (reverse s.journal.items) c.loop-self.invariant.undone above name key)
          ∙ c.loop-self.invariant.rows name key;
    }

pub returns-clause-stands : goal.returns-clause-stands
returns-clause-stands c = λ ps stands. stands-compacted _ _ _ ps (returns-clause-exact c) stands
