use Rattle.std.proofs.Common.{true, length, Some, ◌≡◌, ◌++◌, ◌∷◌, [], ◌+◌, List, ℕ, take, ap, ◌∙◌, arith}
use Rattle.gl_journal.specs.Durable.{Durable}
use Rattle.gl_journal.specs.Parts.{items_of}
use Rattle.gl_journal.specs.declared.record.Record.TheVariants.{Append}
use Rattle.gl_node.proofs.Folding.{folds_push, size_push, append_folds}
use Rattle.gl_node.proofs.Framing.{appends_more, goes_next, log_more}
use Rattle.gl_node.proofs.persist.put_appends.Goals as goal

pub loop-frame-preserved : goal.loop-frame-preserved
loop-frame-preserved c =
    let fs = c.args.frames.now in
    let i = c.loop-frame.frame-index in
    let f = c.frame-item.result in
    let below = c.loop-frame-test.true in
    let is = c.frame-item.is in
    let so_far = c.loop-frame.records.items in
    let now = c.loop-frame.invariant in
    let size = size_push so_far c.push_reserved.new.self.items (Append c.deref.result) c.push_reserved.ensures.items in
    record {
      folds = λ goes_on d m first each.
          let goes = goes_next goes_on m.snapshot m.log fs i f below is each in
          let shown : goes_on.appends m.snapshot (m.log ++ items_of (take i fs)) c.deref.result.now ≡ true = ap (goes_on.appends m.snapshot (m.log ++ items_of (take i fs))) c.deref.ensures.value ∙ goes in
          let log : (m.log ++ items_of (take i fs)) ++ c.deref.result.now ∷ [] ≡ m.log ++ items_of (take (i + 1) fs) =
          ap (λ (x : List ℕ). (m.log ++ items_of (take i fs)) ++ x ∷ []) c.deref.ensures.value ∙ log_more m.log fs i f below is in
          let mid : Durable = record m { log = m.log ++ items_of (take i fs) } in
          let step = append_folds goes_on mid c.deref.result.now shown ∙ ap (λ (l : List (List ℕ)). Some (record m { log = l })) log in
          folds_push goes_on so_far c.push_reserved.new.self.items (Append c.deref.result) d mid _ c.push_reserved.ensures.items (now.folds goes_on d m first each) step;
      size = let long = ap length c.deref.ensures.value in omega (arith, size, now.size, appends_more fs i f below is, long);
      len = omega (arith, c.push_reserved.ensures.len, now.len);
      capacity = c.push_reserved.ensures.capacity ∙ now.capacity;
    }
