use Rattle.std.proofs.Common.{◌≡◌, ◌<◌, ◌+◌, ◌^◌, List, ℕ, Option, Some, length, ap, subst, sym, ◌∙◌, arith}
use Rattle.gl_journal.specs.Kept.{HasBatchRoom}
use Rattle.gl_journal.specs.RecordView.{snapshot_of as bytes_in}
use Rattle.gl_node.specs.Begins.{HasBodyRoom, TakesIn}
use Rattle.gl_node.proofs.Offering.{batch_folds, batch_size}
use Rattle.gl_node.proofs.install.keep_body.Goals as goal

pub commit_batch-requires-clause-small : goal.commit_batch-requires-clause-small
commit_batch-requires-clause-small g c =
    let body = c.deref.result.now in
    let kept : bytes_in c.args.kept.now ≡ Some body = ap bytes_in c.in-Some.is ∙ ap (λ (l : List ℕ). Some l) (sym c.deref.ensures.value) in
    let room = subst (HasBodyRoom g.D.Disk.room_end g.D.Disk.room_calls c.args.journal.now) kept c.requires.room in
    let short : 5 + length body < 2 ^ 32 = room.0 in
    omega (arith, batch_size body, short)

pub commit_batch-requires-clause-room : goal.commit_batch-requires-clause-room
commit_batch-requires-clause-room g c =
    let body = c.deref.result.now in
    let kept : bytes_in c.args.kept.now ≡ Some body = ap bytes_in c.in-Some.is ∙ ap (λ (l : List ℕ). Some l) (sym c.deref.ensures.value) in
    let room = subst (HasBodyRoom g.D.Disk.room_end g.D.Disk.room_calls c.args.journal.now) kept c.requires.room in
    subst (HasBatchRoom g.D.Disk.room_end g.D.Disk.room_calls c.args.journal.now) (sym (batch_size body)) room.1

pub returns-in-Some-clause-kept : goal.returns-in-Some-clause-kept
returns-in-Some-clause-kept g c h goes_on state next opens takes =
    let body = c.deref.result.now in
    let kept : bytes_in c.args.kept.now ≡ Some body = ap bytes_in c.in-Some.is ∙ ap (λ (l : List ℕ). Some l) (sym c.deref.ensures.value) in
    let one = subst (λ (o : Option (List ℕ)). TakesIn goes_on o state next) kept takes in
    c.commit_batch.ensures.kept h goes_on state next opens (batch_folds goes_on state next body one)

pub returns-in-Some-clause-after : goal.returns-in-Some-clause-after
returns-in-Some-clause-after g c h goes_on state next opens takes =
    let body = c.deref.result.now in
    let kept : bytes_in c.args.kept.now ≡ Some body = ap bytes_in c.in-Some.is ∙ ap (λ (l : List ℕ). Some l) (sym c.deref.ensures.value) in
    let one = subst (λ (o : Option (List ℕ)). TakesIn goes_on o state next) kept takes in
    c.commit_batch.ensures.after h goes_on state next opens (batch_folds goes_on state next body one)
