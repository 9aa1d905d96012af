use Rattle.std.proofs.Common.{◌++◌, ◌-◌, List, ℕ, take, refl, sym, subst}
use Rattle.gl_journal.specs.Durable.{Durable}
use Rattle.gl_journal.specs.Parts.{items_of}
use Rattle.gl_journal.specs.declared.record.Record.{Record}
use Rattle.gl_node.specs.Batches.{Folds}
use Rattle.gl_node.specs.Frames.{EachGoesOn}
use Rattle.gl_node.specs.Kept.{with_vote}
use Rattle.gl_node.specs.Persistence.{kept_of}
use Rattle.gl_node.proofs.persist.keep.Goals as goal

pub returns-clause-kept : goal.returns-clause-kept
returns-clause-kept g c h d opens change =
    let core = c.args.core.now in
    let goes_on = g.B.KeptBook.goes_on in
    let cut = take (c.args.kept - d.base) d.log in
    let voted = with_vote core.peer.view core.peer.vote d in
    let none : Folds goes_on c.args.records.items d d = subst (λ (l : List Record). Folds goes_on l d d) (sym c.requires.records.empty) refl in
    let first = c.put_vote.ensures.folds goes_on d d none change.view change.vote change.rises in
    let second = c.put_cut.ensures.folds goes_on d voted first change.len change.above change.within in
    let third = c.put_appends.ensures.folds goes_on d (record voted { log = cut }) second (subst (EachGoesOn goes_on d.snapshot) change.log change.follow) in
    let fourth = c.put_signer.ensures.folds goes_on d (record voted { log = cut ++ items_of c.args.frames.now }) third change.reserved change.more change.leaves change.few in
    let log : List (List ℕ) → Durable = λ l. record voted { log = l; reserved = core.leaves.reserved } in
    let all : Folds goes_on c.deref.result.now d (kept_of g.B.KeptBook.held d core) =
    subst (λ (l : List Record). Folds goes_on l d (kept_of g.B.KeptBook.held d core)) (sym c.deref.ensures.value)
    (subst (λ (l : List (List ℕ)). Folds goes_on c.put_signer.new.records.items d (log l)) (sym change.log) fourth) in
    c.commit.ensures.kept h goes_on d (kept_of g.B.KeptBook.held d core) opens all

pub returns-clause-after : goal.returns-clause-after
returns-clause-after g c h d opens change =
    let core = c.args.core.now in
    let goes_on = g.B.KeptBook.goes_on in
    let cut = take (c.args.kept - d.base) d.log in
    let voted = with_vote core.peer.view core.peer.vote d in
    let none : Folds goes_on c.args.records.items d d = subst (λ (l : List Record). Folds goes_on l d d) (sym c.requires.records.empty) refl in
    let first = c.put_vote.ensures.folds goes_on d d none change.view change.vote change.rises in
    let second = c.put_cut.ensures.folds goes_on d voted first change.len change.above change.within in
    let third = c.put_appends.ensures.folds goes_on d (record voted { log = cut }) second (subst (EachGoesOn goes_on d.snapshot) change.log change.follow) in
    let fourth = c.put_signer.ensures.folds goes_on d (record voted { log = cut ++ items_of c.args.frames.now }) third change.reserved change.more change.leaves change.few in
    let log : List (List ℕ) → Durable = λ l. record voted { log = l; reserved = core.leaves.reserved } in
    let all : Folds goes_on c.deref.result.now d (kept_of g.B.KeptBook.held d core) =
    subst (λ (l : List Record). Folds goes_on l d (kept_of g.B.KeptBook.held d core)) (sym c.deref.ensures.value)
    (subst (λ (l : List (List ℕ)). Folds goes_on c.put_signer.new.records.items d (log l)) (sym change.log) fourth) in
    c.commit.ensures.after h goes_on d (kept_of g.B.KeptBook.held d core) opens all

pub returns-clause-any_moment : goal.returns-clause-any_moment
returns-clause-any_moment g c h d opens change =
    let core = c.args.core.now in
    let goes_on = g.B.KeptBook.goes_on in
    let cut = take (c.args.kept - d.base) d.log in
    let voted = with_vote core.peer.view core.peer.vote d in
    let none : Folds goes_on c.args.records.items d d = subst (λ (l : List Record). Folds goes_on l d d) (sym c.requires.records.empty) refl in
    let first = c.put_vote.ensures.folds goes_on d d none change.view change.vote change.rises in
    let second = c.put_cut.ensures.folds goes_on d voted first change.len change.above change.within in
    let third = c.put_appends.ensures.folds goes_on d (record voted { log = cut }) second (subst (EachGoesOn goes_on d.snapshot) change.log change.follow) in
    let fourth = c.put_signer.ensures.folds goes_on d (record voted { log = cut ++ items_of c.args.frames.now }) third change.reserved change.more change.leaves change.few in
    let log : List (List ℕ) → Durable = λ l. record voted { log = l; reserved = core.leaves.reserved } in
    let all : Folds goes_on c.deref.result.now d (kept_of g.B.KeptBook.held d core) =
    subst (λ (l : List Record). Folds goes_on l d (kept_of g.B.KeptBook.held d core)) (sym c.deref.ensures.value)
    (subst (λ (l : List (List ℕ)). Folds goes_on c.put_signer.new.records.items d (log l)) (sym change.log) fourth) in
    c.commit.ensures.any_moment h goes_on d (kept_of g.B.KeptBook.held d core) opens all
