use Rattle.std.proofs.Common.{sym, ap, ◌∙◌}
use Rattle.gl_lines.specs.Words.{is}
use Rattle.gl_lines.proofs.GroupLemmas.{group_missing, group_last, group_first, group_unread}
use Rattle.gl_lines.proofs.operations.first_group.Goals as goal

pub returns-then-words-count-clause-group : goal.returns-then-words-count-clause-group
returns-then-words-count-clause-group c =
    group_missing c.args.words.now c.in_ok-name.field-0-1.now c.in_ok-name.name.now c.in_ok-count.count c.in_ok-name.ensures.cases.0 (sym c.in_ok-count.ensures)
    c.if-words-count.true

pub returns-in-None-clause-group : goal.returns-in-None-clause-group
returns-in-None-clause-group c =
    group_last c.args.words.now c.in_ok-name.field-0-1.now c.split_at.result.0.now c.split_at.result.1.now c.in_ok-name.name.now c.in_ok-count.count
    c.in_ok-name.ensures.cases.0 (sym c.in_ok-count.ensures) c.if-words-count.false c.split_at.ensures.front c.split_at.ensures.back c.in-None.ensures.cases

pub returns-in-Some-clause-group : goal.returns-in-Some-clause-group
returns-in-Some-clause-group c =
    group_first c.args.words.now c.in_ok-name.field-0-1.now c.split_at.result.0.now c.split_at.result.1.now c.in-Some.rest.now c.in_ok-name.name.now
    c.in-Some.semicolon.now c.in_ok-count.count c.in_ok-name.ensures.cases.0 (sym c.in_ok-count.ensures) c.if-words-count.false
    c.split_at.ensures.front c.split_at.ensures.back c.in-Some.ensures.cases.0 (ap (is c.in-Some.semicolon.now.now) (sym c.as_slice.ensures) ∙ sym c.if-eq.ensures)

pub returns-in-Some-2-clause-group : goal.returns-in-Some-2-clause-group
returns-in-Some-2-clause-group c =
    group_unread c.args.words.now c.in_ok-name.field-0-1.now c.split_at.result.0.now c.split_at.result.1.now c.in-Some.rest.now c.in_ok-name.name.now
    c.in-Some.semicolon.now c.in_ok-count.count c.in_ok-name.ensures.cases.0 (sym c.in_ok-count.ensures) c.if-words-count.false
    c.split_at.ensures.front c.split_at.ensures.back c.in-Some.ensures.cases.0 (ap (is c.in-Some.semicolon.now.now) (sym c.as_slice.ensures) ∙ sym c.if-eq.ensures)
