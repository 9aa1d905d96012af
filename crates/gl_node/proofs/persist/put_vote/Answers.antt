use Rattle.std.proofs.Common.{◌≡◌, ◌==◌, ◌&&◌, ◌++◌, ◌∷◌, [], Bool, ℕ, Option, sym, subst, ap, ◌∙◌, arith}
use Rattle.gl_rules.specs.Identity.{NodeId}
use Rattle.gl_journal.specs.Durable.{Durable}
use Rattle.gl_journal.specs.declared.record.Record.{Record}
use Rattle.gl_journal.specs.declared.record.Record.TheVariants.{Vote}
use Rattle.gl_node.specs.Batches.{Folds}
use Rattle.gl_node.specs.Kept.{is_same_vote}
use Rattle.gl_node.proofs.Folding.{folds_push, size_push, vote_folds, vote_stays}
use Rattle.gl_node.proofs.persist.put_vote.Goals as goal

-- the test, of the state that was there
turn_of : (m : Durable) (v view : ℕ) (w vote : Option NodeId) (t : Bool) → m.view ≡ v → m.vote ≡ w → (v == view && is_same_vote w vote) ≡ t → (m.view == view && is_same_vote m.vote vote) ≡ t
turn_of m v view w vote t at given is = ap (λ (u : ℕ). u == view && is_same_vote m.vote vote) at ∙ ap (λ (u : Option NodeId). v == view && is_same_vote u vote) given ∙ is

pub returns-then-is_same_view_vote-clause-folds : goal.returns-then-is_same_view_vote-clause-folds
returns-then-is_same_view_vote-clause-folds c goes_on d m so_far at given rises =
    let before = c.args.before.now in
    let is = turn_of m before.view c.args.view before.vote c.args.vote.now _ at given (sym c.is_same_view_vote.ensures ∙ c.if-is_same_view_vote.true) in
    subst (Folds goes_on c.args.records.now.items d) (sym (vote_stays m c.args.view c.args.vote.now is)) so_far

pub returns-clause-folds : goal.returns-clause-folds
returns-clause-folds c goes_on d m so_far at given rises =
    let before = c.args.before.now in
    let is = turn_of m before.view c.args.view before.vote c.args.vote.now _ at given (sym c.is_same_view_vote.ensures ∙ c.if-is_same_view_vote.false) in
    folds_push goes_on c.args.records.now.items c.push_reserved.new.self.items (Vote c.args.view c.args.vote.now) d m _
    (c.push_reserved.ensures.items ∙ ap (λ (one : Record). c.args.records.now.items ++ one ∷ []) c.record_of_turn.ensures.value) so_far
    (vote_folds goes_on m c.args.view c.args.vote.now (omega (arith, at, rises)) is)

pub returns-clause-size : goal.returns-clause-size
returns-clause-size c =
    let more = size_push c.args.records.now.items c.push_reserved.new.self.items c.record_of_turn.result c.push_reserved.ensures.items in
    omega (arith, more, c.record_of_turn.ensures.size)
