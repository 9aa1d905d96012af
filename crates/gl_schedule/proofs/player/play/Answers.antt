use Rattle.std.proofs.Common.{◌≡◌, ◌∷◌, ◌++◌, [], ap, append_assoc, refl, sym, rules, ◌∙◌, arith}
use Rattle.std.proofs.lemmas.List.{length_push}
use Rattle.std.specs.Vec.Iter.{into_iter_items}
use Rattle.gl_lines.specs.Kept.{IsFit}
use Rattle.gl_schedule.proofs.Played.{begins, begun, goes_on_after, stops_after, line_fits}
use Rattle.gl_schedule.proofs.player.play.Goals as goal

pub returns-in-Err-write_whole-clause-prefix : goal.returns-in-Err-write_whole-clause-prefix
returns-in-Err-write_whole-clause-prefix g c = begins _ _ c.args.settings c.args.lines c.in-Err-write_whole.ensures.prefix

pub loop-line-init : goal.loop-line-init
loop-line-init g c = record {
  all = c.into_iter-line-iterator.ensures.into_iter_gives.0 ∙ c.into_vec-line-items.ensures;
  len = search rules;
  number = refl;
  played = begun _ _ c.args.settings c.args.lines c.in-Ok.machine c.in-Ok.ensures.settings c.in-Ok.ensures.is_in c.in-Ok-write_whole.ensures.whole;
  never_falls = omega (arith, c.write_whole.ensures.never_falls);
}

pub play_line-requires : goal.play_line-requires
play_line-requires g c =
    let at = c.loop-line in
    let all : at.yielded ++ c.in-Some.line ∷ into_iter_items c.next.new.self ≡ c.args.lines = ap (λ l. at.yielded ++ l) (sym c.in-Some.ensures.steps.0) ∙ at.invariant.all in
    record { fit = line_fits IsFit at.yielded _ c.args.lines c.in-Some.line all c.requires.fit }

pub returns-in-Err-play_line-clause-prefix : goal.returns-in-Err-play_line-clause-prefix
returns-in-Err-play_line-clause-prefix g c =
    let at = c.loop-line in
    let all : at.yielded ++ c.in-Some.line ∷ into_iter_items c.next.new.self ≡ c.args.lines = ap (λ l. at.yielded ++ l) (sym c.in-Some.ensures.steps.0) ∙ at.invariant.all in
    stops_after _ _ _ c.args.settings at.yielded _ c.args.lines at.number c.in-Some.line at.machine at.invariant.played all at.invariant.number c.in-Err-play_line.ensures.prefix

pub loop-line-preserved : goal.loop-line-preserved
loop-line-preserved g c =
    let at = c.loop-line in
    let all : at.yielded ++ c.in-Some.line ∷ into_iter_items c.next.new.self ≡ c.args.lines = ap (λ l. at.yielded ++ l) (sym c.in-Some.ensures.steps.0) ∙ at.invariant.all in
    record {
      all = append_assoc at.yielded (c.in-Some.line ∷ []) (into_iter_items c.next.new.self) ∙ all;
      len = search rules;
      number = omega (arith, at.invariant.number, length_push at.yielded c.in-Some.line);
      played = goes_on_after _ _ _ c.args.settings at.yielded _ c.args.lines at.number c.in-Some.line at.machine c.play_line.new.machine at.invariant.played all at.invariant.number
          c.in-Ok-play_line.ensures.whole c.in-Ok-play_line.ensures.goes_on;
      never_falls = omega (arith, at.invariant.never_falls, c.play_line.ensures.never_falls);
    }
