use Rattle.std.proofs.Common.{List, [], ◌∷◌, Err, map, refl, ap, ◌∙◌}
use Rattle.std.proofs.lemmas.Result.{err_from_is_err_and}
use Rattle.gl_serve.specs.declared.session.SessionError.{SessionError}
use Rattle.gl_serve.specs.declared.node.OwnEvent.TheVariants.{Replicate, Reserve, Sign, Advance, Evidence}
use Rattle.gl_serve.specs.Works.{Work, Beat, Lead, tick_events}
use Rattle.gl_serve.proofs.WorkingLaws.{ran_then, went_first, went_end, went_then, went_is}
use Rattle.gl_serve.proofs.Draining.{tick_works}
use Rattle.gl_serve.proofs.work.tick.Goals as goal

pub returns-in_err-beat-clause-went : goal.returns-in_err-beat-clause-went
returns-in_err-beat-clause-went g c =
    let p = err_from_is_err_and c.from_residual.result c.from_residual.ensures.1 in
    went_first _ _ _ _ _ (Beat ∷ []) (map Lead (tick_events c.args.settings.now.peers.now)) _ _ c.from_residual.result refl (p.1 ∙ ap (λ (e : SessionError). Err e) p.2) c.in_err-beat.ensures.went

pub returns-in_err-replicate-clause-went : goal.returns-in_err-replicate-clause-went
returns-in_err-replicate-clause-went g c =
    let p = err_from_is_err_and c.from_residual-in_err-replicate.result c.from_residual-in_err-replicate.ensures.1 in
    went_end _ _ _ _ _ _ (Beat ∷ []) _ (Lead Reserve ∷ Lead Sign ∷ Lead Advance ∷ Lead Evidence ∷ []) _ _ c.from_residual-in_err-replicate.result
    (ap (λ (t : List Work). Beat ∷ t) (tick_works c.args.settings.now.peers.now)) (p.1 ∙ ap (λ (e : SessionError). Err e) p.2) c.in_ok-beat.ensures.went.0 c.in_err-replicate.ensures.went

pub returns-in_err-lead-clause-went : goal.returns-in_err-lead-clause-went
returns-in_err-lead-clause-went g c =
    let p = err_from_is_err_and c.from_residual-in_err-lead.result c.from_residual-in_err-lead.ensures.1 in
    let first = ran_then _ _ _ _ _ _ (Beat ∷ []) (map Lead (map Replicate c.args.settings.now.peers.now)) [] [] _ _ c.in_ok-beat.ensures.went.0 c.in_ok-replicate.ensures.went.0 in
    went_end _ _ _ _ _ _ _ (Lead Reserve ∷ []) (Lead Sign ∷ Lead Advance ∷ Lead Evidence ∷ []) _ _ c.from_residual-in_err-lead.result
    (ap (λ (t : List Work). Beat ∷ t) (tick_works c.args.settings.now.peers.now)) (p.1 ∙ ap (λ (e : SessionError). Err e) p.2) first c.in_err-lead.ensures.went

pub returns-in_err-lead-2-clause-went : goal.returns-in_err-lead-2-clause-went
returns-in_err-lead-2-clause-went g c =
    let p = err_from_is_err_and c.from_residual-in_err-lead-2.result c.from_residual-in_err-lead-2.ensures.1 in
    let first = ran_then _ _ _ _ _ _ (Beat ∷ []) (map Lead (map Replicate c.args.settings.now.peers.now)) [] [] _ _ c.in_ok-beat.ensures.went.0 c.in_ok-replicate.ensures.went.0 in
    let after = went_end _ _ _ _ _ _ (Lead Reserve ∷ []) (Lead Sign ∷ []) (Lead Advance ∷ Lead Evidence ∷ []) (Lead Reserve ∷ Lead Sign ∷ Lead Advance ∷ Lead Evidence ∷ []) _ c.from_residual-in_err-lead-2.result
    refl (p.1 ∙ ap (λ (e : SessionError). Err e) p.2) c.in_ok-lead.ensures.went.0 c.in_err-lead-2.ensures.went in
    went_is _ _ _ _ _ _ _ _ c.from_residual-in_err-lead-2.result (ap (λ (t : List Work). Beat ∷ t) (tick_works c.args.settings.now.peers.now))
    (went_then _ _ _ _ _ _ _ _ [] [] c.from_residual-in_err-lead-2.result first after)

pub returns-in_err-lead-3-clause-went : goal.returns-in_err-lead-3-clause-went
returns-in_err-lead-3-clause-went g c =
    let p = err_from_is_err_and c.from_residual-in_err-lead-3.result c.from_residual-in_err-lead-3.ensures.1 in
    let first = ran_then _ _ _ _ _ _ (Beat ∷ []) (map Lead (map Replicate c.args.settings.now.peers.now)) [] [] _ _ c.in_ok-beat.ensures.went.0 c.in_ok-replicate.ensures.went.0 in
    let second = ran_then _ _ _ _ _ _ (Lead Reserve ∷ []) (Lead Sign ∷ []) [] [] _ _ c.in_ok-lead.ensures.went.0 c.in_ok-lead-2.ensures.went.0 in
    let after = went_end _ _ _ _ _ _ (Lead Reserve ∷ Lead Sign ∷ []) (Lead Advance ∷ []) (Lead Evidence ∷ []) (Lead Reserve ∷ Lead Sign ∷ Lead Advance ∷ Lead Evidence ∷ []) _ c.from_residual-in_err-lead-3.result
    refl (p.1 ∙ ap (λ (e : SessionError). Err e) p.2) second c.in_err-lead-3.ensures.went in
    went_is _ _ _ _ _ _ _ _ c.from_residual-in_err-lead-3.result (ap (λ (t : List Work). Beat ∷ t) (tick_works c.args.settings.now.peers.now))
    (went_then _ _ _ _ _ _ _ _ [] [] c.from_residual-in_err-lead-3.result first after)

pub returns-clause-went : goal.returns-clause-went
returns-clause-went g c =
    let first = ran_then _ _ _ _ _ _ (Beat ∷ []) (map Lead (map Replicate c.args.settings.now.peers.now)) [] [] _ _ c.in_ok-beat.ensures.went.0 c.in_ok-replicate.ensures.went.0 in
    let second = ran_then _ _ _ _ _ _ (Lead Reserve ∷ []) (Lead Sign ∷ []) [] [] _ _ c.in_ok-lead.ensures.went.0 c.in_ok-lead-2.ensures.went.0 in
    let third = ran_then _ _ _ _ _ _ _ (Lead Advance ∷ []) [] [] _ _ second c.in_ok-lead-3.ensures.went.0 in
    let fourth = went_then _ _ _ _ _ _ _ (Lead Evidence ∷ []) [] [] c.lead-4.result third c.lead-4.ensures.went in
    went_is _ _ _ _ _ _ _ _ c.lead-4.result (ap (λ (t : List Work). Beat ∷ t) (tick_works c.args.settings.now.peers.now))
    (went_then _ _ _ _ _ _ _ _ [] [] c.lead-4.result first fourth)
