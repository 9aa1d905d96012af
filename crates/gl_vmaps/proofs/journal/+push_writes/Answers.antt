use Rattle.std.proofs.Common.{◌≡◌, ◌∷◌, reverse, ap, sym, ◌∙◌, subst, arith}
use Rattle.gl_vmaps.specs.Chains.{Maps, maps_by}
use Rattle.gl_vmaps.specs.Journal.{CanPop, popped_last, IsTidy, AreFresh, pushed, written}
use Rattle.gl_vmaps.proofs.MapLaws.{proper-by}
use Rattle.gl_vmaps.proofs.JournalLaws.{popped-pushed, is_last-pushed, pushed_tidy}
use Rattle.gl_vmaps.proofs.journal.+push_writes.Goals as goal

pub push_writes-requires : goal.push_writes-requires
push_writes-requires t c =
    let maps = maps_by c.args.maps.now.entries in
    let long = c.in-Some.ensures.cases.1 in
    let fresh : AreFresh maps c.args.place (c.in-Some.first.now ∷ c.in-Some.rest.now) = subst (AreFresh maps c.args.place) c.in-Some.ensures.cases.0 c.requires.fresh in (
      omega (arith, long, c.decreases),
      (
        subst IsTidy (sym c.in_ok-push_write.ensures.maps) (pushed_tidy maps c.args.place c.in-Some.first.now c.requires.tidy),
        subst (λ (m : Maps). AreFresh m c.args.place c.in-Some.rest.now) (sym c.in_ok-push_write.ensures.maps) fresh.2,
      ),
    )

pub pop_last-requires : goal.pop_last-requires
pop_last-requires t c =
    let maps = maps_by c.args.maps.now.entries in
    let first = c.in-Some.first.now in
    let fresh : AreFresh maps c.args.place (first ∷ c.in-Some.rest.now) = subst (AreFresh maps c.args.place) c.in-Some.ensures.cases.0 c.requires.fresh in
    let last = is_last-pushed maps c.args.place first (proper-by c.args.maps.now.entries) c.requires.tidy fresh.0 in
    let journal : reverse c.push_writes.new.journal.items ≡ written maps c.args.place first ∷ reverse c.args.journal.now.items =
    c.in-Err.ensures.kept ∙ c.in_ok-push_write.ensures.journal in
    let state : maps_by c.push_writes.new.maps.entries ≡ pushed maps c.args.place first = c.in-Err.ensures.err ∙ c.in_ok-push_write.ensures.maps in
    subst (λ (m : Maps). CanPop m (reverse c.push_writes.new.journal.items)) (sym state)
    (subst (CanPop (pushed maps c.args.place first)) (sym journal) last)

pub returns-in-Err-clause-err : goal.returns-in-Err-clause-err
returns-in-Err-clause-err t c =
    let maps = maps_by c.args.maps.now.entries in
    let first = c.in-Some.first.now in
    let journal : reverse c.push_writes.new.journal.items ≡ written maps c.args.place first ∷ reverse c.args.journal.now.items =
    c.in-Err.ensures.kept ∙ c.in_ok-push_write.ensures.journal in
    let state : maps_by c.push_writes.new.maps.entries ≡ pushed maps c.args.place first = c.in-Err.ensures.err ∙ c.in_ok-push_write.ensures.maps in
    c.pop_last.ensures.maps
    ∙ ap (popped_last (maps_by c.push_writes.new.maps.entries)) journal
    ∙ ap (λ (m : Maps). popped_last m (written maps c.args.place first ∷ reverse c.args.journal.now.items)) state
    ∙ popped-pushed maps c.args.place first (proper-by c.args.maps.now.entries) c.requires.tidy
