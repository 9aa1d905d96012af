use Rattle.std.proofs.Common.{◌≡◌, [], ◌∷◌, ◌∙◌, ap, sym, subst, reverse}
use Rattle.std.proofs.lemmas.List.{reverse-append}
use Rattle.gl_vmaps.specs.Chains.{maps_by, rows_in, found_in, with_versions, without_last, newest_place}
use Rattle.gl_vmaps.specs.Journal.{CanPop}
use Rattle.gl_vmaps.proofs.journal.pop_last.Goals as goal

pub pop_version-requires : goal.pop_version-requires
pop_version-requires c =
    let w = c.in-Some.last in
    let maps = maps_by c.args.maps.now.entries in
    let split : reverse c.args.journal.now.items ≡ w ∷ reverse c.pop_back.new.self.items =
    ap reverse c.in-Some.ensures.items ∙ reverse-append c.pop_back.new.self.items (w ∷ []) in
    let last = subst (CanPop maps) split c.requires in
    last.before
    ∙ ap (λ name. newest_place (rows_in (with_versions maps name w.key (without_last (found_in maps name w.key))) name)) (sym c.as_slice.ensures.value)
    ∙ ap (λ key. newest_place (rows_in (with_versions maps c.as_slice.result.now key (without_last (found_in maps c.as_slice.result.now key))) c.as_slice.result.now)) (sym c.as_slice-in-Some.ensures.value)
