use Rattle.gl_commands.proofs.WordLemmas.{entered_as, faultless, kind_found}
use Rattle.gl_commands.proofs.words.matches_of.Goals as goal

pub returns-in-Ok-try_get_matches_from-clause-found : goal.returns-in-Ok-try_get_matches_from-clause-found
returns-in-Ok-try_get_matches_from-clause-found c =
    let h = c.in-Ok-try_get_matches_from.ensures in
    (faultless _ _ c.in-Ok.ensures.0 h.kinds, entered_as _ _ _ c.in-Ok.ensures.0 h.matches)

pub returns : goal.returns
returns c =
    let h = c.in-Err-try_get_matches_from.ensures in
    record { found = tt; refused = kind_found _ _ _ _ c.in-Ok.ensures.0 c.kind.ensures h.kinds c.in_default.not-OutOfMemory }
