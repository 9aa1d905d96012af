use Rattle.std.proofs.Common.{sym, ap, ◌∙◌, arith}
use Rattle.gl_hss.specs.Levels.{levels_named}
use Rattle.gl_hss.proofs.LevelLemmas.{found_as_named}
use Rattle.gl_hss.proofs.levels.Levels.of_key.Goals as goal

pub returns : goal.returns
returns c = λ levels.
    let is = c.levels_named.ensures ∙ ap levels_named c.number_at.ensures in
    let h = found_as_named c.args.key.now levels c.fits-key (omega (arith, c.told-key)) in (
      λ found. h.0 (sym is ∙ found),
      λ named. is ∙ h.1 named,
    )
