use Rattle.std.proofs.Common.{List, [], ◌∷◌, ◌++◌, ℕ, ap, ◌∙◌}
use Rattle.std.specs.Prelude.{Vec}
use Rattle.std.specs.declared.alloc.Global.{Global}
use Rattle.gl_outside.specs.Disk.{Kept}
use Rattle.ccfg.specs.Disk.{past_of}
use Rattle.ccfg.specs.declared.schedule_nodes.disk.Deed.{Deed}
use Rattle.ccfg.specs.declared.schedule_nodes.disk.Deed.TheVariants.{Synced}
use Rattle.ccfg.proofs.schedule_nodes.disk.begun.Goals as goal

pub returns : goal.returns
returns c =
    ap past_of (c.then.ensures ∙ ap (λ (deeds : List Deed). deeds ++ Synced c.of.result ∷ []) c.new.ensures)
    ∙ ap (λ (v : Vec ℕ Global). Kept v.items ∷ []) c.of.ensures
