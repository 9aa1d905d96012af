-- One deed more of a disk in memory.
use Rattle.std.proofs.Common.{◌≡◌, List, [], ◌∷◌, ◌++◌, refl, ap, ◌∙◌}
use Rattle.gl_outside.specs.Disk.{Step}
use Rattle.ccfg.specs.Disk.{past_after, past_of, step_of}
use Rattle.ccfg.specs.declared.schedule_nodes.disk.Deed.{Deed}

after_push : (past : List Step) (deeds : List Deed) (deed : Deed) → past_after past (deeds ++ deed ∷ []) ≡ step_of deed ∷ past_after past deeds
after_push past [] deed = refl
after_push past (one ∷ deeds) deed = after_push (step_of one ∷ past) deeds deed

pub grown : (old new : List Deed) (deed : Deed) (step : Step) → new ≡ old ++ deed ∷ [] → step_of deed ≡ step → past_of new ≡ step ∷ past_of old
grown old new deed step is same = ap past_of is ∙ after_push [] old deed ∙ ap (λ (s : Step). s ∷ past_of old) same
