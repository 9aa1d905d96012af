-- A disk in memory as contracts see it.
use Rattle.std.specs.Prelude.{ℕ, ◌≤◌, List, [], ◌∷◌, length}
use Rattle.gl_outside.specs.Disk.{IsImage, Kept, Step, Touched}
use Rattle.ccfg.specs.declared.schedule_nodes.disk.Deed.{Deed}
use Rattle.ccfg.specs.declared.schedule_nodes.disk.Deed.TheVariants.{Synced, Wrote}

-- The bytes that reads give, what was done to them, the newest step first, and the place up to
-- which writes take no memory.
pub record HeldDisk : Type 0 where
  pub bytes : List ℕ
  pub past : List Step
  pub room_end : ℕ

abbrev pub step_of : Deed → Step
step_of (Wrote at count) = Touched at count
step_of (Synced bytes) = Kept bytes.value.items

-- The deeds stand in order, after older steps.
abbrev pub past_after : List Step → List Deed → List Step
past_after past [] = past
past_after past (deed ∷ deeds) = past_after (step_of deed ∷ past) deeds

abbrev pub past_of : List Deed → List Step
past_of deeds = past_after [] deeds

-- What reads give is among what a stop may leave, and there is as much room as was taken.
pub record IsHeld (bytes : List ℕ) (capacity room_end : ℕ) (past : List Step) : Type 0 where
  pub image : IsImage past bytes
  pub within : length bytes ≤ room_end
  pub fits : room_end ≤ capacity
