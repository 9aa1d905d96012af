-- The objects of a run of a command, each before the run and after it.
use Rattle.std.specs.Prelude.{◌≡◌, ◌≢◌, ℕ, List, Option, Bool}
use Rattle.gl_outside.specs.Disk.{Step}
use Rattle.gl_outside.specs.Link.{Exchange, Inward}
use Rattle.ccfg.specs.ExpectedOutput.{Written}
use Rattle.ccfg.specs.declared.ending.Ending.{Ending}
use Rattle.ccfg.specs.declared.ending.Ending.TheVariants.{DiskFailed}

-- A source: what it had to give, where it tells that, whether it gave its end, and its counts of
-- faults.
pub record SourceRun (S : Type 0) : Type 0 where
  pub before : S
  pub after : S
  pub given : Option (List ℕ)
  pub ended : Bool
  pub faults : ℕ
  pub faults_now : ℕ

abbrev pub source_run : {S : Type 0} → (S → Option (List ℕ)) → (S → Bool) → (S → ℕ) → S → S
    → SourceRun S
source_run left ended faults before after = record {
  before = before;
  after = after;
  given = left before;
  ended = ended after;
  faults = faults before;
  faults_now = faults after;
}

-- A sink: what it held and holds, where it tells that, and its counts of faults.
abbrev pub sink_run : {K : Type 0} → (K → Option (List ℕ)) → (K → ℕ) → K → K → Written
sink_run holds faults before after = record {
  held = holds before;
  holds = holds after;
  faults = faults before;
  faults_now = faults after;
}

-- A disk, with its bytes, what was done to them, and its count of faults.
pub record DiskRun (D : Type 0) : Type 0 where
  pub honest : Bool
  pub bytes : D → List ℕ
  pub past : D → List Step
  pub faults : D → ℕ
  pub before : D
  pub after : D

abbrev pub disk_run : {D : Type 0} → Bool → (D → List ℕ) → (D → List Step) → (D → ℕ) → D → D
    → DiskRun D
disk_run honest bytes past faults before after = record {
  honest = honest;
  bytes = bytes;
  past = past;
  faults = faults;
  before = before;
  after = after;
}

-- A link, with what was sent and asked for, and what comes in.
pub record LinkRun (L : Type 0) : Type 0 where
  pub honest : Bool
  pub past : L → List Exchange
  pub inward : L → Inward
  pub before : L
  pub after : L

abbrev pub link_run : {L : Type 0} → Bool → (L → List Exchange) → (L → Inward) → L → L → LinkRun L
link_run honest past inward before after = record {
  honest = honest;
  past = past;
  inward = inward;
  before = before;
  after = after;
}

-- What each command is handed. `node` is handed a link besides.
pub record Run (S D : Type 0) : Type 0 where
  pub source : SourceRun S
  pub sink : Written
  pub disk : DiskRun D

-- The source is as it was: it wasn't read.
abbrev pub IsUnread : {S : Type 0} → SourceRun S → Type 0
IsUnread source = source.after ≡ source.before

-- The disk isn't used: it is as it was, and no run ends by its failure.
pub record LeavesDisk {D : Type 0} (disk : DiskRun D) (e : Ending) : Type 0 where
  pub same : disk.after ≡ disk.before
  pub never : e ≢ DiskFailed
