use Rattle.std.proofs.Common.{refl, ap}
use Rattle.gl_outside.specs.Plan.{faults_of}
use Rattle.gl_outside.specs.SureDisk.{disk_past}
use Rattle.gl_outside.proofs.Results.{on_err_too}
use Rattle.gl_outside.proofs.mem_disk.MemDiskDisk.TheImpl.Goals as goal

-- The disk is honest, so what is told of its bytes holds.

pub len-tells : goal.len-tells
len-tells g c = record {
  len = λ h. c.ensures.len;
  image = λ h. c.ensures.image;
  bytes = λ h. c.ensures.bytes;
  past = λ h. c.ensures.past;
  room = c.ensures.room;
  faults = c.ensures.faults;
}

pub read_at-asks : goal.read_at-asks
read_at-asks g c = record { within = c.requires.within refl }

pub read_at-tells : goal.read_at-tells
read_at-tells g c = record {
  read = λ h. c.ensures.read;
  bytes = λ h. c.ensures.bytes;
  past = λ h. c.ensures.past;
  room = c.ensures.room;
  faults = c.ensures.faults;
}

pub write_at-asks : goal.write_at-asks
write_at-asks g c = record {
  joined = c.requires.joined refl;
  room = c.requires.room;
  calls = c.requires.calls;
}

pub write_at-tells : goal.write_at-tells
write_at-tells g c = record {
  written = λ h. c.ensures.written;
  past = λ h. c.ensures.past;
  room = c.ensures.room;
  faults = c.ensures.faults;
}

pub sync-tells : goal.sync-tells
sync-tells g c = record {
  kept = λ h. c.ensures.kept;
  bytes = λ h. c.ensures.bytes;
  failed = λ h. on_err_too c.result (ap disk_past) c.ensures.failed;
  room = c.ensures.room;
  faults = c.ensures.faults;
}

pub room-tells : goal.room-tells
room-tells g c = record {
  room = c.ensures.room;
  kept = c.ensures.kept;
  bytes = λ h. c.ensures.bytes;
  past = λ h. c.ensures.past;
  faults = ap faults_of c.ensures.plan;
}
