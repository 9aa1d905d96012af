use Rattle.gl_ledger.proofs.Sounding.{sound_empty, sound-push}
use Rattle.gl_ledger.proofs.laws.is_kept_sound.Goals as goal

pub returns : goal.returns
returns c = record {
  empty = λ layers. sound_empty layers;
  longer = λ layers ledger e sound h. sound-push layers ledger e sound h;
}
