use Rattle.gl_safety.proofs.SmallLaws.{small_lawful, small_retiring}
use Rattle.gl_safety.proofs.SmallOpening.{small_opening}
use Rattle.gl_safety.proofs.small_book.is_lawful.Goals as goal

pub returns : goal.returns
returns c = record { lawful = small_lawful; retiring = small_retiring; opening = small_opening }
