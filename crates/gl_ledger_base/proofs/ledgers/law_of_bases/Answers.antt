use Rattle.gl_ledger_base.proofs.LedgersHeld.{held_next, whole_base}
use Rattle.gl_ledger_base.proofs.LedgersReadable.{readable, readable_or_none}
use Rattle.gl_ledger_base.proofs.LedgersWeaker.{audited_more, audited_whole, whole_audited}
use Rattle.gl_ledger_base.proofs.ledgers.law_of_bases.Goals as goal

pub returns : goal.returns
returns c = record {
  whole = whole_base;
  next = held_next;
  more = audited_more;
  no_base = λ layers ledger. (whole_audited layers ledger, audited_whole layers 0 ledger);
  readable = readable;
  read = readable_or_none;
}
