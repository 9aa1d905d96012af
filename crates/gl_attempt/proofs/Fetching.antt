-- One more note keeps an attempt under way.
use Rattle.std.proofs.Common.{◌≡◌, ◌≤◌, List, [], ◌∷◌, ◌++◌, Some, refl, sym, ap, ◌∙◌, length}
use Rattle.gl_tx.specs.Sees.{Sees}
use Rattle.gl_attempt.specs.Asks.{next_ask, note_of, ask_of}
use Rattle.gl_attempt.specs.Attempt.{IsUnderWay}
use Rattle.gl_attempt.specs.declared.notes.Ask.{Ask}
use Rattle.gl_attempt.specs.declared.notes.Ask.TheVariants as asks
use Rattle.gl_attempt.specs.declared.notes.Note.{Note}
use Rattle.gl_tx.specs.declared.request.Operation.{Operation}
use Rattle.gl_attempt.proofs.Bounded.{AreAsked-push, length-AreAsked}

ask_of-note_of : (s : Sees) (a : Ask) → ask_of (note_of s a) ≡ a
ask_of-note_of s (asks.Row map key) = refl
ask_of-note_of s (asks.Map map) = refl

pub IsUnderWay-push : (s : Sees) (os : List Operation) (ns : List Note) (a : Ask) (n : Note) → IsUnderWay os ns → Some a ≡ next_ask os ns → n ≡ note_of s a →
    IsUnderWay os (ns ++ n ∷ [])
IsUnderWay-push s os ns a n before next is = record {
  asked = AreAsked-push os ns n before.asked (sym next ∙ ap (λ (x : Ask). Some x) (sym (ap ask_of is ∙ ask_of-note_of s a)));
  few = before.few;
}

pub length-under_way : (os : List Operation) (ns : List Note) → IsUnderWay os ns → length ns ≤ 128
length-under_way os ns is = length-AreAsked os ns is.few is.asked
