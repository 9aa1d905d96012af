-- A run as far as it has come, and what is left of it.
use Rattle.std.proofs.Common.{◌≡◌, ℕ, suc, ◌+◌, ◌<◌, List, ◌∷◌, ◌++◌, Result, Ok, Err, sym, ◌∙◌, ap, length, drop, drop-cons, get_or, add-one}
use Rattle.gl_tx.specs.Sees.{Sees}
use Rattle.gl_vmaps.specs.declared.write.Write.{Write}
use Rattle.gl_tx.specs.Run.{run_from}
use Rattle.gl_base.specs.Answers.{Fails}
use Rattle.gl_base.specs.declared.or_no_memory.OrNoMemory.{OrNoMemory}
use Rattle.gl_base.specs.declared.or_no_memory.OrNoMemory.TheVariants.{NoMemory, Fault}
use Rattle.gl_tx.specs.declared.runs.Ran.{Ran}
use Rattle.gl_tx.specs.declared.request.Operation.{Operation}
use Rattle.gl_tx.specs.declared.request.Answer.{Answer}
use Rattle.gl_tx.specs.declared.abort.Abort.{Abort}

-- The answers so far, and then those of the rest.
abbrev pub so_far : List Answer → Result Ran Abort → Result Ran Abort
so_far answers (Ok ran) = Ok (record ran { reply = answers ++ ran.reply })
so_far answers (Err abort) = Err abort

-- where the operation that is next fails, the whole request does
pub aborted_next : (answers : List Answer) (operations : List Operation) (operation : Operation) (i : ℕ) (s : Sees) (ws : List Write) (total : Result Ran Abort) (e : OrNoMemory Abort) →
    i < length operations → operation ≡ get_or operations i operation →
    so_far answers (run_from (suc i) (drop i operations) s ws) ≡ total →
    ((rest : List Operation) → Fails e (run_from (i + 1) (operation ∷ rest) s ws)) → Fails e total
aborted_next answers operations operation i s ws total NoMemory within is reported fails = tt
aborted_next answers operations operation i s ws total (Fault abort) within is reported fails =
    let next : drop i operations ≡ operation ∷ drop (suc i) operations =
    drop-cons operations i operation within ∙ ap (λ (o : Operation). o ∷ drop (suc i) operations) (sym is) in
    sym reported ∙ ap (λ (os : List Operation). so_far answers (run_from (suc i) os s ws)) next
    ∙ ap (λ (n : ℕ). so_far answers (run_from n (operation ∷ drop (suc i) operations) s ws)) (sym (add-one i))
    ∙ ap (so_far answers) (fails (drop (suc i) operations))
