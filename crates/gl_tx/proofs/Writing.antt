-- What is seen after the write set of a request.
use Rattle.std.proofs.Common.{◌≡◌, ◌≤◌, ℕ, ◌+◌, ◌-◌, List, [], ◌∷◌, Option, Result, Ok, Err, OnOk, OnErr, IsTrue, sym, ◌∙◌, ap, subst, arith, length}
use Rattle.std.specs.declared.cmp.Ordering.{Ordering}
use Rattle.std.specs.declared.cmp.Ordering.TheVariants.{Less, Equal, Greater}
use Rattle.gl_vmaps.specs.Growth.{gained, lost}
use Rattle.gl_vmaps.specs.LastWrite.{value_after}
use Rattle.gl_vmaps.specs.Kept.{Kept}
use Rattle.gl_vmaps.specs.Standing.{StandsFor}
use Rattle.gl_vmaps.specs.Tables.{Tables, wrote_all, value_in, size_of}
use Rattle.gl_vmaps.specs.Versions.{Placed, written_by}
use Rattle.gl_vmaps.specs.Writes.{write_order, is_ordered, put_before, with_write}
use Rattle.gl_vmaps.specs.declared.write.Write.{Write}
use Rattle.gl_vmaps.proofs.StandingLaws.{value_of-stands, count_of-stands}
use Rattle.gl_vmaps.proofs.TablesLaws.{value_in-wrote_all}
use Rattle.gl_vmaps.proofs.WriteLaws.{last_write-find, size_of-wrote_all}
use Rattle.gl_base.specs.Answers.{Answers}
use Rattle.gl_base.specs.declared.or_no_memory.OrNoMemory.{OrNoMemory}
use Rattle.gl_tx.specs.Run.{run_seeing, run}
use Rattle.gl_tx.specs.declared.abort.Abort.{Abort}
use Rattle.gl_tx.specs.declared.request.Operation.{Operation}
use Rattle.gl_tx.specs.declared.runs.Ran.{Ran}
use Rattle.gl_tx.specs.Sees.{Sees, sees_in, sees_of, write_to, seen_after}

-- What is seen after a write set on a finite map is the finite map that the set was written to.
pub seen_after-sees_in : (t : Tables) (ws : List Write) → IsTrue (is_ordered ws) → seen_after (sees_in t) ws ≡ sees_in (wrote_all t ws)
seen_after-sees_in t ws ordered = λ i. record { value = λ map key. sym (value_same map key) i; size = λ map. size_same map i }
  where
    value_same : (map key : List ℕ) → value_in (wrote_all t ws) map key ≡ value_after (write_to map key ws) (value_in t map key)
    value_same map key = value_in-wrote_all t ws map key ∙ ap (λ (o : Option Write). value_after o (value_in t map key)) (last_write-find map key ws ordered)

    size_same : (map : List ℕ) → size_of t map + gained (value_in t) map ws - lost (value_in t) map ws ≡ size_of (wrote_all t ws) map
    size_same map = let all = size_of-wrote_all t ws map ordered in omega (arith, all)

-- What is seen of tables is what is seen of the finite map that the writes make for which they
-- stand.
pub sees_of-stands : (t : Kept) (ps : List Placed) → StandsFor t ps → sees_of t ≡ sees_in (written_by ps)
sees_of-stands t ps stands = λ i. record { value = λ map key. value_of-stands t ps stands map key i; size = λ map. count_of-stands t ps stands map i }

-- a set has one write more at most with one more
pub length-with_write : (ws : List Write) (w : Write) → length (with_write ws w) ≤ length ws + 1
length-with_write [] w = omega arith
length-with_write (x ∷ xs) w = go (write_order w x) (length-with_write xs w)
  where
    go : (o : Ordering) → length (with_write xs w) ≤ length xs + 1 → length (put_before o w x xs (with_write xs w)) ≤ length (x ∷ xs) + 1
    go Less more = omega arith
    go Equal more = omega arith
    go Greater more = omega arith

pub length-put : {E : Type 0} (r : Result (Unit {0}) E) (old new : List Write) (w : Write) →
    OnOk r (new ≡ with_write old w) → OnOk r (length new ≤ length old + 1)
length-put (Ok x) old new w put = rw put (length-with_write old w)
length-put (Err e) old new w put = tt

-- what holds of a set before a put and of the expected set holds after the put
pub after_put : {E : Type 0} (P : List Write → Type 0) (r : Result (Unit {0}) E) (old expected new : List Write) →
    OnOk r (new ≡ expected) → OnErr r (new ≡ old) → P old → P expected → P new
after_put P (Ok x) old expected new put kept before after = subst P (sym put) after
after_put P (Err e) old expected new put kept before after = subst P (sym kept) before

-- What a run gives on tables it gives on the finite map that the writes make for which they stand.
pub run-stands : (r : Result Ran (OrNoMemory Abort)) (os : List Operation) (t : Kept) (ps : List Placed) → StandsFor t ps →
    Answers (λ ran. ran) r (run_seeing os (sees_of t)) → Answers (λ ran. ran) r (run os (written_by ps))
run-stands r os t ps stands h = subst (λ (s : Sees). Answers (λ ran. ran) r (run_seeing os s)) (sees_of-stands t ps stands) h
