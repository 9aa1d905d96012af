-- A load's request is one, runs, and writes one row, which is none of the service.
use Rattle.std.proofs.Common.{◌≡◌, ℕ, ◌+◌, ◌*◌, ◌%◌, ◌≤◌, List, [], ◌∷◌, ◌++◌, length, length-append, nat_le, Some, Ok, true, refl, arith}
use Rattle.std.specs.List.{flat_map}
use Rattle.std.proofs.lemmas.Bool.{and_from}
use Rattle.std.proofs.lemmas.Bool.Decides.{nat_tests}
use Rattle.sha2.proofs.Facts256.{length-sha256}
use Rattle.gl_base.specs.LittleEndian.{little_endian}
use Rattle.gl_base.proofs.LittleEndianLaws.{length-little_endian}
use Rattle.gl_hss.specs.Bytes.{u32str}
use Rattle.gl_hss.proofs.Octets.{u32str_bytes}
use Rattle.gl_hss.proofs.Spans.{length-u32str}
use Rattle.gl_vmaps.specs.Name.{is_key, is_value}
use Rattle.gl_vmaps.specs.Tables.{Tables, wrote_all}
use Rattle.gl_vmaps.specs.declared.write.Write.{Write}
use Rattle.gl_tx.specs.Request.{is_request, operation_bytes, reply_bytes}
use Rattle.gl_tx.specs.Run.{run}
use Rattle.gl_tx.specs.declared.request.Answer.TheVariants as answers
use Rattle.gl_tx.specs.declared.request.Operation.TheVariants.{Put}
use Rattle.gl_tx.specs.declared.runs.Ran.{Ran}
use Rattle.gl_entry.specs.Entry.{body_bytes, body_limit, content_bytes, write_bytes}
use Rattle.gl_entry.specs.declared.entry.Entry.{Entry}
use Rattle.gl_ledger.specs.Ledger.{application_entry}
use Rattle.gl_ledger.specs.ServiceRow.{service_state}
use Rattle.gl_load.specs.Requests.{load_map, load_operation, load_request, word}

-- its one write
abbrev pub load_write : List ℕ → ℕ → Write
load_write seed n =
    record { map = load_map; key = u32str (word seed (2 * n) % 1000); value = Some (u32str (word seed (2 * n + 1))) }

-- what it comes to: it answers nothing but that it is done
abbrev pub load_ran : List ℕ → ℕ → Ran
load_ran seed n = record { reply = answers.Done ∷ []; writes = load_write seed n ∷ [] }

four_key : (n : ℕ) → is_key (u32str n) ≡ true
four_key n =
    let long = length-u32str n in
    let some : nat_le 1 (length (u32str n)) ≡ true = grind (arith, nat_tests) in
    let few : nat_le (length (u32str n)) 1024 ≡ true = grind (arith, nat_tests) in
    and_from _ _ (and_from _ _ some few) (u32str_bytes n)

four_value : (n : ℕ) → is_value (u32str n) ≡ true
four_value n =
    let long = length-u32str n in
    let few : nat_le (length (u32str n)) 65536 ≡ true = grind (arith, nat_tests) in
    and_from _ _ few (u32str_bytes n)

pub load_is_request : (seed : List ℕ) (n : ℕ) → is_request (load_request seed n) ≡ true
load_is_request seed n =
    and_from _ _ refl
    (and_from _ _ (and_from _ _ (and_from _ _ refl (four_key (word seed (2 * n) % 1000))) (four_value (word seed (2 * n + 1)))) refl)

pub load_runs : (seed : List ℕ) (n : ℕ) (tables : Tables) → run (load_request seed n) tables ≡ Ok (load_ran seed n)
load_runs seed n tables = refl

-- the service's state stays
pub load_state : (seed : List ℕ) (n : ℕ) (tables : Tables) → service_state (wrote_all tables (load_write seed n ∷ [])) ≡ service_state tables
load_state seed n tables = refl

-- ---- how many bytes its entry has

put_length : (map key value : List ℕ) → length (operation_bytes (Put map key value)) ≡ length map + length key + length value + 8
put_length map key value =
    let name : List ℕ = little_endian 1 (length map) ++ map in
    let row : List ℕ = little_endian 2 (length key) ++ key in
    let rest : List ℕ = little_endian 4 (length value) ++ value in
    omega (
      arith,
      length-append ((3 ∷ name) ++ row) rest,
      length-append (3 ∷ name) row,
      length-append (little_endian 1 (length map)) map,
      length-append (little_endian 2 (length key)) key,
      length-append (little_endian 4 (length value)) value,
      length-little_endian 1 (length map),
      length-little_endian 2 (length key),
      length-little_endian 4 (length value),
    )

write_length : (map key value : List ℕ) → length (write_bytes (record { map = map; key = key; value = Some value })) ≡ length map + length key + length value + 8
write_length map key value =
    let name : List ℕ = little_endian 1 (length map) ++ map in
    let row : List ℕ = little_endian 2 (length key) ++ key in
    let rest : List ℕ = little_endian 4 (length value) ++ value in
    omega (
      arith,
      length-append (name ++ row) (1 ∷ rest),
      length-append name row,
      length-append (little_endian 1 (length map)) map,
      length-append (little_endian 2 (length key)) key,
      length-append (little_endian 4 (length value)) value,
      length-little_endian 1 (length map),
      length-little_endian 2 (length key),
      length-little_endian 4 (length value),
    )

body_length : (e : Entry) → length (body_bytes e) ≡ length (content_bytes e.content) + length (flat_map write_bytes e.writes) + length e.claims + 21
body_length e = simp (length-append, length-little_endian) (omega arith)

-- its entry is far smaller than an entry may be
pub load_small : (seed : List ℕ) (n : ℕ) (ledger : List Entry) (view : ℕ) → length (body_bytes (application_entry ledger view (load_request seed n) (load_ran seed n))) ≤ body_limit
load_small seed n ledger view =
    let key : List ℕ = u32str (word seed (2 * n) % 1000) in
    let value : List ℕ = u32str (word seed (2 * n + 1)) in
    let written : List ℕ = write_bytes (load_write seed n) in
    let asked : List ℕ = operation_bytes (load_operation seed n) in
    omega (
      arith,
      body_length (application_entry ledger view (load_request seed n) (load_ran seed n)),
      length-append (little_endian 2 1) (asked ++ []),
      length-little_endian 2 1,
      length-append asked [],
      length-append written [],
      put_length load_map key value,
      write_length load_map key value,
      length-u32str (word seed (2 * n) % 1000),
      length-u32str (word seed (2 * n + 1)),
      length-sha256 (reply_bytes (answers.Done ∷ [])),
    )

pub load_short : length (reply_bytes (answers.Done ∷ [])) ≤ body_limit
load_short = simp (length-append, length-little_endian) (omega arith)
