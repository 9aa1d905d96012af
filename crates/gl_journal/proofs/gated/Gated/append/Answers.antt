use Rattle.std.proofs.Common.{ℕ, ◌+◌, List, [], ◌∷◌, ◌++◌, length, ◌≡◌, ◌∙◌, ap, subst, arith, length-append}
use Rattle.gl_outside.specs.Disk.{Torn, Leaves, written}
use Rattle.gl_outside.proofs.Moments.{so_too, then_too}
use Rattle.gl_journal.specs.Gates.{body_of, payload_in}
use Rattle.gl_journal.specs.Stops.{OpensTo}
use Rattle.gl_journal.proofs.Appending.{staged, torn_after, torn_gate, settled_after}
use Rattle.gl_journal.proofs.Openings.{length-body}
use Rattle.gl_journal.proofs.gated.Gated.append.Goals as goal

-- a payload with its length and a closed gate
length-sealed : (payload : List ℕ) → length (body_of payload ++ 0 ∷ []) ≡ length payload + 5
length-sealed payload = omega (arith, length-append (body_of payload) (0 ∷ []), length-body payload)

pub write_kept-requires-clause-room : goal.write_kept-requires-clause-room
write_kept-requires-clause-room g c =
    let size = ap length (c.deref.ensures.value ∙ c.seal.ensures) ∙ length-sealed (payload_in c.args.batch.now) in
    let end = c.requires.room.end in
    omega (arith, size, end)

pub overflow_add-self-2 : goal.overflow_add-self-2
overflow_add-self-2 g c =
    let size = ap length c.seal.ensures ∙ length-sealed (payload_in c.args.batch.now) in
    let within = c.requires.room.within in
    omega (arith, size, within, c.len.ensures)

pub returns-in_err-write_kept-clause-any_moment : goal.returns-in_err-write_kept-clause-any_moment
returns-in_err-write_kept-clause-any_moment g c h =
    let header = c.args.self.now.header in
    let place = c.args.self.now.place in
    let payload = payload_in c.args.batch.now in
    let bytes = g.D.Disk.bytes c.args.self.now.disk in
    let past = g.D.Disk.past c.args.self.now.disk in
    let size = length c.deref.result.now in
    so_too (Torn (place + 1) size bytes) (OpensTo header bytes payload) past (g.D.Disk.past c.write_kept.new.disk) (torn_after header place bytes past (c.requires.open h) payload size) (c.write_kept.ensures.torn h)

pub returns-in_err-write_kept-2-clause-any_moment : goal.returns-in_err-write_kept-2-clause-any_moment
returns-in_err-write_kept-2-clause-any_moment g c h =
    let header = c.args.self.now.header in
    let place = c.args.self.now.place in
    let payload = payload_in c.args.batch.now in
    let bytes = g.D.Disk.bytes c.args.self.now.disk in
    let past = g.D.Disk.past c.args.self.now.disk in
    let mid = g.D.Disk.past c.write_kept.new.disk in
    let after = g.D.Disk.past c.write_kept-2.new.disk in
    let s = c.requires.open h in
    let size = length c.deref.result.now in
    let P = OpensTo header bytes payload in
    let first = so_too (Torn (place + 1) size bytes) P past mid (torn_after header place bytes past s payload size) (c.write_kept.ensures.torn h) in
    let whole : g.D.Disk.bytes c.write_kept.new.disk ≡ staged header place bytes past s payload c.requires.small =
    c.in_ok-write_kept.ensures.written h ∙ ap (written bytes (place + 1)) (c.deref.ensures.value ∙ c.seal.ensures) in
    let torn = subst (λ (l : List ℕ). Leaves (Torn place 1 l) mid after) whole (c.write_kept-2.ensures.torn h) in
    then_too P past mid after first (so_too (Torn place 1 (staged header place bytes past s payload c.requires.small)) P mid after (torn_gate header place bytes past s payload c.requires.small) torn)

pub returns-clause-any_moment : goal.returns-clause-any_moment
returns-clause-any_moment g c h =
    let header = c.args.self.now.header in
    let place = c.args.self.now.place in
    let payload = payload_in c.args.batch.now in
    let bytes = g.D.Disk.bytes c.args.self.now.disk in
    let past = g.D.Disk.past c.args.self.now.disk in
    let mid = g.D.Disk.past c.write_kept.new.disk in
    let after = g.D.Disk.past c.write_kept-2.new.disk in
    let s = c.requires.open h in
    let size = length c.deref.result.now in
    let P = OpensTo header bytes payload in
    let first = so_too (Torn (place + 1) size bytes) P past mid (torn_after header place bytes past s payload size) (c.write_kept.ensures.torn h) in
    let whole : g.D.Disk.bytes c.write_kept.new.disk ≡ staged header place bytes past s payload c.requires.small =
    c.in_ok-write_kept.ensures.written h ∙ ap (written bytes (place + 1)) (c.deref.ensures.value ∙ c.seal.ensures) in
    let torn = subst (λ (l : List ℕ). Leaves (Torn place 1 l) mid after) whole (c.write_kept-2.ensures.torn h) in
    then_too P past mid after first (so_too (Torn place 1 (staged header place bytes past s payload c.requires.small)) P mid after (torn_gate header place bytes past s payload c.requires.small) torn)

pub returns-clause-open : goal.returns-clause-open
returns-clause-open g c h =
    let header = c.args.self.now.header in
    let place = c.args.self.now.place in
    let payload = payload_in c.args.batch.now in
    let bytes = g.D.Disk.bytes c.args.self.now.disk in
    let past = g.D.Disk.past c.args.self.now.disk in
    let s = c.requires.open h in
    let size = ap length c.seal.ensures ∙ length-sealed payload in
    let is : g.D.Disk.bytes c.write_kept-2.new.disk ≡ written (staged header place bytes past s payload c.requires.small) place (1 ∷ []) =
    c.in_ok-write_kept-2.ensures.written h ∙ ap (λ (l : List ℕ). written l place (1 ∷ [])) (c.in_ok-write_kept.ensures.written h ∙ ap (written bytes (place + 1)) (c.deref.ensures.value ∙ c.seal.ensures)) in
    (settled_after header place bytes past s payload c.requires.small (place + c.len.result) (g.D.Disk.bytes c.write_kept-2.new.disk) (g.D.Disk.past c.write_kept-2.new.disk) (omega (arith, size, c.len.ensures)) is (c.in_ok-write_kept-2.ensures.kept h)).0

pub returns-clause-kept : goal.returns-clause-kept
returns-clause-kept g c h =
    let header = c.args.self.now.header in
    let place = c.args.self.now.place in
    let payload = payload_in c.args.batch.now in
    let bytes = g.D.Disk.bytes c.args.self.now.disk in
    let past = g.D.Disk.past c.args.self.now.disk in
    let s = c.requires.open h in
    let size = ap length c.seal.ensures ∙ length-sealed payload in
    let is : g.D.Disk.bytes c.write_kept-2.new.disk ≡ written (staged header place bytes past s payload c.requires.small) place (1 ∷ []) =
    c.in_ok-write_kept-2.ensures.written h ∙ ap (λ (l : List ℕ). written l place (1 ∷ [])) (c.in_ok-write_kept.ensures.written h ∙ ap (written bytes (place + 1)) (c.deref.ensures.value ∙ c.seal.ensures)) in
    (settled_after header place bytes past s payload c.requires.small (place + c.len.result) (g.D.Disk.bytes c.write_kept-2.new.disk) (g.D.Disk.past c.write_kept-2.new.disk) (omega (arith, size, c.len.ensures)) is (c.in_ok-write_kept-2.ensures.kept h)).1
