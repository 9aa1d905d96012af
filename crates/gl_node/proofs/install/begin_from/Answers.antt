use Rattle.std.proofs.Common.{List, ℕ, Option, subst, sym}
use Rattle.gl_replication.specs.declared.done.Refusal.TheVariants.{NoMemory}
use Rattle.gl_replication.specs.declared.snapshots.Offer.TheVariants.{Snapshot}
use Rattle.gl_node.specs.Begins.{TakesIn}
use Rattle.gl_node.proofs.Beginning.{begun_by, cut_off_by, declined_by}
use Rattle.gl_node.proofs.install.begin_from.Goals as goal

pub returns-in-Err-clause-begins : goal.returns-in-Err-clause-begins
returns-in-Err-clause-begins g c =
    let e = c.room.ensures in
    declined_by g.B.Book.stands g.B.KeptBook.held g.B.KeptBook.snapshot_of g.B.KeptBook.goes_on g.D.Disk.honest g.D.Disk.bytes g.D.Disk.past g.D.Disk.faults c.requires.serving g.B.Snapshots.shows (Snapshot c.args.body)
    (record { settles = e.«open»; reads = e.bytes; stops = e.past; counted = e.faults }) c.requires.serving.above NoMemory (λ b x n s m offered. tt) (λ b x n s. s)

pub returns-in-Err-install_core-clause-begins : goal.returns-in-Err-install_core-clause-begins
returns-in-Err-install_core-clause-begins g c =
    let e = c.room.ensures in
    let it = c.in-Err-install_core.ensures in
    declined_by g.B.Book.stands g.B.KeptBook.held g.B.KeptBook.snapshot_of g.B.KeptBook.goes_on g.D.Disk.honest g.D.Disk.bytes g.D.Disk.past g.D.Disk.faults c.requires.serving g.B.Snapshots.shows (Snapshot c.args.body)
    (record { settles = e.«open»; reads = e.bytes; stops = e.past; counted = e.faults }) it.above c.in-Err-install_core.why it.refused it.err

pub returns-in-Ok-keep_body-clause-begins : goal.returns-in-Ok-keep_body-clause-begins
returns-in-Ok-keep_body-clause-begins g c =
    let e = c.room.ensures in
    let it = c.in-Ok-install_core.ensures in
    let put = c.keep_body.ensures in
    let goes_on = g.B.KeptBook.goes_on in
    begun_by g.B.Book.stands g.B.KeptBook.held g.B.KeptBook.snapshot_of goes_on g.D.Disk.honest g.D.Disk.bytes g.D.Disk.past g.D.Disk.faults g.B.Snapshots.shows g.B.Book.base_snapshot c.keep_body.new.journal c.requires.serving
    (record { settles = e.«open»; reads = e.bytes; stops = e.past; counted = e.faults }) c.args.body c.requires.offered c.requires.empty it.key c.in-Ok-install_core.done it.steps it.above it.held it.body it.taken_in c.keep_body.result put.«open»
    (λ h d next is takes. put.kept h goes_on d next is (subst (λ (o : Option (List ℕ)). TakesIn goes_on o d next) (sym c.in-Ok.ensures.kept) takes))
    (λ h d next is takes. put.after h goes_on d next is (subst (λ (o : Option (List ℕ)). TakesIn goes_on o d next) (sym c.in-Ok.ensures.kept) takes))
    (λ h d next is takes. put.any_moment h goes_on d next is (subst (λ (o : Option (List ℕ)). TakesIn goes_on o d next) (sym c.in-Ok.ensures.kept) takes))
    put.faults c.in-Ok-keep_body.field-0 c.in-Ok-keep_body.is

pub returns-clause-begins : goal.returns-clause-begins
returns-clause-begins g c =
    let e = c.room.ensures in
    let it = c.in-Ok-install_core.ensures in
    let put = c.keep_body.ensures in
    let goes_on = g.B.KeptBook.goes_on in
    cut_off_by g.B.Book.stands g.B.KeptBook.held g.B.KeptBook.snapshot_of goes_on g.D.Disk.honest g.D.Disk.bytes g.D.Disk.past g.D.Disk.faults g.B.Snapshots.shows g.B.Book.base_snapshot c.keep_body.new.journal c.requires.serving
    (record { settles = e.«open»; reads = e.bytes; stops = e.past; counted = e.faults }) c.args.body c.requires.offered c.requires.empty it.key c.in-Ok-install_core.done it.steps it.above it.held it.body it.taken_in c.keep_body.result put.«open»
    (λ h d next is takes. put.kept h goes_on d next is (subst (λ (o : Option (List ℕ)). TakesIn goes_on o d next) (sym c.in-Ok.ensures.kept) takes))
    (λ h d next is takes. put.after h goes_on d next is (subst (λ (o : Option (List ℕ)). TakesIn goes_on o d next) (sym c.in-Ok.ensures.kept) takes))
    (λ h d next is takes. put.any_moment h goes_on d next is (subst (λ (o : Option (List ℕ)). TakesIn goes_on o d next) (sym c.in-Ok.ensures.kept) takes))
    put.faults c.in-Err-keep_body.field-0 c.in-Err-keep_body.is
