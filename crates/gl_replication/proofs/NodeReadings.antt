-- What a node tells of its ledger, by what its store tells.
use Rattle.std.proofs.Common.{◌≡◌, ◌≤◌, ℕ, suc, ◌+◌, ◌-◌, List, [], ◌∷◌, length, take, drop, Option, None, Some, nat_lt, nat_le, if◌then◌else◌, refl, sym, ap, ◌∙◌, arith}
use Rattle.std.proofs.lemmas.List.{drop-take}
use Rattle.gl_entry.specs.declared.entry.Entry.{Entry}
use Rattle.gl_rules.specs.Identity.{NodeId}
use Rattle.gl_rules.specs.Book.{Book}
use Rattle.gl_rules.specs.Node.{Node}
use Rattle.gl_rules.specs.Log.{last_signature}
use Rattle.gl_rules.specs.Configuration.{configurations_above}
use Rattle.gl_rules.specs.Replication.{is_reached}
use Rattle.gl_rules.specs.Retirement.{Signed, Ordered, Completed, RetiredCommitted, stage, stage_at}
use Rattle.gl_rules.proofs.Lists.{take_whole}
use Rattle.gl_config.specs.declared.configuration.Configuration.{Configuration}
use Rattle.gl_config.specs.Active.{above, sets_of}
use Rattle.gl_replication.specs.Holding.{Holding}
use Rattle.gl_replication.specs.Stands.{StandsFor}
use Rattle.gl_replication.specs.declared.node.Core.{Core}
use Rattle.gl_replication.proofs.PeerSteps.{commit_of, same4}

sets_length : (cs : List Configuration) → length cs ≡ length (sets_of cs)
sets_length [] = refl
sets_length (c ∷ cs) = ap suc (sets_length cs)

-- a stage depends on whether the mark is reached, and on no more of the mark
stage_by_reach : (removal mark other : Option ℕ) (signed commit : ℕ) → is_reached mark commit ≡ is_reached other commit → stage removal mark signed commit ≡ stage removal other signed commit
unfolding stage
stage_by_reach None mark other signed commit e = refl
stage_by_reach (Some removal) mark other signed commit e = ap (λ t. if t then Some RetiredCommitted else (if nat_le removal commit then Some Completed else (if nat_lt removal signed then Some Signed else Some Ordered))) e

-- the entries of a list between two seqnos
between : {E : Type 0} (base commit count : ℕ) (log : List E) → base ≤ commit → count ≡ commit - base → take count (drop base log) ≡ drop base (take commit log)
between base commit count log low is =
    let sum : base + count ≡ commit = omega (arith, low, is) in
    sym (drop-take base count log) ∙ ap (λ k. drop base (take k log)) sum

module _ {S Q G R A F : Type 0} (stands : S → Book Entry Q G R A F → Holding Entry → Type 0) where
  pub pending_is : {c : Core S Q G R A F} {b : Book Entry Q G R A F} {x : NodeId} {n : Node Entry} → StandsFor stands c b x n → (len count : ℕ) (cs : List Configuration) → len ≡ length n.log → count ≡ length (above c.commit cs) →
      ((commit : ℕ) → n.base ≤ commit → sets_of (above commit cs) ≡ configurations_above b (take len n.log) commit (length (take len n.log))) →
      count ≡ length (configurations_above b n.log n.commit (length n.log))
  pending_is {c} {b} {x} {n} s len count cs at is reported =
      is
      ∙ ap (λ k. length (above k cs)) (commit_of stands s)
      ∙ sets_length (above n.commit cs)
      ∙ ap length (reported n.commit s.above)
      ∙ ap (λ (l : List Entry). length (configurations_above b l n.commit (length l))) (ap (λ k. take k n.log) at ∙ take_whole n.log)

  pub committed_is : {c : Core S Q G R A F} {b : Book Entry Q G R A F} {x : NodeId} {n : Node Entry} → StandsFor stands c b x n → (base count : ℕ) (es : List Entry) → base ≡ n.base → count ≡ c.commit - base → es ≡ drop n.base n.log →
      take count es ≡ drop n.base (take n.commit n.log)
  committed_is {c} {b} {x} {n} s base count es based is reported =
      let k : c.commit ≡ n.commit = commit_of stands s in
      ap (take count) reported ∙ between n.base n.commit count n.log s.above (omega (arith, k, based, is))

  pub stage_is : {c : Core S Q G R A F} {b : Book Entry Q G R A F} {x : NodeId} {n : Node Entry} → StandsFor stands c b x n → (removal mark : Option ℕ) (signed : ℕ) (y : NodeId) → removal ≡ b.removal n.log y → signed ≡ last_signature b n.log →
      ((commit : ℕ) → n.base ≤ commit → is_reached mark commit ≡ is_reached (b.mark n.log y) commit) → stage removal mark signed c.commit ≡ stage_at b n y
  stage_is {c} {b} {x} {n} s removal mark signed y removal_is signed_is mark_is =
      same4 stage removal_is refl signed_is (commit_of stands s)
      ∙ stage_by_reach (b.removal n.log y) mark (b.mark n.log y) (last_signature b n.log) n.commit (mark_is n.commit s.above)
