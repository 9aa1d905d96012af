-- A log that is accept_entries whole, and the cuts that it comes to.
use Rattle.std.proofs.Common.{◌≡◌, ◌≤◌, ℕ, List, [], length, take, Bool, true, false, nat_lt, Some, None, if◌then◌else◌, sym, ap, ◌∙◌, arith, length-take}
use Rattle.std.proofs.lemmas.Bool.Decides.{nat_tests}
use Rattle.gl_rules.specs.Identity.{NodeId}
use Rattle.gl_rules.specs.Book.{Book}
use Rattle.gl_rules.specs.Node.{Node, Follower}
use Rattle.gl_rules.specs.Log.{last_signature}
use Rattle.gl_rules.specs.Replication.{become_follower}
use Rattle.gl_rules.specs.Steps.{cut_to, one_more_cut, enter_view, update_view}
use Rattle.gl_election.proofs.Bridging.{last_le}
use Rattle.gl_replication.specs.Replies.{following}

counted : Bool → ℕ → ℕ
counted made cuts = if made then one_more_cut cuts else cuts

module _ {E Q G R A F : Type 0} (b : Book E Q G R A F) where
  pub replaced_is : (y : NodeId) (view len before seqno : ℕ) (n : Node E) (l : List E) → before ≡ length n.log → len ≤ length n.log → (update_view b view n).log ≡ take len n.log →
      following y view (record n { log = l; cuts = if nat_lt seqno len then one_more_cut (if nat_lt len before then one_more_cut n.cuts else n.cuts) else (if nat_lt len before then one_more_cut n.cuts else n.cuts) })
      ≡ record (cut_to seqno (become_follower b y (update_view b view n))) { log = l }
  unfolding enter_view counted
  replaced_is y view len before seqno n l was within log_is = go (nat_lt n.view view) log_is
    where
      length_is : length (take len n.log) ≡ len
      length_is = omega (arith, length-take len n.log)

      signed_is : take (last_signature b n.log) n.log ≡ take len n.log → last_signature b n.log ≡ len
      signed_is e = let f = ap length e in omega (arith, f, length-take len n.log, length-take (last_signature b n.log) n.log, last_le b n.log)

      go : (t : Bool) → (if t then enter_view b view n else n).log ≡ take len n.log →
          (if t
          then record n { log = l; cuts = counted (nat_lt seqno len) (counted (nat_lt len before) n.cuts); view = view; vote = None; votes = []; role = Follower; leader = Some y }
          else record n { log = l; cuts = counted (nat_lt seqno len) (counted (nat_lt len before) n.cuts); role = Follower; leader = Some y })
          ≡ record (cut_to seqno (become_follower b y (if t then enter_view b view n else n))) { log = l }
      go true e =
          let k : len ≡ last_signature b n.log = sym (signed_is e) in
          ap {B = Node E} (λ c. record n { log = l; cuts = c; view = view; vote = None; votes = []; role = Follower; leader = Some y })
          (ap (λ m. counted (nat_lt seqno m) (counted (nat_lt len before) n.cuts)) (sym length_is ∙ ap length (sym e))
          ∙ ap (λ m. counted (nat_lt seqno (length (take (last_signature b n.log) n.log))) (counted (nat_lt m before) n.cuts)) k
          ∙ ap (λ m. counted (nat_lt seqno (length (take (last_signature b n.log) n.log))) (counted (nat_lt (last_signature b n.log) m) n.cuts)) was)
      go false e =
          let w : length n.log ≡ len = ap length e ∙ length_is in
          let f : nat_lt len before ≡ false = grind (arith, nat_tests) in
          ap {B = Node E} (λ c. record n { log = l; cuts = c; role = Follower; leader = Some y })
          (ap (λ m. counted (nat_lt seqno len) (counted m n.cuts)) f ∙ ap (λ m. counted (nat_lt seqno m) n.cuts) (sym w))
