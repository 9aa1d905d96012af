-- A history that begins with rows that were read, or with none, is within its bounds.
use Rattle.std.proofs.Common.{◌≡◌, ℕ, ◌≤◌, List, [], ◌∷◌, ◌++◌, length, map, filter_map, Option, None, Some, IfSome, Bool, true, false, not, ◌&&◌, if◌then◌else◌, nat_eq, nat_lt, min, count_by, slice_get, refl, sym, ◌∙◌, ap, subst, append-nil, arith}
use Rattle.std.specs.List.{list_all, cons_option, AllByRecursion}
use Rattle.std.proofs.lemmas.Bool.{and_parts, and_from, not-false}
use Rattle.std.proofs.lemmas.Bool.Decides.{nat_tests}
use Rattle.gl_base.specs.Bytes.{is_digest, are_sized}
use Rattle.gl_shares.specs.declared.share.Share.{Share}
use Rattle.gl_requests.specs.Ranges.{are_actions, is_member, is_member_number, is_node, is_rule, are_rules, is_dealing}
use Rattle.gl_requests.specs.declared.genesis.Dealing.{Dealing}
use Rattle.gl_requests.specs.declared.genesis.NewMember.{NewMember}
use Rattle.gl_requests.specs.declared.action.Action.TheVariants as actions
use Rattle.gl_gov_rules.specs.declared.change.Proposal.{Proposal}
use Rattle.gl_gov_rules.specs.declared.change.Change.{Change}
use Rattle.gl_gov_rules.specs.declared.change.Change.TheVariants as changes
use Rattle.gl_gov_rules.specs.declared.change.Changed.{Changed}
use Rattle.gl_gov_rules.specs.declared.row.ServiceRow.{ServiceRow}
use Rattle.gl_gov_rules.specs.declared.row.MemberRow.{MemberRow}
use Rattle.gl_gov_rules.specs.declared.row.NodeRow.{NodeRow}
use Rattle.gl_gov_rules.specs.declared.row.ProposalAt.{ProposalAt}
use Rattle.gl_gov_rules.specs.declared.row.RuleAt.{RuleAt}
use Rattle.gl_gov_rules.specs.declared.row.GovernedRows.{GovernedRows}
use Rattle.gl_gov_rules.specs.declared.request_facts.GivenShare.{GivenShare}
use Rattle.gl_gov_rules.specs.History.{no_history}
use Rattle.gl_gov_rules.specs.Members.{members, is_removed}
use Rattle.gl_gov_rules.specs.Nodes.{nodes}
use Rattle.gl_gov_rules.specs.Proposals.{proposals, is_open_state}
use Rattle.gl_gov_rules.specs.Service.{given}
use Rattle.gl_gov_rules.specs.Changes.{changed_at, set_member}
use Rattle.gl_gov_rules.specs.GovernedRows.{is_removed_status, carried_node, carried_proposal, recovered_if, founded_by, dealt_by, member_of_row, member_removed_by, settled_row, node_removed_by, changes_at_base, changes_of_rows, begin_with}
use Rattle.gl_gov_rules.proofs.Counting.{one_if, all_append, count-cons}
use Rattle.gl_gov_rules.proofs.Finding.{any_from}
use Rattle.gl_gov_rules.proofs.FewNodes.{IsShort}
use Rattle.gl_gov_rules.proofs.MembersLeft.{left_in}
use Rattle.gl_gov_rules.proofs.Ranges.{is_change, are_changes, are_proposals}
use Rattle.gl_gov_rules.proofs.RowParts.{all_found, is_recorded_node, is_made_proposal, is_given_share}
use Rattle.gl_gov_rules.proofs.SmallProposals.{IsSmall}
use Rattle.gl_gov_base.proofs.BoundsKept.{IsInBounds}
use Rattle.gl_gov_base.proofs.FitRows.{each_passes}
use Rattle.gl_gov_base.proofs.ReadRanges.{IsNodeInRange, IsProposalInRange, AreRead}
use Rattle.gl_gov_base.proofs.RowReadings.{begun, base_members, base_removed}
use Rattle.gl_gov_base.proofs.RowsReadable.{is_there}
use Rattle.gl_gov_base.proofs.SameLists.{count-map, length-map}
use Rattle.gl_gov_base.proofs.SettledHistory.{each_in}

-- ---- lists

-- what is made of elements passes where each does
all_made : {A B : Type 0} (q : B → Bool) (f : A → B) (P : A → Type 0) → ((x : A) → P x → q (f x) ≡ true) → (xs : List A) → AllByRecursion P xs → list_all q (map f xs) ≡ true
all_made q f P each [] all = refl
all_made q f P each (x ∷ xs) all = and_from (q (f x)) (list_all q (map f xs)) (each x all.0) (all_made q f P each xs all.1)

each_made : {A B : Type 0} (Q : B → Type 0) (f : A → B) (P : A → Type 0) → ((x : A) → P x → Q (f x)) → (xs : List A) → AllByRecursion P xs → AllByRecursion Q (map f xs)
each_made Q f P each [] all = tt
each_made Q f P each (x ∷ xs) all = (each x all.0, each_made Q f P each xs all.1)

-- no more pass a test than another that each passes with it
count_under : {A : Type 0} (p q : A → Bool) (xs : List A) → AllByRecursion (λ x. q x ≡ false → p x ≡ false) xs → count_by p xs ≤ count_by q xs
count_under p q [] all = omega arith
count_under p q (x ∷ xs) all = by (p x) (q x) refl refl (count_under p q xs all.1)
  where
    by : (a b : Bool) → p x ≡ a → q x ≡ b → count_by p xs ≤ count_by q xs → count_by p (x ∷ xs) ≤ count_by q (x ∷ xs)
    by true true ea eb rest = omega (arith, count-cons p x xs, count-cons q x xs, ap one_if ea, ap one_if eb, rest)
    by false b ea eb rest = omega (arith, count-cons p x xs, count-cons q x xs, ap one_if ea, rest)
    by true false ea eb rest = absurd (let no = sym ea ∙ all.0 eb in cc)

-- ---- changes

changed_all : (s : ℕ) (cs : List Change) → list_all is_change cs ≡ true → are_changes (map (changed_at s) cs) ≡ true
changed_all s [] all = refl
changed_all s (c ∷ cs) all =
    let parts = and_parts (is_change c) (list_all is_change cs) all in
    and_from (is_change c) (are_changes (map (changed_at s) cs)) parts.0 (changed_all s cs parts.1)

recovery_ranged : (o : Option ServiceRow) → IfSome o (λ (s : ServiceRow). are_sized 60 s.identity ≡ true) → list_all is_change (recovered_if o) ≡ true
recovery_ranged None fits = refl
recovery_ranged (Some s) fits = by s.is_recovered
  where
    by : (b : Bool) → list_all is_change (if b then changes.Recovered s.identity ∷ [] else []) ≡ true
    by true = and_from (are_sized 60 s.identity) true fits refl
    by false = refl

founding_ranged : (o : Option ServiceRow) → IfSome o (λ (s : ServiceRow). are_sized 60 s.identity ≡ true) → list_all is_change (founded_by o) ≡ true
founding_ranged None fits = refl
founding_ranged (Some s) fits = and_from (are_sized 60 s.identity) true fits refl

dealing_ranged : (o : Option Dealing) → IfSome o (λ (d : Dealing). is_dealing d ≡ true) → list_all is_change (dealt_by o) ≡ true
dealing_ranged None fits = refl
dealing_ranged (Some d) fits = and_from (is_dealing d) true fits refl

module _ (g : GovernedRows) (read : AreRead g) where
  rules_ranged : are_rules (map (λ (r : RuleAt). r.rule) g.rules) ≡ true
  rules_ranged =
      let seven : length (map (λ (r : RuleAt). r.rule) g.rules) ≡ 7 = length-map (λ (r : RuleAt). r.rule) g.rules ∙ read.rules in
      and_from (nat_eq (length (map (λ (r : RuleAt). r.rule) g.rules)) 7) (list_all is_rule (map (λ (r : RuleAt). r.rule) g.rules)) (grind (arith, nat_tests, seven))
      (all_made is_rule (λ (r : RuleAt). r.rule) (λ (r : RuleAt). is_rule r.rule ≡ true) (λ r is. is) g.rules (each_passes (λ (r : RuleAt). is_rule r.rule) g.rules read.in_range.rules))

  named_ranged : list_all is_change (map (λ (m : MemberRow). set_member (member_of_row m)) g.members) ≡ true
  named_ranged =
      all_made is_change (λ (m : MemberRow). set_member (member_of_row m)) (λ (m : MemberRow). is_member (member_of_row m) ≡ true) (λ m is. is) g.members
      (each_passes (λ (m : MemberRow). is_member (member_of_row m)) g.members read.in_range.members)

  removed_ranged : list_all is_change (filter_map member_removed_by g.members) ≡ true
  removed_ranged = all_found (λ (m : MemberRow). is_member (member_of_row m)) is_change member_removed_by each g.members read.in_range.members
    where
      each : (m : MemberRow) → is_member (member_of_row m) ≡ true → IfSome (member_removed_by m) (λ (c : Change). is_change c ≡ true)
      each m is = by (is_removed_status m.status)
        where
          by : (b : Bool) → IfSome (if b then Some (changes.Applied (actions.RemoveMember m.number)) else None) (λ (c : Change). is_change c ≡ true)
          by true = (and_parts (is_member_number m.number) (are_sized 60 m.key) is).0
          by false = tt

  settled_ranged : (ps : List ProposalAt) → list_all is_change (filter_map settled_row ps) ≡ true
  settled_ranged [] = refl
  settled_ranged (p ∷ ps) = by (is_open_state p.row.state) (settled_ranged ps)
    where
      by : (b : Bool) → list_all is_change (filter_map settled_row ps) ≡ true → list_all is_change (cons_option (if b then None else Some (changes.Settled p.id p.row.state)) (filter_map settled_row ps)) ≡ true
      by true rest = rest
      by false rest = rest

  nodes_ranged : (ns : List NodeRow) → AllByRecursion IsNodeInRange ns → are_changes (filter_map (node_removed_by g.seqno) ns) ≡ true
  nodes_ranged [] all = refl
  nodes_ranged (n ∷ ns) all = by (node_removed_by g.seqno n) each (nodes_ranged ns all.1)
    where
      each : IfSome (node_removed_by g.seqno n) (λ (c : Changed). is_change c.change ≡ true)
      each = pick (nat_lt 0 n.removal)
        where
          pick : (b : Bool) → IfSome (if b then Some (changed_at (min n.removal g.seqno) (changes.Applied (actions.RemoveNode n.id))) else None) (λ (c : Changed). is_change c.change ≡ true)
          pick true = (and_parts (is_digest n.id) (is_node (record { key = n.key; endorsement = n.endorsement })) all.0.fits).0
          pick false = tt

      by : (o : Option Changed) → IfSome o (λ (c : Changed). is_change c.change ≡ true) → are_changes (filter_map (node_removed_by g.seqno) ns) ≡ true → are_changes (cons_option o (filter_map (node_removed_by g.seqno) ns)) ≡ true
      by None is rest = rest
      by (Some c) is rest = and_from (is_change c.change) (are_changes (filter_map (node_removed_by g.seqno) ns)) is rest

  at_base_ranged : list_all is_change (changes_at_base g) ≡ true
  at_base_ranged =
      let recovered : List Change = recovered_if g.service in
      let founded : List Change = founded_by g.service in
      let ruled : List Change = changes.Applied (actions.SetConstitution (map (λ (r : RuleAt). r.rule) g.rules)) ∷ [] in
      let dealt : List Change = dealt_by g.dealing in
      let named : List Change = map (λ (m : MemberRow). set_member (member_of_row m)) g.members in
      let removed : List Change = filter_map member_removed_by g.members in
      all_append is_change (recovered ++ founded ++ ruled ++ dealt ++ named ++ removed) (filter_map settled_row g.proposals)
      (all_append is_change (recovered ++ founded ++ ruled ++ dealt ++ named) removed
      (all_append is_change (recovered ++ founded ++ ruled ++ dealt) named
      (all_append is_change (recovered ++ founded ++ ruled) dealt
      (all_append is_change (recovered ++ founded) ruled
      (all_append is_change recovered founded (recovery_ranged g.service read.in_range.service) (founding_ranged g.service read.in_range.service))
      (and_from (are_rules (map (λ (r : RuleAt). r.rule) g.rules)) true rules_ranged refl))
      (dealing_ranged g.dealing read.in_range.dealing)) named_ranged) removed_ranged) (settled_ranged g.proposals)

  all_ranged : are_changes (changes_of_rows g) ≡ true
  all_ranged =
      all_append (λ (c : Changed). is_change c.change) (map (changed_at 0) (changes_at_base g)) (filter_map (node_removed_by g.seqno) g.nodes)
      (changed_all 0 (changes_at_base g) at_base_ranged) (nodes_ranged g.nodes read.in_range.nodes)

  -- ---- members

  left_is : left_in (begun g).changes ≡ count_by (λ (m : NewMember). not (is_removed (begun g) m.number)) (members (begun g))
  unfolding members is_removed
  left_is = refl

  gone : (i : ℕ) (m : MemberRow) → slice_get g.members i ≡ Some m → is_there m ≡ false → not (is_removed (begun g) m.number) ≡ false
  gone i m at is =
      let removed : is_removed_status m.status ≡ true = not-false (is_removed_status m.status) is in
      let own : nat_eq m.number m.number ≡ true = grind (arith, nat_tests) in
      ap not (base_removed g m.number ∙ any_from (λ (n : MemberRow). is_removed_status n.status && nat_eq n.number m.number) g.members i m at (and_from (is_removed_status m.status) (nat_eq m.number m.number) removed own))

  few_left : left_in (begun g).changes ≤ 64
  few_left =
      let counted = left_is ∙ ap (count_by (λ (m : NewMember). not (is_removed (begun g) m.number))) (base_members g)
      ∙ sym (count-map (λ (m : NewMember). not (is_removed (begun g) m.number)) member_of_row g.members) in
      let under = count_under (λ (m : MemberRow). not (is_removed (begun g) m.number)) is_there g.members
      (each_in (λ (m : MemberRow). is_there m ≡ false → not (is_removed (begun g) m.number) ≡ false) g.members gone) in
      let few = read.in_range.present in
      omega (arith, counted, under, few)

  -- ---- the whole

  nodes_are : nodes (begun g) ≡ map carried_node g.nodes
  unfolding nodes
  nodes_are = append-nil (map carried_node g.nodes)

  proposals_are : proposals (begun g) ≡ map carried_proposal g.proposals
  unfolding proposals
  proposals_are = append-nil (map carried_proposal g.proposals)

  shares_are : given (begun g) ≡ map (λ (s : Share). record { seqno = g.seqno; share = s }) g.shares
  unfolding given
  shares_are = append-nil (map (λ (s : Share). record { seqno = g.seqno; share = s }) g.shares)

  pub begins_in_bounds : IsInBounds (begin_with (Some g))
  begins_in_bounds = record {
    changed = all_ranged;
    left = few_left;
    few = (let few = read.in_range.few in let long = ap length nodes_are ∙ length-map carried_node g.nodes in omega (arith, long, few));
    short = subst (AllByRecursion IsShort) (sym nodes_are) (each_made IsShort carried_node IsNodeInRange (λ n is. is.short) g.nodes read.in_range.nodes);
    recorded = ap (list_all is_recorded_node) nodes_are ∙ all_made is_recorded_node carried_node IsNodeInRange (λ n is. is.fits) g.nodes read.in_range.nodes;
    made = ap (list_all is_made_proposal) proposals_are ∙ all_made is_made_proposal carried_proposal IsProposalInRange (λ p is. is.fits) g.proposals read.in_range.proposals;
    ranged =
        ap are_proposals proposals_are
        ∙ all_made (λ (p : Proposal). are_actions p.actions) carried_proposal IsProposalInRange (λ p is. is.bounded.fits) g.proposals read.in_range.proposals;
    small = subst (AllByRecursion IsSmall) (sym proposals_are) (each_made IsSmall carried_proposal IsProposalInRange (λ p is. is.bounded.small) g.proposals read.in_range.proposals);
    shared =
        ap (list_all (λ (s : GivenShare). is_given_share s.share)) shares_are
        ∙ all_made (λ (s : GivenShare). is_given_share s.share) (λ (s : Share). record { seqno = g.seqno; share = s }) (λ (s : Share). is_given_share s ≡ true) (λ s is. is) g.shares
        (each_passes is_given_share g.shares read.in_range.shares);
  }

-- with no rows
pub none_in_bounds : IsInBounds no_history
unfolding nodes proposals given
none_in_bounds = record { changed = refl; left = omega arith; few = omega arith; short = tt; recorded = refl; made = refl; ranged = refl; small = tt; shared = refl }
