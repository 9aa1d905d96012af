-- The row of a proposal whose parts are in their ranges fits the format of rows.
use Rattle.std.proofs.Common.{◌≡◌, ℕ, suc, ◌*◌, ◌≤◌, List, [], ◌∷◌, ◌++◌, length, flat_map, filter_map, Option, None, Some, IfSome, Bool, true, false, if◌then◌else◌, refl, length-append, arith}
use Rattle.std.specs.List.{list_all, cons_option}
use Rattle.std.proofs.lemmas.Bool.{and_parts}
use Rattle.gl_base.specs.LittleEndian.{little_endian}
use Rattle.gl_base.specs.Code.{flag_byte}
use Rattle.gl_base.specs.Field.{with_u32_length}
use Rattle.gl_base.specs.Bytes.{is_byte, are_bytes, is_digest}
use Rattle.gl_base.proofs.LittleEndianLaws.{length-little_endian}
use Rattle.gl_vmaps.specs.Writes.{is_write}
use Rattle.gl_requests.specs.Encoding.{counted_bytes, action_bytes}
use Rattle.gl_requests.specs.Ranges.{is_action, is_action_count}
use Rattle.gl_requests.proofs.Sizes.{sized_length}
use Rattle.gl_gov_rules.specs.declared.change.Proposal.{Proposal}
use Rattle.gl_gov_rules.specs.declared.change.ProposalState.{ProposalState}
use Rattle.gl_gov_rules.specs.declared.change.ProposalState.TheVariants as states
use Rattle.gl_gov_rules.specs.declared.row.Vote.{Vote}
use Rattle.gl_gov_rules.specs.History.{History, Answered}
use Rattle.gl_gov_rules.specs.Proposals.{proposal_state, has_answered, answers_of}
use Rattle.gl_gov_rules.specs.Rows.{proposals_map, proposal_byte, vote_of, member_numbers, votes, vote_bytes, proposal_row, proposal_write}
use Rattle.gl_gov_rules.specs.Governed.{IsBoundedProposal}
use Rattle.gl_gov_rules.proofs.Digests.{bytes-append, one_byte, length_bytes, flat_bytes, sized_bytes}
use Rattle.gl_gov_rules.proofs.EncodedParts.{counted_are_bytes, action_are_bytes}
use Rattle.gl_gov_rules.proofs.RowParts.{all_found, is_made_proposal}
use Rattle.gl_gov_rules.proofs.RowFormats.{row_fits, flag_byte_byte}

proposal_byte_byte : (s : ProposalState) → is_byte (proposal_byte s) ≡ true
proposal_byte_byte states.Open = refl
proposal_byte_byte states.Accepted = refl
proposal_byte_byte states.Rejected = refl
proposal_byte_byte states.Withdrawn = refl
proposal_byte_byte states.Failed = refl
proposal_byte_byte states.Dropped = refl

abbrev is_vote : Vote → Bool
is_vote v = is_byte v.member

vote_fits : (given : List Answered) (id : List ℕ) (number : ℕ) → is_byte number ≡ true → IfSome (vote_of given id number) (λ (v : Vote). is_vote v ≡ true)
vote_fits given id number byte = by_answer (has_answered given id true number) (has_answered given id false number)
  where
    by_answer : (agreed refused : Bool) →
        IfSome (if agreed then Some (record { member = number; agrees = true }) else (if refused then Some (record { member = number; agrees = false }) else None)) (λ (v : Vote). is_vote v ≡ true)
    by_answer true refused = byte
    by_answer false true = byte
    by_answer false false = tt

votes_fit : (given : List Answered) (id : List ℕ) → list_all is_vote (votes given id) ≡ true
unfolding votes
votes_fit given id = all_found is_byte is_vote (vote_of given id) (vote_fits given id) member_numbers refl

-- no more is found than there is to look at
found_few : {A B : Type 0} (f : A → Option B) (xs : List A) → length (filter_map f xs) ≤ length xs
found_few f [] = omega arith
found_few {A} {B} f (x ∷ xs) = put (f x) (found_few f xs)
  where
    put : (o : Option B) → length (filter_map f xs) ≤ length xs → length (cons_option o (filter_map f xs)) ≤ suc (length xs)
    put None few = omega (arith, few)
    put (Some y) few = omega (arith, few)

votes_few : (given : List Answered) (id : List ℕ) → length (votes given id) ≤ 255
unfolding votes
votes_few given id = found_few (vote_of given id) member_numbers

vote_are_bytes : (v : Vote) → is_vote v ≡ true → are_bytes (vote_bytes v) ≡ true
vote_are_bytes v fits = one_byte v.member (flag_byte v.agrees ∷ []) fits (one_byte (flag_byte v.agrees) [] (flag_byte_byte v.agrees) refl)

length-votes : (vs : List Vote) → length (flat_map vote_bytes vs) ≡ 2 * length vs
length-votes [] = refl
length-votes (v ∷ vs) = omega (arith, length-votes vs)

-- a proposal's row
pub proposal_row_fits : (h : History) (p : Proposal) → is_made_proposal p ≡ true → IsBoundedProposal p → is_write (proposal_write p.id (proposal_row h p)) ≡ true
unfolding proposal_row
proposal_row_fits h p fits bounded =
    let both = and_parts (is_digest p.id) (is_byte p.proposer) fits in
    let id = sized_length 32 p.id both.0 in
    let list = flat_map action_bytes p.actions in
    let ballots = votes (answers_of h) p.id in
    let prefix = proposal_byte (proposal_state h p) ∷ p.proposer ∷ [] in
    let asked = with_u32_length list in
    let said = counted_bytes vote_bytes ballots in
    let listed = flat_bytes action_bytes is_action p.actions action_are_bytes (and_parts (is_action_count (length p.actions)) (list_all is_action p.actions) bounded.fits).1 in
    row_fits proposals_map p.id (prefix ++ asked ++ said) refl
    (omega (arith, id)) (omega (arith, id)) (sized_bytes 32 p.id both.0)
    (omega (
      arith,
      length-append (prefix ++ asked) said,
      length-append prefix asked,
      length-append (little_endian 4 (length list)) list,
      length-append (little_endian 1 (length ballots)) (flat_map vote_bytes ballots),
      length-little_endian 4 (length list),
      length-little_endian 1 (length ballots),
      length-votes ballots,
      votes_few (answers_of h) p.id,
      bounded.small,
    ))
    (bytes-append (prefix ++ asked) said
    (bytes-append prefix asked
    (one_byte (proposal_byte (proposal_state h p)) (p.proposer ∷ []) (proposal_byte_byte (proposal_state h p)) (one_byte p.proposer [] both.1 refl))
    (length_bytes list listed))
    (counted_are_bytes vote_bytes is_vote ballots vote_are_bytes (votes_fit (answers_of h) p.id)))
