-- What a receipt shows of a ledger to whose root it leads.
use Rattle.std.proofs.Common.{◌≡◌, ◌≢◌, ◌⊎◌, ℕ, zero, suc, ◌-◌, ◌^◌, ◌<◌, true, List, [], ◌++◌, length, take, slice_get, Some, refl, sym, ap, ap₂, subst, ◌∙◌, arith, inl, inr, All, Contains}
use Rattle.std.specs.Str.{bytes_eq}
use Rattle.std.proofs.lemmas.Bool.{cases_Bool, both_ways, false≢true}
use Rattle.std.proofs.lemmas.List.{length-take-le, take-take}
use Rattle.std.proofs.lemmas.List.Elements.{All-contains, Contains-append_left, Contains-append_right}
use Rattle.std.proofs.lemmas.Slice.Eq.{bytes_eq-Decides}
use Rattle.sha2.proofs.Facts256.{length-sha256}
use Rattle.gl_base.specs.LittleEndian.{little_endian}
use Rattle.gl_base.specs.declared.tx_id.TxId.{TxId}
use Rattle.gl_base.proofs.LittleEndianLaws.{length-little_endian}
use Rattle.gl_base.proofs.Lists.{slice_get-of_take, slice_get-within}
use Rattle.gl_merkle.specs.Path.{path_of}
use Rattle.gl_merkle.specs.Reach.{IsDigest, sibling_of, inputs_on, inputs_of, IsReached}
use Rattle.gl_merkle.specs.Tree as merkle
use Rattle.gl_merkle.proofs.ReachLemmas.{reached}
use Rattle.gl_vmaps.specs.Tables.{no_tables}
use Rattle.gl_entry.specs.Entry.{is_entry}
use Rattle.gl_entry.specs.Leaf.{id_of, evidence_text}
use Rattle.gl_entry.specs.declared.entry.Content.{Content}
use Rattle.gl_entry.specs.declared.entry.Content.TheVariants as content
use Rattle.gl_entry.specs.declared.entry.Entry.{Entry}
use Rattle.gl_entry.specs.declared.entry.Signature as signatures
use Rattle.gl_entry.proofs.EntryRanges.{fits_parts}
use Rattle.gl_ledger.specs.ServiceRow.{identity_in}
use Rattle.gl_ledger.specs.Layers.{Layers}
use Rattle.gl_ledger.specs.Recordings.{records_founding, recording_of}
use Rattle.gl_ledger.specs.Sound.{StandsAs, IsSound}
use Rattle.gl_ledger.specs.Tree.{tables_of, leaves_of}
use Rattle.gl_requests.proofs.Sizes.{sized_length}
use Rattle.gl_ledger.proofs.TablesLaws.{length-leaves_of}
use Rattle.gl_receipt.specs.Law.{AreSized, AreBound, HaveOneDigest, input_of}
use Rattle.gl_receipt.specs.Made.{entry_at, components_of}
use Rattle.gl_receipt.specs.Receipt.{leaf_of, root_of, IsEvidence}
use Rattle.gl_receipt.specs.declared.components.LeafComponents.{LeafComponents}
use Rattle.gl_receipt.specs.declared.components.Receipt.{Receipt}
use Rattle.gl_receipt.proofs.LawLemmas.{same_leaf}
use Rattle.gl_audit.specs.Binding.{evidence_input, hashed_for_leaf, hashed_for_receipt, hashed_from, hashed_for_ledger, IsBound}
use Rattle.gl_audit.proofs.UniqueEncodings.{same_parts, IsSmall, same_evidence}
use Rattle.gl_audit.proofs.Hashed.{IsPair, pairs_on, pairs_of, length-leaf_input, HasLeaf, has_leaf}

-- equal, or not
same_or_not : (xs ys : List ℕ) → (xs ≡ ys) ⊎ (xs ≢ ys)
same_or_not xs ys = elim (cases_Bool (bytes_eq xs ys)) [
  | inl same ↦ inl ((bytes_eq-Decides xs ys).0 same)
  | inr other ↦ inr (λ e. both_ways _ other ((bytes_eq-Decides xs ys).1 e))
]

-- ---- an entry that fits its format

pub record HasRanges (e : Entry) : Type 0 where
  pub view : e.view < 2 ^ 32
  pub small : IsSmall (id_of e)
  pub claims : length e.claims ≡ 32

pub has_ranges : (e : Entry) → is_entry e ≡ true → HasRanges e
has_ranges e h =
    let fits = fits_parts e h in
    record { view = fits.view; small = (omega (arith, fits.view), fits.seqno); claims = sized_length 32 e.claims fits.digest }

-- ---- a receipt and the first so many entries of a sound ledger

module _ (layers : Layers) (ledger : List Entry) (sound : IsSound layers ledger) (count : ℕ) (identity : List ℕ) (r : Receipt) (id : TxId) (size : AreSized r.leaf_components)
    (siblings : All (λ x. IsDigest (sibling_of x)) r.proof) (evidence : IsEvidence identity r.leaf_components.commit_evidence id) where
  abbrev before : List Entry
  before = take count ledger

  fits : (i : ℕ) (e : Entry) → slice_get before i ≡ Some e → is_entry e ≡ true
  fits i e there = let old = slice_get-of_take count ledger i e there in sound.in_order.fits i e old.1

  collided : (this that : List ℕ) → Contains (hashed_for_receipt identity r id) this → Contains (hashed_for_ledger before) that → HaveOneDigest this that →
      IsBound identity r id ledger count
  collided this that of_receipt of_ledger one = inr (this, that, record { of_receipt = of_receipt; of_ledger = of_ledger; one_digest = one })

  of_leaf : (x : List ℕ) → Contains (hashed_for_leaf identity id r.leaf_components) x → Contains (hashed_for_receipt identity r id) x
  of_leaf x at = Contains-append_left (hashed_for_leaf identity id r.leaf_components) (inputs_on (leaf_of r.leaf_components) r.proof) x at

  of_way : (x : List ℕ) → Contains (inputs_on (leaf_of r.leaf_components) r.proof) x → Contains (hashed_for_receipt identity r id) x
  of_way x at = Contains-append_right (hashed_for_leaf identity id r.leaf_components) (inputs_on (leaf_of r.leaf_components) r.proof) x at

  of_tree : (x : List ℕ) → Contains (inputs_of (leaves_of before)) x → Contains (hashed_for_ledger before) x
  of_tree x at = Contains-append_right (hashed_from no_tables before) (inputs_of (leaves_of before)) x at

  of_entry : (x : List ℕ) → Contains (hashed_from no_tables before) x → Contains (hashed_for_ledger before) x
  of_entry x at = Contains-append_left (hashed_from no_tables before) (inputs_of (leaves_of before)) x at

  -- ---- the path of a leaf

  module _ (index : ℕ) (l : HasLeaf no_tables before index) (path : r.proof ≡ path_of (leaves_of before) (suc index)) where
    abbrev components : LeafComponents
    components = components_of l.identity (id_of l.entry) l.entry

    ranges : HasRanges l.entry
    ranges = has_ranges l.entry (fits index l.entry l.stands)

    hashed : (x : List ℕ) → Contains (hashed_for_leaf l.identity (id_of l.entry) components) x → Contains (hashed_for_ledger before) x
    hashed x at = of_entry x (l.hashed x at)

    -- the same components are those of the entry, under one key
    shown : r.leaf_components ≡ components → id ≡ id_of l.entry → identity ≡ l.identity → IsBound identity r id ledger count
    shown same named one =
        let old = slice_get-of_take count ledger index l.entry l.stands in
        let at : id.seqno ≡ suc index = ap (λ (i : TxId). i.seqno) named ∙ sound.in_order.seqnos index l.entry old.1 in
        let part : take (suc index) before ≡ take (suc index) ledger = take-take (suc index) count ledger (omega (arith, old.0)) in
        inl (
          l.entry,
          record {
            stands = subst (λ (n : ℕ). entry_at ledger n ≡ Some l.entry) (sym at) old.1;
            within = omega (arith, at, old.0);
            view = sym (ap (λ (i : TxId). i.view) named);
            service = one ∙ l.in_force ∙ ap (λ (es : List Entry). identity_in (tables_of es)) part ∙ ap (λ (n : ℕ). identity_in (tables_of (take n ledger))) (sym at);
            components = same ∙ ap₂ (λ (key : List ℕ) (i : TxId). components_of key i l.entry) (sym one) (sym named);
            path = path ∙ ap (path_of (leaves_of before)) (sym at);
          },
        )

    same_components : r.leaf_components ≡ components → IsBound identity r id ledger count
    same_components same =
        let texts : evidence_text identity id ≡ evidence_text l.identity (id_of l.entry) = sym evidence.encoded ∙ ap (λ (c : LeafComponents). c.commit_evidence) same in
        let both = same_evidence identity l.identity id (id_of l.entry) (omega (arith, evidence.named.view.1), omega (arith, evidence.named.seqno.1)) ranges.small texts in
        elim (same_or_not (evidence_input identity id) (evidence_input l.identity (id_of l.entry))) [
          | inl one ↦ shown same both.0 (key one)
          | inr two ↦ collided (evidence_input identity id) (evidence_input l.identity (id_of l.entry)) (of_leaf (evidence_input identity id) (0, omega arith, refl)) (hashed (evidence_input l.identity (id_of l.entry)) (0, omega arith, refl)) (two, both.1)
        ]
      where
        key : evidence_input identity id ≡ evidence_input l.identity (id_of l.entry) → identity ≡ l.identity
        key one =
            let prefix = same_parts (identity ++ little_endian 4 id.view) (l.identity ++ little_endian 4 (id_of l.entry).view) (little_endian 8 id.seqno) (little_endian 8 (id_of l.entry).seqno)
            (length-little_endian 8 id.seqno ∙ sym (length-little_endian 8 (id_of l.entry).seqno)) one in
            (same_parts identity l.identity (little_endian 4 id.view) (little_endian 4 (id_of l.entry).view) (length-little_endian 4 id.view ∙ sym (length-little_endian 4 (id_of l.entry).view)) prefix.0).0

    at_leaf : AreBound r.leaf_components components → IsBound identity r id ledger count
    at_leaf (inl same) = same_components same
    at_leaf (inr (inl two)) = collided (input_of r.leaf_components) (input_of components) (of_leaf (input_of r.leaf_components) (2, omega arith, refl)) (hashed (input_of components) (2, omega arith, refl)) two
    at_leaf (inr (inr two)) = collided r.leaf_components.commit_evidence components.commit_evidence (of_leaf r.leaf_components.commit_evidence (1, omega arith, refl)) (hashed components.commit_evidence (1, omega arith, refl)) two

    bound_at : leaf_of r.leaf_components ≡ leaf_of components → IsBound identity r id ledger count
    bound_at same = at_leaf (same_leaf r.leaf_components components size (record { claims = ranges.claims; write_set = length-sha256 _ }) same)

  -- ---- all that a way to the root can be

  all_digests : All IsDigest (leaves_of before)
  all_digests k d within =
      let l = has_leaf k no_tables before (let long = length-leaves_of before in omega (arith, long, within)) in
      ap length (l.leaf d) ∙ length-sha256 _

  bound_before : 0 < length before → root_of r ≡ merkle.root_of (leaves_of before) → IsBound identity r id ledger count
  bound_before some meet = go (reached (leaf_of r.leaf_components) r.proof (leaves_of before) (length-sha256 _) siblings all_digests many meet)
    where
      many : 0 < length (leaves_of before)
      many = let long = length-leaves_of before in omega (arith, long, some)

      go : IsReached (leaf_of r.leaf_components) r.proof (leaves_of before) → IsBound identity r id ledger count
      go (inl (index, p)) =
          let long = length-leaves_of before in
          let at : index ≡ suc (index - 1) = let low = p.from_one in omega (arith, low) in
          let l = has_leaf (index - 1) no_tables before (let low = p.from_one in let high = p.within in omega (arith, low, high, long)) in
          bound_at (index - 1) l (p.path ∙ ap (path_of (leaves_of before)) at) (p.leaf ∙ l.leaf [])
      go (inr (inl (this, that, p))) = collided this that (of_way this p.on_way) (of_tree that p.in_tree) (p.differ, p.one_digest)
      go (inr (inr (inl (children, p)))) =
          let long : length children ≡ 64 = All-contains IsPair (inputs_of (leaves_of before)) children (pairs_of (leaves_of before) many all_digests) p.in_tree in
          let own = length-leaf_input r.leaf_components size in
          collided (input_of r.leaf_components) children (of_leaf (input_of r.leaf_components) (2, omega arith, refl)) (of_tree children p.in_tree)
          (λ e. let same = ap length e in absurd (omega (arith, same, long, own)), p.digest)
      go (inr (inr (inr (this, leaf, p)))) =
          let many_leaves = length-leaves_of before in
          let at = p.in_list in
          let l = has_leaf at.0 no_tables before (let within = at.1 in omega (arith, within, many_leaves)) in
          let c : LeafComponents = components_of l.identity (id_of l.entry) l.entry in
          let ranges = has_ranges l.entry (fits at.0 l.entry l.stands) in
          let long : length this ≡ 64 = All-contains IsPair (inputs_on (leaf_of r.leaf_components) r.proof) this (pairs_on (leaf_of r.leaf_components) r.proof (length-sha256 _) siblings) p.on_way in
          let own = length-leaf_input c (record { claims = ranges.claims; write_set = length-sha256 _ }) in
          collided this (input_of c) (of_way this p.on_way) (of_entry (input_of c) (l.hashed (input_of c) (2, omega arith, refl)))
          (λ e. let same = ap length e in absurd (omega (arith, same, long, own)), sym p.digest ∙ sym at.2 ∙ l.leaf leaf)

-- ---- a signature of a sound ledger

module _ (layers : Layers) (ledger : List Entry) (count : ℕ) (e : Entry) (s : signatures.Signature) (sound : IsSound layers ledger)
    (at : slice_get ledger count ≡ Some e) (signs : e.content ≡ content.Signature s) where
  founds_none : count ≡ 0 → ⊥
  founds_none zeroth =
      let first = (sound.founded.first e (subst (λ (n : ℕ). slice_get ledger n ≡ Some e) zeroth at)).0 in
      false≢true (subst (λ (c : Content). records_founding (recording_of c) ≡ true) signs first)

  root_signed : s.root ≡ merkle.root_of (leaves_of (take count ledger))
  root_signed = (subst (λ (c : Content). StandsAs layers c (take count ledger) e) signs (sound.serial count e at)).root

  some_before : 0 < length (take count ledger)
  some_before =
      let within = slice_get-within ledger count e at in
      let long = length-take-le count ledger (omega (arith, within)) in
      positive count refl long
    where
      positive : (n : ℕ) → count ≡ n → length (take count ledger) ≡ count → 0 < length (take count ledger)
      positive zero is long = absurd (founds_none is)
      positive (suc n) is long = omega (arith, is, long)

  pub bound : (identity : List ℕ) (r : Receipt) (id : TxId) → AreSized r.leaf_components → All (λ x. IsDigest (sibling_of x)) r.proof →
      IsEvidence identity r.leaf_components.commit_evidence id → root_of r ≡ s.root → IsBound identity r id ledger count
  bound identity r id size siblings evidence meet = bound_before layers ledger sound count identity r id size siblings evidence some_before (meet ∙ root_signed)
