-- What each of the two steps of an append leaves of a file of batches.
use Rattle.std.proofs.Common.{◌≡◌, ◌≢◌, inl, inr, ℕ, ◌+◌, ◌^◌, ◌<◌, ◌≤◌, List, [], ◌∷◌, ◌++◌, length, get_or, take, drop, None, Ok, refl, sym, ◌∙◌, ap, subst, arith, append_assoc, length-append, take-append-drop}
use Rattle.std.proofs.lemmas.Bool.{cases_eq}
use Rattle.std.proofs.lemmas.List.{append-nil, take_at, drop_at, drop_more}
use Rattle.gl_outside.specs.Disk.{Step, Torn, written, LeavesOnly}
use Rattle.gl_journal.specs.Gates.{body_of, batches, FitLengths, Opening, payloads_from, opening_answer, payloads_of, with_last, with_first}
use Rattle.gl_journal.specs.Parts.{HasGate}
use Rattle.gl_journal.specs.Stops.{IsSettled, OpensTo}
use Rattle.gl_journal.proofs.Openings.{with_prefix, opened_closed, opened_batch, payloads_of_file, FitLengths-push, batches-push, length-body}

-- a file of batches and a closed gate
pub closed_file : (header : List ℕ) (payloads : List (List ℕ)) (gate : ℕ) (tail : List ℕ) → FitLengths payloads → gate ≢ 1 → payloads_of header (header ++ batches payloads ++ gate ∷ tail) ≡ Ok payloads
closed_file header payloads gate tail fit shut =
    payloads_of_file header payloads (gate ∷ tail) fit
    ∙ ap (λ (o : Opening). opening_answer None (with_prefix payloads o)) (opened_closed (length (header ++ batches payloads)) gate tail shut)
    ∙ ap (λ (l : List (List ℕ)). Ok l) (append-nil payloads)

pub has_gate : (header image : List ℕ) (payloads : List (List ℕ)) (gate : ℕ) (tail : List ℕ) → image ≡ header ++ batches payloads ++ gate ∷ tail → FitLengths payloads → gate ≢ 1 → HasGate header image
has_gate header image payloads gate tail is fit shut = record {
  payloads = payloads;
  place = length (header ++ batches payloads);
  gate = gate;
  tail = tail;
  parts = record { split = is; fit = fit; current = refl; closed = shut };
}

-- a settled file has its gate
pub settled_gate : (header : List ℕ) (place : ℕ) (bytes : List ℕ) (past : List Step) → IsSettled header place bytes past → HasGate header bytes
settled_gate header place bytes past s = has_gate header bytes s.payloads s.gate s.tail s.file s.fit s.closed

module _ (header : List ℕ) (place : ℕ) (bytes : List ℕ) (past : List Step) (s : IsSettled header place bytes past) where
  abbrev prefix : List ℕ
  prefix = header ++ batches s.payloads

  pub opens_now : payloads_of header bytes ≡ Ok s.payloads
  opens_now = ap (payloads_of header) s.file ∙ closed_file header s.payloads s.gate s.tail s.fit s.closed

  pub below : place + 1 ≤ length bytes
  below = omega (arith, ap length s.file, s.current, length-append prefix (s.gate ∷ s.tail))

  to_gate : take (place + 1) bytes ≡ prefix ++ s.gate ∷ []
  to_gate =
      let split : bytes ≡ (prefix ++ s.gate ∷ []) ++ s.tail = s.file ∙ sym (append_assoc prefix (s.gate ∷ []) s.tail) in
      ap (λ (l : List ℕ). take (place + 1) l) split ∙ take_at (prefix ++ s.gate ∷ []) s.tail (place + 1) (omega (arith, s.current, length-append prefix (s.gate ∷ [])))

  -- the closed gate stands in each outcome of what is written after it
  pub torn_after : (payload : List ℕ) (count : ℕ) (image : List ℕ) → Torn (place + 1) count bytes image → OpensTo header bytes payload image
  torn_after payload count image torn =
      let rest : List ℕ = drop (place + 1) image in
      let whole : image ≡ prefix ++ s.gate ∷ drop (place + 1) image =
      sym (take-append-drop (place + 1) image) ∙ ap (λ (l : List ℕ). l ++ drop (place + 1) image) (torn.before ∙ to_gate) ∙ append_assoc prefix (s.gate ∷ []) (drop (place + 1) image) in (
        has_gate header image s.payloads s.gate (drop (place + 1) image) whole s.fit s.closed,
        inl (ap (payloads_of header) whole ∙ closed_file header s.payloads s.gate (drop (place + 1) image) s.fit s.closed ∙ sym opens_now),
      )

  module _ (payload : List ℕ) (small : length payload < 2 ^ 32) where
    -- what stands after the batch and its closed gate
    abbrev suffix : List ℕ
    suffix = drop (place + 1 + length (body_of payload ++ 0 ∷ [])) bytes

    -- the file with the batch after the closed gate
    abbrev pub staged : List ℕ
    staged = written bytes (place + 1) (body_of payload ++ 0 ∷ [])

    abbrev batch_after : List ℕ
    batch_after = body_of payload ++ (0 ∷ suffix)

    staged_is : staged ≡ prefix ++ s.gate ∷ batch_after
    staged_is =
        ap (λ (l : List ℕ). l ++ (body_of payload ++ 0 ∷ []) ++ suffix) to_gate
        ∙ append_assoc (prefix ++ s.gate ∷ []) (body_of payload ++ 0 ∷ []) suffix
        ∙ append_assoc prefix (s.gate ∷ []) ((body_of payload ++ 0 ∷ []) ++ suffix)
        ∙ ap (λ (l : List ℕ). prefix ++ s.gate ∷ l) (append_assoc (body_of payload) (0 ∷ []) suffix)

    pub staged_long : place + 1 ≤ length staged
    staged_long = omega (arith, ap length staged_is, s.current, length-append prefix (s.gate ∷ batch_after))

    staged_back : drop (place + 1) staged ≡ batch_after
    staged_back =
        let split : staged ≡ (prefix ++ s.gate ∷ []) ++ batch_after = staged_is ∙ sym (append_assoc prefix (s.gate ∷ []) batch_after) in
        ap (λ (l : List ℕ). drop (place + 1) l) split ∙ drop_at (prefix ++ s.gate ∷ []) batch_after (place + 1) (omega (arith, s.current, length-append prefix (s.gate ∷ [])))

    staged_prefix : take place staged ≡ prefix
    staged_prefix = ap (λ (l : List ℕ). take place l) staged_is ∙ take_at prefix (s.gate ∷ batch_after) place (sym s.current)

    whole_batch : (at : ℕ) → payloads_from at (1 ∷ batch_after) ≡ Ok (payload ∷ [])
    whole_batch at = opened_batch at payload (0 ∷ suffix) small ∙ ap (with_first payload) (opened_closed (at + 5 + length payload) 0 suffix (omega arith))

    opened_is : prefix ++ 1 ∷ batch_after ≡ header ++ batches (s.payloads ++ payload ∷ []) ++ 0 ∷ suffix
    opened_is =
        append_assoc header (batches s.payloads) (1 ∷ batch_after)
        ∙ ap (λ (l : List ℕ). header ++ l) (sym (batches-push s.payloads payload (0 ∷ suffix)))
        ∙ sym (append_assoc header (batches (s.payloads ++ payload ∷ [])) (0 ∷ suffix))

    any_gate : (gate : ℕ) → OpensTo header bytes payload (prefix ++ gate ∷ batch_after)
    any_gate gate = elim (cases_eq gate 1) [
      | inl is_open ↦ (
        has_gate header (prefix ++ gate ∷ batch_after) (s.payloads ++ payload ∷ []) 0 suffix (ap (λ (g : ℕ). prefix ++ g ∷ batch_after) is_open ∙ opened_is) (FitLengths-push s.payloads payload s.fit small) (λ e. omega arith),
        inr (
            ap (λ (g : ℕ). payloads_of header (prefix ++ g ∷ batch_after)) is_open
            ∙ payloads_of_file header s.payloads (1 ∷ batch_after) s.fit
            ∙ ap (λ (o : Opening). opening_answer None (with_prefix s.payloads o)) (whole_batch (length prefix))
            ∙ sym (ap (with_last payload) opens_now)
            ),
      )
      | inr shut ↦ (
        has_gate header (prefix ++ gate ∷ batch_after) s.payloads gate batch_after refl s.fit shut,
        inl (closed_file header s.payloads gate batch_after s.fit shut ∙ sym opens_now),
      )
    ]

    -- the batch stands whole in each outcome of the write of its gate
    pub torn_gate : (image : List ℕ) → Torn place 1 staged image → OpensTo header bytes payload image
    torn_gate image torn =
        let back : drop place image ≡ get_or image place 0 ∷ batch_after =
        drop_more image place 0 (omega (arith, staged_long, torn.no_shorter)) ∙ ap (λ (l : List ℕ). get_or image place 0 ∷ l) (torn.suffix ∙ staged_back) in
        let whole : image ≡ prefix ++ get_or image place 0 ∷ batch_after =
        sym (take-append-drop place image) ∙ ap (λ (l : List ℕ). l ++ drop place image) (torn.before ∙ staged_prefix) ∙ ap (λ (l : List ℕ). prefix ++ l) back in
        subst (OpensTo header bytes payload) (sym whole) (any_gate (get_or image place 0))

    open_is : written staged place (1 ∷ []) ≡ header ++ batches (s.payloads ++ payload ∷ []) ++ 0 ∷ suffix
    open_is =
        ap (λ (l : List ℕ). l ++ (1 ∷ []) ++ drop (place + 1) staged) staged_prefix
        ∙ ap (λ (l : List ℕ). prefix ++ (1 ∷ []) ++ l) staged_back
        ∙ append_assoc prefix (1 ∷ []) batch_after
        ∙ opened_is

    -- and then the file is settled, with one payload more
    pub settled_after : (place' : ℕ) (bytes' : List ℕ) (past' : List Step) → place' ≡ place + 5 + length payload → bytes' ≡ written staged place (1 ∷ []) → LeavesOnly past' bytes'
        → IsSettled header place' bytes' past' × (payloads_of header bytes' ≡ with_last payload (payloads_of header bytes))
    settled_after place' bytes' past' place_is is keeps =
        let fit = FitLengths-push s.payloads payload s.fit small in
        let longer : length (header ++ batches (s.payloads ++ payload ∷ [])) ≡ place + 5 + length payload =
        let parts : batches (s.payloads ++ payload ∷ []) ++ [] ≡ batches s.payloads ++ (1 ∷ body_of payload ++ []) = batches-push s.payloads payload [] in
        omega (
          arith,
          s.current,
          length-append header (batches s.payloads),
          length-append header (batches (s.payloads ++ payload ∷ [])),
          ap length parts,
          length-append (batches (s.payloads ++ payload ∷ [])) [],
          length-append (batches s.payloads) (1 ∷ body_of payload ++ []),
          length-append (body_of payload) [],
          length-body payload,
        ) in (
          record {
            payloads = s.payloads ++ payload ∷ [];
            gate = 0;
            tail = suffix;
            file = is ∙ open_is;
            closed = λ e. omega arith;
            fit = fit;
            current = place_is ∙ sym longer;
            kept = keeps;
          },
          ap (payloads_of header) (is ∙ open_is) ∙ closed_file header (s.payloads ++ payload ∷ []) 0 suffix fit (λ e. omega arith) ∙ sym (ap (with_last payload) opens_now),
        )
