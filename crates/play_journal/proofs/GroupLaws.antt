-- Records that are added together.
use Rattle.std.proofs.Common.{◌≡◌, ℕ, ◌+◌, ◌-◌, ◌≤◌, List, [], ◌∷◌, ◌++◌, length, length-append, take, drop, append_assoc, arith}
use Rattle.std.proofs.Common.{◌^◌, min, refl, sym, ap, subst, ◌∙◌}
use Rattle.std.specs.Prelude.{All, flat_map, unwrap_or}
use Rattle.std.specs.Int.{w32, to_le_bytes}
use Rattle.std.specs.Result.{result_ok}
use Rattle.std.proofs.lemmas.Grind.{flat_map-append}
use Rattle.std.proofs.lemmas.List.{append-nil, take_at, take_all, flat_map_more}
use Rattle.std.proofs.lemmas.List.Elements.{All-append, All-cons, All-nil}
use Rattle.play_journal.specs.Calls.{IsNextRecord, AreNextRecords}
use Rattle.play_journal.specs.Content.{Content, with_record, with_records}
use Rattle.play_journal.specs.File.{open_gate, longest_body, gated, records_len}
use Rattle.play_journal.specs.Group.{group_len, FitsGroup, bodies_of, IsGroup}
use Rattle.play_journal.specs.JournalState.{JournalState}
use Rattle.play_journal.proofs.RecordLaws.{records_at-gated}

-- a group of one record, of none, and of those of two groups
pub one_record : (content : Content) (body : List ℕ) → with_records content (body ∷ []) ≡ with_record content body
one_record content body = refl

pub no_records : (content : Content) → with_records content [] ≡ content
no_records content = ap (λ (l : List (List ℕ)). record content { records = l }) (append-nil content.records)

pub more_records : (content : Content) (bodies more : List (List ℕ))
    → with_records (with_records content bodies) more ≡ with_records content (bodies ++ more)
more_records content bodies more = ap (λ (l : List (List ℕ)). record content { records = l }) (append_assoc content.records bodies more)

-- how many bytes records take
pub records_len-one : (body : List ℕ) → records_len (body ∷ []) ≡ 5 + length body
records_len-one body = ap (λ (l : List ℕ). length l) (append-nil (gated body)) ∙ omega arith

pub records_len-append : (bodies more : List (List ℕ)) → records_len (bodies ++ more) ≡ records_len bodies + records_len more
records_len-append bodies more = ap (λ (l : List ℕ). length l) (flat_map-append gated bodies more)
    ∙ length-append (flat_map gated bodies) (flat_map gated more)

-- the numbers of a group of one record
pub one_number : {D : Type 0} (old new : JournalState D) (body : List ℕ) (number : ℕ) → AreNextRecords old new (body ∷ []) number
    → IsNextRecord old new (length body) number
one_number old new body number are = record {
  next = are.last;
  count = are.count;
  bytes = are.bytes ∙ ap (λ (n : ℕ). min (old.bytes + n) (2 ^ 64 - 1)) (records_len-one body);
  usable = are.usable;
}

-- each record takes a byte at least
pub records_few : (bodies : List (List ℕ)) → length bodies ≤ records_len bodies
records_few [] = omega arith
records_few (body ∷ bodies) = omega (arith, records_few bodies, length-append (gated body) (flat_map gated bodies))

-- what stands behind the gate of one record
pub one_spelled : (body added : List ℕ) → added ≡ to_le_bytes w32 (length body) ++ body ++ 0 ∷ []
    → open_gate ∷ added ≡ flat_map gated (body ∷ []) ++ 0 ∷ []
one_spelled body added is = ap (λ (l : List ℕ). open_gate ∷ l) is ∙ ap (λ (l : List ℕ). l ++ 0 ∷ []) (sym (append-nil (gated body)))

pub one_short : (body : List ℕ) → length body ≤ longest_body → All (λ (b : List ℕ). length b ≤ longest_body) (body ∷ [])
one_short body short =
    All-cons (λ (b : List ℕ). length b ≤ longest_body) body [] short (All-nil (λ (b : List ℕ). length b ≤ longest_body))

-- what stands behind the first gate of some records
pub behind_first : (bytes : List ℕ) (bodies : List (List ℕ)) → bytes ≡ flat_map gated bodies ++ 0 ∷ [] → (bodies ≡ [] → ⊥)
    → open_gate ∷ take (length bytes - 1) (drop 1 bytes) ≡ flat_map gated bodies ++ 0 ∷ []
behind_first bytes [] is some = absurd (some refl)
behind_first bytes (body ∷ bodies) is some =
    let rest : List ℕ = to_le_bytes w32 (length body) ++ body ++ flat_map gated bodies ++ 0 ∷ [] in
    ap (λ (l : List ℕ). open_gate ∷ take (length l - 1) (drop 1 l)) is
    ∙ ap (λ (l : List ℕ). open_gate ∷ l) (take_all (length (open_gate ∷ rest) - 1) rest (omega arith))

-- a group without records
pub empty_bodies : (bytes : List ℕ) → bytes ≡ 0 ∷ [] → bodies_of bytes ≡ []
empty_bodies bytes is = ap bodies_of is ∙ ap (λ r. unwrap_or (result_ok r) [])
    (records_at-gated [] 0 0 0 [] (λ same. omega arith) (All-nil (λ (b : List ℕ). length b ≤ longest_body)) (omega arith))

-- the bytes of a group
module _ (bytes : List ℕ) (count : ℕ) (is : IsGroup bytes count) where
  pub bodies_are : bodies_of bytes ≡ is.bodies
  bodies_are = ap bodies_of is.spelled ∙ ap (λ r. unwrap_or (result_ok r) [])
      (records_at-gated is.bodies 0 0 0 [] (λ same. omega arith) is.fits.short (omega (arith, records_few is.bodies, is.fits.within)))

  pub spelled_by : bytes ≡ flat_map gated (bodies_of bytes) ++ 0 ∷ []
  spelled_by = is.spelled ∙ ap (λ (l : List (List ℕ)). flat_map gated l ++ 0 ∷ []) (sym bodies_are)

  pub length-group : length bytes ≡ records_len (bodies_of bytes) + 1
  length-group = ap (λ (l : List ℕ). length l) spelled_by ∙ length-append (flat_map gated (bodies_of bytes)) (0 ∷ [])

  pub counted_by : length (bodies_of bytes) ≡ count
  counted_by = ap (λ (l : List (List ℕ)). length l) bodies_are ∙ is.counted

  pub fits_group : FitsGroup (bodies_of bytes)
  fits_group = subst FitsGroup (sym bodies_are) is.fits

  pub few : count ≤ group_len
  few = omega (arith, counted_by, records_few (bodies_of bytes), fits_group.within)

  -- with one record more
  module _ (gate : ℕ) (body new : List ℕ) (at_end : length bytes ≡ gate + 1) (short : length body ≤ longest_body) (room : gate
      + (5 + length body) ≤ group_len) (made : new ≡ take gate bytes ++ open_gate ∷ [] ++ to_le_bytes w32 (length body) ++ body
      ++ 0 ∷ []) where
    front : take gate bytes ≡ flat_map gated (bodies_of bytes)
    front = ap (λ (l : List ℕ). take gate l) spelled_by ∙ take_at (flat_map gated (bodies_of bytes)) (0 ∷ []) gate (omega
        (arith, length-group, at_end))

    pub pushed : IsGroup new (count + 1)
    pushed = record {
      bodies = bodies_of bytes ++ body ∷ [];
      spelled = made ∙ ap (λ (l : List ℕ). l ++ 0 ∷ []) (append_assoc (take gate bytes ++ open_gate ∷ []) (to_le_bytes w32
          (length body)) body ∙ append_assoc (take gate bytes) (open_gate ∷ []) (to_le_bytes w32 (length body) ++ body)
          ∙ ap (λ (l : List ℕ). l ++ gated body) front ∙ flat_map_more gated [] (bodies_of bytes) body);
      counted = omega (arith, length-append (bodies_of bytes) (body ∷ []), counted_by);
      fits = record {
        short = All-append (λ (b : List ℕ). length b ≤ longest_body) (bodies_of bytes) (body ∷ []) fits_group.short
            (one_short body short);
        within = omega (arith, records_len-append (bodies_of bytes) (body ∷ []), records_len-one body, length-group, at_end, room);
      };
    }

pub pushed_bodies : (bytes : List ℕ) (count : ℕ) (is : IsGroup bytes count) (gate : ℕ) (body new : List ℕ) → length bytes ≡ gate + 1
    → length body ≤ longest_body → gate + (5 + length body) ≤ group_len
    → new ≡ take gate bytes ++ open_gate ∷ [] ++ to_le_bytes w32 (length body) ++ body ++ 0 ∷ []
    → bodies_of new ≡ bodies_of bytes ++ body ∷ []
unfolding pushed
pushed_bodies bytes count is gate body new at_end short room made =
    bodies_are new (count + 1) (pushed bytes count is gate body new at_end short room made)
