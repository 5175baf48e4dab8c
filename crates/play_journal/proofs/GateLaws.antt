-- The bytes at a gate, by their offsets in the file.
use Rattle.std.proofs.Common.{◌≡◌, ℕ, ◌+◌, ◌-◌, ◌^◌, ◌<◌, ◌≤◌, Bool, true, false, ◌||◌, List, [], ◌∷◌, length, length-drop, take, drop}
use Rattle.std.proofs.Common.{get_or, Ok, Err, arith, refl, sym, ap, ◌∙◌}
use Rattle.std.specs.Prelude.{◌≢◌, slice_range}
use Rattle.std.specs.Int.{w32, from_le_bytes}
use Rattle.std.proofs.lemmas.Bool.{lt-ltb, le-leb}
use Rattle.std.proofs.lemmas.List.{drop_more, drop_all, drop-drop}
use Rattle.play_journal.specs.File.{open_gate, longest_body}
use Rattle.play_journal.specs.Reading.{number_at, passes, with_first, records_at}
use Rattle.play_journal.proofs.RecordLaws.{at_number, IsRecord, records_at-record, records_at-closed, records_at-passes, records_at-end}

module _ (bytes : List ℕ) (at before : ℕ) where
  ahead : at < length bytes → drop at bytes ≡ get_or bytes at 0 ∷ drop (at + 1) bytes
  ahead within = drop_more bytes at 0 within

  length-behind : length (drop (at + 1) bytes) ≡ length bytes - (at + 1)
  length-behind = length-drop (at + 1) bytes

  size-behind : number_at w32 0 (drop (at + 1) bytes) ≡ number_at w32 (at + 1) bytes
  size-behind = at_number (λ (n : ℕ). from_le_bytes w32 (take n (drop (at + 1) bytes))) 4 (at + 1 + 4 - (at + 1)) (omega arith)

  pub missing_gate : at ≡ length bytes → records_at 0 at before (drop at bytes) ≡ Err at
  missing_gate ended = ap (λ (l : List ℕ). records_at 0 at before l) (drop_all at bytes (omega arith)) ∙ records_at-end at before

  pub closed_gate : at < length bytes → get_or bytes at 0 ≢ open_gate → records_at 0 at before (drop at bytes) ≡ Ok []
  closed_gate within closed = ap (λ (l : List ℕ). records_at 0 at before l) (ahead within)
      ∙ records_at-closed at before (get_or bytes at 0) (drop (at + 1) bytes) closed

  is_open : at < length bytes → get_or bytes at 0 ≡ open_gate → drop at bytes ≡ open_gate ∷ drop (at + 1) bytes
  is_open within gate = ahead within ∙ ap (λ (n : ℕ). n ∷ drop (at + 1) bytes) gate

  no_record : at < length bytes → get_or bytes at 0 ≡ open_gate → passes before (drop (at + 1) bytes) ≡ true
      → records_at 0 at before (drop at bytes) ≡ Err at
  no_record within gate passed = ap (λ (l : List ℕ). records_at 0 at before l) (is_open within gate)
      ∙ records_at-passes at before (drop (at + 1) bytes) passed

  or_left : (x y : Bool) → x ≡ true → (x || y) ≡ true
  or_left true y is = refl
  or_left false y is = absurd cc

  or_right : (x y : Bool) → y ≡ true → (x || y) ≡ true
  or_right true y is = refl
  or_right false y is = is

  pub short_field : at < length bytes → get_or bytes at 0 ≡ open_gate → length bytes < at + 5
      → records_at 0 at before (drop at bytes) ≡ Err at
  short_field within gate short =
      no_record within gate (or_left _ _ (or_left _ _ (or_left _ _ (lt-ltb (length (drop (at + 1) bytes)) 4 (omega
      (arith, length-behind))))))

  pub long_body : at < length bytes → get_or bytes at 0 ≡ open_gate → longest_body < number_at w32 (at + 1) bytes
      → records_at 0 at before (drop at bytes) ≡ Err at
  long_body within gate long =
      no_record within gate (or_left _ _ (or_left _ _ (or_right _ _ (lt-ltb longest_body (number_at w32 0 (drop (at + 1) bytes)) (omega
      (arith, size-behind, long))))))

  pub passed_end : at + 5 ≤ length bytes → get_or bytes at 0 ≡ open_gate → length bytes < at + 5 + number_at w32 (at + 1) bytes
      → records_at 0 at before (drop at bytes) ≡ Err at
  passed_end within gate passed =
      no_record (omega arith) gate (or_left _ _ (or_right _ _ (lt-ltb (length (drop (at + 1) bytes)) (4 + number_at w32 0 (drop
      (at + 1) bytes)) (omega (arith, size-behind, length-behind)))))

  pub last_number : at < length bytes → get_or bytes at 0 ≡ open_gate → 2 ^ 64 - 1 ≤ before
      → records_at 0 at before (drop at bytes) ≡ Err at
  last_number within gate last =
      no_record within gate (or_right _ _ (le-leb (2 ^ 64 - 1) before last))

  pub open_record : (size : ℕ) → at + 5 ≤ length bytes → get_or bytes at 0 ≡ open_gate → size ≡ number_at w32 (at + 1) bytes
      → size ≤ longest_body → at + 5 + size ≤ length bytes → before + 1 < 2 ^ 64
      → records_at 0 at before (drop at bytes) ≡ with_first (slice_range bytes (at + 5) (at + 5 + size))
      (records_at 0 (at + 5 + size) (before + 1) (drop (at + 5 + size) bytes))
  open_record size within gate is short all number =
      let stands : IsRecord before (drop (at + 1) bytes) size = record {
        field = omega (arith, length-behind);
        size_is = size-behind ∙ sym is;
        short = short;
        within = omega (arith, length-behind);
        number = number;
      } in
      let own : take size (drop 4 (drop (at + 1) bytes)) ≡ slice_range bytes (at + 5) (at + 5 + size) =
      ap (λ (l : List ℕ). take size l) (drop-drop 4 (at + 1) bytes) ∙ at_number (λ (n : ℕ). take size (drop n bytes)) (at + 1 + 4)
      (at + 5) (omega arith) ∙ at_number (λ (n : ℕ). take n (drop (at + 5) bytes)) size (at + 5 + size - (at + 5)) (omega arith) in
      let next : drop (4 + size) (drop (at + 1) bytes) ≡ drop (at + 5 + size) bytes = drop-drop (4 + size) (at + 1) bytes
      ∙ at_number (λ (n : ℕ). drop n bytes) (at + 1 + (4 + size)) (at + 5 + size) (omega arith) in
      ap (λ (l : List ℕ). records_at 0 at before l) (is_open (omega arith) gate)
      ∙ records_at-record at before size (drop (at + 1) bytes) stands
      ∙ ap (λ (l : List ℕ). with_first l (records_at 0 (at + 5 + size) (before + 1) (drop (4 + size) (drop (at + 1) bytes)))) own
      ∙ ap (λ (l : List ℕ). with_first (slice_range bytes (at + 5) (at + 5 + size)) (records_at 0 (at + 5 + size) (before + 1) l)) next
