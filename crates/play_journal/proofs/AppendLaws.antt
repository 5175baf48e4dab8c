-- What a crash leaves while a record is added.
use Rattle.std.proofs.Common.{◌≡◌, inl, inr, ℕ, ◌+◌, ◌<◌, ◌≤◌, List, [], ◌∷◌, ◌++◌, length, length-append, take, drop, drop-cons, get_or}
use Rattle.std.proofs.Common.{add-one, append_assoc, arith, sym, ap, ◌∙◌}
use Rattle.std.specs.Prelude.{slice_index}
use Rattle.std.proofs.lemmas.List.{take_at, drop_at, length-take-le, take-append-drop}
use Rattle.disk_model.specs.Calls.{overwritten}
use Rattle.disk_model.specs.Torn.{Torn}
use Rattle.play_journal.specs.Opening.{IsAppending}

-- a file parted at a byte
pub gate_parts : (s : List ℕ) (gate : ℕ) → gate + 1 ≤ length s → s ≡ take gate s ++ slice_index s gate ∷ drop (gate + 1) s
gate_parts s gate len =
    let rest : drop gate s ≡ get_or s gate 0 ∷ drop (gate + 1) s = rw add-one (drop-cons s gate 0 (omega arith)) in
    sym (take-append-drop gate s) ∙ ap (λ (l : List ℕ). take gate s ++ l) rest

-- and its front with that byte
pub gate_front : (s : List ℕ) (gate : ℕ) → gate + 1 ≤ length s → take (gate + 1) s ≡ take gate s ++ slice_index s gate ∷ []
gate_front s gate len =
    let regrouped : s ≡ (take gate s ++ slice_index s gate ∷ []) ++ drop (gate + 1) s =
    gate_parts s gate len ∙ sym (append_assoc (take gate s) (slice_index s gate ∷ []) (drop (gate + 1) s)) in
    ap (λ (l : List ℕ). take (gate + 1) l) regrouped ∙ take_at (take gate s ++ slice_index s gate ∷ []) (drop (gate + 1) s) (gate + 1)
    (omega (arith, length-append (take gate s) (slice_index s gate ∷ []), length-take-le gate s (omega arith)))

-- a byte written over another
pub torn_byte : (at : ℕ) (bytes image : List ℕ) → at < length bytes → Torn at 1 bytes image
    → image ≡ take at bytes ++ get_or image at 0 ∷ drop (at + 1) bytes
torn_byte at bytes image within torn =
    let inside : at < length image = omega (arith, torn.no_shorter) in
    let parts : image ≡ take at image ++ get_or image at 0 ∷ drop (at + 1) image =
    rw (add-one, ← drop-cons image at 0) (sym (take-append-drop at image)) in
    parts ∙ ap (λ (l : List ℕ). l ++ get_or image at 0 ∷ drop (at + 1) image) torn.before
    ∙ ap (λ (l : List ℕ). take at bytes ++ get_or image at 0 ∷ l) torn.after

module _ (s added : List ℕ) (gate : ℕ) (len : gate + 1 ≤ length s) where
  abbrev pub Appending : List ℕ → Type 0
  Appending = IsAppending (take gate s) (slice_index s gate) added

  -- what follows behind the record
  abbrev pub tail : List ℕ
  tail = drop (gate + 1 + length added) s

  -- more behind the closed gate changes nothing
  behind : (rest image : List ℕ) → image ≡ take (gate + 1) s ++ rest → Appending image
  behind rest image is = inl (
    rest,
    is ∙ ap (λ (l : List ℕ). l ++ rest) (gate_front s gate len)
        ∙ append_assoc (take gate s) (slice_index s gate ∷ []) rest,
  )

  -- the record is written, or a part of it
  pub written_behind : (at n : ℕ) (image : List ℕ) → at ≡ gate + 1 → Torn at n s image → Appending image
  written_behind at n image is_at torn =
      behind (drop at image) image (sym (take-append-drop at image) ∙ ap (λ (l : List ℕ). l ++ drop at image) (torn.before
      ∙ ap (λ (k : ℕ). take k s) is_at))

  -- the bytes that are then synced
  pub staged : (at : ℕ) (c : List ℕ) → at ≡ gate + 1 → c ≡ overwritten s at added → c ≡ take gate s ++ (slice_index s gate ∷ added ++ tail)
  staged at c is_at is =
      is ∙ ap (λ (k : ℕ). take k s ++ added ++ drop (k + length added) s) is_at
      ∙ ap (λ (l : List ℕ). l ++ added ++ tail) (gate_front s gate len)
      ∙ append_assoc (take gate s ++ slice_index s gate ∷ []) added tail
      ∙ append_assoc (take gate s) (slice_index s gate ∷ []) (added ++ tail)

  module _ (c : List ℕ) (is : c ≡ take gate s ++ (slice_index s gate ∷ added ++ tail)) where
    long : length (take gate s) ≡ gate
    long = length-take-le gate s (omega arith)

    pub gate_inside : gate < length c
    gate_inside = omega (arith, ap (λ (l : List ℕ). length l) is, length-append (take gate s) (slice_index s gate ∷ added ++ tail), long)

    front_of : take gate c ≡ take gate s
    front_of = ap (λ (l : List ℕ). take gate l) is ∙ take_at (take gate s) (slice_index s gate ∷ added ++ tail) gate long

    behind_of : drop (gate + 1) c ≡ added ++ tail
    behind_of =
        let regrouped : c ≡ (take gate s ++ slice_index s gate ∷ []) ++ (added ++ tail) = is
        ∙ sym (append_assoc (take gate s) (slice_index s gate ∷ []) (added ++ tail)) in
        ap (λ (l : List ℕ). drop (gate + 1) l) regrouped ∙ drop_at (take gate s
        ++ slice_index s gate ∷ []) (added ++ tail) (gate + 1) (omega (arith, long, length-append (take gate s) (slice_index s gate ∷ [])))

    -- the gate is written
    pub gate_written : (image : List ℕ) → Torn gate 1 c image → Appending image
    gate_written image torn =
        inr (
          get_or image gate 0,
          tail,
          torn_byte gate c image gate_inside torn
              ∙ ap (λ (l : List ℕ). l ++ get_or image gate 0 ∷ drop (gate + 1) c) front_of
              ∙ ap (λ (l : List ℕ). take gate s ++ get_or image gate 0 ∷ l) behind_of,
        )

    -- the bytes that are synced at last
    pub opened : (d : List ℕ) (byte : ℕ) → d ≡ overwritten c gate (byte ∷ []) → d ≡ take gate s ++ (byte ∷ added ++ tail)
    opened d byte made =
        made ∙ ap (λ (l : List ℕ). l ++ (byte ∷ []) ++ drop (gate + 1) c) front_of
        ∙ ap (λ (l : List ℕ). take gate s ++ (byte ∷ []) ++ l) behind_of ∙ append_assoc (take gate s) (byte ∷ []) (added ++ tail)
