-- A file that is spelled is read, and a file that is read was spelled.
use Rattle.std.proofs.Common.{◌≡◌, ℕ, ◌+◌, ◌-◌, ◌^◌, ◌<◌, ◌≤◌, false, ltb, List, [], ◌∷◌, ◌++◌, length, length-append, length-drop, take}
use Rattle.std.proofs.Common.{drop, append_assoc, Result, Ok, Err, arith, refl, sym, ap, subst, ◌∙◌}
use Rattle.std.specs.Prelude.{flat_map, slice_range}
use Rattle.std.specs.Int.{w32, w64}
use Rattle.std.proofs.lemmas.Bool.{ltb-false, le-ltb}
use Rattle.std.proofs.lemmas.List.{take_at, drop_at, take-append-drop, length-take-le, drop-drop, nil_from_length}
use Rattle.play_journal.specs.Content.{Content}
use Rattle.play_journal.specs.File.{open_gate, head, gated, spelling, IsFile, IsOpenAt}
use Rattle.play_journal.specs.Reading.{Open, number_at, records_at, with_read, before_records, front, read}
use Rattle.play_journal.proofs.RecordLaws.{at_number, IsBytes, IsBytes-drop, guard_ok, records_at-gated, records_at-inverse}
use Rattle.play_journal.proofs.HeadLaws.{length-head, spelled_rest, spelled_layout, spelled_generation, spelled_base, spelled_size}
use Rattle.play_journal.proofs.HeadLaws.{front-open, passed, known_fits, spelled_head, head_number_8, head_number_4}

-- a file and what follows it, from the snapshot on
pub spelling_parts : (file : Content) (tail : List ℕ) → spelling file
    ++ tail ≡ open_gate ∷ head file.layout file.generation file.base (length file.snapshot) ++ (file.snapshot
    ++ (flat_map gated file.records ++ tail))
spelling_parts file tail = simp append_assoc

pub length-spelling : (file : Content) → length (spelling file) ≡ 32 + length file.snapshot + length (flat_map gated file.records)
length-spelling file =
    omega (
      arith,
      length-head file.layout file.generation file.base (length file.snapshot),
      length-append
          (open_gate ∷ head file.layout file.generation file.base (length file.snapshot)
          ++ file.snapshot) (flat_map gated file.records),
      length-append (open_gate ∷ head file.layout file.generation file.base
          (length file.snapshot)) file.snapshot,
    )

pub front-file : (bytes : List ℕ) (file : Content) → IsFile bytes file → front bytes ≡ Open file.generation
front-file bytes file is =
    ap front (is.spelled ∙ spelling_parts file (is.gate ∷ is.free)) ∙ front-open file.layout file.generation file.base
    (length file.snapshot) _ is.fits.layout is.fits.generation

pub read_by : (bytes : List ℕ) (layout generation base size : ℕ) → number_at w32 8 bytes ≡ layout → number_at w64 12 bytes ≡ generation
    → number_at w64 20 bytes ≡ base → number_at w32 28 bytes ≡ size → 32 + size ≤ length bytes
    → read bytes ≡ with_read (record {
      layout = layout;
      generation = generation;
      base = base;
      snapshot = slice_range bytes 32 (32 + size);
      records = [];
    }) (records_at 0 (32 + size) base (drop (32 + size) bytes))
unfolding read
read_by bytes layout generation base size layout_is generation_is base_is size_is within =
    let long : ltb (length bytes) (32 + size) ≡ false = le-ltb (length bytes) (32 + size) within in
    rw (size_is, base_is, layout_is, generation_is, long) refl

-- a file that is spelled
pub read-file : (bytes : List ℕ) (file : Content) → IsFile bytes file → read bytes ≡ Ok file
read-file bytes file is =
    let size : ℕ = length file.snapshot in
    let tail : List ℕ = flat_map gated file.records ++ is.gate ∷ is.free in
    let spelled : bytes ≡ open_gate ∷ head file.layout file.generation file.base size ++ (file.snapshot ++ tail) = is.spelled
    ∙ spelling_parts file (is.gate ∷ is.free) in
    let layout_is : number_at w32 8 bytes ≡ file.layout = ap (λ (l : List ℕ). number_at w32 8 l) spelled
    ∙ spelled_layout file.layout file.generation file.base size (file.snapshot ++ tail) (known_fits file.layout is.fits.layout) in
    let generation_is : number_at w64 12 bytes ≡ file.generation = ap (λ (l : List ℕ). number_at w64 12 l) spelled
    ∙ spelled_generation file.layout file.generation file.base size (file.snapshot ++ tail) is.fits.generation in
    let base_is : number_at w64 20 bytes ≡ file.base = ap (λ (l : List ℕ). number_at w64 20 l) spelled
    ∙ spelled_base file.layout file.generation file.base size (file.snapshot ++ tail) (omega (arith, is.fits.numbers)) in
    let size_is : number_at w32 28 bytes ≡ size = ap (λ (l : List ℕ). number_at w32 28 l) spelled
    ∙ spelled_size file.layout file.generation file.base size (file.snapshot ++ tail) is.fits.snapshot in
    let behind : drop 32 bytes ≡ file.snapshot ++ tail = ap (λ (l : List ℕ). drop 32 l) spelled
    ∙ spelled_rest file.layout file.generation file.base size (file.snapshot ++ tail) in
    let within : 32 + size ≤ length bytes = omega (
      arith,
      ap (λ (l : List ℕ). length l) behind,
      length-drop 32 bytes,
      length-append
          file.snapshot tail,
      ap (λ (l : List ℕ). length l) spelled,
      length-append (head file.layout file.generation file.base size)
          (file.snapshot ++ tail),
      length-head file.layout file.generation file.base size,
    ) in
    let snapshot : slice_range bytes 32 (32 + size) ≡ file.snapshot =
    at_number (λ (n : ℕ). take n (drop 32 bytes)) (32 + size - 32) size (omega arith) ∙ ap (λ (l : List ℕ). take size l) behind
    ∙ take_at file.snapshot tail size refl in
    let rest : drop (32 + size) bytes ≡ tail = sym (drop-drop size 32 bytes) ∙ ap (λ (l : List ℕ). drop size l) behind
    ∙ drop_at file.snapshot tail size refl in
    let records : records_at 0 (32 + size) file.base (drop (32 + size) bytes) ≡ Ok file.records =
    ap (λ (l : List ℕ). records_at 0 (32 + size) file.base l) rest ∙ records_at-gated file.records
    (32 + size) file.base is.gate is.free is.closed is.fits.records is.fits.numbers in
    read_by bytes file.layout file.generation file.base size layout_is generation_is base_is size_is within
    ∙ ap (λ (l : List ℕ). with_read (record {
      layout = file.layout;
      generation = file.generation;
      base = file.base;
      snapshot = l;
      records = [];
    }) (records_at 0 (32 + size) file.base (drop (32 + size) bytes))) snapshot
    ∙ ap (λ r. with_read (record {
      layout = file.layout;
      generation = file.generation;
      base = file.base;
      snapshot = file.snapshot;
      records = [];
    }) r) records

-- an open file
pub open_at-file : (bytes : List ℕ) (file : Content) → IsFile bytes file → IsOpenAt bytes file.generation
open_at-file bytes file is = record {
  layout = file.layout;
  base = file.base;
  size = length file.snapshot;
  rest = file.snapshot ++ (flat_map gated file.records ++ is.gate ∷ is.free);
  known = is.fits.layout;
  generation_fits = is.fits.generation;
  base_fits = omega (arith, is.fits.numbers);
  size_fits = is.fits.snapshot;
  spelled = is.spelled ∙ spelling_parts file (is.gate ∷ is.free);
}

with_read-ok : (front : Content) (r : Result (List (List ℕ)) ℕ) (content : Content) → with_read front r ≡ Ok content
    → (records : List (List ℕ)) × (r ≡ Ok records) × (record front { records = records } ≡ content)
with_read-ok front (Ok records) content is = (records, refl, cc)
with_read-ok front (Err offset) content is = absurd cc

-- a file that was read
pub record ReadAs (bytes : List ℕ) (generation : ℕ) (content : Content) : Type 0 where
  pub file : Content
  pub is_file : IsFile bytes file
  pub generation_is : file.generation ≡ generation
  pub says : file ≡ content

pub read-inverse : (bytes : List ℕ) (generation : ℕ) (content : Content) → IsBytes bytes → front bytes ≡ Open generation
    → read bytes ≡ Ok content → ReadAs bytes generation content
unfolding read
read-inverse bytes generation content fits opened is =
    let layout : ℕ = number_at w32 8 bytes in
    let base : ℕ = number_at w64 20 bytes in
    let size : ℕ = number_at w32 28 bytes in
    let tests = passed bytes generation opened in
    let snapshot : List ℕ = take size (drop 32 bytes) in
    let own : slice_range bytes 32 (32 + size) ≡ snapshot = at_number (λ (n : ℕ). take n (drop 32 bytes)) (32 + size - 32) size
    (omega arith) in
    let guarded = guard_ok (ltb (length bytes) (32 + size)) 28 (with_read (before_records bytes size) (records_at 0 (32 + size) base
    (drop (32 + size) bytes))) content is in
    let within : 32 + size ≤ length bytes = ltb-false (length bytes) (32 + size) guarded.0 in
    let parts = with_read-ok (before_records bytes size) (records_at 0 (32 + size) base (drop (32 + size) bytes)) content guarded.1 in
    let stands = records_at-inverse (drop (32 + size) bytes) 0 (32 + size) base parts.0 (IsBytes-drop (32 + size) bytes fits)
    (head_number_8 20 bytes fits) parts.1 in
    let long : length snapshot ≡ size = length-take-le size (drop 32 bytes) (omega (arith, length-drop 32 bytes, within)) in
    let none : stands.front ≡ [] = nil_from_length stands.front stands.skipped in
    let tail : List ℕ = flat_map gated parts.0 ++ stands.gate ∷ stands.free in
    let rest : drop (32 + size) bytes ≡ tail = stands.parts ∙ ap (λ (l : List ℕ). l ++ tail) none in
    let behind : drop 32 bytes ≡ snapshot ++ tail = sym (take-append-drop size (drop 32 bytes))
    ∙ ap (λ (l : List ℕ). snapshot ++ l) (drop-drop size 32 bytes ∙ rest) in
    let made : Content = record { layout = layout; generation = generation; base = base; snapshot = snapshot; records = parts.0 } in
    let spelled : bytes ≡ spelling made ++ stands.gate ∷ stands.free =
    spelled_head bytes generation fits tests ∙ ap (λ (l : List ℕ). open_gate ∷ head layout generation base size ++ l) behind
    ∙ ap (λ (n : ℕ). open_gate ∷ head layout generation base n ++ (snapshot ++ tail)) (sym long)
    ∙ sym (spelling_parts made (stands.gate ∷ stands.free)) in
    record {
      file = made;
      is_file = record {
        fits = record {
          layout = tests.layout;
          generation = subst (λ (n : ℕ). n < 2 ^ 64) tests.numbered (head_number_8 12 bytes fits);
          numbers = stands.numbers;
          snapshot = subst (λ (n : ℕ). n < 2 ^ 32) (sym long) (head_number_4 28 bytes fits);
          records = stands.small;
        };
        gate = stands.gate;
        free = stands.free;
        closed = stands.closed;
        spelled = spelled;
      };
      generation_is = refl;
      says = ap (λ (n : ℕ). record {
        layout = layout;
        generation = n;
        base = base;
        snapshot = snapshot;
        records = parts.0;
      }) (sym tests.numbered)
          ∙ ap (λ (l : List ℕ). record {
            layout = number_at w32 8 bytes;
            generation = number_at w64 12 bytes;
            base = base;
            snapshot = l;
            records = parts.0;
          }) (sym own) ∙ parts.2;
    }
