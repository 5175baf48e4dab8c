-- A written picture, as it is read.
use Rattle.std.proofs.Common.{◌≡◌, ℕ, zero, suc, ◌+◌, ◌-◌, ◌*◌, List, [], ◌∷◌, ◌++◌, length, take, drop, map}
use Rattle.std.proofs.Common.{true, cond, Some, None, nat_lt, sym, ap, ◌∙◌, refl, arith}
use Rattle.std.specs.Prelude.{option_map, option_and_then, position, ◌==◌, not, codes, slice_index}
use Rattle.std.specs.Prelude.{if◌then◌else◌}
use Rattle.std.specs.List.{position_or_len}
use Rattle.std.proofs.lemmas.Bool.{and_parts, lt-ltb}
use Rattle.std.proofs.lemmas.List.{append_assoc, length-append, take_at, get_or-append-add}
use Rattle.song_files.specs.Text.{is_tag_text}
use Rattle.id3_tags.specs.Strings.{kept, strings_in, texts_in, first_len}
use Rattle.id3_tags.specs.Pictures.{FramePicture, mime_in, mime_len, description_len, first_text, picture_by, picture_of}
use Rattle.id3_tags.specs.Writing.{has_no_zero, is_string, is_string_or_none}
use Rattle.id3_tags.proofs.Terminated.{string_split, kept_fit, kept_text, tag_text_of, free_fit}

zero_place : (s r : List ℕ) → has_no_zero s ≡ true → position_or_len (λ u. u == 0) (s ++ 0 ∷ r) ≡ length s
zero_place [] r free = refl
zero_place (x ∷ s) r free =
    let parts = and_parts (not (x == 0)) (has_no_zero s) free in
    let others : position_or_len (λ u. u == 0) (s ++ 0 ∷ r) ≡ length s = zero_place s r parts.1 in
    let here : not (x == 0) ≡ true = parts.0 in
    rw (here, others) (omega arith)

-- the place of the zero behind a string
first_zero : (s r : List ℕ) → has_no_zero s ≡ true → position (λ u. u == 0) (s ++ 0 ∷ r) ≡ Some (length s)
first_zero s r free =
    let place : position_or_len (λ u. u == 0) (s ++ 0 ∷ r) ≡ length s = zero_place s r free in
    let within : nat_lt (length s) (length (s ++ 0 ∷ r)) ≡ true
    = lt-ltb (length s) (length (s ++ 0 ∷ r)) (omega (arith, length-append s (0 ∷ r))) in
    ap (λ n. cond (nat_lt n (length (s ++ 0 ∷ r))) (Some n) None) place ∙ ap (λ b. cond b (Some (length s)) None) within

len_of : (n : ℕ) → 1 * (n + 1) ≡ n + 1
len_of n = omega arith

-- how many bytes a string has with its zero, in ISO-8859-1 and in UTF-8
first_len_0 : (s r : List ℕ) → has_no_zero s ≡ true → first_len 0 (s ++ 0 ∷ r) ≡ Some (length s + 1)
first_len_0 s r free = ap (option_map (λ p. 1 * (p + 1))) (first_zero s r free) ∙ ap (λ n. Some n) (len_of (length s))

first_len_3 : (s r : List ℕ) → has_no_zero s ≡ true → first_len 3 (s ++ 0 ∷ r) ≡ Some (length s + 1)
first_len_3 s r free = ap (option_map (λ p. 1 * (p + 1))) (first_zero s r free) ∙ ap (λ n. Some n) (len_of (length s))

drop_two : (s r : List ℕ) (a b n : ℕ) → n ≡ length s + 2 → drop n (s ++ a ∷ b ∷ r) ≡ r
drop_two [] r a b n is = let e : n ≡ 2 = omega arith in rw e refl
drop_two (x ∷ s) r a b zero is = absurd (omega arith)
drop_two (x ∷ s) r a b (suc n) is = drop_two s r a b n (omega arith)

-- the first text behind a picture's type
first_read : (s r : List ℕ) → is_string_or_none s ≡ true → first_text (texts_in 3 (s ++ 0 ∷ r)) ≡ s
first_read s r fit =
    ap (λ l. first_text (map kept (strings_in l))) (sym (append_assoc s (0 ∷ []) r))
    ∙ ap (λ l. first_text (map kept l)) (string_split s r (free_fit s fit)) ∙ kept_fit s fit

by_parts : (bytes mime desc : List ℕ) (first len m n kind : ℕ) → description_len 3 bytes m ≡ Some n → slice_index bytes m ≡ kind
    → mime_in (codes "APIC") bytes m ≡ mime → first_text (texts_in 3 (drop (m + 1) bytes)) ≡ desc
    → picture_by 3 (codes "APIC") bytes first len m
    ≡ Some (record { kind = kind; mime = mime; description = desc; first = first + (2 + m + n); len = len - (2 + m + n) })
by_parts bytes mime desc first len m n kind long type' name about =
    let made : ℕ → List ℕ → List ℕ → ℕ → FramePicture
    = λ k a d e. record { kind = k; mime = a; description = d; first = first + (2 + m + e); len = len - (2 + m + e) } in
    let whole : picture_by 3 (codes "APIC") bytes first len m ≡ Some (made (slice_index bytes m) (mime_in (codes "APIC") bytes m)
    (first_text (texts_in 3 (drop (m + 1) bytes))) n)
    = ap (option_map (made (slice_index bytes m) (mime_in (codes "APIC") bytes m) (first_text (texts_in 3 (drop (m + 1) bytes))))) long in
    whole ∙ ap (λ k. Some (made k (mime_in (codes "APIC") bytes m) (first_text (texts_in 3 (drop (m + 1) bytes))) n)) type'
    ∙ ap (λ a. Some (made kind a (first_text (texts_in 3 (drop (m + 1) bytes))) n)) name
    ∙ ap (λ d. Some (made kind mime d n)) about

-- the bytes behind the encoding
pub parts_read : (mime desc r : List ℕ) (kind first len : ℕ) → is_string mime ≡ true → is_string_or_none desc ≡ true
    → picture_of (codes "APIC") first len (3 ∷ (mime ++ 0 ∷ kind ∷ (desc ++ 0 ∷ r)))
    ≡ Some (record {
      kind = kind;
      mime = mime;
      description = desc;
      first = first + (2 + (length mime + 1) + (length desc + 1));
      len = len - (2 + (length mime + 1) + (length desc + 1));
    })
parts_read mime desc r kind first len named about =
    let bytes : List ℕ = mime ++ 0 ∷ kind ∷ (desc ++ 0 ∷ r) in
    let free : has_no_zero mime ≡ true = (and_parts (is_tag_text mime) (has_no_zero mime) named).1 in
    let m : mime_len (codes "APIC") bytes ≡ Some (length mime + 1) = first_len_0 mime (kind ∷ (desc ++ 0 ∷ r)) free in
    let two : length mime + 1 + 1 ≡ length mime + 2 = omega arith in
    let rest : drop (length mime + 1 + 1) bytes ≡ desc ++ 0 ∷ r = drop_two mime (desc ++ 0 ∷ r) 0 kind (length mime + 1 + 1) two in
    let within : nat_lt (length mime + 1) (length bytes) ≡ true = lt-ltb (length mime + 1) (length bytes) (omega (
      arith,
      length-append
          mime (0 ∷ kind ∷ (desc ++ 0 ∷ r)),
    )) in
    let long : description_len 3 bytes (length mime + 1) ≡ Some (length desc + 1)
    = ap (λ b. if b then first_len 3 (drop (length mime + 1 + 1) bytes) else None) within
    ∙ ap (first_len 3) rest ∙ first_len_3 desc r (free_fit desc about) in
    let type' : slice_index bytes (length mime + 1) ≡ kind = get_or-append-add mime (0 ∷ kind ∷ (desc ++ 0 ∷ r)) 1 0 in
    let one : length mime + 1 - 1 ≡ length mime = omega arith in
    let name : mime_in (codes "APIC") bytes (length mime + 1) ≡ mime
    = ap (λ n. kept (take n bytes)) one ∙ ap kept (take_at mime (0 ∷ kind ∷ (desc ++ 0 ∷ r)) (length mime) refl)
    ∙ kept_text mime (tag_text_of mime named) in
    let told : first_text (texts_in 3 (drop (length mime + 1 + 1) bytes)) ≡ desc
    = ap (λ l. first_text (texts_in 3 l)) rest ∙ first_read desc r about in
    ap (option_and_then (picture_by 3 (codes "APIC") bytes first len)) m
    ∙ by_parts bytes mime desc first len (length mime + 1) (length desc + 1) kind long type' name told
