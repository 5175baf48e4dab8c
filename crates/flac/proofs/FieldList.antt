-- The fields of a comment block, one at a time.
use Rattle.std.proofs.Common.{◌≡◌, ℕ, zero, suc, ◌+◌, ◌-◌, ◌<◌, ◌≤◌, List, [], ◌∷◌, ◌++◌, length, take, drop, min, arith, ap, ◌∙◌, sym, refl}
use Rattle.std.proofs.Common.{Bool, true, false, Some, None, slice_range, append_assoc}
use Rattle.std.specs.Prelude.{Option, option_to_list, option_and_then, nat_le, if◌then◌else◌}
use Rattle.std.specs.Option.{option_map_or}
use Rattle.std.specs.List.{filter_map, cons_option}
use Rattle.std.proofs.lemmas.Bool.Decides.{nat_tests}
use Rattle.std.proofs.lemmas.List.{take_at, take_all, append-nil, length_push, length-drop}
use Rattle.flac.specs.Comments.{CommentText, comment_of, count_in, text_len_in, texts_in, fields_in, kept_of, comments_in}
use Rattle.flac.specs.Limits.{MAX_FIELDS}
use Rattle.flac.specs.Numbers.{le32}
use Rattle.flac.proofs.Ranges.{length_range, le32_is, back_is, middle_is}

-- a number of a range that is too short
pub no_count : (file : List ℕ) (at end : ℕ) → end < at + 4 → end ≤ length file → at ≤ end → None ≡ count_in (slice_range file at end)
unfolding count_in
no_count file at end short within order =
    let n : length (slice_range file at end) ≡ end - at = length_range file at end within in
    let e : nat_le 4 (length (slice_range file at end)) ≡ false = grind (arith, nat_tests) in
    rw e refl

-- and of one that isn't
pub count_is : (file bytes : List ℕ) (at end : ℕ) → at + 4 ≤ end → end ≤ length file → bytes ≡ slice_range file at (at + 4)
    → Some (le32 bytes) ≡ count_in (slice_range file at end)
unfolding count_in
count_is file bytes at end room within read =
    let n : length (slice_range file at end) ≡ end - at = length_range file at end within in
    let e : nat_le 4 (length (slice_range file at end)) ≡ true = grind (arith, nat_tests) in
    rw e (ap Some (ap le32 read ∙ sym (le32_is file at end room)))

abbrev fitting : ℕ → ℕ → Option ℕ
fitting size len = if nat_le (4 + len) size then Some len else None

text_len_is : (bytes : List ℕ) → text_len_in bytes ≡ option_and_then (fitting (length bytes)) (count_in bytes)
unfolding text_len_in
text_len_is bytes = refl

pub no_text_len : (bytes : List ℕ) → None ≡ count_in bytes → None ≡ text_len_in bytes
no_text_len bytes none = sym (text_len_is bytes ∙ ap (option_and_then (fitting (length bytes))) (sym none))

pub text_too_long : (file : List ℕ) (at end len : ℕ) → at + 4 ≤ end → end ≤ length file → end < at + 4 + len
    → Some len ≡ count_in (slice_range file at end) → None ≡ text_len_in (slice_range file at end)
text_too_long file at end len room within long count =
    let n : length (slice_range file at end) ≡ end - at = length_range file at end within in
    let e : nat_le (4 + len) (length (slice_range file at end)) ≡ false = grind (arith, nat_tests) in
    sym (text_len_is (slice_range file at end) ∙ ap (option_and_then (fitting (length (slice_range file at end)))) (sym count)
    ∙ ap (λ (b : Bool). if b then Some len else None) e)

pub text_fits : (file : List ℕ) (at end len : ℕ) → at + 4 + len ≤ end → end ≤ length file
    → Some len ≡ count_in (slice_range file at end) → Some len ≡ text_len_in (slice_range file at end)
text_fits file at end len room within count =
    let n : length (slice_range file at end) ≡ end - at = length_range file at end within in
    let e : nat_le (4 + len) (length (slice_range file at end)) ≡ true = grind (arith, nat_tests) in
    sym (text_len_is (slice_range file at end) ∙ ap (option_and_then (fitting (length (slice_range file at end)))) (sym count)
    ∙ ap (λ (b : Bool). if b then Some len else None) e)

-- a front that is cut again
pub take_again : {A : Type 0} (n : ℕ) (xs ys : List A) → take n (take n xs ++ ys) ≡ take n (xs ++ ys)
take_again zero xs ys = refl
take_again (suc n) [] ys = refl
take_again (suc n) (x ∷ xs) ys = ap (λ zs. x ∷ zs) (take_again n xs ys)

-- what is kept, behind what is kept already
abbrev pub kept_after : ℕ → List CommentText → List (List ℕ) → List CommentText
kept_after n xs fields = take n (xs ++ filter_map comment_of fields)

cons_is : {A : Type 0} (x : Option A) (xs : List A) → cons_option x xs ≡ option_to_list x ++ xs
cons_is None xs = refl
cons_is (Some x) xs = refl

kept_one : (n : ℕ) (xs : List CommentText) (field : List ℕ) (fields : List (List ℕ))
    → kept_after n xs (field ∷ fields) ≡ kept_after n (take n (xs ++ option_to_list (comment_of field))) fields
kept_one n xs field fields =
    ap (λ ys. take n (xs ++ ys)) (cons_is (comment_of field) (filter_map comment_of fields))
    ∙ ap (take n) (sym (append_assoc xs (option_to_list (comment_of field)) (filter_map comment_of fields)))
    ∙ sym (take_again n (xs ++ option_to_list (comment_of field)) (filter_map comment_of fields))

abbrev texts_behind : ℕ → List ℕ → ℕ → List (List ℕ)
texts_behind more bytes len = take len (drop 4 bytes) ∷ texts_in more (drop (4 + len) bytes)

texts_one : (more : ℕ) (bytes : List ℕ) → texts_in (suc more) bytes ≡ option_map_or (texts_behind more bytes) (text_len_in bytes) []
unfolding texts_in
texts_one more bytes = refl

first_text : (left : ℕ) (bytes : List ℕ) → 0 < left
    → texts_in left bytes ≡ option_map_or (texts_behind (left - 1) bytes) (text_len_in bytes) []
first_text left bytes some = let e : left ≡ suc (left - 1) = omega arith in ap (λ k. texts_in k bytes) e ∙ texts_one (left - 1) bytes

-- after one more field
pub fields_more : (n left at place next end len : ℕ) (file : List ℕ) (xs ys : List CommentText) (all : List CommentText)
    → 0 < left → at + 4 + len ≤ end → place ≡ at + 4 → next ≡ at + (4 + len) → Some len ≡ text_len_in (slice_range file at end)
    → ys ≡ take n (xs ++ option_to_list (comment_of (slice_range file place (place + len))))
    → kept_after n xs (texts_in left (slice_range file at end)) ≡ all
    → kept_after n ys (texts_in (left - 1) (slice_range file next end)) ≡ all
fields_more n left at place next end len file xs ys all some room here there found added whole =
    let text : take len (drop 4 (slice_range file at end)) ≡ slice_range file place (place + len) = middle_is file at 4 len place end room here in
    let rest : drop (4 + len) (slice_range file at end) ≡ slice_range file next end = back_is file at (4 + len) next end (omega arith) there in
    let one : texts_in left (slice_range file at end) ≡ slice_range file place (place + len) ∷ texts_in (left - 1) (slice_range file next end)
    = first_text left (slice_range file at end) some
    ∙ ap (λ o. option_map_or (texts_behind (left - 1) (slice_range file at end)) o []) (sym found)
    ∙ ap (λ (field : List ℕ). field ∷ texts_in (left - 1) (drop (4 + len) (slice_range file at end))) text
    ∙ ap (λ bytes. slice_range file place (place + len) ∷ texts_in (left - 1) bytes) rest in
    ap (λ zs. kept_after n zs (texts_in (left - 1) (slice_range file next end))) added
    ∙ sym (kept_one n xs (slice_range file place (place + len)) (texts_in (left - 1) (slice_range file next end)))
    ∙ sym (ap (kept_after n xs) one) ∙ whole

kept_nothing : (n : ℕ) (xs : List CommentText) (fields : List (List ℕ)) (all : List CommentText) → length xs ≤ n → fields ≡ []
    → kept_after n xs fields ≡ all → xs ≡ all
kept_nothing n xs fields all few none whole =
    sym (take_all n xs few) ∙ ap (take n) (sym (append-nil xs)) ∙ sym (ap (kept_after n xs) none) ∙ whole

-- where a field doesn't stand whole
pub fields_cut : (n left : ℕ) (bytes : List ℕ) (xs : List CommentText) (all : List CommentText) → 0 < left → length xs ≤ n
    → kept_after n xs (texts_in left bytes) ≡ all → None ≡ text_len_in bytes → xs ≡ all
fields_cut n left bytes xs all some few whole none =
    kept_nothing n xs (texts_in left bytes) all few (first_text left bytes some
    ∙ ap (λ o. option_map_or (texts_behind (left - 1) bytes) o []) (sym none)) whole

no_texts : (bytes : List ℕ) → texts_in zero bytes ≡ []
unfolding texts_in
no_texts bytes = refl

-- at the end of the fields
pub fields_end : (n left : ℕ) (bytes : List ℕ) (xs : List CommentText) (all : List CommentText)
    → left ≡ 0 → length xs ≤ n → kept_after n xs (texts_in left bytes) ≡ all → xs ≡ all
fields_end n left bytes xs all none few whole =
    kept_nothing n xs (texts_in left bytes) all few (ap (λ k. texts_in k bytes) none ∙ no_texts bytes) whole

-- before the first
pub fields_begin : (n : ℕ) (xs : List CommentText) (fields : List (List ℕ)) → xs ≡ [] → kept_after n xs fields ≡ take n (filter_map comment_of fields)
fields_begin n xs fields none = ap (λ ys. kept_after n ys fields) none

-- a comment that is added, or not
pub comment_full : {A : Type 0} (n : ℕ) (xs ys : List A) → length xs ≡ n → xs ≡ take n (xs ++ ys)
comment_full n xs ys full = sym (take_at xs ys n full)

pub comment_pushed : {A : Type 0} (n : ℕ) (xs ys : List A) (x : A) (o : Option A) → Some x ≡ o → length xs < n → ys ≡ xs ++ x ∷ []
    → ys ≡ take n (xs ++ option_to_list o)
comment_pushed n xs ys x o found room push =
    push ∙ sym (take_all n (xs ++ x ∷ []) (omega (arith, length_push xs x))) ∙ ap (λ p. take n (xs ++ option_to_list p)) found

pub comment_none : {A : Type 0} (n : ℕ) (xs : List A) (o : Option A) → None ≡ o → length xs < n → xs ≡ take n (xs ++ option_to_list o)
comment_none n xs o none room =
    sym (take_all n xs (omega arith)) ∙ ap (take n) (sym (append-nil xs)) ∙ ap (λ p. take n (xs ++ option_to_list p)) none

abbrev counted : List ℕ → ℕ → ℕ → List (List ℕ)
counted body vendor count = texts_in (min count MAX_FIELDS) (drop (8 + vendor) body)

abbrev behind_vendor : List ℕ → ℕ → List (List ℕ)
behind_vendor body vendor = option_map_or (counted body vendor) (count_in (drop (4 + vendor) body)) []

fields_are : (body : List ℕ) → fields_in body ≡ option_map_or (behind_vendor body) (text_len_in body) []
unfolding fields_in
fields_are body = refl

-- no field stands behind a vendor's text or a number that is cut
pub no_vendor : (body : List ℕ) (xs : List CommentText) → None ≡ text_len_in body → xs ≡ [] → xs ≡ comments_in body
no_vendor body xs none empty = empty ∙ sym (ap kept_of (fields_are body ∙ ap (λ o. option_map_or (behind_vendor body) o []) (sym none)))

no_number : (body : List ℕ) (vendor : ℕ) → Some vendor ≡ text_len_in body → None ≡ count_in (drop (4 + vendor) body) → comments_in body ≡ []
no_number body vendor found none =
    ap kept_of (fields_are body ∙ ap (λ o. option_map_or (behind_vendor body) o []) (sym found)
    ∙ ap (λ o. option_map_or (counted body vendor) o []) (sym none))

comments_behind : (body : List ℕ) (vendor count : ℕ) → Some vendor ≡ text_len_in body → Some count ≡ count_in (drop (4 + vendor) body)
    → comments_in body ≡ kept_of (texts_in (min count MAX_FIELDS) (drop (8 + vendor) body))
comments_behind body vendor count found number =
    ap kept_of (fields_are body ∙ ap (λ o. option_map_or (behind_vendor body) o []) (sym found)
    ∙ ap (λ o. option_map_or (counted body vendor) o []) (sym number))

-- the comments of a block, where its fields stand
pub comments_there : (file now : List ℕ) (first end vendor at start count few : ℕ) → now ≡ file → first + 4 + vendor ≤ end → at + 4 ≤ end
    → at ≡ first + 4 + vendor → start ≡ at + 4 → few ≡ min count MAX_FIELDS → Some vendor ≡ text_len_in (slice_range file first end)
    → Some count ≡ count_in (slice_range file at end)
    → comments_in (slice_range file first end) ≡ kept_of (texts_in few (slice_range now start end))
comments_there file now first end vendor at start count few same room more here there fewer found number =
    let behind : drop (4 + vendor) (slice_range file first end) ≡ slice_range file at end = back_is file first (4 + vendor) at end (omega arith) (omega arith) in
    let fields : drop (8 + vendor) (slice_range file first end) ≡ slice_range file start end = back_is file first (8 + vendor) start end (omega arith) (omega arith) in
    comments_behind (slice_range file first end) vendor count found (number ∙ ap count_in (sym behind))
    ∙ ap (λ bytes. kept_of (texts_in (min count MAX_FIELDS) bytes)) fields
    ∙ ap (λ n. kept_of (texts_in n (slice_range file start end))) (sym fewer)
    ∙ ap (λ (f : List ℕ). kept_of (texts_in few (slice_range f start end))) (sym same)

pub number_there : (file now : List ℕ) (first end vendor at : ℕ) (xs : List CommentText) → now ≡ file → first + 4 + vendor ≤ end
    → at ≡ first + 4 + vendor → Some vendor ≡ text_len_in (slice_range file first end) → None ≡ count_in (slice_range now at end)
    → xs ≡ [] → xs ≡ comments_in (slice_range file first end)
number_there file now first end vendor at xs same room here found none empty =
    let behind : drop (4 + vendor) (slice_range file first end) ≡ slice_range file at end = back_is file first (4 + vendor) at end (omega arith) (omega arith) in
    empty ∙ sym (no_number (slice_range file first end) vendor found (none ∙ ap (λ (f : List ℕ). count_in (slice_range f at end)) same
    ∙ ap count_in (sym behind)))
