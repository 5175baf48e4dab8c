-- The strings of a written frame, as they are read.
use Rattle.std.proofs.Common.{◌≡◌, ℕ, suc, List, [], ◌∷◌, ◌++◌, length, take, drop, map, Bool, true, false, inl, inr, sym, ap}
use Rattle.std.proofs.Common.{◌∙◌, refl, arith}
use Rattle.std.specs.Prelude.{◌==◌, ◌&&◌, ◌||◌, not, nat_le, codes, if◌then◌else◌}
use Rattle.std.specs.List.{flat_map, list_all}
use Rattle.std.proofs.lemmas.Bool.{and_parts, or_cases, not-true, ne_eqb, le-leb, eqb-true, cases_Bool}
use Rattle.std.proofs.lemmas.List.{nil_from_length}
use Rattle.song_files.specs.Text.{is_tag_text}
use Rattle.id3_tags.specs.Frames.{is_id_byte}
use Rattle.id3_tags.specs.Strings.{kept, strings_in, texts_in}
use Rattle.id3_tags.specs.Texts.{is_text, is_comment, is_owned, is_described, labelled, described, language_in, strings_of}
use Rattle.id3_tags.specs.Texts.{texts_of}
use Rattle.id3_tags.specs.Writing.{WrittenText, terminated, has_no_zero, is_string, is_string_or_none, has_fit_description, has_texts}
use Rattle.id3_tags.specs.Writing.{strings_for, language_for, text_data, texts_given}

-- the first of the strings
pub string_split : (s rest : List ℕ) → has_no_zero s ≡ true → strings_in (terminated s ++ rest) ≡ s ∷ strings_in rest
string_split [] rest free = refl
string_split (x ∷ s) rest free =
    let parts = and_parts (not (x == 0)) (has_no_zero s) free in
    let here : (x == 0) ≡ false = not-true (x == 0) parts.0 in
    let others : strings_in (terminated s ++ rest) ≡ s ∷ strings_in rest = string_split s rest parts.1 in
    rw (here, others) refl

pub tag_text_of : (s : List ℕ) → is_string s ≡ true → is_tag_text s ≡ true
tag_text_of s is = (and_parts (is_tag_text s) (has_no_zero s) is).0

pub kept_text : (s : List ℕ) → is_tag_text s ≡ true → kept s ≡ s
kept_text s is = rw is refl

kept_nil : (s : List ℕ) → s ≡ [] → kept s ≡ s
kept_nil s none = rw none refl

nil_free : (s : List ℕ) → s ≡ [] → has_no_zero s ≡ true
nil_free s none = rw none refl

pub kept_fit : (s : List ℕ) → is_string_or_none s ≡ true → kept s ≡ s
kept_fit s fit = elim (or_cases (length s == 0) (is_string s) fit) as (λ _. kept s ≡ s) [
  | inl none ↦ kept_nil s (nil_from_length s (eqb-true (length s) 0 none))
  | inr some ↦ kept_text s (tag_text_of s some)
]

pub free_fit : (s : List ℕ) → is_string_or_none s ≡ true → has_no_zero s ≡ true
free_fit s fit = elim (or_cases (length s == 0) (is_string s) fit) as (λ _. has_no_zero s ≡ true) [
  | inl none ↦ nil_free s (nil_from_length s (eqb-true (length s) 0 none))
  | inr some ↦ (and_parts (is_tag_text s) (has_no_zero s) some).1
]

pub strings_read : (strings : List (List ℕ)) → list_all is_string_or_none strings ≡ true
    → map kept (strings_in (flat_map terminated strings)) ≡ strings ++ [] ∷ []
strings_read [] fit = refl
strings_read (s ∷ strings) fit =
    let parts = and_parts (is_string_or_none s) (list_all is_string_or_none strings) fit in
    ap (map kept) (string_split s (flat_map terminated strings) (free_fit s parts.0))
    ∙ ap (λ t. t ∷ map kept (strings_in (flat_map terminated strings))) (kept_fit s parts.0)
    ∙ ap (λ l. s ∷ l) (strings_read strings parts.1)

some_text : (v : List ℕ) → is_tag_text v ≡ true → (length v == 0) ≡ false
some_text [] is = absurd (cc)
some_text (x ∷ v) is = ne_eqb (suc (length v)) 0 (λ same. omega arith)

fit_string : (s : List ℕ) → is_string s ≡ true → is_string_or_none s ≡ true
fit_string s is = elim (length s == 0) as (λ b. (b || is_string s) ≡ true) [ true ↦ refl | false ↦ is ]

pub fit_strings : (values : List (List ℕ)) → list_all is_string values ≡ true → list_all is_string_or_none values ≡ true
fit_strings [] fit = refl
fit_strings (v ∷ values) fit =
    let parts = and_parts (is_string v) (list_all is_string values) fit in
    let here : is_string_or_none v ≡ true = fit_string v parts.0 in
    let others : list_all is_string_or_none values ≡ true = fit_strings values parts.1 in
    ap (λ b. b && list_all is_string_or_none values) here ∙ others

-- the texts of values
pub values_read : (id language description : List ℕ) (values : List (List ℕ)) → list_all is_string values ≡ true
    → labelled id language description (values ++ [] ∷ [])
    ≡ map (λ v. record { id = id; language = language; description = description; value = v }) values
values_read id language description [] fit = refl
values_read id language description (v ∷ values) fit =
    let parts = and_parts (is_string v) (list_all is_string values) fit in
    let some : (length v == 0) ≡ false = some_text v (tag_text_of v parts.0) in
    let others : labelled id language description (values ++ [] ∷ []) ≡ map (λ v. record {
      id = id;
      language = language;
      description =
          description;
      value = v;
    }) values = values_read id language description values parts.1 in
    rw (some, others) refl

behind_language : (b : Bool) (bytes : List ℕ)
    → (if b then texts_in 3 (drop 3 ((if b then codes "XXX" else []) ++ bytes)) else texts_in 3 ((if b then codes "XXX" else []) ++ bytes))
    ≡ map kept (strings_in bytes)
behind_language true bytes = refl
behind_language false bytes = refl

strings_case : (id bytes : List ℕ) → is_owned id ≡ false
    → strings_of id (3 ∷ (language_for id ++ bytes)) ≡ map kept (strings_in bytes)
strings_case id bytes owned = rw owned (behind_language (is_comment id) bytes)

language_is : (b : Bool) (bytes : List ℕ)
    → (if b && nat_le 3 (length ((if b then codes "XXX" else []) ++ bytes)) then take 3 ((if b then codes "XXX" else []) ++ bytes)
    else codes "XXX") ≡ codes "XXX"
language_is true bytes =
    let long : nat_le 3 (suc (suc (suc (length bytes)))) ≡ true = le-leb 3 (suc (suc (suc (length bytes)))) (omega arith) in
    rw long refl
language_is false bytes = refl

language_case : (id bytes : List ℕ) → language_in id (language_for id ++ bytes) ≡ codes "XXX"
language_case id bytes = language_is (is_comment id) bytes

-- what a frame that can be written has
pub record Fits (frame : WrittenText) : Type 0 where
  pub id_len : length frame.id ≡ 4
  pub ids : list_all is_id_byte frame.id ≡ true
  pub is_of_text : is_text frame.id ≡ true
  pub unowned : is_owned frame.id ≡ false
  pub description : has_fit_description frame ≡ true
  pub values : list_all is_string frame.values ≡ true

pub fits_of : (frame : WrittenText) → has_texts frame ≡ true → Fits frame
fits_of frame has =
    let a = and_parts _ (list_all is_string frame.values) has in
    let b = and_parts _ (has_fit_description frame) a.0 in
    let c = and_parts _ (not (is_owned frame.id)) b.0 in
    let d = and_parts _ (is_text frame.id) c.0 in
    let e = and_parts (length frame.id == 4) _ d.0 in record {
      id_len = eqb-true (length frame.id) 4 e.0;
      ids = e.1;
      is_of_text = d.1;
      unowned = not-true (is_owned frame.id) c.1;
      description = b.1;
      values = a.1;
    }

-- where the frame has a description
described_read : (frame : WrittenText) → Fits frame → is_described frame.id ≡ true
    → texts_of frame.id (text_data frame) ≡ texts_given frame
described_read frame fits yes' =
    let description : is_string_or_none frame.description ≡ true = rw yes' at fits.description in
    let strings : strings_for frame ≡ frame.description ∷ frame.values = rw yes' refl in
    let all : list_all is_string_or_none (frame.description ∷ frame.values) ≡ true = ap (λ b. b && list_all is_string_or_none
    frame.values) description ∙ fit_strings frame.values fits.values in
    let read : strings_of frame.id (text_data frame) ≡ (frame.description ∷ frame.values) ++ [] ∷ []
    = strings_case frame.id (flat_map terminated (strings_for frame)) fits.unowned
    ∙ ap (λ l. map kept (strings_in (flat_map terminated l))) strings
    ∙ strings_read (frame.description ∷ frame.values) all in
    let whole : texts_of frame.id (text_data frame) ≡ described frame.id (language_in frame.id (drop 1 (text_data frame)))
    (strings_of frame.id (text_data frame)) = rw yes' refl in
    whole ∙ ap (λ l. described frame.id l (strings_of frame.id (text_data frame))) (language_case frame.id (flat_map terminated
    (strings_for frame)))
    ∙ ap (described frame.id (codes "XXX")) read ∙ values_read frame.id (codes "XXX") frame.description frame.values fits.values

-- where it has none
plain_read : (frame : WrittenText) → Fits frame → is_described frame.id ≡ false
    → texts_of frame.id (text_data frame) ≡ texts_given frame
plain_read frame fits none =
    let empty : (length frame.description == 0) ≡ true = rw none at fits.description in
    let description : frame.description ≡ [] = nil_from_length frame.description (eqb-true (length frame.description) 0 empty) in
    let strings : strings_for frame ≡ frame.values = rw none refl in
    let read : strings_of frame.id (text_data frame) ≡ frame.values ++ [] ∷ []
    = strings_case frame.id (flat_map terminated (strings_for frame)) fits.unowned
    ∙ ap (λ l. map kept (strings_in (flat_map terminated l))) strings
    ∙ strings_read frame.values (fit_strings frame.values fits.values) in
    let whole : texts_of frame.id (text_data frame) ≡ labelled frame.id (codes "XXX") [] (strings_of frame.id (text_data frame))
    = rw none refl in
    whole ∙ ap (labelled frame.id (codes "XXX") []) read
    ∙ ap (λ d. labelled frame.id (codes "XXX") d (frame.values ++ [] ∷ [])) (sym description)
    ∙ values_read frame.id (codes "XXX") frame.description frame.values fits.values

-- the texts of a frame, as they are read
pub texts_read : (frame : WrittenText) → Fits frame → texts_of frame.id (text_data frame) ≡ texts_given frame
texts_read frame fits = elim (cases_Bool (is_described frame.id)) as (λ _. texts_of frame.id (text_data frame) ≡ texts_given frame) [
  | inl some ↦ described_read frame fits some
  | inr none ↦ plain_read frame fits none
]
