-- Written frames, read one behind the other.
use Rattle.std.proofs.Common.{◌≡◌, ℕ, suc, ◌+◌, ◌≤◌, List, [], ◌∷◌, ◌++◌, length, true, false, Some, slice_range, subst, sym}
use Rattle.std.proofs.Common.{ap, ◌∙◌, refl, arith}
use Rattle.std.specs.Prelude.{nat_le, codes}
use Rattle.std.specs.List.{flat_map, list_all}
use Rattle.std.specs.Str.{bytes_eq}
use Rattle.std.specs.Cmp.Lexicographic.{bytes_decides}
use Rattle.std.proofs.Common.{inl, inr}
use Rattle.std.proofs.lemmas.Bool.{and_parts, or_cases, leb-true, cases_Bool, false≢true}
use Rattle.std.proofs.lemmas.List.{length-append, append_assoc}
use Rattle.id3_tags.specs.Texts.{is_text}
use Rattle.id3_tags.specs.Pictures.{is_picture}
use Rattle.id3_tags.specs.Frames.{head_at, heads_in, texts_at, pictures_at}
use Rattle.id3_tags.specs.Writing.{WrittenText, frame_front, safe_bytes, text_data, written_text, is_writable, has_texts, texts_given}
use Rattle.id3_tags.specs.Writing.{Stands}
use Rattle.id3_tags.specs.declared.frame_head.FrameHead.{FrameHead}
use Rattle.id3_tags.proofs.FrameList.{heads_more}
use Rattle.id3_tags.proofs.Standing.{stands_front, stands_back}
use Rattle.id3_tags.proofs.Terminated.{fits_of, texts_read}
use Rattle.id3_tags.proofs.WrittenHeads.{layout4, written_head, head_read}

pub front_len : (id : List ℕ) (size : ℕ) → length id ≡ 4 → length (frame_front id size) ≡ 10
front_len id size four = omega (arith, length-append (id ++ safe_bytes size) (0 ∷ 0 ∷ []), length-append id (safe_bytes size))

-- the head and the data of a frame that stands in the file
pub front_read : (file id body : List ℕ) (at size : ℕ) → length id ≡ 4 → Stands file at (frame_front id size ++ body)
    → slice_range file at (at + 10) ≡ frame_front id size
front_read file id body at size four stands =
    ap (λ n. slice_range file at (at + n)) (sym (front_len id size four)) ∙ stands_front file at (frame_front id size) body stands

pub body_stands : (file id body : List ℕ) (at size : ℕ) → length id ≡ 4 → Stands file at (frame_front id size ++ body)
    → Stands file (at + 10) body
body_stands file id body at size four stands =
    let P : ℕ → Type 0 = λ n. Stands file (at + n) body in
    subst P (front_len id size four) (stands_back file at (frame_front id size) body stands)

-- what the frames give, one behind the other
pub walk : {Y : Type 0} (give : FrameHead → List Y) (want : WrittenText → List Y) (file : List ℕ) (end : ℕ)
    → ((f : WrittenText) (at : ℕ) → is_writable f ≡ true → Stands file (at + 10) (text_data f)
    → give (written_head f.id at (length (text_data f))) ≡ want f)
    → (frames : List WrittenText) (m at : ℕ) (rest : List ℕ) → list_all is_writable frames ≡ true
    → Stands file at (flat_map written_text frames ++ rest) → end ≡ at + length (flat_map written_text frames ++ rest)
    → flat_map give (heads_in (length frames + m) layout4 file at end)
    ≡ flat_map want frames ++ flat_map give (heads_in m layout4 file (at + length (flat_map written_text frames)) end)
walk give want file end each [] m at rest fit stands ends =
    let count : 0 + m ≡ m = omega arith in
    let place : at ≡ at + 0 = omega arith in
    ap (λ k. flat_map give (heads_in k layout4 file at end)) count ∙ ap (λ a. flat_map give (heads_in m layout4 file a end)) place
walk give want file end each (f ∷ frames) m at rest fit stands ends =
    let parts = and_parts (is_writable f) (list_all is_writable frames) fit in
    let both = and_parts (has_texts f) (nat_le (length (text_data f)) 65536) parts.0 in
    let fits = fits_of f both.0 in
    let few : length (text_data f) ≤ 65536 = leb-true (length (text_data f)) 65536 both.1 in
    let four : length (frame_front f.id (length (text_data f))) ≡ 10 = front_len f.id (length (text_data f)) fits.id_len in
    let len : length (written_text f) ≡ length (frame_front f.id (length (text_data f))) + length (text_data f)
    = length-append (frame_front f.id (length (text_data f))) (text_data f) in
    let whole : length (flat_map written_text (f ∷ frames) ++ rest)
    ≡ length (written_text f) + length (flat_map written_text frames ++ rest)
    = ap length (append_assoc (written_text f) (flat_map written_text frames) rest)
    ∙ length-append (written_text f) (flat_map written_text frames ++ rest) in
    let P : List ℕ → Type 0 = λ l. Stands file at l in
    let all : Stands file at (written_text f ++ (flat_map written_text frames ++ rest))
    = subst P (append_assoc (written_text f) (flat_map written_text frames) rest) stands in
    let own : Stands file at (written_text f) = stands_front file at (written_text f) (flat_map written_text frames ++ rest) all in
    let others : Stands file (at + length (written_text f)) (flat_map written_text frames ++ rest)
    = stands_back file at (written_text f) (flat_map written_text frames ++ rest) all in
    let head : head_at layout4 file at end ≡ Some (written_head f.id at (length (text_data f)))
    = head_read f.id file at (length (text_data f)) end fits.id_len fits.ids (omega arith) (omega arith)
    (front_read file f.id (text_data f) at (length (text_data f)) fits.id_len own) in
    let less : suc (length frames) + m ≡ suc (length frames + m) = omega arith in
    let next : at + 10 + length (text_data f) ≡ at + length (written_text f) = omega arith in
    let ends' : end ≡ at + length (written_text f) + length (flat_map written_text frames ++ rest) = omega arith in
    let behind : at + length (written_text f) + length (flat_map written_text frames) ≡ at + length (flat_map written_text (f ∷ frames))
    = omega (arith, length-append (written_text f) (flat_map written_text frames)) in
    ap (flat_map give) (heads_more (suc (length frames) + m) (length frames + m) layout4 file at end (written_head f.id at (length
    (text_data f))) less (sym head))
    ∙ ap (λ l. l ++ flat_map give (heads_in (length frames + m) layout4 file (at + 10 + length (text_data f)) end)) (each f at parts.0
    (body_stands file f.id (text_data f) at (length (text_data f)) fits.id_len own))
    ∙ ap (λ a. want f ++ flat_map give (heads_in (length frames + m) layout4 file a end)) next
    ∙ ap (λ l. want f ++ l) (walk give want file end each frames m (at + length (written_text f)) rest parts.1 others ends')
    ∙ sym (append_assoc (want f) (flat_map want frames) _)
    ∙ ap (λ a. (want f ++ flat_map want frames) ++ flat_map give (heads_in m layout4 file a end)) behind

-- the texts of a frame
pub texts_each : (file : List ℕ) (f : WrittenText) (at : ℕ) → is_writable f ≡ true → Stands file (at + 10) (text_data f)
    → texts_at file (written_head f.id at (length (text_data f))) ≡ texts_given f
texts_each file f at fit stands =
    let both = and_parts (has_texts f) (nat_le (length (text_data f)) 65536) fit in
    let fits = fits_of f both.0 in
    let some : is_text f.id ≡ true = fits.is_of_text in
    let few : nat_le (length (text_data f)) 65536 ≡ true = both.1 in
    rw (some, few, stands) (texts_read f fits)

no_text : (id other : List ℕ) → bytes_eq id other ≡ true → is_text other ≡ false → is_text id ≡ false
no_text id other same none = ap is_text ((bytes_decides id other).0 same) ∙ none

-- a text frame is no picture
no_picture : (id : List ℕ) → is_text id ≡ true → is_picture id ≡ false
no_picture id text = elim (cases_Bool (is_picture id)) as (λ _. is_picture id ≡ false) [
  | inl some ↦ absurd (elim (or_cases (bytes_eq id (codes "APIC")) (bytes_eq id (codes "PIC ")) some) as (λ _. ⊥) [
    | inl same ↦ false≢true (sym (no_text id (codes "APIC") same refl) ∙ text)
    | inr same ↦ false≢true (sym (no_text id (codes "PIC ") same refl) ∙ text)
  ])
  | inr none ↦ none
]

pub pictures_each : (file : List ℕ) (f : WrittenText) (at : ℕ) → is_writable f ≡ true → Stands file (at + 10) (text_data f)
    → pictures_at file (written_head f.id at (length (text_data f))) ≡ []
pictures_each file f at fit stands =
    let both = and_parts (has_texts f) (nat_le (length (text_data f)) 65536) fit in
    let fits = fits_of f both.0 in
    let none : is_picture f.id ≡ false = no_picture f.id fits.is_of_text in
    rw none refl

pub flat_map_none : {X Y : Type 0} (f : X → List Y) (xs : List X) → ((x : X) → f x ≡ []) → flat_map f xs ≡ []
flat_map_none f [] none = refl
flat_map_none f (x ∷ xs) none = ap (λ l. l ++ flat_map f xs) (none x) ∙ flat_map_none f xs none
