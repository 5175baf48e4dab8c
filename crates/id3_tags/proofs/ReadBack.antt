-- What is written is read back.
use Rattle.std.proofs.Common.{◌≡◌, ℕ, suc, ◌+◌, ◌-◌, ◌%◌, ◌/◌, ◌≤◌, ◌<◌, List, [], ◌∷◌, ◌++◌, length, take, map, min, true}
use Rattle.std.proofs.Common.{false, Some, None, nat_lt, slice_range, subst, inl, inr, sym, ap, ◌∙◌, refl, arith}
use Rattle.std.specs.Prelude.{Result, Ok, Err, IfOk, OnOk, Option, option_map, option_to_list, ◌==◌, not, nat_le, codes}
use Rattle.std.specs.Prelude.{if◌then◌else◌}
use Rattle.std.specs.List.{flat_map, list_all}
use Rattle.std.specs.Str.{is_utf8}
use Rattle.std.proofs.Math.Seq.{take-append-add}
use Rattle.std.proofs.lemmas.Bool.{and_parts, or_cases, lt-ltb, le-ltb, ltb-true, leb-true, eqb-true}
use Rattle.std.proofs.lemmas.List.{append_assoc, append-nil, length-append}
use Rattle.song_files.specs.Text.{is_tag_text, has_control}
use Rattle.id3_tags.specs.Pictures.{FramePicture, picture_of}
use Rattle.id3_tags.specs.Frames.{head_at, heads_in, texts_at, pictures_at}
use Rattle.id3_tags.specs.TagHead.{head_in}
use Rattle.id3_tags.specs.Reading.{tag_of_frames, tag_by}
use Rattle.id3_tags.specs.Writing.{WrittenText, WrittenPicture, terminated, is_string, is_string_or_none, is_writable}
use Rattle.id3_tags.specs.Writing.{is_writable_picture, frame_front, picture_data, written_text, written_picture, written_frames, written}
use Rattle.id3_tags.specs.Writing.{tag_front, size_of, picture_len, can_write, texts_given, picture_given, Stands, IsReadBack}
use Rattle.id3_tags.specs.declared.tag_head.TagHead.{TagHead}
use Rattle.id3_tags.proofs.FrameList.{heads_none, heads_more, tag_by_parts}
use Rattle.id3_tags.proofs.Standing.{stands_front, stands_back}
use Rattle.id3_tags.proofs.Terminated.{tag_text_of}
use Rattle.id3_tags.proofs.WrittenHeads.{layout4, written_head, head_read, safe_is}
use Rattle.id3_tags.proofs.WrittenFrames.{front_read, body_stands, walk, texts_each, pictures_each, flat_map_none}
use Rattle.id3_tags.proofs.WrittenPictures.{parts_read}

tag_text_len : (s : List ℕ) → is_tag_text s ≡ true → length s ≤ 512
tag_text_len s is =
    let a = and_parts _ (not (has_control s)) is in
    let b = and_parts _ (is_utf8 s) a.0 in
    let c = and_parts (nat_lt 0 (length s)) (nat_le (length s) 512) b.0 in
    leb-true (length s) 512 c.1

fit_len : (s : List ℕ) → is_string_or_none s ≡ true → length s ≤ 512
fit_len s fit = elim (or_cases (length s == 0) (is_string s) fit) as (λ _. length s ≤ 512) [
  | inl none ↦ (let e : length s ≡ 0 = eqb-true (length s) 0 none in omega arith)
  | inr some ↦ tag_text_len s (tag_text_of s some)
]

-- no frame stands at the end
pub none_at : (n : ℕ) (file : List ℕ) (at end : ℕ) → at ≡ end → heads_in n layout4 file at end ≡ []
none_at n file at end is =
    let short : nat_lt (end - at) 10 ≡ true = lt-ltb (end - at) 10 (omega arith) in
    let none : None ≡ head_at layout4 file at end = rw short refl in
    heads_none n layout4 file at end none

-- the bytes of a picture's frame
data_is : (mime desc r : List ℕ) (kind : ℕ)
    → (terminated mime ++ kind ∷ terminated desc) ++ r ≡ mime ++ 0 ∷ kind ∷ (desc ++ 0 ∷ r)
data_is mime desc r kind =
    append_assoc (terminated mime) (kind ∷ terminated desc) r
    ∙ ap (λ l. terminated mime ++ kind ∷ l) (append_assoc desc (0 ∷ []) r)
    ∙ append_assoc mime (0 ∷ []) (kind ∷ (desc ++ 0 ∷ r))

data_len : (p : WrittenPicture) → length (picture_data p) ≡ 2 + (length p.mime + 1) + (length p.description + 1)
data_len p = omega (
  arith,
  length-append (terminated p.mime) (p.kind ∷ terminated p.description),
  length-append p.mime (0 ∷ []),
  length-append p.description (0 ∷ []),
)

-- the picture in the front of its frame
front_picture : (p : WrittenPicture) (first size : ℕ) (tail : List ℕ) → is_writable_picture p ≡ true
    → size ≡ length (picture_data p) + p.len
    → picture_of (codes "APIC") first size (take 2048 (picture_data p ++ tail)) ≡ Some (picture_given (first + length (picture_data p)) p)
front_picture p first size tail fit is =
    let parts = and_parts (is_string p.mime) (is_string_or_none p.description) fit in
    let m : length p.mime ≤ 512 = tag_text_len p.mime (tag_text_of p.mime parts.0) in
    let d : length p.description ≤ 512 = fit_len p.description parts.1 in
    let n : length (picture_data p) ≡ 2 + (length p.mime + 1) + (length p.description + 1) = data_len p in
    let more : 2048 ≡ length (picture_data p) + (2048 - length (picture_data p)) = omega arith in
    let r : List ℕ = take (2048 - length (picture_data p)) tail in
    let cut : take 2048 (picture_data p ++ tail) ≡ 3 ∷ (p.mime ++ 0 ∷ p.kind ∷ (p.description ++ 0 ∷ r))
    = ap (λ k. take k (picture_data p ++ tail)) more
    ∙ take-append-add (picture_data p) tail (2048 - length (picture_data p))
    ∙ ap (λ l. 3 ∷ l) (data_is p.mime p.description r p.kind) in
    let place : first + (2 + (length p.mime + 1) + (length p.description + 1)) ≡ first + length (picture_data p) = omega arith in
    let rest : size - (2 + (length p.mime + 1) + (length p.description + 1)) ≡ p.len = omega arith in
    let made : ℕ → ℕ → FramePicture = λ a b. record { kind = p.kind; mime = p.mime; description = p.description; first = a; len = b } in
    ap (picture_of (codes "APIC") first size) cut ∙ parts_read p.mime p.description r p.kind first size parts.0 parts.1
    ∙ ap (λ a. Some (made a (size - (2 + (length p.mime + 1) + (length p.description + 1))))) place
    ∙ ap (λ b. Some (made (first + length (picture_data p)) b)) rest

-- the head of a picture's frame, which is the last one
last_head : (p : WrittenPicture) (file tail : List ℕ) (m at end : ℕ) → length tail ≡ p.len
    → length (picture_data p) + p.len < 268435456 → Stands file at (written_picture p ++ tail)
    → end ≡ at + length (written_picture p ++ tail)
    → heads_in (suc m) layout4 file at end ≡ written_head (codes "APIC") at (length (picture_data p) + p.len) ∷ []
last_head p file tail m at end count few stands ends =
    let size : ℕ = length (picture_data p) + p.len in
    let P : List ℕ → Type 0 = λ l. Stands file at l in
    let all : Stands file at (frame_front (codes "APIC") (length (picture_data p) + p.len) ++ (picture_data p ++ tail))
    = subst P (append_assoc (frame_front (codes "APIC") (length (picture_data p) + p.len)) (picture_data p) tail) stands in
    let len : length (written_picture p ++ tail) ≡ 10 + (length (picture_data p) + length tail)
    = ap length (append_assoc (frame_front (codes "APIC") (length (picture_data p) + p.len)) (picture_data p) tail)
    ∙ length-append (frame_front (codes "APIC") (length (picture_data p) + p.len)) (picture_data p ++ tail)
    ∙ ap (λ n. 10 + n) (length-append (picture_data p) tail) in
    let next : at + 10 + (length (picture_data p) + p.len) ≡ end = omega arith in
    let head : head_at layout4 file at end ≡ Some (written_head (codes "APIC") at (length (picture_data p) + p.len))
    = head_read (codes "APIC") file at (length (picture_data p) + p.len) end refl refl few (omega arith)
    (front_read file (codes "APIC") (picture_data p ++ tail) at (length (picture_data p) + p.len) refl all) in
    heads_more (suc m) m layout4 file at end (written_head (codes "APIC") at (length (picture_data p) + p.len)) refl (sym head)
    ∙ ap (λ hs. written_head (codes "APIC") at (length (picture_data p) + p.len) ∷ hs) (none_at m file _ end next)

-- the picture that the frame gives
last_picture : (p : WrittenPicture) (file tail : List ℕ) (at : ℕ) → is_writable_picture p ≡ true → length tail ≡ p.len
    → Stands file at (written_picture p ++ tail)
    → pictures_at file (written_head (codes "APIC") at (length (picture_data p) + p.len))
    ≡ picture_given (at + length (written_picture p)) p ∷ []
last_picture p file tail at fit count stands =
    let P : List ℕ → Type 0 = λ l. Stands file at l in
    let all : Stands file at (frame_front (codes "APIC") (length (picture_data p) + p.len) ++ (picture_data p ++ tail))
    = subst P (append_assoc (frame_front (codes "APIC") (length (picture_data p) + p.len)) (picture_data p) tail) stands in
    let body : Stands file (at + 10) (picture_data p ++ tail)
    = body_stands file (codes "APIC") (picture_data p ++ tail) at (length (picture_data p) + p.len) refl all in
    let size : at + 10 + (length (picture_data p) + p.len) ≡ at + 10 + length (picture_data p ++ tail)
    = omega (arith, length-append (picture_data p) tail) in
    let bytes : slice_range file (at + 10) (at + 10 + (length (picture_data p) + p.len)) ≡ picture_data p ++ tail
    = ap (slice_range file (at + 10)) size ∙ body in
    let place : at + 10 + length (picture_data p) ≡ at + length (written_picture p) = omega (
      arith,
      length-append (frame_front (codes
          "APIC") (length (picture_data p) + p.len)) (picture_data p),
    ) in
    ap (λ l. option_to_list (picture_of (codes "APIC") (at + 10) (length (picture_data p) + p.len) (take 2048 l))) bytes
    ∙ ap option_to_list (front_picture p (at + 10) (length (picture_data p) + p.len) tail fit refl)
    ∙ ap (λ n. picture_given n p ∷ []) place

-- the frames behind the texts give no text
end_texts : (picture : Option WrittenPicture) (file tail : List ℕ) (m at end : ℕ) → length tail ≡ picture_len picture
    → length (flat_map written_picture (option_to_list picture)) + picture_len picture < 268435456
    → Stands file at (flat_map written_picture (option_to_list picture) ++ tail)
    → end ≡ at + length (flat_map written_picture (option_to_list picture) ++ tail)
    → flat_map (texts_at file) (heads_in (suc m) layout4 file at end) ≡ []
end_texts None file tail m at end count few stands ends =
    ap (flat_map (texts_at file)) (none_at (suc m) file at end (omega arith))
end_texts (Some p) file tail m at end count few stands ends =
    let same : flat_map written_picture (p ∷ []) ≡ written_picture p = append-nil (written_picture p) in
    let stands' : Stands file at (written_picture p ++ tail)
    = (let P : List ℕ → Type 0 = λ l. Stands file at (l ++ tail) in subst P same stands) in
    let ends' : end ≡ at + length (written_picture p ++ tail) = ends ∙ ap (λ l. at + length (l ++ tail)) same in
    let len : length (written_picture p) ≡ 10 + length (picture_data p) = length-append (frame_front (codes "APIC") (length
    (picture_data p) + p.len)) (picture_data p) in
    let short : length (picture_data p) + p.len < 268435456 = omega (arith, few, ap length same) in
    let tail' : length tail ≡ p.len = omega (arith, count) in
    ap (flat_map (texts_at file)) (last_head p file tail m at end tail' short stands' ends')

-- and the picture that was written
end_pictures : (picture : Option WrittenPicture) (file tail : List ℕ) (m at end : ℕ)
    → list_all is_writable_picture (option_to_list picture) ≡ true → length tail ≡ picture_len picture
    → length (flat_map written_picture (option_to_list picture)) + picture_len picture < 268435456
    → Stands file at (flat_map written_picture (option_to_list picture) ++ tail)
    → end ≡ at + length (flat_map written_picture (option_to_list picture) ++ tail)
    → flat_map (pictures_at file) (heads_in (suc m) layout4 file at end)
    ≡ map (picture_given (at + length (flat_map written_picture (option_to_list picture)))) (option_to_list picture)
end_pictures None file tail m at end fit count few stands ends =
    ap (flat_map (pictures_at file)) (none_at (suc m) file at end (omega arith))
end_pictures (Some p) file tail m at end fit count few stands ends =
    let same : flat_map written_picture (p ∷ []) ≡ written_picture p = append-nil (written_picture p) in
    let stands' : Stands file at (written_picture p ++ tail)
    = (let P : List ℕ → Type 0 = λ l. Stands file at (l ++ tail) in subst P same stands) in
    let ends' : end ≡ at + length (written_picture p ++ tail) = ends ∙ ap (λ l. at + length (l ++ tail)) same in
    let len : length (written_picture p) ≡ 10 + length (picture_data p) = length-append (frame_front (codes "APIC") (length
    (picture_data p) + p.len)) (picture_data p) in
    let short : length (picture_data p) + p.len < 268435456 = omega (arith, few, ap length same) in
    let tail' : length tail ≡ p.len = omega (arith, count) in
    let own : is_writable_picture p ≡ true = (and_parts (is_writable_picture p) true fit).0 in
    ap (flat_map (pictures_at file)) (last_head p file tail m at end tail' short stands' ends')
    ∙ ap (λ l. l ++ []) (last_picture p file tail at own tail' stands')
    ∙ ap (λ l. picture_given (at + length l) p ∷ []) (sym same)

-- what the frames tell
frames_told : (frames : List WrittenText) (picture : Option WrittenPicture) (file tail : List ℕ) (at end : ℕ)
    → length frames < 1024 → list_all is_writable frames ≡ true → list_all is_writable_picture (option_to_list picture) ≡ true
    → length tail ≡ picture_len picture → size_of frames picture < 268435456
    → Stands file at (written_frames frames picture ++ tail) → end ≡ at + length (written_frames frames picture ++ tail)
    → tag_of_frames layout4 file at end ≡ record {
      version = 4;
      texts = take 256 (flat_map texts_given frames);
      pictures = map (picture_given (at + length (written_frames frames picture))) (option_to_list picture);
    }
unfolding tag_of_frames
frames_told frames picture file tail at end few fit own count short stands ends =
    let t : List ℕ = flat_map written_text frames in
    let p : List ℕ = flat_map written_picture (option_to_list picture) in
    let m : ℕ = 1023 - length frames in
    let all : 1024 ≡ length frames + suc m = omega arith in
    let P : List ℕ → Type 0 = λ l. Stands file at l in
    let stands' : Stands file at (t ++ (p ++ tail)) = subst P (append_assoc t p tail) stands in
    let ends' : end ≡ at + length (t ++ (p ++ tail)) = ends ∙ ap (λ l. at + length l) (append_assoc t p tail) in
    let rest : Stands file (at + length t) (p ++ tail) = stands_back file at t (p ++ tail) stands' in
    let end' : end ≡ at + length t + length (p ++ tail) = omega (arith, ends', length-append t (p ++ tail)) in
    let short' : length p + picture_len picture < 268435456 = omega (arith, short, length-append t p) in
    let texts : flat_map (texts_at file) (heads_in 1024 layout4 file at end) ≡ flat_map texts_given frames
    = ap (λ k. flat_map (texts_at file) (heads_in k layout4 file at end)) all
    ∙ walk (texts_at file) texts_given file end (texts_each file) frames (suc m) at (p ++ tail) fit stands' ends'
    ∙ ap (λ l. flat_map texts_given frames ++ l) (end_texts picture file tail m (at + length t) end count short' rest end')
    ∙ append-nil (flat_map texts_given frames) in
    let none : WrittenText → List FramePicture = λ f. [] in
    let place : at + length t + length p ≡ at + length (t ++ p) = omega (arith, length-append t p) in
    let pictures : flat_map (pictures_at file) (heads_in 1024 layout4 file at end) ≡ map (picture_given (at + length (t ++ p)))
    (option_to_list picture)
    = ap (λ k. flat_map (pictures_at file) (heads_in k layout4 file at end)) all
    ∙ walk (pictures_at file) none file end (pictures_each file) frames (suc m) at (p ++ tail) fit stands' ends'
    ∙ ap (λ l. l ++ flat_map (pictures_at file) (heads_in (suc m) layout4 file (at + length t) end)) (flat_map_none none frames (λ
    f. refl))
    ∙ end_pictures picture file tail m (at + length t) end own count short' rest end'
    ∙ ap (λ n. map (picture_given n) (option_to_list picture)) place in
    tag_by_parts (tag_of_frames layout4 file at end) 4 (take 256 (flat_map texts_given frames)) _ refl (ap (take 256) texts) pictures

-- the head of a written tag
abbrev made_head : ℕ → TagHead
made_head size = record { version = 4; flags = 0; size = size }

tag_head_read : (size : ℕ) → size < 268435456 → head_in (tag_front size) ≡ Some (made_head size)
tag_head_read size few =
    let a : nat_lt (size / 2097152 % 128) 128 ≡ true = lt-ltb (size / 2097152 % 128) 128 (omega arith) in
    let b : nat_lt (size / 16384 % 128) 128 ≡ true = lt-ltb (size / 16384 % 128) 128 (omega arith) in
    let c : nat_lt (size / 128 % 128) 128 ≡ true = lt-ltb (size / 128 % 128) 128 (omega arith) in
    let d : nat_lt (size % 128) 128 ≡ true = lt-ltb (size % 128) 128 (omega arith) in
    let same = safe_is size few in
    rw (a, b, c, d, same) refl

behind_head : (file : List ℕ) (first size end : ℕ) → end ≡ first + 10 + size
    → tag_by file first end (made_head size) ≡ tag_of_frames layout4 file (first + 10) end
behind_head file first size end is = let stop : min (first + 10 + size) end ≡ end = omega arith in rw stop refl

-- What is written is read back.
pub read_back : (frames : List WrittenText) (picture : Option WrittenPicture) → can_write frames picture ≡ true
    → IsReadBack frames picture (written frames picture)
read_back frames picture can file tail first count stands =
    let a = and_parts _ (nat_lt (size_of frames picture) 268435456) can in
    let b = and_parts _ (list_all is_writable_picture (option_to_list picture)) a.0 in
    let c = and_parts (nat_lt (length frames) 1024) (list_all is_writable frames) b.0 in
    let short : size_of frames picture < 268435456 = ltb-true (size_of frames picture) 268435456 a.1 in
    let few : length frames < 1024 = ltb-true (length frames) 1024 c.0 in
    let w : List ℕ = written_frames frames picture in
    let front : List ℕ = tag_front (size_of frames picture) in
    let assoc : (front ++ w) ++ tail ≡ front ++ (w ++ tail) = append_assoc front w tail in
    let P : List ℕ → Type 0 = λ l. Stands file first l in
    let all : Stands file first (front ++ (w ++ tail)) = subst P assoc stands in
    let head : slice_range file first (first + 10) ≡ front = stands_front file first front (w ++ tail) all in
    let rest : Stands file (first + 10) (w ++ tail) = stands_back file first front (w ++ tail) all in
    let len : length ((front ++ w) ++ tail) ≡ 10 + (length w + length tail)
    = ap length assoc ∙ length-append front (w ++ tail) ∙ ap (λ n. 10 + n) (length-append w tail) in
    let end : ℕ = first + length ((front ++ w) ++ tail) in
    let ends : end ≡ first + 10 + size_of frames picture = omega (arith, len, count) in
    let ends' : end ≡ first + 10 + length (w ++ tail) = omega (arith, len, length-append w tail) in
    let long : nat_lt (end - first) 10 ≡ false = le-ltb (end - first) 10 (omega (arith, len)) in
    let place : first + 10 + length w ≡ first + length (front ++ w) = omega (arith, length-append front w) in
    ap (λ t. if t then None else option_map (tag_by file first end) (head_in (slice_range file first (first + 10)))) long
    ∙ ap (λ l. option_map (tag_by file first end) (head_in l)) head
    ∙ ap (option_map (tag_by file first end)) (tag_head_read (size_of frames picture) short)
    ∙ ap (λ t. Some t) (behind_head file first (size_of frames picture) end ends
    ∙ frames_told frames picture file tail (first + 10) end few c.1 b.1 count short rest ends')
    ∙ ap (λ n. Some (record {
      version = 4;
      texts = take 256 (flat_map texts_given frames);
      pictures = map (picture_given n)
          (option_to_list picture);
    })) place

pub both_ok : {T E : Type 0} (r : Result T E) (P R : T → Type 0) (Q : Type 0) → ((x : T) → P x → Q → R x) → IfOk r P → OnOk r Q → IfOk r R
both_ok (Ok x) P R Q gives p q = gives x p q
both_ok (Err e) P R Q gives p q = tt

pub read_back_of : (frames : List WrittenText) (picture : Option WrittenPicture) (bytes : List ℕ) → bytes ≡ written frames picture
    → can_write frames picture ≡ true → IsReadBack frames picture bytes
read_back_of frames picture bytes is can =
    let P : List ℕ → Type 0 = λ l. IsReadBack frames picture l in
    subst P (sym is) (read_back frames picture can)
