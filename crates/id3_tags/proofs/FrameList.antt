-- The frames of a tag, one at a time.
use Rattle.std.proofs.Common.{◌≡◌, ℕ, zero, suc, ◌+◌, ◌≤◌, List, [], ◌∷◌, ◌++◌, length, take, drop, min, Some, None, true}
use Rattle.std.proofs.Common.{false, slice_range, sym, ap, ◌∙◌, refl, arith}
use Rattle.std.specs.Prelude.{Option, option_to_list}
use Rattle.std.specs.List.{flat_map}
use Rattle.std.specs.Option.{option_map_or}
use Rattle.std.proofs.lemmas.List.{append_assoc, append-nil, take_all}
use Rattle.id3_tags.proofs.Takes.{take_twice, take_front}
use Rattle.song_files.proofs.Ranges.{range_is}
use Rattle.id3_tags.specs.Texts.{FrameText}
use Rattle.id3_tags.specs.Pictures.{FramePicture, picture_of}
use Rattle.id3_tags.specs.Frames.{gives_texts, texts_at, gives_picture, pictures_at, head_at, heads_in}
use Rattle.id3_tags.specs.Reading.{tag_of_frames}
use Rattle.id3_tags.specs.declared.frame_head.FrameHead.{FrameHead}
use Rattle.id3_tags.specs.declared.frame_head.Layout.{Layout}
use Rattle.id3_tags.specs.declared.tag.Id3Tag.{Id3Tag}

pub no_texts : (file : List ℕ) (head : FrameHead) (texts : List FrameText) → gives_texts head ≡ false → length texts ≤ 256
    → texts ≡ take 256 (texts ++ texts_at file head)
no_texts file head texts none few = rw none (sym (ap (take 256) (append-nil texts) ∙ take_all 256 texts few))

-- the front of a picture's frame decides
pub picture_read : (file front : List ℕ) (picture : Option FramePicture) (head : FrameHead) {count : ℕ} → gives_picture head ≡ true
    → front ≡ slice_range file head.first (head.first + count) → count ≡ min head.len 2048
    → picture ≡ picture_of head.id head.first head.len front → option_to_list picture ≡ pictures_at file head
picture_read file front picture head {count} given read few is =
    let e : count ≡ min 2048 head.len = omega arith in
    let same : front ≡ take 2048 (slice_range file head.first (head.first + head.len)) = read ∙ range_is file head.first count
    ∙ ap (λ n. take n (drop head.first file)) e ∙ sym (take_front 2048 head.len (drop head.first file))
    ∙ ap (take 2048) (sym (range_is file head.first head.len)) in
    rw given (ap option_to_list (is ∙ ap (picture_of head.id head.first head.len) same))

pub heads_zero : (layout : Layout) (file : List ℕ) (at end : ℕ) → heads_in zero layout file at end ≡ []
unfolding heads_in
heads_zero layout file at end = refl

-- no frame stands there
pub heads_none : (n : ℕ) (layout : Layout) (file : List ℕ) (at end : ℕ) → None ≡ head_at layout file at end
    → heads_in n layout file at end ≡ []
unfolding heads_in
heads_none zero layout file at end none = refl
heads_none (suc n) layout file at end none =
    ap (λ o. option_map_or (λ head. head ∷ heads_in n layout file head.next end) o []) (sym none)

-- a frame stands there
heads_some : (n : ℕ) (layout : Layout) (file : List ℕ) (at end : ℕ) (head : FrameHead) → Some head ≡ head_at layout file at end
    → heads_in (suc n) layout file at end ≡ head ∷ heads_in n layout file head.next end
unfolding heads_in
heads_some n layout file at end head some =
    ap (λ o. option_map_or (λ h. h ∷ heads_in n layout file h.next end) o []) (sym some)

pub heads_more : (n m : ℕ) (layout : Layout) (file : List ℕ) (at end : ℕ) (head : FrameHead) → n ≡ suc m
    → Some head ≡ head_at layout file at end → heads_in n layout file at end ≡ head ∷ heads_in m layout file head.next end
heads_more n m layout file at end head is some = ap (λ k. heads_in k layout file at end) is ∙ heads_some m layout file at end head some

-- the texts of one more frame
pub texts_more : {H : Type 0} (f : H → List FrameText) (texts now : List FrameText) (before rest : List H) (head : H) (all : List FrameText)
    → now ≡ take 256 (texts ++ f head) → before ≡ head ∷ rest → take 256 (texts ++ flat_map f before) ≡ all
    → take 256 (now ++ flat_map f rest) ≡ all
texts_more f texts now before rest head all read cut same =
    ap (λ l. take 256 (l ++ flat_map f rest)) read ∙ take_twice 256 (texts ++ f head) (flat_map f rest)
    ∙ ap (take 256) (append_assoc texts (f head) (flat_map f rest)) ∙ ap (λ hs. take 256 (texts ++ flat_map f hs)) (sym cut) ∙ same

-- the pictures of one more frame
pub pictures_more : {H X : Type 0} (f : H → List X) (made now : List X) (before rest : List H) (head : H) (all : List X)
    → now ≡ made ++ f head → before ≡ head ∷ rest → made ++ flat_map f before ≡ all → now ++ flat_map f rest ≡ all
pictures_more f made now before rest head all read cut same =
    ap (λ l. l ++ flat_map f rest) read ∙ append_assoc made (f head) (flat_map f rest)
    ∙ ap (λ hs. made ++ flat_map f hs) (sym cut) ∙ same

pub texts_end : {H : Type 0} (f : H → List FrameText) (texts : List FrameText) (rest : List H) (all : List FrameText) → rest ≡ []
    → length texts ≤ 256 → take 256 (texts ++ flat_map f rest) ≡ all → texts ≡ all
texts_end f texts rest all none few same = sym (take_all 256 texts few) ∙ ap (take 256) (sym (append-nil texts))
    ∙ ap (λ hs. take 256 (texts ++ flat_map f hs)) (sym none) ∙ same

pub pictures_end : {H X : Type 0} (f : H → List X) (made : List X) (rest : List H) (all : List X) → rest ≡ []
    → made ++ flat_map f rest ≡ all → made ≡ all
pictures_end f made rest all none same = sym (append-nil made) ∙ ap (λ hs. made ++ flat_map f hs) (sym none) ∙ same

pub heads_end : (n : ℕ) (layout : Layout) (file : List ℕ) (at end : ℕ) → n ≡ 0 → heads_in n layout file at end ≡ []
heads_end n layout file at end is = ap (λ k. heads_in k layout file at end) is ∙ heads_zero layout file at end

-- a tag, by its parts
pub tag_by_parts : (tag : Id3Tag) (version : ℕ) (texts : List FrameText) (pictures : List FramePicture) → tag.version ≡ version
    → tag.texts ≡ texts → tag.pictures ≡ pictures → tag ≡ record { version = version; texts = texts; pictures = pictures }
tag_by_parts tag version texts pictures v t p =
    let made : ℕ → List FrameText → List FramePicture → Id3Tag = λ a b c. record { version = a; texts = b; pictures = c } in
    let first : tag ≡ made version tag.texts tag.pictures = ap (λ a. made a tag.texts tag.pictures) v in
    let second : made version tag.texts tag.pictures ≡ made version texts tag.pictures = ap (λ b. made version b tag.pictures) t in
    first ∙ second ∙ ap (λ c. made version texts c) p

-- what the frames tell
pub tag_made : (tag : Id3Tag) (layout : Layout) (file : List ℕ) (first end : ℕ) (rest : List FrameHead) → rest ≡ []
    → tag.version ≡ layout.version → length tag.texts ≤ 256
    → take 256 (tag.texts ++ flat_map (texts_at file) rest) ≡ take 256 (flat_map (texts_at file) (heads_in 1024 layout file first end))
    → tag.pictures ++ flat_map (pictures_at file) rest ≡ flat_map (pictures_at file) (heads_in 1024 layout file first end)
    → tag ≡ tag_of_frames layout file first end
unfolding tag_of_frames
tag_made tag layout file first end rest none version few texts pictures =
    tag_by_parts tag layout.version _ _ version (texts_end (texts_at file) tag.texts rest _ none few texts)
    (pictures_end (pictures_at file) tag.pictures rest _ none pictures)
