-- The parts of a picture, read one after another, and the list of pictures.
use Rattle.std.proofs.Common.{◌≡◌, ℕ, ◌+◌, ◌-◌, ◌<◌, ◌≤◌, List, [], ◌∷◌, ◌++◌, length, take, drop, arith, ap, ◌∙◌, sym, refl}
use Rattle.std.proofs.Common.{Bool, true, false, Some, None, slice_range, get_or, All}
use Rattle.std.specs.Prelude.{Option, option_to_list, option_and_then, nat_le, ◌==◌, ◌&&◌, if◌then◌else◌}
use Rattle.std.specs.List.{filter_map, cons_option}
use Rattle.std.proofs.lemmas.Bool.Decides.{nat_tests}
use Rattle.std.proofs.lemmas.List.{take_more, take-take}
use Rattle.std.proofs.lemmas.List.Elements.{filter_map-append, All-get_or}
use Rattle.flac.specs.Blocks.{body_of, EndsBy}
use Rattle.flac.specs.Comments.{is_printable}
use Rattle.flac.specs.Numbers.{be32}
use Rattle.flac.specs.Pictures.{PicturePlace, media_len, text_len, data_len, lengths_by, lengths_in, is_media_type, media_type_of, picture_by}
use Rattle.flac.specs.Pictures.{picture_in, picture_of}
use Rattle.flac.specs.declared.blocks.BlockHead.{BlockHead}
use Rattle.flac.specs.declared.pictures.Lengths.{Lengths}
use Rattle.flac.proofs.FieldList.{take_again}
use Rattle.flac.proofs.Ranges.{length_range, be32_is, be_bytes-take, front_is, middle_is}

lengths_are : (body : List ℕ) (m t n : ℕ) → m ≡ media_len body → t ≡ text_len m body → n ≡ data_len m t body
    → lengths_in body ≡ lengths_by body m t n
unfolding lengths_in
lengths_are body m t n media text len =
    sym (ap (λ k. lengths_by body k (text_len k body) (data_len k (text_len k body) body)) media)
    ∙ sym (ap (λ k. lengths_by body m k (data_len m k body)) text) ∙ sym (ap (lengths_by body m t) len)

too_short : (body : List ℕ) (m t n : ℕ) → length body < 32 + m + t + n → None ≡ lengths_by body m t n
too_short body m t n short =
    let e : nat_le (32 + m + t + n) (length body) ≡ false = grind (arith, nat_tests) in rw e refl

holds : (body : List ℕ) (m t n : ℕ) → 32 + m + t + n ≤ length body
    → Some (record { media = m; text = t; len = n }) ≡ lengths_by body m t n
holds body m t n long =
    let e : nat_le (32 + m + t + n) (length body) ≡ true = grind (arith, nat_tests) in rw e refl

media_is : (file : List ℕ) (first len m : ℕ) → 32 ≤ len → m ≡ be32 (slice_range file (first + 4) (first + 4 + 4))
    → m ≡ media_len (slice_range file first (first + len))
media_is file first len m room read = read ∙ sym (be32_is file first 4 (first + 4) (first + len) (omega arith) refl)

text_is : (file : List ℕ) (first len m t : ℕ) → 32 + m ≤ len
    → t ≡ be32 (slice_range file (first + (8 + m)) (first + (8 + m) + 4)) → t ≡ text_len m (slice_range file first (first + len))
text_is file first len m t room read = read ∙ sym (be32_is file first (8 + m) (first + (8 + m)) (first + len) (omega arith) refl)

data_is : (file : List ℕ) (first len m t n : ℕ) → 32 + m + t ≤ len
    → n ≡ be32 (slice_range file (first + (28 + m + t)) (first + (28 + m + t) + 4)) → n ≡ data_len m t (slice_range file first (first + len))
data_is file first len m t n room read =
    read ∙ sym (be32_is file first (28 + m + t) (first + (28 + m + t)) (first + len) (omega arith) refl)

size_of : (file : List ℕ) (first len : ℕ) → first + len ≤ length file → length (slice_range file first (first + len)) ≡ len
size_of file first len within = length_range file first (first + len) within ∙ omega arith

pub no_head : (file : List ℕ) (first len : ℕ) → first + len ≤ length file → len < 32 → None ≡ lengths_in (slice_range file first (first + len))
no_head file first len within short =
    let body = slice_range file first (first + len) in
    let size : length (slice_range file first (first + len)) ≡ len = size_of file first len within in
    too_short body (media_len body) (text_len (media_len body) body) (data_len (media_len body) (text_len (media_len body) body) body) (omega arith)
    ∙ sym (lengths_are body (media_len body) (text_len (media_len body) body) (data_len (media_len body) (text_len (media_len body) body) body) refl refl refl)

pub no_media : (file : List ℕ) (first len m : ℕ) → first + len ≤ length file → 32 ≤ len
    → m ≡ be32 (slice_range file (first + 4) (first + 4 + 4)) → len < 32 + m → None ≡ lengths_in (slice_range file first (first + len))
no_media file first len m within room read short =
    let body = slice_range file first (first + len) in
    let size : length (slice_range file first (first + len)) ≡ len = size_of file first len within in
    too_short body m (text_len m body) (data_len m (text_len m body) body) (omega arith)
    ∙ sym (lengths_are body m (text_len m body) (data_len m (text_len m body) body) (media_is file first len m room read) refl refl)

pub no_text : (file : List ℕ) (first len m t : ℕ) → first + len ≤ length file → 32 + m ≤ len
    → m ≡ be32 (slice_range file (first + 4) (first + 4 + 4)) → t ≡ be32 (slice_range file (first + (8 + m)) (first + (8 + m) + 4))
    → len < 32 + m + t → None ≡ lengths_in (slice_range file first (first + len))
no_text file first len m t within room media text short =
    let body = slice_range file first (first + len) in
    let size : length (slice_range file first (first + len)) ≡ len = size_of file first len within in
    too_short body m t (data_len m t body) (omega arith)
    ∙ sym (lengths_are body m t (data_len m t body) (media_is file first len m (omega arith) media) (text_is file first len m t room text) refl)

-- the three lengths were read
pub record AreRead (file : List ℕ) (first m t n : ℕ) : Type 0 where
  pub media : m ≡ be32 (slice_range file (first + 4) (first + 4 + 4))
  pub text : t ≡ be32 (slice_range file (first + (8 + m)) (first + (8 + m) + 4))
  pub len : n ≡ be32 (slice_range file (first + (28 + m + t)) (first + (28 + m + t) + 4))

lengths_read : (file : List ℕ) (first len m t n : ℕ) → 32 + m + t ≤ len → AreRead file first m t n
    → lengths_in (slice_range file first (first + len)) ≡ lengths_by (slice_range file first (first + len)) m t n
lengths_read file first len m t n room read =
    lengths_are (slice_range file first (first + len)) m t n (media_is file first len m (omega arith) read.media)
    (text_is file first len m t (omega arith) read.text) (data_is file first len m t n room read.len)

pub no_data : (file : List ℕ) (first len m t n : ℕ) → first + len ≤ length file → 32 + m + t ≤ len → AreRead file first m t n
    → len < 32 + m + t + n → None ≡ lengths_in (slice_range file first (first + len))
no_data file first len m t n within room read short =
    let size : length (slice_range file first (first + len)) ≡ len = size_of file first len within in
    too_short (slice_range file first (first + len)) m t n (omega arith) ∙ sym (lengths_read file first len m t n room read)

pub all_there : (file : List ℕ) (first len m t n : ℕ) → first + len ≤ length file → 32 + m + t + n ≤ len → AreRead file first m t n
    → Some (record { media = m; text = t; len = n }) ≡ lengths_in (slice_range file first (first + len))
all_there file first len m t n within room read =
    let size : length (slice_range file first (first + len)) ≡ len = size_of file first len within in
    holds (slice_range file first (first + len)) m t n (omega arith) ∙ sym (lengths_read file first len m t n (omega arith) read)

-- media types
short_type : (name : List ℕ) → length name ≤ 255 → is_media_type name ≡ is_printable name
short_type name few = let e : nat_le (length name) 255 ≡ true = grind (arith, nat_tests) in ap (λ (b : Bool). b && is_printable name) e

pub type_is : (name : List ℕ) (o : Option (List ℕ)) → length name ≤ 255 → o ≡ (if is_printable name then Some name else None)
    → o ≡ media_type_of name
type_is name o few told = told ∙ ap (λ (b : Bool). if b then Some name else None) (sym (short_type name few))

pub long_type : (file : List ℕ) (at len : ℕ) → at + len ≤ length file → 255 < len → None ≡ media_type_of (slice_range file at (at + len))
long_type file at len within long =
    let size : length (slice_range file at (at + len)) ≡ len = size_of file at len within in
    let e : nat_le (length (slice_range file at (at + len))) 255 ≡ false = grind (arith, nat_tests) in
    sym (ap (λ (b : Bool). if b && is_printable (slice_range file at (at + len)) then Some (slice_range file at (at + len)) else None) e)

-- the picture by its parts
abbrev made : Bool → ℕ → List ℕ → Lengths → List ℕ → Option PicturePlace
made b first body lengths name = if b then Some (record {
  kind = be32 body;
  media_type = name;
  first = first + (32 + lengths.media + lengths.text);
  len = lengths.len;
}) else None

picture_made : (first : ℕ) (body name : List ℕ) (lengths : Lengths) → name ≡ take lengths.media (drop 8 body)
    → picture_by first body lengths ≡ made (is_media_type name) first body lengths name
unfolding picture_by
picture_made first body name lengths named = sym (ap (λ (n : List ℕ). made (is_media_type n) first body lengths n) named)

none_of : (b : Bool) (name : List ℕ) → None ≡ (if b then Some name else None) → b ≡ false
none_of true name h = cc
none_of false name h = refl

some_of : (b : Bool) (name n : List ℕ) → Some n ≡ (if b then Some name else None) → (b ≡ true) × (n ≡ name)
some_of true name n h = (refl, cc)
some_of false name n h = absurd cc

name_at : (file : List ℕ) (first len m : ℕ) → 32 + m ≤ len
    → slice_range file (first + 8) (first + 8 + m) ≡ take m (drop 8 (slice_range file first (first + len)))
name_at file first len m room = sym (middle_is file first 8 m (first + 8) (first + len) (omega arith) refl)

pub no_type : (file : List ℕ) (first len : ℕ) (lengths : Lengths) → 32 + lengths.media ≤ len
    → None ≡ media_type_of (slice_range file (first + 8) (first + 8 + lengths.media))
    → None ≡ picture_by first (slice_range file first (first + len)) lengths
no_type file first len lengths room none =
    let name = slice_range file (first + 8) (first + 8 + lengths.media) in
    sym (picture_made first (slice_range file first (first + len)) name lengths (name_at file first len lengths.media room)
    ∙ ap (λ b. made b first (slice_range file first (first + len)) lengths name) (none_of (is_media_type name) name none))

front_number : (file : List ℕ) (first len : ℕ) → 4 ≤ len → be32 (slice_range file first (first + 4)) ≡ be32 (slice_range file first (first + len))
front_number file first len room =
    sym (ap be32 (front_is file first 4 (first + len) (omega arith))) ∙ be_bytes-take (slice_range file first (first + len))

abbrev place : ℕ → List ℕ → ℕ → ℕ → PicturePlace
place kind name first len = record { kind = kind; media_type = name; first = first; len = len }

pub picture_read : (file : List ℕ) (first len kind : ℕ) (n : List ℕ) (lengths : Lengths) → 32 + lengths.media ≤ len
    → Some n ≡ media_type_of (slice_range file (first + 8) (first + 8 + lengths.media)) → kind ≡ be32 (slice_range file first (first + 4))
    → Some (record { kind = kind; media_type = n; first = first + (32 + lengths.media + lengths.text); len = lengths.len })
    ≡ picture_by first (slice_range file first (first + len)) lengths
picture_read file first len kind n lengths room some number =
    let name = slice_range file (first + 8) (first + 8 + lengths.media) in
    let p = some_of (is_media_type name) name n some in
    ap (λ k. Some (place k n (first + (32 + lengths.media + lengths.text)) lengths.len)) (number ∙ front_number file first len (omega arith))
    ∙ ap (λ (m : List ℕ). Some (place (be32 (slice_range file first (first + len))) m (first + (32 + lengths.media + lengths.text)) lengths.len)) p.1
    ∙ sym (picture_made first (slice_range file first (first + len)) name lengths (name_at file first len lengths.media room)
    ∙ ap (λ b. made b first (slice_range file first (first + len)) lengths name) p.0)

pub picture_here : (file : List ℕ) (block : BlockHead) (lengths : Option Lengths) → block.kind ≡ 6 → lengths ≡ lengths_in (body_of file block)
    → picture_of file block ≡ option_and_then (picture_by block.first (body_of file block)) lengths
picture_here file block lengths six found =
    let e : (block.kind == 6) ≡ true = ap (λ k. k == 6) six in
    ap (λ (b : Bool). if b then picture_in block.first (body_of file block) else None) e
    ∙ ap (option_and_then (picture_by block.first (body_of file block))) (sym found)

cons_one : {A : Type 0} (x : Option A) → cons_option x [] ≡ option_to_list x
cons_one None = refl
cons_one (Some x) = refl

-- one more block
pub pictures_more : {A B : Type 0} (n : ℕ) (f : A → Option B) (xs : List A) (i : ℕ) (d : A) (before after : List B) → i < length xs
    → before ≡ take n (filter_map f (take i xs)) → after ≡ take n (before ++ option_to_list (f (get_or xs i d)))
    → after ≡ take n (filter_map f (take (i + 1) xs))
pictures_more n f xs i d before after within was added =
    added ∙ ap (λ ys. take n (ys ++ option_to_list (f (get_or xs i d)))) was
    ∙ take_again n (filter_map f (take i xs)) (option_to_list (f (get_or xs i d)))
    ∙ sym (ap (λ ys. take n (filter_map f (take i xs) ++ ys)) (cons_one (f (get_or xs i d))))
    ∙ sym (ap (take n) (filter_map-append f (take i xs) (get_or xs i d ∷ [])))
    ∙ sym (ap (λ ys. take n (filter_map f ys)) (take_more xs i d within))

-- each block ends within the file
pub within_at : (end size : ℕ) (blocks : List BlockHead) (i : ℕ) → All (EndsBy end) blocks → i < length blocks → end ≡ size → (d : BlockHead)
    → (get_or blocks i d).first + (get_or blocks i d).len ≤ size
within_at end size blocks i each under same d =
    let here : EndsBy end (get_or blocks i d) = All-get_or (EndsBy end) blocks i d under each in omega (arith, here)
