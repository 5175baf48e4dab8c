-- The six tags of a row: those that are read are spelled so, and what is spelled so is read.
use Rattle.std.proofs.Common.{◌≡◌, ℕ, zero, suc, ◌+◌, ◌-◌, ◌<◌, ◌≤◌, Bool, true, false, leb, List, [], ◌∷◌, ◌++◌, length, get_or, Ok}
use Rattle.std.proofs.Common.{Some, None, refl, sym, ap, subst, ◌∙◌, arith}
use Rattle.std.specs.Prelude.{Option, IsTrue, IfSome, nat_lt}
use Rattle.std.specs.List.{All, AllByRecursion, flat_map, list_all}
use Rattle.std.specs.Option.{option_map_or}
use Rattle.std.specs.Str.{is_utf8}
use Rattle.std.proofs.lemmas.Bool.{leb-true, le-leb, lt-ltb}
use Rattle.std.proofs.lemmas.List.{append-nil}
use Rattle.song_files.specs.Limits.{MAX_TAGS}
use Rattle.song_files.specs.Tag.{is_tag, number_of, all_tags, table, tag_at as tag_numbered}
use Rattle.song_files.specs.Tags.{TagText, first_text, with_text, added, AreTags as AreSongTags}
use Rattle.song_files.specs.Text.{is_tag_text, has_control}
use Rattle.song_files.specs.declared.tag.Tag.{Tag}
use Rattle.song_files.specs.declared.tag.Tag.TheVariants.{Title, Artist, Album, Date, Genre, Comment}
use Rattle.song_files.proofs.TagNumbers.{number_at}
use Rattle.song_files.proofs.TagTexts.{with_text-last}
use Rattle.song_db.specs.Row.{is_good_tag, is_plain, six_texts, numbered, tags_from, from_six}
use Rattle.song_db.proofs.SixTexts.{from_six-six_texts, from_six-plain, six_texts-from_six, from_six-push}
use Rattle.state_codec.specs.declared.fields.ReadError.{ReadError}
use Rattle.state_codec.specs.declared.fields.ReadError.TheVariants.{Fault, NoMemory}
use Rattle.state_codec.specs.Fields.{Field, made, such, text_at}
use Rattle.state_codec.specs.Given.{Fails, with_some}
use Rattle.state_codec.specs.Items.{items_at}
use Rattle.state_codec.specs.ReadingRows.{tag_at, tags_at}
use Rattle.state_codec.specs.SavedState.{IsBytes}
use Rattle.state_codec.specs.SpellingFields.{text_bytes}
use Rattle.state_codec.specs.SpellingRows.{tag_bytes, tags_bytes}
use Rattle.state_codec.specs.Text.{is_text}
use Rattle.state_codec.proofs.FieldLaws.{bind_ok, ok_is, both_true, Takes, IsField, IsBytes-rest}
use Rattle.state_codec.proofs.ItemLaws.{IsItem, items_take, items_again, alone_is}
use Rattle.state_codec.proofs.ListLaws.{all_by, by_all}
use Rattle.state_codec.proofs.LoopLaws.{items_go_on, one_counted, items_fail, items_done}
use Rattle.state_codec.proofs.TextLaws.{form_is, both_is_true}

-- ---- one text of a tag

pub tag_text_short : (text : List ℕ) → is_tag_text text ≡ true → length text ≤ 512
tag_text_short text h =
    let front = both_true _ (Rattle.std.specs.Prelude.not (has_control text)) h in
    let utf8 = both_true _ (is_utf8 text) front.0 in
    let len = both_true _ (leb (length text) 512) utf8.0 in
    leb-true _ _ len.1

tag_is_text : (text : List ℕ) → is_tag_text text ≡ true → is_text text ≡ true
tag_is_text text h =
    let front = both_true _ (Rattle.std.specs.Prelude.not (has_control text)) h in
    let utf8 = both_true _ (is_utf8 text) front.0 in
    both_is_true (is_utf8 text) (leb (length text) 65535) utf8.1 (le-leb (length text) 65535 (omega (arith, tag_text_short text h)))

pub tag_text_is : IsField (λ bytes. such is_tag_text text_at bytes) (λ text. text_bytes text) (λ text. is_tag_text text ≡ true)
tag_text_is = form_is is_tag_text tag_is_text

abbrev pub IsTextOrNone : Option (List ℕ) → Type 0
IsTextOrNone None = Unit {0}
IsTextOrNone (Some text) = is_tag_text text ≡ true

tag_takes : (bytes : List ℕ) (x : Option (List ℕ) × List ℕ) → IsBytes bytes → tag_at bytes ≡ Ok x
    → Takes bytes (tag_bytes x.0) x.1 × IsTextOrNone x.0
unfolding tag_at
tag_takes [] x fits e = absurd cc
tag_takes (zero ∷ rest) x fits e =
    subst (λ y. Takes (0 ∷ rest) (tag_bytes y.0) y.1 × IsTextOrNone y.0) (ok_is (None, rest) x e)
    (record { parts = refl; rest_fits = IsBytes-rest 0 rest fits }, tt)
tag_takes (suc zero ∷ rest) x fits e =
    let a = bind_ok (such is_tag_text text_at rest) _ x e in
    let t = tag_text_is.takes rest a.0 (IsBytes-rest 1 rest fits) a.1 in
    subst (λ y. Takes (1 ∷ rest) (tag_bytes y.0) y.1 × IsTextOrNone y.0) (ok_is (Some a.0.0, a.0.1) x a.2)
    (record { parts = ap (λ (s : List ℕ). 1 ∷ s) t.0.parts; rest_fits = t.0.rest_fits }, t.1)
tag_takes (suc (suc b) ∷ rest) x fits e = absurd cc

tag_again : (tag : Option (List ℕ)) (rest : List ℕ) → IsTextOrNone tag → tag_at (tag_bytes tag ++ rest) ≡ Ok (tag, rest)
unfolding tag_at
tag_again None rest good = refl
tag_again (Some text) rest good = ap (made Some) (tag_text_is.again text rest good)

tag_is : IsField (λ bytes. tag_at bytes) tag_bytes IsTextOrNone
tag_is = record { takes = tag_takes; again = tag_again }

-- ---- the texts of six tags

-- the first text of a tag is as good as all
pub first_good : (tags : List TagText) (tag : Tag) → list_all is_good_tag tags ≡ true → IsTextOrNone (first_text tags tag)
first_good [] tag good = tt
first_good (t ∷ tags) tag good =
    let b = both_true (is_good_tag t) (list_all is_good_tag tags) good in
    of (is_tag t.tag tag) refl b.0 (first_good tags tag b.1)
  where
    of : (same : Bool) → is_tag t.tag tag ≡ same → is_good_tag t ≡ true → IsTextOrNone (first_text tags tag)
        → IsTextOrNone (first_text (t ∷ tags) tag)
    of true is here more = rw is here
    of false is here more = rw is more

pub six_good : (tags : List TagText) → list_all is_good_tag tags ≡ true → AllByRecursion IsTextOrNone (six_texts tags)
six_good tags good = (
  first_good tags Title good,
  (
    first_good tags Artist good,
    (
      first_good tags Album good,
      (
        first_good tags Date good,
        (first_good tags Genre good, (first_good tags Comment good, tt)),
      ),
    ),
  ),
)

-- tags that are made of good texts are good
texts_good : (number : ℕ) (texts : List (Option (List ℕ))) → AllByRecursion IsTextOrNone texts
    → list_all is_good_tag (tags_from number texts) ≡ true
texts_good number [] all = refl
texts_good number (None ∷ texts) all = texts_good (number + 1) texts all.1
texts_good number (Some text ∷ texts) all = of (tag_numbered number) (texts_good (number + 1) texts all.1) where
  of : (tag : Option Tag) → list_all is_good_tag (tags_from (number + 1) texts) ≡ true
      → list_all is_good_tag (option_map_or (λ (t : Tag). record { tag = t; text = text } ∷ []) tag [] ++ tags_from (number + 1) texts) ≡ true
  of None more = more
  of (Some tag) more = rw all.0 more

abbrev pub AreTags : List TagText → Type 0
AreTags tags = (list_all is_good_tag tags ≡ true) × (is_plain tags ≡ true)

pub tags_is : IsField (λ bytes. tags_at bytes) tags_bytes AreTags
tags_is = record { takes = takes; again = again } where
  item : IsItem (λ known. tag_at) tag_bytes (AllByRecursion IsTextOrNone)
  item = alone_is (λ bytes. tag_at bytes) tag_bytes IsTextOrNone tag_is

  takes : (bytes : List ℕ) (x : List TagText × List ℕ) → IsBytes bytes → tags_at bytes ≡ Ok x
      → Takes bytes (tags_bytes x.0) x.1 × AreTags x.0
  takes bytes x fits e =
      let read = bind_ok (items_at (λ known. tag_at) 6 [] bytes) _ x e in
      let texts = read.0.0 in
      let rest = read.0.1 in
      let m = items_take (λ known. tag_at) tag_bytes (AllByRecursion IsTextOrNone) item 6 [] bytes read.0 tt fits read.1 in
      let six : length texts ≡ 6 = ap length m.all ∙ m.count in
      let spelled : Takes bytes (flat_map tag_bytes texts) rest = subst (λ xs. Takes bytes (flat_map tag_bytes xs) rest) (sym m.all) m.parts in
      let parts : Takes bytes (tags_bytes (from_six texts)) rest =
      subst (λ xs. Takes bytes (flat_map tag_bytes xs) rest) (sym (six_texts-from_six texts six)) spelled in
      subst (λ y. Takes bytes (tags_bytes y.0) y.1 × AreTags y.0) (ok_is (from_six texts, rest) x read.2)
      (parts, (texts_good 0 texts m.fits, from_six-plain texts (omega arith)))

  again : (tags : List TagText) (rest : List ℕ) → AreTags tags → tags_at (tags_bytes tags ++ rest) ≡ Ok (tags, rest)
  again tags rest fits =
      ap (made from_six)
      (items_again (λ known. tag_at) tag_bytes (AllByRecursion IsTextOrNone) item (six_texts tags) [] rest (six_good tags fits.0))
      ∙ ap (λ t. Ok (t, rest)) (from_six-six_texts tags fits.1)

-- ---- the texts that a song has

all_good : (tags : List TagText) → AllByRecursion (λ (t : TagText). is_tag_text t.text ≡ true) tags → list_all is_good_tag tags ≡ true
all_good [] all = refl
all_good (t ∷ tags) all = rw all.0 (all_good tags all.1)

-- those of every song's tags are good
pub song_tags_good : (tags : List TagText) → AreSongTags tags → list_all is_good_tag tags ≡ true
song_tags_good tags good = all_good tags (all_by (λ (t : TagText). is_tag_text t.text ≡ true) tags good.texts)

text_short : (text : Option (List ℕ)) → IsTextOrNone text → IfSome text (λ (t : List ℕ). length t ≤ 512)
text_short None good = tt
text_short (Some text) good = tag_text_short text good

pub first_short : (tags : List TagText) (tag : Tag) → AreSongTags tags → IfSome (first_text tags tag) (λ (t : List ℕ). length t ≤ 512)
first_short tags tag good = text_short (first_text tags tag) (first_good tags tag (song_tags_good tags good))

-- the tag with a number below 6 is that of the text at its place
pub six_at : (tags : List TagText) (n : ℕ) (tag : Tag) (d : Option (List ℕ)) → n < 6 → tag_numbered n ≡ Some tag
    → first_text tags tag ≡ get_or (six_texts tags) n d
unfolding tag_numbered all_tags table
six_at tags zero tag d under is = ap (λ (t : Tag). first_text tags t) (let same : tag ≡ Title = cc in same)
six_at tags (suc zero) tag d under is = ap (λ (t : Tag). first_text tags t) (let same : tag ≡ Artist = cc in same)
six_at tags (suc (suc zero)) tag d under is = ap (λ (t : Tag). first_text tags t) (let same : tag ≡ Album = cc in same)
six_at tags (suc (suc (suc zero))) tag d under is = ap (λ (t : Tag). first_text tags t) (let same : tag ≡ Date = cc in same)
six_at tags (suc (suc (suc (suc zero)))) tag d under is = ap (λ (t : Tag). first_text tags t) (let same : tag ≡ Genre = cc in same)
six_at tags (suc (suc (suc (suc (suc zero))))) tag d under is = ap (λ (t : Tag). first_text tags t) (let same : tag ≡ Comment = cc in same)
six_at tags (suc (suc (suc (suc (suc (suc n)))))) tag d under is = absurd (omega arith)

-- ---- one text more, as a loop reads

-- tags that are made of texts from a number on have numbers below where the texts end
numbers_below : (number : ℕ) (texts : List (Option (List ℕ))) (end : ℕ) → number + length texts ≤ end
    → AllByRecursion (λ (t : TagText). number_of t.tag < end) (tags_from number texts)
numbers_below number [] end most = tt
numbers_below number (None ∷ texts) end most = numbers_below (number + 1) texts end (omega arith)
numbers_below number (Some text ∷ texts) end most = of (tag_numbered number) refl (numbers_below (number + 1) texts end (omega arith)) where
  of : (tag : Option Tag) → tag_numbered number ≡ tag → AllByRecursion (λ (t : TagText). number_of t.tag < end) (tags_from (number + 1) texts)
      → AllByRecursion (λ (t : TagText). number_of t.tag < end)
      (option_map_or (λ (t : Tag). record { tag = t; text = text } ∷ []) tag [] ++ tags_from (number + 1) texts)
  of None is more = more
  of (Some tag) is more = (omega (arith, number_at number tag is), more)

-- and there are no more tags than texts
no_more : (number : ℕ) (texts : List (Option (List ℕ))) → length (tags_from number texts) ≤ length texts
no_more number [] = omega arith
no_more number (None ∷ texts) = omega (arith, no_more (number + 1) texts)
no_more number (Some text ∷ texts) = of (tag_numbered number) (no_more (number + 1) texts) where
  of : (tag : Option Tag) → length (tags_from (number + 1) texts) ≤ length texts
      → length (option_map_or (λ (t : Tag). record { tag = t; text = text } ∷ []) tag [] ++ tags_from (number + 1) texts) ≤ suc (length texts)
  of None few = omega arith
  of (Some tag) few = omega arith

added_is : (tags : List TagText) (tag : Tag) (text : List ℕ) → length tags < MAX_TAGS → added tags tag text ≡ with_text tags tag text
added_is tags tag text few = rw (lt-ltb (length tags) MAX_TAGS few) refl

-- one text more, or none, of the tag with the next number
some_is : (texts : List (Option (List ℕ))) (tag : Tag) (text : Option (List ℕ)) → length texts < 6 → tag_numbered (length texts) ≡ Some tag
    → with_some (from_six texts) tag text ≡ from_six (texts ++ text ∷ [])
some_is texts tag None under is = sym (from_six-push texts None ∙ append-nil (from_six texts))
some_is texts tag (Some text) under is =
    let few : length (from_six texts) < MAX_TAGS = omega (arith, no_more 0 texts) in
    let lower = by_all (λ (t : TagText). number_of t.tag < length texts) (from_six texts) (numbers_below 0 texts (length texts) (omega arith)) in
    let number : number_of tag ≡ length texts = number_at (length texts) tag is in
    let last : with_text (from_six texts) tag text ≡ from_six texts ++ (record { tag = tag; text = text }) ∷ [] =
    with_text-last (from_six texts) tag text
    (λ k d within. let below : number_of (get_or (from_six texts) k d).tag < length texts = lower k d within in omega arith) in
    let next : numbered (length texts) (Some text) ≡ (record { tag = tag; text = text }) ∷ [] = rw is refl in
    added_is (from_six texts) tag text few ∙ last ∙ ap (λ (t : List TagText). from_six texts ++ t) (sym next)
    ∙ sym (from_six-push texts (Some text))

-- the texts of tags below a number were read
pub record TagsSoFar (number : ℕ) (start rest : List ℕ) (tags : List TagText) : Type 0 where
  pub texts : List (Option (List ℕ))
  pub read : items_at (λ known. tag_at) (6 - number) texts rest ≡ items_at (λ known. tag_at) 6 [] start
  pub count : length texts ≡ number
  pub made_of : tags ≡ from_six texts

pub none_so_far : (start : List ℕ) → TagsSoFar 0 start start []
none_so_far start = record { texts = []; read = refl; count = refl; made_of = refl }

pub one_more : (number : ℕ) (start before rest : List ℕ) (tags now : List TagText) (tag : Tag) (text : Option (List ℕ)) → number < 6
    → tag_numbered number ≡ Some tag → tag_at before ≡ Ok (text, rest) → now ≡ with_some tags tag text
    → TagsSoFar number start before tags → TagsSoFar (number + 1) start rest now
one_more number start before rest tags now tag text under is read more far = record {
  texts = far.texts ++ text ∷ [];
  read = items_go_on (λ known. tag_at) 6 number far.texts before text rest (items_at (λ known. tag_at) 6 [] start) under read far.read;
  count = one_counted far.texts text number far.count;
  made_of = more ∙ ap (λ (t : List TagText). with_some t tag text) far.made_of
      ∙ some_is far.texts tag text (omega (arith, far.count)) (ap (λ n. tag_numbered n) far.count ∙ is);
}

pub all_read : (number : ℕ) (start rest : List ℕ) (tags : List TagText) → 6 ≤ number → TagsSoFar number start rest tags
    → tags_at start ≡ Ok (tags, rest)
all_read number start rest tags all far =
    ap (made from_six) (items_done (λ known. tag_at) 6 number far.texts rest (items_at (λ known. tag_at) 6 [] start) all far.read)
    ∙ ap (λ t. Ok (t, rest)) (sym far.made_of)

made_fails : {A B : Type 0} (f : A → B) (error : ReadError) (field : Field A) → Fails error field → Fails error (made f field)
made_fails f (Fault left) field fails = ap (made f) fails
made_fails f NoMemory field fails = tt

pub one_fails : (number : ℕ) (start before : List ℕ) (tags : List TagText) (error : ReadError) → number < 6 → Fails error (tag_at before)
    → TagsSoFar number start before tags → Fails error (tags_at start)
one_fails number start before tags error under fails far =
    made_fails from_six error (items_at (λ known. tag_at) 6 [] start)
    (items_fail (λ known. tag_at) 6 number far.texts before error (items_at (λ known. tag_at) 6 [] start) under fails far.read)
