-- What a row tells beside its frames: stamps and texts that are read are spelled so, and what is spelled so is read.
use Rattle.std.proofs.Common.{◌≡◌, ℕ, zero, suc, ◌+◌, ◌-◌, ◌^◌, ◌<◌, ◌≤◌, true, leb, List, [], ◌∷◌, ◌++◌, length, get_or, Ok, Some, None}
use Rattle.std.proofs.Common.{false, refl, sym, ap, subst, ◌∙◌, arith, inl, inr}
use Rattle.std.specs.Prelude.{Option, IfSome, nat_lt, nat_le, slice_get}
use Rattle.std.specs.Option.{ok_or}
use Rattle.std.specs.List.{All, AllByRecursion, flat_map, sum_by, list_all}
use Rattle.std.specs.List.Sorted.{IsNonDecreasingBy}
use Rattle.std.proofs.lemmas.Bool.{cases_lt, leb-true, le-leb, lt-ltb}
use Rattle.std.proofs.lemmas.Bool.Decides.{nat_tests}
use Rattle.std.proofs.lemmas.List.{length-append}
use Rattle.std.proofs.lemmas.List.Concat.{flat_map-cons}
use Rattle.std.proofs.lemmas.Option.{get_or_from_slice_get, slice_get_within}
use Rattle.std.proofs.lemmas.List.Sorted.{IsNonDecreasingBy-push}
use Rattle.std.proofs.lemmas.List.Sums.{sum_by-cons, sum_by-le}
use Rattle.profile.specs.declared.profile.Profile.{Profile}
use Rattle.profile.specs.declared.profile.Profile.TheVariants.{Named, Wide}
use Rattle.song_files.specs.Limits.{MAX_TAGS}
use Rattle.song_files.specs.Tag.{number_of, tag_at as tag_numbered}
use Rattle.song_files.specs.Tags.{TagText, with_text, added, AreTags as AreSongTags}
use Rattle.song_files.specs.Text.{is_tag_text}
use Rattle.song_files.specs.declared.folder.FileStamp.{FileStamp}
use Rattle.song_files.specs.declared.tag.Tag.{Tag}
use Rattle.song_files.proofs.TagNumbers.{number_at, number_below, tag_at-number}
use Rattle.song_files.proofs.TagTexts.{with_text-last}
use Rattle.song_db.specs.Limits.{MAX_ROW_TAG_BYTES}
use Rattle.song_db.specs.Row.{is_good_tag, is_plain, is_plain_from, tags_size}
use Rattle.state_codec.specs.Changes.{IsSavedStamp}
use Rattle.state_codec.specs.Fields.{made, such, both, byte_at, u64_at}
use Rattle.state_codec.specs.Items.{counted_at}
use Rattle.state_codec.specs.ReadingRows.{tags_at, stamp_at, least_number, next_tag_at, tag_text_at, next_text_at, text_count_at, texts_at}
use Rattle.state_codec.specs.ReadingRows.{Told, told_at}
use Rattle.state_codec.specs.SavedState.{IsBytes}
use Rattle.state_codec.specs.SpellingFields.{byte_bytes, u64_bytes, text_bytes}
use Rattle.state_codec.specs.SpellingRows.{stamp_bytes, numbered_bytes, texts_bytes, told_bytes}
use Rattle.state_codec.proofs.FieldLaws.{bind_ok, ok_is, both_true, Takes, IsField, IsBytes-rest, both_is, such_is, fits_is, byte_is, u64_is}
use Rattle.state_codec.proofs.ItemLaws.{all_push, all_middle, IsItem, counted_is}
use Rattle.state_codec.proofs.ListLaws.{all_by, by_all}
use Rattle.state_codec.proofs.TagLaws.{AreTags, tags_is, tag_text_is, tag_text_short, song_tags_good}

-- ---- stamps

abbrev IsStampOrNone : Option FileStamp → Type 0
IsStampOrNone stamp = IfSome stamp IsSavedStamp

two_is : IsField (λ bytes. both u64_at u64_at bytes) (λ x. u64_bytes x.0 ++ u64_bytes x.1) (λ x. (x.0 < 2 ^ 64) × (x.1 < 2 ^ 64))
two_is = both_is (λ bytes. u64_at bytes) _ _ (λ bytes. u64_at bytes) _ _ u64_is u64_is

stamp_takes : (bytes : List ℕ) (x : Option FileStamp × List ℕ) → IsBytes bytes → stamp_at bytes ≡ Ok x
    → Takes bytes (stamp_bytes x.0) x.1 × IsStampOrNone x.0
unfolding stamp_at
stamp_takes [] x fits e = absurd cc
stamp_takes (zero ∷ rest) x fits e =
    subst (λ y. Takes (0 ∷ rest) (stamp_bytes y.0) y.1 × IsStampOrNone y.0) (ok_is (None, rest) x e)
    (record { parts = refl; rest_fits = IsBytes-rest 0 rest fits }, tt)
stamp_takes (suc zero ∷ rest) x fits e =
    let a = bind_ok (both u64_at u64_at rest) _ x e in
    let t = two_is.takes rest a.0 (IsBytes-rest 1 rest fits) a.1 in
    let stamp : FileStamp = record { modified = a.0.0.0; length = a.0.0.1 } in
    subst (λ y. Takes (1 ∷ rest) (stamp_bytes y.0) y.1 × IsStampOrNone y.0) (ok_is (Some stamp, a.0.1) x a.2) (
      record { parts = ap (λ (s : List ℕ). 1 ∷ s) t.0.parts; rest_fits = t.0.rest_fits },
      record { modified = t.1.0; length = t.1.1 },
    )
stamp_takes (suc (suc b) ∷ rest) x fits e = absurd cc

stamp_again : (stamp : Option FileStamp) (rest : List ℕ) → IsStampOrNone stamp → stamp_at (stamp_bytes stamp ++ rest) ≡ Ok (stamp, rest)
unfolding stamp_at
stamp_again None rest good = refl
stamp_again (Some stamp) rest good =
    ap (made (λ x. Some (record { modified = x.0; length = x.1 })))
    (two_is.again (stamp.modified, stamp.length) rest (good.modified, good.length))

stamp_is : IsField (λ bytes. stamp_at bytes) stamp_bytes IsStampOrNone
stamp_is = record { takes = stamp_takes; again = stamp_again }

-- ---- texts by the numbers of their tags

abbrev number : TagText → ℕ
number t = number_of t.tag

abbrev IsGood : TagText → Type 0
IsGood t = is_tag_text t.text ≡ true

found_tag : (o : Option Tag) (left : ℕ) (tag : Tag) → ok_or o left ≡ Ok tag → o ≡ Some tag
found_tag None left tag e = absurd cc
found_tag (Some t) left tag e = ap (λ (x : Tag). Some x) (ok_is t tag e)

number_from : (least : ℕ) → IsField (λ bytes. such (λ n. leb least n) byte_at bytes) (λ n. byte_bytes n)
    (λ n. (n < 256) × (leb least n ≡ true))
number_from least = such_is (λ n. leb least n) (λ bytes. byte_at bytes) (λ n. byte_bytes n) (λ n. n < 256) byte_is

next_tag_takes : (least : ℕ) (bytes : List ℕ) (x : Tag × List ℕ) → IsBytes bytes → next_tag_at least bytes ≡ Ok x
    → Takes bytes (byte_bytes (number_of x.0)) x.1 × (least ≤ number_of x.0)
unfolding next_tag_at
next_tag_takes least bytes x fits e =
    let n = bind_ok (such (λ n. leb least n) byte_at bytes) _ x e in
    let t = bind_ok (ok_or (tag_numbered n.0.0) (length bytes)) _ x n.2 in
    let read = (number_from least).takes bytes n.0 fits n.1 in
    let is : number_of t.0 ≡ n.0.0 = number_at n.0.0 t.0 (found_tag (tag_numbered n.0.0) (length bytes) t.0 t.1) in
    subst (λ y. Takes bytes (byte_bytes (number_of y.0)) y.1 × (least ≤ number_of y.0)) (ok_is (t.0, n.0.1) x t.2)
    (subst (λ (k : ℕ). Takes bytes (byte_bytes k) n.0.1) (sym is) read.0, omega (arith, is, leb-true _ _ read.1.1))

next_tag_again : (least : ℕ) (tag : Tag) (rest : List ℕ) → least ≤ number_of tag
    → next_tag_at least (byte_bytes (number_of tag) ++ rest) ≡ Ok (tag, rest)
unfolding next_tag_at
next_tag_again least tag rest behind =
    rw (
      (number_from least).again (number_of tag) rest (omega (arith, number_below tag), le-leb least (number_of tag) behind),
      tag_at-number tag,
    ) refl

next_tag_is : (least : ℕ) → IsField (λ bytes. next_tag_at least bytes) (λ tag. byte_bytes (number_of tag)) (λ tag. least ≤ number_of tag)
next_tag_is least = record { takes = next_tag_takes least; again = next_tag_again least }

-- a tag and its text
pair_is : (least : ℕ)
    → IsField (λ bytes. both (next_tag_at least) tag_text_at bytes) (λ x. byte_bytes (number_of x.0) ++ text_bytes x.1)
    (λ x. (least ≤ number_of x.0) × (is_tag_text x.1 ≡ true))
pair_is least =
    both_is (λ bytes. next_tag_at least bytes) (λ tag. byte_bytes (number_of tag)) (λ tag. least ≤ number_of tag)
    (λ bytes. tag_text_at bytes) (λ text. text_bytes text) (λ text. is_tag_text text ≡ true) (next_tag_is least) tag_text_is

-- the last text's number is the least that may follow
last_is : (tags : List TagText) (d : TagText) → 0 < length tags → number (get_or tags (length tags - 1) d) ≡ least_number tags
last_is [] d some = absurd (omega arith)
last_is (t ∷ []) d some = let none : length (t ∷ []) - 1 ≡ 0 = omega arith in ap (λ (k : ℕ). number (get_or (t ∷ []) k d)) none
last_is (t ∷ next ∷ tags) d some =
    let one : length (t ∷ next ∷ tags) - 1 ≡ suc (length (next ∷ tags) - 1) = omega arith in
    ap (λ (k : ℕ). number (get_or (t ∷ next ∷ tags) k d)) one ∙ last_is (next ∷ tags) d (omega arith)

pub last_number : (tags : List TagText) (n : ℕ) (t : TagText) → slice_get tags n ≡ Some t → n ≡ length tags - 1
    → number_of t.tag ≡ least_number tags
last_number tags n t here at =
    let within : n < length tags = slice_get_within tags n t here in
    ap number (sym (get_or_from_slice_get tags n t t here)) ∙ ap (λ (k : ℕ). number (get_or tags k t)) at ∙ last_is tags t (omega arith)

behind_last : (known : List TagText) (t : TagText) (more : List TagText) → IsNonDecreasingBy number (known ++ t ∷ more)
    → least_number known ≤ number t
behind_last [] t more ordered = omega arith
behind_last (s ∷ []) t more ordered = ordered 0 1 t (omega arith) (omega arith)
behind_last (s ∷ next ∷ known) t more ordered =
    behind_last (next ∷ known) t more (λ i j d le within. ordered (suc i) (suc j) d (omega arith) (omega arith))

-- what texts that were read keep
abbrev KnownTexts : List TagText → Type 0
KnownTexts tags = IsNonDecreasingBy number tags × AllByRecursion IsGood tags

text_is : IsItem (λ known bytes. next_text_at known bytes) numbered_bytes KnownTexts
text_is = record { takes = takes; again = again } where
  takes : (known : List TagText) (bytes : List ℕ) (x : TagText × List ℕ) → KnownTexts known → IsBytes bytes
      → next_text_at known bytes ≡ Ok x → Takes bytes (numbered_bytes x.0) x.1 × KnownTexts (known ++ x.0 ∷ [])
  takes known bytes x fits in_range e =
      let a = bind_ok (both (next_tag_at (least_number known)) tag_text_at bytes) _ x e in
      let t = (pair_is (least_number known)).takes bytes a.0 in_range a.1 in
      let new : TagText = record { tag = a.0.0.0; text = a.0.0.1 } in
      let ordered : IsNonDecreasingBy number (known ++ new ∷ []) =
      IsNonDecreasingBy-push number known new fits.0 (λ d some. omega (arith, last_is known d some, t.1.0)) in
      subst (λ y. Takes bytes (numbered_bytes y.0) y.1 × KnownTexts (known ++ y.0 ∷ [])) (ok_is (new, a.0.1) x a.2)
      (t.0, (ordered, all_push IsGood known new fits.1 t.1.1))

  again : (known : List TagText) (t : TagText) (more : List TagText) (rest : List ℕ) → KnownTexts (known ++ t ∷ more)
      → next_text_at known (numbered_bytes t ++ rest) ≡ Ok (t, rest)
  again known t more rest fits =
      ap (made (λ x. record { tag = x.0; text = x.1 }))
      ((pair_is (least_number known)).again (t.tag, t.text) rest
      (behind_last known t more fits.0, all_middle IsGood known t more fits.1))

text_count_is : IsField (λ bytes. text_count_at bytes) (λ n. byte_bytes n) (λ n. n ≤ MAX_TAGS)
text_count_is =
    fits_is (λ bytes. text_count_at bytes) (λ n. byte_bytes n) (λ n. (n < 256) × (leb n MAX_TAGS ≡ true)) (λ n. n ≤ MAX_TAGS)
    (such_is (λ n. leb n MAX_TAGS) (λ bytes. byte_at bytes) (λ n. byte_bytes n) (λ n. n < 256) byte_is)
    (λ n h. leb-true _ _ h.1) (λ n h. (omega (arith, h), le-leb n MAX_TAGS h))

none_known : KnownTexts []
none_known = (λ i j d le within. absurd (omega arith), tt)

counted_texts_is : IsField (λ bytes. counted_at text_count_at next_text_at bytes) texts_bytes
    (λ tags. (length tags ≤ MAX_TAGS) × KnownTexts tags)
counted_texts_is =
    counted_is (λ bytes. text_count_at bytes) (λ n. byte_bytes n) (λ n. n ≤ MAX_TAGS) text_count_is
    (λ known bytes. next_text_at known bytes) numbered_bytes KnownTexts text_is none_known

-- the tags of a row that the second profile keeps
abbrev pub AreWideTags : List TagText → Type 0
AreWideTags tags = AreSongTags tags × (leb (tags_size tags) MAX_ROW_TAG_BYTES ≡ true)

pub texts_is : IsField (λ bytes. texts_at bytes) texts_bytes AreWideTags
texts_is =
    fits_is (λ bytes. texts_at bytes) texts_bytes
    (λ tags. ((length tags ≤ MAX_TAGS) × KnownTexts tags) × (leb (tags_size tags) MAX_ROW_TAG_BYTES ≡ true)) AreWideTags
    (such_is (λ tags. leb (tags_size tags) MAX_ROW_TAG_BYTES) (λ bytes. counted_at text_count_at next_text_at bytes) texts_bytes
    (λ tags. (length tags ≤ MAX_TAGS) × KnownTexts tags) counted_texts_is)
    (λ tags h. (record { ordered = h.0.1.0; texts = by_all IsGood tags h.0.1.1; few = h.0.0 }, h.1))
    (λ tags h. ((h.0.few, (h.0.ordered, all_by IsGood tags h.0.texts)), h.1))

-- ---- how many bytes they take

pub texts_size : (tags : List TagText) → length (flat_map numbered_bytes tags) ≡ tags_size tags
texts_size [] = refl
texts_size (t ∷ tags) =
    let size : TagText → ℕ = λ t. 3 + length t.text in
    omega (
      arith,
      ap length (flat_map-cons numbered_bytes t tags),
      length-append (numbered_bytes t) (flat_map numbered_bytes tags),
      length-append (byte_bytes (number_of t.tag)) (text_bytes t.text),
      text_size t.text,
      sum_by-cons size t tags,
      texts_size tags,
    )
  where
    text_size : (text : List ℕ) → length (text_bytes text) ≡ 2 + length text
    text_size text = length-append (Rattle.std.specs.Int.to_le_bytes Rattle.std.specs.Int.w16 (length text)) text

-- ---- plain tags are a song's tags

record PlainHead (n : ℕ) (t : TagText) (tags : List TagText) : Type 0 where
  from : n ≤ number t
  below : number t < 6
  rest : is_plain_from (number t + 1) tags ≡ true

plain_head : (n : ℕ) (t : TagText) (tags : List TagText) → is_plain_from n (t ∷ tags) ≡ true → PlainHead n t tags
plain_head n t tags plain =
    let a = both_true (nat_le n (number t)) _ plain in
    let b = both_true (nat_lt (number t) 6) _ a.1 in
    record { from = grind (arith, nat_tests, a.0); below = grind (arith, nat_tests, b.0); rest = b.1 }

-- their numbers are no lower than this one
plain_from : (n : ℕ) (tags : List TagText) → is_plain_from n tags ≡ true → (k : ℕ) (d : TagText) → k < length tags
    → n ≤ number (get_or tags k d)
plain_from n [] plain k d within = absurd (omega arith)
plain_from n (t ∷ tags) plain zero d within = (plain_head n t tags plain).from
plain_from n (t ∷ tags) plain (suc k) d within =
    let h = plain_head n t tags plain in
    omega (arith, h.from, plain_from (number t + 1) tags h.rest k d (omega arith))

plain_ordered : (n : ℕ) (tags : List TagText) → is_plain_from n tags ≡ true → IsNonDecreasingBy number tags
plain_ordered n [] plain i j d le within = absurd (omega arith)
plain_ordered n (t ∷ tags) plain zero zero d le within = omega arith
plain_ordered n (t ∷ tags) plain zero (suc j) d le within =
    let h = plain_head n t tags plain in
    omega (arith, plain_from (number t + 1) tags h.rest j d (omega arith))
plain_ordered n (t ∷ tags) plain (suc i) zero d le within = absurd (omega arith)
plain_ordered n (t ∷ tags) plain (suc i) (suc j) d le within =
    plain_ordered (number t + 1) tags (plain_head n t tags plain).rest i j d (omega arith) (omega arith)

plain_few : (n : ℕ) (tags : List TagText) → is_plain_from n tags ≡ true → length tags ≤ 6 - n
plain_few n [] plain = omega arith
plain_few n (t ∷ tags) plain =
    let h = plain_head n t tags plain in
    omega (arith, h.from, h.below, plain_few (number t + 1) tags h.rest)

all_texts : (tags : List TagText) → list_all is_good_tag tags ≡ true → AllByRecursion IsGood tags
all_texts [] good = tt
all_texts (t ∷ tags) good = let b = both_true (is_good_tag t) (list_all is_good_tag tags) good in (b.0, all_texts tags b.1)

pub plain_tags : (tags : List TagText) → AreTags tags → AreSongTags tags
plain_tags tags good = record {
  ordered = plain_ordered 0 tags good.1;
  texts = by_all IsGood tags (all_texts tags good.0);
  few = omega (arith, plain_few 0 tags good.1);
}

-- and the second profile keeps them
pub plain_short : (tags : List TagText) → list_all is_good_tag tags ≡ true → is_plain tags ≡ true
    → leb (tags_size tags) MAX_ROW_TAG_BYTES ≡ true
plain_short tags good plain =
    let size : TagText → ℕ = λ t. 3 + length t.text in
    let each : All (λ (t : TagText). size t ≤ 515) tags = by_all (λ (t : TagText). size t ≤ 515) tags (short tags (all_texts tags good)) in
    le-leb (tags_size tags) MAX_ROW_TAG_BYTES (omega (arith, sum_by-le size 515 tags each, plain_few 0 tags plain))
  where
    short : (ts : List TagText) → AllByRecursion IsGood ts → AllByRecursion (λ (t : TagText). 3 + length t.text ≤ 515) ts
    short [] all = tt
    short (t ∷ ts) all = (omega (arith, tag_text_short t.text all.0), short ts all.1)

-- ---- what a row tells

abbrev pub IsTold : Profile → Told → Type 0
IsTold Named told = (told.0 ≡ None) × AreTags told.1
IsTold Wide told = IfSome told.0 IsSavedStamp × AreWideTags told.1

abbrev pub told_text : Profile → Told → List ℕ
told_text profile told = told_bytes profile told.0 told.1

pub told_is : (profile : Profile) → IsField (λ bytes. told_at profile bytes) (told_text profile) (IsTold profile)
told_is Named = record { takes = takes; again = again } where
  takes : (bytes : List ℕ) (x : Told × List ℕ) → IsBytes bytes → told_at Named bytes ≡ Ok x
      → Takes bytes (told_text Named x.0) x.1 × IsTold Named x.0
  takes bytes x fits e =
      let a = bind_ok (tags_at bytes) _ x e in
      let t = tags_is.takes bytes a.0 fits a.1 in
      let told : Told = (None, a.0.0) in
      subst (λ (y : Told × List ℕ). Takes bytes (told_text Named y.0) y.1 × IsTold Named y.0) (ok_is (told, a.0.1) x a.2) (t.0, (refl, t.1))

  again : (told : Told) (rest : List ℕ) → IsTold Named told → told_at Named (told_text Named told ++ rest) ≡ Ok (told, rest)
  again told rest fits =
      let with_none : List TagText → Told = λ tags. (None, tags) in
      ap (made with_none) (tags_is.again told.1 rest fits.1)
      ∙ ap (λ (stamp : Option FileStamp). Ok ((stamp, told.1), rest)) (sym fits.0)
told_is Wide = both_is (λ bytes. stamp_at bytes) stamp_bytes IsStampOrNone (λ bytes. texts_at bytes) texts_bytes AreWideTags stamp_is texts_is

-- it is what every row keeps
pub record IsGoodTold (told : Told) : Type 0 where
  pub texts : list_all is_good_tag told.1 ≡ true
  pub tags : AreSongTags told.1
  pub stamp : IfSome told.0 IsSavedStamp

pub told_good : (profile : Profile) (told : Told) → IsTold profile told → IsGoodTold told
told_good Named told fits = record {
  texts = fits.1.0;
  tags = plain_tags told.1 fits.1;
  stamp = subst (λ (stamp : Option FileStamp). IfSome stamp IsSavedStamp) (sym fits.0) tt;
}
told_good Wide told fits = record { texts = song_tags_good told.1 fits.1.0; tags = fits.1.0; stamp = fits.0 }

-- ---- one text more, as a loop reads

below_last : (tags : List TagText) (k : ℕ) (d : TagText) → IsNonDecreasingBy number tags → k < length tags
    → number (get_or tags k d) ≤ least_number tags
below_last tags k d ordered within =
    omega (arith, ordered k (length tags - 1) d (omega arith) (omega arith), last_is tags d (omega arith))

-- a text behind the others is added at the end
pub added_last : (tags : List TagText) (tag : Tag) (text : List ℕ) → AreSongTags tags → length tags < MAX_TAGS
    → least_number tags ≤ number_of tag → added tags tag text ≡ tags ++ (record { tag = tag; text = text }) ∷ []
added_last tags tag text good few behind =
    let room : added tags tag text ≡ with_text tags tag text = rw (lt-ltb (length tags) MAX_TAGS few) refl in
    room ∙ with_text-last tags tag text (λ k d within. omega (arith, below_last tags k d good.ordered within, behind))

-- ---- how much a row may have

pub all_size : (tags : List TagText) → length (texts_bytes tags) ≡ 1 + tags_size tags
all_size tags = omega (arith, length-append (byte_bytes (length tags)) (flat_map numbered_bytes tags), texts_size tags)

too_many : (n m : ℕ) → m < n → leb n m ≡ false
too_many n m lt = grind (arith, nat_tests)

pub same_test : (x y m : ℕ) → x ≡ 1 + y → leb x (1 + m) ≡ leb y m
same_test x y m e = elim (cases_lt m y) [
  | inl lt ↦ too_many x (1 + m) (omega arith) ∙ sym (too_many y m lt)
  | inr le ↦ le-leb x (1 + m) (omega arith) ∙ sym (le-leb y m le)
]
