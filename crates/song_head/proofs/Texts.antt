-- The texts of tags, one after another.
use Rattle.std.proofs.Common.{◌≡◌, ℕ, zero, suc, ◌+◌, ◌-◌, ◌<◌, ◌≤◌, nat_le, Bool, true, false, ◌&&◌, List, [], ◌∷◌, ◌++◌, length, take, drop, get_or}
use Rattle.std.proofs.Common.{nat_lt, Some, None, refl, sym, ap, ◌∙◌, append_assoc, arith}
use Rattle.std.specs.Prelude.{filter, slice_get}
use Rattle.std.specs.List.{All, flat_map}
use Rattle.std.proofs.lemmas.Bool.Decides.{nat_tests}
use Rattle.std.proofs.lemmas.Option.{get_or_from_slice_get, slice_get_within}
use Rattle.std.proofs.lemmas.List.{append-nil, at_drop_more, at_drop_all, drop_all, drop_more, get_or-take, length-take, length_push, take_all, take_more}
use Rattle.std.proofs.lemmas.List.Elements.{All-get_or, All-nil, All-push, All-take, All-weaker, filter-append}
use Rattle.id3_tags.specs.Texts.{FrameText}
use Rattle.song_files.specs.Limits.{MAX_TAGS}
use Rattle.song_files.specs.Tag.{all_tags, number_of, tag_at}
use Rattle.song_files.specs.TagSet.{has_tag}
use Rattle.song_files.specs.Tags.{AreTags, TagText, added, with_text}
use Rattle.song_files.specs.Text.{is_tag_text}
use Rattle.song_files.specs.declared.tag.Tag.{Tag}
use Rattle.song_files.specs.declared.tag.TheConstants.{TAG_COUNT}
use Rattle.song_files.proofs.TagNumbers.{all_long, take_tag}
use Rattle.song_files.proofs.TagTexts.{with_text-last}
use Rattle.song_head.specs.Added.{with_texts}
use Rattle.song_head.specs.FrameValues.{told_by, texts_told}
use Rattle.song_head.specs.SongReading.{fitting, own_or_told, tagged, texts_of_tags}
use Rattle.song_head.specs.declared.manner.Manner.{Manner}
use Rattle.song_head.specs.declared.manner.Manner.TheVariants.{First}
use Rattle.song_head.specs.declared.rules.ReadingRules.{ReadingRules}

-- ---- the texts that frames tell of a tag

told_more : (manner : Manner) (frames : List FrameText) (i : ℕ) (d : FrameText) (tag : Tag) → i < length frames
    → texts_told manner (drop i frames) tag ≡ told_by manner tag (get_or frames i d) ++ texts_told manner (drop (i + 1) frames) tag
told_more manner frames i d tag within = at_drop_more (λ l. texts_told manner l tag) frames i d within

pub with_more : (tags : List TagText) (tag : Tag) (texts more : List (List ℕ))
    → with_texts tags tag (texts ++ more) ≡ with_texts (with_texts tags tag texts) tag more
with_more tags tag [] more = refl
with_more tags tag (text ∷ texts) more = with_more (added tags tag text) tag texts more

-- what one frame more tells is added
pub frame_added : (tags after : List TagText) (tag : Tag) (manner : Manner) (frames : List FrameText) (i : ℕ) (d : FrameText)
    (all : List TagText) → i < length frames → after ≡ with_texts tags tag (told_by manner tag (get_or frames i d))
    → with_texts tags tag (texts_told manner (drop i frames) tag) ≡ all
    → with_texts after tag (texts_told manner (drop (i + 1) frames) tag) ≡ all
frame_added tags after tag manner frames i d all within is so_far =
    ap (λ (l : List TagText). with_texts l tag (texts_told manner (drop (i + 1) frames) tag)) is
    ∙ sym (with_more tags tag (told_by manner tag (get_or frames i d)) (texts_told manner (drop (i + 1) frames) tag))
    ∙ sym (ap (with_texts tags tag) (told_more manner frames i d tag within)) ∙ so_far

pub all_told : (tags : List TagText) (tag : Tag) (manner : Manner) (frames : List FrameText) (i : ℕ) (all : List TagText)
    → length frames ≤ i → with_texts tags tag (texts_told manner (drop i frames) tag) ≡ all → tags ≡ all
all_told tags tag manner frames i all past so_far =
    sym (ap (with_texts tags tag) (at_drop_all (λ l. texts_told manner l tag) frames i past)) ∙ so_far

-- ---- the first of them

-- a frame that tells nothing of it
pub none_here : (tags after : List TagText) (tag : Tag) (frames : List FrameText) (i : ℕ) (d : FrameText) (all : List TagText)
    → i < length frames → told_by First tag (get_or frames i d) ≡ [] → after ≡ tags
    → with_texts tags tag (take 1 (texts_told First (drop i frames) tag)) ≡ all
    → with_texts after tag (take 1 (texts_told First (drop (i + 1) frames) tag)) ≡ all
none_here tags after tag frames i d all within none is so_far =
    let same : texts_told First (drop i frames) tag ≡ texts_told First (drop (i + 1) frames) tag =
    told_more First frames i d tag within ∙ ap (λ (l : List (List ℕ)). l ++ texts_told First (drop (i + 1) frames) tag) none in
    ap (λ (l : List TagText). with_texts l tag (take 1 (texts_told First (drop (i + 1) frames) tag))) is
    ∙ sym (ap (λ (l : List (List ℕ)). with_texts tags tag (take 1 l)) same) ∙ so_far

-- and one that does
pub first_here : (tags : List TagText) (tag : Tag) (frames : List FrameText) (i : ℕ) (d : FrameText) (text : List ℕ) (all : List TagText)
    → i < length frames → told_by First tag (get_or frames i d) ≡ text ∷ []
    → with_texts tags tag (take 1 (texts_told First (drop i frames) tag)) ≡ all → with_texts tags tag (text ∷ []) ≡ all
first_here tags tag frames i d text all within one so_far =
    let here : texts_told First (drop i frames) tag ≡ text ∷ texts_told First (drop (i + 1) frames) tag =
    told_more First frames i d tag within ∙ ap (λ (l : List (List ℕ)). l ++ texts_told First (drop (i + 1) frames) tag) one in
    sym (ap (λ (l : List (List ℕ)). with_texts tags tag (take 1 l)) here) ∙ so_far

pub none_told : (tags : List TagText) (tag : Tag) (frames : List FrameText) (i : ℕ) (all : List TagText)
    → length frames ≤ i → with_texts tags tag (take 1 (texts_told First (drop i frames) tag)) ≡ all → tags ≡ all
none_told tags tag frames i all past so_far =
    sym (ap (λ (l : List (List ℕ)). with_texts tags tag (take 1 l)) (at_drop_all (λ l. texts_told First l tag) frames i past)) ∙ so_far

-- ---- the texts of one tag more

take_twice : {X : Type 0} → (n : ℕ) (xs ys : List X) → take n (take n xs ++ ys) ≡ take n (xs ++ ys)
take_twice zero xs ys = refl
take_twice (suc n) [] ys = refl
take_twice (suc n) (x ∷ xs) ys = ap (λ l. x ∷ l) (take_twice n xs ys)

take_full : {X : Type 0} → (n : ℕ) (xs ys : List X) → n ≤ length xs → length xs ≤ n → take n (xs ++ ys) ≡ xs
take_full zero [] ys a b = refl
take_full zero (x ∷ xs) ys a b = absurd (omega arith)
take_full (suc n) [] ys a b = absurd (omega arith)
take_full (suc n) (x ∷ xs) ys a b = ap (λ l. x ∷ l) (take_full n xs ys (omega arith) (omega arith))

-- every tag so far has at most this number
abbrev pub UpTo : ℕ → List TagText → Type 0
UpTo number tags = All (λ (t : TagText). number_of t.tag ≤ number) tags

added_last : (tags : List TagText) (tag : Tag) (text : List ℕ) → UpTo (number_of tag) tags → length tags ≤ MAX_TAGS
    → added tags tag text ≡ take MAX_TAGS (tags ++ (record { tag = tag; text = text }) ∷ [])
added_last tags tag text up few = by_room (nat_lt (length tags) MAX_TAGS) refl
  where
    by_room : (b : Bool) → nat_lt (length tags) MAX_TAGS ≡ b
        → added tags tag text ≡ take MAX_TAGS (tags ++ (record { tag = tag; text = text }) ∷ [])
    by_room true room =
        let new : TagText = record { tag = tag; text = text } in
        let less : length tags < MAX_TAGS = grind (arith, nat_tests) in
        let taken : added tags tag text ≡ with_text tags tag text = rw room refl in
        taken
        ∙ with_text-last tags tag text (λ k d under. All-get_or (λ (t : TagText). number_of t.tag ≤ number_of tag) tags k d under up)
        ∙ sym (take_all MAX_TAGS (tags ++ new ∷ []) (omega (arith, less, length_push tags new)))
    by_room false full =
        let new : TagText = record { tag = tag; text = text } in
        let most : MAX_TAGS ≤ length tags = grind (arith, nat_tests) in
        let left : added tags tag text ≡ tags = rw full refl in
        left ∙ sym (take_full MAX_TAGS tags (new ∷ []) most few)

up_more : (tags : List TagText) (tag : Tag) (text : List ℕ) → UpTo (number_of tag) tags → length tags ≤ MAX_TAGS
    → UpTo (number_of tag) (added tags tag text)
up_more tags tag text up few =
    let new : TagText = record { tag = tag; text = text } in
    rw (added_last tags tag text up few) (All-take (λ (t : TagText). number_of t.tag ≤ number_of tag) MAX_TAGS (tags ++ new ∷ [])
    (All-push (λ (t : TagText). number_of t.tag ≤ number_of tag) tags new up (omega arith)))

few_more : (tags : List TagText) (tag : Tag) (text : List ℕ) → UpTo (number_of tag) tags → length tags ≤ MAX_TAGS
    → length (added tags tag text) ≤ MAX_TAGS
few_more tags tag text up few =
    let new : TagText = record { tag = tag; text = text } in
    rw (added_last tags tag text up few) (omega (arith, length-take MAX_TAGS (tags ++ new ∷ [])))

all_added : (tags : List TagText) (tag : Tag) (texts : List (List ℕ)) → UpTo (number_of tag) tags → length tags ≤ MAX_TAGS
    → with_texts tags tag texts ≡ take MAX_TAGS (tags ++ tagged tag texts)
all_added tags tag [] up few = sym (ap (take MAX_TAGS) (append-nil tags) ∙ take_all MAX_TAGS tags few)
all_added tags tag (text ∷ texts) up few =
    let new : TagText = record { tag = tag; text = text } in
    all_added (added tags tag text) tag texts (up_more tags tag text up few) (few_more tags tag text up few)
    ∙ ap (λ (l : List TagText). take MAX_TAGS (l ++ tagged tag texts)) (added_last tags tag text up few)
    ∙ take_twice MAX_TAGS (tags ++ new ∷ []) (tagged tag texts)
    ∙ ap (take MAX_TAGS) (append_assoc tags (new ∷ []) (tagged tag texts))

all_up : (tags : List TagText) (tag : Tag) (texts : List (List ℕ)) → UpTo (number_of tag) tags → length tags ≤ MAX_TAGS
    → UpTo (number_of tag) (with_texts tags tag texts)
all_up tags tag [] up few = up
all_up tags tag (text ∷ texts) up few = all_up (added tags tag text) tag texts (up_more tags tag text up few) (few_more tags tag text up few)

-- the texts of the tags whose numbers are below n
pub record SoFar (rules : ReadingRules) (manner : Manner) (own : List TagText) (frames : List FrameText) (n : ℕ) (tags : List TagText) : Type 0 where
  pub texts : tags ≡ take MAX_TAGS (texts_of_tags manner own frames (filter (has_tag rules.tags) (take n all_tags)))
  pub below : All (λ (t : TagText). number_of t.tag < n) tags

pub none_yet : (rules : ReadingRules) (manner : Manner) (own : List TagText) (frames : List FrameText) → SoFar rules manner own frames 0 []
none_yet rules manner own frames = record { texts = refl; below = All-nil (λ (t : TagText). number_of t.tag < 0) }

flat_append : {X Y : Type 0} (f : X → List Y) (xs ys : List X) → flat_map f (xs ++ ys) ≡ flat_map f xs ++ flat_map f ys
flat_append f [] ys = refl
flat_append f (x ∷ xs) ys = ap (λ l. f x ++ l) (flat_append f xs ys) ∙ sym (append_assoc (f x) (flat_map f xs) (flat_map f ys))

more_of : (rules : ReadingRules) (manner : Manner) (own : List TagText) (frames : List FrameText) (n : ℕ) (tag : Tag) → tag_at n ≡ Some tag
    → texts_of_tags manner own frames (filter (has_tag rules.tags) (take (n + 1) all_tags))
    ≡ texts_of_tags manner own frames (filter (has_tag rules.tags) (take n all_tags))
    ++ texts_of_tags manner own frames (filter (has_tag rules.tags) (tag ∷ []))
more_of rules manner own frames n tag is =
    ap (λ (l : List Tag). texts_of_tags manner own frames (filter (has_tag rules.tags) l)) (take_tag n tag is)
    ∙ ap (texts_of_tags manner own frames) (filter-append (has_tag rules.tags) (take n all_tags) (tag ∷ []))
    ∙ flat_append (λ tag. tagged tag (own_or_told manner own frames tag)) (filter (has_tag rules.tags) (take n all_tags))
    (filter (has_tag rules.tags) (tag ∷ []))

-- a tag that isn't wanted
pub not_wanted : (rules : ReadingRules) (manner : Manner) (own : List TagText) (frames : List FrameText) (n : ℕ) (tags : List TagText) (tag : Tag)
    → tag_at n ≡ Some tag → has_tag rules.tags tag ≡ false → SoFar rules manner own frames n tags → SoFar rules manner own frames (n + 1) tags
not_wanted rules manner own frames n tags tag is out so =
    let before : List TagText = texts_of_tags manner own frames (filter (has_tag rules.tags) (take n all_tags)) in
    let none : texts_of_tags manner own frames (filter (has_tag rules.tags) (tag ∷ [])) ≡ [] = rw out refl in
    record {
      texts = so.texts ∙ sym (ap (take MAX_TAGS) (more_of rules manner own frames n tag is ∙ ap (λ (l : List TagText). before ++ l) none
          ∙ append-nil before));
      below = All-weaker (λ (t : TagText). number_of t.tag < n) (λ (t : TagText). number_of t.tag < n + 1) (λ t less. omega arith) tags
          so.below;
    }

-- and one that is
pub one_wanted : (rules : ReadingRules) (manner : Manner) (own : List TagText) (frames : List FrameText) (n : ℕ) (tags : List TagText) (tag : Tag)
    → tag_at n ≡ Some tag → number_of tag ≡ n → has_tag rules.tags tag ≡ true → SoFar rules manner own frames n tags
    → SoFar rules manner own frames (n + 1) (with_texts tags tag (own_or_told manner own frames tag))
one_wanted rules manner own frames n tags tag is number among so =
    let before : List TagText = texts_of_tags manner own frames (filter (has_tag rules.tags) (take n all_tags)) in
    let texts : List (List ℕ) = own_or_told manner own frames tag in
    let one : texts_of_tags manner own frames (filter (has_tag rules.tags) (tag ∷ [])) ≡ tagged tag texts =
    rw among (append-nil (tagged tag texts)) in
    let few : length tags ≤ MAX_TAGS = rw so.texts (omega (arith, length-take MAX_TAGS before)) in
    let up : UpTo (number_of tag) tags = All-weaker (λ (t : TagText). number_of t.tag < n) (λ (t : TagText). number_of t.tag ≤ number_of tag)
    (λ t less. omega (arith, number)) tags so.below in
    record {
      texts = all_added tags tag texts up few
          ∙ ap (λ (l : List TagText). take MAX_TAGS (l ++ tagged tag texts)) so.texts
          ∙ take_twice MAX_TAGS before (tagged tag texts)
          ∙ sym (ap (take MAX_TAGS) (more_of rules manner own frames n tag is ∙ ap (λ (l : List TagText). before ++ l) one));
      below = All-weaker (λ (t : TagText). number_of t.tag ≤ number_of tag) (λ (t : TagText). number_of t.tag < n + 1)
          (λ t less. omega (arith, number)) (with_texts tags tag texts) (all_up tags tag texts up few);
    }

-- of all tags
pub whole : (rules : ReadingRules) (manner : Manner) (own : List TagText) (frames : List FrameText) (n : ℕ) (tags : List TagText) → TAG_COUNT ≤ n
    → SoFar rules manner own frames n tags → tags ≡ take MAX_TAGS (texts_of_tags manner own frames (filter (has_tag rules.tags) all_tags))
whole rules manner own frames n tags past so =
    so.texts ∙ ap (λ (l : List Tag). take MAX_TAGS (texts_of_tags manner own frames (filter (has_tag rules.tags) l)))
    (take_all n all_tags (omega (arith, all_long)))

-- ---- the first texts of others

-- one more of them is added behind those before it
pub front_more : (tags : List TagText) (i : ℕ) (tag : Tag) (text : List ℕ) → AreTags tags
    → slice_get tags i ≡ Some (record { tag = tag; text = text }) → added (take i tags) tag text ≡ take (i + 1) tags
front_more tags i tag text good is =
    rw room (with_text-last (take i tags) tag text below ∙ sym (take_more tags i t within ∙ ap (λ x. take i tags ++ x ∷ []) here))
  where
    t : TagText
    t = record { tag = tag; text = text }

    within : i < length tags
    within = slice_get_within tags i t is

    here : get_or tags i t ≡ t
    here = get_or_from_slice_get tags i t t is

    room : nat_lt (length (take i tags)) MAX_TAGS ≡ true
    room = let less : length (take i tags) < MAX_TAGS = omega (arith, length-take i tags, within, good.few) in grind (arith, nat_tests)

    below : (k : ℕ) (d : TagText) → k < length (take i tags) → number_of (get_or (take i tags) k d).tag ≤ number_of tag
    below k d under =
        let low : k < i = omega (arith, length-take i tags) in
        let at : get_or (take i tags) k d ≡ get_or tags k d = get_or-take i tags k d low in
        let last : get_or tags i d ≡ t = get_or_from_slice_get tags i t d is in
        let rises : number_of (get_or tags k d).tag ≤ number_of (get_or tags i d).tag = good.ordered k i d (omega arith) within in
        rw at (rw last at rises)

pub good_at : (tags : List TagText) (i : ℕ) (tag : Tag) (text : List ℕ) → AreTags tags
    → slice_get tags i ≡ Some (record { tag = tag; text = text }) → is_tag_text text ≡ true
good_at tags i tag text good is =
    let t : TagText = record { tag = tag; text = text } in
    let good_there = All-get_or (λ (t : TagText). is_tag_text t.text ≡ true) tags i t (slice_get_within tags i t is) good.texts in
    rw (get_or_from_slice_get tags i t t is) at good_there

-- ---- the texts that fit

fits_more : (left : ℕ) (t : TagText) (tags : List TagText) → 3 + length t.text ≤ left
    → fitting left (t ∷ tags) ≡ t ∷ fitting (left - (3 + length t.text)) tags
fits_more left t tags room = let fits : nat_le (3 + length t.text) left ≡ true = grind (arith, nat_tests) in rw fits refl

fits_no_more : (left : ℕ) (t : TagText) (tags : List TagText) → left < 3 + length t.text → fitting left (t ∷ tags) ≡ []
fits_no_more left t tags past = let not : nat_le (3 + length t.text) left ≡ false = grind (arith, nat_tests) in rw not refl

-- one text more fits
pub one_fits : (tags : List TagText) (i left : ℕ) (t : TagText) (all : List TagText) → i < length tags → slice_get tags i ≡ Some t
    → 3 + length t.text ≤ left → take i tags ++ fitting left (drop i tags) ≡ all
    → take (i + 1) tags ++ fitting (left - (3 + length t.text)) (drop (i + 1) tags) ≡ all
one_fits tags i left t all within is room so_far =
    let here : get_or tags i t ≡ t = get_or_from_slice_get tags i t t is in
    let rest : fitting left (drop i tags) ≡ t ∷ fitting (left - (3 + length t.text)) (drop (i + 1) tags) =
    ap (fitting left) (drop_more tags i t within ∙ ap (λ x. x ∷ drop (i + 1) tags) here) ∙ fits_more left t (drop (i + 1) tags) room in
    ap (λ (l : List TagText). l ++ fitting (left - (3 + length t.text)) (drop (i + 1) tags)) (take_more tags i t within
    ∙ ap (λ x. take i tags ++ x ∷ []) here)
    ∙ append_assoc (take i tags) (t ∷ []) (fitting (left - (3 + length t.text)) (drop (i + 1) tags))
    ∙ ap (λ (l : List TagText). take i tags ++ l) (sym rest) ∙ so_far

-- and one doesn't
pub no_more_fit : (tags : List TagText) (i left : ℕ) (t : TagText) (all : List TagText) → i < length tags → slice_get tags i ≡ Some t
    → left < 3 + length t.text → take i tags ++ fitting left (drop i tags) ≡ all → take i tags ≡ all
no_more_fit tags i left t all within is past so_far =
    let here : get_or tags i t ≡ t = get_or_from_slice_get tags i t t is in
    let rest : fitting left (drop i tags) ≡ [] =
    ap (fitting left) (drop_more tags i t within ∙ ap (λ x. x ∷ drop (i + 1) tags) here) ∙ fits_no_more left t (drop (i + 1) tags) past in
    sym (ap (λ (l : List TagText). take i tags ++ l) rest ∙ append-nil (take i tags)) ∙ so_far

pub all_fit : (tags : List TagText) (i left : ℕ) (all : List TagText) → length tags ≤ i → take i tags ++ fitting left (drop i tags) ≡ all
    → take (length tags) tags ≡ all
all_fit tags i left all past so_far =
    let none : fitting left (drop i tags) ≡ [] = ap (fitting left) (drop_all i tags past) in
    take_all (length tags) tags (omega arith) ∙ sym (take_all i tags past)
    ∙ sym (ap (λ (l : List TagText). take i tags ++ l) none ∙ append-nil (take i tags)) ∙ so_far
