-- The texts of the tags that are wanted, one tag after another.
use Rattle.std.proofs.Common.{◌≡◌, ℕ, ◌+◌, ◌<◌, ◌≤◌, true, false, List, [], ◌∷◌, ◌++◌, length, take, get_or, nat_lt, Some, None, refl}
use Rattle.std.proofs.Common.{sym, ap, ◌∙◌, arith}
use Rattle.std.specs.Prelude.{Option, filter}
use Rattle.std.specs.List.{All}
use Rattle.std.proofs.lemmas.Bool.Decides.{nat_tests}
use Rattle.std.proofs.lemmas.List.{append-nil, length_push, take_all}
use Rattle.std.proofs.lemmas.List.Elements.{All-get_or, All-nil, All-push, All-weaker, filter-append, filter_map-append}
use Rattle.song_files.specs.Limits.{MAX_TAGS}
use Rattle.song_files.specs.Tag.{all_tags, tag_at, number_of}
use Rattle.song_files.specs.TagSet.{has_tag}
use Rattle.song_files.specs.Tags.{TagText, with_text, added}
use Rattle.song_files.specs.declared.tag.Tag.{Tag}
use Rattle.song_files.specs.declared.tag.TheConstants.{TAG_COUNT}
use Rattle.song_files.specs.declared.tag_set.TagSet.{TagSet}
use Rattle.song_files.proofs.TagNumbers.{all_long, take_tag}
use Rattle.song_files.proofs.TagTexts.{with_text-last}
use Rattle.wave_pcm.specs.Parts.{Part}
use Rattle.wave_pcm.specs.Reading.{text_in, found_text, texts_for, texts_in, with_found}

-- the texts of the tags whose numbers are below n
pub record SoFar (parts : List Part) (wanted : TagSet) (n : ℕ) (tags : List TagText) : Type 0 where
  pub texts : tags ≡ texts_for parts (filter (has_tag wanted) (take n all_tags))
  pub below : All (λ (t : TagText). number_of t.tag < n) tags
  pub few : length tags ≤ n

pub none_yet : (parts : List Part) (wanted : TagSet) → SoFar parts wanted 0 []
none_yet parts wanted = record { texts = refl; below = All-nil (λ (t : TagText). number_of t.tag < 0); few = omega arith }

-- of one more tag
texts_more : (parts : List Part) (wanted : TagSet) (n : ℕ) (tags : List TagText) (tag : Tag) → SoFar parts wanted n tags
    → tag_at n ≡ Some tag
    → texts_for parts (filter (has_tag wanted) (take (n + 1) all_tags)) ≡ tags ++ texts_for parts (filter (has_tag wanted) (tag ∷ []))
texts_more parts wanted n tags tag so is =
    ap (λ (l : List Tag). texts_for parts (filter (has_tag wanted) l)) (take_tag n tag is)
    ∙ ap (texts_for parts) (filter-append (has_tag wanted) (take n all_tags) (tag ∷ []))
    ∙ filter_map-append (found_text parts) (filter (has_tag wanted) (take n all_tags)) (filter (has_tag wanted) (tag ∷ []))
    ∙ ap (λ (l : List TagText). l ++ texts_for parts (filter (has_tag wanted) (tag ∷ []))) (sym so.texts)

still_below : (n : ℕ) (tags : List TagText) → All (λ (t : TagText). number_of t.tag < n) tags
    → All (λ (t : TagText). number_of t.tag < n + 1) tags
still_below n tags below =
    All-weaker (λ (t : TagText). number_of t.tag < n) (λ (t : TagText). number_of t.tag < n + 1) (λ t less. omega arith) tags below

-- a tag that isn't wanted
pub not_wanted : (parts : List Part) (wanted : TagSet) (n : ℕ) (tags : List TagText) (tag : Tag) → tag_at n ≡ Some tag
    → has_tag wanted tag ≡ false → SoFar parts wanted n tags → SoFar parts wanted (n + 1) tags
not_wanted parts wanted n tags tag is out so =
    let none : texts_for parts (filter (has_tag wanted) (tag ∷ [])) ≡ [] = rw out refl in
    record {
      texts = sym (texts_more parts wanted n tags tag so is ∙ ap (λ (l : List TagText). tags ++ l) none ∙ append-nil tags);
      below = still_below n tags so.below;
      few = omega (arith, so.few);
    }

is_last : (n : ℕ) (tags : List TagText) (tag : Tag) (text : List ℕ) → number_of tag ≡ n → n < TAG_COUNT
    → All (λ (t : TagText). number_of t.tag < n) tags → length tags ≤ n
    → added tags tag text ≡ tags ++ (record { tag = tag; text = text }) ∷ []
is_last n tags tag text number within below few =
    let room : nat_lt (length tags) MAX_TAGS ≡ true = (let less : length tags < 255 = omega arith in grind (arith, nat_tests)) in
    let taken : added tags tag text ≡ with_text tags tag text = rw room refl in
    taken ∙ with_text-last tags tag text (λ k d under.
    let less : number_of (get_or tags k d).tag < n = All-get_or (λ (t : TagText). number_of t.tag < n) tags k d under below in omega arith)

-- and one that is
pub one_wanted : (parts : List Part) (wanted : TagSet) (n : ℕ) (tags : List TagText) (tag : Tag) (o : Option (List ℕ))
    → text_in parts tag ≡ o
    → tag_at n ≡ Some tag → number_of tag ≡ n → n < TAG_COUNT → has_tag wanted tag ≡ true → SoFar parts wanted n tags
    → SoFar parts wanted (n + 1) (with_found tags tag o)
one_wanted parts wanted n tags tag None there is number within among so =
    let none : texts_for parts (filter (has_tag wanted) (tag ∷ [])) ≡ [] = rw (among, there) refl in
    record {
      texts = sym (texts_more parts wanted n tags tag so is ∙ ap (λ (l : List TagText). tags ++ l) none ∙ append-nil tags);
      below = still_below n tags so.below;
      few = omega (arith, so.few);
    }
one_wanted parts wanted n tags tag (Some text) there is number within among so =
    let new : TagText = record { tag = tag; text = text } in
    let one : texts_for parts (filter (has_tag wanted) (tag ∷ [])) ≡ new ∷ [] = rw (among, there) refl in
    let last : added tags tag text ≡ tags ++ new ∷ [] = is_last n tags tag text number within so.below so.few in
    record {
      texts = last ∙ sym (texts_more parts wanted n tags tag so is ∙ ap (λ (l : List TagText). tags ++ l) one);
      below = rw last (All-push (λ (t : TagText). number_of t.tag < n + 1) tags new (still_below n tags so.below) (omega arith));
      few = rw last (omega (arith, length_push tags new, so.few));
    }

-- of all tags
pub whole : (parts : List Part) (wanted : TagSet) (n : ℕ) (tags : List TagText) → TAG_COUNT ≤ n → SoFar parts wanted n tags
    → tags ≡ texts_in parts wanted
whole parts wanted n tags past so =
    so.texts ∙ ap (λ (l : List Tag). texts_for parts (filter (has_tag wanted) l)) (take_all n all_tags (omega (arith, all_long)))
