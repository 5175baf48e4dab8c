-- What the tags that are wanted make of a reading.
use Rattle.std.proofs.Common.{◌≡◌, ℕ, Bool, true, false, cond, List, [], ◌∷◌, Some, None, Ok, Err, refl, sym, ap, ◌∙◌}
use Rattle.std.specs.Prelude.{Option, Result, filter, ◌&&◌, IfOk, if◌then◌else◌}
use Rattle.std.specs.List.{list_any}
use Rattle.song_files.specs.Tag.{all_tags, is_tag}
use Rattle.song_files.specs.TagSet.{has_tag, tags_in}
use Rattle.song_files.specs.Tags.{TagText, first_text}
use Rattle.song_files.specs.declared.tag.Tag.{Tag}
use Rattle.song_files.specs.declared.tag_set.TagSet.{TagSet}
use Rattle.song_files.proofs.TagNumbers.{is_tag_same, each_tag}
use Rattle.wave_pcm.specs.Parts.{Part, file_parts}
use Rattle.wave_pcm.specs.Reading.{◌>>=◌, text_in, texts_for, texts_in, format_of, data_of, info_of, is_wave, reading_of, wave_reading}
use Rattle.wave_pcm.specs.Restricted.{restricted_reading, wanted_text}
use Rattle.wave_pcm.specs.declared.format.Format.{Format}
use Rattle.wave_pcm.specs.declared.refusal.WaveError.{WaveError}
use Rattle.wave_pcm.specs.declared.refusal.WaveError.TheVariants.{NotWave}

both_false : (b : Bool) → (b && false) ≡ false
both_false true = refl
both_false false = refl

none_either : (b : Bool) (o : Option (List ℕ)) → o ≡ None → cond b o None ≡ None
none_either true o none = none
none_either false o none = refl

first_step : (parts : List Part) (t : Tag) (tags : List Tag) (tag : Tag) (b : Bool) (o : Option (List ℕ)) → is_tag t tag ≡ b
    → text_in parts t ≡ o
    → first_text (texts_for parts tags) tag ≡ cond (list_any (λ (u : Tag). is_tag u tag) tags) (text_in parts tag) None
    → first_text (texts_for parts (t ∷ tags)) tag ≡ cond (list_any (λ (u : Tag). is_tag u tag) (t ∷ tags)) (text_in parts tag) None
first_step parts t tags tag true None same there rest =
    let none : text_in parts tag ≡ None = ap (text_in parts) (sym (is_tag_same t tag same)) ∙ there in
    rw (same, there) (rest ∙ none_either (list_any (λ (u : Tag). is_tag u tag) tags) (text_in parts tag) none ∙ sym none)
first_step parts t tags tag true (Some text) same there rest =
    let some : text_in parts tag ≡ Some text = ap (text_in parts) (sym (is_tag_same t tag same)) ∙ there in
    rw (same, there) (rw same (sym some))
first_step parts t tags tag false None other there rest = rw (other, there) rest
first_step parts t tags tag false (Some text) other there rest = rw (other, there) (rw other rest)

-- the first text of a tag among those of some tags
first_in : (parts : List Part) (tags : List Tag) (tag : Tag)
    → first_text (texts_for parts tags) tag ≡ cond (list_any (λ (u : Tag). is_tag u tag) tags) (text_in parts tag) None
first_in parts [] tag = refl
first_in parts (t ∷ tags) tag = first_step parts t tags tag (is_tag t tag) (text_in parts t) refl refl (first_in parts tags tag)

kept_step : (p : Tag → Bool) (t : Tag) (tags : List Tag) (tag : Tag) (b c : Bool) → is_tag t tag ≡ b → p t ≡ c
    → list_any (λ (u : Tag). is_tag u tag) (filter p tags) ≡ (list_any (λ (u : Tag). is_tag u tag) tags && p tag)
    → list_any (λ (u : Tag). is_tag u tag) (filter p (t ∷ tags)) ≡ (list_any (λ (u : Tag). is_tag u tag) (t ∷ tags) && p tag)
kept_step p t tags tag true true same passes rest =
    let own : p tag ≡ true = ap p (sym (is_tag_same t tag same)) ∙ passes in
    rw (same, passes) (rw same (sym own))
kept_step p t tags tag true false same fails rest =
    let own : p tag ≡ false = ap p (sym (is_tag_same t tag same)) ∙ fails in
    rw (same, fails) (rest ∙ ap (λ b. list_any (λ (u : Tag). is_tag u tag) tags && b) own
    ∙ both_false (list_any (λ (u : Tag). is_tag u tag) tags)
    ∙ sym own)
kept_step p t tags tag false true other passes rest = rw (other, passes) (rw other rest)
kept_step p t tags tag false false other fails rest = rw (other, fails) rest

-- a tag stands among those that pass a test where it stands among all and passes
kept_in : (p : Tag → Bool) (tags : List Tag) (tag : Tag)
    → list_any (λ (u : Tag). is_tag u tag) (filter p tags) ≡ (list_any (λ (u : Tag). is_tag u tag) tags && p tag)
kept_in p [] tag = refl
kept_in p (t ∷ tags) tag = kept_step p t tags tag (is_tag t tag) (p t) refl refl (kept_in p tags tag)

first_wanted : (parts : List Part) (wanted : TagSet) (tag : Tag)
    → first_text (texts_in parts wanted) tag ≡ (if has_tag wanted tag then text_in parts tag else None)
first_wanted parts wanted tag =
    first_in parts (tags_in wanted) tag
    ∙ ap (λ b. cond b (text_in parts tag) None)
    (kept_in (has_tag wanted) all_tags tag ∙ ap (λ b. b && has_tag wanted tag) (each_tag tag))

restrict_step : (parts : List Part) (p : Tag → Bool) (t : Tag) (tags : List Tag) (b : Bool) (o : Option (List ℕ)) → p t ≡ b
    → text_in parts t ≡ o
    → filter (λ (x : TagText). p x.tag) (texts_for parts tags) ≡ texts_for parts (filter p tags)
    → filter (λ (x : TagText). p x.tag) (texts_for parts (t ∷ tags)) ≡ texts_for parts (filter p (t ∷ tags))
restrict_step parts p t tags true None passes there rest = rw (there, passes) (rw there rest)
restrict_step parts p t tags true (Some text) passes there rest =
    rw (there, passes) (rw there (ap (λ (l : List TagText). record { tag = t; text = text } ∷ l) rest))
restrict_step parts p t tags false None fails there rest = rw (there, fails) rest
restrict_step parts p t tags false (Some text) fails there rest = rw (there, fails) rest

restrict : (parts : List Part) (p : Tag → Bool) (tags : List Tag)
    → filter (λ (x : TagText). p x.tag) (texts_for parts tags) ≡ texts_for parts (filter p tags)
restrict parts p [] = refl
restrict parts p (t ∷ tags) = restrict_step parts p t tags (p t) (text_in parts t) refl refl (restrict parts p tags)

all_pass : (p : Tag → Bool) (tags : List Tag) → ((tag : Tag) → p tag ≡ true) → filter p tags ≡ tags
all_pass p [] each = refl
all_pass p (t ∷ tags) each = rw (each t) (ap (λ (l : List Tag). t ∷ l) (all_pass p tags each))

texts_restricted : (parts : List Part) (wanted all : TagSet) → ((tag : Tag) → has_tag all tag ≡ true)
    → texts_in parts wanted ≡ filter (λ (x : TagText). has_tag wanted x.tag) (texts_in parts all)
texts_restricted parts wanted all each =
    sym (ap (λ (l : List Tag). filter (λ (x : TagText). has_tag wanted x.tag) (texts_for parts l)) (all_pass (has_tag all) all_tags each)
    ∙ restrict parts (has_tag wanted) all_tags)

restricted_by : (f : Result Format WaveError) (d : Result Part WaveError) (parts : List Part) (wanted all : TagSet)
    → ((tag : Tag) → has_tag all tag ≡ true)
    → (f >>= (λ x. d >>= (λ y. Ok (info_of x y (texts_in parts wanted)))))
    ≡ restricted_reading wanted (f >>= (λ x. d >>= (λ y. Ok (info_of x y (texts_in parts all)))))
restricted_by (Err e) d parts wanted all each = refl
restricted_by (Ok x) (Err e) parts wanted all each = refl
restricted_by (Ok x) (Ok y) parts wanted all each = ap (λ texts. Ok (info_of x y texts)) (texts_restricted parts wanted all each)

file_by : (b : Bool) (parts : List Part) (wanted all : TagSet) → ((tag : Tag) → has_tag all tag ≡ true)
    → (if b then reading_of parts wanted else Err NotWave) ≡ restricted_reading wanted (if b then reading_of parts all else Err NotWave)
unfolding reading_of
file_by true parts wanted all each = restricted_by (format_of parts) (data_of parts) parts wanted all each
file_by false parts wanted all each = refl

-- a reading with some tags is that with all, without the texts of the others
pub reading_restricted : (file : List ℕ) (wanted all : TagSet) → ((tag : Tag) → has_tag all tag ≡ true)
    → wave_reading file wanted ≡ restricted_reading wanted (wave_reading file all)
unfolding wave_reading
reading_restricted file wanted all each = file_by (is_wave file) (file_parts file) wanted all each

first_by : (f : Result Format WaveError) (d : Result Part WaveError) (parts : List Part) (wanted : TagSet) (tag : Tag)
    → IfOk (f >>= (λ x. d >>= (λ y. Ok (info_of x y (texts_in parts wanted)))))
    (λ info. first_text info.tags tag ≡ (if has_tag wanted tag then text_in parts tag else None))
first_by (Err e) d parts wanted tag = tt
first_by (Ok x) (Err e) parts wanted tag = tt
first_by (Ok x) (Ok y) parts wanted tag = first_wanted parts wanted tag

first_file : (b : Bool) (parts : List Part) (wanted : TagSet) (tag : Tag)
    → IfOk (if b then reading_of parts wanted else Err NotWave)
    (λ info. first_text info.tags tag ≡ (if has_tag wanted tag then text_in parts tag else None))
unfolding reading_of
first_file true parts wanted tag = first_by (format_of parts) (data_of parts) parts wanted tag
first_file false parts wanted tag = tt

-- its first text of a tag is the one of the file, where the tag is wanted
pub reading_first : (file : List ℕ) (wanted : TagSet) (tag : Tag)
    → IfOk (wave_reading file wanted) (λ info. first_text info.tags tag ≡ wanted_text file wanted tag)
unfolding wave_reading
reading_first file wanted tag = first_file (is_wave file) (file_parts file) wanted tag
