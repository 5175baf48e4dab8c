-- No sticker has a name that none can have, so nothing is found under it.
use Rattle.std.proofs.Common.{◌≡◌, ◌≢◌, ℕ, Bool, true, false, not, ◌&&◌, List, []}
use Rattle.std.proofs.Common.{◌∷◌, Option, Some, None, is_some, Err, refl, ap, sym, ◌∙◌, arith}
use Rattle.std.specs.Prelude.{if◌then◌else◌}
use Rattle.std.specs.Str.{is_utf8}
use Rattle.std.proofs.lemmas.Grind.{common_steps}
use Rattle.state_codec.specs.Text.{is_text}
use Rattle.std.proofs.lemmas.Bool.{false≢true}
use Rattle.std.proofs.lemmas.Slice.Eq.{bytes_eq-Decides}
use Rattle.std.specs.List.{AllByRecursion}
use Rattle.std.specs.Str.{bytes_eq}
use Rattle.song_db.specs.Place.{is_under}
use Rattle.song_db.specs.declared.place.Place.{Place}
use Rattle.stickers.specs.Find.{found_in}
use Rattle.stickers.specs.declared.find.ValueTest.{ValueTest}
use Rattle.stickers.specs.Name.{is_good_name}
use Rattle.stickers.specs.Refusal.{Answers, AnswersIfMemory}
use Rattle.stickers.specs.Sticker.{Sticker, IsSticker, value_at, get_refusal, find_refusal}
use Rattle.stickers.specs.declared.refusal.StickersError.{StickersError}
use Rattle.stickers.specs.declared.refusal.StickersError.TheVariants.{NoSuchSticker, BadStickerName, NoMemory}

other_name : (s : Sticker) (name : List ℕ) → IsSticker s → is_good_name name ≡ false → bytes_eq name s.name ≡ false
other_name s name good bad = by_cases (bytes_eq name s.name) refl where
  by_cases : (b : Bool) → bytes_eq name s.name ≡ b → b ≡ false
  by_cases false is = refl
  by_cases true is =
      let same : name ≡ s.name = (bytes_eq-Decides name s.name).0 is in
      absurd (false≢true (sym bad ∙ ap is_good_name same ∙ good.good_name))

never : (a : Bool) → a && false ≡ false
never false = refl
never true = refl

pub value_of_bad : (all : List Sticker) (uri name : List ℕ) → AllByRecursion IsSticker all → is_good_name name ≡ false
    → value_at all uri name ≡ None
value_of_bad [] uri name good bad = refl
value_of_bad (s ∷ all) uri name good bad =
    rw (other_name s name good.0 bad, never (bytes_eq uri s.uri)) (value_of_bad all uri name good.1 bad)

pub found_of_bad : (all : List Sticker) (place : Place) (name : List ℕ) (test : ValueTest) → AllByRecursion IsSticker all
    → is_good_name name ≡ false
    → found_in all place name test ≡ []
found_of_bad [] place name test good bad = refl
found_of_bad (s ∷ all) place name test good bad =
    rw (other_name s name good.0 bad, never (is_under place s.uri)) (found_of_bad all place name test good.1 bad)

pub no_value : (T : Type 0) (all : List Sticker) (uri name : List ℕ) (e : StickersError) → AllByRecursion IsSticker all
    → Answers {T = T} (get_refusal all uri name) (Err e) → value_at all uri name ≡ None
no_value T all uri name e good answer = by_cases (is_good_name name) refl answer where
  by_value : (value : Option (List ℕ)) → Answers {T = T} (if not (is_some value) then Some NoSuchSticker else None) (Err e) → value ≡ None
  by_value None h = refl
  by_value (Some value) h = absurd (false≢true h)

  by_cases : (b : Bool) → is_good_name name ≡ b
      → Answers {T = T} (if not b then Some BadStickerName else if not (is_some
      (value_at all uri name)) then Some NoSuchSticker else None) (Err e)
      → value_at all uri name ≡ None
  by_cases false bad h = value_of_bad all uri name good bad
  by_cases true is h = by_value (value_at all uri name) h

-- a search is refused for the name alone, or finds no memory
pub name_is_bad : (T : Type 0) (name : List ℕ) (e : StickersError) → Answers {T = T} (find_refusal name) (Err e) → is_good_name name ≡ false
name_is_bad T name e answer = by_cases (is_good_name name) refl answer where
  by_cases : (b : Bool) → is_good_name name ≡ b → Answers {T = T} (if not b then Some BadStickerName else None) (Err e)
      → is_good_name name ≡ false
  by_cases false bad h = bad
  by_cases true is h = absurd (false≢true h)

pub good_is_text : (name : List ℕ) → is_utf8 name ≡ true → is_good_name name ≡ true → is_text name ≡ true
good_is_text name utf8 good = rw utf8 (grind (arith, common_steps))

-- what the test of a form gives
pub none_is_bad : (good : Bool) (text : List ℕ) (made : Option (List ℕ)) → made ≡ (if good then Some text else None) → made ≡ None
    → good ≡ false
none_is_bad false text made e none = refl
none_is_bad true text made e none = cc

pub some_is_good : (good : Bool) (text other : List ℕ) (made : Option (List ℕ)) → made ≡ (if good then Some text else None)
    → made ≡ Some other
    → (good ≡ true) × (other ≡ text)
some_is_good false text other made e some = cc
some_is_good true text other made e some = (refl, cc)
