-- The tests that two parts are the same say whether they are equal.
use Rattle.std.proofs.Common.{◌≡◌, ℕ, Bool, true, false, not, ◌&&◌, List, [], ◌∷◌, Decides, refl, sym, ap, ◌∙◌}
use Rattle.std.proofs.lemmas.Bool.{false≢true}
use Rattle.std.specs.Prelude.{Option, Some, None}
use Rattle.std.specs.Cmp.Lexicographic.{pointwise_decides, bytes_decides}
use Rattle.std.specs.Option.{option_eq}
use Rattle.std.specs.Str.{bytes_eq}
use Rattle.state_codec.specs.OpsLists.{same_uris}
use Rattle.stickers.specs.Sticker.{Sticker}
use Rattle.stored_lists.specs.Lists.{Stored}
use Rattle.stored_lists.specs.Songs.{Uris}
use Rattle.machine_core.specs.Changed.{same_list, same_lists, same_sticker, same_stickers}

-- both of two tests
both : (a b : Bool) → (a && b) ≡ true → (a ≡ true) × (b ≡ true)
both true b h = (refl, h)
both false b h = absurd (false≢true h)

joined : (a b : Bool) → a ≡ true → b ≡ true → (a && b) ≡ true
joined a b first second = ap (λ t. t && b) first ∙ second

-- URIs in order
uris_equal : (a b : Uris) → same_uris a b ≡ true → a ≡ b
uris_equal [] [] h = refl
uris_equal [] (other ∷ others) h = absurd (false≢true h)
uris_equal (uri ∷ uris) [] h = absurd (false≢true h)
uris_equal (uri ∷ uris) (other ∷ others) h =
    let parts = both (bytes_eq uri other) (same_uris uris others) h in
    let first : uri ≡ other = (bytes_decides uri other).0 parts.0 in
    let rest : uris ≡ others = uris_equal uris others parts.1 in
    cc

uris_itself : (a : Uris) → same_uris a a ≡ true
uris_itself [] = refl
uris_itself (uri ∷ uris) = joined (bytes_eq uri uri) (same_uris uris uris) ((bytes_decides uri uri).1 refl) (uris_itself uris)

pub uris_decide : (a b : Uris) → Decides (same_uris a b) (a ≡ b)
uris_decide a b = (uris_equal a b, λ e. ap (same_uris a) (sym e) ∙ uris_itself a)

-- a name with its songs
list_equal : (a b : List ℕ × Uris) → same_list a b ≡ true → a ≡ b
list_equal a b h =
    let parts = both (bytes_eq a.0 b.0) (same_uris a.1 b.1) h in
    let name : a.0 ≡ b.0 = (bytes_decides a.0 b.0).0 parts.0 in
    let songs : a.1 ≡ b.1 = (uris_decide a.1 b.1).0 parts.1 in
    λ i. (name i, songs i)

list_itself : (a : List ℕ × Uris) → same_list a a ≡ true
list_itself a = joined (bytes_eq a.0 a.0) (same_uris a.1 a.1) ((bytes_decides a.0 a.0).1 refl) (uris_itself a.1)

list_decides : (a b : List ℕ × Uris) → Decides (same_list a b) (a ≡ b)
list_decides a b = (list_equal a b, λ e. ap (same_list a) (sym e) ∙ list_itself a)

-- the stored playlists
pub lists_decide : (a b : Stored) → Decides (same_lists a b) (a ≡ b)
lists_decide a b = pointwise_decides list_decides a b

sticker_equal : (a b : Sticker) → same_sticker a b ≡ true → a ≡ b
sticker_equal a b h =
    let parts = both (bytes_eq a.uri b.uri) (bytes_eq a.name b.name && bytes_eq a.value b.value) h in
    let more = both (bytes_eq a.name b.name) (bytes_eq a.value b.value) parts.1 in
    let uri : a.uri ≡ b.uri = (bytes_decides a.uri b.uri).0 parts.0 in
    let name : a.name ≡ b.name = (bytes_decides a.name b.name).0 more.0 in
    let value : a.value ≡ b.value = (bytes_decides a.value b.value).0 more.1 in
    λ i. record { uri = uri i; name = name i; value = value i }

sticker_itself : (a : Sticker) → same_sticker a a ≡ true
sticker_itself a =
    joined (bytes_eq a.uri a.uri) (bytes_eq a.name a.name && bytes_eq a.value a.value) ((bytes_decides a.uri a.uri).1 refl)
    (joined (bytes_eq a.name a.name) (bytes_eq a.value a.value) ((bytes_decides a.name a.name).1 refl)
    ((bytes_decides a.value a.value).1 refl))

sticker_decides : (a b : Sticker) → Decides (same_sticker a b) (a ≡ b)
sticker_decides a b = (sticker_equal a b, λ e. ap (same_sticker a) (sym e) ∙ sticker_itself a)

-- the stickers
pub stickers_decide : (a b : List Sticker) → Decides (same_stickers a b) (a ≡ b)
stickers_decide a b = pointwise_decides sticker_decides a b

-- an optional text
pub text_itself : (text : Option (List ℕ)) → option_eq bytes_eq text text ≡ true
text_itself None = refl
text_itself (Some text) = (bytes_decides text text).1 refl

-- a test that says whether two things are equal, where they are not
pub told_apart : {A : Type 0} (a b : A) (same : Bool) → Decides same (a ≡ b) → (a ≡ b → ⊥) → not same ≡ true
told_apart a b true decides differ = absurd (differ (decides.0 refl))
told_apart a b false decides differ = refl

-- and where they are
pub told_same : {A : Type 0} (a b : A) (same : Bool) → Decides same (a ≡ b) → a ≡ b → not same ≡ false
told_same a b same decides equal = ap not (decides.1 equal)
