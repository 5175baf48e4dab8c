-- Which ops of the stickers leave a state as it is.
use Rattle.std.proofs.Common.{◌≡◌, ℕ, Bool, true, false, not, ◌==◌, ◌&&◌, List, [], ◌∷◌, length, find}
use Rattle.std.proofs.Common.{Option, Some, None, is_some, refl, sym, ap, ◌∙◌, arith}
use Rattle.std.specs.declared.cmp.Ordering.{Ordering}
use Rattle.std.specs.declared.cmp.Ordering.TheVariants.{Less, Equal, Greater}
use Rattle.std.specs.Ordering.{match_ordering, is_eq}
use Rattle.std.specs.Str.{bytes_eq}
use Rattle.std.proofs.lemmas.Bool.{eq-eqb}
use Rattle.std.proofs.lemmas.List.Filters.{length-filter_both}
use Rattle.std.proofs.lemmas.Slice.Eq.{bytes_eq-Decides}
use Rattle.state_codec.specs.OpsStickers.{sticker_refusal, stickers_after, is_value, leaves_stickers}
use Rattle.state_codec.specs.SavedState.{SavedState, IsSavedState}
use Rattle.state_codec.specs.declared.op.sticker_op.StickerOp.{StickerOp}
use Rattle.state_codec.specs.declared.op.sticker_op.StickerOp.TheVariants.{Set, Delete, DeleteAll}
use Rattle.state_codec.proofs.KeptOps.{map_none, cond_none, not_none}
use Rattle.stickers.specs.Sticker.{Sticker, compare, is_at, is_of_song, value_at, stickers_of, with_sticker, without_sticker, without_song}
use Rattle.stickers.specs.Sticker.{AreRising, get_refusal}
use Rattle.stickers.proofs.Counted.{is_at-compare, none_after, below_later, counted_without_sticker}

abbrev sticker_of : List ℕ → List ℕ → List ℕ → Sticker
sticker_of uri name value = record { uri = uri; name = name; value = value }

is_at-own : (uri name value : List ℕ) → is_at uri name (sticker_of uri name value) ≡ true
is_at-own uri name value = rw ((bytes_eq-Decides uri uri).1 refl, (bytes_eq-Decides name name).1 refl) refl

-- the value that is set is there afterwards
value_set : (all : List Sticker) (uri name value : List ℕ) → value_at (with_sticker all uri name value) uri name ≡ Some value
value_set [] uri name value = rw (is_at-own uri name value) refl
value_set (t ∷ ts) uri name value = of (compare (sticker_of uri name value) t) refl (value_set ts uri name value)
  where
    of : (o : Ordering) → compare (sticker_of uri name value) t ≡ o → value_at (with_sticker ts uri name value) uri name ≡ Some value
        → value_at (match_ordering o (sticker_of uri name value ∷ t ∷ ts) (sticker_of uri name value ∷ ts) (t ∷ with_sticker ts uri name
        value)) uri name ≡ Some value
    of Less is rest = rw (is_at-own uri name value) refl
    of Equal is rest = rw (is_at-own uri name value) refl
    of Greater is rest =
        let apart : is_at uri name t ≡ false = is_at-compare (sticker_of uri name value) t ∙ ap is_eq is in
        rw apart rest

both_same : (uri name : List ℕ) (t : Sticker) → is_at uri name t ≡ true → (uri ≡ t.uri) × (name ≡ t.name)
both_same uri name t is = of (bytes_eq uri t.uri) refl is
  where
    of : (b : Bool) → bytes_eq uri t.uri ≡ b → (b && bytes_eq name t.name) ≡ true → (uri ≡ t.uri) × (name ≡ t.name)
    of true first second = ((bytes_eq-Decides uri t.uri).0 first, (bytes_eq-Decides name t.name).0 second)
    of false first second = absurd (cc)

-- a value that is there is set without a change
set_again : (all : List Sticker) (uri name value : List ℕ) → AreRising all → value_at all uri name ≡ Some value
    → with_sticker all uri name value ≡ all
set_again [] uri name value rising found = absurd (cc)
set_again (t ∷ ts) uri name value rising found = of (compare (sticker_of uri name value) t) refl (set_again ts uri name value rising.1)
  where
    of : (o : Ordering) → compare (sticker_of uri name value) t ≡ o
        → (value_at ts uri name ≡ Some value → with_sticker ts uri name value ≡ ts)
        → match_ordering o (sticker_of uri name value ∷ t ∷ ts) (sticker_of uri name value ∷ ts) (t ∷ with_sticker ts uri name value)
        ≡ t ∷ ts
    of Less is rest =
        let apart : is_at uri name t ≡ false = is_at-compare (sticker_of uri name value) t ∙ ap is_eq is in
        let later : value_at ts uri name ≡ Some value = rw apart at found in
        let behind = below_later (sticker_of uri name value) t ts is rising.0 in
        let none : find (is_at uri name) ts ≡ None = (none_after (sticker_of uri name value) ts behind).1 in
        let nothing : None ≡ Some value = rw none at later in
        absurd (cc)
    of Equal is rest =
        let here : is_at uri name t ≡ true = is_at-compare (sticker_of uri name value) t ∙ ap is_eq is in
        let first : Some t.value ≡ Some value = rw here at found in
        let same = both_same uri name t here in
        let values : t.value ≡ value = cc in
        rw (same.0, same.1, ← values) refl
    of Greater is rest =
        let apart : is_at uri name t ≡ false = is_at-compare (sticker_of uri name value) t ∙ ap is_eq is in
        ap (λ l. t ∷ l) (rest (rw apart at found))

value_is : (value : List ℕ) (o : Option (List ℕ)) → is_value value o ≡ true → o ≡ Some value
value_is value None same = absurd (cc)
value_is value (Some other) same = ap Some (sym ((bytes_eq-Decides value other).0 same))

pub stickers_stay : (op : StickerOp) (s : SavedState) → IsSavedState s → leaves_stickers op s ≡ true
    → stickers_after op s.stickers ≡ s.stickers
stickers_stay (Set uri name value) s saved same =
    set_again s.stickers uri name value saved.stickers.within.rising (value_is value (value_at s.stickers uri name) same)
stickers_stay (Delete uri name) s saved same = absurd (cc)
stickers_stay (DeleteAll uri) s saved same = absurd (cc)

some_long : (all : List Sticker) (uri name : List ℕ) → is_some (value_at all uri name) ≡ true → length all ≡ 0 → ⊥
some_long [] uri name there none = absurd (cc)
some_long (t ∷ ts) uri name there none = omega arith

pub stickers_only : (op : StickerOp) (s : SavedState) → IsSavedState s → sticker_refusal op s ≡ None
    → stickers_after op s.stickers ≡ s.stickers → leaves_stickers op s ≡ true
stickers_only (Set uri name value) s saved none same =
    let there : value_at s.stickers uri name ≡ Some value =
    ap (λ l. value_at l uri name) (sym same) ∙ value_set s.stickers uri name value in
    ap (is_value value) there ∙ (bytes_eq-Decides value value).1 refl
stickers_only (Delete uri name) s saved none same =
    let named = cond_none _ _ _ (map_none _ (get_refusal s.stickers uri name) none) in
    let there : is_some (value_at s.stickers uri name) ≡ true = not_none _ (cond_none _ _ _ named.1).0 in
    let counted =
    counted_without_sticker s.stickers (length s.stickers) uri name (record { counted = refl; within = saved.stickers.within }) there in
    let long : length (without_sticker s.stickers uri name) ≡ length s.stickers = ap length same in
    absurd (some_long s.stickers uri name there (omega (arith, counted.counted)))
stickers_only (DeleteAll uri) s saved none same =
    let some : (length (stickers_of s.stickers uri) == 0) ≡ false = (cond_none _ _ _ (map_none _ _ none)).0 in
    let both = length-filter_both (is_of_song uri) (λ t. not (is_of_song uri t)) (λ t. refl) s.stickers in
    let long : length (without_song s.stickers uri) ≡ length s.stickers = ap length same in
    let nothing : (length (stickers_of s.stickers uri) == 0) ≡ true = eq-eqb (length (stickers_of s.stickers uri)) 0 (omega arith) in
    absurd (cc)
