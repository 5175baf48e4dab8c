-- The stickers of all songs as one list, after each change of a song.
use Rattle.std.proofs.Common.{◌≡◌, ℕ, Bool, true, false, not, cond, List, [], ◌∷◌, ◌++◌, filter, find, Option, Some, None, Result, Ok, Err}
use Rattle.std.proofs.Common.{OnErr, refl, sym, ap, ◌∙◌}
use denote.Ref.{Bor}
use Rattle.std.specs.declared.cmp.Ordering.{Ordering}
use Rattle.std.specs.declared.cmp.Ordering.TheVariants.{Less, Equal, Greater}
use Rattle.std.specs.Ordering.{nat_cmp, match_ordering, ordering_reverse, is_eq}
use Rattle.std.specs.Option.{option_map, option_copied, MatchOption}
use Rattle.std.specs.Cmp.Lexicographic.{slice_cmp, nat_list_cmp_total}
use Rattle.std.specs.List.{AllByRecursion}
use Rattle.std.specs.Str.{bytes_eq}
use Rattle.std.proofs.lemmas.List.{append-nil}
use Rattle.std.proofs.lemmas.Map.Text.{is_eq-slice_cmp}
use Rattle.stickers.specs.Named.{Values, Songs, IsRising, under, with_name, without_name}
use Rattle.stickers.specs.Sticker.{Sticker, sticker, in_song, flat, compare, placed, is_of_song, is_at, with_sticker, without_sticker}
use Rattle.stickers.specs.Sticker.{without_song, value_at, stickers_of}
use Rattle.stickers.proofs.Named.{with_other, IsBefore, before_tail, before_trans, rising_tail, under_before, with_name_there, same_name}

-- all stickers come after this one
abbrev IsFirst : Sticker → List Sticker → Type 0
IsFirst s ts = AllByRecursion (λ t. compare s t ≡ Less) ts

placed_first : (s : Sticker) (ts : List Sticker) → IsFirst s ts → placed s ts ≡ s ∷ ts
placed_first s [] first = refl
placed_first s (t ∷ ts) first = rw first.0 refl

first_of_song : (s : Sticker) (uri : List ℕ) (vs : Values) (ts : List Sticker) → slice_cmp nat_cmp s.uri uri ≡ Less → IsFirst s ts
    → IsFirst s (in_song (uri, vs) ++ ts)
first_of_song s uri [] ts less first = first
first_of_song s uri (v ∷ vs) ts less first = (rw less refl, first_of_song s uri vs ts less first)

first_of_songs : (s : Sticker) (songs : Songs) → IsBefore s.uri songs → IsFirst s (flat songs)
first_of_songs s [] before = tt
first_of_songs s (song ∷ songs) before = first_of_song s song.0 song.1 (flat songs) before.0 (first_of_songs s songs before.1)

-- a sticker goes past the songs before its own
placed_past : (s : Sticker) (uri : List ℕ) (vs : Values) (ts : List Sticker) → slice_cmp nat_cmp s.uri uri ≡ Greater
    → placed s (in_song (uri, vs) ++ ts) ≡ in_song (uri, vs) ++ placed s ts
placed_past s uri [] ts greater = refl
placed_past s uri (v ∷ vs) ts greater = rw greater (ap (λ l. sticker uri v ∷ l) (placed_past s uri vs ts greater))

same_cmp : (name : List ℕ) → slice_cmp nat_cmp name name ≡ Equal
same_cmp name = by_cases (slice_cmp nat_cmp name name) (nat_list_cmp_total.antisymm name name)
  where
    by_cases : (o : Ordering) → o ≡ ordering_reverse o → o ≡ Equal
    by_cases Less same = absurd (cc)
    by_cases Equal same = refl
    by_cases Greater same = absurd (cc)

-- and to its place in its song
placed_within : (uri name value : List ℕ) (vs : Values) (ts : List Sticker) → IsFirst (sticker uri (name, value)) ts
    → placed (sticker uri (name, value)) (in_song (uri, vs) ++ ts) ≡ in_song (uri, with_name vs name value) ++ ts
placed_within uri name value [] ts first = placed_first (sticker uri (name, value)) ts first
placed_within uri name value (v ∷ vs) ts first =
    rw (same_cmp uri) (by_cases (slice_cmp nat_cmp name v.0) refl (placed_within uri name value vs ts first))
  where
    by_cases : (o : Ordering) → slice_cmp nat_cmp name v.0 ≡ o
        → placed (sticker uri (name, value)) (in_song (uri, vs) ++ ts) ≡ in_song (uri, with_name vs name value) ++ ts
        → match_ordering o (sticker uri (name, value) ∷ sticker uri v ∷ (in_song (uri, vs) ++ ts))
        (sticker uri (name, value) ∷ (in_song (uri, vs) ++ ts))
        (sticker uri v ∷ placed (sticker uri (name, value)) (in_song (uri, vs) ++ ts))
        ≡ in_song (uri, match_ordering o ((name, value) ∷ v ∷ vs) ((v.0, value) ∷ vs) (v ∷ with_name vs name value)) ++ ts
    by_cases Less is rest = refl
    by_cases Equal is rest = rw (same_name name v.0 (sym (is_eq-slice_cmp name v.0) ∙ ap is_eq is)) refl
    by_cases Greater is rest = ap (λ l. sticker uri v ∷ l) rest

-- a song with a value more, or with another value
pub flat-with_name : (songs : Songs) (uri name value : List ℕ) → IsRising songs → under songs uri ≡ None
    → flat (with_name songs uri ((name, value) ∷ [])) ≡ with_sticker (flat songs) uri name value
flat-with_name [] uri name value rising none = refl
flat-with_name (song ∷ songs) uri name value rising none =
    by_cases (slice_cmp nat_cmp uri song.0) refl (rw (← is_eq-slice_cmp uri song.0) at none)
    (flat-with_name songs uri name value (rising_tail song songs rising))
  where
    by_cases : (o : Ordering) → slice_cmp nat_cmp uri song.0 ≡ o → cond (is_eq o) (Some song.1) (under songs uri) ≡ None
        → (under songs uri ≡ None → flat (with_name songs uri ((name, value) ∷ [])) ≡ with_sticker (flat songs) uri name value)
        → flat (match_ordering o ((uri, (name, value) ∷ []) ∷ song ∷ songs) ((song.0, (name, value) ∷ []) ∷ songs)
        (song ∷ with_name songs uri ((name, value) ∷ []))) ≡ with_sticker (flat (song ∷ songs)) uri name value
    by_cases Less is none rest =
        sym (placed_first (sticker uri (name, value)) (flat (song ∷ songs))
        (first_of_songs (sticker uri (name, value)) (song ∷ songs) (is, before_trans songs uri song.0 is (before_tail song songs rising))))
    by_cases Equal is none rest = absurd (cc)
    by_cases Greater is none rest = ap (λ l. in_song song ++ l) (rest none)
        ∙ sym (placed_past (sticker uri (name, value)) song.0 song.1 (flat songs) is)

pub flat-with_other : (songs : Songs) (uri name value : List ℕ) (vs : Values) → IsRising songs → under songs uri ≡ Some vs
    → flat (with_other songs uri (with_name vs name value)) ≡ with_sticker (flat songs) uri name value
flat-with_other [] uri name value vs rising found = absurd (cc)
flat-with_other (song ∷ songs) uri name value vs rising found =
    by_cases (bytes_eq uri song.0) refl found (slice_cmp nat_cmp uri song.0) refl
    (flat-with_other songs uri name value vs (rising_tail song songs rising))
  where
    by_cases : (b : Bool) → bytes_eq uri song.0 ≡ b → cond b (Some song.1) (under songs uri) ≡ Some vs → (o : Ordering)
        → slice_cmp nat_cmp uri song.0 ≡ o
        → (under songs uri ≡ Some vs → flat (with_other songs uri (with_name vs name value)) ≡ with_sticker (flat songs) uri name value)
        → flat (cond b ((song.0, with_name vs name value) ∷ songs) (song ∷ with_other songs uri (with_name vs name value)))
        ≡ with_sticker (flat (song ∷ songs)) uri name value
    by_cases true same found o is rest =
        let equal : uri ≡ song.0 = same_name uri song.0 same in
        let values : song.1 ≡ vs = cc in
        rw (equal, ← values)
        (sym (placed_within song.0 name value song.1 (flat songs)
        (first_of_songs (sticker song.0 (name, value)) songs (before_tail song songs rising))))
    by_cases false same found Less is rest =
        let none : under songs uri ≡ None = under_before songs uri (before_trans songs uri song.0 is (before_tail song songs rising)) in
        absurd (cc)
    by_cases false same found Equal is rest =
        let same_too : bytes_eq uri song.0 ≡ true = sym (is_eq-slice_cmp uri song.0) ∙ ap is_eq is in
        absurd (cc)
    by_cases false same found Greater is rest = ap (λ l. in_song song ++ l) (rest found)
        ∙ sym (placed_past (sticker uri (name, value)) song.0 song.1 (flat songs) is)

-- a search and a filter over the stickers of a song and what follows
of_song_true : (uri : List ℕ) (vs : Values) (ts : List Sticker) (other : List ℕ) → bytes_eq other uri ≡ true
    → filter (is_of_song other) (in_song (uri, vs) ++ ts) ≡ in_song (uri, vs) ++ filter (is_of_song other) ts
of_song_true uri [] ts other same = refl
of_song_true uri (v ∷ vs) ts other same = rw same (ap (λ l. sticker uri v ∷ l) (of_song_true uri vs ts other same))

of_song_false : (uri : List ℕ) (vs : Values) (ts : List Sticker) (other : List ℕ) → bytes_eq other uri ≡ false
    → filter (is_of_song other) (in_song (uri, vs) ++ ts) ≡ filter (is_of_song other) ts
of_song_false uri [] ts other apart = refl
of_song_false uri (v ∷ vs) ts other apart = rw apart (of_song_false uri vs ts other apart)

without_song_true : (uri : List ℕ) (vs : Values) (ts : List Sticker) (other : List ℕ) → bytes_eq other uri ≡ true
    → without_song (in_song (uri, vs) ++ ts) other ≡ without_song ts other
without_song_true uri [] ts other same = refl
without_song_true uri (v ∷ vs) ts other same = rw same (without_song_true uri vs ts other same)

without_song_false : (uri : List ℕ) (vs : Values) (ts : List Sticker) (other : List ℕ) → bytes_eq other uri ≡ false
    → without_song (in_song (uri, vs) ++ ts) other ≡ in_song (uri, vs) ++ without_song ts other
without_song_false uri [] ts other apart = refl
without_song_false uri (v ∷ vs) ts other apart = rw apart (ap (λ l. sticker uri v ∷ l) (without_song_false uri vs ts other apart))

without_sticker_true : (uri : List ℕ) (vs : Values) (ts : List Sticker) (other name : List ℕ) → bytes_eq other uri ≡ true
    → without_sticker (in_song (uri, vs) ++ ts) other name ≡ in_song (uri, without_name vs name) ++ without_sticker ts other name
without_sticker_true uri [] ts other name same = refl
without_sticker_true uri (v ∷ vs) ts other name same =
    rw same (by_cases (bytes_eq name v.0) (without_sticker_true uri vs ts other name same))
  where
    by_cases : (b : Bool) → without_sticker (in_song (uri, vs) ++ ts) other name ≡ in_song (uri, without_name vs name)
        ++ without_sticker ts other name
        → cond (not b) (sticker uri v ∷ without_sticker (in_song (uri, vs) ++ ts) other name)
        (without_sticker (in_song (uri, vs) ++ ts) other name) ≡ in_song (
          uri,
          cond (not b) (v ∷ without_name vs name) (without_name vs name),
        ) ++ without_sticker ts other name
    by_cases true rest = rest
    by_cases false rest = ap (λ l. sticker uri v ∷ l) rest

without_sticker_false : (uri : List ℕ) (vs : Values) (ts : List Sticker) (other name : List ℕ) → bytes_eq other uri ≡ false
    → without_sticker (in_song (uri, vs) ++ ts) other name ≡ in_song (uri, vs) ++ without_sticker ts other name
without_sticker_false uri [] ts other name apart = refl
without_sticker_false uri (v ∷ vs) ts other name apart =
    rw apart (ap (λ l. sticker uri v ∷ l) (without_sticker_false uri vs ts other name apart))

value_true : (uri : List ℕ) (vs : Values) (ts : List Sticker) (other name : List ℕ) → bytes_eq other uri ≡ true
    → value_at ts other name ≡ None → value_at (in_song (uri, vs) ++ ts) other name ≡ under vs name
value_true uri [] ts other name same none = none
value_true uri (v ∷ vs) ts other name same none = rw same (by_cases (bytes_eq name v.0) (value_true uri vs ts other name same none))
  where
    by_cases : (b : Bool) → value_at (in_song (uri, vs) ++ ts) other name ≡ under vs name
        → option_map (λ (s : Sticker). s.value) (cond b (Some (sticker uri v)) (find (is_at other name) (in_song (uri, vs) ++ ts)))
        ≡ cond b (Some v.1) (under vs name)
    by_cases true rest = refl
    by_cases false rest = rest

value_false : (uri : List ℕ) (vs : Values) (ts : List Sticker) (other name : List ℕ) → bytes_eq other uri ≡ false
    → value_at (in_song (uri, vs) ++ ts) other name ≡ value_at ts other name
value_false uri [] ts other name apart = refl
value_false uri (v ∷ vs) ts other name apart = rw apart (value_false uri vs ts other name apart)

cond_none : {X : Type 0} (b : Bool) (x : X) (rest : Option X) → cond b (Some x) rest ≡ None → (b ≡ false) × (rest ≡ None)
cond_none true x rest none = absurd (cc)
cond_none false x rest none = (refl, none)

-- songs that come later have no sticker of this one
pub none_of_song : (songs : Songs) (uri : List ℕ) → under songs uri ≡ None → stickers_of (flat songs) uri ≡ []
none_of_song [] uri none = refl
none_of_song (song ∷ songs) uri none =
    let parts = cond_none (bytes_eq uri song.0) song.1 (under songs uri) none in of_song_false song.0 song.1 (flat songs) uri parts.0
    ∙ none_of_song songs uri parts.1

pub no_value : (songs : Songs) (uri name : List ℕ) → under songs uri ≡ None → value_at (flat songs) uri name ≡ None
no_value [] uri name none = refl
no_value (song ∷ songs) uri name none =
    let parts = cond_none (bytes_eq uri song.0) song.1 (under songs uri) none in value_false song.0 song.1 (flat songs) uri name parts.0
    ∙ no_value songs uri name parts.1

pub none_without : (songs : Songs) (uri name : List ℕ) → under songs uri ≡ None → without_sticker (flat songs) uri name ≡ flat songs
none_without [] uri name none = refl
none_without (song ∷ songs) uri name none =
    let parts = cond_none (bytes_eq uri song.0) song.1 (under songs uri) none in without_sticker_false song.0 song.1 (flat songs) uri name
    parts.0 ∙ ap (λ l. in_song song ++ l) (none_without songs uri name parts.1)

none_later : (song : List ℕ × Values) (songs : Songs) (uri : List ℕ) → IsRising (song ∷ songs) → bytes_eq uri song.0 ≡ true
    → under songs uri ≡ None
none_later song songs uri rising same = rw (same_name uri song.0 same) (under_before songs song.0 (before_tail song songs rising))

-- the stickers, the values and what is left of the songs, song by song
pub flat-stickers_of : (songs : Songs) (uri : List ℕ) (vs : Values) → IsRising songs → under songs uri ≡ Some vs
    → stickers_of (flat songs) uri ≡ in_song (uri, vs)
flat-stickers_of [] uri vs rising found = absurd (cc)
flat-stickers_of (song ∷ songs) uri vs rising found =
    by_cases (bytes_eq uri song.0) refl found (flat-stickers_of songs uri vs (rising_tail song songs rising))
  where
    by_cases : (b : Bool) → bytes_eq uri song.0 ≡ b → cond b (Some song.1) (under songs uri) ≡ Some vs
        → (under songs uri ≡ Some vs → stickers_of (flat songs) uri ≡ in_song (uri, vs))
        → stickers_of (flat (song ∷ songs)) uri ≡ in_song (uri, vs)
    by_cases true same found rest =
        let values : song.1 ≡ vs = cc in
        of_song_true song.0 song.1 (flat songs) uri same
        ∙ rw (none_of_song songs uri (none_later song songs uri rising same), append-nil, same_name uri song.0 same, values) refl
    by_cases false same found rest = of_song_false song.0 song.1 (flat songs) uri same ∙ rest found

pub flat-value_at : (songs : Songs) (uri name : List ℕ) (vs : Values) → IsRising songs → under songs uri ≡ Some vs
    → value_at (flat songs) uri name ≡ under vs name
flat-value_at [] uri name vs rising found = absurd (cc)
flat-value_at (song ∷ songs) uri name vs rising found =
    by_cases (bytes_eq uri song.0) refl found (flat-value_at songs uri name vs (rising_tail song songs rising))
  where
    by_cases : (b : Bool) → bytes_eq uri song.0 ≡ b → cond b (Some song.1) (under songs uri) ≡ Some vs
        → (under songs uri ≡ Some vs → value_at (flat songs) uri name ≡ under vs name)
        → value_at (flat (song ∷ songs)) uri name ≡ under vs name
    by_cases true same found rest =
        let values : song.1 ≡ vs = cc in
        value_true song.0 song.1 (flat songs) uri name same (no_value songs uri name (none_later song songs uri rising same))
        ∙ ap (λ values. under values name) values
    by_cases false same found rest = value_false song.0 song.1 (flat songs) uri name same ∙ rest found

pub flat-without_sticker : (songs : Songs) (uri name : List ℕ) (vs : Values) → IsRising songs → under songs uri ≡ Some vs
    → flat (with_other songs uri (without_name vs name)) ≡ without_sticker (flat songs) uri name
flat-without_sticker [] uri name vs rising found = absurd (cc)
flat-without_sticker (song ∷ songs) uri name vs rising found =
    by_cases (bytes_eq uri song.0) refl found (flat-without_sticker songs uri name vs (rising_tail song songs rising))
  where
    by_cases : (b : Bool) → bytes_eq uri song.0 ≡ b → cond b (Some song.1) (under songs uri) ≡ Some vs
        → (under songs uri ≡ Some vs → flat (with_other songs uri (without_name vs name)) ≡ without_sticker (flat songs) uri name)
        → flat (cond b ((song.0, without_name vs name) ∷ songs) (song ∷ with_other songs uri (without_name vs name)))
        ≡ without_sticker (flat (song ∷ songs)) uri name
    by_cases true same found rest =
        let values : song.1 ≡ vs = cc in
        sym (without_sticker_true song.0 song.1 (flat songs) uri name same
        ∙ rw (values, none_without songs uri name (none_later song songs uri rising same)) refl)
    by_cases false same found rest = ap (λ l. in_song song ++ l) (rest found)
        ∙ sym (without_sticker_false song.0 song.1 (flat songs) uri name same)

pub flat-without_name : (songs : Songs) (uri : List ℕ) → flat (without_name songs uri) ≡ without_song (flat songs) uri
flat-without_name [] uri = refl
flat-without_name (song ∷ songs) uri = by_cases (bytes_eq uri song.0) refl (flat-without_name songs uri)
  where
    by_cases : (b : Bool) → bytes_eq uri song.0 ≡ b → flat (without_name songs uri) ≡ without_song (flat songs) uri
        → flat (cond (not b) (song ∷ without_name songs uri) (without_name songs uri)) ≡ without_song (flat (song ∷ songs)) uri
    by_cases true same rest = rest ∙ sym (without_song_true song.0 song.1 (flat songs) uri same)
    by_cases false same rest = ap (λ l. in_song song ++ l) rest ∙ sym (without_song_false song.0 song.1 (flat songs) uri same)

without_song_none : (ts : List Sticker) (uri : List ℕ) → stickers_of ts uri ≡ [] → without_song ts uri ≡ ts
without_song_none [] uri none = refl
without_song_none (t ∷ ts) uri none = by_cases (bytes_eq uri t.uri) none (without_song_none ts uri)
  where
    by_cases : (b : Bool) → cond b (t ∷ stickers_of ts uri) (stickers_of ts uri) ≡ [] → (stickers_of ts uri ≡ [] → without_song ts uri ≡ ts)
        → cond (not b) (t ∷ without_song ts uri) (without_song ts uri) ≡ t ∷ ts
    by_cases true none rest = absurd (cc)
    by_cases false none rest = ap (λ l. t ∷ l) (rest none)

-- a song without stickers adds none
pub flat-without_empty : (songs : Songs) (uri : List ℕ) → IsRising songs → under songs uri ≡ Some []
    → flat (without_name songs uri) ≡ flat songs
flat-without_empty songs uri rising found = flat-without_name songs uri
    ∙ without_song_none (flat songs) uri (flat-stickers_of songs uri [] rising found)

-- a song without stickers, there or not, has one then
pub flat-with_first : (songs : Songs) (uri name value : List ℕ) → IsRising songs → stickers_of (flat songs) uri ≡ []
    → flat (with_name songs uri ((name, value) ∷ [])) ≡ with_sticker (flat songs) uri name value
flat-with_first songs uri name value rising empty = by_cases (under songs uri) refl
  where
    by_cases : (o : Option Values) → under songs uri ≡ o
        → flat (with_name songs uri ((name, value) ∷ [])) ≡ with_sticker (flat songs) uri name value
    by_cases None none = flat-with_name songs uri name value rising none
    by_cases (Some []) found = ap flat (with_name_there songs uri ((name, value) ∷ []) [] rising found)
        ∙ flat-with_other songs uri name value [] rising found
    by_cases (Some (v ∷ vs)) found =
        let some : stickers_of (flat songs) uri ≡ sticker uri v ∷ in_song (uri, vs) = flat-stickers_of songs uri (v ∷ vs) rising found in
        absurd (cc)

-- the song that a look-up finds has all stickers under its URI
pub song_found : (songs : Songs) (uri : List ℕ) (o : Option (Bor Values)) → IsRising songs → option_copied o ≡ under songs uri
    → MatchOption o (stickers_of (flat songs) uri ≡ []) (λ song. stickers_of (flat songs) uri ≡ in_song (uri, song.now))
song_found songs uri None rising found = none_of_song songs uri (sym found)
song_found songs uri (Some song) rising found = flat-stickers_of songs uri song.now rising (sym found)

pub on_err : {T E P : Type 0} (r : Result T E) → P → OnErr r P
on_err (Ok x) p = tt
on_err (Err e) p = p
