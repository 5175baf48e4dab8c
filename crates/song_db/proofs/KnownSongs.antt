-- Known songs, and their URIs.
use Rattle.std.proofs.Common.{◌≡◌, ◌⊎◌, inl, inr, ℕ, zero, suc, ◌+◌, ◌-◌, ◌<◌, ◌≤◌, true, false, List, [], ◌∷◌, length, get_or, Some, None, refl, sym, ap}
use Rattle.std.proofs.Common.{◌∙◌, arith}
use Rattle.std.specs.Prelude.{map, option_and_then}
use Rattle.std.specs.List.{find}
use Rattle.std.specs.List.Sorted.{IsPartitionPoint, IsStrictlySortedBy}
use Rattle.std.specs.Ordering.{is_lt}
use Rattle.std.specs.declared.cmp.Ordering.TheVariants.{Less}
use Rattle.std.specs.Str.{bytes_eq}
use Rattle.std.proofs.lemmas.Bool.{cases_lt}
use Rattle.std.proofs.lemmas.List.{length-map, get_or_default}
use Rattle.std.proofs.Math.ListN.{get_or-map}
use Rattle.song_db.specs.declared.known_song.KnownSong.{KnownSong}
use Rattle.song_db.specs.Droppable.{Marked}
use Rattle.song_db.specs.Music.{known_stamp, uris_of}
use Rattle.song_db.specs.Order.{AreKnown, without_stamp}
use Rattle.song_db.specs.Replaced.{IsBefore, IsNotBefore, IsRising}
use Rattle.song_db.proofs.Batches.{AreBehind}
use Rattle.song_db.proofs.Picked.{IsRun}
use Rattle.song_db.proofs.Rising.{less_is, texts}

abbrev pub uri_of : KnownSong → List ℕ
uri_of song = song.uri

abbrev song_of : List ℕ → KnownSong
song_of uri = record { uri = uri; stamp = None }

pub uris_len : (known : List KnownSong) → length (uris_of known) ≡ length known
uris_len known = length-map known uri_of

pub uri_at : (known : List KnownSong) (n : ℕ) (song : KnownSong) → song ≡ get_or known n song → song.uri ≡ get_or (uris_of known) n song.uri
uri_at known n song here = ap uri_of here ∙ sym (get_or-map uri_of known n song)

pub split_songs : (known : List KnownSong) (key : List ℕ) (n : ℕ)
    → IsPartitionPoint (IsBefore uri_of key) (IsNotBefore uri_of key) known n
    → IsPartitionPoint (IsBefore (λ u. u) key) (IsNotBefore (λ u. u) key) (uris_of known) n
split_songs known key n split = (
  λ k uri from below. ap (λ u. is_lt (texts u key)) (get_or-map uri_of known k (song_of uri)) ∙ split.0 k (song_of uri) from below,
  λ k uri from below. ap (λ u. is_lt (texts u key)) (get_or-map uri_of known k (song_of uri))
      ∙ split.1 k (song_of uri) from (omega (arith, uris_len known)),
)

behind_songs : (key : List ℕ) (known : List KnownSong) → AreBehind (λ uri. uri) key (uris_of known) → AreBehind uri_of key known
behind_songs key [] behind = tt
behind_songs key (x ∷ xs) behind = (behind.0, behind_songs key xs behind.1)

pub rising_songs : (known : List KnownSong) → AreKnown (uris_of known) → IsRising uri_of known
unfolding IsStrictlySortedBy
rising_songs [] rising = tt
rising_songs (x ∷ xs) rising = (behind_songs x.uri xs rising.0, rising_songs xs rising.1)

-- what may be dropped
abbrev pub with_left : List KnownSong → List (List ℕ) → Marked
with_left known left = record { known = known; left = left }

-- the song of a URI
find_at : (uri : List ℕ) (known : List KnownSong) (n : ℕ) (song : KnownSong)
    → ((k : ℕ) → k < n → k < length (uris_of known) → bytes_eq uri (get_or (uris_of known) k []) ≡ false) → n < length known
    → song ≡ get_or known n song → bytes_eq uri song.uri ≡ true → find (λ (s : KnownSong). bytes_eq uri s.uri) known ≡ Some song
find_at uri [] n song before within here same = absurd (omega arith)
find_at uri (x ∷ xs) zero song before within here same =
    let own : bytes_eq uri x.uri ≡ true = ap (λ (s : KnownSong). bytes_eq uri s.uri) (sym here) ∙ same in
    rw own (ap Some (sym here))
find_at uri (x ∷ xs) (suc n) song before within here same =
    let other : bytes_eq uri x.uri ≡ false = before 0 (omega arith) (omega arith) in
    rw other (find_at uri xs n song (λ k below inside. before (suc k) (omega arith) (omega arith)) (omega arith) here same)

find_none : (uri : List ℕ) (known : List KnownSong)
    → ((k : ℕ) → k < length (uris_of known) → bytes_eq uri (get_or (uris_of known) k []) ≡ false)
    → find (λ (s : KnownSong). bytes_eq uri s.uri) known ≡ None
find_none uri [] none = refl
find_none uri (x ∷ xs) none =
    let other : bytes_eq uri x.uri ≡ false = none 0 (omega arith) in
    rw other (find_none uri xs (λ k below. none (suc k) (omega arith)))

pub stamp_found : (uri : List ℕ) (known : List KnownSong) (n : ℕ) (song : KnownSong) → IsRun (bytes_eq uri) (uris_of known) n (n + 1)
    → n < length known → song ≡ get_or known n song → known_stamp known uri ≡ song.stamp
stamp_found uri known n song run within here =
    ap (option_and_then (λ (s : KnownSong). s.stamp)) (find_at uri known n song run.before within here
    (ap (bytes_eq uri) (uri_at known n song here ∙ get_or_default (uris_of known) n song.uri [] (omega (arith, uris_len known)))
    ∙ run.inside n (omega arith) (omega arith) (omega (arith, uris_len known))))

pub stamp_missing : (uri : List ℕ) (known : List KnownSong) (n : ℕ) → IsRun (bytes_eq uri) (uris_of known) n n
    → known_stamp known uri ≡ None
stamp_missing uri known n run =
    ap (option_and_then (λ (s : KnownSong). s.stamp)) (find_none uri known (λ k within. each k within (cases_lt k n)))
  where
    each : (k : ℕ) → k < length (uris_of known) → (k < n) ⊎ (n ≤ k) → bytes_eq uri (get_or (uris_of known) k []) ≡ false
    each k within (inl below) = run.before k below within
    each k within (inr from) = run.behind k from within

-- an order that forgets the stamps
pub same_uris_without : (known : List KnownSong) → uris_of (map without_stamp known) ≡ uris_of known
same_uris_without [] = refl
same_uris_without (x ∷ xs) = ap (λ l. x.uri ∷ l) (same_uris_without xs)

-- one more that stands before the next
pub rises_more : (known : List KnownSong) (at : ℕ) (a b : KnownSong) → 1 ≤ at → at < length known → a ≡ get_or known (at - 1) a
    → b ≡ get_or known at b → true ≡ is_lt (texts a.uri b.uri)
    → ((k : ℕ) → k + 1 < at → texts (get_or (uris_of known) k []) (get_or (uris_of known) (k + 1) []) ≡ Less)
    → (k : ℕ) → k + 1 < at + 1 → texts (get_or (uris_of known) k []) (get_or (uris_of known) (k + 1) []) ≡ Less
rises_more known at a b some within first second less before k below = by_cases (cases_lt (k + 1) at)
  where
    by_cases : (k + 1 < at) ⊎ (at ≤ k + 1) → texts (get_or (uris_of known) k []) (get_or (uris_of known) (k + 1) []) ≡ Less
    by_cases (inl early) = before k early
    by_cases (inr last) =
        let here : k ≡ at - 1 = omega arith in
        let next : k + 1 ≡ at = omega arith in
        let own : get_or (uris_of known) k [] ≡ a.uri = ap (λ i. get_or (uris_of known) i []) here
        ∙ get_or_default (uris_of known) (at - 1) [] a.uri (omega (arith, uris_len known)) ∙ sym (uri_at known (at - 1) a first) in
        let other : get_or (uris_of known) (k + 1) [] ≡ b.uri = ap (λ i. get_or (uris_of known) i []) next
        ∙ get_or_default (uris_of known) at [] b.uri (omega (arith, uris_len known)) ∙ sym (uri_at known at b second) in
        ap (λ u. texts u (get_or (uris_of known) (k + 1) [])) own ∙ ap (texts a.uri) other ∙ less_is (texts a.uri b.uri) (sym less)
