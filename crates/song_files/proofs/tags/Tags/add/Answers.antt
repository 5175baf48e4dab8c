use Rattle.std.proofs.Common.{◌≡◌, ℕ, ◌<◌, ◌≤◌, List, ◌++◌, length, nat_lt, true, refl, ap, ◌∙◌, arith}
use Rattle.std.specs.Prelude.{insert}
use Rattle.std.specs.List.{position_or_len}
use Rattle.std.specs.String.{string_bytes}
use Rattle.std.proofs.lemmas.Bool.Decides.{nat_tests}
use Rattle.std.proofs.lemmas.List.{length-map}
use Rattle.std.proofs.lemmas.List.Sums.{prefix_len-le-length}
use Rattle.song_files.specs.Limits.{MAX_TAGS}
use Rattle.song_files.specs.Tag.{number_of}
use Rattle.song_files.specs.Tags.{TagText, with_text, added}
use Rattle.song_files.specs.Places.{text_at, texts_at}
use Rattle.song_files.specs.declared.tag.Tag.{Tag}
use Rattle.song_files.specs.declared.tags.Place.{Place}
use Rattle.song_files.proofs.PlacesAdded.{texts_added, places_added}
use Rattle.song_files.proofs.tags.Tags.add.Goals as goal
use Rattle.song_files.proofs.tags.Tags.add.Goals.{After-place_for-at, In_ok-insert}

found : (c : After-place_for-at) → c.place_for-at.result ≡ position_or_len (λ (q : Place). nat_lt (number_of c.args.tag) (number_of q.tag))
    c.self.inside.places.items
found c = c.place_for-at.ensures ∙ ap (position_or_len (λ (q : Place). nat_lt (number_of c.args.tag) (number_of q.tag)))
    (c.deref.ensures.value ∙ c.in_ok-reserve_exact.ensures.items)

pub insert-requires : goal.insert-requires
insert-requires c =
    let at : c.place_for-at.result ≡ position_or_len (λ (q : Place). nat_lt (number_of c.args.tag) (number_of q.tag))
    c.self.inside.places.items = found (goal.at.insert-requires c).After-place_for-at in
    let le : c.place_for-at.result ≤ length c.self.inside.places.items = rw at (prefix_len-le-length _ c.self.inside.places.items) in
    omega (arith, le, c.in_ok-reserve_exact.ensures.len, c.self.inside.places.ok.0)

bytes_is : (c : In_ok-insert) → string_bytes c.push_str.new.self ≡ string_bytes c.self.inside.text ++ c.args.text.now
bytes_is c = c.in_ok-push_str.ensures.bytes ∙ ap (λ (l : List ℕ). l ++ c.args.text.now) c.in_ok-reserve_exact-2.ensures.bytes

-- the place of the text
own : In_ok-insert → Place
own c = record { start = c.len-2.result; len = length c.args.text.now; tag = c.args.tag }

places_is : (c : In_ok-insert) → c.insert.new.self.items ≡ insert c.self.inside.places.items c.place_for-at.result (own c)
unfolding own
places_is c = c.in_ok-insert.ensures.items
    ∙ ap (λ (l : List Place). insert l c.place_for-at.result (own c)) c.in_ok-reserve_exact.ensures.items

starts : (c : In_ok-insert) → (own c).start ≡ length (string_bytes c.self.inside.text)
unfolding own
starts c = c.len-2.ensures ∙ c.self.inside.text.bytes.ok.0

few : (c : In_ok-insert) → length c.self.inside.places.items < MAX_TAGS
few c = omega (arith, c.len.ensures, c.if-len-ge-MAX_TAGS.false, c.self.inside.places.ok.0)

pub invariant_of-self-2 : goal.invariant_of-self-2
unfolding own
invariant_of-self-2 c = rw (bytes_is c, places_is c)
    (places_added (string_bytes c.self.inside.text) c.args.text.now c.self.inside.places.items (own c) c.place_for-at.result
    c.self.invariant c.requires (few c) (starts c) refl (found (goal.at.invariant_of-self-2 c).After-place_for-at))

room : (c : In_ok-insert) → nat_lt (length (texts_at (string_bytes c.self.inside.text) c.self.inside.places.items)) MAX_TAGS ≡ true
room c =
    let l : length (texts_at (string_bytes c.self.inside.text) c.self.inside.places.items) < MAX_TAGS =
    omega (arith, few c, length-map c.self.inside.places.items (text_at (string_bytes c.self.inside.text))) in
    grind (arith, nat_tests)

taken : (tags : List TagText) (tag : Tag) (text : List ℕ) → nat_lt (length tags) MAX_TAGS ≡ true
    → with_text tags tag text ≡ added tags tag text
taken tags tag text some = rw some refl

pub returns-clause-ok : goal.returns-clause-ok
unfolding own
returns-clause-ok c =
    let bytes = string_bytes c.self.inside.text in
    let places = c.self.inside.places.items in
    rw (bytes_is c, places_is c)
    (texts_added bytes c.args.text.now places (own c) c.place_for-at.result c.self.invariant.within (starts c) refl
    (found (goal.at.returns-clause-ok c).After-place_for-at))
    ∙ taken (texts_at bytes places) c.args.tag c.args.text.now (room c)
    ∙ ap (λ (tags : List TagText). added tags c.args.tag c.args.text.now) c.self.view_is
