-- How many bytes lists of numbers take, and how many channels a row has.
use Rattle.std.proofs.Common.{◌≡◌, ℕ, ◌+◌, ◌*◌, ◌<◌, ◌≤◌, true, leb, List, [], ◌∷◌, ◌++◌, length, take, get_or, refl, sym, ap, ◌∙◌, append_assoc, arith}
use Rattle.std.specs.Global.{Vec}
use Rattle.std.specs.List.{flat_map}
use Rattle.std.proofs.lemmas.Bool.{leb-true}
use Rattle.std.proofs.lemmas.List.{length-append, flat_map_more, take_more}
use Rattle.std.proofs.lemmas.List.Concat.{flat_map-cons}
use Rattle.wave_pcm.specs.Limits.{MAX_RATE}
use Rattle.song_db.specs.Row.{Row, is_row}
use Rattle.song_db.specs.Uri.{is_uri}
use Rattle.state_codec.specs.Appended.{HasRoom, Appends}
use Rattle.state_codec.specs.SpellingFields.{u32_bytes, pair_bytes}
use Rattle.state_codec.proofs.FieldLaws.{both_true}

pub four_each : (xs : List ℕ) → length (flat_map u32_bytes xs) ≡ 4 * length xs
four_each [] = refl
four_each (x ∷ xs) = omega (
  arith,
  ap length (flat_map-cons u32_bytes x xs),
  length-append (u32_bytes x) (flat_map u32_bytes xs),
  four_each xs,
)

pub eight_each : (xs : List (ℕ × ℕ)) → length (flat_map pair_bytes xs) ≡ 8 * length xs
eight_each [] = refl
eight_each (x ∷ xs) = omega (
  arith,
  ap length (flat_map-cons pair_bytes x xs),
  length-append (pair_bytes x) (flat_map pair_bytes xs),
  eight_each xs,
)

-- one item more
pub more_items : {A : Type 0} (f : A → List ℕ) (start now : List ℕ) (xs : List A) (i : ℕ) (x : A) → i < length xs → x ≡ get_or xs i x
    → now ≡ start ++ flat_map f (take i xs)
    → now ++ f x ≡ start ++ flat_map f (take (i + 1) xs)
more_items f start now xs i x lt is so_far =
    ap (λ (t : List ℕ). t ++ f x) so_far ∙ flat_map_more f start (take i xs) x
    ∙ ap (λ t. start ++ flat_map f t) (sym (take_more xs i x lt ∙ ap (λ y. take i xs ++ y ∷ []) (sym is)))

-- a row of the program has one or two channels
pub few_channels : (row : Row) → is_row row ≡ true → row.channels ≤ 2
few_channels row h =
    let form = both_true (is_uri row.uri) _ h in
    let a = both_true (leb 1 row.rate) _ form.1 in
    let b = both_true (leb row.rate MAX_RATE) _ a.1 in
    let c = both_true (leb 1 row.channels) _ b.1 in
    leb-true _ _ (both_true (leb row.channels 2) _ c.1).0

-- ---- one text behind the other

pub appends_both : (before between after : Vec ℕ) (x y : List ℕ) → Appends before between x → Appends between after y
    → Appends before after (x ++ y)
appends_both before between after x y first second = record {
  items = second.items ∙ ap (λ (l : List ℕ). l ++ y) first.items ∙ append_assoc before.items x y;
  capacity = second.capacity ∙ first.capacity;
}

pub room_first : (out : Vec ℕ) (x y : List ℕ) → HasRoom out (length (x ++ y)) → HasRoom out (length x)
room_first out x y room = omega (arith, room, length-append x y)

pub room_behind : (before after : Vec ℕ) (x y : List ℕ) → HasRoom before (length (x ++ y)) → Appends before after x
    → HasRoom after (length y)
room_behind before after x y room first =
    omega (
      arith,
      room,
      first.capacity,
      ap length first.items,
      length-append before.items x,
      length-append x y,
      before.ok.0,
      after.ok.0,
    )
