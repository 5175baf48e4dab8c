-- Ops that are read are spelled so, and what is spelled so is read.
use Rattle.std.proofs.Common.{◌≡◌, ℕ, ◌^◌, ◌<◌, ◌≤◌, ◌⊎◌, Bool, true, false, cond, leb, eqb, List, [], ◌∷◌, ◌++◌, length, Ok, refl, sym, ap}
use Rattle.std.proofs.Common.{subst, ◌∙◌, arith, inl, inr}
use Rattle.std.specs.Prelude.{IsTrue}
use Rattle.std.specs.List.{AllByRecursion}
use Rattle.std.specs.Int.{is_in_range}
use Rattle.std.specs.Str.{is_utf8}
use Rattle.std.proofs.lemmas.Bool.{eqb-true, eqb-false, false≢true, leb-true, le-leb}
use Rattle.profile.specs.declared.profile.Profile.{Profile}
use Rattle.profile.specs.declared.profile.Profile.TheVariants.{Named, Wide}
use Rattle.song_db.specs.Uri.{is_uri}
use Rattle.song_db.specs.declared.change.RowChange.{RowChange}
use Rattle.song_db.specs.declared.change.RowChange.TheVariants.{Put, Drop}
use Rattle.stickers.specs.Value.{is_good_value}
use Rattle.state_codec.specs.declared.layout.Layout.{Layout}
use Rattle.state_codec.specs.declared.op.Op.{Op}
use Rattle.state_codec.specs.declared.op.Op.TheVariants.{SetOption, SetVolume, SetOrder, Queue, List as OfList, Sticker, Batch, Place, Timed}
use Rattle.state_codec.specs.declared.op.setting.Setting.{Setting}
use Rattle.state_codec.specs.declared.op.setting.Setting.TheVariants as settings
use Rattle.state_codec.specs.declared.op.queue_op.QueueOp.{QueueOp}
use Rattle.state_codec.specs.declared.op.queue_op.QueueOp.TheVariants as queue
use Rattle.state_codec.specs.declared.op.list_op.ListOp.{ListOp}
use Rattle.state_codec.specs.declared.op.list_op.ListOp.TheVariants as lists
use Rattle.state_codec.specs.declared.op.sticker_op.StickerOp.{StickerOp}
use Rattle.state_codec.specs.declared.op.sticker_op.StickerOp.TheVariants as stickers
use Rattle.state_codec.specs.declared.op.place_op.PlaceOp.{PlaceOp}
use Rattle.state_codec.specs.declared.op.place_op.PlaceOp.TheVariants as places
use Rattle.state_codec.specs.Changes.{is_count, IsChange, AreChanges, is_kept_change, are_kept}
use Rattle.state_codec.specs.Fields.{Field, made, such, both, byte_at, u32_at, u64_at, pair_at, volume_at, flag_at, consume_at, single_at}
use Rattle.state_codec.specs.Fields.{text_at}
use Rattle.state_codec.specs.Layout.{IsSettingIn, IsOpIn}
use Rattle.state_codec.specs.Numbers.{MAX_COUNT, AreRowNumbers, AreOpRanges}
use Rattle.state_codec.specs.Ops.{IsOp, IsKeptOp, KeepsPlace, AreNumbers, IsQueueOp, IsListOp, IsStickerOp, IsPlaceOp, IsText}
use Rattle.state_codec.specs.ReadingOps.{setting_at, row_numbers_at, ranges_at, queue_op_at, list_op_at, value_at, sticker_op_at, op_at}
use Rattle.state_codec.specs.ReadingPlace.{is_place_kind, place_op_at, spot_at}
use Rattle.state_codec.specs.ReadingTimes.{is_time_kind}
use Rattle.state_codec.specs.ReadingRows.{uri_at, row_at, change_at, changes_at}
use Rattle.state_codec.specs.SavedState.{IsBytes}
use Rattle.state_codec.specs.SpellingFields.{byte_bytes, u32_bytes, u64_bytes, pair_bytes, flag_bytes, single_bytes, text_bytes}
use Rattle.state_codec.specs.SpellingOps.{setting_bytes, row_numbers_bytes, ranges_bytes, queue_kind, queue_fields, list_kind, list_fields}
use Rattle.state_codec.specs.SpellingOps.{sticker_kind, sticker_fields, place_kind, place_fields, op_bytes}
use Rattle.state_codec.specs.SpellingRows.{row_bytes, change_bytes, changes_bytes}
use Rattle.state_codec.specs.Text.{is_text, is_sticker_text}
use Rattle.state_codec.proofs.FieldLaws.{bind_ok, ok_is, both_true, Takes, Takes-then, IsField, Any, both_is, such_is, fits_is, byte_is}
use Rattle.state_codec.proofs.FieldLaws.{u32_is, u64_is, volume_is, flag_is, IsConsume, consume_is, single_is, text_is}
use Rattle.state_codec.proofs.ItemLaws.{counted_is, alone_is}
use Rattle.state_codec.proofs.ListLaws.{all_by, by_all}
use Rattle.state_codec.proofs.PlaceFields.{IsSpot, spot_reads, spot_text}
use Rattle.state_codec.proofs.RowLaws.{row_is}
use Rattle.state_codec.proofs.TextLaws.{uri_is}

-- ---- kinds

-- which way a test went
chosen : {A : Type 0} (b : Bool) (x y z : A) → cond b x y ≡ z → ((b ≡ true) × (x ≡ z)) ⊎ ((b ≡ false) × (y ≡ z))
chosen true x y z e = inl (refl, e)
chosen false x y z e = inr (refl, e)

-- a value whose number and fields are these
pub record IsKind {B : Type 0} (kind_of : B → ℕ) (fields : B → List ℕ) (Good : B → Type 0) (kind : ℕ) (bytes : List ℕ)
    (y : B × List ℕ) : Type 0 where
  pub taken : Takes bytes (fields y.0) y.1
  pub named : kind_of y.0 ≡ kind
  pub good : Good y.0

-- a variant is spelled by its number and a field
variant : {A B : Type 0} (f : A → B) (kind_of : B → ℕ) (fields : B → List ℕ) (Good : B → Type 0) (kind : ℕ) (at : List ℕ → Field A)
    (text : A → List ℕ) (Fits : A → Type 0)
    → IsField at text Fits → ((a : A) → Fits a → (text a ≡ fields (f a)) × (kind_of (f a) ≡ kind) × Good (f a))
    → (bytes : List ℕ) (y : B × List ℕ) → IsBytes bytes
    → made f (at bytes) ≡ Ok y → IsKind kind_of fields Good kind bytes y
variant f kind_of fields Good kind at text Fits field there bytes y fits e =
    let a = bind_ok (at bytes) _ y e in
    let t = field.takes bytes a.0 fits a.1 in
    let h = there a.0.0 t.1 in
    subst (IsKind kind_of fields Good kind bytes) (ok_is (f a.0.0, a.0.1) y a.2)
    (record { taken = subst (λ s. Takes bytes s a.0.1) h.0 t.0; named = h.1; good = h.2 })

-- under the number that was tested
at_kind : {B : Type 0} (kind_of : B → ℕ) (fields : B → List ℕ) (Good : B → Type 0) (kind found : ℕ) (bytes : List ℕ) (y : B × List ℕ)
    → eqb found kind ≡ true → IsKind kind_of fields Good kind bytes y → IsKind kind_of fields Good found bytes y
at_kind kind_of fields Good kind found bytes y is h = subst (λ (k : ℕ). IsKind kind_of fields Good k bytes y) (sym (eqb-true _ _ is)) h

-- ---- numbers

pub count_is : IsField (λ bytes. u32_at bytes) (λ n. u32_bytes n) (λ n. n ≤ MAX_COUNT)
count_is = fits_is (λ bytes. u32_at bytes) (λ n. u32_bytes n) (λ n. n < 2 ^ 32) (λ n. n ≤ MAX_COUNT) u32_is (λ n h. omega arith)
    (λ n h. omega arith)

pub pair_is : IsField (λ bytes. pair_at bytes) pair_bytes (λ x. AreNumbers x.0 x.1)
pair_is = both_is (λ bytes. u32_at bytes) _ _ _ _ _ count_is count_is

pub row_numbers_is : IsField (λ bytes. row_numbers_at bytes) row_numbers_bytes AreRowNumbers
row_numbers_is =
    fits_is (λ bytes. row_numbers_at bytes) row_numbers_bytes (λ xs. (length xs ≤ MAX_COUNT) × AllByRecursion (λ n. n ≤ MAX_COUNT) xs)
    AreRowNumbers
    (counted_is (λ bytes. u32_at bytes) _ _ count_is (λ known. u32_at) _ _ (alone_is (λ bytes. u32_at bytes) _ _ count_is) tt)
    (λ xs h. record { few = h.0; each = by_all _ xs h.1 }) (λ xs h. (h.few, all_by _ xs h.each))

pub ranges_is : IsField (λ bytes. ranges_at bytes) ranges_bytes AreOpRanges
ranges_is =
    fits_is (λ bytes. ranges_at bytes) ranges_bytes (λ xs. (length xs ≤ MAX_COUNT) × AllByRecursion (λ x. AreNumbers x.0 x.1) xs)
    AreOpRanges
    (counted_is (λ bytes. u32_at bytes) _ _ count_is (λ known. pair_at) _ _ (alone_is (λ bytes. pair_at bytes) _ _ pair_is) tt)
    (λ xs h. record { few = h.0; each = by_all _ xs h.1 }) (λ xs h. (h.few, all_by _ xs h.each))

-- ---- changes

-- a change whose row, if it puts one, the profile keeps
abbrev IsKeptOne : Profile → RowChange → Type 0
IsKeptOne profile change = IsChange change × (is_kept_change profile change ≡ true)

change_takes : (profile : Profile) (bytes : List ℕ) (y : RowChange × List ℕ) → IsBytes bytes → change_at profile bytes ≡ Ok y
    → Takes bytes (change_bytes profile y.0) y.1 × IsKeptOne profile y.0
unfolding change_at
change_takes profile bytes y fits e =
    let b = bind_ok (byte_at bytes) _ y e in
    let front = (byte_is.takes bytes b.0 fits b.1).0 in
    elim (chosen (eqb b.0.0 1) _ _ (Ok y) b.2) [
      | inl h ↦
          let a = bind_ok (row_at profile uri_at b.0.1) _ y h.1 in
          let t = (row_is profile).takes b.0.1 a.0 front.rest_fits a.1 in
          let named : Takes bytes (1 ∷ []) b.0.1 = subst (λ (k : ℕ). Takes bytes (k ∷ []) b.0.1) (eqb-true _ _ h.0) front in
          subst (λ z. Takes bytes (change_bytes profile z.0) z.1 × IsKeptOne profile z.0) (ok_is (Put a.0.0, a.0.1) y a.2)
          (Takes-then bytes (1 ∷ []) b.0.1 (row_bytes profile a.0.0) a.0.1 named t.0, t.1)
      | inr n ↦ elim (chosen (eqb b.0.0 0) _ _ (Ok y) n.1) [
        | inl h ↦
            let a = bind_ok (uri_at b.0.1) _ y h.1 in
            let t = uri_is.takes b.0.1 a.0 front.rest_fits a.1 in
            let named : Takes bytes (0 ∷ []) b.0.1 = subst (λ (k : ℕ). Takes bytes (k ∷ []) b.0.1) (eqb-true _ _ h.0) front in
            subst (λ z. Takes bytes (change_bytes profile z.0) z.1 × IsKeptOne profile z.0) (ok_is (Drop a.0.0, a.0.1) y a.2)
            (Takes-then bytes (0 ∷ []) b.0.1 (text_bytes a.0.0) a.0.1 named t.0, (t.1, refl))
        | inr n2 ↦ let h = n2.1 in absurd cc
      ]
    ]

change_again : (profile : Profile) (change : RowChange) (rest : List ℕ) → IsKeptOne profile change
    → change_at profile (change_bytes profile change ++ rest) ≡ Ok (change, rest)
unfolding change_at
change_again profile (Put row) rest good = ap (made Put) ((row_is profile).again row rest good)
change_again profile (Drop uri) rest good = ap (made Drop) (uri_is.again uri rest good.0)

change_is : (profile : Profile) → IsField (λ bytes. change_at profile bytes) (change_bytes profile) (IsKeptOne profile)
change_is profile = record { takes = change_takes profile; again = change_again profile }

-- each alone, and all of them
all_kept : (profile : Profile) (xs : List RowChange) → AllByRecursion (IsKeptOne profile) xs
    → AllByRecursion IsChange xs × (are_kept profile xs ≡ true)
all_kept profile [] all = (tt, refl)
all_kept profile (x ∷ xs) all = let rest = all_kept profile xs all.1 in ((all.0.0, rest.0), rw (all.0.1, rest.1) refl)

each_kept : (profile : Profile) (xs : List RowChange) → AllByRecursion IsChange xs → are_kept profile xs ≡ true
    → AllByRecursion (IsKeptOne profile) xs
each_kept profile [] all kept = tt
each_kept profile (x ∷ xs) all kept =
    let b = both_true (is_kept_change profile x) (are_kept profile xs) kept in ((all.0, b.0), each_kept profile xs all.1 b.1)

change_count_is : IsField (λ bytes. such is_count byte_at bytes) (λ n. byte_bytes n) (λ n. is_count n ≡ true)
change_count_is =
    fits_is (λ bytes. such is_count byte_at bytes) (λ n. byte_bytes n) (λ n. (n < 256) × (is_count n ≡ true)) (λ n. is_count n ≡ true)
    (such_is is_count (λ bytes. byte_at bytes) (λ n. byte_bytes n) (λ n. n < 256) byte_is)
    (λ n h. h.1) (λ n h. (omega (arith, leb-true _ _ (both_true (leb 1 n) (leb n 64) h).1), h))

abbrev pub AreKeptChanges : Profile → List RowChange → Type 0
AreKeptChanges profile changes = AreChanges changes × (are_kept profile changes ≡ true)

pub changes_is : (profile : Profile) → IsField (λ bytes. changes_at profile bytes) (changes_bytes profile) (AreKeptChanges profile)
changes_is profile =
    fits_is (λ bytes. changes_at profile bytes) (changes_bytes profile)
    (λ xs. (is_count (length xs) ≡ true) × AllByRecursion (IsKeptOne profile) xs) (AreKeptChanges profile)
    (counted_is (λ bytes. such is_count byte_at bytes) _ _ change_count_is (λ known. change_at profile) _ _
    (alone_is (λ bytes. change_at profile bytes) _ _ (change_is profile)) tt)
    (λ xs h. let parts = all_kept profile xs h.1 in (record { count = h.0; each = by_all IsChange xs parts.0 }, parts.1))
    (λ xs h. (h.0.count, each_kept profile xs (all_by IsChange xs h.0.each) h.1))

-- ---- settings

setting_takes : (layout : Layout) (bytes : List ℕ) (y : Setting × List ℕ) → IsBytes bytes → setting_at layout bytes ≡ Ok y
    → Takes bytes (setting_bytes y.0) y.1 × IsSettingIn layout y.0
unfolding setting_at
setting_takes layout bytes y fits e =
    let b = bind_ok (byte_at bytes) _ y e in
    let k = b.0.0 in
    let rest = b.0.1 in
    let front = (byte_is.takes bytes b.0 fits b.1).0 in
    elim (chosen (eqb k 1) _ _ (Ok y) b.2) [
      | inl h ↦ option settings.Repeat flag_bytes (λ a. Any a) 1 k bytes rest (flag_at rest) y front h.0
          (λ x r. flag_is.takes rest x front.rest_fits r) (λ a. refl) (λ a g. tt) h.1
      | inr n1 ↦ elim (chosen (eqb k 2) _ _ (Ok y) n1.1) [
        | inl h ↦ option settings.Random flag_bytes (λ a. Any a) 2 k bytes rest (flag_at rest) y front h.0
            (λ x r. flag_is.takes rest x front.rest_fits r) (λ a. refl) (λ a g. tt) h.1
        | inr n2 ↦ elim (chosen (eqb k 3) _ _ (Ok y) n2.1) [
          | inl h ↦ option settings.Single single_bytes (λ a. Any a) 3 k bytes rest (single_at rest) y front h.0
              (λ x r. single_is.takes rest x front.rest_fits r) (λ a. refl) (λ a g. tt) h.1
          | inr n3 ↦ elim (chosen (eqb k 4) _ _ (Ok y) n3.1) [
            | inl h ↦ option settings.Consume single_bytes (IsConsume layout) 4 k bytes rest (consume_at layout rest) y front h.0
                (λ x r. (consume_is layout).takes rest x front.rest_fits r) (λ a. refl) (λ a g. g.1) h.1
            | inr n4 ↦ let h = n4.1 in absurd cc
          ]
        ]
      ]
    ] where
      option : {A : Type 0} (f : A → Setting) (text : A → List ℕ) (Fits : A → Type 0) (kind found : ℕ) (bytes rest : List ℕ)
          (field : Field A) (y : Setting × List ℕ)
          → Takes bytes (found ∷ []) rest → eqb found kind ≡ true
          → ((x : A × List ℕ) → field ≡ Ok x → Takes rest (text x.0) x.1 × Fits x.0)
          → ((a : A) → kind ∷ text a ≡ setting_bytes (f a)) → ((a : A) → Fits a → IsSettingIn layout (f a)) → made f field ≡ Ok y
          → Takes bytes (setting_bytes y.0) y.1 × IsSettingIn layout y.0
      option f text Fits kind found bytes rest field y front is_kind reads spelled keeps e =
          let b = bind_ok field _ y e in
          let t = reads b.0 b.1 in
          let named : Takes bytes (kind ∷ []) rest = subst (λ (k : ℕ). Takes bytes (k ∷ []) rest) (eqb-true _ _ is_kind) front in
          let joined : Takes bytes (kind ∷ text b.0.0) b.0.1 = Takes-then bytes (kind ∷ []) rest (text b.0.0) b.0.1 named t.0 in
          subst (λ z. Takes bytes (setting_bytes z.0) z.1 × IsSettingIn layout z.0) (ok_is (f b.0.0, b.0.1) y b.2)
          (subst (λ (w : List ℕ). Takes bytes w b.0.1) (spelled b.0.0) joined, keeps b.0.0 t.1)

setting_again : (layout : Layout) (value : Setting) (rest : List ℕ) → IsSettingIn layout value
    → setting_at layout (setting_bytes value ++ rest) ≡ Ok (value, rest)
unfolding setting_at
setting_again layout (settings.Repeat on) rest any = ap (made settings.Repeat) (flag_is.again on rest tt)
setting_again layout (settings.Random on) rest any = ap (made settings.Random) (flag_is.again on rest tt)
setting_again layout (settings.Single value) rest any = ap (made settings.Single) (single_is.again value rest tt)
setting_again layout (settings.Consume value) rest any = ap (made settings.Consume) ((consume_is layout).again value rest (tt, any))

setting_is : (layout : Layout) → IsField (λ bytes. setting_at layout bytes) setting_bytes (IsSettingIn layout)
setting_is layout = record { takes = setting_takes layout; again = setting_again layout }

-- ---- the families

value_is : IsField (λ bytes. value_at bytes) (λ text. text_bytes text) (λ text. is_sticker_text text ≡ true)
value_is =
    fits_is (λ bytes. value_at bytes) (λ text. text_bytes text) (λ text. IsTrue (is_text text) × (is_good_value text ≡ true))
    (λ text. is_sticker_text text ≡ true)
    (such_is is_good_value (λ bytes. text_at bytes) (λ text. text_bytes text) (λ text. IsTrue (is_text text)) text_is)
    (λ text h. let utf8 = both_true (is_utf8 text) _ h.0 in rw (utf8.0, h.1) refl)
    (λ text h. let b = both_true (is_utf8 text) (is_good_value text) h in (
      rw (
        b.0,
        le-leb (length text) 65535 (omega (arith, leb-true _ _ b.1)),
      ) refl,
      b.1,
    ))

add_is : IsField (λ bytes. both u32_at row_numbers_at bytes) (λ x. u32_bytes x.0 ++ row_numbers_bytes x.1)
    (λ x. (x.0 ≤ MAX_COUNT) × AreRowNumbers x.1)
add_is = both_is (λ bytes. u32_at bytes) _ _ (λ bytes. row_numbers_at bytes) _ _ count_is row_numbers_is

move_is : IsField (λ bytes. both pair_at u32_at bytes) (λ x. pair_bytes x.0 ++ u32_bytes x.1)
    (λ x. AreNumbers x.0.0 x.0.1 × (x.1 ≤ MAX_COUNT))
move_is = both_is (λ bytes. pair_at bytes) _ _ (λ bytes. u32_at bytes) _ _ pair_is count_is

prio_is : IsField (λ bytes. both byte_at ranges_at bytes) (λ x. byte_bytes x.0 ++ ranges_bytes x.1) (λ x. (x.0 < 256) × AreOpRanges x.1)
prio_is = both_is (λ bytes. byte_at bytes) _ _ (λ bytes. ranges_at bytes) _ _ byte_is ranges_is

list_add_is : IsField (λ bytes. both text_at row_numbers_at bytes) (λ x. text_bytes x.0 ++ row_numbers_bytes x.1)
    (λ x. IsText x.0 × AreRowNumbers x.1)
list_add_is = both_is (λ bytes. text_at bytes) _ _ (λ bytes. row_numbers_at bytes) _ _ text_is row_numbers_is

list_pair_is : IsField (λ bytes. both text_at pair_at bytes) (λ x. text_bytes x.0 ++ pair_bytes x.1)
    (λ x. IsText x.0 × AreNumbers x.1.0 x.1.1)
list_pair_is = both_is (λ bytes. text_at bytes) _ _ (λ bytes. pair_at bytes) _ _ text_is pair_is

rename_is : IsField (λ bytes. both text_at text_at bytes) (λ x. text_bytes x.0 ++ text_bytes x.1) (λ x. IsText x.0 × IsText x.1)
rename_is = both_is (λ bytes. text_at bytes) _ _ (λ bytes. text_at bytes) _ _ text_is text_is

set_is : IsField (λ bytes. both uri_at (both text_at value_at) bytes) (λ x. text_bytes x.0 ++ (text_bytes x.1.0 ++ text_bytes x.1.1))
    (λ x. (is_uri x.0 ≡ true) × (IsText x.1.0 × (is_sticker_text x.1.1 ≡ true)))
set_is = both_is (λ bytes. uri_at bytes) _ _ (λ bytes. both text_at value_at bytes) _ _ uri_is
    (both_is (λ bytes. text_at bytes) _ _ (λ bytes. value_at bytes) _ _ text_is value_is)

delete_is : IsField (λ bytes. both uri_at text_at bytes) (λ x. text_bytes x.0 ++ text_bytes x.1) (λ x. (is_uri x.0 ≡ true) × IsText x.1)
delete_is = both_is (λ bytes. uri_at bytes) _ _ (λ bytes. text_at bytes) _ _ uri_is text_is

queue_takes : (kind : ℕ) (bytes : List ℕ) (y : QueueOp × List ℕ) → 4 ≤ kind → kind ≤ 9 → IsBytes bytes → queue_op_at kind bytes ≡ Ok y
    → IsKind queue_kind queue_fields IsQueueOp kind bytes y
unfolding queue_op_at
queue_takes kind bytes y low high fits e =
    elim (chosen (eqb kind 4) _ _ (Ok y) e) [
      | inl h ↦ at_kind queue_kind queue_fields IsQueueOp 4 kind bytes y h.0
          (variant (λ x. queue.Add x.0 x.1) queue_kind queue_fields IsQueueOp 4 (λ bytes. both u32_at row_numbers_at bytes) _ _ add_is
          (λ a h. (refl, refl, h)) bytes y fits h.1)
      | inr n4 ↦
          elim (chosen (eqb kind 5) _ _ (Ok y) n4.1) [
            | inl h ↦ at_kind queue_kind queue_fields IsQueueOp 5 kind bytes y h.0
                (variant (λ x. queue.Delete x.0 x.1) queue_kind queue_fields IsQueueOp 5 (λ bytes. pair_at bytes) _ _ pair_is
                (λ a h. (refl, refl, h)) bytes y fits h.1)
            | inr n5 ↦
                elim (chosen (eqb kind 6) _ _ (Ok y) n5.1) [
                  | inl h ↦ at_kind queue_kind queue_fields IsQueueOp 6 kind bytes y h.0
                      (variant (λ x. queue.Move x.0.0 x.0.1 x.1) queue_kind queue_fields IsQueueOp 6 (λ bytes. both pair_at u32_at bytes) _
                      _ move_is (λ a h. (refl, refl, h)) bytes y fits h.1)
                  | inr n6 ↦
                      elim (chosen (eqb kind 7) _ _ (Ok y) n6.1) [
                        | inl h ↦ at_kind queue_kind queue_fields IsQueueOp 7 kind bytes y h.0
                            (variant (λ x. queue.Swap x.0 x.1) queue_kind queue_fields IsQueueOp 7 (λ bytes. pair_at bytes) _ _ pair_is
                            (λ a h. (refl, refl, h)) bytes y fits h.1)
                        | inr n7 ↦
                            elim (chosen (eqb kind 8) _ _ (Ok y) n7.1) [
                              | inl h ↦ at_kind queue_kind queue_fields IsQueueOp 8 kind bytes y h.0
                                  (variant (λ x. queue.Shuffle x.0 x.1) queue_kind queue_fields IsQueueOp 8 (λ bytes. pair_at bytes) _ _
                                  pair_is (λ a h. (refl, refl, h)) bytes y fits h.1)
                              | inr n8 ↦
                                  let is : kind ≡ 9 = omega (
                                    arith,
                                    eqb-false _ _ n4.0,
                                    eqb-false _ _ n5.0,
                                    eqb-false _ _ n6.0,
                                    eqb-false _ _ n7.0,
                                    eqb-false _ _ n8.0,
                                  ) in
                                  subst (λ (k : ℕ). IsKind queue_kind queue_fields IsQueueOp k bytes y) (sym is)
                                  (variant (λ x. queue.Prio x.0 x.1) queue_kind queue_fields IsQueueOp 9
                                  (λ bytes. both byte_at ranges_at bytes) _ _ prio_is (λ a h. (refl, refl, h)) bytes y fits n8.1)
                            ]
                      ]
                ]
          ]
    ]

list_takes : (kind : ℕ) (bytes : List ℕ) (y : ListOp × List ℕ) → 10 ≤ kind → kind ≤ 16 → IsBytes bytes → list_op_at kind bytes ≡ Ok y
    → IsKind list_kind list_fields IsListOp kind bytes y
unfolding list_op_at
list_takes kind bytes y low high fits e =
    elim (chosen (eqb kind 10) _ _ (Ok y) e) [
      | inl h ↦ at_kind list_kind list_fields IsListOp 10 kind bytes y h.0
          (variant lists.Save list_kind list_fields IsListOp 10 (λ bytes. text_at bytes) _ _ text_is (λ a h. (refl, refl, h)) bytes y fits
          h.1)
      | inr n10 ↦
          elim (chosen (eqb kind 11) _ _ (Ok y) n10.1) [
            | inl h ↦ at_kind list_kind list_fields IsListOp 11 kind bytes y h.0
                (variant (λ x. lists.Add x.0 x.1) list_kind list_fields IsListOp 11 (λ bytes. both text_at row_numbers_at bytes) _ _
                list_add_is (λ a h. (refl, refl, h)) bytes y fits h.1)
            | inr n11 ↦
                elim (chosen (eqb kind 12) _ _ (Ok y) n11.1) [
                  | inl h ↦ at_kind list_kind list_fields IsListOp 12 kind bytes y h.0
                      (variant (λ x. lists.Remove x.0 x.1.0 x.1.1) list_kind list_fields IsListOp 12 (λ bytes. both text_at pair_at bytes) _
                      _ list_pair_is (λ a h. (refl, refl, h)) bytes y fits h.1)
                  | inr n12 ↦
                      elim (chosen (eqb kind 13) _ _ (Ok y) n12.1) [
                        | inl h ↦ at_kind list_kind list_fields IsListOp 13 kind bytes y h.0
                            (variant (λ x. lists.Move x.0 x.1.0 x.1.1) list_kind list_fields IsListOp 13
                            (λ bytes. both text_at pair_at bytes) _ _ list_pair_is (λ a h. (refl, refl, h)) bytes y fits h.1)
                        | inr n13 ↦
                            elim (chosen (eqb kind 14) _ _ (Ok y) n13.1) [
                              | inl h ↦ at_kind list_kind list_fields IsListOp 14 kind bytes y h.0
                                  (variant lists.Clear list_kind list_fields IsListOp 14 (λ bytes. text_at bytes) _ _ text_is
                                  (λ a h. (refl, refl, h)) bytes y fits h.1)
                              | inr n14 ↦
                                  elim (chosen (eqb kind 15) _ _ (Ok y) n14.1) [
                                    | inl h ↦ at_kind list_kind list_fields IsListOp 15 kind bytes y h.0
                                        (variant (λ x. lists.Rename x.0 x.1) list_kind list_fields IsListOp 15
                                        (λ bytes. both text_at text_at bytes) _ _ rename_is (λ a h. (refl, refl, h)) bytes y fits h.1)
                                    | inr n15 ↦
                                        let is : kind ≡ 16 = omega (
                                          arith,
                                          eqb-false _ _ n10.0,
                                          eqb-false _ _ n11.0,
                                          eqb-false _ _ n12.0,
                                          eqb-false _ _ n13.0,
                                          eqb-false _ _ n14.0,
                                          eqb-false _ _ n15.0,
                                        ) in
                                        subst (λ (k : ℕ). IsKind list_kind list_fields IsListOp k bytes y) (sym is)
                                        (variant lists.Drop list_kind list_fields IsListOp 16 (λ bytes. text_at bytes) _ _ text_is
                                        (λ a h. (refl, refl, h)) bytes y fits n15.1)
                                  ]
                            ]
                      ]
                ]
          ]
    ]

sticker_takes : (kind : ℕ) (bytes : List ℕ) (y : StickerOp × List ℕ) → 17 ≤ kind → kind ≤ 19 → IsBytes bytes
    → sticker_op_at kind bytes ≡ Ok y → IsKind sticker_kind sticker_fields IsStickerOp kind bytes y
unfolding sticker_op_at
sticker_takes kind bytes y low high fits e =
    elim (chosen (eqb kind 17) _ _ (Ok y) e) [
      | inl h ↦ at_kind sticker_kind sticker_fields IsStickerOp 17 kind bytes y h.0
          (variant (λ x. stickers.Set x.0 x.1.0 x.1.1) sticker_kind sticker_fields IsStickerOp 17
          (λ bytes. both uri_at (both text_at value_at) bytes) _ _ set_is (λ a h. (refl, refl, h)) bytes y fits h.1)
      | inr n17 ↦
          elim (chosen (eqb kind 18) _ _ (Ok y) n17.1) [
            | inl h ↦ at_kind sticker_kind sticker_fields IsStickerOp 18 kind bytes y h.0
                (variant (λ x. stickers.Delete x.0 x.1) sticker_kind sticker_fields IsStickerOp 18 (λ bytes. both uri_at text_at bytes) _ _
                delete_is (λ a h. (refl, refl, h)) bytes y fits h.1)
            | inr n18 ↦
                let is : kind ≡ 19 = omega (arith, eqb-false _ _ n17.0, eqb-false _ _ n18.0) in
                subst (λ (k : ℕ). IsKind sticker_kind sticker_fields IsStickerOp k bytes y) (sym is)
                (variant stickers.DeleteAll sticker_kind sticker_fields IsStickerOp 19 (λ bytes. uri_at bytes) _ _ uri_is
                (λ a h. (refl, refl, h)) bytes y fits n18.1)
          ]
    ]

place_takes : (kind : ℕ) (bytes : List ℕ) (y : PlaceOp × List ℕ) → 22 ≤ kind → kind ≤ 25 → IsBytes bytes → place_op_at kind bytes ≡ Ok y
    → IsKind place_kind place_fields IsPlaceOp kind bytes y
unfolding place_op_at
place_takes kind bytes y low high fits e =
    elim (chosen (eqb kind 22) _ _ (Ok y) e) [
      | inl h ↦ at_kind place_kind place_fields IsPlaceOp 22 kind bytes y h.0
          (variant (λ x. places.Put x.0 x.1.0 x.1.1) place_kind place_fields IsPlaceOp 22 (λ bytes. spot_at bytes) spot_text IsSpot
          spot_reads (λ a h. (refl, refl, h.1)) bytes y fits h.1)
      | inr n22 ↦
          elim (chosen (eqb kind 23) _ _ (Ok y) n22.1) [
            | inl h ↦ at_kind place_kind place_fields IsPlaceOp 23 kind bytes y h.0
                (variant places.Played place_kind place_fields IsPlaceOp 23 (λ bytes. u32_at bytes) (λ n. u32_bytes n) (λ n. n < 2 ^ 32)
                u32_is (λ a h. (refl, refl, h)) bytes y fits h.1)
            | inr n23 ↦
                elim (chosen (eqb kind 24) _ _ (Ok y) n23.1) [
                  | inl h ↦ at_kind place_kind place_fields IsPlaceOp 24 kind bytes y h.0
                      (subst (IsKind place_kind place_fields IsPlaceOp 24 bytes) (ok_is (places.Begins, bytes) y h.1)
                      (record { taken = record { parts = refl; rest_fits = fits }; named = refl; good = tt }))
                  | inr n24 ↦
                      let is : kind ≡ 25 = omega (arith, eqb-false _ _ n22.0, eqb-false _ _ n23.0, eqb-false _ _ n24.0) in
                      subst (λ (k : ℕ). IsKind place_kind place_fields IsPlaceOp k bytes y) (sym is)
                      (variant places.Leaves place_kind place_fields IsPlaceOp 25 (λ bytes. u32_at bytes) (λ n. u32_bytes n)
                      (λ n. n < 2 ^ 32) u32_is (λ a h. (refl, refl, h)) bytes y fits n24.1)
                ]
          ]
    ]

queue_again : (op : QueueOp) (rest : List ℕ) → IsQueueOp op → queue_op_at (queue_kind op) (queue_fields op ++ rest) ≡ Ok (op, rest)
unfolding queue_op_at
queue_again (queue.Add at rows) rest good = ap (made (λ x. queue.Add x.0 x.1)) (add_is.again (at, rows) rest good)
queue_again (queue.Delete start end) rest good = ap (made (λ x. queue.Delete x.0 x.1)) (pair_is.again (start, end) rest good)
queue_again (queue.Move start end to) rest good = ap (made (λ x. queue.Move x.0.0 x.0.1 x.1)) (move_is.again ((start, end), to) rest good)
queue_again (queue.Swap one other) rest good = ap (made (λ x. queue.Swap x.0 x.1)) (pair_is.again (one, other) rest good)
queue_again (queue.Shuffle start end) rest good = ap (made (λ x. queue.Shuffle x.0 x.1)) (pair_is.again (start, end) rest good)
queue_again (queue.Prio priority ranges) rest good = ap (made (λ x. queue.Prio x.0 x.1)) (prio_is.again (priority, ranges) rest good)

list_again : (op : ListOp) (rest : List ℕ) → IsListOp op → list_op_at (list_kind op) (list_fields op ++ rest) ≡ Ok (op, rest)
unfolding list_op_at
list_again (lists.Save name) rest good = ap (made lists.Save) (text_is.again name rest good)
list_again (lists.Add name rows) rest good = ap (made (λ x. lists.Add x.0 x.1)) (list_add_is.again (name, rows) rest good)
list_again (lists.Remove name start end) rest good =
    ap (made (λ x. lists.Remove x.0 x.1.0 x.1.1)) (list_pair_is.again (name, (start, end)) rest good)
list_again (lists.Move name from to) rest good =
    ap (made (λ x. lists.Move x.0 x.1.0 x.1.1)) (list_pair_is.again (name, (from, to)) rest good)
list_again (lists.Clear name) rest good = ap (made lists.Clear) (text_is.again name rest good)
list_again (lists.Rename from to) rest good = ap (made (λ x. lists.Rename x.0 x.1)) (rename_is.again (from, to) rest good)
list_again (lists.Drop name) rest good = ap (made lists.Drop) (text_is.again name rest good)

sticker_again : (op : StickerOp) (rest : List ℕ) → IsStickerOp op
    → sticker_op_at (sticker_kind op) (sticker_fields op ++ rest) ≡ Ok (op, rest)
unfolding sticker_op_at
sticker_again (stickers.Set uri name value) rest good =
    ap (made (λ x. stickers.Set x.0 x.1.0 x.1.1)) (set_is.again (uri, (name, value)) rest good)
sticker_again (stickers.Delete uri name) rest good = ap (made (λ x. stickers.Delete x.0 x.1)) (delete_is.again (uri, name) rest good)
sticker_again (stickers.DeleteAll uri) rest good = ap (made stickers.DeleteAll) (uri_is.again uri rest good)

place_again : (op : PlaceOp) (rest : List ℕ) → IsPlaceOp op → place_op_at (place_kind op) (place_fields op ++ rest) ≡ Ok (op, rest)
unfolding place_op_at
place_again (places.Put state song frame) rest good =
    ap (made (λ x. places.Put x.0 x.1.0 x.1.1)) (spot_reads.again (state, (song, frame)) rest (tt, good))
place_again (places.Played id) rest good = ap (made places.Played) (u32_is.again id rest good)
place_again places.Begins rest good = refl
place_again (places.Leaves id) rest good = ap (made places.Leaves) (u32_is.again id rest good)

-- ---- an op

-- what an op that is read in a layout is
abbrev pub IsReadOp : Layout → Op → Type 0
IsReadOp layout op = IsOp op × (IsOpIn layout op × IsKeptOp layout.profile op)

-- an op of a kind alone
alone : (layout : Layout) {A : Type 0} (f : A → Op) (kind found : ℕ) (bytes rest : List ℕ) (at : List ℕ → Field A) (text : A
    → List ℕ) (Fits : A → Type 0)
    → IsField at text Fits
    → Takes bytes (found ∷ []) rest → eqb found kind ≡ true → ((a : A) → kind ∷ text a ≡ op_bytes layout.profile (f a))
    → ((a : A) → Fits a → IsReadOp layout (f a))
    → (y : Op × List ℕ) → made f (at rest) ≡ Ok y → Takes bytes (op_bytes layout.profile y.0) y.1 × IsReadOp layout y.0
alone layout f kind found bytes rest at text Fits field front is_kind spelled keeps y e =
    let b = bind_ok (at rest) _ y e in
    let t = field.takes rest b.0 front.rest_fits b.1 in
    let named : Takes bytes (kind ∷ []) rest = subst (λ (k : ℕ). Takes bytes (k ∷ []) rest) (eqb-true _ _ is_kind) front in
    let joined : Takes bytes (kind ∷ text b.0.0) b.0.1 = Takes-then bytes (kind ∷ []) rest (text b.0.0) b.0.1 named t.0 in
    subst (λ z. Takes bytes (op_bytes layout.profile z.0) z.1 × IsReadOp layout z.0) (ok_is (f b.0.0, b.0.1) y b.2)
    (subst (λ (w : List ℕ). Takes bytes w b.0.1) (spelled b.0.0) joined, keeps b.0.0 t.1)

-- an op of a family
of_family : (layout : Layout) {B : Type 0} (f : B → Op) (kind_of : B → ℕ) (fields : B → List ℕ) (Good : B
    → Type 0) (found : ℕ) (bytes rest : List ℕ)
    (field : Field B)
    → Takes bytes (found ∷ []) rest → ((z : B × List ℕ) → field ≡ Ok z → IsKind kind_of fields Good found rest z)
    → ((b : B) → kind_of b ∷ fields b ≡ op_bytes layout.profile (f b)) → ((b : B) → Good b → IsReadOp layout (f b))
    → (y : Op × List ℕ) → made f field ≡ Ok y
    → Takes bytes (op_bytes layout.profile y.0) y.1 × IsReadOp layout y.0
of_family layout f kind_of fields Good found bytes rest field front takes spelled keeps y e =
    let b = bind_ok field _ y e in
    let k = takes b.0 b.1 in
    let named : Takes bytes (kind_of b.0.0 ∷ []) rest = subst (λ (n : ℕ). Takes bytes (n ∷ []) rest) (sym k.named) front in
    let joined : Takes bytes (kind_of b.0.0 ∷ fields b.0.0) b.0.1 =
    Takes-then bytes (kind_of b.0.0 ∷ []) rest (fields b.0.0) b.0.1 named k.taken in
    subst (λ z. Takes bytes (op_bytes layout.profile z.0) z.1 × IsReadOp layout z.0) (ok_is (f b.0.0, b.0.1) y b.2)
    (subst (λ (w : List ℕ). Takes bytes w b.0.1) (spelled b.0.0) joined, keeps b.0.0 k.good)

within : (low high n : ℕ) → is_in_range low high n ≡ true → (low ≤ n) × (n ≤ high)
within low high n h = let b = both_true (leb low n) (leb n high) h in (leb-true _ _ b.0, leb-true _ _ b.1)

-- the wide profile alone has ops on the place
place_within : (profile : Profile) (n : ℕ) → is_place_kind profile n ≡ true → (22 ≤ n) × ((n ≤ 25) × KeepsPlace profile)
place_within Named n h = absurd (false≢true h)
place_within Wide n h = let r = within 22 25 n h in (r.0, (r.1, tt))

-- and one that tells a time
time_within : (profile : Profile) (n : ℕ) → is_time_kind profile n ≡ true → (eqb n 21 ≡ true) × KeepsPlace profile
time_within Named n h = absurd (false≢true h)
time_within Wide n h = (h, tt)

pub op_takes : (layout : Layout) (bytes : List ℕ) (y : Op × List ℕ) → IsBytes bytes → op_at layout bytes ≡ Ok y
    → Takes bytes (op_bytes layout.profile y.0) y.1 × IsReadOp layout y.0
unfolding op_at
op_takes layout bytes y fits e =
    let b = bind_ok (byte_at bytes) _ y e in
    let k = b.0.0 in
    let rest = b.0.1 in
    let front = (byte_is.takes bytes b.0 fits b.1).0 in
    elim (chosen (eqb k 1) _ _ (Ok y) b.2) [
      | inl h ↦ alone layout SetOption 1 k bytes rest (λ s. setting_at layout s) _ _ (setting_is layout) front h.0 (λ a. refl) (λ a g.
          (tt, (g, tt))) y h.1
      | inr n1 ↦ elim (chosen (eqb k 2) _ _ (Ok y) n1.1) [
        | inl h ↦ alone layout SetVolume 2 k bytes rest (λ s. volume_at s) _ _ volume_is front h.0 (λ a. refl) (λ a g. (g, (tt, tt))) y h.1
        | inr n2 ↦ elim (chosen (eqb k 3) _ _ (Ok y) n2.1) [
          | inl h ↦ alone layout SetOrder 3 k bytes rest (λ s. u64_at s) _ _ u64_is front h.0 (λ a. refl) (λ a g. (g, (tt, tt))) y h.1
          | inr n3 ↦ elim (chosen (is_in_range 4 9 k) _ _ (Ok y) n3.1) [
            | inl h ↦ let r = within 4 9 k h.0 in of_family layout Queue queue_kind queue_fields IsQueueOp k bytes rest (queue_op_at k
                rest) front
                (λ z f. queue_takes k rest z r.0 r.1 front.rest_fits f) (λ a. refl) (λ a g. (g, (tt, tt))) y h.1
            | inr n4 ↦ elim (chosen (is_in_range 10 16 k) _ _ (Ok y) n4.1) [
              | inl h ↦ let r = within 10 16 k h.0 in of_family layout OfList list_kind list_fields IsListOp k bytes rest (list_op_at k
                  rest) front
                  (λ z f. list_takes k rest z r.0 r.1 front.rest_fits f) (λ a. refl) (λ a g. (g, (tt, tt))) y h.1
              | inr n5 ↦ elim (chosen (is_in_range 17 19 k) _ _ (Ok y) n5.1) [
                | inl h ↦ let r = within 17 19 k h.0 in of_family layout Sticker sticker_kind sticker_fields IsStickerOp k bytes rest
                    (sticker_op_at k rest) front (λ z f. sticker_takes k rest z r.0 r.1 front.rest_fits f) (λ a. refl) (λ a g. (g, (tt, tt)))
                    y h.1
                | inr n6 ↦ elim (chosen (eqb k 20) _ _ (Ok y) n6.1) [
                  | inl h ↦ alone layout Batch 20 k bytes rest (λ s. changes_at layout.profile s) _ _ (changes_is layout.profile) front h.0 (λ a. refl)
                      (λ a g. (g.0, (tt, g.1))) y h.1
                  | inr n7 ↦ elim (chosen (is_time_kind layout.profile k) _ _ (Ok y) n7.1) [
                    | inl h ↦ let r = time_within layout.profile k h.0 in alone layout Timed 21 k bytes rest (λ s. u64_at s) _ _ u64_is
                        front r.0 (λ a. refl) (λ a g. (g, (tt, r.1))) y h.1
                    | inr n8 ↦ elim (chosen (is_place_kind layout.profile k) _ _ (Ok y) n8.1) [
                      | inl h ↦ let r = place_within layout.profile k h.0 in of_family layout Place place_kind place_fields IsPlaceOp k bytes
                          rest (place_op_at k rest) front (λ z f. place_takes k rest z r.0 r.1.0 front.rest_fits f) (λ a. refl)
                          (λ a g. (g, (tt, r.1.1))) y h.1
                      | inr n9 ↦ let h = n9.1 in absurd cc
                    ]
                  ]
                ]
              ]
            ]
          ]
        ]
      ]
    ]

queue_kinds : (layout : Layout) (op : QueueOp) (rest : List ℕ)
    → op_at layout (queue_kind op ∷ rest) ≡ made Queue (queue_op_at (queue_kind op) rest)
unfolding op_at
queue_kinds layout (queue.Add at rows) rest = refl
queue_kinds layout (queue.Delete start end) rest = refl
queue_kinds layout (queue.Move start end to) rest = refl
queue_kinds layout (queue.Swap one other) rest = refl
queue_kinds layout (queue.Shuffle start end) rest = refl
queue_kinds layout (queue.Prio priority ranges) rest = refl

list_kinds : (layout : Layout) (op : ListOp) (rest : List ℕ)
    → op_at layout (list_kind op ∷ rest) ≡ made OfList (list_op_at (list_kind op) rest)
unfolding op_at
list_kinds layout (lists.Save name) rest = refl
list_kinds layout (lists.Add name rows) rest = refl
list_kinds layout (lists.Remove name start end) rest = refl
list_kinds layout (lists.Move name from to) rest = refl
list_kinds layout (lists.Clear name) rest = refl
list_kinds layout (lists.Rename from to) rest = refl
list_kinds layout (lists.Drop name) rest = refl

sticker_kinds : (layout : Layout) (op : StickerOp) (rest : List ℕ)
    → op_at layout (sticker_kind op ∷ rest) ≡ made Sticker (sticker_op_at (sticker_kind op) rest)
unfolding op_at
sticker_kinds layout (stickers.Set uri name value) rest = refl
sticker_kinds layout (stickers.Delete uri name) rest = refl
sticker_kinds layout (stickers.DeleteAll uri) rest = refl

place_kinds : (layout : Layout) (profile : Profile) → layout.profile ≡ profile → KeepsPlace profile → (op : PlaceOp) (rest : List ℕ)
    → op_at layout (place_kind op ∷ rest) ≡ made Place (place_op_at (place_kind op) rest)
unfolding op_at
place_kinds layout Named is none op rest = absurd none
place_kinds layout Wide is keeps (places.Put state song frame) rest = rw is refl
place_kinds layout Wide is keeps (places.Played id) rest = rw is refl
place_kinds layout Wide is keeps places.Begins rest = rw is refl
place_kinds layout Wide is keeps (places.Leaves id) rest = rw is refl

time_kind : (layout : Layout) (profile : Profile) → layout.profile ≡ profile → KeepsPlace profile → (rest : List ℕ)
    → op_at layout (21 ∷ rest) ≡ made Timed (u64_at rest)
unfolding op_at
time_kind layout Named is none rest = absurd none
time_kind layout Wide is keeps rest = rw is refl

pub op_again : (layout : Layout) (op : Op) (rest : List ℕ) → IsOp op → IsOpIn layout op → IsKeptOp layout.profile op
    → op_at layout (op_bytes layout.profile op ++ rest) ≡ Ok (op, rest)
unfolding op_at
op_again layout (SetOption value) rest good in_layout kept = ap (made SetOption) ((setting_is layout).again value rest in_layout)
op_again layout (SetVolume volume) rest good in_layout kept = ap (made SetVolume) (volume_is.again volume rest good)
op_again layout (SetOrder order) rest good in_layout kept = ap (made SetOrder) (u64_is.again order rest good)
op_again layout (Queue op) rest good in_layout kept = queue_kinds layout op (queue_fields op ++ rest)
    ∙ ap (made Queue) (queue_again op rest good)
op_again layout (OfList op) rest good in_layout kept = list_kinds layout op (list_fields op ++ rest) ∙ ap (made OfList) (list_again op rest good)
op_again layout (Sticker op) rest good in_layout kept = sticker_kinds layout op (sticker_fields op ++ rest)
    ∙ ap (made Sticker) (sticker_again op rest good)
op_again layout (Batch changes) rest good in_layout kept = ap (made Batch) ((changes_is layout.profile).again changes rest (good, kept))
op_again layout (Place op) rest good in_layout kept = place_kinds layout layout.profile refl kept op (place_fields op ++ rest)
    ∙ ap (made Place) (place_again op rest good)
op_again layout (Timed seconds) rest good in_layout kept = time_kind layout layout.profile refl kept (u64_bytes seconds ++ rest)
    ∙ ap (made Timed) (u64_is.again seconds rest good)

-- an op takes a byte at least
pub op_spelled : (profile : Profile) (op : Op) → 1 ≤ length (op_bytes profile op)
op_spelled profile (SetOption value) = omega arith
op_spelled profile (SetVolume volume) = omega arith
op_spelled profile (SetOrder order) = omega arith
op_spelled profile (Queue op) = omega arith
op_spelled profile (OfList op) = omega arith
op_spelled profile (Sticker op) = omega arith
op_spelled profile (Batch changes) = omega arith
op_spelled profile (Place op) = omega arith
op_spelled profile (Timed seconds) = omega arith
