-- Rows that say the same are equal.
use Rattle.std.proofs.Common.{◌≡◌, ℕ, Bool, true, false, ◌&&◌, List, [], ◌∷◌, Some, None, nat_eq, refl, sym, ap, ◌∙◌, arith}
use Rattle.std.specs.Prelude.{Option, ◌↔◌, IsTrue}
use Rattle.std.proofs.lemmas.Bool.Decides.{nat_tests}
use Rattle.std.proofs.lemmas.Slice.Eq.{bytes_eq-Decides}
use Rattle.std.specs.Str.{bytes_eq}
use Rattle.song_files.specs.Tag.{is_tag}
use Rattle.song_files.specs.Tags.{TagText}
use Rattle.song_files.specs.declared.folder.FileStamp.{FileStamp}
use Rattle.song_files.specs.declared.tag.Tag.{Tag}
use Rattle.song_files.proofs.TagNumbers.{is_tag_refl, is_tag_same}
use Rattle.song_db.specs.Row.{Row}
use Rattle.song_db.specs.Same.{same_tags, same_stamp, same_row}

both : (a b : Bool) → (a && b) ≡ true → (a ≡ true) × (b ≡ true)
both true b h = (refl, h)
both false b h = absurd (cc)

number_same : (m n : ℕ) → nat_eq m n ≡ true → m ≡ n
number_same m n h = grind (arith, nat_tests)

number_itself : (n : ℕ) → nat_eq n n ≡ true
number_itself n = grind (arith, nat_tests)

tags_same : (xs ys : List TagText) → same_tags xs ys ≡ true → xs ≡ ys
tags_same [] [] h = refl
tags_same [] (y ∷ ys) h = absurd (cc)
tags_same (x ∷ xs) [] h = absurd (cc)
tags_same (x ∷ xs) (y ∷ ys) h =
    let parts = both (is_tag x.tag y.tag) (bytes_eq x.text y.text && same_tags xs ys) h in
    let more = both (bytes_eq x.text y.text) (same_tags xs ys) parts.1 in
    let rest : xs ≡ ys = tags_same xs ys more.1 in
    one_same x.tag y.tag x.text y.text xs ys (is_tag_same x.tag y.tag parts.0) ((bytes_eq-Decides x.text y.text).0 more.0) rest
  where
    one_same : (a b : Tag) (s t : List ℕ) (xs ys : List TagText) → a ≡ b → s ≡ t → xs ≡ ys
        → ◌≡◌ {A = List TagText} (record { tag = a; text = s } ∷ xs) (record { tag = b; text = t } ∷ ys)
    one_same a b s t xs ys e f g = cc

pub tags_itself : (xs : List TagText) → same_tags xs xs ≡ true
tags_itself [] = refl
tags_itself (x ∷ xs) = rw (is_tag_refl x.tag, (bytes_eq-Decides x.text x.text).1 refl) (tags_itself xs)

-- a test that says whether they are equal is this one
pub tags_told : (xs ys : List TagText) (told : Bool) → IsTrue told ↔ (xs ≡ ys) → told ≡ same_tags xs ys
tags_told xs ys told is = by_cases told is (same_tags xs ys) refl
  where
    by_cases : (told : Bool) → IsTrue told ↔ (xs ≡ ys) → (b : Bool) → same_tags xs ys ≡ b → told ≡ b
    by_cases true is true h = refl
    by_cases true is false h =
        let same : xs ≡ ys = is.0 refl in
        let itself : same_tags xs ys ≡ true = ap (same_tags xs) (sym same) ∙ tags_itself xs in
        absurd (cc)
    by_cases false is true h = is.1 (tags_same xs ys h)
    by_cases false is false h = refl

stamp_same : (a b : Option FileStamp) → same_stamp a b ≡ true → a ≡ b
stamp_same None None h = refl
stamp_same None (Some b) h = absurd (cc)
stamp_same (Some a) None h = absurd (cc)
stamp_same (Some a) (Some b) h =
    let parts = both (nat_eq a.modified b.modified) (nat_eq a.length b.length) h in
    one_same a.modified b.modified a.length b.length (number_same a.modified b.modified parts.0) (number_same a.length b.length parts.1)
  where
    one_same : (m n k l : ℕ) → m ≡ n → k ≡ l
        → ◌≡◌ {A = Option FileStamp} (Some (record { modified = m; length = k })) (Some (record { modified = n; length = l }))
    one_same m n k l e f = cc

pub stamp_itself : (a : Option FileStamp) → same_stamp a a ≡ true
stamp_itself None = refl
stamp_itself (Some a) = rw (number_itself a.modified, number_itself a.length) refl

pub row_same : (a b : Row) → same_row a b ≡ true → a ≡ b
row_same a b h =
    let uri = both _ _ h in
    let rate = both _ _ uri.1 in
    let channels = both _ _ rate.1 in
    let first = both _ _ channels.1 in
    let frames = both _ _ first.1 in
    let u : a.uri ≡ b.uri = (bytes_eq-Decides a.uri b.uri).0 uri.0 in
    let r : a.rate ≡ b.rate = number_same a.rate b.rate rate.0 in
    let c : a.channels ≡ b.channels = number_same a.channels b.channels channels.0 in
    let f : a.first_byte ≡ b.first_byte = number_same a.first_byte b.first_byte first.0 in
    let n : a.frames ≡ b.frames = number_same a.frames b.frames frames.0 in
    let tags = both _ _ frames.1 in
    let t : a.tags ≡ b.tags = tags_same a.tags b.tags tags.0 in
    let s : a.stamp ≡ b.stamp = stamp_same a.stamp b.stamp tags.1 in
    same_fields a.uri b.uri a.rate b.rate a.channels b.channels a.first_byte b.first_byte a.frames b.frames a.tags b.tags a.stamp
    b.stamp u r c f n t s
  where
    same_fields : (u u' : List ℕ) (r r' c c' f f' n n' : ℕ) (t t' : List TagText) (s s' : Option FileStamp) → u ≡ u' → r ≡ r' → c ≡ c'
        → f ≡ f' → n ≡ n' → t ≡ t' → s ≡ s'
        → ◌≡◌ {A = Row} (record { uri = u; rate = r; channels = c; first_byte = f; frames = n; tags = t; stamp = s }) (record {
          uri = u';
          rate = r';
          channels = c';
          first_byte = f';
          frames = n';
          tags = t';
          stamp = s';
        })
    same_fields u u' r r' c c' f f' n n' t t' s s' a b d e g h i = cc

row_itself : (a : Row) → same_row a a ≡ true
row_itself a =
    rw (
      (bytes_eq-Decides a.uri a.uri).1 refl,
      number_itself a.rate,
      number_itself a.channels,
      number_itself a.first_byte,
      number_itself a.frames,
    ) (rw (tags_itself a.tags) (stamp_itself a.stamp))

pub same_exactly : (a b : Row) (told : Bool) → told ≡ same_row a b → IsTrue told ↔ (a ≡ b)
same_exactly a b told is = (λ yes. row_same a b (sym is ∙ yes), λ same. is ∙ ap (same_row a) (sym same) ∙ row_itself a)
