-- A name has no byte that ends a name, so it is read whole.
use Rattle.std.proofs.Common.{◌≡◌, inl, inr, ℕ, suc, ◌<◌, Bool, true, false, nat_lt, nat_eq, List, [], ◌∷◌, ◌++◌, length, map, Option, Some}
use Rattle.std.proofs.Common.{None, Ok, refl, sym, ap, ◌∙◌, arith}
use Rattle.std.specs.Prelude.{codes, not, ◌&&◌, cond, option_map}
use Rattle.std.proofs.lemmas.Bool.{false≢true, cases_Bool, cases_lt, agree_below_at, or_parts, le-ltb, ltb-true}
use Rattle.std.proofs.lemmas.Bool.{and_parts, not-true, eqb-true}
use Rattle.std.specs.List.{list_any, list_all, find}
use Rattle.std.specs.Char.{to_ascii_lowercase}
use Rattle.std.specs.Str.{str_eq_ignore_ascii_case}
use Rattle.song_files.specs.Tag.{Row as TagRow, table, same_letters, tag_named as any_tag_named}
use Rattle.song_files.specs.declared.tag.Tag.{Tag}
use Rattle.profile.specs.declared.profile.Profile.{Profile}
use Rattle.filter_expr.specs.declared.name.Key.{Key}
use Rattle.filter_expr.specs.Names.{known, is_file_name, other_key, key_of, key_named}
use Rattle.profile.specs.declared.profile.Profile.TheVariants.{Named, Wide}
use Rattle.filter_expr.specs.Parts.{is_blank, ends_name, name_in, behind_name, key_at, key_from, key_found}
use Rattle.std.proofs.lemmas.Slice.Eq.{bytes_eq-Decides}

pub lower_ends : (b : ℕ) → ends_name (to_ascii_lowercase b) ≡ ends_name b
lower_ends b = elim (cases_lt b 91) [
  | inl small ↦ agree_below_at (λ n. ends_name (to_ascii_lowercase n)) ends_name 91 b refl small
  | inr large ↦
      let low : nat_lt b 65 ≡ false = le-ltb b 65 (omega arith) in
      let high : nat_lt b 91 ≡ false = le-ltb b 91 large in
      rw (low, high) refl
]

lower_any : (name : List ℕ) → list_any ends_name (map to_ascii_lowercase name) ≡ list_any ends_name name
lower_any [] = refl
lower_any (b ∷ name) = rw (lower_ends b, lower_any name) refl

-- no byte of it ends a name, and there is one
pub record IsName (name : List ℕ) : Type 0 where
  pub whole : list_any ends_name name ≡ false
  pub some : 0 < length name

lower_length : (name : List ℕ) → length (map to_ascii_lowercase name) ≡ length name
lower_length [] = refl
lower_length (b ∷ name) = ap suc (lower_length name)

same_name : (name word : List ℕ) → map to_ascii_lowercase name ≡ map to_ascii_lowercase word → IsName word → IsName name
same_name name word lower good = record {
  whole = sym (lower_any name) ∙ ap (list_any ends_name) lower ∙ lower_any word ∙ good.whole;
  some = omega (arith, good.some, lower_length name, lower_length word, ap length lower);
}

-- the same but for the case of ASCII letters
same_letters_name : (name word : List ℕ) → str_eq_ignore_ascii_case name word ≡ true → IsName word → IsName name
same_letters_name name word h good =
    same_name name word ((bytes_eq-Decides (map to_ascii_lowercase name) (map to_ascii_lowercase word)).0 h) good

is_name : List ℕ → Bool
is_name name = not (list_any ends_name name) && nat_lt 0 (length name)

is_name_so : (name : List ℕ) → is_name name ≡ true → IsName name
unfolding is_name
is_name_so name h =
    let both = and_parts (not (list_any ends_name name)) (nat_lt 0 (length name)) h in
    record { whole = not-true (list_any ends_name name) both.0; some = ltb-true 0 (length name) both.1 }

-- the names of all tags are names
all_names : list_all (λ (row : TagRow). is_name row.name) table ≡ true
unfolding table is_name
all_names = refl

row_name : (name : List ℕ) (rows : List TagRow) (row : TagRow) → list_all (λ (row : TagRow). is_name row.name) rows ≡ true
    → find (λ (row : TagRow). same_letters row.name name) rows ≡ Some row → IsName name
row_name name [] row good h = absurd (cc)
row_name name (r ∷ rows) row good h =
    let both = and_parts (is_name r.name) (list_all (λ (row : TagRow). is_name row.name) rows) good in
    by_cases (same_letters r.name name) refl (row_name name rows row both.1) h both.0
  where
    by_cases : (b : Bool) → same_letters r.name name ≡ b
        → (find (λ (row : TagRow). same_letters row.name name) rows ≡ Some row → IsName name)
        → cond b (Some r) (find (λ (row : TagRow). same_letters row.name name) rows) ≡ Some row → is_name r.name ≡ true → IsName name
    by_cases true e later h one =
        same_name name r.name (sym ((bytes_eq-Decides (map to_ascii_lowercase r.name) (map to_ascii_lowercase name)).0 e))
        (is_name_so r.name one)
    by_cases false e later h one = later h

tag_name : (name : List ℕ) (tag : Tag) → any_tag_named name ≡ Some tag → IsName name
unfolding any_tag_named
tag_name name tag h = by_cases (find (λ (row : TagRow). same_letters row.name name) table) refl h
  where
    by_cases : (found : Option TagRow) → find (λ (row : TagRow). same_letters row.name name) table ≡ found
        → option_map (λ (row : TagRow). row.tag) found ≡ Some tag → IsName name
    by_cases None e h = absurd (cc)
    by_cases (Some row) e h = row_name name table row all_names e

pub key_name : (profile : Profile) (name : List ℕ) (key : Key) → key_named profile name ≡ Some key → IsName name
unfolding key_named
key_name profile name key h = by_cases (any_tag_named name) refl h
  where
    file_name : (profile : Profile) (name : List ℕ) → is_file_name profile name ≡ true → IsName name
    file_name Named name t = same_letters_name name (codes "file") t (record { whole = refl; some = omega arith })
    file_name Wide name t =
        elim (cases_Bool (str_eq_ignore_ascii_case name (codes "file"))) [
          | inl is ↦ same_letters_name name (codes "file") is (record { whole = refl; some = omega arith })
          | inr n ↦ same_letters_name name (codes "filename") (let other : str_eq_ignore_ascii_case name (codes "filename") ≡ true =
              rw n at t in other) (record { whole = refl; some = omega arith })
        ]

    none_wide : (name : List ℕ) → str_eq_ignore_ascii_case name (codes "modified-since") ≡ false
        → str_eq_ignore_ascii_case name (codes "audioformat") ≡ false → other_key Wide name ≡ None
    none_wide name n1 n2 = rw (n1, n2) refl

    named_other : (profile : Profile) (name : List ℕ) (key : Key) → other_key profile name ≡ Some key → IsName name
    named_other Named name key h = absurd (cc)
    named_other Wide name key h =
        elim (cases_Bool (str_eq_ignore_ascii_case name (codes "modified-since"))) [
          | inl t ↦ same_letters_name name (codes "modified-since") t (record { whole = refl; some = omega arith })
          | inr n1 ↦ elim (cases_Bool (str_eq_ignore_ascii_case name (codes "audioformat"))) [
            | inl t ↦ same_letters_name name (codes "audioformat") t (record { whole = refl; some = omega arith })
            | inr n2 ↦ absurd (let none = none_wide name n1 n2 in cc)
          ]
        ]

    behind_three : (name : List ℕ) → str_eq_ignore_ascii_case name (codes "any") ≡ false → is_file_name profile name ≡ false
        → str_eq_ignore_ascii_case name (codes "base") ≡ false → key_of profile None name ≡ other_key profile name
    behind_three name n1 n2 n3 = rw (n1, n2, n3) refl

    other_name : (name : List ℕ) (key : Key) → key_of profile None name ≡ Some key → IsName name
    other_name name key h =
        elim (cases_Bool (str_eq_ignore_ascii_case name (codes "any"))) [
          | inl t ↦ same_letters_name name (codes "any") t (record { whole = refl; some = omega arith })
          | inr n7 ↦ elim (cases_Bool (is_file_name profile name)) [
            | inl t ↦ file_name profile name t
            | inr n8 ↦ elim (cases_Bool (str_eq_ignore_ascii_case name (codes "base"))) [
              | inl t ↦ same_letters_name name (codes "base") t (record { whole = refl; some = omega arith })
              | inr n9 ↦ named_other profile name key (sym (behind_three name n7 n8 n9) ∙ h)
            ]
          ]
        ]

    by_cases : (found : Option Tag) → any_tag_named name ≡ found → key_of profile (known profile found) name ≡ Some key → IsName name
    by_cases None e k = other_name name key k
    by_cases (Some tag) e k = tag_name name tag e

-- a name ends behind it
abbrev pub EndsName : List ℕ → Type 0
EndsName [] = Unit {0}
EndsName (b ∷ tail) = ends_name b ≡ true

pub blank_ends : (b : ℕ) → is_blank b ≡ true → ends_name b ≡ true
blank_ends b h = rw h refl

pub ends_blanks : (gap tail : List ℕ) → list_all is_blank gap ≡ true → EndsName tail → EndsName (gap ++ tail)
ends_blanks [] tail h e = e
ends_blanks (b ∷ gap) tail h e = blank_ends b (and_parts (is_blank b) (list_all is_blank gap) h).0

-- a name begins with none of the bytes that end it
pub name_starts : (profile : Profile) (name : List ℕ) (key : Key) → key_named profile name ≡ Some key
    → (b : ℕ) × (more : List ℕ) × (name ≡ b ∷ more) × (ends_name b ≡ false)
name_starts profile name key h = by_cases name (key_name profile name key h)
  where
    by_cases : (name : List ℕ) → IsName name → (b : ℕ) × (more : List ℕ) × (name ≡ b ∷ more) × (ends_name b ≡ false)
    by_cases [] good = absurd (omega (arith, good.some))
    by_cases (b ∷ name) good = (b, name, refl, (or_parts (ends_name b) (list_any ends_name name) good.whole).0)

pub no_blank : (b : ℕ) → ends_name b ≡ false → is_blank b ≡ false
no_blank b h = elim (cases_Bool (is_blank b)) [ inl t ↦ absurd (false≢true (sym h ∙ blank_ends b t)) | inr f ↦ f ]

pub no_byte : (byte b : ℕ) → ends_name byte ≡ true → ends_name b ≡ false → nat_eq b byte ≡ false
no_byte byte b e h =
    elim (cases_Bool (nat_eq b byte)) [ inl t ↦ absurd (false≢true (sym h ∙ ap ends_name (eqb-true b byte t) ∙ e)) | inr f ↦ f ]

name_read : (name tail : List ℕ) → list_any ends_name name ≡ false → EndsName tail → name_in (name ++ tail) ≡ name
unfolding name_in
name_read [] [] h e = refl
name_read [] (b ∷ tail) h e = rw e refl
name_read (b ∷ name) tail h e =
    let both = or_parts (ends_name b) (list_any ends_name name) h in
    rw both.0 (ap (λ (s : List ℕ). b ∷ s) (name_read name tail both.1 e))

behind_read : (name tail : List ℕ) → list_any ends_name name ≡ false → EndsName tail → behind_name (name ++ tail) ≡ tail
unfolding behind_name
behind_read [] [] h e = refl
behind_read [] (b ∷ tail) h e = rw e refl
behind_read (b ∷ name) tail h e =
    let both = or_parts (ends_name b) (list_any ends_name name) h in
    rw both.0 (behind_read name tail both.1 e)

name_parts : (text : List ℕ) → text ≡ name_in text ++ behind_name text
unfolding name_in behind_name
name_parts [] = refl
name_parts (b ∷ text) = by_cases (ends_name b) refl (name_parts text)
  where
    by_cases : (c : Bool) → ends_name b ≡ c → text ≡ name_in text ++ behind_name text
        → b ∷ text ≡ name_in (b ∷ text) ++ behind_name (b ∷ text)
    by_cases true e more = rw e refl
    by_cases false e more = rw e (ap (λ (s : List ℕ). b ∷ s) more)

from_name : (profile : Profile) (name : List ℕ) (key : Key) (behind : List ℕ) → 0 < length name → key_named profile name ≡ Some key
    → key_from profile name behind ≡ Ok (key, behind)
from_name profile [] key behind lt h = absurd (omega arith)
from_name profile (b ∷ name) key behind lt h = ap (λ found. key_found found (b ∷ name) behind) h

pub key_again : (profile : Profile) (name tail : List ℕ) (key : Key) → key_named profile name ≡ Some key → EndsName tail
    → key_at profile (name ++ tail) ≡ Ok (key, tail)
unfolding key_at
key_again profile name tail key h e =
    let good = key_name profile name key h in
    rw (name_read name tail good.whole e, behind_read name tail good.whole e) (from_name profile name key tail good.some h)

name_from : (profile : Profile) (name behind rest : List ℕ) (key : Key) → key_from profile name behind ≡ Ok (key, rest)
    → (key_named profile name ≡ Some key) × (behind ≡ rest)
name_from profile [] behind rest key h = absurd (cc)
name_from profile (b ∷ name) behind rest key h = by_cases (key_named profile (b ∷ name)) refl h
  where
    by_cases : (found : Option Key) → key_named profile (b ∷ name) ≡ found → key_found found (b ∷ name) behind ≡ Ok (key, rest)
        → (key_named profile (b ∷ name) ≡ Some key) × (behind ≡ rest)
    by_cases None e k = absurd (cc)
    by_cases (Some other) e k =
        let same : ◌≡◌ {A = Key × List ℕ} (other, behind) (key, rest) = cc in
        (e ∙ ap (λ (p : Key × List ℕ). Some p.0) same, ap (λ (p : Key × List ℕ). p.1) same)

pub key_found_so : (profile : Profile) (text rest : List ℕ) (key : Key) → key_at profile text ≡ Ok (key, rest)
    → (name : List ℕ) × (key_named profile name ≡ Some key) × (text ≡ name ++ rest)
unfolding key_at
key_found_so profile text rest key h =
    let found = name_from profile (name_in text) (behind_name text) rest key h in
    (name_in text, found.0, name_parts text ∙ ap (λ (s : List ℕ). name_in text ++ s) found.1)
