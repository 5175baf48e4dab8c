-- Tags named one by one.
use Rattle.std.proofs.Common.{◌≡◌, ℕ, zero, suc, ◌+◌, ◌<◌, ◌≤◌, List, [], ◌∷◌, length, get_or, drop, Option, Some, None}
use Rattle.std.proofs.Common.{refl, sym, ap, ◌∙◌, arith, add-one, drop-cons}
use Rattle.profile.specs.declared.profile.Profile.TheVariants.{Wide}
use Rattle.filter_expr.specs.Names.{tag_named}
use Rattle.song_files.specs.declared.tag.Tag.{Tag}
use Rattle.command_text.specs.declared.tag_mask.TagMask.{TagMask}
use Rattle.command_text.specs.Counts.{Word}
use Rattle.command_text.specs.Masks.{only_tag, with_named, with_tags}

item_at : {A : Type 0} (s : List A) (i : ℕ) (x : A) → i < length s → x ≡ get_or s i x → drop i s ≡ x ∷ drop (i + 1) s
item_at s i x h e = rw (add-one, drop-cons s i x) (ap (λ y. y ∷ drop (suc i) s) (sym e))

none_left : {A : Type 0} (s : List A) (q : ℕ) → length s ≤ q → drop q s ≡ []
none_left [] zero h = refl
none_left [] (suc q) h = refl
none_left (c ∷ s) zero h = absurd (omega arith)
none_left (c ∷ s) (suc q) h = none_left s q (omega arith)

pub named_more : (mask whole : TagMask) (words : List Word) (i : ℕ) (word bytes : Word) (tag : Tag) (rest : Option TagMask)
    → i < length words
    → word ≡ get_or words i word → bytes ≡ word → Some tag ≡ tag_named Wide bytes → with_named mask (drop i words) ≡ rest
    → whole ≡ with_tags mask (only_tag tag) → with_named whole (drop (i + 1) words) ≡ rest
unfolding with_named
named_more mask whole words i word bytes tag rest lt at same is before new =
    ap (λ (n : TagMask). with_named n (drop (i + 1) words)) new
    ∙ sym (ap (with_named mask) (item_at words i word lt at) ∙ rw (sym (is ∙ ap (tag_named Wide) same)) refl) ∙ before

pub named_none : (mask : TagMask) (words : List Word) (i : ℕ) (word bytes : Word) (rest : Option TagMask) → i < length words
    → word ≡ get_or words i word → bytes ≡ word → None ≡ tag_named Wide bytes → with_named mask (drop i words) ≡ rest → None ≡ rest
unfolding with_named
named_none mask words i word bytes rest lt at same is before =
    sym (ap (with_named mask) (item_at words i word lt at) ∙ rw (sym (is ∙ ap (tag_named Wide) same)) refl) ∙ before

pub named_end : (mask : TagMask) (words : List Word) (i : ℕ) (rest : Option TagMask) → length words ≤ i → with_named mask (drop i words)
    ≡ rest → Some mask ≡ rest
unfolding with_named
named_end mask words i rest le before = sym (ap (with_named mask) (none_left words i le)) ∙ before
