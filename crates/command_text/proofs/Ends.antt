-- The ends `group TAG` of a line's words, one by one.
use Rattle.std.proofs.Common.{◌≡◌, ℕ, zero, suc, ◌<◌, List, [], ◌∷◌, ◌++◌, true, false, Result, Ok, Err, refl, sym, ap, ◌∙◌, append_assoc}
use Rattle.std.proofs.Common.{arith, length, take, ◌≤◌, ◌-◌}
use Rattle.command_text.specs.Counts.{Word}
use Rattle.command_text.specs.declared.refusal.CommandRefusal.{CommandRefusal}
use Rattle.command_text.specs.declared.tag_mask.TagMask.{TagMask}
use Rattle.song_files.specs.declared.tag.Tag.{Tag}
use Rattle.command_text.specs.Groups.{end_tag, is_grouped, last_word, part_ends, parted, with_outer, without_end, Parted}
use Rattle.command_text.specs.Masks.{only_tag, with_tags}
use Rattle.filter_expr.specs.Names.{tag_named}
use Rattle.profile.specs.declared.profile.Profile.TheVariants.{Wide}

pub outer_none : (r : Result Parted CommandRefusal) → with_outer [] r ≡ r
outer_none (Ok p) = refl
outer_none (Err refusal) = refl

pub outer_twice : (a b : List Tag) (r : Result Parted CommandRefusal) → with_outer a (with_outer b r) ≡ with_outer (a ++ b) r
outer_twice a b (Ok p) = ap (λ tags. Ok (parted p.words tags)) (sym (append_assoc a b p.tags))
outer_twice a b (Err refusal) = refl

-- the words before so many are taken away
length_taken : (end : ℕ) (words : List Word) → end ≤ length words → length (take end words) ≡ end
length_taken zero words le = refl
length_taken (suc end) [] le = absurd (omega arith)
length_taken (suc end) (word ∷ words) le = ap suc (length_taken end words (omega arith))

taken_twice : (less end : ℕ) (words : List Word) → less ≤ end → take less (take end words) ≡ take less words
taken_twice zero end words le = refl
taken_twice (suc less) zero words le = absurd (omega arith)
taken_twice (suc less) (suc end) [] le = refl
taken_twice (suc less) (suc end) (word ∷ words) le = ap (λ ws. word ∷ ws) (taken_twice less end words (omega arith))

pub end_taken : (end : ℕ) (words : List Word) → end ≤ length words → without_end (take end words) ≡ take (end - 2) words
end_taken end words le =
    ap (λ n. take (n - 2) (take end words)) (length_taken end words le) ∙ taken_twice (end - 2) end words (omega arith)

pub no_end : (left : ℕ) (before : TagMask) (words : List Word) → is_grouped words ≡ false
    → part_ends left before words ≡ Ok (parted words [])
unfolding part_ends
no_end zero before words e = refl
no_end (suc left) before words e = rw e refl

pub spent : (left : ℕ) (before : TagMask) (words : List Word) → left ≤ 0 → part_ends left before words ≡ Ok (parted words [])
unfolding part_ends
spent zero before words le = refl
spent (suc left) before words le = absurd (omega arith)

pub bad_end : (left : ℕ) (before : TagMask) (words : List Word) (refusal : CommandRefusal) → 0 < left → is_grouped words ≡ true
    → end_tag before (tag_named Wide (last_word words)) ≡ Err refusal → part_ends left before words ≡ Err refusal
unfolding part_ends
bad_end zero before words refusal lt e is = absurd (omega arith)
bad_end (suc left) before words refusal lt e is = rw (e, is) refl

pub good_end : (left next : ℕ) (before : TagMask) (words : List Word) (tag : Tag) → left ≡ suc next → is_grouped words ≡ true
    → end_tag before (tag_named Wide (last_word words)) ≡ Ok tag
    → part_ends left before words ≡ with_outer (tag ∷ []) (part_ends next (with_tags before (only_tag tag)) (without_end words))
unfolding part_ends
good_end left next before words tag one e is = rw (one, e, is) refl
