-- The tag of a FLAC file, by its parts.
use Rattle.std.proofs.Common.{◌≡◌, ℕ, List, length, ap, ◌∙◌, sym, refl, IfOk, Some, None}
use Rattle.std.specs.Prelude.{Option, Result, option_map}
use Rattle.std.proofs.lemmas.Result.{IfOk-weaker}
use Rattle.id3_tags.specs.Writing.{WrittenText}
use Rattle.flac.specs.Pictures.{PicturePlace}
use Rattle.flac.specs.declared.head.FlacHead.{FlacHead}
use Rattle.as_wave.specs.FlacTag.{texts_for, cover_in, cover_of, tag_bytes, tag_of}
use Rattle.as_wave.specs.FlacTail.{tag_at}
use Rattle.as_wave.specs.declared.flac_tag.FlacTag.{FlacTag}

tag_of_is : (file : List ℕ) (head : FlacHead) → tag_of file head ≡ tag_bytes file (texts_for head.comments) (cover_of file head)
unfolding tag_of
tag_of_is file head = refl

pub tag_by_parts : {E : Type 0} (r : Result (Option FlacTag) E) (file : List ℕ) (head : FlacHead) (texts : List WrittenText)
    (cover : Option PicturePlace) → texts ≡ texts_for head.comments → cover ≡ cover_in (length file) head.pictures
    → IfOk r (λ tag. tag_bytes file texts cover ≡ option_map (tag_at file) tag)
    → IfOk r (λ tag. tag_of file head ≡ option_map (tag_at file) tag)
tag_by_parts r file head texts cover same found h =
    IfOk-weaker r _ _ (λ tag made. tag_of_is file head ∙ ap (λ ts. tag_bytes file ts (cover_of file head)) (sym same)
    ∙ ap (tag_bytes file texts) (sym found) ∙ made) h
