use Rattle.std.proofs.Common.{◌≡◌, Bor, Bool, true, false, not, List, ℕ, Option, Some, None, refl, sym, ap, ◌∙◌}
use Rattle.std.specs.Prelude.{is_none, is_some, option_copied}
use Rattle.song_files.specs.Tags.{TagText, texts_of}
use Rattle.song_files.specs.declared.tag.Tag.{Tag}
use Rattle.filter_expr.specs.Fallback.{told_tag}
use Rattle.filter_expr.specs.Meaning.{is_absent}
use Rattle.filter_expr.proofs.LikeTexts.{tag_absent}
use Rattle.filter_expr.proofs.row_text.is_absent.Goals as goal

lent_none : (none : Bool) (text : Option (Bor (List ℕ))) → not none ≡ is_some text → none ≡ is_none (option_copied text)
lent_none true None is = refl
lent_none false None is = ap not is
lent_none true (Some text) is = ap not is
lent_none false (Some text) is = refl

pub returns-in-OfTag : goal.returns-in-OfTag
returns-in-OfTag c =
    let tags = c.args.row.now.tags in
    let told = c.told_tag.ensures ∙ ap (λ (ts : List TagText). told_tag ts c.in-OfTag.tag) c.tags.ensures in
    rw c.in-OfTag.is (lent_none c.is_none.result c.tag.result (sym c.is_none.ensures) ∙ ap is_none c.tag.ensures
    ∙ tag_absent tags c.told_tag.result ∙ ap (λ (t : Tag). is_absent (texts_of tags t)) told)
