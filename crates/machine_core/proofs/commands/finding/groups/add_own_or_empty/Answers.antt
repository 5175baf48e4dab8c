use Rattle.std.proofs.Common.{◌≡◌, ℕ, List, [], ◌∷◌, true, false, not, map, Option, Some, None, Bor, ap, sym, ◌∙◌}
use Rattle.std.specs.Option.{option_copied, is_some}
use Rattle.profile.specs.declared.profile.Profile.TheVariants.{Wide}
use Rattle.song_files.specs.Tags.{TagText, first_text, texts_of}
use Rattle.song_files.specs.declared.tag.Tag.{Tag}
use Rattle.machine_core.specs.Finding.{or_empty}
use Rattle.machine_core.specs.Grouped.{run_of, with_song}
use Rattle.machine_core.proofs.Finding.Values.{texts_none, texts_some}
use Rattle.machine_core.proofs.commands.finding.groups.add_own_or_empty.Goals as goal

none_first : (tags : List TagText) (tag : Tag) (text : Option (Bor (List ℕ))) → option_copied text ≡ first_text tags tag
    → is_some text ≡ false → or_empty Wide (texts_of tags tag) ≡ [] ∷ []
none_first tags tag None is none = texts_none tags tag (sym is)
none_first tags tag (Some text) is none = absurd (cc)

some_first : (tags : List TagText) (tag : Tag) (text : Option (Bor (List ℕ))) → option_copied text ≡ first_text tags tag
    → is_some text ≡ true → or_empty Wide (texts_of tags tag) ≡ texts_of tags tag
some_first tags tag None is some = absurd (cc)
some_first tags tag (Some text) is some = texts_some tags tag text.now (sym is)

pub returns-then-is_none : goal.returns-then-is_none
returns-then-is_none c =
    let row = c.args.row.now in
    let first = c.get.ensures ∙ ap (λ tags. first_text tags c.args.tag) c.tags.ensures in
    rw (none_first row.tags c.args.tag c.get.result first (c.is_none.ensures ∙ ap not c.if-is_none.true)) c.add_text.ensures

pub returns : goal.returns
returns c =
    let row = c.args.row.now in
    let first = c.get.ensures ∙ ap (λ tags. first_text tags c.args.tag) c.tags.ensures in
    rw (some_first row.tags c.args.tag c.get.result first (c.is_none.ensures ∙ ap not c.if-is_none.false)) c.add_own.ensures
