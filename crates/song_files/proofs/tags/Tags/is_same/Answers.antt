use Rattle.std.proofs.Common.{◌≡◌, Bool, true, false, refl, sym, ◌∙◌}
use Rattle.std.specs.Prelude.{not}
use Rattle.std.specs.Str.{bytes_eq}
use Rattle.std.proofs.lemmas.Slice.Eq.{bytes_eq-Decides}
use denote.Enum.Bare.{differs_false}
use Rattle.song_files.specs.contracts.tag.Tag.{the_type}
use Rattle.song_files.proofs.TagTexts.{same_more}
use Rattle.song_files.proofs.tags.Tags.is_same.Goals as goal

untrue : (b : Bool) → not b ≡ false → b ≡ true
untrue true isnt = refl
untrue false isnt = cc

pub loop-i-preserved : goal.loop-i-preserved
loop-i-preserved c =
    let tag : c.at-tag.result.0 ≡ c.at-other_tag.result.0 =
    differs_false the_type tt c.at-tag.result.0 c.at-other_tag.result.0 (sym c.ne.ensures ∙ c.if-ne.false) in
    let text : c.at-tag.result.1.now ≡ c.at-other_tag.result.1.now =
    (bytes_eq-Decides c.at-tag.result.1.now c.at-other_tag.result.1.now).0
    (untrue (bytes_eq c.at-tag.result.1.now c.at-other_tag.result.1.now) (sym c.ne-else-ne.ensures ∙ c.if-ne-2.false)) in
    same_more c.args.self.now c.args.other.now c.loop-i.i _ _ c.at-tag.ensures c.at-other_tag.ensures (cc) c.loop-i.invariant
