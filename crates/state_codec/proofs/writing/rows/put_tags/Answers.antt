use Rattle.std.proofs.Common.{◌≡◌, ℕ, ◌<◌, List, ◌++◌, length, take, ap, ◌∙◌, arith}
use Rattle.std.specs.Prelude.{Option}
use Rattle.std.specs.List.{flat_map}
use Rattle.std.proofs.lemmas.List.{length-append}
use Rattle.std.proofs.lemmas.List.Folds.{length-flat_map-take}
use Rattle.song_files.specs.Tags.{first_text}
use Rattle.song_db.specs.Row.{six_texts}
use Rattle.state_codec.specs.SpellingRows.{tag_bytes}
use Rattle.state_codec.proofs.RoomLaws.{more_items}
use Rattle.state_codec.proofs.TagLaws.{six_at}
use Rattle.state_codec.proofs.writing.rows.put_tags.Goals as goal

pub put_tag-requires : goal.put_tag-requires
put_tag-requires c =
    let i = c.loop-number.number in
    let texts = six_texts c.args.tags.now in
    let text = first_text c.args.tags.now c.at.result in
    let lt : i < length texts = omega arith in
    omega (
      arith,
      c.requires,
      c.loop-number.out.ok.0,
      c.args.out.now.ok.0,
      c.loop-number.invariant.1,
      ap length c.loop-number.invariant.0,
      length-append c.args.out.now.items (flat_map tag_bytes (take i texts)),
      length-flat_map-take tag_bytes texts i text lt,
      ap (λ (x : Option (List ℕ)). length (tag_bytes x)) (six_at c.args.tags.now i c.at.result text (omega arith) c.at.ensures.tag),
    )

pub loop-number-preserved : goal.loop-number-preserved
loop-number-preserved c =
    let i = c.loop-number.number in
    let texts = six_texts c.args.tags.now in
    let text = first_text c.args.tags.now c.at.result in
    let lt : i < length texts = omega arith in (
      c.put_tag.ensures.items
          ∙ more_items tag_bytes c.args.out.now.items c.loop-number.out.items texts i text lt
          (six_at c.args.tags.now i c.at.result text (omega arith) c.at.ensures.tag) c.loop-number.invariant.0,
      c.put_tag.ensures.capacity ∙ c.loop-number.invariant.1,
    )

pub returns : goal.returns
returns c =
    let six : c.loop-number.number ≡ 6 = omega arith in
    record {
      items = c.loop-number.invariant.0
          ∙ ap (λ n. c.args.out.now.items ++ flat_map tag_bytes (take n (six_texts c.args.tags.now))) six;
      capacity = c.loop-number.invariant.1;
    }
