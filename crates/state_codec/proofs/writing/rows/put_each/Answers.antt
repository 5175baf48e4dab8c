use Rattle.std.proofs.Common.{◌≡◌, length, take, get_or, sym, ap, ◌∙◌, arith}
use Rattle.std.specs.List.{flat_map}
use Rattle.std.proofs.lemmas.List.{length-append}
use Rattle.std.proofs.lemmas.List.Folds.{length-flat_map-take}
use Rattle.std.proofs.lemmas.Option.{get_or_from_slice_get, slice_get_within}
use Rattle.song_files.specs.Tags.{TagText}
use Rattle.state_codec.specs.SpellingRows.{numbered_bytes}
use Rattle.state_codec.proofs.RoomLaws.{more_items}
use Rattle.state_codec.proofs.writing.rows.put_each.Goals as goal

pub put_numbered-requires-clause-room : goal.put_numbered-requires-clause-room
put_numbered-requires-clause-room c =
    let i = c.loop-at.at in
    let tags = c.args.tags.now in
    let t : TagText = record { tag = c.short_at-pair.result.0; text = c.short_at-pair.result.1.now } in
    let is : get_or tags i t ≡ t = get_or_from_slice_get tags i t t c.short_at-pair.ensures.text in
    omega (
      arith,
      c.requires,
      c.loop-at.out.ok.0,
      c.args.out.now.ok.0,
      c.loop-at.invariant.1,
      ap length c.loop-at.invariant.0,
      length-append c.args.out.now.items (flat_map numbered_bytes (take i tags)),
      length-flat_map-take numbered_bytes tags i t (slice_get_within tags i t c.short_at-pair.ensures.text),
      ap (λ (x : TagText). length (numbered_bytes x)) is,
    )

pub loop-at-preserved : goal.loop-at-preserved
loop-at-preserved c =
    let i = c.loop-at.at in
    let tags = c.args.tags.now in
    let t : TagText = record { tag = c.short_at-pair.result.0; text = c.short_at-pair.result.1.now } in
    let is : get_or tags i t ≡ t = get_or_from_slice_get tags i t t c.short_at-pair.ensures.text in (
      c.put_numbered.ensures.items
          ∙ more_items numbered_bytes c.args.out.now.items c.loop-at.out.items tags i t
          (slice_get_within tags i t c.short_at-pair.ensures.text) (sym is) c.loop-at.invariant.0,
      c.put_numbered.ensures.capacity ∙ c.loop-at.invariant.1,
    )
