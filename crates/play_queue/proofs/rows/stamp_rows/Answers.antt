use Rattle.std.proofs.Common.{◌≡◌, [], length, get_or, take, drop, ap, ◌∙◌, arith}
use Rattle.std.proofs.lemmas.List.{get_or_default, length-append, length-map, length-take-le, length-drop}
use Rattle.std.proofs.lemmas.List.Edits.{map_over_more}
use Rattle.play_queue.specs.declared.entry.Entry.{Entry}
use Rattle.play_queue.specs.Restamp.{marked, marked_one}
use Rattle.play_queue.proofs.rows.stamp_rows.Goals as goal

pub stamp_row-requires : goal.stamp_row-requires
stamp_row-requires c =
    let old = c.args.entries.now in
    omega (
      arith,
      ap length c.loop-at.invariant,
      length-append (marked c.args.uris.now c.args.stamp (take c.loop-at.at old)) (drop c.loop-at.at old),
      length-map (take c.loop-at.at old) (marked_one c.args.uris.now c.args.stamp),
      length-take-le c.loop-at.at old (omega (arith, c.requires)),
      length-drop c.loop-at.at old,
      c.requires,
    )

-- one more entry has the stamp, if its row has changed
pub loop-at-preserved : goal.loop-at-preserved
loop-at-preserved c =
    let old = c.args.entries.now in
    let now = c.loop-at.entries in
    let at = c.loop-at.at in
    let d : Entry = record { id = 0; uri = []; priority = 0; stamp = 0 } in
    let one : Entry = get_or now at d in
    let long : length now ≡ length old =
    ap length c.loop-at.invariant
    ∙ length-append (marked c.args.uris.now c.args.stamp (take at old)) (drop at old)
    ∙ omega (
      arith,
      length-map (take at old) (marked_one c.args.uris.now c.args.stamp),
      length-take-le at old (omega (arith, c.requires)),
      length-drop at old,
      c.requires,
    ) in
    c.stamp_row.ensures d
    ∙ map_over_more (marked_one c.args.uris.now c.args.stamp) old now at one (omega (arith, c.requires)) c.loop-at.invariant
    (get_or_default now at d one (omega (arith, long, c.requires)))
