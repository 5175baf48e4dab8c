use Rattle.std.proofs.Common.{◌≡◌, ◌≤◌, ◌+◌, ◌++◌, length, replicate, refl, ap, ◌∙◌, arith}
use Rattle.play_queue.specs.Limits.{MAX_ENTRIES}
use Rattle.play_queue.specs.Entries.{added, new_entries}
use Rattle.play_queue.specs.Shuffle.{stamps_of}
use Rattle.play_queue.proofs.Bounds.{length-added, list-added}
use Rattle.play_queue.proofs.Stamped.{length-with_stamps, restamped-added}
use Rattle.play_queue.proofs.entry_list.EntryList.insert.Goals as goal

pub restamp-requires-clause-forward : goal.restamp-requires-clause-forward
restamp-requires-clause-forward c =
    let old = c.self.inside.entries in
    let new = new_entries c.args.first c.args.uris.items in
    let within : c.args.at ≤ length old = rw (← c.self.view_is) at c.requires.in_range in
    omega (
      arith,
      within,
      c.len-left.ensures.len,
      ap length c.in_ok-insert.ensures.ok,
      length-with_stamps (stamps_of old ++ replicate (length c.args.uris.items) 1) (added old c.args.at new),
      length-added old c.args.at c.args.first c.args.uris.items within,
    )

pub invariant_of-self-2 : goal.invariant_of-self-2
invariant_of-self-2 c =
    let old = c.self.inside.entries in
    let uris = c.args.uris.items in
    let new = new_entries c.args.first uris in
    let within : c.args.at ≤ length old = rw (← c.self.view_is) at c.requires.in_range in
    let few : length old + length uris ≤ MAX_ENTRIES = rw (← c.self.view_is) at c.requires.few in
    let left : c.len-left.result ≡ length (added old c.args.at new) =
    c.len-left.ensures.len ∙ ap length c.in_ok-insert.ensures.ok
    ∙ length-with_stamps (stamps_of old ++ replicate (length uris) 1) (added old c.args.at new) in
    rw (
      c.restamp.ensures.entries,
      c.in_ok-insert.ensures.ok,
      restamped-added c.args.version c.args.at c.len-left.result (replicate (length uris) 1) old new within left,
      left,
    )
    (list-added c.self.inside.latest c.restamp.new.latest c.args.version c.args.at c.args.first uris old within few c.self.invariant.1
    (rw left at c.restamp.ensures.latest))

pub returns-clause-entries : goal.returns-clause-entries
returns-clause-entries c =
    let old = c.self.inside.entries in
    let uris = c.args.uris.items in
    let new = new_entries c.args.first uris in
    let within : c.args.at ≤ length old = rw (← c.self.view_is) at c.requires.in_range in
    let left : c.len-left.result ≡ length (added old c.args.at new) =
    c.len-left.ensures.len ∙ ap length c.in_ok-insert.ensures.ok
    ∙ length-with_stamps (stamps_of old ++ replicate (length uris) 1) (added old c.args.at new) in
    rw (
      ← c.self.view_is,
      c.restamp.ensures.entries,
      c.in_ok-insert.ensures.ok,
      restamped-added c.args.version c.args.at c.len-left.result (replicate (length uris) 1) old new within left,
      left,
    ) refl
