use Rattle.std.proofs.Common.{refl}
use Rattle.song_files.specs.Listing.{first_part, has_slash}
use Rattle.song_files.proofs.Listings.{there_added, found_at, added_behind, stamps_pushed}
use Rattle.song_files.proofs.memory_folder.add_entry.Goals as goal

pub returns-then-entry-is_folder-clause-added : goal.returns-then-entry-is_folder-clause-added
returns-then-entry-is_folder-clause-added c =
    let found = found_at c.deref-entry-items.result.now c.loop-entry.entry-index c.entry-item.result c.as_str.result.now
    c.first_name-is_folder.result.0.now c.first_name-is_folder.result.1 c.loop-entry-test.true c.entry-item.is c.as_str.ensures.value
    c.if-eq.ensures c.if-entry-is_folder.true in
    there_added c.args.entries.now.items (first_part c.args.path.now) (has_slash c.args.path.now)
    (rw (c.deref-entry-items.ensures.value, c.first_name-is_folder.ensures.name, c.first_name-is_folder.ensures.kind) at found)

pub returns-clause-added : goal.returns-clause-added
returns-clause-added c = added_behind c.args.entries.now.items c.push.new.self.items _ c.args.path.now c.first_name-is_folder.result.0.now
    c.first_name-is_folder.result.1 (has_slash c.args.path.now) c.deref-entry-items.result.now c.loop-entry.entry-index
    c.in_ok-push.ensures.items c.in_ok-name.ensures.ok refl c.first_name-is_folder.ensures.name c.first_name-is_folder.ensures.kind
    c.if-is_empty.ensures c.deref-entry-items.ensures.value c.loop-entry-test.false c.loop-entry.invariant

pub returns-clause-stamp : goal.returns-clause-stamp
returns-clause-stamp c = stamps_pushed c.args.entries.now.items c.push.new.self.items _ c.args.path.now c.first_name-is_folder.result.0.now
    c.first_name-is_folder.result.1 (has_slash c.args.path.now) c.args.told c.in_ok-push.ensures.items c.in_ok-name.ensures.ok
    c.first_name-is_folder.ensures.name c.told_of-stamp.ensures c.first_name-is_folder.ensures.kind
