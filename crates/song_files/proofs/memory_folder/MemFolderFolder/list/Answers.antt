use Rattle.std.proofs.Common.{◌≡◌, ℕ, vec_len, true, List, [], ◌∷◌, length, nat_eq, Some, None, refl, sym, ap, ◌∙◌, arith}
use Rattle.std.proofs.lemmas.Bool.Decides.{nat_tests}
use Rattle.song_files.specs.Folder.{File, stamp_at}
use Rattle.song_files.specs.Listing.{behind}
use Rattle.song_files.proofs.Listings.{listed_more, passed_more, no_file_of, told_there}
use Rattle.song_files.proofs.memory_folder.MemFolderFolder.list.Goals as goal
use Rattle.song_files.proofs.memory_folder.MemFolderFolder.list.Goals.{in-Some+in_ok-add_entry, in_default}
use Rattle.song_files.proofs.memory_folder.MemFolderFolder.list.Goals.{else-is_empty-via-then-is_empty+else-not-is_empty}
use Rattle.song_files.proofs.memory_folder.MemFolderFolder.list.Goals.{else-is_empty-via-else-is_empty}

pub loop-file-preserved : goal.loop-file-preserved
loop-file-preserved c =
    let path : c.as_str-own.result.now ≡ c.file-item.result.path = c.as_str-own.ensures.value ∙ ap (λ (f : File). f.path) c.file.view_is in
    let files : c.args.self.now ≡ c.deref-file-items.result.now = sym (c.deref-file-items.ensures.value ∙ c.self.view_is) in
    elim c.match-rest_below.branch [
      | in-Some+in_ok-add_entry w ↦
          let below : behind c.args.path.now c.file-item.result.path ≡ Some w.in-Some.rest.now = rw path at (sym w.in-Some.ensures) in
          let told : w.stamp_at-stamp.result ≡ stamp_at c.deref-file-items.result.now c.file-item.result.path
          = rw (files, path) at w.stamp_at-stamp.ensures in
          rw w.entries-is record {
            listing = listed_more c.deref-file-items.result.now c.args.path.now c.loop-file.entries.items w.add_entry.new.entries.items
                c.loop-file.file-index c.file-item.result w.in-Some.rest.now (omega arith) c.file-item.is below c.loop-file.invariant.listing
                w.in_ok-add_entry.ensures.added;
            stamps = w.in_ok-add_entry.ensures.stamp c.deref-file-items.result.now c.args.path.now (told_there c.deref-file-items.result.now c.args.path.now c.file-item.result.path
                w.in-Some.rest.now w.stamp_at-stamp.result below told) c.loop-file.invariant.stamps;
          }
      | in_default w ↦
          let below : behind c.args.path.now c.file-item.result.path ≡ None = rw path at (sym w.in_default.ensures) in
          rw w.entries-is record {
            listing = passed_more c.deref-file-items.result.now c.args.path.now c.loop-file.entries.items c.loop-file.file-index
                c.file-item.result (omega arith) c.file-item.is below c.loop-file.invariant.listing;
            stamps = c.loop-file.invariant.stamps;
          }
    ]

empty : (path : List ℕ) → true ≡ nat_eq (length path) 0 → path ≡ []
empty [] none = refl
empty (b ∷ path) none = absurd (grind (arith, nat_tests))

pub returns-clause-no_file : goal.returns-clause-no_file
returns-clause-no_file c = λ apart some. elim c.else-is_empty.branch [
  | else-is_empty-via-then-is_empty+else-not-is_empty w ↦ absurd (some (empty c.args.path.now w.if-not-is_empty.ensures))
  | else-is_empty-via-else-is_empty w ↦
      let count : vec_len c.loop-file.entries ≡ length c.loop-file.entries.items = omega arith in
      no_file_of c.deref-file-items.result.now c.args.self.now c.args.path.now c.loop-file.entries.items
      c.loop-file.file-index c.loop-file-test.false (c.deref-file-items.ensures.value ∙ c.self.view_is) apart c.loop-file.invariant.listing
      (rw count at (sym w.if-is_empty.ensures))
]
