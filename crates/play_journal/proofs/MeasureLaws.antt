-- How many bytes a file's snapshot and its records take.
use Rattle.std.proofs.Common.{◌≡◌, ℕ, ◌+◌, ◌≤◌, List, length, arith, sym, ap, ◌∙◌}
use Rattle.play_journal.specs.declared.reading.FileRead.{FileRead}
use Rattle.play_journal.specs.Content.{Content, fresh, with_records, with_snapshot}
use Rattle.play_journal.specs.File.{records_len}
use Rattle.play_journal.specs.FileRead.{content_read}
use Rattle.play_journal.specs.JournalState.{content_in, IsInUse, IsMeasured}
use Rattle.play_journal.proofs.FileLaws.{length-spelling}
use Rattle.play_journal.proofs.GroupLaws.{records_len-append}
use Rattle.play_journal.proofs.InUseLaws.{content-file}

-- a file in use is longer than its records
pub records_within : (here there : List ℕ) (end layout generation base count : ℕ) → IsInUse here there end layout generation base count
    → records_len (content_in here).records + 33 ≤ length here
records_within here there end layout generation base count used =
    let is : records_len (content_in here).records ≡ records_len used.file.records =
    ap (λ (c : Content). records_len c.records) (content-file here used.file used.is_file) in
    omega (arith, is, used.ends, used.gate, length-spelling used.file)

-- records more
pub measured_more : (before after : Content) (bodies : List (List ℕ)) (snapshot_len bytes more : ℕ) → after ≡ with_records before bodies
    → IsMeasured before snapshot_len bytes → more ≡ bytes + records_len bodies → IsMeasured after snapshot_len more
measured_more before after bodies snapshot_len bytes more is was grown = record {
  snapshot = ap (λ (c : Content). length c.snapshot) is ∙ was.snapshot;
  records = ap (λ (c : Content). records_len c.records) is ∙ records_len-append before.records bodies
      ∙ ap (λ (n : ℕ). n + records_len bodies) was.records ∙ sym grown;
}

-- a new snapshot without records
pub new_measured : (before after : Content) (layout : ℕ) (snapshot : List ℕ) → after ≡ with_snapshot before layout snapshot
    → IsMeasured after (length snapshot) 0
new_measured before after layout snapshot is = record {
  snapshot = ap (λ (c : Content). length c.snapshot) is;
  records = ap (λ (c : Content). records_len c.records) is;
}

pub fresh_measured : (content : Content) (layout : ℕ) (snapshot : List ℕ) → content ≡ fresh layout snapshot → IsMeasured content (length snapshot) 0
fresh_measured content layout snapshot is = record {
  snapshot = ap (λ (c : Content). length c.snapshot) is;
  records = ap (λ (c : Content). records_len c.records) is;
}

-- the file that was read
pub read_measured : (content : Content) (file : FileRead) → content ≡ content_read file
    → IsMeasured content (length file.stored.snapshot) (records_len file.stored.records)
read_measured content file is = record {
  snapshot = ap (λ (c : Content). length c.snapshot) is;
  records = ap (λ (c : Content). records_len c.records) is;
}
