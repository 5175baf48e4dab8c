-- A file that was read.
use Rattle.play_journal.specs.declared.reading.FileRead.{FileRead}
use Rattle.play_journal.specs.Content.{Content}

-- what it says
abbrev pub content_read : FileRead → Content
content_read file =
    record {
      layout = file.layout;
      generation = file.generation;
      base = file.base;
      snapshot = file.stored.snapshot;
      records = file.stored.records;
    }
