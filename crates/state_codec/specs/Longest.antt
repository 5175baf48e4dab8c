-- How many bytes a snapshot has at most.
use Rattle.std.specs.Prelude.{ℕ, ◌+◌, ◌*◌}
use Rattle.play_queue.specs.Limits.{MAX_ENTRIES as QUEUE_LIMIT}
use Rattle.player_core.specs.Place.{longest_round}
use Rattle.profile.specs.declared.profile.Profile.{Profile}
use Rattle.profile.specs.declared.profile.Profile.TheVariants.{Named, Wide}
use Rattle.song_db.specs.Limits.{MAX_URI_BYTES, MAX_ROWS, MAX_ROW_TAG_BYTES, MAX_CHANGES}
use Rattle.stickers.specs.Limits.{MAX_STICKERS, MAX_VALUE_BYTES, MAX_NAME_BYTES as STICKER_NAME_BYTES}
use Rattle.stored_lists.specs.Limits.{MAX_LISTS, MAX_ENTRIES as LISTS_LIMIT, MAX_NAME_BYTES as LIST_NAME_BYTES}
use Rattle.song_files.specs.Limits.{MAX_TAG_BYTES}

-- a text of so many bytes behind its length
abbrev pub longest_text : ℕ → ℕ
longest_text bytes = 2 + bytes

-- six tags; or a stamp, and all texts of all tags
abbrev pub longest_told : Profile → ℕ
longest_told Named = 6 * (1 + longest_text MAX_TAG_BYTES)
longest_told Wide = (1 + 8 + 8) + (1 + MAX_ROW_TAG_BYTES)

-- a URI; rate, channels, first byte and frames; what else is told: 4,137 bytes, or 31,065
abbrev pub longest_row : Profile → ℕ
longest_row profile = longest_text MAX_URI_BYTES + (4 + 1 + 8 + 8 + longest_told profile)

-- a batch: its number, how many changes it has, and each with its kind: 264,834 bytes, or 1,988,226
abbrev pub longest_batch : Profile → ℕ
longest_batch profile = 1 + (1 + MAX_CHANGES * (1 + longest_row profile))

-- id, row number, priority and stamp
abbrev pub longest_entry : ℕ
longest_entry = 4 + 4 + 1 + 4

-- a playlist without its songs: its name and their number
abbrev pub longest_list : ℕ
longest_list = longest_text LIST_NAME_BYTES + 4

abbrev pub longest_sticker : ℕ
longest_sticker = longest_text MAX_URI_BYTES + (longest_text STICKER_NAME_BYTES + longest_text MAX_VALUE_BYTES)

-- key, order, version, next id, volume and options
abbrev pub longest_head : ℕ
longest_head = 32 + 8 + 4 + 4 + 1 + 4

-- all songs of all playlists are counted together
abbrev pub longest_lists : ℕ
longest_lists = MAX_LISTS * longest_list + LISTS_LIMIT * longest_text MAX_URI_BYTES

-- field 1: how many times there are, and each with its name
abbrev pub longest_times : ℕ
longest_times = 4 + MAX_LISTS * (longest_text LIST_NAME_BYTES + 8)

-- the number of fields, and each behind its number and its length; and the checksum
abbrev pub longest_end : Profile → ℕ
longest_end Named = 0
longest_end Wide = (1 + (5 + longest_times) + (5 + 13) + (5 + 4 * longest_round)) + 4

-- the head and the four parts, each behind its number, and what stands behind them: 692,197,445 bytes, or 2,457,485,418
abbrev pub longest_snapshot : Profile → ℕ
longest_snapshot profile =
    longest_head + (4 + MAX_ROWS * longest_row profile) + (4 + QUEUE_LIMIT * longest_entry) + (4 + longest_lists)
    + (4 + MAX_STICKERS * longest_sticker) + longest_end profile
