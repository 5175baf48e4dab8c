-- A fresh state is a saved state.
use Rattle.std.proofs.Common.{◌≡◌, ℕ, List, [], true, get_or, length, Some, arith}
use Rattle.std.specs.List.Sorted.{IsStrictlySortedBy}
use Rattle.player_core.specs.declared.options.Options.{Options}
use Rattle.profile.specs.declared.profile.Profile.{Profile}
use Rattle.profile.specs.declared.profile.Profile.TheVariants.{Named, Wide}
use Rattle.song_db.specs.Row.{Row, is_kept_by}
use Rattle.player_core.specs.Place.{no_place}
use Rattle.state_codec.specs.SavedState.{SavedState, AreSavedTimes, IsSavedPlace, IsSavedState, IsBytes, first_place, first_times, fresh}
use Rattle.state_codec.proofs.RowLaws.{IsKeptRow, fields_fit}
use Rattle.state_codec.proofs.ToldLaws.{plain_short}

fresh_place : (profile : Profile) → IsSavedPlace profile (first_place profile)
fresh_place Named = tt
fresh_place Wide = record {
  song = omega arith;
  frame = omega arith;
  played =
      record { few = omega arith; each = λ k d within. absurd (omega arith) };
}

fresh_times : (profile : Profile) → AreSavedTimes profile (first_times profile)
fresh_times Named = tt
fresh_times Wide = record { few = omega arith; each = λ k d within. absurd (omega arith) }

pub fresh_kept : (profile : Profile) (key : List ℕ) (options : Options) → length key ≡ 32 → IsBytes key
    → IsSavedState (record (fresh profile key) { options = options })
unfolding IsStrictlySortedBy
fresh_kept profile key options long bytes = record {
  key_len = long;
  key_bytes = bytes;
  order = omega arith;
  volume = omega arith;
  songs = record { database = record { few = omega arith; rising = tt }; rows = λ k d within. absurd (omega arith) };
  kept = λ k d within. absurd (omega arith);
  queue = record {
    queue = record {
      few = omega arith;
      version_low = omega arith;
      version_high = omega arith;
      next_low = omega arith;
      next_high =
          omega arith;
      entry = λ k d within. absurd (omega arith);
      own_ids = λ i j d below within. absurd (omega arith);
    };
    entries = λ k d within. absurd (omega arith);
  };
  lists = record { rising = tt; within = record { few_lists = omega arith; few_entries = omega arith; good_lists = tt }; texts = tt };
  stickers = record { within = record { few = omega arith; good = tt; rising = tt }; each = tt };
  place = fresh_place profile;
  changed = fresh_times profile;
}

-- the second profile keeps what any keeps
wide_row : (profile : Profile) (row : Row) → IsKeptRow profile row → is_kept_by Wide row ≡ true
wide_row Named row good = let told = (fields_fit Named row good).0.1.1.1.1 in plain_short row.tags told.1.0 told.1.1
wide_row Wide row good = good.1

pub wide_kept : (s : SavedState) → IsSavedState s → IsSavedState (record s { profile = Wide; place = Some no_place; changed = Some [] })
wide_kept s saved = record {
  key_len = saved.key_len;
  key_bytes = saved.key_bytes;
  order = saved.order;
  volume = saved.volume;
  songs = saved.songs;
  kept = λ k d within. wide_row s.profile (get_or s.songs k d) (saved.songs.rows k d within, saved.kept k d within);
  queue = saved.queue;
  lists = saved.lists;
  stickers = saved.stickers;
  place = record {
    song = omega arith;
    frame = omega arith;
    played =
        record { few = omega arith; each = λ k d within. absurd (omega arith) };
  };
  changed = record { few = omega arith; each = λ k d within. absurd (omega arith) };
}
