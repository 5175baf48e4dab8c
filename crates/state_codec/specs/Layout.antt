-- The form and the ranges that a layout of the journal sets for ops and snapshots.
use Rattle.std.specs.Prelude.{◌≡◌, ℕ, ◌≤◌, ⊤, Bool, nat_le, List, length, IsTrue, ◌==◌, if◌then◌else◌}
use Rattle.std.specs.List.{AllByRecursion}
use Rattle.play_queue.specs.Limits.{MAX_ENTRIES as QUEUE_LIMIT}
use Rattle.player_core.specs.declared.options.Single.{Single as SingleMode}
use Rattle.player_core.specs.declared.options.Single.TheVariants.{Off, On, Oneshot}
use Rattle.profile.specs.declared.profile.Profile.{Profile}
use Rattle.profile.specs.declared.profile.Profile.TheVariants.{Named, Wide}
use Rattle.stored_lists.specs.Limits.{MAX_LISTS}
use Rattle.state_codec.specs.declared.layout.Layout.{Layout}
use Rattle.state_codec.specs.declared.op.Op.{Op}
use Rattle.state_codec.specs.declared.op.Op.TheVariants.{SetOption, SetVolume, SetOrder, Queue, List as OfList, Sticker, Batch, Place}
use Rattle.state_codec.specs.declared.op.Op.TheVariants.{Timed}
use Rattle.state_codec.specs.declared.op.setting.Setting.{Setting}
use Rattle.state_codec.specs.declared.op.setting.Setting.TheVariants.{Repeat, Random, Single, Consume}
use Rattle.state_codec.specs.SavedState.{SavedState}

-- layout 1: consume is off or on; 16,384 entries of the queue, 256 playlists
abbrev pub layout_1 : Layout
layout_1 = record { greatest_consume = 1; queue_limit = 16384; list_limit = 256; profile = Named }

-- layout 2: consume is off, on or oneshot; 65,536 entries of the queue, 1,024 playlists
abbrev pub layout_2 : Layout
layout_2 = record { greatest_consume = 2; queue_limit = 65536; list_limit = 1024; profile = Named }

-- layout 3: the ranges of layout 2, rows with stamps and with all texts of all tags, and a checksum
abbrev pub layout_3 : Layout
layout_3 = record layout_2 { profile = Wide }

-- the number of the layout that is written under a profile
abbrev pub written_layout : Profile → ℕ
written_layout Named = 2
written_layout Wide = 3

-- The layout of a number. A journal has layout 1, 2 or 3; of any other number it is layout 2.
abbrev pub layout_of : ℕ → Layout
layout_of number = if number == 1 then layout_1 else if number == 3 then layout_3 else layout_2

-- the profile whose states and ops a layout has
abbrev pub profile_of : ℕ → Profile
profile_of number = (layout_of number).profile

-- no layout allows more than the program can hold
pub record IsLayout (layout : Layout) : Type 0 where
  pub queue_limit : layout.queue_limit ≤ QUEUE_LIMIT
  pub list_limit : layout.list_limit ≤ MAX_LISTS

-- the number that spells the consume option
abbrev pub consume_number : SingleMode → ℕ
consume_number Off = 0
consume_number On = 1
consume_number Oneshot = 2

abbrev pub is_consume : Layout → SingleMode → Bool
is_consume layout value = nat_le (consume_number value) layout.greatest_consume

-- a setting whose value the layout has
abbrev pub IsSettingIn : Layout → Setting → Type 0
IsSettingIn layout (Repeat on) = ⊤
IsSettingIn layout (Random on) = ⊤
IsSettingIn layout (Single value) = ⊤
IsSettingIn layout (Consume value) = IsTrue (is_consume layout value)

-- an op whose values the layout has
abbrev pub IsOpIn : Layout → Op → Type 0
IsOpIn layout (SetOption value) = IsSettingIn layout value
IsOpIn layout (SetVolume volume) = ⊤
IsOpIn layout (SetOrder order) = ⊤
IsOpIn layout (Queue op) = ⊤
IsOpIn layout (OfList op) = ⊤
IsOpIn layout (Sticker op) = ⊤
IsOpIn layout (Batch changes) = ⊤
IsOpIn layout (Place op) = ⊤
IsOpIn layout (Timed seconds) = ⊤

-- ops whose values the layout has
abbrev pub AreOpsIn : Layout → List Op → Type 0
AreOpsIn layout ops = AllByRecursion (IsOpIn layout) ops

-- a state of the layout's profile, within its ranges
pub record IsStateIn (layout : Layout) (s : SavedState) : Type 0 where
  pub profile : s.profile ≡ layout.profile
  pub consume : IsTrue (is_consume layout s.options.consume)
  pub queue : length s.queue.entries ≤ layout.queue_limit
  pub lists : length s.lists ≤ layout.list_limit
