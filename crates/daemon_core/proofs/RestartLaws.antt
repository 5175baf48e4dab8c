-- After any history of the wide profile the kept place is in step with the player, so that a restart goes on from it.
use Rattle.std.proofs.Common.{◌≡◌, ◌≢◌, Bool, true, false, List, Option, Some, None, is_some, refl, sym, ap, ◌∙◌, ◌⊎◌, inl, inr}
use Rattle.std.proofs.lemmas.Bool.{false≢true}
use Rattle.player_core.specs.Place.{PlaceState}
use Rattle.profile.specs.declared.profile.Profile.{Profile}
use Rattle.profile.specs.declared.profile.Profile.TheVariants.{Named, Wide}
use Rattle.state_codec.specs.SavedState.{SavedState, IsSavedPlace, IsSavedState}
use Rattle.machine_core.specs.Keeping.{when_resumed}
use Rattle.machine_core.specs.Restart.{GoesOnAs, HasSoundPlace, IsIdle, IsKeptMachine, IsSoundPlace, IsThere}
use Rattle.machine_core.specs.Sound.{IsSoundMachine}
use Rattle.machine_core.specs.State.{MachineState, lacks_room, started}
use Rattle.daemon_core.specs.Replay.{Entry, replay}
use Rattle.daemon_core.proofs.Lasting.{IsKept, lasts}

has_place : (profile : Profile) (place : Option PlaceState) → profile ≡ Wide → IsSavedPlace profile place → is_some place ≡ true
has_place Named place wide good = absurd (cc)
has_place Wide None wide good = absurd good
has_place Wide (Some place) wide good = refl

pub kept_machine : IsKept IsKeptMachine → (kept : SavedState) (history : List Entry) → IsSavedState kept → kept.profile ≡ Wide
    → HasSoundPlace kept → IsKeptMachine (replay kept history).machine
kept_machine keeps kept history saved wide sound =
    lasts IsKeptMachine keeps kept (record {
      wide = wide;
      has = has_place kept.profile kept.place wide saved.place;
      holds = record {
        queue = saved.queue.queue;
        sound = record { current = tt; played = tt; once = tt; ordered = λ off. refl };
        frame = tt;
      };
      sound = sound;
      step = λ room place is. record {
        sound = sound place is;
        here = inl (record { state = refl; current = refl; ticket = refl; played = refl });
      };
    }) history

-- what is known of one life and the next
abbrev pub GoesOnLaw : Type 0
GoesOnLaw =
    (plays : Bool) (m : MachineState) (place : PlaceState) → IsSoundMachine m → m.saved.place ≡ Some place
    → IsSoundPlace m.saved.queue.entries m.saved.options.random place → IsThere m.player place
    → let h = when_resumed plays (started m.saved) in GoesOnAs plays m.player h.after.player

pub machine_goes_on : GoesOnLaw → (plays : Bool) (m : MachineState) → IsKeptMachine m → lacks_room m ≡ false → m.player.ticket ≢ 0
    → let h = when_resumed plays (started m.saved) in GoesOnAs plays m.player h.after.player
machine_goes_on law plays m is room begun = of m.saved.place refl
  where
    there : (place : PlaceState) → m.saved.place ≡ Some place → IsSoundPlace m.saved.queue.entries m.saved.options.random place
        → (IsIdle m.player) ⊎ (IsThere m.player place)
        → let h = when_resumed plays (started m.saved) in GoesOnAs plays m.player h.after.player
    there place kept sound (inl idle) = absurd (begun idle.ticket)
    there place kept sound (inr here) = law plays m place is.holds kept sound here

    of : (place : Option PlaceState) → m.saved.place ≡ place
        → let h = when_resumed plays (started m.saved) in GoesOnAs plays m.player h.after.player
    of None none = absurd (false≢true (sym (ap (λ (p : Option PlaceState). is_some p) none) ∙ is.has))
    of (Some place) some = let kept = is.step room place some in there place some kept.sound kept.here
