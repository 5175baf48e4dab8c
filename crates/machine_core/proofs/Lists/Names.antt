-- Names of playlists, and playlists that are there.
use Rattle.std.proofs.Common.{◌≡◌, ℕ, ◌≤◌, Bool, true, false, List, length, Result, Ok, Err, refl, arith}
use Rattle.std.proofs.lemmas.Bool.{and_parts, and_from, leb-true, le-leb}
use Rattle.std.specs.Prelude.{nat_le, if◌then◌else◌}
use Rattle.std.specs.Option.{ok_or}
use Rattle.std.specs.Str.{is_utf8}
use Rattle.command_text.specs.declared.refusal.CommandRefusal.{CommandRefusal}
use Rattle.command_text.specs.declared.refusal.CommandRefusal.TheVariants.{BadPlaylistName, NoSuchPlaylist}
use Rattle.state_codec.specs.Steps.{◌>>=◌}
use Rattle.state_codec.specs.Text.{MAX_TEXT_BYTES, is_text}
use Rattle.stored_lists.specs.Lists.{Stored, songs_of}
use Rattle.stored_lists.specs.Name.{is_good_name}
use Rattle.stored_lists.specs.Songs.{Uris}
use Rattle.machine_core.specs.Lists.{list_name, songs_named}

-- a name that a playlist may have is itself
pub name_is : (name text : List ℕ) → list_name name ≡ Ok text → text ≡ name
name_is name text is = of (is_good_name name) is where
  of : (b : Bool) → (if b then Ok name else Err BadPlaylistName) ≡ Ok text → text ≡ name
  of true is = cc
  of false is = absurd (cc)

-- a playlist that is there has such a name
pub named_well : (lists : Stored) (name : List ℕ) (songs : Uris) → songs_named lists name ≡ Ok songs → list_name name ≡ Ok name
named_well lists name songs is = of (is_good_name name) is where
  of : (b : Bool) → ((if b then Ok name else Err BadPlaylistName) >>= λ good. ok_or (songs_of lists good) NoSuchPlaylist) ≡ Ok songs
      → (if b then Ok name else Err BadPlaylistName) ≡ Ok name
  of true is = refl
  of false is = absurd (cc)

pub not_both : (looked : Result (List ℕ) CommandRefusal) (text : List ℕ) (refusal : CommandRefusal) → looked ≡ Ok text
    → looked ≡ Err refusal → ⊥
not_both looked text refusal good bad = cc

-- and it is short enough for an op
pub name_is_text : (name : List ℕ) → is_good_name name ≡ true → is_utf8 name ≡ true → is_text name ≡ true
name_is_text name good utf8 =
    let short : length name ≤ 256 = leb-true (length name) 256 (and_parts _ _ (and_parts _ _ good).1).0 in
    and_from (is_utf8 name) (nat_le (length name) MAX_TEXT_BYTES) utf8 (le-leb (length name) MAX_TEXT_BYTES (omega (arith, short)))
