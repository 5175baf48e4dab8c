-- How each client is told, its channels and messages, and what was read for it.
use Rattle.std.proofs.Common.{◌≡◌, ℕ, true, List, Option, Some, None, refl}
use Rattle.std.proofs.lemmas.Bool.{false≢true}
use Rattle.std.specs.Prelude.{is_none, IsSome}
use Rattle.idle_masks.specs.declared.watch.Watched.{Watched}
use Rattle.daemon_core.specs.Seen.{views_without, unviewed}
use Rattle.client_messages.specs.Listeners.{left as forgotten}
use Rattle.client_messages.specs.declared.listener.Listener.{Listener}
use Rattle.daemon_core.specs.Session.{messages_without}
use Rattle.daemon_core.specs.Pictures.{pictured, pictured_where, pictures_without, unpictured}
use Rattle.daemon_core.specs.declared.picture.ClientPicture.{ClientPicture}
use Rattle.daemon_core.specs.declared.picture.PictureTold.{PictureTold}
use Rattle.daemon_core.specs.declared.views.ClientView.{ClientView}

-- of a client that was connected none is left, and else all stay
pub views_left : (o : Option Watched) (views : List ClientView) (c : ℕ) → IsSome o → views_without o views c ≡ unviewed views c
views_left None views c some = absurd (false≢true some)
views_left (Some w) views c some = refl

pub views_stay : (o : Option Watched) (views : List ClientView) (c : ℕ) → (IsSome o → ⊥) → views_without o views c ≡ views
views_stay None views c none = refl
views_stay (Some w) views c none = absurd (none refl)

pub views_absent : (o : Option Watched) (views : List ClientView) (c : ℕ) → is_none o ≡ true → views_without o views c ≡ views
views_absent None views c h = refl
views_absent (Some w) views c h = absurd (false≢true h)

pub messages_left : (o : Option Watched) (messages : List Listener) (c : ℕ) → IsSome o → messages_without o messages c ≡ forgotten messages c
messages_left None messages c some = absurd (false≢true some)
messages_left (Some w) messages c some = refl

pub messages_stay : (o : Option Watched) (messages : List Listener) (c : ℕ) → (IsSome o → ⊥) → messages_without o messages c ≡ messages
messages_stay None messages c none = refl
messages_stay (Some w) messages c none = absurd (none refl)

pub messages_absent : (o : Option Watched) (messages : List Listener) (c : ℕ) → is_none o ≡ true → messages_without o messages c ≡ messages
messages_absent None messages c h = refl
messages_absent (Some w) messages c h = absurd (false≢true h)

pub pictures_left : (o : Option Watched) (pictures : List ClientPicture) (c : ℕ) → IsSome o → pictures_without o pictures c ≡ unpictured pictures c
pictures_left None pictures c some = absurd (false≢true some)
pictures_left (Some w) pictures c some = refl

pub pictures_stay : (o : Option Watched) (pictures : List ClientPicture) (c : ℕ) → (IsSome o → ⊥) → pictures_without o pictures c ≡ pictures
pictures_stay None pictures c none = refl
pictures_stay (Some w) pictures c none = absurd (none refl)

pub pictures_absent : (o : Option Watched) (pictures : List ClientPicture) (c : ℕ) → is_none o ≡ true → pictures_without o pictures c ≡ pictures
pictures_absent None pictures c h = refl
pictures_absent (Some w) pictures c h = absurd (false≢true h)

-- what was read for a client is kept where it is connected
pub read_known : (o : Option Watched) (pictures : List ClientPicture) (c : ℕ) (told : PictureTold) → IsSome o →
    pictured_where o pictures c told ≡ pictured pictures c told
read_known None pictures c told h = absurd (false≢true h)
read_known (Some w) pictures c told h = refl

pub unread_absent : (o : Option Watched) (pictures : List ClientPicture) (c : ℕ) (told : PictureTold) → is_none o ≡ true →
    pictured_where o pictures c told ≡ pictures
unread_absent None pictures c told h = refl
unread_absent (Some w) pictures c told h = absurd (false≢true h)
