-- How each client is told.
use Rattle.std.specs.Prelude.{ℕ, ◌==◌, not, List, [], ◌∷◌, ◌++◌, filter, find, Option, Some, None, if◌then◌else◌}
use Rattle.daemon_core.specs.Views.{fresh_view, is_fresh, same_view}
use Rattle.daemon_core.specs.declared.view.View.{View}
use Rattle.idle_masks.specs.declared.watch.Watched.{Watched}
use Rattle.daemon_core.specs.declared.views.ClientView.{ClientView}

abbrev pub view_or_fresh : Option ClientView → View
view_or_fresh None = fresh_view
view_or_fresh (Some m) = m.view

-- a client is told as at first, unless it has said how
abbrev pub view_of : List ClientView → ℕ → View
view_of views c = view_or_fresh (find (λ m. m.client == c) views)

-- the client is forgotten
abbrev pub unviewed : List ClientView → ℕ → List ClientView
unviewed views c = filter (λ m. not (m.client == c)) views

-- where it was connected
abbrev pub views_without : Option Watched → List ClientView → ℕ → List ClientView
views_without None views c = views
views_without (Some w) views c = unviewed views c

abbrev pub client_view : ℕ → View → ClientView
client_view c view = record { client = c; view = view }

abbrev pub own_view : ℕ → View → List ClientView
own_view c view = if is_fresh view then [] else client_view c view ∷ []

-- the client is told so from now on
abbrev pub viewed : List ClientView → ℕ → View → List ClientView
viewed views c view = if same_view (view_of views c) view then views else unviewed views c ++ own_view c view
