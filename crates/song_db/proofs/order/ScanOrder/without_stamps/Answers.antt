use Rattle.std.proofs.Common.{◌≡◌, ◌∙◌, ℕ, List, Option, map, sym, ap, subst, arith}
use Rattle.std.specs.Vec.{with_items}
use Rattle.std.proofs.lemmas.List.{with_items_is}
use Rattle.song_db.specs.declared.known_song.KnownSong.{KnownSong}
use Rattle.song_db.specs.declared.rules.LibraryRules.{LibraryRules}
use Rattle.song_db.specs.Music.{uris_of}
use Rattle.song_db.specs.Order.{Order, AreKnown, without_stamp}
use Rattle.song_db.proofs.KnownSongs.{same_uris_without}
use Rattle.song_db.proofs.order.ScanOrder.without_stamps.Goals as goal

items : (c : goal.After-self-1)
    → (with_items c.self.inside.known c.forget_stamps.new.known).items ≡ map without_stamp c.self.inside.known.items
items c = with_items_is c.self.inside.known c.forget_stamps.new.known (omega arith) ∙ c.forget_stamps.ensures
    ∙ ap (map without_stamp) c.deref_mut.ensures.value

pub invariant_of-self : goal.invariant_of-self
invariant_of-self c = subst AreKnown (sym (ap uris_of (items c) ∙ same_uris_without c.self.inside.known.items)) c.self.invariant

abbrev order_of : ℕ → Option (List ℕ) → LibraryRules → List KnownSong → Order
order_of job uri rules known = record { job = job; uri = uri; rules = rules; known = known }

pub returns : goal.returns
returns c = rw (← c.self.view_is) (ap (order_of c.self.inside.job c.self.inside.uri c.self.inside.rules) (items c))
