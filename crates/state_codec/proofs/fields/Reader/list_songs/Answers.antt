use Rattle.std.proofs.Common.{◌≡◌, ℕ, false, List, [], length, Result, Ok, Err, subst, arith}
use Rattle.std.specs.Prelude.{IfOk}
use Rattle.stored_lists.specs.Lists.{Stored, is_full_for}
use Rattle.state_codec.specs.declared.fields.ReadError.{ReadError}
use Rattle.state_codec.specs.Given.{Gives}
use Rattle.state_codec.specs.Items.{items_at}
use Rattle.state_codec.specs.ReadingRows.{uri_at}
use Rattle.state_codec.proofs.ItemLaws.{items_count}
use Rattle.state_codec.proofs.fields.Reader.list_songs.Goals as goal

counted_fits : (lists : Stored) (r : Result (List (List ℕ)) ReadError) (rest : List ℕ) (count : ℕ) (bytes : List ℕ)
    → Gives r rest (items_at (λ known. uri_at) count [] bytes) → is_full_for lists count ≡ false
    → IfOk r (λ songs. is_full_for lists (length songs) ≡ false)
counted_fits lists (Ok songs) rest count bytes given fits =
    let counted = items_count (λ known. uri_at) count [] bytes (songs, rest) given in
    let same : count ≡ length songs = omega (arith, counted) in
    subst (λ (n : ℕ). is_full_for lists n ≡ false) same fits
counted_fits lists (Err e) rest count bytes given fits = tt

pub returns-clause-fits : goal.returns-clause-fits
returns-clause-fits c =
    counted_fits c.args.lists.now c.uris.result c.uris.new.self.rest.now c.in_ok-count.count _ c.uris.ensures c.in_ok-count.ensures.fits
