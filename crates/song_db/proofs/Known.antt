-- URIs that rise.
use Rattle.std.proofs.Common.{◌≡◌, ℕ, ◌<◌, true, false, List, length, get_or, sym, ap, ◌∙◌}
use Rattle.std.specs.declared.cmp.Ordering.TheVariants.{Less}
use Rattle.std.specs.Ordering.{is_lt}
use Rattle.std.proofs.lemmas.List.{get_or_default}
use Rattle.std.proofs.lemmas.Map.Keys.{Less-from_sorted}
use Rattle.song_db.specs.Order.{AreKnown}
use Rattle.song_db.proofs.Rising.{texts}

pub not_rising : (uris : List (List ℕ)) (i j : ℕ) (a b : List ℕ) → AreKnown uris → i < j → j < length uris → a ≡ get_or uris i a
    → b ≡ get_or uris j b → false ≡ is_lt (texts a b) → ⊥
not_rising uris i j a b known below within first second not =
    let less : texts (get_or uris i a) (get_or uris j a) ≡ Less = Less-from_sorted texts uris i j a known below within in
    let same : get_or uris j a ≡ b = get_or_default uris j a b within ∙ sym second in
    let told : is_lt (texts a b) ≡ true = ap (λ t. is_lt (texts t b)) first
    ∙ ap (λ t. is_lt (texts (get_or uris i a) t)) (sym same) ∙ ap is_lt less in
    cc
