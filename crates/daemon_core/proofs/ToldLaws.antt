-- What was read for a client, looked for one after the other.
use Rattle.std.proofs.Common.{◌≡◌, ℕ, ◌+◌, ◌<◌, ◌≤◌, List, ◌∷◌, Some, None, length, drop, get_or, ap, ◌∙◌, sym, eq-eqb}
use Rattle.std.proofs.Common.{ne_eqb, refl}
use Rattle.std.proofs.lemmas.List.{drop_all, drop_more}
use Rattle.daemon_core.specs.Pictures.{told_for}
use Rattle.daemon_core.specs.declared.picture.ClientPicture.{ClientPicture}

at_place : (pictures : List ClientPicture) (i : ℕ) (p : ClientPicture) (c : ℕ) → i < length pictures → p ≡ get_or pictures i p
    → told_for (drop i pictures) c ≡ told_for (p ∷ drop (i + 1) pictures) c
at_place pictures i p c within is =
    ap (λ l. told_for l c) (drop_more pictures i p within ∙ ap (λ (q : ClientPicture). q ∷ drop (i + 1) pictures) (sym is))

pub told_here : (pictures : List ClientPicture) (i : ℕ) (p : ClientPicture) (c : ℕ) → i < length pictures → p ≡ get_or pictures i p
    → p.client ≡ c → told_for (drop i pictures) c ≡ told_for pictures c → Some p.told ≡ told_for pictures c
told_here pictures i p c within is same left =
    let test = eq-eqb p.client c same in
    sym (at_place pictures i p c within is ∙ rw test refl) ∙ left

pub told_later : (pictures : List ClientPicture) (i : ℕ) (p : ClientPicture) (c : ℕ) → i < length pictures → p ≡ get_or pictures i p
    → (p.client ≡ c → ⊥) → told_for (drop i pictures) c ≡ told_for pictures c → told_for (drop (i + 1) pictures) c ≡ told_for pictures c
told_later pictures i p c within is other left =
    let test = ne_eqb p.client c other in
    rw test at (sym (at_place pictures i p c within is)) ∙ left

pub told_none : (pictures : List ClientPicture) (i : ℕ) (c : ℕ) → length pictures ≤ i → told_for (drop i pictures) c ≡ told_for pictures c
    → None ≡ told_for pictures c
told_none pictures i c past left = sym (ap (λ l. told_for l c) (drop_all i pictures past)) ∙ left
