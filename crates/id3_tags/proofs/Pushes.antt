-- A list that is made of what was pushed and what the rest gives.
use Rattle.std.proofs.Common.{◌≡◌, List, [], ◌∷◌, ◌++◌, map, sym, ap, ◌∙◌, refl}
use Rattle.std.proofs.lemmas.List.{append_assoc, append-nil, map_push}

-- after a push
pub push_more : {X : Type 0} → (made now rest before all : List X) (x : X) → now ≡ made ++ x ∷ [] → before ≡ x ∷ rest
    → made ++ before ≡ all → now ++ rest ≡ all
push_more made now rest before all x push cut same = ap (λ l. l ++ rest) push ∙ append_assoc made (x ∷ []) rest
    ∙ ap (λ l. made ++ l) (sym cut) ∙ same

-- where nothing is left
pub push_end : {X : Type 0} → (made rest all : List X) → rest ≡ [] → made ++ rest ≡ all → made ≡ all
push_end made rest all none same = sym (append-nil made) ∙ ap (λ l. made ++ l) (sym none) ∙ same

-- the same, of what the elements give
pub give_more : {X Y : Type 0} (f : X → Y) (made now : List X) (rest before all : List Y) (x : X) (y : Y) → now ≡ made ++ x ∷ []
    → f x ≡ y → before ≡ y ∷ rest → map f made ++ before ≡ all → map f now ++ rest ≡ all
give_more f made now rest before all x y push gives cut same =
    push_more (map f made) (map f now) rest before all y
    (ap (map f) push ∙ map_push f made x ∙ ap (λ z. map f made ++ z ∷ []) gives) cut same

pub give_last : {X Y : Type 0} (f : X → Y) (made now : List X) (before all : List Y) (x : X) (y : Y) → now ≡ made ++ x ∷ []
    → f x ≡ y → before ≡ y ∷ [] → map f made ++ before ≡ all → map f now ≡ all
give_last f made now before all x y push gives cut same =
    push_end (map f now) [] all refl (give_more f made now [] before all x y push gives cut same)
