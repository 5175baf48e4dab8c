-- Items one after the other.
use Rattle.std.proofs.Common.{◌≡◌, ℕ, zero, suc, ◌+◌, List, [], ◌∷◌, ◌++◌, length, Ok, Err, refl, sym, ap, subst, ◌∙◌, append_assoc, arith}
use Rattle.std.specs.List.{flat_map, AllByRecursion}
use Rattle.std.proofs.lemmas.List.{append-nil, length-append}
use Rattle.std.proofs.lemmas.List.Concat.{flat_map-cons}
use Rattle.state_codec.specs.SavedState.{IsBytes}
use Rattle.state_codec.specs.Fields.{Field}
use Rattle.state_codec.specs.Items.{items_at, counted_at}
use Rattle.state_codec.proofs.FieldLaws.{bind_ok, ok_is, Takes, Takes-then, IsField}

pub all_push : {A : Type 0} (P : A → Type 0) (xs : List A) (x : A) → AllByRecursion P xs → P x → AllByRecursion P (xs ++ x ∷ [])
all_push P [] x all holds = (holds, tt)
all_push P (y ∷ ys) x all holds = (all.0, all_push P ys x all.1 holds)

pub all_middle : {A : Type 0} (P : A → Type 0) (xs : List A) (x : A) (ys : List A) → AllByRecursion P (xs ++ x ∷ ys) → P x
all_middle P [] x ys all = all.0
all_middle P (z ∷ zs) x ys all = all_middle P zs x ys all.1

-- a reader of the next item, which keeps a fact of all items so far, and takes each item that the fact allows
pub record IsItem {A : Type 0} (item : List A → List ℕ → Field A) (text : A → List ℕ) (Known : List A → Type 0) : Type 0 where
  pub takes : (known : List A) (bytes : List ℕ) (x : A × List ℕ) → Known known → IsBytes bytes → item known bytes ≡ Ok x
      → Takes bytes (text x.0) x.1 × Known (known ++ x.0 ∷ [])
  pub again : (known : List A) (a : A) (more : List A) (rest : List ℕ) → Known (known ++ a ∷ more)
      → item known (text a ++ rest) ≡ Ok (a, rest)

-- what reading so many items gives
pub record More {A : Type 0} (text : A → List ℕ) (Known : List A → Type 0) (n : ℕ) (known : List A) (bytes : List ℕ)
    (x : List A × List ℕ) : Type 0 where
  pub more : List A
  pub all : x.0 ≡ known ++ more
  pub count : length more ≡ n
  pub parts : Takes bytes (flat_map text more) x.1
  pub fits : Known x.0

pub items_take : {A : Type 0} (item : List A → List ℕ → Field A) (text : A → List ℕ) (Known : List A → Type 0) → IsItem item text Known
    → (n : ℕ) (known : List A) (bytes : List ℕ) (x : List A × List ℕ) → Known known → IsBytes bytes → items_at item n known bytes ≡ Ok x
    → More text Known n known bytes x
unfolding items_at
items_take item text Known is zero known bytes x fits in_range e =
    let same = ok_is (known, bytes) x e in
    subst (More text Known zero known bytes) same
    (record { more = []; all = sym (append-nil known); count = refl; parts = record { parts = refl; rest_fits = in_range }; fits = fits })
items_take {A} item text Known is (suc n) known bytes x fits in_range e =
    let next = bind_ok (item known bytes) _ x e in
    let t = is.takes known bytes next.0 fits in_range next.1 in
    let after = items_take item text Known is n (known ++ next.0.0 ∷ []) next.0.1 x t.1 t.0.rest_fits next.2 in
    record {
      more = next.0.0 ∷ after.more;
      all = after.all ∙ append_assoc known (next.0.0 ∷ []) after.more;
      count = omega (arith, after.count);
      parts = subst (λ (s : List ℕ). Takes bytes s x.1) (sym (flat_map-cons text next.0.0 after.more))
          (Takes-then bytes (text next.0.0) next.0.1 (flat_map text after.more) x.1 t.0 after.parts);
      fits = after.fits;
    }

pub items_again : {A : Type 0} (item : List A → List ℕ → Field A) (text : A → List ℕ) (Known : List A → Type 0) → IsItem item text Known
    → (more known : List A) (rest : List ℕ) → Known (known ++ more)
    → items_at item (length more) known (flat_map text more ++ rest) ≡ Ok (known ++ more, rest)
unfolding items_at
items_again item text Known is [] known rest fits = ap (λ x. Ok (x, rest)) (sym (append-nil known))
items_again item text Known is (a ∷ more) known rest fits =
    let whole : known ++ a ∷ more ≡ (known ++ a ∷ []) ++ more = sym (append_assoc known (a ∷ []) more) in
    let rest_of = items_again item text Known is more (known ++ a ∷ []) rest (subst Known whole fits) in
    rw (
      flat_map-cons text a more,
      append_assoc (text a) (flat_map text more) rest,
      is.again known a more (flat_map text more ++ rest) fits,
      rest_of,
    ) (ap (λ x. Ok (x, rest)) (sym whole))

-- ---- behind their number

counted_take : {A : Type 0} (number : List ℕ → Field ℕ) (number_text : ℕ → List ℕ) (IsNumber : ℕ → Type 0)
    → IsField number number_text IsNumber
    → (item : List A → List ℕ → Field A) (text : A → List ℕ) (Known : List A → Type 0) → IsItem item text Known → Known []
    → (bytes : List ℕ) (x : List A × List ℕ) → IsBytes bytes → counted_at number item bytes ≡ Ok x
    → Takes bytes (number_text (length x.0) ++ flat_map text x.0) x.1 × (IsNumber (length x.0) × Known x.0)
unfolding counted_at
counted_take number number_text IsNumber field item text Known is none bytes x fits e =
    let n = bind_ok (number bytes) _ x e in
    let t = field.takes bytes n.0 fits n.1 in
    let m = items_take item text Known is n.0.0 [] n.0.1 x none t.0.rest_fits n.2 in
    let count : length x.0 ≡ n.0.0 = ap length m.all ∙ m.count in
    let front : Takes bytes (number_text (length x.0)) n.0.1 = subst (λ (k : ℕ). Takes bytes (number_text k) n.0.1) (sym count) t.0 in
    let items : Takes n.0.1 (flat_map text x.0) x.1 = subst (λ xs. Takes n.0.1 (flat_map text xs) x.1) (sym m.all) m.parts in
    (Takes-then bytes (number_text (length x.0)) n.0.1 (flat_map text x.0) x.1 front items, (subst IsNumber (sym count) t.1, m.fits))

counted_again : {A : Type 0} (number : List ℕ → Field ℕ) (number_text : ℕ → List ℕ) (IsNumber : ℕ → Type 0)
    → IsField number number_text IsNumber
    → (item : List A → List ℕ → Field A) (text : A → List ℕ) (Known : List A → Type 0) → IsItem item text Known
    → (xs : List A) (rest : List ℕ) → IsNumber (length xs) × Known xs
    → counted_at number item ((number_text (length xs) ++ flat_map text xs) ++ rest) ≡ Ok (xs, rest)
unfolding counted_at
counted_again number number_text IsNumber field item text Known is xs rest fits =
    rw (
      append_assoc (number_text (length xs)) (flat_map text xs) rest,
      field.again (length xs) (flat_map text xs ++ rest) fits.0,
      items_again item text Known is xs [] rest fits.1,
    ) refl

pub counted_is : {A : Type 0} (number : List ℕ → Field ℕ) (number_text : ℕ → List ℕ) (IsNumber : ℕ → Type 0)
    → IsField number number_text IsNumber
    → (item : List A → List ℕ → Field A) (text : A → List ℕ) (Known : List A → Type 0) → IsItem item text Known → Known []
    → IsField (λ bytes. counted_at number item bytes) (λ xs. number_text (length xs) ++ flat_map text xs)
    (λ xs. IsNumber (length xs) × Known xs)
counted_is number number_text IsNumber field item text Known is none = record {
  takes = counted_take number number_text IsNumber field item text Known is none;
  again = counted_again number number_text IsNumber field item text Known is;
}

-- items that are read each alone
pub alone_is : {A : Type 0} (at : List ℕ → Field A) (text : A → List ℕ) (Fits : A → Type 0) → IsField at text Fits
    → IsItem (λ known. at) text (AllByRecursion Fits)
alone_is at text Fits field = record {
  takes = λ known bytes x fits in_range e. let t = field.takes bytes x in_range e in (t.0, all_push Fits known x.0 fits t.1);
  again = λ known a more rest fits. field.again a rest (all_middle Fits known a more fits);
}

-- so many items are read
pub items_count : {A : Type 0} (item : List A → List ℕ → Field A) (n : ℕ) (known : List A) (bytes : List ℕ) (x : List A × List ℕ)
    → items_at item n known bytes ≡ Ok x → length x.0 ≡ length known + n
unfolding items_at
items_count item zero known bytes x e =
    subst (λ y. length y.0 ≡ length known + 0) (ok_is (known, bytes) x e) (omega arith)
items_count item (suc n) known bytes x e =
    let next = bind_ok (item known bytes) _ x e in
    omega (arith, items_count item n (known ++ next.0.0 ∷ []) next.0.1 x next.2, length-append known (next.0.0 ∷ []))

-- ---- one more item, as a loop reads

pub items_step : {A : Type 0} (item : List A → List ℕ → Field A) (n : ℕ) (known : List A) (bytes : List ℕ) (a : A) (rest : List ℕ)
    → item known bytes ≡ Ok (a, rest) → items_at item (suc n) known bytes ≡ items_at item n (known ++ a ∷ []) rest
unfolding items_at
items_step item n known bytes a rest e = rw e refl

pub items_stop : {A : Type 0} (item : List A → List ℕ → Field A) (n : ℕ) (known : List A) (bytes : List ℕ) (left : ℕ)
    → item known bytes ≡ Err left → items_at item (suc n) known bytes ≡ Err left
unfolding items_at
items_stop item n known bytes left e = rw e refl

pub items_end : {A : Type 0} (item : List A → List ℕ → Field A) (known : List A) (bytes : List ℕ)
    → items_at item 0 known bytes ≡ Ok (known, bytes)
unfolding items_at
items_end item known bytes = refl
