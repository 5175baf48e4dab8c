-- One item after the other, as a loop reads.
use Rattle.std.proofs.Common.{◌≡◌, ℕ, suc, ◌+◌, ◌-◌, ◌<◌, ◌≤◌, List, ◌∷◌, [], ◌++◌, length, Ok, sym, ap, ◌∙◌, arith}
use Rattle.std.proofs.lemmas.List.{length-append}
use Rattle.state_codec.specs.declared.fields.ReadError.{ReadError}
use Rattle.state_codec.specs.declared.fields.ReadError.TheVariants.{Fault, NoMemory}
use Rattle.state_codec.specs.Fields.{Field}
use Rattle.state_codec.specs.Given.{Fails}
use Rattle.state_codec.specs.Items.{items_at}
use Rattle.state_codec.proofs.ItemLaws.{items_step, items_stop, items_end}

-- one item was read
pub items_go_on : {A : Type 0} (item : List A → List ℕ → Field A) (count i : ℕ) (known : List A) (bytes : List ℕ) (a : A) (rest : List ℕ)
    (whole : Field (List A))
    → i < count → item known bytes ≡ Ok (a, rest) → items_at item (count - i) known bytes ≡ whole
    → items_at item (count - (i + 1)) (known ++ a ∷ []) rest ≡ whole
items_go_on item count i known bytes a rest whole lt e so_far =
    let n : count - i ≡ suc (count - (i + 1)) = omega arith in
    sym (items_step item (count - (i + 1)) known bytes a rest e) ∙ ap (λ (k : ℕ). items_at item k known bytes) (sym n) ∙ so_far

-- and so many are read by now
pub one_counted : {A : Type 0} (known : List A) (a : A) (i : ℕ) → length known ≡ i → length (known ++ a ∷ []) ≡ i + 1
one_counted known a i so_far = omega (arith, length-append known (a ∷ []), so_far)

-- an item was at fault
pub items_fail : {A : Type 0} (item : List A → List ℕ → Field A) (count i : ℕ) (known : List A) (bytes : List ℕ) (error : ReadError)
    (whole : Field (List A))
    → i < count → Fails error (item known bytes) → items_at item (count - i) known bytes ≡ whole → Fails error whole
items_fail item count i known bytes (Fault left) whole lt e so_far =
    let n : count - i ≡ suc (count - (i + 1)) = omega arith in
    sym so_far ∙ ap (λ (k : ℕ). items_at item k known bytes) n ∙ items_stop item (count - (i + 1)) known bytes left e
items_fail item count i known bytes NoMemory whole lt e so_far = tt

-- all were read
pub items_done : {A : Type 0} (item : List A → List ℕ → Field A) (count i : ℕ) (known : List A) (bytes : List ℕ) (whole : Field (List A))
    → count ≤ i → items_at item (count - i) known bytes ≡ whole → whole ≡ Ok (known, bytes)
items_done item count i known bytes whole le so_far =
    let n : count - i ≡ 0 = omega arith in
    sym so_far ∙ ap (λ (k : ℕ). items_at item k known bytes) n ∙ items_end item known bytes
