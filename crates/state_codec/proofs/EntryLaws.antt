-- An entry of the queue, as it is read.
use Rattle.std.proofs.Common.{◌≡◌, ℕ, ◌-◌, Bool, true, false, ◌&&◌, cond, List, length, Result, Ok, Err, refl, sym, ap, subst, ◌∙◌}
use Rattle.std.specs.Prelude.{not}
use Rattle.std.specs.Int.{is_in_range}
use Rattle.play_queue.specs.Builder.{has_id}
use Rattle.play_queue.specs.Queue.{QueueState}
use Rattle.play_queue.specs.declared.entry.Entry.{Entry}
use Rattle.song_db.specs.Row.{Row}
use Rattle.state_codec.specs.declared.fields.ReadError.{ReadError}
use Rattle.state_codec.specs.declared.fields.ReadError.TheVariants.{Fault, NoMemory}
use Rattle.state_codec.specs.Fields.{Field, such, byte_at, u32_at, number_within}
use Rattle.state_codec.specs.Given.{Fails, GivesEntry, TakesEntry}
use Rattle.state_codec.specs.ReadingSaved.{is_free_id, numbered_at, rest_of_entry_at, entry_at}
use Rattle.state_codec.specs.Steps.{◌>>=◌}
use Rattle.state_codec.proofs.FieldLaws.{bind_ok, ok_is}

-- ---- two tests of a field, one after the other

such_cut : {A : Type 0} (p q : A → Bool) (field : Field A) (len left : ℕ) → (field >>= λ x. cond (p x.0) (Ok x) (Err len)) ≡ Err left
    → (field >>= λ x. cond (p x.0 && q x.0) (Ok x) (Err len)) ≡ Err left
such_cut p q (Err d) len left e = e
such_cut p q (Ok x) len left e = go (p x.0) (q x.0) e where
  go : (b d : Bool) → cond b (Ok x) (Err len) ≡ Err left → cond (b && d) (Ok x) (Err len) ≡ Err left
  go true d f = absurd cc
  go false true f = f
  go false false f = f

such_fails : {A : Type 0} (p q : A → Bool) (at : List ℕ → Field A) (bytes : List ℕ) (error : ReadError) → Fails error (such p at bytes)
    → Fails error (such (λ x. p x && q x) at bytes)
unfolding such
such_fails p q at bytes (Fault left) e = such_cut p q (at bytes) (length bytes) left e
such_fails p q at bytes NoMemory e = tt

such_goes : {A : Type 0} (p q : A → Bool) (field : Field A) (len : ℕ) (x : A × List ℕ)
    → (field >>= λ x. cond (p x.0) (Ok x) (Err len)) ≡ Ok x
    → (field >>= λ x. cond (p x.0 && q x.0) (Ok x) (Err len)) ≡ cond (q x.0) (Ok x) (Err len)
such_goes p q (Err d) len x e = absurd cc
such_goes {A} p q (Ok y) len x e = go (p y.0) e where
  go : (b : Bool) → cond b (Ok y) (Err len) ≡ Ok x → cond (b && q y.0) (Ok y) (Err len) ≡ cond (q x.0) (Ok x) (Err len)
  go true f = ap (λ (z : A × List ℕ). cond (q z.0) (Ok z) (Err len)) (ok_is y x f)
  go false f = absurd cc

such_passes : {A : Type 0} (p q : A → Bool) (at : List ℕ → Field A) (bytes : List ℕ) (x : A × List ℕ) → such p at bytes ≡ Ok x
    → such (λ x. p x && q x) at bytes ≡ cond (q x.0) (Ok x) (Err (length bytes))
unfolding such
such_passes p q at bytes x e = such_goes p q (at bytes) (length bytes) x e

-- ---- an entry

pub early : (songs : List Row) (version next_id : ℕ) (known : List Entry) (bytes : List ℕ) (error : ReadError)
    → Fails error (number_within 1 (next_id - 1) bytes)
    → Fails error (entry_at songs version next_id known bytes)
unfolding entry_at
early songs version next_id known bytes error e =
    passed error (such (is_free_id next_id known) u32_at bytes)
    (such_fails (is_in_range 1 (next_id - 1)) (λ id. not (has_id known id)) u32_at bytes error e) where
      passed : (error : ReadError) (field : Field ℕ) → Fails error field
          → Fails error (field >>= λ id. rest_of_entry_at songs version id.0 id.1)
      passed (Fault left) field f = rw f refl
      passed NoMemory field f = tt

id_read : (next_id id : ℕ) (known : List Entry) (bytes after : List ℕ) → number_within 1 (next_id - 1) bytes ≡ Ok (id, after)
    → such (is_free_id next_id known) u32_at bytes ≡ cond (not (has_id known id)) (Ok (id, after)) (Err (length bytes))
id_read next_id id known bytes after e = such_passes (is_in_range 1 (next_id - 1)) (λ id. not (has_id known id)) u32_at bytes (id, after) e

pub read_on : (songs : List Row) (version next_id id : ℕ) (known : List Entry) (bytes after : List ℕ)
    → number_within 1 (next_id - 1) bytes ≡ Ok (id, after)
    → has_id known id ≡ false → entry_at songs version next_id known bytes ≡ rest_of_entry_at songs version id after
unfolding entry_at
read_on songs version next_id id known bytes after e free = rw (id_read next_id id known bytes after e, free) refl

pub stopped : (songs : List Row) (version next_id id : ℕ) (known : List Entry) (bytes after : List ℕ)
    → number_within 1 (next_id - 1) bytes ≡ Ok (id, after)
    → has_id known id ≡ true → entry_at songs version next_id known bytes ≡ Err (length bytes)
unfolding entry_at
stopped songs version next_id id known bytes after e taken = rw (id_read next_id id known bytes after e, taken) refl

pub later : (songs : List Row) (version next_id id : ℕ) (known : List Entry) (bytes after : List ℕ) (error : ReadError)
    → number_within 1 (next_id - 1) bytes ≡ Ok (id, after)
    → Fails error (rest_of_entry_at songs version id after)
    → Fails (cond (has_id known id) (Fault (length bytes)) error) (entry_at songs version next_id known bytes)
later songs version next_id id known bytes after error e fails = go (has_id known id) refl where
  go : (b : Bool) → has_id known id ≡ b → Fails (cond b (Fault (length bytes)) error) (entry_at songs version next_id known bytes)
  go true taken = stopped songs version next_id id known bytes after e taken
  go false free = subst (Fails error) (sym (read_on songs version next_id id known bytes after e free)) fails

-- the id of the rest is the one that was read
pub rest_id : (songs : List Row) (version id : ℕ) (bytes : List ℕ) (x : Entry × List ℕ) → rest_of_entry_at songs version id bytes ≡ Ok x
    → x.0.id ≡ id
unfolding rest_of_entry_at
rest_id songs version id bytes x e =
    let uri = bind_ok (numbered_at songs bytes) _ x e in
    let priority = bind_ok (byte_at uri.0.1) _ x uri.2 in
    let stamp = bind_ok (number_within 1 version priority.0.1) _ x priority.2 in
    ap (λ (y : Entry × List ℕ). y.0.id)
    (sym (ok_is (record { id = id; uri = uri.0.0; priority = priority.0.0; stamp = stamp.0.0 }, stamp.0.1) x stamp.2))

pub taken_gives : (r : Result QueueState ReadError) (known : QueueState) (entry : Entry) (songs : List Row) (version next_id : ℕ)
    (bytes after rest : List ℕ)
    → number_within 1 (next_id - 1) bytes ≡ Ok (entry.id, after) → rest_of_entry_at songs version entry.id after ≡ Ok (entry, rest)
    → TakesEntry r known entry (Fault (length bytes))
    → GivesEntry r known rest (entry_at songs version next_id known.entries bytes)
taken_gives (Ok queue) known entry songs version next_id bytes after rest e f t =
    (entry, read_on songs version next_id entry.id known.entries bytes after e t.0 ∙ f, t.1)
taken_gives (Err NoMemory) known entry songs version next_id bytes after rest e f t = tt
taken_gives (Err (Fault left)) known entry songs version next_id bytes after rest e f t =
    let same : left ≡ length bytes = fault_is left (length bytes) t.1 in
    stopped songs version next_id entry.id known.entries bytes after e t.0 ∙ ap (λ (n : ℕ). Err n) (sym same) where
      fault_is : (a b : ℕ) → Fault a ≡ Fault b → a ≡ b
      fault_is a b h = cc
