-- Reading a file, by its parts.
use Rattle.std.proofs.Common.{◌≡◌, ◌⊎◌, inl, inr, ℕ, ◌+◌, ◌<◌, ◌≤◌, List, [], length, drop, Result, Ok, Err, refl, sym, ap, subst, ◌∙◌}
use Rattle.std.specs.Prelude.{IfErr, IsErrAnd, slice_range}
use Rattle.std.specs.Int.{w32, w64}
use Rattle.std.proofs.lemmas.Bool.{lt-ltb}
use Rattle.play_journal.specs.declared.refusal.JournalError.{JournalError}
use Rattle.play_journal.specs.declared.refusal.JournalError.TheVariants.{NoMemory, Damaged}
use Rattle.play_journal.specs.Content.{Content}
use Rattle.play_journal.specs.Opening.{IsCause}
use Rattle.play_journal.specs.Pair.{told}
use Rattle.play_journal.specs.Reading.{number_at, records_at, with_read, read}
use Rattle.play_journal.proofs.FileLaws.{read_by}

-- what an exit returns
pub at_exit : {X E : Type 0} (r : Result X E) (P Q : E → Type 0) → IsErrAnd r P → ((e : E) → P e → Q e) → IfErr r Q
at_exit (Ok x) P Q is weaker = tt
at_exit (Err e) P Q is weaker = weaker e is

-- a snapshot that passes the end
pub snapshot_passes : (bytes : List ℕ) → length bytes < 32 + number_at w32 28 bytes → read bytes ≡ Err 28
unfolding read
snapshot_passes bytes short = rw (lt-ltb (length bytes) (32 + number_at w32 28 bytes) short) refl

module _ (bytes : List ℕ) (layout generation base size : ℕ) (layout_is : number_at w32 8 bytes ≡ layout)
    (generation_is : number_at w64 12 bytes ≡ generation)
    (base_is : number_at w64 20 bytes ≡ base) (size_is : number_at w32 28 bytes ≡ size) (within : 32 + size ≤ length bytes) where
  pub read-records : (snapshot : List ℕ) (records : List (List ℕ)) → snapshot ≡ slice_range bytes 32 (32 + size)
      → records_at 0 (32 + size) base (drop (32 + size) bytes) ≡ Ok records
      → read bytes ≡ Ok (record { layout = layout; generation = generation; base = base; snapshot = snapshot; records = records })
  read-records snapshot records own is =
      let front : List ℕ → Content = λ (l : List ℕ). record {
        layout = layout;
        generation = generation;
        base = base;
        snapshot = l;
        records = [];
      } in
      read_by bytes layout generation base size layout_is generation_is base_is size_is within
      ∙ ap (λ r. with_read (front (slice_range bytes 32 (32 + size))) r) is
      ∙ ap (λ (l : List ℕ). with_read (front l) (Ok records)) (sym own)

  read-fault : (offset : ℕ) → records_at 0 (32 + size) base (drop (32 + size) bytes) ≡ Err offset → read bytes ≡ Err offset
  read-fault offset is = read_by bytes layout generation base size layout_is generation_is base_is size_is within
      ∙ ap (λ r. with_read (record {
        layout = layout;
        generation = generation;
        base = base;
        snapshot = slice_range bytes 32 (32 + size);
        records = [];
      }) r) is

  pub records_cause : (e : JournalError) → (e ≡ NoMemory) ⊎ ((offset : ℕ) × (e ≡ Damaged offset)
      × (records_at 0 (32 + size) base (drop (32 + size) bytes) ≡ Err offset)) → IsCause (told (read bytes)) e
  records_cause e (inl is) = subst (λ x. IsCause (told (read bytes)) x) (sym is) tt
  records_cause e (inr is) = subst (λ x. IsCause (told (read bytes)) x) (sym is.1) (ap told (read-fault is.0 is.2))
