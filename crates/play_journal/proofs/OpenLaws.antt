-- A file that is opened, and cut behind its closing gate.
use Rattle.std.proofs.Common.{◌≡◌, ℕ, ◌+◌, ◌≤◌, List, [], ◌∷◌, ◌++◌, length, length-append, take, append_assoc, Ok, arith, refl, sym, ap}
use Rattle.std.proofs.Common.{subst, ◌∙◌}
use Rattle.std.specs.Prelude.{flat_map, unwrap_or}
use Rattle.std.specs.Result.{result_ok}
use Rattle.std.proofs.lemmas.List.{append-nil, take_at, length-take-le}
use Rattle.disk_model.specs.History.{Change}
use Rattle.disk_model.specs.Images.{window, settled}
use Rattle.disk_model.specs.Moments.{AllSince}
use Rattle.disk_model.proofs.MomentLaws.{all_begin, all_weaker}
use Rattle.disk_model.proofs.WindowLaws.{settled_all}
use Rattle.play_journal.specs.Content.{Content}
use Rattle.play_journal.specs.File.{gated, spelling, IsFile}
use Rattle.play_journal.specs.JournalState.{no_content, content_in, IsInUse}
use Rattle.play_journal.specs.Opening.{ReadsSame}
use Rattle.play_journal.specs.Pair.{IsBelow}
use Rattle.play_journal.specs.Reading.{Open, front, read}
use Rattle.play_journal.proofs.CutLaws.{BeginsWith}
use Rattle.play_journal.proofs.FileLaws.{length-spelling, front-file, read-file, ReadAs, read-inverse}
use Rattle.play_journal.proofs.RecordLaws.{IsBytes}

pub same_file : (bytes : List ℕ) → ReadsSame bytes bytes
same_file bytes = record { front = refl; read = refl }

-- two spellings of one file read the same
pub files_same : (x y : List ℕ) (file : Content) → IsFile x file → IsFile y file → ReadsSame x y
files_same x y file first second = record {
  front = front-file x file first ∙ sym (front-file y file second);
  read = read-file x file first ∙ sym (read-file y file second);
}

-- the offset of the closing gate
abbrev pub gate_of : Content → ℕ
gate_of content = 32 + length content.snapshot + length (flat_map gated content.records)

module _ (bytes : List ℕ) (generation : ℕ) (content : Content) (fits : IsBytes bytes) (opened : front bytes ≡ Open generation)
    (is : read bytes ≡ Ok content) where
  pub own : ReadAs bytes generation content
  own = read-inverse bytes generation content fits opened is

  pub own_gate : length (spelling own.file) ≡ gate_of content
  own_gate = length-spelling own.file ∙ ap (λ (c : Content). gate_of c) own.says

  own_length : length bytes ≡ length (spelling own.file) + 1 + length own.is_file.free
  own_length = ap (λ (l : List ℕ). length l) own.is_file.spelled ∙ length-append (spelling own.file)
      (own.is_file.gate ∷ own.is_file.free) ∙ omega arith

  pub gate_within : gate_of content + 1 ≤ length bytes
  gate_within = omega (arith, own_gate, own_length)

  cut_parts : take (gate_of content + 1) bytes ≡ spelling own.file ++ own.is_file.gate ∷ []
  cut_parts =
      ap (λ (l : List ℕ). take (gate_of content + 1) l) (own.is_file.spelled
      ∙ sym (append_assoc (spelling own.file) (own.is_file.gate ∷ []) own.is_file.free))
      ∙ take_at (spelling own.file ++ own.is_file.gate ∷ []) own.is_file.free (gate_of content + 1) (omega (
        arith,
        length-append
            (spelling own.file) (own.is_file.gate ∷ []),
        own_gate,
      ))

  pub cut_file : (rest : List ℕ) → IsFile (take (gate_of content + 1) bytes ++ rest) own.file
  cut_file rest = record {
    fits = own.is_file.fits;
    gate = own.is_file.gate;
    free = rest;
    closed = own.is_file.closed;
    spelled = ap (λ (l : List ℕ). l ++ rest) cut_parts ∙ append_assoc (spelling own.file) (own.is_file.gate ∷ []) rest;
  }

  pub cut_same : (x : List ℕ) → BeginsWith (take (gate_of content + 1) bytes) x → ReadsSame x bytes
  cut_same x begins = subst (λ (l : List ℕ). ReadsSame l bytes) (sym begins.1) (files_same (take (gate_of content + 1) bytes
      ++ begins.0) bytes own.file (cut_file begins.0) own.is_file)

  cut_exact : (here : List ℕ) (len : ℕ) → here ≡ take len bytes → len ≡ gate_of content + 1 → IsFile here own.file
  cut_exact here len is_cut is_len =
      subst (λ (l : List ℕ). IsFile l own.file) (append-nil (take (gate_of content + 1) bytes) ∙ sym (is_cut
      ∙ ap (λ (n : ℕ). take n bytes) is_len)) (cut_file [])

  pub cut_content : (here : List ℕ) (len : ℕ) → here ≡ take len bytes → len ≡ gate_of content + 1 → content_in here ≡ content
  cut_content here len is_cut is_len =
      ap (λ r. unwrap_or (result_ok r) no_content) (read-file here own.file (cut_exact here len is_cut is_len)) ∙ own.says

  -- the file is in use beside one of a lower generation
  pub cut_in_use : (here there : List ℕ) (end len : ℕ) → here ≡ take len bytes → len ≡ end + 1 → end ≡ gate_of content
      → IsBelow generation there → IsInUse here there end content.layout content.generation content.base (length content.records)
  cut_in_use here there end len is_cut is_len is_end below = record {
    file = own.file;
    is_file = cut_exact here len is_cut (omega arith);
    ends = omega (arith, ap (λ (l : List ℕ). length l) is_cut ∙ length-take-le len bytes (omega (arith, gate_within)) ∙ is_len);
    gate = own_gate ∙ sym is_end;
    laid = ap (λ (c : Content). c.layout) own.says;
    numbered = ap (λ (c : Content). c.generation) own.says;
    before = ap (λ (c : Content). c.base) own.says;
    counted = ap (λ (c : Content). length c.records) own.says;
    other = subst (λ (n : ℕ). IsBelow n there) (sym own.generation_is) below;
  }

  -- whatever a crash leaves while the end is cut off
  pub cut_since : (h h' h'' : List Change) (c : List ℕ) (len : ℕ) → h' ≡ h → c ≡ bytes → len ≡ gate_of content + 1
      → AllSince (BeginsWith (take len c)) h'' (length h') → AllSince (λ x. ReadsSame x bytes) h'' (length h)
  cut_since h h' h'' c len same is_bytes is_len since =
      let named : AllSince (BeginsWith (take (gate_of content + 1) bytes)) h'' (length h) =
      subst (λ (t : ℕ). AllSince (BeginsWith (take (gate_of content + 1) bytes)) h'' t) (ap (λ (l : List Change). length l) same)
      (subst (λ (n : ℕ). AllSince (BeginsWith (take n bytes)) h'' (length h')) is_len
      (subst (λ (l : List ℕ). AllSince (BeginsWith (take len l)) h'' (length h')) is_bytes since)) in
      all_weaker (BeginsWith (take (gate_of content + 1) bytes)) (λ x. ReadsSame x bytes) h'' (length h) cut_same named

-- a settled file that nothing was done to
pub settled_since : (h h' : List Change) (bytes : List ℕ) → window h ≡ settled bytes → h' ≡ h
    → AllSince (λ x. ReadsSame x bytes) h' (length h)
settled_since h h' bytes is_settled same =
    subst (λ l. AllSince (λ x. ReadsSame x bytes) l (length h)) (sym same)
    (all_begin (λ x. ReadsSame x bytes) h (settled_all (λ x. ReadsSame x bytes) h bytes is_settled (same_file bytes)))
