-- A file of the folder below, or one that a decoder tells.
use Rattle.std.specs.Prelude.{◌≡◌, ℕ}
use Rattle.decoded_files.specs.declared.file.DecodedFile.{DecodedFile}
use Rattle.decoded_files.specs.declared.file.DecodedFile.TheVariants.{Plain, Decoded}
use Rattle.decoded_files.specs.declared.source.DecodedSource.{DecodedSource}

-- what is said of the one or of the other
abbrev pub chosen : {S L : Type 0} {A : Type 0} → (S → A) → (DecodedSource L → A) → DecodedFile S L → A
chosen plain decoded (Plain source) = plain source
chosen plain decoded (Decoded source) = decoded source

-- the same of facts
abbrev pub IsChosen : {S L : Type 0} → (S → Type 0) → (DecodedSource L → Type 0) → DecodedFile S L → Type 0
IsChosen plain decoded (Plain source) = plain source
IsChosen plain decoded (Decoded source) = decoded source

-- no fault, where neither kind has one
pub none_of : {S L : Type 0} (steady : S → Type 0) (faults : S → ℕ) (none : (source : S) → steady source → faults source ≡ 0)
    (decoded_steady : DecodedSource L → Type 0) (decoded_faults : DecodedSource L → ℕ)
    (none' : (source : DecodedSource L) → decoded_steady source → decoded_faults source ≡ 0) (file : DecodedFile S L)
    → IsChosen steady decoded_steady file → chosen faults decoded_faults file ≡ 0
none_of steady faults none decoded_steady decoded_faults none' (Plain source) = none source
none_of steady faults none decoded_steady decoded_faults none' (Decoded source) = none' source
