-- A tree as a list of numbers and texts, by which proofs tell trees apart.
use Rattle.std.specs.Prelude.{◌≡◌, ℕ, zero, suc, ◌==◌, List, [], ◌∷◌, Option, Some, None, refl, if◌then◌else◌}
use Rattle.std.specs.Coded.{Coded, code_by, coded_ℕ, coded_list, coded×}
use Rattle.std.proofs.Common.{ap, ◌∙◌}
use Rattle.song_files.specs.Tag.{number_of, tag_at}
use Rattle.song_files.specs.declared.tag.Tag.{Tag}
use Rattle.song_files.proofs.TagNumbers.{tag_at-number}
use Rattle.filter_expr.specs.declared.subject.Subject.{Subject}
use Rattle.filter_expr.specs.declared.subject.Subject.TheVariants.{OfTag, Any, AnyText, File}
use Rattle.filter_expr.specs.declared.subject.AudioFormat.{AudioFormat}
use Rattle.filter_expr.specs.declared.subject.Comparison.{Comparison}
use Rattle.filter_expr.specs.declared.subject.Comparison.TheVariants.{Equals, Contains, Begins, Pair, WidePair}
use Rattle.filter_expr.specs.declared.subject.Sample.{Sample}
use Rattle.filter_expr.specs.declared.subject.Sample.TheVariants.{Bits8, Bits16, Bits24, Bits32, Float, Dsd}
use Rattle.filter_expr.specs.Tree.{Tree}
use Rattle.filter_expr.specs.Tree.Tree.{Test, Like, Base, Since, Format, Not, And}

-- what a node is, its subject, and its value
abbrev Step : Type 0
Step = ℕ × (ℕ × List ℕ)

abbrev subject_number : Subject → ℕ
subject_number Any = 0
subject_number File = 1
subject_number AnyText = 2
subject_number (OfTag tag) = suc (suc (suc (number_of tag)))

abbrev subject_of : Option Tag → Subject
subject_of None = Any
subject_of (Some tag) = OfTag tag

abbrev subject_at : ℕ → Subject
subject_at zero = Any
subject_at (suc zero) = File
subject_at (suc (suc zero)) = AnyText
subject_at (suc (suc (suc n))) = subject_of (tag_at n)

abbrev comparison_number : Comparison → ℕ
comparison_number Equals = 0
comparison_number Contains = 1
comparison_number Pair = 2
comparison_number WidePair = 7
comparison_number Begins = 8

-- a number that may be missing
abbrev option_number : Option ℕ → ℕ
option_number None = 0
option_number (Some n) = suc n

abbrev option_at : ℕ → Option ℕ
option_at zero = None
option_at (suc n) = Some n

abbrev sample_number : Option Sample → ℕ
sample_number None = 0
sample_number (Some Bits8) = 1
sample_number (Some Bits16) = 2
sample_number (Some Bits24) = 3
sample_number (Some Bits32) = 4
sample_number (Some Float) = 5
sample_number (Some Dsd) = 6

abbrev sample_at : ℕ → Option Sample
sample_at zero = None
sample_at (suc zero) = Some Bits8
sample_at (suc (suc zero)) = Some Bits16
sample_at (suc (suc (suc zero))) = Some Bits24
sample_at (suc (suc (suc (suc zero)))) = Some Bits32
sample_at (suc (suc (suc (suc (suc zero))))) = Some Float
sample_at (suc (suc (suc (suc (suc (suc n)))))) = Some Dsd

abbrev format_numbers : AudioFormat → List ℕ
format_numbers format = option_number format.rate ∷ sample_number format.sample ∷ option_number format.channels ∷ []

abbrev format_with : Option ℕ → Option Sample → Option ℕ → AudioFormat
format_with rate sample channels = record { rate = rate; sample = sample; channels = channels }

abbrev numbered_format : ℕ → ℕ → ℕ → AudioFormat
numbered_format rate sample channels = format_with (option_at rate) (sample_at sample) (option_at channels)

abbrev format_at : List ℕ → AudioFormat
format_at [] = numbered_format 0 0 0
format_at (rate ∷ []) = numbered_format rate 0 0
format_at (rate ∷ sample ∷ []) = numbered_format rate sample 0
format_at (rate ∷ sample ∷ channels ∷ more) = numbered_format rate sample channels

-- the nodes in front of their children's
abbrev steps : Tree → List Step → List Step
steps (Test subject comparison value) after = (comparison_number comparison, (subject_number subject, value)) ∷ after
steps (Like subject source) after = (9, (subject_number subject, source)) ∷ after
steps (Base base) after = (3, (0, base)) ∷ after
steps (Since time) after = (6, (time, [])) ∷ after
steps (Format format) after = (10, (0, format_numbers format)) ∷ after
steps (Not tree) after = (4, (0, [])) ∷ steps tree after
steps (And left right) after = (5, (0, [])) ∷ steps left (steps right after)

abbrev with_not : List Tree → List Tree
with_not [] = []
with_not (tree ∷ trees) = Not tree ∷ trees

abbrev with_and : List Tree → List Tree
with_and [] = []
with_and (tree ∷ []) = []
with_and (left ∷ right ∷ trees) = And left right ∷ trees

abbrev placed : Step → List Tree → List Tree
placed step trees =
    if step.0 == 0 then Test (subject_at step.1.0) Equals step.1.1 ∷ trees
    else (if step.0 == 1 then Test (subject_at step.1.0) Contains step.1.1 ∷ trees
    else (if step.0 == 2 then Test (subject_at step.1.0) Pair step.1.1 ∷ trees
    else (if step.0 == 3 then Base step.1.1 ∷ trees
    else (if step.0 == 4 then with_not trees
    else (if step.0 == 5 then with_and trees
    else (if step.0 == 6 then Since step.1.0 ∷ trees
    else (if step.0 == 7 then Test (subject_at step.1.0) WidePair step.1.1 ∷ trees
    else (if step.0 == 8 then Test (subject_at step.1.0) Begins step.1.1 ∷ trees
    else (if step.0 == 9 then Like (subject_at step.1.0) step.1.1 ∷ trees else Format (format_at step.1.1) ∷ trees)))))))))

-- the trees of nodes
abbrev trees_of : List Step → List Tree
trees_of [] = []
trees_of (step ∷ after) = placed step (trees_of after)

abbrev first_tree : List Tree → Tree
first_tree [] = Base []
first_tree (tree ∷ trees) = tree

pub subject_again : (subject : Subject) → subject_at (subject_number subject) ≡ subject
subject_again (OfTag tag) = ap subject_of (tag_at-number tag)
subject_again Any = refl
subject_again AnyText = refl
subject_again File = refl

option_again : (n : Option ℕ) → option_at (option_number n) ≡ n
option_again None = refl
option_again (Some n) = refl

sample_again : (sample : Option Sample) → sample_at (sample_number sample) ≡ sample
sample_again None = refl
sample_again (Some Bits8) = refl
sample_again (Some Bits16) = refl
sample_again (Some Bits24) = refl
sample_again (Some Bits32) = refl
sample_again (Some Float) = refl
sample_again (Some Dsd) = refl

format_again : (format : AudioFormat) → format_at (format_numbers format) ≡ format
format_again format =
    let sample = sample_at (sample_number format.sample) in
    let channels = option_at (option_number format.channels) in
    ap (λ (r : Option ℕ). format_with r sample channels) (option_again format.rate)
    ∙ ap (λ (s : Option Sample). format_with format.rate s channels) (sample_again format.sample)
    ∙ ap (λ (c : Option ℕ). format_with format.rate format.sample c) (option_again format.channels)

pub trees_again : (tree : Tree) (after : List Step) → trees_of (steps tree after) ≡ tree ∷ trees_of after
trees_again (Test subject Equals value) after = ap (λ (s : Subject). Test s Equals value ∷ trees_of after) (subject_again subject)
trees_again (Test subject Contains value) after = ap (λ (s : Subject). Test s Contains value ∷ trees_of after) (subject_again subject)
trees_again (Test subject Pair value) after = ap (λ (s : Subject). Test s Pair value ∷ trees_of after) (subject_again subject)
trees_again (Test subject WidePair value) after = ap (λ (s : Subject). Test s WidePair value ∷ trees_of after) (subject_again subject)
trees_again (Test subject Begins value) after = ap (λ (s : Subject). Test s Begins value ∷ trees_of after) (subject_again subject)
trees_again (Like subject source) after = ap (λ (s : Subject). Like s source ∷ trees_of after) (subject_again subject)
trees_again (Base base) after = refl
trees_again (Since time) after = refl
trees_again (Format format) after = ap (λ (f : AudioFormat). Format f ∷ trees_of after) (format_again format)
trees_again (Not tree) after = ap with_not (trees_again tree after)
trees_again (And left right) after =
    ap with_and (trees_again left (steps right after)) ∙ ap (λ (ts : List Tree). with_and (left ∷ ts)) (trees_again right after)

abbrev pub tree_code : Coded Tree
tree_code =
    code_by (List Step) (coded_list (coded× coded_ℕ (coded× coded_ℕ (coded_list coded_ℕ)))) (λ tree. steps tree [])
    (λ list. first_tree (trees_of list)) (λ tree. ap first_tree (trees_again tree []))
