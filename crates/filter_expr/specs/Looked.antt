-- The tags whose texts a test looks at.
use Rattle.std.specs.Prelude.{ℕ, Bool, true, false, ◌&&◌, List}
use Rattle.song_files.specs.Tag.{is_tag}
use Rattle.song_files.specs.Tags.{TagText}
use Rattle.song_files.specs.declared.tag.Tag.{Tag}
use Rattle.filter_expr.specs.declared.case.Case.{Case}
use Rattle.filter_expr.specs.declared.subject.Comparison.{Comparison}
use Rattle.filter_expr.specs.declared.subject.Subject.{Subject}
use Rattle.filter_expr.specs.declared.subject.Subject.TheVariants.{OfTag, Any, AnyText, File}
use Rattle.filter_expr.specs.Fallback.{told_tag}
use Rattle.filter_expr.specs.Meaning.{is_like}
use Rattle.regular_expr.specs.Patterns.{is_found}

abbrev pub is_of : Subject → Tag → Bool
is_of (OfTag own) tag = is_tag tag own
is_of Any tag = true
is_of AnyText tag = true
is_of File tag = false

-- the subject with the tag whose texts are told for its own
abbrev pub told_subject : List TagText → Subject → Subject
told_subject tags (OfTag tag) = OfTag (told_tag tags tag)
told_subject tags Any = Any
told_subject tags AnyText = AnyText
told_subject tags File = File

-- a text that is looked at, and is like a value that isn't empty
abbrev pub is_like_of : Case → Subject → Comparison → List ℕ → TagText → Bool
is_like_of case subject comparison value t = is_of subject t.tag && is_like case comparison value t.text

-- a text that is looked at, and in which the pattern of a text stands
abbrev pub is_found_of : Bool → Subject → List ℕ → TagText → Bool
is_found_of fold subject source t = is_of subject t.tag && is_found fold source t.text
