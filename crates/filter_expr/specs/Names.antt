-- The names of what a test looks at; the case of ASCII letters doesn't count.
use Rattle.std.specs.Prelude.{ℕ, List, Bool, true, false, ◌&&◌, ◌||◌, Option, Some, None, codes, if◌then◌else◌}
use Rattle.std.specs.Str.{str_eq_ignore_ascii_case}
use Rattle.profile.specs.Profile.{tags_of}
use Rattle.profile.specs.declared.profile.Profile.{Profile}
use Rattle.profile.specs.declared.profile.Profile.TheVariants.{Named, Wide}
use Rattle.song_files.specs.Tag.{tag_named as any_tag_named}
use Rattle.song_files.specs.TagSet.{has_tag}
use Rattle.song_files.specs.declared.tag.Tag.{Tag}
use Rattle.filter_expr.specs.declared.subject.Subject.{Subject}
use Rattle.filter_expr.specs.declared.subject.Subject.TheVariants.{OfTag, Any, AnyText, File}
use Rattle.filter_expr.specs.declared.name.Key.{Key}
use Rattle.filter_expr.specs.declared.name.Key.TheVariants.{Of, Base, Since, Format}

-- a tag that the profile has
abbrev pub known : Profile → Option Tag → Option Tag
known profile None = None
known profile (Some tag) = if has_tag (tags_of profile) tag then Some tag else None

abbrev pub tag_named : Profile → List ℕ → Option Tag
tag_named profile name = known profile (any_tag_named name)

-- whether songs are told apart by when their files were changed
abbrev pub knows_times : Profile → Bool
knows_times Named = false
knows_times Wide = true

-- a song's file, which has another name in the wide profile
abbrev pub is_file_name : Profile → List ℕ → Bool
is_file_name Named name = str_eq_ignore_ascii_case name (codes "file")
is_file_name Wide name = str_eq_ignore_ascii_case name (codes "file") || str_eq_ignore_ascii_case name (codes "filename")

-- all tags, as a profile looks at them
abbrev pub any_of : Profile → Subject
any_of Named = Any
any_of Wide = AnyText

-- what the wide profile alone looks at
abbrev pub other_key : Profile → List ℕ → Option Key
other_key Named name = None
other_key Wide name =
    if str_eq_ignore_ascii_case name (codes "modified-since") then Some Since
    else (if str_eq_ignore_ascii_case name (codes "audioformat") then Some Format else None)

-- a tag, or something else that is named
abbrev pub key_of : Profile → Option Tag → List ℕ → Option Key
key_of profile (Some tag) name = Some (Of (OfTag tag))
key_of profile None name =
    if str_eq_ignore_ascii_case name (codes "any") then Some (Of (any_of profile))
    else (if is_file_name profile name then Some (Of File)
    else (if str_eq_ignore_ascii_case name (codes "base") then Some Base else other_key profile name))

unfoldable pub key_named : Profile → List ℕ → Option Key
key_named profile name = key_of profile (tag_named profile name) name
