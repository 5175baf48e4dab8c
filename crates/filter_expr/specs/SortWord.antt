-- The order that a word asks for.
use Rattle.std.specs.Prelude.{ℕ, Bool, true, false, ◌==◌, ◌&&◌, List, [], ◌∷◌, Option, Some, None, Result, Ok, Err, codes, if◌then◌else◌}
use Rattle.std.specs.Str.{str_eq_ignore_ascii_case}
use Rattle.profile.specs.declared.profile.Profile.{Profile}
use Rattle.song_files.specs.declared.tag.Tag.{Tag}
use Rattle.filter_expr.specs.declared.order.SortKey.{SortKey}
use Rattle.filter_expr.specs.declared.order.SortKey.TheVariants.{OfTag, File, LastModified}
use Rattle.filter_expr.specs.declared.order.SortOrder.{SortOrder}
use Rattle.filter_expr.specs.Names.{tag_named, knows_times, is_file_name}
use Rattle.filter_expr.specs.Words.{Refusal}
use Rattle.filter_expr.specs.Words.Refusal.{UnknownTag}

-- a tag, a song's file, or `Last-Modified` where times are known
abbrev pub sort_key : Profile → Option Tag → List ℕ → Option SortKey
sort_key profile (Some tag) name = Some (OfTag tag)
sort_key profile None name =
    if is_file_name profile name then Some File
    else (if knows_times profile && str_eq_ignore_ascii_case name (codes "last-modified") then Some LastModified else None)

abbrev pub order_by : Bool → List ℕ → Option SortKey → Result SortOrder Refusal
order_by descending name None = Err (UnknownTag name)
order_by descending name (Some key) = Ok (record { key = key; descending = descending })

abbrev pub order_of : Profile → Bool → List ℕ → Result SortOrder Refusal
order_of profile descending name = order_by descending name (sort_key profile (tag_named profile name) name)

-- `TAG`, or the other way round by `-TAG`
abbrev pub sort_order : Profile → List ℕ → Result SortOrder Refusal
sort_order profile [] = order_of profile false []
sort_order profile (b ∷ word) = if b == 45 then order_of profile true word else order_of profile false (b ∷ word)
