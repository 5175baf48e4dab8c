use Rattle.song_db.specs.Distinct.{IsValue, IsFolderIn}
use Rattle.song_db.specs.Query.{values_of, folders_in}
use Rattle.song_db.proofs.DistinctTexts.{each_value, each_folder, one_list}
use Rattle.song_db.proofs.laws.each_text_once.Goals as goal

pub returns-clause-values : goal.returns-clause-values
returns-clause-values c = each_value

pub returns-clause-only_values : goal.returns-clause-only_values
returns-clause-only_values c = λ rows tag texts are. one_list (IsValue rows tag) texts (values_of rows tag) are (each_value rows tag)

pub returns-clause-folders : goal.returns-clause-folders
returns-clause-folders c = each_folder

pub returns-clause-only_folders : goal.returns-clause-only_folders
returns-clause-only_folders c = λ rows place texts are. one_list (IsFolderIn rows place) texts (folders_in rows place) are (each_folder rows place)
