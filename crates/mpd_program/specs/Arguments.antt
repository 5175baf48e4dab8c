-- What the words of the command line ask for.
use Rattle.std.specs.Prelude.{ℕ, List, codes, ◌&&◌, ◌||◌, Option, Some, None, string_bytes, if◌then◌else◌}
use Rattle.std.specs.Str.{bytes_eq}
use Rattle.mpd_program.specs.declared.arguments.Task.{Task}
use Rattle.mpd_program.specs.declared.arguments.Task.TheVariants.{Help, Version, ConsoleInMemory, Console, Create, Serve, Look, Salvage}

-- a task, with the path of its configuration
pub data Asked : Type 0 where
  help : Asked
  version : Asked
  in_memory : Asked
  console : List ℕ → Asked
  create : List ℕ → Asked
  serve : List ℕ → Asked
  look : List ℕ → Asked
  -- where to write, and the configuration
  salvage : List ℕ → List ℕ → Asked

abbrev pub task_seen : Task → Asked
task_seen Help = help
task_seen Version = version
task_seen ConsoleInMemory = in_memory
task_seen (Console path) = console (string_bytes path)
task_seen (Create path) = create (string_bytes path)
task_seen (Serve path) = serve (string_bytes path)
task_seen (Look path) = look (string_bytes path)
task_seen (Salvage to path) = salvage (string_bytes to) (string_bytes path)

-- the task of the first word and at most one more
abbrev pub task_of : List ℕ → Option (List ℕ) → Option Asked
task_of first None =
    if bytes_eq first (codes "--help") || bytes_eq first (codes "-h") then Some help
    else if bytes_eq first (codes "--version") then Some version
    else if bytes_eq first (codes "console") then Some in_memory
    else None
task_of first (Some path) =
    if bytes_eq first (codes "console") then Some (console path)
    else if bytes_eq first (codes "create") then Some (create path)
    else if bytes_eq first (codes "serve") then Some (serve path)
    else if bytes_eq first (codes "look") then Some (look path)
    else None

-- the task of four words
abbrev pub task_of_four : List ℕ → List ℕ → List ℕ → List ℕ → Option Asked
task_of_four first option to path =
    if bytes_eq first (codes "look") && bytes_eq option (codes "--salvage") then Some (salvage to path) else None
