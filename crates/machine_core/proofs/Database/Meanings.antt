-- What the commands of the database mean, case by case.
use Rattle.std.proofs.Common.{◌≡◌, ℕ, ◌-◌, Bool, true, false, not, List, [], ◌∷◌, length, ◌++◌, ◌||◌, codes, Bor, Option, Some, None, Ok, Err}
use Rattle.std.proofs.Common.{slice_get}
use Rattle.std.proofs.Common.{suc, refl, sym, ap, subst, ◌∙◌, arith}
use Rattle.std.specs.List.{flat_map}
use Rattle.std.specs.Prelude.{if◌then◌else◌}
use Rattle.std.specs.Str.{bytes_eq}
use Rattle.command_text.specs.AnswerNames.{database_lines, directory_line}
use Rattle.command_text.specs.AnswerSongs.{named_file_lines}
use Rattle.command_text.specs.AnswerStatus.{job_line}
use Rattle.command_text.specs.declared.refusal.CommandRefusal.{CommandRefusal}
use Rattle.command_text.specs.declared.refusal.CommandRefusal.TheVariants.{NoSuchUri}
use Rattle.command_text.specs.declared.tag_mask.TagMask.{TagMask}
use Rattle.profile.specs.declared.profile.Profile.{Profile}
use Rattle.profile.specs.declared.profile.Profile.TheVariants.{Named, Wide}
use Rattle.song_db.specs.Duration.{total_of}
use Rattle.song_db.specs.Place.{place_of}
use Rattle.song_db.specs.Query.{is_folder, values_of}
use Rattle.song_db.specs.Row.{Row}
use Rattle.song_db.specs.Told.{told_under}
use Rattle.song_db.specs.ToldWalk.{told_folders_in, told_songs_in}
use Rattle.song_db.specs.Walk.{Item}
use Rattle.song_db.specs.declared.place.Place.{Place}
use Rattle.song_db.specs.declared.place.Place.TheVariants.{At}
use Rattle.song_files.specs.declared.tag.Tag.TheVariants.{Artist, Album}
use Rattle.state_codec.specs.SavedState.{SavedState}
use Rattle.state_codec.specs.Spelling.{ops_bytes}
use Rattle.machine_core.specs.Database.{all_below, asked, begins_job, begun, busy, files_in, folder_line, item_lines, last_given, may_wait}
use Rattle.machine_core.specs.Database.{content_lines, folder_info, name_in, next_job, next_number, root_lists, statistics, waits_for_job}
use Rattle.machine_core.specs.Front.{front_of}
use Rattle.machine_core.specs.Lent.{lent}
use Rattle.machine_core.specs.Ordered.{walk_in}
use Rattle.machine_core.specs.Meaning.{Meaning, Meant, begins, says, waits}
use Rattle.machine_core.specs.State.{MachineState}
use Rattle.machine_core.specs.Work.{AddsOps, Performs, Went}
use Rattle.machine_core.specs.declared.answer_database.Detail.{Detail}
use Rattle.machine_core.specs.declared.job.Job.{Job}
use Rattle.machine_core.specs.declared.job.WaitingJob.{WaitingJob}
use Rattle.machine_core.specs.declared.work.Failure.TheVariants.{Refused}
use Rattle.machine_core.specs.declared.work.Work.{Work}
use Rattle.machine_core.proofs.Answering.{is_refused}

same_line : (profile : Profile) (a b : Bor (List ℕ)) → a.now ≡ b.now → folder_line profile (At a) ≡ folder_line profile (At b)
same_line Named a b e = refl
same_line Wide a b e = ap directory_line e

same_walk : (profile : Profile) (songs : List Row) (path : Bor (List ℕ))
    → walk_in profile songs (At (lent path.now)) ≡ walk_in profile songs (At path)
same_walk Named songs path = refl
same_walk Wide songs path = refl

-- where the text of a place lies in memory is nothing to what is found by it
pub same_all_below : (detail : Detail) (path : Bor (List ℕ)) (s : SavedState)
    → all_below detail s (place_of (lent path.now)) ≡ all_below detail s (place_of path)
same_all_below detail path s = by_cases (bytes_eq path.now [] || bytes_eq path.now (codes "/")) refl where
  by_cases : (b : Bool) → (bytes_eq path.now [] || bytes_eq path.now (codes "/")) ≡ b
      → all_below detail s (place_of (lent path.now)) ≡ all_below detail s (place_of path)
  by_cases true is = rw is
  by_cases false is =
      rw is (ap (λ (line : List ℕ). if is_folder s.songs (At path) then Ok (line ++ flat_map (item_lines detail) (walk_in s.profile s.songs
      (At (lent path.now)))) else Err NoSuchUri) (same_line s.profile (lent path.now) path refl)
      ∙ ap (λ (walk : List Item). if is_folder s.songs (At path)
      then Ok (folder_line s.profile (At path) ++ flat_map (item_lines detail) walk) else Err NoSuchUri) (same_walk s.profile s.songs path))

pub same_files_in : (path : Bor (List ℕ)) (songs : List Row) → files_in songs (place_of (lent path.now)) ≡ files_in songs (place_of path)
same_files_in path songs = by_cases (bytes_eq path.now [] || bytes_eq path.now (codes "/")) refl where
  by_cases : (b : Bool) → (bytes_eq path.now [] || bytes_eq path.now (codes "/")) ≡ b
      → files_in songs (place_of (lent path.now)) ≡ files_in songs (place_of path)
  by_cases true is = rw is
  by_cases false is = rw is

-- what stands right in a place by its names, of the songs under it
abbrev pub lines_by_name : Place → List Row → List ℕ
lines_by_name place rows =
    flat_map (λ (row : Row). named_file_lines (name_in place row.uri) row) (told_songs_in place rows)
    ++ flat_map (λ (folder : List ℕ). directory_line (name_in place folder)) (told_folders_in place rows)

pub files_told : (songs all rows : List Row) (place : Place) → songs ≡ all → is_folder songs place ≡ true → rows ≡ told_under songs place
    → files_in all place ≡ Ok (lines_by_name place rows)
files_told songs all rows place same there are =
    sym (ap (λ (s : List Row). files_in s place) same) ∙ rw there (ap (λ (r : List Row). Ok (lines_by_name place r)) (sym are))

-- what is told of a folder that is there
pub below_told : (detail : Detail) (songs : List Row) (s : SavedState) (place : Place) → songs ≡ s.songs → is_folder songs place ≡ true
    → all_below detail s place ≡ Ok (folder_line s.profile place ++ flat_map (item_lines detail) (walk_in s.profile s.songs place))
below_told detail songs s place same there = rw (ap (λ (l : List Row). is_folder l place) (sym same) ∙ there) refl

pub folder_told : (mask : TagMask) (songs : List Row) (s : SavedState) (place : Place) → songs ≡ s.songs → is_folder songs place ≡ true
    → folder_info mask s place ≡ Ok (content_lines mask s.profile s.songs place ++ root_lists s.profile s.changed s.lists place)
folder_told mask songs s place same there = rw (ap (λ (l : List Row). is_folder l place) (sym same) ∙ there) refl

-- a job may not wait
pub may_not_wait : (place : Option (List ℕ)) (all : Bool) (m : MachineState) (w : Work) (refusal : CommandRefusal)
    → may_wait m.saved.profile m.waiting ≡ false → refusal ≡ busy m.saved.profile
    → Performs {T = Unit {0}} (waits_for_job place all m) m m w w (Err (Refused refusal))
may_not_wait place all m w refusal full is = is_refused refusal _ m w (rw full (ap Err (sym is)))

-- beside a job that runs
pub update_waits : (place : Option (List ℕ)) (all : Bool) (m : MachineState) → m.job.runs ≡ true
    → begins_job place all m ≡ waits_for_job place all m
update_waits place all m runs = rw runs

pub waiting_takes : (runs waits : Bool) → waits ≡ true → (not runs || waits) ≡ true
waiting_takes true waits is = is
waiting_takes false waits is = refl

-- a job whose lines were told waits
waits_told : (profile : Profile) (job : WaitingJob) (lines : List ℕ) (m : MachineState) (w y : Work) → Went profile (says lines m) m w y
    → Went profile (waits job lines m) (record m { waiting = m.waiting ++ job ∷ [] }) w y
waits_told profile job lines m w y g = record {
  meaning = record { text = lines; ops = []; after = record m { waiting = m.waiting ++ job ∷ [] } };
  means = refl;
  stands = refl;
  text = g.text ∙ ap (λ (x : Meaning). front_of (w.text.items ++ x.text)) (sym is);
  ops = subst (λ (x : Meaning). AddsOps x.ops (length (ops_bytes profile x.ops)) w y) (sym is) g.ops;
  room = g.room;
  keeps = g.keeps;
}
  where
    is : record { text = lines; ops = []; after = m } ≡ g.meaning
    is = cc

-- so it is of the next job that waits, told of a machine by another name
pub job_waited : (place : Option (List ℕ)) (all : Bool) (number : ℕ) (m n : MachineState) (w y : Work) (waiting : List WaitingJob) → n ≡ m
    → may_wait m.saved.profile m.waiting ≡ true → number ≡ next_number m → waiting ≡ n.waiting ++ asked number place all ∷ []
    → Went n.saved.profile (says (job_line number) n) n w y
    → Went m.saved.profile (waits_for_job place all m) (record n { waiting = waiting }) w y
job_waited place all number m n w y waiting same room is stands told =
    let p = m.saved.profile in
    let means : waits (asked number place all) (job_line number) m ≡ waits_for_job place all m =
    ap (λ k. waits (asked k place all) (job_line k) m) is ∙ sym (rw room refl) in
    let told_here : Went p (says (job_line number) m) m w y =
    subst (λ (k : MachineState). Went k.saved.profile (says (job_line number) k) k w y) same told in
    let stands_here : waiting ≡ m.waiting ++ asked number place all ∷ [] =
    stands ∙ ap (λ (k : MachineState). k.waiting ++ asked number place all ∷ []) same in
    subst (λ (k : Meant). Went p k (record n { waiting = waiting }) w y) means
    (subst (λ (k : MachineState). Went p (waits (asked number place all) (job_line number) m) k w y)
    (λ i. record (sym same i) { waiting = sym stands_here i })
    (waits_told p (asked number place all) (job_line number) m w y told_here))

-- the last job that waits
pub last_is : (number : ℕ) (jobs : List WaitingJob) (job : WaitingJob) → slice_get jobs (length jobs - 1) ≡ Some job
    → last_given number jobs ≡ job.number
last_is number [] job found = absurd (cc)
last_is number (one ∷ []) job found = let same : one ≡ job = cc in ap (λ (j : WaitingJob). j.number) same
last_is number (one ∷ other ∷ jobs) job found =
    let behind : length (one ∷ other ∷ jobs) - 1 ≡ suc (length (other ∷ jobs) - 1) = omega arith in
    last_is one.number (other ∷ jobs) job (subst (λ n. slice_get (one ∷ other ∷ jobs) n ≡ Some job) behind found)

pub last_none : (number : ℕ) (jobs : List WaitingJob) → slice_get jobs (length jobs - 1) ≡ None → last_given number jobs ≡ number
last_none number [] none = refl
last_none number (one ∷ jobs) none =
    let last : length (one ∷ jobs) - 1 ≡ length jobs = omega arith in
    let some = there one jobs in
    absurd (let clash : Some some.0 ≡ None = sym some.1 ∙ subst (λ n. slice_get (one ∷ jobs) n ≡ None) last none in cc)
  where
    there : (one : WaitingJob) (jobs : List WaitingJob) → (j : WaitingJob) × (slice_get (one ∷ jobs) (length jobs) ≡ Some j)
    there one [] = (one, refl)
    there one (next ∷ jobs) = there next jobs

update_begins : (place : Option (List ℕ)) (all : Bool) (m : MachineState) → m.job.runs ≡ false
    → begins_job place all m ≡ begins (begun (next_job m.job.number) place all m.clock.now) (job_line (next_job m.job.number)) m
update_begins place all m free = rw free

-- a job whose lines were told begins
begins_told : (profile : Profile) (job : Job) (lines : List ℕ) (m : MachineState) (w y : Work) → Went profile (says lines m) m w y
    → Went profile (begins job lines m) (record m { job = job }) w y
begins_told profile job lines m w y g = record {
  meaning = record { text = lines; ops = []; after = record m { job = job } };
  means = refl;
  stands = refl;
  text = g.text ∙ ap (λ (x : Meaning). front_of (w.text.items ++ x.text)) (sym is);
  ops = subst (λ (x : Meaning). AddsOps x.ops (length (ops_bytes profile x.ops)) w y) (sym is) g.ops;
  room = g.room;
  keeps = g.keeps;
}
  where
    is : record { text = lines; ops = []; after = m } ≡ g.meaning
    is = cc

-- so it is of the next job, told of a machine by another name
pub job_began : (place : Option (List ℕ)) (all : Bool) (number : ℕ) (m n : MachineState) (w y : Work) (job : Job) → n ≡ m
    → number ≡ next_job n.job.number → n.job.runs ≡ false → job ≡ begun number place all n.clock.now
    → Went m.saved.profile (says (job_line number) m) m w y → Went m.saved.profile (begins_job place all m) (record n { job = job }) w y
job_began place all number m n w y job same is free began told =
    let next : number ≡ next_job m.job.number = is ∙ ap (λ (k : MachineState). next_job k.job.number) same in
    let runs : m.job.runs ≡ false = sym (ap (λ (k : MachineState). k.job.runs) same) ∙ free in
    let p = m.saved.profile in
    let means : begins job (job_line number) m ≡ begins_job place all m =
    ap (λ (j : Job). begins j (job_line number) m) (began ∙ ap (λ (k : MachineState). begun number place all k.clock.now) same)
    ∙ ap (λ k. begins (begun k place all m.clock.now) (job_line k) m) next
    ∙ sym (update_begins place all m runs) in
    subst (λ (k : Meant). Went p k (record n { job = job }) w y) means
    (subst (λ (k : MachineState). Went p (begins job (job_line number) m) (record k { job = job }) w y) (sym same)
    (begins_told p job (job_line number) m w y told))

-- what was counted of the songs
pub counted : (songs all : List Row) (artists albums count total : ℕ) → songs ≡ all → artists ≡ length (values_of all Artist)
    → albums ≡ length (values_of all Album) → count ≡ length songs → total ≡ total_of songs
    → database_lines artists albums count total ≡ statistics all
counted songs all artists albums count total same a b n t =
    (λ i. database_lines (a i) (b i) ((n ∙ ap (λ (rows : List Row). length rows) same) i) ((t ∙ ap total_of same) i))
