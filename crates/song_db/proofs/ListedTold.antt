-- What listings told of the files that are still to be read.
use Rattle.std.proofs.Common.{◌≡◌, ℕ, true, false, Bool, List, [], ◌∷◌, ◌++◌, map, Option, Some, None, Ok, Err, refl, sym, ap, ◌∙◌, subst, append_assoc}
use Rattle.std.specs.Prelude.{Result, IfOk, IfSome, nat_lt, option_to_list, unwrap_or, if◌then◌else◌}
use Rattle.std.specs.List.{All}
use Rattle.std.specs.List.Sorted.{IsPermutation}
use Rattle.std.specs.String.{string_bytes}
use Rattle.std.specs.declared.vec.Vec.{Vec}
use Rattle.std.proofs.lemmas.List.Elements.{All-nil, All-cons, All-head, All-map, All-pop, All-push, All-same, All-tail, All-weaker}
use Rattle.std.proofs.lemmas.List.Sorted.{All-permutation}
use Rattle.song_files.specs.Folder.{File as MusicFile, stamp_at}
use Rattle.song_files.specs.Listing.{AreStamped, IsStampAt, entries_of, path_in}
use Rattle.song_files.specs.declared.folder.FileStamp.{FileStamp}
use Rattle.song_files.specs.declared.folder.FolderEntry.{FolderEntry}
use Rattle.song_files.specs.declared.folder.FolderFault.{FolderFault}
use Rattle.song_db.specs.declared.rules.LibraryRules.{LibraryRules}
use Rattle.song_db.specs.declared.scan.visit.Visit.{Visit}
use Rattle.song_db.specs.declared.scan.visit.Visit.TheVariants.{File, Folder, Nothing}
use Rattle.song_db.specs.Found.{IsVisitTold, visit_at, visit_of}
use Rattle.song_db.specs.Limits.{MAX_FOLDERS}
use Rattle.song_db.specs.Name.{folders_over, is_song}
use Rattle.song_db.specs.Pending.{AreEntriesTold, AreTold, Listed, own_prefix}
use Rattle.song_db.specs.Uri.{is_uri}
use Rattle.song_db.proofs.ListedSteps.{not_empty}
use Rattle.song_db.proofs.OwnSteps.{HasForm}

abbrev Told : List MusicFile → Listed → Type 0
Told files l = AreEntriesTold files l.prefix l.entries

mapped_all : {X Y : Type 0} (P : Y → Type 0) (f : X → Y) (xs : List X) → All P (map f xs) → All (λ x. P (f x)) xs
mapped_all P f [] all = All-nil (λ x. P (f x))
mapped_all P f (x ∷ xs) all =
    All-cons (λ x. P (f x)) x xs (All-head P (f x) (map f xs) all) (mapped_all P f xs (All-tail P (f x) (map f xs) all))

-- a folder is entered
pub told_entered : {L : Type 0} (files : List MusicFile) (f : L → Listed) (levels new : List L) (level : L) (prefix : List ℕ)
    (entries sorted : List FolderEntry) (listed : List Listed) → listed ≡ map f levels → new ≡ levels ++ level ∷ []
    → f level ≡ record { prefix = prefix; entries = sorted } → IsPermutation entries sorted → AreEntriesTold files prefix entries
    → AreTold files listed → AreTold files (map f new)
told_entered files f levels new level prefix entries sorted listed is news own same told all =
    let front : All (λ x. Told files (f x)) levels = mapped_all (Told files) f levels (subst (AreTold files) is all) in
    let here : Told files (record { prefix = prefix; entries = sorted })
    = All-permutation (λ (entry : FolderEntry). IsStampAt files (prefix ++ string_bytes entry.name) entry.stamp) entries sorted same told in
    let both : All (λ x. Told files (f x)) (levels ++ level ∷ [])
    = All-push (λ x. Told files (f x)) levels level front (subst (Told files) (sym own) here) in
    All-map (Told files) f new (All-same (λ x. Told files (f x)) new (levels ++ level ∷ []) news both)

-- a level is left
pub told_left : {L : Type 0} (files : List MusicFile) (f : L → Listed) (levels front : List L) (last : Option L) (listed : List Listed)
    → listed ≡ map f levels → levels ≡ front ++ option_to_list last → AreTold files listed → AreTold files (map f front)
told_left files f levels front last listed is split all =
    let whole : All (λ x. Told files (f x)) levels = mapped_all (Told files) f levels (subst (AreTold files) is all) in
    All-map (Told files) f front (All-pop (λ x. Told files (f x)) levels front last split whole).0

-- the last entry of the last level is taken
pub told_taken : {L : Type 0} (files : List MusicFile) (f : L → Listed) (levels front new : List L) (level rest : L) (entry : FolderEntry)
    (listed : List Listed) → listed ≡ map f levels → levels ≡ front ++ level ∷ [] → (f level).entries ≡ (f rest).entries ++ entry ∷ []
    → (f rest).prefix ≡ (f level).prefix → new ≡ front ++ rest ∷ [] → AreTold files listed
    → AreTold files (map f new) × IsStampAt files ((f level).prefix ++ string_bytes entry.name) entry.stamp
told_taken files f levels front new level rest entry listed is split entries prefix news all = (
  All-map (Told files) f new (All-same (λ x. Told files (f x)) new (front ++ rest ∷ []) news
      (All-push (λ x. Told files (f x)) front rest popped.0 left)),
  own.1,
)
  where
    whole : All (λ x. Told files (f x)) levels
    whole = mapped_all (Told files) f levels (subst (AreTold files) is all)

    popped : All (λ x. Told files (f x)) front × Told files (f level)
    popped = All-pop (λ x. Told files (f x)) levels front (Some level) split whole

    own : AreEntriesTold files (f level).prefix (f rest).entries × IsStampAt files ((f level).prefix ++ string_bytes entry.name) entry.stamp
    own = All-pop (λ (e : FolderEntry). IsStampAt files ((f level).prefix ++ string_bytes e.name) e.stamp) (f level).entries
        (f rest).entries (Some entry) entries popped.1

    left : Told files (f rest)
    left = subst (λ p. AreEntriesTold files p (f rest).entries) (sym prefix) own.0

-- a file that is visited has the stamp that was told of its path
pub visit_told : (rules : LibraryRules) (path : List ℕ) (k : Bool) (files : List MusicFile) (stamp : Option FileStamp)
    → IsStampAt files path stamp → IsVisitTold files (visit_at rules path k) stamp
visit_told rules path k files stamp told = by_form (is_uri path) k
  where
    by_depth : (b : Bool) → IsVisitTold files (if b then Folder path else Nothing) stamp
    by_depth true = tt
    by_depth false = tt

    by_name : (b : Bool) → IsVisitTold files (if b then File path else Nothing) stamp
    by_name true = told
    by_name false = tt

    by_form : (b k : Bool) → IsVisitTold files (if b then visit_of rules path k else Nothing) stamp
    by_form true true = by_depth (nat_lt (folders_over path) MAX_FOLDERS)
    by_form true false = by_name (is_song rules path)
    by_form false k = tt

-- where nothing was told
pub none_told : (files : List MusicFile) (visit : Visit) → IsVisitTold files visit None
none_told files (File uri) = λ stamp is. absurd (cc)
none_told files (Folder uri) = tt
none_told files Nothing = tt

-- what a listing of a folder tells, by the paths below it
behind_slash : (files : List MusicFile) (folder : List ℕ) (entries : List FolderEntry) → is_uri folder ≡ true
    → AreStamped files folder entries → AreEntriesTold files (folder ++ 47 ∷ []) entries
behind_slash files [] entries form stamped = absurd (not_empty [] form refl)
behind_slash files (f ∷ folder) entries form stamped =
    All-weaker (λ (e : FolderEntry). IsStampAt files (path_in (f ∷ folder) (string_bytes e.name)) e.stamp)
    (λ (e : FolderEntry). IsStampAt files (((f ∷ folder) ++ 47 ∷ []) ++ string_bytes e.name) e.stamp)
    (λ e told. subst (λ path. IsStampAt files path e.stamp) (sym (append_assoc (f ∷ folder) (47 ∷ []) (string_bytes e.name))) told)
    entries stamped

pub listing_told : {A : Type 0} (listing : Result (Option (Vec FolderEntry A)) FolderFault) (files : List MusicFile) (folder : List ℕ)
    → is_uri folder ≡ true → IfOk listing (λ l. AreStamped files folder (entries_of l))
    → IfOk listing (λ l. AreEntriesTold files (folder ++ 47 ∷ []) (entries_of l))
listing_told (Ok l) files folder form stamped = behind_slash files folder (entries_of l) form stamped
listing_told (Err fault) files folder form stamped = tt

-- and that of the job's own folder
pub own_told : {A : Type 0} (listing : Result (Option (Vec FolderEntry A)) FolderFault) (files : List MusicFile) (place : Option (List ℕ))
    → HasForm place → IfOk listing (λ l. AreStamped files (unwrap_or place []) (entries_of l))
    → IfOk listing (λ l. AreEntriesTold files (own_prefix place) (entries_of l))
own_told (Ok l) files None form stamped = stamped
own_told (Ok l) files (Some uri) form stamped = behind_slash files uri (entries_of l) form stamped
own_told (Err fault) files place form stamped = tt
