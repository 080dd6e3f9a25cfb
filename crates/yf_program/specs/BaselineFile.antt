-- The baseline that `--baseline` names: what is read from its file, and why it is refused.
-- (reader, left: a reader before and after it was read; before, after: the stream of faults before and after a step)
use Rattle.std.specs.Prelude.{◌≡◌, ◌≤◌, ◌⊎◌, ◌∷◌, ◌++◌, ℕ, List, [], Bool, Option, Some, None, Ok, Err, String, codes, length, map}
use Rattle.std.specs.BTreeSet.{BTreeSet, contains_text}
use Rattle.std.specs.List.{concat}
use Rattle.std.specs.Str.{IsUtf8}
use Rattle.std.specs.declared.alloc.Global.{Global}
use Rattle.yf_baseline.specs.Baselines.{baseline_in, entry_line}
use Rattle.yf_baseline.specs.SeenTexts.{Holds}
use Rattle.yf_baseline.specs.declared.entry.Entry.{Entry}
use Rattle.yf_baseline.specs.declared.refusal.Refusal.{Refusal}
use Rattle.yf_baseline.specs.declared.refusal.Refusal.TheVariants as refusal
use Rattle.yf_command_line.specs.declared.command.Input.{Input}
use Rattle.yf_command_line.specs.declared.command.Input.TheVariants.{File}
use Rattle.yf_findings.specs.Baselines.{unlisted}
use Rattle.yf_findings.specs.declared.owned.OwnedProblem.{OwnedProblem}
use Rattle.yf_lines.specs.Shown.{shown}
use Rattle.yf_lines.specs.declared.fault.Fault.TheVariants as fault
use Rattle.yf_host.specs.Ends.{AnyLines, Opens, TellsMore}
use Rattle.yf_host.specs.Report.{fault_status, named_fault}
use Rattle.yf_host.specs.World.{InputClaim}
use Rattle.yf_program.specs.declared.baseline_file.NoBaseline.{NoBaseline}
use Rattle.yf_program.specs.declared.baseline_file.NoBaseline.TheVariants.{Unread, Refused}
use Rattle.yf_rules.specs.Runs.ByteStream.{ByteStream, NoFailure, WrittenOrFailed}
use Rattle.yf_rules.specs.Runs.Input.{ReadRefusal}
use Rattle.yf_rules.specs.Runs.Run.{Gave}
use Rattle.yf_rules.specs.declared.run.TheConstants.{INPUT_LIMIT}

-- The lines of the entries of a baseline, as a set, or none without a baseline.
abbrev pub Listed : Type 0
Listed = Option (BTreeSet (String Global))

-- The problems of the input with this name, without the findings that are listed.
abbrev pub not_listed : Listed → Option (List ℕ) → List OwnedProblem → List OwnedProblem
not_listed None name problems = problems
not_listed (Some listed) name problems = unlisted (contains_text listed) name problems

-- The inputs that are opened for the baseline.
abbrev pub baseline_inputs : Option (List ℕ) → List Input
baseline_inputs (Some name) = File name ∷ []
baseline_inputs None = []

-- The text is a baseline, and the set has the lines of its entries.
abbrev pub HasEntries : List ℕ → BTreeSet (String Global) → Type 0
HasEntries text set =
    IsUtf8 text × ((entries : List Entry) × (baseline_in text ≡ Ok entries) × Holds set (map (λ e. entry_line e) entries))

-- A text is not a baseline. Bytes that are not UTF-8 are not JSON.
abbrev pub IsNoBaseline : List ℕ → Refusal → Type 0
IsNoBaseline text why = ((¬ IsUtf8 text) × (why ≡ refusal.NotJson)) ⊎ (IsUtf8 text × (baseline_in text ≡ Err why))

-- Memory was refused, or the text is not a baseline.
abbrev pub HasNone : List ℕ → NoBaseline → Type 0
HasNone text (Unread f) = f ≡ fault.Memory
HasNone text (Refused why) = IsNoBaseline text why

abbrev pub untaken_of : Refusal → NoBaseline
untaken_of refusal.Memory = Unread fault.Memory
untaken_of refusal.NotJson = Refused refusal.NotJson
untaken_of refusal.Version = Refused refusal.Version
untaken_of refusal.Shape = Refused refusal.Shape

-- The bytes that were read are a baseline, and the set has the lines of its entries.
abbrev pub BaselineRead : Option (List ℕ) → BTreeSet (String Global) → Type 0
BaselineRead known set =
    (text : List ℕ) × Gave known text × (length text ≤ INPUT_LIMIT) × HasEntries text set

-- The file could not be read, or memory was refused; or the text that was read is not a baseline.
abbrev pub BaselineRefused : ByteStream → ByteStream → NoBaseline → Type 0
BaselineRefused reader left (Unread f) = ReadRefusal INPUT_LIMIT reader left f
BaselineRefused reader left (Refused why) =
    NoFailure reader left
    × ((text : List ℕ) × Gave reader.contents text × (length text ≤ INPUT_LIMIT) × IsNoBaseline text why)

-- The baseline of the file with this name was read, or no file is named.
abbrev pub BaselineTaken : InputClaim → Option (List ℕ) → Listed → Type 0
BaselineTaken claim (Some name) listed = (set : BTreeSet (String Global)) × (reader : ByteStream) × (left : ByteStream)
    × (listed ≡ Some set) × Opens claim (File name) reader left × BaselineRead reader.contents set
BaselineTaken claim None listed = listed ≡ None

-- The file of the baseline can't be opened, or is refused.
abbrev pub BaselineUntaken : InputClaim → Option (List ℕ) → NoBaseline → Type 0
BaselineUntaken claim (Some name) why =
    ((why ≡ Unread fault.ReadFailed) × (claim.tells → claim.fails (File name)))
    ⊎ ((reader : ByteStream) × (left : ByteStream) × Opens claim (File name) reader left × BaselineRefused reader left why)
BaselineUntaken claim None why = ⊥

-- Why a text is not a baseline, in words.
abbrev pub refusal_words : Refusal → List ℕ
refusal_words refusal.Memory = codes "no memory"
refusal_words refusal.NotJson = codes "not JSON"
refusal_words refusal.Version = codes "the version is not 1"
refusal_words refusal.Shape = codes "findings is not a list of entries"

-- The line of a text that is not a baseline.
abbrev pub refused_line : List ℕ → Refusal → List ℕ
refused_line name why = shown name ++ concat (codes ": not a baseline: " ∷ refusal_words why ∷ codes "\n" ∷ [])

-- The line of a baseline that is not taken, and the status.
abbrev pub untaken_line : List ℕ → NoBaseline → List ℕ
untaken_line name (Unread f) = named_fault name f
untaken_line name (Refused why) = refused_line name why

abbrev pub untaken_status : NoBaseline → ℕ
untaken_status (Unread f) = fault_status f
untaken_status (Refused why) = 3

-- The line was written to the stream of faults, and with `--explain` more lines after it.
abbrev pub TellsUntaken : Bool → List ℕ → NoBaseline → ℕ → ByteStream → ByteStream → Type 0
TellsUntaken explain name why status before after =
    (told : ByteStream) × (status ≡ untaken_status why) × WrittenOrFailed before told (untaken_line name why)
    × TellsMore explain AnyLines told after
