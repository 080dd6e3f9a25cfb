-- The world: the state that the program works on. The part that changes, and the facts that are known and stay.
use Rattle.std.specs.Prelude.{◌≡◌, ℕ, List, Option, None, Some, Result}
use Rattle.yf_command_line.specs.declared.command.Input.{Input}
use Rattle.yf_discovery.specs.Nearest.{Looks}
use Rattle.yf_discovery.specs.declared.folders.There.{There}
use Rattle.yf_files.specs.declared.rewriting.RewriteError.{RewriteError}
use Rattle.yf_host.specs.declared.guarded_text.NoNewText.{NoNewText}
use Rattle.yf_host.specs.declared.inputs.Again.{Again}
use Rattle.yf_host.specs.declared.inputs.Again.TheVariants as again
use Rattle.yf_host.specs.declared.sources.Sources.{Sources}
use Rattle.yf_rules.specs.Runs.ByteStream.{ByteStream}

-- The two streams that the program writes to.
pub record OutputStreams : Type 0 where
  pub output : ByteStream
  pub errors : ByteStream

-- What changes while the program works: the inputs that were opened, in order; the files; and the two streams.
pub record World (F : Type 0) : Type 0 where
  pub opened : List Input
  pub files : F
  pub streams : OutputStreams

-- The bytes of each input, if they are known.
abbrev pub Holdings : Type 0
Holdings = Input → Option (List ℕ)

-- The facts that are known of the inputs.
pub record InputClaim : Type 1 where
  -- holds if the contents of the inputs are known, and which of them fail
  pub tells : Type 0
  -- holds if it is known which of them were opened
  pub notes : Type 0
  pub holds : Holdings
  -- opening or reading the input may fail
  pub fails : Input → Type 0
  -- what a look at a name may show
  pub shows : Looks
  -- what the path of the current folder may be, if it is known
  pub current : Option (List ℕ) → Type 0

-- Nothing is known of the inputs.
abbrev pub nothing_known : InputClaim
nothing_known = record {
  tells = ⊥;
  notes = ⊥;
  holds = λ _. None;
  fails = λ _. ⊥;
  shows = λ _ _. Unit {0};
  current = λ _. Unit {0};
}

-- The file was read: these are its contents, or the reason why it fails.
abbrev pub IsAgain : InputClaim → Input → Again → Type 0
IsAgain claim input (again.Bytes bytes) = claim.holds input ≡ Some bytes.items
IsAgain claim input (again.Words words) = claim.fails input

-- What was known of the inputs is still known. They hold what they held, no more of them fail, and a look at a name
-- shows nothing else.
pub record StillKnown (before after : InputClaim) : Type 0 where
  pub tells : before.tells → after.tells
  pub notes : before.notes → after.notes
  pub holds : (input : Input) → after.holds input ≡ before.holds input
  pub fails : (input : Input) → after.fails input → before.fails input
  pub shows : (name : List ℕ) (what : There) → after.shows name what → before.shows name what

-- P holds of the facts that are known of the inputs at a later moment.
abbrev pub later_in : {I : Type 0} → (I → InputClaim) → I → (InputClaim → Type 0) → Type 0
later_in {I} claim before P = (now : I) × StillKnown (claim before) (claim now) × P (claim now)

-- What the new text of a file is, for the bytes that the file holds, and why the bytes have none.
pub record TextClaim : Type 1 where
  pub Formats : List ℕ → List ℕ → Type 0
  pub Refuses : List ℕ → NoNewText → Type 0

-- What rewriting the file at a name with a new text does: a relation of two states of the files and the result.
abbrev pub RewriteClaim : Type 0 → Type 1
RewriteClaim F = F → F → List ℕ → TextClaim → Result Unit (RewriteError NoNewText) → Type 0

-- The second name is the name of the file to which the first one leads.
abbrev pub LinkClaim : Type 0 → Type 1
LinkClaim F = F → List ℕ → List ℕ → Type 0

-- The facts that are known of the system: of its inputs, and of the files that are rewritten.
pub record Host (F : Type 0) : Type 1 where
  pub inputs : InputClaim
  -- a fact holds of what is known of the inputs at a later moment
  pub Later : (InputClaim → Type 0) → Type 0
  pub Rewrites : RewriteClaim F

-- The work on one of several inputs: a relation of the exit status and the worlds before and after.
abbrev pub WorkClaim : Type 0 → Type 1
WorkClaim F = ℕ → World F → World F → Type 0

-- ---- The world, as contracts write it

abbrev pub streams_of : ByteStream → ByteStream → OutputStreams
streams_of output errors = record { output = output; errors = errors }

-- The world of these sources and streams. (opened: the inputs that were opened)
abbrev pub world_in : {I F : Type 0} → (I → List Input) → Sources I F → OutputStreams → World F
world_in opened sources streams = record { opened = opened sources.inputs; files = sources.files; streams = streams }
