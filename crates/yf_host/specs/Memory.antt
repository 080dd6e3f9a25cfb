-- What is written for one of several files: it is kept in memory, and then written with the name of the file.
-- (before, after: the streams or one stream before and after a step)
use Rattle.std.specs.Prelude.{◌≡◌, ◌-◌, ℕ, List, length, slice_get, Some, Vec, [], false, ◌⊎◌}
use Rattle.std.specs.declared.alloc.Global.{Global}
use Rattle.yf_lines.specs.Watched.{watched_failed, watched_inner}
use Rattle.yf_lines.specs.declared.fault.Fault.TheVariants as fault
use Rattle.yf_lines.specs.declared.watched.Watched.{Watched}
use Rattle.yf_rules.specs.Runs.ByteStream.{ByteStream, NothingWritten, WrittenOrFailed}
use Rattle.yf_host.specs.Ends.{AreTold, EndsBy}
use Rattle.yf_host.specs.Named.{named_lines, named_output}
use Rattle.yf_host.specs.World.{OutputStreams}

-- The text ends with a line feed.
abbrev pub IsLine : List ℕ → Type 0
IsLine text = slice_get text (length text - 1) ≡ Some 10

-- A stream in memory.
abbrev pub memory_stream : Watched (Vec ℕ Global) → ByteStream
memory_stream memory = record { contents = Some (watched_inner memory).items; failed = watched_failed memory }

-- A stream in memory to which nothing was written.
abbrev pub empty_stream : ByteStream
empty_stream = record { contents = Some []; failed = false }

-- Two streams in memory to which nothing was written.
abbrev pub empty_memory : OutputStreams
empty_memory = record {
  output = record { contents = Some []; failed = false };
  errors = record { contents = Some []; failed = false };
}

-- Memory held all that was written for a file: its output, and its line for the stream of faults. Lines that explain
-- that line may be missing. (memory: the two streams in memory; faults: what is in the second one)
abbrev pub IsWhole : OutputStreams → List ℕ → Type 0
IsWhole memory faults = (memory.output.failed ≡ false) × ((memory.errors.failed ≡ false) ⊎ IsLine faults)

-- Both texts were whole and were written; or there was no memory for them, and only that was written.
abbrev pub ToldNamed : Type 0 → ℕ → ℕ → List ℕ → List ℕ → OutputStreams → OutputStreams → Type 0
ToldNamed Whole run status output faults before after =
    (Whole × AreTold run status output faults before after)
    ⊎ (NothingWritten before.output after.output × EndsBy fault.Memory status before.errors after.errors)

-- The texts in memory were written so, with a name before each line that is not part of a diff.
abbrev pub ToldMemory : List ℕ → ℕ → ℕ → OutputStreams → OutputStreams → OutputStreams → Type 0
ToldMemory name run status memory before after =
    (output : List ℕ) × (faults : List ℕ) × (memory.output.contents ≡ Some output)
    × (memory.errors.contents ≡ Some faults)
    × ToldNamed (IsWhole memory faults) run status (named_output name output) (named_lines name faults) before after

-- A text was written for the stream of faults, or there was no memory for it, and only that was written.
-- (run: the status of what was done)
abbrev pub ToldFaults : ℕ → ℕ → List ℕ → ByteStream → ByteStream → Type 0
ToldFaults run status faults before after =
    ((status ≡ run) × WrittenOrFailed before after faults) ⊎ EndsBy fault.Memory status before after

-- What memory holds for the stream of faults was written with a name before each line. Lines that explain the line of a
-- fault may be missing. Or there was no memory for that, and only that was written.
abbrev pub ToldErrors : List ℕ → ℕ → ℕ → ByteStream → ByteStream → ByteStream → Type 0
ToldErrors name run status memory before after =
    ((faults : List ℕ) × (memory.contents ≡ Some faults) × ((memory.failed ≡ false) ⊎ IsLine faults)
    × ToldFaults run status (named_lines name faults) before after)
    ⊎ EndsBy fault.Memory status before after
