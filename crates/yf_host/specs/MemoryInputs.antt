-- The facts that are known of inputs in memory.
use Rattle.std.specs.Prelude.{◌≡◌, ⊤, ℕ, List, [], ◌∷◌, Option, Some, None, is_some, codes, if◌then◌else◌}
use Rattle.std.specs.Str.{bytes_eq}
use Rattle.yf_command_line.specs.declared.command.Input.{Input}
use Rattle.yf_command_line.specs.declared.command.Input.TheVariants.{Standard, File}
use Rattle.yf_discovery.specs.declared.folders.There.TheVariants as there
use Rattle.yf_host.specs.declared.memory_inputs.Stored.{Stored}
use Rattle.yf_host.specs.World.{Holdings, InputClaim}

-- The contents of the file with this name, or none if no file has the name.
abbrev pub held : List Stored → List ℕ → Option (List ℕ)
held [] name = None
held (file ∷ files) name = if bytes_eq file.name.now name then Some file.bytes.now else held files name

abbrev pub holdings : List Stored → List ℕ → Holdings
holdings files standard Standard = Some standard
holdings files standard (File name) = held files name

-- The contents of each input are known. An input fails if and only if no file has its name. A look at a name shows a
-- file if and only if a file has the name. (current: the path of the current folder)
abbrev pub memory_claim : List Stored → List ℕ → List ℕ → InputClaim
memory_claim files standard current = record {
  tells = ⊤;
  notes = ⊥;
  holds = holdings files standard;
  fails = λ input. holdings files standard input ≡ None;
  shows = λ name what. what ≡ (if is_some (held files name) then there.File else there.Nothing);
  current = λ path. path ≡ Some current;
}
