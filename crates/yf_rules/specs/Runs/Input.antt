-- What reading a whole input may return.
use Rattle.std.specs.Prelude.{◌≡◌, ℕ, ◌<◌, ◌⊎◌, List, length, true, IfSome}
use Rattle.std.specs.Str.{IsUtf8, IsValidUpTo}
use Rattle.yf_lines.specs.declared.fault.Fault.{Fault}
use Rattle.yf_lines.specs.declared.fault.Fault.TheVariants.{Memory, NotUtf8, ReadFailed}
use Rattle.yf_rules.specs.Runs.ByteStream.{ByteStream, NoFailure}

-- The reader has more bytes than the limit, if its bytes are known.
abbrev pub Exceeds : ByteStream → ℕ → Type 0
Exceeds input limit = IfSome input.contents (λ bytes. limit < length bytes)

-- Why an input is refused: no memory was left; or the reader has failed, or has more bytes than the limit.
-- (input, left: the reader before and after)
abbrev pub ReadRefusal : ℕ → ByteStream → ByteStream → Fault → Type 0
ReadRefusal limit input left Memory = NoFailure input left
ReadRefusal limit input left ReadFailed = (left.failed ≡ true) ⊎ (Exceeds input limit × NoFailure input left)
ReadRefusal limit input left _ = ⊥

-- The bytes are not UTF-8, and the fault has the offset of the end of their longest prefix that is.
abbrev pub IsNoText : List ℕ → Fault → Type 0
IsNoText bytes (NotUtf8 offset) = (¬ IsUtf8 bytes) × IsValidUpTo bytes offset
IsNoText bytes _ = ⊥
