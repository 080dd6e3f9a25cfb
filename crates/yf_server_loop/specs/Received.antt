-- The bytes that are read before a message is found, or the reason why none is found.
use Rattle.std.specs.Prelude.{◌≡◌, ◌⊎◌, ℕ, ◌<◌, ◌≤◌, List, [], ◌++◌, length, Bool, true, Option, Result, Ok, Err}
use Rattle.std.specs.Io.KnownBytes.{Consumes, IsAtEnd}
use Rattle.yf_json_rpc.specs.declared.frame.Content.{Content}
use Rattle.yf_json_rpc.specs.Frames.{IsFrame}
use Rattle.yf_server_loop.specs.declared.ended.Ended.{Ended}
use Rattle.yf_server_loop.specs.declared.ended.Ended.TheVariants as ended
use Rattle.yf_server_loop.specs.declared.receive.TheConstants.{CHUNK, CONTENT_LIMIT, MESSAGE_LIMIT}

-- The bytes begin with no message.
abbrev pub BeginsWithNone : List ℕ → Type 0
BeginsWithNone bytes = (body rest : List ℕ) → IsFrame bytes CONTENT_LIMIT body rest → ⊥

-- The bytes begin with no message, whatever follows them.
abbrev pub NeverBegins : List ℕ → Type 0
NeverBegins bytes = (more : List ℕ) → BeginsWithNone (bytes ++ more)

-- The bytes that were read were added. If memory was refused, some of them may be missing.
-- (known, left: the rest of the reader's input, before and after; before, after: the bytes that are in no message yet)
pub record Reads (known left : Option (List ℕ)) (before after : List ℕ) : Type 0 where
  pub more : List ℕ
  pub consumed : Consumes known left more
  pub added : after ≡ before ++ more

pub record Loses (known left : Option (List ℕ)) : Type 0 where
  pub more : List ℕ
  pub consumed : Consumes known left more

abbrev pub Grows : Option (List ℕ) → Option (List ℕ) → List ℕ → List ℕ → Result Content Ended → Type 0
Grows known left before after (Err ended.Memory) = Loses known left
Grows known left before after _ = Reads known left before after

-- No byte was read; or before the last read, of at most CHUNK bytes, there was no whole message.
abbrev pub Waits : List ℕ → List ℕ → Type 0
Waits before after = (after ≡ before)
    ⊎ ((front : List ℕ) × (last : List ℕ) × (after ≡ front ++ last) × (length last ≤ CHUNK) × BeginsWithNone front)

-- Why there is no further message. (failed, fails: whether a read had failed, before and after)
abbrev pub IsNoMessage : Option (List ℕ) → Bool → Bool → List ℕ → Ended → Type 0
IsNoMessage left failed fails bytes ended.EndOfInput = IsAtEnd left × BeginsWithNone bytes × (fails ≡ failed)
IsNoMessage left failed fails bytes (ended.Frame error) =
    (NeverBegins bytes ⊎ ((MESSAGE_LIMIT < length bytes) × BeginsWithNone bytes)) × (fails ≡ failed)
IsNoMessage left failed fails bytes ended.ReadFailed = fails ≡ true
IsNoMessage left failed fails bytes ended.Memory = fails ≡ failed
IsNoMessage left failed fails bytes _ = ⊥
