-- Messages one after the other.
use Rattle.std.specs.Prelude.{◌≡◌, ℕ, ◌≤◌, ◌<◌, ◌^◌, List, [], ◌∷◌, length, flat_map, All}
use Rattle.yf_json_rpc.specs.Frames.{IsFrame, frame}

-- the bytes are exactly messages with these contents, in order
pub data AreFrames (limit : ℕ) : List ℕ → List (List ℕ) → Type 0 where
  no_frame : AreFrames limit [] []
  one_frame : {bytes body rest : List ℕ} {bodies : List (List ℕ)} → IsFrame bytes limit body rest
      → AreFrames limit rest bodies → AreFrames limit bytes (body ∷ bodies)

-- Messages that are written one after another read back as these messages.
abbrev pub StreamsRead : Type 0
StreamsRead = (limit : ℕ) (bodies : List (List ℕ)) → limit < 2 ^ 64 → All (λ body. length body ≤ limit) bodies
    → AreFrames limit (flat_map frame bodies) bodies

-- No bytes are the messages of two lists.
abbrev pub FramesAreOne : Type 0
FramesAreOne = (limit : ℕ) (bytes : List ℕ) (some others : List (List ℕ)) → AreFrames limit bytes some
    → AreFrames limit bytes others → some ≡ others
