-- The session of a server: from the bytes that it reads to those that it writes.
use Rattle.std.specs.Prelude.{◌≡◌, ℕ, ◌-◌, ◌≤◌, ◌^◌, List, [], ◌∷◌, ◌++◌, length, Bool, Option, None, Some}
use Rattle.std.specs.Io.KnownBytes.{Consumes}
use Rattle.yf_json_rpc.specs.Streams.{AreFrames}
use Rattle.yf_json_rpc.specs.Frames.{IsFrame}
use Rattle.yf_lines.specs.Output.{Broke, Wrote}
use Rattle.yf_server.specs.declared.lifecycle.Phase.TheVariants.{Fresh}
use Rattle.yf_server.specs.declared.step.Server.{Server}
use Rattle.yf_server.specs.Analysis.{TextClaim}
use Rattle.yf_server.specs.Handshake.{fresh_terms}
use Rattle.yf_server_loop.specs.declared.ended.Ended.{Ended}
use Rattle.yf_server_loop.specs.declared.ended.Ended.TheVariants as ended
use Rattle.yf_server_loop.specs.declared.receive.TheConstants.{CONTENT_LIMIT}
use Rattle.yf_server_loop.specs.Handled.{Handles}
use Rattle.yf_server_loop.specs.Received.{IsNoMessage}

-- The two streams at a moment: the rest of the reader's input and the writer's output, if known, and whether a call of
-- each has failed.
pub record Moment : Type 0 where
  pub input : Option (List ℕ)
  pub input_failed : Bool
  pub output : Option (List ℕ)
  pub output_failed : Bool

abbrev pub moment_of : {R W : Type 0} → (R → Option (List ℕ)) → (R → Bool) → (W → Option (List ℕ)) → (W → Bool) → R → W
    → Moment
moment_of remaining reader_failed contents writer_failed reader writer = record {
  input = remaining reader;
  input_failed = reader_failed reader;
  output = contents writer;
  output_failed = writer_failed writer;
}

-- All of a response was written, or the writer failed after a part of it.
abbrev pub Writes : Moment → Moment → List ℕ → Type 0
Writes before after text = Wrote before.output after.output before.output_failed after.output_failed text

abbrev pub BreaksOff : Moment → Moment → List ℕ → Type 0
BreaksOff before after text = Broke before.output after.output after.output_failed text

-- No message has reached the server.
pub record IsFresh (server : Server) : Type 0 where
  pub phase : server.phase ≡ Fresh
  pub terms : server.terms ≡ fresh_terms
  pub documents : server.documents.items ≡ []

-- The effect of the contents of messages on a server, in order, and the output for them: the response to each, in
-- order. The last one may end the session. (exit: whether it does, and if so whether with success)
pub data Serves (claim : TextClaim) (start : Server) : List (List ℕ) → List ℕ → Server → Option Bool → Type 0 where
  none_served : Serves claim start [] [] start None
  one_more : {bodies : List (List ℕ)} {sent : List ℕ} {before after : Server} {exit : Option Bool} (body answer : List ℕ)
      → Serves claim start bodies sent before None → Handles claim before body answer after exit
      → Serves claim start (bodies ++ body ∷ []) (sent ++ answer) after exit

-- The messages with these contents were read and handled, and then some bytes of no whole message were read. (rest:
-- those bytes; sent: the output for the messages)
pub record Session (claim : TextClaim) (first now : Moment) (bodies : List (List ℕ)) (rest sent : List ℕ)
    (server : Server) (exit : Option Bool) : Type 0 where
  pub start : Server
  pub fresh : IsFresh start
  pub messages : List ℕ
  pub frames : AreFrames CONTENT_LIMIT messages bodies
  pub read : Consumes first.input now.input (messages ++ rest)
  pub serves : Serves claim start bodies sent server exit

-- One more message was read and handled.
pub record Advances (claim : TextClaim) (before after : Moment) (server : Server) (inbox : List ℕ) (next : Server)
    (rest answer : List ℕ) (exit : Option Bool) : Type 0 where
  pub more : List ℕ
  pub read : Consumes before.input after.input more
  pub works : after.input_failed ≡ before.input_failed
  pub message : List ℕ
  pub body : List ℕ
  pub frame : IsFrame message CONTENT_LIMIT body []
  pub split : inbox ++ more ≡ message ++ rest
  pub handles : Handles claim server body answer next exit

-- No message was handled. (rest: the bytes that are in no message that was handled)
pub record Stays (before after : Moment) (inbox rest : List ℕ) : Type 0 where
  pub more : List ℕ
  pub read : Consumes before.input after.input more
  pub all : rest ≡ inbox ++ more
  pub wrote : Writes before after []

-- Why the session ended with no message.
abbrev pub Ends : Moment → Moment → List ℕ → Ended → Type 0
Ends first last rest why = IsNoMessage last.input first.input_failed last.input_failed rest why

-- One turn of the loop: it goes on with the next message, or the session ends.
abbrev pub Turns : TextClaim → Moment → Moment → Server → List ℕ → Server → List ℕ → Option Ended → Type 0
Turns claim before after server inbox next rest None =
    (answer : List ℕ) × Advances claim before after server inbox next rest answer None × Writes before after answer
Turns claim before after server inbox next rest (Some (ended.Exit is_success)) =
    (answer : List ℕ) × Advances claim before after server inbox next rest answer (Some is_success)
    × Writes before after answer
Turns claim before after server inbox next rest (Some ended.WriteFailed) =
    (answer : List ℕ) × (exit : Option Bool) × Advances claim before after server inbox next rest answer exit
    × BreaksOff before after answer
Turns claim before after server inbox next rest (Some ended.TooMany) = ⊥
Turns claim before after server inbox next rest (Some why) =
    (all : List ℕ) × Stays before after inbox all × Ends before after all why

-- ---- The whole session

-- How the session ended. Only of `exit` the last message was the end.
-- (rest: the bytes after the last message that was handled)
abbrev pub SessionEnds : TextClaim → Moment → Moment → List (List ℕ) → List ℕ → List ℕ → Server → Ended → Type 0
SessionEnds claim first last bodies rest sent server (ended.Exit is_success) =
    Session claim first last bodies rest sent server (Some is_success) × Writes first last sent
    × (last.input_failed ≡ first.input_failed)
SessionEnds claim first last bodies rest sent server ended.WriteFailed =
    (exit : Option Bool) × Session claim first last bodies rest sent server exit × BreaksOff first last sent
    × (last.input_failed ≡ first.input_failed)
SessionEnds claim first last bodies rest sent server ended.TooMany =
    Session claim first last bodies rest sent server None × Writes first last sent
    × (last.input_failed ≡ first.input_failed) × (2 ^ 64 - 1 ≤ length bodies)
SessionEnds claim first last bodies rest sent server why =
    Session claim first last bodies rest sent server None × Writes first last sent × Ends first last rest why

-- A session: the messages that were read and handled, and the rest of the bytes that were read. The output is exactly
-- the responses to these messages, in order. `why` is why the session ended.
pub record SessionRuns (claim : TextClaim) (first last : Moment) (why : Ended) : Type 0 where
  pub bodies : List (List ℕ)
  pub rest : List ℕ
  pub sent : List ℕ
  pub server : Server
  pub ends : SessionEnds claim first last bodies rest sent server why
