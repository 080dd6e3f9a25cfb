-- Sessions, message by message.
use Rattle.std.proofs.Common.{◌≡◌, ◌∙◌, ◌+◌, ◌≤◌, ◌++◌, ◌∷◌, ◌^◌, ◌-◌, [], List, ℕ, Bool, None, Some, Option, Err, ap, drop, slice_range, append-nil, append_assoc, length, length-append, refl, subst, sym, arith}
use Rattle.std.specs.Io.KnownBytes.{Consumes}
use Rattle.std.proofs.KnownBytes.{Appends-nil, Appends-trans, Consumes-nil, Consumes-trans}
use Rattle.httparse.specs.Grammar.{print_section}
use Rattle.httparse.proofs.GrammarLemmas.{ReadsSection-append}
use Rattle.yf_json_rpc.specs.declared.frame.Content.{Content}
use Rattle.yf_json_rpc.specs.Frames.{IsFrame, IsFrameAt}
use Rattle.yf_json_rpc.specs.Streams.{AreFrames, no_frame, one_frame}
use Rattle.yf_lines.proofs.OutputLemmas.{broke_second}
use Rattle.yf_server.specs.declared.step.Server.{Server}
use Rattle.yf_server.specs.Analysis.{TextClaim}
use Rattle.yf_server_loop.specs.declared.ended.Ended.{Ended}
use Rattle.yf_server_loop.specs.declared.ended.Ended.TheVariants as ended
use Rattle.yf_server_loop.specs.declared.receive.TheConstants.{CONTENT_LIMIT}
use Rattle.yf_server_loop.specs.Handled.{Handles}
use Rattle.yf_server_loop.specs.Received.{Grows, IsNoMessage, Reads}
use Rattle.yf_server_loop.specs.Sessions.{Advances, BreaksOff, Ends, IsFresh, Moment, Session, SessionRuns, Stays, Turns, Writes}
use Rattle.yf_server_loop.specs.Sessions.Serves.{none_served, one_more}

-- the message at the front of bytes, without the bytes after it
pub record FrontFrame (bytes body rest : List ℕ) : Type 0 where
  pub message : List ℕ
  pub split : bytes ≡ message ++ rest
  pub frame : IsFrame message CONTENT_LIMIT body []

pub front_frame : (bytes body rest : List ℕ) → IsFrame bytes CONTENT_LIMIT body rest → FrontFrame bytes body rest
front_frame bytes body rest f = record {
  message = print_section f.fields f.last ++ body;
  split = f.reads.1 ∙ sym (append_assoc (print_section f.fields f.last) body rest);
  frame = record {
    fields = f.fields;
    last = f.last;
    few = f.few;
    reads = (f.reads.0, ap (λ b. print_section f.fields f.last ++ b) (sym (append-nil body)));
    size = f.size;
    short = f.short;
  };
}

frame_more : (limit : ℕ) (bytes body rest more : List ℕ) → IsFrame bytes limit body rest
    → IsFrame (bytes ++ more) limit body (rest ++ more)
frame_more limit bytes body rest more f =
    let reads = ReadsSection-append bytes f.fields f.last (body ++ rest) more f.reads in
    record {
      fields = f.fields;
      last = f.last;
      few = f.few;
      reads = (reads.0, reads.1 ∙ ap (λ b. print_section f.fields f.last ++ b) (append_assoc body rest more));
      size = f.size;
      short = f.short;
    }

frames_join : (limit : ℕ) (a b : List ℕ) (xs ys : List (List ℕ)) → AreFrames limit a xs → AreFrames limit b ys
    → AreFrames limit (a ++ b) (xs ++ ys)
frames_join limit a b xs ys no_frame g = g
frames_join limit a b xs ys (one_frame {bytes = bytes} {body = body} {rest = rest} {bodies = bodies} f more) g =
    one_frame (frame_more limit bytes body rest b f) (frames_join limit rest b bodies ys more g)

pub frames_push : (limit : ℕ) (a message body : List ℕ) (xs : List (List ℕ)) → AreFrames limit a xs
    → IsFrame message limit body [] → AreFrames limit (a ++ message) (xs ++ body ∷ [])
frames_push limit a message body xs h f = frames_join limit a message xs (body ∷ []) h (one_frame f no_frame)

-- outputs, one after another
pub writes_nothing : (now : Moment) (input : Option (List ℕ)) (failed : Bool)
    → Writes now (record now { input = input; input_failed = failed }) []
writes_nothing now input failed = record { appended = Appends-nil now.output; same = refl }

pub writes_more : (first middle last : Moment) (text more : List ℕ) → Writes first middle text
    → Writes middle last more → Writes first last (text ++ more)
writes_more first middle last text more p q = record {
  appended = Appends-trans first.output middle.output last.output text more p.appended q.appended;
  same = q.same ∙ p.same;
}

breaks_more : (first middle last : Moment) (text more : List ℕ) → Writes first middle text
    → BreaksOff middle last more → BreaksOff first last (text ++ more)
breaks_more first middle last text more p q =
    broke_second first.output middle.output last.output first.output_failed middle.output_failed last.output_failed
    text more p q

module _ (claim : TextClaim) (first : Moment) where
  session_more : (middle last : Moment) (bodies : List (List ℕ)) (inbox sent rest answer : List ℕ)
      (server next : Server) (exit : Option Bool) → Session claim first middle bodies inbox sent server None
      → (a : Advances claim middle last server inbox next rest answer exit)
      → Session claim first last (bodies ++ a.body ∷ []) rest (sent ++ answer) next exit
  session_more middle last bodies inbox sent rest answer server next exit s a =
      let whole : (s.messages ++ inbox) ++ a.more ≡ (s.messages ++ a.message) ++ rest =
      append_assoc s.messages inbox a.more ∙ ap (λ l. s.messages ++ l) a.split
      ∙ sym (append_assoc s.messages a.message rest) in
      record {
        start = s.start;
        fresh = s.fresh;
        messages = s.messages ++ a.message;
        frames = frames_push CONTENT_LIMIT s.messages a.message a.body bodies s.frames a.frame;
        read = subst (λ l. Consumes first.input last.input l) whole
            (Consumes-trans first.input middle.input last.input (s.messages ++ inbox) a.more s.read a.read);
        serves = one_more a.body answer s.serves a.handles;
      }

  session_stays : (middle last : Moment) (bodies : List (List ℕ)) (inbox sent rest : List ℕ) (server : Server)
      → Session claim first middle bodies inbox sent server None → Stays middle last inbox rest
      → Session claim first last bodies rest sent server None
  session_stays middle last bodies inbox sent rest server s a =
      let whole : (s.messages ++ inbox) ++ a.more ≡ s.messages ++ rest =
      append_assoc s.messages inbox a.more ∙ ap (λ l. s.messages ++ l) (sym a.all) in
      record {
        start = s.start;
        fresh = s.fresh;
        messages = s.messages;
        frames = s.frames;
        read = subst (λ l. Consumes first.input last.input l) whole
            (Consumes-trans first.input middle.input last.input (s.messages ++ inbox) a.more s.read a.read);
        serves = s.serves;
      }

  -- the session goes on, and `count` messages were handled
  pub record InSession (now : Moment) (server : Server) (inbox : List ℕ) (count : ℕ) : Type 0 where
    pub bodies : List (List ℕ)
    pub sent : List ℕ
    pub session : Session claim first now bodies inbox sent server None
    pub writes : Writes first now sent
    pub works : now.input_failed ≡ first.input_failed
    pub counts : length bodies ≡ count

  pub session_begins : (server : Server) (inbox : List ℕ) → inbox ≡ [] → IsFresh server
      → InSession first server inbox 0
  session_begins server inbox none fresh = record {
    bodies = [];
    sent = [];
    session = record {
      start = server;
      fresh = fresh;
      messages = [];
      frames = no_frame;
      read = subst (λ l. Consumes first.input first.input l) (sym none) (Consumes-nil first.input);
      serves = none_served;
    };
    writes = record { appended = Appends-nil first.output; same = refl };
    works = refl;
    counts = refl;
  }

  pub session_goes_on : (middle last : Moment) (server next : Server) (inbox rest : List ℕ) (count : ℕ)
      → InSession middle server inbox count → Turns claim middle last server inbox next rest None
      → InSession last next rest (count + 1)
  session_goes_on middle last server next inbox rest count s t =
      let answer = t.0 in
      let a = t.1 in
      record {
        bodies = s.bodies ++ a.body ∷ [];
        sent = s.sent ++ answer;
        session = session_more middle last s.bodies inbox s.sent rest answer server next None s.session a;
        writes = writes_more first middle last s.sent answer s.writes t.2;
        works = a.works ∙ s.works;
        counts = length-append s.bodies (a.body ∷ []) ∙ ap (λ n. n + 1) s.counts;
      }

  stays_ends : (middle last : Moment) (server : Server) (inbox sent all : List ℕ)
      → Writes first middle sent → Stays middle last inbox all → Writes first last sent
  stays_ends middle last server inbox sent all w a =
      subst (λ l. Writes first last l) (append-nil sent) (writes_more first middle last sent [] w a.wrote)

  ends_first : (middle last : Moment) (all : List ℕ) (why : Ended) → middle.input_failed ≡ first.input_failed
      → Ends middle last all why → Ends first last all why
  ends_first middle last all why works e =
      subst (λ f. IsNoMessage last.input f last.input_failed all why) works e

  pub session_ends : (middle last : Moment) (server next : Server) (inbox rest : List ℕ) (count : ℕ) (why : Ended)
      → InSession middle server inbox count → Turns claim middle last server inbox next rest (Some why)
      → SessionRuns claim first last why
  session_ends middle last server next inbox rest count (ended.Exit is_success) s t = record {
    bodies = s.bodies ++ t.1.body ∷ [];
    rest = rest;
    sent = s.sent ++ t.0;
    server = next;
    ends = (
      session_more middle last s.bodies inbox s.sent rest t.0 server next (Some is_success) s.session t.1,
      writes_more first middle last s.sent t.0 s.writes t.2,
      t.1.works ∙ s.works,
    );
  }
  session_ends middle last server next inbox rest count ended.WriteFailed s t = record {
    bodies = s.bodies ++ t.2.body ∷ [];
    rest = rest;
    sent = s.sent ++ t.0;
    server = next;
    ends = (
      t.1,
      session_more middle last s.bodies inbox s.sent rest t.0 server next t.1 s.session t.2,
      breaks_more first middle last s.sent t.0 s.writes t.3,
      t.2.works ∙ s.works,
    );
  }
  session_ends middle last server next inbox rest count ended.TooMany s t = absurd t
  session_ends middle last server next inbox rest count ended.EndOfInput s t = record {
    bodies = s.bodies;
    rest = t.0;
    sent = s.sent;
    server = server;
    ends = (
      session_stays middle last s.bodies inbox s.sent t.0 server s.session t.1,
      stays_ends middle last server inbox s.sent t.0 s.writes t.1,
      ends_first middle last t.0 ended.EndOfInput s.works t.2,
    );
  }
  session_ends middle last server next inbox rest count (ended.Frame error) s t = record {
    bodies = s.bodies;
    rest = t.0;
    sent = s.sent;
    server = server;
    ends = (
      session_stays middle last s.bodies inbox s.sent t.0 server s.session t.1,
      stays_ends middle last server inbox s.sent t.0 s.writes t.1,
      ends_first middle last t.0 (ended.Frame error) s.works t.2,
    );
  }
  session_ends middle last server next inbox rest count ended.ReadFailed s t = record {
    bodies = s.bodies;
    rest = t.0;
    sent = s.sent;
    server = server;
    ends = (
      session_stays middle last s.bodies inbox s.sent t.0 server s.session t.1,
      stays_ends middle last server inbox s.sent t.0 s.writes t.1,
      ends_first middle last t.0 ended.ReadFailed s.works t.2,
    );
  }
  session_ends middle last server next inbox rest count ended.Memory s t = record {
    bodies = s.bodies;
    rest = t.0;
    sent = s.sent;
    server = server;
    ends = (
      session_stays middle last s.bodies inbox s.sent t.0 server s.session t.1,
      stays_ends middle last server inbox s.sent t.0 s.writes t.1,
      ends_first middle last t.0 ended.Memory s.works t.2,
    );
  }

  pub session_full : (now : Moment) (server : Server) (inbox : List ℕ) (count : ℕ) → 2 ^ 64 - 1 ≤ count
      → InSession now server inbox count → SessionRuns claim first now ended.TooMany
  session_full now server inbox count many s = record {
    bodies = s.bodies;
    rest = inbox;
    sent = s.sent;
    server = server;
    ends = (s.session, s.writes, s.works, subst (λ n. 2 ^ 64 - 1 ≤ n) (sym s.counts) many);
  }

-- a turn that handled no message
pub turn_ended : (claim : TextClaim) (input left output : Option (List ℕ)) (failed fails broken : Bool)
    (server next : Server) (inbox rest : List ℕ) (why : Ended) → Grows input left inbox rest (Err why)
    → IsNoMessage left failed fails rest why
    → Turns claim (record { input = input; input_failed = failed; output = output; output_failed = broken })
    (record { input = left; input_failed = fails; output = output; output_failed = broken }) server inbox next rest
    (Some why)
turn_ended claim input left output failed fails broken server next inbox rest (ended.Exit is_success) r e = absurd e
turn_ended claim input left output failed fails broken server next inbox rest ended.WriteFailed r e = absurd e
turn_ended claim input left output failed fails broken server next inbox rest ended.TooMany r e = absurd e
turn_ended claim input left output failed fails broken server next inbox rest ended.EndOfInput r e = (
  rest,
  record { more = r.more; read = r.consumed; all = r.added; wrote = record { appended = Appends-nil output; same = refl } },
  e,
)
turn_ended claim input left output failed fails broken server next inbox rest (ended.Frame error) r e = (
  rest,
  record { more = r.more; read = r.consumed; all = r.added; wrote = record { appended = Appends-nil output; same = refl } },
  e,
)
turn_ended claim input left output failed fails broken server next inbox rest ended.ReadFailed r e = (
  rest,
  record { more = r.more; read = r.consumed; all = r.added; wrote = record { appended = Appends-nil output; same = refl } },
  e,
)
turn_ended claim input left output failed fails broken server next inbox rest ended.Memory r e = (
  inbox ++ r.more,
  record { more = r.more; read = r.consumed; all = refl; wrote = record { appended = Appends-nil output; same = refl } },
  e,
)

-- a turn that handled a message
pub advances_by : (claim : TextClaim) (before after : Moment) (server next : Server) (inbox grown rest answer : List ℕ)
    (exit : Option Bool) (content : Content) → Reads before.input after.input inbox grown
    → after.input_failed ≡ before.input_failed → IsFrameAt grown CONTENT_LIMIT content
    → rest ≡ drop content.end grown
    → Handles claim server (slice_range grown content.start content.end) answer next exit
    → Advances claim before after server inbox next rest answer exit
advances_by claim before after server next inbox grown rest answer exit content r works at left h =
    let f = front_frame grown (slice_range grown content.start content.end) (drop content.end grown) at.message in
    record {
      more = r.more;
      read = r.consumed;
      works = works;
      message = f.message;
      body = slice_range grown content.start content.end;
      frame = f.frame;
      split = sym r.added ∙ f.split ∙ ap (λ l. f.message ++ l) (sym left);
      handles = h;
    }
