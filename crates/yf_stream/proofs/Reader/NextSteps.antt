-- The loop of the reader of streams: the next document or `...` continues the text that has been read, and if the
-- reader refuses, no stream is derived within the limit of open collections.
use Rattle.std.proofs.Common.{ap, Result, Ok, IfOk, ◌≡◌, ◌≢◌, ℕ, ◌+◌, ◌<◌, ◌-ℤ◌, pos, Bool, true, false, not, ◌≤◌, List, [], ◌++◌, length, sym, subst, arith, ⊎_elim, append-nil}
use Rattle.std.specs.Str.{IsUtf8}
use Rattle.std.specs.declared.alloc.AllocError.{AllocError}
use Rattle.yf_chars.specs.declared.context.Ctx.TheVariants.{BlockIn}
use Rattle.yf_chars.specs.Text.{code}
use Rattle.yf_chars.specs.Chain.{Chosen}
use Rattle.yf_lines.specs.Basic.{ForbiddenLine, LineStart}
use Rattle.yf_comments.specs.Comment.{CommentValue}
use Rattle.yf_events.specs.declared.directive.Directive.{Directive}
use Rattle.yf_events.specs.declared.part.Part.{Part}
use Rattle.yf_events.specs.declared.reading.TheConstants.{DEPTH}
use Rattle.yf_grammar.specs.Productions.Meaning.{Meaning, empty_node, noting}
use Rattle.yf_grammar.specs.Productions.ReadParts.{BlockNodePart}
use Rattle.yf_grammar.specs.Refusal.{openers}
use Rattle.yf_grammar.proofs.BlockOutcomes.BlockEnds.{LineOrEnd}
use Rattle.yf_stream.specs.DirectiveReaders.{DirectivesRead, IsDirective, LongestDirectives, no_directives, one_directive}
use Rattle.yf_stream.specs.DocumentReaders.{PrefixRead, SuffixEnds, closed, opened}
use Rattle.yf_stream.specs.DocumentSteps.{BareRead, MarkedRead, NextRead, NodeEnds, NothingEnds, after_directives, at_dashes, at_dots, bare_read, no_bare_read, no_dashes, no_directive, no_node_read, node_read, not_bare, nothing_read, too_deep_bare, too_deep_read, with_comments_read, without_dashes}
use Rattle.yf_stream.specs.Stream.{ContentAt, DirectiveLines, Directives, Documents, ExplicitNode, RootNode, document_of, only_comments}
use Rattle.yf_stream.specs.Stream.AnyDocument.{bare_document, directive_document}
use Rattle.yf_stream.specs.Stream.DirectiveLines.{last_directive, more_directives}
use Rattle.yf_stream.specs.Stream.ExplicitNode.{marked_node, marked_nothing}
use Rattle.yf_stream.specs.StreamReader.{NoStream}
use Rattle.yf_stream.specs.declared.documents.StreamStep.{StreamStep}
use Rattle.yf_stream.specs.declared.documents.StreamStep.TheVariants.{Go, Syntax, TooDeep}
use Rattle.yf_stream.specs.declared.documents.Parts.{Parts}
use Rattle.yf_stream.specs.declared.documents.StreamCursor.{StreamCursor}
use Rattle.yf_stream.proofs.Reader.BareStarts.{bare_start}
use Rattle.yf_stream.proofs.Reader.NodeSteps.{MarkedThrough, marked_at_dash, marked_after_directives, no_bare_document, no_directives_there, no_line_after_dots, no_marked_document, no_marker_there, past_bare, past_marked, past_nothing}
use Rattle.yf_stream.proofs.Reader.PathsThrough.{PathsThrough, no_second_bare}
use Rattle.yf_stream.proofs.Reader.StreamUpto.{ReadUpto, followed, one_document, past_document, past_dots, past_marked_document, past_prefix, three_dashes}

-- the node of a document, or an empty one, has been read after the start of the document
pub data NodeDone (t : List ℕ) (at : ℕ) (a b : Parts) (after : StreamCursor) : Meaning → Type 0 where
  node_done : (n : NodeEnds t at a b after) → NodeDone t at a b after n.chosen.derived.meaning
  nothing_done : (n : NothingEnds t at a b after) → NodeDone t at a b after (noting (empty_node at) n.ends.comments)

-- one step: the text read before it, the parts before and after it, and the text read after it
pub data StepTo (t : List ℕ) (cursor : StreamCursor) (x : Documents) (a b : Parts) (after : StreamCursor) : Documents → Type 0 where
  dots_to : (s : SuffixEnds t cursor a b after) → ForbiddenLine t cursor.at → code t cursor.at ≡ 46 → StepTo t cursor x a b after (followed x (only_comments s.comments))
  dashes_to : {y : Meaning} → ForbiddenLine t cursor.at → code t cursor.at ≡ 45 → NodeDone t (cursor.at + 3) (opened cursor.at true [] (closed false (not cursor.may_be_bare) a)) b after y
      → StepTo t cursor x a b after (followed x (one_document y.comments (document_of cursor.at true [] y)))
  directives_to : {p : ℕ} {ds : List Directive} {cs : List CommentValue} {y : Meaning} → cursor.may_be_bare ≡ true → code t cursor.at ≡ 37
      → (r : DirectivesRead t cursor.at p ds a.part.comments cs) → ForbiddenLine t p → code t p ≡ 45 → NodeDone t (p + 3) (opened p true ds (with_comments_read cs a)) b after y
      → StepTo t cursor x a b after (followed x (one_document (r.upto.comments ++ y.comments) (document_of p true ds y)))
  bare_to : {start : ℕ} {y : Meaning} → cursor.may_be_bare ≡ true → ContentAt t cursor.at start → NodeDone t cursor.at (opened start false [] a) b after y
      → StepTo t cursor x a b after (followed x (one_document y.comments (document_of start false [] y)))

-- the reading goes on
pub record GoesOn (t : List ℕ) (cursor : StreamCursor) (x : Documents) (a b : Parts) (after : StreamCursor) : Type 0 where
  pub documents : Documents
  pub read : ReadUpto t after.may_be_bare after.at documents
  pub step : StepTo t cursor x a b after documents

module _ {t : List ℕ} where
  -- directives that were read are derived
  one_line : {i k : ℕ} {x : Directives} → IsDirective t i k x → DirectiveLines t i k x
  one_line {i} {k} {x} d =
      subst (λ w. DirectiveLines t i k (record { directives = w; comments = x.comments })) (sym d.is) (last_directive d.percent d.name d.parameters d.ends)

  lines_from : {i k j : ℕ} {x : Directives} {ds : List Directive} {cs : List CommentValue} → DirectiveLines t i k x → LongestDirectives t k j ds cs
      → DirectiveLines t i j (record { directives = x.directives ++ ds; comments = x.comments ++ cs })
  lines_from {i} {k} {x = x} d no_directives =
      subst (λ w. DirectiveLines t i k (record { directives = w; comments = x.comments ++ [] })) (sym (append-nil x.directives))
      (subst (λ w. DirectiveLines t i k (record { directives = x.directives; comments = w })) (sym (append-nil x.comments)) d)
  lines_from d (one_directive c r) = more_directives d (lines_from (one_line c.derived) r)

  pub lines_read : {i j : ℕ} {ds : List Directive} {cs : List CommentValue} → LongestDirectives t i j ds cs → code t i ≡ 37 → code t j ≢ 37
      → DirectiveLines t i j (record { directives = ds; comments = cs })
  lines_read no_directives e n = absurd (n e)
  lines_read (one_directive c r) e n = lines_from (one_line c.derived) r

  root_of : {k j : ℕ} {part : Part} (c : Chosen (BlockNodePart t DEPTH (pos 0 -ℤ pos 1) BlockIn k) j part) → RootNode t c.derived.height k j c.derived.meaning
  root_of c = record { derived = c.derived.derived; clear = c.derived.clear }

  line_at : {k : ℕ} → LineOrEnd t k → k ≢ length t → LineStart t k
  line_at l n = ⊎_elim (λ s. s) (λ e. absurd (n e)) l

  as_flag : (after : StreamCursor) {b : Bool} {x : Documents} → after.may_be_bare ≡ b → ReadUpto t b after.at x → ReadUpto t after.may_be_bare after.at x
  as_flag after {x = x} e r = subst (λ b. ReadUpto t b after.at x) (sym e) r

-- a document from its `---` on, and the paths after it
record MarkedDocument (t : List ℕ) (p : ℕ) (a b : Parts) (after : StreamCursor) : Type 0 where
  height : ℕ
  meaning : Meaning
  is_done : NodeDone t (p + 3) a b after meaning
  node : ExplicitNode t height p after.at meaning
  within : height ≤ DEPTH
  through : PathsThrough t false after.at
  bare : after.may_be_bare ≡ false

module _ {t : List ℕ} (u : IsUtf8 t) where
  marked_document : {p : ℕ} {ds : List Directive} {a b : Parts} {after : StreamCursor} → ForbiddenLine t p → code t p ≡ 45 → MarkedRead t p ds a b (Go after) → MarkedThrough t p
      → MarkedDocument t p (opened p true ds a) b after
  marked_document {p} f e (node_read n) m = record {
    height = n.chosen.derived.height;
    meaning = n.chosen.derived.meaning;
    is_done = node_done n;
    node = marked_node (three_dashes t p f e) (root_of n.chosen);
    within = n.chosen.derived.within;
    through = past_marked u n.chosen m;
    bare = n.bare;
  }
  marked_document {p} f e (nothing_read n) m = record {
    height = 0;
    meaning = noting (empty_node (p + 3)) n.ends.comments;
    is_done = nothing_done n;
    node = marked_nothing (three_dashes t p f e) n.ends.line.derived;
    within = omega arith;
    through = past_nothing u n.ends.line n.last m;
    bare = n.ends.bare;
  }

  no_marked : {p place : ℕ} {ds : List Directive} {a b : Parts} → MarkedRead t p ds a b (Syntax place) → MarkedThrough t p → NoStream t
  no_marked (no_node_read s n) m = no_marked_document u n s m

  marked_too_deep : {p place : ℕ} {ds : List Directive} {a b : Parts} → MarkedRead t p ds a b (TooDeep place) → MarkedThrough t p → NoStream t × (DEPTH < openers t)
  marked_too_deep (too_deep_read s n o) m = (no_marked_document u n s m, o)

  -- facts about the offset of the next document
  module _ {f i : ℕ} (cursor : StreamCursor) {c d : List CommentValue} (pre : PrefixRead t f i cursor.at c d) (some : cursor.at ≢ length t) {x : Documents} (r : ReadUpto t cursor.may_be_bare cursor.at x) where
    begin_bare : cursor.may_be_bare ≡ true → ReadUpto t true cursor.at x
    begin_bare e = subst (λ b. ReadUpto t b cursor.at x) e r

    suffix_on : {a b : Parts} {after : StreamCursor} → ForbiddenLine t cursor.at → code t cursor.at ≡ 46 → SuffixEnds t cursor a b after → GoesOn t cursor x a b after
    suffix_on {after = after} f e s = record {
      documents = followed x (only_comments s.comments);
      read = as_flag after s.bare (past_dots u pre.no_row f e s.line.derived r);
      step = dots_to s f e;
    }

    bare_on : {a b : Parts} {after : StreamCursor} → (ForbiddenLine t cursor.at → ⊥) → cursor.may_be_bare ≡ true → code t cursor.at ≢ 37 → BareRead t cursor.at a b (Go after) → GoesOn t cursor x a b after
    bare_on {after = after} f q e (bare_read {start = start} m w n) =
        let y = n.chosen in
        let c = bare_start (line_at r.starts some) pre.no_row m w y.derived.derived in
        record {
          documents = followed x (one_document y.derived.meaning.comments (document_of start false [] y.derived.meaning));
          read = as_flag after n.bare
              (past_document u y.derived.within (bare_document (root_of y) c) (past_bare u pre.no_row some pre.no_mark f e y r.through) (begin_bare q));
          step = bare_to q c (node_done n);
        }

    pub reading_goes_on : {a b : Parts} {after : StreamCursor} → NextRead t cursor a b (Go after) → GoesOn t cursor x a b after
    reading_goes_on (at_dots f e s) = suffix_on f e s
    reading_goes_on {after = after} (at_dashes f e m) =
        let y = marked_document f e m (marked_at_dash pre.no_row f e r.through) in
        record {
          documents = followed x (one_document y.meaning.comments (document_of cursor.at true [] y.meaning));
          read = as_flag after y.bare (past_marked_document u y.within y.node y.through r);
          step = dashes_to f e y.is_done;
        }
    reading_goes_on {after = after} (after_directives {p = p} {ds = ds} q e d f g m) =
        let y = marked_document f g m (marked_after_directives u e d r.through) in
        record {
          documents = followed x (one_document (d.upto.comments ++ y.meaning.comments) (document_of p true ds y.meaning));
          read = as_flag after y.bare (past_document u y.within (directive_document (lines_read d.upto.longest e d.last) y.node) y.through (begin_bare q));
          step = directives_to q e d f g y.is_done;
        }
    reading_goes_on (without_dashes f q e m) = bare_on f q e m

    no_bare_there : {place : ℕ} {a b : Parts} → (ForbiddenLine t cursor.at → ⊥) → code t cursor.at ≢ 37 → BareRead t cursor.at a b (Syntax place) → NoStream t
    no_bare_there f e (no_bare_read n) = no_bare_document u pre.no_row some pre.no_mark f e n r.through

    bare_too_deep : {place : ℕ} {a b : Parts} → (ForbiddenLine t cursor.at → ⊥) → code t cursor.at ≢ 37 → BareRead t cursor.at a b (TooDeep place) → NoStream t × (DEPTH < openers t)
    bare_too_deep f e (too_deep_bare n o) = (no_bare_document u pre.no_row some pre.no_mark f e n r.through, o)

    through_as : {b : Bool} → cursor.may_be_bare ≡ b → PathsThrough t b cursor.at
    through_as e = subst (λ b. PathsThrough t b cursor.at) e r.through

    pub no_stream_read : {place : ℕ} {a b : Parts} → NextRead t cursor a b (Syntax place) → NoStream t
    no_stream_read (at_dots f e s) = no_line_after_dots pre.no_row f e s r.through
    no_stream_read (at_dashes f e m) = no_marked m (marked_at_dash pre.no_row f e r.through)
    no_stream_read (not_bare f q) = no_second_bare pre some f (through_as q)
    no_stream_read (after_directives q e d f g m) = no_marked m (marked_after_directives u e d r.through)
    no_stream_read (no_dashes e d n) = no_marker_there n (marked_after_directives u e d r.through)
    no_stream_read (no_directive e d) = no_directives_there u e d r.through
    no_stream_read (without_dashes f q e m) = no_bare_there f e m

    pub too_deep_there : {place : ℕ} {a b : Parts} → NextRead t cursor a b (TooDeep place) → NoStream t × (DEPTH < openers t)
    too_deep_there (at_dots f e s) = absurd s
    too_deep_there (at_dashes f e m) = marked_too_deep m (marked_at_dash pre.no_row f e r.through)
    too_deep_there (after_directives q e d f g m) = marked_too_deep m (marked_after_directives u e d r.through)
    too_deep_there (without_dashes f q e m) = bare_too_deep f e m

-- likewise from a cursor before comment lines and byte order marks
pub cursor_on : {t : List ℕ} {c d : List CommentValue} {x : Documents} (cursor s : StreamCursor) → IsUtf8 t → s ≡ record cursor { at = s.at } → (r : PrefixRead t cursor.floor cursor.at s.at c d)
    → ReadUpto t cursor.may_be_bare cursor.at x → ReadUpto t s.may_be_bare s.at (followed x (only_comments r.upto.comments))
cursor_on {t} {x = x} cursor s u e r g =
    subst (λ b. ReadUpto t b s.at (followed x (only_comments r.upto.comments))) (sym (ap (λ z. z.may_be_bare) e)) (past_prefix u r g)

pub next_of : (t : List ℕ) (s : StreamCursor) (a b : Parts) {r : Result StreamStep AllocError} {o p : StreamStep} → IfOk r (λ next. NextRead t s a b next) → r ≡ Ok o → o ≡ p → NextRead t s a b p
next_of t s a b i e f = subst (λ w. NextRead t s a b w) f (subst (λ z. IfOk z (λ next. NextRead t s a b next)) e i)
