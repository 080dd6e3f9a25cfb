-- The results of the readers of documents follow from those of the reader of block nodes.
use Rattle.std.proofs.Common.{◌≡◌, ℕ, ◌+◌, ◌<◌, ◌≤◌, ◌-ℤ◌, pos, Bool, true, false, not, true≢false, cond, Result, Ok, IfOk, List, [], ◌++◌, drop, take, refl, sym, ap, ◌∙◌, subst, arith}
use Rattle.std.proofs.lemmas.List.Elements.{All-nil, All-push}
use Rattle.std.proofs.lemmas.List.Sums.{sum_by-take-drop}
use Rattle.std.specs.List.{All, sum_by}
use Rattle.std.specs.declared.alloc.AllocError.{AllocError}
use Rattle.std.specs.Str.{IsCharBoundary}
use Rattle.yf_chars.specs.declared.context.Ctx.TheVariants.{BlockIn}
use Rattle.yf_chars.specs.Text.{code}
use Rattle.yf_chars.specs.Class.{is_white}
use Rattle.yf_chars.specs.Chain.{Chosen, Many, Stuck}
use Rattle.yf_comments.specs.Comment.{CommentValue}
use Rattle.yf_comments.specs.Comments.{LineEnd}
use Rattle.yf_events.specs.declared.directive.Directive.{Directive}
use Rattle.yf_events.specs.declared.part.Part.{Part}
use Rattle.yf_events.specs.declared.reading.TheConstants.{DEPTH}
use Rattle.yf_flow.specs.Depth.{openers_from}
use Rattle.yf_grammar.specs.BlockReader.BlockParser.{Awaited, LinesEnd, Nothing}
use Rattle.yf_grammar.specs.Productions.ReadParts.{BlockNodePart}
use Rattle.yf_grammar.specs.Refusal.{is_opener, openers}
use Rattle.yf_block.specs.BlockStepTied.{TextIsLeft, line_left as line_is_left, none_found as none_is_found}
use Rattle.yf_block.specs.NodeGiven.{FoundTied, Indentation, NoneTied, OutcomeTied}
use Rattle.yf_block.specs.declared.nodes.BlockOutcome.{BlockOutcome}
use Rattle.yf_block.specs.declared.nodes.FoundBlock.{FoundBlock as FoundNode}
use Rattle.yf_stream.specs.DocumentReaders.{opened}
use Rattle.yf_stream.specs.DocumentSteps.{BareRead, EmptyAdded, EmptyTo, FoundRead, FoundTo, MarkedRead, NoNode, NodeEnds, NothingAt, RootRead, SomethingBegins, bare_read, grown, line_left, no_bare_read, no_node_read, no_root, node_read, none_derived, none_found, nothing_read, root_read, root_too_deep, too_deep_bare, too_deep_read}
use Rattle.yf_events.specs.declared.document.Doc.{Doc}
use Rattle.yf_stream.specs.PartsPlaces.{PartsAt}
use Rattle.yf_stream.specs.RefusalPlaces.{DirectivesAt, DocumentsAt}
use Rattle.yf_stream.specs.ReaderSteps.{NextAt}
use Rattle.yf_stream.specs.declared.documents.StreamStep.{StreamStep}
use Rattle.yf_stream.specs.declared.documents.StreamStep.TheVariants.{Go, Syntax, TooDeep}
use Rattle.yf_stream.specs.declared.documents.Parts.{Parts}
use Rattle.yf_stream.specs.declared.documents.StreamCursor.{StreamCursor}
use Rattle.yf_chars.proofs.Tests.{turned_false}

grown_by : (a : Parts) {b : Parts} (part : Part) → b.part.events ≡ a.part.events ++ part.events → b.part.comments ≡ a.part.comments ++ part.comments
    → b.part.escapes ≡ a.part.escapes ++ part.escapes → b.documents ≡ a.documents → b ≡ grown part a
grown_by a {b} part e c s d =
    ap (λ z. record { part = record { events = z; comments = b.part.comments; escapes = b.part.escapes }; documents = b.documents }) e
    ∙ ap (λ z. record { part = record { events = a.part.events ++ part.events; comments = z; escapes = b.part.escapes }; documents = b.documents }) c
    ∙ ap (λ z. record { part = record { events = a.part.events ++ part.events; comments = a.part.comments ++ part.comments; escapes = z }; documents = b.documents }) s
    ∙ ap (λ z. record { part = record { events = a.part.events ++ part.events; comments = a.part.comments ++ part.comments; escapes = a.part.escapes ++ part.escapes }; documents = z }) d

no_node_of : {t : List ℕ} {at : ℕ} → TextIsLeft t DEPTH (Awaited false (pos 0 -ℤ pos 1) BlockIn Nothing at) → NoNode t at
no_node_of (none_is_found r) = none_found r
no_node_of (line_is_left r o s) = line_left r o s

module _ (t : List ℕ) where
  node_ends : {at : ℕ} (a b : Parts) {f : FoundNode} {after : StreamCursor} → FoundTied t DEPTH (pos 0 -ℤ pos 1) BlockIn at a.part f b.part → b.documents ≡ a.documents → FoundTo f after
      → NodeEnds t at a b after
  node_ends {at} a b x d e =
      let g = x.whole e.whole in
      record {
        part = g.node;
        chosen = subst (λ z. Chosen (BlockNodePart t DEPTH (pos 0 -ℤ pos 1) BlockIn at) z g.node) (sym e.at) g.chosen;
        bare = e.bare;
        floor = e.floor ∙ g.floor_is;
        parts = grown_by a g.node g.added.events g.added.comments g.added.escapes d;
      }

  fewer_openers : (i : ℕ) → openers_from t i ≤ openers t
  unfolding openers_from
  fewer_openers i =
      let all : sum_by (λ c. cond (is_opener c) 1 0) (take i t) + openers (drop i t) ≡ openers t = sum_by-take-drop (λ c. cond (is_opener c) 1 0) t i in omega arith

  pub root_found : {at : ℕ} {a b : Parts} {f : FoundNode} (next : StreamStep) → FoundTied t DEPTH (pos 0 -ℤ pos 1) BlockIn at a.part f b.part → b.documents ≡ a.documents → FoundRead f next
      → RootRead t at a b next
  root_found {a = a} {b = b} (Go after) x d e = root_read (node_ends a b x d e)
  root_found (Syntax place) x d e = no_root (no_node_of (x.broken e.0))
  root_found {at = at} (TooDeep place) x d e = let l = x.deep e.1 in let m = fewer_openers at in root_too_deep (no_node_of (x.broken e.0)) (omega arith)

  pub root_none : {at place : ℕ} {a b : Parts} → NoneTied t DEPTH (pos 0 -ℤ pos 1) BlockIn at → RootRead t at a b (Syntax place)
  root_none n = no_root (none_derived n.none)

  pub root_deep : {at place : ℕ} {a b : Parts} → NoneTied t DEPTH (pos 0 -ℤ pos 1) BlockIn at → DEPTH < openers_from t at → RootRead t at a b (TooDeep place)
  root_deep {at} n l = let m = fewer_openers at in root_too_deep (none_derived n.none) (omega arith)

  -- as the node of a document with `---`, and of one without
  pub marked_of : {at : ℕ} {ds : List Directive} {old a b : Parts} {next : StreamStep} → SomethingBegins t (at + 3) → a ≡ opened at true ds old → RootRead t (at + 3) a b next
      → MarkedRead t at ds old b next
  marked_of {at} {b = b} s o (root_read {after = after} n) = node_read (subst (λ z. NodeEnds t (at + 3) z b after) o n)
  marked_of s o (no_root n) = no_node_read s n
  marked_of s o (root_too_deep n l) = too_deep_read s n l

  pub bare_of : {at start : ℕ} {w : List ℕ} {old a b : Parts} {next : StreamStep} → Many t is_white at start w → is_white (code t start) ≡ false → a ≡ opened start false [] old
      → RootRead t at a b next → BareRead t at old b next
  bare_of {at} {b = b} m w o (root_read {after = after} n) = bare_read m w (subst (λ z. NodeEnds t at z b after) o n)
  bare_of m w o (no_root n) = no_bare_read n
  bare_of m w o (root_too_deep n l) = too_deep_bare n l

  pub marked_nothing : {at end : ℕ} {cs : List CommentValue} {ds : List Directive} {old a b : Parts} (next : StreamStep) → NothingAt t (at + 3) end cs → a ≡ opened at true ds old
      → EmptyAdded end cs a b next → MarkedRead t at ds old b next
  marked_nothing {at} {end} {cs} {ds} {old} {a} {b} (Go after) n o e =
      let e' : EmptyTo end cs (opened at true ds old) b after = subst (λ z. EmptyTo end cs z b after) o e in
      nothing_read (record {
        ends = record {
          comments = cs;
          line = subst (λ z. Chosen (LineEnd t (at + 3)) z cs) (sym e'.at) n.line;
          bare = e'.bare;
          floor = e'.floor;
          parts = e'.parts;
        };
        last = subst (λ z. LinesEnd t z) (sym e'.at) n.last;
      })
  marked_nothing (Syntax place) n o e = absurd e
  marked_nothing (TooDeep place) n o e = absurd e

  -- the end of a line after a `---`
  pub something_left : {at j : ℕ} {cs : List CommentValue} → Chosen (LineEnd t at) j cs → (LinesEnd t j → ⊥) → SomethingBegins t at
  something_left {j = j} {cs = cs} c n = record {
    none = λ k ds d z.
        let l = c.longest k ds d.derived in
        let m = d.longest j cs c.derived in
        let e : k ≡ j = omega arith in
        n (subst (λ w. LinesEnd t w) e z);
  }

  pub something_there : {at : ℕ} → Stuck (LineEnd t at) → SomethingBegins t at
  something_there s = record { none = λ k ds d z. s.none k ds d.derived }

-- the indentation of a document's node, and the result of the reader of block nodes for it
pub root_indentation : Indentation (pos 0 -ℤ pos 1)
root_indentation = record { least = 0; is = refl; narrow = omega arith }

pub outcome_of : (t : List ℕ) (at : ℕ) (before part : Part) {r : Result BlockOutcome AllocError} {o p : BlockOutcome}
    → IfOk r (λ w. OutcomeTied t DEPTH (pos 0 -ℤ pos 1) BlockIn at before w part) → r ≡ Ok o → o ≡ p → OutcomeTied t DEPTH (pos 0 -ℤ pos 1) BlockIn at before p part
outcome_of t at before part i e f =
    subst (λ w. OutcomeTied t DEPTH (pos 0 -ℤ pos 1) BlockIn at before w part) f
    (subst (λ z. IfOk z (λ w. OutcomeTied t DEPTH (pos 0 -ℤ pos 1) BlockIn at before w part)) e i)

-- one more document
pub documents_opened : (t : List ℕ) (a : Parts) {b : Parts} (start : ℕ) (marked : Bool) (ds : List Directive) → b ≡ opened start marked ds a → DocumentsAt t a.documents → DirectivesAt t ds
    → DocumentsAt t b.documents
documents_opened t a start marked ds e d h =
    subst (λ z. DocumentsAt t z.documents) (sym e) (All-push (λ (d : Doc). DirectivesAt t d.directives) a.documents (record { start = start; directives = ds }) d h)

pub no_directives_at : (t : List ℕ) {ds : List Directive} → ds ≡ [] → DirectivesAt t ds
no_directives_at t e = subst (λ z. DirectivesAt t z) (sym e) (All-nil (λ (d : Directive). IsCharBoundary t d.offset))

pub empty_next : (t : List ℕ) (at : ℕ) {end : ℕ} (cs : List CommentValue) (a b : Parts) (next : StreamStep) → IsCharBoundary t end → at + 3 ≤ end → EmptyAdded end cs a b next
    → NextAt t (at + 1) next
empty_next t at cs a b (Go after) k l e =
    (record { boundary = subst (λ z. IsCharBoundary t z) (sym e.at) k; order = omega (arith, e.at) }, subst (λ z. IsCharBoundary t z) (sym e.reached) k)
empty_next t at cs a b (Syntax place) k l e = absurd e
empty_next t at cs a b (TooDeep place) k l e = absurd e

-- the parts with an empty node added
pub empty_parts : (t : List ℕ) (end : ℕ) (cs : List CommentValue) (a b : Parts) (next : StreamStep) → All (IsCharBoundary t) a.part.escapes → DocumentsAt t a.documents
    → EmptyAdded end cs a b next → PartsAt t b
empty_parts t end cs a b (Go after) k d e = subst (PartsAt t) (sym e.parts) (record { escapes = k; documents = d })
empty_parts t end cs a b (Syntax place) k d e = absurd e
empty_parts t end cs a b (TooDeep place) k d e = absurd e

-- from an offset on, and so from an earlier one
pub later_next : (t : List ℕ) (at : ℕ) (next : StreamStep) → NextAt t (at + 3 + 1) next → NextAt t (at + 1) next
later_next t at (Go after) n = (record { boundary = n.0.boundary; order = omega (arith, n.0.order) }, n.1)
later_next t at (Syntax place) n = n
later_next t at (TooDeep place) n = n

pub turned_true : (b : Bool) → not b ≡ false → b ≡ true
turned_true true e = refl
turned_true false e = absurd (true≢false e)
