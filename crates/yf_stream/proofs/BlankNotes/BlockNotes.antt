-- Each comment of a block node notes whether a blank line is before it, from the floor that the block scalars before it
-- set: the induction.
use Rattle.std.proofs.Common.{◌≡◌, ◌≢◌, ℕ, ℤ, ◌+◌, ◌<◌, ◌≤◌, Bool, true, false, List, [], length, Some, None, refl, sym, ap, ◌∙◌, subst, arith}
use Rattle.std.specs.Str.{IsUtf8}
use Rattle.yf_chars.specs.Text.{code, no_char}
use Rattle.yf_chars.specs.Class.{is_white, is_break_char}
use Rattle.yf_chars.proofs.ChainLemmas.{chain_forward}
use Rattle.yf_comments.specs.Comment.{CommentValue}
use Rattle.yf_comments.specs.Comments.{is_gap, BreakOrEnd, by_break, by_end, LineRest}
use Rattle.yf_comments.specs.Comments.LineRest.{nothing, whites, comment}
use Rattle.yf_comments.proofs.LineOrder.{line_end_forward}
use Rattle.yf_block_scalar.specs.declared.header.Header.{Header}
use Rattle.yf_block_scalar.specs.Header.{BlockHeader, HeaderValue}
use Rattle.yf_block_scalar.specs.Header.BlockHeader.{block_header}
use Rattle.yf_block_scalar.specs.Header.Style.{literal_sign, folded_sign}
use Rattle.yf_block_scalar.specs.Content.{content_of}
use Rattle.yf_block_scalar.specs.Body.{LineContent, Lines, Trail, Body, BodyValue}
use Rattle.yf_block_scalar.specs.Body.LineContent.{content}
use Rattle.yf_block_scalar.specs.Body.Ends.{by_break as line_by_break, by_text as line_by_text}
use Rattle.yf_block_scalar.specs.Body.Lines.{no_content, up_to}
use Rattle.yf_block_scalar.specs.Body.Trail.{comments, no_comment}
use Rattle.yf_block_scalar.specs.Body.Body.{indicated, detected, without_content}
use Rattle.yf_block_scalar.proofs.BodyLemmas.{bare_functional}
use Rattle.yf_block_scalar.proofs.LinesMade.{LinesTo, blanks_one, taken_all, taken_lines}
use Rattle.yf_block_scalar.proofs.UniqueLemmas.{line_functional, lines_chain}
use Rattle.yf_chars.specs.Chain.Chain.{done}
use Rattle.yf_props.specs.Props.{no_props}
use Rattle.yf_events.specs.Event.{EventInText, scalar_node}
use Rattle.yf_grammar.specs.Productions.BlockScalar.{BlockScalar, LinesBetween, reach, style_of, kept_lines}
use Rattle.yf_grammar.specs.Productions.BlockScalar.BlockScalar.{block_scalar}
use Rattle.yf_grammar.specs.Productions.Meaning.{Meaning, from_to}
use Rattle.yf_grammar.specs.Productions.ReadParts.{NotedSince, floor_after_event, end_or}
use Rattle.yf_grammar.proofs.BlockOutcomes.BlockStarts.{header_later}
use Rattle.yf_grammar.proofs.Documents.CommentOrder.{scalar_ascends}
use Rattle.yf_grammar.proofs.Prefixes.PrefixEnds.{Closed, at_break, at_text}
use Rattle.yf_stream.specs.ReadingOf.{end_before}
use Rattle.yf_stream.proofs.BlankNotes.CommentNotes.{Each, no_element, one_element, each_join, each_left, each_weaker, each_both, NotedComment, guarded, since_guarded, rest_told}
use Rattle.yf_stream.proofs.BlankNotes.FloorWalk.{floor_set, end_later, end_taken}
use Rattle.yf_stream.proofs.BlankNotes.NodeNotes.{within_of, EntryNotes}
use Rattle.yf_stream.proofs.BlankNotes.ScalarNotes.{tail_end, AfterEnd, trail_notes}

-- the line after a header, and after the lines of a scalar, begins after a break, or the text ends
module _ {t : List ℕ} where
  end_next : {i j : ℕ} → BreakOrEnd t i j → Closed t j
  end_next (by_break b) = at_break b
  end_next (by_end e) = at_text e

  pub rest_next : {i j : ℕ} {x : List CommentValue} → LineRest t i j x → Closed t j
  rest_next (nothing e) = end_next e
  rest_next (whites d e) = end_next e
  rest_next (comment d c e) = end_next e

  content_next : {k i j : ℕ} {x : List ℕ} {o : Bool} → LineContent t k i j x o → Closed t j
  content_next (content s n l (line_by_break b) q) = at_break b
  content_next (content s n l (line_by_text e) q) = at_text e

  lines_next : {k i j : ℕ} {x : List (List ℕ)} {o : Bool} → Closed t i → Lines t k i j x o → Closed t j
  lines_next c no_content = c
  lines_next c (up_to m d) = content_next d

-- the sign of a header and its comment
pub record HeadNotes (t : List ℕ) (i k : ℕ) (cs : List CommentValue) : Type 0 where
  pub real : code t i < no_char
  pub solid : is_gap (code t i) ≡ false
  pub no_hash : code t i ≢ 35
  pub closed : Closed t k
  pub from : ℕ
  pub told : Each (NotedComment t from k) cs

solid_pipe : is_gap 124 ≡ false
unfolding is_gap is_white is_break_char
solid_pipe = refl

solid_more : is_gap 62 ≡ false
unfolding is_gap is_white is_break_char
solid_more = refl

-- the end of a scalar, and its comments after that
pub record BodyEnd (t : List ℕ) (e i j : ℕ) (cs : List CommentValue) : Type 0 where
  pub order : i ≤ e
  pub upto : e ≤ j
  pub notes : Each (AfterEnd t e) cs

pub lined : (b : Bool) (text : List ℕ) (f : ℕ) (p : EventInText) → floor_after_event f p (scalar_node no_props (style_of b) text) ≡ end_or f p.span
lined true text f p = refl
lined false text f p = refl

module _ {t : List ℕ} (u : IsUtf8 t) where
  trail_order : {k i j : ℕ} {x : List CommentValue} → Trail t k i j x → i ≤ j
  trail_order (comments m l s h d) = line_end_forward d.derived
  trail_order (no_comment n) = omega arith

  body_end : {n : ℤ} {h : Header} {i j e : ℕ} {b : BodyValue} → Closed t i → Body t n h i j b → LinesBetween t (reach h.chomp (length b.lines) b.tail) i e → BodyEnd t e i j b.comments
  body_end {h = h} c (indicated {count = count} q a b) d =
      let f = chain_forward (line_functional t _) (lines_chain a.lines) in
      let g = chain_forward (bare_functional t) a.tail.lines in
      let v = tail_end count h.chomp (taken_lines u a) (taken_all u a) refl f g (lines_next c a.lines) d a.tail.lines a.tail.counts in
      let o = trail_order b in
      let p = v.upto in
      record { order = v.order; upto = omega arith; notes = trail_notes u b v.upto v.first }
  body_end {h = h} c (detected {count = count} q w a b) d =
      let f = chain_forward (line_functional t _) (lines_chain a.lines) in
      let g = chain_forward (bare_functional t) a.tail.lines in
      let v = tail_end count h.chomp (taken_lines u a) (taken_all u a) refl f g (lines_next c a.lines) d a.tail.lines a.tail.counts in
      let o = trail_order b in
      let p = v.upto in
      record { order = v.order; upto = omega arith; notes = trail_notes u b v.upto v.first }
  body_end {h = h} {i = i} c (without_content {widths = widths} q m w b) d =
      let none : LinesTo t i i 0 = record { lines = []; chain = done; counts = refl } in
      let g = chain_forward (bare_functional t) m in
      let v = tail_end (length widths) h.chomp none (blanks_one m) (omega arith) (omega arith) g c d m refl in
      let o = trail_order b in
      let p = v.upto in
      record { order = v.order; upto = omega arith; notes = trail_notes u b v.upto v.first }

  head_notes : {i k : ℕ} {h : HeaderValue} → BlockHeader t i k h → HeadNotes t i k h.comments
  head_notes {i} (block_header {k = p} (literal_sign e) m r) = record {
    real = omega arith;
    solid = ap is_gap e ∙ solid_pipe;
    no_hash = λ q. omega arith;
    closed = rest_next r;
    from = p;
    told = rest_told r;
  }
  head_notes {i} (block_header {k = p} (folded_sign e) m r) = record {
    real = omega arith;
    solid = ap is_gap e ∙ solid_more;
    no_hash = λ q. omega arith;
    closed = rest_next r;
    from = p;
    told = rest_told r;
  }

  pub scalar_notes : {n : ℤ} {i j : ℕ} {x : Meaning} → BlockScalar t n i j x → EntryNotes t i j x
  unfolding from_to
  scalar_notes {n} {i} {j} (block_scalar {k = k} {e = e} {h = h} {b = b} d body l) =
      let head = head_notes d in
      let rest = body_end head.closed body l in
      let o = rest.order in
      let first = header_later d in
      let w = within_of (scalar_ascends (block_scalar d body l)) in
      let text = content_of h.header b.lines b.tail b.open_end in
      let event : EventInText = record { event = scalar_node no_props (style_of h.header.folded) text; span = Some (record { start = i; end = e }); tag_offset = None; entry = None; folded = kept_lines h.header.folded b.lines } in
      record {
        floors = one_element (floor_set (record { start = i; end = e }) refl (lined h.header.folded text) (omega arith) rest.upto) no_element;
        notes = λ f g. each_join
            (each_both (λ c v q.
            let p = q.before in
            let a = v.after in
            let away : i ≢ c.offset = λ z. head.no_hash (ap (code t) z ∙ v.sign) in
            record {
              note = subst (λ (z : ℕ). NotedSince t z c.offset c.blank_before)
                  (sym (ap (λ (z : ℕ). end_before c.offset (f c) z) (lined h.header.folded text (f c) event) ∙ end_later c.offset (f c) e (omega arith)))
                  (since_guarded {i = i + 1} u (guarded i head.real head.solid (g c) (omega arith)) (omega arith) q.note);
            }) (each_left h.comments b.comments w) head.told)
            (each_weaker (λ c q. record {
              note = subst (λ (z : ℕ). NotedSince t z c.offset c.blank_before)
                  (sym (ap (λ (z : ℕ). end_before c.offset (f c) z) (lined h.header.folded text (f c) event) ∙ end_taken c.offset (f c) e q.after)) q.note;
            }) rest.notes);
      }
