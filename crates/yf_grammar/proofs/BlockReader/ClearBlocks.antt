-- The outcomes of the reader of block nodes, whole or not, cover no forbidden line.
use Rattle.std.proofs.Common.{◌≡◌, ◌≢◌, ℕ, suc, ◌+◌, ◌<◌, ◌≤◌, ℤ, Bool, true, false, List, [], Option, Some, refl, sym, ap, ◌∙◌, subst, arith, true≢false}
use Rattle.std.proofs.lemmas.Bool.Decides.{nat_tests}
use Rattle.std.specs.Str.{IsUtf8}
use Rattle.yf_chars.specs.Text.{code}
use Rattle.yf_chars.specs.Class.{is_between, is_ns_char}
use Rattle.yf_chars.specs.Chain.{Chain, done, step}
use Rattle.yf_chars.proofs.Tests.{none_some}
use Rattle.yf_lines.specs.Basic.{Spaces, ForbiddenLine, Clear, is_marker}
use Rattle.yf_lines.proofs.BasicLemmas.{clear_join, clear_nothing, three_first, three_second, no_marker}
use Rattle.yf_lines.proofs.ClearLemmas.{not_forbidden, Quiet, quiet_nothing, quiet_join, clear_quiet, quiet_whites, clear_whites, clear_break}
use Rattle.yf_comments.specs.Comment.{CommentValue}
use Rattle.yf_comments.proofs.SeparateLemmas.{spaces_whites}
use Rattle.yf_block_scalar.specs.declared.header.Header.{Header}
use Rattle.yf_block_scalar.specs.declared.header.Chomp.{Chomp}
use Rattle.yf_block_scalar.specs.Header.{BlockHeader, HeaderValue, Digit, Sign, Indicators}
use Rattle.yf_block_scalar.specs.Header.BlockHeader.{block_header}
use Rattle.yf_block_scalar.specs.Header.Style.{literal_sign, folded_sign}
use Rattle.yf_block_scalar.specs.Header.Digit.{digit}
use Rattle.yf_block_scalar.specs.Header.Sign.{strip_sign, keep_sign}
use Rattle.yf_block_scalar.specs.Header.Indicators.{neither, digit_alone, sign_alone, digit_sign, sign_digit}
use Rattle.yf_block_scalar.specs.Body.{EmptyLines, bare, SpaceLine, Ends, by_break, by_text, LineContent, content, Line, empty_line, content_line, Lines, no_content, up_to, LinesTaken, Trail, Body, BodyValue}
use Rattle.yf_block_scalar.specs.Body.Trail.{comments, no_comment}
use Rattle.yf_block_scalar.specs.Body.Body.{indicated, detected, without_content}
use Rattle.yf_grammar.specs.Productions.BlockScalar.{BlockScalar}
use Rattle.yf_grammar.specs.Productions.BlockScalar.BlockScalar.{block_scalar}
use Rattle.yf_grammar.specs.Productions.Meaning.{Meaning}
use Rattle.yf_grammar.specs.FlowReader.Parser.{ParsedNode}
use Rattle.yf_grammar.specs.BlockReader.BlockParser.{DashAt, BlockTask, Awaited, Below, Inline, Leaf, Items, Item, Whole}
use Rattle.yf_grammar.specs.BlockReader.BlockParser as BlockParser
use Rattle.yf_grammar.specs.BlockReader.Halts.{Halts}
use Rattle.yf_grammar.specs.BlockReader.Halts as Halting
use Rattle.yf_grammar.proofs.FlowReader.ClearLemmas.{quiet_nb, quiet_byte, clear_rest, clear_comments, clear_properties, found_is_clear, clear_mark}
use Rattle.yf_grammar.proofs.BlockOutcomes.BlockClaims.{line_whites, dash_ns}
use Rattle.yf_grammar.proofs.BlockOutcomes.OutcomeEnds.{collected_end, leaf_end, item_end, lone_key_end, lone_value_end, pair_end, items_end, alone_end, told_of}
use Rattle.yf_grammar.proofs.BlockReader.WholeSound.{next_spaces}

-- a block scalar
digit_low : (c : ℕ) → is_between 49 57 c ≡ true → (33 ≤ c) × (c < 128)
unfolding is_between
digit_low c e = (grind (arith, nat_tests), grind (arith, nat_tests))

module _ {t : List ℕ} (u : IsUtf8 t) where
  digit_quiet : {i j d : ℕ} → Digit t i j d → Quiet t i j
  digit_quiet (digit {i = i} e) = let l = digit_low (code t i) e in quiet_byte u refl l.0 l.1

  sign_quiet : {i j : ℕ} {c : Chomp} → Sign t i j c → Quiet t i j
  sign_quiet (strip_sign e) = quiet_byte u e (omega arith) (omega arith)
  sign_quiet (keep_sign e) = quiet_byte u e (omega arith) (omega arith)

  marks_quiet : {i j : ℕ} {d : Option ℕ} {c : Chomp} → Indicators t i j d c → Quiet t i j
  marks_quiet (neither {i = i}) = quiet_nothing t i
  marks_quiet (digit_alone d) = digit_quiet d
  marks_quiet (sign_alone s) = sign_quiet s
  marks_quiet (digit_sign d s) = quiet_join (digit_quiet d) (sign_quiet s)
  marks_quiet (sign_digit s d) = quiet_join (sign_quiet s) (digit_quiet d)

  header_clear : {i j : ℕ} {h : HeaderValue} → BlockHeader t i j h → Clear t i j
  header_clear {i} (block_header (literal_sign e) m r) =
      clear_join (clear_quiet (not_forbidden t i (λ q. omega arith) (λ q. omega arith)) (quiet_join (quiet_byte u e (omega arith) (omega arith)) (marks_quiet m))) (clear_rest u r)
  header_clear {i} (block_header (folded_sign e) m r) =
      clear_join (clear_quiet (not_forbidden t i (λ q. omega arith) (λ q. omega arith)) (quiet_join (quiet_byte u e (omega arith) (omega arith)) (marks_quiet m))) (clear_rest u r)

  pub spaces_clear : {i m : ℕ} → Spaces t i m → Clear t i (i + m)
  spaces_clear {i} {m} s = clear_whites u (spaces_whites t i m s).1

  bare_clear : {i m j : ℕ} → SpaceLine t i m j → Clear t i j
  bare_clear l = clear_join (spaces_clear l.spaces) (clear_break l.ends)

  ends_clear : {h j : ℕ} {o : Bool} → Ends t h j o → Clear t h j
  ends_clear (by_break b) = clear_break b
  ends_clear (by_text {h = h} e) = clear_nothing t h

  content_clear : {k i j : ℕ} {x : List ℕ} {o : Bool} → LineContent t k i j x o → Clear t i j
  content_clear (content {i = i} s m l e n) =
      clear_join (clear_quiet (λ f. true≢false (sym f.marker ∙ n)) (quiet_join (quiet_whites u (spaces_whites t i _ s).1) (quiet_nb u m))) (ends_clear e)

  line_clear : {k i j : ℕ} {x : List (List ℕ)} → Line t k i j x → Clear t i j
  line_clear (empty_line s l) = bare_clear s
  line_clear (content_line c) = content_clear c

  chain_clear : {k i j : ℕ} {x : List (List ℕ)} → Chain (Line t k) i j x → Clear t i j
  chain_clear (done {i = i}) = clear_nothing t i
  chain_clear (step s c) = clear_join (line_clear s) (chain_clear c)

  bares_clear : {i j : ℕ} {x : List ℕ} → Chain (EmptyLines t) i j x → Clear t i j
  bares_clear (done {i = i}) = clear_nothing t i
  bares_clear (step (bare m s) c) = clear_join (bare_clear s) (bares_clear c)

  lines_clear : {k i j : ℕ} {ls : List (List ℕ)} {o : Bool} → Lines t k i j ls o → Clear t i j
  lines_clear (no_content {i = i}) = clear_nothing t i
  lines_clear (up_to c d) = clear_join (chain_clear c) (content_clear d)

  taken_clear : {k i j count : ℕ} {ls : List (List ℕ)} {o : Bool} → LinesTaken t k i ls o count j → Clear t i j
  taken_clear d = clear_join (lines_clear d.lines) (bares_clear d.tail.lines)

  trail_clear : {k i j : ℕ} {x : List CommentValue} → Trail t k i j x → Clear t i j
  trail_clear (comments m l a e c) = clear_comments u c.derived
  trail_clear (no_comment {i = i} n) = clear_nothing t i

  body_clear : {n : ℤ} {h : Header} {i j : ℕ} {v : BodyValue} → Body t n h i j v → Clear t i j
  body_clear (indicated e a b) = clear_join (taken_clear a) (trail_clear b)
  body_clear (detected e d a b) = clear_join (taken_clear a) (trail_clear b)
  body_clear (without_content e c d b) = clear_join (bares_clear c) (trail_clear b)

  pub scalar_clear : {n : ℤ} {i j : ℕ} {x : Meaning} → BlockScalar t n i j x → Clear t i j
  scalar_clear (block_scalar h b l) = clear_join (header_clear h) (body_clear b)

-- the offset of a task
abbrev pub place : BlockTask → ℕ
place (Awaited b n c a i) = i
place (Below n c a i) = i
place (Inline n c cols a p) = p
place (Leaf n a p) = p
place (Items s m q i) = i
place (Item s m q i) = i

pub clear_to : {t : List ℕ} {i : ℕ} (j k : ℕ) → j ≡ k → Clear t i k → Clear t i j
clear_to {t} {i} j k e c = subst (λ w. Clear t i w) (sym e) c

pub dash_clear : {t : List ℕ} {i : ℕ} → DashAt t i → Clear t i (i + 1)
dash_clear {t} {i} d = record {
  none = λ h l m f. let same : i ≡ h = omega arith in true≢false (sym (subst (λ k. ForbiddenLine t k) (sym same) f).marker ∙ none);
} where
  second : code t (i + 1) ≢ 45
  second e = true≢false (sym (ap is_ns_char e ∙ dash_ns) ∙ d.follows)

  none : is_marker t i ≡ false
  none = no_marker t i (three_second t i 45 d.dash second) (three_first t i 46 (λ e. let z = d.dash in absurd (omega arith)))

module _ {t : List ℕ} (u : IsUtf8 t) where
  pub whole_clear : {e : ℕ} {task : BlockTask} {o : Option ParsedNode} {f : ParsedNode} → Whole t e task o → o ≡ Some f → Clear t (place task) f.end
  whole_clear (BlockParser.awaited_below d r) e = whole_clear r e
  whole_clear (BlockParser.awaited_inline d m l w g r) e = clear_join (clear_whites u m) (whole_clear r e)
  whole_clear (BlockParser.awaited_missed d w) e = absurd (none_some e)
  whole_clear {f = v} (BlockParser.below_alone {k = k} {a = a} {ds = ds} d n) e = clear_to v.end k (alone_end a k ds e) (clear_comments u d.derived)
  whole_clear {f = v} (BlockParser.below_node {a = a} {ds = ds} {o = o} d w b g r) e =
      let y = told_of a ds o e in
      let z = y.inner in
      clear_to v.end z.end y.end (clear_join (clear_comments u d.derived) (clear_join (clear_whites u (line_whites w).1) (whole_clear r y.is)))
  whole_clear (BlockParser.below_missed d) e = absurd (none_some e)
  whole_clear {f = v} (BlockParser.sequence_read {p = p} {a = a} {f = f} q d r) e = clear_to v.end f.end (collected_end a true p f e) (whole_clear r refl)
  whole_clear (BlockParser.sequence_missed q d r) e = absurd (none_some e)
  whole_clear (BlockParser.sequence_too_deep q d) e = absurd (none_some e)
  whole_clear {f = v} (BlockParser.mapping_read {p = p} {a = a} {f = f} n q d r) e = clear_to v.end f.end (collected_end a false p f e) (whole_clear r refl)
  whole_clear (BlockParser.mapping_missed n q d r) e = absurd (none_some e)
  whole_clear (BlockParser.mapping_too_deep n q d) e = absurd (none_some e)
  whole_clear (BlockParser.properties_below n p d j r) e = clear_join (clear_properties u p.derived) (whole_clear r e)
  whole_clear (BlockParser.properties_leaf n q p d m l w j r) e = clear_join (clear_properties u p.derived) (clear_join (clear_whites u m) (whole_clear r e))
  whole_clear (BlockParser.properties_alone_missed n q p d w) e = absurd (none_some e)
  whole_clear (BlockParser.properties_apart_below n p d a) e = absurd (none_some e)
  whole_clear (BlockParser.properties_apart n q p d a) e = absurd (none_some e)
  whole_clear (BlockParser.leaf_there n q p r) e = whole_clear r e
  whole_clear {f = v} (BlockParser.scalar_read {j = j} {a = a} {x = x} d) e = clear_to v.end j (leaf_end a j 0 x [] e) (scalar_clear u d.derived)
  whole_clear {f = v} (BlockParser.leaf_read {j = j} {a = a} {ds = ds} {f = f} s m r d) e =
      clear_to v.end j (leaf_end a j f.height f.meaning ds e) (clear_join (found_is_clear u r) (clear_comments u d.derived))
  whole_clear (BlockParser.leaf_unended s m r d) e = absurd (none_some e)
  whole_clear (BlockParser.leaf_missed s m r) e = absurd (none_some e)
  whole_clear (BlockParser.leaf_refused s m) e = absurd (none_some e)
  whole_clear (BlockParser.items_missed r) e = absurd (none_some e)
  whole_clear (BlockParser.items_last r n) e = whole_clear r e
  whole_clear (BlockParser.items_deeper r n) e = absurd (none_some e)
  whole_clear {f = v} (BlockParser.items_then {f = f} {g = g} r n s) e =
      clear_to v.end g.end (items_end f g e) (clear_join (whole_clear r refl) (clear_join (spaces_clear u (next_spaces n)) (whole_clear s refl)))
  whole_clear (BlockParser.items_then_missed r n s) e = absurd (none_some e)
  whole_clear {f = v} (BlockParser.item_read {i = i} {f = f} d r) e = clear_to v.end f.end (item_end i f e) (clear_join (dash_clear d) (whole_clear r refl))
  whole_clear (BlockParser.item_missed d r) e = absurd (none_some e)
  whole_clear (BlockParser.item_undashed d) e = absurd (none_some e)
  whole_clear (BlockParser.question_missed s r) e = absurd (none_some e)
  whole_clear {f = v} (BlockParser.question_alone {i = i} {f = f} s r n) e = clear_to v.end f.end (lone_key_end i f e) (clear_join (clear_mark s.sign_is_at (λ q. omega arith) (λ q. omega arith)) (whole_clear r refl))
  whole_clear {f = v} (BlockParser.question_and_value {m = m} {i = i} {f = f} {g = g} s r c z) e =
      clear_to v.end g.end (pair_end i (f.end + m) f g e)
      (clear_join (clear_mark s.sign_is_at (λ q. omega arith) (λ q. omega arith)) (clear_join (whole_clear r refl) (clear_join (spaces_clear u c.indent)
      (clear_join (clear_mark c.colon (λ q. omega arith) (λ q. omega arith)) (whole_clear z refl)))))
  whole_clear (BlockParser.question_value_missed s r c v) e = absurd (none_some e)
  whole_clear {f = v} (BlockParser.colon_read {i = i} {f = f} s r) e = clear_to v.end f.end (lone_value_end i f e) (clear_join (clear_mark s.sign_is_at (λ q. omega arith) (λ q. omega arith)) (whole_clear r refl))
  whole_clear (BlockParser.colon_missed s r) e = absurd (none_some e)
  whole_clear {f = v} (BlockParser.key_read {i = i} {k = k} {f = f} {g = g} a b p l d r) e =
      clear_to v.end g.end (pair_end i k f g e)
      (clear_join (found_is_clear u p) (clear_join (clear_whites u d.run) (clear_join (clear_mark d.colon.sign_is_at (λ q. omega arith) (λ q. omega arith)) (whole_clear r refl))))
  whole_clear (BlockParser.key_value_missed a b p l d r) e = absurd (none_some e)
  whole_clear (BlockParser.no_key a b k) e = absurd (none_some e)
  whole_clear (BlockParser.key_too_deep a b p l d) e = absurd (none_some e)
