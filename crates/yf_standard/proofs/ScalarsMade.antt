-- Block scalars (8.1): from the relations of `Header` and `Body` to the standard's productions.
use Rattle.std.proofs.Common.{◌≡◌, ◌≢◌, ℕ, zero, suc, ◌+◌, ◌-◌, ◌<◌, ◌≤◌, ℤ, pos, max, Bool, true, false, true≢false, ◌<ℤ◌, List, [], ◌∷◌, ◌++◌, length, Option, Some, None, leb, refl, sym, ap, ◌∙◌, subst, ◌⊎◌, inl, inr, ⊎_elim, arith}
use Rattle.std.proofs.lemmas.Bool.{cases_lt, and_parts, eq-eqb, leb-true}
use Rattle.std.proofs.lemmas.Int.{ints}
use Rattle.yf_chars.specs.declared.context.Ctx.TheVariants.{BlockIn}
use Rattle.yf_chars.specs.Text.{code, next, no_char}
use Rattle.yf_chars.specs.Class.{is_nb_char, is_white, is_between}
use Rattle.yf_chars.specs.Chain.{Chain, Many, Stuck, Chosen}
use Rattle.yf_chars.specs.Chain.Chain.{done, step}
use Rattle.yf_chars.specs.Chain.One.{one}
use Rattle.yf_lines.specs.Basic.{LineStart, Spaces, SeparateInLine}
use Rattle.yf_lines.specs.Basic.SeparateInLine.{by_whites, at_start}
use Rattle.yf_comments.specs.Comment.{CommentValue}
use Rattle.yf_comments.specs.Comments.{CommentText, BreakOrEnd, LineRest, CommentLine, LineEnd, Row}
use Rattle.yf_comments.specs.Comments.BreakOrEnd.{by_break, by_end}
use Rattle.yf_comments.specs.Comments.LineRest.{nothing as empty_rest, whites, comment}
use Rattle.yf_comments.specs.Comments.LineEnd.{past_rest, from_start}
use Rattle.yf_comments.specs.Comments.CommentText.{comment_text}
use Rattle.yf_lines.specs.Basic.IndentLess.{fewer}
use Rattle.yf_block_scalar.specs.declared.header.Header.{Header}
use Rattle.yf_block_scalar.specs.Header.{HeaderValue}
use Rattle.yf_block_scalar.specs.Header.BlockHeader.{block_header}
use Rattle.yf_block_scalar.specs.Body.{Body, BodyValue}
use Rattle.yf_block_scalar.specs.Body.LineContent.{content}
use Rattle.yf_block_scalar.specs.Body.Body.{indicated, detected, without_content as body_without_content}
use Rattle.yf_grammar.specs.Productions.Meaning.{Meaning}
use Rattle.yf_grammar.specs.Productions.BlockScalar.{BlockScalar}
use Rattle.yf_grammar.specs.Productions.BlockScalar.BlockScalar.{block_scalar}
use Rattle.yf_block_scalar.specs.declared.header.Chomp.{Chomp}
use Rattle.yf_block_scalar.specs.declared.header.Chomp.TheVariants.{Strip, Clip, Keep}
use Rattle.yf_block_scalar.specs.Header.{Digit, Sign, Indicators, BlockHeader}
use Rattle.yf_block_scalar.specs.Header.Style.{literal_sign, folded_sign}
use Rattle.yf_block_scalar.specs.Header.Digit.{digit}
use Rattle.yf_block_scalar.specs.Header.Sign.{strip_sign, keep_sign}
use Rattle.yf_block_scalar.specs.Header.Indicators.{neither, digit_alone, sign_alone, digit_sign, sign_digit}
use Rattle.yf_block_scalar.specs.Body.{base, least, largest, EmptyLines, Ends, LineContent, Line, Lines, LinesTaken, MarkerLine, Shallow, Trail}
use Rattle.yf_block_scalar.specs.Body.EmptyLines.{bare}
use Rattle.yf_block_scalar.specs.Body.Ends.{by_break as ends_by_break, by_text}
use Rattle.yf_block_scalar.specs.Body.Line.{empty_line, content_line}
use Rattle.yf_block_scalar.specs.Body.Lines.{no_content, up_to}
use Rattle.yf_block_scalar.specs.Body.MarkerLine.{marker_here, past_mark}
use Rattle.yf_block_scalar.specs.Body.Shallow.{missing, left_of, forbidden}
use Rattle.yf_block_scalar.specs.Body.Trail.{comments, no_comment}
use Rattle.yf_standard.specs.Characters.{x, ◌to◌, s-space, c-literal, c-folded}
use Rattle.yf_standard.specs.Notation.{Form, Chomping, Indicator}
use Rattle.yf_standard.specs.Notation.Chomping.{STRIP, CLIP, KEEP}
use Rattle.yf_standard.specs.Notation.Indicator.{GIVEN, DETECTED}
use Rattle.yf_standard.specs.Notation.Condition.{no-trail, auto-detect, is-sum}
use Rattle.yf_standard.specs.Notation.Form.{‹◌›, ◌∣◌, ◌⋆, ⟨◌⟩, some-m, some-k, ◌∙◌ as ◌then◌, s-indent-less-or-equal, b-as-line-feed, b-non-content, l-empty, l-comment, c-b-block-header, c-indentation-indicator, c-chomping-indicator, b-chomped-last, l-chomped-empty, l-trail-comments, c-l+literal, l-nb-literal-text, b-nb-literal-next, l-literal-content, c-l+folded, l-folded-content}
use Rattle.yf_standard.specs.Productions.{rule, digit-of, some-t}
use Rattle.yf_standard.specs.Rules.{read, NoLine, NoCommentLine}
use Rattle.yf_standard.specs.Rules.AutoDetect.{by_first_line, without_content}
use Rattle.yf_standard.specs.Literal.{kind}
use Rattle.yf_standard.specs.Literal.Derived.{by_rule, nothing, one_of, one_then, in_left, in_right, absent, present, no_more, one_more, where_holds, for_some_m, for_some_k}
use Rattle.yf_standard.proofs.BasicsMade.{Read, one_char, many_made, some_chars_made, feed_made, non_content_made, empty_made, indent_made, comment_made, b_comment_made, l_comment_made, rest_made, fewer_made}
use Rattle.yf_standard.proofs.Sets.{nb_char_is}
use Rattle.yf_standard.proofs.FoldedMade.{grouped, lead_made, after_lines}
use Rattle.yf_standard.proofs.Texts.{Empties, Texts, lines_texts, bare_empties}
use Rattle.yf_standard.proofs.Texts.Texts.{last_text, more_texts}
use Rattle.yf_chars.proofs.TextLemmas.{next_ascii, code-past, within_from_code}
use Rattle.yf_chars.proofs.ChainLemmas.{chain_append}
use Rattle.yf_lines.proofs.BasicLemmas.{break_char, break_forward, white_below}
use Rattle.yf_comments.proofs.GapLinesLemmas.{spaces_in_line}
use Rattle.yf_comments.proofs.LineEndLemmas.{line_end_rows, rows_lines, rows_ended, rest_next, next_starts}
use Rattle.yf_block_scalar.proofs.BodyLemmas.{spaces_unique, shallow_stuck, taken_starts}
use Rattle.yf_lines.proofs.ClearLemmas.{marker_char}
use Rattle.yf_chars.proofs.CharFacts.{hash_no_white}
use Rattle.yf_lines.proofs.FoldLemmas.{indent_width}
use Rattle.yf_grammar.proofs.FlowReader.OneLine.{text_later}

-- the standard's words for a chomping and for an indicator
abbrev pub chomping : Chomp → Chomping
chomping Strip = STRIP
chomping Clip = CLIP
chomping Keep = KEEP

abbrev pub indicator : Option ℕ → Indicator
indicator (Some d) = GIVEN d
indicator None = DETECTED

-- [163] and [164]
digit_set : (c : ℕ) → is_between 49 57 c ≡ true → digit-of (c - 48) c ≡ true
unfolding digit-of is_between ◌to◌
digit_set c e =
    let l : 49 ≤ c = leb-true _ _ (and_parts (leb 49 c) (leb c 57) e).0 in
    let q : c ≡ 48 + (c - 48) = omega (arith, l) in rw (e, eq-eqb c (48 + (c - 48)) q) refl

digit_below : (c : ℕ) → is_between 49 57 c ≡ true → c < 128
unfolding is_between
digit_below c e =
    let l : c ≤ 57 = leb-true _ _ (and_parts (leb 49 c) (leb c 57) e).1 in omega (arith, l)

digit_made : {room : ℕ} {t : List ℕ} {i j d : ℕ} → Digit t i j d → Read t room (c-indentation-indicator (GIVEN d)) i j
unfolding rule kind
digit_made {room = room} {t = t} (digit {i = i} e) =
    subst (λ z. Read t room (c-indentation-indicator (GIVEN (code t i - 48))) i z) (next_ascii t i (digit_below (code t i) e)) (by_rule refl (one_of (digit_set (code t i) e)))

sign_made : {room : ℕ} {t : List ℕ} {i j : ℕ} {c : Chomp} → Sign t i j c → Read t room (c-chomping-indicator (chomping c)) i j
unfolding rule kind
sign_made {t = t} (strip_sign {i = i} e) = by_rule refl (one_char t i 45 (omega arith) e)
sign_made {t = t} (keep_sign {i = i} e) = by_rule refl (one_char t i 43 (omega arith) e)

-- [162]
header_made : {room : ℕ} {t : List ℕ} {i k j : ℕ} {d : Option ℕ} {c : Chomp} {w : List CommentValue} → Indicators t i k d c → LineRest t k j w
    → Read t room (c-b-block-header (indicator d) (chomping c)) i j
unfolding rule kind
header_made neither r = by_rule refl (one_then (in_left (one_then (by_rule refl nothing) (by_rule refl nothing))) (rest_made r))
header_made (digit_alone d) r = by_rule refl (one_then (in_left (one_then (digit_made d) (by_rule refl nothing))) (rest_made r))
header_made (sign_alone s) r = by_rule refl (one_then (in_left (one_then (by_rule refl nothing) (sign_made s))) (rest_made r))
header_made (digit_sign d s) r = by_rule refl (one_then (in_left (one_then (digit_made d) (sign_made s))) (rest_made r))
header_made (sign_digit s d) r = by_rule refl (one_then (in_right (one_then (sign_made s) (digit_made d))) (rest_made r))

-- [171] to [173]
empties_made : {room : ℕ} {t : List ℕ} {k i j : ℕ} → Empties t k i j → Read t room (l-empty (pos k) BlockIn ⋆) i j
empties_made e = many_made empty_made e.1

-- a line of text after empty lines
pub record LineForm (t : List ℕ) (room k : ℕ) (line further : Form) : Type 0 where
  pub text : {i a j : ℕ} {w : List ℕ} → Empties t k i a → Spaces t a k → Many t is_nb_char (a + k) j w → a + k < j → Read t room line i j
  pub next : {i j : ℕ} → Read t room (b-as-line-feed then line) i j → Read t room further i j

pub record TextsMade (t : List ℕ) (room : ℕ) (line further : Form) (i j : ℕ) : Type 0 where
  pub end : ℕ
  pub first : Read t room line i end
  pub rest : Read t room (further ⋆) end j

texts_made : {t : List ℕ} {room k i j : ℕ} {line further : Form} → LineForm t room k line further → Texts t k i j → TextsMade t room line further i j
texts_made {j = j} f (last_text e s m l) = record { end = j; first = f.text e s m l; rest = no_more }
texts_made f (more_texts {h = h} e s m l br r) = let d = texts_made f r in record { end = h; first = f.text e s m l; rest = one_more (f.next (one_then (feed_made br) d.first)) d.rest }

literal_form : (t : List ℕ) (room k : ℕ) → LineForm t room k (l-nb-literal-text (pos k)) (b-nb-literal-next (pos k))
unfolding rule kind
literal_form t room k = record {
  text = λ {i} {a} e s m l. by_rule refl (one_then (empties_made e) (one_then (indent_made t a k s) (some_chars_made nb_char_is m l)));
  next = λ d. by_rule refl d;
}

-- [165]
last_made : {room : ℕ} {t : List ℕ} {i j : ℕ} {o : Bool} (c : Chomp) → Ends t i j o → Read t room (b-chomped-last (chomping c)) i j
unfolding rule kind read
last_made Strip (ends_by_break b) = by_rule refl (in_left (non_content_made b))
last_made Clip (ends_by_break b) = by_rule refl (in_left (feed_made b))
last_made Keep (ends_by_break b) = by_rule refl (in_left (feed_made b))
last_made Strip (by_text e) = by_rule refl (in_right (where_holds e))
last_made Clip (by_text e) = by_rule refl (in_right (where_holds e))
last_made Keep (by_text e) = by_rule refl (in_right (where_holds e))

-- [65]
up_to_made : {room : ℕ} (t : List ℕ) (i k m : ℕ) → m ≤ k → Spaces t i m → Read t room (s-indent-less-or-equal (pos k)) i (i + m)
unfolding rule kind s-space
up_to_made {room = room} t i zero m l s = let q : i ≡ i + m = omega arith in subst (λ z. Read t room (s-indent-less-or-equal (pos 0)) i z) q (by_rule refl nothing)
up_to_made {room = room} t i (suc k) zero l s = let q : i ≡ i + 0 = omega arith in subst (λ z. Read t room (s-indent-less-or-equal (pos (suc k))) i z) q (by_rule refl (in_right nothing))
up_to_made {room = room} t i (suc k) (suc m) l s =
    let q : i + 1 + m ≡ i + suc m = omega arith in
    let a : i ≡ i + 0 = omega arith in
    let r : Spaces t (i + 1) m = record { each = λ d b. let z : (i + 1) + d ≡ i + suc d = omega arith in ap (code t) z ∙ s.each (suc d) (omega arith) } in
    subst (λ z. Read t room (s-indent-less-or-equal (pos (suc k))) i z) q
    (by_rule refl (in_left (one_then (one_char t i 32 (omega arith) (ap (code t) a ∙ s.each 0 (omega arith))) (up_to_made t (i + 1) k m (omega arith) r))))

-- [166] to [168]
tail_lines : {t : List ℕ} {room k i j : ℕ} {widths : List ℕ} → Chain (EmptyLines t) i j widths → largest widths ≤ k → Read t room ((s-indent-less-or-equal (pos k) then b-non-content) ⋆) i j
tail_lines done l = no_more
tail_lines {t} {room} {k} {i} (step (bare m s) r) l =
    one_more (one_then (up_to_made t i k m (omega (arith, l)) s.spaces) (non_content_made s.ends)) (tail_lines r (omega (arith, l)))

ending_made : {room : ℕ} {t : List ℕ} {k i p j : ℕ} {widths : List ℕ} (c : Chomp) → Chain (EmptyLines t) i p widths → largest widths ≤ k → Stuck (Line t k p)
    → Read t room (l-trail-comments (pos k) ∣ ⟨ no-trail (pos k) ⟩) p j → Read t room (l-chomped-empty (pos k) (chomping c)) i j
unfolding rule kind read
ending_made {room = room} {t = t} {k = k} {i = i} {p = p} {j = j} c w l n d = go c where
  none : NoLine t (pos k) p
  none = record { none = λ m e. subst (λ z. Stuck (Line t z p)) (indent_width e) n }

  go : (c : Chomp) → Read t room (l-chomped-empty (pos k) (chomping c)) i j
  go Strip = by_rule refl (by_rule refl (one_then (tail_lines w l) (one_then (where_holds none) d)))
  go Clip = by_rule refl (by_rule refl (one_then (tail_lines w l) (one_then (where_holds none) d)))
  go Keep = by_rule refl (by_rule refl (one_then (empties_made (bare_empties k w l)) (one_then (where_holds none) d)))

-- [173] and [182]
literal_content : {room : ℕ} {t : List ℕ} {k i p j count : ℕ} {ls : List (List ℕ)} {o : Bool} (c : Chomp) → LinesTaken t k i ls o count p
    → Read t room (l-trail-comments (pos k) ∣ ⟨ no-trail (pos k) ⟩) p j → Read t room (l-literal-content (pos k) (chomping c)) i j
unfolding rule kind
literal_content {room = room} {t = t} {k = k} {i = i} {p = p} {j = j} c a d = go a.lines (ending_made c a.tail.lines a.tail.within a.most d) where
  go : {e : ℕ} {ls : List (List ℕ)} {o : Bool} → Lines t k i e ls o → Read t room (l-chomped-empty (pos k) (chomping c)) e j → Read t room (l-literal-content (pos k) (chomping c)) i j
  go no_content r = by_rule refl (one_then absent r)
  go (up_to b q) r =
      let z = lines_texts b q in
      let m = texts_made (literal_form t room k) z.1.0 in
      by_rule refl (one_then (present (one_then m.first (one_then m.rest (last_made c z.1.1)))) r)

folded_content : {room : ℕ} {t : List ℕ} {k i p j count : ℕ} {ls : List (List ℕ)} {o : Bool} (c : Chomp) → LinesTaken t k i ls o count p
    → Read t room (l-trail-comments (pos k) ∣ ⟨ no-trail (pos k) ⟩) p j → Read t room (l-folded-content (pos k) (chomping c)) i j
unfolding rule kind
folded_content {room = room} {t = t} {k = k} {i = i} {p = p} {j = j} c a d = go a.lines a.tail.lines (ending_made c a.tail.lines a.tail.within a.most d) where
  go : {e : ℕ} {ls : List (List ℕ)} {o : Bool} → Lines t k i e ls o → Chain (EmptyLines t) e p a.tail.widths → Read t room (l-chomped-empty (pos k) (chomping c)) e j
      → Read t room (l-folded-content (pos k) (chomping c)) i j
  go no_content w r = by_rule refl (one_then absent r)
  go (up_to b q) w r =
      let z = lines_texts b q in
      let g = grouped {room = room} z.1.0 (after_lines z.1.1 w a.tail.within a.most) in
      by_rule refl (one_then (present (one_then (by_rule refl (one_then (lead_made g.empties g.lead) g.rest)) (last_made c z.1.1))) r)

-- the spaces before a comment, as in any separation before it
pub white_all : {t : List ℕ} {i j : ℕ} {w : List ℕ} (h : ℕ) → Many t is_white i j w → i ≤ h → h < j → is_white (code t h) ≡ true
white_all h done l m = absurd (omega arith)
white_all {t} {i} h (step (one e) r) l m =
    let q : next t i ≡ i + 1 = next_ascii t i (white_below (code t i) e) in
    ⊎_elim (λ (a : i < h). white_all h r (omega (arith, q, a)) m) (λ (b : h ≤ i). let z : i ≡ h = omega arith in ap (λ z. is_white (code t z)) (sym z) ∙ e) (cases_lt i h)

pub separated_within : {t : List ℕ} {i q : ℕ} (m : ℕ) → SeparateInLine t i q → code t (i + m) ≡ 35 → (i ≤ q) × (q ≤ i + m)
separated_within {t} {i} {q} m (by_whites w l) e =
    ⊎_elim (λ (b : i + m < q). let a : is_white (code t (i + m)) ≡ true = white_all (i + m) w (omega arith) b in absurd (true≢false (sym a ∙ ap is_white e ∙ hash_no_white)))
    (λ (b : q ≤ i + m). (omega arith, b)) (cases_lt (i + m) q)
separated_within m (at_start s) e = (omega arith, omega arith)

pub space_or_hash : {t : List ℕ} {i m q : ℕ} → Spaces t i m → code t (i + m) ≡ 35 → i ≤ q → q ≤ i + m → (code t q ≡ 32) ⊎ (q ≡ i + m)
space_or_hash {t} {i} {m} {q} s e a b =
    ⊎_elim (λ (l : q < i + m). let z : i + (q - i) ≡ q = omega arith in inl (sym (ap (code t) z) ∙ s.each (q - i) (omega arith))) (λ (l : i + m ≤ q). inr (omega arith)) (cases_lt q (i + m))

pub no_break_or_end : {t : List ℕ} {q h : ℕ} → (code t q ≡ 32) ⊎ (code t q ≡ 35) → BreakOrEnd t q h → ⊥
no_break_or_end {t} {q} c (by_break b) = ⊎_elim (λ h. ⊎_elim (λ x. absurd (omega arith)) (λ x. absurd (omega arith)) c) (λ h. ⊎_elim (λ x. absurd (omega arith)) (λ x. absurd (omega arith)) c) (break_char b)
no_break_or_end {t} {q} c (by_end e) = let z : code t q ≡ no_char = code-past t q (omega (arith, e)) in ⊎_elim (λ x. absurd (omega arith)) (λ x. absurd (omega arith)) c

pub code_there : {t : List ℕ} {i m q : ℕ} → Spaces t i m → code t (i + m) ≡ 35 → i ≤ q → q ≤ i + m → (code t q ≡ 32) ⊎ (code t q ≡ 35)
code_there {t} s e a b = ⊎_elim (λ c. inl c) (λ q. inr (ap (code t) q ∙ e)) (space_or_hash s e a b)

-- the comment of a rest of a line that begins with spaces and a #
pub record HashRest (t : List ℕ) (i j : ℕ) : Type 0 where
  pub end : ℕ
  pub text : List CommentValue
  pub comment : CommentText t i end text
  pub ends : BreakOrEnd t end j

pub hash_rest : {t : List ℕ} {i m j : ℕ} {w : List CommentValue} → Spaces t i m → code t (i + m) ≡ 35 → LineRest t i j w → HashRest t (i + m) j
hash_rest s e (empty_rest b) = absurd (no_break_or_end (code_there s e (omega arith) (omega arith)) b)
hash_rest {m = m} s e (whites d b) = let l = separated_within m d e in absurd (no_break_or_end (code_there s e l.0 l.1) b)
hash_rest {t} {i} {m} {j} s e (comment {h = q} {k = k} {x = w} d c b) =
    let l = separated_within m d e in
    let hash : code t q ≡ 35 = starts c in
    let at : q ≡ i + m = ⊎_elim (λ (z : code t q ≡ 32). absurd (omega arith)) (λ (z : q ≡ i + m). z) (space_or_hash s e l.0 l.1) in
    record { end = k; text = w; comment = subst (λ z. CommentText t z k w) at c; ends = b }
  where
    starts : {q k : ℕ} {w : List CommentValue} → CommentText t q k w → code t q ≡ 35
    starts (comment_text e m n) = e

pub spaces_separated : {t : List ℕ} {i m : ℕ} → (i < length t → LineStart t i) → Spaces t i m → code t (i + m) ≡ 35 → SeparateInLine t i (i + m)
spaces_separated {t} {i} {m} f s e =
    let l : i + m < length t = within_from_code t (i + m) (omega arith) in spaces_in_line m i (f (omega arith)) s

pub end_later : {t : List ℕ} {i j : ℕ} → BreakOrEnd t i j → i ≤ j
end_later (by_break b) = let a = break_forward b in omega (arith, a)
end_later (by_end e) = omega arith

line_end_more : {t : List ℕ} {i j k : ℕ} {w v : List CommentValue} → LineEnd t i j w → CommentLine t j k v → (y : List CommentValue) × LineEnd t i k y
line_end_more (past_rest r c) l = (_, past_rest r (chain_append c (step l done)))
line_end_more (from_start s c) l = (_, from_start s (chain_append c (step l done)))

-- [169]
pub trail_made : {room : ℕ} {t : List ℕ} {k i j : ℕ} {w : List CommentValue} → (i < length t → LineStart t i) → Trail t k i j w
    → Read t room (l-trail-comments (pos k) ∣ ⟨ no-trail (pos k) ⟩) i j
unfolding rule kind read
trail_made {t = t} {k = k} {i = i} f (no_comment n) = in_right (where_holds (record { none = λ q m h j w e l s c b. n m (subst (λ z. m < z) (sym (indent_width e)) l) s (hash_of c) })) where
  hash_of : {q h : ℕ} {w : List CommentValue} → CommentText t q h w → code t q ≡ 35
  hash_of (comment_text e m n) = e
trail_made {room = room} {t = t} {k = k} {i = i} f (comments {j = j} {x = w} m l s e ch) = go (line_end_rows ch.derived) ch where
  hash_in : {q h : ℕ} {w : List CommentValue} → CommentText t q h w → code t q ≡ 35
  hash_in (comment_text e m n) = e

  no_further : {j : ℕ} {w : List CommentValue} → Chosen (LineEnd t i) j w → NoCommentLine t j
  no_further c = record { none = λ h v d b. let a = line_end_more c.derived d in let z = c.longest h a.0 a.1 in omega (arith, z, b) }

  chain_of : {h j : ℕ} {v : List CommentValue} → LineStart t h ⊎ (h ≡ length t) → Chain (Row t) h j v → Read t room (l-comment ⋆) h j
  chain_of (inl s) c = many_made l_comment_made (rows_lines s c)
  chain_of {h} {j} (inr q) c = let a = rows_ended c q in subst (λ z. Read t room (l-comment ⋆) h z) a.0 no_more

  go : {j : ℕ} {w : List CommentValue} → Chain (Row t) i j w → Chosen (LineEnd t i) j w → Read t room (l-trail-comments (pos k) ∣ ⟨ no-trail (pos k) ⟩) i j
  go done c = in_right (where_holds (record {
    none = λ q d h j v z b p o x.
        let hash : code t (i + d) ≡ 35 = hash_in o in
        let le : j ≤ i = c.longest j (v ++ []) (past_rest (comment (spaces_separated f p hash) o x) done) in
        let a = text_later o in let y = end_later x in omega (arith, le, a, y);
  }))
  go (step {h = h} r d) c =
      let a = hash_rest s e r.rest in
      let q : pos m <ℤ pos k = omega (arith, ints, l) in
      in_left (by_rule refl (one_then (fewer_made (fewer m q s)) (one_then (comment_made a.comment) (one_then (b_comment_made a.ends) (one_then (chain_of (rest_next r.rest) d) (where_holds (no_further c)))))))

-- if the indentation is large enough, no line is taken after the lines that have only spaces, and the comment lines
-- after them don't change
record Past (t : List ℕ) (n : ℤ) (i : ℕ) : Type 0 where
  bound : ℕ
  none : (k : ℕ) → bound < k → least n ≤ k → Stuck (Line t k i)

no_content_at : {t : List ℕ} {k i j m : ℕ} {w : List ℕ} {o : Bool} → code t (i + m) ≢ 32 → m < k → LineContent t k i j w o → ⊥
no_content_at {m = m} n l (content s d w e q) = n (s.each m l)

bare_only : {t : List ℕ} {n : ℤ} {i k : ℕ} → Shallow t n i → ((j : ℕ) (w : List ℕ) (o : Bool) → LineContent t k i j w o → ⊥) → Stuck (Line t k i)
bare_only {t} {n} {i} {k} h f = record { none = λ j w d. no d } where
  no : {j : ℕ} {w : List (List ℕ)} → Line t k i j w → ⊥
  no {j} (empty_line {m = m} s l) = (shallow_stuck h).none j (m ∷ []) (bare m s)
  no {j} (content_line {x = w} {o = o} c) = f j w o c

mark_no_space : {t : List ℕ} {i : ℕ} → MarkerLine t i → code t (i + 0) ≢ 32
mark_no_space {t} {i} (marker_here e) z =
    let q : i + 0 ≡ i = omega arith in let y : code t i ≡ 32 = sym (ap (code t) q) ∙ z in
    ⊎_elim (λ (a : code t i ≡ 45). absurd (omega arith)) (λ (a : code t i ≡ 46). absurd (omega arith)) (marker_char t i e)
mark_no_space {t} {i} (past_mark e l) z = let q : i + 0 ≡ i = omega arith in let y : code t i ≡ 32 = sym (ap (code t) q) ∙ z in absurd (omega arith)

shallow_past : {t : List ℕ} {n : ℤ} {i : ℕ} → Shallow t n i → Past t n i
shallow_past {t} {n} {i} (missing m s e) =
    let q : code t (i + m) ≡ no_char = code-past t (i + m) (omega (arith, e)) in
    record { bound = m; none = λ k l d. bare_only {n = n} (missing m s e) (λ j w o c. no_content_at {m = m} (λ z. absurd (omega arith)) l c) }
shallow_past {t} {n} {i} (left_of m s o l) = record { bound = m; none = λ k b d. bare_only {n = n} (left_of m s o l) (λ j w p c. no_content_at {m = m} o.no_space b c) }
shallow_past {t} {n} {i} (forbidden l) = record { bound = 0; none = λ k b d. bare_only {n = n} (forbidden l) (λ j w o c. no_content_at {m = 0} (mark_no_space l) b c) }

mark_no_hash : {t : List ℕ} {i m : ℕ} → MarkerLine t i → Spaces t i m → code t (i + m) ≢ 35
mark_no_hash {t} {i} {m} l s z = ⊎_elim (λ (b : 0 < m). mark_no_space l (s.each 0 b)) (λ (b : m ≤ 0). let q : i + m ≡ i = omega arith in first l (sym (ap (code t) q) ∙ z)) (cases_lt 0 m) where
  first : {i : ℕ} → MarkerLine t i → code t i ≢ 35
  first {i} (marker_here e) z = ⊎_elim (λ (a : code t i ≡ 45). absurd (omega arith)) (λ (a : code t i ≡ 46). absurd (omega arith)) (marker_char t i e)
  first {i} (past_mark e l) z = absurd (omega arith)

pub hash_shallow : {t : List ℕ} {n : ℤ} {i m : ℕ} → Shallow t n i → Spaces t i m → code t (i + m) ≡ 35 → m < least n
hash_shallow {t} {n} {i} {m} (missing d s e) p h =
    let q : code t (i + d) ≡ no_char = code-past t (i + d) (omega (arith, e)) in
    let z : m ≡ d = spaces_unique p (λ w. absurd (omega arith)) s (λ w. absurd (omega arith)) in
    let y : code t (i + m) ≡ no_char = ap (λ z. code t (i + z)) z ∙ q in absurd (omega arith)
hash_shallow {t} {n} {i} {m} (left_of d s o l) p h = let z : m ≡ d = spaces_unique p (λ w. absurd (omega arith)) s o.no_space in omega (arith, z, l)
hash_shallow {t} {n} {i} {m} (forbidden l) p h = absurd (mark_no_hash l p h)

deeper_trail : {t : List ℕ} {n : ℤ} {k i j : ℕ} {w : List CommentValue} → Shallow t n i → least n ≤ k → Trail t (least n) i j w → Trail t k i j w
deeper_trail h l (comments m b s e c) = comments m (omega (arith, l, b)) s e c
deeper_trail h l (no_comment f) = no_comment (λ m b s e. f m (hash_shallow h s e) s e)

-- [170] and [174], over their content
abbrev pub OneOf : (ℕ → Bool) → (ℤ → Chomping → Form) → ℤ → Chomping → Form
OneOf s f n t = some-k λ k. ‹ s › then (some-m (λ m. c-b-block-header (GIVEN m) t then ⟨ is-sum n m k ⟩) ∣ c-b-block-header DETECTED t then ⟨ auto-detect n k ⟩) then f k t

abbrev pub Whole : (ℕ → Bool) → (ℤ → Chomping → Form) → ℤ → Form
Whole s f n = some-t (OneOf s f n)

for_chomp : {room : ℕ} {t : List ℕ} (f : Chomping → Form) {i j : ℕ} (c : Chomp) → Read t room (f (chomping c)) i j → Read t room (some-t f) i j
for_chomp f Strip d = in_left d
for_chomp f Clip d = in_right (in_left d)
for_chomp f Keep d = in_right (in_right d)

record ContentMade (t : List ℕ) (room : ℕ) (f : ℤ → Chomping → Form) : Type 0 where
  made : {k i p j count : ℕ} {ls : List (List ℕ)} {o : Bool} (c : Chomp) → LinesTaken t k i ls o count p → Read t room (l-trail-comments (pos k) ∣ ⟨ no-trail (pos k) ⟩) p j
      → Read t room (f (pos k) (chomping c)) i j

whole_made : {room : ℕ} {t : List ℕ} {s : ℕ → Bool} {f : ℤ → Chomping → Form} {n : ℤ} {i a b q j : ℕ} {d : Option ℕ} {c : Chomp} {w : List CommentValue} {v : BodyValue} (h : Header)
    → ContentMade t room f → Read t room (‹ s ›) i a → Indicators t a b d c → LineRest t b q w → d ≡ h.digit → Body t n h q j v → Read t room (Whole s f n) i j
unfolding read
whole_made {room = room} {t = t} {s = s0} {f = f0} {n = n} {a = a} {b = b} {d = d} {c = c} h m s e r z (indicated {d = k} y x tr) =
    let i : Indicators t a b (Some k) c = subst (λ z. Indicators t a b z c) (z ∙ y) e in
    for_chomp (OneOf s0 f0 n) c (for_some_k (pos (base n + k)) (one_then s (one_then (in_left (for_some_m k (one_then (header_made i r) (where_holds refl))))
    (m.made c x (trail_made (taken_starts (next_starts r) x) tr)))))
whole_made {room = room} {t = t} {s = s0} {f = f0} {n = n} {a = a} {b = b} {d = d} {c = c} h m s e r z (detected {k = k} y g x tr) =
    let i : Indicators t a b None c = subst (λ z. Indicators t a b z c) (z ∙ y) e in
    for_chomp (OneOf s0 f0 n) c (for_some_k (pos k) (one_then s (one_then (in_right (one_then (header_made i r) (where_holds (by_first_line g))))
    (m.made c x (trail_made (taken_starts (next_starts r) x) tr)))))
whole_made {room = room} {t = t} {s = s0} {f = f0} {n = n} {a = a} {b = b} {q = q} {d = d} {c = c} h m s e r z (body_without_content {p = p} {widths = ws} y g x tr) =
    let i : Indicators t a b None c = subst (λ z. Indicators t a b z c) (z ∙ y) e in
    let y = shallow_past x in
    let k : ℕ = suc (max (largest ws) (max (least n) y.bound)) in
    let u : y.bound < suc (max (largest ws) (max (least n) y.bound)) = omega arith in
    let v : least n ≤ suc (max (largest ws) (max (least n) y.bound)) = omega arith in
    let o : largest ws ≤ suc (max (largest ws) (max (least n) y.bound)) = omega arith in
    let stuck = y.none (suc (max (largest ws) (max (least n) y.bound))) u v in
    let none : NoLine t (pos (suc (max (largest ws) (max (least n) y.bound)))) p = record { none = λ k e. subst (λ z. Stuck (Line t z p)) (indent_width e) stuck } in
    let taken : LinesTaken t (suc (max (largest ws) (max (least n) y.bound))) q [] false (length ws) p = record { end = q; lines = no_content; tail = record { widths = ws; lines = g; within = o; counts = refl }; most = stuck } in
    for_chomp (OneOf s0 f0 n) c (for_some_k (pos (suc (max (largest ws) (max (least n) y.bound)))) (one_then s (one_then (in_right (one_then (header_made i r) (where_holds (without_content g x o v none))))
    (m.made c taken (trail_made (taken_starts (next_starts r) taken) (deeper_trail x v tr))))))

pub scalar_made : {room : ℕ} {t : List ℕ} {n : ℤ} {i j : ℕ} {w : Meaning} → BlockScalar t n i j w → Read t room (c-l+literal n ∣ c-l+folded n) i j
unfolding rule kind c-literal c-folded
scalar_made {room = room} {t = t} {n = n} {i = i} {j = j} (block_scalar hd bd lb) = go hd bd where
  go : {k : ℕ} {h : HeaderValue} {v : BodyValue} → BlockHeader t i k h → Body t n h.header k j v → Read t room (c-l+literal n ∣ c-l+folded n) i j
  go (block_header {d = d} {c = c} (literal_sign e) s r) b =
      in_left (by_rule refl (whole_made {f = l-literal-content} (record { folded = false; digit = d; chomp = c }) (record { made = literal_content }) (one_char t i 124 (omega arith) e) s r refl b))
  go (block_header {d = d} {c = c} (folded_sign e) s r) b =
      in_right (by_rule refl (whole_made {f = l-folded-content} (record { folded = true; digit = d; chomp = c }) (record { made = folded_content }) (one_char t i 62 (omega arith) e) s r refl b))
