-- A block scalar has a sign, and its text and its lines are no longer than what follows the sign.
use Rattle.std.proofs.Common.{◌≡◌, ℕ, ℤ, suc, ◌+◌, ◌-◌, ◌<◌, ◌≤◌, Bool, true, false, List, [], ◌∷◌, ◌++◌, length, refl, arith, length-append}
use Rattle.std.specs.Prelude.{◌==◌, ◌||◌, drop, if◌then◌else◌, slice_range}
use Rattle.std.proofs.lemmas.List.{length-drop, length-take}
use Rattle.yf_chars.specs.Text.{code}
use Rattle.yf_chars.specs.Class.{is_nb_char, is_white}
use Rattle.yf_chars.specs.Chain.{Chain, Many}
use Rattle.yf_chars.specs.Chain.Chain.{done, step}
use Rattle.yf_chars.specs.Chain.One.{one}
use Rattle.yf_chars.proofs.ChainLemmas.{chain_forward}
use Rattle.yf_chars.proofs.CharBounds.{nb_below}
use Rattle.yf_chars.proofs.TextLemmas.{within_from_code}
use Rattle.yf_lines.proofs.BasicLemmas.{break_forward}
use Rattle.yf_comments.specs.Comment.{CommentValue}
use Rattle.yf_block_scalar.specs.declared.header.Header.{Header}
use Rattle.yf_block_scalar.specs.declared.header.Chomp.{Chomp}
use Rattle.yf_block_scalar.specs.declared.header.Chomp.TheVariants.{Strip, Clip, Keep}
use Rattle.yf_block_scalar.specs.Header.{BlockHeader, HeaderValue}
use Rattle.yf_block_scalar.specs.Header.BlockHeader.{block_header}
use Rattle.yf_block_scalar.specs.Body.{Body, BodyValue, EmptyLines, Ends, Line, LineContent, Lines, LinesTaken, Trail, first_noted, is_gap_tail}
use Rattle.yf_block_scalar.specs.Body.Body.{detected, indicated, without_content}
use Rattle.yf_block_scalar.specs.Body.EmptyLines.{bare}
use Rattle.yf_block_scalar.specs.Body.Ends.{by_break, by_text}
use Rattle.yf_block_scalar.specs.Body.Line.{empty_line, content_line}
use Rattle.yf_block_scalar.specs.Body.LineContent.{content}
use Rattle.yf_block_scalar.specs.Body.Lines.{no_content, up_to}
use Rattle.yf_block_scalar.specs.Body.Trail.{comments, no_comment}
use Rattle.yf_block_scalar.specs.Content.{content_of, ending, feeds, folded, folded_after, joint, literal, literal_after, lone_tail}
use Rattle.yf_block_scalar.proofs.ScalarOrder.{marks_forward, style_later}
use Rattle.yf_block_scalar.proofs.UniqueLemmas.{line_functional}
use Rattle.yf_laws.proofs.Size.CommentBytes.{end_remarks, rest_remarks, slice_short}
use Rattle.yf_laws.proofs.Size.Weights.{remarks_weight}
use Rattle.yf_laws.proofs.OutputLines.ScalarHeld.{feeds_long}

-- Texts of lines.

after_append : (xs : List (List ℕ)) (y : List ℕ) → length (literal_after (xs ++ y ∷ [])) ≡ length (literal_after xs) + suc (length y)
after_append [] y = omega (arith, length-append y [])
after_append (x ∷ xs) y = let l = after_append xs y in omega (arith, l, length-append x (literal_after (xs ++ y ∷ [])), length-append x (literal_after xs))

-- all lines but the last one end
literal_append : (xs : List (List ℕ)) (y : List ℕ) → length (literal (xs ++ y ∷ [])) ≡ length (literal_after xs) + length y
literal_append [] y = omega (arith, length-append y [])
literal_append (x ∷ xs) y = let l = after_append xs y in omega (arith, l, length-append x (literal_after (xs ++ y ∷ [])), length-append x (literal_after xs))

joint_short : (s : Bool) (n : ℕ) → length (joint s n) ≤ suc n
joint_short true n = omega (arith, feeds_long (n + 1))
joint_short false n = by (n == 0) where
  by : (b : Bool) → length (if b then 32 ∷ [] else feeds n) ≤ suc n
  by true = omega arith
  by false = omega (arith, feeds_long n)

-- folded lines are no longer than lines joined by line feeds
after_short : (s : Bool) (n : ℕ) (ls : List (List ℕ)) → length (folded_after s n ls) ≤ n + length (literal_after ls)
after_short s n [] = omega arith
after_short s n ([] ∷ ls) = let l = after_short s (n + 1) ls in omega (arith, l)
after_short s n ((c ∷ x) ∷ ls) =
    let l = after_short (is_white c) 0 ls in
    let j = joint_short (s || is_white c) n in
    omega (arith, l, j, length-append (joint (s || is_white c) n ++ (c ∷ x)) (folded_after (is_white c) 0 ls), length-append (joint (s || is_white c) n) (c ∷ x), length-append (c ∷ x) (literal_after ls))

folded_short : (xs : List (List ℕ)) (c : ℕ) (y : List ℕ) → length (folded (xs ++ (c ∷ y) ∷ [])) ≤ length (literal_after xs) + suc (length y)
folded_short [] c y = omega (arith, length-append (c ∷ y) [])
folded_short ([] ∷ xs) c y = let l = folded_short xs c y in omega (arith, l)
folded_short ((d ∷ x) ∷ xs) c y =
    let l = after_short (is_white d) 0 (xs ++ (c ∷ y) ∷ []) in
    omega (arith, l, after_append xs (c ∷ y), length-append (d ∷ x) (folded_after (is_white d) 0 (xs ++ (c ∷ y) ∷ [])), length-append (d ∷ x) (literal_after xs))

lone_short : (c : Chomp) (tail : ℕ) → length (lone_tail c tail) ≤ tail
lone_short Strip tail = omega arith
lone_short Clip tail = omega arith
lone_short Keep tail = omega (arith, feeds_long tail)

ending_short : (c : Chomp) (tail : ℕ) → length (ending c tail) ≤ suc tail
ending_short Strip tail = omega arith
ending_short Clip tail = omega arith
ending_short Keep tail = omega (arith, feeds_long (tail + 1))

-- the break of the last content line, if it has one
abbrev break_of : Bool → ℕ
break_of true = 0
break_of false = 1

abbrev tail_of : Bool → ℕ → ℕ
tail_of true tail = 0
tail_of false tail = suc tail

content_short : (h : Header) (ls : List (List ℕ)) (tail : ℕ) (o : Bool) (n : ℕ) → 0 < length ls → length (folded ls) ≤ n → length (literal ls) ≤ n → length (content_of h ls tail o) ≤ n + tail_of o tail
content_short h [] tail o n some f l = absurd (omega (arith, some))
content_short h (x ∷ ls) tail o n some f l =
    let one = lines h.folded in
    let two = end o in
    omega (arith, one, two, length-append (if h.folded then folded (x ∷ ls) else literal (x ∷ ls)) (if o then [] else ending h.chomp tail)) where
      lines : (b : Bool) → length (if b then folded (x ∷ ls) else literal (x ∷ ls)) ≤ n
      lines true = f
      lines false = l

      end : (b : Bool) → length (if b then [] else ending h.chomp tail) ≤ tail_of b tail
      end true = omega arith
      end false = ending_short h.chomp tail

-- Lines in a text.

some_line : (xs : List (List ℕ)) (y : List ℕ) → 0 < length (xs ++ y ∷ [])
some_line xs y = omega (arith, length-append xs (y ∷ []))

record ContentRoom (t : List ℕ) (i j : ℕ) (x : List ℕ) (o : Bool) : Type 0 where
  inside : i < length t
  some : 0 < length x
  room : length x + (break_of o + i) ≤ j
  to_end : o ≡ true → j ≡ length t

noted_remarks : (b : Bool) (x : List CommentValue) → remarks_weight (first_noted b x) ≡ remarks_weight x
noted_remarks b [] = refl
noted_remarks b (c ∷ cs) = refl

record TextRoom (h : Header) (i j : ℕ) (ls : List (List ℕ)) (o : Bool) (tail : ℕ) : Type 0 where
  text : length (content_of h ls tail o) + i ≤ j
  lines : length (literal ls) + i ≤ j

pub record BodyRoom (h : Header) (i j : ℕ) (b : BodyValue) : Type 0 where
  pub text : length (content_of h b.lines b.tail b.open_end) + (remarks_weight b.comments + i) ≤ j
  pub lines : length (literal b.lines) + (remarks_weight b.comments + i) ≤ j

module _ {t : List ℕ} where
  nb_within : {i j : ℕ} {x : List ℕ} → Many t is_nb_char i j x → i < j → i < length t
  nb_within done l = absurd (omega (arith, l))
  nb_within {i = i} (step (one e) m) l = within_from_code t i (nb_below (code t i) e)

  ends_room : {i j : ℕ} {o : Bool} → Ends t i j o → break_of o + i ≤ j
  ends_room (by_break b) = let l = break_forward b in omega (arith, l)
  ends_room (by_text e) = omega arith

  content_room : {k i j : ℕ} {x : List ℕ} {o : Bool} → LineContent t k i j x o → ContentRoom t i j x o
  content_room {k} {i} {j} (content {h = h} {o = o} s m l e n) =
      let within = nb_within m l in
      let short = slice_short t (i + k) h (omega (arith, l)) in
      let ends = ends_room e in
      let some : 0 < length (slice_range t (i + k) h) = omega (arith, l, within, length-take (h - (i + k)) (drop (i + k) t), length-drop (i + k) t) in
      record { inside = omega (arith, within); some = some; room = omega (arith, short, ends); to_end = at_end e } where
        at_end : {a b : ℕ} {o : Bool} → Ends t a b o → o ≡ true → b ≡ length t
        at_end (by_break b) q = absurd cc
        at_end (by_text e) q = e

  -- each line but the last has a break
  chain_room : {k i j : ℕ} {ls : List (List ℕ)} → Chain (Line t k) i j ls → j < length t → length (literal_after ls) + i ≤ j
  chain_room done l = omega arith
  chain_room (step (empty_line {m = m} a w) c) l = let k = break_forward a.ends in let m = chain_room c l in omega (arith, k, m)
  chain_room {k} {j = j} (step {h = g} {y = y} (content_line {x = x} {o = o} d) c) l =
      let a = content_room d in
      let m = chain_room c l in
      let f = chain_forward (line_functional t k) c in
      let closed : break_of o ≡ 1 = by o a.to_end in
      let room = a.room in
      omega (arith, room, closed, m, length-append x (literal_after y)) where
        by : (b : Bool) → (b ≡ true → g ≡ length t) → break_of b ≡ 1
        by true e = let end = e refl in let f = chain_forward (line_functional t k) c in absurd (omega (arith, end, f, l))
        by false e = refl

  spaces_room : {i j : ℕ} {widths : List ℕ} → Chain (EmptyLines t) i j widths → length widths + i ≤ j
  spaces_room done = omega arith
  spaces_room (step (bare m a) c) = let k = break_forward a.ends in let l = spaces_room c in omega (arith, k, l)

  trail_remarks : {k i j : ℕ} {x : List CommentValue} → Trail t k i j x → remarks_weight x + i ≤ j
  trail_remarks (comments m l a e c) = end_remarks c.derived
  trail_remarks (no_comment n) = omega arith

  taken_room : {k i j count : ℕ} {ls : List (List ℕ)} {o : Bool} (h : Header) → LinesTaken t k i ls o count j → TextRoom h i j ls o count
  taken_room {i = i} {j = j} {count = count} h a = by a.lines where
    tail : count + a.end ≤ j
    tail = let l = spaces_room a.tail.lines in omega (arith, l, a.tail.counts)

    by : {k i : ℕ} {ls : List (List ℕ)} {o : Bool} → Lines t k i a.end ls o → TextRoom h i j ls o count
    by no_content = record { text = let l = lone_short h.chomp count in omega (arith, l, tail); lines = omega (arith, tail) }
    by (up_to {ls = ls} {x = x} {o = o} c d) =
        let b = content_room d in
        let room = b.room in
        let k = chain_room c b.inside in
        let joined = literal_append ls x in
        let n : ℕ = length (literal_after ls) + length x in
        record {
          text = let l = content_short h (ls ++ x ∷ []) count o n (some_line ls x) (last x b.some) (omega (arith, joined)) in by_end _ _ _ o l room k;
          lines = omega (arith, joined, room, k, tail);
        } where
          last : (y : List ℕ) → 0 < length y → length (folded (ls ++ y ∷ [])) ≤ length (literal_after ls) + length y
          last [] e = absurd (omega (arith, e))
          last (z ∷ y) e = folded_short ls z y

          by_end : (w i g : ℕ) (o : Bool) → w ≤ (length (literal_after ls) + length x) + tail_of o count → length x + (break_of o + g) ≤ a.end → length (literal_after ls) + i ≤ g → w + i ≤ j
          by_end w i g true e f l = omega (arith, e, f, l, tail)
          by_end w i g false e f l = omega (arith, e, f, l, tail)

  pub body_room : {n : ℤ} {h : Header} {i j : ℕ} {b : BodyValue} → Body t n h i j b → BodyRoom h i j b
  body_room {h = h} (indicated {count = count} {x = x} q a b) =
      let r = taken_room h a in
      let m = trail_remarks b in
      let text = r.text in
      let lines = r.lines in
      record { text = omega (arith, text, m, noted_remarks (is_gap_tail h.chomp count) x); lines = omega (arith, lines, m, noted_remarks (is_gap_tail h.chomp count) x) }
  body_room {h = h} (detected {count = count} {x = x} q w a b) =
      let r = taken_room h a in
      let m = trail_remarks b in
      let text = r.text in
      let lines = r.lines in
      record { text = omega (arith, text, m, noted_remarks (is_gap_tail h.chomp count) x); lines = omega (arith, lines, m, noted_remarks (is_gap_tail h.chomp count) x) }
  body_room {h = h} (without_content {widths = widths} {x = x} q c w b) =
      let k = spaces_room c in
      let m = trail_remarks b in
      let l = lone_short h.chomp (length widths) in
      record { text = omega (arith, k, l, m, noted_remarks (is_gap_tail h.chomp (length widths)) x); lines = omega (arith, k, m, noted_remarks (is_gap_tail h.chomp (length widths)) x) }

  pub header_room : {i j : ℕ} {h : HeaderValue} → BlockHeader t i j h → remarks_weight h.comments + suc i ≤ j
  header_room (block_header s m r) = let f = style_later s in let g = marks_forward m in let h = rest_remarks r in omega (arith, f, g, h)
