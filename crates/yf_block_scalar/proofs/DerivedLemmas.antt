-- A written block scalar is derived again.
use Rattle.std.proofs.Common.{◌≡◌, ◌≢◌, ℕ, ℤ, pos, negsuc, zero, suc, ◌+◌, ◌-◌, ◌<◌, ◌≤◌, Bool, true, false, true≢false, List, [], ◌∷◌, ◌++◌, length, map, get_or, replicate, Option, Some, None, refl, sym, ap, ◌∙◌, subst, arith, ⊎_elim, append_assoc, add-zero}
use Rattle.std.proofs.lemmas.List.{length-replicate, get_or-drop}
use Rattle.std.proofs.lemmas.Bool.{cases_Bool}
use Rattle.std.specs.Str.{IsUtf8}
use lib.Utf8.{encodes}
use Rattle.yf_chars.specs.Text.{code, next, CharAt}
use Rattle.yf_chars.specs.Class.{is_white, is_nb_char}
use Rattle.yf_chars.specs.Chain.{Many, One, Stuck}
use Rattle.yf_chars.specs.Chain.Chain.{done, step}
use Rattle.yf_chars.specs.Chain.One.{one}
use Rattle.yf_chars.specs.ClassEnds.{no_nb_char}
use Rattle.yf_chars.proofs.TextLemmas.{code-past, byte_from_code}
use Rattle.yf_lines.specs.Basic.{SeparateInLine}
use Rattle.yf_lines.specs.Basic.SeparateInLine.{by_whites}
use Rattle.yf_lines.proofs.BasicLemmas.{break_char, white_of_space, white_cases, no_break_end}
use Rattle.yf_comments.specs.declared.comment.Comment.{Comment}
use Rattle.yf_comments.specs.Comment.{CommentValue}
use Rattle.yf_comments.specs.Comments.{BlankBefore, LineRest}
use Rattle.yf_comments.specs.Comments.HasBlankNote.{not_noted}
use Rattle.yf_comments.specs.Comments.CommentText.{comment_text}
use Rattle.yf_comments.specs.Comments.BreakOrEnd.{by_break}
use Rattle.yf_comments.specs.Comments.LineRest.{nothing, comment}
use Rattle.yf_comments.proofs.BlankLemmas.{before_past, no_before}
use Rattle.yf_block_scalar.specs.declared.body.BlockText.{BlockText}
use Rattle.yf_block_scalar.specs.declared.header.Chomp.{Chomp}
use Rattle.yf_block_scalar.specs.declared.header.Chomp.TheVariants.{Strip, Clip, Keep}
use Rattle.yf_block_scalar.specs.Header.{Style, Digit, Indicators}
use Rattle.yf_block_scalar.specs.Header.Style.{literal_sign, folded_sign}
use Rattle.yf_block_scalar.specs.Header.Digit.{digit}
use Rattle.yf_block_scalar.specs.Header.Sign.{strip_sign, keep_sign}
use Rattle.yf_block_scalar.specs.Header.Indicators.{neither, digit_alone, sign_alone, digit_sign}
use Rattle.yf_block_scalar.specs.Header.BlockHeader.{block_header}
use Rattle.yf_block_scalar.specs.Body.{SpaceLine, largest, LineContent, Line, Lines, LinesTaken, IndentedLine, DetectedIndent, MarkerLine, Trail, Body, base, least}
use Rattle.yf_block_scalar.specs.Body.EmptyLines.{bare}
use Rattle.yf_block_scalar.specs.Body.LineContent.{content}
use Rattle.yf_block_scalar.specs.Body.Line.{empty_line, content_line}
use Rattle.yf_block_scalar.specs.Body.Lines.{up_to}
use Rattle.yf_block_scalar.specs.Body.MarkerLine.{marker_here, past_mark}
use Rattle.yf_block_scalar.specs.Body.Trail.{no_comment}
use Rattle.yf_block_scalar.specs.Body.Body.{indicated, detected}
use Rattle.yf_block_scalar.specs.Content.{feeds, literal_after, content_of}
use Rattle.yf_block_scalar.specs.Written.{style_bytes, digit_bytes, sign_bytes, comment_bytes, header_bytes, indented, tail_bytes, break_bytes, body_bytes, written_of, IsLineText, AreLineTexts, EndsWithContent, StartsUnspaced, IsCommentText, IsScalar, IsRead}
use Rattle.yf_block_scalar.proofs.BodyLemmas.{break_no_nb}
use Rattle.yf_block_scalar.proofs.HeaderLemmas.{between_from, mark_inside}
use Rattle.yf_block_scalar.proofs.WrittenLemmas.{Rest, rest_start, rest_ascii, rest_spaces, rest_chars, rest_break, space_marker, empty_made, empty_or, indented_full, after_line, some_chars, ContentLineEnd, Lasts, lines_made, tail_made}
use Rattle.yf_block_scalar.proofs.WrittenLemmas.ContentLineEnd.{open_after, break_after}
use Rattle.yf_block_scalar.proofs.UniqueLemmas.{many_nb}

no_line_past : {t : List ℕ} {k j : ℕ} {x : List (List ℕ)} → Line t k (length t) j x → ⊥
no_line_past {t} (empty_line {m = m} a l) =
    let past = code-past t (length t + m) (omega arith) in
    ⊎_elim (λ (h : code t (length t + m) ≡ 13). absurd (omega arith)) (λ (h : code t (length t + m) ≡ 10). absurd (omega arith)) (break_char a.ends)
no_line_past (content_line c) = no_content_past c where
  no_content_past : {t : List ℕ} {k j : ℕ} {x : List ℕ} {o : Bool} → LineContent t k (length t) j x o → ⊥
  no_content_past {t} {k} (content s m l q n) =
      let past = code-past t (length t + k) (omega arith) in
      true≢false (sym (many_nb m l) ∙ ap is_nb_char past ∙ no_nb_char)

pub stuck_past : (t : List ℕ) (k : ℕ) → Stuck (Line t k (length t))
stuck_past t k = record { none = λ j x l. no_line_past l }

pub trail_past : (t : List ℕ) (k : ℕ) → Trail t k (length t) (length t) []
trail_past t k = no_comment (λ m l s e. let past = code-past t (length t + m) (omega arith) in absurd (omega arith))

pub largest-zeros : (c : ℕ) → largest (replicate c 0) ≡ 0
largest-zeros zero = refl
largest-zeros (suc c) = let rest = largest-zeros c in omega arith

taken_made : {t : List ℕ} {k q : ℕ} {ls : List (List ℕ)} {o : Bool} (c : ℕ) → IsUtf8 t → Lasts t k q ls o (feeds c) → LinesTaken t k q ls o c (length t)
taken_made {t} {k} {q} {ls} {o} c u a = record {
  end = a.place;
  lines = subst (λ w. Lines t k q a.place w o) (sym a.parts) (up_to a.chain a.line);
  tail = record {
    widths = replicate c 0;
    lines = tail_made c a.place u a.rest;
    within = omega (arith, largest-zeros c);
    counts = length-replicate c 0;
  };
  most = stuck_past t k;
}

-- the indentation of written lines is detected
no_marker_line : {t : List ℕ} {q : ℕ} → code t q ≡ 32 → MarkerLine t q → ⊥
no_marker_line {t} {q} e (marker_here m) = true≢false (sym m ∙ space_marker t q e)
no_marker_line e (past_mark m l) = absurd (omega arith)

unspaced_first : (x : List ℕ) (ls : List (List ℕ)) → x ≢ [] → StartsUnspaced (x ∷ ls) → (r : List ℕ) → get_or (x ++ r) 0 0 ≢ 32
unspaced_first [] ls n s r = absurd (n refl)
unspaced_first (c ∷ x) ls n s r = s

indented_made : {t : List ℕ} {k q : ℕ} {n : ℤ} {x : List ℕ} (ls : List (List ℕ)) (r : List ℕ) → IsUtf8 t → 0 < k → least n ≤ k → IsLineText x → x ≢ [] → StartsUnspaced (x ∷ ls)
    → Rest t q (indented k x ++ r) → IndentedLine t n q k
indented_made {t} {k} {q} {n} {x} ls r u wide deep text full first s =
    let bytes : encodes text.chars ≡ x = text.bytes in
    let shape : indented k x ++ r ≡ replicate k 32 ++ (encodes text.chars ++ r) =
    ap (λ w. w ++ r) (indented_full k x full) ∙ append_assoc (replicate k 32) x r ∙ ap (λ w. replicate k 32 ++ (w ++ r)) (sym bytes) in
    let s' : Rest t q (replicate k 32 ++ (encodes text.chars ++ r)) = subst (λ w. Rest t q w) shape s in
    let spaces = rest_spaces k q u s' in
    let chars = rest_chars text.chars (q + k) u text.each spaces.1 in
    let long : 0 < length (encodes text.chars) = some_chars text.chars (λ e. full (sym bytes ∙ e)) in
    let nb : is_nb_char (code t (q + k)) ≡ true = many_nb chars.0.1 (omega arith) in
    let start : code t q ≡ 32 = ap (code t) (sym (add-zero q)) ∙ spaces.0.each 0 wide in
    let no_space : code t (q + k) ≢ 32 = λ e.
    let byte = byte_from_code t (q + k) u (omega arith) in
    let here : get_or t (q + k) 0 ≡ get_or (x ++ r) 0 0 =
    ap (λ w. get_or t w 0) (sym (add-zero (q + k))) ∙ sym (get_or-drop (q + k) t 0 0) ∙ ap (λ w. get_or w 0 0) spaces.1.bytes ∙ ap (λ w. get_or (w ++ r) 0 0) bytes in
    unspaced_first x ls full first r (sym here ∙ byte.1 ∙ e) in
    record {
      spaces = spaces.0;
      other = record {
        inside = λ e. true≢false (sym nb ∙ ap is_nb_char e ∙ no_nb_char);
        no_space = no_space;
        no_break = record { none = λ j b. true≢false (sym nb ∙ break_no_nb b) };
      };
      deep = deep;
      clear = λ m. no_marker_line start m;
    }

detected_more : {t : List ℕ} {n : ℤ} {q h k : ℕ} → SpaceLine t q 0 h → DetectedIndent t n h k → DetectedIndent t n q k
detected_more a d = record { at = d.at; widths = 0 ∷ d.widths; before = step (bare 0 a) d.before; within = omega (arith, d.within); first = d.first }

pub detected_made : {t : List ℕ} {k : ℕ} {n : ℤ} (post : List ℕ) (ls : List (List ℕ)) (x : List ℕ) (q : ℕ) → IsUtf8 t → 0 < k → least n ≤ k → AreLineTexts (x ∷ ls)
    → StartsUnspaced (x ∷ ls) → Rest t q (indented k x ++ (literal_after (map (indented k) ls) ++ post)) → DetectedIndent t n q k
detected_made {t} {k} {n} post [] x q u wide deep texts first s =
    ⊎_elim (λ (e : x ≡ []). absurd (unspaced_none x e first)) (λ (f : x ≢ []).
    record { at = q; widths = []; before = done; within = omega arith; first = indented_made [] _ u wide deep texts.0 f first s }) (empty_or x)
  where
    unspaced_none : (x : List ℕ) → x ≡ [] → StartsUnspaced (x ∷ []) → ⊥
    unspaced_none [] e s = s
    unspaced_none (c ∷ x) e s = let long : suc (length x) ≡ 0 = ap length e in absurd (omega arith)
detected_made {t} {k} {n} post (y ∷ ls) x q u wide deep texts first s =
    let s' : Rest t q (indented k x ++ (10 ∷ (indented k y ++ (literal_after (map (indented k) ls) ++ post)))) = subst (λ w. Rest t q w) (after_line k x y ls post) s in
    ⊎_elim
    (λ (e : x ≡ []).
    let bare_rest : Rest t q (10 ∷ (indented k y ++ (literal_after (map (indented k) ls) ++ post))) =
    subst (λ w. Rest t q (indented k w ++ (10 ∷ (indented k y ++ (literal_after (map (indented k) ls) ++ post))))) e s' in
    let got = empty_made u bare_rest in
    detected_more got.0 (detected_made post ls y (q + 1) u wide deep texts.1 (unspaced_rest x e first) got.1))
    (λ (f : x ≢ []). record { at = q; widths = []; before = done; within = omega arith; first = indented_made (y ∷ ls) _ u wide deep texts.0 f first s })
    (empty_or x)
  where
    unspaced_rest : (x : List ℕ) → x ≡ [] → StartsUnspaced (x ∷ y ∷ ls) → StartsUnspaced (y ∷ ls)
    unspaced_rest [] e s = s
    unspaced_rest (c ∷ x) e s = let long : suc (length x) ≡ 0 = ap length e in absurd (omega arith)

-- the characters of a written header
pub record Last (t : List ℕ) (k : ℕ) : Type 0 where
  pub place : ℕ
  pub is : k ≡ place + 1
  pub low : 33 ≤ code t place
  pub high : code t place < 128

last_of : {t : List ℕ} {q c : ℕ} → CharAt t q c (q + 1) → 33 ≤ c → c < 128 → Last t (q + 1)
last_of {t} {q} {c} r l h = record { place = q; is = refl; low = omega (arith, r.char); high = omega (arith, r.char) }

pub style_made : {t : List ℕ} {r : List ℕ} (f : Bool) (q : ℕ) → IsUtf8 t → Rest t q (style_bytes f ++ r) → Style t q (q + 1) f × Rest t (q + 1) r × Last t (q + 1)
style_made true q u s =
    let got = rest_ascii 62 u (omega arith) (λ e. absurd (omega arith)) s in
    (folded_sign got.0.char, got.1, last_of got.0 (omega arith) (omega arith))
style_made false q u s =
    let got = rest_ascii 124 u (omega arith) (λ e. absurd (omega arith)) s in
    (literal_sign got.0.char, got.1, last_of got.0 (omega arith) (omega arith))

abbrev pub digit_of : Option ℕ → ℕ → Option ℕ
digit_of None w = None
digit_of (Some d) w = Some w

digit_made : {t : List ℕ} {r : List ℕ} (w q : ℕ) → IsUtf8 t → 1 ≤ w → w ≤ 9 → Rest t q ((48 + w) ∷ r) → Digit t q (q + 1) w × Rest t (q + 1) r × Last t (q + 1)
digit_made {t} w q u low high s =
    let got = rest_ascii (48 + w) u (omega arith) (λ e. absurd (omega arith)) s in
    let made : Digit t q (q + 1) (code t q - 48) = digit (rw got.0.char (between_from 49 57 (48 + w) (omega arith) (omega arith))) in
    let value : code t q - 48 ≡ w = omega (arith, got.0.char) in
    (subst (λ z. Digit t q (q + 1) z) value made, got.1, last_of got.0 (omega arith) (omega arith))

pub record Signed (t : List ℕ) (q : ℕ) (d : Option ℕ) (c : Chomp) (r : List ℕ) : Type 0 where
  pub place : ℕ
  pub marks : Indicators t q place d c
  pub rest : Rest t place r
  pub last : Last t place

-- only a sign, or nothing
signed_alone : {t : List ℕ} {r : List ℕ} (c : Chomp) (q : ℕ) → IsUtf8 t → Last t q → Rest t q (sign_bytes c ++ r) → Signed t q None c r
signed_alone Strip q u l s =
    let got = rest_ascii 45 u (omega arith) (λ e. absurd (omega arith)) s in
    record { place = q + 1; marks = sign_alone (strip_sign got.0.char); rest = got.1; last = last_of got.0 (omega arith) (omega arith) }
signed_alone Clip q u l s = record { place = q; marks = neither; rest = s; last = l }
signed_alone Keep q u l s =
    let got = rest_ascii 43 u (omega arith) (λ e. absurd (omega arith)) s in
    record { place = q + 1; marks = sign_alone (keep_sign got.0.char); rest = got.1; last = last_of got.0 (omega arith) (omega arith) }

-- a sign or nothing, after a digit
signed_after : {t : List ℕ} {r : List ℕ} {p d : ℕ} (c : Chomp) (q : ℕ) → IsUtf8 t → Digit t p q d → Last t q → Rest t q (sign_bytes c ++ r) → Signed t p (Some d) c r
signed_after Strip q u a l s =
    let got = rest_ascii 45 u (omega arith) (λ e. absurd (omega arith)) s in
    record { place = q + 1; marks = digit_sign a (strip_sign got.0.char); rest = got.1; last = last_of got.0 (omega arith) (omega arith) }
signed_after Clip q u a l s = record { place = q; marks = digit_alone a; rest = s; last = l }
signed_after Keep q u a l s =
    let got = rest_ascii 43 u (omega arith) (λ e. absurd (omega arith)) s in
    record { place = q + 1; marks = digit_sign a (keep_sign got.0.char); rest = got.1; last = last_of got.0 (omega arith) (omega arith) }

pub signed_made : {t : List ℕ} {r : List ℕ} (d : Option ℕ) (c : Chomp) (w q : ℕ) → IsUtf8 t → 1 ≤ w → w ≤ 9 → Last t q
    → Rest t q (digit_bytes d w ++ (sign_bytes c ++ r)) → Signed t q (digit_of d w) c r
signed_made None c w q u low high l s = signed_alone c q u l s
signed_made (Some d) c w q u low high l s =
    let got = digit_made w q u low high s in
    signed_after c (q + 1) u got.0 got.2 got.1

-- the comment
two_whites : {t : List ℕ} {q : ℕ} → CharAt t q 32 (q + 1) → CharAt t (q + 1) 32 (q + 1 + 1) → SeparateInLine t q (q + 1 + 1)
two_whites {t} {q} a b =
    let first : is_white (code t q) ≡ true = white_of_space _ a.char in
    let second : is_white (code t (q + 1)) ≡ true = white_of_space _ b.char in
    let rest : Many t is_white (next t (q + 1)) (q + 1 + 1) [] = subst (λ w. Many t is_white w (q + 1 + 1) []) (sym b.end) done in
    let tail : Many t is_white (q + 1) (q + 1 + 1) (code t (q + 1) ∷ [] ++ []) = step (one second) rest in
    let tail' : Many t is_white (next t q) (q + 1 + 1) (code t (q + 1) ∷ [] ++ []) = subst (λ w. Many t is_white w (q + 1 + 1) (code t (q + 1) ∷ [] ++ [])) (sym a.end) tail in
    by_whites (step (one first) tail') (omega arith)

no_blank : {t : List ℕ} {q : ℕ} → IsUtf8 t → Last t q → CharAt t q 32 (q + 1) → CharAt t (q + 1) 32 (q + 1 + 1) → BlankBefore t (q + 1 + 1) → ⊥
no_blank {t} {q} u l a b e =
    let one_back = before_past t u (q + 1) (omega (arith, b.char)) b.end (λ z. let h = b.char in absurd (omega arith)) (λ z. let h = b.char in absurd (omega arith)) e in
    let two_back = before_past t u q (omega (arith, a.char)) a.end (λ z. let h = a.char in absurd (omega arith)) (λ z. let h = a.char in absurd (omega arith)) one_back in
    let place : q - 1 ≡ l.place = omega (arith, l.is) in
    let low : 33 ≤ code t (q - 1) = subst (λ w. 33 ≤ code t w) (sym place) l.low in
    let high : code t (q - 1) < 128 = subst (λ w. code t w < 128) (sym place) l.high in
    no_before t u q (no_white_there (code t (q - 1)) low) (λ long m. mark_there long m)
    (no_break_end t q (λ z. absurd (omega arith)) (λ z _. absurd (omega arith))) (λ z. let h = a.char in absurd (omega arith)) two_back
  where
    no_white_there : (c : ℕ) → 33 ≤ c → is_white c ≡ false
    no_white_there c low = ⊎_elim (λ (w : is_white c ≡ true). ⊎_elim (λ (h : c ≡ 32). absurd (omega arith)) (λ (h : c ≡ 9). absurd (omega arith)) (white_cases c w))
        (λ (w : is_white c ≡ false). w) (cases_Bool (is_white c))

    mark_there : 3 ≤ q → code t (q - 3) ≡ 0xFEFF → ⊥
    mark_there long m =
        let same : l.place + 1 - 3 ≡ q - 3 = omega (arith, l.is) in
        mark_inside t l.place u l.high (omega (arith, l.is)) (ap (code t) same ∙ m)

record Commented (t : List ℕ) (q : ℕ) (r : List ℕ) : Type 0 where
  place : ℕ
  notes : List CommentValue
  line : LineRest t q place notes
  rest : Rest t place r

commented_text : {t : List ℕ} {q : ℕ} {r : List ℕ} (x : List ℕ) → IsUtf8 t → Last t q → IsLineText x → Rest t q (32 ∷ 32 ∷ 35 ∷ (x ++ (10 ∷ r))) → Commented t q r
commented_text {t} {q} {r} x u l text s =
    let a = rest_ascii 32 u (omega arith) (λ e. absurd (omega arith)) s in
    let b = rest_ascii 32 u (omega arith) (λ e. absurd (omega arith)) a.1 in
    let hash = rest_ascii 35 u (omega arith) (λ e. absurd (omega arith)) b.1 in
    let shape : x ++ (10 ∷ r) ≡ encodes text.chars ++ (10 ∷ r) = ap (λ w. w ++ (10 ∷ r)) (sym text.bytes) in
    let chars = rest_chars text.chars (q + 1 + 1 + 1) u text.each (subst (λ w. Rest t (q + 1 + 1 + 1) w) shape hash.1) in
    let end = rest_break u chars.1 in
    record {
      place = q + 1 + 1 + 1 + length (encodes text.chars) + 1;
      notes = _;
      line = comment (two_whites a.0 b.0) (comment_text hash.0.char chars.0.1 (not_noted (no_blank u l a.0 b.0))) (by_break end.0);
      rest = end.1;
    }

commented : {t : List ℕ} {q : ℕ} {r : List ℕ} (c : Option Comment) → IsUtf8 t → Last t q → IsCommentText c → Rest t q (comment_bytes c ++ (10 ∷ r)) → Commented t q r
commented {t} {q} None u l text s = let end = rest_break u s in record { place = q + 1; notes = []; line = nothing (by_break end.0); rest = end.1 }
commented {t} {q} {r} (Some c) u l text s =
    let shape : 32 ∷ 32 ∷ (c.text.now ++ (10 ∷ r)) ≡ 32 ∷ 32 ∷ 35 ∷ (text.0 ++ (10 ∷ r)) = ap (λ w. 32 ∷ 32 ∷ (w ++ (10 ∷ r))) text.1.0 in
    commented_text text.0 u l text.1.1 (subst (λ w. Rest t q w) shape s)

-- the whole scalar
abbrev open_of : Chomp → Bool → Bool
open_of Strip o = false
open_of Clip o = o
open_of Keep o = o

abbrev tail_of : Chomp → ℕ → ℕ
tail_of Strip c = 0
tail_of Clip c = 0
tail_of Keep c = c

after_made : (c : Chomp) (o : Bool) (n : ℕ) → (o ≡ true → n ≡ 0) → ContentLineEnd (open_of c o) (break_bytes c o ++ tail_bytes c n) (feeds (tail_of c n))
after_made Strip o n z = break_after
after_made Clip true n z = open_after
after_made Clip false n z = break_after
after_made Keep true n z = let none : n ≡ 0 = z refl in subst (λ w. ContentLineEnd true (feeds w) (feeds w)) (sym none) open_after
after_made Keep false n z = break_after

same_content : (f : Bool) (d e : Option ℕ) (c : Chomp) (x : List ℕ) (ls : List (List ℕ)) (n : ℕ) (o : Bool)
    → content_of (record { folded = f; digit = d; chomp = c }) (x ∷ ls) (tail_of c n) (open_of c o) ≡ content_of (record { folded = f; digit = e; chomp = c }) (x ∷ ls) n o
same_content f d e Strip x ls n true = refl
same_content f d e Strip x ls n false = refl
same_content f d e Clip x ls n o = refl
same_content f d e Keep x ls n o = refl

pub deep_enough : (n : ℤ) (k : ℕ) → base n < k → least n ≤ k
deep_enough (pos n) k l = omega arith
deep_enough (negsuc n) k l = omega arith

body_made : {t : List ℕ} {q : ℕ} (n : ℤ) (column : ℕ) (d : Option ℕ) (f : Bool) (c : Chomp) (x : List ℕ) (ls : List (List ℕ)) (count : ℕ) (o : Bool)
    → IsUtf8 t → base n < column → AreLineTexts (x ∷ ls) → EndsWithContent (x ∷ ls) → (d ≡ None → StartsUnspaced (x ∷ ls)) → (o ≡ true → count ≡ 0)
    → Rest t q (indented column x ++ (literal_after (map (indented column) ls) ++ (break_bytes c o ++ tail_bytes c count)))
    → Body t n (record { folded = f; digit = digit_of d (column - base n); chomp = c }) q (length t)
    (record { lines = x ∷ ls; open_end = open_of c o; tail = tail_of c count; comments = [] })
body_made {t} {q} n column None f c x ls count o u right texts last first follows s =
    let lasts = lines_made ls x q u (omega arith) texts last (after_made c o count follows) s in
    let taken = taken_made (tail_of c count) u lasts in
    detected refl (detected_made (break_bytes c o ++ tail_bytes c count) ls x q u (omega arith) (deep_enough n column right) texts (first refl) s) taken (trail_past t column)
body_made {t} {q} n column (Some e) f c x ls count o u right texts last first follows s =
    let lasts = lines_made ls x q u (omega arith) texts last (after_made c o count follows) s in
    let taken = taken_made (tail_of c count) u lasts in
    let same : column ≡ base n + (column - base n) = omega arith in
    indicated refl (subst (λ w. LinesTaken t w q (x ∷ ls) (open_of c o) (tail_of c count) (length t)) same taken) (trail_past t (base n + (column - base n)))

scalar_parts : (b : BlockText) (column : ℕ) (n : ℤ) (x : List ℕ) (ls : List (List ℕ)) → b.lines ≡ x ∷ ls
    → written_of b column n ≡ style_bytes b.header.folded ++ (digit_bytes b.header.digit (column - base n) ++ (sign_bytes b.header.chomp ++ (comment_bytes b.comment ++ (10 ∷
    (indented column x ++ (literal_after (map (indented column) ls) ++ (break_bytes b.header.chomp b.open_end ++ tail_bytes b.header.chomp b.tail)))))))
scalar_parts b column n x ls e =
    let whole : List (List ℕ) → List ℕ = λ z. header_bytes b.header b.comment (column - base n) ++ body_bytes b.header.chomp z b.tail b.open_end column in
    ap whole e ∙ simp append_assoc

pub read_again : {t : List ℕ} (b : BlockText) (column : ℕ) (n : ℤ) → IsUtf8 t → t ≡ written_of b column n → base n < column → column ≤ base n + 9 → IsScalar b → IsRead t n b
read_again {t} b column n u e right near s = go b.lines refl s.lines s.last s.first where
  go : (ls : List (List ℕ)) → b.lines ≡ ls → AreLineTexts ls → EndsWithContent ls → (b.header.digit ≡ None → StartsUnspaced ls) → IsRead t n b
  go [] q texts last first = absurd last
  go (x ∷ ls) q texts last first =
      let w : ℕ = column - base n in
      let parts = scalar_parts b column n x ls q in
      let start = subst (λ z. Rest t 0 z) (e ∙ parts) (rest_start t u) in
      let style = style_made b.header.folded 0 u start in
      let signed = signed_made b.header.digit b.header.chomp w 1 u (omega arith) (omega arith) style.2 style.1 in
      let line = commented b.comment u signed.last s.comment signed.rest in
      let body = body_made n column b.header.digit b.header.folded b.header.chomp x ls b.tail b.open_end u right texts last first s.follows line.rest in
      record {
        place = line.place;
        header = record { header = record { folded = b.header.folded; digit = digit_of b.header.digit w; chomp = b.header.chomp }; comments = line.notes };
        body = record { lines = x ∷ ls; open_end = open_of b.header.chomp b.open_end; tail = tail_of b.header.chomp b.tail; comments = [] };
        head = block_header style.0 signed.marks line.line;
        rest = body;
        same = same_content b.header.folded (digit_of b.header.digit w) b.header.digit b.header.chomp x ls b.tail b.open_end
            ∙ ap (λ z. content_of b.header z b.tail b.open_end) (sym q);
      }
