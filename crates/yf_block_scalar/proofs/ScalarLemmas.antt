-- A scalar from the reader can be written.
use Rattle.std.proofs.Common.{◌≡◌, ◌≢◌, ℕ, ℤ, ◌+◌, ◌-◌, ◌<◌, ◌≤◌, Bool, true, false, true≢false, List, [], ◌∷◌, ◌++◌, length, take, drop, get_or, slice_range, Option, Some, None, refl, sym, ap, ◌∙◌, subst, arith, ⊎_elim, add-zero}
use Rattle.std.proofs.Math.Seq.{take-append-add}
use Rattle.std.proofs.lemmas.List.{get_or-drop, get_or-take}
use Rattle.std.proofs.lemmas.Bool.{cases_Bool, cases_lt}
use Rattle.std.proofs.lemmas.Str.{length-encode, drop_past_char, encode_ascii}
use Rattle.std.specs.Char.{len_utf8}
use Rattle.std.specs.Str.{IsUtf8}
use lib.Utf8.{encode, encodes}
use Rattle.yf_chars.specs.Text.{code, next, begins, no_char}
use Rattle.yf_chars.specs.Class.{is_nb_char, is_printable, is_between, is_break_char}
use Rattle.yf_chars.specs.Chain.{Chain, Many, One}
use Rattle.yf_chars.specs.Chain.Chain.{done, step}
use Rattle.yf_chars.specs.Chain.One.{one}
use Rattle.yf_chars.specs.ClassEnds.{no_nb_char}
use Rattle.yf_chars.proofs.TextLemmas.{drop_there, code_from_byte, code-past, next_ascii, code-nowhere}
use Rattle.yf_chars.proofs.ChainLemmas.{chain_forward, one_functional}
use Rattle.yf_lines.proofs.BasicLemmas.{break_char}
use Rattle.yf_comments.specs.declared.comment.Comment.{Comment}
use Rattle.yf_comments.specs.Comment.{CommentValue, row_comments}
use Rattle.yf_comments.specs.Comments.{CommentText, LineRest}
use Rattle.yf_comments.specs.Comments.CommentText.{comment_text}
use Rattle.yf_comments.specs.Comments.LineRest.{nothing, whites, comment}
use Rattle.yf_block_scalar.specs.declared.body.BlockText.{BlockText}
use Rattle.yf_block_scalar.specs.declared.header.Header.{Header}
use Rattle.yf_block_scalar.specs.Body.{EmptyLines, largest, Ends, LineContent, Line, Lines, LinesTaken, IndentedLine, Body, BodyValue, body_value}
use Rattle.yf_block_scalar.specs.Body.EmptyLines.{bare}
use Rattle.yf_block_scalar.specs.Body.Ends.{by_break, by_text}
use Rattle.yf_block_scalar.specs.Body.LineContent.{content}
use Rattle.yf_block_scalar.specs.Body.Line.{empty_line, content_line}
use Rattle.yf_block_scalar.specs.Body.Lines.{no_content, up_to}
use Rattle.yf_block_scalar.specs.Body.Body.{indicated, detected, without_content}
use Rattle.yf_block_scalar.specs.Written.{AllNb, IsLineText, AreLineTexts, EndsWithContent, StartsUnspaced, IsCommentText, IsScalar}
use Rattle.yf_block_scalar.proofs.BodyLemmas.{indented_stuck}
use Rattle.yf_block_scalar.proofs.UniqueLemmas.{content_text, not_empty_too, space_line_unique, lines_chain}
use Rattle.yf_chars.proofs.CharFacts.{hash_nb}

nb_begins : (t : List ℕ) (i : ℕ) → is_nb_char (code t i) ≡ true → begins t i ≡ true
nb_begins t i e = ⊎_elim (λ (h : begins t i ≡ true). h)
    (λ (h : begins t i ≡ false). absurd (true≢false (sym e ∙ ap is_nb_char (code-nowhere t i h) ∙ no_nb_char))) (cases_Bool (begins t i))

next_is : (t : List ℕ) (i : ℕ) → next t i ≡ i + len_utf8 (code t i)
unfolding next
next_is t i = refl

one_bytes : {t : List ℕ} {q n : ℕ} {x : List ℕ} (h : ℕ) (ys : List ℕ) → IsUtf8 t → One t is_nb_char q n x → n ≤ h → (take (h - n) (drop n t) ≡ encodes ys) × AllNb ys
    → (take (h - q) (drop q t) ≡ encodes (x ++ ys)) × AllNb (x ++ ys)
one_bytes {t} {q} h ys u (one e) l more =
    let c : ℕ = code t q in
    let cut = drop_there t q u (nb_begins t q e) in
    let n_is = next_is t q in
    let follows : drop (next t q) t ≡ cut.0 = ap (λ w. drop w t) n_is ∙ drop_past_char t cut.0 q c cut.1 in
    let long : h - q ≡ length (encode c) + (h - next t q) = omega (arith, length-encode c, n_is) in (
      ap (λ w. take (h - q) w) cut.1 ∙ ap (λ w. take w (encode c ++ cut.0)) long ∙ take-append-add (encode c) cut.0 (h - next t q)
          ∙ ap (λ w. encode c ++ take (h - next t q) w) (sym follows) ∙ ap (λ w. encode c ++ w) more.0,
      (e, more.1),
    )

many_bytes : {t : List ℕ} {q h : ℕ} {y : List ℕ} → IsUtf8 t → Many t is_nb_char q h y → (take (h - q) (drop q t) ≡ encodes y) × AllNb y
many_bytes {t} {q} u done = let none : q - q ≡ 0 = omega arith in (ap (λ w. take w (drop q t)) none, tt)
many_bytes {t} {q} {h} u (step {y = ys} s c) = one_bytes h ys u s (chain_forward (one_functional t is_nb_char) c) (many_bytes u c)

pub content_line_text : {t : List ℕ} {k i j : ℕ} {x : List ℕ} {o : Bool} → IsUtf8 t → LineContent t k i j x o → IsLineText x
content_line_text u (content {x = cs} s m l q n) = let b = many_bytes u m in record { chars = cs; bytes = sym b.0; each = b.1 }

empty_text : IsLineText []
empty_text = record { chars = []; bytes = refl; each = tt }

line_texts : {t : List ℕ} {k i j : ℕ} {x : List (List ℕ)} (ls : List (List ℕ)) → IsUtf8 t → Line t k i j x → AreLineTexts ls → AreLineTexts (x ++ ls)
line_texts ls u (empty_line a m) r = (empty_text, r)
line_texts ls u (content_line c) r = (content_line_text u c, r)

chain_texts : {t : List ℕ} {k i j : ℕ} {ls : List (List ℕ)} → IsUtf8 t → Chain (Line t k) i j ls → AreLineTexts ls
chain_texts u done = tt
chain_texts u (step {y = ls} s c) = line_texts ls u s (chain_texts u c)

snoc_ends : (front : List (List ℕ)) (x : List ℕ) → x ≢ [] → EndsWithContent (front ++ x ∷ [])
snoc_ends [] x n = n
snoc_ends (y ∷ []) x n = n
snoc_ends (y ∷ z ∷ front) x n = snoc_ends (z ∷ front) x n

lines_end : {t : List ℕ} {k i j : ℕ} {ls : List (List ℕ)} {o : Bool} → Lines t k i j ls o → ls ≢ [] → EndsWithContent ls
lines_end no_content n = absurd (n refl)
lines_end (up_to {ls = front} {x = x} c d) n =
    snoc_ends front x (λ e. let long = content_text d in let none : length x ≡ 0 = ap length e in absurd (omega arith))

-- an open last line has no tail
open_end_last : {t : List ℕ} {h j : ℕ} {o : Bool} → Ends t h j o → o ≡ true → j ≡ length t
open_end_last (by_break b) e = absurd (true≢false (sym e))
open_end_last (by_text l) e = l

content_last : {t : List ℕ} {k i j : ℕ} {x : List ℕ} {o : Bool} → LineContent t k i j x o → o ≡ true → j ≡ length t
content_last (content s m l q n) e = open_end_last q e

lines_last : {t : List ℕ} {k i j : ℕ} {ls : List (List ℕ)} {o : Bool} → Lines t k i j ls o → o ≡ true → j ≡ length t
lines_last no_content e = absurd (true≢false (sym e))
lines_last (up_to c d) e = content_last d e

bare_inside : {t : List ℕ} {i j : ℕ} {x : List ℕ} → EmptyLines t i j x → length t ≤ i → ⊥
bare_inside {t} {i} (bare m a) l =
    let past = code-past t (i + m) (omega arith) in
    ⊎_elim (λ (h : code t (i + m) ≡ 13). absurd (omega arith)) (λ (h : code t (i + m) ≡ 10). absurd (omega arith)) (break_char a.ends)

no_tail : {t : List ℕ} {i j : ℕ} {ms : List ℕ} → Chain (EmptyLines t) i j ms → length t ≤ i → length ms ≡ 0
no_tail done l = refl
no_tail (step s c) l = absurd (bare_inside s l)

pub taken_open : {t : List ℕ} {k i p count : ℕ} {ls : List (List ℕ)} {o : Bool} → LinesTaken t k i ls o count p → o ≡ true → count ≡ 0
taken_open d e =
    let last = lines_last d.lines e in
    sym d.tail.counts ∙ no_tail d.tail.lines (omega arith)

-- a detected indentation is that of the first content line
first_there : (x : List ℕ) (c : ℕ) → 0 < length x → get_or x 0 0 ≢ 32 → (ls : List (List ℕ)) → StartsUnspaced (x ∷ ls)
first_there [] c l n ls = absurd (omega arith)
first_there (d ∷ x) c l n ls = n

first_byte : {t : List ℕ} {n : ℤ} {i k h : ℕ} → IsUtf8 t → IndentedLine t n i k → i + k < h → get_or (slice_range t (i + k) h) 0 0 ≢ 32
first_byte {t} {n} {i} {k} {h} u d l e =
    ⊎_elim (λ (w : i + k < length t).
    let room : 0 < h - (i + k) = omega arith in
    let same : get_or (slice_range t (i + k) h) 0 0 ≡ get_or t (i + k) 0 =
    get_or-take (h - (i + k)) (drop (i + k) t) 0 0 room ∙ get_or-drop (i + k) t 0 0 ∙ ap (λ z. get_or t z 0) (add-zero (i + k)) in
    let byte : get_or t (i + k) 0 ≡ 32 = sym same ∙ e in
    d.other.no_space (code_from_byte t (i + k) u w (omega arith) ∙ byte))
    (λ (w : length t ≤ i + k). d.other.inside (code-past t (i + k) w)) (cases_lt (i + k) (length t))

content_unspaced : {t : List ℕ} {n : ℤ} {i k j : ℕ} {x : List ℕ} {o : Bool} (ls : List (List ℕ)) → IsUtf8 t → IndentedLine t n i k → LineContent t k i j x o → StartsUnspaced (x ∷ ls)
content_unspaced {t} {n} {i} {k} ls u d (content {h = h} s m l q c) =
    first_there (slice_range t (i + k) h) 0 (content_text (content s m l q c)) (first_byte u d l) ls

line_unspaced : {t : List ℕ} {n : ℤ} {i k j : ℕ} {x : List (List ℕ)} (ls : List (List ℕ)) → IsUtf8 t → IndentedLine t n i k → Line t k i j x → StartsUnspaced (x ++ ls)
line_unspaced ls u d (empty_line {j = j} {m = m} a l) = absurd ((indented_stuck d).none j (m ∷ []) (bare m a))
line_unspaced ls u d (content_line c) = content_unspaced ls u d c

ends_rest : (ls : List (List ℕ)) → EndsWithContent ([] ∷ ls) → EndsWithContent ls
ends_rest [] n = absurd (n refl)
ends_rest (y ∷ ls) e = e

unspaced_step : {t : List ℕ} {i h g k : ℕ} {x : List ℕ} {z : List (List ℕ)} (y : List ℕ) (ls : List (List ℕ)) → EmptyLines t i h x → largest (x ++ y) ≤ k → Line t k i g z
    → EndsWithContent (z ++ ls) → (h ≡ g → largest y ≤ k → EndsWithContent ls → StartsUnspaced ls) → StartsUnspaced (z ++ ls)
unspaced_step y ls (bare m a) w (empty_line b l) e f = f (space_line_unique a b) (omega arith) (ends_rest ls e)
unspaced_step y ls (bare m a) w (content_line c) e f = absurd (not_empty_too a (omega arith) c)

unspaced_from : {t : List ℕ} {n : ℤ} {i h k j : ℕ} {ms : List ℕ} {ls : List (List ℕ)} → IsUtf8 t → Chain (EmptyLines t) i h ms → largest ms ≤ k → IndentedLine t n h k
    → Chain (Line t k) i j ls → EndsWithContent ls → StartsUnspaced ls
unspaced_from u done w d done e = absurd e
unspaced_from u done w d (step {y = ls} l c) e = line_unspaced ls u d l
unspaced_from u (step s b) w d done e = absurd e
unspaced_from {t} {n} {i} {h} {k} {j} u (step {h = g} {y = ms} s b) w d (step {h = f} {y = ls} l c) e =
    unspaced_step ms ls s w l e (λ same low ends. unspaced_from u b low d (subst (λ v. Chain (Line t k) v j ls) (sym same) c) ends)

-- the scalar of a header
pub record Scalar (h : Header) (v : BodyValue) : Type 0 where
  pub lines : AreLineTexts v.lines
  pub last : EndsWithContent v.lines
  pub first : h.digit ≡ None → StartsUnspaced v.lines
  pub follows : v.open_end ≡ true → v.tail ≡ 0

pub body_scalar : {t : List ℕ} {n : ℤ} {h : Header} {i j : ℕ} {v : BodyValue} → IsUtf8 t → Body t n h i j v → v.lines ≢ [] → Scalar h v
body_scalar u (indicated e a b) n = record {
  lines = chain_texts u (lines_chain a.lines);
  last = lines_end a.lines n;
  first = λ f. cc;
  follows = taken_open a;
}
body_scalar u (detected e f a b) n = record {
  lines = chain_texts u (lines_chain a.lines);
  last = lines_end a.lines n;
  first = λ _. unspaced_from u f.before f.within f.first (lines_chain a.lines) (lines_end a.lines n);
  follows = taken_open a;
}
body_scalar u (without_content e c s b) n = absurd (n refl)

no_comment_text : (c : Option Comment) → c ≡ None → IsCommentText c
no_comment_text None e = tt
no_comment_text (Some c) e = cc

pub to_scalar : {t : List ℕ} {n : ℤ} {h : Header} {i j : ℕ} (b : BlockText) → IsUtf8 t → b.header ≡ h → b.comment ≡ None → Body t n h i j (body_value b) → b.lines ≢ [] → IsScalar b
to_scalar b u same none body full =
    let s = body_scalar u body full in
    record {
      lines = s.lines;
      last = s.last;
      first = λ e. s.first (sym (ap (λ (w : Header). w.digit) same) ∙ e);
      comment = no_comment_text b.comment none;
      follows = s.follows;
    }

pub hash_text : {t : List ℕ} {j : ℕ} {x : List ℕ} (i : ℕ) → IsUtf8 t → code t i ≡ 35 → Many t is_nb_char (i + 1) j x
    → (y : List ℕ) × ((slice_range t i j ≡ 35 ∷ y) × IsLineText y)
hash_text {t} {j} {x} i u e m =
    let nb : is_nb_char (code t i) ≡ true = ap is_nb_char e ∙ hash_nb in
    let one_long : next t i ≡ i + 1 = next_ascii t i (omega arith) in
    let m' : Many t is_nb_char (next t i) j x = subst (λ w. Many t is_nb_char w j x) (sym one_long) m in
    let whole : Many t is_nb_char i j (code t i ∷ [] ++ x) = step (one nb) m' in
    let b = many_bytes u whole in
    (encodes x, (b.0 ∙ ap (λ w. encode w ++ encodes x) e ∙ ap (λ w. w ++ encodes x) (encode_ascii 35 (omega arith)), record { chars = x; bytes = refl; each = b.1.1 }))

-- the comments of a line's rest
abbrev AreTexts : List CommentValue → Type 0
AreTexts [] = Unit {0}
AreTexts (v ∷ vs) = (y : List ℕ) × ((v.text ≡ 35 ∷ y) × IsLineText y)

text_hashed : {t : List ℕ} {i j : ℕ} {x : List CommentValue} → IsUtf8 t → CommentText t i j x → AreTexts x
text_hashed u (comment_text {i = i} e m n) = hash_text i u e m

rest_texts : {t : List ℕ} {i j : ℕ} {x : List CommentValue} → IsUtf8 t → LineRest t i j x → AreTexts x
rest_texts u (nothing e) = tt
rest_texts u (whites s e) = tt
rest_texts u (comment s d e) = text_hashed u d

pub rest_comment : {t : List ℕ} {i j : ℕ} (c : Option Comment) → IsUtf8 t → LineRest t i j (row_comments c) → IsCommentText c
rest_comment None u r = tt
rest_comment (Some c) u r = rest_texts u r
