-- Each comment of a gap in a text, and what follows the gap, note whether a blank line was printed before them.
use Rattle.std.proofs.Common.{Some, zero-add, ◌≡◌, ℕ, zero, suc, ◌+◌, ◌≤◌, Bool, true, false, List, [], ◌∷◌, ◌++◌, refl, sym, ap, ◌∙◌, subst, arith, add-zero}
use Rattle.std.specs.Prelude.{◌&&◌}
use Rattle.std.specs.Str.{IsUtf8}
use Rattle.yf_chars.specs.Class.{is_white, is_break_char}
use Rattle.yf_chars.specs.Text.{code, next}
use Rattle.yf_chars.proofs.TextLemmas.{next_ascii}
use Rattle.yf_lines.specs.Basic.{Spaces}
use Rattle.yf_comments.specs.Comment.{CommentValue}
use Rattle.yf_comments.specs.Comments.{Blank, is_gap}
use Rattle.yf_comments.specs.GapLines.{GapLine, remark}
use Rattle.yf_comments.proofs.BlankLemmas.{gap_below, not_last, same_place}
use Rattle.yf_grammar.specs.Productions.ReadParts.{BlankSince, NotedSince}
use Rattle.yf_grammar.specs.Productions.ReadParts.BlankSince.{blank_line, past_gap}
use Rattle.yf_grammar.specs.Productions.ReadParts.NotedSince.{noted, not_noted}
use Rattle.yf_grammar.proofs.Ends.SinceKnown.{since_before, SinceView, since_view}
use Rattle.yf_grammar.proofs.Ends.SinceKnown.SinceView.{line_view, gap_view}
use Rattle.yf_laws.specs.Layouts.Decorated.{blank_if}
use Rattle.yf_laws.specs.Layouts.Layout.{may_be_blank_after}
use Rattle.yf_forms.specs.Nodes.Lines.{trimmed}
use Rattle.yf_print.specs.Layouts.Rows.{Ending, anywhere}
use Rattle.yf_laws.proofs.ReadAgain.GapsAgain.{Blanks, gap_ends, gap_blank, gap_remark, gap_more, gap_with, trimmed_twice}
use Rattle.yf_laws.proofs.ReadAgain.GapsInText.{GapIsAt, gap_over, blank_is_at, remark_is_at}
use Rattle.yf_print.specs.Layouts.KeptColumns.{Columns}
use Rattle.yf_print.specs.Layouts.SourceColumns.{own_column}
use Rattle.yf_laws.proofs.Columns.SourceColumns.{column_spaces}
use Rattle.yf_chars.proofs.CharFacts.{space_white}

-- comments with their notes over a floor
pub data NotedOver (t : List ℕ) (f : ℕ) : List CommentValue → List CommentValue → Type 0 where
  none_over : NotedOver t f [] []
  one_over : {c : CommentValue} {cs ns : List CommentValue} {b : Bool} → NotedSince t f c.offset b → NotedOver t f cs ns → NotedOver t f (c ∷ cs) (record c { blank_before = b } ∷ ns)

-- for a laid-out row and the row found for it at q, whether a blank line is before each: for the found row as noted if
-- it begins with an entry, and otherwise for neither
pub data HeadNote (t : List ℕ) (f q : ℕ) : Bool → Bool → Type 0 where
  bare_head : HeadNote t f q false false
  entry_head : {a b : Bool} → NotedSince t f q b → HeadNote t f q a b

noted_true : {t : List ℕ} {f i : ℕ} {b : Bool} → NotedSince t f i b → BlankSince t f i → b ≡ true
noted_true (noted d) e = refl
noted_true (not_noted n) e = absurd (n e)

noted_false : {t : List ℕ} {f i : ℕ} {b : Bool} → NotedSince t f i b → (BlankSince t f i → ⊥) → b ≡ false
noted_false (noted d) n = absurd (n d)
noted_false (not_noted m) n = refl

-- Over spaces.

spaces_tail : {t : List ℕ} {i k : ℕ} → Spaces t i (suc k) → Spaces t (i + 1) k
spaces_tail {t} {i} s = record { each = λ m l. let there : i + 1 + m ≡ i + suc m = omega arith in ap (code t) there ∙ s.each (suc m) (omega (arith, l)) }

first_space : {t : List ℕ} {i k : ℕ} → Spaces t i (suc k) → code t i ≡ 32
first_space {t} {i} s = ap (code t) (sym (add-zero i)) ∙ s.each 0 (omega arith)

space_gap : (c : ℕ) → c ≡ 32 → is_gap c ≡ true
unfolding is_gap is_white is_break_char
space_gap c e = ap is_gap e

since_past : {t : List ℕ} {f : ℕ} (k i : ℕ) → Spaces t i k → BlankSince t f i → BlankSince t f (i + k)
since_past {t} {f} zero i s d = subst (λ z. BlankSince t f z) (sym (add-zero i)) d
since_past {t} {f} (suc k) i s d =
    let e = first_space s in
    let one : BlankSince t f (i + 1) = subst (λ z. BlankSince t f z) (next_ascii t i (omega (arith, e))) (past_gap d (space_gap (code t i) e)) in
    let end : i + 1 + k ≡ i + suc k = omega arith in
    subst (λ z. BlankSince t f z) end (since_past k (i + 1) (spaces_tail s) one)

one_back : {t : List ℕ} {f q : ℕ} → IsUtf8 t → code t q ≡ 32 → BlankSince t f (q + 1) → BlankSince t f q
one_back {t} {f} {q} u e d = by (since_view d) where
  place : next t q ≡ q + 1
  place = next_ascii t q (omega (arith, e))

  by : SinceView t f (q + 1) → BlankSince t f q
  by (line_view i m b k) = absurd (not_last t u q (omega (arith, e)) place (λ z. omega (arith, e, z)) (λ z. omega (arith, e, z)) k)
  by (gap_view i c v w) = subst (λ z. BlankSince t f z) (same_place t i q u (gap_below (code t i) v) (omega (arith, e)) (w ∙ sym place)) c

since_back : {t : List ℕ} {f : ℕ} (k i : ℕ) → IsUtf8 t → Spaces t i k → BlankSince t f (i + k) → BlankSince t f i
since_back {t} {f} zero i u s d = subst (λ z. BlankSince t f z) (add-zero i) d
since_back {t} {f} (suc k) i u s d =
    let end : i + suc k ≡ i + 1 + k = omega arith in
    one_back u (first_space s) (since_back k (i + 1) u (spaces_tail s) (subst (λ z. BlankSince t f z) end d))

-- The last line.

last_noted : {t : List ℕ} {f i j : ℕ} {b : Bool} {cs ns : List CommentValue} (may a : Bool) → IsUtf8 t → GapIsAt t i (blank_if (may && a)) cs j → Blank t i → f ≤ i → (BlankSince t f i → ⊥) → NotedOver t f cs ns
    → (k : ℕ) → Spaces t j k → HeadNote t f (j + k) a b → Blanks t may false (blank_if (may && a)) ns b
last_noted {i = i} true true u (blank_is_at br gap_over) line l none none_over k s (entry_head n) = gap_blank (gap_ends (noted_true n (since_past k (i + 1) s (blank_line l line br))))
last_noted true false u gap_over line l none none_over k s bare_head = gap_ends refl
last_noted {i = i} true false u gap_over line l none none_over k s (entry_head n) = gap_ends (noted_false n (λ d. none (since_back k i u s d)))
last_noted false a u gap_over line l none none_over k s bare_head = gap_ends refl
last_noted {i = i} false a u gap_over line l none none_over k s (entry_head n) = gap_ends (noted_false n (λ d. none (since_back k i u s d)))

-- A comment, after a blank line or directly.

remark_noted : {t : List ℕ} {f i j : ℕ} {b : Bool} {text : List ℕ} {gs : List GapLine} {cs ns : List CommentValue} (column : ℕ) (may a : Bool) → IsUtf8 t → trimmed text ≡ text → GapIsAt t i (blank_if (may && a) ++ (remark column text ∷ gs)) cs j
    → Blank t i → f ≤ i → (BlankSince t f i → ⊥) → NotedOver t f cs ns
    → ((k : ℕ) (es ms : List CommentValue) → GapIsAt t k gs es j → Blank t k → f ≤ k → (BlankSince t f k → ⊥) → NotedOver t f es ms → Blanks t true false gs ms b)
    → Blanks t may false (blank_if (may && a) ++ (remark column text ∷ gs)) ns b
remark_noted {t} {f} {i} column true true u e (blank_is_at br (remark_is_at {k = k} w s o q m z n rest)) line l none (one_over {cs = es} {ns = ms} {b = note} d ds) more =
    gap_blank (gap_remark (ap trimmed q ∙ e) (noted_true (subst (λ p. NotedSince t f p note) o d) (since_past column (i + 1) s (blank_line l line br))) (ap (own_column t) o ∙ (column_spaces is_white space_white s w ∙ ap Some (zero-add column))) (more k es ms rest z (omega (arith, l, m)) (λ v. n (since_before v)) ds))
remark_noted {t} {f} {i} column true false u e (remark_is_at {k = k} w s o q m z n rest) line l none (one_over {cs = es} {ns = ms} {b = note} d ds) more =
    gap_remark (ap trimmed q ∙ e) (noted_false (subst (λ p. NotedSince t f p note) o d) (λ y. none (since_back column i u s y))) (ap (own_column t) o ∙ (column_spaces is_white space_white s w ∙ ap Some (zero-add column))) (more k es ms rest z (omega (arith, l, m)) (λ v. n (since_before v)) ds)
remark_noted {t} {f} {i} column false a u e (remark_is_at {k = k} w s o q m z n rest) line l none (one_over {cs = es} {ns = ms} {b = note} d ds) more =
    gap_remark (ap trimmed q ∙ e) (noted_false (subst (λ p. NotedSince t f p note) o d) (λ y. none (since_back column i u s y))) (ap (own_column t) o ∙ (column_spaces is_white space_white s w ∙ ap Some (zero-add column))) (more k es ms rest z (omega (arith, l, m)) (λ v. n (since_before v)) ds)

-- for a gap that was laid out so, before a row that is k spaces after it
pub gap_noted : (g : Columns) {t : List ℕ} {f i j : ℕ} {b : Bool} {cs ns : List CommentValue} (e : Ending) (column : ℕ) (hs : List CommentValue) (a : Bool) → IsUtf8 t → GapIsAt t i (gap_with g e column hs a) cs j → Blank t i → f ≤ i
    → (BlankSince t f i → ⊥) → NotedOver t f cs ns → (k : ℕ) → Spaces t j k → HeadNote t f (j + k) a b → Blanks t (may_be_blank_after e) false (gap_with g e column hs a) ns b
gap_noted g e column [] a u is_there line l none notes k s n = last_noted (may_be_blank_after e) a u is_there line l none notes k s n
gap_noted g {t} {f} {i} {j} {b} {cs} {ns} e column (h ∷ hs) a u is_there line l none notes k s n =
    subst (λ z. Blanks t (may_be_blank_after e) false z ns b) (sym (gap_more g e column h hs a))
    (remark_noted (g h column) (may_be_blank_after e) h.blank_before u (trimmed_twice h.text) (subst (λ z. GapIsAt t i z cs j) (gap_more g e column h hs a) is_there) line l none notes
    (λ p es ms rest w m nothing others. gap_noted g anywhere column hs a u rest w m nothing others k s n))
