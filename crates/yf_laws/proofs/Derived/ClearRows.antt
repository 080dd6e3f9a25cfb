-- Rows of texts that are not document markers cover no forbidden line, whatever they carry.
use Rattle.std.proofs.Common.{◌≡◌, ◌≢◌, ℕ, zero, suc, ◌+◌, ◌<◌, List, [], ◌∷◌, ◌++◌, length, replicate, refl, sym, ap, ◌∙◌, subst, arith, append_assoc, append-nil, true, drop, length-drop}
use Rattle.std.specs.Str.{IsUtf8}
use Rattle.yf_lines.specs.Basic.{Clear}
use Rattle.yf_lines.specs.LineText.{IsLineText, Follows, is_after_name, is_after_text}
use Rattle.yf_lines.specs.LineText.Follows.{byte_follows}
use Rattle.yf_lines.proofs.BasicLemmas.{clear_join, clear_nothing}
use Rattle.yf_lines.proofs.ClearLemmas.{not_forbidden, clear_break}
use Rattle.yf_lines.proofs.RestLemmas.{Rest, rest_ascii, rest_text, rest_break, text_clear, line_nothing, line_append, line_ascii}
use Rattle.yf_comments.specs.GapLines.{IsRemark, AreGapLines}
pub use Rattle.yf_grammar.proofs.WrittenTexts.PlainUnmarked.{unmarked_nothing}
use Rattle.yf_laws.specs.Layouts.RowComments.{AreTrails, IsDeco, AreDecos}
use Rattle.yf_laws.specs.Layouts.Decorated.{GapLine, blank, remark, gap_then, Deco, first, after, trails_then, body_then, end_then, lines_then}
use Rattle.yf_laws.specs.Layouts.ReadableTrees.{IsNoMarker}
use Rattle.yf_print.specs.Layouts.Rows.{Row}
use Rattle.yf_laws.proofs.Derived.RowEnds.{first_deco, after_decos}
use Rattle.yf_laws.proofs.OutputLines.SeenTexts.{IsSeen}
use Rattle.yf_chars.proofs.CharFacts.{hash_nb, space_nb}

-- Texts that are not markers.

pub unmarked_first : (c : ℕ) (x : List ℕ) → c < 128 → c ≢ 13 → c ≢ 45 → c ≢ 46 → IsNoMarker (c ∷ x)
unmarked_first c x l cr dash dot = record {
  none = λ {t} q r u f s n.
      let e = (rest_ascii c u l cr s).0.char in
      not_forbidden t q (λ g. dash (sym e ∙ g)) (λ g. dot (sym e ∙ g)) n;
}

pub unmarked_more : {w : List ℕ} (c : ℕ) (z : List ℕ) → IsNoMarker w → c < 128 → is_after_text c ≡ true → IsNoMarker (w ++ (c ∷ z))
unmarked_more {w} c z a l e = record { none = λ {t} q r u f s n. a.none q (c ∷ (z ++ r)) u (byte_follows l e) (subst (λ v. Rest t q v) (append_assoc w (c ∷ z) r) s) n }

pub unmarked_indented : (k : ℕ) {w : List ℕ} → IsNoMarker w → IsNoMarker (replicate k 32 ++ w)
unmarked_indented zero a = a
unmarked_indented (suc k) {w} a = unmarked_first 32 (replicate k 32 ++ w) (omega arith) (λ e. omega arith) (λ e. omega arith) (λ e. omega arith)

pub line_indented : (k : ℕ) {w : List ℕ} → IsLineText w → IsLineText (replicate k 32 ++ w)
line_indented zero a = a
line_indented (suc k) a = line_ascii 32 (omega arith) space_nb (line_indented k a)

pub remark_line : {text : List ℕ} → IsRemark text → IsLineText text
remark_line a = subst (λ w. IsLineText w) (sym a.is) (line_ascii 35 (omega arith) hash_nb a.line)

pub remark_unmarked : {text : List ℕ} → IsRemark text → IsNoMarker text
remark_unmarked a = subst (λ w. IsNoMarker w) (sym a.is) (unmarked_first 35 a.follows (omega arith) (λ e. omega arith) (λ e. omega arith) (λ e. omega arith))

-- Lines.

pub record ClearTo (t : List ℕ) (q : ℕ) (r : List ℕ) : Type 0 where
  pub place : ℕ
  pub clear : Clear t q place
  pub rest : Rest t place r

pub feed_follows : {r : List ℕ} → Follows is_after_text (10 ∷ r)
unfolding is_after_text is_after_name
feed_follows = byte_follows (omega arith) refl

pub space_is_after : is_after_text 32 ≡ true
unfolding is_after_text is_after_name
space_is_after = refl

line_clear : {t : List ℕ} (w r : List ℕ) {q : ℕ} → IsUtf8 t → IsLineText w → IsNoMarker w → Rest t q (w ++ (10 ∷ r)) → ClearTo t q r
line_clear {t} w r {q} u l a s =
    let at = rest_text w u l s in
    let end = rest_break u at.rest in
    record { place = q + length w + 1; clear = clear_join (text_clear at (a.none q (10 ∷ r) u feed_follows s)) (clear_break end.0); rest = end.1 }

-- for a line from an offset after its first character on, whatever its text
line_rest_clear : {t : List ℕ} (k : ℕ) (w r : List ℕ) {q : ℕ} → IsUtf8 t → IsLineText w → 0 < k → Rest t q (w ++ (10 ∷ r)) → ClearTo t (q + k) r
line_rest_clear {t} k w r {q} u l some s =
    let at = rest_text w u l s in
    let end = rest_break u at.rest in
    record {
      place = q + length w + 1;
      clear = record { none = λ h a b f. at.quiet.none h (omega arith) (omega arith) f.start };
      rest = end.1;
    }

also : {t : List ℕ} {q : ℕ} {r z : List ℕ} (a : ClearTo t q r) → ClearTo t a.place z → ClearTo t q z
also a b = record { place = b.place; clear = clear_join a.clear b.clear; rest = b.rest }

gap_clear : {t : List ℕ} (gap : List GapLine) (r : List ℕ) {q : ℕ} → IsUtf8 t → AreGapLines gap → Rest t q (gap_then gap r) → ClearTo t q r
gap_clear {t} [] r {q} u a s = record { place = q; clear = clear_nothing t q; rest = s }
gap_clear (blank ∷ gs) r u a s = let one = line_clear [] (gap_then gs r) u line_nothing unmarked_nothing s in also one (gap_clear gs r u a one.rest)
gap_clear {t} (remark column text ∷ gs) r {q} u a s =
    let one = line_clear (replicate column 32 ++ text) (gap_then gs r) u (line_indented column (remark_line a.0)) (unmarked_indented column (remark_unmarked a.0))
    (subst (λ v. Rest t q v) (sym (append_assoc (replicate column 32) text (10 ∷ gap_then gs r))) s) in
    also one (gap_clear gs r u a.1 one.rest)

-- the lines of a block scalar
pub data AreBodyTexts : List (List ℕ) → Type 0 where
  no_body_text : AreBodyTexts []
  body_text : {x : List ℕ} {xs : List (List ℕ)} → IsLineText x → IsNoMarker x → AreBodyTexts xs → AreBodyTexts (x ∷ xs)

body_clear : {t : List ℕ} {xs : List (List ℕ)} (r : List ℕ) {q : ℕ} → IsUtf8 t → AreBodyTexts xs → Rest t q (body_then xs r) → ClearTo t q r
body_clear {t} r {q} u no_body_text s = record { place = q; clear = clear_nothing t q; rest = s }
body_clear r u (body_text {x = x} {xs = xs} l n more) s = let one = line_clear x (body_then xs r) u l n s in also one (body_clear r u more one.rest)

-- the end of a row's text with the comment that trails it
abbrev pub trails_bytes : List (List ℕ) → List ℕ
trails_bytes [] = []
trails_bytes (x ∷ xs) = 32 ∷ 32 ∷ (x ++ trails_bytes xs)

pub trails_are : (xs : List (List ℕ)) (r : List ℕ) → trails_then xs r ≡ trails_bytes xs ++ r
trails_are [] r = refl
trails_are (x ∷ xs) r = ap (λ z. 32 ∷ 32 ∷ z) (ap (λ z. x ++ z) (trails_are xs r) ∙ sym (append_assoc x (trails_bytes xs) r))

pub trails_line : (xs : List (List ℕ)) → AreTrails xs → IsLineText (trails_bytes xs)
trails_line [] a = line_nothing
trails_line (x ∷ []) a = line_ascii 32 (omega arith) space_nb (line_ascii 32 (omega arith) space_nb (line_append (remark_line a) line_nothing))
trails_line (x ∷ y ∷ zs) a = absurd a

pub trails_unmarked : {w : List ℕ} (xs : List (List ℕ)) → IsNoMarker w → IsNoMarker (w ++ trails_bytes xs)
trails_unmarked {w} [] a = subst (λ v. IsNoMarker v) (sym (append-nil w)) a
trails_unmarked (x ∷ xs) a = unmarked_more 32 (32 ∷ (x ++ trails_bytes xs)) a (omega arith) space_is_after

-- after the text of a row's line
rest_of_row : {t : List ℕ} (d : Deco) {body : List (List ℕ)} (r : List ℕ) {q : ℕ} → IsUtf8 t → IsDeco d → AreBodyTexts body → Rest t q (body_then body (gap_then d.gap r)) → ClearTo t q r
rest_of_row d r u a b s = let one = body_clear (gap_then d.gap r) u b s in also one (gap_clear d.gap r u a.gap one.rest)

-- a row's text: on a line of its own, visible from its start, and not a marker
pub record IsRowText (x : Row) : Type 0 where
  pub text : IsLineText x.text
  pub unmarked : IsNoMarker x.text
  pub seen : IsSeen x.text
  pub body : AreBodyTexts x.body

pub data AreRowTexts : List Row → Type 0 where
  no_row_text : AreRowTexts []
  row_text : {x : Row} {xs : List Row} → IsRowText x → AreRowTexts xs → AreRowTexts (x ∷ xs)

row_clear : {t : List ℕ} (x : Row) (d : Deco) (r : List ℕ) {q : ℕ} → IsUtf8 t → IsRowText x → IsDeco d → Rest t q (replicate x.column 32 ++ (x.text ++ end_then d x.body r)) → ClearTo t q r
row_clear {t} x d r {q} u a k s =
    let z : List ℕ = body_then x.body (gap_then d.gap r) in
    let line : replicate x.column 32 ++ (x.text ++ trails_then d.trails (10 ∷ z)) ≡ (replicate x.column 32 ++ (x.text ++ trails_bytes d.trails)) ++ (10 ∷ z) =
    ap (λ v. replicate x.column 32 ++ (x.text ++ v)) (trails_are d.trails (10 ∷ z)) ∙ (ap (λ v. replicate x.column 32 ++ v) (sym (append_assoc x.text (trails_bytes d.trails) (10 ∷ z)))
    ∙ sym (append_assoc (replicate x.column 32) (x.text ++ trails_bytes d.trails) (10 ∷ z))) in
    let one = line_clear (replicate x.column 32 ++ (x.text ++ trails_bytes d.trails)) z u (line_indented x.column (line_append a.text (trails_line d.trails k.trails)))
    (unmarked_indented x.column (trails_unmarked d.trails a.unmarked)) (subst (λ v. Rest t q v) line s) in
    also one (rest_of_row d r u k a.body one.rest)

-- rows from the start of a line
pub rows_clear : {t : List ℕ} {rs : List Row} (ds : List Deco) (r : List ℕ) {q : ℕ} → IsUtf8 t → AreRowTexts rs → AreDecos ds → Rest t q (lines_then rs ds r) → ClearTo t q r
rows_clear {t} ds r {q} u no_row_text k s = record { place = q; clear = clear_nothing t q; rest = s }
rows_clear ds r u (row_text {x = x} {xs = xs} a more) k s =
    let one = row_clear x (first ds) (lines_then xs (after ds) r) u a (first_deco k) s in
    also one (rows_clear (after ds) r u more (after_decos k) one.rest)

-- from within the line of a text without a body, and rows after it
pub rows_clear_after : {t : List ℕ} {rs : List Row} (w : List ℕ) (k : ℕ) (ds : List Deco) (r : List ℕ) {q : ℕ} → IsUtf8 t → IsLineText w → 0 < k → AreRowTexts rs → AreDecos ds
    → Rest t q (w ++ end_then (first ds) [] (lines_then rs (after ds) r)) → ClearTo t (q + k) r
rows_clear_after {t} {rs} w k ds r {q} u l some a d s =
    let z : List ℕ = gap_then (first ds).gap (lines_then rs (after ds) r) in
    let line : w ++ trails_then (first ds).trails (10 ∷ z) ≡ (w ++ trails_bytes (first ds).trails) ++ (10 ∷ z) =
    ap (λ v. w ++ v) (trails_are (first ds).trails (10 ∷ z)) ∙ sym (append_assoc w (trails_bytes (first ds).trails) (10 ∷ z)) in
    let one = line_rest_clear k (w ++ trails_bytes (first ds).trails) z u (line_append l (trails_line (first ds).trails (first_deco d).trails)) some (subst (λ v. Rest t q v) line s) in
    let two = also one (gap_clear (first ds).gap (lines_then rs (after ds) r) u (first_deco d).gap one.rest) in
    also two (rows_clear (after ds) r u a (after_decos d) two.rest)

-- the rest of a text determines its offset
pub place_of_rest : {t : List ℕ} {i j : ℕ} {r : List ℕ} → Rest t i r → Rest t j r → i ≡ j
place_of_rest {t} {i} {j} {r} a b =
    let x : length (drop i t) ≡ length r = ap length a.bytes in
    let y : length (drop j t) ≡ length r = ap length b.bytes in
    omega (arith, x, y, length-drop i t, length-drop j t, a.boundary.0, b.boundary.0)
