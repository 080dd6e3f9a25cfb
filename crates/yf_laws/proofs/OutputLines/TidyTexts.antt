-- Texts that don't end with white space: comments as they are printed; and lines of a text with such a text.
use Rattle.std.proofs.Common.{◌≡◌, ◌≢◌, ℕ, zero, suc, ◌+◌, ◌-◌, ◌<◌, ◌⊎◌, inl, inr, ⊎_elim, Bool, true, false, true≢false, List, [], ◌∷◌, ◌++◌, length, get_or, get_or-drop, length-append, refl, sym, ap, ◌∙◌, arith}
use Rattle.std.specs.Prelude.{◌&&◌, if◌then◌else◌, map, filter}
use Rattle.std.specs.List.{list_all}
use Rattle.std.specs.Str.{IsUtf8}
use Rattle.std.proofs.lemmas.Bool.{cases_Bool}
use Rattle.std.proofs.lemmas.List.{length-drop}
use Rattle.yf_chars.specs.Class.{is_white}
use Rattle.yf_chars.specs.Text.{code, last_or}
use Rattle.yf_chars.proofs.TextLemmas.{byte_from_code, code_from_byte}
use Rattle.yf_lines.specs.declared.line.Line.{Line}
use Rattle.yf_lines.proofs.BasicLemmas.{white_below}
use Rattle.yf_comments.specs.Comment.{CommentValue}
use Rattle.yf_comments.specs.GapLines.{GapLine, blank, remark}
use Rattle.yf_laws.specs.Layouts.Decorated.{Deco, blank_if, comments_left, decos_of, ending_after, gap_of, remarks_after}
use Rattle.yf_laws.specs.Layouts.Layout.{Source, may_be_blank_after, precedes_item, trailing}
use Rattle.yf_forms.specs.Nodes.Lines.{trimmed}
use Rattle.yf_print.specs.Layouts.Rows.{Row, Ending, anywhere}
use Rattle.yf_laws.proofs.OutputLines.LaidLines.{LineIs}
use Rattle.yf_print.specs.Layouts.KeptColumns.{Columns}

-- no text, or one that doesn't end with white space
abbrev pub IsTidy : List ℕ → Type 0
IsTidy w = (w ≡ []) ⊎ (is_white (last_or 0 w) ≡ false)

all_white : (w : List ℕ) → trimmed w ≡ [] → list_all is_white w ≡ true
all_white [] e = refl
all_white (b ∷ w) e = go (list_all is_white (b ∷ w)) refl e where
  go : (p : Bool) → list_all is_white (b ∷ w) ≡ p → (if p then [] else b ∷ trimmed w) ≡ [] → list_all is_white (b ∷ w) ≡ true
  go true f e = f
  go false f e = cc

visible_first : (a b : Bool) → b ≡ true → (a && b) ≡ false → a ≡ false
visible_first true b e f = absurd (true≢false (sym e ∙ f))
visible_first false b e f = refl

tidy_further : (b : ℕ) (w v : List ℕ) → trimmed w ≡ v → IsTidy v → list_all is_white (b ∷ w) ≡ false → IsTidy (b ∷ v)
tidy_further b w [] e a f = inr (visible_first (is_white b) (list_all is_white w) (all_white w e) f)
tidy_further b w (c ∷ v) e (inl z) f = absurd cc
tidy_further b w (c ∷ v) e (inr n) f = inr n

tidy_choice : (b : ℕ) (w : List ℕ) (p : Bool) → list_all is_white (b ∷ w) ≡ p → IsTidy (trimmed w) → IsTidy (if p then [] else b ∷ trimmed w)
tidy_choice b w true e a = inl refl
tidy_choice b w false e a = tidy_further b w (trimmed w) refl a e

pub trimmed_tidy : (w : List ℕ) → IsTidy (trimmed w)
trimmed_tidy [] = inl refl
trimmed_tidy (b ∷ w) = tidy_choice b w (list_all is_white (b ∷ w)) refl (trimmed_tidy w)

pub last_append : (d : ℕ) (x y : List ℕ) → y ≢ [] → last_or d (x ++ y) ≡ last_or 0 y
last_append d [] [] n = absurd (n refl)
last_append d [] (c ∷ y) n = refl
last_append d (c ∷ x) y n = last_append c x y n

-- What comments carry.

-- each remark is tidy
abbrev pub TidyGap : List GapLine → Type 0
TidyGap [] = Unit {0}
TidyGap (blank ∷ gs) = TidyGap gs
TidyGap (remark column text ∷ gs) = IsTidy text × TidyGap gs

abbrev pub TidyTrails : List (List ℕ) → Type 0
TidyTrails [] = Unit {0}
TidyTrails (x ∷ xs) = IsTidy x × TidyTrails xs

pub data TidyDecos : List Deco → Type 0 where
  none_tidy : TidyDecos []
  more_tidy : {d : Deco} {ds : List Deco} → TidyTrails d.trails → TidyGap d.gap → TidyDecos ds → TidyDecos (d ∷ ds)

gap_join : (xs ys : List GapLine) → TidyGap xs → TidyGap ys → TidyGap (xs ++ ys)
gap_join [] ys a b = b
gap_join (blank ∷ xs) ys a b = gap_join xs ys a b
gap_join (remark column text ∷ xs) ys a b = (a.0, gap_join xs ys a.1 b)

blank_tidy : (b : Bool) → TidyGap (blank_if b)
blank_tidy true = tt
blank_tidy false = tt

remarks_tidy : (g : Columns) (before : Ending) (column : ℕ) (cs : List CommentValue) → TidyGap (remarks_after g before column cs)
remarks_tidy g before column [] = tt
remarks_tidy g before column (c ∷ cs) =
    gap_join (blank_if (may_be_blank_after before && c.blank_before)) (remark (g c column) (trimmed c.text) ∷ remarks_after g anywhere column cs)
    (blank_tidy (may_be_blank_after before && c.blank_before)) (trimmed_tidy c.text, remarks_tidy g anywhere column cs)

pub gap_tidy : (g : Columns) (before : Ending) (cs : List CommentValue) (rows : List Row) → TidyGap (gap_of g before cs rows)
gap_tidy g before cs [] = remarks_tidy g before 0 cs
gap_tidy g before cs (row ∷ rows) =
    gap_join (remarks_after g before row.column (filter (precedes_item row) cs)) (blank_if (may_be_blank_after (ending_after before (filter (precedes_item row) cs)) && row.blank_before))
    (remarks_tidy g before row.column (filter (precedes_item row) cs)) (blank_tidy (may_be_blank_after (ending_after before (filter (precedes_item row) cs)) && row.blank_before))

trails_tidy : (cs : List CommentValue) → TidyTrails (map (λ (d : CommentValue). trimmed d.text) cs)
trails_tidy [] = tt
trails_tidy (c ∷ cs) = (trimmed_tidy c.text, trails_tidy cs)

pub decos_tidy : (g : Columns) (c : Source) (cs : List CommentValue) (rows : List Row) → TidyDecos (decos_of g c cs rows)
decos_tidy g c cs [] = none_tidy
decos_tidy g c cs (row ∷ rows) = more_tidy (trails_tidy (trailing c row)) (gap_tidy g row.ending (comments_left row cs) rows) (decos_tidy g c (comments_left row cs) rows)

-- Lines.

first_bytes : (w r : List ℕ) (k : ℕ) → k < length w → get_or (w ++ r) k 0 ≡ get_or w k 0
first_bytes [] r k l = absurd (omega (arith, l))
first_bytes (c ∷ w) r zero l = refl
first_bytes (c ∷ w) r (suc k) l = first_bytes w r k (omega (arith, l))

last_byte : (c : ℕ) (w : List ℕ) → get_or (c ∷ w) (length w) 0 ≡ last_or c w
last_byte c [] = refl
last_byte c (b ∷ w) = last_byte b w

-- the last byte of a line
line_last : {t : List ℕ} {l : Line} (c : ℕ) (w : List ℕ) → LineIs t l (c ∷ w) → get_or t (l.end - 1) 0 ≡ last_or c w
line_last {t} {l} c w a =
    let end = a.end in
    let place : l.start + length w ≡ l.end - 1 = omega (arith, end) in
    ap (λ k. get_or t k 0) (sym place)
    ∙ (sym (get_or-drop l.start t (length w) 0) ∙ (ap (λ z. get_or z (length w) 0) a.there.bytes ∙ (first_bytes (c ∷ w) (10 ∷ a.follows) (length w) (omega arith) ∙ last_byte c w)))

-- a line with text that doesn't end with white space
pub line_tidy : {t : List ℕ} {l : Line} {x : List ℕ} → IsUtf8 t → LineIs t l x → x ≢ [] → is_white (last_or 0 x) ≡ false → is_white (code t (l.end - 1)) ≡ false
line_tidy {x = []} u a some n = absurd (some refl)
line_tidy {t} {l} {x = c ∷ w} u a some n =
    ⊎_elim (λ (e : is_white (code t (l.end - 1)) ≡ true).
    let byte = byte_from_code t (l.end - 1) u (white_below (code t (l.end - 1)) e) in
    absurd (true≢false (sym e ∙ (ap is_white (sym byte.1 ∙ line_last c w a) ∙ n))))
    (λ (e : is_white (code t (l.end - 1)) ≡ false). e) (cases_Bool (is_white (code t (l.end - 1))))

-- and conversely
pub tidy_line : {t : List ℕ} {l : Line} {x : List ℕ} → IsUtf8 t → LineIs t l x → x ≢ [] → is_white (code t (l.end - 1)) ≡ false → is_white (last_or 0 x) ≡ false
tidy_line {x = []} u a some n = absurd (some refl)
tidy_line {t} {l} {x = c ∷ w} u a some n =
    ⊎_elim (λ (e : is_white (last_or c w) ≡ true).
    let low = white_below (last_or c w) e in
    let last = line_last c w a in
    let end = a.end in
    let size : length t - l.start ≡ length ((c ∷ w) ++ (10 ∷ a.follows)) = sym (length-drop l.start t) ∙ ap length a.there.bytes in
    let within : l.end - 1 < length t = omega (arith, end, size, length-append (c ∷ w) (10 ∷ a.follows)) in
    let byte : get_or t (l.end - 1) 0 < 128 = omega (arith, low, last) in
    absurd (true≢false (sym e ∙ (ap is_white (sym last ∙ sym (code_from_byte t (l.end - 1) u within byte)) ∙ n))))
    (λ (e : is_white (last_or c w) ≡ false). e) (cases_Bool (is_white (last_or c w)))
