-- Each line of a layout is a blank one between rows, ends visibly, or is one of the lines of a block scalar of the
-- reading.
use Rattle.std.proofs.Common.{◌≡◌, ◌≢◌, ℕ, zero, suc, ◌+◌, ◌-◌, ◌<◌, ◌⊎◌, inl, inr, ⊎_elim, Bool, true, false, true≢false, List, [], ◌∷◌, ◌++◌, length, drop, get_or, get_or-drop, replicate, encode_utf8, Some, refl, sym, ap, ◌∙◌, subst, arith, append_assoc, append-nil, length-append}
use Rattle.std.proofs.lemmas.Str.{len_utf8_bounds, length-encode}
use Rattle.std.specs.Prelude.{slice_get}
use Rattle.std.specs.Str.{IsUtf8}
use Rattle.yf_chars.specs.Class.{is_white}
use Rattle.yf_chars.specs.Text.{code, last_or}
use Rattle.yf_chars.proofs.TextLemmas.{byte_from_code}
use Rattle.yf_chars.proofs.Tests.{no_item}
use Rattle.yf_lines.specs.Basic.{ForbiddenLine}
use Rattle.yf_lines.specs.Rest.{Rest}
use Rattle.yf_lines.specs.declared.line.Line.{Line}
use Rattle.yf_lines.proofs.RestLemmas.{rest_text}
use Rattle.yf_comments.specs.GapLines.{GapLine, AreGapLines, IsRemark, gap_then}
use Rattle.yf_events.specs.Event.{EventInText}
use Rattle.yf_grammar.proofs.Ends.BlankRuns.{ContentBefore}
use Rattle.yf_grammar.specs.Productions.Unmarked.{IsNoMarker}
use Rattle.yf_laws.specs.Layouts.RowComments.{AreTrails, AreDecos}
use Rattle.yf_laws.specs.Layouts.Decorated.{Deco, first, after, body_then, end_then, lines_then, trails_then}
use Rattle.yf_laws.specs.Layouts.Layout.{may_be_blank_after}
use Rattle.yf_print.specs.Layouts.Rows.{Row}
use Rattle.yf_laws.proofs.Derived.ClearRows.{AreBodyTexts, no_body_text, body_text, IsRowText, feed_follows, place_of_rest, remark_unmarked, trails_bytes, trails_unmarked, unmarked_indented}
use Rattle.yf_laws.proofs.OutputLines.GapSpread.{Spread, spread_end, spread_remark, spread_blank, spread_last, Spreads, more_spreads, next_blank}
use Rattle.yf_laws.proofs.OutputLines.HeldLemmas.{BodiesHeld, BodyHeld, SeenEnd}
use Rattle.yf_laws.proofs.OutputLines.LaidLines.{LineIs, LinesAre, no_lines, more_lines, body_append, gap_is, gap_lines, laid_lines, own_line, row_lines, rows_are}
use Rattle.yf_laws.proofs.OutputLines.LeadRows.{IsLead, LeadRows, lead_more, first_byte, first_joined}
use Rattle.yf_laws.proofs.OutputLines.LineSorts.{Lined, lined_end, lined_more, InScalar, solid_seen, solid_scalar, LineBefore, LineAfter, Sort, between_rows, ends_seen, in_scalar, got_here, got_drop, drop_more, drop_twice}
use Rattle.yf_laws.proofs.Derived.RowEnds.{first_deco, after_decos}
use Rattle.yf_laws.proofs.Derived.RowKinds.{KindRow, a_text, a_marker, KindRows, kind_more, dashes, dots}
use Rattle.yf_laws.proofs.Derived.RowsUtf8.{RowLines, no_rows, row_more}
use Rattle.yf_laws.proofs.OutputLines.SeenTexts.{IsSeen}
use Rattle.yf_laws.proofs.OutputLines.TidyTexts.{IsTidy, TidyDecos, none_tidy, more_tidy, TidyGap, TidyTrails, last_append, line_tidy}
use Rattle.yf_laws.proofs.OutputLines.WellSet.{after_no_white}

remark_some : {w v : List ℕ} → w ≡ 35 ∷ v → w ≡ [] → ⊥
remark_some e f = cc

pub seen_long : {w : List ℕ} → IsSeen w → 0 < length w
seen_long a = let l = ap length a.is in let b = len_utf8_bounds a.char in omega (arith, l, length-append (encode_utf8 a.char) a.follows, length-encode a.char, b)

own_trail : (x : Row) (d : Deco) (y : List ℕ) → d.trails ≡ y ∷ [] → own_line x d ≡ (replicate x.column 32 ++ (x.text ++ (32 ∷ 32 ∷ []))) ++ y
own_trail x d y e =
    ap (λ w. replicate x.column 32 ++ (x.text ++ trails_bytes w)) e
    ∙ (ap (λ w. replicate x.column 32 ++ (x.text ++ (32 ∷ 32 ∷ w))) (append-nil y)
    ∙ (ap (λ w. replicate x.column 32 ++ w) (sym (append_assoc x.text (32 ∷ 32 ∷ []) y)) ∙ sym (append_assoc (replicate x.column 32) (x.text ++ (32 ∷ 32 ∷ [])) y)))

own_long : {t : List ℕ} {l : Line} (x : Row) (d : Deco) → LineIs t l (own_line x d) → 0 < length x.text → l.start < l.end
own_long x d a some =
    let end = a.end in
    omega (arith, end, some, length-append (replicate x.column 32) (x.text ++ trails_bytes d.trails), length-append x.text (trails_bytes d.trails))

-- if nothing trails the text of a row, it ends with the line
untrailed : {t : List ℕ} {l : Line} (x : Row) (d : Deco) (r : List ℕ) → IsUtf8 t → (a : LineIs t l (own_line x d)) → a.follows ≡ body_then x.body (gap_then d.gap r) → d.trails ≡ []
    → SeenEnd t (end_then d x.body r) → ContentBefore t l.end
untrailed {t} {l} x d r u a e f seen =
    let text = rest_text (own_line x d) u a.text a.there in
    let z : List ℕ = body_then x.body (gap_then d.gap r) in
    let there : Rest t seen.at (10 ∷ z) = subst (λ w. Rest t seen.at (trails_then w (10 ∷ z))) f seen.rest in
    let here : Rest t (l.start + length (own_line x d)) (10 ∷ z) = subst (λ v. Rest t (l.start + length (own_line x d)) (10 ∷ v)) e text.rest in
    subst (λ i. ContentBefore t i) (place_of_rest there here ∙ sym a.end) seen.follows

pub first_tidy : {ds : List Deco} → TidyDecos ds → TidyTrails (first ds).trails × TidyGap (first ds).gap
first_tidy none_tidy = (tt, tt)
first_tidy (more_tidy a b more) = (a, b)

pub after_tidy : {ds : List Deco} → TidyDecos ds → TidyDecos (after ds)
after_tidy none_tidy = none_tidy
after_tidy (more_tidy a b more) = more

-- Single lines.

-- a line that ends with a visible character
pub record SeenLine (t : List ℕ) (l : Line) : Type 0 where
  pub ends : is_white (code t (l.end - 1)) ≡ false
  pub some : l.start < l.end

unmarked_there : {t : List ℕ} {l : Line} {x : List ℕ} → IsUtf8 t → IsNoMarker x → LineIs t l x → ForbiddenLine t l.start → ⊥
unmarked_there {l = l} u n a = n.none l.start (10 ∷ a.follows) u feed_follows a.there

first_got : (x z : List ℕ) (c : ℕ) → c ≢ 10 → get_or (x ++ (10 ∷ z)) 0 0 ≡ c → first_byte x ≡ c
first_got [] z c n e = absurd (n (sym e))
first_got (b ∷ x) z c n e = e

first_there : {t : List ℕ} {l : Line} {x : List ℕ} (c : ℕ) → c < 128 → c ≢ 10 → IsUtf8 t → LineIs t l x → code t l.start ≡ c → first_byte x ≡ c
first_there {t} {l} {x} c low n u a e =
    let byte = byte_from_code t l.start u (omega (arith, low, e)) in
    let got : get_or (drop l.start t) 0 0 ≡ get_or t l.start 0 = get_or-drop l.start t 0 0 ∙ ap (λ i. get_or t i 0) (omega arith) in
    first_got x a.follows c n (ap (λ w. get_or w 0 0) (sym a.there.bytes) ∙ (got ∙ (byte.1 ∙ e)))

first_indented : (k : ℕ) (w : List ℕ) → first_byte w ≢ 37 → first_byte (replicate k 32 ++ w) ≢ 37
first_indented zero w n e = n e
first_indented (suc k) w n e = omega (arith, e)

no_percent_there : {t : List ℕ} {l : Line} (k : ℕ) (w : List ℕ) → IsUtf8 t → LineIs t l (replicate k 32 ++ w) → first_byte w ≢ 37 → code t l.start ≢ 37
no_percent_there k w u a n e = first_indented k w n (first_there 37 (omega arith) (λ z. omega (arith, z)) u a e)

remark_no_percent : {text : List ℕ} → IsRemark text → first_byte text ≢ 37
remark_no_percent a e = let f : first_byte (35 ∷ a.follows) ≡ 37 = ap first_byte (sym a.is) ∙ e in omega (arith, f)

-- Walks.

one_on : (k n : ℕ) → suc k + n ≡ k + suc n
one_on k n = omega arith

-- a part of the lines, and those after it
parts_lined : {t : List ℕ} (P : ℕ → Line → List ℕ → Type 0) (xs : List (List ℕ)) (ys : List (List ℕ)) (k : ℕ) (ls : List Line) → LinesAre t ls (xs ++ ys)
    → ((i : ℕ) (l : Line) (x : List ℕ) → slice_get xs i ≡ Some x → LineIs t l x → P (k + i) l x)
    → ((ms : List Line) → LinesAre t ms ys → drop (length xs) ls ≡ ms → Lined P (k + length xs) ms ys) → Lined P k ls (xs ++ ys)
parts_lined P [] ys k ls a f g = subst (λ n. Lined P n ls ys) (omega arith) (g ls a refl)
parts_lined P (x ∷ xs) ys k [] a f g = elim a [ ]
parts_lined P (x ∷ xs) ys k (l ∷ ls) (more_lines b e more) f g =
    lined_more (subst (λ n. P n l x) (omega arith) (f 0 l x refl b))
    (parts_lined P xs ys (suc k) ls more (λ i m y h c. subst (λ n. P n m y) (sym (one_on k i)) (f (suc i) m y h c))
    (λ ms c d. subst (λ n. Lined P n ms ys) (sym (one_on k (length xs))) (g ms c d)))

-- the last line of a block scalar
record LastLine (t : List ℕ) (ls : List Line) (z : List ℕ) (zs : List (List ℕ)) : Type 0 where
  pub line : Line
  pub text : List ℕ
  pub at : slice_get ls (length zs) ≡ Some line
  pub nth : slice_get (z ∷ zs) (length zs) ≡ Some text
  pub is : LineIs t line text
  pub unmarked : IsNoMarker text

pub some_long : {w : List ℕ} → 0 < length w → w ≡ [] → ⊥
some_long {w} l e = let n : length w ≡ 0 = ap length e in omega (arith, l, n)

last_body : {t : List ℕ} (z : List ℕ) (zs texts : List (List ℕ)) (ls : List Line) → LinesAre t ls ((z ∷ zs) ++ texts) → AreBodyTexts (z ∷ zs) → LastLine t ls z zs
last_body z [] texts [] are bodies = elim are [ ]
last_body z [] texts (l ∷ ls) (more_lines a e are) (body_text b n more) = record { line = l; text = z; at = refl; nth = refl; is = a; unmarked = n }
last_body z (y ∷ ys) texts [] are bodies = elim are [ ]
last_body z (y ∷ ys) texts (l ∷ ls) (more_lines a e are) (body_text b n more) =
    let r = last_body y ys texts ls are more in
    record { line = r.line; text = r.text; at = r.at; nth = r.nth; is = r.is; unmarked = r.unmarked }

gap_after : (xs : List Row) (ds : List Deco) → body_then (gap_lines (first ds).gap ++ row_lines xs (after ds)) [] ≡ gap_then (first ds).gap (lines_then xs (after ds) [])
gap_after xs ds =
    body_append (gap_lines (first ds).gap) (row_lines xs (after ds)) []
    ∙ (ap (λ w. body_then (gap_lines (first ds).gap) w) (sym (rows_are xs (after ds) [])) ∙ sym (gap_is (first ds).gap (lines_then xs (after ds) [])))

pub own_next : (x : Row) (xs : List Row) (ds : List Deco) (z : List ℕ) → z ≡ body_then (x.body ++ (gap_lines (first ds).gap ++ row_lines xs (after ds))) []
    → z ≡ body_then x.body (gap_then (first ds).gap (lines_then xs (after ds) []))
own_next x xs ds z e = e ∙ (body_append x.body (gap_lines (first ds).gap ++ row_lines xs (after ds)) [] ∙ ap (λ w. body_then x.body w) (gap_after xs ds))

module _ {t : List ℕ} (u : IsUtf8 t) (es : List EventInText) (all : List Line) where
  seen_text : {l : Line} {x : List ℕ} → LineIs t l x → x ≢ [] → is_white (last_or 0 x) ≡ false → SeenLine t l
  seen_text {x = []} a some n = absurd (some refl)
  seen_text {x = c ∷ x} a some n = let end = a.end in record { ends = line_tidy u a some n; some = omega (arith, end) }

  pub joined_some : (w y : List ℕ) → y ≢ [] → w ++ y ≢ []
  joined_some [] y n e = n e
  joined_some (c ∷ w) y n e = cc

  tidy_text : {l : Line} (w y : List ℕ) → LineIs t l (w ++ y) → y ≢ [] → IsTidy y → SeenLine t l
  tidy_text w y a n tidy =
      ⊎_elim (λ (e : y ≡ []). absurd (n e)) (λ (e : is_white (last_or 0 y) ≡ false). seen_text a (joined_some w y n) (ap is_white (last_append 0 w y n) ∙ e)) tidy

  remark_seen : {l : Line} (column : ℕ) (text : List ℕ) → LineIs t l (replicate column 32 ++ text) → IsRemark text → IsTidy text → SeenLine t l
  remark_seen column text a f tidy = tidy_text (replicate column 32) text a (λ z. remark_some f.is z) tidy

  remark_before : {k : ℕ} {l : Line} {ls : List Line} (column : ℕ) (text : List ℕ) → drop k all ≡ l ∷ ls → LineIs t l (replicate column 32 ++ text) → IsRemark text → SeenLine t l
      → LineBefore t es all (suc k)
  remark_before {k} {l} {ls} column text from a f seen = record {
    index = k;
    next = refl;
    line = l;
    at = got_here k all l ls from;
    solid = solid_seen seen.ends seen.some;
    undashed = λ z e. unmarked_there u (unmarked_indented column (remark_unmarked f)) a z;
  }

  remark_after : {k : ℕ} {l : Line} {ls : List Line} (column : ℕ) (text : List ℕ) → drop k all ≡ l ∷ ls → LineIs t l (replicate column 32 ++ text) → IsRemark text → SeenLine t l
      → LineAfter t all k
  remark_after {k} {l} {ls} column text from a f seen = record {
    line = l;
    at = got_here k all l ls from;
    seen = seen.ends;
    some = seen.some;
    unmarked = λ z. unmarked_there u (unmarked_indented column (remark_unmarked f)) a z;
    no_percent = no_percent_there column text u a (remark_no_percent f);
  }

  gap_lined : {gap : List GapLine} {b e : Bool} → Spread b gap e → AreGapLines gap → TidyGap gap → (texts : List (List ℕ)) (k : ℕ) (ls : List Line) → drop k all ≡ ls
      → LinesAre t ls (gap_lines gap ++ texts) → (b ≡ true → LineBefore t es all k) → ((n : ℕ) (ms : List Line) → drop n all ≡ ms → LinesAre t ms texts → e ≡ true → LineAfter t all n)
      → ((n : ℕ) (ms : List Line) → drop n all ≡ ms → LinesAre t ms texts → Lined (λ n l x. Sort t es all n l x) n ms texts)
      → Lined (λ n l x. Sort t es all n l x) k ls (gap_lines gap ++ texts)
  gap_lined spread_end fit tidy texts k ls from are before after more = more k ls from are
  gap_lined (spread_remark s) fit tidy texts k [] from are before after more = elim are [ ]
  gap_lined (spread_remark {column = column} {text = text} s) fit tidy texts k (l ∷ ls) from (more_lines a e are) before after more =
      let seen = remark_seen column text a fit.0 tidy.0 in
      lined_more (ends_seen seen.ends seen.some)
      (gap_lined s fit.1 tidy.1 texts (suc k) ls (drop_more k all l ls from) are (λ z. remark_before column text from a fit.0 seen) after more)
  gap_lined (spread_blank s) fit tidy texts k [] from are before after more = elim are [ ]
  gap_lined (spread_blank s) fit tidy texts k (l ∷ []) from (more_lines a e are) before after more = elim are [ ]
  gap_lined (spread_blank {column = column} {text = text} s) fit tidy texts k (l ∷ (m ∷ ls)) from (more_lines a e (more_lines b f are)) before after more =
      let seen = remark_seen column text b fit.0 tidy.0 in
      let further : drop (suc k) all ≡ m ∷ ls = drop_more k all l (m ∷ ls) from in
      lined_more (between_rows refl (before refl) (remark_after column text further b fit.0 seen)) (lined_more (ends_seen seen.ends seen.some)
      (gap_lined s fit.1 tidy.1 texts (suc (suc k)) ls (drop_more (suc k) all m ls further) are (λ z. remark_before column text further b fit.0 seen) after more))
  gap_lined spread_last fit tidy texts k [] from are before after more = elim are [ ]
  gap_lined spread_last fit tidy texts k (l ∷ ls) from (more_lines a e are) before after more =
      let further : drop (suc k) all ≡ ls = drop_more k all l ls from in
      lined_more (between_rows refl (before refl) (after (suc k) ls further are refl)) (more (suc k) ls further are)

  -- the line that a row begins
  pub own_seen : {l : Line} (x : Row) (d : Deco) (r : List ℕ) (a : LineIs t l (own_line x d)) → a.follows ≡ body_then x.body (gap_then d.gap r) → 0 < length x.text → AreTrails d.trails
      → TidyTrails d.trails → SeenEnd t (end_then d x.body r) → SeenLine t l
  own_seen {l} x d r a e some trails tidy seen = by d.trails refl trails tidy where
    by : (w : List (List ℕ)) → d.trails ≡ w → AreTrails w → TidyTrails w → SeenLine t l
    by [] f b c = record { ends = after_no_white u (untrailed x d r u a e f seen); some = own_long x d a some }
    by (y ∷ []) f b c =
        tidy_text (replicate x.column 32 ++ (x.text ++ (32 ∷ 32 ∷ []))) y (subst (λ w. LineIs t l w) (own_trail x d y f) a) (λ z. remark_some b.is z) c.0
    by (y ∷ z ∷ zs) f b c = absurd b

  own_unmarked : {l : Line} (x : Row) (d : Deco) → IsRowText x → LineIs t l (own_line x d) → ForbiddenLine t l.start → ⊥
  own_unmarked x d f a = unmarked_there u (unmarked_indented x.column (trails_unmarked d.trails f.unmarked)) a

  own_undashed : {l : Line} (x : Row) (d : Deco) → KindRow x → may_be_blank_after x.ending ≡ true → LineIs t l (own_line x d) → ForbiddenLine t l.start → code t l.start ≡ 45 → ⊥
  own_undashed x d (a_text f) b a z e = own_unmarked x d f a z
  own_undashed {l} x d (a_marker f) b a z e = by f.text where
    by : (x.text ≡ dashes) ⊎ (x.text ≡ dots) → ⊥
    by (inl g) = true≢false (sym b ∙ ap may_be_blank_after (f.starts g))
    by (inr g) =
        let bare : own_line x d ≡ dots ++ trails_bytes d.trails =
        ap (λ k. replicate k 32 ++ (x.text ++ trails_bytes d.trails)) f.column ∙ ap (λ w. w ++ trails_bytes d.trails) g in
        let one : first_byte (dots ++ trails_bytes d.trails) ≡ 45 = first_there 45 (omega arith) (λ v. omega (arith, v)) u (subst (λ w. LineIs t l w) bare a) e in
        omega (arith, one)

  own_after : {k : ℕ} {l : Line} {ls : List Line} (x : Row) (d : Deco) → KindRow x → IsLead x → x.blank_before ≡ true → x.text ≢ [] → drop k all ≡ l ∷ ls → LineIs t l (own_line x d) → SeenLine t l
      → LineAfter t all k
  own_after x d (a_marker f) lead b some from a seen = absurd (true≢false (sym b ∙ f.unspaced))
  own_after {k} {l} {ls} x d (a_text f) lead b some from a seen = record {
    line = l;
    at = got_here k all l ls from;
    seen = seen.ends;
    some = seen.some;
    unmarked = own_unmarked x d f a;
    no_percent = no_percent_there x.column (x.text ++ trails_bytes d.trails) u a (λ e. lead.none b (sym (first_joined x.text (trails_bytes d.trails) some) ∙ e));
  }

  -- the lines of a block scalar
  body_lined : (head : ℕ) (x : Row) (d : Deco) (r : List ℕ) (texts : List (List ℕ)) (ms : List Line) → drop head all ≡ ms → LinesAre t ms (x.body ++ texts)
      → body_then texts [] ≡ gap_then d.gap r → BodyHeld t es x.body x.lines (body_then x.body (gap_then d.gap r))
      → (i : ℕ) (y : List ℕ) → slice_get x.body i ≡ Some y → InScalar t es all (head + i) y
  body_lined head x d r texts ms from are same held i y e = by x.body refl ms refl are held where
    by : (body : List (List ℕ)) → x.body ≡ body → (ls : List Line) → ms ≡ ls → LinesAre t ls (body ++ texts) → BodyHeld t es body x.lines (body_then x.body (gap_then d.gap r))
        → InScalar t es all (head + i) y
    by [] f ls g a b = absurd (no_item i y (ap (λ w. slice_get w i) (sym f) ∙ e))
    by (z ∷ zs) f [] g a b = elim a [ ]
    by (z ∷ zs) f (m ∷ ls) g (more_lines one follows more) b =
        let rest : body_then ((z ∷ zs) ++ texts) [] ≡ body_then x.body (gap_then d.gap r) =
        body_append (z ∷ zs) texts [] ∙ (ap (λ w. body_then (z ∷ zs) w) same ∙ ap (λ w. body_then w (gap_then d.gap r)) (sym f)) in
        let there : Rest t m.start (body_then x.body (gap_then d.gap r)) =
        subst (λ w. Rest t m.start w) rest (subst (λ w. Rest t m.start (z ++ (10 ∷ w))) follows one.there) in
        record {
          event = b.event;
          part = b.part;
          among = b.among;
          column = x.lines;
          body = z ∷ zs;
          follows = body_then x.body (gap_then d.gap r);
          scalar = b.scalar;
          head = head;
          number = i;
          index = refl;
          nth = ap (λ w. slice_get w i) (sym f) ∙ e;
          lines = m ∷ ls;
          from = from ∙ g;
          texts = texts;
          are = more_lines one follows more;
          line = m;
          others = ls;
          some = refl;
          start = place_of_rest there b.scalar.rest;
        }

  bodies_of : {x : Row} → KindRow x → AreBodyTexts x.body
  bodies_of (a_text f) = f.body
  bodies_of (a_marker f) = subst (λ w. AreBodyTexts w) (sym f.body) no_body_text

  -- the last line of a row, after which a blank line is allowed
  row_before : (k : ℕ) (l : Line) (ls : List Line) (x : Row) (d : Deco) (texts : List (List ℕ)) → KindRow x → may_be_blank_after x.ending ≡ true → drop k all ≡ l ∷ ls
      → LineIs t l (own_line x d) → SeenLine t l → LinesAre t ls (x.body ++ texts) → ((i : ℕ) (y : List ℕ) → slice_get x.body i ≡ Some y → InScalar t es all (suc k + i) y)
      → LineBefore t es all (suc k + length x.body)
  row_before k l ls x d texts kind may from a seen are bodies = by x.body refl (bodies_of kind) are where
    by : (body : List (List ℕ)) → x.body ≡ body → AreBodyTexts body → LinesAre t ls (body ++ texts) → LineBefore t es all (suc k + length x.body)
    by [] e b are =
        let none : length x.body ≡ 0 = ap length e in
        record { index = k; next = omega (arith, none); line = l; at = got_here k all l ls from; solid = solid_seen seen.ends seen.some; undashed = own_undashed x d kind may a }
    by (z ∷ zs) e b are =
        let last = last_body z zs texts ls are b in
        let long : length x.body ≡ suc (length zs) = ap length e in
        let at : slice_get all (suc k + length zs) ≡ Some last.line =
        sym (got_drop (suc k) (length zs) all) ∙ (ap (λ (w : List Line). slice_get w (length zs)) (drop_more k all l ls from) ∙ last.at) in
        record {
          index = suc k + length zs;
          next = omega (arith, long);
          line = last.line;
          at = at;
          solid = solid_scalar (bodies (length zs) last.text (ap (λ w. slice_get w (length zs)) e ∙ last.nth));
          undashed = λ z v. unmarked_there u last.unmarked last.is z;
        }

  rows_after : {xs : List Row} (ds : List Deco) (n : ℕ) (ms : List Line) → RowLines xs → KindRows xs → LeadRows xs → AreDecos ds → TidyDecos ds → BodiesHeld t es xs ds []
      → drop n all ≡ ms → LinesAre t ms (row_lines xs ds) → next_blank xs ≡ true → LineAfter t all n
  rows_after ds n ms no_rows kinds leads fit tidy held from are b = absurd (true≢false (sym b))
  rows_after ds n [] (row_more text seen body more) kinds leads fit tidy held from are b = elim are [ ]
  rows_after ds n (l ∷ ls) (row_more {x = x} {xs = xs} text seen body more) (kind_more kind kinds) (lead_more lead leads) fit tidy held from (more_lines a e are) b =
      let long = seen_long seen in
      let line = own_seen x (first ds) (lines_then xs (after ds) []) a (own_next x xs ds a.follows e) long (first_deco fit).trails (first_tidy tidy).0 held.0.seen in
      own_after x (first ds) kind lead b (λ f. some_long long f) from a line

  pub rows_sorted : {xs : List Row} (ds : List Deco) (k : ℕ) (ls : List Line) → drop k all ≡ ls → RowLines xs → KindRows xs → LeadRows xs → Spreads xs ds → AreDecos ds → TidyDecos ds
      → BodiesHeld t es xs ds [] → LinesAre t ls (row_lines xs ds) → Lined (λ n l x. Sort t es all n l x) k ls (row_lines xs ds)
  rows_sorted ds k ls from no_rows kinds leads apart fit tidy held no_lines = lined_end
  rows_sorted ds k [] from (row_more text seen body more) kinds leads apart fit tidy held a = elim a [ ]
  rows_sorted ds k (l ∷ ls) from (row_more {x = x} {xs = xs} text seen body more) (kind_more kind kinds) (lead_more lead leads) (more_spreads {d = d} {ds = others} spread apart) fit tidy held (more_lines a e are) =
      let rest : List ℕ = lines_then xs others [] in
      let texts : List (List ℕ) = gap_lines d.gap ++ row_lines xs others in
      let line = own_seen x d rest a (own_next x xs (d ∷ others) a.follows e) (seen_long seen) (first_deco fit).trails (first_tidy tidy).0 held.0.seen in
      let further : drop (suc k) all ≡ ls = drop_more k all l ls from in
      let bodies : (i : ℕ) (y : List ℕ) → slice_get x.body i ≡ Some y → InScalar t es all (suc k + i) y =
      λ i y g. body_lined (suc k) x d rest texts ls further are (gap_after xs (d ∷ others)) held.0.body i y g in
      lined_more (ends_seen line.ends line.some)
      (parts_lined (λ n m y. Sort t es all n m y) x.body texts (suc k) ls are (λ i m y g h. in_scalar (bodies i y g))
      (λ ms b f. gap_lined spread (first_deco fit).gap (first_tidy tidy).1 (row_lines xs others) (suc k + length x.body) ms (drop_twice (suc k) (length x.body) all ls ms further f) b
      (λ may. row_before k l ls x d texts kind may from a line are bodies)
      (λ n ns c g z. rows_after others n ns more kinds leads (after_decos fit) (after_tidy tidy) held.1 c g z)
      (λ n ns c g. rows_sorted others n ns c more kinds leads apart (after_decos fit) (after_tidy tidy) held.1 g)))

  -- of a layout
  pub layout_sorted : {xs : List Row} {gap : List GapLine} (ds : List Deco) → Spread false gap (next_blank xs) → AreGapLines gap → TidyGap gap → RowLines xs → KindRows xs → LeadRows xs → Spreads xs ds
      → AreDecos ds → TidyDecos ds → BodiesHeld t es xs ds [] → LinesAre t all (laid_lines gap xs ds) → Lined (λ n l x. Sort t es all n l x) 0 all (laid_lines gap xs ds)
  layout_sorted {xs} {gap} ds spread fits tidy rows kinds leads apart fit decos held are =
      gap_lined spread fits tidy (row_lines xs ds) 0 all refl are (λ e. absurd (true≢false (sym e)))
      (λ n ns c g z. rows_after ds n ns rows kinds leads fit decos held c g z)
      (λ n ns c g. rows_sorted ds n ns c rows kinds leads apart fit decos held g)
