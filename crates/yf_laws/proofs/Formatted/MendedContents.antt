-- The lines of a laid-out block scalar, from its text: the number of empty lines before the first one with content,
-- which is indented by the column and by the spaces that the text begins with.
use Rattle.std.proofs.Common.{◌≡◌, ◌≢◌, ℕ, zero, suc, ◌+◌, ◌-◌, ◌<◌, ◌≤◌, ⊎_elim, Bool, true, false, List, [], ◌∷◌, ◌++◌, length, drop, map, replicate, get_or, get_or-drop, Some, refl, sym, ap, ◌∙◌, subst, arith, append_assoc, length-append}
use Rattle.std.specs.Prelude.{slice_get, ◌==◌, if◌then◌else◌}
use Rattle.std.specs.Str.{IsUtf8}
use Rattle.std.proofs.lemmas.Bool.{cases_eq, cases_lt, ne_eqb}
use Rattle.yf_chars.specs.Class.{is_white}
use Rattle.yf_chars.specs.Text.{code}
use Rattle.yf_chars.proofs.TextLemmas.{byte_from_code}
use Rattle.yf_lines.specs.Basic.{Spaces}
use Rattle.yf_lines.specs.Lines.{IsLine}
use Rattle.yf_lines.specs.declared.line.Line.{Line}
use Rattle.yf_lines.proofs.RestLemmas.{Rest, rest_ascii, rest_spaces}
use Rattle.yf_lines.proofs.LineLemmas.{same_indent}
use Rattle.yf_block_scalar.specs.Content.{content_of, ending, feeds, folded, folded_after, literal, literal_after}
use Rattle.yf_block_scalar.specs.Written.{EndsWithContent}
use Rattle.yf_block_scalar.specs.declared.header.Chomp.{Chomp}
use Rattle.yf_block_scalar.specs.declared.header.Chomp.TheVariants.{Strip, Clip, Keep}
use Rattle.yf_block_scalar.specs.declared.header.Header.{Header}
use Rattle.yf_events.specs.declared.event.ScalarStyle.{ScalarStyle}
use Rattle.yf_forms.specs.Nodes.BlockLines.{block_lines, content_lines, final_feeds, line_at, tail_lines}
use Rattle.yf_forms.proofs.ListLemmas.{at_append}
use Rattle.yf_laws.specs.Nodes.BlockValues.{header_of}
use Rattle.yf_laws.specs.Layouts.ReadableTrees.{FitScalar}
use Rattle.yf_laws.proofs.OutputLines.LaidLines.{LineIs, LinesAre, no_lines, more_lines, line_char, nb_no}
use Rattle.yf_rule_sets.specs.RuleSets.Scalars.{head_count}
use Rattle.yf_chars.proofs.CharFacts.{feed_no_nb, space_white}

-- Texts that don't begin with a space.

data NoSpace : List ℕ → Type 0 where
  nothing : NoSpace []
  other : {c : ℕ} {w : List ℕ} → c ≢ 32 → NoSpace (c ∷ w)

no_space_append : {x y : List ℕ} → NoSpace x → NoSpace y → NoSpace (x ++ y)
no_space_append nothing b = b
no_space_append (other n) b = other n

feeds_no_space : (k : ℕ) → NoSpace (feeds k)
feeds_no_space zero = nothing
feeds_no_space (suc k) = other (λ e. omega (arith, e))

ending_no_space : (c : Chomp) (tail : ℕ) → NoSpace (ending c tail)
ending_no_space Strip tail = nothing
ending_no_space Clip tail = other (λ e. omega (arith, e))
ending_no_space Keep tail = feeds_no_space (tail + 1)

literal_no_space : (ls : List (List ℕ)) → NoSpace (literal_after ls)
literal_no_space [] = nothing
literal_no_space (x ∷ ls) = other (λ e. omega (arith, e))

folded_no_space : (e : ℕ) (ls : List (List ℕ)) → NoSpace (folded_after true e ls)
folded_no_space e [] = nothing
folded_no_space e ([] ∷ ls) = folded_no_space (e + 1) ls
folded_no_space e ((c ∷ x) ∷ ls) =
    let one : suc e ≡ e + 1 = omega arith in
    subst (λ k. NoSpace (feeds k ++ (c ∷ x) ++ folded_after (is_white c) 0 ls)) one (other (λ z. omega (arith, z)))

-- the number of leading spaces
spaces_counted : (w : List ℕ) → NoSpace w → head_count 32 w ≡ 0
spaces_counted [] a = refl
spaces_counted (c ∷ w) (other n) = ap (λ b. if b then suc (head_count 32 w) else 0) (ne_eqb c 32 n)

counted_before : (z w : List ℕ) → NoSpace w → head_count 32 (z ++ w) ≡ head_count 32 z
counted_before [] w a = spaces_counted w a
counted_before (c ∷ z) w a = ap (λ k. if c == 32 then suc k else 0) (counted_before z w a)

record Split (w : List ℕ) : Type 0 where
  pub rest : List ℕ
  pub is : w ≡ replicate (head_count 32 w) 32 ++ rest
  pub none : NoSpace rest

split : (w : List ℕ) → Split w
split [] = record { rest = []; is = refl; none = nothing }
split (c ∷ w) = ⊎_elim (λ (e : c ≡ 32). further c e (split w)) (λ (n : c ≢ 32). here c n) (cases_eq c 32) where
  further : (c : ℕ) → c ≡ 32 → Split w → Split (c ∷ w)
  further c e a = subst (λ b. Split (b ∷ w)) (sym e) (record { rest = a.rest; is = ap (λ v. 32 ∷ v) a.is; none = a.none })

  here : (c : ℕ) → c ≢ 32 → Split (c ∷ w)
  here c n = record { rest = c ∷ w; is = ap (λ k. replicate k 32 ++ (c ∷ w)) (sym (spaces_counted (c ∷ w) (other n))); none = other n }

-- Lines before the first one with content.

abbrev nothings : ℕ → List (List ℕ)
nothings n = replicate n []

record Leads (ls : List (List ℕ)) : Type 0 where
  pub count : ℕ
  pub first : ℕ
  pub follows : List ℕ
  pub others : List (List ℕ)
  pub are : ls ≡ nothings count ++ ((first ∷ follows) ∷ others)

leads : (ls : List (List ℕ)) → EndsWithContent ls → Leads ls
leads [] a = absurd a
leads ((b ∷ y) ∷ ls) a = record { count = 0; first = b; follows = y; others = ls; are = refl }
leads ([] ∷ []) a = absurd (a refl)
leads ([] ∷ (l ∷ ls)) a = let r = leads (l ∷ ls) a in record { count = suc r.count; first = r.first; follows = r.follows; others = r.others; are = ap (λ w. [] ∷ w) r.are }

literal_later : (m : ℕ) (z : List ℕ) (ls : List (List ℕ)) → literal_after (nothings m ++ (z ∷ ls)) ≡ feeds (suc m) ++ (z ++ literal_after ls)
literal_later zero z ls = refl
literal_later (suc m) z ls = ap (λ w. 10 ∷ w) (literal_later m z ls)

literal_leads : (m : ℕ) (z : List ℕ) (ls : List (List ℕ)) → literal (nothings m ++ (z ∷ ls)) ≡ feeds m ++ (z ++ literal_after ls)
literal_leads zero z ls = refl
literal_leads (suc m) z ls = literal_later m z ls

folded_leads : (m b : ℕ) (y : List ℕ) (ls : List (List ℕ)) → folded (nothings m ++ ((b ∷ y) ∷ ls)) ≡ feeds m ++ ((b ∷ y) ++ folded_after (is_white b) 0 ls)
folded_leads zero b y ls = refl
folded_leads (suc m) b y ls = ap (λ w. 10 ∷ w) (folded_leads m b y ls)

abbrev text_of : Bool → List (List ℕ) → List ℕ
text_of f ls = if f then folded ls else literal ls

content_text : (h : Header) (ls : List (List ℕ)) (tail : ℕ) → EndsWithContent ls → content_of h ls tail false ≡ text_of h.folded ls ++ ending h.chomp tail
content_text h [] tail a = absurd a
content_text h (x ∷ ls) tail a = refl

-- the text from the first content line on
record TextLeads (m b : ℕ) (y text : List ℕ) : Type 0 where
  pub rest : List ℕ
  pub is : text ≡ feeds m ++ ((b ∷ y) ++ rest)
  pub none : b ≡ 32 → NoSpace rest

text_leads : (f : Bool) (m b : ℕ) (y : List ℕ) (ls : List (List ℕ)) (e : List ℕ) → NoSpace e → TextLeads m b y (text_of f (nothings m ++ ((b ∷ y) ∷ ls)) ++ e)
text_leads true m b y ls e n = record {
  rest = folded_after (is_white b) 0 ls ++ e;
  is = ap (λ w. w ++ e) (folded_leads m b y ls) ∙ (append_assoc (feeds m) ((b ∷ y) ++ folded_after (is_white b) 0 ls) e ∙ ap (λ w. feeds m ++ w) (append_assoc (b ∷ y) (folded_after (is_white b) 0 ls) e));
  none = λ q. subst (λ s. NoSpace (folded_after s 0 ls ++ e)) (sym (ap is_white q ∙ space_white)) (no_space_append (folded_no_space 0 ls) n);
}
text_leads false m b y ls e n = record {
  rest = literal_after ls ++ e;
  is = ap (λ w. w ++ e) (literal_leads m (b ∷ y) ls) ∙ (append_assoc (feeds m) ((b ∷ y) ++ literal_after ls) e ∙ ap (λ w. feeds m ++ w) (append_assoc (b ∷ y) (literal_after ls) e));
  none = λ q. no_space_append (literal_no_space ls) n;
}

-- the number that a rule counts
feeds_first : (m : ℕ) (w : List ℕ) → head_count 10 (feeds m ++ w) ≡ m + head_count 10 w
feeds_first zero w = let none : head_count 10 w ≡ 0 + head_count 10 w = omega arith in none
feeds_first (suc m) w = let one : suc (m + head_count 10 w) ≡ suc m + head_count 10 w = omega arith in ap suc (feeds_first m w) ∙ one

drop_feeds : (m : ℕ) (w : List ℕ) → drop m (feeds m ++ w) ≡ w
drop_feeds zero w = refl
drop_feeds (suc m) w = drop_feeds m w

no_feed : (b : ℕ) (w : List ℕ) → b ≢ 10 → head_count 10 (b ∷ w) ≡ 0
no_feed b w n = ap (λ c. if c then suc (head_count 10 w) else 0) (ne_eqb b 10 n)

spaces_same : (b : ℕ) (y w : List ℕ) → (b ≡ 32 → NoSpace w) → head_count 32 ((b ∷ y) ++ w) ≡ head_count 32 (b ∷ y)
spaces_same b y w n =
    ⊎_elim (λ (e : b ≡ 32). counted_before (b ∷ y) w (n e))
    (λ (e : b ≢ 32). ap (λ c. if c then suc (head_count 32 (y ++ w)) else 0) (ne_eqb b 32 e) ∙ sym (spaces_counted (b ∷ y) (other e)))
    (cases_eq b 32)

record Counted (text : List ℕ) (m k : ℕ) : Type 0 where
  pub feeds : head_count 10 text ≡ m
  pub some : m < length text
  pub spaces : head_count 32 (drop (head_count 10 text) text) ≡ k

counted_text : {m b : ℕ} {y text : List ℕ} → b ≢ 10 → TextLeads m b y text → Counted text m (head_count 32 (b ∷ y))
counted_text {m} {b} {y} {text} n a =
    let w : List ℕ = (b ∷ y) ++ a.rest in
    let count : head_count 10 text ≡ m = ap (head_count 10) a.is ∙ (feeds_first m w ∙ (ap (λ k. m + k) (no_feed b (y ++ a.rest) n) ∙ plus_none m)) in
    let long : length text ≡ length (feeds m ++ w) = ap length a.is in
    let size : length (feeds m) ≡ m = feeds_size m in
    let more : length (y ++ a.rest) ≡ length y + length a.rest = length-append y a.rest in
    record {
      feeds = count;
      some = omega (arith, long, length-append (feeds m) w, size);
      spaces = ap (λ k. head_count 32 (drop k text)) count ∙ (ap (λ v. head_count 32 (drop m v)) a.is ∙ (ap (head_count 32) (drop_feeds m w) ∙ spaces_same b y a.rest a.none));
    }
  where
    plus_none : (m : ℕ) → m + 0 ≡ m
    plus_none m = omega arith

    feeds_size : (k : ℕ) → length (feeds k) ≡ k
    feeds_size zero = refl
    feeds_size (suc k) = ap suc (feeds_size k)

-- Its lines at a column.

lead_line : (column m : ℕ) (b : ℕ) (y : List ℕ) (others more : List (List ℕ)) → slice_get (map (line_at column) ((nothings m ++ ((b ∷ y) ∷ others)) ++ more)) m ≡ Some (replicate column 32 ++ (b ∷ y))
lead_line column zero b y others more = refl
lead_line column (suc m) b y others more = lead_line column m b y others more

nothing_before : (column m i : ℕ) (z : List ℕ) (others more : List (List ℕ)) (x : List ℕ) → i < m → slice_get (map (line_at column) ((nothings m ++ (z ∷ others)) ++ more)) i ≡ Some x → x ≡ []
nothing_before column zero i z others more x l e = absurd (omega (arith, l))
nothing_before column (suc m) zero z others more x l e = sym (same e) where
  same : {p q : List ℕ} → Some p ≡ Some q → p ≡ q
  same e = cc
nothing_before column (suc m) (suc i) z others more x l e = nothing_before column m i z others more x (omega (arith, l)) e

-- each is empty, or longer than the column
pub line_long : (column : ℕ) (ls : List (List ℕ)) (i : ℕ) (x : List ℕ) → slice_get (map (line_at column) ls) i ≡ Some x → x ≢ [] → column < length x
line_long column [] i x e n = absurd cc
line_long column ([] ∷ ls) zero x e n = absurd (n (sym (same e))) where
  same : {p q : List ℕ} → Some p ≡ Some q → p ≡ q
  same e = cc
line_long column ((b ∷ y) ∷ ls) zero x e n =
    let spaces : List ℕ = replicate column 32 in
    let long : length (spaces ++ (b ∷ y)) ≡ length x = ap length (same e) in
    let both : length (spaces ++ (b ∷ y)) ≡ length spaces + length (b ∷ y) = length-append spaces (b ∷ y) in
    let wide : length spaces ≡ column = columns column in
    omega (arith, long, both, wide)
  where
    same : {p q : List ℕ} → Some p ≡ Some q → p ≡ q
    same e = cc

    columns : (k : ℕ) → length {A = ℕ} (replicate k 32) ≡ k
    columns zero = refl
    columns (suc k) = ap suc (columns k)
line_long column (l ∷ ls) (suc i) x e n = line_long column ls i x e n

-- Indentation of a line.

spaces_join : {t : List ℕ} {q a b : ℕ} → Spaces t q a → Spaces t (q + a) b → Spaces t q (a + b)
spaces_join {t} {q} {a} {b} x y = record {
  each = λ m l. ⊎_elim (λ (f : m < a). x.each m f)
      (λ (f : a ≤ m). let there : q + a + (m - a) ≡ q + m = omega (arith, f) in ap (code t) (sym there) ∙ y.each (m - a) (omega (arith, f, l))) (cases_lt m a);
}

no_space_there : {t : List ℕ} {q c : ℕ} {w : List ℕ} → IsUtf8 t → Rest t q (c ∷ w) → c ≢ 32 → code t q ≢ 32
no_space_there {t} {q} {c} {w} u s n e =
    let byte = byte_from_code t q u (omega (arith, e)) in
    let zero_more : q + 0 ≡ q = omega arith in
    let there : get_or t q 0 ≡ c = ap (λ k. get_or t k 0) (sym zero_more) ∙ (sym (get_or-drop q t 0 0) ∙ ap (λ v. get_or v 0 0) s.bytes) in
    let same = byte.1 in
    n (omega (arith, there, same, e))

not_space : {t : List ℕ} {q : ℕ} {w : List ℕ} (r : List ℕ) → IsUtf8 t → NoSpace w → Rest t q (w ++ (10 ∷ r)) → code t q ≢ 32
not_space r u nothing s = no_space_there u s (λ e. omega (arith, e))
not_space r u (other n) s = no_space_there u s n

line_indent : {t : List ℕ} {l : Line} (column : ℕ) (z : List ℕ) → IsUtf8 t → IsLine t l → LineIs t l (replicate column 32 ++ z) → l.indent ≡ column + head_count 32 z
line_indent {t} {l} column z u made a =
    let s = split z in
    let k : ℕ = head_count 32 z in
    let shaped : (replicate column 32 ++ z) ++ (10 ∷ a.follows) ≡ replicate column 32 ++ (replicate k 32 ++ (s.rest ++ (10 ∷ a.follows))) =
    append_assoc (replicate column 32) z (10 ∷ a.follows) ∙ (ap (λ w. replicate column 32 ++ (w ++ (10 ∷ a.follows))) s.is ∙ ap (λ w. replicate column 32 ++ w) (append_assoc (replicate k 32) s.rest (10 ∷ a.follows))) in
    let one = rest_spaces column l.start u (subst (λ w. Rest t l.start w) shaped a.there) in
    let two = rest_spaces k (l.start + column) u one.1 in
    let place : l.start + column + k ≡ l.start + (column + k) = omega arith in
    same_indent made.indented (record { spaces = spaces_join one.0 two.0; stops = subst (λ i. code t i ≢ 32) place (not_space a.follows u s.none two.1) })

-- Scalars.

pub record LineThere (t : List ℕ) (ls : List Line) (i : ℕ) (x : List ℕ) : Type 0 where
  pub line : Line
  pub at : slice_get ls i ≡ Some line
  pub is : LineIs t line x

line_there : {t : List ℕ} {ls : List Line} {xs : List (List ℕ)} (i : ℕ) (x : List ℕ) → LinesAre t ls xs → slice_get xs i ≡ Some x → LineThere t ls i x
line_there i x no_lines e = absurd cc
line_there {t} zero x (more_lines {l = l} {ls = ls} a f more) e = subst (λ w. LineThere t (l ∷ ls) 0 w) (same e) (record { line = l; at = refl; is = a }) where
  same : {p q : List ℕ} → Some p ≡ Some q → p ≡ q
  same e = cc
line_there (suc i) x (more_lines a f more) e = let r = line_there i x more e in record { line = r.line; at = r.at; is = r.is }

-- the first content line, by the text
pub record FirstContent (t : List ℕ) (ls : List Line) (text : List ℕ) (column : ℕ) (body : List (List ℕ)) : Type 0 where
  pub number : ℕ
  pub is : head_count 10 text ≡ number
  pub some : head_count 10 text < length text
  pub line : Line
  pub at : slice_get ls number ≡ Some line
  pub indent : line.indent ≡ column + head_count 32 (drop (head_count 10 text) text)
  pub before : (i : ℕ) (x : List ℕ) → i < number → slice_get body i ≡ Some x → x ≡ []

first_at : {t : List ℕ} {ls : List Line} (column m b : ℕ) (y text : List ℕ) (others more : List (List ℕ)) → IsUtf8 t → ((i : ℕ) (l : Line) → slice_get ls i ≡ Some l → IsLine t l)
    → ((i : ℕ) (x : List ℕ) → slice_get (map (line_at column) ((nothings m ++ ((b ∷ y) ∷ others)) ++ more)) i ≡ Some x → LineThere t ls i x) → TextLeads m b y text
    → FirstContent t ls text column (map (line_at column) ((nothings m ++ ((b ∷ y) ∷ others)) ++ more))
first_at {t} {ls} column m b y text others more u lines got a =
    let x : List ℕ = replicate column 32 ++ (b ∷ y) in
    let at = got m x (lead_line column m b y others more) in
    let made = lines m at.line at.at in
    let counted = counted_text {m = m} {b = b} {y = y} (no_feed_there at.line column b y u at.is) a in
    record {
      number = m;
      is = counted.feeds;
      some = let c = counted.feeds in let s = counted.some in omega (arith, c, s);
      line = at.line;
      at = at.at;
      indent = line_indent column (b ∷ y) u made at.is ∙ ap (λ k. column + k) (sym counted.spaces);
      before = λ i z l e. nothing_before column m i (b ∷ y) others more z l e;
    }
  where
    columns : (k : ℕ) → length {A = ℕ} (replicate k 32) ≡ k
    columns zero = refl
    columns (suc k) = ap suc (columns k)

    -- it doesn't begin with a line feed
    no_feed_there : (l : Line) (column b : ℕ) (y : List ℕ) → IsUtf8 t → LineIs t l (replicate column 32 ++ (b ∷ y)) → b ≢ 10
    no_feed_there l column b y u c e =
        let spaces = rest_spaces column l.start u (subst (λ w. Rest t l.start w) (append_assoc (replicate column 32) (b ∷ y) (10 ∷ c.follows)) c.there) in
        let end = c.end in
        let long : length (replicate column 32 ++ (b ∷ y)) ≡ length (replicate column 32) + length (b ∷ y) = length-append (replicate column 32) (b ∷ y) in
        let wide = columns column in
        let char = line_char u c (l.start + column) (omega arith) (omega (arith, end, long, wide)) in
        nb_no 10 (code t (l.start + column)) (omega arith) feed_no_nb char (feed_there (l.start + column) b (y ++ (10 ∷ c.follows)) u spaces.1 e)
      where
        feed_there : (q b : ℕ) (w : List ℕ) → IsUtf8 t → Rest t q (b ∷ w) → b ≡ 10 → code t q ≡ 10
        feed_there q b w u s e = (rest_ascii 10 u (omega arith) (λ z. absurd (omega arith)) (subst (λ c. Rest t q (c ∷ w)) e s)).0.char

pub first_content_of : {t : List ℕ} {ls : List Line} {style : ScalarStyle} {text : List ℕ} {lines : List (List ℕ)} (column : ℕ) → IsUtf8 t → ((i : ℕ) (l : Line) → slice_get ls i ≡ Some l → IsLine t l)
    → FitScalar style text lines → ((i : ℕ) (x : List ℕ) → slice_get (block_lines style column text lines) i ≡ Some x → LineThere t ls i x) → FirstContent t ls text column (block_lines style column text lines)
first_content_of {t} {ls} {style} {text} {lines} column u made f are =
    let cs : List (List ℕ) = content_lines style text lines in
    let tail : List (List ℕ) = tail_lines text in
    let a = leads cs f.last in
    let h : Header = header_of style 2 text in
    let whole : text ≡ text_of h.folded cs ++ ending h.chomp (final_feeds text - 1) = sym (f.content 2) ∙ content_text h cs (final_feeds text - 1) f.last in
    let shaped : TextLeads a.count a.first a.follows text =
    subst (λ w. TextLeads a.count a.first a.follows w) (sym (whole ∙ ap (λ w. text_of h.folded w ++ ending h.chomp (final_feeds text - 1)) a.are))
    (text_leads h.folded a.count a.first a.follows a.others (ending h.chomp (final_feeds text - 1)) (ending_no_space h.chomp (final_feeds text - 1))) in
    let lines_are : (i : ℕ) (x : List ℕ) → slice_get (map (line_at column) ((nothings a.count ++ ((a.first ∷ a.follows) ∷ a.others)) ++ tail)) i ≡ Some x → LineThere t ls i x =
    λ i x g. are i x (subst (λ w. slice_get (map (line_at column) (w ++ tail)) i ≡ Some x) (sym a.are) g) in
    subst (λ w. FirstContent t ls text column (map (line_at column) (w ++ tail))) (sym a.are) (first_at column a.count a.first a.follows text a.others tail u made lines_are shaped)

pub first_content : {t : List ℕ} {ls : List Line} {style : ScalarStyle} {text : List ℕ} {lines : List (List ℕ)} (texts : List (List ℕ)) (column : ℕ) → IsUtf8 t
    → ((i : ℕ) (l : Line) → slice_get ls i ≡ Some l → IsLine t l) → FitScalar style text lines → LinesAre t ls (block_lines style column text lines ++ texts)
    → FirstContent t ls text column (block_lines style column text lines)
first_content {style = style} {text = text} {lines = lines} texts column u made f are =
    first_content_of column u made f (λ i x g. line_there i x are (at_append (block_lines style column text lines) texts i x g))
