-- The lines of a folded scalar (8.1.3): its rows add what these lines fold to.
use Rattle.std.proofs.Common.{◌≡◌, ℕ, zero, suc, ◌+◌, ◌<◌, ◌≤◌, pos, Bool, true, false, ◌||◌, ◌==◌, if◌then◌else◌, List, [], ◌∷◌, ◌++◌, length, slice_range, refl, sym, ap, ◌∙◌, subst, append_assoc, append-nil, ⊎_elim, arith, add-one, length-append}
use Rattle.std.proofs.lemmas.Bool.{cases_lt, cases_Bool, false≢true, ne_eqb}
use Rattle.std.proofs.lemmas.Bool.Decides.{nat_tests}
use Rattle.std.proofs.lemmas.Str.{encodes-append, encode_ascii, length-encode, len_utf8_bounds, byte_from_char, char_from_byte}
use lib.Utf8.{encode, encodes}
use Rattle.std.specs.Str.{IsUtf8}
use Rattle.yf_chars.specs.declared.context.Ctx.TheVariants.{BlockIn}
use Rattle.yf_chars.specs.Text.{code}
use Rattle.yf_chars.specs.Class.{is_nb_char, is_ns_char, is_white}
use Rattle.yf_chars.specs.Chain.{Chain, Many}
use Rattle.yf_chars.specs.Chain.Chain.{done, step}
use Rattle.yf_chars.specs.Chain.One.{one}
use Rattle.yf_lines.specs.Basic.{Break, LineStart, Spaces, Empty, FoldedBreak, Clear, is_marker}
use Rattle.yf_lines.specs.Basic.LineStart.{after_break}
use Rattle.yf_lines.specs.Basic.FoldedBreak.{trimmed, as_space}
use Rattle.yf_block_scalar.specs.Body.{Ends, LineContent}
use Rattle.yf_block_scalar.specs.Body.Ends.{by_break}
use Rattle.yf_block_scalar.specs.Body.LineContent.{content}
use Rattle.yf_block_scalar.specs.Content.{feeds, joint, folded, folded_after}
use Rattle.yf_standard.specs.Rules.{NoFoldedLine}
use Rattle.yf_standard.specs.Contents.{Mark, marks}
use Rattle.yf_standard.proofs.Basics.{SomeOf}
use Rattle.yf_standard.proofs.BasicsMeant.{marks_append}
use Rattle.yf_standard.proofs.Texts.{one_feed, some_first}
use Rattle.yf_standard.proofs.ScalarsWhole.{empties_forward, empties_start, text_within, no_marker_at}
use Rattle.yf_standard.proofs.BlockLines.{TextLines, blank_lines, lines_order, many_bytes}
use Rattle.yf_standard.proofs.BlockLines.TextLines.{last_line, more_lines}
use Rattle.yf_standard.proofs.LiteralMeant.{feed_bytes}
use Rattle.yf_standard.proofs.FoldedMade.{fold_made}
use Rattle.yf_standard.proofs.FoldedMeant.{Gap, Rows, Groups}
use Rattle.yf_standard.proofs.FoldedMeant.RowAt.{row_at}
use Rattle.yf_standard.proofs.FoldedMeant.Gap.{fold_gap, feed_gap}
use Rattle.yf_standard.proofs.FoldedMeant.Rows.{one_row, more_rows}
use Rattle.yf_standard.proofs.FoldedMeant.Group.{group}
use Rattle.yf_standard.proofs.FoldedMeant.Groups.{groups}
use Rattle.yf_standard.proofs.BlockWhole.{LinesMean, feeds_bytes}
use Rattle.yf_chars.proofs.ChainLemmas.{chain_append}
use Rattle.yf_lines.proofs.BasicLemmas.{break_forward}

-- the first byte of a line is white space if and only if its first character is
high_no_white : (c : ℕ) → 128 ≤ c → is_white c ≡ false
unfolding is_white
high_no_white c l = grind (arith, nat_tests)

white_first : (b : ℕ) (v r : List ℕ) (c : ℕ) → b ∷ v ≡ encode c ++ r → is_white b ≡ is_white c
white_first b v r c e =
    ⊎_elim (λ (l : c < 128). ap is_white (byte_from_char (b ∷ v) r c e l))
    (λ (l : 128 ≤ c).
    ⊎_elim (λ (m : b < 128). let q : c ≡ b = char_from_byte (b ∷ v) r c e m (omega arith) in absurd (omega (arith, l, m, q)))
    (λ (m : 128 ≤ b). high_no_white b m ∙ sym (high_no_white c l)) (cases_lt b 128))
    (cases_lt c 128)

data FirstByte (c : ℕ) : List ℕ → Type 0 where
  first_byte : (b : ℕ) (v : List ℕ) → is_white b ≡ is_white c → FirstByte c (b ∷ v)

byte_of : (v r : List ℕ) (c : ℕ) → v ≡ encode c ++ r → FirstByte c v
byte_of [] r c e =
    let q : length (encode c ++ r) ≡ 0 = ap length (sym e) in
    let l = (len_utf8_bounds c).0 in
    absurd (omega (arith, q, l, length-append (encode c) r, length-encode c))
byte_of (b ∷ v) r c e = first_byte b v (white_first b v r c e)

line_byte : {t : List ℕ} {i j : ℕ} {u : List ℕ} → IsUtf8 t → Many t is_nb_char i j u → i < j → FirstByte (code t i) (slice_range t i j)
line_byte utf done l = absurd (omega arith)
line_byte {t} {i} {j} utf (step {y = v} (one e) r) l = byte_of (slice_range t i j) (encodes v) (code t i) (many_bytes utf (step (one e) r))

-- empty lines
empties_feeds : {t : List ℕ} {k i j : ℕ} {w : List ℕ} → Chain (Empty t (pos k) BlockIn) i j w → w ≡ feeds (length w)
empties_feeds done = refl
empties_feeds (step {y = w} e r) = subst (λ z. z ++ w ≡ feeds (length (z ++ w))) (sym (one_feed e)) (ap (λ z. 10 ∷ z) (empties_feeds r))

empties_bytes : {t : List ℕ} {k i j : ℕ} {w : List ℕ} → Chain (Empty t (pos k) BlockIn) i j w → encodes w ≡ feeds (length w)
empties_bytes {w = w} c = ap encodes (empties_feeds c) ∙ feeds_bytes (length w)

blank_append : (w v : List ℕ) → blank_lines (w ++ v) ≡ blank_lines w ++ blank_lines v
blank_append [] v = refl
blank_append (c ∷ w) v = ap (λ z. [] ∷ z) (blank_append w v)

blanks : (w v : List ℕ) (ls : List (List ℕ)) → blank_lines (w ++ v) ++ ls ≡ blank_lines w ++ (blank_lines v ++ ls)
blanks w v ls = ap (λ z. z ++ ls) (blank_append w v) ∙ append_assoc (blank_lines w) (blank_lines v) ls

blank_before : {t : List ℕ} {k i a j : ℕ} {w : List ℕ} {ls : List (List ℕ)} → Chain (Empty t (pos k) BlockIn) i a w → TextLines t k a j ls → TextLines t k i j (blank_lines w ++ ls)
blank_before {t} {k} {i} {j = j} {w = w} c (last_line {a = a} {w = v} e s m l) =
    subst (λ z. TextLines t k i j z) (blanks w v (slice_range t (a + k) j ∷ [])) (last_line (chain_append c e) s m l)
blank_before {t} {k} {i} {j = j} {w = w} c (more_lines {a = a} {h = h} {w = v} {ls = ls} e s m l b r) =
    subst (λ z. TextLines t k i j z) (blanks w v (slice_range t (a + k) h ∷ ls)) (more_lines (chain_append c e) s m l b r)

blank_folded : (m : ℕ) (ls : List (List ℕ)) → folded (blank_lines (feeds m) ++ ls) ≡ feeds m ++ folded ls
blank_folded zero ls = refl
blank_folded (suc m) ls = ap (λ z. 10 ∷ z) (blank_folded m ls)

blank_after : (s : Bool) (e m n : ℕ) (ls : List (List ℕ)) → e + m ≡ n → folded_after s e (blank_lines (feeds m) ++ ls) ≡ folded_after s n ls
blank_after s e zero n ls q = let p : e ≡ n = omega (arith, q) in ap (λ z. folded_after s z ls) p
blank_after s e (suc m) n ls q = blank_after s (e + 1) m n ls (omega (arith, q))

-- the text between two rows; one of them begins with white space if p is true
record GapMeans (t : List ℕ) (k : ℕ) (p : Bool) (h g : ℕ) (y : List Mark) : Type 0 where
  pub at : ℕ
  pub ends : Break t h at
  pub blank : List ℕ
  pub empties : Chain (Empty t (pos k) BlockIn) at g blank
  pub text : List ℕ
  pub added : y ≡ marks text
  pub bytes : encodes text ≡ joint p (length blank)

-- feeds join, if there is an empty line
more_joint : (n : ℕ) → joint false (suc n) ≡ feeds (suc n)
more_joint n = let e : (suc n == 0) ≡ false = ne_eqb (suc n) 0 (λ q. absurd (omega (arith, q))) in ap (λ b. if b then 32 ∷ [] else feeds (suc n)) e

fold_means : {t : List ℕ} {k h g : ℕ} {x : List ℕ} → FoldedBreak t (pos k) BlockIn h g x → GapMeans t k false h g (marks x)
fold_means {g = g} (as_space b) = record { at = g; ends = b; blank = []; empties = done; text = 32 ∷ []; added = refl; bytes = ap (λ z. z ++ []) (encode_ascii 32 (omega arith)) }
fold_means (trimmed {h = h} {x = x} {y = y} b e r) = record {
  at = h;
  ends = b;
  blank = x ++ y;
  empties = step e r;
  text = x ++ y;
  added = refl;
  bytes = subst (λ z. encodes (z ++ y) ≡ joint false (length (z ++ y))) (sym (one_feed e)) (feed_bytes y ∙ ap (λ z. 10 ∷ z) (empties_bytes r) ∙ sym (more_joint (length y)));
}

spaced_joint : (s q : Bool) (n : ℕ) → (s ≡ false → q ≡ true) → feeds (n + 1) ≡ joint (s || q) n
spaced_joint true q n f = refl
spaced_joint false true n f = refl
spaced_joint false false n f = absurd (false≢true (f refl))

gap_means : {t : List ℕ} {k h g : ℕ} {s q : Bool} {y : List Mark} → Gap t k s h g y → is_white (code t (g + k)) ≡ q
    → (NoFoldedLine t (pos k) h → SomeOf (FoldedBreak t (pos k) BlockIn) h g → q ≡ false → ⊥) → GapMeans t k (s || q) h g y
gap_means {t} {k} {h} {g} (fold_gap {x = x} f w) e never = subst (λ z. GapMeans t k z h g (marks x)) (sym w ∙ e) (fold_means f)
gap_means {s = s} {q = q} (feed_gap {b = b} {w = w} br r c) e never = record {
  at = b;
  ends = br;
  blank = w;
  empties = r;
  text = 10 ∷ w;
  added = refl;
  bytes = feed_bytes w ∙ ap (λ z. 10 ∷ z) (empties_bytes r) ∙ sym (ap feeds (add-one (length w)))
      ∙ spaced_joint s q (length w) (λ d. ⊎_elim (λ (f : q ≡ true). f) (λ (f : q ≡ false). absurd (never (c d) (fold_made br r) f)) (cases_Bool q));
}

gap_start : {t : List ℕ} {k h g : ℕ} {s : Bool} {y : List Mark} → Gap t k s h g y → (h ≤ g) × (g < length t → LineStart t g)
gap_start (fold_gap (as_space b) w) = let a = break_forward b in (omega (arith, a), λ _. after_break b)
gap_start (fold_gap (trimmed b e r) w) = let a = break_forward b in let c = empties_forward (step e r) in (omega (arith, a, c), empties_start (λ _. after_break b) (step e r))
gap_start (feed_gap b r n) = let a = break_forward b in let c = empties_forward r in (omega (arith, a, c), empties_start (λ _. after_break b) r)

after_gap : (s q : Bool) (w : List ℕ) (b c : ℕ) (y : List ℕ) (ls : List (List ℕ)) → w ≡ feeds (length w) → is_white b ≡ s → is_white c ≡ q
    → folded_after (is_white b) 0 (blank_lines w ++ (c ∷ y) ∷ ls) ≡ joint (s || q) (length w) ++ ((c ∷ y) ++ folded_after (is_white c) 0 ls)
after_gap s q w b c y ls f d e =
    ap (λ z. folded_after (is_white b) 0 (blank_lines z ++ (c ∷ y) ∷ ls)) f ∙ blank_after (is_white b) 0 (length w) (length w) ((c ∷ y) ∷ ls) (omega arith)
    ∙ append_assoc (joint (is_white b || is_white c) (length w)) (c ∷ y) (folded_after (is_white c) 0 ls)
    ∙ ap (λ z. joint (z || is_white c) (length w) ++ ((c ∷ y) ++ folded_after (is_white c) 0 ls)) d
    ∙ ap (λ z. joint (s || z) (length w) ++ ((c ∷ y) ++ folded_after (is_white c) 0 ls)) e

-- rows as lines with a known first line
record Folds (t : List ℕ) (k i j : ℕ) (y : List Mark) : Type 0 where
  pub byte : ℕ
  pub rest : List ℕ
  pub lines : List (List ℕ)
  pub text : List ℕ
  pub are : TextLines t k i j ((byte ∷ rest) ∷ lines)
  pub added : y ≡ marks text
  pub white : is_white byte ≡ is_white (code t (i + k))
  pub bytes : encodes text ≡ (byte ∷ rest) ++ folded_after (is_white byte) 0 lines
  pub stop : ℕ
  pub open_end : Bool
  pub inside : List ℕ
  pub line : LineContent t k i stop inside open_end

one_folds : {t : List ℕ} {k i j h : ℕ} {u : List ℕ} {o : Bool} → IsUtf8 t → Spaces t i k → Many t is_nb_char (i + k) j u → i + k < j → Ends t j h o → is_marker t i ≡ false
    → Folds t k i j (marks u)
one_folds {t} {k} {i} {j} {h} {u} {o} utf s m l e n = go (line_byte utf m l) refl where
  go : {v : List ℕ} → FirstByte (code t (i + k)) v → v ≡ slice_range t (i + k) j → Folds t k i j (marks u)
  go (first_byte b x w) q = record {
    byte = b;
    rest = x;
    lines = [];
    text = u;
    are = subst (λ z. TextLines t k i j (z ∷ [])) (sym q) (last_line done s m l);
    added = refl;
    white = w;
    bytes = sym (many_bytes utf m) ∙ sym q ∙ sym (append-nil (b ∷ x));
    stop = h;
    open_end = o;
    inside = slice_range t (i + k) j;
    line = content s m l e n;
  }

more_folds : {t : List ℕ} {k i h g j : ℕ} {s : Bool} {u : List ℕ} {y z : List Mark} → IsUtf8 t → Spaces t i k → Many t is_nb_char (i + k) h u → i + k < h → is_white (code t (i + k)) ≡ s
    → (r : Folds t k g j z) → GapMeans t k (s || is_white (code t (g + k))) h g y → is_marker t i ≡ false → Folds t k i j (marks u ++ (y ++ z))
more_folds {t} {k} {i} {h} {g} {j} {s} {u} {y} {z} utf p m l e r a n = go (line_byte utf m l) refl where
  after : List (List ℕ)
  after = blank_lines a.blank ++ (r.byte ∷ r.rest) ∷ r.lines

  go : {v : List ℕ} → FirstByte (code t (i + k)) v → v ≡ slice_range t (i + k) h → Folds t k i j (marks u ++ (y ++ z))
  go (first_byte b x w) q = record {
    byte = b;
    rest = x;
    lines = after;
    text = u ++ (a.text ++ r.text);
    are = subst (λ v. TextLines t k i j (v ∷ after)) (sym q) (more_lines done p m l a.ends (blank_before a.empties r.are));
    added = ap (λ v. marks u ++ (v ++ z)) a.added ∙ ap (λ v. marks u ++ (marks a.text ++ v)) r.added ∙ ap (λ v. marks u ++ v) (sym (marks_append a.text r.text))
        ∙ sym (marks_append u (a.text ++ r.text));
    white = w;
    bytes = encodes-append u (a.text ++ r.text) ∙ ap (λ v. v ++ encodes (a.text ++ r.text)) (sym (many_bytes utf m) ∙ sym q)
        ∙ ap (λ v. (b ∷ x) ++ v) (encodes-append a.text r.text ∙ ap (λ v. v ++ encodes r.text) a.bytes
        ∙ ap (λ v. joint (s || is_white (code t (g + k))) (length a.blank) ++ v) r.bytes
        ∙ sym (after_gap s (is_white (code t (g + k))) a.blank b r.byte r.rest r.lines (empties_feeds a.empties) (w ∙ e) r.white));
    stop = a.at;
    open_end = false;
    inside = slice_range t (i + k) h;
    line = content p m l (by_break a.ends) n;
  }

ns_first : {t : List ℕ} {k i j : ℕ} {x : List ℕ} {o : Bool} → LineContent t k i j x o → is_white (code t (i + k)) ≡ false → is_ns_char (code t (i + k)) ≡ true
unfolding is_ns_char
ns_first {t} {k} {i} (content s m l e n) w = rw (some_first m l, w) refl

module _ {t : List ℕ} {low high : ℕ} (utf : IsUtf8 t) (clear : Clear t low high) where
  rows_fold : {k i z j : ℕ} {p o : Bool} {y : List Mark} → (i < length t → LineStart t i) → low ≤ i → Rows t k p i z y → z ≤ high → Ends t z j o → Folds t k i z y
  rows_fold {i = i} s l (one_row (row_at p m f w)) h e =
      let d = text_within m f in
      let start : LineStart t i = s (omega (arith, d)) in
      one_folds utf p m f e (no_marker_at clear i l (omega (arith, f, h)) start)
  rows_fold {k = k} {i = i} {z = z} s l (more_rows {h = b} {g = g} {z = y} (row_at p m f w) a r) h e =
      let d = text_within m f in
      let start : LineStart t i = s (omega (arith, d)) in
      let v = gap_start a in
      let o : b ≤ g = v.0 in
      let x : Folds t k g z y = rows_fold v.1 (omega (arith, l, f, o)) r h e in
      let q = lines_order x.are in
      more_folds utf p m f w x (gap_means a refl (λ n c u. n.none k g x.stop c.0 x.inside x.open_end refl c.1 x.line (ns_first x.line u))) (no_marker_at clear i l (omega (arith, f, o, q, h)) start)

  pub groups_mean : {k i z j : ℕ} {o : Bool} {y : List Mark} → (i < length t → LineStart t i) → low ≤ i → Groups t k i z y → z ≤ high → Ends t z j o → LinesMean t true k i z y
  groups_mean {k} {i} {z} s l (groups {a = a} {w = w} {z = y} e (group r c)) h d =
      let q = empties_forward e in
      let f : Folds t k a z y = rows_fold (empties_start s e) (omega (arith, l, q)) r h d in
      record {
        lines = blank_lines w ++ (f.byte ∷ f.rest) ∷ f.lines;
        text = w ++ f.text;
        are = blank_before e f.are;
        added = ap (λ v. marks w ++ v) f.added ∙ sym (marks_append w f.text);
        bytes = encodes-append w f.text ∙ ap (λ v. v ++ encodes f.text) (empties_bytes e) ∙ ap (λ v. feeds (length w) ++ v) f.bytes
            ∙ sym (ap (λ v. folded (blank_lines v ++ (f.byte ∷ f.rest) ∷ f.lines)) (empties_feeds e) ∙ blank_folded (length w) ((f.byte ∷ f.rest) ∷ f.lines));
      }
