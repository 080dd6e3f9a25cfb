-- Each text has a comment line at the start of a line or has none there; and a document's end is marked or is not.
use Rattle.std.proofs.Common.{◌≡◌, ◌≢◌, ℕ, zero, suc, ◌+◌, ◌-◌, ◌<◌, ◌≤◌, Bool, true, false, ◌⊎◌, inl, inr, ⊎_elim, List, [], ◌∷◌, ◌++◌, length, refl, sym, ap, ◌∙◌, arith, true≢false}
use Rattle.std.proofs.lemmas.Bool.{cases_Bool, cases_eq, cases_lt}
use Rattle.std.specs.Str.{IsUtf8}
use Rattle.yf_chars.specs.Class.{is_nb_char, is_white}
use Rattle.yf_chars.specs.Text.{code, next, no_char}
use Rattle.yf_chars.specs.Chain.{Chain, Many, Nowhere, Stuck}
use Rattle.yf_chars.specs.Chain.Chain.{done, step}
use Rattle.yf_chars.specs.Chain.One.{one}
use Rattle.yf_chars.proofs.ChainLemmas.{stuck_unique}
use Rattle.yf_chars.proofs.TextLemmas.{code-past, next_later, reads_real}
use Rattle.yf_lines.specs.Basic.{Break, LineStart, is_marker}
use Rattle.yf_lines.specs.Basic.LineStart.{at_text, after_break, after_mark}
use Rattle.yf_lines.specs.Basic.Break.{cr_lf, lone_cr, lone_lf}
use Rattle.yf_lines.proofs.BasicLemmas.{no_break_here, no_break_inside}
use Rattle.yf_lines.proofs.LineLemmas.{break_within}
use Rattle.yf_comments.specs.Comment.{CommentValue}
use Rattle.yf_comments.specs.Comments.{BreakOrEnd, LineRest, Row}
use Rattle.yf_comments.specs.Comments.BreakOrEnd.{by_break, by_end}
use Rattle.yf_comments.specs.Comments.CommentText.{comment_text}
use Rattle.yf_comments.specs.Comments.LineRest.{comment, whites}
use Rattle.yf_comments.proofs.LineEndLemmas.{row_stuck}
use Rattle.yf_comments.proofs.NoteKnown.{note_known}
use Rattle.yf_comments.proofs.RowLemmas.{end_code, none_nb, rest_at_end, rest_moves, separate_from, stuck_after_comment, stuck_after_whites}
use Rattle.yf_grammar.proofs.BlockOutcomes.BlockEnds.{LineOrEnd}
use Rattle.yf_stream.specs.DocumentReaders.{PrefixRow, line_row, mark_row}
use Rattle.yf_stream.specs.Stream.{EndIsMarked, Prefixes}
use Rattle.yf_stream.specs.Stream.EndIsMarked.{marked_end, unmarked_end}
use Rattle.yf_stream.proofs.Uniqueness.OneDirective.{dot_still}
use Rattle.yf_stream.proofs.Reader.PrefixLemmas.{prefix_functional, prefixes_rows, row_next, rows_parts, still}
use Rattle.yf_chars.proofs.CharFacts.{end_no_white}

-- the characters of a class from an offset on
record RunFrom (t : List ℕ) (p : ℕ → Bool) (i : ℕ) : Type 0 where
  end : ℕ
  characters : List ℕ
  run : Many t p i end characters
  stops : p (code t end) ≡ false

run_from : (t : List ℕ) (p : ℕ → Bool) (n i : ℕ) → p no_char ≡ false → length t ≤ i + n → RunFrom t p i
run_from t p zero i e l = record { end = i; characters = []; run = done; stops = ap p (code-past t i (omega arith)) ∙ e }
run_from t p (suc n) i e l =
    ⊎_elim
    (λ (c : p (code t i) ≡ true).
    let o = next_later t i in
    let r = run_from t p n (next t i) e (omega arith) in
    record { end = r.end; characters = code t i ∷ r.characters; run = step (one c) r.run; stops = r.stops })
    (λ (c : p (code t i) ≡ false). record { end = i; characters = []; run = done; stops = c })
    (cases_Bool (p (code t i)))

-- a break, the end of the text, or neither
stop_known : (t : List ℕ) (h : ℕ) → ((j : ℕ) × BreakOrEnd t h j) ⊎ Nowhere (BreakOrEnd t h)
stop_known t h = ⊎_elim (λ (e : h ≡ length t). inl (h, by_end e)) (λ (n : h ≢ length t). at_text n) (cases_eq h (length t)) where
  neither : h ≢ length t → Nowhere (Break t h) → Nowhere (BreakOrEnd t h)
  neither n b = record { none = λ j e. go e } where
    go : {j : ℕ} → BreakOrEnd t h j → ⊥
    go {j} (by_break c) = b.none j c
    go (by_end e) = n e

  at_text : h ≢ length t → ((j : ℕ) × BreakOrEnd t h j) ⊎ Nowhere (BreakOrEnd t h)
  at_text n =
      ⊎_elim
      (λ (e : code t h ≡ 13).
      ⊎_elim (λ (l : code t (h + 1) ≡ 10). inl (h + 2, by_break (cr_lf e l))) (λ (l : code t (h + 1) ≢ 10). inl (h + 1, by_break (lone_cr e l)))
      (cases_eq (code t (h + 1)) 10))
      (λ (c : code t h ≢ 13).
      ⊎_elim
      (λ (e : code t h ≡ 10).
      ⊎_elim (λ (b : code t (h - 1) ≡ 13). inr (neither n (no_break_inside t h e b))) (λ (b : code t (h - 1) ≢ 13). inl (h + 1, by_break (lone_lf e b)))
      (cases_eq (code t (h - 1)) 13))
      (λ (l : code t h ≢ 10). inr (neither n (no_break_here t h c l)))
      (cases_eq (code t h) 10))
      (cases_eq (code t h) 13)

-- a row at an offset
record RowAt (t : List ℕ) (i : ℕ) : Type 0 where
  end : ℕ
  comments : List CommentValue
  row : Row t i end comments

module _ {t : List ℕ} (u : IsUtf8 t) where
  row_of : {i j : ℕ} {x : List CommentValue} → i < length t → LineRest t i j x → RowAt t i
  row_of {j = j} {x = x} l r = record { end = j; comments = x; row = record { rest = r; later = rest_moves r l } }

  row_known : (i : ℕ) → LineStart t i → i < length t → RowAt t i ⊎ Stuck (Row t i)
  row_known i s l = ⊎_elim (λ (e : code t w.end ≡ 35). with_comment e) (λ (e : code t w.end ≢ 35). with_none e) (cases_eq (code t w.end) 35) where
    w : RunFrom t is_white i
    w = run_from t is_white (length t) i end_no_white (omega arith)

    with_comment : code t w.end ≡ 35 → RowAt t i ⊎ Stuck (Row t i)
    with_comment e =
        let before = separate_from w.run s in
        let c = run_from t is_nb_char (length t) (w.end + 1) (none_nb no_char refl) (omega arith) in
        let note = note_known t w.end u in
        ⊎_elim (λ (k : (j : ℕ) × BreakOrEnd t c.end j). inl (row_of l (comment before (comment_text e c.run note.1) k.1)))
        (λ (none : Nowhere (BreakOrEnd t c.end)). inr (row_stuck (stuck_after_comment before (comment_text e c.run note.1) c.stops none)))
        (stop_known t c.end)

    with_none : code t w.end ≢ 35 → RowAt t i ⊎ Stuck (Row t i)
    with_none e =
        let before = separate_from w.run s in
        ⊎_elim (λ (k : (j : ℕ) × BreakOrEnd t w.end j). inl (row_of l (whites before k.1)))
        (λ (none : Nowhere (BreakOrEnd t w.end)). inr (row_stuck (stuck_after_whites before w.stops e none)))
        (stop_known t w.end)

-- all document prefixes at an offset
pub record PrefixesFrom (t : List ℕ) (i : ℕ) : Type 0 where
  pub end : ℕ
  pub comments : List CommentValue
  pub rows : Chain (PrefixRow t) i end comments
  pub last : Stuck (PrefixRow t end)
  pub starts : LineOrEnd t end

module _ {t : List ℕ} (u : IsUtf8 t) where
  start_within : {i : ℕ} → LineStart t i → i ≤ length t
  start_within at_text = omega arith
  start_within (after_break b) = break_within b
  start_within (after_mark {i = i} s e) = (reads_real t i u (omega arith)).within

  none_at_end : {i j : ℕ} {x : List CommentValue} → i ≡ length t → PrefixRow t i j x → ⊥
  none_at_end {i} e (mark_row m) = let c = end_code t e in absurd (omega arith)
  none_at_end e (line_row r) = rest_at_end r.rest e r.later

  nothing_here : {i : ℕ} → i ≡ length t → PrefixesFrom t i
  nothing_here {i} e = record { end = i; comments = []; rows = done; last = record { none = λ j x r. none_at_end e r }; starts = inr e }

  past_row : {i j : ℕ} {x : List CommentValue} → PrefixRow t i j x → PrefixesFrom t j → PrefixesFrom t i
  past_row {x = x} r p = record { end = p.end; comments = x ++ p.comments; rows = step r p.rows; last = p.last; starts = p.starts }

  line_within : {i : ℕ} → LineOrEnd t i → i ≤ length t
  line_within {i} s = ⊎_elim (λ (b : LineStart t i). start_within b) (λ (e : i ≡ length t). omega arith) s

  prefixes_at : (i : ℕ) → LineStart t i → i < length t → ((k : ℕ) → i < k → LineOrEnd t k → PrefixesFrom t k) → PrefixesFrom t i
  prefixes_at i b m further =
      ⊎_elim
      (λ (e : code t i ≡ 0xFEFF). past_row (mark_row e) (further (next t i) (next_later t i) (row_next b (mark_row e))))
      (λ (e : code t i ≢ 0xFEFF).
      ⊎_elim
      (λ (r : RowAt t i). past_row (line_row r.row) (further r.end r.row.later (row_next b (line_row r.row))))
      (λ (none : Stuck (Row t i)). record { end = i; comments = []; rows = done; last = still e none; starts = inl b })
      (row_known u i b m))
      (cases_eq (code t i) 0xFEFF)

  prefixes_upto : (n i : ℕ) → length t ≤ i + n → LineOrEnd t i → PrefixesFrom t i
  prefixes_upto zero i l s = let w = line_within s in nothing_here (omega arith)
  prefixes_upto (suc n) i l s =
      ⊎_elim
      (λ (b : LineStart t i).
      ⊎_elim (λ (m : i < length t). prefixes_at i b m (λ k o r. prefixes_upto n k (omega arith) r))
      (λ (m : length t ≤ i). let w = start_within b in nothing_here (omega arith)) (cases_lt i (length t)))
      (λ (e : i ≡ length t). nothing_here e) s

  pub prefixes_from : (i : ℕ) → LineOrEnd t i → PrefixesFrom t i
  prefixes_from i s = prefixes_upto (length t) i (omega arith) s

  -- a `...` after document prefixes is at the end of the longest run of prefixes
  dot_there : {i q : ℕ} {cs : List CommentValue} (p : PrefixesFrom t i) → Prefixes t i q cs → code t q ≡ 46 → q ≡ p.end
  dot_there {q = q} p d e =
      (stuck_unique prefix_functional (prefixes_rows d) (still (λ m. absurd (omega arith)) (dot_still e)) p.rows p.last).0

  pub end_known : (i : ℕ) → LineOrEnd t i → (b : Bool) × EndIsMarked t i b
  end_known i s = go (prefixes_from i s) where
    with_marker : (p : PrefixesFrom t i) → code t p.end ≡ 46 → is_marker t p.end ≡ true → (b : Bool) × EndIsMarked t i b
    with_marker p e m =
        let starts : LineStart t p.end = ⊎_elim (λ (b : LineStart t p.end). b) (λ (q : p.end ≡ length t). let c = end_code t q in absurd (omega arith)) p.starts in
        (true, marked_end (rows_parts s p.rows) (record { start = starts; marker = m }) e)

    go : PrefixesFrom t i → (b : Bool) × EndIsMarked t i b
    go p =
        ⊎_elim
        (λ (e : code t p.end ≡ 46).
        ⊎_elim (λ (m : is_marker t p.end ≡ true). with_marker p e m)
        (λ (m : is_marker t p.end ≡ false).
        (false, unmarked_end (λ j cs d f c. true≢false (sym f.marker ∙ ap (λ k. is_marker t k) (dot_there p d c) ∙ m))))
        (cases_Bool (is_marker t p.end)))
        (λ (e : code t p.end ≢ 46). (false, unmarked_end (λ j cs d f c. e (ap (code t) (sym (dot_there p d c)) ∙ c))))
        (cases_eq (code t p.end) 46)
