-- Parts of small block nodes: the starts and ends of lines, and the signs that are not at a character.
use Rattle.std.proofs.Common.{◌≡◌, ◌≢◌, ℕ, ◌+◌, ◌-◌, ◌<◌, ◌≤◌, ℤ, pos, Bool, true, false, ◌==◌, List, [], ◌∷◌, length, refl, sym, ap, ◌∙◌, arith, true≢false, ⊎_elim}
use Rattle.std.proofs.lemmas.Bool.{eq-eqb, cases_lt}
use Rattle.std.proofs.lemmas.Int.{ints}
use Rattle.std.specs.Str.{IsUtf8}
use Rattle.yf_chars.specs.declared.context.Ctx.{Ctx}
use Rattle.yf_chars.specs.declared.context.Ctx.TheVariants.{FlowOut}
use Rattle.yf_chars.specs.Text.{code, next}
use Rattle.yf_chars.specs.Class.{is_ns_char, is_white, is_break_char}
use Rattle.yf_chars.specs.Chain.{Stuck, Chosen, Many}
use Rattle.yf_chars.specs.Chain.Chain.{done}
use Rattle.yf_lines.specs.Basic.{Break, Clear, Spaces, is_marker}
use Rattle.yf_lines.specs.Basic.Break.{lone_lf}
use Rattle.yf_lines.specs.Basic.LineStart.{at_text}
use Rattle.yf_lines.proofs.BasicLemmas.{no_break_here}
use Rattle.yf_lines.proofs.FoldLemmas.{no_fold_break}
use Rattle.yf_comments.specs.Comments.{LineEnd, Row}
use Rattle.yf_comments.specs.Comments.LineEnd.{from_start, past_rest}
use Rattle.yf_comments.specs.Comments.LineRest.{nothing}
use Rattle.yf_comments.specs.Comments.BreakOrEnd.{by_break, by_end}
use Rattle.yf_comments.proofs.LineEndLemmas.{line_end_chosen, row_stuck, row_stuck_end}
use Rattle.yf_comments.proofs.RowLemmas.{stuck_at_solid}
use Rattle.yf_block_scalar.specs.Header.BlockHeader.{block_header}
use Rattle.yf_block_scalar.specs.Header.Style.{literal_sign, folded_sign}
use Rattle.yf_plain.specs.Plain.{Plain, PlainItem, NoNextLine, is_plain_first, is_plain_char}
use Rattle.yf_plain.proofs.LineLemmas.{no_next_fold, one_line_chosen}
use Rattle.yf_plain.proofs.PlainLemmas.{item_stuck, line_chosen}
use Rattle.yf_props.specs.Names.{Properties}
use Rattle.yf_grammar.specs.Productions.BlockScalar.{BlockScalar}
use Rattle.yf_grammar.specs.Productions.BlockScalar.BlockScalar.{block_scalar}
use Rattle.yf_grammar.specs.Productions.Meaning.{Meaning}
use Rattle.yf_grammar.specs.FlowReader.Parser.{OnOneLine, begins_properties}
use Rattle.yf_grammar.specs.BlockReader.BlockParser.{LinesEnd, LineText, Begins, line_indented, line_first, line_dashed, NoNode, NextEntry, next_item, next_pair, NoEntry, Columns, NoSign}
use Rattle.yf_grammar.proofs.Ends.BlankRuns.{ContentBefore}
use Rattle.yf_grammar.proofs.BlockOutcomes.BlockClaims.{line_from, line_still, line_unique}
use Rattle.yf_grammar.proofs.BlockOutcomes.BlockFirst.{no_line_end_before}
use Rattle.yf_grammar.proofs.Ends.GapLemmas.{Visible, visible_solid}
use Rattle.yf_grammar.proofs.FlowReader.PropertiesEnds.{properties_begin}

pub differs : {c d : ℕ} → (c == d) ≡ false → c ≢ d
differs {c} {d} n e = true≢false (sym (eq-eqb c d e) ∙ n)

module _ {t : List ℕ} where
  pub seen : (k : ℕ) → is_ns_char (code t k) ≡ true → (code t k == 35) ≡ false → Visible t k
  seen k n h = record { ns = n; no_hash = differs h }

  pub feed : (i : ℕ) → code t i ≡ 10 → (code t (i - 1) == 13) ≡ false → Break t i (i + 1)
  feed i e n = lone_lf e (differs n)

  -- a line with m spaces before its first character, which does not begin a marker
  pub line_at : (k m : ℕ) → Spaces t k m → Visible t (k + m) → is_marker t k ≡ false → LineText t k m (k + m)
  line_at k m s v n = line_from s v (λ f. true≢false (sym f.marker ∙ n))

  pub no_spaces : (k : ℕ) → Spaces t k 0
  no_spaces k = record { each = λ m l. absurd (omega arith) }

  -- before the first line nothing is passed
  pub text_start : {m p : ℕ} → LineText t 0 m p → Chosen (LineEnd t 0) 0 []
  text_start w = line_end_chosen (from_start at_text done) (line_still w)

  -- a line that ends with a break, before a character of content; at the end of the text
  pub row_stops : {k : ℕ} → Visible t k → Stuck (Row t k)
  row_stops v = let s = visible_solid v in row_stuck (stuck_at_solid done s.not_white s.no_comment s.no_end)

  pub line_ends : {i j : ℕ} → Break t i j → Visible t j → Chosen (LineEnd t i) j []
  line_ends b v = line_end_chosen (past_rest (nothing (by_break b)) done) (row_stops v)

  pub text_stops : {i : ℕ} → i ≡ length t → Chosen (LineEnd t i) i []
  text_stops e = line_end_chosen (past_rest (nothing (by_end e)) done) (row_stuck_end e)

  -- if no line of a node begins, neither a node nor an entry does
  pub no_node : {n : ℤ} {c : Ctx} {i k : ℕ} → LinesEnd t k → NoNode t n c i k
  no_node e = record { none = λ m p w b. w.goes_on e }

  no_next : {s : Bool} {m k : ℕ} → LinesEnd t k → NextEntry t s m k → ⊥
  no_next e (next_item w d) = w.goes_on e
  no_next e (next_pair w) = w.goes_on e

  pub no_entry : {s : Bool} {m k : ℕ} → LinesEnd t k → NoEntry t s m k
  no_entry e = record { no_next = no_next e; not_deeper = λ l p w. absurd (w.goes_on e) }

  -- nor does one on a line that begins without spaces and without a `-`
  shallow : {n k i m p : ℕ} {c : Ctx} → m ≡ 0 → (code t p == 45) ≡ false → k ≢ i → Begins t (pos n) c i k m p → ⊥
  shallow e d f (line_indented l) = omega (arith, ints)
  shallow e d f (line_first s) = f s
  shallow e d f (line_dashed s q l) = differs d s.dash

  pub no_deep_node : {n : ℕ} {c : Ctx} {i k p : ℕ} → LineText t k 0 p → (code t p == 45) ≡ false → k ≢ i → NoNode t (pos n) c i k
  no_deep_node {p = p} w d f = record { none = λ m q v b. let same = line_unique w v in shallow same.0 (ap (λ h. code t h == 45) same.1 ∙ d) f b }

  -- the signs that the character is not
  pub no_signs : {cols : Columns} {p : ℕ} → (code t p == 45) ≡ false → (code t p == 63) ≡ false → (code t p == 58) ≡ false → NoSign t cols p
  no_signs a b c = record { no_dash = λ e d. differs a d.dash; no_question = λ e d. differs b d.sign_is_at; no_colon = λ e d. differs c d.sign_is_at }

  not_scalar : {n : ℤ} {i j : ℕ} {x : Meaning} → (code t i == 124) ≡ false → (code t i == 62) ≡ false → BlockScalar t n i j x → ⊥
  not_scalar a b (block_scalar (block_header (literal_sign e) d r) body l) = differs a e
  not_scalar a b (block_scalar (block_header (folded_sign e) d r) body l) = differs b e

  pub no_scalar : {n : ℤ} {i : ℕ} → (code t i == 124) ≡ false → (code t i == 62) ≡ false → Stuck (BlockScalar t n i)
  no_scalar a b = record { none = λ j x d. not_scalar a b d }

  pub no_properties : {n : ℤ} {c : Ctx} {i : ℕ} → begins_properties (code t i) ≡ false → Stuck (Properties t n c i)
  no_properties f = record { none = λ j q d. true≢false (sym (properties_begin d) ∙ f) }

  -- no line ends before a character of content on the line
  pub goes_on : {i m : ℕ} {w : List ℕ} → IsUtf8 t → ContentBefore t i → Many t is_white i m w → Visible t m → Stuck (LineEnd t i)
  goes_on u b s v = record { none = λ j x d. no_line_end_before u b s v d }

  pub one_character : {i : ℕ} → is_break_char (code t i) ≡ false → OnOneLine t i (i + 1)
  one_character {i} f = record { each = λ h l m. let same : h ≡ i = omega arith in ap (λ k. is_break_char (code t k)) same ∙ f }

  pub next_character : {i j : ℕ} → OnOneLine t i j → is_break_char (code t j) ≡ false → OnOneLine t i (j + 1)
  next_character {i} {j} o f = record {
    each = λ h l m. ⊎_elim (λ (b : h < j). o.each h l b) (λ (b : j ≤ h). let same : h ≡ j = omega arith in ap (λ k. is_break_char (code t k)) same ∙ f) (cases_lt h j);
  }

  -- a plain scalar of one character, which continues neither on its line nor on a next one
  pub plain_character : {n : ℤ} {i : ℕ} → is_plain_first t FlowOut i ≡ true → Clear t i (next t i) → is_white (code t (next t i)) ≡ false
      → is_plain_char t FlowOut (next t i) ≡ false → NoNextLine t n FlowOut (next t i) → Chosen (Plain t n FlowOut i) (next t i) (code t i ∷ [])
  plain_character {i = i} f c w e l =
      let stuck : Stuck (PlainItem t FlowOut (next t i)) = item_stuck done w e in
      let best = line_chosen f done stuck in
      one_line_chosen refl
      (record { derived = record { text = best.derived; clear = c }; longest = λ k y d. best.longest k y d.text; only = λ y d. best.only y d.text }) stuck l

  pub no_fold : {n : ℤ} {c : Ctx} {i : ℕ} → is_white (code t i) ≡ false → (code t i == 13) ≡ false → (code t i == 10) ≡ false → NoNextLine t n c i
  no_fold {i = i} w a b = no_next_fold (no_fold_break ([], done) w (no_break_here t i (differs a) (differs b)))

  -- no marker begins at the offset
  pub clear_place : {i : ℕ} → is_marker t i ≡ false → Clear t i (i + 1)
  clear_place {i} e = record { none = λ h l m f. let same : h ≡ i = omega arith in true≢false (sym f.marker ∙ ap (is_marker t) same ∙ e) }
